-- The share theorem: what document 01, "The words of demand 3", says of the shares of each group.
-- proofs/Groups.antt proves it of the definition, `SharesFair allocate`, and of what the code gives back, `SharesFair allocation_table`.
use Rattle.std.specs.Prelude.{◌≡◌, true, ℕ, ◌+◌, ◌≤◌, ◌<◌, length, get_or, ℤ, ◌<ℤ◌}
use mathlib.Core.List.{List, [], ◌∷◌, ◌++◌, map, Memᴰ}
use Rattle.laws.specs.Lists.{build}
use Rattle.sbc_modes.specs.declared.SbcChannelMode.{SbcChannelMode}
use Rattle.sbc_modes.specs.declared.SbcChannelMode.TheVariants.{Mono, DualChannel, Stereo, JointStereo}
use Rattle.sbc_parameters.specs.declared.SbcParameters.{SbcParameters}
use Rattle.sbc_parameters.specs.Parameters.{channels, accepted}
use Rattle.sbc_need.specs.Need.{need}
use Rattle.sbc_share.specs.Share.{sum}

-- x is one of the list
infix 4 ◌∈◌
abbrev pub ◌∈◌ : {A : Type 0} → A → List A → Type 0
x ∈ xs = Memᴰ x xs

-- ---- groups: the subbands of the one channel in mono, of each channel by itself in dual channel, of both channels together in stereo and
-- joint stereo (left and right count apart)

-- a subband of a channel
pub record Place : Type 0 where
  pub channel : ℕ
  pub subband : ℕ

-- the subbands of a channel, 0 to S - 1
unfoldable pub places_of : ℕ → ℕ → List Place
places_of S channel = build S (λ i. record { channel = channel; subband = i })

-- by channel mode
unfoldable pub groups_by : SbcChannelMode → ℕ → List (List Place)
groups_by Mono S = places_of S 0 ∷ []
groups_by DualChannel S = places_of S 0 ∷ places_of S 1 ∷ []
groups_by Stereo S = (places_of S 0 ++ places_of S 1) ∷ []
groups_by JointStereo S = (places_of S 0 ++ places_of S 1) ∷ []

-- the groups of a set
unfoldable pub groups : SbcParameters → List (List Place)
groups p = groups_by p.channel_mode p.subbands

-- ---- what stands at a place

-- the entry of a table of rows by channel
unfoldable pub entry_at : List (List ℕ) → Place → ℕ
entry_at table x = get_or (get_or table x.channel []) x.subband 0

-- the need of its scale factor
unfoldable pub need_at : SbcParameters → List (List ℕ) → Place → ℤ
need_at p factors x = need p (entry_at factors x) x.subband

-- ---- the theorem

-- A group's bits a block are exactly bitpool, no subband has more than 16, and of every two subbands the one of strictly greater need has
-- at most one bit fewer.
pub record Fair (bitpool : ℕ) (bits : Place → ℕ) (needs : Place → ℤ) (group : List Place) : Type 0 where
  pub whole : sum (map bits group) ≡ bitpool
  pub most : (x : Place) → x ∈ group → bits x ≤ 16
  pub ordered : (x y : Place) → x ∈ group → y ∈ group → needs x <ℤ needs y → bits x ≤ bits y + 1

-- For every accepted set, all scale factors, at least one a subband of each channel, and every group.
abbrev pub SharesFair : (SbcParameters → List (List ℕ) → List (List ℕ)) → Type 0
SharesFair table =
    (p : SbcParameters) (factors : List (List ℕ)) → accepted p ≡ true →
    ((c : ℕ) → c < channels p → p.subbands ≤ length (get_or factors c [])) →
    (group : List Place) → group ∈ groups p →
    Fair p.bitpool (entry_at (table p factors)) (need_at p factors) group
