-- The bits of each channel's subbands. From document 01, "Need and share": the order within a group, the channel modes and the table.
use Rattle.std.specs.Prelude.{List, [], ◌∷◌, ◌++◌, ℕ, min, get_or, take, replicate, length, ℤ}
use Rattle.laws.specs.Lists.{build}
use Rattle.sbc_modes.specs.declared.SbcChannelMode.{SbcChannelMode}
use Rattle.sbc_modes.specs.declared.SbcChannelMode.TheVariants.{Mono, DualChannel, Stereo, JointStereo}
use Rattle.sbc_parameters.specs.declared.SbcParameters.{SbcParameters}
use Rattle.sbc_need.specs.Need.{need}
use Rattle.sbc_share.specs.Share.{share}

-- the needs of a channel with these scale factors, one a subband
unfoldable pub channel_needs : SbcParameters → List ℕ → List ℤ
channel_needs p factors = build (min p.subbands (length factors)) (λ i. need p (get_or factors i 0) i)

-- subband order, left before right within a subband
unfoldable pub left_first : {A : Type 0} → List A → List A → List A
left_first [] rs = []
left_first (l ∷ ls) [] = []
left_first (l ∷ ls) (r ∷ rs) = l ∷ r ∷ left_first ls rs

-- a channel's entries of bits in that order: channel 0 is left, 1 is right
unfoldable pub channel_row : ℕ → List ℕ → List ℕ
channel_row channel [] = []
channel_row channel (l ∷ []) = []
channel_row channel (l ∷ r ∷ bits) = get_or (l ∷ r ∷ []) channel 0 ∷ channel_row channel bits

-- the rows of both channels, whose needs are one group
unfoldable pub rows_together : ℕ → List ℤ → List ℤ → List (List ℕ)
rows_together bitpool left right =
    let bits = share (left_first left right) bitpool in
    channel_row 0 bits ∷ channel_row 1 bits ∷ []

-- dual channel does each channel alone
unfoldable pub allocate_by : SbcChannelMode → ℕ → List ℤ → List ℤ → List (List ℕ)
allocate_by Mono bitpool left right = share left bitpool ∷ []
allocate_by DualChannel bitpool left right = share left bitpool ∷ share right bitpool ∷ []
allocate_by Stereo bitpool left right = rows_together bitpool left right
allocate_by JointStereo bitpool left right = rows_together bitpool left right

-- a row of bits for each channel of the set, from a row of scale factors for each
unfoldable pub allocate : SbcParameters → List (List ℕ) → List (List ℕ)
allocate p factors =
    allocate_by p.channel_mode p.bitpool (channel_needs p (get_or factors 0 [])) (channel_needs p (get_or factors 1 []))

-- ---- the answer as an array: a table of two channels by eight subbands, 0 where the parameters use no entry

-- a channel's eight entries
unfoldable pub table_row : List ℕ → List ℕ
table_row bits = take 8 (bits ++ replicate 8 0)

-- left, then right
unfoldable pub allocation_table : SbcParameters → List (List ℕ) → List (List ℕ)
allocation_table p factors = table_row (get_or (allocate p factors) 0 []) ∷ table_row (get_or (allocate p factors) 1 []) ∷ []
