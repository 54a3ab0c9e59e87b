-- How the code takes joint stereo, for the contracts of its inner functions alone: rows of eight, and the subband
-- samples of a channel in 16 rows of eight, a row for each block. No call of a user's cites this.
-- From document 01, "Joint stereo".
use Rattle.std.specs.Prelude.{ℕ, ◌+◌, ◌&&◌, List, [], eqb, ltb, get_or, ℤ, pos, ◌+ℤ◌, ◌-ℤ◌, if◌then◌else◌}
use Rattle.laws.specs.Lists.{build}
use Rattle.laws.specs.Bits.{digit}
use Rattle.laws.specs.Integers.{floor_div}
use Rattle.sbc_frame.specs.Encoding.{joined_at}
use Rattle.sbc_frame.specs.Arrays.{entry}

-- both halved, then added or subtracted
unfoldable pub half_sums : List ℤ → List ℤ → List ℤ
half_sums left right = build 8 (λ s. floor_div (get_or left s (pos 0)) 2 +ℤ floor_div (get_or right s (pos 0)) 2)

unfoldable pub half_differences : List ℤ → List ℤ → List ℤ
half_differences left right = build 8 (λ s. floor_div (get_or left s (pos 0)) 2 -ℤ floor_div (get_or right s (pos 0)) 2)

-- the joined samples of channel c, of the channels' samples
unfoldable pub joined_samples : (ℕ → List (List ℤ)) → ℕ → List (List ℤ)
joined_samples samples c = build 16 (λ b. build 8 (joined_at samples b c))

-- the scale factors of a subband in both channels, added
abbrev pub cost_in : List (List ℕ) → ℕ → ℕ
cost_in rows s = entry (get_or rows 0 []) s + entry (get_or rows 1 []) s

-- 1 where a subband but the last of S is joined: the two new scale factors add to less than the old
unfoldable pub join_row : ℕ → List (List ℕ) → List (List ℕ) → List ℕ
join_row S plain joined = build 8 (λ s. digit (ltb (s + 1) S && ltb (cost_in joined s) (cost_in plain s)))

-- the joined entry where a flag is set; d stands for an entry that is missing
unfoldable pub picked_row : {A : Type 0} → A → List ℕ → List A → List A → List A
picked_row d flags plain joined = build 8 (λ s. if eqb (entry flags s) 1 then get_or joined s d else get_or plain s d)
