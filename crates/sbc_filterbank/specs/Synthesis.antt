-- The synthesis filterbank (document 01, "Filterbanks") for S subbands: the subband samples s give a vector V, which is pushed as the
-- newest of ten, and the ten vectors give S outputs. The history is the list of the ten vectors, newest first, each of 2 S numbers.
use Rattle.std.specs.Prelude.{ℕ, ◌+◌, ◌*◌, ◌-◌, ◌/◌, ◌^◌, List, [], ◌∷◌, eqb, get_or, take, ℤ, pos, ◌-ℤ◌, ◌*ℤ◌, if◌then◌else◌}
use Rattle.std.specs.Int.{w16, w32}
use Rattle.laws.specs.Lists.{build}
use Rattle.laws.specs.Bits.{odd}
use Rattle.laws.specs.Integers.{floor_div, clamp_z}
use Rattle.laws.specs.Sums.{sum_z}
use Rattle.sbc_filterbank.specs.Subbands.{prototype_at, cosine_at}

-- ---- V[r] = floor(sum over i of C[(2 i + 1) (r + S/2) × 8/S mod 32] × s[i] ÷ 2^30), clamped to i32, r < 2 S
unfoldable pub synthesis_cosine : ℕ → ℕ → ℕ → ℤ
synthesis_cosine S r i = cosine_at (pos ((2 * i + 1) * (r + S / 2) * (8 / S)))

abbrev pub modulate_term : ℕ → List ℤ → ℕ → ℕ → ℤ
modulate_term S s r i = synthesis_cosine S r i *ℤ get_or s i (pos 0)

-- V[r]
unfoldable pub modulated_at : ℕ → List ℤ → ℕ → ℤ
modulated_at S s r = clamp_z w32 (floor_div (sum_z S (modulate_term S s r)) (2 ^ 30))

-- V
unfoldable pub modulated : ℕ → List ℤ → List ℤ
modulated S s = build (2 * S) (modulated_at S s)

-- ---- a vector pushed as the newest of ten
unfoldable pub pushed : List ℤ → List (List ℤ) → List (List ℤ)
pushed v vs = v ∷ take 9 vs

-- ---- output j = floor((2^(h − 1) − sum over b < 10 of P[b S + j] × V_b[j, or S + j for odd b]) ÷ 2^h), clamped to i16
-- V_b[r]
unfoldable pub vector_at : List (List ℤ) → ℕ → ℕ → ℤ
vector_at vs b r = get_or (get_or vs b []) r (pos 0)

-- j, or S + j for odd b
unfoldable pub vector_place : ℕ → ℕ → ℕ → ℕ
vector_place S j b = if odd b then S + j else j

abbrev pub sample_term : ℕ → List (List ℤ) → ℕ → ℕ → ℤ
sample_term S vs j b = prototype_at S (b * S + j) *ℤ vector_at vs b (vector_place S j b)

-- h
abbrev pub rounding_bits : ℕ → ℕ
rounding_bits S = if eqb S 4 then 38 else 37

-- output j, from its sum
unfoldable pub rounded : ℕ → ℤ → ℤ
rounded S sum = clamp_z w16 (floor_div (pos (2 ^ (rounding_bits S - 1)) -ℤ sum) (2 ^ rounding_bits S))

-- the S outputs of ten vectors
unfoldable pub synthesis_outputs : ℕ → List (List ℤ) → List ℤ
synthesis_outputs S vs = build S (λ j. rounded S (sum_z 10 (sample_term S vs j)))
