-- What both filterbanks share (document 01, "Filterbanks"): S, the number of subbands; P and C by index; a block's S numbers in an array.
use Rattle.std.specs.Prelude.{ℕ, ◌-◌, ◌%◌, ◌≡◌, ◌⊎◌, List, ◌++◌, eqb, length, get_or, replicate, ℤ, pos, negsuc, if◌then◌else◌}
use Rattle.sbc_tables.specs.Tables.{prototype, cosines}

-- S is 4 or 8
abbrev pub Bands : ℕ → Type 0
Bands S = (S ≡ 4) ⊎ (S ≡ 8)

-- a call's number of subbands: any number but 4 counts as 8
abbrev pub bands_of : ℕ → ℕ
bands_of n = if eqb n 4 then 4 else 8

-- P[k]
unfoldable pub prototype_at : ℕ → ℕ → ℤ
prototype_at S k = get_or (prototype S) k (pos 0)

-- z mod 32, from 0 to 31
abbrev pub mod32 : ℤ → ℕ
mod32 (pos n) = n % 32
mod32 (negsuc n) = 31 - n % 32

-- C[z mod 32]
unfoldable pub cosine_at : ℤ → ℤ
cosine_at z = get_or cosines (mod32 z) (pos 0)

-- at most eight numbers in an array of eight, with zeros behind them
unfoldable pub padded : List ℤ → List ℤ
padded xs = xs ++ replicate (8 - length xs) (pos 0)
