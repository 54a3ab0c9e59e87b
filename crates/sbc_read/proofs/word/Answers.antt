-- `sbc_read::word` meets its contract: four bytes one by one, each below 256 (`window-next`).
-- Assumes nothing.
use Prim.Native.Nat.{ℕ, ◌+◌, ◌≤◌, ◌<◌}
use mathlib.Core.Path.{◌≡◌, ap, ◌∙◌}
use mathlib.Core.List.{List, [], ◌∷◌}
use native.Mathlib.Nat.{add-zero}
use native.Mathlib.Omega.{arith}
use lib.ListN.{length, get_or, take, drop}
use Rattle.std.specs.Int.{w32, from_be_bytes}
use Rattle.laws.specs.Bits.{number_of, bits_of_bytes}
use Rattle.bits.proofs.Windows.{window-next}
use Rattle.sbc_read.proofs.word.Goals as goal

-- the number of four bytes
four : (bytes : List ℕ) (at : ℕ) → at + 4 ≤ length bytes → ((i : ℕ) → get_or bytes i 0 < 256)
    → from_be_bytes w32 (get_or bytes at 0 ∷ get_or bytes (at + 1) 0 ∷ get_or bytes (at + 2) 0 ∷ get_or bytes (at + 3) 0 ∷ [])
    ≡ number_of (bits_of_bytes (take 4 (drop at bytes)))
unfolding number_of bits_of_bytes
four bytes at h small =
    let e : get_or bytes (at + 0) 0 ≡ get_or bytes at 0 = ap (λ (k : ℕ). get_or bytes k 0) (add-zero at) in
    let n1 = window-next bytes at 0 (omega arith) (omega (arith, small (at + 0))) in
    let n2 = window-next bytes at 1 (omega arith) (omega (arith, small (at + 1))) in
    let n3 = window-next bytes at 2 (omega arith) (omega (arith, small (at + 2))) in
    let n4 = window-next bytes at 3 (omega arith) (omega (arith, small (at + 3))) in
    omega arith

pub returns : goal.returns
returns c = c.from_be_bytes.ensures ∙ four c.args.bytes.now c.args.at (omega (arith, c.told-bytes)) c.fits-bytes
