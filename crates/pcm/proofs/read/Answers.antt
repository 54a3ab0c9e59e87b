-- `pcm::read` meets its contract. The loop's invariant: the first i samples are read.
-- Assumes nothing.
use Prim.Native.Nat.{ℕ, ◌+◌, ◌/◌, ◌<◌}
use mathlib.Core.Path.{◌≡◌, sym, ap, ap₂, ◌∙◌}
use mathlib.Core.List.{List, [], ◌∷◌, ◌++◌}
use native.Mathlib.Numerals.{add-one}
use native.Mathlib.Omega.{arith}
use lib.ListN.{length, get_or, take, set}
use lib.Seq.{take-suc-set}
use lib.IntN.{ℤ}
use mir.Syntax.{w16}
use mir.Facts.{to_z-of_z}
use Rattle.laws.specs.Lists.{collect, build}
use Rattle.pcm.proofs.Bytes.{read-sample}
use Rattle.pcm.proofs.read.Goals as goal

-- one more is read
read_next : (f : ℕ → ℤ) (xs : List ℤ) (i : ℕ) (v : ℤ) → i < length xs → take i xs ≡ build i f → v ≡ f i
    → take (i + 1) (set xs i v) ≡ build (i + 1) f
unfolding build collect
read_next f xs i v h e q =
    ap (λ (n : ℕ). take n (set xs i v)) (add-one i) ∙ take-suc-set xs i v h ∙ ap₂ (λ (ys : List ℤ) (x : ℤ). ys ++ (x ∷ [])) e q
    ∙ ap (λ (n : ℕ). build n f) (sym (add-one i))

pub loop-i-preserved : goal.loop-i-preserved
loop-i-preserved c =
    let l = c.loop-i in
    let bytes = c.args.bytes.now in
    let at = ap (λ pairs. get_or pairs l.i []) c.as_chunks.ensures.front in
    let pair = read-sample (length bytes / 2) l.i bytes _ (omega arith) (omega arith) at in
    let value = to_z-of_z {w = w16} (record { sfits = c.sample_in.type_inv }) ∙ c.sample_in.ensures ∙ pair in
    read_next _ l.samples l.i _ (omega arith) l.invariant value
