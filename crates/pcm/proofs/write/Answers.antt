-- `pcm::write` meets its contract. The loop's invariant: the bytes of the first i samples are written.
-- Assumes nothing.
use Prim.Native.Nat.{ℕ, suc, ◌+◌, ◌*◌, ◌<◌}
use mathlib.Core.Path.{◌≡◌, sym, ap, ap₂, ◌∙◌}
use mathlib.Core.List.{List, [], ◌∷◌, ◌++◌, append_assoc}
use native.Mathlib.Numerals.{add-one}
use native.Mathlib.Omega.{arith}
use lib.ListN.{length, get_or, take, set, length-set}
use lib.Seq.{take-suc-set}
use lib.IntN.{ℤ, pos}
use borrow.Author.Rules.{rules}
use Rattle.laws.specs.Lists.{collect}
use Rattle.pcm.proofs.Bytes.{written-sample}
use Rattle.pcm.proofs.write.Goals as goal

-- two more are written
written_next : (f : ℕ → List ℕ) (xs : List ℕ) (i a b : ℕ) → 2 * i + 1 < length xs → take (2 * i) xs ≡ collect i f → (a ∷ b ∷ []) ≡ f i
    → take (2 * (i + 1)) (set (set xs (2 * i) a) (2 * i + 1) b) ≡ collect (i + 1) f
unfolding collect
written_next f xs i a b h e q =
    let ys : List ℕ = set xs (2 * i) a in
    let two : 2 * (i + 1) ≡ suc (2 * i + 1) = omega arith in
    ap (λ (n : ℕ). take n (set ys (2 * i + 1) b)) two
    ∙ take-suc-set ys (2 * i + 1) b (omega (arith, length-set xs (2 * i) a))
    ∙ ap (λ (n : ℕ). take n ys ++ (b ∷ [])) (add-one (2 * i))
    ∙ ap (λ (l : List ℕ). l ++ (b ∷ [])) (take-suc-set xs (2 * i) a (omega arith))
    ∙ append_assoc (take (2 * i) xs) (a ∷ []) (b ∷ [])
    ∙ ap₂ (λ (l m : List ℕ). l ++ m) e q
    ∙ ap (λ (n : ℕ). collect n f) (sym (add-one i))

pub loop-i-preserved : goal.loop-i-preserved
loop-i-preserved c =
    let l = c.loop-i in
    let z : ℤ = get_or c.args.samples.now l.i (pos 0) in
    written_next _ l.bytes l.i _ _ (omega arith) l.invariant (written-sample z _ (record { sfits = search rules }) c.bytes_of.ensures)
