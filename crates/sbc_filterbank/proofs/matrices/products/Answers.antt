-- `sbc_filterbank::matrices::products` meets its contract. The loop's invariant: the sum is that of the terms taken, and so within its
-- bound, and the iterator has the others left.
-- Assumes nothing.
use Prim.Native.Nat.{ℕ, ◌+◌, ◌^◌}
use mathlib.Core.Path.{◌∙◌, sym, ap, subst}
use mathlib.Core.List.{◌∷◌, []}
use mathlib.Core.Logic.{⊎_elim}
use native.Mathlib.Omega.{arith}
use lib.Dec.{lit<}
use lib.IntN.{pos}
use lib.ListN.{length, get_or}
use mir.Syntax.{w64}
use mir.Val.{SFits}
use Rattle.std.proofs.Common.{rules}
use Rattle.std.proofs.lemmas.List.{length-append}
use Rattle.laws.specs.Sums.{sum_z}
use Rattle.laws.proofs.Abs.{within-fits, read_back}
use Rattle.laws.proofs.Sums.{sum_z-zero}
use Rattle.sbc_filterbank.specs.Matrices.{product_of}
use Rattle.sbc_filterbank.proofs.Terms.{products-within, products-next, entry-taken, entry-there, others-left, all-taken}
use Rattle.sbc_filterbank.proofs.matrices.products.Goals as goal

pub loop-cosine-init : goal.loop-cosine-init
loop-cosine-init c = (search rules, search rules, omega arith, sym (sum_z-zero _))

pub multiply_add-sum-requires : goal.multiply_add-sum-requires
multiply_add-sum-requires c =
    let n = length c.loop-cosine.yielded in
    let p = sym c.loop-cosine.invariant.0 ∙ c.in-Some.ensures.steps.0 in
    let q = sym c.loop-cosine.invariant.1 ∙ c.in-Some.ensures.steps.1 in
    let small = c.requires.small in
    subst (SFits w64)
    (sym (products-next c.args.cosines.now c.args.values.now n _ _ _ small.0 small.1 c.loop-cosine.invariant.3 (entry-taken n _ _ _ p)
    (entry-taken n _ _ _ q)))
    (within-fits w64 _ (products-within (λ k. get_or c.args.cosines.now k (pos 0)) (λ k. get_or c.args.values.now k (pos 0)) (n + 1) (2 ^ 30)
    small.0 small.1
    (let l = entry-there n _ _ _ q in omega (arith, c.requires.lengths.1, l)))
    (lit< tt))

pub loop-cosine-preserved : goal.loop-cosine-preserved
loop-cosine-preserved c =
    let n = length c.loop-cosine.yielded in
    let p = sym c.loop-cosine.invariant.0 ∙ c.in-Some.ensures.steps.0 in
    let q = sym c.loop-cosine.invariant.1 ∙ c.in-Some.ensures.steps.1 in
    let small = c.requires.small in
    rw (length-append c.loop-cosine.yielded ((c.in-Some.cosine, c.in-Some.value) ∷ [])) (
      others-left n _ _ _ p,
      others-left n _ _ _ q,
      entry-there n _ _ _ q,
      read_back w64 c.multiply_add-sum.type_inv ∙ c.multiply_add-sum.ensures
          ∙ products-next c.args.cosines.now c.args.values.now n _ _ _ small.0 small.1 c.loop-cosine.invariant.3 (entry-taken n _ _ _ p)
          (entry-taken n _ _ _ q),
    )

pub returns : goal.returns
returns c =
    let n = length c.loop-cosine.yielded in
    let e = c.requires.lengths.0 in
    c.loop-cosine.invariant.3
    ∙ ap (λ (k : ℕ). sum_z k (product_of c.args.cosines.now c.args.values.now))
    (⊎_elim (λ a. all-taken n _ _ c.loop-cosine.invariant.0 (omega (arith, c.loop-cosine.invariant.2, e)) a.1.0)
    (λ b. all-taken n _ _ c.loop-cosine.invariant.1 c.loop-cosine.invariant.2 b.1.0 ∙ sym e) c.in-None.ensures.steps)
