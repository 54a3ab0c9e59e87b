-- `sbc_filterbank::matrices::products` meets its contract. The loop's invariant: the sum is that of the terms taken, and so within its
-- bound, and the iterator has the others left.
-- Assumes nothing.
use Prim.Native.Nat.{◌≤◌}
use mathlib.Core.Path.{◌≡◌}
use lib.ListN.{length, drop}
use Rattle.laws.specs.Sums.{sum_z}
use Rattle.sbc_filterbank.specs.Matrices.{product_of}
use Rattle.sbc_filterbank.proofs.matrices.products.Given as goal

abbrev pub invariant-loop-cosine : goal.invariant-loop-cosine
invariant-loop-cosine l =
    (l.cosine-iterator.a.rest.now ≡ drop (length l.yielded) l.cosines) × (l.cosine-iterator.b.rest.now ≡ drop (length l.yielded) l.values)
    × (length l.yielded ≤ length l.values) × (l.sum ≡ sum_z (length l.yielded) (product_of l.cosines l.values))
