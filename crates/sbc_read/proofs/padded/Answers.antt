-- `sbc_read::padded` meets its contract.
-- Assumes nothing.
use Prim.Native.Nat.{ℕ}
use mathlib.Core.Path.{ap, ◌∙◌}
use mathlib.Core.List.{List, ◌++◌}
use lib.ListN.{length, drop, replicate}
use Rattle.std.proofs.lemmas.List.{drop-replicate}
use Rattle.sbc_read.proofs.padded.Goals as goal

pub returns : goal.returns
returns c =
    let n : ℕ = length c.args.frame.now in
    ap (λ (xs : List ℕ). xs ++ drop n (replicate 528 0)) c.copy_from_slice.ensures.after
    ∙ ap (λ (xs : List ℕ). c.args.frame.now ++ xs) (drop-replicate n 528 0)
