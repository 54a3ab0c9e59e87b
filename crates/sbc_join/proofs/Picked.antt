-- A channel's samples of which the rows of n blocks are picked: the row of one block more.
-- Assumes nothing.
use Prim.Native.Nat.{ℕ, ◌+◌, ◌<◌}
use mathlib.Core.Path.{◌≡◌, ap, ◌∙◌}
use mathlib.Core.List.{List, []}
use lib.ListN.{get_or, set}
use lib.IntN.{ℤ, pos}
use Rattle.sbc_frame.specs.Encoding.{sample_at}
use Rattle.sbc_frame.specs.Arrays.{with_flagged}
use Rattle.sbc_frame.proofs.Flagged.{flagged_row, flagged_next}
use Rattle.sbc_join.specs.Joining.{picked_row}

pub picked_next : (n : ℕ) (flags : List ℕ) (joined xs ys : List (List ℤ)) (row : List ℤ) → n < 16
    → ys ≡ with_flagged n flags (sample_at joined) xs → row ≡ picked_row (pos 0) flags (get_or ys n []) (get_or joined n [])
    → set ys n row ≡ with_flagged (n + 1) flags (sample_at joined) xs
unfolding picked_row
picked_next n flags joined xs ys row h e q =
    flagged_next n flags (sample_at joined) xs ys row e
    (q ∙ ap (λ (old : List ℤ). picked_row (pos 0) flags old (get_or joined n [])) (flagged_row n flags (sample_at joined) xs ys e h))
