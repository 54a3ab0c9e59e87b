-- Where the values of each channel stand in a frame, by its rows of scale factors: all inside, and one channel's behind the other's.
-- Assumes nothing.
use Prim.Native.Nat.{ℕ, zero, suc, ◌+◌, ◌*◌, ◌≤◌, ◌<◌}
use mathlib.Core.Path.{◌≡◌, refl, sym, ap, ◌∙◌}
use mathlib.Core.Bool.{true}
use mathlib.Core.Logic.{◌≢◌}
use mathlib.Core.List.{List, []}
use native.Mathlib.Nat.{suc-mul, mul-le-mul_right}
use native.Mathlib.Numerals.{add-one}
use native.Mathlib.Decide.{ℕ_discrete}
use native.Mathlib.Omega.{arith}
use lib.Dec.{ltb}
use lib.ListN.{length, get_or, set, take, replicate}
use lib.IntN.{ℤ, pos}
use lib.Seq.{take-length}
use borrow.Author.Tests.{lt-ltb, le-ltb, ltb-true, ltb-false}
use Rattle.std.specs.Prelude.{if◌then◌else◌}
use Rattle.std.specs.List.{sum_by}
use Rattle.std.proofs.lemmas.List.{get_or-set_same, get_or-set_other}
use Rattle.std.proofs.lemmas.List.Sums.{sum_by_more}
use Rattle.laws.specs.Lists.{total}
use Rattle.laws.proofs.Cases.{by-test}
use Rattle.sbc_parameters.specs.declared.SbcParameters.{SbcParameters}
use Rattle.sbc_parameters.specs.Parameters.{accepted}
use Rattle.sbc_parameters.specs.Sizes.{side_bits, block_bits}
use Rattle.sbc_parameters.proofs.Accepted.{frame-length-range}
use Rattle.sbc_frame.specs.Arrays.{entry, no_samples, rows_of}
use Rattle.sbc_frame.specs.declared.blocks.Blocks.{Blocks}
use Rattle.sbc_frame.proofs.ByBlock.{total-next}
use Rattle.sbc_frame.proofs.Positions.{frame-room}
use Rattle.sbc_frame.proofs.Widths.{rows-enough, rows-width}
use Rattle.sbc_read.specs.Reading.{width_row, start}

-- ---- the sum of a row
-- of its first n entries
sum_to : (row : List ℕ) (n : ℕ) → n ≤ length row → total n (entry row) ≡ sum_by (λ v. v) (take n row)
unfolding total
sum_to row zero h = refl
sum_to row (suc n) h =
    omega (
      arith,
      sum_to row n (omega arith),
      sum_by_more (λ v. v) row n 0 (omega arith),
      ap (λ (k : ℕ). sum_by (λ v. v) (take k row)) (add-one n),
    )

-- of a row of eight
row_sum : (row : List ℕ) → length row ≡ 8 → total 8 (entry row) ≡ sum_by (λ v. v) row
row_sum row long = sum_to row 8 (omega (arith, long)) ∙ ap (sum_by (λ v. v)) (ap (λ (n : ℕ). take n row) (sym long) ∙ take-length row)

-- ---- the places
-- behind a channel's values in a block stand the next one's
pub start_next : (p : SbcParameters) (factors : List (List ℕ)) (c position sum : ℕ) (widths : List ℕ)
    → position ≡ start p factors c → widths ≡ width_row p factors c → length widths ≡ 8
    → sum ≡ sum_by (λ v. v) widths → position + sum ≡ start p factors (c + 1)
start_next p factors c position sum widths e w l s =
    omega (
      arith,
      e,
      s,
      row_sum widths l,
      ap (λ (row : List ℕ). total 8 (entry row)) w,
      total-next c (λ d. total 8 (entry (width_row p factors d))),
    )

module _ (p : SbcParameters) (a : accepted p ≡ true) (factors : List (List ℕ))
    (long : (c : ℕ) → c < 2 → length (get_or factors c []) ≡ 8) where
  -- the values of a channel in block b stand in the frame, with its zeros
  pub start_room : (c b : ℕ) → c < 2 → b < p.blocks
      → start p factors c + b * block_bits p + total 8 (entry (width_row p factors c)) ≤ 4192
  unfolding total
  start_room c b hc hb = go c hc
    where
      room : 32 + (side_bits p + p.blocks * block_bits p) ≤ 4192
      room = omega (arith, frame-room p a, (frame-length-range p a).1)

      blocks : b * block_bits p + block_bits p ≤ p.blocks * block_bits p
      blocks = omega (arith, suc-mul b (block_bits p), mul-le-mul_right (block_bits p) hb)

      both : total 8 (entry (width_row p factors 0)) + total 8 (entry (width_row p factors 1)) ≡ block_bits p
      both = rows-width p a factors (rows-enough p a factors long)

      go : (c : ℕ) → c < 2 → start p factors c + b * block_bits p + total 8 (entry (width_row p factors c)) ≤ 4192
      go zero h = omega (arith, room, blocks, both)
      go (suc zero) h = omega (arith, room, blocks, both)
      go (suc (suc c)) h = absurd (omega arith)

-- ---- the channels: those below n are read, and the others are zeros
module _ (read : ℕ → List (List ℤ)) where
  abbrev pub passed : ℕ → ℕ → List (List ℤ)
  passed n c = if ltb c n then read c else no_samples

  -- no channel yet
  pub channels_none : (c : ℕ) → c < 2 → rows_of (replicate 2 (record { rows = replicate 16 (replicate 8 (pos 0)) })) c ≡ passed 0 c
  unfolding no_samples
  channels_none zero h = refl
  channels_none (suc zero) h = refl
  channels_none (suc (suc c)) h = absurd (omega arith)

  -- the next one is read
  pub channels_next : (n : ℕ) (channels : List Blocks) (x : Blocks) → n < length channels
      → ((c : ℕ) → c < 2 → rows_of channels c ≡ passed n c) → x.rows ≡ read n
      → (c : ℕ) → c < 2 → rows_of (set channels n x) c ≡ passed (n + 1) c
  channels_next n channels x low before e c h = go (ℕ_discrete c n)
    where
      none : Blocks
      none = record { rows = [] }

      same : c ≢ n → passed n c ≡ passed (n + 1) c
      same ne =
          by-test (λ z. z ≡ passed (n + 1) c) (ltb c n) (read c) no_samples
          (λ t. sym (rw (lt-ltb c (n + 1) (omega (arith, ltb-true c n t)))))
          (λ t. sym (rw (le-ltb c (n + 1) (omega (arith, ltb-false c n t)))))

      go : Dec (c ≡ n) → rows_of (set channels n x) c ≡ passed (n + 1) c
      go (yes q) =
          rw (q, lt-ltb n (n + 1) (omega arith)) (ap (λ (b : Blocks). b.rows) (get_or-set_same channels n x none low) ∙ e)
      go (no ne) = ap (λ (b : Blocks). b.rows) (get_or-set_other channels n c x none ne) ∙ before c h ∙ same ne
