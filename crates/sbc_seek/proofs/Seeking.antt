-- The frame that a seek resumes from does not begin behind the position sought, and at most 9 blocks and a frame before
-- it. And the cases of a request in a stream of frames.
-- Assumes nothing.
use Prim.Native.Nat.{ℕ, ◌+◌, ◌-◌, ◌*◌, ◌/◌, ◌^◌, ◌≤◌, ◌<◌}
use mathlib.Core.Path.{◌≡◌, sym, ap}
use native.Mathlib.Nat.{le_trans, mul_assoc, add-mul, mul-le-mul, le_refl, div-mul-le_self, lt-div-mul-add}
use native.Mathlib.Omega.{arith}
use mathlib.Core.Bool.{true, false}
use borrow.Author.Tests.{lt-ltb, le-ltb}
use lib.Dec.{eqb}
use Rattle.laws.specs.Answers.{Told, gives, refuses}
use Rattle.laws.proofs.Answers.{gives_same, gives-refuses}
use Rattle.laws.proofs.Cases.{by-test}
use Rattle.sbc_parameters.specs.Parameters.{accepted}
use Rattle.sbc_parameters.proofs.Accepted.{ranges}
use Rattle.sbc_parameters.specs.Sizes.{samples_per_channel}
use Rattle.sbc_parameters.specs.declared.SbcParameters.{SbcParameters}
use Rattle.sbc_seek.specs.Seek.{seek_frame, seek_offset, seek_skip, request_of, request_in, first_request}
use Rattle.sbc_seek.specs.declared.SeekRequest.{SeekRequest}

pub seek-frame-le : (p : SbcParameters) (position : ℕ) → seek_frame p position * samples_per_channel p ≤ position
unfolding seek_frame samples_per_channel
seek-frame-le p position =
    let block = position / p.subbands in
    let frame = (block - 9) / p.blocks in
    let first : frame * p.blocks ≤ block = le_trans (div-mul-le_self (block - 9) p.blocks) (omega arith) in
    let whole : frame * p.blocks * p.subbands ≤ block * p.subbands = mul-le-mul first (le_refl p.subbands) in
    rw (sym (mul_assoc frame p.blocks p.subbands)) (le_trans whole (div-mul-le_self position p.subbands))

-- so the skip leads to the position from there
pub seek-skip : (p : SbcParameters) (position : ℕ) → seek_frame p position * samples_per_channel p + seek_skip p position ≡ position
unfolding seek_skip
seek-skip p position = omega (arith, seek-frame-le p position)

-- which is less than 9 blocks and a frame
pub seek-skip-lt : (p : SbcParameters) (position : ℕ) → accepted p ≡ true → seek_skip p position < 200
unfolding seek_skip seek_frame samples_per_channel
seek-skip-lt p position a =
    let r = ranges p a in
    let S = p.subbands in
    let B = p.blocks in
    let block = position / S in
    let frame = (block - 9) / B in
    let near : block - 9 < frame * B + B = lt-div-mul-add {a = block - 9} (omega (arith, r.blocks-low)) in
    let inside : position < block * S + S = lt-div-mul-add {a = position} (omega (arith, r.subbands-low)) in
    let up : (block + 1) * S ≤ (frame * B + (B + 9)) * S = mul-le-mul {n₁ = block + 1} {n₂ = frame * B + (B + 9)} (omega (arith, near)) (le_refl S) in
    let most : (B + 9) * S ≤ 25 * 8 = mul-le-mul {n₁ = B + 9} {n₂ = 25} (omega (arith, r.blocks-high)) r.subbands-high in
    omega (arith, inside, up, most, add-mul block 1 S, add-mul (frame * B) (B + 9) S, mul_assoc frame B S)

-- ---- the cases of a request

module _ (p : SbcParameters) (position : ℕ) where
  -- parameters that are not accepted
  pub request-unaccepted : accepted p ≡ false → request_in p position ≡ refuses 3
  unfolding request_in
  request-unaccepted a = rw a

  -- an offset over u64
  pub request-over : accepted p ≡ true → 2 ^ 64 ≤ seek_offset p position → request_in p position ≡ refuses 3
  unfolding request_in
  request-over a h = rw (a, le-ltb (seek_offset p position) (2 ^ 64) h)

  -- an offset that fits
  pub request-inside : accepted p ≡ true → seek_offset p position < 2 ^ 64
      → request_in p position ≡ gives (request_of (seek_offset p position) (seek_skip p position))
  unfolding request_in
  request-inside a h = rw (a, lt-ltb (seek_offset p position) (2 ^ 64) h)

pub skip-small : (p : SbcParameters) (position : ℕ) → accepted p ≡ true → position - seek_frame p position * samples_per_channel p < 200
unfolding seek_skip
skip-small p position a = seek-skip-lt p position a

pub ruleset requesting = (seek-frame-le, skip-small, request-over, request-inside)

pub ruleset unaccepted = (request-unaccepted)

-- an accepted set has subbands and blocks to divide by
pub subbands-some : (p : SbcParameters) → accepted p ≡ true → 4 ≤ p.subbands
subbands-some p a = (ranges p a).subbands-low

pub blocks-some : (p : SbcParameters) → accepted p ≡ true → 4 ≤ p.blocks
blocks-some p a = (ranges p a).blocks-low

pub ruleset dividing = (subbands-some, blocks-some)

-- with nothing decoded yet, nothing is skipped
pub first-skips-none : (position : ℕ) (request : SeekRequest) → first_request position ≡ gives request → request.skip_frames ≡ 0
unfolding first_request
first-skips-none position request =
    by-test (λ (answer : Told SeekRequest). answer ≡ gives request → request.skip_frames ≡ 0) (eqb position 0) (gives (request_of 0 0)) (refuses 1)
    (λ _ h. ap (λ (r : SeekRequest). r.skip_frames) (sym (gives_same (request_of 0 0) request h)))
    (λ _ h. absurd (gives-refuses request 1 (sym h)))
