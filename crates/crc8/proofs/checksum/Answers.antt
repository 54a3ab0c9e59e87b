-- `crc8::checksum` meets its contract: its three calls are the parts of `checksum-parts`, of a frame of any length.
-- Assumes nothing.
use Prim.Native.Nat.{ℕ, ◌+◌, ◌-◌, ◌/◌, ◌%◌, min}
use mathlib.Core.Path.{◌≡◌, sym, ap, ap₂, ◌∙◌}
use mathlib.Core.List.{List}
use native.Mathlib.Omega.{arith}
use lib.ListN.{length, get_or, take, drop}
use Rattle.laws.specs.Bits.{bits_of, bits_of_bytes}
use Rattle.crc8.specs.Checksum.{crc_bits}
use Rattle.laws.proofs.Parts.{clip}
use Rattle.crc8.proofs.Registers.{whole_bytes, checksum-parts, rest_some, rest-none}
use Rattle.crc8.proofs.checksum.Goals as goal

-- the second call of `update` gives the register after the whole bytes
whole : (frame : List ℕ) (n from to side end header register : ℕ) → from ≡ min (length frame) 1 → to ≡ min (length frame) 3
    → header ≡ crc_bits 0x0F (bits_of_bytes (take (to - from) (drop from frame)))
    → side ≡ min (length frame) 4 → end ≡ min (length frame) (4 + n / 8)
    → register ≡ crc_bits header (bits_of_bytes (take (end - side) (drop side frame))) → register ≡ whole_bytes frame n
whole frame n from to side end header register f t g s e u =
    let h : header ≡ crc_bits 0x0F (bits_of_bytes (take 2 (drop 1 frame))) =
    g ∙ ap (λ (l : List ℕ). crc_bits 0x0F (bits_of_bytes l)) (clip 1 2 frame from to (omega (arith, f)) (omega (arith, t))) in
    u ∙ ap₂ (λ (r : ℕ) (l : List ℕ). crc_bits r (bits_of_bytes l)) h (clip 4 (n / 8) frame side end (omega (arith, s)) (omega (arith, e)))

pub returns-then-end-length : goal.returns-then-end-length
returns-then-end-length c =
    let frame = c.args.frame.now in
    let n = c.args.side_bits in
    let at = c.min-end in
    let e : at.result ≡ 4 + n / 8 = omega (arith, at.ensures) in
    let w : c.update-whole.result ≡ whole_bytes frame n =
    whole frame n _ _ _ _ _ _ c.min-from.ensures c.min-to.ensures c.update-header.ensures c.min-side.ensures at.ensures
    c.update-whole.ensures in
    let u : c.update_bits.result ≡ crc_bits c.update-whole.result (take (n % 8) (bits_of 8 (get_or frame at.result 0))) =
    c.update_bits.ensures in
    u ∙ ap₂ (λ (r i : ℕ). crc_bits r (take (n % 8) (bits_of 8 (get_or frame i 0)))) w e
    ∙ sym (checksum-parts frame n ∙ ap (crc_bits (whole_bytes frame n)) (rest_some frame (4 + n / 8) (n % 8) (omega arith) (omega arith)))

pub returns : goal.returns
returns c =
    let frame = c.args.frame.now in
    let n = c.args.side_bits in
    let at = c.min-end in
    let w : c.update-whole.result ≡ whole_bytes frame n =
    whole frame n _ _ _ _ _ _ c.min-from.ensures c.min-to.ensures c.update-header.ensures c.min-side.ensures at.ensures
    c.update-whole.ensures in
    w ∙ sym (checksum-parts frame n ∙ rest-none (whole_bytes frame n) frame (4 + n / 8) (n % 8) (omega (arith, at.ensures)))
