-- `bits::number_at` meets its contract: the window holds the field (`window-number`), and what stands behind the field
-- in it is shifted away.
-- Assumes nothing.
use Prim.Native.Nat.{ℕ, ◌+◌, ◌-◌, ◌*◌, ◌/◌, ◌%◌, ◌^◌}
use mathlib.Core.Path.{◌≡◌, sym, ap, ap₂, ◌∙◌}
use native.Mathlib.Omega.{arith}
use lib.ListN.{take, drop}
use Rattle.laws.specs.Bits.{number_of, bits_of_bytes}
use Rattle.bits.proofs.Windows.{shifted-one, window-number}
use Rattle.bits.proofs.number_at.Goals as goal

pub returns : goal.returns
returns c =
    let a = c.args in
    let bytes = a.bytes.now in
    let first : ℕ = a.position / 8 in
    let size = c.div_ceil-size.result in
    let low : ℕ = 8 * size - a.position % 8 - a.count in
    let e : first + size - first ≡ size = omega arith in
    let w : c.window-number.result ≡ number_of (bits_of_bytes (take size (drop first bytes))) =
    c.window-number.ensures ∙ ap (λ (k : ℕ). number_of (bits_of_bytes (take k (drop first bytes)))) e in
    ap₂ {C = ℕ} (λ (x y : ℕ). x / 2 ^ low % y) w (shifted-one a.count (omega arith))
    ∙ sym (window-number bytes a.position a.count size (omega arith) (omega arith))
