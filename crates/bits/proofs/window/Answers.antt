-- `bits::window` meets its contract. One byte more is `window-next`, and with at most four bytes passed the number has 32 bits, so the next
-- one fits.
-- Assumes nothing.
use Prim.Native.Nat.{◌+◌, ◌*◌}
use mathlib.Core.Path.{◌≡◌, refl}
use native.Mathlib.Nat.{zero-add}
use native.Mathlib.Omega.{arith}
use lib.ListN.{get_or, take}
use Rattle.laws.specs.Bits.{number_of, bits_of_bytes}
use Rattle.bits.proofs.Windows.{window-small, window-next}
use Rattle.bits.proofs.window.Goals as goal

pub loop-byte-init : goal.loop-byte-init
unfolding bits_of_bytes number_of
loop-byte-init c = refl

pub overflow_mul-number : goal.overflow_mul-number
overflow_mul-number c = omega (arith, window-small c.args.bytes.now 0 c.loop-byte.byte-index (omega arith))

pub overflow_add-number : goal.overflow_add-number
overflow_add-number c =
    omega (arith, window-small c.args.bytes.now 0 c.loop-byte.byte-index (omega arith), c.type_inv.bytes c.loop-byte.byte-index)

pub loop-byte-preserved : goal.loop-byte-preserved
loop-byte-preserved c =
    let bytes = c.args.bytes.now in
    let n = c.loop-byte.byte-index in
    let next : number_of (bits_of_bytes (take (n + 1) bytes)) ≡ number_of (bits_of_bytes (take n bytes)) * 256 + get_or bytes n 0 =
    rw zero-add at (window-next bytes 0 n (omega arith) (rw zero-add (omega (arith, c.type_inv.bytes n)))) in
    omega (arith, next)
