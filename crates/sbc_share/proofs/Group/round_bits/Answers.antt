-- `sbc_share::Group::round_bits` meets its contract. The invariant: the bits written and the round of the needs to come
-- are the whole round, and zeros stand behind.
-- Assumes nothing.
use mathlib.Core.Path.{◌≡◌, sym, ap, ap₂, ◌∙◌}
use mathlib.Core.List.{List, [], ◌++◌, append-nil}
use Prim.Native.Nat.{ℕ, ◌+◌, ◌-◌, ◌<◌}
use native.Mathlib.Omega.{arith}
use lib.ListN.{length, get_or, take, drop, replicate, length-set, take-append-drop}
use Rattle.sbc_share.specs.Share.{base_bits, round_gain, round_bits}
use Rattle.sbc_share.specs.Raised.{excesses}
use Rattle.sbc_share.proofs.Loops.{round-step, round-end}
use Rattle.laws.proofs.Arrays.{written, zeros-behind}
use Rattle.sbc_share.proofs.Group.round_bits.Goals as goal

pub loop-i-preserved : goal.loop-i-preserved
loop-i-preserved c =
    let l = c.loop-i in
    let ns = c.args.self.now.needs.now in
    let level = c.args.level in
    let gain = c.round_gain-gain.result in
    let b = c.base_bits.result + gain in
    -- what the need at hand gains, and its base
    let gained : gain ≡ round_gain (get_or ns l.i 0 - level) l.rest =
    c.round_gain-gain.ensures.0 ∙ ap (λ (n : ℕ). round_gain n l.rest) c.saturating_sub-k.ensures in
    let based : c.base_bits.result ≡ base_bits (get_or ns l.i 0 - level) = c.base_bits.ensures.0 ∙ ap base_bits c.saturating_sub-k.ensures in
    let in-bits : l.i < length l.bits = omega (arith, l.invariant.2, c.args.self.now.servable) in
    let step = round-step level ns l.i l.rest (omega arith) in
    let more = round_bits (excesses level (drop (l.i + 1) ns)) (l.rest - gain) in (
      written l.bits l.i b more in-bits ∙ rw (based, gained) (ap (λ (t : List ℕ). take l.i l.bits ++ t) (sym step)) ∙ l.invariant.0,
      zeros-behind 16 l.bits l.i b (omega (arith, c.args.self.now.servable)) l.invariant.1,
      length-set l.bits l.i b ∙ l.invariant.2,
    )

pub returns : goal.returns
returns c =
    let l = c.loop-i in
    let a = c.args in
    let ns = a.self.now.needs.now in
    let whole = round_bits (excesses a.level ns) a.left in
    let at : l.i ≡ length ns = omega arith in
    let end : round_bits (excesses a.level (drop l.i ns)) l.rest ≡ [] = round-end a.level ns l.i l.rest (omega arith) in
    let front : take l.i l.bits ≡ whole =
    sym (append-nil (take l.i l.bits)) ∙ ap (λ (t : List ℕ). take l.i l.bits ++ t) (sym end) ∙ l.invariant.0 in
    let behind : drop l.i l.bits ≡ replicate (16 - length ns) 0 = l.invariant.1 ∙ ap (λ (n : ℕ). replicate (16 - n) 0) at in
    sym (take-append-drop l.i l.bits) ∙ ap₂ ◌++◌ front behind
