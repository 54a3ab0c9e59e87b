-- `sbc_share::share_bits` meets its contract: base and round at the level that was found, and the last bit where the round leaves one.
-- Assumes nothing.
use mathlib.Core.Path.{◌≡◌, refl, sym, ap, ◌∙◌}
use mathlib.Core.List.{List, ◌++◌, map}
use Prim.Native.Nat.{ℕ, ◌-◌, ◌<◌, ◌≤◌}
use native.Mathlib.Omega.{arith}
use lib.ListN.{length, take, drop, replicate}
use lib.Seq.{take_at, drop_at}
use Rattle.sbc_share.specs.Share.{sum, level_of, base_bits, last_bit, share}
use Rattle.std.specs.List.{sum_by}
use Rattle.sbc_share.proofs.Loops.{bits_sum, heights_sum}
use Rattle.sbc_share.specs.Raised.{lowered}
use Rattle.sbc_share.proofs.Padded.{sum-padded, rounded, with-last, without-last, length-rounded}
use Rattle.sbc_share.proofs.share_bits.Goals as goal

-- the bits of the round, with zeros behind them
module _ (ns : List ℕ) (bitpool at : ℕ) (is : lowered at ≡ level_of (map lowered ns) bitpool) (out : List ℕ) where
  abbrev bits : List ℕ
  bits = rounded ns bitpool at is

  abbrev zeros : List ℕ
  zeros = replicate (16 - length ns) 0

  module _ (padded : out ≡ bits ++ zeros) where
    long : length bits ≡ length ns
    long = length-rounded ns bitpool at is

    total : sum_by (λ b. b) out ≡ sum bits
    total = sym (bits_sum out) ∙ ap sum padded ∙ sum-padded bits (16 - length ns)

    first : take (length ns) out ≡ bits
    first = rw padded (take_at bits zeros (length ns) long)

    behind : drop (length ns) out ≡ zeros
    behind = rw padded (drop_at bits zeros (length ns) long)

    less : sum_by (λ b. b) out < bitpool → last_bit 1 (take (length ns) out) ++ drop (length ns) out ≡ share (map lowered ns) bitpool ++ zeros
    less h = rw (first, behind, with-last ns bitpool at is (omega (arith, total))) refl

    whole : bitpool ≤ sum_by (λ b. b) out → out ≡ share (map lowered ns) bitpool ++ zeros
    whole h = padded ∙ rw (without-last ns bitpool at is (omega (arith, total))) refl

pub returns-then-sum_of-bitpool : goal.returns-then-sum_of-bitpool
returns-then-sum_of-bitpool c =
    let padded = rw (c.saturating_sub-left.ensures, c.base_total.ensures, ← heights_sum base_bits c.level_of-level.result c.args.needs.now) at c.round_bits-bits.ensures in
    ap (λ (l : List ℕ). l ++ drop (length c.args.needs.now) c.round_bits-bits.result) c.last_bit.ensures ∙ less _ _ _ c.level_of-level.ensures _ padded (omega arith)

pub returns-else-sum_of-bitpool : goal.returns-else-sum_of-bitpool
returns-else-sum_of-bitpool c =
    let padded = rw (c.saturating_sub-left.ensures, c.base_total.ensures, ← heights_sum base_bits c.level_of-level.result c.args.needs.now) at c.round_bits-bits.ensures in
    whole _ _ _ c.level_of-level.ensures _ padded (omega arith)
