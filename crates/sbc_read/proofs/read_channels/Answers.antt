-- `sbc_read::read_channels` meets its contract.
-- Assumes nothing.
use Prim.Native.Nat.{ℕ}
use mathlib.Core.Path.{◌≡◌, refl, ap, ◌∙◌}
use native.Mathlib.Omega.{arith}
use mathlib.Core.List.{List, []}
use lib.ListN.{get_or, length-set}
use borrow.Author.Rules.{rules}
use borrow.Author.Tests.{lt-ltb, le-ltb}
use Rattle.laws.specs.Lists.{total}
use Rattle.sbc_parameters.proofs.Accepted.{ranges, frame-length-range}
use Rattle.sbc_allocation.proofs.Rows.{table-16}
use Rattle.sbc_frame.specs.Arrays.{samples_array}
use Rattle.sbc_frame.proofs.Positions.{frame-room}
use Rattle.sbc_read.specs.Reading.{width_row, channel_values, read_samples}
use Rattle.sbc_read.proofs.Starts.{start_room, start_next, channels_none, channels_next}
use Rattle.sbc_read.proofs.read_channels.Goals as goal

pub overflow_add-position : goal.overflow_add-position
overflow_add-position c =
    let a = c.args.accepted in
    omega (arith, c.side_bits-position.ensures, frame-room a.set a.is_accepted, (frame-length-range a.set a.is_accepted).1)

pub loop-channel-init : goal.loop-channel-init
unfolding total
loop-channel-init c = (refl, omega (arith, c.side_bits-position.ensures), channels_none _)

pub invariant_of-values : goal.invariant_of-values
invariant_of-values c =
    let k = c.loop-channel.channel in
    record {
      widths_within = λ s. rw c.allocate-widths.ensures (table-16 c.args.accepted.set c.args.factors.now.rows k s);
      factors_within = c.args.factors.now.within k;
    }

pub invariant_of-values-in-loop-channel : goal.invariant_of-values-in-loop-channel
invariant_of-values-in-loop-channel c =
    let a = c.args.accepted in
    let l = c.loop-channel in
    record {
      some_blocks = omega (arith, c.from.ensures, (ranges a.set a.is_accepted).blocks-low);
      room = λ b h.
          rw (c.allocate-widths.ensures, l.invariant.1, c.block_bits.ensures.0)
          (start_room a.set a.is_accepted c.args.factors.now.rows c.args.factors.now.long l.channel b (omega arith)
          (omega (arith, c.from.ensures)));
    }

pub read-requires : goal.read-requires
read-requires c =
    let k : ℕ = c.loop-channel.channel in
    c.loop-channel.invariant.2 k (omega arith) ∙ rw (le-ltb k k (omega arith)) refl

pub loop-channel-preserved : goal.loop-channel-preserved
unfolding read_samples
loop-channel-preserved c =
    let a = c.args.accepted in
    let factors = c.args.factors.now in
    let l = c.loop-channel in
    let k : ℕ = l.channel in
    let widths : get_or c.allocate-widths.result k [] ≡ width_row a.set factors.rows k =
    ap (λ (t : List (List ℕ)). get_or t k []) c.allocate-widths.ensures in (
      length-set l.channels k c.read.new.samples ∙ l.invariant.0,
      start_next a.set factors.rows k l.position c.sum_of.result _ l.invariant.1 widths (search rules) c.sum_of.ensures,
      channels_next (read_samples a.set c.args.bytes.now factors.rows) k l.channels c.read.new.samples (omega (arith, l.invariant.0))
          l.invariant.2
          (c.read.ensures
          ∙ (λ i. samples_array (c.from.ensures i)
          (channel_values c.args.bytes.now (widths i) (get_or factors.rows k []) (l.invariant.1 i) (c.block_bits.ensures.0 i)
          (c.from.ensures i)))),
    )

pub returns : goal.returns
returns c k h =
    let l = c.loop-channel in
    l.invariant.2 k h ∙ rw (lt-ltb k l.channel (omega arith)) refl
