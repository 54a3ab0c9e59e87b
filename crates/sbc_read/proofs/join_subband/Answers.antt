-- `sbc_read::join_subband` meets its contract: the samples of the next block are still the old ones, and small enough for their sum and
-- difference.
-- Assumes nothing.
use native.Mathlib.Omega.{arith}
use borrow.Author.Rules.{rules}
use Rattle.sbc_frame.specs.Arrays.{rows_of}
use Rattle.sbc_frame.proofs.Columns.{column_none}
use Rattle.sbc_read.proofs.Joined.{sum_here, difference_here, stored_here}
use Rattle.sbc_read.proofs.join_subband.Goals as goal

pub loop-block-init : goal.loop-block-init
loop-block-init c = (search rules, λ k h. column_none c.args.subband _ (rows_of c.args.channels.now k) (c.requires.long k h))

pub overflow_add-channels : goal.overflow_add-channels
overflow_add-channels c =
    let l = c.loop-block in
    sum_here c.args.channels.now c.args.subband l.block (omega (arith, c.args.blocks.at_most_16)) l.channels l.invariant
    (λ k h. c.requires.small k l.block h (omega arith))

pub overflow_sub-channels : goal.overflow_sub-channels
overflow_sub-channels c =
    let l = c.loop-block in
    difference_here c.args.channels.now c.args.subband l.block (omega (arith, c.args.blocks.at_most_16)) l.channels l.invariant
    (λ k h. c.requires.small k l.block h (omega arith))

pub loop-block-preserved : goal.loop-block-preserved
loop-block-preserved c =
    let l = c.loop-block in
    stored_here c.args.channels.now c.args.subband l.block (omega (arith, c.args.blocks.at_most_16)) l.channels l.invariant
    (λ k h. c.requires.small k l.block h (omega arith))
