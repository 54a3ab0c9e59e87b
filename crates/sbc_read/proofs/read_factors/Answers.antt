-- `sbc_read::read_factors` meets its contract.
-- Assumes nothing.
use Prim.Native.Nat.{◌≤◌, ◌<◌}
use mathlib.Core.Path.{◌≡◌, ap, ◌∙◌}
use native.Mathlib.Omega.{arith}
use Rattle.sbc_parameters.specs.Parameters.{channels}
use Rattle.sbc_parameters.proofs.Accepted.{channels-range}
use Rattle.sbc_frame.proofs.Sizes.{row-sizes}
use Rattle.sbc_read.proofs.Rows.{before_second, factor_rows, factors_none, factors_next, factors_long, factors_within}
use Rattle.sbc_read.proofs.read_factors.Goals as goal

pub loop-channel-init : goal.loop-channel-init
loop-channel-init c = factors_none c.args.accepted.set c.args.bytes.now

pub read_row-requires : goal.read_row-requires
read_row-requires c =
    let p = c.args.accepted.set in
    let r = row-sizes p c.args.accepted.is_accepted in
    let joins : c.join_count-first.result ≤ 8 = omega (arith, c.join_count-first.ensures.0, r.joins-high) in
    let most : c.from-subbands.result ≤ 8 = omega (arith, c.from-subbands.ensures, r.subbands-high) in
    let low : c.loop-channel.channel < 2 = omega (arith, c.from-channel-end.ensures, c.channels.ensures, (channels-range p).1) in
    (omega arith, omega arith, most, omega (arith, joins, most, before_second c.from-subbands.result c.loop-channel.channel most low))

pub loop-channel-preserved : goal.loop-channel-preserved
loop-channel-preserved c =
    factors_next c.args.accepted.set c.args.bytes.now c.loop-channel.channel c.join_count-first.result c.from-subbands.result
    c.loop-channel.rows c.read_row.result c.loop-channel.invariant c.join_count-first.ensures.0 c.from-subbands.ensures c.read_row.ensures

pub invariant_of-result : goal.invariant_of-result
invariant_of-result c =
    let p = c.args.accepted.set in
    let l = c.loop-channel in
    record {
      long = factors_long p c.args.bytes.now l.channel l.rows l.invariant;
      within = factors_within p c.args.bytes.now l.channel l.rows l.invariant (row-sizes p c.args.accepted.is_accepted).subbands-high;
    }

pub returns : goal.returns
returns c =
    let l = c.loop-channel in
    let all : l.channel ≡ channels c.args.accepted.set = omega (arith, c.from-channel-end.ensures, c.channels.ensures) in
    l.invariant ∙ ap (factor_rows c.args.accepted.set c.args.bytes.now) all
