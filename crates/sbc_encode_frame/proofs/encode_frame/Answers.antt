-- `encode_frame` meets its contract: what is coded of the samples is written as the frame's bytes.
-- Assumes nothing.
use Rattle.std.proofs.Common.{ℕ, ◌<◌, map, arith, ◌∙◌}
use Rattle.sbc_parameters.proofs.Accepted.{channels-range}
use Rattle.sbc_frame.specs.Encoding.{channel_samples, encode_fields}
use Rattle.sbc_frame.proofs.ByBlock.{asked}
use Rattle.sbc_encode_frame.proofs.Packed.{coding-packed, histories-given, samples-given}
use Rattle.sbc_encode_frame.proofs.encode_frame.Goals as goal

pub analyze_channels-samples-requires : goal.analyze_channels-samples-requires
analyze_channels-samples-requires c =
    let p = c.args.accepted.set in
    let count = c.from-3.ensures ∙ c.channels.ensures in
    let some : 0 < c.from-3.result = omega (arith, count, channels-range p) in
    let all = asked p 0 _ _ c.args.accepted.is_accepted count some c.requires.0 in
    rw (c.from.ensures, c.from-2.ensures) (all.0, some, all.3, all.4)

pub returns-clause-histories : goal.returns-clause-histories
returns-clause-histories c =
    c.analyze_channels-samples.ensures.histories
    ∙ histories-given c.args.accepted.set (map (λ a. a.history) c.args.histories.now) c.args.input.now (c.from-3.ensures ∙ c.channels.ensures)
    c.from.ensures c.from-2.ensures

pub returns-clause-frame : goal.returns-clause-frame
unfolding encode_fields
returns-clause-frame c =
    let p = c.args.accepted.set in
    let H = map (λ a. a.history) c.args.histories.now in
    let input = c.args.input.now in
    let count = c.from-3.ensures ∙ c.channels.ensures in
    c.write_frame.ensures
    ∙ coding-packed p c.args.accepted.is_accepted (channel_samples p H input) c.analyze_channels-samples.result
    (λ k low. c.analyze_channels-samples.ensures.samples k (omega (arith, low, count)) ∙ samples-given p H input count c.from.ensures c.from-2.ensures k)
    c.code-coding.result c.code-coding.ensures
