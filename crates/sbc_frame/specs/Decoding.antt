-- One frame decoded: from its fields and the synthesis histories to PCM. From document 01, "Quantizing" and "Joint stereo".
use Rattle.std.specs.Prelude.{ℕ, List, eqb, ltb, get_or, ℤ, ◌+ℤ◌, ◌-ℤ◌, if◌then◌else◌}
use Rattle.laws.specs.Lists.{build}
use Rattle.sbc_parameters.specs.Parameters.{channels}
use Rattle.sbc_parameters.specs.declared.SbcParameters.{SbcParameters}
use Rattle.sbc_filterbank.specs.declared.synthesis.Synthesis.{Synthesis}
use Rattle.sbc_quantizer.specs.Quantizing.{reconstruct}
use Rattle.sbc_frame.specs.Fields.{Fields, join_at, factor_at, value_at, width_at}
use Rattle.sbc_frame.specs.Channels.{interleave, no_synthesis, synthesize_blocks, synthesis_after}

-- a subband's sample before joining
unfoldable pub reconstructed_at : SbcParameters → Fields → ℕ → ℕ → ℕ → ℤ
reconstructed_at p f b c s = reconstruct (value_at f b c s) (factor_at f c s) (width_at p f.factors c s)

-- sum (channel 0) and difference (channel 1) for every join flag that is set
unfoldable pub decoded_at : SbcParameters → Fields → ℕ → ℕ → ℕ → ℤ
decoded_at p f b c s =
    let left = reconstructed_at p f b 0 s in
    let right = reconstructed_at p f b 1 s in
    if join_at f s then (if eqb c 0 then left +ℤ right else left -ℤ right) else reconstructed_at p f b c s

-- the subband samples of a channel, by block and subband
unfoldable pub channel_blocks : SbcParameters → Fields → ℕ → List (List ℤ)
channel_blocks p f c = build p.blocks (λ b. build p.subbands (λ s. decoded_at p f b c s))

-- a frame's PCM
unfoldable pub decode_fields : SbcParameters → List Synthesis → Fields → List ℤ
decode_fields p histories f = interleave p (λ c. synthesize_blocks p.subbands (get_or histories c no_synthesis) (channel_blocks p f c))

-- the histories after the frame; a channel that the frame does not have keeps its own
unfoldable pub synthesis_histories : SbcParameters → List Synthesis → Fields → List Synthesis
synthesis_histories p histories f =
    build 2
    (λ c.
    let history = get_or histories c no_synthesis in
    if ltb c (channels p) then synthesis_after p.subbands history (channel_blocks p f c) else history)
