-- One frame encoded: from PCM and the analysis histories to its fields. From document 01, "Quantizing" and "Joint stereo".
use Rattle.std.specs.Prelude.{ℕ, ◌+◌, Bool, ◌&&◌, List, [], eqb, ltb, get_or, ℤ, pos, nat_abs, ◌+ℤ◌, ◌-ℤ◌, if◌then◌else◌}
use Rattle.laws.specs.Lists.{build, greatest}
use Rattle.laws.specs.Integers.{floor_div}
use Rattle.sbc_modes.specs.Modes.{is_joint}
use Rattle.sbc_parameters.specs.Parameters.{channels}
use Rattle.sbc_parameters.specs.Sizes.{join_count}
use Rattle.sbc_parameters.specs.declared.SbcParameters.{SbcParameters}
use Rattle.sbc_quantizer.specs.Quantizing.{scale_factor, quantize}
use Rattle.sbc_frame.specs.Fields.{Fields, width_at}
use Rattle.sbc_frame.specs.Channels.{channel_pcm, no_analysis, analyze_blocks, analysis_after}

-- ---- the subband samples of the channels, each by block and subband

-- those of channel c, from its history and its PCM
unfoldable pub channel_samples : SbcParameters → List (List ℤ) → List ℤ → ℕ → List (List ℤ)
channel_samples p histories pcm c = analyze_blocks p.blocks p.subbands (get_or histories c no_analysis) (channel_pcm p pcm c)

-- the sample of block b and subband s
abbrev pub sample_at : List (List ℤ) → ℕ → ℕ → ℤ
sample_at samples b s = get_or (get_or samples b []) s (pos 0)

-- the scale factor of a subband, from its sample in each block: the maximum is the greatest absolute value over the frame's blocks
unfoldable pub factor_of : SbcParameters → (ℕ → ℤ) → ℕ
factor_of p sample = scale_factor (greatest p.blocks (λ b. nat_abs (sample b)))

-- ---- joint stereo: both halved by arithmetic shift, then sum (channel 0) and difference (channel 1)

-- the joined sample of block b and subband s
unfoldable pub joined_at : (ℕ → List (List ℤ)) → ℕ → ℕ → ℕ → ℤ
joined_at samples b c s =
    let left = floor_div (sample_at (samples 0) b s) 2 in
    let right = floor_div (sample_at (samples 1) b s) 2 in
    if eqb c 0 then left +ℤ right else left -ℤ right

-- the two scale factors of a subband, added: as it is, and joined
unfoldable pub plain_cost : SbcParameters → (ℕ → List (List ℤ)) → ℕ → ℕ
plain_cost p samples s = factor_of p (λ b. sample_at (samples 0) b s) + factor_of p (λ b. sample_at (samples 1) b s)

unfoldable pub joined_cost : SbcParameters → (ℕ → List (List ℤ)) → ℕ → ℕ
joined_cost p samples s = factor_of p (λ b. joined_at samples b 0 s) + factor_of p (λ b. joined_at samples b 1 s)

-- a subband but the last is joined if the two new scale factors add to strictly less than the old
unfoldable pub is_joined : SbcParameters → (ℕ → List (List ℤ)) → ℕ → Bool
is_joined p samples s =
    is_joint p.channel_mode && (ltb (s + 1) p.subbands && ltb (joined_cost p samples s) (plain_cost p samples s))

-- ---- the fields

-- what is coded of a subband: the joined sample where it is joined
unfoldable pub coded_at : SbcParameters → (ℕ → List (List ℤ)) → ℕ → ℕ → ℕ → ℤ
coded_at p samples b c s = if is_joined p samples s then joined_at samples b c s else sample_at (samples c) b s

-- the scale factors, by channel and subband
unfoldable pub coded_factors : SbcParameters → (ℕ → List (List ℤ)) → List (List ℕ)
coded_factors p samples = build (channels p) (λ c. build p.subbands (λ s. factor_of p (λ b. coded_at p samples b c s)))

-- the quantized values, by block, channel and subband
unfoldable pub coded_values : SbcParameters → (ℕ → List (List ℤ)) → List (List ℕ) → List (List (List ℕ))
coded_values p samples factors =
    build p.blocks
    (λ b. build (channels p)
    (λ c. build p.subbands (λ s. quantize (coded_at p samples b c s) (get_or (get_or factors c []) s 0) (width_at p factors c s))))

-- all fields, from the subband samples of the channels
unfoldable pub coded_fields : SbcParameters → (ℕ → List (List ℤ)) → Fields
coded_fields p samples =
    let factors = coded_factors p samples in
    record { join = build (join_count p) (is_joined p samples); factors = factors; values = coded_values p samples factors }

-- the fields of a frame with this PCM
unfoldable pub encode_fields : SbcParameters → List (List ℤ) → List ℤ → Fields
encode_fields p histories pcm = coded_fields p (channel_samples p histories pcm)

-- the histories after the frame; a channel that the set does not have keeps its own
unfoldable pub analysis_histories : SbcParameters → List (List ℤ) → List ℤ → List (List ℤ)
analysis_histories p histories pcm =
    build 2
    (λ c.
    let history = get_or histories c no_analysis in
    if ltb c (channels p) then analysis_after p.blocks p.subbands history (channel_pcm p pcm c) else history)
