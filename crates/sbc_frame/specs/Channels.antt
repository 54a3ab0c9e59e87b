-- One channel through its filterbank, block by block, and the channels' samples in PCM. From document 01, "Filterbanks" and "Parameters".
use Rattle.std.specs.Prelude.{ℕ, zero, suc, ◌+◌, ◌*◌, ◌/◌, ◌%◌, List, [], ◌∷◌, ◌++◌, get_or, take, drop, replicate, ℤ, pos}
use Rattle.laws.specs.Lists.{build}
use Rattle.sbc_parameters.specs.Parameters.{channels}
use Rattle.sbc_parameters.specs.Sizes.{samples_per_channel, frame_samples}
use Rattle.sbc_parameters.specs.declared.SbcParameters.{SbcParameters}
use Rattle.sbc_filterbank.specs.Analysis.{shifted, analysis_outputs}
use Rattle.sbc_filterbank.specs.Synthesis.{modulated, pushed, synthesis_outputs}
use Rattle.sbc_filterbank.specs.Ring.{ring, next_slot, ring_pushed}
use Rattle.sbc_filterbank.specs.declared.synthesis.Synthesis.{Synthesis}

-- ---- PCM of two channels alternates, left first

-- n samples of channel c in PCM of C channels
unfoldable pub pcm_in : ℕ → ℕ → ℕ → List ℤ → List ℤ
pcm_in C c n pcm = build n (λ i. get_or pcm (i * C + c) (pos 0))

-- a frame's samples of channel c
unfoldable pub channel_pcm : SbcParameters → List ℤ → ℕ → List ℤ
channel_pcm p pcm c = pcm_in (channels p) c (samples_per_channel p) pcm

-- all channels' samples
unfoldable pub interleave : SbcParameters → (ℕ → List ℤ) → List ℤ
interleave p channel = build (frame_samples p) (λ i. get_or (channel (i % channels p)) (i / channels p) (pos 0))

-- ---- analysis: n blocks of S samples each give the subband samples by block, and the next history

-- silence
unfoldable pub no_analysis : List ℤ
no_analysis = replicate 80 (pos 0)

-- the subband samples of n blocks
unfoldable pub analyze_blocks : ℕ → ℕ → List ℤ → List ℤ → List (List ℤ)
analyze_blocks zero S X pcm = []
analyze_blocks (suc n) S X pcm = let next = shifted S X (take S pcm) in analysis_outputs S next ∷ analyze_blocks n S next (drop S pcm)

-- the history after n blocks
unfoldable pub analysis_after : ℕ → ℕ → List ℤ → List ℤ → List ℤ
analysis_after zero S X pcm = X
analysis_after (suc n) S X pcm = analysis_after n S (shifted S X (take S pcm)) (drop S pcm)

-- ---- synthesis: each block of subband samples gives S samples, and the next history

-- silence
unfoldable pub no_synthesis : Synthesis
no_synthesis = record { values = replicate 160 (pos 0); newest = 0 }

-- the history after a block
unfoldable pub synthesized : ℕ → Synthesis → List ℤ → Synthesis
synthesized S h s = record { values = ring_pushed S (modulated S s) h.values h.newest; newest = next_slot h.newest }

-- the S samples of a block
unfoldable pub synthesize : ℕ → Synthesis → List ℤ → List ℤ
synthesize S h s = synthesis_outputs S (pushed (modulated S s) (ring S h.values h.newest))

-- the samples of all blocks
unfoldable pub synthesize_blocks : ℕ → Synthesis → List (List ℤ) → List ℤ
synthesize_blocks S h [] = []
synthesize_blocks S h (s ∷ ss) = synthesize S h s ++ synthesize_blocks S (synthesized S h s) ss

-- the history after all blocks
unfoldable pub synthesis_after : ℕ → Synthesis → List (List ℤ) → Synthesis
synthesis_after S h [] = h
synthesis_after S h (s ∷ ss) = synthesis_after S (synthesized S h s) ss
