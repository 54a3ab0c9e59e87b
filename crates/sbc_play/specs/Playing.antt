-- How the code of the decoder plays a frame, for the contracts of its inner functions alone: the subband samples of a channel stand in 16
-- rows of eight, a row for each block, and a channel's PCM goes into its places of the output block by block. No call of a user's cites
-- this. From document 01, "Filterbanks" and "Parameters".
use Rattle.std.specs.Prelude.{ℕ, zero, suc, ◌+◌, ◌*◌, List, ltb, get_or, set, ℤ, if◌then◌else◌}
use Rattle.laws.specs.Lists.{build}
use Rattle.sbc_parameters.specs.Parameters.{channels}
use Rattle.sbc_parameters.specs.declared.SbcParameters.{SbcParameters}
use Rattle.sbc_filterbank.specs.declared.synthesis.Synthesis.{Synthesis}
use Rattle.sbc_frame.specs.declared.blocks.Blocks.{Blocks}
use Rattle.sbc_frame.specs.Arrays.{rows_of}
use Rattle.sbc_frame.specs.Channels.{no_synthesis, synthesis_after}
use Rattle.sbc_frame.specs.Encoding.{sample_at}

-- the first n blocks of S samples each in an array of samples
unfoldable pub blocks_in : ℕ → ℕ → List (List ℤ) → List (List ℤ)
blocks_in n S xs = build n (λ b. build S (sample_at xs b))

-- the blocks of channel c
abbrev pub channel_in : SbcParameters → List Blocks → ℕ → List (List ℤ)
channel_in p samples c = blocks_in p.blocks p.subbands (rows_of samples c)

-- the output of C channels with n samples of channel c put in, from its sample `from` on
unfoldable pub placed : ℕ → ℕ → ℕ → ℕ → (ℕ → ℤ) → List ℤ → List ℤ
placed C c from zero f xs = xs
placed C c from (suc n) f xs = set (placed C c from n f xs) ((from + n) * C + c) (f n)

-- a channel's history after its blocks. That of a channel that there is not stays as it is
abbrev pub history_after : SbcParameters → List Synthesis → List Blocks → ℕ → Synthesis
history_after p histories samples c =
    let history = get_or histories c no_synthesis in
    if ltb c (channels p) then synthesis_after p.subbands history (channel_in p samples c) else history

-- both channels' histories
unfoldable pub histories_after : SbcParameters → List Synthesis → List Blocks → List Synthesis
histories_after p histories samples = build 2 (history_after p histories samples)
