-- What a subband needs. From document 01, "Need and share", its first three sentences.
use Rattle.std.specs.Prelude.{[], ℕ, zero, suc, ◌/◌, get_or, ℤ, pos, negsuc, ◌-ℤ◌}
use Rattle.sbc_modes.specs.declared.SbcAllocation.{SbcAllocation}
use Rattle.sbc_modes.specs.declared.SbcAllocation.TheVariants.{Loudness, Snr}
use Rattle.sbc_parameters.specs.declared.SbcParameters.{SbcParameters}
use Rattle.sbc_parameters.specs.Header.{frequency_index}
use Rattle.sbc_tables.specs.Tables.{minus, loudness_offsets}

-- the table's entry by rate and subband; 0 past the table's subbands
unfoldable pub loudness_offset : SbcParameters → ℕ → ℤ
loudness_offset p subband = get_or (get_or (loudness_offsets p.subbands) (frequency_index p) []) subband (pos 0)

-- halved downward if it is above 0
abbrev pub halved : ℤ → ℤ
halved (pos d) = pos (d / 2)
halved (negsuc d) = negsuc d

-- -5 at scale factor 0; else d = scale factor - offset, halved downward if d > 0
abbrev pub loudness_need : ℤ → ℕ → ℤ
loudness_need offset zero = minus 5
loudness_need offset (suc factor) = halved (pos (suc factor) -ℤ offset)

-- SNR: need = scale factor
abbrev pub need_by : SbcAllocation → ℤ → ℕ → ℤ
need_by Snr offset factor = pos factor
need_by Loudness offset factor = loudness_need offset factor

-- the need of a subband with a scale factor
unfoldable pub need : SbcParameters → ℕ → ℕ → ℤ
need p factor subband = need_by p.allocation (loudness_offset p subband) factor
