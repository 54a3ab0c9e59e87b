-- A frame as the code of the encoder writes it, for the contracts of its inner functions alone: the bits of its body one field after the
-- other, by the rows and arrays that are coded. No call of a user's cites this.
-- From document 01, "Parameters" and "Quantizing".
use Rattle.std.specs.Prelude.{ℕ, ◌*◌, ◌-◌, Bool, List, [], ◌++◌, get_or}
use Rattle.sbc_parameters.specs.Parameters.{channels}
use Rattle.sbc_parameters.specs.Sizes.{join_count, frame_length}
use Rattle.sbc_parameters.specs.declared.SbcParameters.{SbcParameters}
use Rattle.sbc_allocation.specs.Allocate.{allocation_table}
use Rattle.sbc_frame.specs.Layout.{filled, framed}
use Rattle.sbc_frame.specs.declared.blocks.Blocks.{Blocks}
use Rattle.sbc_write.specs.Writing.{row_bits, value_bits_of}

-- the bits of a frame's body, of its join flags, scale factors and samples, the latter two by channel
unfoldable pub coding_bits : SbcParameters → List ℕ → List (List ℕ) → List Blocks → List Bool
coding_bits p flags factors samples =
    row_bits flags 1 (join_count p)
    ++ (row_bits (get_or factors 0 []) 4 p.subbands
    ++ (row_bits (get_or factors 1 []) 4 (p.subbands * (channels p - 1))
    ++ value_bits_of samples (allocation_table p factors) factors p.blocks))

-- and the bytes of the frame
unfoldable pub coding_bytes : SbcParameters → List ℕ → List (List ℕ) → List Blocks → List ℕ
coding_bytes p flags factors samples = framed p (filled (frame_length p - 4) (coding_bits p flags factors samples))
