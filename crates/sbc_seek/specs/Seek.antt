-- Where decoding resumes for a position, under the parameters of the last accepted frame. Positions and the skip count
-- samples of one channel.
-- From document 01, "Calls" and "Given back".
use Rattle.std.specs.Prelude.{ℕ, ◌-◌, ◌*◌, ◌/◌, ◌^◌, ◌&&◌, eqb, ltb, if◌then◌else◌, Option, None, Some}
use Rattle.laws.specs.Answers.{Told, gives, refuses}
use Rattle.sbc_parameters.specs.Parameters.{accepted}
use Rattle.sbc_parameters.specs.Sizes.{samples_per_channel, frame_length}
use Rattle.sbc_parameters.specs.declared.SbcParameters.{SbcParameters}
use Rattle.sbc_seek.specs.declared.SeekRequest.{SeekRequest}

-- ---- in a stream of frames with these parameters

-- the block of the position, 9 blocks back, not below 0, and that block's frame
unfoldable pub seek_frame : SbcParameters → ℕ → ℕ
seek_frame p position = (position / p.subbands - 9) / p.blocks

-- the first byte of that frame
unfoldable pub seek_offset : SbcParameters → ℕ → ℕ
seek_offset p position = seek_frame p position * frame_length p

-- the positions left to skip: those of that frame and of the frames behind it that come before the position
unfoldable pub seek_skip : SbcParameters → ℕ → ℕ
seek_skip p position = position - seek_frame p position * samples_per_channel p

-- ---- what a seek answers: the byte offset and the positions left to skip, or the number of its refusal

abbrev pub request_of : ℕ → ℕ → SeekRequest
request_of offset skip = record { byte_offset = offset; skip_frames = skip }

-- byte offset over u64: InvalidParameter; so too with parameters that are not accepted, which no frame has
unfoldable pub request_in : SbcParameters → ℕ → Told SeekRequest
request_in p position =
    if accepted p && ltb (seek_offset p position) (2 ^ 64) then gives (request_of (seek_offset p position) (seek_skip p position)) else refuses 3

-- nothing decoded yet: (0, 0) for position 0, and every other is Incomplete
unfoldable pub first_request : ℕ → Told SeekRequest
first_request position = if eqb position 0 then gives (request_of 0 0) else refuses 1

-- by whether a frame was accepted yet
unfoldable pub seek_request : Option SbcParameters → ℕ → Told SeekRequest
seek_request None position = first_request position
seek_request (Some p) position = request_in p position
