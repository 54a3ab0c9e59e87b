-- A decoder as numbers, and its calls on them: what the state stands for goes through the call of sbc_decoder, and the
-- result is numbers again. A state that stands for no decoder is refused with InvalidParameter, and stays.
use Rattle.std.specs.Prelude.{ℕ, ◌+◌, Bool, ◌&&◌, List, [], ◌∷◌, eqb, ltb, ℤ, get_or, if◌then◌else◌, Option, None, Some}
use Rattle.laws.specs.Answers.{Told, gives, refuses}
use Rattle.sbc_filterbank.specs.declared.synthesis.Synthesis.{Synthesis}
use Rattle.sbc_decoder.specs.Decode.{Decoded, finish, decode}
use Rattle.sbc_decoder.specs.Seek.{Sought, reset, seek}
use Rattle.sbc_parameters.specs.declared.SbcParameters.{SbcParameters}
use Rattle.sbc_decoder.specs.declared.SbcDecoder.{SbcDecoder}
use Rattle.sbc_seek.specs.declared.SeekRequest.{SeekRequest}
use Rattle.abi_numbers.specs.Numbers.{is_set, parameters_in, numbers_of, no_numbers, coded_numbers}
use Rattle.abi_numbers.specs.declared.ParameterNumbers.{ParameterNumbers}
use Rattle.abi_numbers.specs.declared.CodedNumbers.{CodedNumbers}
use Rattle.abi_decoder.specs.declared.SeekNumbers.{SeekNumbers}
use Rattle.abi_decoder.specs.declared.DecoderState.{DecoderState}

-- ---- the states that stand for a decoder

-- all numbers are 0
unfoldable pub is_blank : ParameterNumbers → Bool
is_blank n = eqb (n.sample_rate + (n.channel_mode + n.allocation + n.blocks + n.subbands) + n.bitpool) 0

-- 0 and zeros for no last frame, 1 and a set for one
abbrev pub is_held : ℕ → ParameterNumbers → Bool
is_held has n = if eqb has 0 then is_blank n else (eqb has 1 && is_set n)

unfoldable pub is_decoder : DecoderState → Bool
is_decoder s = ltb s.finishing 2 && is_held s.has_parameters s.parameters

-- ---- the decoder of a state, and the state of a decoder

abbrev pub last_in : ℕ → ParameterNumbers → Option SbcParameters
last_in has n = if eqb has 1 then Some (parameters_in n) else None

abbrev pub synthesis_of : List ℤ → ℕ → Synthesis
synthesis_of values newest = record { values = values; newest = newest }

unfoldable pub decoder_in : DecoderState → SbcDecoder
decoder_in s =
    record {
      parameters = last_in s.has_parameters s.parameters;
      synthesis = synthesis_of s.left s.left_newest ∷ synthesis_of s.right s.right_newest ∷ [];
      finishing = eqb s.finishing 1;
      skip = s.skip;
    }

abbrev pub held_number : Option SbcParameters → ℕ
held_number None = 0
held_number (Some p) = 1

abbrev pub held_numbers : Option SbcParameters → ParameterNumbers
held_numbers None = no_numbers
held_numbers (Some p) = numbers_of p

-- where a list has no such channel; a decoder has two
abbrev pub absent : Synthesis
absent = record { values = []; newest = 0 }

unfoldable pub state_of : SbcDecoder → DecoderState
state_of d =
    record {
      left = (get_or d.synthesis 0 absent).values;
      right = (get_or d.synthesis 1 absent).values;
      left_newest = (get_or d.synthesis 0 absent).newest;
      right_newest = (get_or d.synthesis 1 absent).newest;
      skip = d.skip;
      parameters = held_numbers d.parameters;
      has_parameters = held_number d.parameters;
      finishing = if d.finishing then 1 else 0;
    }

-- ---- the calls

pub record DecodeAfter : Type 0 where
  pub answer : CodedNumbers
  pub state : DecoderState
  pub output : List ℤ

unfoldable pub after_decode : Decoded → DecodeAfter
after_decode r = record { answer = coded_numbers r.answer; state = state_of r.decoder; output = r.output }

unfoldable pub decode_state : DecoderState → List ℕ → List ℤ → DecodeAfter
decode_state s input output =
    if is_decoder s then after_decode (decode (decoder_in s) input output) else
    record { answer = coded_numbers (refuses 3); state = s; output = output }

unfoldable pub seek_numbers : Told SeekRequest → SeekNumbers
seek_numbers (gives request) = record { byte_offset = request.byte_offset; skip_frames = request.skip_frames; refusal = 0 }
seek_numbers (refuses n) = record { byte_offset = 0; skip_frames = 0; refusal = n }

pub record SeekAfter : Type 0 where
  pub answer : SeekNumbers
  pub state : DecoderState

unfoldable pub after_seek : Sought → SeekAfter
after_seek r = record { answer = seek_numbers r.answer; state = state_of r.decoder }

unfoldable pub seek_state : DecoderState → ℕ → SeekAfter
seek_state s position =
    if is_decoder s then after_seek (seek (decoder_in s) position) else record { answer = seek_numbers (refuses 3); state = s }

-- with nothing to answer, a state that stands for no decoder only stays
unfoldable pub reset_state : DecoderState → DecoderState
reset_state s = if is_decoder s then state_of (reset (decoder_in s)) else s

unfoldable pub finish_state : DecoderState → DecoderState
finish_state s = if is_decoder s then state_of (finish (decoder_in s)) else s
