-- An encoder as numbers, and its calls on them, as those of a decoder. A state stands for an encoder where its parameters are a set.
use Rattle.std.specs.Prelude.{ℕ, List, [], ◌∷◌, ℤ, get_or, if◌then◌else◌}
use Rattle.laws.specs.Answers.{refuses}
use Rattle.sbc_encoder.specs.Encode.{Encoded, encoder_of, reset_encoder, encode}
use Rattle.sbc_encoder.specs.Told.{encoder_with}
use Rattle.sbc_encoder.specs.declared.SbcEncoder.{SbcEncoder}
use Rattle.abi_numbers.specs.Numbers.{is_set, parameters_in, numbers_of, is_accepted, coded_numbers}
use Rattle.abi_numbers.specs.declared.ParameterNumbers.{ParameterNumbers}
use Rattle.abi_numbers.specs.declared.CodedNumbers.{CodedNumbers}
use Rattle.abi_encoder.specs.declared.EncoderState.{EncoderState}

-- ---- the encoder of a state, and the state of an encoder

unfoldable pub encoder_in : EncoderState → SbcEncoder
encoder_in s = encoder_with (parameters_in s.parameters) (record { history = s.left } ∷ record { history = s.right } ∷ [])

-- the last samples of a channel; an encoder has two
abbrev pub history : SbcEncoder → ℕ → List ℤ
history e channel = (get_or e.analysis channel (record { history = [] })).history

unfoldable pub state_of : SbcEncoder → EncoderState
state_of e =
    record {
      left = history e 0;
      right = history e 1;
      parameters = numbers_of e.parameters;
    }

-- ---- the calls

pub record EncodeAfter : Type 0 where
  pub answer : CodedNumbers
  pub state : EncoderState
  pub output : List ℕ

unfoldable pub after_encode : Encoded → EncodeAfter
after_encode r = record { answer = coded_numbers r.answer; state = state_of r.encoder; output = r.output }

unfoldable pub encode_state : EncoderState → List ℤ → List ℕ → EncodeAfter
encode_state s pcm output =
    if is_set s.parameters then after_encode (encode (encoder_in s) pcm output) else
    record { answer = coded_numbers (refuses 3); state = s; output = output }

-- whether the parameters of a new encoder are accepted, 0 or 3, and the state
pub record CreateAfter : Type 0 where
  pub refusal : ℕ
  pub state : EncoderState

-- a new encoder in a state's place, where the parameters are accepted
unfoldable pub create_state : EncoderState → ParameterNumbers → CreateAfter
create_state s n =
    if is_accepted n then record { refusal = 0; state = state_of (encoder_of (parameters_in n)) } else record { refusal = 3; state = s }

unfoldable pub reset_state : EncoderState → EncoderState
reset_state s = if is_set s.parameters then state_of (reset_encoder (encoder_in s)) else s
