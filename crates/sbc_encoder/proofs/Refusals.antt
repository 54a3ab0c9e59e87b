-- A refusal of encode leaves all unchanged: the encoder and the output.
-- Assumes nothing.
use Prim.Native.Nat.{ℕ}
use mathlib.Core.Path.{◌≡◌, refl}
use mathlib.Core.List.{List}
use lib.IntN.{ℤ}
use Rattle.laws.specs.Answers.{refuses}
use Rattle.laws.proofs.Answers.{gives-refuses}
use Rattle.sbc_encoder.specs.Encode.{encode_frames, encode}
use Rattle.sbc_encoder.specs.declared.SbcEncoder.{SbcEncoder}
use Rattle.sbc_encoder.proofs.Writing.{encode-cases}

-- a refused encode call leaves the encoder and the output
pub encode-refused : (e : SbcEncoder) (pcm : List ℤ) (output : List ℕ) (n : ℕ) → (encode e pcm output).answer ≡ refuses n
    → ((encode e pcm output).encoder ≡ e) × ((encode e pcm output).output ≡ output)
unfolding encode_frames
encode-refused e pcm output n =
    encode-cases (λ r. r.answer ≡ refuses n → (r.encoder ≡ e) × (r.output ≡ output)) e pcm output
    (λ a q. (refl, refl)) (λ a l q. (refl, refl)) (λ a l q. absurd (gives-refuses _ n q))
