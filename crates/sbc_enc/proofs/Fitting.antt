-- An encode call that is not refused consumed no more than its input, and produced no more than its output has room for.
-- Assumes nothing.
use Prim.Native.Nat.{ℕ, ◌*◌, ◌/◌, ◌≤◌, min}
use mathlib.Core.Path.{◌≡◌, sym, ap, subst}
use mathlib.Core.List.{List}
use native.Mathlib.Omega.{arith}
use lib.ListN.{length, take}
use lib.IntN.{ℤ}
use Rattle.std.specs.Prelude.{Ok}
use Rattle.laws.specs.Answers.{gives}
use Rattle.laws.proofs.Answers.{gives_same, gives-refuses}
use Rattle.laws.proofs.Lists.{length-build}
use Rattle.pcm.specs.Samples.{samples_in}
use Rattle.sbc_parameters.specs.Sizes.{frame_length, frame_samples}
use Rattle.codec.specs.Answers.{progress_of}
use Rattle.codec.specs.declared.Progress.{Progress}
use Rattle.codec.proofs.Fitting.{fits_in, fits_out}
use Rattle.sbc_encoder.specs.Encode.{encode_frames, encode}
use Rattle.sbc_encoder.specs.Told.{told_encoded}
use Rattle.sbc_encoder.specs.declared.SbcEncoder.{SbcEncoder}
use Rattle.sbc_encoder.proofs.Writing.{encode-cases}

module _ (e : SbcEncoder) (pcm : List ℤ) (output : List ℕ) (progress : Progress) where
  abbrev Fits : Progress → Type 0
  Fits p = (p.consumed ≤ length pcm) × (p.produced ≤ length output)

  pub given-fits : (encode e pcm output).answer ≡ gives progress → (progress.consumed ≤ length pcm) × (progress.produced ≤ length output)
  unfolding encode_frames progress_of
  given-fits =
      let i = length pcm in
      let o = length output in
      let l = frame_samples e.parameters in
      let s = frame_length e.parameters in
      encode-cases (λ r. r.answer ≡ gives progress → Fits progress) e pcm output (λ _ q. absurd (gives-refuses progress 3 (sym q)))
      (λ _ _ q. absurd (gives-refuses progress 5 (sym q))) (λ _ _ q. subst Fits (gives_same _ progress q) (fits_in i l o s, fits_out i l o s))

samples-count : (n : ℕ) (bytes : List ℕ) → length (samples_in n bytes) ≡ n
unfolding samples_in
samples-count n bytes = length-build n _

-- so does one of as many samples as the bytes and the room hold: the bytes are at least two for each
pub given-within : (e : SbcEncoder) (raw : List ℕ) (room : ℕ) (output : List ℕ) (progress : Progress)
    → let count = min (length raw / 2) room in
    (encode e (samples_in count (take (2 * count) raw)) output).answer ≡ gives progress
    → (2 * progress.consumed ≤ length raw) × (progress.produced ≤ length output)
given-within e raw room output progress q =
    let count = min (length raw / 2) room in
    let fits = given-fits e (samples_in count (take (2 * count) raw)) output progress q in
    (omega (arith, fits.0, samples-count count (take (2 * count) raw)), fits.1)

-- as the code tells it
pub told-within : (e next : SbcEncoder) (raw : List ℕ) (room : ℕ) (output exit : List ℕ) (progress : Progress)
    → let count = min (length raw / 2) room in
    told_encoded (Ok progress) next exit ≡ encode e (samples_in count (take (2 * count) raw)) output
    → (2 * progress.consumed ≤ length raw) × (progress.produced ≤ length output)
told-within e next raw room output exit progress q = given-within e raw room output progress (ap (λ r. r.answer) (sym q))
