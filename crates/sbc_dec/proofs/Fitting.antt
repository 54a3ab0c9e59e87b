-- A decode call that is not refused consumed no more than its input, and produced no more than its output has room for.
-- Assumes nothing.
use Prim.Native.Nat.{ℕ, ◌≤◌}
use mathlib.Core.Path.{◌≡◌, sym, ap, subst}
use mathlib.Core.List.{List}
use lib.ListN.{length}
use lib.IntN.{ℤ}
use Rattle.std.specs.Prelude.{Ok}
use Rattle.laws.specs.Answers.{gives}
use Rattle.codec.specs.declared.Progress.{Progress}
use Rattle.sbc_decoder.specs.Decode.{decode, decode_all}
use Rattle.sbc_decoder.specs.Told.{told_decoded}
use Rattle.sbc_decoder.specs.declared.SbcDecoder.{SbcDecoder}
use Rattle.sbc_decoder.proofs.Answering.{given-progress}
use Rattle.sbc_decoder.proofs.Taking.{decode-fits}

pub given-fits : (d : SbcDecoder) (input : List ℕ) (output : List ℤ) (progress : Progress) → (decode d input output).answer ≡ gives progress
    → (progress.consumed ≤ length input) × (progress.produced ≤ length output)
unfolding decode
given-fits d input output progress q =
    let all = decode_all d input output in
    let fits = decode-fits d input output in
    subst (λ p. (p.consumed ≤ length input) × (p.produced ≤ length output)) (given-progress all.progress progress all.ending q)
    (fits.all_read, fits.all-written)

-- as the code tells it
pub told-fits : (d next : SbcDecoder) (input : List ℕ) (output exit : List ℤ) (progress : Progress)
    → told_decoded (Ok progress) next exit ≡ decode d input output → (progress.consumed ≤ length input) × (progress.produced ≤ length output)
told-fits d next input output exit progress q = given-fits d input output progress (ap (λ r. r.answer) (sym q))
