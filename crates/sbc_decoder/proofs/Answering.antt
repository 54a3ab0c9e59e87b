-- What an answer says: a refusal and a progress are told apart, and what decode answers of the frames that it took.
-- Assumes nothing.
use Prim.Native.Nat.{ℕ}
use mathlib.Core.Path.{◌≡◌, refl, sym}
use mathlib.Core.Bool.{Bool, true, false}
use lib.Dec.{eqb}
use borrow.Author.Tests.{eqb-true}
use Rattle.std.specs.Prelude.{if◌then◌else◌}
use Rattle.laws.specs.Answers.{gives, refuses}
use Rattle.laws.proofs.Answers.{gives_same, gives-refuses}
use Rattle.sbc_decoder.specs.Decode.{Step, none_whole, refused, taken, answer_of}
use Rattle.codec.specs.Answers.{refused_after}
use Rattle.codec.specs.declared.Progress.{Progress}

-- a refusal means that no frame was taken
pub refused_none : (progress : Progress) (s : Step) (n : ℕ) → answer_of progress s ≡ refuses n → progress.consumed ≡ 0
unfolding answer_of refused_after
refused_none progress none_whole n q = absurd (gives-refuses progress n q)
refused_none progress (taken more) n q = absurd (gives-refuses progress n q)
refused_none progress (refused m) n q = go (eqb progress.consumed 0) refl q
  where
    go : (t : Bool) → eqb progress.consumed 0 ≡ t → (if t then refuses m else gives progress) ≡ refuses n → progress.consumed ≡ 0
    go true t q = eqb-true progress.consumed 0 t
    go false t q = absurd (gives-refuses progress n q)

-- a progress that is given is that of the frames
pub given-progress : (progress given : Progress) (s : Step) → answer_of progress s ≡ gives given → progress ≡ given
unfolding answer_of refused_after
given-progress progress given none_whole q = gives_same progress given q
given-progress progress given (taken more) q = gives_same progress given q
given-progress progress given (refused n) q = go (eqb progress.consumed 0) q
  where
    go : (t : Bool) → (if t then refuses n else gives progress) ≡ gives given → progress ≡ given
    go true q = absurd (gives-refuses given n (sym q))
    go false q = gives_same progress given q
