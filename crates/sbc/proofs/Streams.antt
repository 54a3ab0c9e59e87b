-- Written frames end to end: a piece of the stream, and two streams that are the same in one channel.
-- Assumes nothing.
use Prim.Native.Nat.{ℕ, zero, suc, ◌+◌, ◌-◌, ◌*◌, ◌≤◌, min}
use mathlib.Core.Path.{◌≡◌, refl, sym, ap, ap₂, ◌∙◌}
use mathlib.Core.List.{List, [], ◌∷◌, ◌++◌, append_assoc}
use native.Mathlib.Nat.{zero-mul, suc-mul}
use native.Mathlib.Nat.{sub-zero, zero-sub, suc-sub-suc}
use native.Mathlib.Omega.{arith}
use lib.ListN.{length, take, drop, length-take, length-drop}
use lib.Seq.{take-take, take-nil, take-append-le, take_all, drop_at, drop-drop}
use Rattle.sbc_parameters.specs.declared.SbcParameters.{SbcParameters}
use Rattle.sbc_parameters.specs.Sizes.{frame_length}
use Rattle.sbc_frame.specs.Fields.{Fields, WellFormed}
use Rattle.sbc_frame.specs.Layout.{pack}
use Rattle.sbc_frame.proofs.Written.{length-pack}
use Rattle.sbc_frame.proofs.Coding.{SameFields}
use Rattle.sbc_encoder.specs.Encode.{pack_all}
use Rattle.sbc_encoder.proofs.Writing.{length-pack_all}

-- ---- lists
drop-nil {ℓ} : {A : Type ℓ} (n : ℕ) → drop {A = A} n [] ≡ []
drop-nil zero = refl
drop-nil (suc n) = refl

drop-take {ℓ} : {A : Type ℓ} (n m : ℕ) (l : List A) → drop n (take m l) ≡ take (m - n) (drop n l)
drop-take zero m l = ap (λ k. take k l) (sym (sub-zero m))
drop-take (suc n) zero l = ap (λ k. take k (drop (suc n) l)) (sym (zero-sub (suc n)))
drop-take (suc n) (suc m) [] = sym (take-nil (suc m - suc n))
drop-take (suc n) (suc m) (x ∷ l) = drop-take n m l ∙ ap (λ k. take k (drop n l)) (sym (suc-sub-suc m n))

-- ---- frames end to end
module _ (p : SbcParameters) where
  -- one list of frames behind another
  pub pack_all-append : (fs gs : List Fields) → pack_all p (fs ++ gs) ≡ pack_all p fs ++ pack_all p gs
  unfolding pack_all
  pack_all-append [] gs = refl
  pack_all-append (f ∷ fs) gs =
      ap (λ l. pack p f ++ l) (pack_all-append fs gs) ∙ sym (append_assoc (pack p f) (pack_all p fs) (pack_all p gs))

  -- what begins at frame n, also past the end
  pub drop-pack_all : (n : ℕ) (fs : List Fields) → drop (n * frame_length p) (pack_all p fs) ≡ pack_all p (drop n fs)
  unfolding pack_all
  drop-pack_all zero fs = ap (λ k. drop k (pack_all p fs)) (zero-mul (frame_length p))
  drop-pack_all (suc n) [] = drop-nil (suc n * frame_length p)
  drop-pack_all (suc n) (f ∷ fs) =
      let e : suc n * frame_length p ≡ frame_length p + n * frame_length p = omega (arith, suc-mul n (frame_length p)) in
      ap (λ k. drop k (pack p f ++ pack_all p fs)) e
      ∙ sym (drop-drop (n * frame_length p) (frame_length p) (pack p f ++ pack_all p fs))
      ∙ ap (drop (n * frame_length p)) (drop_at (pack p f) (pack_all p fs) (frame_length p) (length-pack p f))
      ∙ drop-pack_all n fs

  -- a stream with more frames behind it
  pub longer : (stream more : List ℕ) (fs gs : List Fields) → stream ≡ pack_all p fs → more ≡ pack_all p gs
      → stream ++ more ≡ pack_all p (fs ++ gs)
  longer stream more fs gs e q = ap₂ {C = List ℕ} (λ x y. x ++ y) e q ∙ sym (pack_all-append fs gs)

  -- a piece that begins at a frame
  pub piece-from : (start size : ℕ) (stream : List ℕ) (fs : List Fields) → stream ≡ pack_all p fs
      → take size (drop (start * frame_length p) stream) ≡ take size (pack_all p (drop start fs))
  piece-from start size stream fs e =
      ap (λ l. take size (drop (start * frame_length p) l)) e ∙ ap (take size) (drop-pack_all start fs)

-- ---- a piece of a stream
module _ (p : SbcParameters) (f : Fields) (fs : List Fields) (len : ℕ) where
  -- its first n bytes are those of its first frame
  pub first_part : (n : ℕ) → n ≤ length (take len (pack_all p (f ∷ fs))) → n ≤ frame_length p
      → take n (take len (pack_all p (f ∷ fs))) ≡ take n (pack p f)
  unfolding pack_all
  first_part n h hn =
      take-take n len (pack p f ++ pack_all p fs) (omega (arith, length-take len (pack p f ++ pack_all p fs)))
      ∙ take-append-le n (pack p f) (pack_all p fs) (omega (arith, length-pack p f))

  -- its first frame, where it is whole
  pub first_frame : frame_length p ≤ length (take len (pack_all p (f ∷ fs))) → take (frame_length p) (take len (pack_all p (f ∷ fs))) ≡ pack p f
  first_frame h = first_part (frame_length p) h (omega arith) ∙ take_all (frame_length p) (pack p f) (omega (arith, length-pack p f))

  -- what is behind its first frame
  pub piece-rest : drop (frame_length p) (take len (pack_all p (f ∷ fs))) ≡ take (len - frame_length p) (pack_all p fs)
  unfolding pack_all
  piece-rest =
      drop-take (frame_length p) len (pack p f ++ pack_all p fs)
      ∙ ap (take (len - frame_length p)) (drop_at (pack p f) (pack_all p fs) (frame_length p) (length-pack p f))

  -- and its length
  pub rest-length : length (take (len - frame_length p) (pack_all p fs)) ≡ length (take len (pack_all p (f ∷ fs))) - frame_length p
  rest-length = sym (ap length piece-rest) ∙ length-drop (frame_length p) (take len (pack_all p (f ∷ fs)))

-- ---- a list of fields that frames can hold
pub data AllFit (p : SbcParameters) : List Fields → Type 0 where
  none-fit : AllFit p []
  one-fits : {f : Fields} {fs : List Fields} → WellFormed p f → AllFit p fs → AllFit p (f ∷ fs)

module _ (p : SbcParameters) where
  -- also of one behind the other
  pub fit_append : {fs gs : List Fields} → AllFit p fs → AllFit p gs → AllFit p (fs ++ gs)
  fit_append none-fit t = t
  fit_append (one-fits w r) t = one-fits w (fit_append r t)

  -- also from frame n on
  pub fit-drop : (n : ℕ) {fs : List Fields} → AllFit p fs → AllFit p (drop n fs)
  fit-drop zero s = s
  fit-drop (suc n) none-fit = none-fit
  fit-drop (suc n) (one-fits w r) = fit-drop n r

-- ---- two lists of frames that are the same in channel c, all of which a frame can hold
pub data SameFrames (p : SbcParameters) (c : ℕ) : List Fields → List Fields → Type 0 where
  no_frames : SameFrames p c [] []
  one-frame : {f g : Fields} {fs gs : List Fields} → WellFormed p f → WellFormed p g → SameFields c f g → SameFrames p c fs gs
      → SameFrames p c (f ∷ fs) (g ∷ gs)

module _ (p : SbcParameters) (c : ℕ) where
  -- also of one behind the other
  pub same-append : {fs gs fs' gs' : List Fields} → SameFrames p c fs gs → SameFrames p c fs' gs' → SameFrames p c (fs ++ fs') (gs ++ gs')
  same-append no_frames t = t
  same-append (one-frame wf wg s r) t = one-frame wf wg s (same-append r t)

  -- also from frame n on
  pub same_drop : (n : ℕ) {fs gs : List Fields} → SameFrames p c fs gs → SameFrames p c (drop n fs) (drop n gs)
  same_drop zero s = s
  same_drop (suc n) no_frames = no_frames
  same_drop (suc n) (one-frame wf wg s r) = same_drop n r

  -- also the first n
  pub same-take : (n : ℕ) {fs gs : List Fields} → SameFrames p c fs gs → SameFrames p c (take n fs) (take n gs)
  same-take zero s = no_frames
  same-take (suc n) no_frames = no_frames
  same-take (suc n) (one-frame wf wg s r) = one-frame wf wg s (same-take n r)

  -- each list by itself
  pub fit-left : {fs gs : List Fields} → SameFrames p c fs gs → AllFit p fs
  fit-left no_frames = none-fit
  fit-left (one-frame wf wg s r) = one-fits wf (fit-left r)

  pub fit-right : {fs gs : List Fields} → SameFrames p c fs gs → AllFit p gs
  fit-right no_frames = none-fit
  fit-right (one-frame wf wg s r) = one-fits wg (fit-right r)

  -- they have as many frames
  pub same_length : {fs gs : List Fields} → SameFrames p c fs gs → length fs ≡ length gs
  same_length no_frames = refl
  same_length (one-frame wf wg s r) = ap suc (same_length r)

  -- pieces of them have equal lengths
  pub pieces-length : {fs gs : List Fields} → SameFrames p c fs gs → (len : ℕ)
      → length (take len (pack_all p fs)) ≡ length (take len (pack_all p gs))
  pieces-length {fs} {gs} s len =
      length-take len (pack_all p fs)
      ∙ ap (min len) (length-pack_all p fs ∙ ap (λ n. n * frame_length p) (same_length s) ∙ sym (length-pack_all p gs))
      ∙ sym (length-take len (pack_all p gs))
