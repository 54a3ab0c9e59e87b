-- How the steps of a run go together.
-- Assumes nothing.
use Rattle.std.proofs.Common.{◌≡◌, ℕ, ◌+◌, List, [], ◌++◌, take, drop, Option, ap, ◌∙◌, append-nil, append_assoc}
use Rattle.std.proofs.KnownBytes.{Consumes-nil, Consumes-trans}
use Rattle.std.proofs.Math.Seq.{take-add}
use Rattle.std.specs.Io.KnownBytes.{Consumes}
use Rattle.stream.specs.Runs.{Reaches, starts, comes, takes}

module _ {C : Type 0} {codes : C → List ℕ → ℕ → C → Type 0} where
  -- a call that saw what was held, and what is left then
  pub takes-so : {first next last : C} {before came held seen left : List ℕ} {used : ℕ} → Reaches codes first before came next held
      → seen ≡ held → codes next seen used last → left ≡ drop used held → Reaches codes first before came last left
  takes-so {last = last} {used = used} r s c e = rw e (takes {last = last} used r (rw (← s) c))

  -- one way behind another
  joined : {first next last : C} {before came held more left : List ℕ} → Reaches codes first before came next held
      → Reaches codes next held more last left → Reaches codes first before (came ++ more) last left
  joined {came = came} r starts = rw append-nil r
  joined {came = came} r (comes next s) = rw (← append_assoc) (comes next (joined r s))
  joined r (takes used s c) = takes used (joined r s) c

  -- and while nothing comes
  pub going-on : {first next last : C} {before came held left : List ℕ} → Reaches codes first before came next held
      → Reaches codes next held [] last left → Reaches codes first before came last left
  going-on r s = rw append-nil at (joined r s)

  -- before anything came
  pub none-came : (reader : Option (List ℕ)) (coder : C) (held : List ℕ)
      → (came : List ℕ) × Consumes reader reader came × Reaches codes coder held came coder held
  none-came reader coder held = ([], Consumes-nil reader, starts)

  -- after what is held is coded, until a call takes nothing, and a read, which put m bytes behind the n that were left
  pub more-came : {first next before_last last : C} {before came held left : List ℕ} (from till end : Option (List ℕ)) (bytes : List ℕ) (n m count : ℕ)
      → Consumes from till came → Reaches codes first before came next held → Reaches codes next held [] before_last left
      → codes before_last left 0 last → Consumes till end (take m (drop n bytes)) → count ≡ n + m → take n bytes ≡ left
      → (came : List ℕ) × Consumes from end came × Reaches codes first before came last (take count bytes)
  more-came {came = came} from till end bytes n m count k r s c l e q =
      let more = take m (drop n bytes) in
      let now : take count bytes ≡ _ ++ more = ap (λ i. take i bytes) e ∙ take-add n m bytes ∙ ap (λ b. b ++ more) q in
      (came ++ more, Consumes-trans from till end came more k l, rw now (comes more (takes 0 (going-on r s) c)))
