-- A call on a lent state with nothing beside it and no answer, whatever it does: its signature and contract, and how a walk of it ends.
-- Assumes nothing.
use mathlib.Core.Path.{refl}
use Prim.Native.Nat.{ℕ}
use mathlib.Core.List.{[], ◌∷◌, List}
use seplogic.Ra.Ura.{Ura}
use mir.Syntax.{named}
use mir.Val.{Val, vunit, vptr}
use base.Logic.{SProp, ent, sep, emp, via, fst∗}
use base.Fml.{GName, Lft, Share, flft, fobs, fbor}
use types.Logic.{Logic}
use contract.Monad.{Fun, fact}
use types.Kit.{‵, ◌$◌, ◌∵◌, !, qed, move, join, fjoin, fjoin3, feq_i, suffices, frame, done}
use types.SemTy.{Body}
use denote.Memory.{mem}
use denote.Ref.{MutBor, mut_vals, mut_Tells}
use denote.Signature.{Signature, plain}
use denote.Steps.{nothing}
use denote.Triple.Clauses.{Ended, Clauses}
use denote.Triple.Entry.{on_entry}
use denote.Triple.Walked.{says, Stays, stay_ref, walk_of, AllGo, Goes-ref, Walks, ends_at, walked}
use denote.Builtin.{unit, RefMutOf}
use denote.Exit.{yes}
use Rattle.lending.proofs.Types.{Struct, state-row}

module _ (T : Struct) where
  abbrev pub signature : Signature
  signature = record {
    lifetimes = 1;
    outlives = [];
    params = RefMutOf (0 ∷ []) tt (plain (λ _. state-row T)) (λ _. tt) ∷ [];
    result = plain (λ _. unit);
  }

  abbrev pub ended : Ended
  ended = record { signature = signature; kept = (yes, tt) }

  abbrev pub stayed : Stays ended.signature.params ended.kept
  stayed = (stay_ref (0 ∷ []) tt (plain (λ _. state-row T)), tt)

  pub goes : (M : Type 1) (𝓤 : Ura M) (𝓛 : Logic 𝓤) → AllGo 𝓛 1 signature.params ended.kept stayed
  goes M 𝓤 𝓛 = (Goes-ref 𝓛 1 0 tt (plain (λ _. state-row T)), tt)

module _ (T : Struct) (Says : T.type.D → T.type.D → Type 0) where
  abbrev pub clauses : {M : Type 1} (𝓤 : Ura M) → Clauses 𝓤 (ended T)
  clauses 𝓤 κs a = record {
    ghost = Unit {0};
    requires = λ _. emp 𝓤;
    ensures = λ _ r end. fact 𝓤 (Says a.0.now end.0.now);
  }

  module _ {M : Type 1} {𝓤 : Ura M} (𝓛 : Logic 𝓤) (κ : Lft) (q : Share) (b o : ℕ) (γ : GName) (h : T.type.D) where
    open 𝓛 use {A}

    abbrev pub arg : MutBor T.type.D × Unit {0}
    arg = (record { ref_ptr = (b, o); ghost_name = γ; now = h }, tt)

    abbrev pub at : List Val × Unit {0}
    at = (vptr b o ∷ [], tt)

    abbrev pub Post : Val → SProp 𝓤
    Post = (walk_of 𝓛 (ended T) (stayed T) (clauses 𝓤)).post (((κ, tt), (q, tt), tt, arg, at), tt)

    pub exits : (r : T.type.D) → Says h r
        → ent 𝓤 (sep 𝓤 (A.obs γ ((state-row T).coded.code r)) (sep 𝓤 (A.bor κ (Body (mem (state-row T)) b o γ)) (A.lft κ q))) (Post vunit)
    exits r e =
        qed 𝓛 (‵ (fobs γ ((state-row T).coded.code r)) ∷ ‵ (fbor κ (Body (mem (state-row T)) b o γ)) ∷ ‵ (flft κ q) ∷ []) ∵
        suffices ! _ (ends_at 𝓛 (ended T) (stayed T) (clauses 𝓤) (((κ, tt), (q, tt), tt, arg, at), tt) vunit tt (r, tt) (tt, tt)) $
        says ! e $ nothing ! $ move ! (3 ∷ 0 ∷ []) $ join ! $
        frame ! $ feq_i ! (List Val) (vptr b o ∷ []) (vptr b o ∷ []) refl $ fjoin3 ! $ nothing ! $ move ! (1 ∷ 0 ∷ []) $ fjoin ! $
        feq_i ! (List Val) (vunit ∷ []) (vunit ∷ []) refl $ move ! (1 ∷ 0 ∷ []) $ done !

  -- from a walk at any state
  pub walks : {M : Type 1} {𝓤 : Ura M} (𝓛 : Logic 𝓤) (run : Fun 𝓤)
      → ((κ : Lft) (q : Share) (b o : ℕ) (γ : GName) (h : T.type.D)
      → ent 𝓤 (on_entry 𝓛 (signature T) (κ, tt) (q, tt) (arg 𝓛 κ q b o γ h) (at 𝓛 κ q b o γ h)) (run (vptr b o ∷ [])
      (Post 𝓛 κ q b o γ h)))
      → Walks 𝓛 (ended T) (stayed T) run (clauses 𝓤)
  walks {𝓤 = 𝓤} 𝓛 run walk = walked 𝓛 (ended T) (stayed T) (clauses 𝓤) run (λ κs. (mut_vals, tt)) (λ κs.
      (mut_Tells (named 0) κs.0 (state-row T), tt))
      (λ κs qs bounds a _ _. via 𝓤 _ (fst∗ 𝓤 _ (emp 𝓤))
      (walk κs.0 qs.0 a.0.ref_ptr.0 a.0.ref_ptr.1 a.0.ghost_name a.0.now))
