-- A thin call on a state that is lent, with nothing beside it:
--     fn call(&mut self) {
--         *self = State::core(*self);
--     }
-- It says of the state at exit what `core` says of what it gives back.
-- A walk of its MIR, by hand, for any state. The borrow is opened, the struct is copied out and passed by value, and the borrow is closed at
-- what the core gave back. No field of the state is named: it is read whole and written whole.
-- Assumes nothing.
use mathlib.Core.Path.{refl}
use Prim.Native.Nat.{ℕ}
use mathlib.Core.List.{[], ◌∷◌}
use seplogic.Ra.Ura.{Ura}
use base.Fraction.{full_share}
use mir.Syntax.{Callee, Fn, local, value_local, named, mut, ty_ref, ty_unit, place, deref, copy, opd_unit, rv_opd, assign, seq, call, return}
use mir.Val.{Val, vptr}
use base.Logic.{SProp, ent, emp, snd∗, ex_e, id⊢}
use base.Fml.{GName, Lft, Share, ftrue, flft}
use prog.Memory.{Memory}
use prog.Routine.{Routine}
use prog.Wp.{Calls, Loops, WpFn}
use types.Logic.{Logic, sem}
use contract.Monad.{Fun, fact}
use types.Kit.{‵, raw, ◌⊛◌, some, later, ◌$◌, ◌∵◌, !, qed, by, move, keep, drop, use1, split, join, pick, await, fsplit, fsplit3, frame, done}
use types.Run.{look, look_raw, init, store_raw, forget, stop, hop, from, load, unit_lit, of_opd, and_then, no_more, assigns, land, returns, enter, alloc1, alloc0, params1, pass1, pass0, free1, free0}
use sound.WpLaws.{FmC}
use denote.RattleType.{owns}
use denote.Laws.{Is, shows}
use denote.Memory.{pointee}
use denote.Ref.{MutRef}
use denote.Signature.{Signature, plain}
use denote.Steps.{opens, closes, peeks, heard, nothing}
use denote.Struct.Steps.{spelt}
use denote.Struct.Laws as LL
use denote.Triple.Statement.{Triple}
use denote.Triple.Call.{calls_at}
use denote.Triple.Clauses.{Ended, Clauses, ensured, lasts}
use denote.Triple.Entry.{on_entry}
use denote.Exit.{yes}
use denote.Struct.Declared as SD
use denote.Struct.Struct.{layout}
use Rattle.lending.proofs.Types.{Struct, state-row}
use Rattle.lending.proofs.Bare.{signature, ended, stayed, goes, clauses, arg, at, Post, exits, walks}
use Rattle.lending.proofs.Form.{Form, IsThin, Core, Theorem, theorem}

module _ (T : Struct) (#core : Callee) (Says : T.type.D → T.type.D → Type 0) where
  -- the signature and the contract of the core
  abbrev core-signature : Signature
  core-signature = record {
    lifetimes = 0;
    outlives = [];
    params = plain (λ _. state-row T) ∷ [];
    result = plain (λ _. state-row T);
  }

  abbrev core-ended : Ended
  core-ended = record { signature = core-signature; kept = (yes, tt) }

  abbrev core-clauses : {M : Type 1} (𝓤 : Ura M) → Clauses 𝓤 core-ended
  core-clauses 𝓤 κs a = record {
    ghost = Unit {0};
    requires = λ _. emp 𝓤;
    ensures = λ _ r end. fact 𝓤 (Says a.0 r);
  }

  -- the call's code
  abbrev pub function : Fn
  function = record {
    lifetimes = 1;
    outlives = [];
    ty_params = [];
    givens = 0;
    params = 1;
    locals =
        local ty_unit value_local
        ∷ local (ty_ref (named 0) mut (pointee (state-row T).written)) value_local
        ∷ local (layout (SD.shape T.type)) value_local
        ∷ local (layout (SD.shape T.type)) value_local
        ∷ [];
    body =
        seq (assign (place 3 []) (rv_opd (copy (place 1 (deref (layout (SD.shape T.type)) ∷ [])))))
        (seq (call #core (copy (place 3 []) ∷ []) (place 2 []))
        (seq (assign (place 1 (deref (layout (SD.shape T.type)) ∷ [])) (rv_opd (copy (place 2 []))))
        (seq (assign (place 0 []) (rv_opd opd_unit))
        return)));
  }

  abbrev form : Form
  form = record {
    core = core-ended;
    core-clauses = core-clauses;
    lent = ended T;
    lent-clauses = clauses T Says;
    stays = stayed T;
    #core = #core;
    function = function;
  }

  -- that a function's contract is this
  abbrev pub Thin : ((M : Type 1) (𝓤 : Ura M) (𝓛 : Logic 𝓤) → (Memory → SProp 𝓤) → (Routine → Fun 𝓤) → Clauses 𝓤 (ended T)) → Type 2
  Thin = IsThin form

  module _ {M : Type 1} {𝓤 : Ura M} (𝓛 : Logic 𝓤) where
    -- of what the core ensures, the clause alone
    core-of : (h r : T.type.D) → ent 𝓤 (ensured 𝓛 core-ended (core-clauses 𝓤) tt (h, tt) tt r) (fact 𝓤 (Says h r))
    core-of h r = ex_e 𝓤 _ (λ ws. snd∗ 𝓤 (sem 𝓛 (lasts core-ended tt (h, tt) ws)) (fact 𝓤 (Says h r)))

  module _ {M : Type 1} {𝓤 : Ura M} (𝓛 : Logic 𝓤) (κ : Lft) (q : Share) (b o : ℕ) (γ : GName) (h : T.type.D) where
    -- the state's machine value
    open 𝓛 use {H}

    abbrev mach : Val
    mach = LL.val T.type T.laws h

    abbrev to-core : (Core form 𝓛).Ghost
    to-core = ((tt, tt, tt, (h, tt), (mach ∷ [], tt)), tt)

    goes-core : ent 𝓤 (sem 𝓛 ((state-row T).own_val h (mach ∷ []))) ((Core form 𝓛).pre to-core)
    goes-core = qed 𝓛 (‵ ((state-row T).own_val h (mach ∷ [])) ∷ []) ∵ nothing ! $ move ! (1 ∷ 0 ∷ []) $ join ! $ nothing ! $ join ! $ frame ! $ done !

    module _ (C : Calls 𝓤 H) (Λ : Loops 𝓤 H) (fm : FmC 𝓤 H 𝓛.laws C) (known : Triple 𝓤 (C #core) (Core form 𝓛)) where
      walk : ent 𝓤 (on_entry 𝓛 (signature T) (κ, tt) (q, tt) (arg T Says 𝓛 κ q b o γ h) (at T Says 𝓛 κ q b o γ h)) (WpFn 𝓤 H C Λ function (vptr b o ∷ []) (Post T Says 𝓛 κ q b o γ h))
      walk =
          qed 𝓛 ((‵ (flft κ q) ⊛ ‵ ftrue) ∷ ‵ (owns (MutRef (named 0) κ (state-row T) ∷ []) (arg T Says 𝓛 κ q b o γ h) (at T Says 𝓛 κ q b o γ h)) ∷ []) ∵ split ! $ move ! (2 ∷ []) $ fsplit ! $
          fsplit3 ! $ drop ! $ move ! (0 ∷ 1 ∷ 3 ∷ []) $
          -- [obs; the borrow; the token; true; true]
          enter ! C Λ function (vptr b o ∷ []) _ $
          alloc1 ! (λ l₀. alloc1 ! (λ l₁. alloc1 ! (λ l₂. alloc1 ! (λ l₃. alloc0 ! $ params1 ! $ pass1 ! (init ! 4 refl (tt, tt)) $ pass0 ! $
          -- the borrow is opened, and the struct is copied out
          move ! (8 ∷ 9 ∷ 10 ∷ []) $ opens ! tt (state-row T) {h = h} b o (λ vs.
          spelt ! (state-row T) (Is (state-row T)) (shows 𝓛 (state-row T)) (LL.vals T.type T.laws) (LL.tells T.type
          T.laws) full_share h vs b o $
          move ! (1 ∷ []) $ peeks ! (state-row T) (Is (state-row T)) (shows 𝓛 (state-row T)) h (mach ∷ []) (λ was. move ! (1 ∷ 0 ∷ []) $
          -- [the struct's cell; what the state owns; the open borrow; obs; auth; _3; …; _2; …; _1; …; room for _0; …]
          assigns ! (of_opd ! (load ! (from ! (hop ! (look ! 9 refl) (stop !))) (look_raw ! 0 refl))) (from ! (stop !)) (init ! 5 refl
          ((LL.lawful T.type T.laws 𝓛).typed h _ was).0) $
          -- the core is called: what the state owns goes to it
          move ! (1 ∷ []) $ use1 𝓛 (raw ((Core form 𝓛).pre to-core)) goes-core $
          calls_at ! fm (Core form 𝓛) known to-core (and_then ! (load ! (from ! (stop !)) (look ! 5 refl)) (no_more !)) (λ w.
          use1 𝓛 (later (some (λ (r : T.type.D). (‵ ftrue ⊛ ‵ ((state-row T).own_val r (w ∷ []))) ⊛ raw
          (ensured 𝓛 core-ended (core-clauses 𝓤) tt (h, tt) tt r)))) (id⊢ 𝓤 _) $ await ! tt $ pick ! (λ r.
          split ! $ move ! (1 ∷ []) $ use1 𝓛 (raw (fact 𝓤 (Says h r))) (core-of 𝓛 h r) $ heard ! (Says h r) (λ e. split ! $ drop ! $
          peeks ! (state-row T) (Is (state-row T)) (shows 𝓛 (state-row T)) r (w ∷ []) (λ is.
          land ! (from ! (stop !)) (init ! 7 refl ((LL.lawful T.type T.laws 𝓛).typed r _ is).0) $
          -- [what the new state owns; the struct's cell; the open borrow; obs; auth; _3; …; _2; …; _1; …; room for _0; …]
          assigns ! (of_opd ! (load ! (from ! (stop !)) (look ! 7 refl))) (from ! (hop ! (look ! 9 refl) (stop !))) (store_raw ! 1 refl
          ((LL.lawful T.type T.laws 𝓛).typed r _ is).0) $
          assigns ! (of_opd ! (unit_lit !)) (from ! (stop !)) (init ! 11 refl (tt, tt)) $
          -- the borrow is closed at the new state
          move ! (1 ∷ 0 ∷ 2 ∷ 3 ∷ 4 ∷ []) $ closes ! tt (state-row T) r (w ∷ []) b o $
          -- [obs; the borrow; the token; _3; …; _2; …; _1; …; _0; …]
          returns ! (look ! 9 refl) $ forget ! 3 refl $ forget ! 5 refl $ forget ! 7 refl $ forget ! 9 refl $ move ! (9 ∷ 10 ∷ []) $ free1 ! $
          move ! (7 ∷ 8 ∷ []) $ free1 ! $ move ! (5 ∷ 6 ∷ []) $ free1 ! $ move ! (3 ∷ 4 ∷ []) $ free1 ! $ free0 ! $
          keep ! (0 ∷ 1 ∷ 2 ∷ []) $ by ! (exits T Says 𝓛 κ q b o γ h r e)))))))))))

  pub lent-call : {M : Type 1} (𝓤 : Ura M) → Theorem form 𝓤
  lent-call = theorem form (goes T) (λ M 𝓤 𝓛 C Λ fm known. walks T Says 𝓛 (WpFn 𝓤 𝓛.H C Λ function)
      (λ κ q b o γ h. walk 𝓛 κ q b o γ h C Λ fm known))
