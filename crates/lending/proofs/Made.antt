-- A thin call on a state that is lent, which stores a state that a core of no parameters makes:
--     fn call(&mut self) {
--         *self = State::core();
--     }
-- It says of the state at exit what `core` says of what it gives back.
-- A walk of its MIR, by hand, for any state. The struct is stored whole behind the borrow; what stood there is not read.
-- Assumes nothing.
use mathlib.Core.Path.{refl}
use Prim.Native.Nat.{ℕ}
use mathlib.Core.List.{[], ◌∷◌}
use seplogic.Ra.Ura.{Ura}
use base.Fraction.{full_share}
use mir.Syntax.{Callee, Fn, local, value_local, named, mut, ty_ref, ty_unit, place, deref, copy, opd_unit, rv_opd, assign, seq, call, return}
use mir.Val.{vptr}
use base.Logic.{SProp, ent, emp, snd∗, ex_e, id⊢}
use base.Fml.{GName, Lft, Share, ftrue, flft}
use prog.Memory.{Memory}
use prog.Routine.{Routine}
use prog.Wp.{Calls, Loops, WpFn}
use types.Logic.{Logic, sem}
use contract.Monad.{Fun, fact}
use types.Kit.{‵, raw, ◌⊛◌, some, later, ◌$◌, ◌∵◌, !, qed, by, move, keep, drop, use0, use1, split, join, pick, await, fsplit, fsplit3, frame, done}
use types.Run.{look, init, store_raw, forget, stop, hop, from, load, unit_lit, of_opd, no_more, assigns, land, returns, enter, alloc1, alloc0, params1, pass1, pass0, free1, free0}
use sound.WpLaws.{FmC}
use denote.RattleType.{owns}
use denote.Laws.{Is, shows}
use denote.Memory.{pointee}
use denote.Ref.{MutRef}
use denote.Signature.{Signature, plain}
use denote.Steps.{opens, closes, peeks, heard, nothing}
use denote.Struct.Steps.{spelt}
use denote.Struct.Laws as LL
use denote.Triple.Statement.{Triple}
use denote.Triple.Call.{calls_at}
use denote.Triple.Clauses.{Ended, Clauses, ensured, lasts}
use denote.Triple.Entry.{on_entry}
use denote.Struct.Declared as SD
use denote.Struct.Struct.{layout}
use Rattle.lending.proofs.Types.{Struct, state-row}
use Rattle.lending.proofs.Bare.{signature, ended, stayed, goes, clauses, arg, at, Post, exits, walks}
use Rattle.lending.proofs.Form.{Form, IsThin, Core, Theorem, theorem}

module _ (T : Struct) (#core : Callee) (Made : T.type.D → Type 0) where
  -- the signature and the contract of the core
  abbrev core-signature : Signature
  core-signature = record { lifetimes = 0; outlives = []; params = []; result = plain (λ _. state-row T) }

  abbrev core-ended : Ended
  core-ended = record { signature = core-signature; kept = tt }

  abbrev core-clauses : {M : Type 1} (𝓤 : Ura M) → Clauses 𝓤 core-ended
  core-clauses 𝓤 κs a = record { ghost = Unit {0}; requires = λ _. emp 𝓤; ensures = λ _ r end. fact 𝓤 (Made r) }

  -- what the call's contract says: the state that stood there is in none of it
  abbrev Says : T.type.D → T.type.D → Type 0
  Says h r = Made r

  -- the call's code
  abbrev pub function : Fn
  function = record {
    lifetimes = 1;
    outlives = [];
    ty_params = [];
    givens = 0;
    params = 1;
    locals =
        local ty_unit value_local
        ∷ local (ty_ref (named 0) mut (pointee (state-row T).written)) value_local
        ∷ local (layout (SD.shape T.type)) value_local
        ∷ [];
    body =
        seq (call #core [] (place 2 []))
        (seq (assign (place 1 (deref (layout (SD.shape T.type)) ∷ [])) (rv_opd (copy (place 2 []))))
        (seq (assign (place 0 []) (rv_opd opd_unit))
        return));
  }

  abbrev form : Form
  form = record {
    core = core-ended;
    core-clauses = core-clauses;
    lent = ended T;
    lent-clauses = clauses T Says;
    stays = stayed T;
    #core = #core;
    function = function;
  }

  -- that a function's contract is this
  abbrev pub Thin : ((M : Type 1) (𝓤 : Ura M) (𝓛 : Logic 𝓤) → (Memory → SProp 𝓤) → (Routine → Fun 𝓤) → Clauses 𝓤 (ended T)) → Type 2
  Thin = IsThin form

  module _ {M : Type 1} {𝓤 : Ura M} (𝓛 : Logic 𝓤) where
    -- of what the core ensures, the clause alone
    core-of : (r : T.type.D) → ent 𝓤 (ensured 𝓛 core-ended (core-clauses 𝓤) tt tt tt r) (fact 𝓤 (Made r))
    core-of r = ex_e 𝓤 _ (λ ws. snd∗ 𝓤 (sem 𝓛 (lasts core-ended tt tt ws)) (fact 𝓤 (Made r)))

    abbrev to-core : (Core form 𝓛).Ghost
    to-core = ((tt, tt, tt, tt, tt), tt)

    goes-core : ent 𝓤 (emp 𝓤) ((Core form 𝓛).pre to-core)
    goes-core = qed 𝓛 [] ∵ nothing ! $ nothing ! $ join ! $ frame ! $ done !

  module _ {M : Type 1} {𝓤 : Ura M} (𝓛 : Logic 𝓤) (κ : Lft) (q : Share) (b o : ℕ) (γ : GName) (h : T.type.D)
      (C : Calls 𝓤 𝓛.H) (Λ : Loops 𝓤 𝓛.H) (fm : FmC 𝓤 𝓛.H 𝓛.laws C) (known : Triple 𝓤 (C #core) (Core form 𝓛)) where
    open 𝓛 use {H}

    walk : ent 𝓤 (on_entry 𝓛 (signature T) (κ, tt) (q, tt) (arg T Says 𝓛 κ q b o γ h) (at T Says 𝓛 κ q b o γ h))
        (WpFn 𝓤 H C Λ function (vptr b o ∷ []) (Post T Says 𝓛 κ q b o γ h))
    walk =
        qed 𝓛 ((‵ (flft κ q) ⊛ ‵ ftrue) ∷ ‵ (owns (MutRef (named 0) κ (state-row T) ∷ []) (arg T Says 𝓛 κ q b o γ h)
        (at T Says 𝓛 κ q b o γ h)) ∷ []) ∵ split ! $ move ! (2 ∷ []) $ fsplit ! $ fsplit3 ! $ drop ! $ move ! (0 ∷ 1 ∷ 3 ∷ []) $
        -- [obs; the borrow; the token; true; true]
        enter ! C Λ function (vptr b o ∷ []) _ $
        alloc1 ! (λ l₀. alloc1 ! (λ l₁. alloc1 ! (λ l₂. alloc0 ! $ params1 ! $ pass1 ! (init ! 2 refl (tt, tt)) $ pass0 ! $
        -- the core is called
        use0 𝓛 (raw ((Core form 𝓛).pre (to-core 𝓛))) (goes-core 𝓛) $
        calls_at ! fm (Core form 𝓛) known (to-core 𝓛) (no_more !) (λ v.
        use1 𝓛 (later (some (λ (r : T.type.D). (‵ ftrue ⊛ ‵ ((state-row T).own_val r (v ∷ []))) ⊛ raw
        (ensured 𝓛 core-ended (core-clauses 𝓤) tt tt tt r)))) (id⊢ 𝓤 _) $ await ! tt $ pick ! (λ r.
        split ! $ move ! (1 ∷ []) $ use1 𝓛 (raw (fact 𝓤 (Made r))) (core-of 𝓛 r) $ heard ! (Made r) (λ e. split ! $ drop ! $
        peeks ! (state-row T) (Is (state-row T)) (shows 𝓛 (state-row T)) r (v ∷ []) (λ is.
        land ! (from ! (stop !)) (init ! 1 refl ((LL.lawful T.type T.laws 𝓛).typed r _ is).0) $
        -- [what the new state owns; _2; …; _1; …; room for _0; …; obs; the borrow; the token]
        move ! (7 ∷ 8 ∷ 9 ∷ []) $ opens ! tt (state-row T) {h = h} b o (λ vs.
        spelt ! (state-row T) (Is (state-row T)) (shows 𝓛 (state-row T)) (LL.vals T.type T.laws) (LL.tells T.type
        T.laws) full_share h vs b o $
        -- [the struct's cell; what the old state owns; the open borrow; obs; auth; what the new state owns; _2; …; _1; …; room for _0; …]
        assigns ! (of_opd ! (load ! (from ! (stop !)) (look ! 6 refl))) (from ! (hop ! (look ! 8 refl) (stop !))) (store_raw ! 0 refl
        ((LL.lawful T.type T.laws 𝓛).typed r _ is).0) $
        assigns ! (of_opd ! (unit_lit !)) (from ! (stop !)) (init ! 10 refl (tt, tt)) $
        move ! (0 ∷ 5 ∷ 2 ∷ 3 ∷ 4 ∷ []) $ closes ! tt (state-row T) r (v ∷ []) b o $
        -- [obs; the borrow; the token; what the old state owns; _2; …; _1; …; _0; …]
        returns ! (look ! 8 refl) $ forget ! 4 refl $ forget ! 6 refl $ forget ! 8 refl $ move ! (8 ∷ 9 ∷ []) $ free1 ! $
        move ! (6 ∷ 7 ∷ []) $ free1 ! $ move ! (4 ∷ 5 ∷ []) $ free1 ! $ free0 ! $
        keep ! (0 ∷ 1 ∷ 2 ∷ []) $ by ! (exits T Says 𝓛 κ q b o γ h r e)))))))))

  pub lent-call : {M : Type 1} (𝓤 : Ura M) → Theorem form 𝓤
  lent-call = theorem form (goes T) (λ M 𝓤 𝓛 C Λ fm known. walks T Says 𝓛 (WpFn 𝓤 𝓛.H C Λ function)
      (λ κ q b o γ h. walk 𝓛 κ q b o γ h C Λ fm known))
