-- A thin call on a state that is lent, with a value passed on:
--     fn call(&mut self, value: Value) -> Answer {
--         let result = State::core(*self, value);
--         *self = result.state;
--         result.answer
--     }
-- It says of its answer and of the state at exit what `core` says of what it gives back.
-- A walk of its MIR, by hand, for any state, value and answer. The borrow is opened, the struct is copied out and passed by value, and the borrow is
-- closed at the state that the core gave back. No field of the state is named: it is read whole and written whole.
-- Assumes nothing.
use mathlib.Core.Path.{refl, ap}
use Prim.Native.Nat.{ℕ}
use mathlib.Core.List.{[], ◌∷◌, List}
use seplogic.Ra.Ura.{Ura}
use base.Fraction.{full_share}
use mir.Syntax.{Callee, Fn, local, value_local, named, mut, ty_ref, place, field, deref, copy, rv_opd, assign, seq, call, return}
use mir.Val.{Val, vptr}
use base.Logic.{SProp, ent, sep, emp, via, fst∗, snd∗, ex_e, id⊢}
use base.Fml.{GName, Lft, Share, ftrue, flft, fobs, fbor, fat}
use prog.Memory.{Memory}
use prog.Routine.{Routine}
use prog.Wp.{Calls, Loops, WpFn}
use types.Logic.{Logic, sem}
use contract.Monad.{Fun, fact}
use types.Kit.{‵, raw, ◌⊛◌, some, later, ◌$◌, ◌∵◌, !, qed, by, move, keep, drop, rewrite, use1, split, join, pick, await, fsplit, fsplit3, fjoin, fjoin3, feq_i, suffices, frame, done}
use types.Part.{whole, sub, look_in}
use types.Run.{look, look_raw, init, store_raw, forget, stop, hop, fld, from, load, of_opd, and_then, no_more, assigns, land, returns, enter, alloc1, alloc0, params1, pass1, pass0, free1, free0}
use types.SemTy.{Body}
use sound.WpLaws.{FmC}
use denote.RattleType.{owns}
use denote.Laws.{Is, shows}
use denote.Memory.{mem, pointee}
use denote.Builtin.{RefMutOf}
use denote.Ref.{MutBor, MutRef, mut_vals, mut_Tells}
use denote.Signature.{Signature, plain}
use denote.Steps.{opens, closes, owned, peeks, heard, nothing, only}
use denote.Struct.Steps.{spelt}
use denote.Struct.Laws as LL
use denote.Triple.Statement.{Triple}
use denote.Triple.Call.{calls_at}
use denote.Triple.Clauses.{Ended, Clauses, ensured, lasts}
use denote.Triple.Entry.{on_entry}
use denote.Triple.Walked.{says, Stays, stay_ref, stay_none, walk_of, AllGo, Goes-none, Goes-ref, Walks, ends_at, walked}
use denote.Exit.{yes}
use denote.Struct.Declared as SD
use denote.Struct.Struct.{layout}
use Rattle.lending.proofs.Types.{Struct, Value, Of, Passed, Result, state-row, value_row, value-val, value-vals, value_tells, value-makes, value-lawful, result-type, result-laws, result_row, answer-is, state-is}
use Rattle.lending.proofs.Form.{Form, IsThin, Core, Theorem, theorem}

module _ (T : Struct) (N : Passed) (O : Value) (S : Result O T) (#core : Callee) (Says : T.type.D → Of N.value → Of O → T.type.D → Type 0) where
  -- the signature and the contract of the core, and of the call
  abbrev core-signature : Signature
  core-signature = record {
    lifetimes = 0;
    outlives = [];
    params = plain (λ _. state-row T) ∷ plain (λ _. value_row N.value) ∷ [];
    result = plain (λ _. result_row S);
  }

  abbrev core-ended : Ended
  core-ended = record { signature = core-signature; kept = (yes, (yes, tt)) }

  abbrev core-clauses : {M : Type 1} (𝓤 : Ura M) → Clauses 𝓤 core-ended
  core-clauses 𝓤 κs a = record {
    ghost = Unit {0};
    requires = λ _. emp 𝓤;
    ensures = λ _ r end. fact 𝓤 (Says a.0 a.1.0 (S.answer r) (S.state r));
  }

  abbrev lent-signature : Signature
  lent-signature = record {
    lifetimes = 1;
    outlives = [];
    params = RefMutOf (0 ∷ []) tt (plain (λ _. state-row T)) (λ _. tt) ∷ plain (λ _. value_row N.value) ∷ [];
    result = plain (λ _. value_row O);
  }

  abbrev lent-ended : Ended
  lent-ended = record { signature = lent-signature; kept = (yes, (yes, tt)) }

  abbrev lent-clauses : {M : Type 1} (𝓤 : Ura M) → Clauses 𝓤 lent-ended
  lent-clauses 𝓤 κs a = record {
    ghost = Unit {0};
    requires = λ _. emp 𝓤;
    ensures = λ _ r end. fact 𝓤 (Says a.0.now a.1.0 r end.0.now);
  }

  -- the call's code
  abbrev pub function : Fn
  function = record {
    lifetimes = 1;
    outlives = [];
    ty_params = [];
    givens = 0;
    params = 2;
    locals =
        local O.mir value_local
        ∷ local (ty_ref (named 0) mut (pointee (state-row T).written)) value_local
        ∷ local N.value.mir value_local
        ∷ local (layout (SD.shape (result-type S))) value_local
        ∷ local (layout (SD.shape T.type)) value_local
        ∷ local (layout (SD.shape T.type)) value_local
        ∷ [];
    body =
        seq (assign (place 4 []) (rv_opd (copy (place 1 (deref (layout (SD.shape T.type)) ∷ [])))))
        (seq (call #core (copy (place 4 []) ∷ copy (place 2 []) ∷ []) (place 3 []))
        (seq (assign (place 5 []) (rv_opd (copy (place 3 (field 1 ∷ [])))))
        (seq (assign (place 1 (deref (layout (SD.shape T.type)) ∷ [])) (rv_opd (copy (place 5 []))))
        (seq (assign (place 0 []) (rv_opd (copy (place 3 (field 0 ∷ [])))))
        return))));
  }

  abbrev Arg : Type 0
  Arg = MutBor T.type.D × (Of N.value × Unit {0})

  abbrev stayed : Stays lent-ended.signature.params lent-ended.kept
  stayed = (stay_ref (0 ∷ []) tt (plain (λ _. state-row T)), (stay_none (λ _. value_row N.value) yes, tt))

  abbrev form : Form
  form = record {
    core = core-ended;
    core-clauses = core-clauses;
    lent = lent-ended;
    lent-clauses = lent-clauses;
    stays = stayed;
    #core = #core;
    function = function;
  }

  -- that a function's contract is this
  abbrev pub Thin : ((M : Type 1) (𝓤 : Ura M) (𝓛 : Logic 𝓤) → (Memory → SProp 𝓤) → (Routine → Fun 𝓤) → Clauses 𝓤 lent-ended) → Type 2
  Thin = IsThin form

  module _ {M : Type 1} {𝓤 : Ura M} (𝓛 : Logic 𝓤) where
    -- of what the core ensures, the clause alone
    core-of : (h : T.type.D) (n : Of N.value) (r : S.D)
        → ent 𝓤 (ensured 𝓛 core-ended (core-clauses 𝓤) tt (h, (n, tt)) tt r) (fact 𝓤 (Says h n (S.answer r) (S.state r)))
    core-of h n r = ex_e 𝓤 _ (λ ws. snd∗ 𝓤 (sem 𝓛 (lasts core-ended tt (h, (n, tt)) ws)) (fact 𝓤 (Says h n (S.answer r) (S.state r))))

  module _ {M : Type 1} {𝓤 : Ura M} (𝓛 : Logic 𝓤) (κ : Lft) (q : Share) (b o : ℕ) (γ : GName) (h : T.type.D)
      (n : Of N.value) (n-is : Is (value_row N.value) n (value-vals N.value n)) where
    open 𝓛 use {H, A}

    abbrev x : Arg
    x = (record { ref_ptr = (b, o); ghost_name = γ; now = h }, (n, tt))

    abbrev at : List Val × (List Val × Unit {0})
    at = (vptr b o ∷ [], (value-vals N.value n, tt))

    -- the state's machine value
    abbrev mach : Val
    mach = LL.val T.type T.laws h

    abbrev Post : Val → SProp 𝓤
    Post = (walk_of 𝓛 lent-ended stayed (lent-clauses 𝓤)).post (((κ, tt), (q, tt), tt, x, at), tt)

    abbrev to-core : (Core form 𝓛).Ghost
    to-core = ((tt, tt, tt, (h, (n, tt)), (mach ∷ [], (value-vals N.value n, tt))), tt)

    goes-core : ent 𝓤 (sem 𝓛 ((state-row T).own_val h (mach ∷ []))) ((Core form 𝓛).pre to-core)
    goes-core =
        qed 𝓛 (‵ ((state-row T).own_val h (mach ∷ [])) ∷ []) ∵ nothing ! $ owned ! (value_row N.value) (Is (value_row N.value)) (value-makes N.value 𝓛) n _ n-is $ join ! $
        move ! (1 ∷ 0 ∷ []) $ join ! $ nothing ! $ join ! $ frame ! $ done !

    exits : (r : S.D) (w : Val) → Is (result_row S) r (w ∷ []) → Says h n (S.answer r) (S.state r)
        → ent 𝓤 (sep 𝓤 (A.obs γ ((state-row T).coded.code (S.state r))) (sep 𝓤 (A.bor κ (Body (mem (state-row T)) b o γ)) (A.lft κ q))) (Post
        (value-val O (S.answer r)))
    exits r w is e =
        qed 𝓛 (‵ (fobs γ ((state-row T).coded.code (S.state r))) ∷ ‵ (fbor κ (Body (mem (state-row T)) b o γ)) ∷ ‵ (flft κ q) ∷ []) ∵
        suffices ! _ (ends_at 𝓛 lent-ended stayed (lent-clauses 𝓤) (((κ, tt), (q, tt), tt, x, at), tt)
        (value-val O (S.answer r)) (S.answer r) (S.state r, (N.last n, tt)) (tt, (tt, tt))) $
        says ! e $ nothing ! $ move ! (3 ∷ 0 ∷ []) $ join ! $
        frame ! $ feq_i ! (List Val) (vptr b o ∷ []) (vptr b o ∷ []) refl $ fjoin3 ! $ nothing ! $
        owned ! (value_row N.value) (Is (value_row N.value)) (value-makes N.value 𝓛) n _ n-is $ fjoin ! $ move ! (1 ∷ 0 ∷ []) $ fjoin ! $
        owned ! (value_row O) (Is (value_row O)) (value-makes O 𝓛) (S.answer r) _ (answer-is S r w is) $
        move ! (1 ∷ 0 ∷ []) $ done !

    module _ (C : Calls 𝓤 H) (Λ : Loops 𝓤 H) (fm : FmC 𝓤 H 𝓛.laws C) (known : Triple 𝓤 (C #core) (Core form 𝓛)) where
      walk : ent 𝓤 (on_entry 𝓛 lent-signature (κ, tt) (q, tt) x at) (WpFn 𝓤 H C Λ function (vptr b o ∷ value-val N.value n ∷ []) Post)
      walk =
          qed 𝓛 ((‵ (flft κ q) ⊛ ‵ ftrue) ∷ ‵ (owns (MutRef (named 0) κ (state-row T) ∷ value_row N.value ∷ []) x at) ∷ []) ∵ split ! $ move ! (2 ∷ []) $
          fsplit ! $ fsplit3 ! $ drop ! $ move ! (0 ∷ 1 ∷ 3 ∷ []) $
          -- [obs; the borrow; the token; what the value owns; true]
          enter ! C Λ function (vptr b o ∷ value-val N.value n ∷ []) _ $
          alloc1 ! (λ l₀. alloc1 ! (λ l₁. alloc1 ! (λ l₂. alloc1 ! (λ l₃. alloc1 ! (λ l₄. alloc1 ! (λ l₅. alloc0 ! $ params1 ! $
          pass1 ! (init ! 8 refl (tt, tt)) $
          pass1 ! (init ! 6 refl ((value-lawful N.value 𝓛).typed n _ n-is).0) $ pass0 ! $
          -- the borrow is opened, and the struct is copied out
          move ! (12 ∷ 13 ∷ 14 ∷ []) $ opens ! tt (state-row T) {h = h} b o (λ vs.
          spelt ! (state-row T) (Is (state-row T)) (shows 𝓛 (state-row T)) (LL.vals T.type T.laws) (LL.tells T.type
          T.laws) full_share h vs b o $
          move ! (1 ∷ []) $ peeks ! (state-row T) (Is (state-row T)) (shows 𝓛 (state-row T)) h (mach ∷ []) (λ was. move ! (1 ∷ 0 ∷ []) $
          -- [the struct's cell; what the state owns; the open borrow; obs; auth; _5; …; _4; …; _3; …; _2; …; _1; …; room for _0; …]
          assigns ! (of_opd ! (load ! (from ! (hop ! (look ! 13 refl) (stop !))) (look_raw ! 0 refl))) (from ! (stop !)) (init ! 7 refl
          ((LL.lawful T.type T.laws 𝓛).typed h _ was).0) $
          -- the core is called: what the state owns goes to it
          move ! (1 ∷ []) $ use1 𝓛 (raw ((Core form 𝓛).pre to-core)) goes-core $
          calls_at ! fm (Core form 𝓛) known to-core (and_then ! (load ! (from ! (stop !)) (look ! 7 refl))
          (and_then ! (load ! (from ! (stop !)) (look ! 11 refl)) (no_more !))) (λ w.
          use1 𝓛 (later (some (λ (r : S.D). (‵ ftrue ⊛ ‵ ((result_row S).own_val r (w ∷ []))) ⊛ raw
          (ensured 𝓛 core-ended (core-clauses 𝓤) tt (h, (n, tt)) tt r)))) (id⊢ 𝓤 _) $ await ! tt $ pick ! (λ r.
          split ! $ move ! (1 ∷ []) $ use1 𝓛 (raw (fact 𝓤 (Says h n (S.answer r) (S.state r)))) (core-of 𝓛 h n r) $
          heard ! (Says h n (S.answer r) (S.state r)) (λ e. split ! $ drop ! $
          peeks ! (result_row S) (Is (result_row S)) (shows 𝓛 (result_row S)) r (w ∷ []) (λ is.
          land ! (from ! (stop !)) (init ! 9 refl ((LL.lawful (result-type S) (result-laws S) 𝓛).typed r _ is).0) $
          rewrite ! 9 (λ (u : Val). ‵ (fat full_share (layout (SD.shape (result-type S))) l₃ 0 u)) (ap only
          (LL.tells (result-type S) (result-laws S) r (w ∷ []) is)) refl $
          -- [what the core returned owns; the struct's cell; the open borrow; obs; auth; _5; …; _4; …; _3; …; _2; …; _1; …; room for _0; …]
          assigns ! (of_opd ! (load ! (from ! (fld ! refl (stop !))) (look_in ! 9 (sub ! 1 refl (whole !))))) (from ! (stop !))
          (init ! 5 refl ((LL.lawful T.type T.laws 𝓛).typed (S.state r) _ (state-is S r w is)).0) $
          assigns ! (of_opd ! (load ! (from ! (stop !)) (look ! 5 refl))) (from ! (hop ! (look ! 13 refl) (stop !))) (store_raw ! 1 refl
          ((LL.lawful T.type T.laws 𝓛).typed (S.state r) _ (state-is S r w is)).0) $
          assigns ! (of_opd ! (load ! (from ! (fld ! refl (stop !))) (look_in ! 9 (sub ! 0 refl (whole !))))) (from ! (stop !))
          (init ! 15 refl ((value-lawful O 𝓛).typed (S.answer r) _ (answer-is S r w is)).0) $
          -- the borrow is closed at the state that the core returned
          owned ! (state-row T) (Is (state-row T)) (LL.makes T.type T.plain 𝓛) (S.state r) _ (state-is S r w is) $
          move ! (2 ∷ 0 ∷ 3 ∷ 4 ∷ 5 ∷ []) $ closes ! tt (state-row T) (S.state r) (LL.vals T.type T.laws (S.state r)) b o $
          -- [obs; the borrow; the token; what the core returned owns; _5; …; _4; …; _3; …; _2; …; _1; …; _0; …]
          returns ! (look ! 14 refl) $ forget ! 4 refl $ forget ! 6 refl $ forget ! 8 refl $ forget ! 10 refl $ forget ! 12 refl $
          forget ! 14 refl $
          move ! (14 ∷ 15 ∷ []) $ free1 ! $ move ! (12 ∷ 13 ∷ []) $ free1 ! $ move ! (10 ∷ 11 ∷ []) $ free1 ! $
          move ! (8 ∷ 9 ∷ []) $ free1 ! $ move ! (6 ∷ 7 ∷ []) $ free1 ! $ move ! (4 ∷ 5 ∷ []) $ free1 ! $ free0 ! $
          keep ! (0 ∷ 1 ∷ 2 ∷ []) $ by ! (exits r w is e)))))))))))))

  module _ {M : Type 1} {𝓤 : Ura M} (𝓛 : Logic 𝓤) where
    open 𝓛 use {H}

    lent-walks : (C : Calls 𝓤 H) (Λ : Loops 𝓤 H) → FmC 𝓤 H 𝓛.laws C → Triple 𝓤 (C #core) (Core form 𝓛)
        → Walks 𝓛 lent-ended stayed (WpFn 𝓤 H C Λ function) (lent-clauses 𝓤)
    lent-walks C Λ fm known = walked 𝓛 lent-ended stayed (lent-clauses 𝓤) (WpFn 𝓤 H C Λ function) (λ κs. (mut_vals, (value-vals N.value, tt)))
        (λ κs. (mut_Tells (named 0) κs.0 (state-row T), (value_tells N.value, tt)))
        (λ κs qs bounds a _ are. via 𝓤 _ (fst∗ 𝓤 _ (emp 𝓤))
        (walk 𝓛 κs.0 qs.0 a.0.ref_ptr.0 a.0.ref_ptr.1 a.0.ghost_name a.0.now a.1.0 are.1.0 C Λ fm known))

    goes : AllGo 𝓛 1 lent-signature.params lent-ended.kept stayed
    goes = (Goes-ref 𝓛 1 0 tt (plain (λ _. state-row T)), (Goes-none 𝓛 1 (λ _. value_row N.value) yes (λ κs. N.silent), tt))

  pub lent-call : {M : Type 1} (𝓤 : Ura M) → Theorem form 𝓤
  lent-call = theorem form (λ M 𝓤 𝓛. goes 𝓛) (λ M 𝓤 𝓛. lent-walks 𝓛)
