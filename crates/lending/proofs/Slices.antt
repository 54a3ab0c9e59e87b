-- A thin call on a state that is lent, with two slices passed on:
--     fn call(&mut self, input: &[X], output: &mut [Y]) -> Answer {
--         let result = State::core(*self, input, output);
--         *self = result.state;
--         result.answer
--     }
-- It says of its answer, of the state at exit and of the output at exit what `core` says of what it gives back and of the output at exit.
-- A walk of its MIR, by hand, for any state, answer and elements. The borrow is opened, the struct is copied out and passed by value beside
-- the two slices, and the borrow is closed at the state that the core gave back. No field of the state is named: it is read whole and written
-- whole. Both slices go to the core for good, the output at its own lifetime, and what says its last list comes back.
-- Assumes nothing.
use mathlib.Core.Path.{◌≡◌, refl, ap}
use Prim.Native.Nat.{ℕ}
use mathlib.Core.List.{[], ◌∷◌, List}
use lib.ListN.{length}
use seplogic.Ra.Ura.{Ura}
use base.Fraction.{full_share}
use mir.Syntax.{Callee, Fn, local, value_local, named, erased, imm, mut, ty_ref, place, field, deref, copy, rv_opd, addr_of, aggregate, assign, seq, call, return}
use mir.Val.{Val, vptr}
use base.Logic.{SProp, ent, emp, via, fst∗, id⊢}
use base.Fml.{GName, Lft, Share, Fml, ftrue, fsep, flft, fobs, fbor, fat}
use prog.Memory.{Memory}
use prog.Routine.{Routine}
use prog.Wp.{Calls, Loops, WpFn}
use types.Logic.{Logic}
use contract.Monad.{Fun, fact}
use types.Kit.{Item, ‵, raw, ◌⊛◌, ⋆, some, later, ◌$◌, ◌∵◌, !, qed, by, move, keep, drop, rewrite, use1, use2, split, join, pick, await, fsplit, fsplit3, fjoin, fjoin3, feq_i, feq_l, suffices, frame, done}
use types.Part.{agg, whole, sub, look_in}
use types.Run.{look, look_raw, init, store_raw, forget, stop, hop, fld, from, load, addr, of_opd, and_then, no_more, assigns, land, returns, enter, alloc1, alloc0, params1, pass1, pass0, free1, free0}
use types.SemTy.{Body, Arr}
use types.Hole.{Holey}
use sound.WpLaws.{FmC}
use denote.RattleType.{RattleType, owns}
use denote.Laws.{Is, shows}
use denote.Memory.{mem, pointee}
use denote.Builtin.{One, RefMutOf, SliceRefOf, SliceRefMutOf}
use denote.Ref.{Bor, MutBor, MutRef, mut_vals, mut_Tells}
use denote.Signature.{Signature, plain}
use denote.Slice.{slice_val, slice_ty, ShrSlice, MutSlice, Room, finally, shr_slice_vals, shr_slice_Tells, shr_slice_Lawful, mut_slice_vals, mut_slice_Tells}
use denote.Steps.{opens, closes, owned, peeks, heard, nothing, only}
use denote.Struct.Steps.{spelt}
use denote.Struct.Laws as LL
use denote.Triple.Statement.{Triple}
use denote.Triple.Call.{calls_at}
use denote.Triple.Clauses.{Ended, Clauses, Lasts, ensured, lasts}
use denote.Triple.Entry.{on_entry}
use denote.Triple.Walked.{says, Stays, stay_ref, stay_dropped, gave_slice, walk_of, AllGo, Goes-ref, Goes-dropped, Goes-gave_slice, Walks, ends_at, walked}
use denote.Exit.{yes}
use denote.Struct.Declared as SD
use denote.Struct.Struct.{layout}
use Rattle.lending.proofs.Types.{Struct, Value, Of, Result, state-row, value_row, value-val, value-makes, value-lawful, result-type, result-laws, result_row, answer-is, state-is}
use Rattle.lending.proofs.Form.{Form, IsThin, Core, Theorem, theorem}

module _ (T : Struct) (O : Value) (S : Result O T) (X : RattleType) (one_in : One X.mir) (Y : RattleType) (one_out : One Y.mir)
    (#core : Callee) (Says : T.type.D → List X.Denot → List Y.Denot → Of O → T.type.D → List Y.Denot → Type 0) where
  -- the signature and the contract of the core, and of the call
  abbrev core-signature : Signature
  core-signature = record {
    lifetimes = 2;
    outlives = [];
    params = plain (λ _. state-row T) ∷ SliceRefOf (0 ∷ []) tt (plain (λ _. X)) (λ _. one_in) ∷ SliceRefMutOf (1 ∷ []) tt (plain (λ _. Y))
        (λ _. one_out) ∷ [];
    result = plain (λ _. result_row S);
  }

  abbrev core-ended : Ended
  core-ended = record { signature = core-signature; kept = (yes, (yes, (yes, tt))) }

  abbrev core-clauses : {M : Type 1} (𝓤 : Ura M) → Clauses 𝓤 core-ended
  core-clauses 𝓤 κs a = record {
    ghost = Unit {0};
    requires = λ _. emp 𝓤;
    ensures = λ _ r end. fact 𝓤 (Says a.0 a.1.0.now a.1.1.0.now (S.answer r) (S.state r) end.1.1.0.now);
  }

  abbrev lent-signature : Signature
  lent-signature = record {
    lifetimes = 3;
    outlives = [];
    params = RefMutOf (0 ∷ []) tt (plain (λ _. state-row T)) (λ _. tt) ∷ SliceRefOf (1 ∷ []) tt (plain (λ _. X)) (λ _. one_in) ∷ SliceRefMutOf
        (2 ∷ []) tt (plain (λ _. Y)) (λ _. one_out) ∷ [];
    result = plain (λ _. value_row O);
  }

  abbrev lent-ended : Ended
  lent-ended = record { signature = lent-signature; kept = (yes, (yes, (yes, tt))) }

  abbrev lent-clauses : {M : Type 1} (𝓤 : Ura M) → Clauses 𝓤 lent-ended
  lent-clauses 𝓤 κs a = record {
    ghost = Unit {0};
    requires = λ _. emp 𝓤;
    ensures = λ _ r end. fact 𝓤 (Says a.0.now a.1.0.now a.1.1.0.now r end.0.now end.1.1.0.now);
  }

  -- the call's code
  abbrev pub function : Fn
  function = record {
    lifetimes = 3;
    outlives = [];
    ty_params = [];
    givens = 0;
    params = 3;
    locals =
        local O.mir value_local
        ∷ local (ty_ref (named 0) mut (pointee (state-row T).written)) value_local
        ∷ local (slice_ty (ty_ref (named 1) imm (pointee X.written))) value_local
        ∷ local (slice_ty (ty_ref (named 2) mut (pointee Y.written))) value_local
        ∷ local (layout (SD.shape (result-type S))) value_local
        ∷ local (layout (SD.shape T.type)) value_local
        ∷ local (ty_ref erased mut (pointee Y.written)) value_local
        ∷ local (slice_ty (ty_ref erased mut (pointee Y.written))) value_local
        ∷ local (layout (SD.shape T.type)) value_local
        ∷ [];
    body =
        seq (assign (place 5 []) (rv_opd (copy (place 1 (deref (layout (SD.shape T.type)) ∷ [])))))
        (seq (assign (place 6 []) (addr_of (place 3 (field 0 ∷ deref (pointee Y.written) ∷ []))))
        (seq (assign (place 7 []) (aggregate (copy (place 6 []) ∷ copy (place 3 (field 1 ∷ [])) ∷ [])))
        (seq (call #core (copy (place 5 []) ∷ copy (place 2 []) ∷ copy (place 7 []) ∷ []) (place 4 []))
        (seq (assign (place 8 []) (rv_opd (copy (place 4 (field 1 ∷ [])))))
        (seq (assign (place 1 (deref (layout (SD.shape T.type)) ∷ [])) (rv_opd (copy (place 8 []))))
        (seq (assign (place 0 []) (rv_opd (copy (place 4 (field 0 ∷ [])))))
        return))))));
  }

  abbrev Arg : Type 0
  Arg = MutBor T.type.D × (Bor (List X.Denot) × (MutBor (List Y.Denot) × Unit {0}))

  abbrev stayed : Stays lent-ended.signature.params lent-ended.kept
  stayed = (
    stay_ref (0 ∷ []) tt (plain (λ _. state-row T)),
    (stay_dropped (SliceRefOf (1 ∷ []) tt (plain (λ _. X)) (λ _. one_in)) yes, (gave_slice (2 ∷ []) tt (plain (λ _. Y)), tt)),
  )

  abbrev form : Form
  form = record {
    core = core-ended;
    core-clauses = core-clauses;
    lent = lent-ended;
    lent-clauses = lent-clauses;
    stays = stayed;
    #core = #core;
    function = function;
  }

  -- that a function's contract is this
  abbrev pub Thin : ((M : Type 1) (𝓤 : Ura M) (𝓛 : Logic 𝓤) → (Memory → SProp 𝓤) → (Routine → Fun 𝓤) → Clauses 𝓤 lent-ended) → Type 2
  Thin = IsThin form

  module _ {M : Type 1} {𝓤 : Ura M} (𝓛 : Logic 𝓤) (κ κ₁ κ₂ : Lft) (q q₁ q₂ : Share) (b o : ℕ) (γ : GName)
      (h : T.type.D) (xi : Bor (List X.Denot)) (xo : MutBor (List Y.Denot)) where
    open 𝓛 use {H}

    abbrev x : Arg
    x = (record { ref_ptr = (b, o); ghost_name = γ; now = h }, (xi, (xo, tt)))

    -- the machine values of the input, the output and the state
    abbrev vi : Val
    vi = slice_val xi.ref_ptr (length xi.now)

    abbrev vo : Val
    vo = slice_val xo.ref_ptr (length xo.now)

    abbrev mach : Val
    mach = LL.val T.type T.laws h

    abbrev at : List Val × (List Val × (List Val × Unit {0}))
    at = (vptr b o ∷ [], (vi ∷ [], (vo ∷ [], tt)))

    -- the tokens of the slices' lifetimes, which the core is lent
    abbrev Toks : Item 𝓤
    Toks = ‵ (flft κ₁ q₁) ⊛ ‵ (flft κ₂ q₂) ⊛ ‵ ftrue

    -- of the output what says its last list, and its borrow
    abbrev Last : List Y.Denot → Fml
    Last zs = fsep (finally Y xo.ghost_name zs)
        (fbor κ₂ (Body (Arr (Holey (mem Y)) (length xo.now)) xo.ref_ptr.0 xo.ref_ptr.1 xo.ghost_name))

    abbrev Post : Val → SProp 𝓤
    Post = (walk_of 𝓛 lent-ended stayed (lent-clauses 𝓤)).post (((κ, (κ₁, (κ₂, tt))), (q, (q₁, (q₂, tt))), tt, x, at), tt)

    abbrev to-core : (Core form 𝓛).Ghost
    to-core = (((κ₁, (κ₂, tt)), (q₁, (q₂, tt)), tt, (h, (xi, (xo, tt))), (mach ∷ [], (vi ∷ [], (vo ∷ [], tt)))), tt)

    goes-core : ent 𝓤 (⋆ 𝓛 (Toks ∷ ‵ (owns (state-row T ∷ ShrSlice (named 0) κ₁ X ∷ MutSlice (named 1) κ₂ Y ∷ []) (h, (xi, (xo, tt)))
        (mach ∷ [], (vi ∷ [], (vo ∷ [], tt)))) ∷ [])) ((Core form 𝓛).pre to-core)
    goes-core =
        qed 𝓛 (Toks ∷ ‵ (owns (state-row T ∷ ShrSlice (named 0) κ₁ X ∷ MutSlice (named 1) κ₂ Y ∷ []) (h, (xi, (xo, tt)))
        (mach ∷ [], (vi ∷ [], (vo ∷ [], tt)))) ∷ []) ∵ join ! $ frame ! $ done !

    -- what the core's contract says of its result and of the output's last list
    abbrev Said : S.D → List Y.Denot → Type 0
    Said r zs = Says h xi.now xo.now (S.answer r) (S.state r) zs

    exits : (r : S.D) (w : Val) (zs : List Y.Denot) → Is (result_row S) r (w ∷ []) → Said r zs → length zs ≡ length xo.now
        → ent 𝓤 (⋆ 𝓛 (‵ (fobs γ ((state-row T).coded.code (S.state r))) ∷ ‵ (fbor κ
        (Body (mem (state-row T)) b o γ)) ∷ ‵ (flft κ q) ∷ Toks ∷ ‵ (Last zs) ∷ [])) (Post (value-val O (S.answer r)))
    exits r w zs is e l =
        qed 𝓛 (‵ (fobs γ ((state-row T).coded.code (S.state r))) ∷ ‵ (fbor κ
        (Body (mem (state-row T)) b o γ)) ∷ ‵ (flft κ q) ∷ Toks ∷ ‵ (Last zs) ∷ []) ∵
        suffices ! _ (ends_at 𝓛 lent-ended stayed (lent-clauses 𝓤) (((κ, (κ₁, (κ₂, tt))), (q, (q₁, (q₂, tt))), tt, x, at), tt)
        (value-val O (S.answer r)) (S.answer r) (S.state r, (tt, (zs, tt))) (tt, (tt, (l, tt)))) $
        says ! e $
        move ! (2 ∷ 3 ∷ []) $ join ! $ frame ! $ feq_i ! (List Val) (vptr b o ∷ []) (vptr b o ∷ []) refl $ fjoin3 ! $
        -- [the state's reference; the output's last list]
        nothing ! $ move ! (2 ∷ 0 ∷ []) $ fjoin ! $ nothing ! $ fjoin ! $ move ! (1 ∷ 0 ∷ []) $ fjoin ! $
        owned ! (value_row O) (Is (value_row O)) (value-makes O 𝓛) (S.answer r) _ (answer-is S r w is) $
        move ! (1 ∷ 0 ∷ []) $ done !

    module _ (C : Calls 𝓤 H) (Λ : Loops 𝓤 H) (fm : FmC 𝓤 H 𝓛.laws C) (known : Triple 𝓤 (C #core) (Core form 𝓛)) where
      walk : Is (ShrSlice (named 1) κ₁ X) xi (vi ∷ []) → Room Y (length xo.now)
          → ent 𝓤 (on_entry 𝓛 lent-signature (κ, (κ₁, (κ₂, tt))) (q, (q₁, (q₂, tt))) x at) (WpFn 𝓤 H C Λ function (vptr b o ∷ vi ∷ vo ∷ []) Post)
      walk in_is room =
          qed 𝓛 ((‵ (flft κ q) ⊛ Toks) ∷ ‵ (owns
          (MutRef (named 0) κ (state-row T) ∷ ShrSlice (named 1) κ₁ X ∷ MutSlice (named 2) κ₂ Y ∷ []) x at) ∷ []) ∵ split ! $
          move ! (2 ∷ []) $ fsplit ! $ fsplit3 ! $ drop ! $ move ! (0 ∷ 1 ∷ 3 ∷ []) $
          -- [obs; the borrow; its token; what the slices own; their tokens]
          enter ! C Λ function (vptr b o ∷ vi ∷ vo ∷ []) _ $
          alloc1 ! (λ l₀. alloc1 ! (λ l₁. alloc1 !
          (λ l₂. alloc1 ! (λ l₃. alloc1 ! (λ l₄. alloc1 ! (λ l₅. alloc1 ! (λ l₆. alloc1 ! (λ l₇. alloc1 ! (λ l₈. alloc0 ! $ params1 ! $
          pass1 ! (init ! 14 refl (tt, tt)) $
          pass1 ! (init ! 12 refl ((shr_slice_Lawful 𝓛 (named 1) κ₁ X).typed xi _ in_is).0) $
          pass1 ! (init ! 10 refl (tt, (tt, (record { fits = room.0 }, tt)))) $ pass0 ! $
          -- the borrow is opened, and the struct is copied out
          move ! (18 ∷ 19 ∷ 20 ∷ []) $ opens ! tt (state-row T) {h = h} b o (λ vs.
          spelt ! (state-row T) (Is (state-row T)) (shows 𝓛 (state-row T)) (LL.vals T.type T.laws) (LL.tells T.type
          T.laws) full_share h vs b o $
          move ! (1 ∷ []) $ peeks ! (state-row T) (Is (state-row T)) (shows 𝓛 (state-row T)) h (mach ∷ []) (λ was. move ! (1 ∷ 0 ∷ []) $
          -- [the struct's cell; what the state owns; the open borrow; obs; auth; _8; …; _7; …; _6; …; _5; …; _4; …; _3; …; _2; …; _1; …;
          -- room for _0; …; what the slices own; their tokens]
          assigns ! (of_opd ! (load ! (from ! (hop ! (look ! 19 refl) (stop !))) (look_raw ! 0 refl))) (from ! (stop !)) (init ! 11 refl
          ((LL.lawful T.type T.laws 𝓛).typed h _ was).0) $
          assigns ! (addr ! (from ! (fld ! refl (hop ! (look_in ! 15 (sub ! 0 refl (whole !))) (stop !))))) (from ! (stop !)) (init ! 9 refl
          (tt, tt)) $
          assigns ! (agg ! (and_then ! (load ! (from ! (stop !)) (look ! 9 refl))
          (and_then ! (load ! (from ! (fld ! refl (stop !))) (look_in ! 15 (sub ! 1 refl (whole !)))) (no_more !)))) (from ! (stop !))
          (init ! 7 refl (tt, (tt, (record { fits = room.0 }, tt)))) $
          -- what the core is passed is put together
          move ! (1 ∷ 23 ∷ []) $ fjoin ! $ move ! (23 ∷ 0 ∷ []) $ use2 𝓛 (raw ((Core form 𝓛).pre to-core)) goes-core $
          -- [what the core asks; the struct's cell; the open borrow; obs; auth; _8; …; _7; …; _6; …; _5; …; _4; …; _3; …; _2; …; _1; …;
          -- room for _0; …]
          calls_at ! fm (Core form 𝓛) known to-core (and_then ! (load ! (from ! (stop !)) (look ! 11 refl))
          (and_then ! (load ! (from ! (stop !)) (look ! 17 refl)) (and_then ! (load ! (from ! (stop !)) (look ! 7 refl)) (no_more !)))) (λ w.
          use1 𝓛 (later (some (λ (r : S.D). (Toks ⊛ ‵ ((result_row S).own_val r (w ∷ []))) ⊛ raw
          (ensured 𝓛 core-ended (core-clauses 𝓤) (κ₁, (κ₂, tt)) (h, (xi, (xo, tt))) tt r)))) (id⊢ 𝓤 _) $ await ! tt $ pick ! (λ r.
          -- what the core ensures, at some last list of the output
          split ! $ move ! (1 ∷ []) $
          use1 𝓛 (some (λ (zs : Lasts core-ended (κ₁, (κ₂, tt)) (h, (xi, (xo, tt)))). ‵ (lasts core-ended (κ₁, (κ₂, tt)) (h, (xi, (xo, tt))) zs)
          ⊛ raw (fact 𝓤 (Said r zs.1.1.0)))) (id⊢ 𝓤 _) $ pick ! (λ zs.
          split ! $ move ! (1 ∷ []) $ heard ! (Said r zs.1.1.0) (λ e. fsplit ! $ drop ! $ fsplit ! $ drop ! $ fsplit ! $ fsplit ! $
          fsplit ! $ move ! (1 ∷ []) $ feq_l ! (λ l. fjoin ! $
          -- [the last list and the output's borrow; true; the tokens and the result; the struct's cell; …]
          move ! (2 ∷ []) $ split ! $ move ! (1 ∷ []) $ peeks ! (result_row S) (Is (result_row S)) (shows 𝓛 (result_row S)) r (w ∷ []) (λ is.
          land ! (from ! (stop !)) (init ! 16 refl ((LL.lawful (result-type S) (result-laws S) 𝓛).typed r _ is).0) $
          rewrite ! 16 (λ (u : Val). ‵ (fat full_share (layout (SD.shape (result-type S))) l₄ 0 u)) (ap only
          (LL.tells (result-type S) (result-laws S) r (w ∷ []) is)) refl $
          -- [what the core returned owns; the tokens; the last list; true; the struct's cell; the open borrow; obs; auth; _8; …; _7; …;
          -- _6; …; _5; …; _4; …; _3; …; _2; …; _1; …; room for _0; …]
          assigns ! (of_opd ! (load ! (from ! (fld ! refl (stop !))) (look_in ! 16 (sub ! 1 refl (whole !))))) (from ! (stop !))
          (init ! 8 refl ((LL.lawful T.type T.laws 𝓛).typed (S.state r) _ (state-is S r w is)).0) $
          assigns ! (of_opd ! (load ! (from ! (stop !)) (look ! 8 refl))) (from ! (hop ! (look ! 22 refl) (stop !))) (store_raw ! 4 refl
          ((LL.lawful T.type T.laws 𝓛).typed (S.state r) _ (state-is S r w is)).0) $
          assigns ! (of_opd ! (load ! (from ! (fld ! refl (stop !))) (look_in ! 16 (sub ! 0 refl (whole !))))) (from ! (stop !))
          (init ! 24 refl ((value-lawful O 𝓛).typed (S.answer r) _ (answer-is S r w is)).0) $
          -- the borrow is closed at the state that the core returned
          owned ! (state-row T) (Is (state-row T)) (LL.makes T.type T.plain 𝓛) (S.state r) _ (state-is S r w is) $
          move ! (5 ∷ 0 ∷ 6 ∷ 7 ∷ 8 ∷ []) $ closes ! tt (state-row T) (S.state r) (LL.vals T.type T.laws (S.state r)) b o $
          -- [obs; the borrow; its token; what the core returned owns; the slices' tokens; the last list; true; _8; …; _7; …; _6; …; _5; …;
          -- _4; …; _3; …; _2; …; _1; …; _0; …]
          returns ! (look ! 23 refl) $ forget ! 7 refl $ forget ! 9 refl $ forget ! 11 refl $ forget ! 13 refl $ forget ! 15 refl $
          forget ! 17 refl $ forget ! 19 refl $ forget ! 21 refl $ forget ! 23 refl $
          move ! (23 ∷ 24 ∷ []) $ free1 ! $ move ! (21 ∷ 22 ∷ []) $ free1 ! $ move ! (19 ∷ 20 ∷ []) $ free1 ! $
          move ! (17 ∷ 18 ∷ []) $ free1 ! $ move ! (15 ∷ 16 ∷ []) $ free1 ! $ move ! (13 ∷ 14 ∷ []) $ free1 ! $
          move ! (11 ∷ 12 ∷ []) $ free1 ! $ move ! (9 ∷ 10 ∷ []) $ free1 ! $ move ! (7 ∷ 8 ∷ []) $ free1 ! $ free0 ! $
          keep ! (0 ∷ 1 ∷ 2 ∷ 4 ∷ 5 ∷ []) $ by ! (exits r w zs.1.1.0 is e l))))))))))))))))))

  module _ {M : Type 1} {𝓤 : Ura M} (𝓛 : Logic 𝓤) where
    open 𝓛 use {H}

    lent-walks : (C : Calls 𝓤 H) (Λ : Loops 𝓤 H) → FmC 𝓤 H 𝓛.laws C → Triple 𝓤 (C #core) (Core form 𝓛)
        → Walks 𝓛 lent-ended stayed (WpFn 𝓤 H C Λ function) (lent-clauses 𝓤)
    lent-walks C Λ fm known = walked 𝓛 lent-ended stayed (lent-clauses 𝓤) (WpFn 𝓤 H C Λ function) (λ κs.
        (mut_vals, (shr_slice_vals, (mut_slice_vals, tt))))
        (λ κs. (
          mut_Tells (named 0) κs.0 (state-row T),
          (shr_slice_Tells (named 1) κs.1.0 X, (mut_slice_Tells (named 2) κs.1.1.0 Y, tt)),
        ))
        (λ κs qs bounds a _ are. via 𝓤 _ (fst∗ 𝓤 _ (emp 𝓤))
        (walk 𝓛 κs.0 κs.1.0 κs.1.1.0 qs.0 qs.1.0 qs.1.1.0 a.0.ref_ptr.0 a.0.ref_ptr.1 a.0.ghost_name a.0.now
        a.1.0 a.1.1.0 C Λ fm known are.1.0 are.1.1.0.0.1))

    goes : AllGo 𝓛 3 lent-signature.params lent-ended.kept stayed
    goes = (
      Goes-ref 𝓛 3 0 tt (plain (λ _. state-row T)),
      (
        Goes-dropped 𝓛 3 (SliceRefOf (1 ∷ []) tt (plain (λ _. X)) (λ _. one_in)) yes (λ κs x f. refl),
        (Goes-gave_slice 𝓛 3 2 tt (plain (λ _. Y)), tt),
      ),
    )

  pub lent-call : {M : Type 1} (𝓤 : Ura M) → Theorem form 𝓤
  lent-call = theorem form (λ M 𝓤 𝓛. goes 𝓛) (λ M 𝓤 𝓛. lent-walks 𝓛)
