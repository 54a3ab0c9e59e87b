-- A form of thin calls on a lent state: the signatures and contracts of the core and of the call, the call's code, and what is had of its
-- parameters at exit. What a walk of that code shows gives the call's theorem from the core's, whichever the form is.
-- Assumes nothing.
use mathlib.Core.Path.{◌≡◌}
use seplogic.Ra.Ura.{Ura}
use mir.Syntax.{Callee, Fn}
use base.Logic.{SProp}
use prog.Memory.{Memory}
use prog.Model.{Model}
use prog.Routine.{Env, Routine}
use prog.Wp.{Calls, Loops, WpFn, Closed, Tables}
use types.Logic.{Logic}
use contract.Monad.{Fun}
use contract.Running.{Running, tables, tables_of}
use sound.WpLaws.{FmC, fm_of, WpFn-mono}
use denote.Triple.Statement.{Contract, Triple}
use denote.Triple.Clauses.{Ended, Clauses, closing}
use denote.Triple.Spec.{Meets, triple_of}
use denote.Triple.Table.{entered, cited}
use denote.Triple.Walked.{Stays, AllGo, Walks, walk_Meets}

pub record Form : Type 2 where
  pub core : Ended
  pub core-clauses : {M : Type 1} (𝓤 : Ura M) → Clauses 𝓤 core
  pub lent : Ended
  pub lent-clauses : {M : Type 1} (𝓤 : Ura M) → Clauses 𝓤 lent
  pub stays : Stays lent.signature.params lent.kept
  pub #core : Callee
  pub function : Fn

module _ (F : Form) where
  -- that a function's contract is the call's
  abbrev pub IsThin : ((M : Type 1) (𝓤 : Ura M) (𝓛 : Logic 𝓤) → (Memory → SProp 𝓤) → (Routine → Fun 𝓤) → Clauses 𝓤 F.lent) → Type 2
  IsThin clauses =
      (M : Type 1) (𝓤 : Ura M) (𝓛 : Logic 𝓤) (at_mem : Memory → SProp 𝓤) (run : Routine → Fun 𝓤) →
      clauses M 𝓤 𝓛 at_mem run ≡ F.lent-clauses 𝓤

  -- the core's contract, which the proof cites, and the call's
  abbrev pub Core : {M : Type 1} {𝓤 : Ura M} (𝓛 : Logic 𝓤) → Contract 𝓤
  Core {𝓤 = 𝓤} 𝓛 = triple_of 𝓛 F.core.signature (closing 𝓛 F.core (F.core-clauses 𝓤))

  abbrev pub Lent : {M : Type 1} {𝓤 : Ura M} (𝓛 : Logic 𝓤) → Contract 𝓤
  Lent {𝓤 = 𝓤} 𝓛 = triple_of 𝓛 F.lent.signature (closing 𝓛 F.lent (F.lent-clauses 𝓤))

  -- what a form's own proof shows: that what is had of the parameters at exit is what the contract says of them, and the walk
  abbrev pub Going : Type 2
  Going = (M : Type 1) (𝓤 : Ura M) (𝓛 : Logic 𝓤)
      → AllGo 𝓛 F.lent.signature.lifetimes F.lent.signature.params F.lent.kept F.stays

  abbrev pub Walking : Type 2
  Walking = (M : Type 1) (𝓤 : Ura M) (𝓛 : Logic 𝓤) (C : Calls 𝓤 𝓛.H) (Λ : Loops 𝓤 𝓛.H) → FmC 𝓤 𝓛.H 𝓛.laws C
      → Triple 𝓤 (C F.#core) (Core 𝓛) → Walks 𝓛 F.lent F.stays (WpFn 𝓤 𝓛.H C Λ F.function) (F.lent-clauses 𝓤)

  -- the call's theorem, of the core's: in any table of routines where the one stands by its code, and the other by its own
  abbrev pub Theorem : {M : Type 1} → Ura M → Type 2
  Theorem 𝓤 = (𝓛 : Logic 𝓤) (𝓜 : Model 𝓤 𝓛.H) (𝓡 : Running 𝓤 𝓛.H 𝓜) (γ : Env) (#lent : Callee) (r : Routine)
      → Closed 𝓤 𝓛.H (tables 𝓤 𝓛.H 𝓜 𝓡 γ).C (tables 𝓤 𝓛.H 𝓜 𝓡 γ).Λ #lent F.function → γ F.#core ≡ r → Triple 𝓤 (𝓡.run r) (Core 𝓛)
      → Triple 𝓤 ((tables 𝓤 𝓛.H 𝓜 𝓡 γ).C #lent) (Lent 𝓛)

  module _ (goes : Going) (walks : Walking) where
    meets : {M : Type 1} {𝓤 : Ura M} (𝓛 : Logic 𝓤) → (𝓣 : Tables 𝓤 𝓛.H) → Triple 𝓤 (𝓣.C F.#core) (Core 𝓛)
        → Meets 𝓛 F.lent.signature (WpFn 𝓤 𝓛.H 𝓣.C 𝓣.Λ F.function) (closing 𝓛 F.lent (F.lent-clauses 𝓤))
    meets {M} {𝓤 = 𝓤} 𝓛 𝓣 known = walk_Meets 𝓛 F.lent F.stays (goes M 𝓤 𝓛) (F.lent-clauses 𝓤) (WpFn 𝓤 𝓛.H 𝓣.C 𝓣.Λ F.function)
        (WpFn-mono 𝓤 𝓛.H 𝓛.laws 𝓣 F.function)
        (walks M 𝓤 𝓛 𝓣.C 𝓣.Λ (fm_of 𝓤 𝓛.H 𝓛.laws 𝓣) known)

    pub theorem : {M : Type 1} (𝓤 : Ura M) → Theorem 𝓤
    unfolding tables_of
    theorem 𝓤 𝓛 𝓜 𝓡 γ #lent r closed is-core met =
        entered 𝓤 𝓛.H (Lent 𝓛) (tables 𝓤 𝓛.H 𝓜 𝓡 γ).C (tables 𝓤 𝓛.H 𝓜 𝓡 γ).Λ #lent F.function closed
        (meets 𝓛 (tables_of 𝓤 𝓛.H 𝓜 (tables 𝓤 𝓛.H 𝓜 𝓡 γ)) (cited 𝓤 𝓛.H (Core 𝓛) 𝓜 𝓡 γ F.#core r is-core met))
