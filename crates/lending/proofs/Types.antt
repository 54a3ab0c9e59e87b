-- The types that a thin call on a lent state is over, each with what is known of it: rattle makes these for every declared type, in its module
-- and in the `Laws` below that.
-- Assumes nothing.
use mathlib.Core.Path.{◌≡◌, refl}
use mathlib.Core.List.{[], ◌∷◌, List}
use seplogic.Ra.Ura.{Ura}
use mir.Syntax.{Sym, Ty, ty_int, w8, w64}
use mir.Val.{Val}
use base.Fml.{ftrue}
use types.Logic.{Logic}
use denote.RattleType.{RattleType, Denots}
use denote.Exit.{Last, left, yes}
use denote.Laws.{Is, Tells, Makes, Lawful}
use denote.Lowered.{Lowered}
use denote.Shadow.{makes_shadow}
use denote.Struct.Field.{Field, rows, u8-field, u64-field}
use denote.Struct.Recorded.{Recorded, recorded_lawful}
use denote.Struct.Struct.{Plains, layout}
use denote.Struct.Cover.{Cover}
use denote.Struct.Values.{Values}
use denote.Struct.Declared as struct
use denote.Struct.Laws as struct_laws
use denote.Enum.Enum.{Few, Plainss, layout as enum-layout}
use denote.Enum.Declared as enum
use denote.Enum.Laws as enum_laws

-- a plain struct
pub record Struct : Type 2 where
  pub type : struct.Declared
  pub laws : struct_laws.Laws type
  pub lowers : struct_laws.Lowered type
  pub plain : Plains (struct.fields type)

-- a plain enum
pub record Enum : Type 2 where
  pub type : enum.Declared
  pub laws : enum_laws.Laws type
  pub few : Few (enum.shape type)
  pub lowers : Lowered (enum.row type)
  pub plain : Plainss (enum.variants type)

-- a plain type of one machine value, as a field of a struct has it, with its MIR type written out: an answer or a value passed on, of whichever
-- kind
abbrev pub at_one : Field → Ty → Field
at_one F τ = record {
  row = record {
    Denot = F.row.Denot;
    mir = τ ∷ [];
    written = F.row.written;
    reaches = F.row.reaches;
    lives = F.row.lives;
    own_val = F.row.own_val;
    exit = F.row.exit;
    coded = F.row.coded;
    shr_at = F.row.shr_at;
  };
  Value = F.Value;
  into = F.into;
  into_one = F.into_one;
}

pub record Value : Type 2 where
  pub field : Field
  pub mir : Ty
  pub laws : struct_laws.FLaws (at_one field mir)
  pub plain : struct_laws.Plain (at_one field mir)

abbrev pub of-enum : Enum → Value
of-enum O = record {
  field = enum.field O.type;
  mir = enum-layout (enum.shape O.type);
  laws = enum_laws.field_laws O.type O.laws O.few O.lowers;
  plain = enum_laws.field_plain O.type O.plain;
}

abbrev pub of_struct : Struct → Value
of_struct O = record {
  field = struct.field O.type;
  mir = layout (struct.shape O.type);
  laws = struct_laws.field_laws O.type O.laws O.lowers;
  plain = struct_laws.field_plain O.type O.plain;
}

abbrev pub of-u8 : Value
of-u8 = record { field = u8-field; mir = ty_int w8; laws = struct_laws.u8-laws; plain = struct_laws.u8-plain }

abbrev pub of-u64 : Value
of-u64 = record { field = u64-field; mir = ty_int w64; laws = struct_laws.u64-laws; plain = struct_laws.u64-plain }

-- its values, its row in a signature, and what is known of that
module _ (O : Value) where
  abbrev pub value-field : Field
  value-field = at_one O.field O.mir

  abbrev pub Of : Type 0
  Of = O.field.Value

  abbrev pub value_row : RattleType
  value_row = Recorded value-field.row O.field.Value O.field.into O.field.into_one

  -- its machine value
  abbrev pub value-val : O.field.Value → Val
  value-val d = O.laws.val (O.field.into d)

  abbrev pub value-vals : O.field.Value → List Val
  value-vals d = value-val d ∷ []

  pub value_tells : Tells value_row (Is value_row) value-vals
  value_tells d vs p = O.laws.tells (O.field.into d) vs p

  pub value-makes : {M : Type 1} {𝓤 : Ura M} (𝓛 : Logic 𝓤) → Makes 𝓛 value_row (Is value_row)
  value-makes 𝓛 d vs p = makes_shadow 𝓛 (value_row.own_val d vs) (O.plain (O.field.into d) vs) p

  pub value-lawful : {M : Type 1} {𝓤 : Ura M} (𝓛 : Logic 𝓤) → Lawful 𝓛 value_row
  value-lawful 𝓛 = recorded_lawful value-field.row O.field.Value O.field.into O.field.into_one 𝓛 (O.laws.lawful 𝓛)

-- a value that is passed on: nothing is bound of it at exit, which `tt` and `refl` show of a type that is written out
pub record Passed : Type 2 where
  pub value : Value
  pub last : (x : Of value) → Last ((value_row value).exit yes) x
  pub silent : (x : Of value) (f : Last ((value_row value).exit yes) x) → left ((value_row value).exit yes) x f ≡ ftrue

abbrev pub passed-u64 : Passed
passed-u64 = record { value = of-u64; last = λ _. tt; silent = λ x f. refl }

-- a struct of an answer and a state, and of no more data than that: what the call by value gives back
abbrev pub result-parts : Value → Struct → List Field
result-parts O T = value-field O ∷ struct.field T.type ∷ []

pub record Result (O : Value) (T : Struct) : Type 2 where
  pub name : Sym
  pub D : Type 0
  pub answer : D → Of O
  pub state : D → T.type.D
  pub to_one : (x y : D) →
      ◌≡◌ {A = Denots (rows (result-parts O T))} (O.field.into (answer x), (T.type.to (state x), tt))
      (O.field.into (answer y), (T.type.to (state y), tt)) → x ≡ y
  pub cover : Cover D (Values (result-parts O T)) (λ r. (answer r, (state r, tt)))
  pub propositions : (v : Values (result-parts O T)) → IsProp (cover.Ghost v)

-- the state's row, and the result as a struct of two fields
abbrev pub state-row : Struct → RattleType
state-row T = struct.row T.type

module _ {O : Value} {T : Struct} (S : Result O T) where
  abbrev pub result-type : struct.Declared
  result-type = record {
    name = S.name;
    args = [];
    types = [];
    parts = result-parts O T;
    D = S.D;
    to = λ r. (O.field.into (S.answer r), (T.type.to (S.state r), tt));
    to_one = S.to_one;
    as_values = λ r. (S.answer r, (S.state r, tt));
    to_is = λ r. refl;
    cover = S.cover;
    propositions = S.propositions;
  }

  abbrev pub result-laws : struct_laws.Laws result-type
  result-laws = (O.laws, (struct_laws.field_laws T.type T.laws T.lowers, tt))

  abbrev pub result_row : RattleType
  result_row = struct.row result-type

  -- of what the core returned: the relations of its two fields
  module _ (r : S.D) (w : Val) (is : Is result_row r (w ∷ [])) where
    pub answer-is : Is (value_row O) (S.answer r) (value-vals O (S.answer r))
    answer-is = (struct_laws.owed result-type result-laws r (w ∷ []) is).0

    pub state-is : Is (state-row T) (S.state r) (struct_laws.vals T.type T.laws (S.state r))
    state-is = (struct_laws.owed result-type result-laws r (w ∷ []) is).1.0
