-- The types that a C text may give to fields, parameters, locals and results, and what goes to a cell of a type
-- (ISO/IEC 9899:1999, 6.2.5, 6.5.16.1, 6.7.2.1).
use Rattle.std.specs.Prelude.{◌≡◌, ◌≤◌, ℕ, ⊤, List, Option, Some, None}
use Rattle.c_text.specs.declared.kinds.CNumber.{CNumber}
use Rattle.c_text.specs.declared.kinds.CNumber.TheVariants as literal
use Rattle.c_text.specs.CTree.{TypeTree, uint, size, boolean, struct_pointer, text, FieldKind, plain, inside, FieldTree, ItemTree, struct_item}
use Rattle.c_meaning.specs.CTypes.{ExprType, numbers, points_to, zero_literal, value_type}
use Rattle.c_form_laws.specs.Places.{Has}

-- A number's type; a flag is a number (6.2.5p18).
abbrev pub IsNumeric : TypeTree → Type 0
IsNumeric (uint u) = ⊤
IsNumeric size = ⊤
IsNumeric boolean = ⊤
IsNumeric t = ⊥

-- What fields and results are: numbers, or strings.
abbrev pub IsValue : TypeTree → Type 0
IsValue text = ⊤
IsValue t = IsNumeric t

-- One of these items is a struct of this name (6.2.3).
abbrev pub IsStruct : List ItemTree → List ℕ → Type 0
IsStruct items name = (fields : List FieldTree) × Has items (struct_item fields name)

-- A struct is declared before a type names it (6.2.1p7).
abbrev pub IsKnown : List ItemTree → TypeTree → Type 0
IsKnown before (struct_pointer name) = IsStruct before name
IsKnown before t = ⊤

-- A length is a plain number of at least 1 (6.7.5.2p1).
abbrev pub IsLength : Option CNumber → Type 0
IsLength None = ⊤
IsLength (Some (literal.Int n)) = 1 ≤ n
IsLength (Some n) = ⊥

-- A field holds values, or one object of a struct that was declared before (6.7.2.1).
abbrev pub IsField : List ItemTree → FieldKind → Option CNumber → Type 0
IsField before (plain t) count = IsValue t × IsLength count
IsField before (inside name) count = IsStruct before name × (count ≡ None)

-- A result is a value; a function without one is `void` (6.9.1p3).
abbrev pub IsResult : Option TypeTree → Type 0
IsResult None = ⊤
IsResult (Some t) = IsValue t

-- What is assigned, passed, returned or initial: a number where the target is one, else a pointer of the target's type;
-- the literal 0 is both (6.5.16.1).
abbrev pub Fits : TypeTree → ExprType → Type 0
Fits t zero_literal = ⊤
Fits t (numbers c) = IsNumeric t
Fits t (points_to p) = value_type t ≡ points_to p
