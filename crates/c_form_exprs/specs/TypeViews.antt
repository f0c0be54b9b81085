-- The types of expressions by the numbers of names, as the types by names that they stand for.
use Rattle.std.specs.Prelude.{◌≡◌, ℕ, List, Option, option_map, IfSome, ⊤}
use Rattle.c_text.specs.CNodes.{Nodes, bytes_at, type_in}
use Rattle.c_text.specs.CFits.{HasName, HasType}
use Rattle.c_meaning.specs.CTypes as by_name
use Rattle.c_form_exprs.specs.declared.types.Target.{Target}
use Rattle.c_form_exprs.specs.declared.types.Target.TheVariants as target
use Rattle.c_form_exprs.specs.declared.types.ExprType.{ExprType}
use Rattle.c_form_exprs.specs.declared.types.ExprType.TheVariants as type
use Rattle.c_form_exprs.specs.declared.types.Held.{Held}
use Rattle.c_form_exprs.specs.declared.types.Held.TheVariants as held

-- What a pointer points to.
abbrev pub target_in : List (List ℕ) → Target → by_name.Target
target_in names (target.Cell t) = by_name.cell (type_in names t)
target_in names (target.Object n) = by_name.object (bytes_at names n.0)
target_in names target.Byte = by_name.byte

-- The type of a value.
abbrev pub value_in : List (List ℕ) → ExprType → by_name.ExprType
value_in names (type.Numbers c) = by_name.numbers c
value_in names (type.PointsTo t) = by_name.points_to (target_in names t)
value_in names type.ZeroLiteral = by_name.zero_literal

-- What an lvalue stands for.
abbrev pub held_in : List (List ℕ) → Held → by_name.Held
held_in names (held.One t) = by_name.one (type_in names t)
held_in names (held.Fixed t) = by_name.fixed (type_in names t)
held_in names (held.Many t) = by_name.many (type_in names t)
held_in names (held.Inner n) = by_name.inner (bytes_at names n.0)
held_in names held.Character = by_name.character
held_in names held.Characters = by_name.characters

-- The names in them are names of the unit.
abbrev pub HasTarget : Nodes → Target → Type 0
HasTarget nodes (target.Cell t) = HasType nodes t
HasTarget nodes (target.Object n) = HasName nodes n
HasTarget nodes target.Byte = ⊤

abbrev pub HasValue : Nodes → ExprType → Type 0
HasValue nodes (type.Numbers c) = ⊤
HasValue nodes (type.PointsTo t) = HasTarget nodes t
HasValue nodes type.ZeroLiteral = ⊤

abbrev pub HasHeld : Nodes → Held → Type 0
HasHeld nodes (held.One t) = HasType nodes t
HasHeld nodes (held.Fixed t) = HasType nodes t
HasHeld nodes (held.Many t) = HasType nodes t
HasHeld nodes (held.Inner n) = HasName nodes n
HasHeld nodes held.Character = ⊤
HasHeld nodes held.Characters = ⊤

-- A type that was found, or none, is the one that is asked for.
abbrev pub TellsType : Nodes → Option ExprType → Option by_name.ExprType → Type 0
TellsType nodes found asked = (option_map (value_in nodes.names) found ≡ asked) × IfSome found (HasValue nodes)

-- The same of what an lvalue stands for.
abbrev pub TellsHeld : Nodes → Option Held → Option by_name.Held → Type 0
TellsHeld nodes found asked = (option_map (held_in nodes.names) found ≡ asked) × IfSome found (HasHeld nodes)
