-- What expressions mean, and the types that are written in them.
use Rattle.std.specs.Prelude.{ℕ, ◌-◌, ◌^◌, Bool, ◌&&◌, List, [], ◌∷◌, Option, None, Some, option_map, option_and_then, if◌then◌else◌, nat_lt, nat_le, nat_eq, min}
use Rattle.wf_text.specs.declared.place.Place.{Place}
use Rattle.wf_base.specs.declared.marks.Mark.{Mark}
use Rattle.wf_base.specs.declared.widths.Width.{Width}
use Rattle.wf_base.specs.declared.base_methods.Gives.{Gives}
use Rattle.wf_base.specs.declared.base_methods.Gives.TheVariants as gives
use Rattle.wf_base.specs.declared.base_methods.BaseSig.{BaseSig}
use Rattle.wf_base.specs.BaseTable.{bits_of, row_of}
use Rattle.wf_ast.specs.declared.types.Ty.{Ty}
use Rattle.wf_ast.specs.declared.types.Ty.TheVariants as types
use Rattle.wf_ast.specs.TypedTrees.{operator_kind}
use Rattle.wf_ast.specs.WellTyped.{is_pure}
use Rattle.wf_named.specs.declared.nodes.BaseType.{BaseType}
use Rattle.wf_named.specs.declared.nodes.BaseType.TheVariants as bases
use Rattle.wf_named.specs.declared.nodes.NamedCallee.TheVariants as callees
use Rattle.wf_named.specs.NamedTree.{NamedExprTree, number, status, truth, path, index, slice, answer, chain, convert, negation, NamedPartTree, absent, present, NamedLinkTrees, no_link, link, NamedCallTree, call, NamedTypeTree, slice_of, array_of, base_type, struct_type, unrefined, refined}
use Rattle.wf_types_rules.specs.declared.meanings.Meaning.{Meaning}
use Rattle.wf_types_rules.specs.declared.meanings.Meaning.TheVariants as meanings
use Rattle.wf_types_rules.specs.declared.meanings.Operand.{Operand}
use Rattle.wf_types_rules.specs.declared.settings.Setting.{Setting}
use Rattle.wf_types_rules.specs.Meanings.{all_of, variable, is_value, is_number, is_flag, constant_number, place_of}
use Rattle.wf_types_rules.specs.Operands.{meaning_of_operator}

abbrev pub only_where : (Meaning → Bool) → Meaning → Option Meaning
only_where test m = if test m then Some m else None

-- An array or a slice gives its elements.
abbrev pub element_of : Meaning → Option Ty
element_of (meanings.Typed (types.Array width lo hi count)) = Some (types.Num width lo hi)
element_of (meanings.Typed (types.Slice width)) = Some (all_of width)
element_of m = None

-- A slice, and an array whose elements hold every number of their width, gives slices.
abbrev pub slice_in : Meaning → Option Ty
slice_in (meanings.Typed (types.Slice width)) = Some (types.Slice width)
slice_in (meanings.Typed (types.Array width lo hi count)) = if nat_eq lo 0 && nat_eq hi (2 ^ bits_of width - 1) then Some (types.Slice width) else None
slice_in m = None

-- What a base method gives.
abbrev pub given_by_base : Gives → Option Ty
given_by_base gives.Nothing = None
given_by_base (gives.Num width) = Some (all_of width)
given_by_base gives.Flag = Some types.Flag

-- Inside an expression only a pure base method answers.
abbrev pub pure_answer : BaseSig → (written : Mark) → Meaning → Option Meaning
pure_answer sig written on = if is_pure (row_of sig).mark && is_pure written then option_map meanings.Typed (given_by_base (row_of sig).gives) else None

abbrev pub answer_inside : Setting → NamedCallTree → Option Meaning
answer_inside s (call (callees.Base on sig) at mark args) = option_and_then (pure_answer sig mark) (variable s on.of)
answer_inside s (call callee at mark args) = None

-- The width of a numeric type without bounds.
abbrev pub plain_width : NamedTypeTree → Option Width
plain_width (base_type (Some (bases.Number width)) at unrefined) = Some width
plain_width t = None

abbrev pub base_of : BaseType → Ty
base_of (bases.Number width) = all_of width
base_of bases.Flag = types.Flag
base_of bases.Status = types.Status
base_of bases.Reader = types.Reader
base_of bases.Writer = types.Writer

-- Bounds, where both are constant numbers: the lower one isn't above the upper one, and this not above the width.
abbrev pub refined_type : Width → (low high : Option ℕ) → Option Ty
refined_type width (Some m) (Some n) = if nat_le m n && nat_lt n (2 ^ bits_of width) then Some (types.Num width m n) else None
refined_type width low high = None

-- An array has elements, from the number 1 on, that may be 0. A type tells of at most 2 ^ 32 - 1 of them; a longer array,
-- which the limits refuse wherever an array may be declared, counts as one of so many.
abbrev pub array_type : (count : Option ℕ) → (element : Option Ty) → Option Ty
array_type (Some count) (Some (types.Num width lo hi)) = if nat_lt 0 count && nat_eq lo 0 then Some (types.Array width lo hi (min count (2 ^ 32 - 1))) else None
array_type count element = None

-- The operand of `as` is a number, which as a constant lies in the type.
abbrev pub converted : Option Width → Meaning → Option Meaning
converted None m = None
converted (Some width) (meanings.Constant own value) = if nat_lt value (2 ^ bits_of width) then Some (meanings.Constant (Some width) value) else None
converted (Some width) m = if is_number m then Some (meanings.Typed (all_of width)) else None

abbrev pub in_front : Option Operand → Option (List Operand) → Option (List Operand)
in_front (Some o) (Some os) = Some (o ∷ os)
in_front o os = None

abbrev pub operand_at : Place → Meaning → Operand
operand_at at m = record { at = at; of = m }

-- An end of a slice that is absent, or a number.
abbrev pub if_number : Option Meaning → Option Ty → Option Ty
if_number (Some m) ty = if is_number m then ty else None
if_number None ty = None

abbrev mutual
  pub meaning : Setting → NamedExprTree → Option Meaning
  meaning s (number n at) = Some (meanings.Constant None n)
  meaning s (status n at) = Some (meanings.Typed types.Status)
  meaning s (truth value at) = Some (meanings.Typed types.Flag)
  meaning s (path p) = option_and_then (only_where is_value) (variable s p.of)
  meaning s (index p i at) = option_map meanings.Typed (if_number (meaning s i) (option_and_then element_of (variable s p.of)))
  meaning s (slice p from to at) = option_map meanings.Typed (if_end s from (if_end s to (option_and_then slice_in (variable s p.of))))
  meaning s (answer c) = answer_inside s c
  meaning s (chain op first links at) =
      option_and_then (meaning_of_operator (operator_kind op)) (in_front (option_map (operand_at (place_of first)) (meaning s first)) (operands_behind s links))
  meaning s (convert e t at) = option_and_then (converted (plain_width t)) (meaning s e)
  meaning s (negation e at) = option_and_then (only_where is_flag) (meaning s e)

  pub if_end : Setting → NamedPartTree → Option Ty → Option Ty
  if_end s absent ty = ty
  if_end s (present e) ty = if_number (meaning s e) ty

  pub operands_behind : Setting → NamedLinkTrees → Option (List Operand)
  operands_behind s no_link = Some []
  operands_behind s (link sign e others) = in_front (option_map (operand_at (place_of e)) (meaning s e)) (operands_behind s others)

-- The operands of a chain, where each means something.
abbrev pub operands : Setting → NamedExprTree → NamedLinkTrees → Option (List Operand)
operands s first links = in_front (option_map (operand_at (place_of first)) (meaning s first)) (operands_behind s links)

-- The number of a constant expression.
abbrev pub number_of : Setting → NamedExprTree → Option ℕ
number_of s e = option_and_then constant_number (meaning s e)

-- A bound below that isn't written is 0.
abbrev pub low_number : Setting → NamedPartTree → Option ℕ
low_number s absent = Some 0
low_number s (present e) = number_of s e

-- The type that is written, where it is one.
abbrev pub written : Setting → NamedTypeTree → Option Ty
written s (slice_of at element) = option_map types.Slice (plain_width element)
written s (array_of length at element) = array_type (number_of s length) (written s element)
written s (base_type None at bounds) = None
written s (base_type (Some of) at unrefined) = Some (base_of of)
written s (base_type (Some (bases.Number width)) at (refined low high)) = refined_type width (low_number s low) (number_of s high)
written s (base_type (Some of) at (refined low high)) = None
written s (struct_type n at) = Some (types.Part (record { 0 = n }))
