-- The types of expressions, by a rule for each form: what its operands have to be, and what it gives then. A constant stands for its
-- number, with its width where a name or `as` gives it one.
use Rattle.std.specs.Prelude.{◌≡◌, ◌⊎◌, ⊤, ℕ, ◌<◌, ◌-◌, ◌^◌, Bool, true, false, List, [], ◌∷◌, map, Option, None, Some, slice_get}
use Rattle.std.specs.List.{AllByRecursion}
use Rattle.wf_text.specs.declared.place.Place.{Place}
use Rattle.wf_base.specs.declared.marks.Mark.{Mark}
use Rattle.wf_base.specs.declared.widths.Width.{Width}
use Rattle.wf_base.specs.declared.base_methods.BaseSig.{BaseSig}
use Rattle.wf_base.specs.BaseTable.{bits_of, row_of}
use Rattle.wf_ast.specs.declared.operators.Op.{Op}
use Rattle.wf_ast.specs.declared.types.Ty.{Ty}
use Rattle.wf_ast.specs.declared.types.Ty.TheVariants as types
use Rattle.wf_ast.specs.TypedTree.{Arith, Order, equal, differs}
use Rattle.wf_ast.specs.TypedTrees.{OperatorKind, arithmetic, ordering, joining, operator_kind}
use Rattle.wf_ast.specs.WellTyped.{is_pure, is_shift}
use Rattle.wf_named.specs.declared.nodes.NamedCallee.TheVariants as callees
use Rattle.wf_named.specs.declared.nodes.NamedPath.{NamedPath}
use Rattle.wf_named.specs.NamedTree as tree
use Rattle.wf_named.specs.NamedTree.{NamedExprTree, NamedPartTree, NamedLinkTrees, NamedArgTrees, NamedTypeTree}
use Rattle.wf_types_rules.specs.declared.meanings.Meaning.{Meaning}
use Rattle.wf_types_rules.specs.declared.meanings.Meaning.TheVariants as meanings
use Rattle.wf_types_rules.specs.declared.settings.Setting.{Setting}
use Rattle.wf_types_rules.specs.Meanings.{all_of, variable, is_value, is_number, is_flag, is_status, is_constant, constant_number, width_of}
use Rattle.wf_types_rules.specs.Operands.{bits_in, constant_value}
use Rattle.wf_types_rules.specs.ExprTypes.{given_by_base, plain_width}

-- A number of this width, or a constant that has none and lies in it.
abbrev pub IsOfWidth : Width → Meaning → Type 0
IsOfWidth width (meanings.Typed (types.Num own lo hi)) = bits_of own ≡ bits_of width
IsOfWidth width (meanings.Constant (Some own) value) = bits_of own ≡ bits_of width
IsOfWidth width (meanings.Constant None value) = value < 2 ^ bits_of width
IsOfWidth width m = ⊥

-- A constant without a width.
abbrev pub IsFree : Meaning → Type 0
IsFree (meanings.Constant None value) = ⊤
IsFree m = ⊥

-- Numbers of one width; where none has a width they are constants.
abbrev pub AreOfOneWidth : Option Width → List Meaning → Type 0
AreOfOneWidth (Some width) ms = AllByRecursion (IsOfWidth width) ms
AreOfOneWidth None ms = AllByRecursion IsFree ms

-- Not all of them are constants.
pub record Vary (ms : List Meaning) : Type 0 where
  pub n : ℕ
  pub m : Meaning
  pub there : slice_get ms n ≡ Some m
  pub varies : is_constant m ≡ false

-- They are constants with these numbers.
abbrev pub AreConstants : List Meaning → List ℕ → Type 0
AreConstants ms ns = map constant_number ms ≡ map (λ n. Some n) ns

-- What an operator takes, and what it gives.
pub data Gives : OperatorKind → List Meaning → Meaning → Type 0 where
  a_number : (op : Arith) (ms : List Meaning) (width : Width) → is_shift op ≡ false → AreOfOneWidth (Some width) ms → Vary ms → Gives (arithmetic op) ms (meanings.Typed (all_of width))
  a_constant : (op : Arith) (ms : List Meaning) (width : Option Width) (ns : List ℕ) (value : ℕ) → is_shift op ≡ false → AreOfOneWidth width ms → AreConstants ms ns
      → constant_value op (bits_in width) ns ≡ Some value → Gives (arithmetic op) ms (meanings.Constant width value)
  -- the right side of a shift has any width
  a_shifted_number : (op : Arith) (a b : Meaning) (ms : List Meaning) (width : Width) → is_shift op ≡ true → is_number a ≡ true → is_number b ≡ true → width_of a ≡ Some width → Vary (a ∷ b ∷ ms)
      → Gives (arithmetic op) (a ∷ b ∷ ms) (meanings.Typed (all_of width))
  a_shifted_constant : (op : Arith) (a b : Meaning) (ms : List Meaning) (ns : List ℕ) (value : ℕ) → is_shift op ≡ true → is_number a ≡ true → is_number b ≡ true → AreConstants (a ∷ b ∷ ms) ns
      → constant_value op (bits_in (width_of a)) ns ≡ Some value → Gives (arithmetic op) (a ∷ b ∷ ms) (meanings.Constant (width_of a) value)
  a_comparison : (op : Order) (ms : List Meaning) (width : Option Width) → AreOfOneWidth width ms → Gives (ordering op) ms (meanings.Typed types.Flag)
  one_status : (op : Order) (ms : List Meaning) → (op ≡ equal) ⊎ (op ≡ differs) → AllByRecursion (λ m. is_status m ≡ true) ms → Gives (ordering op) ms (meanings.Typed types.Flag)
  a_junction : (both : Bool) (ms : List Meaning) → AllByRecursion (λ m. is_flag m ≡ true) ms → Gives (joining both) ms (meanings.Typed types.Flag)

-- What stands before a `[`, with its elements; and what gives slices.
pub data HasElements : Meaning → Ty → Type 0 where
  of_array : (width : Width) (lo hi count : ℕ) → HasElements (meanings.Typed (types.Array width lo hi count)) (types.Num width lo hi)
  of_slice : (width : Width) → HasElements (meanings.Typed (types.Slice width)) (all_of width)

pub data IsSliced : Meaning → Width → Type 0 where
  a_slice : (width : Width) → IsSliced (meanings.Typed (types.Slice width)) width
  an_array : (width : Width) (lo hi count : ℕ) → lo ≡ 0 → hi ≡ 2 ^ bits_of width - 1 → IsSliced (meanings.Typed (types.Array width lo hi count)) width

mutual
  pub data HasType (s : Setting) : NamedExprTree → Meaning → Type 0 where
    of_literal : (value : ℕ) (at : Place) → HasType s (tree.number value at) (meanings.Constant None value)
    of_status : (n : ℕ) (at : Place) → HasType s (tree.status n at) (meanings.Typed types.Status)
    of_truth : (value : Bool) (at : Place) → HasType s (tree.truth value at) (meanings.Typed types.Flag)
    of_variable : (p : NamedPath) (m : Meaning) → variable s p.of ≡ Some m → is_value m ≡ true → HasType s (tree.path p) m
    of_element : (p : NamedPath) (on : Meaning) (i : NamedExprTree) (m : Meaning) (ty : Ty) (at : Place) → variable s p.of ≡ Some on → HasElements on ty → HasType s i m → is_number m ≡ true
        → HasType s (tree.index p i at) (meanings.Typed ty)
    of_part : (p : NamedPath) (on : Meaning) (from to : NamedPartTree) (width : Width) (at : Place) → variable s p.of ≡ Some on → IsSliced on width → IsEnd s from → IsEnd s to
        → HasType s (tree.slice p from to at) (meanings.Typed (types.Slice width))
    of_answer : (on : NamedPath) (held : Meaning) (sig : BaseSig) (at : Place) (mark : Mark) (args : NamedArgTrees) (ty : Ty) → variable s on.of ≡ Some held → is_pure (row_of sig).mark ≡ true → is_pure mark ≡ true
        → given_by_base (row_of sig).gives ≡ Some ty → HasType s (tree.answer (tree.call (callees.Base on sig) at mark args)) (meanings.Typed ty)
    of_operator : (op : Op) (first : NamedExprTree) (links : NamedLinkTrees) (at : Place) (m : Meaning) (ms : List Meaning) (given : Meaning) → HasType s first m → HaveTypes s links ms
        → Gives (operator_kind op) (m ∷ ms) given → HasType s (tree.chain op first links at) given
    of_conversion : (e : NamedExprTree) (t : NamedTypeTree) (at : Place) (m : Meaning) (width : Width) → HasType s e m → plain_width t ≡ Some width → is_number m ≡ true → is_constant m ≡ false
        → HasType s (tree.convert e t at) (meanings.Typed (all_of width))
    of_converted_constant : (e : NamedExprTree) (t : NamedTypeTree) (at : Place) (own : Option Width) (value : ℕ) (width : Width) → HasType s e (meanings.Constant own value) → plain_width t ≡ Some width
        → value < 2 ^ bits_of width → HasType s (tree.convert e t at) (meanings.Constant (Some width) value)
    of_negation : (e : NamedExprTree) (at : Place) → HasType s e (meanings.Typed types.Flag) → HasType s (tree.negation e at) (meanings.Typed types.Flag)

  -- an end of a slice that is absent, or a number of any width
  pub data IsEnd (s : Setting) : NamedPartTree → Type 0 where
    no_end : IsEnd s tree.absent
    an_end : (e : NamedExprTree) (m : Meaning) → HasType s e m → is_number m ≡ true → IsEnd s (tree.present e)

  pub data HaveTypes (s : Setting) : NamedLinkTrees → List Meaning → Type 0 where
    no_operands : HaveTypes s tree.no_link []
    more_operands : (sign : Place) (e : NamedExprTree) (others : NamedLinkTrees) (m : Meaning) (ms : List Meaning) → HasType s e m → HaveTypes s others ms → HaveTypes s (tree.link sign e others) (m ∷ ms)
