-- Where operands stand, there stands the first that an operator doesn't take.
use Rattle.std.proofs.Common.{Bool, not, if◌then◌else◌, List, [], ◌∷◌, Option, None, Some, IfSome, option_map}
use Rattle.std.specs.List.{AllByRecursion}
use Rattle.wf_text.specs.declared.place.Place.{Place}
use Rattle.wf_base.specs.declared.widths.Width.{Width}
use Rattle.wf_ast.specs.TypedTree.{equal, differs}
use Rattle.wf_ast.specs.TypedTrees.{OperatorKind, arithmetic, ordering, joining}
use Rattle.wf_ast.specs.WellTyped.{is_shift}
use Rattle.wf_named.specs.NamedTree as tree
use Rattle.wf_named.specs.NamedTree.{NamedExprTree, NamedLinkTrees}
use Rattle.wf_types_rules.specs.declared.meanings.Meaning.{Meaning}
use Rattle.wf_types_rules.specs.declared.meanings.Operand.{Operand}
use Rattle.wf_types_rules.specs.declared.settings.Setting.{Setting}
use Rattle.wf_types_rules.specs.Meanings.{is_number, is_status, is_flag, width_of, place_of}
use Rattle.wf_types_rules.specs.ExprTypes.{meaning, in_front, operand_at, operands_behind, operands}
use Rattle.wf_types_rules.specs.Operands.{first_not, first_of, differs_in, not_of_one_width, shift_takes, not_shifted, not_compared, not_taken, fits_width, common_width, not_fitting}
use Rattle.wf_read_laws.specs.NamedPlaces.{ExprIsIn, LinksAreIn}
use Rattle.wf_read_laws.proofs.PlaceLemmas.{either-in}

abbrev pub OperandIsIn : (Place → Type 0) → Operand → Type 0
OperandIsIn In o = In o.at

abbrev pub OperandsAreIn : (Place → Type 0) → List Operand → Type 0
OperandsAreIn In os = AllByRecursion (OperandIsIn In) os

module _ (In : Place → Type 0) where
  pub place-in : (e : NamedExprTree) → ExprIsIn In e → In (place_of e)
  place-in (tree.number value at) h = h
  place-in (tree.status number at) h = h
  place-in (tree.truth value at) h = h
  place-in (tree.path p) h = h
  place-in (tree.index p i at) h = h.2
  place-in (tree.slice p from to at) h = h.3
  place-in (tree.answer (tree.call callee at mark args)) h = h.1
  place-in (tree.chain op first links at) h = h.2
  place-in (tree.convert e t at) h = h.2
  place-in (tree.negation e at) h = h.1

  pub front-in : (o : Option Operand) (os : Option (List Operand)) → IfSome o (OperandIsIn In) → IfSome os (OperandsAreIn In) → IfSome (in_front o os) (OperandsAreIn In)
  front-in None None h k = tt
  front-in None (Some os) h k = tt
  front-in (Some o) None h k = tt
  front-in (Some o) (Some os) h k = (h, k)

  pub operand-in : (at : Place) (m : Option Meaning) → In at → IfSome (option_map (operand_at at) m) (OperandIsIn In)
  operand-in at None h = tt
  operand-in at (Some m) h = h

  behind-in : (s : Setting) (ls : NamedLinkTrees) → LinksAreIn In ls → IfSome (operands_behind s ls) (OperandsAreIn In)
  behind-in s tree.no_link h = tt
  behind-in s (tree.link sign e others) h =
      front-in (option_map (operand_at (place_of e)) (meaning s e)) (operands_behind s others) (operand-in (place_of e) (meaning s e) (place-in e h.1)) (behind-in s others h.2)

  pub operands-in : (s : Setting) (first : NamedExprTree) (ls : NamedLinkTrees) → ExprIsIn In first → LinksAreIn In ls → IfSome (operands s first ls) (OperandsAreIn In)
  operands-in s first ls h k =
      front-in (option_map (operand_at (place_of first)) (meaning s first)) (operands_behind s ls) (operand-in (place_of first) (meaning s first) (place-in first h)) (behind-in s ls k)

  first-not-in : (test : Meaning → Bool) (os : List Operand) → OperandsAreIn In os → IfSome (first_not test os) In
  first-not-in test [] a = tt
  first-not-in test (o ∷ os) a = either-in In (test o.of) (first_not test os) (Some o.at) (first-not-in test os a.1) a.0

  one-width-in : (width : Option Width) (os : List Operand) → OperandsAreIn In os → IfSome (not_of_one_width width os) In
  one-width-in width [] a = tt
  one-width-in width (o ∷ os) a =
      let rest = not_of_one_width (first_of width (width_of o.of)) os in
      either-in In (not (is_number o.of)) (Some o.at) (if differs_in width (width_of o.of) then Some o.at else rest) a.0
      (either-in In (differs_in width (width_of o.of)) (Some o.at) rest a.0 (one-width-in (first_of width (width_of o.of)) os a.1))

  shifted-in : (os : List Operand) → OperandsAreIn In os → IfSome (not_shifted os) In
  shifted-in [] a = tt
  shifted-in (x ∷ []) a = tt
  shifted-in (x ∷ (y ∷ os)) a =
      either-in In (not (is_number x.of)) (Some x.at) (if shift_takes x.of y.of then None else Some y.at) a.0
      (either-in In (shift_takes x.of y.of) None (Some y.at) tt a.1.0)

  compared-in : (os : List Operand) → OperandsAreIn In os → IfSome (not_compared os) In
  compared-in [] a = tt
  compared-in (o ∷ os) a = either-in In (is_status o.of) (first_not is_status os) (not_of_one_width None (o ∷ os)) (first-not-in is_status os a.1) (one-width-in None (o ∷ os) a)

  pub taken-in : (sort : OperatorKind) (os : List Operand) → OperandsAreIn In os → IfSome (not_taken sort os) In
  taken-in (arithmetic op) os a = either-in In (is_shift op) (not_shifted os) (not_of_one_width None os) (shifted-in os a) (one-width-in None os a)
  taken-in (ordering equal) os a = compared-in os a
  taken-in (ordering differs) os a = compared-in os a
  taken-in (ordering _) os a = one-width-in None os a
  taken-in (joining both) os a = first-not-in is_flag os a

  pub fitting-in : (sort : OperatorKind) (os : List Operand) → OperandsAreIn In os → IfSome (not_fitting sort os) In
  fitting-in (arithmetic op) os a = either-in In (is_shift op) None (first_not (fits_width (common_width os)) os) tt (first-not-in (fits_width (common_width os)) os a)
  fitting-in (ordering op) os a = first-not-in (fits_width (common_width os)) os a
  fitting-in (joining both) os a = tt
