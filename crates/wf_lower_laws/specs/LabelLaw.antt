-- The labels and the cases of a text.
use Rattle.std.specs.Prelude.{◌≡◌, ℕ, ◌<◌, true, List, None, Some, slice_get}
use Rattle.std.specs.List.{AllByRecursion}
use Rattle.wf_text.specs.Precedence.{Decides}
use Rattle.wf_ast.specs.declared.typed_nodes.TypedNodes.{TypedNodes}
use Rattle.wf_ast.specs.TypedInvariant.{IsTyped}
use Rattle.wf_ast.specs.TypedPackage.{package_of}
use Rattle.wf_points.specs.PointNumbers.{HasTooMany}
use Rattle.c_text.specs.declared.kinds.CNumber.{CNumber}
use Rattle.c_text.specs.declared.kinds.CNumber.TheVariants.{Int}
use Rattle.c_text.specs.CTree.{ExprTree, Code, jump, select, ItemTree, function_item}
use Rattle.c_meaning.specs.CStep.{Continuation, at}
use Rattle.c_meaning.specs.TextOrder.{StandsAt}
use Rattle.c_meaning.specs.UnitForm.{is_among, all_distinct, labels_of, Cases, cases_of, formed_cases}
use Rattle.wf_lower.specs.Unit.{lowered_unit}

-- The number of a `case` is an `int` below 1,025.
abbrev pub IsCaseNumber : CNumber → Type 0
IsCaseNumber (Int n) = n < 1025
IsCaseNumber n = ⊥

-- The cases of a `switch` differ, there is at most one `default`, and their numbers are such.
pub record AreCases (cases : Cases) : Type 0 where
  pub formed : formed_cases cases ≡ true
  pub numbers : AllByRecursion IsCaseNumber cases.numbers

-- The labels of a function differ, what a `goto` names is one of them, and the cases of each `switch` are such.
pub record IsLabelled (body : Code) : Type 0 where
  pub labels : all_distinct (labels_of body) ≡ true
  pub named : (number : ℕ) (label : List ℕ) (rest : Code) (k : Continuation) → StandsAt body number (at (jump label rest) k) → is_among (labels_of body) label ≡ true
  pub cases : (number : ℕ) (on : ExprTree) (inner rest : Code) (k : Continuation) → StandsAt body number (at (select on inner rest) k) → AreCases (cases_of inner)

abbrev pub LabelledItem : ItemTree → Type 0
LabelledItem (function_item linkage result_type name params locals body) = IsLabelled body
LabelledItem item = Unit {0}

-- So is each function of the text of a typed package in which no method has too many points.
abbrev pub TextsAreLabelled : Type 0
TextsAreLabelled =
    (nodes : TypedNodes) (number : ℕ) (item : ItemTree) → IsTyped nodes → Decides (HasTooMany (package_of nodes)) None
    → slice_get (lowered_unit (package_of nodes)) number ≡ Some item → LabelledItem item
