-- Where the `goto`s of a text lead.
use Rattle.std.specs.Prelude.{◌≡◌, ℕ, ◌<◌, List, Option, None, Some, slice_get}
use Rattle.wf_ast.specs.declared.typed_nodes.TypedNodes.{TypedNodes}
use Rattle.wf_ast.specs.TypedInvariant.{IsTyped}
use Rattle.wf_ast.specs.TypedPackage.{package_of}
use Rattle.c_text.specs.CTree.{Code, jump, ItemTree, function_item}
use Rattle.c_meaning.specs.CStep.{Continuation, stop, Place, at, place_weight, by_name, find}
use Rattle.c_meaning.specs.TextOrder.{StandsAt}
use Rattle.wf_lower.specs.Unit.{lowered_unit}

-- A label is there, and stands after a place of its function: less text is left from it.
abbrev pub LeadsBehind : (from : Place) → Option Place → Type 0
LeadsBehind from None = ⊥
LeadsBehind from (Some target) = place_weight target < place_weight from

-- So it is of each `goto` of a function's body.
abbrev pub LeadForward : (body : Code) → Type 0
LeadForward body =
    (number : ℕ) (label : List ℕ) (rest : Code) (k : Continuation) → StandsAt body number (at (jump label rest) k)
    → LeadsBehind (at (jump label rest) k) (find (by_name label) body stop)

-- And of the function that an item is.
abbrev pub JumpsForward : ItemTree → Type 0
JumpsForward (function_item linkage result_type name params locals body) = LeadForward body
JumpsForward item = Unit {0}

-- And of each item of a text.
abbrev pub AllJumpForward : List ItemTree → Type 0
AllJumpForward items = (number : ℕ) (item : ItemTree) → slice_get items number ≡ Some item → JumpsForward item

-- So is the text of a typed package.
abbrev pub TextsJumpForward : Type 0
TextsJumpForward = (nodes : TypedNodes) → IsTyped nodes → AllJumpForward (lowered_unit (package_of nodes))
