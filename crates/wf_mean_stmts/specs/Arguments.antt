-- What a call's arguments come to.
use Rattle.std.specs.Prelude.{◌≡◌, Bool, true, false, List, ◌++◌, Option, None, Some, option_and_then, option_map, ⊤}
use Rattle.wf_ast.specs.declared.types.Ty.{Ty}
use Rattle.wf_ast.specs.Value.{Value, only_if}
use Rattle.wf_meaning.specs.SourceStep.{fits_argument}

-- The slots hold the values, where there are all.
abbrev pub Fills : Bool → Option (List Value) → List Value → Type 0
Fills true (Some values) slots = slots ≡ values
Fills false None slots = ⊤
Fills filled values slots = ⊥

-- A value that lies in a type.
abbrev pub fitting_value : Ty → Option Value → Option Value
fitting_value ty v = option_and_then (λ v. only_if (fits_argument ty v) (Some v)) v

-- Values before others, where there are all.
abbrev pub in_front : List Value → Option (List Value) → Option (List Value)
in_front front values = option_map (λ more. front ++ more) values
