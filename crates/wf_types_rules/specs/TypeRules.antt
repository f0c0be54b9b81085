-- The rules of types and effects, as one table: what a resolved package breaks, each rule with its place.
use Rattle.std.specs.Prelude.{◌≡◌, ℕ, List, [], ◌∷◌, Option, Some, slice_get}
use Rattle.wf_text.specs.declared.place.Place.{Place}
use Rattle.wf_text.specs.declared.rules.Refusal.{Refusal}
use Rattle.wf_text.specs.declared.rules.Rule.{Rule}
use Rattle.wf_text.specs.declared.rules.Rule.TheVariants.{T1, T2, T3, T4, T5, E1, E2, E3, E4, E5}
use Rattle.wf_named.specs.NamedTree.{NamedPackageTree}
use Rattle.wf_types_rules.specs.declared.settings.Setting.{Setting}
use Rattle.wf_types_rules.specs.Parts.{Part, IsPart}
use Rattle.wf_types_rules.specs.Judgements.{wrong_operand, unfit_operand, node_without_value, wrong_argument, wrong_letter, wrong_type, misplaced_type, crossed_bounds, high_bound, no_elements, element_above_zero, begins_above_zero, value_no_number, value_outside, wrong_status, wrong_target, wrong_assigned, no_value_assigned, wrong_update, unfit_update, wrong_condition, wrong_return, reaches_end, impure_call, impure_write, coroutine_call, kept_outside, yielded_outside, call_inside, wrong_mark, not_kept_in_status, keeps_no_coroutine, wrong_yield}

-- A row: a rule, and a judgement that tells where a part of a package breaks it.
abbrev pub TypeRule : Type 0
TypeRule = Rule × (Setting → Part → Option Place)

-- The table.
abbrev pub type_rules : List TypeRule
type_rules =
    -- T1: an operand of a type that isn't taken, or of another width than one before it; a whole array, a struct or io
    -- that stands as a value
    (T1, wrong_operand)
    -- T1: the target or the value of an operator with `=` is no number, or they differ in width
    ∷ (T1, wrong_update)
    -- T1: an argument of another type, at its value
    ∷ (T1, wrong_argument)
    -- T1: what is given for a letter of an axiom is no number
    ∷ (T1, wrong_letter)
    -- T1: a type that the language doesn't have, at its first token
    ∷ (T1, wrong_type)
    -- T1: a type whose form may not stand where it does, at its first token
    ∷ (T1, misplaced_type)
    -- T1: the value of a constant is no number
    ∷ (T1, value_no_number)
    -- T2: a constant, an argument, a whole array or a struct as a target
    ∷ (T2, wrong_target)
    -- T2: a value of another type than the target's, at the target
    ∷ (T2, wrong_assigned)
    -- T2: a call after `=` that gives no value, at the target
    ∷ (T2, no_value_assigned)
    -- T3: a condition of `if`, `while`, a clause or `assert` that isn't a bool
    ∷ (T3, wrong_condition)
    -- T4: a `return` that doesn't give the method's result, in a coroutine a status
    ∷ (T4, wrong_return)
    -- T4: a method with a result that may reach its end, at its closing brace
    ∷ (T4, reaches_end)
    -- T5: a node of a constant expression that has no value
    ∷ (T5, node_without_value)
    -- T5: a constant that doesn't fit the width of an operand beside it. One that doesn't fit what it goes to, a target, an
    -- argument or a result, breaks no rule of types
    ∷ (T5, unfit_operand)
    -- T5: the same of an operator with `=`, whose target is its first operand
    ∷ (T5, unfit_update)
    -- T5: a constant outside its type, at its value
    ∷ (T5, value_outside)
    -- T5: a lower bound above the upper one, at the lower one
    ∷ (T5, crossed_bounds)
    -- T5: an upper bound above the type, at the bound
    ∷ (T5, high_bound)
    -- T5: an array of no elements, at its length
    ∷ (T5, no_elements)
    -- T5: a type of elements that doesn't hold 0, at its first token
    ∷ (T5, element_above_zero)
    -- T5: the type of a field, a local or a result that doesn't hold 0, at its first token
    ∷ (T5, begins_above_zero)
    -- T5: a status text that doesn't begin with the byte of its kind, has nothing after it, or has two `?` in a row
    ∷ (T5, wrong_status)
    -- E1: a call with `!` in a pure method
    ∷ (E1, impure_call)
    -- E1: a field or an element written to in a pure method
    ∷ (E1, impure_write)
    -- E2: a call with `?` outside a coroutine
    ∷ (E2, coroutine_call)
    -- E2: `=?` outside a coroutine, at the call
    ∷ (E2, kept_outside)
    -- E2: `yield?` outside a coroutine
    ∷ (E2, yielded_outside)
    -- E3: a call inside an expression that has a mark, or is of an own method or through a field
    ∷ (E3, call_inside)
    -- E3: a call whose mark isn't the declared one
    ∷ (E3, wrong_mark)
    -- E4: `=?` with a target that is no status, at the call
    ∷ (E4, not_kept_in_status)
    -- E4: `=?` with a call of anything but a coroutine of the package
    ∷ (E4, keeps_no_coroutine)
    -- E5: `yield?` of anything but a suspension's text
    ∷ (E5, wrong_yield)
    ∷ []

-- The table has this rule with this judgement.
abbrev pub IsRule : Rule → (Setting → Part → Option Place) → Type 0
IsRule rule judge = (i : ℕ) × (slice_get type_rules i ≡ Some (rule, judge))

-- A part of the package is judged to be wrong at this place.
pub record IsWrong (p : NamedPackageTree) (judge : Setting → Part → Option Place) (at : Place) : Type 0 where
  pub around : Setting
  pub part : Part
  pub stands : IsPart p around part
  pub wrong : judge around part ≡ Some at

-- The package breaks a rule of the table at this place.
pub record Breaks (p : NamedPackageTree) (refusal : Refusal) : Type 0 where
  pub judge : Setting → Part → Option Place
  pub is_rule : IsRule refusal.rule judge
  pub is_wrong : IsWrong p judge refusal.at
