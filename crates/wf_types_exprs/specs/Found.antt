-- What is found at each kind of part after what was found before, by what its own parts mean.
use Rattle.std.specs.Prelude.{ℕ, Bool, List, Option, None, Some, option_and_then}
use Rattle.wf_text.specs.declared.place.Place.{Place}
use Rattle.wf_text.specs.declared.rules.Refusal.{Refusal}
use Rattle.wf_text.specs.declared.rules.Rule.TheVariants.{T1, T5, E1, E2, E3}
use Rattle.wf_text.specs.Precedence.{sooner, told}
use Rattle.wf_base.specs.declared.widths.Width.{Width}
use Rattle.wf_ast.specs.declared.types.Ty.{Ty}
use Rattle.wf_ast.specs.TypedTrees.{OperatorKind}
use Rattle.wf_named.specs.declared.nodes.BaseType.{BaseType}
use Rattle.wf_named.specs.declared.nodes.BaseType.TheVariants as bases
use Rattle.wf_named.specs.NamedTree.{NamedCallTree}
use Rattle.wf_types_rules.specs.declared.meanings.Bound.{Bound}
use Rattle.wf_types_rules.specs.declared.meanings.Operand.{Operand}
use Rattle.wf_types_rules.specs.declared.meanings.PlacedMeaning.{PlacedMeaning}
use Rattle.wf_types_rules.specs.declared.settings.Form.{Form}
use Rattle.wf_types_rules.specs.declared.settings.Role.{Role}
use Rattle.wf_types_rules.specs.declared.settings.Setting.{Setting}
use Rattle.wf_types_rules.specs.Operands.{not_taken, not_fitting, has_no_value}
use Rattle.wf_types_rules.specs.ExprTypes.{if_number, refined_type}
use Rattle.wf_types_rules.specs.DeclaredTypes.{holds_zero, is_zero_kept}
use Rattle.wf_types_rules.specs.Judgements.{at_if, fails, meets, no_number, is_cut, not_handed, are_unfit, refined_form, wrong_bounds, is_not_plain, is_no_array, may_not_stand, crossing, goes_above, no_count, impure_call, coroutine_call, call_inside, wrong_mark}
use Rattle.wf_types_rules.specs.Parts.{calling}

-- A type, where an end of a slice is absent or a number.
abbrev pub end_kept : Option PlacedMeaning → Option Ty → Option Ty
end_kept None ty = ty
end_kept (Some v) ty = if_number v.of ty

-- A chain of operands.
abbrev pub chain_found : OperatorKind → Option (List Operand) → Place → Option Refusal → Option Refusal
chain_found sort os at found =
    sooner (sooner (sooner found (told T1 (option_and_then (not_taken sort) os))) (told T5 (at_if (meets (has_no_value sort) os) at))) (told T5 (option_and_then (not_fitting sort) os))

-- A conversion: a constant that the width cuts.
abbrev pub conversion_found : PlacedMeaning → Option Width → Place → Option Refusal → Option Refusal
conversion_found v width at found = sooner (sooner found (told T1 (no_number v))) (told T5 (at_if (is_cut v.of width) at))

-- An argument, where this type is wanted.
abbrev pub argument_found : Option Ty → PlacedMeaning → Option Refusal → Option Refusal
argument_found ty v found = sooner found (told T1 (not_handed ty v))

-- A call, by its mark.
abbrev pub calling_found : Setting → (inside : Bool) → NamedCallTree → Option Refusal → Option Refusal
calling_found s inside c found =
    sooner (sooner (sooner (sooner found (told E1 (impure_call s (calling inside c)))) (told E2 (coroutine_call s (calling inside c)))) (told E3 (call_inside s (calling inside c))))
    (told E3 (wrong_mark s (calling inside c)))

-- A prefix of a type, before elements of this type and form.
abbrev pub slice_type_found : (element : Option Form) → (plain : Option Width) → Place → Option Refusal → Option Refusal
slice_type_found element plain at found = sooner found (told T1 (at_if (is_not_plain element plain) at))

abbrev pub array_type_found : (count : Bound) → (element : Option Ty) → (kind : Option Form) → (element_at at : Place) → Option Refusal → Option Refusal
array_type_found count element kind element_at at found =
    sooner (sooner (sooner found (told T1 (at_if (is_no_array count kind) at))) (told T5 (no_count count))) (told T5 (at_if (fails holds_zero element) element_at))

-- Bounds after any type of the language, or after what is no type.
abbrev pub low_number_of : Option Bound → Option ℕ
low_number_of None = Some 0
low_number_of (Some b) = b.number

abbrev pub refined_wrong : Option BaseType → (low : Option Bound) → (high : Bound) → Place → Option Place
refined_wrong None low high at = Some at
refined_wrong (Some of) low high at = wrong_bounds of low high at

abbrev pub refined_crossing : Option BaseType → (low : Option Bound) → (high : Bound) → Option Place
refined_crossing (Some (bases.Number width)) low high = crossing low high
refined_crossing of low high = None

abbrev pub refined_high : Option BaseType → (low : Option Bound) → (high : Bound) → Option Place
refined_high (Some (bases.Number width)) low high = at_if (goes_above width (low_number_of low) high.number) high.at
refined_high of low high = None

abbrev pub refined_found : Option BaseType → (low : Option Bound) → (high : Bound) → Place → Option Refusal → Option Refusal
refined_found of low high at found =
    sooner (sooner (sooner found (told T1 (refined_wrong of low high at))) (told T5 (refined_crossing of low high))) (told T5 (refined_high of low high))

-- The type that this is.
abbrev pub refined_base : Option BaseType → (low : Option Bound) → (high : Bound) → Option Ty
refined_base (Some (bases.Number width)) low high = refined_type width (low_number_of low) high.number
refined_base of low high = None

abbrev pub refined_base_form : Option BaseType → (low : Option Bound) → (high : Bound) → Option Form
refined_base_form (Some (bases.Number width)) low high = refined_form (are_unfit low high)
refined_base_form of low high = None

-- A type at its place.
abbrev pub placed_found : Role → Option Ty → Option Form → Option Width → Place → Option Refusal → Option Refusal
placed_found role ty kind plain at found = sooner (sooner found (told T1 (at_if (may_not_stand role kind plain) at))) (told T5 (at_if (fails (is_zero_kept role) ty) at))
