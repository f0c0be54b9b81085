-- What each kind of statement breaks, by what its own parts mean.
use Rattle.std.specs.Prelude.{Bool, not, List, Option, option_and_then}
use Rattle.wf_text.specs.declared.place.Place.{Place}
use Rattle.wf_text.specs.declared.rules.Refusal.{Refusal}
use Rattle.wf_text.specs.declared.rules.Rule.TheVariants.{T1, T2, T3, T4, T5, E1, E2, E4, E5}
use Rattle.wf_text.specs.Precedence.{sooner, told}
use Rattle.wf_ast.specs.declared.operators.Op.{Op}
use Rattle.wf_ast.specs.TypedTrees.{operator_kind}
use Rattle.wf_named.specs.declared.nodes.NamedCallee.{NamedCallee}
use Rattle.wf_named.specs.NamedTree.{NamedTargetTree}
use Rattle.wf_types_rules.specs.declared.meanings.Meaning.{Meaning}
use Rattle.wf_types_rules.specs.declared.meanings.Operand.{Operand}
use Rattle.wf_types_rules.specs.declared.meanings.PlacedMeaning.{PlacedMeaning}
use Rattle.wf_types_rules.specs.declared.settings.Setting.{Setting}
use Rattle.wf_types_rules.specs.Meanings.{is_status}
use Rattle.wf_types_rules.specs.Operands.{not_taken, not_fitting}
use Rattle.wf_types_rules.specs.Judgements.{at_if, fails, no_number, no_flag, not_assigned, is_wrong_return, ends_without_result, outside_coroutine, is_coroutine_called, wrong_target, impure_write}
use Rattle.wf_types_rules.specs.Parts.{target}

-- A target, whatever the index of an element breaks.
abbrev pub target_found : Setting → NamedTargetTree → Option Refusal → Option Refusal
target_found s t found = sooner (sooner found (told T2 (wrong_target s (target t)))) (told E1 (impure_write s (target t)))

-- `=`: the type of a target takes the value, which is there.
abbrev pub assigned_found : (t v : PlacedMeaning) → (lacks : Bool) → Option Refusal → Option Refusal
assigned_found t v lacks found = sooner (sooner found (told T2 (not_assigned t v))) (told T2 (at_if lacks t.at))

-- An operator with `=`.
abbrev pub operands_found : Op → Option (List Operand) → Option Refusal → Option Refusal
operands_found op os found = sooner (sooner found (told T1 (option_and_then (not_taken (operator_kind op)) os))) (told T5 (option_and_then (not_fitting (operator_kind op)) os))

-- `=?`: in a coroutine, of a coroutine, in a status.
abbrev pub kept_found : Setting → (to : Option Meaning) → NamedCallee → Place → Option Refusal → Option Refusal
kept_found s to callee at found =
    sooner (sooner (sooner found (told E2 (outside_coroutine s at))) (told E4 (at_if (fails is_status to) at)))
    (told E4 (at_if (not (is_coroutine_called s callee)) at))

-- A condition, and what is given for a letter of an axiom.
abbrev pub condition_found : PlacedMeaning → Option Refusal → Option Refusal
condition_found v found = sooner found (told T3 (no_flag v))

abbrev pub letter_found : PlacedMeaning → Option Refusal → Option Refusal
letter_found v found = sooner found (told T1 (no_number v))

-- `return`, whose value may be absent.
abbrev pub return_found : Setting → Option PlacedMeaning → Place → Option Refusal → Option Refusal
return_found s v at found = sooner found (told T4 (at_if (is_wrong_return s v) at))

-- `yield?`, of a suspension's text or of anything else, which stands at `place`.
abbrev pub yield_found : Setting → (suspends : Bool) → (place at : Place) → Option Refusal → Option Refusal
yield_found s suspends place at found = sooner (sooner found (told E2 (outside_coroutine s at))) (told E5 (at_if (not suspends) place))

-- The closing brace of a body.
abbrev pub end_found : Setting → (stops : Bool) → Place → Option Refusal → Option Refusal
end_found s stops at found = sooner found (told T4 (at_if (ends_without_result s stops) at))
