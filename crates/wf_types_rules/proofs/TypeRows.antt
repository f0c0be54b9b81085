-- The rows of the table, each by its judgement's name.
use Rattle.std.proofs.Common.{refl}
use Rattle.wf_text.specs.declared.rules.Rule.TheVariants.{T1, T2, T3, T4, T5, E1, E2, E3, E4, E5}
use Rattle.wf_types_rules.specs.Judgements as judgements
use Rattle.wf_types_rules.specs.TypeRules.{IsRule}

pub wrong_operand : IsRule T1 judgements.wrong_operand
wrong_operand = (0, refl)

pub wrong_update : IsRule T1 judgements.wrong_update
wrong_update = (1, refl)

pub wrong_argument : IsRule T1 judgements.wrong_argument
wrong_argument = (2, refl)

pub wrong_letter : IsRule T1 judgements.wrong_letter
wrong_letter = (3, refl)

pub wrong_type : IsRule T1 judgements.wrong_type
wrong_type = (4, refl)

pub misplaced_type : IsRule T1 judgements.misplaced_type
misplaced_type = (5, refl)

pub value_no_number : IsRule T1 judgements.value_no_number
value_no_number = (6, refl)

pub wrong_target : IsRule T2 judgements.wrong_target
wrong_target = (7, refl)

pub wrong_assigned : IsRule T2 judgements.wrong_assigned
wrong_assigned = (8, refl)

pub no_value_assigned : IsRule T2 judgements.no_value_assigned
no_value_assigned = (9, refl)

pub wrong_condition : IsRule T3 judgements.wrong_condition
wrong_condition = (10, refl)

pub wrong_return : IsRule T4 judgements.wrong_return
wrong_return = (11, refl)

pub reaches_end : IsRule T4 judgements.reaches_end
reaches_end = (12, refl)

pub node_without_value : IsRule T5 judgements.node_without_value
node_without_value = (13, refl)

pub unfit_operand : IsRule T5 judgements.unfit_operand
unfit_operand = (14, refl)

pub unfit_update : IsRule T5 judgements.unfit_update
unfit_update = (15, refl)

pub value_outside : IsRule T5 judgements.value_outside
value_outside = (16, refl)

pub crossed_bounds : IsRule T5 judgements.crossed_bounds
crossed_bounds = (17, refl)

pub high_bound : IsRule T5 judgements.high_bound
high_bound = (18, refl)

pub no_elements : IsRule T5 judgements.no_elements
no_elements = (19, refl)

pub element_above_zero : IsRule T5 judgements.element_above_zero
element_above_zero = (20, refl)

pub begins_above_zero : IsRule T5 judgements.begins_above_zero
begins_above_zero = (21, refl)

pub wrong_status : IsRule T5 judgements.wrong_status
wrong_status = (22, refl)

pub impure_call : IsRule E1 judgements.impure_call
impure_call = (23, refl)

pub impure_write : IsRule E1 judgements.impure_write
impure_write = (24, refl)

pub coroutine_call : IsRule E2 judgements.coroutine_call
coroutine_call = (25, refl)

pub kept_outside : IsRule E2 judgements.kept_outside
kept_outside = (26, refl)

pub yielded_outside : IsRule E2 judgements.yielded_outside
yielded_outside = (27, refl)

pub call_inside : IsRule E3 judgements.call_inside
call_inside = (28, refl)

pub wrong_mark : IsRule E3 judgements.wrong_mark
wrong_mark = (29, refl)

pub not_kept_in_status : IsRule E4 judgements.not_kept_in_status
not_kept_in_status = (30, refl)

pub keeps_no_coroutine : IsRule E4 judgements.keeps_no_coroutine
keeps_no_coroutine = (31, refl)

pub wrong_yield : IsRule E5 judgements.wrong_yield
wrong_yield = (32, refl)
