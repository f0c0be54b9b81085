use Rattle.std.proofs.Common.{false, sym, ◌∙◌}
use Rattle.std.proofs.lemmas.Result.{err_from_is_err_and}
use Rattle.wf_facts_exprs.specs.Knowledge.{told}
use Rattle.wf_ast.specs.TypedTrees.{num_in, tree_of, type_of_node}
use Rattle.wf_facts_exprs.specs.Claims.{claims_in}
use Rattle.wf_facts_exprs.specs.Demands.{num_refusal, value_refusal}
use Rattle.wf_facts_exprs.specs.RangeOf.{range_of}
use Rattle.wf_bounds_stmts.specs.Requirements.{range_in}
use Rattle.wf_bounds_stmts.proofs.LimitLemmas.{no-range, none-passes, none-refused, number-range, range-passes, range-refused}
use Rattle.wf_bounds_stmts.proofs.limits.checked.Goals as goal

pub returns-in_ok-range : goal.returns-in_ok-range
returns-in_ok-range c =
    let fs = claims_in c.args.t.now (told c.args.facts.now) in
    let v = tree_of c.args.t.now c.args.e in
    let it = number-range fs c.type_of.result (type_of_node c.args.t.now c.args.e.0) v c.type_of.ensures (sym c.is_number.ensures ∙ c.if-is_number.true) c.look_at.ensures in
    range-passes (num_refusal fs false (num_in v)) (value_refusal fs v) c.in_ok-range.range (range_of fs (num_in v)) (range_in fs v) it.1 it.0 (sym c.checked_range.ensures.answer ∙ c.in_ok-range.was)

pub returns-in_err-range : goal.returns-in_err-range
returns-in_err-range c =
    let fs = claims_in c.args.t.now (told c.args.facts.now) in
    let v = tree_of c.args.t.now c.args.e in
    let r = err_from_is_err_and c.from_residual.result c.from_residual.ensures.1 in
    let it = number-range fs c.type_of.result (type_of_node c.args.t.now c.args.e.0) v c.type_of.ensures (sym c.is_number.ensures ∙ c.if-is_number.true) c.look_at.ensures in
    rw (r.1, r.2) (range-refused (num_refusal fs false (num_in v)) (value_refusal fs v) (range_of fs (num_in v)) (range_in fs v) c.in_err-range.field-0.0 it.1 (sym c.checked_range.ensures.answer ∙ c.in_err-range.was))

pub returns-in_ok-check_value : goal.returns-in_ok-check_value
returns-in_ok-check_value c =
    let fs = claims_in c.args.t.now (told c.args.facts.now) in
    let v = tree_of c.args.t.now c.args.e in
    let none = no-range fs c.type_of.result (type_of_node c.args.t.now c.args.e.0) v c.type_of.ensures (sym c.is_number.ensures ∙ c.if-is_number.false) c.look_at.ensures in
    none-passes (value_refusal fs v) (range_in fs v) none (sym c.check_value.ensures ∙ c.in_ok-check_value.was)

pub returns-in_err-check_value : goal.returns-in_err-check_value
returns-in_err-check_value c =
    let fs = claims_in c.args.t.now (told c.args.facts.now) in
    let v = tree_of c.args.t.now c.args.e in
    let r = err_from_is_err_and c.from_residual-in_err-check_value.result c.from_residual-in_err-check_value.ensures.1 in
    rw (r.1, r.2) (none-refused (value_refusal fs v) (range_in fs v) c.in_err-check_value.field-0.0 (sym c.check_value.ensures ∙ c.in_err-check_value.was))
