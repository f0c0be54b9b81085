use Rattle.std.proofs.Common.{ap, sym, ◌∙◌}
use Rattle.wf_facts_exprs.specs.Knowledge.{told}
use Rattle.wf_text.specs.declared.rules.Rule.TheVariants.{B1}
use Rattle.wf_ast.specs.TypedTrees.{target_of, tree_of}
use Rattle.wf_facts_exprs.specs.Claims.{claims_in}
use Rattle.wf_facts_exprs.specs.Demands.{unless_refused, value_refusal}
use Rattle.wf_bounds_stmts.specs.Requirements.{lies_refusal, number_type, range_in}
use Rattle.wf_bounds_stmts.specs.Targets.{taken_by, target_refusal}
use Rattle.wf_bounds_stmts.proofs.LimitLemmas.{was-checked}
use Rattle.wf_bounds_stmts.proofs.OutcomeLemmas.{third-of}
use Rattle.wf_bounds_stmts.proofs.assigning.check_assigned.Goals as goal

pub returns : goal.returns
returns c =
    let fs = claims_in c.args.t.now (told c.args.facts.now) in
    let v = tree_of c.args.t.now c.args.value in
    let target = target_of (tree_of c.args.t.now c.args.target) in
    let p = was-checked (value_refusal fs v) (range_in fs v) c.in_ok-range.range (sym c.checked.ensures ∙ c.in_ok-range.was) in
    third-of (value_refusal fs v) (target_refusal fs target) (lies_refusal B1 fs (taken_by target) v) (lies_refusal B1 fs (number_type c.taken.result) v) c.check_range.result (c.check_range.ensures fs p.1) (ap (λ of. lies_refusal B1 fs of v) c.taken.ensures)
    (ap (λ o. unless_refused o (tt {0})) p.0) (sym c.check_target.ensures ∙ c.in_ok-check_target.was)
