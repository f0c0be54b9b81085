use Rattle.std.proofs.Common.{◌≡◌, ◌<◌, ◌≤◌, length, None, Some, ap, sym, ◌∙◌, arith, of_calls}
use Rattle.std.proofs.lemmas.List.{length-map}
use Rattle.std.proofs.lemmas.Result.{err_from_is_err_and}
use Rattle.wf_facts_exprs.specs.Knowledge.{told}
use Rattle.wf_text.specs.declared.rules.Rule.TheVariants.{L8}
use Rattle.wf_ast.specs.TypedTrees.{target_of, tree_of, type_of_node}
use Rattle.wf_facts_exprs.specs.Claims.{claim_in, claims_in}
use Rattle.wf_facts_exprs.specs.Demands.{or_else}
use Rattle.wf_loops.specs.LoopRules.{limit}
use Rattle.wf_loops.proofs.MappedErrors.{before_err, before_ok}
use Rattle.wf_bounds_stmts.specs.Targets.{assign_refusal, assigned}
use Rattle.wf_bounds_stmts.specs.Nodes.{known_variable, number_variable}
use Rattle.wf_bounds_stmts.proofs.OutcomeLemmas.{is-refused, is-fine, limit-kept, limit-passed}
use Rattle.wf_bounds_stmts.proofs.AssignLemmas.{assigned-seen}
use Rattle.wf_bounds_stmts.proofs.assigning.assign.Goals as goal

pub returns-in_err-check_assigned-clause-answers : goal.returns-in_err-check_assigned-clause-answers
returns-in_err-check_assigned-clause-answers c =
    let r = err_from_is_err_and c.from_residual.result c.from_residual.ensures.1 in
    let fs = claims_in c.args.t.now c.args.facts.now.list in
    let w = tree_of c.args.t.now c.args.target in
    let v = tree_of c.args.t.now c.args.value in
    let p = assign_refusal fs (target_of w) v in
    let found : p ≡ Some c.in_err-check_assigned.field-0.0 = is-refused p c.in_err-check_assigned.field-0.0 (rw c.as_known.ensures.list at (sym c.check_assigned.ensures ∙ c.in_err-check_assigned.was)) in
    rw (r.1, r.2) (ap (λ q. or_else q (limit c.args.at (assigned fs (target_of w) None v))) found)

pub returns-clause-answers : goal.returns-clause-answers
returns-clause-answers c =
    let fs = claims_in c.args.t.now c.args.facts.now.list in
    let w = tree_of c.args.t.now c.args.target in
    let v = tree_of c.args.t.now c.args.value in
    let ty = type_of_node c.args.t.now c.args.target.0 in
    let x = c.written-x.result in
    let list = c.know_written.new.facts.list in
    let makes = rw (before_ok _ c.know_written.result c.map_err.result _ c.map_err.ensures.variant c.map_err.ensures.cases c.in_ok-map_err.was) at c.know_written.ensures.makes in
    let made : claims_in c.args.t.now list ≡ assigned fs (target_of w) None v =
    makes ∙ ap (known_variable (number_variable ty x) w v) c.drop_written.ensures.claims ∙ sym (assigned-seen fs w v ty x c.written-x.ensures.seen) in
    let small : length (assigned fs (target_of w) None v) ≤ 512 = omega (arith, ap length made, length-map list (claim_in c.args.t.now), c.keeps_limit.ensures) in
    (is-fine (assign_refusal fs (target_of w) v) (rw c.as_known.ensures.list at (sym c.check_assigned.ensures ∙ c.in_ok-check_assigned.was)), limit-kept c.args.at (assigned fs (target_of w) None v) small, made)

pub returns-in_err-map_err-clause-answers : goal.returns-in_err-map_err-clause-answers
returns-in_err-map_err-clause-answers c =
    let fs = claims_in c.args.t.now c.args.facts.now.list in
    let w = tree_of c.args.t.now c.args.target in
    let v = tree_of c.args.t.now c.args.value in
    let ty = type_of_node c.args.t.now c.args.target.0 in
    let x = c.written-x.result in
    let made : known_variable (number_variable ty x) w v (claims_in c.args.t.now c.drop_written.new.facts.list) ≡ assigned fs (target_of w) None v =
    ap (known_variable (number_variable ty x) w v) c.drop_written.ensures.claims ∙ sym (assigned-seen fs w v ty x c.written-x.ensures.seen) in
    let r = err_from_is_err_and c.from_residual-in_err-map_err.result c.from_residual-in_err-map_err.ensures.1 in
    let told = before_err _ c.know_written.result c.map_err.result _ c.map_err.ensures.cases c.in_err-map_err.was in
    let large : 512 < length (assigned fs (target_of w) None v) = rw (told.1, made) at c.know_written.ensures.makes in
    let fine : assign_refusal fs (target_of w) v ≡ None = is-fine (assign_refusal fs (target_of w) v) (rw c.as_known.ensures.list at (sym c.check_assigned.ensures ∙ c.in_ok-check_assigned.was)) in
    let is : c.in_err-map_err.field-0.0 ≡ record { rule = L8; at = c.args.at } = search (of_calls, told.2) in
    rw (r.1, r.2, is) (ap (λ q. or_else q (limit c.args.at (assigned fs (target_of w) None v))) fine ∙ limit-passed c.args.at (assigned fs (target_of w) None v) large)
