use Rattle.std.proofs.Common.{ap, arith}
use Rattle.std.proofs.lemmas.List.{drop_all}
use Rattle.wf_ast.specs.ParsedTrees.{expr_trees, fields_at}
use Rattle.wf_names_rules.specs.Declarations.{variables}
use Rattle.wf_names_resolve.specs.Standing.{standing_here}
use Rattle.wf_names_nodes.proofs.DeclaringLemmas.{variables_start, field_added, variables_all_made}
use Rattle.wf_names_nodes.proofs.variables.resolve_fields.Goals as goal

pub loop-field-init : goal.loop-field-init
loop-field-init c =
    let k = standing_here c.args.here.now in
    variables_start k (variables (fields_at (expr_trees c.args.here.now.parsed.now.exprs) c.args.fields.now)) c.args.nodes.now c.new-made.result c.new-made.ensures

pub loop-field-preserved : goal.loop-field-preserved
loop-field-preserved c =
    let k = standing_here c.args.here.now in
    let es = expr_trees c.args.here.now.parsed.now.exprs in
    let whole = variables (fields_at es c.args.fields.now) in
    rw c.in_ok-push.ensures.ok (field_added k whole c.args.nodes.now c.loop-field.nodes c.resolve_variable.new.nodes c.loop-field.made es c.args.fields.now c.loop-field.field-index c.field-item.result c.in_ok-one.one c.field-item.is c.loop-field-test.true
    c.loop-field.invariant c.in_ok-one.ensures.grows c.in_ok-one.ensures.below c.in_ok-one.ensures.made)

pub returns-clause-grows : goal.returns-clause-grows
returns-clause-grows c = c.loop-field.invariant.grows

pub returns-clause-below : goal.returns-clause-below
returns-clause-below c = c.loop-field.invariant.below

pub returns-clause-made : goal.returns-clause-made
returns-clause-made c =
    let k = standing_here c.args.here.now in
    let es = expr_trees c.args.here.now.parsed.now.exprs in
    let left = ap (λ fs. variables (fields_at es fs)) (drop_all c.loop-field.field-index c.args.fields.now (omega (arith, c.loop-field-test.false))) in
    variables_all_made k _ (variables (fields_at es c.args.fields.now)) c.args.nodes.now c.loop-field.nodes c.loop-field.made left c.loop-field.invariant
