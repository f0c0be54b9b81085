use Rattle.std.proofs.Common.{◌<◌, length, ap, arith}
use Rattle.std.proofs.lemmas.List.{drop_all}
use Rattle.wf_ast.specs.ParsedTrees.{stmt_trees, items_at}
use Rattle.wf_names_rules.specs.Declarations.{locals_of}
use Rattle.wf_names_resolve.specs.Standing.{standing_here}
use Rattle.wf_names_nodes.proofs.DeclaringLemmas.{variables_start, local_added, variables_all_made}
use Rattle.wf_names_nodes.proofs.variables.resolve_locals.Goals as goal

pub loop-s-init : goal.loop-s-init
loop-s-init c =
    let k = standing_here c.args.here.now in
    let ts = stmt_trees c.args.here.now.parsed.now.exprs c.args.here.now.parsed.now.stmts in
    variables_start k (locals_of (items_at ts c.args.body.now.items c.args.body.now.close)) c.args.nodes.now c.new-made.result c.new-made.ensures

pub loop-s-preserved : goal.loop-s-preserved
loop-s-preserved c =
    let k = standing_here c.args.here.now in
    let ts = stmt_trees c.args.here.now.parsed.now.exprs c.args.here.now.parsed.now.stmts in
    let items = c.args.body.now.items in
    let close = c.args.body.now.close in
    let inside : c.loop-s.s-index < length items = rw (← c.as_slice-s-items.ensures) c.loop-s-test.true in
    let one = rw c.as_slice-s-items.ensures at c.in_ok-one.ensures.made in
    rw c.in_ok-add_variable.ensures (local_added k (locals_of (items_at ts items close)) c.args.nodes.now c.loop-s.nodes c.resolve_local.new.nodes c.loop-s.made ts items close c.loop-s.s-index (record { 0 = 0 }) _ inside
    c.loop-s.invariant c.in_ok-one.ensures.grows c.in_ok-one.ensures.below one)

pub returns-clause-grows : goal.returns-clause-grows
returns-clause-grows c = c.loop-s.invariant.grows

pub returns-clause-below : goal.returns-clause-below
returns-clause-below c = c.loop-s.invariant.below

pub returns-clause-made : goal.returns-clause-made
returns-clause-made c =
    let k = standing_here c.args.here.now in
    let ts = stmt_trees c.args.here.now.parsed.now.exprs c.args.here.now.parsed.now.stmts in
    let items = c.args.body.now.items in
    let close = c.args.body.now.close in
    let left = ap (λ ss. locals_of (items_at ts ss close)) (drop_all c.loop-s.s-index items (omega (arith, c.loop-s-test.false, ap length c.as_slice-s-items.ensures))) in
    variables_all_made k _ (locals_of (items_at ts items close)) c.args.nodes.now c.loop-s.nodes c.loop-s.made left c.loop-s.invariant
