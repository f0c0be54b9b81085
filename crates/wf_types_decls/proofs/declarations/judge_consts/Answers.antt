use Rattle.std.proofs.Common.{◌≤◌, length, map, arith}
use Rattle.wf_named.specs.NamedTrees.{expr_trees, const_made}
use Rattle.wf_types_decls.proofs.DeclarationLemmas.{consts_begun, const_next, consts_passed}
use Rattle.wf_types_decls.proofs.declarations.judge_consts.Goals as goal

pub loop-constant-init : goal.loop-constant-init
loop-constant-init c = consts_begun (map (const_made c.args.nodes.now.texts (expr_trees c.args.nodes.now.exprs)) c.args.nodes.now.consts) c.args.found.now c.nothing_known-known.result c.nothing_known-known.ensures

pub loop-constant-preserved : goal.loop-constant-preserved
loop-constant-preserved c =
    let l = c.loop-constant in
    const_next (const_made c.args.nodes.now.texts (expr_trees c.args.nodes.now.exprs)) c.consts-constant-items.result.now c.args.nodes.now.consts c.consts-constant-items.ensures.all l.constant-index c.constant-item.result c.constant-item.result
    c.constant-item.is c.loop-constant-test.true c.args.found.now l.found c.judge_next.new.found l.known c.in_ok-known.known l.invariant c.in_ok-known.ensures.found c.in_ok-known.ensures.around

pub returns-clause-found : goal.returns-clause-found
returns-clause-found c =
    let l = c.loop-constant in
    let past : length c.consts-constant-items.result.now ≤ l.constant-index = omega (arith, c.loop-constant-test.false) in
    (consts_passed (const_made c.args.nodes.now.texts (expr_trees c.args.nodes.now.exprs)) c.consts-constant-items.result.now c.args.nodes.now.consts c.consts-constant-items.ensures.all l.constant-index past c.args.found.now l.found l.known l.invariant).0

pub returns-clause-around : goal.returns-clause-around
returns-clause-around c =
    let l = c.loop-constant in
    let past : length c.consts-constant-items.result.now ≤ l.constant-index = omega (arith, c.loop-constant-test.false) in
    (consts_passed (const_made c.args.nodes.now.texts (expr_trees c.args.nodes.now.exprs)) c.consts-constant-items.result.now c.args.nodes.now.consts c.consts-constant-items.ensures.all l.constant-index past c.args.found.now l.found l.known l.invariant).1
