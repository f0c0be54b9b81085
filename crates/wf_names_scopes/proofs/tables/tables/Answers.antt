use Rattle.std.proofs.Common.{◌≡◌, ◌≤◌, length, ap, arith}
use Rattle.wf_names_scopes.proofs.PackageLemmas.{node_next, nodes_done}
use Rattle.wf_names_scopes.proofs.tables.tables.Goals as goal

pub loop-number-init : goal.loop-number-init
loop-number-init c = c.empty-tables.ensures c.args.parsed.now.texts

pub loop-number-preserved : goal.loop-number-preserved
loop-number-preserved c =
    node_next c.args.parsed.now c.loop-number.number c.decl.result.now c.loop-number.tables c.add_decl.new.tables c.decl.ensures.node c.loop-number.invariant c.in_ok-add_decl.ensures

pub returns : goal.returns
returns c =
    let same : length c.decls-number-end.result.now ≡ length c.args.parsed.now.decls = ap length c.decls-number-end.ensures in
    let past : length c.args.parsed.now.decls ≤ c.loop-number.number = omega (arith, c.loop-number-test.false, same) in
    nodes_done c.args.parsed.now c.loop-number.number c.loop-number.tables past c.loop-number.invariant
