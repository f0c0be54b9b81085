use Rattle.std.proofs.Common.{◌≡◌, ◌≤◌, [], length, ap, arith}
use Rattle.wf_ast.specs.ParsedTrees.{expr_trees, stmt_trees, decls_made}
use Rattle.wf_names_decls.proofs.DeclSteps.{gather-first, gather-next, gathered}
use Rattle.wf_names_decls.proofs.gathering.name_lists.Goals as goal

pub loop-number-init : goal.loop-number-init
loop-number-init c =
    let p = c.args.parsed.now in
    gather-first [] (decls_made (expr_trees p.exprs) (stmt_trees p.exprs p.stmts) p.decls) c.empty-names.result c.empty-names.ensures

pub loop-number-preserved : goal.loop-number-preserved
loop-number-preserved c =
    let p = c.args.parsed.now in
    let es = expr_trees p.exprs in
    let ts = stmt_trees p.exprs p.stmts in
    let x = c.decl.result.now in
    gather-next [] es ts p.decls c.loop-number.number x (decls_made es ts p.decls) c.loop-number.names c.add.new.self c.decl.ensures.node (c.in_ok-add.ensures [] es ts x.public x.at) c.loop-number.invariant

pub returns : goal.returns
returns c =
    let p = c.args.parsed.now in
    let same : length c.decls-number-end.result.now ≡ length p.decls = ap length c.decls-number-end.ensures in
    let over : length p.decls ≤ c.loop-number.number = omega (arith, c.loop-number-test.false, same) in
    gathered p.texts p.exprs p.stmts p.decls c.loop-number.number over c.loop-number.names c.loop-number.invariant
