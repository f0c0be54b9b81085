use Rattle.std.proofs.Common.{◌≤◌, length, ap, arith}
use Rattle.wf_ast.specs.ParsedTrees.{expr_trees, stmt_trees}
use Rattle.wf_named.specs.NamedParts.{named_package}
use Rattle.wf_names_nodes.proofs.PackageLemmas.{consts_begun, const_next, consts_done}
use Rattle.wf_names_nodes.proofs.packages.all_consts.Goals as goal
use Rattle.wf_names_rules.specs.Declarations.{declared_in}

pub loop-number-init : goal.loop-number-init
loop-number-init c = consts_begun c.args.parsed.now (named_package c.args.nodes.now) c.args.scope.now c.requires.outside

pub loop-number-preserved : goal.loop-number-preserved
loop-number-preserved c =
    let es = expr_trees c.args.parsed.now.exprs in
    let ts = stmt_trees c.args.parsed.now.exprs c.args.parsed.now.stmts in
    const_next es ts c.args.parsed.now.decls c.loop-number.number c.decl.result.now c.decl.ensures.node (declared_in c.args.parsed.now) (named_package c.args.nodes.now) (named_package c.loop-number.nodes) (named_package c.const_decl.new.nodes)
    c.loop-number.scope c.const_decl.new.scope c.loop-number.invariant c.in_ok-const_decl.ensures.added c.in_ok-const_decl.ensures.known

pub returns-clause-added : goal.returns-clause-added
returns-clause-added c =
    let over : length c.args.parsed.now.decls ≤ c.loop-number.number = omega (arith, c.loop-number-test.false, ap length c.decls.ensures) in
    (consts_done (declared_in c.args.parsed.now) (named_package c.args.nodes.now) (named_package c.loop-number.nodes) (expr_trees c.args.parsed.now.exprs) (stmt_trees c.args.parsed.now.exprs c.args.parsed.now.stmts)
    c.args.parsed.now.decls c.loop-number.number c.loop-number.scope over c.loop-number.invariant).0

pub returns-clause-known : goal.returns-clause-known
returns-clause-known c =
    let over : length c.args.parsed.now.decls ≤ c.loop-number.number = omega (arith, c.loop-number-test.false, ap length c.decls.ensures) in
    (consts_done (declared_in c.args.parsed.now) (named_package c.args.nodes.now) (named_package c.loop-number.nodes) (expr_trees c.args.parsed.now.exprs) (stmt_trees c.args.parsed.now.exprs c.args.parsed.now.stmts)
    c.args.parsed.now.decls c.loop-number.number c.loop-number.scope over c.loop-number.invariant).1
