use Rattle.std.proofs.Common.{◌∙◌, length}
use Rattle.wf_ast.specs.ParsedTrees.{expr_trees, stmt_trees}
use Rattle.wf_names_scopes.proofs.NextLemmas.{next-of, rows-left}
use Rattle.wf_names_scopes.proofs.RowLemmas.{rows-begun, rows-next}
use Rattle.wf_names_scopes.proofs.UseLemmas.{labels_begun, labels_next, methods_begun, methods_next}
use Rattle.wf_names_scopes.proofs.uses.methods.Goals as goal
use Rattle.wf_names_rules.specs.Declarations.{declared_in}

pub loop-number-init : goal.loop-number-init
loop-number-init c = (c.requires.constants, methods_begun c.args.whole.now.parsed.now c.args.seen.now.found, rows-begun c.args.whole.now.parsed.now c.args.bodies.now.rows.items c.requires.none, labels_begun c.args.whole.now.parsed.now c.args.bodies.now.labels)

pub loop-number-preserved : goal.loop-number-preserved
loop-number-preserved c =
    let p = c.args.whole.now.parsed.now in
    let es = expr_trees p.exprs in
    let ts = stmt_trees p.exprs p.stmts in
    let number = c.loop-number.number in
    let node = c.decl.result.now in
    let step = methods_next es ts p.decls number node c.decl.ensures.node (declared_in p) c.loop-number.seen.found _ c.in_ok-method_decl.ensures.found in (
      c.in_ok-method_decl.ensures.constants,
      step ∙ c.loop-number.invariant.1,
      rows-next (declared_in p) es ts p.decls number node c.decl.ensures.node c.loop-number.bodies.rows.items c.method_decl.new.bodies.rows.items c.in_ok-method_decl.ensures.rows c.loop-number.invariant.2,
      labels_next es ts p.decls number node c.decl.ensures.node p.texts c.loop-number.bodies.labels c.method_decl.new.bodies.labels c.in_ok-method_decl.ensures.labels ∙ c.loop-number.invariant.3,
    )

pub method_decl-requires-clause-next : goal.method_decl-requires-clause-next
method_decl-requires-clause-next c =
    let p = c.args.whole.now.parsed.now in
    let rows = c.loop-number.bodies.rows.items in
    next-of (declared_in p) (length rows) (expr_trees p.exprs) (stmt_trees p.exprs p.stmts) p.decls c.loop-number.number c.decl.result.now c.decl.ensures.node
    (rows-left (declared_in p) rows _ c.loop-number.invariant.2)
