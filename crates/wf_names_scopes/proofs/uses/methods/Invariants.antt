use Rattle.std.proofs.Common.{◌≡◌, ◌-◌, drop, fold, length, flat_map}
use Rattle.wf_ast.specs.ParsedTrees.{expr_trees, stmt_trees, decls_made}
use Rattle.wf_names_rules.specs.Jumps.{method_labels, labels_found}
use Rattle.wf_names_rules.specs.Declarations.{methods_of, declared_in}
use Rattle.wf_names_rules.specs.Uses.{method_sites}
use Rattle.wf_names_scopes.specs.Agreeing.{TellsConstants}
use Rattle.wf_names_scopes.specs.CallRows.{AreRowsInFront}
use Rattle.wf_names_scopes.specs.UsesFound.{sites_judged}
use Rattle.wf_names_scopes.proofs.uses.methods.Given as goal

abbrev pub invariant-loop-number : goal.invariant-loop-number
invariant-loop-number l =
    TellsConstants (declared_in l.whole.parsed.now) l.scope
    × (sites_judged (declared_in l.whole.parsed.now) l.seen.found (flat_map (method_sites (declared_in l.whole.parsed.now)) (methods_of (decls_made (expr_trees l.whole.parsed.now.exprs) (stmt_trees l.whole.parsed.now.exprs l.whole.parsed.now.stmts) (drop l.number l.whole.parsed.now.decls))))
    ≡ sites_judged (declared_in l.whole.parsed.now) l.fn.seen.found (flat_map (method_sites (declared_in l.whole.parsed.now)) (declared_in l.whole.parsed.now).methods))
    × AreRowsInFront (declared_in l.whole.parsed.now) l.bodies.rows.items (methods_of (decls_made (expr_trees l.whole.parsed.now.exprs) (stmt_trees l.whole.parsed.now.exprs l.whole.parsed.now.stmts) (drop l.number l.whole.parsed.now.decls)))
    × (fold (method_labels l.whole.parsed.now.texts) l.bodies.labels (methods_of (decls_made (expr_trees l.whole.parsed.now.exprs) (stmt_trees l.whole.parsed.now.exprs l.whole.parsed.now.stmts) (drop l.number l.whole.parsed.now.decls)))
    ≡ labels_found (declared_in l.whole.parsed.now) l.fn.bodies.labels)

abbrev pub decreases-loop-number : goal.decreases-loop-number
decreases-loop-number l = length l.whole.parsed.now.decls - l.number
