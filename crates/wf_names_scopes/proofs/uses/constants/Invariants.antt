use Rattle.std.proofs.Common.{◌-◌, drop, length}
use Rattle.wf_ast.specs.ParsedTrees.{expr_trees, stmt_trees, decls_made}
use Rattle.wf_names_rules.specs.Declarations.{constants_of, declared_in}
use Rattle.wf_names_scopes.specs.Growing.{AreConstantsPassed}
use Rattle.wf_names_scopes.proofs.uses.constants.Given as goal

abbrev pub invariant-loop-number : goal.invariant-loop-number
invariant-loop-number l =
    AreConstantsPassed (declared_in l.whole.parsed.now) l.fn.seen.found l.seen.found (constants_of (decls_made (expr_trees l.whole.parsed.now.exprs) (stmt_trees l.whole.parsed.now.exprs l.whole.parsed.now.stmts) (drop l.number l.whole.parsed.now.decls))) l.scope

abbrev pub decreases-loop-number : goal.decreases-loop-number
decreases-loop-number l = length l.whole.parsed.now.decls - l.number
