use Rattle.std.proofs.Common.{◌≡◌, ◌-◌, drop, length}
use Rattle.wf_ast.specs.ParsedTrees.{expr_trees, stmt_trees, decls_made}
use Rattle.wf_named.specs.NamedParts.{named_package}
use Rattle.wf_names_scopes.specs.Agreeing.{TellsConstants}
use Rattle.wf_names_rules.specs.Declarations.{methods_of, declared_in}
use Rattle.wf_names_scopes.specs.Growing.{AreLeft}
use Rattle.wf_names_nodes.specs.Declaring.{with_others}
use Rattle.wf_names_nodes.proofs.packages.all_others.Given as goal

abbrev pub invariant-loop-number : goal.invariant-loop-number
invariant-loop-number l =
    TellsConstants (declared_in l.parsed) l.scope
    × AreLeft (declared_in l.parsed) (length l.nodes.methods) (methods_of (decls_made (expr_trees l.parsed.exprs) (stmt_trees l.parsed.exprs l.parsed.stmts) (drop l.number l.parsed.decls)))
    × (with_others (declared_in l.parsed) (named_package l.nodes) (decls_made (expr_trees l.parsed.exprs) (stmt_trees l.parsed.exprs l.parsed.stmts) (drop l.number l.parsed.decls))
    ≡ with_others (declared_in l.parsed) (named_package l.fn.nodes) (decls_made (expr_trees l.parsed.exprs) (stmt_trees l.parsed.exprs l.parsed.stmts) l.parsed.decls))

abbrev pub decreases-loop-number : goal.decreases-loop-number
decreases-loop-number l = length l.parsed.decls - l.number
