use Rattle.std.proofs.Common.{◌-◌, drop, length}
use Rattle.wf_ast.specs.ParsedTrees.{expr_trees, stmt_trees, decls_made}
use Rattle.wf_named.specs.NamedParts.{named_package}
use Rattle.wf_names_rules.specs.Declarations.{constants_of, declared_in}
use Rattle.wf_names_nodes.proofs.PackageLemmas.{ConstsAdded}
use Rattle.wf_names_nodes.proofs.packages.all_consts.Given as goal

abbrev pub invariant-loop-number : goal.invariant-loop-number
invariant-loop-number l =
    ConstsAdded (declared_in l.parsed) (named_package l.fn.nodes) (named_package l.nodes) (constants_of (decls_made (expr_trees l.parsed.exprs) (stmt_trees l.parsed.exprs l.parsed.stmts) (drop l.number l.parsed.decls))) l.scope

abbrev pub decreases-loop-number : goal.decreases-loop-number
decreases-loop-number l = length l.parsed.decls - l.number
