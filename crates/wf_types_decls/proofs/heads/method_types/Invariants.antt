use Rattle.std.proofs.Common.{◌≡◌, ◌++◌, drop, map}
use Rattle.wf_named.specs.NamedParts.{named_package}
use Rattle.wf_named.specs.NamedTrees.{expr_trees, stmt_trees, method_made}
use Rattle.wf_types_rules.specs.DeclaredTypes.{method_type}
use Rattle.wf_types_decls.proofs.heads.method_types.Given as goal

abbrev pub invariant-loop-number : goal.invariant-loop-number
invariant-loop-number l =
    let made = method_made l.nodes.texts (expr_trees l.nodes.exprs) (stmt_trees l.nodes.texts l.nodes.exprs l.nodes.stmts) in
    (l.all ++ map (method_type (named_package l.nodes)) (map made (drop l.number l.nodes.methods))) ≡ map (method_type (named_package l.nodes)) (map made l.nodes.methods)
