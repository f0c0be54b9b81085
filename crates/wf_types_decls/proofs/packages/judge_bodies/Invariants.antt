use Rattle.std.proofs.Common.{◌≡◌, drop, map}
use Rattle.std.specs.List.{flat_map}
use Rattle.wf_named.specs.NamedParts.{named_package}
use Rattle.wf_named.specs.NamedTrees.{expr_trees, stmt_trees, method_made}
use Rattle.wf_types_decls.specs.Packages.{decided, body_sites}
use Rattle.wf_types_decls.proofs.packages.judge_bodies.Given as goal

abbrev pub invariant-loop-number : goal.invariant-loop-number
invariant-loop-number l =
    let made = method_made l.nodes.texts (expr_trees l.nodes.exprs) (stmt_trees l.nodes.texts l.nodes.exprs l.nodes.stmts) in
    decided l.found (flat_map (body_sites (named_package l.nodes)) (map made (drop l.number l.nodes.methods)))
    ≡ decided l.fn.found (flat_map (body_sites (named_package l.nodes)) (map made l.nodes.methods))
