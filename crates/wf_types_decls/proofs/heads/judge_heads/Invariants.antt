use Rattle.std.proofs.Common.{◌≡◌, ◌++◌, drop, map}
use Rattle.std.specs.List.{flat_map}
use Rattle.wf_named.specs.NamedParts.{named_package}
use Rattle.wf_named.specs.NamedTrees.{expr_trees, stmt_trees, method_made}
use Rattle.wf_types_exprs.specs.Judged.{judged}
use Rattle.wf_types_decls.specs.Packages.{head_of, head_parts}
use Rattle.wf_types_decls.proofs.heads.judge_heads.Given as goal

abbrev pub invariant-loop-method : goal.invariant-loop-method
invariant-loop-method l =
    let made = method_made l.here.nodes.now.texts (expr_trees l.here.nodes.now.exprs) (stmt_trees l.here.nodes.now.texts l.here.nodes.now.exprs l.here.nodes.now.stmts) in
    (judged l.here.around.now l.found (flat_map head_parts (map made (drop l.method-index l.here.nodes.now.methods))) ≡ judged l.here.around.now l.fn.found (flat_map head_parts (map made l.here.nodes.now.methods)))
    × ((l.all ++ map (head_of (named_package l.here.nodes.now)) (map made (drop l.method-index l.here.nodes.now.methods))) ≡ map (head_of (named_package l.here.nodes.now)) (map made l.here.nodes.now.methods))
