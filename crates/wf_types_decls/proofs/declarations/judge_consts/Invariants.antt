use Rattle.std.proofs.Common.{drop, map}
use Rattle.wf_named.specs.NamedTrees.{expr_trees, const_made}
use Rattle.wf_types_decls.proofs.DeclarationLemmas.{ConstsJudged}
use Rattle.wf_types_decls.proofs.declarations.judge_consts.Given as goal

abbrev pub invariant-loop-constant : goal.invariant-loop-constant
invariant-loop-constant l =
    let made = const_made l.nodes.texts (expr_trees l.nodes.exprs) in
    ConstsJudged (map made l.nodes.consts) (map made (drop l.constant-index l.nodes.consts)) l.fn.found l.found l.known
