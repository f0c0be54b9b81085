use Rattle.std.proofs.Common.{◌≡◌, ◌++◌, drop, map}
use Rattle.wf_ast.specs.BaseStatuses.{base_statuses}
use Rattle.wf_named.specs.NamedTree.{Word}
use Rattle.wf_named.specs.NamedTrees.{word_at}
use Rattle.wf_types_decls.proofs.declarations.status_texts.Given as goal

abbrev pub invariant-loop-text : goal.invariant-loop-text
invariant-loop-text l =
    (l.all ++ map (λ (w : Word). w.text) (map (word_at l.nodes.texts) (drop l.text-index l.nodes.statuses))) ≡ (base_statuses ++ map (λ (w : Word). w.text) (map (word_at l.nodes.texts) l.nodes.statuses))
