use Rattle.std.proofs.Common.{◌≡◌, ◌++◌, drop, map}
use Rattle.wf_named.specs.NamedTree.{Word}
use Rattle.wf_named.specs.NamedTrees.{word_at}
use Rattle.wf_typed_tree.specs.ElaboratedPackage.{seen_text}
use Rattle.wf_types.specs.DeclaredNodes.{seen_statuses}
use Rattle.wf_types.proofs.texts.seen_statuses.Given as goal

abbrev pub invariant-loop-text : goal.invariant-loop-text
invariant-loop-text l =
    (l.all ++ map (λ (w : Word). seen_text l.nodes.package_name w.text) (map (word_at l.nodes.texts) (drop l.text-index l.nodes.statuses))) ≡ seen_statuses l.nodes
