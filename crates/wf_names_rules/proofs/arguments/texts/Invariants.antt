use Rattle.std.proofs.Common.{◌≡◌, [], drop, map, nat_eq}
use Rattle.indexmap.specs.IndexSet.{insert_all}
use Rattle.wf_names_rules.proofs.arguments.texts.Given as goal

abbrev pub invariant-loop-given : goal.invariant-loop-given
invariant-loop-given l = insert_all nat_eq l.set.keys (map (λ n. n.text.0) (map (λ g. g.name) (drop l.given-index l.args))) ≡ insert_all nat_eq [] (map (λ n. n.text.0) (map (λ g. g.name) l.args))
