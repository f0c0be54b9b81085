use Rattle.std.proofs.Common.{◌≡◌, drop, map, nat_eq}
use Rattle.std.specs.List.{list_any}
use Rattle.wf_names_rules.proofs.arguments.gives.Given as goal

abbrev pub invariant-loop-given : goal.invariant-loop-given
invariant-loop-given l = list_any (nat_eq l.text) (map (λ n. n.text.0) (map (λ g. g.name) (drop l.given-index l.args))) ≡ list_any (nat_eq l.text) (map (λ n. n.text.0) (map (λ g. g.name) l.args))
