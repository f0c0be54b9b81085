use Rattle.std.proofs.Common.{◌≡◌, ◌++◌, drop, map}
use Rattle.wf_names_rules.proofs.arguments.given_names.Given as goal

abbrev pub invariant-loop-given : goal.invariant-loop-given
invariant-loop-given l = l.names.items ++ map (λ g. g.name) (drop l.given-index l.args) ≡ map (λ g. g.name) l.args
