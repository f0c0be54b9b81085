use Rattle.std.proofs.Common.{◌≡◌, drop, map}
use Rattle.wf_names_rules.specs.Passes.{rise_from}
use Rattle.wf_names_rules.proofs.arguments.given_rise.Given as goal

abbrev pub invariant-loop-given : goal.invariant-loop-given
invariant-loop-given l = rise_from l.low (map (λ g. g.name) (drop l.given-index l.args)) ≡ rise_from 0 (map (λ g. g.name) l.args)
