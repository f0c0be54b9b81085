use Rattle.std.proofs.Common.{◌≡◌, drop}
use Rattle.wf_names_rules.specs.Passes.{are_apart}
use Rattle.wf_names_rules.proofs.lists.apart.Given as goal

abbrev pub invariant-loop-name : goal.invariant-loop-name
invariant-loop-name l = (l.passed ≡ l.name-index) × (are_apart (drop l.name-index l.names) ≡ are_apart l.names)
