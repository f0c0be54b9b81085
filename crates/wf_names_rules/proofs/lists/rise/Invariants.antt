use Rattle.std.proofs.Common.{◌≡◌, drop}
use Rattle.wf_names_rules.specs.Passes.{rise_from}
use Rattle.wf_names_rules.proofs.lists.rise.Given as goal

abbrev pub invariant-loop-name : goal.invariant-loop-name
invariant-loop-name l = rise_from l.low (drop l.name-index l.names) ≡ rise_from 0 l.names
