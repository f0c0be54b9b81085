use Rattle.std.proofs.Common.{◌≡◌, [], drop}
use Rattle.wf_text.specs.Precedence.{soonest}
use Rattle.wf_names_rules.specs.Passes.{doubles_of}
use Rattle.wf_names_rules.proofs.lists.doubles.Given as goal

abbrev pub invariant-loop-name : goal.invariant-loop-name
invariant-loop-name l = soonest l.found (doubles_of l.seen.keys (drop l.name-index l.names)) ≡ soonest l.fn.found (doubles_of [] l.names)
