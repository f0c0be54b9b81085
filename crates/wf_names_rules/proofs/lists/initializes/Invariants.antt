use Rattle.std.proofs.Common.{◌≡◌, drop}
use Rattle.wf_text.specs.Precedence.{soonest}
use Rattle.wf_names_rules.specs.Passes.{initializes_of}
use Rattle.wf_names_rules.proofs.lists.initializes.Given as goal

abbrev pub invariant-loop-name : goal.invariant-loop-name
invariant-loop-name l = soonest l.found (initializes_of l.parsed.texts (drop l.name-index l.names)) ≡ soonest l.fn.found (initializes_of l.parsed.texts l.names)
