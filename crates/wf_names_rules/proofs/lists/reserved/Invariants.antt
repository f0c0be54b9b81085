use Rattle.std.proofs.Common.{◌≡◌, drop}
use Rattle.wf_text.specs.Precedence.{soonest}
use Rattle.wf_names_rules.specs.Passes.{reserved_of}
use Rattle.wf_names_rules.proofs.lists.reserved.Given as goal

abbrev pub invariant-loop-name : goal.invariant-loop-name
invariant-loop-name l = soonest l.found (reserved_of l.parsed.texts (drop l.name-index l.names)) ≡ soonest l.fn.found (reserved_of l.parsed.texts l.names)
