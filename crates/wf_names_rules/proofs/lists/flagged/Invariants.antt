use Rattle.std.proofs.Common.{◌≡◌, drop}
use Rattle.wf_text.specs.Precedence.{soonest}
use Rattle.wf_names_rules.specs.Passes.{flagged_from}
use Rattle.wf_names_rules.proofs.lists.flagged.Given as goal

abbrev pub invariant-loop-name : goal.invariant-loop-name
invariant-loop-name l =
    (l.a ≡ l.name-index) × (soonest l.found (flagged_from l.rule l.a l.flags (drop l.name-index l.names)) ≡ soonest l.fn.found (flagged_from l.rule 0 l.flags l.names))
