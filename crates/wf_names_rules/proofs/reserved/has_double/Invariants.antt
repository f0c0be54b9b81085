use Rattle.std.proofs.Common.{◌≡◌, drop, false}
use Rattle.wf_names_rules.specs.Reserved.{doubles_behind}
use Rattle.wf_names_rules.proofs.reserved.has_double.Given as goal

abbrev pub invariant-loop-byte : goal.invariant-loop-byte
invariant-loop-byte l = doubles_behind l.behind (drop l.byte-index l.name) ≡ doubles_behind false l.name
