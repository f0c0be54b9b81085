use Rattle.std.proofs.Common.{◌≡◌, drop, false}
use Rattle.wf_names_rules.specs.Reserved.{ends_behind}
use Rattle.wf_names_rules.proofs.reserved.ends.Given as goal

abbrev pub invariant-loop-byte : goal.invariant-loop-byte
invariant-loop-byte l = ends_behind l.last (drop l.byte-index l.name) ≡ ends_behind false l.name
