use Rattle.std.proofs.Common.{◌≡◌, ◌≤◌, ◌+◌, ◌-◌, drop}
use Rattle.wf_parse_grammar.specs.Building.{open_wants}
use Rattle.wf_parse.proofs.machine.open_brackets.Given as goal

abbrev pub invariant-loop-depth : goal.invariant-loop-depth
invariant-loop-depth l = record {
  within : l.depth ≤ l.len;
  few : l.open ≤ l.depth;
  counted : l.open + open_wants (drop l.depth l.wants) ≡ open_wants l.fn.wants;
}

abbrev pub decreases-loop-depth : goal.decreases-loop-depth
decreases-loop-depth l = l.len - l.depth
