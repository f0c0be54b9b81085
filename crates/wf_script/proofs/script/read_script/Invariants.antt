use Rattle.std.proofs.Common.{◌≡◌, ◌≤◌, length}
use Rattle.wf_script_rules.specs.Scripts.{script_of, read_lines}
use Rattle.wf_script.proofs.script.read_script.Given as goal

abbrev pub invariant-loop-line : goal.invariant-loop-line
invariant-loop-line l = record {
  bound : l.number ≤ 65537;
  read : read_lines l.surface l.number l.script l.lines ≡ script_of l.surface l.bytes;
}

abbrev pub decreases-loop-line : goal.decreases-loop-line
decreases-loop-line l = length l.lines
