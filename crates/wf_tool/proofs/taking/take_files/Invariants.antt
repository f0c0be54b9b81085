use Rattle.std.proofs.Common.{◌≡◌, ◌≤◌, ◌-◌, length, map}
use Rattle.std.specs.Prelude.{string_bytes}
use Rattle.wf_tool.proofs.TakingLemmas.{HasTaken}
use Rattle.wf_tool.proofs.taking.take_files.Given as goal

abbrev pub invariant-loop-number : goal.invariant-loop-number
invariant-loop-number g l = record {
  taken : HasTaken (g.I.Inputs.held l.fn.inputs) 1048576 (map (λ name. string_bytes name) l.names) l.number l.left (map (λ bytes. bytes.items) l.files.items);
  left : l.left ≤ 1048576;
  number : l.number ≤ length l.names;
  held : g.I.Inputs.held l.inputs ≡ g.I.Inputs.held l.fn.inputs;
  faults : g.I.Inputs.faults l.inputs ≡ g.I.Inputs.faults l.fn.inputs;
}

abbrev pub decreases-loop-number : goal.decreases-loop-number
decreases-loop-number g l = length l.names - l.number
