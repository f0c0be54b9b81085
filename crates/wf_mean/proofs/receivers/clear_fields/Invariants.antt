use Rattle.std.proofs.Common.{◌≡◌, drop, length, map, take}
use Rattle.wf_meaning.specs.SourceState.{cleared}
use Rattle.wf_mean_exprs.specs.MachineState.{field_seen}
use Rattle.wf_mean.proofs.receivers.clear_fields.Given as goal

-- The fields so far are cleared, and the others are as they were.
abbrev pub invariant-loop-i : goal.invariant-loop-i
invariant-loop-i l = record {
  cleared : map field_seen (take l.i l.fields) ≡ map cleared (map field_seen (take l.i l.fn.fields));
  others : drop l.i l.fields ≡ drop l.i l.fn.fields;
  long : length l.fields ≡ length l.fn.fields;
}
