use Rattle.std.proofs.Common.{◌≡◌, drop, length, map, take}
use Rattle.wf_ast.specs.TypedPackage.{PackageTree}
use Rattle.wf_meaning.specs.SourceState.{cleared_object}
use Rattle.wf_mean_exprs.specs.MachineState.{object_seen}
use Rattle.wf_mean_stmts.specs.Stages.{kept_lengths}
use Rattle.wf_mean.proofs.receivers.clear_objects.Given as goal

-- The struct states so far are cleared, and the others are as they were.
abbrev pub invariant-loop-i : goal.invariant-loop-i
invariant-loop-i l = record {
  cleared : (p : PackageTree) → map (object_seen p) (take l.i l.objects) ≡ map cleared_object (map (object_seen p) (take l.i l.fn.objects));
  others : drop l.i l.objects ≡ drop l.i l.fn.objects;
  kept : map kept_lengths l.objects ≡ map kept_lengths l.fn.objects;
  long : length l.objects ≡ length l.fn.objects;
}
