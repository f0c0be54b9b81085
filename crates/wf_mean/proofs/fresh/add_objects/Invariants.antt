use Rattle.std.proofs.Common.{◌≡◌, ◌++◌, length, map, reverse}
use Rattle.wf_ast.specs.TypedPackage.{package_of}
use Rattle.wf_mean_exprs.specs.MachineState.{object_seen}
use Rattle.wf_mean.specs.Machines.{KeepAll}
use Rattle.wf_mean.specs.Sizes.{states_of, states_of_all}
use Rattle.wf_mean.proofs.fresh.add_objects.Given as goal

-- With the states of the structs that are left, all are there.
abbrev pub invariant-loop-s : goal.invariant-loop-s
invariant-loop-s l =
    let p = package_of l.t in record {
      so_far : map (object_seen p) l.objects.items ++ states_of_all p (reverse l.left.items) (length l.objects.items) ≡ map (object_seen p) l.fn.objects.items ++ states_of p l.fn.s (length l.fn.objects.items);
      kept : KeepAll l.t l.objects.items;
    }

abbrev pub decreases-loop-s : goal.decreases-loop-s
decreases-loop-s l = length (states_of_all (package_of l.t) (reverse l.left.items) (length l.objects.items))
