use Rattle.std.proofs.Common.{◌≡◌, map, take}
use Rattle.wf_mean_runs.specs.Frames.{sizes_for, sizes_of}
use Rattle.wf_mean.proofs.fresh.new_frames.Given as goal

abbrev pub invariant-loop-i : goal.invariant-loop-i
invariant-loop-i l = map sizes_of l.frames.items ≡ map (sizes_for l.t) (take l.i l.order)
