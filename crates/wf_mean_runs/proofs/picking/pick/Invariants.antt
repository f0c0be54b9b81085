use Rattle.std.proofs.Common.{◌≡◌, ◌+◌, drop, option_map}
use Rattle.wf_mean_runs.specs.Picking.{picked}
use Rattle.wf_mean_runs.proofs.picking.pick.Given as goal

-- Which one is picked of those that follow, counted from the first of all.
abbrev pub invariant-loop-i : goal.invariant-loop-i
invariant-loop-i l = picked l.t l.stage l.arms ≡ option_map (λ k. l.i + k) (picked l.t l.stage (drop l.i l.arms))
