use Rattle.std.proofs.Common.{◌≤◌, ◌-◌, length}
use Rattle.c_step_places.specs.Weights.{Weighs}
use Rattle.c_step_places.proofs.weighing.weigh_all.Given as goal

abbrev pub invariant-loop-weights : goal.invariant-loop-weights
invariant-loop-weights l = (length l.weights.items ≤ length l.unit.stmts) × Weighs l.unit l.weights.items

abbrev pub decreases-loop-weights : goal.decreases-loop-weights
decreases-loop-weights l = length l.unit.stmts - length l.weights.items
