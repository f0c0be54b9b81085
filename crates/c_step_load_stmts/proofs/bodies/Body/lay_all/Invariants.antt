use Rattle.std.proofs.Common.{◌≡◌}
use Rattle.c_text.specs.CNodes.{code_of}
use Rattle.c_step_text.specs.Layout.{Names}
use Rattle.c_step_load_stmts.specs.Bodies.{nodes_of, Tells, with_code}
use Rattle.c_step_load_stmts.specs.Tasks.{finished, HasTasks, size_of}
use Rattle.c_step_load_stmts.proofs.bodies.Body.lay_all.Given as goal

abbrev pub invariant-loop-task : goal.invariant-loop-task
invariant-loop-task l = record {
  has : HasTasks (nodes_of l.self) l.work.left.items;
  so_far : (names : Names) → Tells l.self names → finished (nodes_of l.self) names l.work.text l.work.left.items ≡ with_code names l.fn.work.text l.fn.at.number l.fn.at.next (code_of (nodes_of l.self) l.fn.body.0);
}

abbrev pub decreases-loop-task : goal.decreases-loop-task
decreases-loop-task l = size_of (nodes_of l.self) l.work.left.items
