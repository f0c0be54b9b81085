use Rattle.std.proofs.Common.{◌≡◌, ◌<◌, ◌+◌, ℕ, sym, subst}
use Rattle.c_step_load_stmts.specs.Bodies.{nodes_of}
use Rattle.c_step_load_stmts.specs.Tasks.{HasTasks, task_size, size_of}
use Rattle.c_step_load_stmts.proofs.TaskLemmas.{has_last, one_size}
use Rattle.c_step_load_stmts.proofs.bodies.Body.lay_all.Goals as goal

pub work_on-requires-clause-left : goal.work_on-requires-clause-left
work_on-requires-clause-left c = (has_last (nodes_of c.args.self.now) c.pop.new.self.items c.in-Some.task (subst (HasTasks (nodes_of c.args.self.now)) c.in-Some.ensures.items c.loop-task.invariant.has)).0

pub work_on-requires-clause-it : goal.work_on-requires-clause-it
work_on-requires-clause-it c = (has_last (nodes_of c.args.self.now) c.pop.new.self.items c.in-Some.task (subst (HasTasks (nodes_of c.args.self.now)) c.in-Some.ensures.items c.loop-task.invariant.has)).1

pub loop-task-smaller : goal.loop-task-smaller
loop-task-smaller c =
    let whole : size_of (nodes_of c.args.self.now) c.loop-task.work.left.items ≡ size_of (nodes_of c.args.self.now) c.pop.new.self.items + task_size (nodes_of c.args.self.now) c.in-Some.task = one_size (nodes_of c.args.self.now) c.pop.new.self.items c.loop-task.work.left.items c.in-Some.task c.in-Some.ensures.items in
    let falls : size_of (nodes_of c.args.self.now) c.work_on.new.work.left.items < size_of (nodes_of c.args.self.now) c.pop.new.self.items + task_size (nodes_of c.args.self.now) c.in-Some.task = c.in_ok-work_on.ensures.falls in
    let less : size_of (nodes_of c.args.self.now) c.work_on.new.work.left.items < size_of (nodes_of c.args.self.now) c.loop-task.work.left.items = subst (λ (m : ℕ). size_of (nodes_of c.args.self.now) c.work_on.new.work.left.items < m) (sym whole) falls in
    less
