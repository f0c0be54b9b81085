use Rattle.std.proofs.Common.{◌≡◌, ◌+◌, ◌*◌, ◌++◌, ◌∷◌, []}
use Rattle.c_text.specs.CNodes.{code_of}
use Rattle.c_meaning.specs.CStep.{code_weight}
use Rattle.c_step_load_exprs.proofs.CodeLemmas.{on_ok}
use Rattle.c_step_load_stmts.specs.declared.tasks.Task.TheVariants as task
use Rattle.c_step_load_stmts.specs.Bodies.{nodes_of}
use Rattle.c_step_load_stmts.specs.Tasks.{HasTasks, size_of}
use Rattle.c_step_load_stmts.proofs.TaskLemmas.{one_has, one_size}
use Rattle.c_step_load_stmts.proofs.bodies.Body.lay_one.Goals as goal

pub returns-clause-has : goal.returns-clause-has
returns-clause-has c = on_ok c.leave.result (c.leave.new.left.items ≡ c.args.work.now.left.items ++ task.Code c.args.rest c.in_ok-number.number c.args.at.next ∷ []) (HasTasks (nodes_of c.args.self.now) c.leave.new.left.items) (λ h. one_has (nodes_of c.args.self.now) c.args.work.now.left.items c.leave.new.left.items (task.Code c.args.rest c.in_ok-number.number c.args.at.next) h c.requires.left c.requires.rest) c.leave.ensures

pub returns-clause-size : goal.returns-clause-size
returns-clause-size c = on_ok c.leave.result (c.leave.new.left.items ≡ c.args.work.now.left.items ++ task.Code c.args.rest c.in_ok-number.number c.args.at.next ∷ []) (size_of (nodes_of c.args.self.now) c.leave.new.left.items ≡ size_of (nodes_of c.args.self.now) c.args.work.now.left.items + (2 * code_weight (code_of (nodes_of c.args.self.now) c.args.rest.0) + 1)) (λ h. one_size (nodes_of c.args.self.now) c.args.work.now.left.items c.leave.new.left.items (task.Code c.args.rest c.in_ok-number.number c.args.at.next) h) c.leave.ensures
