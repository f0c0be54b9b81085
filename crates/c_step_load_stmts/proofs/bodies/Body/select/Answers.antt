use Rattle.std.proofs.Common.{◌≡◌, ◌<◌, ◌+◌, ◌*◌, ◌++◌, ◌∷◌, [], arith}
use Rattle.c_text.specs.CNodes.{code_of}
use Rattle.c_meaning.specs.CStep.{code_weight}
use Rattle.c_step_text.specs.declared.text.StmtInstr.TheVariants.{Stuck}
use Rattle.c_step_load_exprs.proofs.CodeLemmas.{on_ok}
use Rattle.c_step_load_stmts.specs.declared.tasks.Task.TheVariants as task
use Rattle.c_step_load_stmts.specs.Bodies.{nodes_of}
use Rattle.c_step_load_stmts.specs.Tasks.{HasTasks, size_of}
use Rattle.c_step_load_stmts.proofs.TaskLemmas.{three_has, three_size}
use Rattle.c_step_load_stmts.proofs.bodies.Body.select.Goals as goal

pub returns-clause-has : goal.returns-clause-has
returns-clause-has c = on_ok c.leave_inside.result (c.leave_inside.new.work.left.items ≡ c.args.work.now.left.items ++ task.Code c.args.rest c.in_ok-block.block.past c.args.at.next ∷ task.Instr Stuck ∷ task.Code c.args.body c.in_ok-block.block.inside c.in_ok-block.block.after ∷ []) (HasTasks (nodes_of c.args.self.now) c.leave_inside.new.work.left.items) (λ h. three_has (nodes_of c.args.self.now) c.args.work.now.left.items c.leave_inside.new.work.left.items (task.Code c.args.rest c.in_ok-block.block.past c.args.at.next) (task.Instr Stuck) (task.Code c.args.body c.in_ok-block.block.inside c.in_ok-block.block.after) h c.requires.left c.requires.rest tt c.requires.body) c.leave_inside.ensures.left

pub returns-clause-falls : goal.returns-clause-falls
returns-clause-falls c = on_ok c.leave_inside.result (c.leave_inside.new.work.left.items ≡ c.args.work.now.left.items ++ task.Code c.args.rest c.in_ok-block.block.past c.args.at.next ∷ task.Instr Stuck ∷ task.Code c.args.body c.in_ok-block.block.inside c.in_ok-block.block.after ∷ []) (size_of (nodes_of c.args.self.now) c.leave_inside.new.work.left.items < size_of (nodes_of c.args.self.now) c.args.work.now.left.items + (2 * (code_weight (code_of (nodes_of c.args.self.now) c.args.body.0) + code_weight (code_of (nodes_of c.args.self.now) c.args.rest.0) + 2) + 1))
    (λ h. let s : size_of (nodes_of c.args.self.now) c.leave_inside.new.work.left.items ≡ size_of (nodes_of c.args.self.now) c.args.work.now.left.items + (2 * code_weight (code_of (nodes_of c.args.self.now) c.args.rest.0) + 1) + 1 + (2 * code_weight (code_of (nodes_of c.args.self.now) c.args.body.0) + 1) = three_size (nodes_of c.args.self.now) c.args.work.now.left.items c.leave_inside.new.work.left.items (task.Code c.args.rest c.in_ok-block.block.past c.args.at.next) (task.Instr Stuck) (task.Code c.args.body c.in_ok-block.block.inside c.in_ok-block.block.after) h in omega (arith, s)) c.leave_inside.ensures.left
