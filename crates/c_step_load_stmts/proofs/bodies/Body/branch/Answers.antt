use Rattle.std.proofs.Common.{◌≡◌, ◌<◌, ◌+◌, ◌*◌, ◌++◌, ◌∷◌, [], ap, ◌∙◌, arith}
use Rattle.c_text.specs.CNodes.{expr_of, code_of}
use Rattle.c_text.specs.CTree.{branch}
use Rattle.c_meaning.specs.CStep.{code_weight}
use Rattle.c_step_text.specs.declared.text.StmtInstr.TheVariants.{Stuck}
use Rattle.c_step_load_exprs.proofs.CodeLemmas.{on_ok}
use Rattle.c_step_load_stmts.specs.declared.statements.Block.{Block}
use Rattle.c_step_load_stmts.specs.declared.tasks.Task.TheVariants as task
use Rattle.c_step_load_stmts.specs.Bodies.{nodes_of, scope_of, with_code}
use Rattle.c_step_load_stmts.specs.Tasks.{finished, HasTasks, size_of}
use Rattle.c_step_load_stmts.proofs.TaskLemmas.{four_has, four_size}
use Rattle.c_step_load_stmts.proofs.StepLemmas.{on_two, branch_step}
use Rattle.c_step_load_stmts.proofs.bodies.Body.branch.Goals as goal

pub returns-clause-has : goal.returns-clause-has
returns-clause-has c = on_ok c.leave_both.result (c.leave_both.new.work.left.items ≡ c.args.work.now.left.items ++ task.Code c.args.rest c.in_ok-block.block.past c.args.at.next ∷ task.Instr Stuck ∷ task.Code c.args.two.1 c.in_ok-block.second c.in_ok-block.block.after ∷ task.Code c.args.two.0 c.in_ok-block.block.inside c.in_ok-block.block.after ∷ []) (HasTasks (nodes_of c.args.self.now) c.leave_both.new.work.left.items) (λ h. four_has (nodes_of c.args.self.now) c.args.work.now.left.items c.leave_both.new.work.left.items (task.Code c.args.rest c.in_ok-block.block.past c.args.at.next) (task.Instr Stuck) (task.Code c.args.two.1 c.in_ok-block.second c.in_ok-block.block.after) (task.Code c.args.two.0 c.in_ok-block.block.inside c.in_ok-block.block.after) h c.requires.left c.requires.rest tt c.requires.other c.requires.body) c.leave_both.ensures.left

pub returns-clause-falls : goal.returns-clause-falls
returns-clause-falls c = λ kind. on_ok c.leave_both.result (c.leave_both.new.work.left.items ≡ c.args.work.now.left.items ++ task.Code c.args.rest c.in_ok-block.block.past c.args.at.next ∷ task.Instr Stuck ∷ task.Code c.args.two.1 c.in_ok-block.second c.in_ok-block.block.after ∷ task.Code c.args.two.0 c.in_ok-block.block.inside c.in_ok-block.block.after ∷ []) (size_of (nodes_of c.args.self.now) c.leave_both.new.work.left.items < size_of (nodes_of c.args.self.now) c.args.work.now.left.items + (2 * (code_weight (code_of (nodes_of c.args.self.now) c.args.two.0.0) + code_weight (code_of (nodes_of c.args.self.now) c.args.two.1.0) + code_weight (code_of (nodes_of c.args.self.now) c.args.rest.0) + 2) + 1))
    (λ h. let s : size_of (nodes_of c.args.self.now) c.leave_both.new.work.left.items ≡ size_of (nodes_of c.args.self.now) c.args.work.now.left.items + (2 * code_weight (code_of (nodes_of c.args.self.now) c.args.rest.0) + 1) + 1 + (2 * code_weight (code_of (nodes_of c.args.self.now) c.args.two.1.0) + 1) + (2 * code_weight (code_of (nodes_of c.args.self.now) c.args.two.0.0) + 1) = four_size (nodes_of c.args.self.now) c.args.work.now.left.items c.leave_both.new.work.left.items (task.Code c.args.rest c.in_ok-block.block.past c.args.at.next) (task.Instr Stuck) (task.Code c.args.two.1 c.in_ok-block.second c.in_ok-block.block.after) (task.Code c.args.two.0 c.in_ok-block.block.inside c.in_ok-block.block.after) h in omega (arith, s)) c.leave_both.ensures.left

pub returns-clause-lays : goal.returns-clause-lays
returns-clause-lays c = λ kind names tells. on_two c.leave_both.result (c.leave_both.new.work.text ≡ c.put.new.text) (c.leave_both.new.work.left.items ≡ c.args.work.now.left.items ++ task.Code c.args.rest c.in_ok-block.block.past c.args.at.next ∷ task.Instr Stuck ∷ task.Code c.args.two.1 c.in_ok-block.second c.in_ok-block.block.after ∷ task.Code c.args.two.0 c.in_ok-block.block.inside c.in_ok-block.block.after ∷ [])
    (finished (nodes_of c.args.self.now) names c.leave_both.new.work.text c.leave_both.new.work.left.items ≡ finished (nodes_of c.args.self.now) names (with_code names c.args.work.now.text c.args.at.number c.args.at.next (branch (expr_of (nodes_of c.args.self.now) c.args.test.0) (code_of (nodes_of c.args.self.now) c.args.two.0.0) kind (code_of (nodes_of c.args.self.now) c.args.two.1.0) (code_of (nodes_of c.args.self.now) c.args.rest.0))) c.args.work.now.left.items)
    (λ p q. branch_step (nodes_of c.args.self.now) names c.args.work.now.left.items c.leave_both.new.work.left.items c.args.work.now.text c.put_value.new.text c.leave_both.new.work.text (scope_of c.args.self.now) c.args.at.number c.args.at.next (expr_of (nodes_of c.args.self.now) c.args.test.0) kind c.args.two.0 c.args.two.1 c.args.rest c.in_ok-test.test c.in_ok-block.block.inside c.in_ok-block.block.past c.in_ok-block.block.after c.in_ok-block.second c.go.result c.go-2.result tells.scope
    (ap (λ (b : Block). b.inside) c.in_ok-block.ensures.block) (ap (λ (b : Block). b.past) c.in_ok-block.ensures.block) (ap (λ (b : Block). b.after) c.in_ok-block.ensures.block) c.in_ok-block.ensures.second c.go.ensures c.go-2.ensures c.in_ok-test.ensures.text c.in_ok-test.ensures.span (p ∙ c.in_ok-put.ensures) q)
    c.leave_both.ensures.text c.leave_both.ensures.left
