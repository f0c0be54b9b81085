use Rattle.std.proofs.Common.{◌≡◌, ap, ◌∙◌}
use Rattle.c_text.specs.CNodes.{expr_of, code_of, value_in}
use Rattle.c_text.specs.CTree.{leave}
use Rattle.c_step_text.specs.Flat.{FlatText}
use Rattle.c_step_load_exprs.proofs.CodeLemmas.{on_ok}
use Rattle.c_step_load_stmts.specs.Bodies.{nodes_of, with_code}
use Rattle.c_step_load_stmts.specs.Tasks.{finished}
use Rattle.c_step_load_stmts.proofs.StepLemmas.{leave_step}
use Rattle.c_step_load_stmts.proofs.bodies.Body.give.Goals as goal

pub returns-clause-lays : goal.returns-clause-lays
returns-clause-lays c = λ names tells. on_ok c.lay_one.result _ (finished (nodes_of c.args.self.now) names c.lay_one.new.work.text c.lay_one.new.work.left.items ≡ finished (nodes_of c.args.self.now) names (with_code names c.args.work.now.text c.args.at.number c.args.at.next (leave (value_in (expr_of (nodes_of c.args.self.now)) c.args.value) (code_of (nodes_of c.args.self.now) c.args.rest.0))) c.args.work.now.left.items) (λ h. h ∙ ap (λ (t : FlatText). finished (nodes_of c.args.self.now) names t c.args.work.now.left.items) (leave_step names c.args.work.now.text c.give_instr.new.text c.in_ok-it.it c.args.at.number c.args.at.next (code_of (nodes_of c.args.self.now) c.args.rest.0) (value_in (expr_of (nodes_of c.args.self.now)) c.args.value) (c.in_ok-it.ensures.text names tells) (c.in_ok-it.ensures.instr names tells))) (c.lay_one.ensures.lays names)
