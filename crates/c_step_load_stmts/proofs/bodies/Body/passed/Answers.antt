use Rattle.std.proofs.Common.{◌≡◌, ap, ◌∙◌}
use Rattle.c_text.specs.CNodes.{code_of}
use Rattle.c_text.specs.CTree.{empty}
use Rattle.c_step_text.specs.Flat.{FlatText}
use Rattle.c_step_load_exprs.proofs.CodeLemmas.{on_ok}
use Rattle.c_step_load_stmts.specs.Bodies.{nodes_of, with_code}
use Rattle.c_step_load_stmts.specs.Tasks.{finished}
use Rattle.c_step_load_stmts.proofs.StepLemmas.{empty_step}
use Rattle.c_step_load_stmts.proofs.bodies.Body.passed.Goals as goal

pub returns-clause-lays : goal.returns-clause-lays
returns-clause-lays c = λ names tells. on_ok c.lay_one.result _ (finished (nodes_of c.args.self.now) names c.lay_one.new.work.text c.lay_one.new.work.left.items ≡ finished (nodes_of c.args.self.now) names (with_code names c.args.work.now.text c.args.at.number c.args.at.next (empty (code_of (nodes_of c.args.self.now) c.args.rest.0))) c.args.work.now.left.items) (λ h. h ∙ ap (λ (t : FlatText). finished (nodes_of c.args.self.now) names t c.args.work.now.left.items) (empty_step names c.args.work.now.text c.in_ok-next.next c.args.at.number c.args.at.next (code_of (nodes_of c.args.self.now) c.args.rest.0) c.in_ok-next.ensures)) (c.lay_one.ensures.lays names)
