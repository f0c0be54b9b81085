use Rattle.std.proofs.Common.{◌≡◌, ap, ◌∙◌}
use Rattle.c_text.specs.CNodes.{expr_of, code_of}
use Rattle.c_text.specs.CTree.{assign}
use Rattle.c_step_text.specs.Flat.{FlatText}
use Rattle.c_step_load_exprs.proofs.CodeLemmas.{on_ok}
use Rattle.c_step_load_stmts.specs.Bodies.{nodes_of, scope_of, with_code}
use Rattle.c_step_load_stmts.specs.Tasks.{finished}
use Rattle.c_step_load_stmts.proofs.StepLemmas.{assign_step}
use Rattle.c_step_load_stmts.proofs.bodies.Body.assign.Goals as goal

pub returns-clause-lays : goal.returns-clause-lays
returns-clause-lays c = λ names tells. on_ok c.lay_one.result _ (finished (nodes_of c.args.self.now) names c.lay_one.new.work.text c.lay_one.new.work.left.items ≡ finished (nodes_of c.args.self.now) names (with_code names c.args.work.now.text c.args.at.number c.args.at.next (assign (expr_of (nodes_of c.args.self.now) c.args.parts.0.0) (expr_of (nodes_of c.args.self.now) c.args.parts.1.0) (code_of (nodes_of c.args.self.now) c.args.rest.0))) c.args.work.now.left.items) (λ h. h ∙ ap (λ (t : FlatText). finished (nodes_of c.args.self.now) names t c.args.work.now.left.items) (assign_step names (scope_of c.args.self.now) c.args.work.now.text c.put_place.new.text c.put_value.new.text c.in_ok-target.target c.in_ok-value.value c.in_ok-next.next c.args.at.number c.args.at.next (code_of (nodes_of c.args.self.now) c.args.rest.0) (expr_of (nodes_of c.args.self.now) c.args.parts.0.0) (expr_of (nodes_of c.args.self.now) c.args.parts.1.0) tells.scope c.in_ok-target.ensures.text c.in_ok-value.ensures.text c.in_ok-target.ensures.span c.in_ok-value.ensures.span c.in_ok-next.ensures)) (c.lay_one.ensures.lays names)
