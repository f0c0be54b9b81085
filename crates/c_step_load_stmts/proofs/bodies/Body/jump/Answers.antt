use Rattle.std.proofs.Common.{◌≡◌, ap, sym, ◌∙◌}
use Rattle.c_text.specs.CNodes.{code_of, bytes_at}
use Rattle.c_text.specs.CTree.{jump}
use Rattle.c_step_text.specs.Flat.{FlatText}
use Rattle.c_step_text.specs.Emitted.{jump_instr}
use Rattle.c_form_exprs.specs.Tables.{named}
use Rattle.c_step_load_exprs.proofs.CodeLemmas.{on_ok}
use Rattle.c_step_load_stmts.specs.Bodies.{nodes_of, with_code}
use Rattle.c_step_load_stmts.specs.Tasks.{finished}
use Rattle.c_step_load_stmts.proofs.StepLemmas.{jump_step}
use Rattle.c_step_load_stmts.proofs.bodies.Body.jump.Goals.{in-Some, in-None}
use Rattle.c_step_load_stmts.proofs.bodies.Body.jump.Goals as goal

pub returns-clause-lays : goal.returns-clause-lays
returns-clause-lays c = λ names tells.
    let base = c.get.ensures ∙ (ap (named c.args.self.now.labels.now) c.spelt.ensures ∙ tells.labels (bytes_at (nodes_of c.args.self.now).names c.args.label.0)) in
    let it : c.match-get.it ≡ jump_instr (names.labels (bytes_at (nodes_of c.args.self.now).names c.args.label.0)) = elim c.match-get.branch [ in-Some w ↦ w.it-is ∙ ap jump_instr (sym w.in-Some.is ∙ base) | in-None w ↦ w.it-is ∙ ap jump_instr (sym w.in-None.is ∙ base) ] in
    on_ok c.lay_one.result _ (finished (nodes_of c.args.self.now) names c.lay_one.new.work.text c.lay_one.new.work.left.items ≡ finished (nodes_of c.args.self.now) names (with_code names c.args.work.now.text c.args.at.number c.args.at.next (jump (bytes_at (nodes_of c.args.self.now).names c.args.label.0) (code_of (nodes_of c.args.self.now) c.args.rest.0))) c.args.work.now.left.items) (λ h. h ∙ ap (λ (t : FlatText). finished (nodes_of c.args.self.now) names t c.args.work.now.left.items) (jump_step names c.args.work.now.text c.match-get.it c.args.at.number c.args.at.next (code_of (nodes_of c.args.self.now) c.args.rest.0) (bytes_at (nodes_of c.args.self.now).names c.args.label.0) it)) (c.lay_one.ensures.lays names)
