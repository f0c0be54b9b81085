use Rattle.std.proofs.Common.{◌∙◌, refl, sym}
use Rattle.wf_mean_stmts.specs.Stages.{vars_on}
use Rattle.wf_mean_stmts.proofs.CopyLemmas.{elements_copied}
use Rattle.wf_mean_stmts.proofs.copying.copy_elements.Goals as goal

pub returns-then-to-from-clause-vars : goal.returns-then-to-from-clause-vars
returns-then-to-from-clause-vars c =
    elements_copied (vars_on c.args.t.now c.args.stage.now) (vars_on c.args.t.now c.copy_up.new.stage) c.args.to c.args.from c.min-n.result (sym c.lies_in_store.ensures ∙ c.if-not-lies_in_store.false) (sym c.all_fit.ensures ∙ c.if-not-all_fit.false)
    (c.min-n.ensures ∙ rw (c.count.ensures, c.elements_len.ensures.len) refl) c.copy_up.ensures.vars

pub returns-else-to-from-clause-vars : goal.returns-else-to-from-clause-vars
returns-else-to-from-clause-vars c =
    elements_copied (vars_on c.args.t.now c.args.stage.now) (vars_on c.args.t.now c.copy_down.new.stage) c.args.to c.args.from c.min-n.result (sym c.lies_in_store.ensures ∙ c.if-not-lies_in_store.false) (sym c.all_fit.ensures ∙ c.if-not-all_fit.false)
    (c.min-n.ensures ∙ rw (c.count.ensures, c.elements_len.ensures.len) refl) c.copy_down.ensures.vars
