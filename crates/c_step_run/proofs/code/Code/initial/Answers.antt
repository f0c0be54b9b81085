use Rattle.std.proofs.Common.{Option, ap, sym, subst, ◌∙◌}
use Rattle.std.specs.Prelude.{option_and_then}
use Rattle.c_meaning.specs.CMemory.{Memory, stored}
use Rattle.c_meaning.specs.CCall.{scope_in}
use Rattle.c_mem.specs.MemoryViews.{memory}
use Rattle.c_step_text.specs.declared.text.Span.{Span}
use Rattle.c_step_run.specs.Coding.{InitialOf}
use Rattle.c_step_run.specs.Meaning.{Comes}
use Rattle.c_step_run.proofs.RunSteps.{initial_is, stored_keeps}
use Rattle.c_step_run.proofs.code.Code.initial.Goals as goal

pub returns-in_default-value-clause-means : goal.returns-in_default-value-clause-means
returns-in_default-value-clause-means c = λ p f callable start e n coded numbered initial.
    initial_is c.args.self.now.text p f callable c.args.at.frame start c.args.local.field (memory c.args.st.now.mem) c.in-Some.span e numbered (subst (λ (o : Option Span). InitialOf c.args.self.now.text (scope_in p f) e o) c.in-Some.is initial)
    ∙ ap (option_and_then (stored (memory c.args.st.now.mem) (record { object = c.args.at.frame; field = c.args.local.field; index = 0 }))) (sym (c.in_default-value.ensures.means p callable n coded))

pub returns-clause-keeps : goal.returns-clause-keeps
returns-clause-keeps c =
    stored_keeps c.args.st.now c.value.new.st c.assign_to.new.mem c.assign_to.result c.value.ensures.keeps c.value.ensures.empty c.assign_to.ensures.shape c.assign_to.ensures.room

pub returns-clause-means : goal.returns-clause-means
returns-clause-means c = λ p f callable start e n coded numbered initial.
    let is = initial_is c.args.self.now.text p f callable c.args.at.frame start c.args.local.field (memory c.args.st.now.mem) c.in-Some.span e numbered (subst (λ (o : Option Span). InitialOf c.args.self.now.text (scope_in p f) e o) c.in-Some.is initial)
    ∙ ap (option_and_then (stored (memory c.args.st.now.mem) (record { object = c.args.at.frame; field = c.args.local.field; index = 0 }))) (sym (c.in-Some-value.ensures.means p callable n coded)) in
    subst (λ (o : Option Memory). Comes o c.assign_to.result (memory c.assign_to.new.mem)) (sym is)
    (subst (λ (m : Memory). Comes (stored m (record { object = c.args.at.frame; field = c.args.local.field; index = 0 }) c.in-Some-value.v) c.assign_to.result (memory c.assign_to.new.mem)) c.value.ensures.keeps.same c.assign_to.ensures.means)
