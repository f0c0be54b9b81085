use Rattle.std.proofs.Common.{◌+◌, List, None, ap, sym, subst, ◌∙◌}
use Rattle.std.specs.Prelude.{slice_get}
use Rattle.c_text.specs.CTree.{LocalTree}
use Rattle.c_meaning.specs.CCall.{scope_in, running, expression_call, call_of, initialized}
use Rattle.c_mem.proofs.Stored.{found_is}
use Rattle.c_mem.specs.MemoryViews.{memory}
use Rattle.c_step_frames.specs.Frames.{FrameView}
use Rattle.c_step_run.specs.declared.code.Initial.{Initial}
use Rattle.c_step_run.specs.Coding.{InitialsOf}
use Rattle.c_step_run.proofs.Lookups.{all_same}
use Rattle.c_step_run.proofs.RunSteps.{runs_on_shape, kept_shape, local_at, no_more, initial_goes, initial_stops}
use Rattle.c_step_run.proofs.code.Code.initialize.Goals as goal

pub initial-requires : goal.initial-requires
initial-requires c = record { ready = runs_on_shape c.args.self.now c.args.at c.args.st.now c.loop-local.st c.requires.ready c.loop-local.invariant.keeps }

pub returns-then-not-initial-clause-means : goal.returns-then-not-initial-clause-means
returns-then-not-initial-clause-means c = λ p f callable start first locals n coded numbered initials.
    let keeps = c.loop-local.invariant.keeps in
    let items = c.initials-locals.result.now in
    let here = subst (λ (is : List Initial). InitialsOf c.args.self.now.text (scope_in p f) first locals is) (sym c.initials-locals.ensures) initials in
    let now = all_same c.args.self.now c.args.st.now.frames.items c.args.st.now.args.items p c.loop-local.st.frames.items c.loop-local.st.args.items callable
    (λ j l. ap (λ (fs : List FrameView). slice_get fs j) keeps.room.frames) (λ j l. ap (λ (fs : List FrameView). slice_get fs j) keeps.room.arguments) coded in
    let it = local_at c.args.self.now.text (scope_in p f) first locals items c.loop-local.local-index _ here (found_is items c.loop-local.local-index (record { field = 0; value = None }) c.loop-local-test.true) in
    initial_stops (running p f (expression_call p callable) (call_of p callable) c.args.at.frame) first c.loop-local.local-index _ locals (memory c.loop-local.st.mem) it.it it.is it.field _
    (c.if-not-initial.ensures.means p f callable start it.it.initial n now numbered it.initial) (c.loop-local.invariant.means p f callable start first locals n coded numbered here)

pub loop-local-preserved : goal.loop-local-preserved
loop-local-preserved c =
    let keeps = c.loop-local.invariant.keeps in
    let items = c.initials-locals.result.now in
    record {
      keeps = kept_shape c.args.st.now c.loop-local.st c.initial.new.st keeps c.if-not-initial.ensures.keeps;
      means = λ p f callable start first locals n coded numbered here.
          let now = all_same c.args.self.now c.args.st.now.frames.items c.args.st.now.args.items p c.loop-local.st.frames.items c.loop-local.st.args.items callable
          (λ j l. ap (λ (fs : List FrameView). slice_get fs j) keeps.room.frames) (λ j l. ap (λ (fs : List FrameView). slice_get fs j) keeps.room.arguments) coded in
          let it = local_at c.args.self.now.text (scope_in p f) first locals items c.loop-local.local-index _ here (found_is items c.loop-local.local-index (record { field = 0; value = None }) c.loop-local-test.true) in
          initial_goes (running p f (expression_call p callable) (call_of p callable) c.args.at.frame) first c.loop-local.local-index _ locals (memory c.loop-local.st.mem) it.it it.is it.field (memory c.initial.new.st.mem) _
          (c.if-not-initial.ensures.means p f callable start it.it.initial n now numbered it.initial) (c.loop-local.invariant.means p f callable start first locals n coded numbered here);
    }

pub returns-clause-means : goal.returns-clause-means
returns-clause-means c = λ p f callable start first locals n coded numbered initials.
    let here = subst (λ (is : List Initial). InitialsOf c.args.self.now.text (scope_in p f) first locals is) (sym c.initials-locals.ensures) initials in
    c.loop-local.invariant.means p f callable start first locals n coded numbered here
    ∙ ap (λ (ls : List LocalTree). initialized (running p f (expression_call p callable) (call_of p callable) c.args.at.frame) (first + c.loop-local.local-index) ls (memory c.loop-local.st.mem))
    (no_more c.args.self.now.text (scope_in p f) first locals c.initials-locals.result.now c.loop-local.local-index here c.loop-local-test.false)
