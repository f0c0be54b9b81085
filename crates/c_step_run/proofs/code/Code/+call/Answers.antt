use Rattle.std.proofs.Common.{◌≡◌, ℕ, ◌+◌, ◌-◌, true, false, List, ◌∷◌, length, Option, Some, None, refl, sym, ap, ◌∙◌, subst, arith, take}
use Rattle.std.specs.Prelude.{slice_get, slice_set, slice_range, option_map, reverse}
use Rattle.std.proofs.lemmas.Option.{slice_get_within}
use Rattle.turns.specs.Run.{Outcome, Got, More, Lost, run}
use Rattle.c_meaning.specs.declared.values.CValue.{CValue}
use Rattle.c_meaning.specs.CMemory.{Memory}
use Rattle.c_meaning.specs.CStep.{Returned, state, stop, step, weight}
use Rattle.c_meaning.specs.CCall.{scope_in, running, expression_call, call_of, function_meaning, initialized, started, without_frame}
use Rattle.c_meaning.specs.Typed.{shape_of}
use Rattle.c_mem.specs.MemoryViews.{memory}
use Rattle.c_step_exprs.specs.Stacks.{on_stack}
use Rattle.c_step_text.specs.declared.text.Arm.{Arm}
use Rattle.c_step_text.specs.declared.text.StmtInstr.TheVariants.{Assign, Call, Move, Zero, Goto, Test, Back, Switch, Return, Finish, Stuck}
use Rattle.c_step_text.specs.Flat.{code_in}
use Rattle.c_step_text.specs.Acting.{defined, after_call, kept_by, runs_on, given_by}
use Rattle.c_step_text.specs.Numbered.{activation_of, meaning_at}
use Rattle.c_step_frames.specs.Frames.{FrameView}
use Rattle.c_step_run.specs.declared.code.Func.{Func}
use Rattle.c_step_run.specs.declared.moved.Moved.{Moved}
use Rattle.c_step_run.specs.Coding.{InitialsOf}
use Rattle.c_step_run.specs.Leaps.{switching}
use Rattle.c_step_run.specs.Meaning.{Standing, Advances, LeadsOn, seen_in}
use Rattle.c_step_run.proofs.Advancing.{leap_falls, move_falls, back_falls, test_falls, switch_falls, measure_falls, no_more_turns, no_entry, an_entry}
use Rattle.c_step_run.proofs.CallSteps.{comes_back, taken_is, room_back}
use Rattle.c_step_run.proofs.EvalSteps.{kept_memory}
use Rattle.c_step_run.proofs.Leading.{moves_on, leaps_on, tests_on, no_turn, backs_on, switches_on, calls_on, returns_on, doing_here, nothing_here}
use Rattle.c_step_run.proofs.Lookups.{found, all_same, no_meaning}
use Rattle.c_step_run.proofs.Rooms.{others_stay, fewer_objects}
use Rattle.c_step_run.proofs.RunSteps.{can_run, runs_on_shape, kept_shape, after_memory}
use Rattle.c_step_run.proofs.Starts.{no_frame, no_initials, starts, own_frame, wrong_length, entered_none, entered_some, begins_there, entered_split, ends_there, leaves_front, can_start, given_then, coded_func, can_enter}
use Rattle.c_step_run.proofs.code.Code.+call.Goals as goal

pub act-returns-in_default-clause-means : goal.act-returns-in_default-clause-means
act-returns-in_default-clause-means t c = λ p f callable start total n coded s. nothing_here c.args.self.now.text (activation_of p f callable c.args.at.frame start) total c.args.pc c.args.left (memory c.args.st.now.mem) s c.in_default.ensures

pub act-returns-in-Assign-clause-falls : goal.act-returns-in-Assign-clause-falls
act-returns-in-Assign-clause-falls t c = subst (λ (m : Moved). Advances (length c.args.self.now.text.statements) c.args.pc c.args.left m) (sym c.moves.ensures) (move_falls (length c.args.self.now.text.statements) c.args.pc c.in-Assign.next c.args.left c.assign.result (slice_get_within c.args.self.now.text.statements c.args.pc c.in-Some.i (sym c.in-Some.ensures)))

pub act-returns-in-Assign-clause-means : goal.act-returns-in-Assign-clause-means
act-returns-in-Assign-clause-means t c = λ p f callable start total n coded s.
    let d = doing_here c.args.self.now.text (activation_of p f callable c.args.at.frame start) total c.args.pc c.args.left (memory c.args.st.now.mem) (Assign c.in-Assign.target c.in-Assign.value c.in-Assign.next) s (ap Some (sym c.in-Assign.is) ∙ c.in-Some.ensures) in
    subst (λ (m : Moved). LeadsOn c.args.self.now.text (activation_of p f callable c.args.at.frame start) m (memory c.assign.new.st.mem) total) (sym c.moves.ensures)
    (moves_on c.args.self.now.text (activation_of p f callable c.args.at.frame start) total c.args.pc c.in-Assign.next c.args.left _ d.h (memory c.args.st.now.mem) (memory c.assign.new.st.mem) c.assign.result d.does (c.assign.ensures.means p callable n coded) d.comes)

pub act-returns-in-Move-clause-falls : goal.act-returns-in-Move-clause-falls
act-returns-in-Move-clause-falls t c = subst (λ (m : Moved). Advances (length c.args.self.now.text.statements) c.args.pc c.args.left m) (sym c.moves-in-Move.ensures) (move_falls (length c.args.self.now.text.statements) c.args.pc c.in-Move.next c.args.left c.move_given.result (slice_get_within c.args.self.now.text.statements c.args.pc c.in-Some.i (sym c.in-Some.ensures)))

pub act-returns-in-Move-clause-means : goal.act-returns-in-Move-clause-means
act-returns-in-Move-clause-means t c = λ p f callable start total n coded s.
    let d = doing_here c.args.self.now.text (activation_of p f callable c.args.at.frame start) total c.args.pc c.args.left (memory c.args.st.now.mem) (Move c.in-Move.given c.in-Move.next) s (ap Some (sym c.in-Move.is) ∙ c.in-Some.ensures) in
    subst (λ (m : Moved). LeadsOn c.args.self.now.text (activation_of p f callable c.args.at.frame start) m (memory c.move_given.new.st.mem) total) (sym c.moves-in-Move.ensures)
    (moves_on c.args.self.now.text (activation_of p f callable c.args.at.frame start) total c.args.pc c.in-Move.next c.args.left _ d.h (memory c.args.st.now.mem) (memory c.move_given.new.st.mem) c.move_given.result d.does (c.move_given.ensures.means p callable n coded) d.comes)

pub act-returns-in-Zero-clause-falls : goal.act-returns-in-Zero-clause-falls
act-returns-in-Zero-clause-falls t c = subst (λ (m : Moved). Advances (length c.args.self.now.text.statements) c.args.pc c.args.left m) (sym c.moves-in-Zero.ensures) (move_falls (length c.args.self.now.text.statements) c.args.pc c.in-Zero.next c.args.left c.zero.result (slice_get_within c.args.self.now.text.statements c.args.pc c.in-Some.i (sym c.in-Some.ensures)))

pub act-returns-in-Zero-clause-means : goal.act-returns-in-Zero-clause-means
act-returns-in-Zero-clause-means t c = λ p f callable start total n coded s.
    let d = doing_here c.args.self.now.text (activation_of p f callable c.args.at.frame start) total c.args.pc c.args.left (memory c.args.st.now.mem) (Zero c.in-Zero.pointer c.in-Zero.next) s (ap Some (sym c.in-Zero.is) ∙ c.in-Some.ensures) in
    subst (λ (m : Moved). LeadsOn c.args.self.now.text (activation_of p f callable c.args.at.frame start) m (memory c.zero.new.st.mem) total) (sym c.moves-in-Zero.ensures)
    (moves_on c.args.self.now.text (activation_of p f callable c.args.at.frame start) total c.args.pc c.in-Zero.next c.args.left _ d.h (memory c.args.st.now.mem) (memory c.zero.new.st.mem) c.zero.result d.does (c.zero.ensures.means p callable n coded) d.comes)

pub act-returns-in-Call-clause-falls : goal.act-returns-in-Call-clause-falls
act-returns-in-Call-clause-falls t c = subst (λ (m : Moved). Advances (length c.args.self.now.text.statements) c.args.pc c.args.left m) (sym c.goes_back.ensures) (back_falls (length c.args.self.now.text.statements) c.args.pc c.in-Call.next c.args.left c.call_kept.result (slice_get_within c.args.self.now.text.statements c.args.pc c.in-Some.i (sym c.in-Some.ensures)) c.call_kept.ensures.left)

pub act-returns-in-Call-clause-means : goal.act-returns-in-Call-clause-means
act-returns-in-Call-clause-means t c = λ p f callable start total n coded s.
    let d = doing_here c.args.self.now.text (activation_of p f callable c.args.at.frame start) total c.args.pc c.args.left (memory c.args.st.now.mem) (Call c.in-Call.target c.in-Call.function c.in-Call.given c.in-Call.next) s (ap Some (sym c.in-Call.is) ∙ c.in-Some.ensures) in
    subst (λ (m : Moved). LeadsOn c.args.self.now.text (activation_of p f callable c.args.at.frame start) m (memory c.call_kept.new.st.mem) total) (sym c.goes_back.ensures)
    (calls_on c.args.self.now.text (activation_of p f callable c.args.at.frame start) total c.args.pc c.in-Call.next (memory c.call_kept.new.st.mem) d.does.target c.call_kept.result d.does.later
    (d.comes ∙ (d.does.comes c.args.left (memory c.args.st.now.mem) ∙ c.call_kept.ensures.means p f callable start (λ now m. runs_on d.does.target now m) n coded)))

pub act-returns-in-Goto-clause-falls : goal.act-returns-in-Goto-clause-falls
act-returns-in-Goto-clause-falls t c = subst (λ (m : Moved). Advances (length c.args.self.now.text.statements) c.args.pc c.args.left m) (sym c.leap.ensures) (leap_falls (length c.args.self.now.text.statements) c.args.pc c.in-Goto.next c.args.left c.args.left (slice_get_within c.args.self.now.text.statements c.args.pc c.in-Some.i (sym c.in-Some.ensures)) (omega arith))

pub act-returns-in-Goto-clause-means : goal.act-returns-in-Goto-clause-means
act-returns-in-Goto-clause-means t c = λ p f callable start total n coded s.
    let d = doing_here c.args.self.now.text (activation_of p f callable c.args.at.frame start) total c.args.pc c.args.left (memory c.args.st.now.mem) (Goto c.in-Goto.next) s (ap Some (sym c.in-Goto.is) ∙ c.in-Some.ensures) in
    subst (λ (m : Moved). LeadsOn c.args.self.now.text (activation_of p f callable c.args.at.frame start) m (memory c.args.st.now.mem) total) (sym c.leap.ensures) (leaps_on c.args.self.now.text (activation_of p f callable c.args.at.frame start) total c.args.pc c.in-Goto.next c.args.left d.h (memory c.args.st.now.mem) d.does d.comes)

pub act-returns-in-Test-clause-falls : goal.act-returns-in-Test-clause-falls
act-returns-in-Test-clause-falls t c = subst (λ (m : Moved). Advances (length c.args.self.now.text.statements) c.args.pc c.args.left m) (sym c.tests.ensures) (test_falls (length c.args.self.now.text.statements) c.args.pc c.in-Test.met c.in-Test.unmet c.args.left c.value.result (slice_get_within c.args.self.now.text.statements c.args.pc c.in-Some.i (sym c.in-Some.ensures)))

pub act-returns-in-Test-clause-means : goal.act-returns-in-Test-clause-means
act-returns-in-Test-clause-means t c = λ p f callable start total n coded s.
    let d = doing_here c.args.self.now.text (activation_of p f callable c.args.at.frame start) total c.args.pc c.args.left (memory c.args.st.now.mem) (Test c.in-Test.test c.in-Test.met c.in-Test.unmet) s (ap Some (sym c.in-Test.is) ∙ c.in-Some.ensures) in
    subst (λ (m : Memory). LeadsOn c.args.self.now.text (activation_of p f callable c.args.at.frame start) c.tests.result m total) (sym c.value.ensures.keeps.same)
    (subst (λ (m : Moved). LeadsOn c.args.self.now.text (activation_of p f callable c.args.at.frame start) m (memory c.args.st.now.mem) total) (sym c.tests.ensures)
    (tests_on c.args.self.now.text (activation_of p f callable c.args.at.frame start) total c.args.pc c.in-Test.met c.in-Test.unmet c.args.left c.in-Test.test d.h (memory c.args.st.now.mem) c.value.result d.does (c.value.ensures.means p callable n coded) d.comes))

pub act-returns-then-left-eq0-clause-means : goal.act-returns-then-left-eq0-clause-means
act-returns-then-left-eq0-clause-means t c = λ p f callable start total n coded s.
    let d = doing_here c.args.self.now.text (activation_of p f callable c.args.at.frame start) total c.args.pc c.args.left (memory c.args.st.now.mem) (Back c.in-Back.test c.in-Back.met c.in-Back.unmet) s (ap Some (sym c.in-Back.is) ∙ c.in-Some.ensures) in
    no_turn c.args.self.now.text (activation_of p f callable c.args.at.frame start) total c.in-Back.met c.in-Back.unmet c.args.left c.in-Back.test d.h (memory c.args.st.now.mem) d.does c.if-left-eq0.true d.comes

pub act-returns-else-left-eq0-clause-means : goal.act-returns-else-left-eq0-clause-means
act-returns-else-left-eq0-clause-means t c = λ p f callable start total n coded s.
    let d = doing_here c.args.self.now.text (activation_of p f callable c.args.at.frame start) total c.args.pc c.args.left (memory c.args.st.now.mem) (Back c.in-Back.test c.in-Back.met c.in-Back.unmet) s (ap Some (sym c.in-Back.is) ∙ c.in-Some.ensures) in
    subst (λ (m : Memory). LeadsOn c.args.self.now.text (activation_of p f callable c.args.at.frame start) c.comes_back.result m total) (sym c.value-in-Back.ensures.keeps.same)
    (subst (λ (m : Moved). LeadsOn c.args.self.now.text (activation_of p f callable c.args.at.frame start) m (memory c.args.st.now.mem) total) (sym c.comes_back.ensures)
    (backs_on c.args.self.now.text (activation_of p f callable c.args.at.frame start) total c.in-Back.met c.in-Back.unmet c.args.left (c.args.left - 1) c.in-Back.test d.h (memory c.args.st.now.mem) c.value-in-Back.result d.does (omega arith) (c.value-in-Back.ensures.means p callable n coded) d.comes))

pub act-returns-in-Switch-clause-falls : goal.act-returns-in-Switch-clause-falls
act-returns-in-Switch-clause-falls t c = subst (λ (m : Moved). Advances (length c.args.self.now.text.statements) c.args.pc c.args.left m) (sym c.switches.ensures) (switch_falls (length c.args.self.now.text.statements) c.args.pc c.in-Switch.other c.args.left c.value-in-Switch.result c.arms.result.now (slice_get_within c.args.self.now.text.statements c.args.pc c.in-Some.i (sym c.in-Some.ensures)))

pub act-returns-in-Switch-clause-means : goal.act-returns-in-Switch-clause-means
act-returns-in-Switch-clause-means t c = λ p f callable start total n coded s.
    let d = doing_here c.args.self.now.text (activation_of p f callable c.args.at.frame start) total c.args.pc c.args.left (memory c.args.st.now.mem) (Switch c.in-Switch.on c.in-Switch.arms c.in-Switch.other) s (ap Some (sym c.in-Switch.is) ∙ c.in-Some.ensures) in
    subst (λ (m : Memory). LeadsOn c.args.self.now.text (activation_of p f callable c.args.at.frame start) c.switches.result m total) (sym c.value-in-Switch.ensures.keeps.same)
    (subst (λ (m : Moved). LeadsOn c.args.self.now.text (activation_of p f callable c.args.at.frame start) m (memory c.args.st.now.mem) total) (sym (c.switches.ensures ∙ ap (λ (arms : List Arm). switching c.value-in-Switch.result arms c.args.pc c.in-Switch.other c.args.left) c.arms.ensures))
    (switches_on c.args.self.now.text (activation_of p f callable c.args.at.frame start) total c.args.pc c.in-Switch.other c.args.left c.in-Switch.on c.in-Switch.arms d.h (memory c.args.st.now.mem) c.value-in-Switch.result d.does (c.value-in-Switch.ensures.means p callable n coded) d.comes))

pub act-returns-in-Return-clause-means : goal.act-returns-in-Return-clause-means
act-returns-in-Return-clause-means t c = λ p f callable start total n coded s.
    let d = doing_here c.args.self.now.text (activation_of p f callable c.args.at.frame start) total c.args.pc c.args.left (memory c.args.st.now.mem) (Return c.in-Return.value c.in-Return.ty) s (ap Some (sym c.in-Return.is) ∙ c.in-Some.ensures) in
    subst (λ (m : Memory). LeadsOn c.args.self.now.text (activation_of p f callable c.args.at.frame start) c.returns.result m total) (sym c.value-in-Return.ensures.keeps.same)
    (subst (λ (m : Moved). LeadsOn c.args.self.now.text (activation_of p f callable c.args.at.frame start) m (memory c.args.st.now.mem) total) (sym c.returns.ensures)
    (returns_on c.args.self.now.text (activation_of p f callable c.args.at.frame start) total c.args.left c.in-Return.value c.in-Return.ty d.h (memory c.args.st.now.mem) c.value-in-Return.result d.does (c.value-in-Return.ensures.means p callable n coded) d.comes))

pub act-returns-in-Finish-clause-means : goal.act-returns-in-Finish-clause-means
act-returns-in-Finish-clause-means t c = λ p f callable start total n coded s.
    let d = doing_here c.args.self.now.text (activation_of p f callable c.args.at.frame start) total c.args.pc c.args.left (memory c.args.st.now.mem) (Finish) s (ap Some (sym c.in-Finish.is) ∙ c.in-Some.ensures) in
    d.comes ∙ d.does c.args.left (memory c.args.st.now.mem)

pub act-returns-in-Stuck-clause-means : goal.act-returns-in-Stuck-clause-means
act-returns-in-Stuck-clause-means t c = λ p f callable start total n coded s.
    let d = doing_here c.args.self.now.text (activation_of p f callable c.args.at.frame start) total c.args.pc c.args.left (memory c.args.st.now.mem) (Stuck) s (ap Some (sym c.in-Stuck.is) ∙ c.in-Some.ensures) in
    d.comes ∙ d.does c.args.left (memory c.args.st.now.mem)

pub body-act-requires : goal.body-act-requires
body-act-requires t c = (omega (arith, c.decreases), runs_on_shape c.args.self.now c.args.at c.args.st.now c.loop-to.st c.requires.ready c.loop-to.invariant.keeps)

pub body-loop-to-smaller : goal.body-loop-to-smaller
body-loop-to-smaller t c = measure_falls (length c.args.self.now.text.statements) c.loop-to.pc c.in-Goes.to c.loop-to.left c.in-Goes.now c.in-Goes.ensures.falls

pub body-loop-to-preserved : goal.body-loop-to-preserved
body-loop-to-preserved t c = record {
  fewer = no_more_turns (length c.args.self.now.text.statements) c.loop-to.pc c.in-Goes.to c.loop-to.left c.in-Goes.now c.args.turns c.in-Goes.ensures.falls c.loop-to.invariant.fewer;
  keeps = kept_shape c.args.st.now c.loop-to.st c.act.new.st c.loop-to.invariant.keeps c.in-Goes.ensures.keeps;
  means = λ p f callable start total n coded s. c.in-Goes.ensures.means p f callable start total n (all_same c.args.self.now c.args.st.now.frames.items c.args.st.now.args.items p c.loop-to.st.frames.items c.loop-to.st.args.items callable (λ j l. ap (λ (fs : List FrameView). slice_get fs j) c.loop-to.invariant.keeps.room.frames) (λ j l. ap (λ (fs : List FrameView). slice_get fs j) c.loop-to.invariant.keeps.room.arguments) coded) (c.loop-to.invariant.means p f callable start total n coded s);
}

pub body-returns-in-Ends-clause-keeps : goal.body-returns-in-Ends-clause-keeps
body-returns-in-Ends-clause-keeps t c = kept_shape c.args.st.now c.loop-to.st c.act.new.st c.loop-to.invariant.keeps c.in-Ends.ensures.keeps

pub body-returns-in-Ends-clause-means : goal.body-returns-in-Ends-clause-means
body-returns-in-Ends-clause-means t c = λ p f callable start total n coded s. c.in-Ends.ensures.means p f callable start total n (all_same c.args.self.now c.args.st.now.frames.items c.args.st.now.args.items p c.loop-to.st.frames.items c.loop-to.st.args.items callable (λ j l. ap (λ (fs : List FrameView). slice_get fs j) c.loop-to.invariant.keeps.room.frames) (λ j l. ap (λ (fs : List FrameView). slice_get fs j) c.loop-to.invariant.keeps.room.arguments) coded) (c.loop-to.invariant.means p f callable start total n coded s)

pub body-returns-in-Turns-clause-means : goal.body-returns-in-Turns-clause-means
body-returns-in-Turns-clause-means t c = λ p f callable start total n coded s. c.in-Turns.ensures.means p f callable start total n (all_same c.args.self.now c.args.st.now.frames.items c.args.st.now.args.items p c.loop-to.st.frames.items c.loop-to.st.args.items callable (λ j l. ap (λ (fs : List FrameView). slice_get fs j) c.loop-to.invariant.keeps.room.frames) (λ j l. ap (λ (fs : List FrameView). slice_get fs j) c.loop-to.invariant.keeps.room.arguments) coded) (c.loop-to.invariant.means p f callable start total n coded s)

pub body-returns-in-Undefined-clause-means : goal.body-returns-in-Undefined-clause-means
body-returns-in-Undefined-clause-means t c = λ p f callable start total n coded s. c.in-Undefined.ensures.means p f callable start total n (all_same c.args.self.now c.args.st.now.frames.items c.args.st.now.args.items p c.loop-to.st.frames.items c.loop-to.st.args.items callable (λ j l. ap (λ (fs : List FrameView). slice_get fs j) c.loop-to.invariant.keeps.room.frames) (λ j l. ap (λ (fs : List FrameView). slice_get fs j) c.loop-to.invariant.keeps.room.arguments) coded) (c.loop-to.invariant.means p f callable start total n coded s)

pub call-returns-in-Some-clause-means : goal.call-returns-in-Some-clause-means
call-returns-in-Some-clause-means t c = λ p f callable n coded.
    let q = coded_func c.args.self.now c.args.st.now.frames.items c.args.st.now.args.items p f callable c.args.at.own c.function-f.result coded.0 n c.function-f.ensures in
    an_entry f.linkage c.function-f.result.turn c.args.left c.in-Some.now (started (running p f (expression_call p callable) (call_of p callable) (length (memory c.args.st.now.mem))) f (reverse (on_stack c.args.st.now.stack)) (memory c.args.st.now.mem)) (ap (λ (x : Func). x.turn) (sym q) ∙ coded.0.turn) c.in-Some.ensures
    ∙ c.enter.ensures.means p f callable n c.function-f.ensures coded

pub call-returns-in-None-clause-means : goal.call-returns-in-None-clause-means
call-returns-in-None-clause-means t c = λ p f callable n coded.
    let q = coded_func c.args.self.now c.args.st.now.frames.items c.args.st.now.args.items p f callable c.args.at.own c.function-f.result coded.0 n c.function-f.ensures in
    no_entry f.linkage c.function-f.result.turn c.args.left (started (running p f (expression_call p callable) (call_of p callable) (length (memory c.args.st.now.mem))) f (reverse (on_stack c.args.st.now.stack)) (memory c.args.st.now.mem)) (ap (λ (x : Func). x.turn) (sym q) ∙ coded.0.turn) c.in-None.ensures

pub enter-returns-then-len-param_count-clause-means : goal.enter-returns-then-len-param_count-clause-means
enter-returns-then-len-param_count-clause-means t c = λ p it callable n get coded.
    let v = c.requires.ready.frames c.args.at.own (omega arith) in
    let own = own_frame c.args.self.now c.args.st.now.frames.items c.args.st.now.args.items p it callable c.args.at.own v.0 coded.0 n v.1 in
    subst (λ (k : ℕ). started (running p it (expression_call p callable) (call_of p callable) k) it (reverse (on_stack c.args.st.now.stack)) (memory c.args.st.now.mem) c.args.left ≡ Lost) c.requires.ready.last
    (no_frame (running p it (expression_call p callable) (call_of p callable) c.args.at.frame) it (reverse (on_stack c.args.st.now.stack)) (memory c.args.st.now.mem) c.args.left (wrong_length it v.0 (on_stack c.args.st.now.stack) own (λ q. absurd (c.if-len-param_count.true (c.len.ensures ∙ (q ∙ sym (c.param_count.ensures v.0 v.1)))))))

pub enter-returns-then-not-enter_call-clause-means : goal.enter-returns-then-not-enter_call-clause-means
enter-returns-then-not-enter_call-clause-means t c = λ p it callable n get coded.
    let v = c.requires.ready.frames c.args.at.own (omega arith) in
    let own = own_frame c.args.self.now c.args.st.now.frames.items c.args.st.now.args.items p it callable c.args.at.own v.0 coded.0 n v.1 in
    subst (λ (k : ℕ). started (running p it (expression_call p callable) (call_of p callable) k) it (reverse (on_stack c.args.st.now.stack)) (memory c.args.st.now.mem) c.args.left ≡ Lost) c.requires.ready.last
    (no_frame (running p it (expression_call p callable) (call_of p callable) c.args.at.frame) it (reverse (on_stack c.args.st.now.stack)) (memory c.args.st.now.mem) c.args.left (entered_none it v.0 (memory c.args.st.now.mem) (memory c.enter_call.new.mem) (on_stack c.args.st.now.stack) (on_stack c.enter_call.new.stack) own (sym c.len.ensures ∙ (c.if-len-param_count.false ∙ c.param_count.ensures v.0 v.1)) (c.if-not-enter_call.ensures.enters v.0 v.1)))

pub enter-initialize-requires : goal.enter-initialize-requires
enter-initialize-requires t c =
    let v = c.requires.ready.frames c.args.at.own (omega arith) in
    record { ready = (can_start c.args.self.now c.args.at c.args.st.now (record c.args.st.now { mem = c.enter_call.new.mem; stack = c.enter_call.new.stack; frames = c.enter_call.new.frames }) v.0 c.requires.ready v.1 refl (c.if-not-enter_call.ensures.frames v.0 v.1) c.if-not-enter_call.ensures.room c.if-not-enter_call.ensures.stack (sym c.len.ensures ∙ (c.if-len-param_count.false ∙ c.param_count.ensures v.0 v.1)) (c.if-not-enter_call.ensures.enters v.0 v.1)) }

pub enter-returns-then-not-initialize-clause-means : goal.enter-returns-then-not-initialize-clause-means
enter-returns-then-not-initialize-clause-means t c = λ p it callable n get coded.
    let v = c.requires.ready.frames c.args.at.own (omega arith) in
    let own = own_frame c.args.self.now c.args.st.now.frames.items c.args.st.now.args.items p it callable c.args.at.own v.0 coded.0 n v.1 in
    subst (λ (k : ℕ). started (running p it (expression_call p callable) (call_of p callable) k) it (reverse (on_stack c.args.st.now.stack)) (memory c.args.st.now.mem) c.args.left ≡ Lost) c.requires.ready.last
    (no_initials (running p it (expression_call p callable) (call_of p callable) c.args.at.frame) it (reverse (on_stack c.args.st.now.stack)) (memory c.args.st.now.mem) c.args.left (c.if-not-enter_call.ensures.enters v.0 v.1).0 (entered_some it v.0 (memory c.args.st.now.mem) (memory c.enter_call.new.mem) (on_stack c.args.st.now.stack) (on_stack c.enter_call.new.stack) own (sym c.len.ensures ∙ (c.if-len-param_count.false ∙ c.param_count.ensures v.0 v.1)) (c.if-not-enter_call.ensures.enters v.0 v.1))
    (subst (λ (m : Memory). initialized (running p it (expression_call p callable) (call_of p callable) c.args.at.frame) (length it.params) it.locals m ≡ None) (c.if-not-enter_call.ensures.enters v.0 v.1).2 (c.if-not-initialize.ensures.means p it callable coded.0.func.start (length it.params) it.locals n (all_same c.args.self.now c.args.st.now.frames.items c.args.st.now.args.items p c.enter_call.new.frames.items c.args.st.now.args.items callable (λ j l. ap (λ (fs : List FrameView). slice_get fs j) (c.if-not-enter_call.ensures.frames v.0 v.1) ∙ others_stay c.args.st.now.frames.items c.args.at.own j (record v.0 { rests = false }) (omega (arith, l, n))) (λ j l. refl) coded.1) (coded.0.numbered c.args.at.frame) (subst (λ (x : Func). InitialsOf c.args.self.now.text (scope_in p it) (length it.params) it.locals (slice_range c.args.self.now.initials x.initials.from x.initials.to)) (coded_func c.args.self.now c.args.st.now.frames.items c.args.st.now.args.items p it callable c.args.at.own c.args.f coded.0 n get) coded.0.initials))))

pub enter-body-requires : goal.enter-body-requires
enter-body-requires t c =
    let v = c.requires.ready.frames c.args.at.own (omega arith) in
    (omega (arith, c.decreases), runs_on_shape c.args.self.now c.args.at (record c.args.st.now { mem = c.enter_call.new.mem; stack = c.enter_call.new.stack; frames = c.enter_call.new.frames }) c.initialize.new.st (can_start c.args.self.now c.args.at c.args.st.now (record c.args.st.now { mem = c.enter_call.new.mem; stack = c.enter_call.new.stack; frames = c.enter_call.new.frames }) v.0 c.requires.ready v.1 refl (c.if-not-enter_call.ensures.frames v.0 v.1) c.if-not-enter_call.ensures.room c.if-not-enter_call.ensures.stack (sym c.len.ensures ∙ (c.if-len-param_count.false ∙ c.param_count.ensures v.0 v.1)) (c.if-not-enter_call.ensures.enters v.0 v.1)) c.if-not-initialize.ensures.keeps)

pub enter-leave_call-requires : goal.enter-leave_call-requires
enter-leave_call-requires t c =
    let v = c.requires.ready.frames c.args.at.own (omega arith) in
    ends_there v.0 (memory c.args.st.now.mem) (memory c.enter_call.new.mem) (memory c.body.new.st.mem) (on_stack c.args.st.now.stack) (on_stack c.enter_call.new.stack) c.body.new.st.frames.items c.args.at.own (c.if-not-enter_call.ensures.enters v.0 v.1) (c.in-Got.ensures.keeps.shape ∙ c.if-not-initialize.ensures.keeps.shape) (ap (λ (fs : List FrameView). slice_get fs c.args.at.own) (c.in-Got.ensures.keeps.room.frames ∙ c.if-not-initialize.ensures.keeps.room.frames) ∙ taken_is c.args.st.now.frames.items c.enter_call.new.frames.items c.args.at.own v.0 v.1 (c.if-not-enter_call.ensures.frames v.0 v.1))

pub enter-returns-in-Got-clause-keeps : goal.enter-returns-in-Got-clause-keeps
enter-returns-in-Got-clause-keeps t c =
    let v = c.requires.ready.frames c.args.at.own (omega arith) in
    record {
      room = record {
        arguments = c.in-Got.ensures.keeps.room.arguments ∙ c.if-not-initialize.ensures.keeps.room.arguments;
        frames = comes_back c.args.st.now.frames.items c.enter_call.new.frames.items c.args.at.own v.0 c.leave_call.new.frames.items v.1 v.2 (c.if-not-enter_call.ensures.frames v.0 v.1)
            (c.leave_call.ensures.frames (record v.0 { rests = false }) (ap (λ (fs : List FrameView). slice_get fs c.args.at.own) (c.in-Got.ensures.keeps.room.frames ∙ c.if-not-initialize.ensures.keeps.room.frames) ∙ taken_is c.args.st.now.frames.items c.enter_call.new.frames.items c.args.at.own v.0 v.1 (c.if-not-enter_call.ensures.frames v.0 v.1)) ∙ ap (λ (fs : List FrameView). slice_set fs c.args.at.own (record v.0 { rests = true })) (c.in-Got.ensures.keeps.room.frames ∙ c.if-not-initialize.ensures.keeps.room.frames));
        objects = room_back c.args.st.now.mem c.enter_call.new.mem c.body.new.st.mem c.leave_call.new.mem c.if-not-enter_call.ensures.room (λ k h. c.in-Got.ensures.keeps.room.objects k (c.if-not-initialize.ensures.keeps.room.objects k h)) c.leave_call.ensures.room
            (fewer_objects c.args.st.now.mem (c.args.at.own + 1) 1 (omega arith) c.requires.ready.objects);
        values = omega (arith, c.if-not-enter_call.ensures.stack, c.if-not-initialize.ensures.keeps.room.values, c.in-Got.ensures.keeps.room.values);
      };
      shape = ap shape_of (c.leave_call.ensures.memory (take (length (memory c.args.st.now.mem)) (memory c.body.new.st.mem)) (entered_split v.0 (memory c.args.st.now.mem) (memory c.enter_call.new.mem) (memory c.body.new.st.mem) (on_stack c.args.st.now.stack) (on_stack c.enter_call.new.stack) (c.if-not-enter_call.ensures.enters v.0 v.1) (c.in-Got.ensures.keeps.shape ∙ c.if-not-initialize.ensures.keeps.shape)).last (entered_split v.0 (memory c.args.st.now.mem) (memory c.enter_call.new.mem) (memory c.body.new.st.mem) (on_stack c.args.st.now.stack) (on_stack c.enter_call.new.stack) (c.if-not-enter_call.ensures.enters v.0 v.1) (c.in-Got.ensures.keeps.shape ∙ c.if-not-initialize.ensures.keeps.shape)).is) ∙ (entered_split v.0 (memory c.args.st.now.mem) (memory c.enter_call.new.mem) (memory c.body.new.st.mem) (on_stack c.args.st.now.stack) (on_stack c.enter_call.new.stack) (c.if-not-enter_call.ensures.enters v.0 v.1) (c.in-Got.ensures.keeps.shape ∙ c.if-not-initialize.ensures.keeps.shape)).front;
      empty = c.in-Got.ensures.keeps.empty;
    }

pub enter-returns-in-Got-clause-means : goal.enter-returns-in-Got-clause-means
enter-returns-in-Got-clause-means t c = λ p it callable n get coded.
    let v = c.requires.ready.frames c.args.at.own (omega arith) in
    let own = own_frame c.args.self.now c.args.st.now.frames.items c.args.st.now.args.items p it callable c.args.at.own v.0 coded.0 n v.1 in
    subst (λ (k : ℕ). started (running p it (expression_call p callable) (call_of p callable) k) it (reverse (on_stack c.args.st.now.stack)) (memory c.args.st.now.mem) c.args.left ≡ Got c.in-Got.now (record { memory = memory c.leave_call.new.mem; value = c.in-Got.value })) c.requires.ready.last
    (starts (running p it (expression_call p callable) (call_of p callable) c.args.at.frame) it (reverse (on_stack c.args.st.now.stack)) (memory c.args.st.now.mem) (memory c.initialize.new.st.mem) c.args.left (c.if-not-enter_call.ensures.enters v.0 v.1).0 (entered_some it v.0 (memory c.args.st.now.mem) (memory c.enter_call.new.mem) (on_stack c.args.st.now.stack) (on_stack c.enter_call.new.stack) own (sym c.len.ensures ∙ (c.if-len-param_count.false ∙ c.param_count.ensures v.0 v.1)) (c.if-not-enter_call.ensures.enters v.0 v.1)) (subst (λ (m : Memory). initialized (running p it (expression_call p callable) (call_of p callable) c.args.at.frame) (length it.params) it.locals m ≡ Some (memory c.initialize.new.st.mem)) (c.if-not-enter_call.ensures.enters v.0 v.1).2 (c.if-not-initialize.ensures.means p it callable coded.0.func.start (length it.params) it.locals n (all_same c.args.self.now c.args.st.now.frames.items c.args.st.now.args.items p c.enter_call.new.frames.items c.args.st.now.args.items callable (λ j l. ap (λ (fs : List FrameView). slice_get fs j) (c.if-not-enter_call.ensures.frames v.0 v.1) ∙ others_stay c.args.st.now.frames.items c.args.at.own j (record v.0 { rests = false }) (omega (arith, l, n))) (λ j l. refl) coded.1) (coded.0.numbered c.args.at.frame) (subst (λ (x : Func). InitialsOf c.args.self.now.text (scope_in p it) (length it.params) it.locals (slice_range c.args.self.now.initials x.initials.from x.initials.to)) (coded_func c.args.self.now c.args.st.now.frames.items c.args.st.now.args.items p it callable c.args.at.own c.args.f coded.0 n get) coded.0.initials)))
    ∙ (ap (λ (o : Outcome Returned). without_frame (length (memory c.args.st.now.mem)) o) (c.in-Got.ensures.means p it callable coded.0.func.start (run (step (running p it (expression_call p callable) (call_of p callable) c.args.at.frame)) weight c.args.left (state it.body stop (memory c.initialize.new.st.mem))) n (all_same c.args.self.now c.enter_call.new.frames.items c.args.st.now.args.items p c.initialize.new.st.frames.items c.initialize.new.st.args.items callable (λ j l. ap (λ (fs : List FrameView). slice_get fs j) c.if-not-initialize.ensures.keeps.room.frames) (λ j l. ap (λ (fs : List FrameView). slice_get fs j) c.if-not-initialize.ensures.keeps.room.arguments) (all_same c.args.self.now c.args.st.now.frames.items c.args.st.now.args.items p c.enter_call.new.frames.items c.args.st.now.args.items callable (λ j l. ap (λ (fs : List FrameView). slice_get fs j) (c.if-not-enter_call.ensures.frames v.0 v.1) ∙ others_stay c.args.st.now.frames.items c.args.at.own j (record v.0 { rests = false }) (omega (arith, l, n))) (λ j l. refl) coded.1)) (subst (λ (x : Func). Standing c.args.self.now.text (activation_of p it callable c.args.at.frame coded.0.func.start) x.entry c.args.left (memory c.initialize.new.st.mem) (run (step (running p it (expression_call p callable) (call_of p callable) c.args.at.frame)) weight c.args.left (state it.body stop (memory c.initialize.new.st.mem)))) (coded_func c.args.self.now c.args.st.now.frames.items c.args.st.now.args.items p it callable c.args.at.own c.args.f coded.0 n get) (begins_there c.args.self.now c.args.st.now.frames.items c.args.st.now.args.items p it callable c.args.at.frame c.args.left (memory c.initialize.new.st.mem) coded.0)))
    ∙ leaves_front c.in-Got.now c.in-Got.value (memory c.args.st.now.mem) (memory c.enter_call.new.mem) (memory c.body.new.st.mem) (memory c.leave_call.new.mem) (sym (c.leave_call.ensures.memory (take (length (memory c.args.st.now.mem)) (memory c.body.new.st.mem)) (entered_split v.0 (memory c.args.st.now.mem) (memory c.enter_call.new.mem) (memory c.body.new.st.mem) (on_stack c.args.st.now.stack) (on_stack c.enter_call.new.stack) (c.if-not-enter_call.ensures.enters v.0 v.1) (c.in-Got.ensures.keeps.shape ∙ c.if-not-initialize.ensures.keeps.shape)).last (entered_split v.0 (memory c.args.st.now.mem) (memory c.enter_call.new.mem) (memory c.body.new.st.mem) (on_stack c.args.st.now.stack) (on_stack c.enter_call.new.stack) (c.if-not-enter_call.ensures.enters v.0 v.1) (c.in-Got.ensures.keeps.shape ∙ c.if-not-initialize.ensures.keeps.shape)).is))))

pub enter-returns-in-More-clause-means : goal.enter-returns-in-More-clause-means
enter-returns-in-More-clause-means t c = λ p it callable n get coded.
    let v = c.requires.ready.frames c.args.at.own (omega arith) in
    let own = own_frame c.args.self.now c.args.st.now.frames.items c.args.st.now.args.items p it callable c.args.at.own v.0 coded.0 n v.1 in
    subst (λ (k : ℕ). started (running p it (expression_call p callable) (call_of p callable) k) it (reverse (on_stack c.args.st.now.stack)) (memory c.args.st.now.mem) c.args.left ≡ More) c.requires.ready.last
    (starts (running p it (expression_call p callable) (call_of p callable) c.args.at.frame) it (reverse (on_stack c.args.st.now.stack)) (memory c.args.st.now.mem) (memory c.initialize.new.st.mem) c.args.left (c.if-not-enter_call.ensures.enters v.0 v.1).0 (entered_some it v.0 (memory c.args.st.now.mem) (memory c.enter_call.new.mem) (on_stack c.args.st.now.stack) (on_stack c.enter_call.new.stack) own (sym c.len.ensures ∙ (c.if-len-param_count.false ∙ c.param_count.ensures v.0 v.1)) (c.if-not-enter_call.ensures.enters v.0 v.1)) (subst (λ (m : Memory). initialized (running p it (expression_call p callable) (call_of p callable) c.args.at.frame) (length it.params) it.locals m ≡ Some (memory c.initialize.new.st.mem)) (c.if-not-enter_call.ensures.enters v.0 v.1).2 (c.if-not-initialize.ensures.means p it callable coded.0.func.start (length it.params) it.locals n (all_same c.args.self.now c.args.st.now.frames.items c.args.st.now.args.items p c.enter_call.new.frames.items c.args.st.now.args.items callable (λ j l. ap (λ (fs : List FrameView). slice_get fs j) (c.if-not-enter_call.ensures.frames v.0 v.1) ∙ others_stay c.args.st.now.frames.items c.args.at.own j (record v.0 { rests = false }) (omega (arith, l, n))) (λ j l. refl) coded.1) (coded.0.numbered c.args.at.frame) (subst (λ (x : Func). InitialsOf c.args.self.now.text (scope_in p it) (length it.params) it.locals (slice_range c.args.self.now.initials x.initials.from x.initials.to)) (coded_func c.args.self.now c.args.st.now.frames.items c.args.st.now.args.items p it callable c.args.at.own c.args.f coded.0 n get) coded.0.initials)))
    ∙ (ap (λ (o : Outcome Returned). without_frame (length (memory c.args.st.now.mem)) o) (c.in-More.ensures.means p it callable coded.0.func.start (run (step (running p it (expression_call p callable) (call_of p callable) c.args.at.frame)) weight c.args.left (state it.body stop (memory c.initialize.new.st.mem))) n (all_same c.args.self.now c.enter_call.new.frames.items c.args.st.now.args.items p c.initialize.new.st.frames.items c.initialize.new.st.args.items callable (λ j l. ap (λ (fs : List FrameView). slice_get fs j) c.if-not-initialize.ensures.keeps.room.frames) (λ j l. ap (λ (fs : List FrameView). slice_get fs j) c.if-not-initialize.ensures.keeps.room.arguments) (all_same c.args.self.now c.args.st.now.frames.items c.args.st.now.args.items p c.enter_call.new.frames.items c.args.st.now.args.items callable (λ j l. ap (λ (fs : List FrameView). slice_get fs j) (c.if-not-enter_call.ensures.frames v.0 v.1) ∙ others_stay c.args.st.now.frames.items c.args.at.own j (record v.0 { rests = false }) (omega (arith, l, n))) (λ j l. refl) coded.1)) (subst (λ (x : Func). Standing c.args.self.now.text (activation_of p it callable c.args.at.frame coded.0.func.start) x.entry c.args.left (memory c.initialize.new.st.mem) (run (step (running p it (expression_call p callable) (call_of p callable) c.args.at.frame)) weight c.args.left (state it.body stop (memory c.initialize.new.st.mem)))) (coded_func c.args.self.now c.args.st.now.frames.items c.args.st.now.args.items p it callable c.args.at.own c.args.f coded.0 n get) (begins_there c.args.self.now c.args.st.now.frames.items c.args.st.now.args.items p it callable c.args.at.frame c.args.left (memory c.initialize.new.st.mem) coded.0)))
    ∙ refl))

pub enter-returns-in-Lost-clause-means : goal.enter-returns-in-Lost-clause-means
enter-returns-in-Lost-clause-means t c = λ p it callable n get coded.
    let v = c.requires.ready.frames c.args.at.own (omega arith) in
    let own = own_frame c.args.self.now c.args.st.now.frames.items c.args.st.now.args.items p it callable c.args.at.own v.0 coded.0 n v.1 in
    subst (λ (k : ℕ). started (running p it (expression_call p callable) (call_of p callable) k) it (reverse (on_stack c.args.st.now.stack)) (memory c.args.st.now.mem) c.args.left ≡ Lost) c.requires.ready.last
    (starts (running p it (expression_call p callable) (call_of p callable) c.args.at.frame) it (reverse (on_stack c.args.st.now.stack)) (memory c.args.st.now.mem) (memory c.initialize.new.st.mem) c.args.left (c.if-not-enter_call.ensures.enters v.0 v.1).0 (entered_some it v.0 (memory c.args.st.now.mem) (memory c.enter_call.new.mem) (on_stack c.args.st.now.stack) (on_stack c.enter_call.new.stack) own (sym c.len.ensures ∙ (c.if-len-param_count.false ∙ c.param_count.ensures v.0 v.1)) (c.if-not-enter_call.ensures.enters v.0 v.1)) (subst (λ (m : Memory). initialized (running p it (expression_call p callable) (call_of p callable) c.args.at.frame) (length it.params) it.locals m ≡ Some (memory c.initialize.new.st.mem)) (c.if-not-enter_call.ensures.enters v.0 v.1).2 (c.if-not-initialize.ensures.means p it callable coded.0.func.start (length it.params) it.locals n (all_same c.args.self.now c.args.st.now.frames.items c.args.st.now.args.items p c.enter_call.new.frames.items c.args.st.now.args.items callable (λ j l. ap (λ (fs : List FrameView). slice_get fs j) (c.if-not-enter_call.ensures.frames v.0 v.1) ∙ others_stay c.args.st.now.frames.items c.args.at.own j (record v.0 { rests = false }) (omega (arith, l, n))) (λ j l. refl) coded.1) (coded.0.numbered c.args.at.frame) (subst (λ (x : Func). InitialsOf c.args.self.now.text (scope_in p it) (length it.params) it.locals (slice_range c.args.self.now.initials x.initials.from x.initials.to)) (coded_func c.args.self.now c.args.st.now.frames.items c.args.st.now.args.items p it callable c.args.at.own c.args.f coded.0 n get) coded.0.initials)))
    ∙ (ap (λ (o : Outcome Returned). without_frame (length (memory c.args.st.now.mem)) o) (c.in-Lost.ensures.means p it callable coded.0.func.start (run (step (running p it (expression_call p callable) (call_of p callable) c.args.at.frame)) weight c.args.left (state it.body stop (memory c.initialize.new.st.mem))) n (all_same c.args.self.now c.enter_call.new.frames.items c.args.st.now.args.items p c.initialize.new.st.frames.items c.initialize.new.st.args.items callable (λ j l. ap (λ (fs : List FrameView). slice_get fs j) c.if-not-initialize.ensures.keeps.room.frames) (λ j l. ap (λ (fs : List FrameView). slice_get fs j) c.if-not-initialize.ensures.keeps.room.arguments) (all_same c.args.self.now c.args.st.now.frames.items c.args.st.now.args.items p c.enter_call.new.frames.items c.args.st.now.args.items callable (λ j l. ap (λ (fs : List FrameView). slice_get fs j) (c.if-not-enter_call.ensures.frames v.0 v.1) ∙ others_stay c.args.st.now.frames.items c.args.at.own j (record v.0 { rests = false }) (omega (arith, l, n))) (λ j l. refl) coded.1)) (subst (λ (x : Func). Standing c.args.self.now.text (activation_of p it callable c.args.at.frame coded.0.func.start) x.entry c.args.left (memory c.initialize.new.st.mem) (run (step (running p it (expression_call p callable) (call_of p callable) c.args.at.frame)) weight c.args.left (state it.body stop (memory c.initialize.new.st.mem)))) (coded_func c.args.self.now c.args.st.now.frames.items c.args.st.now.args.items p it callable c.args.at.own c.args.f coded.0 n get) (begins_there c.args.self.now c.args.st.now.frames.items c.args.st.now.args.items p it callable c.args.at.frame c.args.left (memory c.initialize.new.st.mem) coded.0)))
    ∙ refl))

pub call_kept-given-requires : goal.call_kept-given-requires
call_kept-given-requires t c = record { ready = can_run c.args.self.now c.args.at c.args.st.now c.target-before.new.st c.requires.ready c.target-before.ensures.keeps c.target-before.ensures.empty }

pub call_kept-returns-then-stmt-at-clause-means : goal.call_kept-returns-then-stmt-at-clause-means
call_kept-returns-then-stmt-at-clause-means t c = λ p f callable start on n coded.
    given_then (given_by (seen_in p callable c.args.at.frame (memory c.args.st.now.mem)) (code_in c.args.self.now.text c.args.stmt.given)) (reverse (on_stack c.given.new.st.stack)) (λ (values : List CValue). after_call (meaning_at p callable c.args.stmt.function c.args.left values (memory c.args.st.now.mem)) (λ (now : ℕ) (done : Returned). defined (kept_by (activation_of p f callable c.args.at.frame start) (option_map (code_in c.args.self.now.text) c.args.stmt.target) (memory c.args.st.now.mem) done) (on now))) (subst (λ (m : Memory). given_by (seen_in p callable c.args.at.frame m) (code_in c.args.self.now.text c.args.stmt.given) ≡ Some (reverse (on_stack c.given.new.st.stack))) c.target-before.ensures.keeps.same (c.if-not-given.ensures.means p callable n (all_same c.args.self.now c.args.st.now.frames.items c.args.st.now.args.items p c.target-before.new.st.frames.items c.target-before.new.st.args.items callable (λ j l. ap (λ (fs : List FrameView). slice_get fs j) c.target-before.ensures.keeps.room.frames) (λ j l. ap (λ (fs : List FrameView). slice_get fs j) c.target-before.ensures.keeps.room.arguments) coded)))
    ∙ (ap (λ (o : Outcome Returned). after_call o (λ (now : ℕ) (done : Returned). defined (kept_by (activation_of p f callable c.args.at.frame start) (option_map (code_in c.args.self.now.text) c.args.stmt.target) (memory c.args.st.now.mem) done) (on now))) (no_meaning p callable c.args.stmt.function (omega (arith, n)) c.args.left (reverse (on_stack c.given.new.st.stack)) (memory c.args.st.now.mem)))

pub call_kept-call-requires : goal.call_kept-call-requires
call_kept-call-requires t c = (omega (arith, c.decreases, c.if-stmt-at.false), can_enter c.args.self.now c.args.at (record { own = c.args.stmt.function; frame = c.args.at.frame + 1 }) c.args.st.now c.given.new.st c.requires.ready (kept_memory c.args.st.now c.target-before.new.st c.given.new.st c.target-before.ensures.keeps c.given.ensures.keeps) (omega (arith, c.if-stmt-at.false)) refl)

pub call_kept-keep-requires : goal.call_kept-keep-requires
call_kept-keep-requires t c = record { ready = runs_on_shape c.args.self.now c.args.at c.args.st.now c.call.new.st c.requires.ready (after_memory c.args.st.now c.given.new.st c.call.new.st true (kept_memory c.args.st.now c.target-before.new.st c.given.new.st c.target-before.ensures.keeps c.given.ensures.keeps) c.in-Got.ensures.keeps) }

pub call_kept-returns-then-keep-clause-keeps : goal.call_kept-returns-then-keep-clause-keeps
call_kept-returns-then-keep-clause-keeps t c = kept_shape c.args.st.now c.call.new.st c.keep.new.st (after_memory c.args.st.now c.given.new.st c.call.new.st true (kept_memory c.args.st.now c.target-before.new.st c.given.new.st c.target-before.ensures.keeps c.given.ensures.keeps) c.in-Got.ensures.keeps) c.if-keep.ensures.keeps

pub call_kept-returns-then-keep-clause-means : goal.call_kept-returns-then-keep-clause-means
call_kept-returns-then-keep-clause-means t c = λ p f callable start on n coded.
    given_then (given_by (seen_in p callable c.args.at.frame (memory c.args.st.now.mem)) (code_in c.args.self.now.text c.args.stmt.given)) (reverse (on_stack c.given.new.st.stack)) (λ (values : List CValue). after_call (meaning_at p callable c.args.stmt.function c.args.left values (memory c.args.st.now.mem)) (λ (now : ℕ) (done : Returned). defined (kept_by (activation_of p f callable c.args.at.frame start) (option_map (code_in c.args.self.now.text) c.args.stmt.target) (memory c.args.st.now.mem) done) (on now))) (subst (λ (m : Memory). given_by (seen_in p callable c.args.at.frame m) (code_in c.args.self.now.text c.args.stmt.given) ≡ Some (reverse (on_stack c.given.new.st.stack))) c.target-before.ensures.keeps.same (c.if-not-given.ensures.means p callable n (all_same c.args.self.now c.args.st.now.frames.items c.args.st.now.args.items p c.target-before.new.st.frames.items c.target-before.new.st.args.items callable (λ j l. ap (λ (fs : List FrameView). slice_get fs j) c.target-before.ensures.keeps.room.frames) (λ j l. ap (λ (fs : List FrameView). slice_get fs j) c.target-before.ensures.keeps.room.arguments) coded)))
    ∙ (ap (λ (o : Outcome Returned). after_call o (λ (now : ℕ) (done : Returned). defined (kept_by (activation_of p f callable c.args.at.frame start) (option_map (code_in c.args.self.now.text) c.args.stmt.target) (memory c.args.st.now.mem) done) (on now))) ((found c.args.self.now c.args.st.now.frames.items c.args.st.now.args.items p callable c.args.stmt.function (omega (arith, n, c.if-stmt-at.false)) coded).meaning c.args.left (reverse (on_stack c.given.new.st.stack)) (memory c.args.st.now.mem) ∙ (ap (λ (m : Memory). function_meaning p (found c.args.self.now c.args.st.now.frames.items c.args.st.now.args.items p callable c.args.stmt.function (omega (arith, n, c.if-stmt-at.false)) coded).it (expression_call p (found c.args.self.now c.args.st.now.frames.items c.args.st.now.args.items p callable c.args.stmt.function (omega (arith, n, c.if-stmt-at.false)) coded).front) (call_of p (found c.args.self.now c.args.st.now.frames.items c.args.st.now.args.items p callable c.args.stmt.function (omega (arith, n, c.if-stmt-at.false)) coded).front) c.args.left (reverse (on_stack c.given.new.st.stack)) m) (sym (kept_memory c.args.st.now c.target-before.new.st c.given.new.st c.target-before.ensures.keeps c.given.ensures.keeps).same) ∙ c.in-Got.ensures.means p (found c.args.self.now c.args.st.now.frames.items c.args.st.now.args.items p callable c.args.stmt.function (omega (arith, n, c.if-stmt-at.false)) coded).it (found c.args.self.now c.args.st.now.frames.items c.args.st.now.args.items p callable c.args.stmt.function (omega (arith, n, c.if-stmt-at.false)) coded).front (found c.args.self.now c.args.st.now.frames.items c.args.st.now.args.items p callable c.args.stmt.function (omega (arith, n, c.if-stmt-at.false)) coded).size (all_same c.args.self.now c.args.st.now.frames.items c.args.st.now.args.items p c.given.new.st.frames.items c.given.new.st.args.items ((found c.args.self.now c.args.st.now.frames.items c.args.st.now.args.items p callable c.args.stmt.function (omega (arith, n, c.if-stmt-at.false)) coded).it ∷ (found c.args.self.now c.args.st.now.frames.items c.args.st.now.args.items p callable c.args.stmt.function (omega (arith, n, c.if-stmt-at.false)) coded).front) (λ j l. ap (λ (fs : List FrameView). slice_get fs j) (kept_memory c.args.st.now c.target-before.new.st c.given.new.st c.target-before.ensures.keeps c.given.ensures.keeps).room.frames) (λ j l. ap (λ (fs : List FrameView). slice_get fs j) (kept_memory c.args.st.now c.target-before.new.st c.given.new.st c.target-before.ensures.keeps c.given.ensures.keeps).room.arguments) ((found c.args.self.now c.args.st.now.frames.items c.args.st.now.args.items p callable c.args.stmt.function (omega (arith, n, c.if-stmt-at.false)) coded).coded, (found c.args.self.now c.args.st.now.frames.items c.args.st.now.args.items p callable c.args.stmt.function (omega (arith, n, c.if-stmt-at.false)) coded).others)))) ∙ ap (λ (o : Option Memory). defined o (on c.in-Got.now)) (c.if-keep.ensures.means p f callable start (memory c.args.st.now.mem) n (all_same c.args.self.now c.args.st.now.frames.items c.args.st.now.args.items p c.call.new.st.frames.items c.call.new.st.args.items callable (λ j l. ap (λ (fs : List FrameView). slice_get fs j) (after_memory c.args.st.now c.given.new.st c.call.new.st true (kept_memory c.args.st.now c.target-before.new.st c.given.new.st c.target-before.ensures.keeps c.given.ensures.keeps) c.in-Got.ensures.keeps).room.frames) (λ j l. ap (λ (fs : List FrameView). slice_get fs j) (after_memory c.args.st.now c.given.new.st c.call.new.st true (kept_memory c.args.st.now c.target-before.new.st c.given.new.st c.target-before.ensures.keeps c.given.ensures.keeps) c.in-Got.ensures.keeps).room.arguments) coded) (c.target-before.ensures.means p callable n coded)))

pub call_kept-returns-else-keep-clause-means : goal.call_kept-returns-else-keep-clause-means
call_kept-returns-else-keep-clause-means t c = λ p f callable start on n coded.
    given_then (given_by (seen_in p callable c.args.at.frame (memory c.args.st.now.mem)) (code_in c.args.self.now.text c.args.stmt.given)) (reverse (on_stack c.given.new.st.stack)) (λ (values : List CValue). after_call (meaning_at p callable c.args.stmt.function c.args.left values (memory c.args.st.now.mem)) (λ (now : ℕ) (done : Returned). defined (kept_by (activation_of p f callable c.args.at.frame start) (option_map (code_in c.args.self.now.text) c.args.stmt.target) (memory c.args.st.now.mem) done) (on now))) (subst (λ (m : Memory). given_by (seen_in p callable c.args.at.frame m) (code_in c.args.self.now.text c.args.stmt.given) ≡ Some (reverse (on_stack c.given.new.st.stack))) c.target-before.ensures.keeps.same (c.if-not-given.ensures.means p callable n (all_same c.args.self.now c.args.st.now.frames.items c.args.st.now.args.items p c.target-before.new.st.frames.items c.target-before.new.st.args.items callable (λ j l. ap (λ (fs : List FrameView). slice_get fs j) c.target-before.ensures.keeps.room.frames) (λ j l. ap (λ (fs : List FrameView). slice_get fs j) c.target-before.ensures.keeps.room.arguments) coded)))
    ∙ (ap (λ (o : Outcome Returned). after_call o (λ (now : ℕ) (done : Returned). defined (kept_by (activation_of p f callable c.args.at.frame start) (option_map (code_in c.args.self.now.text) c.args.stmt.target) (memory c.args.st.now.mem) done) (on now))) ((found c.args.self.now c.args.st.now.frames.items c.args.st.now.args.items p callable c.args.stmt.function (omega (arith, n, c.if-stmt-at.false)) coded).meaning c.args.left (reverse (on_stack c.given.new.st.stack)) (memory c.args.st.now.mem) ∙ (ap (λ (m : Memory). function_meaning p (found c.args.self.now c.args.st.now.frames.items c.args.st.now.args.items p callable c.args.stmt.function (omega (arith, n, c.if-stmt-at.false)) coded).it (expression_call p (found c.args.self.now c.args.st.now.frames.items c.args.st.now.args.items p callable c.args.stmt.function (omega (arith, n, c.if-stmt-at.false)) coded).front) (call_of p (found c.args.self.now c.args.st.now.frames.items c.args.st.now.args.items p callable c.args.stmt.function (omega (arith, n, c.if-stmt-at.false)) coded).front) c.args.left (reverse (on_stack c.given.new.st.stack)) m) (sym (kept_memory c.args.st.now c.target-before.new.st c.given.new.st c.target-before.ensures.keeps c.given.ensures.keeps).same) ∙ c.in-Got.ensures.means p (found c.args.self.now c.args.st.now.frames.items c.args.st.now.args.items p callable c.args.stmt.function (omega (arith, n, c.if-stmt-at.false)) coded).it (found c.args.self.now c.args.st.now.frames.items c.args.st.now.args.items p callable c.args.stmt.function (omega (arith, n, c.if-stmt-at.false)) coded).front (found c.args.self.now c.args.st.now.frames.items c.args.st.now.args.items p callable c.args.stmt.function (omega (arith, n, c.if-stmt-at.false)) coded).size (all_same c.args.self.now c.args.st.now.frames.items c.args.st.now.args.items p c.given.new.st.frames.items c.given.new.st.args.items ((found c.args.self.now c.args.st.now.frames.items c.args.st.now.args.items p callable c.args.stmt.function (omega (arith, n, c.if-stmt-at.false)) coded).it ∷ (found c.args.self.now c.args.st.now.frames.items c.args.st.now.args.items p callable c.args.stmt.function (omega (arith, n, c.if-stmt-at.false)) coded).front) (λ j l. ap (λ (fs : List FrameView). slice_get fs j) (kept_memory c.args.st.now c.target-before.new.st c.given.new.st c.target-before.ensures.keeps c.given.ensures.keeps).room.frames) (λ j l. ap (λ (fs : List FrameView). slice_get fs j) (kept_memory c.args.st.now c.target-before.new.st c.given.new.st c.target-before.ensures.keeps c.given.ensures.keeps).room.arguments) ((found c.args.self.now c.args.st.now.frames.items c.args.st.now.args.items p callable c.args.stmt.function (omega (arith, n, c.if-stmt-at.false)) coded).coded, (found c.args.self.now c.args.st.now.frames.items c.args.st.now.args.items p callable c.args.stmt.function (omega (arith, n, c.if-stmt-at.false)) coded).others)))) ∙ ap (λ (o : Option Memory). defined o (on c.in-Got.now)) (c.if-keep.ensures.means p f callable start (memory c.args.st.now.mem) n (all_same c.args.self.now c.args.st.now.frames.items c.args.st.now.args.items p c.call.new.st.frames.items c.call.new.st.args.items callable (λ j l. ap (λ (fs : List FrameView). slice_get fs j) (after_memory c.args.st.now c.given.new.st c.call.new.st true (kept_memory c.args.st.now c.target-before.new.st c.given.new.st c.target-before.ensures.keeps c.given.ensures.keeps) c.in-Got.ensures.keeps).room.frames) (λ j l. ap (λ (fs : List FrameView). slice_get fs j) (after_memory c.args.st.now c.given.new.st c.call.new.st true (kept_memory c.args.st.now c.target-before.new.st c.given.new.st c.target-before.ensures.keeps c.given.ensures.keeps) c.in-Got.ensures.keeps).room.arguments) coded) (c.target-before.ensures.means p callable n coded)))

pub call_kept-returns-in-More-clause-means : goal.call_kept-returns-in-More-clause-means
call_kept-returns-in-More-clause-means t c = λ p f callable start on n coded.
    given_then (given_by (seen_in p callable c.args.at.frame (memory c.args.st.now.mem)) (code_in c.args.self.now.text c.args.stmt.given)) (reverse (on_stack c.given.new.st.stack)) (λ (values : List CValue). after_call (meaning_at p callable c.args.stmt.function c.args.left values (memory c.args.st.now.mem)) (λ (now : ℕ) (done : Returned). defined (kept_by (activation_of p f callable c.args.at.frame start) (option_map (code_in c.args.self.now.text) c.args.stmt.target) (memory c.args.st.now.mem) done) (on now))) (subst (λ (m : Memory). given_by (seen_in p callable c.args.at.frame m) (code_in c.args.self.now.text c.args.stmt.given) ≡ Some (reverse (on_stack c.given.new.st.stack))) c.target-before.ensures.keeps.same (c.if-not-given.ensures.means p callable n (all_same c.args.self.now c.args.st.now.frames.items c.args.st.now.args.items p c.target-before.new.st.frames.items c.target-before.new.st.args.items callable (λ j l. ap (λ (fs : List FrameView). slice_get fs j) c.target-before.ensures.keeps.room.frames) (λ j l. ap (λ (fs : List FrameView). slice_get fs j) c.target-before.ensures.keeps.room.arguments) coded)))
    ∙ (ap (λ (o : Outcome Returned). after_call o (λ (now : ℕ) (done : Returned). defined (kept_by (activation_of p f callable c.args.at.frame start) (option_map (code_in c.args.self.now.text) c.args.stmt.target) (memory c.args.st.now.mem) done) (on now))) ((found c.args.self.now c.args.st.now.frames.items c.args.st.now.args.items p callable c.args.stmt.function (omega (arith, n, c.if-stmt-at.false)) coded).meaning c.args.left (reverse (on_stack c.given.new.st.stack)) (memory c.args.st.now.mem) ∙ (ap (λ (m : Memory). function_meaning p (found c.args.self.now c.args.st.now.frames.items c.args.st.now.args.items p callable c.args.stmt.function (omega (arith, n, c.if-stmt-at.false)) coded).it (expression_call p (found c.args.self.now c.args.st.now.frames.items c.args.st.now.args.items p callable c.args.stmt.function (omega (arith, n, c.if-stmt-at.false)) coded).front) (call_of p (found c.args.self.now c.args.st.now.frames.items c.args.st.now.args.items p callable c.args.stmt.function (omega (arith, n, c.if-stmt-at.false)) coded).front) c.args.left (reverse (on_stack c.given.new.st.stack)) m) (sym (kept_memory c.args.st.now c.target-before.new.st c.given.new.st c.target-before.ensures.keeps c.given.ensures.keeps).same) ∙ c.in-More.ensures.means p (found c.args.self.now c.args.st.now.frames.items c.args.st.now.args.items p callable c.args.stmt.function (omega (arith, n, c.if-stmt-at.false)) coded).it (found c.args.self.now c.args.st.now.frames.items c.args.st.now.args.items p callable c.args.stmt.function (omega (arith, n, c.if-stmt-at.false)) coded).front (found c.args.self.now c.args.st.now.frames.items c.args.st.now.args.items p callable c.args.stmt.function (omega (arith, n, c.if-stmt-at.false)) coded).size (all_same c.args.self.now c.args.st.now.frames.items c.args.st.now.args.items p c.given.new.st.frames.items c.given.new.st.args.items ((found c.args.self.now c.args.st.now.frames.items c.args.st.now.args.items p callable c.args.stmt.function (omega (arith, n, c.if-stmt-at.false)) coded).it ∷ (found c.args.self.now c.args.st.now.frames.items c.args.st.now.args.items p callable c.args.stmt.function (omega (arith, n, c.if-stmt-at.false)) coded).front) (λ j l. ap (λ (fs : List FrameView). slice_get fs j) (kept_memory c.args.st.now c.target-before.new.st c.given.new.st c.target-before.ensures.keeps c.given.ensures.keeps).room.frames) (λ j l. ap (λ (fs : List FrameView). slice_get fs j) (kept_memory c.args.st.now c.target-before.new.st c.given.new.st c.target-before.ensures.keeps c.given.ensures.keeps).room.arguments) ((found c.args.self.now c.args.st.now.frames.items c.args.st.now.args.items p callable c.args.stmt.function (omega (arith, n, c.if-stmt-at.false)) coded).coded, (found c.args.self.now c.args.st.now.frames.items c.args.st.now.args.items p callable c.args.stmt.function (omega (arith, n, c.if-stmt-at.false)) coded).others)))))

pub call_kept-returns-in-Lost-clause-means : goal.call_kept-returns-in-Lost-clause-means
call_kept-returns-in-Lost-clause-means t c = λ p f callable start on n coded.
    given_then (given_by (seen_in p callable c.args.at.frame (memory c.args.st.now.mem)) (code_in c.args.self.now.text c.args.stmt.given)) (reverse (on_stack c.given.new.st.stack)) (λ (values : List CValue). after_call (meaning_at p callable c.args.stmt.function c.args.left values (memory c.args.st.now.mem)) (λ (now : ℕ) (done : Returned). defined (kept_by (activation_of p f callable c.args.at.frame start) (option_map (code_in c.args.self.now.text) c.args.stmt.target) (memory c.args.st.now.mem) done) (on now))) (subst (λ (m : Memory). given_by (seen_in p callable c.args.at.frame m) (code_in c.args.self.now.text c.args.stmt.given) ≡ Some (reverse (on_stack c.given.new.st.stack))) c.target-before.ensures.keeps.same (c.if-not-given.ensures.means p callable n (all_same c.args.self.now c.args.st.now.frames.items c.args.st.now.args.items p c.target-before.new.st.frames.items c.target-before.new.st.args.items callable (λ j l. ap (λ (fs : List FrameView). slice_get fs j) c.target-before.ensures.keeps.room.frames) (λ j l. ap (λ (fs : List FrameView). slice_get fs j) c.target-before.ensures.keeps.room.arguments) coded)))
    ∙ (ap (λ (o : Outcome Returned). after_call o (λ (now : ℕ) (done : Returned). defined (kept_by (activation_of p f callable c.args.at.frame start) (option_map (code_in c.args.self.now.text) c.args.stmt.target) (memory c.args.st.now.mem) done) (on now))) ((found c.args.self.now c.args.st.now.frames.items c.args.st.now.args.items p callable c.args.stmt.function (omega (arith, n, c.if-stmt-at.false)) coded).meaning c.args.left (reverse (on_stack c.given.new.st.stack)) (memory c.args.st.now.mem) ∙ (ap (λ (m : Memory). function_meaning p (found c.args.self.now c.args.st.now.frames.items c.args.st.now.args.items p callable c.args.stmt.function (omega (arith, n, c.if-stmt-at.false)) coded).it (expression_call p (found c.args.self.now c.args.st.now.frames.items c.args.st.now.args.items p callable c.args.stmt.function (omega (arith, n, c.if-stmt-at.false)) coded).front) (call_of p (found c.args.self.now c.args.st.now.frames.items c.args.st.now.args.items p callable c.args.stmt.function (omega (arith, n, c.if-stmt-at.false)) coded).front) c.args.left (reverse (on_stack c.given.new.st.stack)) m) (sym (kept_memory c.args.st.now c.target-before.new.st c.given.new.st c.target-before.ensures.keeps c.given.ensures.keeps).same) ∙ c.in-Lost.ensures.means p (found c.args.self.now c.args.st.now.frames.items c.args.st.now.args.items p callable c.args.stmt.function (omega (arith, n, c.if-stmt-at.false)) coded).it (found c.args.self.now c.args.st.now.frames.items c.args.st.now.args.items p callable c.args.stmt.function (omega (arith, n, c.if-stmt-at.false)) coded).front (found c.args.self.now c.args.st.now.frames.items c.args.st.now.args.items p callable c.args.stmt.function (omega (arith, n, c.if-stmt-at.false)) coded).size (all_same c.args.self.now c.args.st.now.frames.items c.args.st.now.args.items p c.given.new.st.frames.items c.given.new.st.args.items ((found c.args.self.now c.args.st.now.frames.items c.args.st.now.args.items p callable c.args.stmt.function (omega (arith, n, c.if-stmt-at.false)) coded).it ∷ (found c.args.self.now c.args.st.now.frames.items c.args.st.now.args.items p callable c.args.stmt.function (omega (arith, n, c.if-stmt-at.false)) coded).front) (λ j l. ap (λ (fs : List FrameView). slice_get fs j) (kept_memory c.args.st.now c.target-before.new.st c.given.new.st c.target-before.ensures.keeps c.given.ensures.keeps).room.frames) (λ j l. ap (λ (fs : List FrameView). slice_get fs j) (kept_memory c.args.st.now c.target-before.new.st c.given.new.st c.target-before.ensures.keeps c.given.ensures.keeps).room.arguments) ((found c.args.self.now c.args.st.now.frames.items c.args.st.now.args.items p callable c.args.stmt.function (omega (arith, n, c.if-stmt-at.false)) coded).coded, (found c.args.self.now c.args.st.now.frames.items c.args.st.now.args.items p callable c.args.stmt.function (omega (arith, n, c.if-stmt-at.false)) coded).others)))))
