use Rattle.std.proofs.Common.{◌≡◌, ◌+◌, ◌<◌, true, false, List, length, Some, None, refl, sym, ap, ◌∙◌, subst, arith}
use Rattle.std.specs.Prelude.{slice_get, slice_set}
use Rattle.c_mem.specs.MemoryViews.{memory}
use Rattle.c_step_exprs.specs.declared.instrs.Instr.{Instr}
use Rattle.c_step_exprs.specs.Instrs.{exec}
use Rattle.c_step_exprs.specs.Stacks.{on_stack}
use Rattle.c_step_frames.specs.Frames.{FrameView}
use Rattle.c_step_run.specs.Ready.{RestBelow}
use Rattle.c_step_run.specs.Meaning.{seen_in, called_by_instr}
use Rattle.c_step_run.proofs.CallSteps.{stays_put, comes_back, taken_is, stack_below, one_more, ends_in_call, on_any, room_stays, room_back}
use Rattle.c_step_run.proofs.EvalSteps.{eval_goes, eval_stops, stack_changed, can_call, kept_memory}
use Rattle.c_step_run.proofs.Inlines.{no_call, wrong_count, not_entered, no_value, inline_means}
use Rattle.c_step_run.proofs.Lookups.{found, no_expression, all_same}
use Rattle.c_step_run.proofs.Rooms.{There, there, inner_need, rest_below, others_stay, fewer_objects}
use Rattle.c_step_run.proofs.code.Code.+eval.Goals as goal

pub call_in-returns-then-function-at-clause-means :
    goal.call_in-returns-then-function-at-clause-means
call_in-returns-then-function-at-clause-means t c = λ p callable n coded.
    ap (λ (i : Instr). called_by_instr (seen_in p callable c.args.at.frame (memory c.args.st.now.mem)) i (on_stack c.args.st.now.stack)) c.in-Call.is
    ∙ no_call (seen_in p callable c.args.at.frame (memory c.args.st.now.mem)) c.in-Call.function c.in-Call.count (on_stack c.args.st.now.stack)
    (λ given l. no_expression p callable c.in-Call.function (omega (arith, n)) (memory c.args.st.now.mem) given)

pub call_in-returns-in_default-inline_of-clause-means :
    goal.call_in-returns-in_default-inline_of-clause-means
call_in-returns-in_default-inline_of-clause-means t c = λ p callable n coded.
    let r = found c.args.self.now c.args.st.now.frames.items c.args.st.now.args.items p callable c.in-Call.function (omega (arith, n)) coded in
    let e : slice_get c.args.self.now.functions c.in-Call.function ≡ Some r.coded.func = ap (slice_get c.args.self.now.functions) (sym r.size) ∙ r.coded.is in
    ap (λ (i : Instr). called_by_instr (seen_in p callable c.args.at.frame (memory c.args.st.now.mem)) i (on_stack c.args.st.now.stack)) c.in-Call.is
    ∙ no_value c.args.self.now c.args.st.now.frames.items c.args.st.now.args.items p callable c.in-Call.function r c.args.at.frame c.in-Call.count (memory c.args.st.now.mem) (on_stack c.args.st.now.stack)
    (sym (c.in_default-inline_of.ensures r.coded.func e))

pub call_in-call_inline-requires : goal.call_in-call_inline-requires
call_in-call_inline-requires t c =
    let w : c.in-Call.function < length c.args.self.now.functions = omega (arith, c.requires.ready.function, c.if-function-at.false) in
    let r : There c.args.self.now.functions c.in-Call.function = there c.args.self.now.functions c.in-Call.function w in
    (omega (arith, c.decreases), (c.requires.ready, (omega (arith, c.if-function-at.false), (r.it, r.is, sym (c.in-Some.ensures r.it r.is)))))

pub call_inline-returns-then-count-param_count-clause-means : goal.call_inline-returns-then-count-param_count-clause-means
call_inline-returns-then-count-param_count-clause-means t c = λ p callable n coded.
    let f = c.requires.ready.arguments c.args.callee.0 c.requires.callee in
    let r = found c.args.self.now c.args.st.now.frames.items c.args.st.now.args.items p callable c.args.callee.0 (omega (arith, n, c.requires.callee)) coded in
    wrong_count c.args.self.now c.args.st.now.frames.items c.args.st.now.args.items p callable c.args.callee.0 r f.0 c.args.at.frame c.args.callee.1 (memory c.args.st.now.mem) (on_stack c.args.st.now.stack) f.1
    (λ e. absurd (c.if-count-param_count.true (e ∙ sym (c.param_count.ensures f.0 f.1))))

pub call_inline-returns-then-not-enter_call-clause-keeps : goal.call_inline-returns-then-not-enter_call-clause-keeps
call_inline-returns-then-not-enter_call-clause-keeps t c =
    let f = c.requires.ready.arguments c.args.callee.0 c.requires.callee in
    let h = c.if-not-enter_call.ensures.enters f.0 f.1 in
    record {
      room = record {
        arguments = c.if-not-enter_call.ensures.frames f.0 f.1 ∙ stays_put c.args.st.now.args.items c.args.callee.0 f.0 f.1 f.2;
        frames = refl;
        objects = λ more r. room_stays c.args.st.now.mem c.enter_call.new.mem more c.if-not-enter_call.ensures.stays r;
        values = omega (arith, c.if-not-enter_call.ensures.stack);
      };
      same = h.1;
    }

pub call_inline-returns-then-not-enter_call-clause-means : goal.call_inline-returns-then-not-enter_call-clause-means
call_inline-returns-then-not-enter_call-clause-means t c = λ p callable n coded.
    let f = c.requires.ready.arguments c.args.callee.0 c.requires.callee in
    let r = found c.args.self.now c.args.st.now.frames.items c.args.st.now.args.items p callable c.args.callee.0 (omega (arith, n, c.requires.callee)) coded in
    not_entered c.args.self.now c.args.st.now.frames.items c.args.st.now.args.items p callable c.args.callee.0 r f.0 c.args.at.frame c.args.callee.1 (memory c.args.st.now.mem) (memory c.enter_call.new.mem) (on_stack c.args.st.now.stack) (on_stack c.enter_call.new.stack) f.1
    (c.if-count-param_count.false ∙ c.param_count.ensures f.0 f.1) (c.if-not-enter_call.ensures.enters f.0 f.1)

pub call_inline-returned-given-requires : goal.call_inline-returned-given-requires
call_inline-returned-given-requires t c =
    let f = c.requires.ready.arguments c.args.callee.0 c.requires.callee in
    let h = c.if-not-enter_call.ensures.enters f.0 f.1 in
    let need_less = inner_need c.args.self.now c.args.callee.0 c.args.at.own c.requires.inline.0 c.args.inline c.requires.ready.ranked c.requires.callee c.requires.ready.function c.requires.inline.1 c.requires.inline.2 in (
      omega (arith, c.decreases, c.requires.callee),
      record {
        function = omega (arith, c.requires.callee, c.requires.ready.function);
        ranked = c.requires.ready.ranked;
        arguments = subst (λ (fs : List FrameView). RestBelow c.args.callee.0 fs) (sym (c.if-not-enter_call.ensures.frames f.0 f.1)) (rest_below c.args.at.own c.args.callee.0 c.args.st.now.args.items (record f.0 { rests = false }) (omega (arith, c.requires.callee)) c.requires.ready.arguments);
        objects = c.if-not-enter_call.ensures.room c.args.callee.0 (fewer_objects c.args.st.now.mem c.args.at.own (c.args.callee.0 + 1) (omega (arith, c.requires.callee)) c.requires.ready.objects);
        values = omega (arith, stack_below f.0 (memory c.args.st.now.mem) (memory c.enter_call.new.mem) (on_stack c.args.st.now.stack) (on_stack c.enter_call.new.stack) h, need_less, c.requires.ready.values, c.if-not-enter_call.ensures.stack);
        last = one_more f.0 (memory c.args.st.now.mem) (memory c.enter_call.new.mem) (on_stack c.args.st.now.stack) (on_stack c.enter_call.new.stack) (c.args.at.frame + 1) h c.requires.ready.last;
      },
    )

pub call_inline-leave_call-requires : goal.call_inline-leave_call-requires
call_inline-leave_call-requires t c =
    let f = c.requires.ready.arguments c.args.callee.0 c.requires.callee in
    ends_in_call f.0 (memory c.args.st.now.mem) (memory c.enter_call.new.mem) (memory c.returned-given.new.st.mem) (on_stack c.args.st.now.stack) (on_stack c.enter_call.new.stack) c.returned-given.new.st.args.items c.args.callee.0
    (c.if-not-enter_call.ensures.enters f.0 f.1) c.returned-given.ensures.keeps.same
    (ap (λ (fs : List FrameView). slice_get fs c.args.callee.0) c.returned-given.ensures.keeps.room.arguments ∙ taken_is c.args.st.now.args.items c.enter_call.new.frames.items c.args.callee.0 f.0 f.1 (c.if-not-enter_call.ensures.frames f.0 f.1))

pub call_inline-put_given-requires : goal.call_inline-put_given-requires
call_inline-put_given-requires t c =
    let f = c.requires.ready.arguments c.args.callee.0 c.requires.callee in
    omega (
      arith,
      c.returned-given.ensures.stack,
      c.returned-given.ensures.keeps.room.values,
      c.if-not-enter_call.ensures.stack,
      c.requires.ready.room,
      stack_below f.0 (memory c.args.st.now.mem) (memory c.enter_call.new.mem) (on_stack c.args.st.now.stack) (on_stack c.enter_call.new.stack) (c.if-not-enter_call.ensures.enters f.0 f.1),
    )

pub call_inline-returns-clause-keeps : goal.call_inline-returns-clause-keeps
call_inline-returns-clause-keeps t c =
    let f = c.requires.ready.arguments c.args.callee.0 c.requires.callee in
    let h = c.if-not-enter_call.ensures.enters f.0 f.1 in
    let g = taken_is c.args.st.now.args.items c.enter_call.new.frames.items c.args.callee.0 f.0 f.1 (c.if-not-enter_call.ensures.frames f.0 f.1) in
    let g2 = ap (λ (fs : List FrameView). slice_get fs c.args.callee.0) c.returned-given.ensures.keeps.room.arguments ∙ g in
    record {
      room = record {
        arguments = comes_back c.args.st.now.args.items c.enter_call.new.frames.items c.args.callee.0 f.0 c.leave_call.new.frames.items f.1 f.2 (c.if-not-enter_call.ensures.frames f.0 f.1)
            (c.leave_call.ensures.frames (record f.0 { rests = false }) g2 ∙ ap (λ (fs : List FrameView). slice_set fs c.args.callee.0 (record f.0 { rests = true })) c.returned-given.ensures.keeps.room.arguments);
        frames = c.returned-given.ensures.keeps.room.frames;
        objects = room_back c.args.st.now.mem c.enter_call.new.mem c.returned-given.new.st.mem c.leave_call.new.mem c.if-not-enter_call.ensures.room c.returned-given.ensures.keeps.room.objects c.leave_call.ensures.room
            (fewer_objects c.args.st.now.mem c.args.at.own 1 (omega (arith, c.requires.callee)) c.requires.ready.objects);
        values = omega (arith, c.if-not-enter_call.ensures.stack, c.returned-given.ensures.keeps.room.values, c.put_given.ensures.room);
      };
      same = c.leave_call.ensures.memory (memory c.args.st.now.mem) h.0 (c.returned-given.ensures.keeps.same ∙ h.2);
    }

pub call_inline-returns-clause-puts : goal.call_inline-returns-clause-puts
call_inline-returns-clause-puts t c =
    let f = c.requires.ready.arguments c.args.callee.0 c.requires.callee in
    on_any c.put_given.result
    (omega (arith, c.put_given.ensures.puts, c.returned-given.ensures.stack, stack_below f.0 (memory c.args.st.now.mem) (memory c.enter_call.new.mem) (on_stack c.args.st.now.stack) (on_stack c.enter_call.new.stack) (c.if-not-enter_call.ensures.enters f.0 f.1)))

pub call_inline-returns-clause-means : goal.call_inline-returns-clause-means
call_inline-returns-clause-means t c = λ p callable n coded.
    let f = c.requires.ready.arguments c.args.callee.0 c.requires.callee in
    let h = c.if-not-enter_call.ensures.enters f.0 f.1 in
    let r = found c.args.self.now c.args.st.now.frames.items c.args.st.now.args.items p callable c.args.callee.0 (omega (arith, n, c.requires.callee)) coded in
    let same = all_same c.args.self.now c.args.st.now.frames.items c.args.st.now.args.items p c.args.st.now.frames.items c.enter_call.new.frames.items r.front (λ j l. refl)
    (λ j l. ap (λ (fs : List FrameView). slice_get fs j) (c.if-not-enter_call.ensures.frames f.0 f.1) ∙ others_stay c.args.st.now.args.items c.args.callee.0 j (record f.0 { rests = false }) (omega (arith, l, r.size))) r.others in
    inline_means c.args.self.now c.args.st.now.frames.items c.args.st.now.args.items p callable c.args.callee.0 r f.0 c.requires.inline.0 c.args.inline c.args.at.frame c.args.callee.1 (memory c.args.st.now.mem) (memory c.enter_call.new.mem)
    (on_stack c.args.st.now.stack) (on_stack c.enter_call.new.stack) (on_stack c.returned-given.new.st.stack) (on_stack c.put_given.new.stack) c.returned-given.result c.put_given.result
    f.1 c.requires.inline.1 c.requires.inline.2 c.requires.ready.last (c.if-count-param_count.false ∙ c.param_count.ensures f.0 f.1) h
    (λ v e. c.returned-given.ensures.means p r.front r.size same v e) c.put_given.ensures.means

pub eval-call_at-requires : goal.eval-call_at-requires
eval-call_at-requires t c = (c.in-Call.ensures.stops (λ k given. None)).1

pub eval-call_in-requires : goal.eval-call_in-requires
eval-call_in-requires t c = (
  omega (arith, c.decreases),
  can_call c.args.self.now c.args.at c.args.st.now (record c.loop-call.st { stack = c.run.new.stack }) c.in-Call.call (length c.exprs-code.result.now) (rw c.exprs-code.ensures c.requires.ready)
      (stack_changed c.args.st.now c.loop-call.st c.run.new.stack c.loop-call.invariant.keeps c.in-Call.ensures.room)
      (omega (arith, c.loop-call.invariant.values, c.in-Call.ensures.puts)) c.call_at.ensures.within,
)

pub eval-returns-then-not-call_in-clause-keeps : goal.eval-returns-then-not-call_in-clause-keeps
eval-returns-then-not-call_in-clause-keeps t c =
    kept_memory c.args.st.now (record c.loop-call.st { stack = c.run.new.stack }) c.call_in.new.st (stack_changed c.args.st.now c.loop-call.st c.run.new.stack c.loop-call.invariant.keeps c.in-Call.ensures.room) c.call_in.ensures.keeps

pub eval-returns-then-not-call_in-clause-means : goal.eval-returns-then-not-call_in-clause-means
eval-returns-then-not-call_in-clause-means t c = λ p callable n coded.
    let keeps = c.loop-call.invariant.keeps in
    let now = all_same c.args.self.now c.args.st.now.frames.items c.args.st.now.args.items p c.loop-call.st.frames.items c.loop-call.st.args.items callable
    (λ j l. ap (λ (fs : List FrameView). slice_get fs j) keeps.room.frames) (λ j l. ap (λ (fs : List FrameView). slice_get fs j) keeps.room.arguments) coded in
    ap (λ (is : List Instr). exec (seen_in p callable c.args.at.frame (memory c.args.st.now.mem)) 0 is (on_stack c.args.st.now.stack)) (sym c.exprs-code.ensures)
    ∙ eval_stops p callable c.args.at.frame (memory c.args.st.now.mem) (memory c.loop-call.st.mem) keeps.same c.exprs-code.result.now c.loop-call.from c.in-Call.call c.call_at.result (on_stack c.args.st.now.stack) (on_stack c.loop-call.st.stack) (on_stack c.run.new.stack)
    (c.loop-call.invariant.means p callable n coded) c.in-Call.ensures.stops c.call_at.ensures.is (c.if-not-call_in.ensures.means p callable n now)

pub eval-loop-call-preserved : goal.eval-loop-call-preserved
eval-loop-call-preserved t c =
    let keeps = c.loop-call.invariant.keeps in
    record {
      within = omega (arith, c.call_at.ensures.within);
      keeps = kept_memory c.args.st.now (record c.loop-call.st { stack = c.run.new.stack }) c.call_in.new.st (stack_changed c.args.st.now c.loop-call.st c.run.new.stack keeps c.in-Call.ensures.room) c.call_in.ensures.keeps;
      values = omega (arith, c.loop-call.invariant.values, c.in-Call.ensures.puts, c.if-not-call_in.ensures.puts);
      means = λ p callable n coded. eval_goes p callable c.args.at.frame (memory c.args.st.now.mem) (memory c.loop-call.st.mem) keeps.same c.exprs-code.result.now c.loop-call.from c.in-Call.call c.call_at.result (on_stack c.args.st.now.stack) (on_stack c.loop-call.st.stack) (on_stack c.run.new.stack)
          (c.loop-call.invariant.means p callable n coded) c.in-Call.ensures.stops c.call_at.ensures.is (on_stack c.call_in.new.st.stack)
          (c.if-not-call_in.ensures.means p callable n (all_same c.args.self.now c.args.st.now.frames.items c.args.st.now.args.items p c.loop-call.st.frames.items c.loop-call.st.args.items callable
          (λ j l. ap (λ (fs : List FrameView). slice_get fs j) keeps.room.frames) (λ j l. ap (λ (fs : List FrameView). slice_get fs j) keeps.room.arguments) coded));
    }
