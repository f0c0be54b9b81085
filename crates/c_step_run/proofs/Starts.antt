-- The start of a call, and its end.
use Rattle.std.proofs.Common.{◌≡◌, ℕ, ◌+◌, ◌<◌, true, false, List, [], ◌∷◌, ◌++◌, length, Option, Some, None, refl, sym, ap, ◌∙◌, subst, arith, take, drop}
use Rattle.std.specs.Prelude.{slice_get, slice_set, option_map, option_and_then, reverse}
use Rattle.std.proofs.lemmas.List.{length-reverse}
use Rattle.std.proofs.Math.Seq.{take-length}
use Rattle.turns.specs.Run.{Outcome, Got, Lost, run}
use Rattle.c_meaning.specs.declared.values.CValue.{CValue}
use Rattle.c_meaning.specs.CMemory.{Object, Memory}
use Rattle.c_meaning.specs.CTypes.{Function}
use Rattle.c_meaning.specs.CStep.{Returned, Running, state, stop, step, weight}
use Rattle.c_meaning.specs.CCall.{Program, frame_object, expression_call, call_of, running, initialized, body_run, without_frame, started}
use Rattle.c_meaning.specs.Typed.{object_shape, shape_of}
use Rattle.c_mem.specs.MemoryViews.{memory, HasRoom}
use Rattle.c_step_exprs.specs.Stacks.{on_stack, most}
use Rattle.c_step_text.specs.Acting.{Inside, defined}
use Rattle.c_step_text.specs.Numbered.{activation_of}
use Rattle.c_step_text.proofs.Numbers.{begins}
use Rattle.c_step_frames.specs.Frames.{FrameView, passed_cells, unset_cells, call_object, on_top, Enters}
use Rattle.c_step_run.specs.declared.code.Func.{Func}
use Rattle.c_step_run.specs.declared.store.Active.{Active}
use Rattle.c_step_run.specs.declared.store.Store.{Store}
use Rattle.c_step_run.specs.Coding.{CodeView, IsCoded, frame_of}
use Rattle.c_step_run.specs.Ready.{RestBelow, CanRun, CanEnter, KeepsMemory}
use Rattle.c_step_run.specs.Resting.{EndsInCall}
use Rattle.c_step_run.specs.Meaning.{Standing}
use Rattle.c_step_run.proofs.CallSteps.{one_more}
use Rattle.c_step_run.proofs.Objects.{object_alike, too_few, object_shape_is}
use Rattle.c_step_run.proofs.Rooms.{rest_below, rest_fewer, fewer_objects, callee_need}

-- The outcome of a call by what its start comes to.
pub no_frame : (r : Running) (f : Function) (given : List CValue) (m : Memory) (n : ℕ) → frame_object f given ≡ None → started r f given m n ≡ Lost
no_frame r f given m n e = ap (λ (o : Option Object). without_frame (length m) (body_run r f n (option_and_then (λ fields. initialized r (length f.params) f.locals (m ++ fields ∷ [])) o))) e

pub no_initials : (r : Running) (f : Function) (given : List CValue) (m : Memory) (n : ℕ) (object : Object) → frame_object f given ≡ Some object → initialized r (length f.params) f.locals (m ++ object ∷ []) ≡ None → started r f given m n ≡ Lost
no_initials r f given m n object e h =
    ap (λ (o : Option Object). without_frame (length m) (body_run r f n (option_and_then (λ fields. initialized r (length f.params) f.locals (m ++ fields ∷ [])) o))) e
    ∙ ap (λ (o : Option Memory). without_frame (length m) (body_run r f n o)) h

pub starts : (r : Running) (f : Function) (given : List CValue) (m now : Memory) (n : ℕ) (object : Object) → frame_object f given ≡ Some object → initialized r (length f.params) f.locals (m ++ object ∷ []) ≡ Some now
    → started r f given m n ≡ without_frame (length m) (run (step r) weight n (state f.body stop now))
starts r f given m now n object e h =
    ap (λ (o : Option Object). without_frame (length m) (body_run r f n (option_and_then (λ fields. initialized r (length f.params) f.locals (m ++ fields ∷ [])) o))) e
    ∙ ap (λ (o : Option Memory). without_frame (length m) (body_run r f n o)) h

-- The frame of a function that stands in the code.
pub own_frame : (c : CodeView) (frames args : List FrameView) (p : Program) (f : Function) (callable : List Function) (k : ℕ) (v : FrameView) → IsCoded c frames args p f callable → length callable ≡ k → slice_get frames k ≡ Some v → v ≡ frame_of f
own_frame c frames args p f callable k v coded size e = let q : Some v ≡ Some (frame_of f) = sym e ∙ (ap (slice_get frames) (sym size) ∙ coded.frame) in cc (q)

object_of : (f : Function) (v : FrameView) → v ≡ frame_of f → (given : List CValue) → frame_object f given ≡ call_object v.params v.locals given
object_of f v e given = object_alike f given ∙ ap (λ (x : FrameView). call_object x.params x.locals given) (sym e)

all_on_top : (v : FrameView) (stack : List CValue) → length stack ≡ length v.params → on_top (length v.params) stack ≡ reverse stack
all_on_top v stack e = ap (λ (n : ℕ). reverse (take n stack)) (sym e) ∙ ap reverse (take-length stack)

no_object_if : (o : Option (List _)) → o ≡ None → (us : List _) → option_map (λ fields. fields ++ unset_cells us) o ≡ None
no_object_if o e us = ap (option_map (λ fields. fields ++ unset_cells us)) e

pub wrong_length : (f : Function) (v : FrameView) (stack : List CValue) → v ≡ frame_of f → (length stack ≡ length v.params → ⊥) → frame_object f (reverse stack) ≡ None
wrong_length f v stack e h =
    object_of f v e (reverse stack)
    ∙ no_object_if (passed_cells v.params (reverse stack)) (too_few v.params (reverse stack) (λ q. h (sym (length-reverse stack) ∙ sym q))) v.locals

pub entered_none : (f : Function) (v : FrameView) (m now : Memory) (stack left : List CValue) → v ≡ frame_of f → length stack ≡ length v.params → Enters v m stack false now left → frame_object f (reverse stack) ≡ None
entered_none f v m now stack left e n h = object_of f v e (reverse stack) ∙ (ap (call_object v.params v.locals) (sym (all_on_top v stack n)) ∙ h.0)

pub entered_some : (f : Function) (v : FrameView) (m now : Memory) (stack left : List CValue) → v ≡ frame_of f → length stack ≡ length v.params → (h : Enters v m stack true now left) → frame_object f (reverse stack) ≡ Some h.0
entered_some f v m now stack left e n h = object_of f v e (reverse stack) ∙ (ap (call_object v.params v.locals) (sym (all_on_top v stack n)) ∙ h.1)

drop_all : {A : Type 0} (xs : List A) → drop (length xs) xs ≡ []
drop_all [] = refl
drop_all (x ∷ xs) = drop_all xs

pub nothing_left : (v : FrameView) (m now : Memory) (stack left : List CValue) → length stack ≡ length v.params → Enters v m stack true now left → left ≡ []
nothing_left v m now stack left n h = h.3 ∙ (ap (λ (k : ℕ). drop k stack) (sym n) ∙ drop_all stack)

-- The body begins at its number.
pub begins_there : (c : CodeView) (frames args : List FrameView) (p : Program) (f : Function) (callable : List Function) (object n : ℕ) (m : Memory) (coded : IsCoded c frames args p f callable)
    → Standing c.text (activation_of p f callable object coded.func.start) coded.func.entry n m (run (step (running p f (expression_call p callable) (call_of p callable) object)) weight n (state f.body stop m))
begins_there c frames args p f callable object n m coded = record {
  code = f.body;
  continuation = stop;
  inside = subst (λ (k : ℕ). Inside c.text (activation_of p f callable object coded.func.start) k f.body stop) (sym coded.entry) (begins c.text (activation_of p f callable object coded.func.start) (coded.laid object) (coded.numbered object));
  same = refl;
}

-- Memory of a shape ends as that does.
pub record SplitLast (m : Memory) (object : Object) (now : Memory) : Type 0 where
  pub last : Object
  pub is : now ≡ take (length m) now ++ last ∷ []
  pub shape : object_shape last ≡ object_shape object
  pub front : shape_of (take (length m) now) ≡ shape_of m

pub split_last : (m : Memory) (object : Object) (now : Memory) → shape_of now ≡ shape_of (m ++ object ∷ []) → SplitLast m object now
split_last [] object [] e = absurd (cc (e))
split_last [] object (x ∷ []) e = let s : object_shape x ≡ object_shape object = cc (e) in record { last = x; is = refl; shape = s; front = refl }
split_last [] object (x ∷ y ∷ ys) e = absurd (cc (e))
split_last (a ∷ m) object [] e = absurd (cc (e))
split_last (a ∷ m) object (x ∷ xs) e =
    let s : object_shape x ≡ object_shape a = cc (e) in
    let t : shape_of xs ≡ shape_of (m ++ object ∷ []) = cc (e) in
    let r : SplitLast m object xs = split_last m object xs t in
    record { last = r.last; is = ap (λ ys. x ∷ ys) r.is; shape = r.shape; front = ap (λ z. z ∷ shape_of (take (length m) xs)) s ∙ ap (λ zs. object_shape a ∷ zs) r.front }

pub entered_split : (v : FrameView) (m entered now : Memory) (stack left : List CValue) → (h : Enters v m stack true entered left) → shape_of now ≡ shape_of entered → SplitLast m h.0 now
entered_split v m entered now stack left h e = split_last m h.0 now (e ∙ ap shape_of h.2)

pub ends_there : (v : FrameView) (m entered now : Memory) (stack left : List CValue) (frames : List FrameView) (k : ℕ) → (h : Enters v m stack true entered left) → shape_of now ≡ shape_of entered → slice_get frames k ≡ Some (record v { rests = false }) → EndsInCall frames k now
ends_there v m entered now stack left frames k h e at =
    let r : SplitLast m h.0 now = entered_split v m entered now stack left h e in
    (record v { rests = false }, at, record { front = take (length m) now; last = r.last; is = r.is; shape = r.shape ∙ object_shape_is v.params v.locals _ h.0 h.1 })

pub leaves_front : (left : ℕ) (value : Option CValue) (m entered now after : Memory) → take (length m) now ≡ after → without_frame (length m) (Got left (record { memory = now; value = value })) ≡ Got left (record { memory = after; value = value })
leaves_front left value m entered now after e = ap (λ (x : Memory). Got left (record { memory = x; value = value })) e

-- Statements can be run after the entry.
pub can_start : (c : CodeView) (at : Active) (old st : Store) (v : FrameView) → CanEnter c at old → slice_get old.frames.items at.own ≡ Some v → st.args.items ≡ old.args.items → st.frames.items ≡ slice_set old.frames.items at.own (record v { rests = false })
    → ((more : ℕ) → HasRoom old.mem (more + 1) → HasRoom st.mem more) → most st.stack ≡ most old.stack → length (on_stack old.stack) ≡ length v.params
    → Enters v (memory old.mem) (on_stack old.stack) true (memory st.mem) (on_stack st.stack) → CanRun c at st
can_start c at old st v h get same_args new_frames room size n enters =
    let empty : on_stack st.stack ≡ [] = nothing_left v (memory old.mem) (memory st.mem) (on_stack old.stack) (on_stack st.stack) n enters in
    record {
      evaluates = record {
        function = h.within;
        ranked = h.ranked;
        arguments = subst (λ (fs : List FrameView). RestBelow at.own fs) (sym same_args) (rest_fewer (at.own + 1) at.own old.args.items (omega arith) h.arguments);
        objects = room at.own h.objects;
        values = omega (arith, h.values, size, ap length empty);
        last = one_more v (memory old.mem) (memory st.mem) (on_stack old.stack) (on_stack st.stack) at.frame enters h.last;
      };
      frames = subst (λ (fs : List FrameView). RestBelow at.own fs) (sym new_frames) (rest_below (at.own + 1) at.own old.frames.items (record v { rests = false }) (omega arith) h.frames);
      empty = empty;
    }

-- A call in the run of its caller.
pub given_then : (g : Option (List CValue)) (vs : List CValue) (f : List CValue → Outcome Returned) → g ≡ Some vs → defined g f ≡ f vs
given_then g vs f e = ap (λ (o : Option (List CValue)). defined o f) e

-- The function that stands under a number.
pub coded_func : (c : CodeView) (frames args : List FrameView) (p : Program) (f : Function) (callable : List Function) (k : ℕ) (x : Func) (coded : IsCoded c frames args p f callable) → length callable ≡ k → slice_get c.functions k ≡ Some x → coded.func ≡ x
coded_func c frames args p f callable k x coded size e = let q : Some coded.func ≡ Some x = sym coded.is ∙ (ap (slice_get c.functions) size ∙ e) in cc (q)

-- A callee can be entered.
pub can_enter : (c : CodeView) (at callee : Active) (old st : Store) → CanRun c at old → KeepsMemory old st → callee.own < at.own → callee.frame ≡ at.frame + 1 → CanEnter c callee st
can_enter c at callee old st h keeps below e = record {
  within = omega (arith, below, h.evaluates.function);
  ranked = h.evaluates.ranked;
  arguments = subst (λ (fs : List FrameView). RestBelow (callee.own + 1) fs) (sym keeps.room.arguments) (rest_fewer at.own (callee.own + 1) old.args.items (omega (arith, below)) h.evaluates.arguments);
  frames = subst (λ (fs : List FrameView). RestBelow (callee.own + 1) fs) (sym keeps.room.frames) (rest_fewer at.own (callee.own + 1) old.frames.items (omega (arith, below)) h.frames);
  objects = keeps.room.objects (callee.own + 1) (fewer_objects old.mem at.own (callee.own + 1) (omega (arith, below)) h.evaluates.objects);
  values = omega (arith, h.evaluates.values, keeps.room.values, callee_need c callee.own at.own h.evaluates.ranked below h.evaluates.function);
  last = e ∙ (h.evaluates.last ∙ sym (ap length keeps.same));
}
