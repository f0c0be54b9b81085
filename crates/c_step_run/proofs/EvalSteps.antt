-- The run of an expression's instructions from call to call.
use Rattle.std.proofs.Common.{◌≡◌, ℕ, zero, suc, ◌+◌, ◌<◌, ◌≤◌, true, List, [], ◌∷◌, length, Option, Some, None, refl, sym, ap, ◌∙◌, subst, arith, drop}
use Rattle.std.specs.Prelude.{slice_get, option_map, option_and_then}
use Rattle.std.proofs.lemmas.Option.{slice_get_within}
use Rattle.c_meaning.specs.declared.values.CValue.{CValue}
use Rattle.c_meaning.specs.CMemory.{Memory}
use Rattle.c_step_exprs.specs.declared.instrs.Instr.{Instr}
use Rattle.c_step_exprs.specs.declared.instrs.Instr.TheVariants as does
use Rattle.c_step_exprs.specs.Instrs.{Around, goes_on, step, exec}
use Rattle.c_step_exprs.specs.Running.{run_from, IsCallAt}
use Rattle.c_step_exprs.specs.Values.{is_call, placed}
use Rattle.c_step_exprs.specs.Stacks.{on_stack, most}
use Rattle.c_step_exprs.specs.declared.stack.Stack.{Stack}
use Rattle.c_step_frames.specs.Frames.{FrameView}
use Rattle.c_meaning.specs.CTypes.{Function}
use Rattle.c_meaning.specs.CCall.{Program}
use Rattle.c_step_text.specs.Numbered.{expression_at}
use Rattle.c_step_run.specs.declared.store.Active.{Active}
use Rattle.c_step_run.specs.declared.store.Store.{Store}
use Rattle.c_step_run.specs.Coding.{CodeView}
use Rattle.c_step_run.specs.Ready.{RestBelow, CanEval, CanCall, KeepsRoom, KeepsMemory}
use Rattle.c_step_run.specs.Meaning.{seen_in, called_by_instr}

pub call_within : (code : List Instr) (at : ℕ) → IsCallAt code at → at < length code
call_within code at h = by_found (slice_get code at) refl
  where
    by_found : (o : Option Instr) → slice_get code at ≡ o → at < length code
    by_found None e = absurd (cc (ap (option_map is_call) e, h))
    by_found (Some i) e = slice_get_within code at i e

found_call : (code : List Instr) (at : ℕ) (i : Instr) → slice_get code at ≡ Some i → IsCallAt code at → is_call i ≡ true
found_call code at i e h = let s : option_map is_call (Some i) ≡ Some true = ap (option_map is_call) (sym e) ∙ h in cc (s)

drop_at : (code : List Instr) (at : ℕ) (i : Instr) → slice_get code at ≡ Some i → drop at code ≡ i ∷ drop (at + 1) code
drop_at [] at i e = absurd (cc (e))
drop_at (d ∷ ds) zero i e = let s : d ≡ i = cc (e) in ap (λ x. x ∷ ds) s
drop_at (d ∷ ds) (suc at) i e = let n : suc at + 1 ≡ suc (at + 1) = omega arith in rw n (drop_at ds at i e)

one_step : (a : Around) (code : List Instr) (at : ℕ) (i : Instr) (stack : List CValue) → slice_get code at ≡ Some i
    → run_from a code at stack ≡ option_and_then (λ (next : ℕ × List CValue). exec a next.0 (drop (at + 1) code) next.1) (step a i stack)
one_step a code at i stack h = ap (λ (is : List Instr). exec a 0 is stack) (drop_at code at i h)

-- The step of a call.
called_step : (a : Around) (i : Instr) (stack : List CValue) → is_call i ≡ true → step a i stack ≡ goes_on (called_by_instr a i stack)
called_step a (does.Call function count) stack e = refl
called_step a (does.Put it) stack e = absurd (cc (e))
called_step a (does.Turn it) stack e = absurd (cc (e))
called_step a (does.Join it) stack e = absurd (cc (e))
called_step a (does.Test it count) stack e = absurd (cc (e))
called_step a (does.Skip count) stack e = absurd (cc (e))
called_step a does.Stuck stack e = absurd (cc (e))

call_step : (a : Around) (code : List Instr) (at : ℕ) (i : Instr) (stack : List CValue) → slice_get code at ≡ Some i → IsCallAt code at
    → run_from a code at stack ≡ option_and_then (λ (next : ℕ × List CValue). exec a next.0 (drop (at + 1) code) next.1) (goes_on (called_by_instr a i stack))
call_step a code at i stack e h =
    one_step a code at i stack e
    ∙ ap (option_and_then (λ (next : ℕ × List CValue). exec a next.0 (drop (at + 1) code) next.1)) (called_step a i stack (found_call code at i e h))

-- What is told of the run up to a call.
abbrev pub Told : (frame : ℕ) → Memory → List Instr → (from call : ℕ) → (before after : List CValue) → Type 0
Told frame m code from call before after = (called : ℕ → List CValue → Option CValue) → (run_from (placed frame m called) code from before ≡ run_from (placed frame m called) code call after) × IsCallAt code call

module _ (p : Program) (callable : List Function) (frame : ℕ) (m0 m : Memory) (same : m ≡ m0) (code : List Instr) (from call : ℕ) (i : Instr) (stack0 before after : List CValue)
    (here : exec (seen_in p callable frame m0) 0 code stack0 ≡ run_from (seen_in p callable frame m0) code from before)
    (told : Told frame m code from call before after)
    (is : slice_get code call ≡ Some i)
  where
    up_to : exec (seen_in p callable frame m0) 0 code stack0 ≡ run_from (seen_in p callable frame m0) code call after
    up_to = here ∙ subst (λ (x : Memory). run_from (seen_in p callable frame x) code from before ≡ run_from (seen_in p callable frame x) code call after) same (told (λ k given. expression_at p callable k m given)).0

    a_call : IsCallAt code call
    a_call = (told (λ k given. expression_at p callable k m given)).1

    pub eval_goes : (now : List CValue) → called_by_instr (seen_in p callable frame m) i after ≡ Some now → exec (seen_in p callable frame m0) 0 code stack0 ≡ run_from (seen_in p callable frame m0) code (call + 1) now
    eval_goes now e =
        up_to ∙ (call_step (seen_in p callable frame m0) code call i after is a_call
        ∙ ap (λ (o : Option (List CValue)). option_and_then (λ (next : ℕ × List CValue). exec (seen_in p callable frame m0) next.0 (drop (call + 1) code) next.1) (goes_on o))
        (subst (λ (x : Memory). called_by_instr (seen_in p callable frame x) i after ≡ Some now) same e))

    pub eval_stops : called_by_instr (seen_in p callable frame m) i after ≡ None → exec (seen_in p callable frame m0) 0 code stack0 ≡ None
    eval_stops e =
        up_to ∙ (call_step (seen_in p callable frame m0) code call i after is a_call
        ∙ ap (λ (o : Option (List CValue)). option_and_then (λ (next : ℕ × List CValue). exec (seen_in p callable frame m0) next.0 (drop (call + 1) code) next.1) (goes_on o))
        (subst (λ (x : Memory). called_by_instr (seen_in p callable frame x) i after ≡ None) same e))

pub kept_room : (a b c : Store) → KeepsRoom a b → KeepsRoom b c → KeepsRoom a c
kept_room a b c h k = record {
  arguments = k.arguments ∙ h.arguments;
  frames = k.frames ∙ h.frames;
  objects = λ more r. k.objects more (h.objects more r);
  values = omega (arith, h.values, k.values);
}

pub kept_memory : (a b c : Store) → KeepsMemory a b → KeepsMemory b c → KeepsMemory a c
kept_memory a b c h k = record { room = kept_room a b c h.room k.room; same = k.same ∙ h.same }

pub stack_changed : (old st : Store) (now : Stack) → KeepsMemory old st → most st.stack ≤ most now → KeepsMemory old (record st { stack = now })
stack_changed old st now h k = record {
  room = record { arguments = h.room.arguments; frames = h.room.frames; objects = h.room.objects; values = omega (arith, h.room.values, k) };
  same = h.same;
}

-- A call can be made in an expression.
pub can_call : (c : CodeView) (at : Active) (old st : Store) (k n : ℕ) → CanEval c at n old → KeepsMemory old st → length (on_stack st.stack) ≤ length (on_stack old.stack) + k → k < n → CanCall c at st
can_call c at old st k n h keeps l within = record {
  function = h.function;
  ranked = h.ranked;
  arguments = subst (λ (fs : List FrameView). RestBelow at.own fs) (sym keeps.room.arguments) h.arguments;
  objects = keeps.room.objects at.own h.objects;
  values = omega (arith, h.values, keeps.room.values, l, within);
  room = omega (arith, h.values, keeps.room.values, l, within);
  last = h.last ∙ sym (ap length keeps.same);
}
