-- What statements need, and what they leave.
use Rattle.std.proofs.Common.{◌≡◌, ℕ, zero, suc, ◌+◌, ◌≤◌, Bool, true, false, List, [], ◌∷◌, length, Option, Some, None, refl, sym, ap, ◌∙◌, subst, arith, drop}
use Rattle.std.specs.Prelude.{slice_get, is_some, option_and_then}
use Rattle.c_text.specs.CTree.{ExprTree, LocalTree}
use Rattle.c_meaning.specs.declared.values.CValue.{CValue}
use Rattle.c_meaning.specs.CMemory.{Memory, stored}
use Rattle.c_meaning.specs.CTypes.{Function, CScope}
use Rattle.c_meaning.specs.CStep.{Running, surroundings}
use Rattle.c_meaning.specs.CCall.{Program, scope_in, running, expression_call, call_of, initial_stored, initialized}
use Rattle.c_meaning.specs.Typed.{shape_of}
use Rattle.c_mem.specs.declared.mem.Mem.{Mem}
use Rattle.c_mem.specs.MemoryViews.{memory, HasRoom}
use Rattle.c_step_exprs.specs.declared.instrs.Instr.{Instr}
use Rattle.c_step_exprs.specs.Stacks.{on_stack}
use Rattle.c_step_text.specs.declared.text.Span.{Span}
use Rattle.c_step_text.specs.Flat.{FlatText, code_in}
use Rattle.c_step_text.specs.Acting.{IsNumbered, evaluated}
use Rattle.c_step_text.specs.Numbered.{activation_of, expression_at}
use Rattle.c_step_text.proofs.Values.{value_evaluated}
use Rattle.c_step_frames.specs.Frames.{FrameView}
use Rattle.c_step_run.specs.declared.code.Initial.{Initial}
use Rattle.c_step_run.specs.declared.store.Active.{Active}
use Rattle.c_step_run.specs.declared.store.Store.{Store}
use Rattle.c_step_run.specs.Coding.{CodeView, InitialOf, InitialsOf}
use Rattle.c_step_run.specs.Ready.{RestBelow, CanEval, CanRun, KeepsRoom, KeepsMemory, KeepsShape}
use Rattle.c_step_run.specs.Meaning.{seen_in, OnTrue}
use Rattle.c_step_run.proofs.EvalSteps.{kept_room}
use Rattle.c_step_run.proofs.Shapes.{shape_length}

can_eval : (c : CodeView) (at : Active) (old st : Store) → CanRun c at old → KeepsRoom old st → length (memory st.mem) ≡ length (memory old.mem) → on_stack st.stack ≡ [] → CanEval c at (length c.text.exprs) st
can_eval c at old st h keeps same empty = record {
  function = h.evaluates.function;
  ranked = h.evaluates.ranked;
  arguments = subst (λ (fs : List FrameView). RestBelow at.own fs) (sym keeps.arguments) h.evaluates.arguments;
  objects = keeps.objects at.own h.evaluates.objects;
  values = omega (arith, h.evaluates.values, keeps.values, ap length empty, ap length h.empty);
  last = h.evaluates.last ∙ sym same;
}

can_again : (c : CodeView) (at : Active) (old st : Store) → CanRun c at old → KeepsRoom old st → length (memory st.mem) ≡ length (memory old.mem) → on_stack st.stack ≡ [] → CanRun c at st
can_again c at old st h keeps same empty = record {
  evaluates = can_eval c at old st h keeps same empty;
  frames = subst (λ (fs : List FrameView). RestBelow at.own fs) (sym keeps.frames) h.frames;
  empty = empty;
}

pub can_run : (c : CodeView) (at : Active) (old st : Store) → CanRun c at old → KeepsMemory old st → on_stack st.stack ≡ [] → CanRun c at st
can_run c at old st h keeps empty = can_again c at old st h keeps.room (ap length keeps.same) empty

pub runs_on_shape : (c : CodeView) (at : Active) (old st : Store) → CanRun c at old → KeepsShape old st → CanRun c at st
runs_on_shape c at old st h keeps = can_again c at old st h keeps.room (shape_length (memory old.mem) (memory st.mem) keeps.shape) keeps.empty

-- What a change of memory leaves.
pub stored_keeps : (old mid : Store) (mem : Mem) (b : Bool) → KeepsMemory old mid → on_stack mid.stack ≡ [] → OnTrue b (shape_of (memory mem) ≡ shape_of (memory mid.mem)) → ((more : ℕ) → HasRoom mid.mem more → HasRoom mem more)
    → OnTrue b (KeepsShape old (record mid { mem = mem }))
stored_keeps old mid mem false keeps empty shape room = tt
stored_keeps old mid mem true keeps empty shape room = record {
  room = record { arguments = keeps.room.arguments; frames = keeps.room.frames; objects = λ more h. room more (keeps.room.objects more h); values = keeps.room.values };
  shape = shape ∙ ap shape_of keeps.same;
  empty = empty;
}

pub kept_shape : (a b c : Store) → KeepsShape a b → KeepsShape b c → KeepsShape a c
kept_shape a b c h k = record { room = kept_room a b c h.room k.room; shape = k.shape ∙ h.shape; empty = k.empty }

pub after_memory : (a b c : Store) (r : Bool) → KeepsMemory a b → OnTrue r (KeepsShape b c) → OnTrue r (KeepsShape a c)
after_memory a b c false h k = tt
after_memory a b c true h k = record { room = kept_room a b c h.room k.room; shape = k.shape ∙ ap shape_of h.same; empty = k.empty }

pub nothing_on_top : (stack now : List CValue) (o : Option CValue) → o ≡ slice_get stack 0 → now ≡ drop 1 stack → is_some o ≡ false → now ≡ []
nothing_on_top [] now None e n h = n
nothing_on_top (v ∷ vs) now None e n h = absurd (cc (e))
nothing_on_top stack now (Some v) e n h = absurd (cc (h))

-- The initial value of a local.
pub initial_is : (t : FlatText) (p : Program) (f : Function) (callable : List Function) (frame start field : ℕ) (m : Memory) (span : Span) (e : Option ExprTree)
    → IsNumbered (activation_of p f callable frame start) → InitialOf t (scope_in p f) e (Some span)
    → initial_stored (running p f (expression_call p callable) (call_of p callable) frame) field e m ≡ option_and_then (stored m (record { object = frame; field = field; index = 0 })) (evaluated (seen_in p callable frame m) (code_in t span))
initial_is t p f callable frame start field m span None numbered h = absurd h
initial_is t p f callable frame start field m span (Some x) numbered h =
    ap (option_and_then (stored m (record { object = frame; field = field; index = 0 })))
    (sym (value_evaluated (surroundings (running p f (expression_call p callable) (call_of p callable) frame) m) (λ k given. expression_at p callable k m given) (numbered.values m) x)
    ∙ ap (λ (is : List Instr). evaluated (seen_in p callable frame m) is) (sym h))

-- The locals in order.
pub record LocalAt (t : FlatText) (scope : CScope) (first : ℕ) (locals : List LocalTree) (i : ℕ) (item : Initial) : Type 0 where
  pub it : LocalTree
  pub is : drop i locals ≡ it ∷ drop (i + 1) locals
  pub field : item.field ≡ first + i
  pub initial : InitialOf t scope it.initial item.value

pub local_at : (t : FlatText) (scope : CScope) (first : ℕ) (locals : List LocalTree) (items : List Initial) (i : ℕ) (item : Initial) → InitialsOf t scope first locals items → slice_get items i ≡ Some item → LocalAt t scope first locals i item
local_at t scope first [] [] i item h e = absurd (cc (e))
local_at t scope first [] (x ∷ items) i item h e = absurd h
local_at t scope first (l ∷ locals) [] i item h e = absurd h
local_at t scope first (l ∷ locals) (x ∷ items) zero item h e =
    let s : x ≡ item = cc (e) in
    record { it = l; is = refl; field = subst (λ (y : Initial). y.field ≡ first + 0) s (h.0 ∙ omega arith); initial = subst (λ (y : Initial). InitialOf t scope l.initial y.value) s h.1 }
local_at t scope first (l ∷ locals) (x ∷ items) (suc i) item h e =
    let r : LocalAt t scope (first + 1) locals i item = local_at t scope (first + 1) locals items i item h.2 e in
    let n : suc i + 1 ≡ suc (i + 1) = omega arith in
    record { it = r.it; is = rw n r.is; field = r.field ∙ omega arith; initial = r.initial }

pub no_more : (t : FlatText) (scope : CScope) (first : ℕ) (locals : List LocalTree) (items : List Initial) (i : ℕ) → InitialsOf t scope first locals items → length items ≤ i → drop i locals ≡ []
no_more t scope first [] [] zero h e = refl
no_more t scope first [] [] (suc i) h e = refl
no_more t scope first [] (x ∷ items) i h e = absurd h
no_more t scope first (l ∷ locals) [] i h e = absurd h
no_more t scope first (l ∷ locals) (x ∷ items) zero h e = absurd (omega (arith, e))
no_more t scope first (l ∷ locals) (x ∷ items) (suc i) h e = no_more t scope (first + 1) locals items i h.2 (omega (arith, e))

module _ (r : Running) (first i field : ℕ) (locals : List LocalTree) (m : Memory) (it : LocalTree) (is : drop i locals ≡ it ∷ drop (i + 1) locals) (at : field ≡ first + i) where
  one_initial : initialized r (first + i) (drop i locals) m ≡ option_and_then (initialized r (first + (i + 1)) (drop (i + 1) locals)) (initial_stored r field it.initial m)
  one_initial =
      let n : (first + i) + 1 ≡ first + (i + 1) = omega arith in
      ap (λ (ls : List LocalTree). initialized r (first + i) ls m) is
      ∙ (ap (λ (k : ℕ). option_and_then (initialized r k (drop (i + 1) locals)) (initial_stored r (first + i) it.initial m)) n
      ∙ ap (λ (k : ℕ). option_and_then (initialized r (first + (i + 1)) (drop (i + 1) locals)) (initial_stored r k it.initial m)) (sym at))

  pub initial_goes : (now : Memory) (x : Option Memory) → initial_stored r field it.initial m ≡ Some now → x ≡ initialized r (first + i) (drop i locals) m → x ≡ initialized r (first + (i + 1)) (drop (i + 1) locals) now
  initial_goes now x e h = h ∙ (one_initial ∙ ap (option_and_then (initialized r (first + (i + 1)) (drop (i + 1) locals))) e)

  pub initial_stops : (x : Option Memory) → initial_stored r field it.initial m ≡ None → x ≡ initialized r (first + i) (drop i locals) m → x ≡ None
  initial_stops x e h = h ∙ (one_initial ∙ ap (option_and_then (initialized r (first + (i + 1)) (drop (i + 1) locals))) e)
