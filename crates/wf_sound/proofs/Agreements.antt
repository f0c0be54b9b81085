-- How the states before and after a change agree.
use Rattle.std.proofs.Common.{◌≡◌, ℕ, zero, suc, Bool, true, false, ◌||◌, inl, inr, List, [], ◌∷◌, length, Option, Some, None, refl, sym, ap, ◌∙◌, subst, nat_eq, arith}
use Rattle.std.specs.Prelude.{slice_get, option_and_then, option_map, unwrap_or}
use Rattle.std.proofs.lemmas.Bool.Decides.{nat_tests}
use Rattle.std.proofs.lemmas.Option.{slice_get-map}
use Rattle.wf_base.specs.BaseOps.{Buffer}
use Rattle.wf_ast.specs.declared.things.Thing.{Thing}
use Rattle.wf_ast.specs.declared.things.Thing.TheVariants as things
use Rattle.wf_ast.specs.TypedTree.{Path, local, field, arg, ValueTree, io}
use Rattle.wf_ast.specs.Value.{Store, nowhere, host_array, field_array, Span, Value, num, truth_value, status_number, span, buffer, io_buffer}
use Rattle.wf_meaning.specs.SourceState.{Held, held_num, held_truth, held_status, held_cells, held_part}
use Rattle.wf_meaning.specs.World.{World, Body, Vars, updated, with_field, held_at, held_of, value_held, value_at, as_num, as_truth, as_status, as_span, as_buffer, cells_held, cells_at, change_held, with_cells, with_buffer, view, kept_local, kept_locals}
use Rattle.wf_meaning.specs.SourceStep.{state_of, change_buffer}
use Rattle.wf_meaning.proofs.Lists.{updated-other}
use Rattle.wf_base.specs.HostRun.{Host}
use Rattle.wf_meaning.specs.Entry.{text_of_status}
use Rattle.wf_bounds_stmts.specs.Calls.{handed_thing}
use Rattle.wf_ast.specs.WellTyped.{io_handed}
use Rattle.wf_sound.specs.Worlds.{AreApart}
use Rattle.wf_sound.specs.Callees.{LooksTheSame}
use Rattle.wf_sound.proofs.Drops.{any_path, any_slice, AgreeBeside, at_leaving}
use Rattle.wf_sound.proofs.FieldWrites.{same_or_not, held-changed, held-elsewhere}

-- Another number than the one that a thing has.
apart : (m n : ℕ) → (nat_eq m n || false) ≡ false → n ≡ m → ⊥
apart m n h e = by (nat_eq m n) refl h
  where
    by : (t : Bool) → nat_eq m n ≡ t → (t || false) ≡ false → ⊥
    by true i k = cc (k)
    by false i k = absurd (grind (arith, nat_tests, i, e))

-- A local is written.
pub local-agree : (b : Body) (n : ℕ) (v : Value) (vars : Vars) → AgreeBeside (things.Local (record { 0 = n }) ∷ []) (state_of b vars) (state_of b (record vars { locals = updated (λ _. v) n vars.locals }))
local-agree b n v vars = record {
  numbers = λ p h. by as_num p h;
  flags = λ p h. by as_truth p h;
  statuses = λ p h. by as_status p h;
  spans = λ p h. spans p h;
  elements = λ h store. refl;
  buffers = λ a h. refl;
  texts = λ m. refl;
}
  where
    after : List Value
    after = updated (λ _. v) n vars.locals

    locals : {X : Type 0} (f : Value → Option X) (m : ℕ) → (nat_eq n m || false) ≡ false → option_and_then f (slice_get vars.locals m) ≡ option_and_then f (slice_get after m)
    locals f m h = ap (option_and_then f) (sym (updated-other (λ _. v) n m vars.locals (apart n m h)))

    by : {X : Type 0} (f : Value → Option X) (p : Path) → any_path (things.Local (record { 0 = n }) ∷ []) p ≡ false
        → option_and_then f (value_at b vars.locals vars.world p) ≡ option_and_then f (value_at b after vars.world p)
    by f (local m) h = locals f m h
    by f (field m) h = refl
    by f (arg m) h = refl

    spans : (p : Path) → any_slice (things.Local (record { 0 = n }) ∷ []) p ≡ false → option_and_then as_span (value_at b vars.locals vars.world p) ≡ option_and_then as_span (value_at b after vars.world p)
    spans (local m) h = locals as_span m h
    spans (field m) h = refl
    spans (arg m) h = refl

-- A field that holds no array is written.
module _ (b : Body) (n : ℕ) (v : Value) (vars : Vars) where
  abbrev written : World
  written = with_field b.object n (λ _. held_of v) vars.world

  field_at_path : {X : Type 0} (f : Value → Option X) (m : ℕ) → (nat_eq n m || false) ≡ false
      → option_and_then f (option_and_then (value_held b.object m) (held_at vars.world b.object m)) ≡ option_and_then f (option_and_then (value_held b.object m) (held_at written b.object m))
  field_at_path f m h = ap (λ o. option_and_then f (option_and_then (value_held b.object m) o)) (sym (held-elsewhere b.object n (λ _. held_of v) vars.world b.object m (λ i j. apart n m h j)))

  field_path : {X : Type 0} (f : Value → Option X) (p : Path) → any_path (things.Field (record { 0 = n }) ∷ []) p ≡ false
      → option_and_then f (value_at b vars.locals vars.world p) ≡ option_and_then f (value_at b vars.locals written p)
  field_path f (field m) h = field_at_path f m h
  field_path f (local m) h = refl
  field_path f (arg m) h = refl

  field_spans : (p : Path) → any_slice (things.Field (record { 0 = n }) ∷ []) p ≡ false → option_and_then as_span (value_at b vars.locals vars.world p) ≡ option_and_then as_span (value_at b vars.locals written p)
  field_spans (field m) h = field_at_path as_span m h
  field_spans (local m) h = refl
  field_spans (arg m) h = refl

  no_cells : (v : Value) → cells_held (held_of v) ≡ []
  no_cells (num m) = refl
  no_cells (truth_value t) = refl
  no_cells (status_number m) = refl
  no_cells (span s) = refl
  no_cells (buffer k) = refl

  field_cells : (held : Held) → held_at vars.world b.object n ≡ Some held → cells_held held ≡ [] → (store : Store) → cells_at vars.world store ≡ cells_at written store
  field_cells held is none nowhere = refl
  field_cells held is none (host_array a) = refl
  field_cells held is none (field_array o m) = elim (same_or_not o b.object) [
    | inl o_is ↦ elim (same_or_not m n) [
      | inl m_is ↦ here o_is m_is
      | inr m_not ↦ ap (λ x. unwrap_or (option_map cells_held x) []) (sym (held-elsewhere b.object n (λ _. held_of v) vars.world o m (λ i j. m_not j)))
    ]
    | inr o_not ↦ ap (λ x. unwrap_or (option_map cells_held x) []) (sym (held-elsewhere b.object n (λ _. held_of v) vars.world o m (λ i j. o_not i)))
  ]
    where
      here : o ≡ b.object → m ≡ n → unwrap_or (option_map cells_held (held_at vars.world o m)) [] ≡ unwrap_or (option_map cells_held (held_at written o m)) []
      here o_is m_is =
          let P : ℕ → ℕ → Type 0 = λ o m. unwrap_or (option_map cells_held (held_at vars.world o m)) [] ≡ unwrap_or (option_map cells_held (held_at written o m)) [] in
          let there : P b.object n = rw (held-changed b.object n (λ _. held_of v) vars.world, is) (none ∙ sym (no_cells v)) in
          subst (λ m. P o m) (sym m_is) (subst (λ o. P o n) (sym o_is) there)

  pub field-agree : (held : Held) → held_at vars.world b.object n ≡ Some held → cells_held held ≡ [] → AgreeBeside (things.Field (record { 0 = n }) ∷ []) (state_of b vars) (state_of b (record vars { world = written }))
  field-agree held is none = record {
    numbers = λ p h. field_path as_num p h;
    flags = λ p h. field_path as_truth p h;
    statuses = λ p h. field_path as_status p h;
    spans = λ p h. field_spans p h;
    elements = λ h store. field_cells held is none store;
    buffers = λ a h. refl;
    texts = λ m. refl;
  }

-- Elements are written: nothing changes but elements, where the array keeps its length.
module _ (b : Body) (object n : ℕ) (change : List ℕ → List ℕ) (vars : Vars) where
  abbrev celled : World
  celled = with_field object n (change_held change) vars.world

  kept_value : {X : Type 0} (f : Value → Option X) (held : Held) → ((cells : List ℕ) → held ≡ held_cells cells → length (change cells) ≡ length cells)
      → option_and_then f (value_held b.object n held) ≡ option_and_then f (value_held b.object n (change_held change held))
  kept_value f (held_cells cells) h = ap (λ k. f (span (record { store = field_array b.object n; from = 0; count = k }))) (sym (h cells refl))
  kept_value f (held_num m) h = refl
  kept_value f (held_truth m) h = refl
  kept_value f (held_status m) h = refl
  kept_value f (held_part m) h = refl

  same_field : {X : Type 0} (f : Value → Option X) → ((cells : List ℕ) → held_at vars.world object n ≡ Some (held_cells cells) → length (change cells) ≡ length cells) → (m : ℕ)
      → option_and_then f (option_and_then (value_held b.object m) (held_at vars.world b.object m)) ≡ option_and_then f (option_and_then (value_held b.object m) (held_at celled b.object m))
  same_field f kept m = elim (same_or_not b.object object) [
    | inl o_is ↦ elim (same_or_not m n) [
      | inl m_is ↦ here o_is m_is
      | inr m_not ↦ ap (λ o. option_and_then f (option_and_then (value_held b.object m) o)) (sym (held-elsewhere object n (change_held change) vars.world b.object m (λ i j. m_not j)))
    ]
    | inr o_not ↦ ap (λ o. option_and_then f (option_and_then (value_held b.object m) o)) (sym (held-elsewhere object n (change_held change) vars.world b.object m (λ i j. o_not i)))
  ]
    where
      by : (o : Option Held) → held_at vars.world object n ≡ o → option_and_then f (option_and_then (value_held b.object n) o) ≡ option_and_then f (option_and_then (value_held b.object n) (option_map (change_held change) o))
      by None e = refl
      by (Some held) e = kept_value f held (λ cells k. kept cells (e ∙ ap (λ h. Some h) k))

      here : b.object ≡ object → m ≡ n → option_and_then f (option_and_then (value_held b.object m) (held_at vars.world b.object m)) ≡ option_and_then f (option_and_then (value_held b.object m) (held_at celled b.object m))
      here o_is m_is =
          let P : ℕ → ℕ → Type 0 = λ o m. option_and_then f (option_and_then (value_held b.object m) (held_at vars.world o m)) ≡ option_and_then f (option_and_then (value_held b.object m) (held_at celled o m)) in
          let there : P object n = rw (held-changed object n (change_held change) vars.world) (by (held_at vars.world object n) refl) in
          subst (λ m. P b.object m) (sym m_is) (subst (λ o. P o n) (sym o_is) there)

  same_value : {X : Type 0} (f : Value → Option X) → ((cells : List ℕ) → held_at vars.world object n ≡ Some (held_cells cells) → length (change cells) ≡ length cells) → (p : Path)
      → option_and_then f (value_at b vars.locals vars.world p) ≡ option_and_then f (value_at b vars.locals celled p)
  same_value f kept (field m) = same_field f kept m
  same_value f kept (local m) = refl
  same_value f kept (arg m) = refl

  pub cells-agree : ((cells : List ℕ) → held_at vars.world object n ≡ Some (held_cells cells) → length (change cells) ≡ length cells)
      → AgreeBeside (things.Element ∷ []) (state_of b vars) (state_of b (record vars { world = celled }))
  cells-agree kept = record {
    numbers = λ p h. same_value as_num kept p;
    flags = λ p h. same_value as_truth kept p;
    statuses = λ p h. same_value as_status kept p;
    spans = λ p h. same_value as_span kept p;
    elements = λ h store. absurd (cc (h));
    buffers = λ a h. refl;
    texts = λ m. refl;
  }

pub host-cells-agree : (b : Body) (a : ℕ) (change : List ℕ → List ℕ) (vars : Vars) → AgreeBeside (things.Element ∷ []) (state_of b vars) (state_of b (record vars { world = with_cells (host_array a) change vars.world }))
host-cells-agree b a change vars = record {
  numbers = λ p h. same as_num p;
  flags = λ p h. same as_truth p;
  statuses = λ p h. same as_status p;
  spans = λ p h. same as_span p;
  elements = λ h store. absurd (cc (h));
  buffers = λ k h. refl;
  texts = λ m. refl;
}
  where
    same : {X : Type 0} (f : Value → Option X) (p : Path) → option_and_then f (value_at b vars.locals vars.world p) ≡ option_and_then f (value_at b vars.locals (with_cells (host_array a) change vars.world) p)
    same f (local m) = refl
    same f (field m) = refl
    same f (arg m) = refl

-- A buffer is changed, which one argument alone names.
pub buffer-agree : (b : Body) (a k : ℕ) (change : Buffer → Buffer) (vars : Vars) → AreApart b.args → slice_get b.args a ≡ Some (buffer k)
    → AgreeBeside (things.Arg (record { 0 = a }) ∷ []) (state_of b vars) (state_of b (change_buffer k change vars))
buffer-agree b a k change vars sole is = record {
  numbers = λ p h. same as_num p;
  flags = λ p h. same as_truth p;
  statuses = λ p h. same as_status p;
  spans = λ p h. same as_span p;
  elements = λ h store. cells store;
  buffers = λ other h. others other (apart a other h);
  texts = λ m. refl;
}
  where
    after : World
    after = with_buffer k change vars.world

    same : {X : Type 0} (f : Value → Option X) (p : Path) → option_and_then f (value_at b vars.locals vars.world p) ≡ option_and_then f (value_at b vars.locals after p)
    same f (local m) = refl
    same f (field m) = refl
    same f (arg m) = refl

    cells : (store : Store) → cells_at vars.world store ≡ cells_at after store
    cells nowhere = refl
    cells (host_array i) = refl
    cells (field_array o n) = refl

    named : (v : Option Value) (j : ℕ) → option_and_then as_buffer v ≡ Some j → v ≡ Some (buffer j)
    named None j e = absurd (cc (e))
    named (Some (buffer i)) j e = cc (e)
    named (Some v) j e = absurd (cc (e))

    others : (other : ℕ) → (other ≡ a → ⊥) → io_buffer (state_of b vars) other ≡ io_buffer (state_of b (change_buffer k change vars)) other
    others other not_a = by (option_and_then as_buffer (slice_get b.args other)) refl
      where
        by : (o : Option ℕ) → option_and_then as_buffer (slice_get b.args other) ≡ o
            → option_and_then (λ j. slice_get vars.world.host.buffers j) (option_and_then as_buffer (slice_get b.args other))
            ≡ option_and_then (λ j. slice_get after.host.buffers j) (option_and_then as_buffer (slice_get b.args other))
        by None e = rw e refl
        by (Some j) e =
            let not_k : j ≡ k → ⊥ = λ same. not_a (sole.buffers other a k (named (slice_get b.args other) j e ∙ ap (λ j. Some (buffer j)) same) is) in
            rw e (sym (updated-other change k j vars.world.host.buffers not_k))

-- A method is left, or a marked method has been called: nothing need be as it was but the numbers, flags and statuses in locals.
pub record KeepsPlain (locals after : List Value) : Type 0 where
  pub numbers : (m : ℕ) → option_and_then as_num (slice_get locals m) ≡ option_and_then as_num (slice_get after m)
  pub truths : (m : ℕ) → option_and_then as_truth (slice_get locals m) ≡ option_and_then as_truth (slice_get after m)
  pub states : (m : ℕ) → option_and_then as_status (slice_get locals m) ≡ option_and_then as_status (slice_get after m)

leaving-agree : (b : Body) (object : ℕ) (args locals after : List Value) (w w' : World) → KeepsPlain locals after → AgreeBeside at_leaving (view b locals w) (view (record b { object = object; args = args }) after w')
leaving-agree b object args locals after w w' same = record {
  numbers = λ p h. by as_num same.numbers p h;
  flags = λ p h. by as_truth same.truths p h;
  statuses = λ p h. by as_status same.states p h;
  spans = λ p h. spans p h;
  elements = λ h store. absurd (cc (h));
  buffers = λ a h. absurd (cc (h));
  texts = λ m. refl;
}
  where
    by : {X : Type 0} (f : Value → Option X) → ((m : ℕ) → option_and_then f (slice_get locals m) ≡ option_and_then f (slice_get after m)) → (p : Path) → any_path at_leaving p ≡ false
        → option_and_then f (value_at b locals w p) ≡ option_and_then f (value_at (record b { object = object; args = args }) after w' p)
    by f same (local m) h = same m
    by f same (field m) h = absurd (cc (h))
    by f same (arg m) h = absurd (cc (h))

    spans : (p : Path) → any_slice at_leaving p ≡ false → option_and_then as_span (value_at b locals w p) ≡ option_and_then as_span (value_at (record b { object = object; args = args }) after w' p)
    spans (local m) h = absurd (cc (h))
    spans (field m) h = absurd (cc (h))
    spans (arg m) h = absurd (cc (h))

keeps-plain : (locals : List Value) → KeepsPlain locals (kept_locals locals)
keeps-plain locals = record {
  numbers = λ m. by as_num (λ s. refl) m;
  truths = λ m. by as_truth (λ s. refl) m;
  states = λ m. by as_status (λ s. refl) m;
}
  where
    one : {X : Type 0} (f : Value → Option X) → ((s : Span) → f (span s) ≡ None) → (o : Option Value) → option_and_then f o ≡ option_and_then f (option_map kept_local o)
    one f none None = refl
    one f none (Some (span s)) = none s ∙ sym (none _)
    one f none (Some (num m)) = refl
    one f none (Some (truth_value t)) = refl
    one f none (Some (status_number m)) = refl
    one f none (Some (buffer k)) = refl

    by : {X : Type 0} (f : Value → Option X) → ((s : Span) → f (span s) ≡ None) → (m : ℕ) → option_and_then f (slice_get locals m) ≡ option_and_then f (slice_get (kept_locals locals) m)
    by f none m = rw (slice_get-map kept_local locals m) (one f none (slice_get locals m))

pub kept-agree : (b : Body) (object : ℕ) (args locals : List Value) (w w' : World) → AgreeBeside at_leaving (view b locals w) (view (record b { object = object; args = args }) (kept_locals locals) w')
kept-agree b object args locals w w' = leaving-agree b object args locals (kept_locals locals) w w' (keeps-plain locals)

pub staying-agree : (b : Body) (locals : List Value) (w w' : World) → AgreeBeside at_leaving (view b locals w) (view b locals w')
staying-agree b locals w w' = leaving-agree b b.object b.args locals locals w w' (record { numbers = λ m. refl; truths = λ m. refl; states = λ m. refl })

-- A pure method leaves all that its caller looks at.
pub same-view : (b : Body) (locals : List Value) (w w' : World) → LooksTheSame w w' → view b locals w ≡ view b locals w'
same-view b locals w w' h = λ i. record {
  number_at = λ p. by as_num p i;
  flag_at = λ p. by as_truth p i;
  status_at = λ p. by as_status p i;
  span_at = λ p. by as_span p i;
  cells_at = λ store. cells store i;
  buffer_number = λ a. option_and_then as_buffer (slice_get b.args a);
  buffer_at = λ k. slice_get (h.host i).buffers k;
  status_text = text_of_status b.within;
}
  where
    by : {X : Type 0} (f : Value → Option X) (p : Path) → option_and_then f (value_at b locals w p) ≡ option_and_then f (value_at b locals w' p)
    by f (local m) = refl
    by f (field m) = ap (λ o. option_and_then f (option_and_then (value_held b.object m) o)) (h.fields b.object m)
    by f (arg m) = refl

    cells : (store : Store) → cells_at w store ≡ cells_at w' store
    cells nowhere = refl
    cells (host_array a) = ap (λ (host : Host). unwrap_or (slice_get host.arrays a) []) h.host
    cells (field_array o n) = ap (λ x. unwrap_or (option_map cells_held x) []) (h.fields o n)

-- A marked method has been called: fields, elements, and what was handed to it, may have changed.
abbrev pub with_thing : Option Thing → List Thing → List Thing
with_thing None xs = xs
with_thing (Some x) xs = x ∷ xs

abbrev pub handed_things : List ValueTree → List Thing
handed_things [] = []
handed_things (v ∷ vs) = with_thing (handed_thing v) (handed_things vs)

pub handed-covers : (vs : List ValueTree) (i a : ℕ) (t : ValueTree) → slice_get vs i ≡ Some t → io_handed t ≡ Some a → any_path (handed_things vs) (arg a) ≡ true
handed-covers [] i a t h e = absurd (cc (h))
handed-covers (v ∷ vs) zero a t h e =
    let same : v ≡ t = cc (h) in
    by v (ap io_handed same ∙ e)
  where
    by : (v : ValueTree) → io_handed v ≡ Some a → any_path (with_thing (handed_thing v) (handed_things vs)) (arg a) ≡ true
    by (io at c) k = let e : c ≡ a = cc (k) in by_test (nat_eq c a) (grind (arith, nat_tests, e))
      where
        by_test : (test : Bool) → test ≡ true → (test || any_path (handed_things vs) (arg a)) ≡ true
        by_test true q = refl
        by_test false q = absurd (cc (q))
    by v k = absurd (cc (k))
handed-covers (v ∷ vs) (suc i) a t h e = by v (handed-covers vs i a t h e)
  where
    or_right : (p q : Bool) → q ≡ true → (p || q) ≡ true
    or_right true q k = refl
    or_right false q k = k

    by : (v : ValueTree) → any_path (handed_things vs) (arg a) ≡ true → any_path (with_thing (handed_thing v) (handed_things vs)) (arg a) ≡ true
    by (io at c) k = or_right (nat_eq c a) _ k
    by v k = k

pub called-agree : (b : Body) (vs : List ValueTree) (locals : List Value) (w w' : World)
    → ((a k : ℕ) → slice_get b.args a ≡ Some (buffer k) → any_path (handed_things vs) (arg a) ≡ false → slice_get w.host.buffers k ≡ slice_get w'.host.buffers k)
    → AgreeBeside (things.This ∷ things.Element ∷ handed_things vs) (view b locals w) (view b locals w')
called-agree b vs locals w w' kept = record {
  numbers = λ p h. by as_num p h;
  flags = λ p h. by as_truth p h;
  statuses = λ p h. by as_status p h;
  spans = λ p h. spans p h;
  elements = λ h store. absurd (cc (h));
  buffers = λ a h. buffers a h;
  texts = λ m. refl;
}
  where
    by : {X : Type 0} (f : Value → Option X) (p : Path) → any_path (things.This ∷ things.Element ∷ handed_things vs) p ≡ false → option_and_then f (value_at b locals w p) ≡ option_and_then f (value_at b locals w' p)
    by f (local m) h = refl
    by f (field m) h = absurd (cc (h))
    by f (arg m) h = refl

    spans : (p : Path) → any_slice (things.This ∷ things.Element ∷ handed_things vs) p ≡ false → option_and_then as_span (value_at b locals w p) ≡ option_and_then as_span (value_at b locals w' p)
    spans (local m) h = refl
    spans (field m) h = absurd (cc (h))
    spans (arg m) h = refl

    named : (v : Option Value) (j : ℕ) → option_and_then as_buffer v ≡ Some j → v ≡ Some (buffer j)
    named None j e = absurd (cc (e))
    named (Some (buffer i)) j e = cc (e)
    named (Some v) j e = absurd (cc (e))

    buffers : (a : ℕ) → any_path (handed_things vs) (arg a) ≡ false → io_buffer (view b locals w) a ≡ io_buffer (view b locals w') a
    buffers a h = at (option_and_then as_buffer (slice_get b.args a)) refl
      where
        at : (o : Option ℕ) → option_and_then as_buffer (slice_get b.args a) ≡ o
            → option_and_then (λ j. slice_get w.host.buffers j) (option_and_then as_buffer (slice_get b.args a)) ≡ option_and_then (λ j. slice_get w'.host.buffers j) (option_and_then as_buffer (slice_get b.args a))
        at None e = rw e refl
        at (Some j) e = rw e (kept a j (named (slice_get b.args a) j e) h)
