-- A body changes only the buffers and byte arrays that its arguments name. `B` and `A` tell which may change, and `h0` what
-- stood before. `R` is what holds of what remains of a method besides.
use Rattle.std.proofs.Common.{◌≡◌, ℕ, ◌+◌, List, length, Some, refl, sym, ap, ◌∙◌, subst}
use Rattle.std.specs.Prelude.{slice_get, slice_set, option_and_then}
use Rattle.std.specs.List.{AllByRecursion}
use Rattle.wf_base.specs.HostRun.{Host}
use Rattle.wf_base.specs.BaseOps.{Buffer}
use Rattle.wf_ast.specs.TypedTree.{Path, local, field, arg, SliceTree, slice, array, cut, ValueTree, numeric, logical, state, elements, io, lost, Target, to_number, to_element, to_flag, to_status, to_slice, to_nothing}
use Rattle.wf_ast.specs.Value.{Store, nowhere, host_array, field_array, Span, Value, num, truth_value, status_number, span, value, span_of, part_of, end_value, value_of}
use Rattle.wf_ast.specs.Value as values
use Rattle.wf_meaning.specs.SourceState.{Held, held_num, held_truth, held_status, held_cells, held_part, Object, Remaining}
use Rattle.wf_meaning.specs.World.{World, Body, Vars, updated, with_object, with_field, value_held, value_at, as_span, as_buffer, with_cells, with_buffer, change_held, view, set_path, set_element, put_value, kept_local}
use Rattle.wf_meaning.specs.Laws.{IsKept, Keeps}
use Rattle.wf_meaning.proofs.Lists.{updated-other}
use Rattle.wf_meaning.proofs.Lists2.{all_at, all_updated, and_then_made, map_made, only_if_made, some_same, two_made}

part_store : (cells : Span) (i j : ℕ) (s : Span) → part_of cells i j ≡ Some s → cells.store ≡ s.store
part_store cells i j s e = ap (λ (it : Span). it.store) (some_same _ s (only_if_made _ _ s e))

module _ (B A : ℕ → Type 0) (h0 : Host) (R : ℕ → Remaining → Type 0) where
  abbrev pub KeptAt : (method : ℕ) → Remaining → Type 0
  KeptAt method left = AllByRecursion IsKept left.locals × R method left

  abbrev pub StoreOk : Store → Type 0
  StoreOk nowhere = Unit {0}
  StoreOk (host_array a) = A a
  StoreOk (field_array object n) = Unit {0}

  -- A value names only what may change; a local holds no buffer besides.
  abbrev pub ValueOk : Value → Type 0
  ValueOk (num n) = Unit {0}
  ValueOk (truth_value b) = Unit {0}
  ValueOk (status_number n) = Unit {0}
  ValueOk (span s) = StoreOk s.store
  ValueOk (values.buffer k) = B k

  abbrev pub LocalOk : Value → Type 0
  LocalOk (num n) = Unit {0}
  LocalOk (truth_value b) = Unit {0}
  LocalOk (status_number n) = Unit {0}
  LocalOk (span s) = StoreOk s.store
  LocalOk (values.buffer k) = ⊥

  pub record WorldOk (w : World) : Type 0 where
    pub buffers : (k : ℕ) → (B k → ⊥) → slice_get w.host.buffers k ≡ slice_get h0.buffers k
    pub arrays : (a : ℕ) → (A a → ⊥) → slice_get w.host.arrays a ≡ slice_get h0.arrays a
    pub objects : AllByRecursion (Keeps R) w.objects

  pub record VarsOk (vars : Vars) : Type 0 where
    pub locals : AllByRecursion LocalOk vars.locals
    pub world : WorldOk vars.world

  pub local_value : (v : Value) → LocalOk v → ValueOk v
  local_value (num n) h = tt
  local_value (truth_value b) h = tt
  local_value (status_number n) h = tt
  local_value (span s) h = h
  local_value (values.buffer k) h = absurd h

  pub kept_ok : (v : Value) → IsKept v → LocalOk v
  kept_ok (num n) h = tt
  kept_ok (truth_value b) h = tt
  kept_ok (status_number n) h = tt
  kept_ok (span s) h = let P : Span → Type 0 = λ it. StoreOk it.store in subst P (sym h) tt
  kept_ok (values.buffer k) h = absurd h

  pub keeps_local : (v : Value) → LocalOk v → IsKept (kept_local v)
  keeps_local (num n) h = tt
  keeps_local (truth_value b) h = tt
  keeps_local (status_number n) h = tt
  keeps_local (span s) h = refl
  keeps_local (values.buffer k) h = absurd h

  -- Changes of the world.
  pub same_keeps : (o o' : Object) → o.remaining ≡ o'.remaining → Keeps R o → Keeps R o'
  same_keeps o o' e h = record { by = λ m left k. h.by m left (ap (λ rs. slice_get rs m) e ∙ k) }

  pub object_ok : (number : ℕ) (f : Object → Object) (w : World) → ((o : Object) → Keeps R o → Keeps R (f o)) → WorldOk w → WorldOk (with_object number f w)
  object_ok number f w k h = record { buffers = h.buffers; arrays = h.arrays; objects = all_updated (Keeps R) f number w.objects k h.objects }

  pub field_ok : (object n : ℕ) (f : Held → Held) (w : World) → WorldOk w → WorldOk (with_field object n f w)
  field_ok object n f w h = object_ok object _ w (λ o k. same_keeps o (record o { fields = updated f n o.fields }) refl k) h

  pub cells_ok : (store : Store) (f : List ℕ → List ℕ) (w : World) → StoreOk store → WorldOk w → WorldOk (with_cells store f w)
  cells_ok nowhere f w s h = h
  cells_ok (host_array a) f w s h =
      record { buffers = h.buffers; arrays = λ other apart. updated-other f a other w.host.arrays (λ e. apart (subst A (sym e) s)) ∙ h.arrays other apart; objects = h.objects }
  cells_ok (field_array object n) f w s h = field_ok object n (change_held f) w h

  pub buffer_ok : (k : ℕ) (f : Buffer → Buffer) (w : World) → B k → WorldOk w → WorldOk (with_buffer k f w)
  buffer_ok k f w s h =
      record { buffers = λ other apart. updated-other f k other w.host.buffers (λ e. apart (subst B (sym e) s)) ∙ h.buffers other apart; arrays = h.arrays; objects = h.objects }

  module _ (b : Body) (args : AllByRecursion ValueOk b.args) where
    held_ok : (n : ℕ) (held : Held) (v : Value) → value_held b.object n held ≡ Some v → ValueOk v
    held_ok n (held_num m) v e = let k : num m ≡ v = cc in subst ValueOk k tt
    held_ok n (held_truth t) v e = let k : truth_value t ≡ v = cc in subst ValueOk k tt
    held_ok n (held_status s) v e = let k : status_number s ≡ v = cc in subst ValueOk k tt
    held_ok n (held_cells cells) v e = let k : span (record { store = field_array b.object n; from = 0; count = length cells }) ≡ v = cc in subst ValueOk k tt
    held_ok n (held_part part) v e = absurd (cc (e))

    at_ok : (vars : Vars) → VarsOk vars → (path : Path) (v : Value) → value_at b vars.locals vars.world path ≡ Some v → ValueOk v
    at_ok vars h (local n) v e = local_value v (all_at LocalOk vars.locals n v h.locals e)
    at_ok vars h (arg n) v e = all_at ValueOk b.args n v args e
    at_ok vars h (field n) v e = let m = and_then_made (value_held b.object n) _ v e in held_ok n m.x v m.gives

    as_span_ok : (v : Value) (s : Span) → ValueOk v → as_span v ≡ Some s → StoreOk s.store
    as_span_ok (num n) s h e = absurd (cc (e))
    as_span_ok (truth_value t) s h e = absurd (cc (e))
    as_span_ok (status_number n) s h e = absurd (cc (e))
    as_span_ok (span r) s h e = let k : r ≡ s = cc in let P : Span → Type 0 = λ it. StoreOk it.store in subst P k h
    as_span_ok (values.buffer k) s h e = absurd (cc (e))

    module _ (vars : Vars) (h : VarsOk vars) where
      path_span_ok : (path : Path) (s : Span) → (view b vars.locals vars.world).span_at path ≡ Some s → StoreOk s.store
      path_span_ok path s e = let m = and_then_made as_span _ s e in as_span_ok m.x s (at_ok vars h path m.x m.from) m.gives

      pub span_ok : (t : SliceTree) (s : Span) → span_of (view b vars.locals vars.world) t ≡ Some s → StoreOk s.store
      span_ok (slice at bits path) s e = path_span_ok path s e
      span_ok (array at of count path) s e = path_span_ok path s e
      span_ok (cut at cells from to) s e =
          let st = view b vars.locals vars.world in
          let m = two_made (λ xs i. option_and_then (part_of xs i) (end_value st xs.count to)) (λ xs. end_value st 0 from) (span_of st cells) s e in
          let j = and_then_made (part_of m.x m.y) (end_value st m.x.count to) s m.gives in
          subst StoreOk (part_store m.x m.y j.x s j.gives) (span_ok cells m.x m.from)

      pub value_ok : (t : ValueTree) (v : Value) → value_of (view b vars.locals vars.world) t ≡ Some v → ValueOk v
      value_ok (numeric t) v e = let m = map_made num _ v e in subst ValueOk m.gives tt
      value_ok (logical t) v e = let m = map_made truth_value _ v e in subst ValueOk m.gives tt
      value_ok (state t) v e = let m = map_made status_number _ v e in subst ValueOk m.gives tt
      value_ok (elements t) v e = let m = map_made span _ v e in subst ValueOk m.gives (span_ok t m.x m.from)
      value_ok (io at a) v e =
          let m = map_made values.buffer _ v e in
          let i = and_then_made as_buffer _ m.x m.from in
          subst ValueOk m.gives (as_buffer_ok i.x m.x (all_at ValueOk b.args a i.x args i.from) i.gives)
        where
          as_buffer_ok : (u : Value) (k : ℕ) → ValueOk u → as_buffer u ≡ Some k → B k
          as_buffer_ok (num n) k h e = absurd (cc (e))
          as_buffer_ok (truth_value t) k h e = absurd (cc (e))
          as_buffer_ok (status_number n) k h e = absurd (cc (e))
          as_buffer_ok (span r) k h e = absurd (cc (e))
          as_buffer_ok (values.buffer j) k h e = let q : j ≡ k = cc in subst B q h
      value_ok lost v e = absurd (cc (e))

      pub io_ok : (a k : ℕ) → (view b vars.locals vars.world).buffer_number a ≡ Some k → B k
      io_ok a k e = let m = and_then_made as_buffer _ k e in as_buffer_ok m.x (all_at ValueOk b.args a m.x args m.from) m.gives
        where
          as_buffer_ok : (u : Value) → ValueOk u → as_buffer u ≡ Some k → B k
          as_buffer_ok (num n) h e = absurd (cc (e))
          as_buffer_ok (truth_value t) h e = absurd (cc (e))
          as_buffer_ok (status_number n) h e = absurd (cc (e))
          as_buffer_ok (span r) h e = absurd (cc (e))
          as_buffer_ok (values.buffer j) h e = let q : j ≡ k = cc in subst B q h

      set_ok : (path : Path) (v : Value) → LocalOk v → VarsOk (set_path b path v vars)
      set_ok (local n) v k = record { locals = all_updated LocalOk (λ _. v) n vars.locals (λ x y. k) h.locals; world = h.world }
      set_ok (field n) v k = record { locals = h.locals; world = field_ok b.object n _ vars.world h.world }
      set_ok (arg n) v k = h

      element_ok : (s : Span) (k n : ℕ) (after : Vars) → StoreOk s.store → set_element s k n vars ≡ Some after → VarsOk after
      element_ok s k n after ok e =
          let m = only_if_made _ _ after e in
          let it : Vars = record vars { world = with_cells s.store (λ xs. slice_set xs (s.from + k) n) vars.world } in
          subst VarsOk (some_same it after m) (record { locals = h.locals; world = cells_ok s.store _ vars.world ok h.world })

      made_ok : (it after : Vars) → VarsOk it → Some it ≡ Some after → VarsOk after
      made_ok it after k e = let same : it ≡ after = cc in subst VarsOk same k

      pub put_ok : (target : Target) (v : Value) (after : Vars) → ValueOk v → put_value b target v vars ≡ Some after → VarsOk after
      put_ok (to_number at of path) (num n) after k e = made_ok _ after (set_ok path (num n) tt) (only_if_made _ _ after e)
      put_ok (to_element at of cells index) (num n) after k e =
          let st = view b vars.locals vars.world in
          let m = two_made (λ xs k. set_element xs k n vars) (λ xs. value st index) (span_of st cells) after (only_if_made _ _ after e) in
          element_ok m.x m.y n after (span_ok cells m.x m.from) m.gives
      put_ok (to_flag at path) (truth_value t) after k e = made_ok _ after (set_ok path (truth_value t) tt) e
      put_ok (to_status at path) (status_number n) after k e = made_ok _ after (set_ok path (status_number n) tt) e
      put_ok (to_slice at bits path) (span s) after k e = made_ok _ after (set_ok path (span s) k) e
      put_ok to_nothing v after k e = made_ok vars after h e
      put_ok (to_number at of path) (truth_value t) after k e = absurd (cc (e))
      put_ok (to_number at of path) (status_number n) after k e = absurd (cc (e))
      put_ok (to_number at of path) (span s) after k e = absurd (cc (e))
      put_ok (to_number at of path) (values.buffer j) after k e = absurd (cc (e))
      put_ok (to_element at of cells index) (truth_value t) after k e = absurd (cc (e))
      put_ok (to_element at of cells index) (status_number n) after k e = absurd (cc (e))
      put_ok (to_element at of cells index) (span s) after k e = absurd (cc (e))
      put_ok (to_element at of cells index) (values.buffer j) after k e = absurd (cc (e))
      put_ok (to_flag at path) (num n) after k e = absurd (cc (e))
      put_ok (to_flag at path) (status_number n) after k e = absurd (cc (e))
      put_ok (to_flag at path) (span s) after k e = absurd (cc (e))
      put_ok (to_flag at path) (values.buffer j) after k e = absurd (cc (e))
      put_ok (to_status at path) (num n) after k e = absurd (cc (e))
      put_ok (to_status at path) (truth_value t) after k e = absurd (cc (e))
      put_ok (to_status at path) (span s) after k e = absurd (cc (e))
      put_ok (to_status at path) (values.buffer j) after k e = absurd (cc (e))
      put_ok (to_slice at bits path) (num n) after k e = absurd (cc (e))
      put_ok (to_slice at bits path) (truth_value t) after k e = absurd (cc (e))
      put_ok (to_slice at bits path) (status_number n) after k e = absurd (cc (e))
      put_ok (to_slice at bits path) (values.buffer j) after k e = absurd (cc (e))
