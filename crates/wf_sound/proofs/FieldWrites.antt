-- Fields of struct states, elements of arrays and buffers that are written: worlds stay lawful.
use Rattle.std.proofs.Common.{◌≡◌, ℕ, zero, suc, ◌<◌, Bool, true, false, ◌⊎◌, inl, inr, List, [], ◌∷◌, length, Option, Some, None, refl, sym, ap, ◌∙◌, subst, nat_eq, arith}
use Rattle.std.specs.Prelude.{slice_get, option_and_then, option_map, is_some, All}
use Rattle.std.proofs.lemmas.Bool.Decides.{nat_tests}
use Rattle.wf_base.specs.BaseOps.{Buffer, AreBytes}
use Rattle.wf_base.specs.BaseOps as ops
use Rattle.wf_base.specs.declared.widths.Width.{Width}
use Rattle.wf_ast.specs.declared.types.Ty.{Ty}
use Rattle.wf_ast.specs.declared.types.Ty.TheVariants as types
use Rattle.wf_ast.specs.TypedPackage.{PackageTree}
use Rattle.wf_ast.specs.Value.{Store, nowhere, host_array, field_array}
use Rattle.wf_facts_exprs.specs.LawfulState.{IsOf}
use Rattle.wf_meaning.specs.SourceState.{Held, held_num, held_truth, held_status, held_cells, held_part, Remaining, Object}
use Rattle.wf_meaning.specs.World.{World, updated, with_field, held_at, change_held, with_cells, with_buffer}
use Rattle.wf_meaning.proofs.Lists.{updated-at, updated-other}
use Rattle.wf_sound.specs.Worlds.{Shape, field_type, numbers_of, IsHeldAs, IsLawfulWorld}

-- Two numbers are one or two.
pub same_or_not : (m n : ℕ) → (m ≡ n) ⊎ (m ≡ n → ⊥)
same_or_not m n = by (nat_eq m n) refl
  where
    by : (t : Bool) → nat_eq m n ≡ t → (m ≡ n) ⊎ (m ≡ n → ⊥)
    by true e = inl (grind (arith, nat_tests, e))
    by false e = inr (λ h. absurd (grind (arith, nat_tests, e, h)))

-- What stands in a list where one item is changed.
pub item-changed : {X : Type 0} (f : X → X) (i : ℕ) (xs : List X) → slice_get (updated f i xs) i ≡ option_map f (slice_get xs i)
item-changed f i [] = refl
item-changed f zero (x ∷ xs) = refl
item-changed f (suc i) (x ∷ xs) = item-changed f i xs

pub still-there : {X : Type 0} (f : X → X) (i j : ℕ) (xs : List X) → is_some (slice_get xs j) ≡ true → is_some (slice_get (updated f i xs) j) ≡ true
still-there f i j [] h = h
still-there f zero zero (x ∷ xs) h = refl
still-there f zero (suc j) (x ∷ xs) h = h
still-there f (suc i) zero (x ∷ xs) h = refl
still-there f (suc i) (suc j) (x ∷ xs) h = still-there f i j xs h

-- An item of a changed list is one of the list before it, perhaps changed.
pub record Was {X : Type 0} (f : X → X) (i j : ℕ) (xs : List X) (y : X) : Type 0 where
  pub x : X
  pub is : slice_get xs j ≡ Some x
  pub from : (y ≡ x) ⊎ ((i ≡ j) × (y ≡ f x))

pub was : {X : Type 0} (f : X → X) (i j : ℕ) (xs : List X) (y : X) → slice_get (updated f i xs) j ≡ Some y → Was f i j xs y
was f i j [] y h = absurd (cc (h))
was f zero zero (x ∷ xs) y h = record { x = x; is = refl; from = inr (refl, sym (cc (h))) }
was f zero (suc j) (x ∷ xs) y h = record { x = y; is = h; from = inl refl }
was f (suc i) zero (x ∷ xs) y h = record { x = x; is = refl; from = inl (sym (cc (h))) }
was f (suc i) (suc j) (x ∷ xs) y h =
    let w : Was f i j xs y = was f i j xs y h in
    record { x = w.x; is = w.is; from = further w.from }
  where
    further : {x : _} → (y ≡ x) ⊎ ((i ≡ j) × (y ≡ f x)) → (y ≡ x) ⊎ ((suc i ≡ suc j) × (y ≡ f x))
    further (inl e) = inl e
    further (inr e) = inr (ap suc e.0, e.1)

-- A field that is changed, and the others.
module _ (object n : ℕ) (change : Held → Held) (w : World) where
  pub held-changed : held_at (with_field object n change w) object n ≡ option_map change (held_at w object n)
  held-changed = rw (item-changed (λ o. record o { fields = updated change n o.fields }) object w.objects) (by (slice_get w.objects object))
    where
      by : (o : Option Object) → option_and_then (λ o. slice_get o.fields n) (option_map (λ (o : Object). record o { fields = updated change n o.fields }) o) ≡ option_map change (option_and_then (λ o. slice_get o.fields n) o)
      by None = refl
      by (Some o) = item-changed change n o.fields

  pub held-elsewhere : (o m : ℕ) → (o ≡ object → m ≡ n → ⊥) → held_at (with_field object n change w) o m ≡ held_at w o m
  held-elsewhere o m apart = elim (same_or_not o object) [
    | inl same ↦ here same
    | inr not_same ↦ rw (updated-other (λ o. record o { fields = updated change n o.fields }) object o w.objects not_same) refl
  ]
    where
      at : (x : Option Object) → (m ≡ n → ⊥) → option_and_then (λ o. slice_get o.fields m) (option_map (λ (o : Object). record o { fields = updated change n o.fields }) x) ≡ option_and_then (λ o. slice_get o.fields m) x
      at None h = refl
      at (Some x) h = updated-other change n m x.fields h

      here : o ≡ object → held_at (with_field object n change w) o m ≡ held_at w o m
      here same =
          let P : ℕ → Type 0 = λ o. held_at (with_field object n change w) o m ≡ held_at w o m in
          subst P (sym same) (rw (item-changed (λ o. record o { fields = updated change n o.fields }) object w.objects) (at (slice_get w.objects object) (λ e. apart same e)))

module _ (p : PackageTree) (R : (method : ℕ) → Remaining → Type 0) (shape : Shape) where
  -- A field is changed, and what then stands there lies in the field's type.
  pub field-lawful : (object n : ℕ) (change : Held → Held) (w : World) → IsLawfulWorld p R shape w
      → ((ty : Ty) (held : Held) → field_type p shape object n ≡ Some ty → held_at w object n ≡ Some held → IsHeldAs shape ty held → IsHeldAs shape ty (change held)) → IsLawfulWorld p R shape (with_field object n change w)
  field-lawful object n change w lawful fits = record {
    objects = λ o s h. still-there (λ o. record o { fields = updated change n o.fields }) object o w.objects (lawful.objects o s h);
    fields = λ o m ty h. fields o m ty h;
    remaining = remaining;
    arrays = lawful.arrays;
    buffers = lawful.buffers;
  }
    where
      after : World
      after = with_field object n change w

      remaining : (o m : ℕ) (x : Object) (left : Remaining) → slice_get after.objects o ≡ Some x → slice_get x.remaining m ≡ Some (Some left) → R m left
      remaining o m x left h k =
          let v : Was (λ o. record o { fields = updated change n o.fields }) object o w.objects x = was (λ o. record o { fields = updated change n o.fields }) object o w.objects x h in
          let P : List (Option Remaining) → Type 0 = λ xs. slice_get xs m ≡ Some (Some left) in
          let same : x.remaining ≡ v.x.remaining = elim v.from [
            | inl e ↦ ap (λ (o : Object). o.remaining) e
            | inr e ↦ ap (λ (o : Object). o.remaining) e.1
          ] in
          lawful.remaining o m v.x left v.is (subst P same k)

      fields : (o m : ℕ) (ty : Ty) → field_type p shape o m ≡ Some ty → (held : Held) × (held_at after o m ≡ Some held) × IsHeldAs shape ty held
      fields o m ty h =
          let found = lawful.fields o m ty h in
          elim (same_or_not o object) [
            | inl o_is ↦ elim (same_or_not m n) [
              | inl m_is ↦ here found.0 o_is m_is found.1 found.2
              | inr m_not ↦ (found.0, held-elsewhere object n change w o m (λ i j. m_not j) ∙ found.1, found.2)
            ]
            | inr o_not ↦ (found.0, held-elsewhere object n change w o m (λ i j. o_not i) ∙ found.1, found.2)
          ]
        where
          here : (held : Held) → o ≡ object → m ≡ n → held_at w o m ≡ Some held → IsHeldAs shape ty held → (held : Held) × (held_at after o m ≡ Some held) × IsHeldAs shape ty held
          here held o_is m_is is lies =
              let P : ℕ → ℕ → Type 0 = λ o m. (held_at w o m ≡ Some held) × (field_type p shape o m ≡ Some ty) in
              let q : P object n = subst (λ m. P object m) m_is (subst (λ o. P o m) o_is (is, h)) in
              let Q : ℕ → ℕ → Type 0 = λ o m. held_at after o m ≡ Some (change held) in
              let there : Q object n = held-changed object n change w ∙ ap (option_map change) q.0 in
              (change held, subst (λ m. Q o m) (sym m_is) (subst (λ o. Q o n) (sym o_is) there), fits ty held q.1 q.0 lies)

  -- Elements of a store are changed, and each is then one of the store's.
  abbrev pub CellsKept : Store → (List ℕ → List ℕ) → Type 0
  CellsKept nowhere change = Unit {0}
  CellsKept (host_array a) change = (len : ℕ) → slice_get shape.arrays a ≡ Some len → (xs : List ℕ) → length xs ≡ len → AreBytes xs → (length (change xs) ≡ length xs) × AreBytes (change xs)
  CellsKept (field_array object n) change =
      (width : Width) (lo hi count : ℕ) → field_type p shape object n ≡ Some (types.Array width lo hi count) → (xs : List ℕ) → length xs ≡ count → All (IsOf (numbers_of width lo hi)) xs
      → (length (change xs) ≡ length xs) × All (IsOf (numbers_of width lo hi)) (change xs)

  array-lawful : (a : ℕ) (change : List ℕ → List ℕ) (w : World) → IsLawfulWorld p R shape w → CellsKept (host_array a) change → IsLawfulWorld p R shape (with_cells (host_array a) change w)
  array-lawful a change w lawful kept = record {
    objects = lawful.objects;
    fields = lawful.fields;
    remaining = lawful.remaining;
    arrays = arrays;
    buffers = lawful.buffers;
  }
    where
      arrays : (i len : ℕ) → slice_get shape.arrays i ≡ Some len → (cells : List ℕ) × (slice_get (updated change a w.host.arrays) i ≡ Some cells) × (length cells ≡ len) × AreBytes cells
      arrays i len h =
          let found = lawful.arrays i len h in
          elim (same_or_not i a) [
            | inl same ↦ here found.0 same found.1 found.2 found.3
            | inr not_same ↦ (found.0, updated-other change a i w.host.arrays not_same ∙ found.1, found.2, found.3)
          ]
        where
          here : (cells : List ℕ) → i ≡ a → slice_get w.host.arrays i ≡ Some cells → length cells ≡ len → AreBytes cells
              → (cells : List ℕ) × (slice_get (updated change a w.host.arrays) i ≡ Some cells) × (length cells ≡ len) × AreBytes cells
          here cells same is long bytes =
              let P : ℕ → Type 0 = λ i. slice_get shape.arrays i ≡ Some len in
              let k = kept len (subst P same h) cells long bytes in
              let Q : ℕ → Type 0 = λ i. slice_get (updated change i w.host.arrays) i ≡ Some (change cells) in
              let R : ℕ → Type 0 = λ a. slice_get (updated change a w.host.arrays) i ≡ Some (change cells) in
              (change cells, subst R same (updated-at change i w.host.arrays cells is), k.0 ∙ long, k.1)

  pub cells-lawful : (store : Store) (change : List ℕ → List ℕ) (w : World) → IsLawfulWorld p R shape w → CellsKept store change → IsLawfulWorld p R shape (with_cells store change w)
  cells-lawful nowhere change w lawful kept = lawful
  cells-lawful (host_array a) change w lawful kept = array-lawful a change w lawful kept
  cells-lawful (field_array object n) change w lawful kept = field-lawful object n (change_held change) w lawful (λ ty held h is lies. by ty held h lies)
    where
      by : (ty : Ty) (held : Held) → field_type p shape object n ≡ Some ty → IsHeldAs shape ty held → IsHeldAs shape ty (change_held change held)
      by (types.Array width lo hi count) (held_cells cells) h lies =
          let k = kept width lo hi count h cells lies.0 lies.1.1 in
          (k.0 ∙ lies.0, (lies.1.0, k.1))
      by (types.Array width lo hi count) held h lies = absurd lies
      by (types.Num width lo hi) (held_num m) h lies = lies
      by (types.Num width lo hi) held h lies = absurd lies
      by types.Flag (held_truth t) h lies = lies
      by types.Flag held h lies = absurd lies
      by types.Status (held_status m) h lies = lies
      by types.Status held h lies = absurd lies
      by (types.Part s) (held_part object) h lies = lies
      by (types.Part s) held h lies = absurd lies
      by types.Reader held h lies = absurd lies
      by types.Writer held h lies = absurd lies
      by (types.Slice width) held h lies = absurd lies

  -- A buffer is changed, and is then still lawful.
  pub buffer-lawful : (k : ℕ) (change : Buffer → Buffer) (w : World) → IsLawfulWorld p R shape w → ((b : Buffer) → slice_get w.host.buffers k ≡ Some b → ops.IsLawful b → ops.IsLawful (change b)) → IsLawfulWorld p R shape (with_buffer k change w)
  buffer-lawful k change w lawful fits = record {
    objects = lawful.objects;
    fields = lawful.fields;
    remaining = lawful.remaining;
    arrays = lawful.arrays;
    buffers = buffers;
  }
    where
      buffers : (i : ℕ) → i < shape.buffers → (b : Buffer) × (slice_get (updated change k w.host.buffers) i ≡ Some b) × ops.IsLawful b
      buffers i h =
          let found = lawful.buffers i h in
          elim (same_or_not i k) [
            | inl same ↦ here found.0 same found.1 found.2
            | inr not_same ↦ (found.0, updated-other change k i w.host.buffers not_same ∙ found.1, found.2)
          ]
        where
          here : (b : Buffer) → i ≡ k → slice_get w.host.buffers i ≡ Some b → ops.IsLawful b → (b : Buffer) × (slice_get (updated change k w.host.buffers) i ≡ Some b) × ops.IsLawful b
          here b same is fine =
              let P : ℕ → Type 0 = λ i. slice_get w.host.buffers i ≡ Some b in
              let R : ℕ → Type 0 = λ k. slice_get (updated change k w.host.buffers) i ≡ Some (change b) in
              (change b, subst R same (updated-at change i w.host.buffers b is), fits b (subst P same is) fine)
