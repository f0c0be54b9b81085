-- What a running body's expressions look at is lawful where all values lie in their types.
use Rattle.std.proofs.Common.{◌≡◌, ℕ, ◌+◌, ◌-◌, ◌^◌, ◌<◌, ◌≤◌, Bool, true, false, ◌||◌, List, [], length, get_or, Option, Some, None, refl, sym, subst, nat_eq, arith}
use Rattle.std.specs.Prelude.{slice_get, option_and_then, unwrap_or, All}
use Rattle.std.proofs.lemmas.Bool.{and_parts}
use Rattle.std.proofs.lemmas.Bool.Decides.{nat_tests}
use Rattle.std.proofs.lemmas.List.Elements.{All-get_or}
use Rattle.std.proofs.lemmas.Option.{slice_get-get_or}
use Rattle.wf_base.specs.declared.widths.Width.{Width}
use Rattle.wf_base.specs.BaseTable.{bits_of}
use Rattle.wf_base.specs.BaseOps.{Buffer}
use Rattle.wf_base.specs.BaseOps as ops
use Rattle.wf_ast.specs.declared.types.Ty.{Ty}
use Rattle.wf_ast.specs.declared.types.Ty.TheVariants as types
use Rattle.wf_ast.specs.TypedTree.{Path, local, field, arg, NumType}
use Rattle.wf_ast.specs.WellTyped.{Context, type_at, field_at, same_num_type, is_number, is_array, is_slice, is_flag, is_status, is_reader, is_writer}
use Rattle.wf_ast.specs.Value.{Store, nowhere, host_array, field_array, Span, Value, num, truth_value, status_number, span, buffer, State}
use Rattle.wf_facts_exprs.specs.LawfulState.{IsOf, HasElements, unrefined, IsLawful}
use Rattle.wf_meaning.specs.SourceState.{Held, held_num, held_truth, held_status, held_cells, held_part, Remaining}
use Rattle.wf_meaning.specs.World.{World, Body, Vars, value_held, held_at, as_num, as_truth, as_status, as_span, as_buffer, cells_at}
use Rattle.wf_meaning.specs.SourceStep.{state_of}
use Rattle.wf_sound.specs.Worlds.{Shape, field_type, array_length, store_length, array_takes, store_takes, IsSliceOf, numbers_of, IsOfType, IsHeldAs, IsLawfulWorld, context_of, IsLawfulBody}

-- Types that are the same.
pub same-numbers : (of : NumType) (width : Width) (lo hi n : ℕ) → same_num_type of (numbers_of width lo hi) ≡ true → IsOf (numbers_of width lo hi) n → IsOf of n
same-numbers of width lo hi n h k =
    let p = and_parts (nat_eq of.bits (bits_of width)) _ h in
    let q = and_parts (nat_eq of.low lo) _ p.1 in
    let a : of.low ≡ lo = grind (arith, nat_tests, q.0) in
    let b : of.high ≡ hi = grind (arith, nat_tests, q.1) in
    record { above = omega (arith, a, k.above); below = omega (arith, b, k.below) }

-- An element of a list all of whose elements keep a property.
pub record Element (P : ℕ → Type 0) (xs : List ℕ) (k : ℕ) : Type 0 where
  pub item : ℕ
  pub is : slice_get xs k ≡ Some item
  pub holds : P item

pub element-at : (P : ℕ → Type 0) (xs : List ℕ) (k : ℕ) → k < length xs → All P xs → Element P xs k
element-at P xs k h all = record { item = get_or xs k 0; is = slice_get-get_or xs k 0 h; holds = All-get_or P xs k 0 h all }

-- The value that a path has.
module _ (R : (method : ℕ) → Remaining → Type 0) (shape : Shape) (b : Body) where
  pub record FieldHas (w : World) (n : ℕ) (ty : Ty) : Type 0 where
    pub held : Held
    pub is : held_at w b.object n ≡ Some held
    pub lies : IsHeldAs shape ty held

  pub field-has : (w : World) (n : ℕ) (ty : Ty) → IsLawfulWorld b.within R shape w → slice_get shape.structs b.object ≡ Some b.method.of → field_at b.within b.method.of n ≡ Some ty → FieldHas w n ty
  field-has w n ty world receiver e =
      let found = world.fields b.object n ty (rw receiver e) in
      record { held = found.0; is = found.1; lies = found.2 }

  module _ (vars : Vars) (lawful : IsLawfulBody R shape b vars) where
    abbrev s : State
    s = state_of b vars

    abbrev c : Context
    c = context_of b

    -- The elements of a slice are there.
    byte_store : (a len k n : ℕ) → slice_get shape.arrays a ≡ Some len → k + n < len → Element (λ m. m < 2 ^ 8) (unwrap_or (slice_get vars.world.host.arrays a) []) (k + n)
    byte_store a len k n e h =
        let found = lawful.world.arrays a len e in
        rw found.1 (element-at (λ m. m < 2 ^ 8) found.0 (k + n) (omega (arith, h, found.2)) found.3)

    array_store : (object n k : ℕ) (width : Width) (lo hi count : ℕ) → field_type b.within shape object n ≡ Some (types.Array width lo hi count) → k < count
        → Element (IsOf (numbers_of width lo hi)) (cells_at vars.world (field_array object n)) k
    array_store object n k width lo hi count e h =
        let found = lawful.world.fields object n (types.Array width lo hi count) e in
        by found.0 found.1 found.2
      where
        by : (held : Held) → held_at vars.world object n ≡ Some held → IsHeldAs shape (types.Array width lo hi count) held → Element (IsOf (numbers_of width lo hi)) (cells_at vars.world (field_array object n)) k
        by (held_cells cells) is lies = rw is (element-at (IsOf (numbers_of width lo hi)) cells k (omega (arith, h, lies.0)) lies.1.1)
        by (held_num m) is lies = absurd lies
        by (held_truth t) is lies = absurd lies
        by (held_status m) is lies = absurd lies
        by (held_part object) is lies = absurd lies

    slice_bytes : (bits from count a : ℕ) → bits ≡ 8 → from + count ≤ unwrap_or (slice_get shape.arrays a) 0 → (k : ℕ) → k < count
        → Element (IsOf (unrefined bits)) (unwrap_or (slice_get vars.world.host.arrays a) []) (from + k)
    slice_bytes bits from count a e h k l = by (slice_get shape.arrays a) refl
      where
        by : (o : Option ℕ) → slice_get shape.arrays a ≡ o → Element (IsOf (unrefined bits)) (unwrap_or (slice_get vars.world.host.arrays a) []) (from + k)
        by None is =
            let P : Option ℕ → Type 0 = λ o. from + count ≤ unwrap_or o 0 in
            let none : from + count ≤ 0 = subst P is h in
            absurd (omega (arith, none, l))
        by (Some len) is =
            let P : Option ℕ → Type 0 = λ o. from + count ≤ unwrap_or o 0 in
            let long : from + count ≤ len = subst P is h in
            let x : Element (λ m. m < 2 ^ 8) (unwrap_or (slice_get vars.world.host.arrays a) []) (from + k) = byte_store a len from k is (omega (arith, long, l)) in
            let Q : ℕ → Type 0 = λ n. IsOf (unrefined n) x.item in
            let eight : IsOf (unrefined 8) x.item = record { above = omega arith; below = omega (arith, x.holds) } in
            record { item = x.item; is = x.is; holds = subst Q (sym e) eight }

    slice_cells : (bits from count object n : ℕ) (o : Option Ty) → field_type b.within shape object n ≡ o → array_takes bits o ≡ true → from + count ≤ array_length o → (k : ℕ) → k < count
        → Element (IsOf (unrefined bits)) (cells_at vars.world (field_array object n)) (from + k)
    slice_cells bits from count object n (Some (types.Array width lo hi len)) is takes h k l =
        let p = and_parts (nat_eq bits (bits_of width)) _ takes in
        let q = and_parts (nat_eq lo 0) _ p.1 in
        let same : bits ≡ bits_of width = grind (arith, nat_tests, p.0) in
        let low : lo ≡ 0 = grind (arith, nat_tests, q.0) in
        let high : hi ≡ 2 ^ bits_of width - 1 = grind (arith, nat_tests, q.1) in
        let x : Element (IsOf (numbers_of width lo hi)) (cells_at vars.world (field_array object n)) (from + k) = array_store object n (from + k) width lo hi len is (omega (arith, h, l)) in
        let P : ℕ → Type 0 = λ n. IsOf (unrefined n) x.item in
        let wide : IsOf (unrefined (bits_of width)) x.item = record { above = omega arith; below = omega (arith, high, x.holds.below) } in
        record { item = x.item; is = x.is; holds = subst P (sym same) wide }
    slice_cells bits from count object n None is takes h k l = absurd (cc (takes))
    slice_cells bits from count object n (Some ty) is takes h k l = absurd (cc (takes))

    pub slice-elements : (bits : ℕ) (xs : Span) → IsSliceOf b.within shape bits xs → HasElements s (unrefined bits) xs
    slice-elements bits xs h = record { few = h.few; items = λ k l. by xs.store h.inside h.takes k l }
      where
        by : (store : Store) → xs.from + xs.count ≤ store_length b.within shape store → store_takes b.within shape bits store ≡ true → (k : ℕ) → k < xs.count
            → (n : ℕ) × (slice_get (cells_at vars.world store) (xs.from + k) ≡ Some n) × IsOf (unrefined bits) n
        by nowhere i t k l = absurd (omega (arith, i, l))
        by (host_array a) i t k l = let x = slice_bytes bits xs.from xs.count a (grind (arith, nat_tests, t)) i k l in (x.item, x.is, x.holds)
        by (field_array object n) i t k l = let x = slice_cells bits xs.from xs.count object n (field_type b.within shape object n) refl t i k l in (x.item, x.is, x.holds)

    -- Numbers.
    value_number : (of : NumType) (ty : Ty) (v : Value) → is_number of (Some ty) ≡ true → IsOfType b.within shape ty v → (n : ℕ) × (as_num v ≡ Some n) × IsOf of n
    value_number of (types.Num width lo hi) (num n) h k = (n, refl, same-numbers of width lo hi n h k)
    value_number of (types.Num width lo hi) v h k = absurd k
    value_number of ty v h k = absurd (cc (h))

    held_number : (of : NumType) (ty : Ty) (n : ℕ) (held : Held) → is_number of (Some ty) ≡ true → IsHeldAs shape ty held → (m : ℕ) × (option_and_then as_num (value_held b.object n held) ≡ Some m) × IsOf of m
    held_number of (types.Num width lo hi) n (held_num m) h k = (m, refl, same-numbers of width lo hi m h k)
    held_number of (types.Num width lo hi) n held h k = absurd k
    held_number of ty n held h k = absurd (cc (h))

    value_flag : (ty : Ty) (v : Value) → is_flag (Some ty) ≡ true → IsOfType b.within shape ty v → (t : Bool) × (as_truth v ≡ Some t)
    value_flag types.Flag (truth_value t) h k = (t, refl)
    value_flag types.Flag v h k = absurd k
    value_flag ty v h k = absurd (cc (h))

    held_flag : (ty : Ty) (n : ℕ) (held : Held) → is_flag (Some ty) ≡ true → IsHeldAs shape ty held → (t : Bool) × (option_and_then as_truth (value_held b.object n held) ≡ Some t)
    held_flag types.Flag n (held_truth t) h k = (t, refl)
    held_flag types.Flag n held h k = absurd k
    held_flag ty n held h k = absurd (cc (h))

    value_state : (ty : Ty) (v : Value) → is_status (Some ty) ≡ true → IsOfType b.within shape ty v → (n : ℕ) × (as_status v ≡ Some n)
    value_state types.Status (status_number n) h k = (n, refl)
    value_state types.Status v h k = absurd k
    value_state ty v h k = absurd (cc (h))

    held_state : (ty : Ty) (n : ℕ) (held : Held) → is_status (Some ty) ≡ true → IsHeldAs shape ty held → (m : ℕ) × (option_and_then as_status (value_held b.object n held) ≡ Some m)
    held_state types.Status n (held_status m) h k = (m, refl)
    held_state types.Status n held h k = absurd k
    held_state ty n held h k = absurd (cc (h))

    value_slice : (bits : ℕ) (ty : Ty) (v : Value) → is_slice bits (Some ty) ≡ true → IsOfType b.within shape ty v → (xs : Span) × (as_span v ≡ Some xs) × HasElements s (unrefined bits) xs
    value_slice bits (types.Slice width) (span xs) h k =
        let same : bits ≡ bits_of width = grind (arith, nat_tests, h) in
        let P : ℕ → Type 0 = λ n. IsSliceOf b.within shape n xs in
        (xs, refl, slice-elements bits xs (subst P (sym same) k))
    value_slice bits (types.Slice width) v h k = absurd k
    value_slice bits ty v h k = absurd (cc (h))

    held_slice : (bits : ℕ) (ty : Ty) (held : Held) → is_slice bits (Some ty) ≡ true → IsHeldAs shape ty held → ⊥
    held_slice bits (types.Slice width) held h k = k
    held_slice bits ty held h k = cc (h)

    value_array : (of : NumType) (count : ℕ) (ty : Ty) (v : Value) → is_array of count (Some ty) ≡ true → IsOfType b.within shape ty v → ⊥
    value_array of count (types.Array width lo hi n) v h k = k
    value_array of count ty v h k = cc (h)

    held_array : (of : NumType) (count n : ℕ) (ty : Ty) (held : Held) → is_array of count (Some ty) ≡ true → held_at vars.world b.object n ≡ Some held → IsHeldAs shape ty held
        → (xs : Span) × (option_and_then as_span (value_held b.object n held) ≡ Some xs) × HasElements s of xs × (xs.count ≡ count)
    held_array of count n (types.Array width lo hi len) (held_cells cells) h is k =
        let p = and_parts (nat_eq count len) _ h in
        let same : count ≡ len = grind (arith, nat_tests, p.0) in
        let all : HasElements s of (record { store = field_array b.object n; from = 0; count = length cells }) = record {
          few = omega (arith, k.0, k.1.0);
          items = λ i l. let x : Element (IsOf (numbers_of width lo hi)) cells (0 + i) = element-at (IsOf (numbers_of width lo hi)) cells (0 + i) (omega (arith, l)) k.1.1 in (x.item, rw is x.is, same-numbers of width lo hi x.item p.1 x.holds);
        } in
        (record { store = field_array b.object n; from = 0; count = length cells }, refl, all, omega (arith, k.0, same))
    held_array of count n (types.Array width lo hi len) held h is k = absurd k
    held_array of count n ty held h is k = absurd (cc (h))

    -- The type that a test tells something of.
    typed : (test : Option Ty → Bool) (o : Option Ty) → test None ≡ false → test o ≡ true → (ty : Ty) × (o ≡ Some ty) × (test (Some ty) ≡ true)
    typed test None none h = absurd (cc (none, h))
    typed test (Some ty) none h = (ty, refl, h)

    numbers-in : (p : Path) (of : NumType) → is_number of (type_at c p) ≡ true → (n : ℕ) × (s.number_at p ≡ Some n) × IsOf of n
    numbers-in (local n) of h =
        let t = typed (is_number of) (type_at c (local n)) refl h in
        let v = lawful.locals.each n t.0 t.1 in
        let x = value_number of t.0 v.0 t.2 v.2 in
        (x.0, rw v.1 x.1, x.2)
    numbers-in (arg n) of h =
        let t = typed (is_number of) (type_at c (arg n)) refl h in
        let v = lawful.args.each n t.0 t.1 in
        let x = value_number of t.0 v.0 t.2 v.2 in
        (x.0, rw v.1 x.1, x.2)
    numbers-in (field n) of h =
        let t = typed (is_number of) (type_at c (field n)) refl h in
        let v : FieldHas vars.world n t.0 = field-has vars.world n t.0 lawful.world lawful.receiver t.1 in
        let x = held_number of t.0 n v.held t.2 v.lies in
        (x.0, rw v.is x.1, x.2)

    flags-in : (p : Path) → is_flag (type_at c p) ≡ true → (t : Bool) × (s.flag_at p ≡ Some t)
    flags-in (local n) h =
        let t = typed is_flag (type_at c (local n)) refl h in
        let v = lawful.locals.each n t.0 t.1 in
        let x = value_flag t.0 v.0 t.2 v.2 in
        (x.0, rw v.1 x.1)
    flags-in (arg n) h =
        let t = typed is_flag (type_at c (arg n)) refl h in
        let v = lawful.args.each n t.0 t.1 in
        let x = value_flag t.0 v.0 t.2 v.2 in
        (x.0, rw v.1 x.1)
    flags-in (field n) h =
        let t = typed is_flag (type_at c (field n)) refl h in
        let v : FieldHas vars.world n t.0 = field-has vars.world n t.0 lawful.world lawful.receiver t.1 in
        let x = held_flag t.0 n v.held t.2 v.lies in
        (x.0, rw v.is x.1)

    statuses-in : (p : Path) → is_status (type_at c p) ≡ true → (n : ℕ) × (s.status_at p ≡ Some n)
    statuses-in (local n) h =
        let t = typed is_status (type_at c (local n)) refl h in
        let v = lawful.locals.each n t.0 t.1 in
        let x = value_state t.0 v.0 t.2 v.2 in
        (x.0, rw v.1 x.1)
    statuses-in (arg n) h =
        let t = typed is_status (type_at c (arg n)) refl h in
        let v = lawful.args.each n t.0 t.1 in
        let x = value_state t.0 v.0 t.2 v.2 in
        (x.0, rw v.1 x.1)
    statuses-in (field n) h =
        let t = typed is_status (type_at c (field n)) refl h in
        let v : FieldHas vars.world n t.0 = field-has vars.world n t.0 lawful.world lawful.receiver t.1 in
        let x = held_state t.0 n v.held t.2 v.lies in
        (x.0, rw v.is x.1)

    slices-in : (p : Path) (bits : ℕ) → is_slice bits (type_at c p) ≡ true → (xs : Span) × (s.span_at p ≡ Some xs) × HasElements s (unrefined bits) xs
    slices-in (local n) bits h =
        let t = typed (is_slice bits) (type_at c (local n)) refl h in
        let v = lawful.locals.each n t.0 t.1 in
        let x = value_slice bits t.0 v.0 t.2 v.2 in
        (x.0, rw v.1 x.1, x.2)
    slices-in (arg n) bits h =
        let t = typed (is_slice bits) (type_at c (arg n)) refl h in
        let v = lawful.args.each n t.0 t.1 in
        let x = value_slice bits t.0 v.0 t.2 v.2 in
        (x.0, rw v.1 x.1, x.2)
    slices-in (field n) bits h =
        let t = typed (is_slice bits) (type_at c (field n)) refl h in
        let v : FieldHas vars.world n t.0 = field-has vars.world n t.0 lawful.world lawful.receiver t.1 in
        absurd (held_slice bits t.0 v.held t.2 v.lies)

    arrays-in : (p : Path) (of : NumType) (count : ℕ) → is_array of count (type_at c p) ≡ true → (xs : Span) × (s.span_at p ≡ Some xs) × HasElements s of xs × (xs.count ≡ count)
    arrays-in (local n) of count h =
        let t = typed (is_array of count) (type_at c (local n)) refl h in
        let v = lawful.locals.each n t.0 t.1 in
        absurd (value_array of count t.0 v.0 t.2 v.2)
    arrays-in (arg n) of count h =
        let t = typed (is_array of count) (type_at c (arg n)) refl h in
        let v = lawful.args.each n t.0 t.1 in
        absurd (value_array of count t.0 v.0 t.2 v.2)
    arrays-in (field n) of count h =
        let t = typed (is_array of count) (type_at c (field n)) refl h in
        let v : FieldHas vars.world n t.0 = field-has vars.world n t.0 lawful.world lawful.receiver t.1 in
        let x = held_array of count n t.0 v.held t.2 v.is v.lies in
        (x.0, rw v.is x.1, x.2, x.3)

    value_buffer : (ty : Ty) (v : Value) → (is_reader (Some ty) || is_writer (Some ty)) ≡ true → IsOfType b.within shape ty v → (k : ℕ) × (as_buffer v ≡ Some k) × (k < shape.buffers)
    value_buffer types.Reader (buffer k) h l = (k, refl, l)
    value_buffer types.Reader v h l = absurd l
    value_buffer types.Writer (buffer k) h l = (k, refl, l)
    value_buffer types.Writer v h l = absurd l
    value_buffer ty v h l = absurd (cc (h))

    buffers-in : (a : ℕ) → (is_reader (type_at c (arg a)) || is_writer (type_at c (arg a))) ≡ true → (k : ℕ) × (m : Buffer) × (s.buffer_number a ≡ Some k) × (s.buffer_at k ≡ Some m) × ops.IsLawful m
    buffers-in a h =
        let t = typed (λ ty. is_reader ty || is_writer ty) (type_at c (arg a)) refl h in
        let v = lawful.args.each a t.0 t.1 in
        let x = value_buffer t.0 v.0 t.2 v.2 in
        let y = lawful.world.buffers x.0 x.2 in
        (x.0, y.0, rw v.1 x.1, y.1, y.2)

    pub lawful-view : IsLawful c s
    lawful-view = record { numbers = numbers-in; flags = flags-in; statuses = statuses-in; slices = slices-in; arrays = arrays-in; buffers = buffers-in }
