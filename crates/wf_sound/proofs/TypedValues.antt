-- The values of well typed expressions lie in the types that take them.
use Rattle.std.proofs.Common.{◌≡◌, ℕ, ◌+◌, ◌-◌, ◌^◌, ◌<◌, ◌≤◌, Bool, true, false, ◌&&◌, ◌||◌, length, Option, Some, None, refl, sym, ap, ◌∙◌, subst, nat_eq, arith}
use Rattle.std.specs.Prelude.{option_and_then, nat_le, pos, int_le}
use Rattle.std.proofs.lemmas.Bool.{and_parts}
use Rattle.std.proofs.lemmas.Bool.Decides.{nat_tests}
use Rattle.std.proofs.lemmas.Int.{ints}
use Rattle.wf_num.specs.declared.ranges.Range.{Range}
use Rattle.wf_num.specs.Ranges.{Holds, is_empty}
use Rattle.wf_base.specs.BaseTable.{bits_of}
use Rattle.wf_ast.specs.declared.types.Ty.{Ty}
use Rattle.wf_ast.specs.declared.types.Ty.TheVariants as types
use Rattle.wf_ast.specs.TypedTree.{Path, local, field, arg, NumType, SliceTree, slice, array, cut}
use Rattle.wf_ast.specs.TypedPackage.{PackageTree}
use Rattle.wf_ast.specs.WellTyped.{type_at, same_num_type, is_unrefined, is_range, is_array, is_slice, element_type, well_slice}
use Rattle.wf_ast.specs.Value.{Store, nowhere, host_array, field_array, Span, Value, span, span_of, end_value, part_of}
use Rattle.wf_facts_exprs.specs.LawfulState.{IsOf, unrefined}
use Rattle.wf_meaning.specs.SourceState.{Held, held_cells, Remaining}
use Rattle.wf_meaning.specs.World.{Body, Vars, value_held, as_span, fits_store}
use Rattle.wf_meaning.specs.SourceStep.{state_of}
use Rattle.wf_meaning.proofs.Lists2.{Made, and_then_made}
use Rattle.wf_bounds_stmts.specs.Requirements.{lies_in}
use Rattle.wf_sound.specs.Worlds.{Shape, field_type, store_length, array_takes, store_takes, IsSliceOf, numbers_of, IsOfType, IsHeldAs, context_of, IsLawfulBody}
use Rattle.wf_sound.proofs.Views.{FieldHas, field-has}

-- A number that lies where all of its range does.
pub lies-of : (of : NumType) (r : Range) (n : ℕ) → lies_in of r ≡ true → Holds r n → IsOf of n
lies-of of r n h k = by (is_empty r) refl
  where
    by : (e : Bool) → is_empty r ≡ e → IsOf of n
    by true e = absurd (grind (arith, ints, nat_tests, e, k.above, k.below))
    by false e =
        let P : Bool → Type 0 = λ e. (e || (int_le (pos of.low) r.lo && nat_le r.hi of.high)) ≡ true in
        let p = and_parts (int_le (pos of.low) r.lo) _ (subst P e h) in
        record { above = grind (arith, ints, nat_tests, p.0, k.above); below = grind (arith, nat_tests, p.1, k.below) }

-- The elements of a store are the numbers of a type.
module _ (p : PackageTree) (shape : Shape) where
  abbrev pub array_has : NumType → Option Ty → Bool
  array_has of (Some (types.Array width lo hi count)) = same_num_type of (numbers_of width lo hi)
  array_has of ty = false

  abbrev pub store_has : NumType → Store → Bool
  store_has of nowhere = true
  store_has of (host_array a) = same_num_type of (unrefined 8)
  store_has of (field_array object n) = array_has of (field_type p shape object n)

  -- The elements of a span are those of the type, of which the store is one.
  pub record IsSpanOf (of : NumType) (xs : Span) : Type 0 where
    pub few : xs.count < 2 ^ 64
    pub inside : xs.from + xs.count ≤ store_length p shape xs.store
    pub has : store_has of xs.store ≡ true

  -- A number of the type goes into the store.
  pub store-fits : (of : NumType) (store : Store) (n : ℕ) → store_has of store ≡ true → IsOf of n → fits_store store n ≡ true
  store-fits of nowhere n h k = refl
  store-fits of (host_array a) n h k =
      let p = and_parts (nat_eq of.bits 8) _ h in
      let q = and_parts (nat_eq of.low 0) _ p.1 in
      let high : of.high ≡ 255 = grind (arith, nat_tests, q.1) in
      let small : n < 2 ^ 8 = omega (arith, high, k.below) in
      grind (arith, nat_tests, small)
  store-fits of (field_array object m) n h k = refl

  same_bits : (bits b low high : ℕ) → nat_eq bits b ≡ true → (low ≡ 0) → (high ≡ 2 ^ b - 1) → same_num_type (unrefined bits) (record { bits = b; low = low; high = high }) ≡ true
  same_bits bits b low high h k l =
      let e : bits ≡ b = grind (arith, nat_tests, h) in
      let P : ℕ → Type 0 = λ c. same_num_type (unrefined c) (record { bits = b; low = low; high = high }) ≡ true in
      subst P (sym e) (grind (arith, nat_tests, k, l))

  array-takes : (bits : ℕ) (o : Option Ty) → array_takes bits o ≡ true → array_has (unrefined bits) o ≡ true
  array-takes bits None h = absurd (cc (h))
  array-takes bits (Some (types.Array width lo hi count)) h =
      let p = and_parts (nat_eq bits (bits_of width)) _ h in
      let q = and_parts (nat_eq lo 0) _ p.1 in
      same_bits bits (bits_of width) lo hi p.0 (grind (arith, nat_tests, q.0)) (grind (arith, nat_tests, q.1))
  array-takes bits (Some ty) h = absurd (cc (h))

  pub slice-span : (bits : ℕ) (xs : Span) → IsSliceOf p shape bits xs → IsSpanOf (unrefined bits) xs
  slice-span bits xs h = record { few = h.few; inside = h.inside; has = by xs.store h.takes }
    where
      by : (store : Store) → store_takes p shape bits store ≡ true → store_has (unrefined bits) store ≡ true
      by nowhere k = refl
      by (host_array a) k = same_bits bits 8 0 255 k refl refl
      by (field_array object n) k = array-takes bits (field_type p shape object n) k

  same_is : (of : NumType) (b low high : ℕ) → same_num_type of (record { bits = b; low = low; high = high }) ≡ true → of ≡ record { bits = b; low = low; high = high }
  same_is of b low high h =
      let p = and_parts (nat_eq of.bits b) _ h in
      let q = and_parts (nat_eq of.low low) _ p.1 in
      let i : of.bits ≡ b = grind (arith, nat_tests, p.0) in
      let j : of.low ≡ low = grind (arith, nat_tests, q.0) in
      let k : of.high ≡ high = grind (arith, nat_tests, q.1) in
      λ t. record { bits = i t; low = j t; high = k t }

  pub span-slice : (of : NumType) (xs : Span) → is_unrefined of ≡ true → IsSpanOf of xs → IsSliceOf p shape of.bits xs
  span-slice of xs u h = record { few = h.few; inside = h.inside; takes = by xs.store h.has }
    where
      low : of.low ≡ 0
      low = grind (arith, nat_tests, (and_parts (nat_eq of.low 0) _ u).0)

      high : of.high ≡ 2 ^ of.bits - 1
      high = grind (arith, nat_tests, (and_parts (nat_eq of.low 0) _ u).1)

      of_array : (o : Option Ty) → array_has of o ≡ true → array_takes of.bits o ≡ true
      of_array None k = absurd (cc (k))
      of_array (Some (types.Array width lo hi count)) k =
          let P : NumType → Type 0 = λ t. (t.low ≡ 0) → (t.high ≡ 2 ^ t.bits - 1) → array_takes t.bits (Some (types.Array width lo hi count)) ≡ true in
          let there : P (numbers_of width lo hi) = λ i j. grind (arith, nat_tests, i, j) in
          subst P (sym (same_is of (bits_of width) lo hi k)) there low high
      of_array (Some ty) k = absurd (cc (k))

      by : (store : Store) → store_has of store ≡ true → store_takes p shape of.bits store ≡ true
      by nowhere k = refl
      by (host_array a) k = (and_parts (nat_eq of.bits 8) _ k).0
      by (field_array object n) k = of_array (field_type p shape object n) k

-- A slice's elements.
module _ (R : (method : ℕ) → Remaining → Type 0) (shape : Shape) (b : Body) (vars : Vars) (lawful : IsLawfulBody R shape b vars) where
  value_slice : (bits : ℕ) (ty : Ty) (v : Value) (xs : Span) → is_slice bits (Some ty) ≡ true → IsOfType b.within shape ty v → as_span v ≡ Some xs → IsSpanOf b.within shape (unrefined bits) xs
  value_slice bits (types.Slice width) (span ys) xs h k e =
      let same : bits ≡ bits_of width = grind (arith, nat_tests, h) in
      let is : ys ≡ xs = cc (e) in
      let P : ℕ → Type 0 = λ n. IsSliceOf b.within shape n ys in
      let Q : Span → Type 0 = λ xs. IsSpanOf b.within shape (unrefined bits) xs in
      subst Q is (slice-span b.within shape bits ys (subst P (sym same) k))
  value_slice bits (types.Slice width) v xs h k e = absurd k
  value_slice bits ty v xs h k e = absurd (cc (h))

  typed : (test : Option Ty → Bool) (o : Option Ty) → test None ≡ false → test o ≡ true → (ty : Ty) × (o ≡ Some ty) × (test (Some ty) ≡ true)
  typed test None none h = absurd (cc (none, h))
  typed test (Some ty) none h = (ty, refl, h)

  path-slice : (p : Path) (bits : ℕ) (xs : Span) → is_slice bits (type_at (context_of b) p) ≡ true → (state_of b vars).span_at p ≡ Some xs → IsSpanOf b.within shape (unrefined bits) xs
  path-slice (local n) bits xs h e =
      let t = typed (is_slice bits) (type_at (context_of b) (local n)) refl h in
      let v = lawful.locals.each n t.0 t.1 in
      value_slice bits t.0 v.0 xs t.2 v.2 (sym (ap (option_and_then as_span) v.1) ∙ e)
  path-slice (arg n) bits xs h e =
      let t = typed (is_slice bits) (type_at (context_of b) (arg n)) refl h in
      let v = lawful.args.each n t.0 t.1 in
      value_slice bits t.0 v.0 xs t.2 v.2 (sym (ap (option_and_then as_span) v.1) ∙ e)
  path-slice (field n) bits xs h e =
      let t = typed (is_slice bits) (type_at (context_of b) (field n)) refl h in
      let v : FieldHas R shape b vars.world n t.0 = field-has R shape b vars.world n t.0 lawful.world lawful.receiver t.1 in
      absurd (none t.0 v.held t.2 v.lies)
    where
      none : (ty : Ty) (held : Held) → is_slice bits (Some ty) ≡ true → IsHeldAs shape ty held → ⊥
      none (types.Slice width) held h k = k
      none ty held h k = cc (h)

  held_span : (of : NumType) (count n : ℕ) (ty : Ty) (held : Held) (xs : Span) → is_array of count (Some ty) ≡ true → field_type b.within shape b.object n ≡ Some ty → IsHeldAs shape ty held
      → option_and_then as_span (value_held b.object n held) ≡ Some xs → IsSpanOf b.within shape of xs
  held_span of count n (types.Array width lo hi len) (held_cells cells) xs h is k e =
      let p = and_parts (nat_eq count len) _ h in
      let same : record { store = field_array b.object n; from = 0; count = length cells } ≡ xs = cc (e) in
      let Q : Span → Type 0 = λ xs. IsSpanOf b.within shape of xs in
      let all : Q (record { store = field_array b.object n; from = 0; count = length cells }) = record { few = omega (arith, k.0, k.1.0); inside = rw is (omega (arith, k.0)); has = rw is p.1 } in
      subst Q same all
  held_span of count n (types.Array width lo hi len) held xs h is k e = absurd k
  held_span of count n ty held xs h is k e = absurd (cc (h))

  path-array : (p : Path) (of : NumType) (count : ℕ) (xs : Span) → is_array of count (type_at (context_of b) p) ≡ true → (state_of b vars).span_at p ≡ Some xs → IsSpanOf b.within shape of xs
  path-array (local n) of count xs h e =
      let t = typed (is_array of count) (type_at (context_of b) (local n)) refl h in
      let v = lawful.locals.each n t.0 t.1 in
      absurd (none t.0 v.0 t.2 v.2)
    where
      none : (ty : Ty) (v : Value) → is_array of count (Some ty) ≡ true → IsOfType b.within shape ty v → ⊥
      none (types.Array width lo hi m) v h k = k
      none ty v h k = cc (h)
  path-array (arg n) of count xs h e =
      let t = typed (is_array of count) (type_at (context_of b) (arg n)) refl h in
      let v = lawful.args.each n t.0 t.1 in
      absurd (none t.0 v.0 t.2 v.2)
    where
      none : (ty : Ty) (v : Value) → is_array of count (Some ty) ≡ true → IsOfType b.within shape ty v → ⊥
      none (types.Array width lo hi m) v h k = k
      none ty v h k = cc (h)
  path-array (field n) of count xs h e =
      let t = typed (is_array of count) (type_at (context_of b) (field n)) refl h in
      let v : FieldHas R shape b vars.world n t.0 = field-has R shape b vars.world n t.0 lawful.world lawful.receiver t.1 in
      let here : field_type b.within shape b.object n ≡ Some t.0 = rw lawful.receiver t.1 in
      held_span of count n t.0 v.held xs t.2 here v.lies (sym (ap (λ o. option_and_then as_span (option_and_then (value_held b.object n) o)) v.is) ∙ e)

  part-span : (of : NumType) (xs ys : Span) (i j : ℕ) → IsSpanOf b.within shape of xs → part_of xs i j ≡ Some ys → IsSpanOf b.within shape of ys
  part-span of xs ys i j h e = by (nat_le i j && nat_le j xs.count) refl
    where
      by : (test : Bool) → (nat_le i j && nat_le j xs.count) ≡ test → IsSpanOf b.within shape of ys
      by false k = let q : None ≡ Some ys = sym (rw k refl) ∙ e in absurd (cc (q))
      by true k =
          let q : Some (record { store = xs.store; from = xs.from + i; count = j - i }) ≡ Some ys = sym (rw k refl) ∙ e in
          let is : record { store = xs.store; from = xs.from + i; count = j - i } ≡ ys = cc (q) in
          let p = and_parts (nat_le i j) _ k in
          let low : i ≤ j = grind (arith, nat_tests, p.0) in
          let high : j ≤ xs.count = grind (arith, nat_tests, p.1) in
          let Q : Span → Type 0 = λ ys. IsSpanOf b.within shape of ys in
          let part : Q (record { store = xs.store; from = xs.from + i; count = j - i }) = record { few = omega (arith, h.few, low, high); inside = omega (arith, h.inside, low, high); has = h.has } in
          subst Q is part

  pub span-typed : (t : SliceTree) (xs : Span) → well_slice (context_of b) t ≡ true → span_of (state_of b vars) t ≡ Some xs → IsSpanOf b.within shape (element_type t) xs
  span-typed (slice at bits path) xs h e = path-slice path bits xs h e
  span-typed (array at of count path) xs h e = path-array path of count xs (and_parts (is_range of) _ h).1 e
  span-typed (cut at cells from to) xs h e =
      let p = and_parts (is_unrefined (element_type cells)) _ h in
      let q = and_parts (well_slice (context_of b) cells) _ p.1 in
      let f = λ (ys : Span). option_and_then (λ i. option_and_then (part_of ys i) (end_value (state_of b vars) ys.count to)) (end_value (state_of b vars) 0 from) in
      let x : Made f (span_of (state_of b vars) cells) xs = and_then_made f (span_of (state_of b vars) cells) xs e in
      let g = λ (i : ℕ). option_and_then (part_of x.x i) (end_value (state_of b vars) x.x.count to) in
      let y : Made g (end_value (state_of b vars) 0 from) xs = and_then_made g (end_value (state_of b vars) 0 from) xs x.gives in
      let z : Made (part_of x.x y.x) (end_value (state_of b vars) x.x.count to) xs = and_then_made (part_of x.x y.x) (end_value (state_of b vars) x.x.count to) xs y.gives in
      part-span (element_type cells) x.x xs y.x z.x (span-typed cells x.x q.0 x.from) z.gives
