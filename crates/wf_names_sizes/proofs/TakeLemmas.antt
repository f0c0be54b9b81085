-- What fields take is one number at most, and what is known of sizes, capped, is that number.
use Rattle.std.proofs.Common.{◌≡◌, ◌⊎◌, ℕ, zero, suc, ◌+◌, Bool, true, false, List, [], ◌∷◌, ◌++◌, map, length, Option, Some, None, slice_get, is_some, refl, sym, ap, ◌∙◌, subst, inl, inr, arith}
use Rattle.std.specs.List.{position_from}
use Rattle.wf_names_rules.specs.Declarations.{Variable, Structure, Declared, is_spelt}
use Rattle.graphs.specs.Graphs.{Path}
use Rattle.wf_names_rules.specs.Passes.{is_flagged}
use Rattle.wf_names_rules.specs.Sizes.{plain_bytes, struct_held, fields_at, holds_struct, Take, nothing, plain, part, cycle}
use Rattle.wf_ast.specs.ParsedTree as tree
use Rattle.wf_ast.specs.ParsedTree.{TypeTree}
use Rattle.wf_names_sizes.specs.declared.parts.FieldPart.{FieldPart}
use Rattle.wf_names_sizes.specs.StructSizes.{capped, part_with, part_of, field_of, row_of, added, struct_bytes, size_in, part_bytes, sum_after, AreHolding, AreSizes, AreSettled}

some_same : {X : Type 0} (x y : X) → Some x ≡ Some y → x ≡ y
some_same x y e = cc e

capped-twice : (a b : ℕ) → capped (capped a + capped b) ≡ capped (a + b)
capped-twice a b = omega arith

module _ (d : Declared) where
  abbrev OnCycle : ℕ → Type 0
  OnCycle s = Path (holds_struct d) s s

  -- What a derivation says of the first field.
  take-nothing : (all : List Variable) (m : ℕ) → all ≡ [] → Take d all m → m ≡ 0
  take-nothing _ _ e nothing = refl
  take-nothing _ _ e (plain v vs n h t) = absurd (cc e)
  take-nothing _ _ e (part v vs s inner n h off t u) = absurd (cc e)
  take-nothing _ _ e (cycle v vs s n h p t) = absurd (cc e)

  take-plain : (all : List Variable) (m : ℕ) (v : Variable) (vs : List Variable) → all ≡ v ∷ vs → struct_held d v.of ≡ None → Take d all m
      → (n : ℕ) × (Take d vs n × (m ≡ plain_bytes d v.of + n))
  take-plain _ _ v vs e f nothing = absurd (cc e)
  take-plain _ _ v vs e f (plain w ws n h t) =
      let first : w ≡ v = cc e in
      let tails : ws ≡ vs = cc e in
      (n, (let P : List Variable → Type 0 = λ xs. Take d xs n in subst P tails t, ap (λ (x : Variable). plain_bytes d x.of + n) first))
  take-plain _ _ v vs e f (part w ws s inner n h off t u) =
      let first : w ≡ v = cc e in
      absurd (let held : struct_held d w.of ≡ struct_held d v.of = ap (λ (x : Variable). struct_held d x.of) first in cc (h, held, f))
  take-plain _ _ v vs e f (cycle w ws s n h p t) =
      let first : w ≡ v = cc e in
      absurd (let held : struct_held d w.of ≡ struct_held d v.of = ap (λ (x : Variable). struct_held d x.of) first in cc (h, held, f))

  -- A field that holds a struct takes the struct's bytes beside its own 8, or its own 8 alone.
  abbrev Inner : ℕ → ℕ → Type 0
  Inner s inner = ((OnCycle s → ⊥) × Take d (fields_at (slice_get d.structs s)) inner) ⊎ (OnCycle s × (inner ≡ 0))

  record Held (vs : List Variable) (s m : ℕ) : Type 0 where
    inner : ℕ
    rest : ℕ
    holds : Inner s inner
    behind : Take d vs rest
    is : m ≡ 8 + inner + rest

  take-held : (all : List Variable) (m : ℕ) (v : Variable) (vs : List Variable) (s : ℕ) → all ≡ v ∷ vs → struct_held d v.of ≡ Some s → Take d all m → Held vs s m
  take-held _ _ v vs s e f nothing = absurd (cc e)
  take-held _ _ v vs s e f (plain w ws n h t) =
      let first : w ≡ v = cc e in
      absurd (let held : struct_held d w.of ≡ struct_held d v.of = ap (λ (x : Variable). struct_held d x.of) first in cc (h, held, f))
  take-held _ _ v vs s e f (part w ws r inner n h off t u) =
      let first : w ≡ v = cc e in
      let tails : ws ≡ vs = cc e in
      let same : r ≡ s = some_same r s (sym h ∙ ap (λ (x : Variable). struct_held d x.of) first ∙ f) in
      record {
        inner = inner;
        rest = n;
        holds = inl (let P : ℕ → Type 0 = λ k. (OnCycle k → ⊥) × Take d (fields_at (slice_get d.structs k)) inner in subst P same (off, t));
        behind = let P : List Variable → Type 0 = λ xs. Take d xs n in subst P tails u;
        is = refl;
      }
  take-held _ _ v vs s e f (cycle w ws r n h p t) =
      let first : w ≡ v = cc e in
      let tails : ws ≡ vs = cc e in
      let same : r ≡ s = some_same r s (sym h ∙ ap (λ (x : Variable). struct_held d x.of) first ∙ f) in
      record {
        inner = 0;
        rest = n;
        holds = inr (let P : ℕ → Type 0 = OnCycle in subst P same p, refl);
        behind = let P : List Variable → Type 0 = λ xs. Take d xs n in subst P tails t;
        is = refl;
      }

  -- Fields take one number at most.
  pub take-one : (vs : List Variable) (n m : ℕ) → Take d vs n → Take d vs m → n ≡ m
  take-one _ _ m nothing t = sym (take-nothing [] m refl t)
  take-one _ _ m (plain v vs n h a) t =
      let r = take-plain (v ∷ vs) m v vs refl h t in
      ap (λ k. plain_bytes d v.of + k) (take-one vs n r.0 a r.1.0) ∙ sym r.1.1
  take-one _ _ m (part v vs s inner n h off a b) t =
      let r = take-held (v ∷ vs) m v vs s refl h t in
      elim r.holds [
        | inl k ↦ (let first : inner ≡ r.inner = take-one (fields_at (slice_get d.structs s)) inner r.inner a k.1 in let second : n ≡ r.rest = take-one vs n r.rest b r.behind in omega (arith, first, second, r.is))
        | inr k ↦ absurd (off k.0)
      ]
  take-one _ _ m (cycle v vs s n h p b) t =
      let r = take-held (v ∷ vs) m v vs s refl h t in
      elim r.holds [
        | inl k ↦ absurd (k.0 p)
        | inr k ↦ (let first : r.inner ≡ 0 = k.1 in let second : n ≡ r.rest = take-one vs n r.rest b r.behind in omega (arith, first, second, r.is))
      ]

  -- Fields, and fields after them.
  pub take-append : (xs ys : List Variable) (n m : ℕ) → Take d xs n → Take d ys m → Take d (xs ++ ys) (n + m)
  take-append _ ys _ m nothing u = let P : ℕ → Type 0 = Take d ys in subst P (let e : m ≡ 0 + m = omega arith in e) u
  take-append _ ys _ m (plain v vs n h a) u =
      let P : ℕ → Type 0 = Take d (v ∷ (vs ++ ys)) in
      subst P (let e : plain_bytes d v.of + (n + m) ≡ plain_bytes d v.of + n + m = omega arith in e) (plain v (vs ++ ys) (n + m) h (take-append vs ys n m a u))
  take-append _ ys _ m (part v vs s inner n h off a b) u =
      let P : ℕ → Type 0 = Take d (v ∷ (vs ++ ys)) in
      subst P (let e : 8 + inner + (n + m) ≡ 8 + inner + n + m = omega arith in e) (part v (vs ++ ys) s inner (n + m) h off a (take-append vs ys n m b u))
  take-append _ ys _ m (cycle v vs s n h p b) u =
      let P : ℕ → Type 0 = Take d (v ∷ (vs ++ ys)) in
      subst P (let e : 8 + (n + m) ≡ 8 + n + m = omega arith in e) (cycle v (vs ++ ys) s (n + m) h p (take-append vs ys n m b u))

  -- A struct that is held is there.
  abbrev IsThere : ℕ → Type 0
  IsThere s = (structure : Structure) × (slice_get d.structs s ≡ Some structure)

-- A number of a list's position has an item.
position-there : (test : Structure → Bool) (k : ℕ) (structs : List Structure) (s : ℕ) → position_from test k structs ≡ Some s
    → (i : ℕ) × ((structure : Structure) × ((s ≡ k + i) × (slice_get structs i ≡ Some structure)))
position-there test k [] s h = absurd (cc h)
position-there test k (x ∷ xs) s h = by_test (position-there test (k + 1) xs s) (test x) refl
  where
    by_test : (position_from test (k + 1) xs ≡ Some s → (i : ℕ) × ((structure : Structure) × ((s ≡ k + 1 + i) × (slice_get xs i ≡ Some structure)))) → (b : Bool) → test x ≡ b → (i : ℕ) × ((structure : Structure) × ((s ≡ k + i) × (slice_get (x ∷ xs) i ≡ Some structure)))
    by_test others true e = (0, (x, ((let same : k ≡ s = cc (h, e) in omega (arith, same)), refl)))
    by_test others false e =
        let r = others (let more : position_from test (k + 1) xs ≡ Some s = cc (h, e) in more) in
        (suc r.0, (r.1.0, (omega (arith, r.1.1.0), r.1.1.1)))

pub held-there : (d : Declared) (t : TypeTree) (s : ℕ) → struct_held d t ≡ Some s → (structure : Structure) × (slice_get d.structs s ≡ Some structure)
held-there d (tree.slice_of at element) s h = absurd (cc h)
held-there d (tree.array_of length at element) s h = absurd (cc h)
held-there d (tree.base_type name at bounds) s h = absurd (cc h)
held-there d (tree.status_type at bounds) s h = absurd (cc h)
held-there d (tree.struct_type name) s h =
    let r = position-there (λ (x : Structure). is_spelt name.text.0 x.name) 0 d.structs s h in
    let same : r.0 ≡ s = omega (arith, r.1.1.0) in
    (r.1.0, (let P : ℕ → Type 0 = λ k. slice_get d.structs k ≡ Some r.1.0 in subst P same r.1.1.1))

row-there : (d : Declared) (structs : List Structure) (s : ℕ) (structure : Structure) → slice_get structs s ≡ Some structure
    → slice_get (map (row_of d) structs) s ≡ Some (row_of d structure)
row-there d [] s structure h = absurd (cc h)
row-there d (x ∷ xs) zero structure h = let same : x ≡ structure = cc h in ap (λ y. Some (row_of d y)) same
row-there d (x ∷ xs) (suc s) structure h = row-there d xs s structure h

known_some : (size : Option ℕ) → is_some size ≡ true → (n : ℕ) × (size ≡ Some n)
known_some None h = absurd (cc h)
known_some (Some n) h = (n, refl)

not_true : (b : Bool) → (b ≡ true → ⊥) → b ≡ false
not_true true h = absurd (h refl)
not_true false h = refl

module _ (d : Declared) (flags : List Bool) (sizes : List (Option ℕ)) (holding : AreHolding d flags) (sound : AreSizes d sizes) where
  pub sum-none : (ps : List FieldPart) → sum_after flags sizes None ps ≡ None
  sum-none [] = refl
  sum-none (p ∷ ps) = sum-none ps

  -- What is known of a field.
  plain-bytes : (v : Variable) → struct_held d v.of ≡ None → part_bytes flags sizes (part_of d v) ≡ Some (capped (plain_bytes d v.of))
  plain-bytes v h = ap (λ s. part_bytes flags sizes (part_with (plain_bytes d v.of) s)) h

  held-bytes : (v : Variable) (s : ℕ) → struct_held d v.of ≡ Some s → part_bytes flags sizes (part_of d v) ≡ struct_bytes (is_flagged (slice_get flags s)) (size_in (slice_get sizes s))
  held-bytes v s h = ap (λ x. part_bytes flags sizes (part_with (plain_bytes d v.of) x)) h

  cycle-bytes : (v : Variable) (s : ℕ) → struct_held d v.of ≡ Some s → Path (holds_struct d) s s → part_bytes flags sizes (part_of d v) ≡ Some 8
  cycle-bytes v s h p = held-bytes v s h ∙ ap (λ b. struct_bytes b (size_in (slice_get sizes s))) (holding.complete s p)

  part-known : (v : Variable) (s n : ℕ) → struct_held d v.of ≡ Some s → (Path (holds_struct d) s s → ⊥) → size_in (slice_get sizes s) ≡ Some n
      → part_bytes flags sizes (part_of d v) ≡ Some (capped (8 + n))
  part-known v s n h off e =
      held-bytes v s h ∙ ap (λ b. struct_bytes b (size_in (slice_get sizes s))) (not_true (is_flagged (slice_get flags s)) (λ t. off (holding.sound s t))) ∙ ap (struct_bytes false) e

  -- One field more.
  sum-step : (a b c : ℕ) (p : FieldPart) (ps : List FieldPart) → part_bytes flags sizes p.part ≡ Some b → capped (capped a + b) ≡ capped c
      → sum_after flags sizes (Some (capped a)) (p ∷ ps) ≡ sum_after flags sizes (Some (capped c)) ps
  sum-step a b c p ps h e = ap (λ x. sum_after flags sizes (added (Some (capped a)) x) ps) h ∙ ap (λ n. sum_after flags sizes (Some n) ps) e

  -- What fields take is known, where all sizes are known that can be.
  module _ (settled : AreSettled flags sizes (map (row_of d) d.structs)) where
    pub sum-takes : (vs : List Variable) (m a : ℕ) → Take d vs m → sum_after flags sizes (Some (capped a)) (map (field_of d) vs) ≡ Some (capped (a + m))
    sum-takes _ _ a nothing = ap (λ n. Some (capped n)) (let e : a ≡ a + 0 = omega arith in e)
    sum-takes _ _ a (plain v vs n h t) =
        sum-step a (capped (plain_bytes d v.of)) (a + plain_bytes d v.of) (field_of d v) (map (field_of d) vs) (plain-bytes v h) (capped-twice a (plain_bytes d v.of))
        ∙ sum-takes vs n (a + plain_bytes d v.of) t ∙ ap (λ k. Some (capped k)) (let e : a + plain_bytes d v.of + n ≡ a + (plain_bytes d v.of + n) = omega arith in e)
    sum-takes _ _ a (part v vs s inner n h off t u) =
        let there = held-there d v.of s h in
        let fields : fields_at (slice_get d.structs s) ≡ there.0.fields = ap fields_at there.1 in
        let sums : sum_after flags sizes (Some 0) (row_of d there.0) ≡ Some (capped inner) =
        ap (λ xs. sum_after flags sizes (Some 0) (map (field_of d) xs)) (sym fields) ∙ sum-takes (fields_at (slice_get d.structs s)) inner 0 t ∙ ap (λ k. Some (capped k)) (let e : 0 + inner ≡ inner = omega arith in e) in
        let known = known_some (size_in (slice_get sizes s)) (settled s (row_of d there.0) (row-there d d.structs s there.0 there.1) (ap is_some sums)) in
        let size = sound s known.0 known.1 in
        let whole : size.whole ≡ inner = take-one d (fields_at (slice_get d.structs s)) size.whole inner size.takes t in
        let number : known.0 ≡ capped inner = size.is ∙ ap capped whole in
        let one : part_bytes flags sizes (part_of d v) ≡ Some (capped (8 + capped inner)) = part-known v s known.0 h off known.1 ∙ ap (λ k. Some (capped (8 + k))) number in
        sum-step a (capped (8 + capped inner)) (a + (8 + inner)) (field_of d v) (map (field_of d) vs) one (let e : capped (capped a + capped (8 + capped inner)) ≡ capped (a + (8 + inner)) = omega arith in e)
        ∙ sum-takes vs n (a + (8 + inner)) u ∙ ap (λ k. Some (capped k)) (let e : a + (8 + inner) + n ≡ a + (8 + inner + n) = omega arith in e)
    sum-takes _ _ a (cycle v vs s n h p t) =
        sum-step a 8 (a + 8) (field_of d v) (map (field_of d) vs) (cycle-bytes v s h p) (let e : capped (capped a + 8) ≡ capped (a + 8) = omega arith in e)
        ∙ sum-takes vs n (a + 8) t ∙ ap (λ k. Some (capped k)) (let e : a + 8 + n ≡ a + (8 + n) = omega arith in e)

  -- What is known of fields is what they take.
  record Takes (vs : List Variable) (a n : ℕ) : Type 0 where
    whole : ℕ
    takes : Take d vs whole
    is : n ≡ capped (a + whole)

  one-field : (v : Variable) (n : ℕ) → part_bytes flags sizes (part_of d v) ≡ Some n → (whole : ℕ) × (Take d (v ∷ []) whole × (n ≡ capped whole))
  one-field v n h = by_held (struct_held d v.of) refl
    where
      by_size : (s : ℕ) → struct_held d v.of ≡ Some s → is_flagged (slice_get flags s) ≡ false → (size : Option ℕ) → size_in (slice_get sizes s) ≡ size
          → (whole : ℕ) × (Take d (v ∷ []) whole × (n ≡ capped whole))
      by_size s e f None g = absurd (let off : None ≡ Some n = sym (held-bytes v s e ∙ ap (λ b. struct_bytes b (size_in (slice_get sizes s))) f ∙ ap (struct_bytes false) g) ∙ h in cc off)
      by_size s e f (Some k) g =
          let off : Path (holds_struct d) s s → ⊥ = λ p. absurd (cc (holding.complete s p, f)) in
          let size = sound s k g in
          let same : capped (8 + k) ≡ n = some_same (capped (8 + k)) n (sym (part-known v s k e off g) ∙ h) in
          (8 + size.whole + 0, (part v [] s size.whole 0 e off size.takes nothing, omega (arith, same, size.is)))

      by_flag : (s : ℕ) → struct_held d v.of ≡ Some s → (b : Bool) → is_flagged (slice_get flags s) ≡ b → (whole : ℕ) × (Take d (v ∷ []) whole × (n ≡ capped whole))
      by_flag s e true f =
          let p = holding.sound s f in
          let same : 8 ≡ n = some_same 8 n (sym (cycle-bytes v s e p) ∙ h) in
          (8 + 0, (cycle v [] s 0 e p nothing, omega (arith, same)))
      by_flag s e false f = by_size s e f (size_in (slice_get sizes s)) refl

      by_held : (held : Option ℕ) → struct_held d v.of ≡ held → (whole : ℕ) × (Take d (v ∷ []) whole × (n ≡ capped whole))
      by_held None e =
          let same : capped (plain_bytes d v.of) ≡ n = some_same (capped (plain_bytes d v.of)) n (sym (plain-bytes v e) ∙ h) in
          (plain_bytes d v.of + 0, (plain v [] 0 e nothing, omega (arith, same)))
      by_held (Some s) e = by_flag s e (is_flagged (slice_get flags s)) refl

  pub sum-taken : (vs : List Variable) (a n : ℕ) → sum_after flags sizes (Some (capped a)) (map (field_of d) vs) ≡ Some n
      → (whole : ℕ) × (Take d vs whole × (n ≡ capped (a + whole)))
  sum-taken [] a n h = (0, (nothing, (let same : capped a ≡ n = cc h in omega (arith, same))))
  sum-taken (v ∷ vs) a n h = by_bytes (λ b. sum-taken vs b n) (part_bytes flags sizes (part_of d v)) refl
    where
      by_bytes : ((b : ℕ) → sum_after flags sizes (Some (capped b)) (map (field_of d) vs) ≡ Some n → (whole : ℕ) × (Take d vs whole × (n ≡ capped (b + whole)))) → (bytes : Option ℕ) → part_bytes flags sizes (part_of d v) ≡ bytes → (whole : ℕ) × (Take d (v ∷ vs) whole × (n ≡ capped (a + whole)))
      by_bytes others None e =
          absurd (let off : None ≡ Some n = sym (ap (λ x. sum_after flags sizes (added (Some (capped a)) x) (map (field_of d) vs)) e ∙ sum-none (map (field_of d) vs)) ∙ h in cc off)
      by_bytes others (Some b) e =
          let first = one-field v b e in
          let way : capped (capped a + b) ≡ capped (a + first.0) = ap (λ k. capped (capped a + k)) first.1.1 ∙ capped-twice a first.0 in
          let rest = others (a + first.0) (sym (sum-step a b (a + first.0) (field_of d v) (map (field_of d) vs) e way) ∙ h) in
          (first.0 + rest.0, (take-append d (v ∷ []) vs first.0 rest.0 first.1.0 rest.1.0, (rest.1.1 ∙ ap capped (let e : a + first.0 + rest.0 ≡ a + (first.0 + rest.0) = omega arith in e))))
