-- How many struct states there are in a struct, and the states one after the other.
use Rattle.std.proofs.Common.{◌≡◌, ℕ, zero, suc, ◌+◌, ◌<◌, ◌≤◌, ◌||◌, Bool, true, false, not, nat_eq, nat_lt, List, [], ◌∷◌, ◌++◌, length, map, drop, get_or, set, reverse, Option, Some, None, refl, sym, ap, ◌∙◌, arith, ltb-true, ltb-false, append_assoc}
use Rattle.std.specs.Prelude.{slice_get, option_map, unwrap_or}
use Rattle.std.specs.List.{list_all, AllByRecursion, IsDistinct}
use Rattle.std.proofs.lemmas.Bool.{eq-eqb, eqb-true}
use Rattle.std.proofs.lemmas.List.{append-nil, drop_more, get_or-set_same, get_or-set_other, length-append, length-map, length-set, reverse-append}
use Rattle.std.proofs.lemmas.Map.Keys.{IsDistinct-cons}
use Rattle.std.proofs.lemmas.Map.Steps.{length-le_from_distinct_below}
use Rattle.std.proofs.lemmas.Option.{slice_get-get_or, slice_get_past}
use Rattle.wf_ast.specs.declared.types.Ty.{Ty}
use Rattle.wf_ast.specs.declared.types.Ty.TheVariants as types
use Rattle.wf_ast.specs.declared.typed_nodes.TypedNodes.{TypedNodes}
use Rattle.wf_ast.specs.TypedPackage.{PackageTree, StructTree, Variable, package_of, struct_of}
use Rattle.wf_ast.specs.WellTyped.{all_structs_whole, calls_in_front, has_struct_order, is_among, is_whole_struct, is_whole_type, structs_in_front, well_method, well_typed}
use Rattle.wf_meaning.specs.SourceState.{Held, Object, fields_of, fresh_field, fresh_fields, inside_field, inside_fields, raw_object}
use Rattle.wf_meaning.proofs.Lists.{both_true}
use Rattle.wf_mean_exprs.specs.declared.objects.ObjectState.{ObjectState}
use Rattle.wf_mean_exprs.specs.MachineState.{object_seen}
use Rattle.wf_mean.specs.Sizes.{AreSizes, HaveSizes, field_types, fields_from, raw_with, size_at, size_inside, sizes_inside, states_of, states_of_all, struct_in, structs_in}
use Rattle.wf_mean.proofs.FreshLaws.{seen-long}
use Rattle.wf_mean.proofs.LevelLaws.{no-fields, states-are}

none-more : (n : ℕ) → n ≡ n + 0
none-more n = omega arith

-- Sizes of what is inside fields, where those of the structs in them are known.
abbrev Sized : (p : PackageTree) → (sizes : List ℕ) → (known : ℕ → Bool) → Type 0
Sized p sizes known = (s n : ℕ) → known s ≡ true → size_at sizes s ≡ length (states_of p s n)

size-inside : (p : PackageTree) (sizes : List ℕ) (known : ℕ → Bool) → Sized p sizes known → (ty : Ty) (n : ℕ) → is_whole_type known ty ≡ true → size_inside sizes ty ≡ length (inside_field (states_of p) n ty)
size-inside p sizes known sized (types.Num width lo hi) n h = refl
size-inside p sizes known sized types.Flag n h = refl
size-inside p sizes known sized types.Status n h = refl
size-inside p sizes known sized (types.Array width lo hi count) n h = refl
size-inside p sizes known sized (types.Part s) n h = sized s.0 n h
size-inside p sizes known sized types.Reader n h = refl
size-inside p sizes known sized types.Writer n h = refl
size-inside p sizes known sized (types.Slice width) n h = refl

size-all-inside : (p : PackageTree) (sizes : List ℕ) (known : ℕ → Bool) → Sized p sizes known → (xs : List Variable) (n : ℕ) → list_all (λ x. is_whole_type known x.ty) xs ≡ true → sizes_inside sizes (map (λ x. x.ty) xs) ≡ length (inside_fields (states_of p) n xs)
size-all-inside p sizes known sized [] n h = refl
size-all-inside p sizes known sized (x ∷ xs) n h =
    let b = both_true (is_whole_type known x.ty) _ h in
    let own = size-inside p sizes known sized x.ty n b.0 in
    let rest = size-all-inside p sizes known sized xs (n + length (inside_field (states_of p) n x.ty)) b.1 in
    omega (arith, own, rest, length-append (inside_field (states_of p) n x.ty) (inside_fields (states_of p) (n + length (inside_field (states_of p) n x.ty)) xs))

-- The order of the structs.
size-here : (sizes : List ℕ) (s v : ℕ) → s < length sizes → size_at (set sizes s v) s ≡ v
size-here sizes s v less = ap (λ o. unwrap_or o 1) (slice_get-get_or (set sizes s v) s 1 (omega (arith, less, length-set sizes s v))) ∙ get_or-set_same sizes s v 1 less

size-there : (sizes : List ℕ) (s q v : ℕ) → (q ≡ s → ⊥) → size_at (set sizes s v) q ≡ size_at sizes q
size-there sizes s q v other = by (nat_lt q (length sizes)) refl
  where
    by : (b : Bool) → nat_lt q (length sizes) ≡ b → size_at (set sizes s v) q ≡ size_at sizes q
    by true e =
        let less = ltb-true q (length sizes) e in
        ap (λ o. unwrap_or o 1) (slice_get-get_or (set sizes s v) q 1 (omega (arith, less, length-set sizes s v)) ∙ ap (λ n. Some n) (get_or-set_other sizes s q v 1 other) ∙ sym (slice_get-get_or sizes q 1 less))
    by false e =
        let past = ltb-false q (length sizes) e in
        ap (λ o. unwrap_or o 1) (slice_get_past (set sizes s v) q (omega (arith, past, length-set sizes s v)) ∙ sym (slice_get_past sizes q past))

struct-there : (known : ℕ → Bool) (ss : List StructTree) (n : ℕ) → is_whole_struct known (slice_get ss n) ≡ true → n < length ss
struct-there known [] n h = absurd (cc h)
struct-there known (s ∷ ss) zero h = omega arith
struct-there known (s ∷ ss) (suc n) h = omega (arith, struct-there known ss n h)

none-equal : (s : ℕ) (front : List ℕ) → is_among front s ≡ false → AllByRecursion (λ q. nat_eq s q ≡ false) front
none-equal s [] h = tt
none-equal s (q ∷ front) h = by (nat_eq s q) refl h (none-equal s front)
  where
    by : (b : Bool) → nat_eq s q ≡ b → (b || is_among front s) ≡ false → (is_among front s ≡ false → AllByRecursion (λ r. nat_eq s r ≡ false) front) → (nat_eq s q ≡ false) × AllByRecursion (λ r. nat_eq s r ≡ false) front
    by true e h rest = absurd (cc (h))
    by false e h rest = (e, rest h)

not-true : (b : Bool) → not b ≡ true → b ≡ false
not-true true h = absurd (cc (h))
not-true false h = refl

-- Of a list one of which has this number, it is the first or among the others.
among : (s q : ℕ) (front : List ℕ) (P : Type 0) → is_among (s ∷ front) q ≡ true → (q ≡ s → P) → ((q ≡ s → ⊥) → is_among front q ≡ true → P) → P
among s q front P h here there = by (nat_eq q s) refl h
  where
    by : (b : Bool) → nat_eq q s ≡ b → (b || is_among front q) ≡ true → P
    by true e h = here (eqb-true q s e)
    by false e h = there (λ same. let equal : nat_eq q s ≡ true = eq-eqb q s same in absurd (cc (e, equal))) h

fields-front : (known : ℕ → Bool) (p : PackageTree) (s : ℕ) → is_whole_struct known (slice_get p.structs s) ≡ true → list_all (λ (x : Variable). is_whole_type known x.ty) (fields_of p s) ≡ true
fields-front known p s h = by (slice_get p.structs s) h
  where
    by : (o : Option StructTree) → is_whole_struct known o ≡ true → list_all (λ (x : Variable). is_whole_type known x.ty) (unwrap_or (option_map (λ (it : StructTree). it.fields) o) []) ≡ true
    by None h = refl
    by (Some it) h = h

pub order-known : (nodes : TypedNodes) (order : List ℕ) → order ≡ nodes.struct_order → order ≡ (package_of nodes).struct_order
unfolding package_of
order-known nodes order is = is

pub structs-long : (nodes : TypedNodes) → length (package_of nodes).structs ≡ length nodes.structs
unfolding package_of
structs-long nodes = length-map nodes.structs (struct_of nodes)

pub none-sized : (p : PackageTree) (sizes order : List ℕ) → well_typed p ≡ true → order ≡ p.struct_order → length sizes ≡ length p.structs → HaveSizes p sizes order 0
unfolding well_typed IsDistinct
none-sized p sizes order h is long =
    let a = both_true (all_structs_whole p 0 p.structs) _ h in
    let b = both_true (list_all (well_method p) p.methods) _ a.1 in
    let c = both_true (nat_eq (length p.order) (length p.methods)) _ b.1 in
    let d = both_true (calls_in_front p [] p.order) (has_struct_order p) c.1 in
    let e = both_true (nat_eq (length p.struct_order) (length p.structs)) (structs_in_front p [] p.struct_order) d.1 in record {
      front = [];
      count = refl;
      rest = ap (structs_in_front p []) is ∙ e.1;
      distinct = tt;
      below = λ s h. absurd (cc (h));
      long = long;
      sized = λ s n h. absurd (cc (h));
    }

module _ (p : PackageTree) (sizes order : List ℕ) (i : ℕ) (typed : well_typed p ≡ true) (h : HaveSizes p sizes order i) (d : ℕ) (less : i < length order) where
  abbrev s : ℕ
  s = get_or order i d

  next : structs_in_front p h.front (s ∷ drop (i + 1) order) ≡ true
  next = sym (ap (structs_in_front p h.front) (drop_more order i d less)) ∙ h.rest

  whole : is_whole_struct (is_among h.front) (slice_get p.structs s) ≡ true
  whole = (both_true (is_whole_struct (is_among h.front) (slice_get p.structs s)) _ next).0

  pub next-known : s < length p.structs
  next-known = struct-there (is_among h.front) p.structs s whole

  next-size : (v n : ℕ) → v ≡ suc (sizes_inside sizes (field_types p s)) → v ≡ length (states_of p s n)
  next-size v n is =
      let inside = size-all-inside p sizes (is_among h.front) (λ q m k. h.sized q m k) (fields_of p s) (n + 1) (fields-front (is_among h.front) p s whole) in
      is ∙ ap suc inside ∙ sym (ap (λ (os : List Object). length os) (states-are p typed s n))

  pub one-sized : (v : ℕ) → v ≡ suc (sizes_inside sizes (field_types p s)) → HaveSizes p (set sizes s v) order (i + 1)
  one-sized v is =
      let rest = both_true (not (is_among h.front s)) (structs_in_front p (s ∷ h.front) (drop (i + 1) order)) (both_true (is_whole_struct (is_among h.front) (slice_get p.structs s)) _ next).1 in record {
        front = s ∷ h.front;
        count = omega (arith, h.count);
        rest = rest.1;
        distinct = IsDistinct-cons nat_eq s h.front (none-equal s h.front (not-true (is_among h.front s) rest.0)) h.distinct;
        below = λ q k. among s q h.front (q < length p.structs) k (λ same. omega (arith, same, next-known)) (λ other there. h.below q there);
        long = length-set sizes s v ∙ h.long;
        sized = λ q n k. among s q h.front (size_at (set sizes s v) q ≡ length (states_of p q n)) k
            (λ same. ap (size_at (set sizes s v)) same ∙ size-here sizes s v (omega (arith, next-known, h.long)) ∙ next-size v n is ∙ ap (λ (m : ℕ). length (states_of p m n)) (sym same))
            (λ other there. size-there sizes s q v other ∙ h.sized q n there);
      }

pub all-sized : (p : PackageTree) (sizes order : List ℕ) (i : ℕ) → well_typed p ≡ true → order ≡ p.struct_order → length order ≤ i → HaveSizes p sizes order i → AreSizes p sizes
unfolding well_typed
all-sized p sizes order i typed is done h s n = by (nat_lt s (length p.structs)) refl
  where
    many : length p.structs ≤ length h.front
    many =
        let a = both_true (all_structs_whole p 0 p.structs) _ typed in
        let b = both_true (list_all (well_method p) p.methods) _ a.1 in
        let c = both_true (nat_eq (length p.order) (length p.methods)) _ b.1 in
        let d = both_true (calls_in_front p [] p.order) (has_struct_order p) c.1 in
        let e = both_true (nat_eq (length p.struct_order) (length p.structs)) (structs_in_front p [] p.struct_order) d.1 in
        let same : length p.struct_order ≡ length p.structs = eqb-true (length p.struct_order) (length p.structs) e.0 in
        omega (arith, same, ap (λ (xs : List ℕ). length xs) is, done, h.count)

    has : s < length p.structs → (b : Bool) → is_among h.front s ≡ b → b ≡ true
    has less true e = refl
    has less false e =
        let distinct : IsDistinct nat_eq (s ∷ h.front) = IsDistinct-cons nat_eq s h.front (none-equal s h.front e) h.distinct in
        let most = length-le_from_distinct_below (s ∷ h.front) (length p.structs) distinct (λ q k. among s q h.front (q < length p.structs) k (λ same. omega (arith, same, less)) (λ other there. h.below q there)) in
        absurd (omega (arith, most, many))

    by : (b : Bool) → nat_lt s (length p.structs) ≡ b → size_at sizes s ≡ length (states_of p s n)
    by true e = h.sized s n (has (ltb-true s (length p.structs) e) (is_among h.front s) refl)
    by false e =
        let past = ltb-false s (length p.structs) e in
        ap (λ o. unwrap_or o 1) (slice_get_past sizes s (omega (arith, past, h.long))) ∙ sym (ap (λ (os : List Object). length os) (states-are p typed s n) ∙ alone (fields_of p s) (no-fields p s past))
      where
        alone : (xs : List Variable) → xs ≡ [] → length (raw_object p (states_of p) n xs) ≡ 1
        alone [] e = refl
        alone (x ∷ xs) e = absurd (cc (e))

-- What stands in fields, and the struct states inside them.
all-known : (p : PackageTree) (sizes : List ℕ) → AreSizes p sizes → (ty : Ty) (n : ℕ) → size_inside sizes ty ≡ length (inside_field (states_of p) n ty)
all-known p sizes are ty n = size-inside p sizes (λ s. true) (λ s m h. are s m) ty n (any ty)
  where
    any : (ty : Ty) → is_whole_type (λ s. true) ty ≡ true
    any (types.Num width lo hi) = refl
    any types.Flag = refl
    any types.Status = refl
    any (types.Array width lo hi count) = refl
    any (types.Part s) = refl
    any types.Reader = refl
    any types.Writer = refl
    any (types.Slice width) = refl

fields-are : (p : PackageTree) (sizes : List ℕ) → AreSizes p sizes → (xs : List Variable) (n : ℕ) → fields_from sizes n (map (λ x. x.ty) xs) ≡ fresh_fields (states_of p) n xs
fields-are p sizes are [] n = refl
fields-are p sizes are (x ∷ xs) n =
    ap (λ (m : ℕ). fresh_field n x.ty ∷ fields_from sizes (n + m) (map (λ (y : Variable). y.ty) xs)) (all-known p sizes are x.ty n)
    ∙ ap (λ (more : List Held). fresh_field n x.ty ∷ more) (fields-are p sizes are xs (n + length (inside_field (states_of p) n x.ty)))

one-inside : (p : PackageTree) (ty : Ty) (ss : List ℕ) (n : ℕ) → states_of_all p (struct_in ty ++ ss) n ≡ inside_field (states_of p) n ty ++ states_of_all p ss (n + length (inside_field (states_of p) n ty))
one-inside p (types.Num width lo hi) ss n = ap (states_of_all p ss) (none-more n)
one-inside p types.Flag ss n = ap (states_of_all p ss) (none-more n)
one-inside p types.Status ss n = ap (states_of_all p ss) (none-more n)
one-inside p (types.Array width lo hi count) ss n = ap (states_of_all p ss) (none-more n)
one-inside p (types.Part s) ss n = refl
one-inside p types.Reader ss n = ap (states_of_all p ss) (none-more n)
one-inside p types.Writer ss n = ap (states_of_all p ss) (none-more n)
one-inside p (types.Slice width) ss n = ap (states_of_all p ss) (none-more n)

inside-are : (p : PackageTree) (xs : List Variable) (n : ℕ) → states_of_all p (structs_in (map (λ x. x.ty) xs)) n ≡ inside_fields (states_of p) n xs
inside-are p [] n = refl
inside-are p (x ∷ xs) n =
    one-inside p x.ty (structs_in (map (λ (y : Variable). y.ty) xs)) n
    ∙ ap (λ (more : List Object). inside_field (states_of p) n x.ty ++ more) (inside-are p xs (n + length (inside_field (states_of p) n x.ty)))

all-append : (p : PackageTree) (ss more : List ℕ) (n : ℕ) → states_of_all p (ss ++ more) n ≡ states_of_all p ss n ++ states_of_all p more (n + length (states_of_all p ss n))
all-append p [] more n = ap (states_of_all p more) (none-more n)
all-append p (s ∷ ss) more n =
    ap (λ (os : List Object). states_of p s n ++ os) (all-append p ss more (n + length (states_of p s n)))
    ∙ sym (append_assoc (states_of p s n) (states_of_all p ss (n + length (states_of p s n))) (states_of_all p more (n + length (states_of p s n) + length (states_of_all p ss (n + length (states_of p s n))))))
    ∙ ap (λ (m : ℕ). (states_of p s n ++ states_of_all p ss (n + length (states_of p s n))) ++ states_of_all p more m) (omega (arith, length-append (states_of p s n) (states_of_all p ss (n + length (states_of p s n)))))

-- The first of those that are left is made, and those inside it are left.
first-left : (p : PackageTree) (sizes : List ℕ) → well_typed p ≡ true → AreSizes p sizes → (s : ℕ) (ss : List ℕ) (n : ℕ)
    → states_of_all p (s ∷ ss) n ≡ raw_with p (fields_from sizes (n + 1) (field_types p s)) ∷ states_of_all p (structs_in (field_types p s) ++ ss) (n + 1)
first-left p sizes typed are s ss n =
    let xs = fields_of p s in
    let inside : states_of p s n ≡ raw_with p (fields_from sizes (n + 1) (field_types p s)) ∷ states_of_all p (structs_in (field_types p s)) (n + 1) =
    states-are p typed s n
    ∙ ap (λ (fields : List Held). raw_with p fields ∷ inside_fields (states_of p) (n + 1) xs) (sym (fields-are p sizes are xs (n + 1)))
    ∙ ap (λ (os : List Object). raw_with p (fields_from sizes (n + 1) (field_types p s)) ∷ os) (sym (inside-are p xs (n + 1))) in
    let after : n + length (states_of p s n) ≡ n + 1 + length (states_of_all p (structs_in (field_types p s)) (n + 1)) = omega (arith, ap (λ (os : List Object). length os) inside) in
    ap (λ (m : ℕ). states_of p s n ++ states_of_all p ss m) after
    ∙ ap (λ (os : List Object). os ++ states_of_all p ss (n + 1 + length (states_of_all p (structs_in (field_types p s)) (n + 1)))) inside
    ∙ ap (λ (os : List Object). raw_with p (fields_from sizes (n + 1) (field_types p s)) ∷ os) (sym (all-append p (structs_in (field_types p s)) ss (n + 1)))

popped-first : (s : ℕ) (old left now inside : List ℕ) → old ≡ left ++ s ∷ [] → reverse now ≡ inside ++ reverse left → reverse old ≡ s ∷ reverse left
popped-first s old left now inside popped put = ap reverse popped ∙ reverse-append left (s ∷ [])

one-longer : (p : PackageTree) (objects new : List ObjectState) (o : Object) → map (object_seen p) new ≡ map (object_seen p) objects ++ o ∷ [] → length new ≡ length objects + 1
one-longer p objects new o e = seen-long (object_seen p) objects new (o ∷ []) e

module _ (p : PackageTree) (sizes : List ℕ) (typed : well_typed p ≡ true) (are : AreSizes p sizes) (s : ℕ) (old left now : List ℕ) (objects new : List ObjectState)
    (popped : old ≡ left ++ s ∷ []) (put : reverse now ≡ structs_in (field_types p s) ++ reverse left)
    (added : map (object_seen p) new ≡ map (object_seen p) objects ++ raw_with p (fields_from sizes (length objects + 1) (field_types p s)) ∷ []) where
  here : states_of_all p (reverse old) (length objects) ≡ raw_with p (fields_from sizes (length objects + 1) (field_types p s)) ∷ states_of_all p (reverse now) (length new)
  here =
      ap (λ (ss : List ℕ). states_of_all p ss (length objects)) (popped-first s old left now (structs_in (field_types p s)) popped put)
      ∙ first-left p sizes typed are s (reverse left) (length objects)
      ∙ ap (λ (ss : List ℕ). raw_with p (fields_from sizes (length objects + 1) (field_types p s)) ∷ states_of_all p ss (length objects + 1)) (sym put)
      ∙ ap (λ (n : ℕ). raw_with p (fields_from sizes (length objects + 1) (field_types p s)) ∷ states_of_all p (reverse now) n) (sym (one-longer p objects new _ added))

  pub fewer-left : length (states_of_all p (reverse now) (length new)) < length (states_of_all p (reverse old) (length objects))
  fewer-left = omega (arith, ap (λ (os : List Object). length os) here)

  pub one-made : (total : List Object) → map (object_seen p) objects ++ states_of_all p (reverse old) (length objects) ≡ total → map (object_seen p) new ++ states_of_all p (reverse now) (length new) ≡ total
  one-made total so_far =
      ap (λ (os : List Object). os ++ states_of_all p (reverse now) (length new)) added
      ∙ append_assoc (map (object_seen p) objects) (raw_with p (fields_from sizes (length objects + 1) (field_types p s)) ∷ []) (states_of_all p (reverse now) (length new))
      ∙ ap (λ (os : List Object). map (object_seen p) objects ++ os) (sym here)
      ∙ so_far

pub first-put : (p : PackageTree) (s : ℕ) (left : List ℕ) (objects : List ObjectState) → left ≡ s ∷ [] → map (object_seen p) objects ++ states_of_all p (reverse left) (length objects) ≡ map (object_seen p) objects ++ states_of p s (length objects)
first-put p s left objects put =
    ap (λ (ss : List ℕ). map (object_seen p) objects ++ states_of_all p (reverse ss) (length objects)) put ∙ ap (λ (os : List Object). map (object_seen p) objects ++ os) (append-nil (states_of p s (length objects)))

pub all-made : (p : PackageTree) (left : List ℕ) (objects : List ObjectState) (total : List Object) → left ≡ [] → map (object_seen p) objects ++ states_of_all p (reverse left) (length objects) ≡ total → map (object_seen p) objects ≡ total
all-made p left objects total none so_far =
    sym (append-nil (map (object_seen p) objects)) ∙ sym (ap (λ (ss : List ℕ). map (object_seen p) objects ++ states_of_all p (reverse ss) (length objects)) none) ∙ so_far

pub none-there : (xs : List ℕ) → length xs ≡ 0 → xs ≡ []
none-there [] e = refl
none-there (x ∷ xs) e = absurd (omega (arith, e))
