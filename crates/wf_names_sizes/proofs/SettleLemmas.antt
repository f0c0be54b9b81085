-- A pass along an order: sizes that become known are right, and each struct's size is known when its turn was.
use Rattle.std.proofs.Common.{◌≡◌, ◌⊎◌, ℕ, zero, suc, ◌+◌, ◌<◌, ◌≤◌, ◌||◌, Bool, true, false, List, [], ◌∷◌, map, take, length, Option, Some, None, slice_get, slice_set, slice_index_or, is_some, nat_eq, refl, sym, ap, ◌∙◌, subst, inl, inr, arith}
use Rattle.std.specs.Prelude.{replicate}
use Rattle.std.specs.List.{list_any}
use Rattle.std.proofs.lemmas.Bool.Decides.{nat_tests}
use Rattle.wf_names_rules.specs.Declarations.{Variable, Structure, Declared}
use Rattle.graphs.specs.Graphs.{holds}
use Rattle.wf_names_rules.specs.Passes.{is_flagged}
use Rattle.wf_names_rules.specs.Sizes.{fields_at, is_the, struct_held, plain_bytes, Take}
use Rattle.graphs.proofs.NumberLemmas.{same_number, number_self}
use Rattle.wf_names_sizes.specs.declared.parts.FieldPart.{FieldPart}
use Rattle.wf_names_sizes.specs.declared.parts.Part.{Part}
use Rattle.wf_names_sizes.specs.declared.parts.Part.TheVariants as parts
use Rattle.wf_names_sizes.specs.Orders.{is_struct, has_struct, IsHoldingOrder, IsSettlingOrder}
use Rattle.wf_names_sizes.specs.StructSizes.{capped, part_with, field_of, row_of, added, struct_bytes, size_in, part_bytes, sum_after, AreHolding, TakesCapped, AreSizes, AreSettled}
use Rattle.wf_names_sizes.proofs.TakeLemmas.{sum-taken}

set-same : (sizes : List (Option ℕ)) (s : ℕ) (x : Option ℕ) → s < length sizes → slice_get (slice_set sizes s x) s ≡ Some x
set-same [] s x h = absurd (omega (arith, h))
set-same (y ∷ ys) zero x h = refl
set-same (y ∷ ys) (suc s) x h = set-same ys s x (omega (arith, h))

set-other : (sizes : List (Option ℕ)) (s t : ℕ) (x : Option ℕ) → nat_eq s t ≡ false → slice_get (slice_set sizes s x) t ≡ slice_get sizes t
set-other [] zero t x h = refl
set-other [] (suc s) t x h = refl
set-other (y ∷ ys) zero zero x h = absurd (cc h)
set-other (y ∷ ys) zero (suc t) x h = refl
set-other (y ∷ ys) (suc s) zero x h = refl
set-other (y ∷ ys) (suc s) (suc t) x h = set-other ys s t x (let e : nat_eq s t ≡ false = grind (arith, nat_tests, h) in e)

pub set-length : (sizes : List (Option ℕ)) (s : ℕ) (x : Option ℕ) → length (slice_set sizes s x) ≡ length sizes
set-length [] zero x = refl
set-length [] (suc s) x = refl
set-length (y ∷ ys) zero x = refl
set-length (y ∷ ys) (suc s) x = ap suc (set-length ys s x)

-- No size is known at first.
pub no-sizes : (d : Declared) (count : ℕ) → AreSizes d (replicate count None)
no-sizes d count s n h = absurd (none_known count s n h)
  where
    none_known : (k t m : ℕ) → size_in (slice_get (replicate k None) t) ≡ Some m → ⊥
    none_known zero t m e = absurd (cc e)
    none_known (suc k) zero m e = absurd (cc e)
    none_known (suc k) (suc t) m e = none_known k t m e

-- The sizes with that of one struct.
abbrev pub settled : (flags : List Bool) → List (Option ℕ) → List FieldPart → ℕ → List (Option ℕ)
settled flags sizes row s = slice_set sizes s (sum_after flags sizes (Some 0) row)

pub settled-sound : (d : Declared) (flags : List Bool) (rows : List (List FieldPart)) (sizes : List (Option ℕ)) (row : List FieldPart) (s : ℕ) → rows ≡ map (row_of d) d.structs → AreHolding d flags
    → AreSizes d sizes → s < length sizes → slice_get rows s ≡ Some row → AreSizes d (settled flags sizes row s)
settled-sound d flags rows sizes row s made holding sound within is t m h = by_test t m h (nat_eq s t) refl
  where
    x : Option ℕ
    x = sum_after flags sizes (Some 0) row

    there : (structs : List Structure) (k : ℕ) → slice_get (map (row_of d) structs) k ≡ Some row → (structure : Structure) × ((slice_get structs k ≡ Some structure) × (row_of d structure ≡ row))
    there [] k e = absurd (cc e)
    there (y ∷ ys) zero e = (y, (refl, (let same : row_of d y ≡ row = cc e in same)))
    there (y ∷ ys) (suc k) e = there ys k e

    by_test : (t m : ℕ) → size_in (slice_get (settled flags sizes row s) t) ≡ Some m → (b : Bool) → nat_eq s t ≡ b → TakesCapped d (fields_at (slice_get d.structs t)) m
    by_test t m h false f = sound t m (ap size_in (sym (set-other sizes s t x f)) ∙ h)
    by_test t m h true f =
        let same : s ≡ t = same_number s t f in
        let P : ℕ → Type 0 = λ k. size_in (slice_get (settled flags sizes row s) k) ≡ Some m in
        let here : size_in (slice_get (settled flags sizes row s) s) ≡ Some m = subst P (sym same) h in
        let known : x ≡ Some m = sym (ap size_in (set-same sizes s x within)) ∙ here in
        let one = there d.structs s (ap (λ rs. slice_get rs s) (sym made) ∙ is) in
        let sums : sum_after flags sizes (Some 0) (row_of d one.0) ≡ Some m = ap (sum_after flags sizes (Some 0)) one.1.1 ∙ known in
        let taken = sum-taken d flags sizes holding sound one.0.fields 0 m sums in
        let F : List Variable → Type 0 = λ vs. Take d vs taken.0 in
        let Q : ℕ → Type 0 = λ k. TakesCapped d (fields_at (slice_get d.structs k)) m in
        subst Q same (record { whole = taken.0; takes = subst F (sym (ap fields_at one.1.0)) taken.1.0; is = taken.1.1 ∙ ap capped (let zero_front : 0 + taken.0 ≡ taken.0 = omega arith in zero_front) })

-- Where the sizes of all that a row has are known, or they are flagged, its own is.
abbrev pub IsKnown : List (Option ℕ) → ℕ → Type 0
IsKnown sizes t = is_some (size_in (slice_get sizes t)) ≡ true

or-left : (x y : Bool) → x ≡ true → (x || y) ≡ true
or-left true y h = refl
or-left false y h = absurd (cc h)

or-right : (x y : Bool) → y ≡ true → (x || y) ≡ true
or-right true y h = refl
or-right false y h = h

struct-known : (flag : Bool) (size : Option ℕ) → (flag ≡ false → is_some size ≡ true) → is_some (struct_bytes flag size) ≡ true
struct-known true size h = refl
struct-known false None h = h refl
struct-known false (Some n) h = refl

part-known : (flags : List Bool) (sizes : List (Option ℕ)) (p : Part) → ((t : ℕ) → is_struct t p ≡ true → is_flagged (slice_get flags t) ≡ false → IsKnown sizes t)
    → is_some (part_bytes flags sizes p) ≡ true
part-known flags sizes (parts.Plain n) h = refl
part-known flags sizes (parts.Struct s) h = struct-known (is_flagged (slice_get flags s)) (size_in (slice_get sizes s)) (h s (number_self s))

pub sum-known : (flags : List Bool) (sizes : List (Option ℕ)) (row : List FieldPart) (n : ℕ) → ((t : ℕ) → has_struct row t ≡ true → is_flagged (slice_get flags t) ≡ false → IsKnown sizes t)
    → is_some (sum_after flags sizes (Some n) row) ≡ true
sum-known flags sizes [] n h = refl
sum-known flags sizes (p ∷ ps) n h =
    by_bytes (part_bytes flags sizes p.part) (part-known flags sizes p.part (λ t e. h t (or-left (is_struct t p.part) (has_struct ps t) e)))
    (λ m. sum-known flags sizes ps m (λ t e. h t (or-right (is_struct t p.part) (has_struct ps t) e)))
  where
    by_bytes : (bytes : Option ℕ) → is_some bytes ≡ true → ((m : ℕ) → is_some (sum_after flags sizes (Some m) ps) ≡ true) → is_some (sum_after flags sizes (added (Some n) bytes) ps) ≡ true
    by_bytes None e others = absurd (cc e)
    by_bytes (Some b) e others = others (capped (n + b))

-- The sizes that are known along the order.
abbrev pub AreKnown : (order : List ℕ) (sizes : List (Option ℕ)) → Type 0
AreKnown order sizes = (t : ℕ) → holds order t ≡ true → IsKnown sizes t

pub get-index : (ks : List ℕ) (i d : ℕ) → i < length ks → slice_get ks i ≡ Some (slice_index_or ks i d)
get-index [] i d h = absurd (omega (arith, h))
get-index (k ∷ ks) zero d h = refl
get-index (k ∷ ks) (suc i) d h = get-index ks i d (omega (arith, h))

pub take-whole : (ks : List ℕ) (i : ℕ) → length ks ≤ i → take i ks ≡ ks
take-whole [] zero h = refl
take-whole [] (suc i) h = refl
take-whole (k ∷ ks) zero h = absurd (omega (arith, h))
take-whole (k ∷ ks) (suc i) h = ap (λ xs. k ∷ xs) (take-whole ks i (omega (arith, h)))

take-next : (ks : List ℕ) (i a b : ℕ) → slice_get ks i ≡ Some a → holds (take (i + 1) ks) b ≡ true → (nat_eq a b ≡ true) ⊎ (holds (take i ks) b ≡ true)
take-next [] i a b e h = absurd (cc e)
take-next (k ∷ ks) zero a b e h = let same : k ≡ a = cc e in by_test (nat_eq b k) refl h
  where
    by_test : (t : Bool) → nat_eq b k ≡ t → (t || holds [] b) ≡ true → (nat_eq a b ≡ true) ⊎ (holds [] b ≡ true)
    by_test true f g = inl (let both : b ≡ a = same_number b k f ∙ cc e in let P : ℕ → Type 0 = λ x. nat_eq a x ≡ true in subst P (sym both) (number_self a))
    by_test false f g = inr g
take-next (k ∷ ks) (suc i) a b e h = by_test (take-next ks i a b e) (nat_eq b k) refl (let next : suc i + 1 ≡ suc (i + 1) = omega arith in let P : ℕ → Type 0 = λ n. holds (take n (k ∷ ks)) b ≡ true in subst P next h)
  where
    by_test : (holds (take (i + 1) ks) b ≡ true → (nat_eq a b ≡ true) ⊎ (holds (take i ks) b ≡ true)) → (t : Bool) → nat_eq b k ≡ t → (t || holds (take (i + 1) ks) b) ≡ true
        → (nat_eq a b ≡ true) ⊎ (holds (take (suc i) (k ∷ ks)) b ≡ true)
    by_test others true f g = inr (or-left (nat_eq b k) (holds (take i ks) b) f)
    by_test others false f g = elim (others g) [ inl p ↦ inl p | inr q ↦ inr (or-right (nat_eq b k) (holds (take i ks) b) q) ]

pub settled-known : (flags : List Bool) (rows : List (List FieldPart)) (order : List ℕ) (sizes : List (Option ℕ)) (row : List FieldPart) (i s : ℕ) → IsSettlingOrder flags rows order → s < length sizes
    → slice_get order i ≡ Some s → slice_get rows s ≡ Some row → AreKnown (take i order) sizes → AreKnown (take (i + 1) order) (settled flags sizes row s)
settled-known flags rows order sizes row i s h within at is known t k = by_test t (nat_eq s t) refl (take-next order i s t at k)
  where
    x : Option ℕ
    x = sum_after flags sizes (Some 0) row

    now : is_some x ≡ true
    now = sum-known flags sizes row 0 (λ u e f. known u (h.behind i s u row at is e f))

    by_test : (t : ℕ) (b : Bool) → nat_eq s t ≡ b → (nat_eq s t ≡ true) ⊎ (holds (take i order) t ≡ true) → IsKnown (settled flags sizes row s) t
    by_test t true f c =
        let P : ℕ → Type 0 = λ u. IsKnown (settled flags sizes row s) u in
        subst P (same_number s t f) (ap (λ y. is_some (size_in y)) (set-same sizes s x within) ∙ now)
    by_test t false f (inl p) = absurd (cc (p, f))
    by_test t false f (inr q) = ap (λ y. is_some (size_in y)) (set-other sizes s t x f) ∙ known t q

row-within : (rows : List (List FieldPart)) (s : ℕ) (row : List FieldPart) → slice_get rows s ≡ Some row → s < length rows
row-within [] s row h = absurd (cc h)
row-within (r ∷ rs) zero row h = omega arith
row-within (r ∷ rs) (suc s) row h = omega (arith, row-within rs s row h)

-- After the pass all are settled.
pub all-settled : (flags : List Bool) (rows : List (List FieldPart)) (order : List ℕ) (sizes : List (Option ℕ)) → IsSettlingOrder flags rows order → AreKnown order sizes → AreSettled flags sizes rows
all-settled flags rows order sizes h known s row is e = known s (h.every s (row-within rows s row is))

-- An order of the structs settles their rows.
pub length-map : (d : Declared) (structs : List Structure) → length (map (row_of d) structs) ≡ length structs
length-map d [] = refl
length-map d (x ∷ xs) = ap suc (length-map d xs)

pub has-held : (d : Declared) (t : ℕ) (vs : List Variable) → has_struct (map (field_of d) vs) t ≡ list_any (λ v. is_the t (struct_held d v.of)) vs
has-held d t [] = refl
has-held d t (v ∷ vs) =
    ap (λ b. b || has_struct (map (field_of d) vs) t) (one (plain_bytes d v.of) (struct_held d v.of)) ∙ ap (λ b. is_the t (struct_held d v.of) || b) (has-held d t vs)
  where
    one : (bytes : ℕ) (held : Option ℕ) → is_struct t (part_with bytes held) ≡ is_the t held
    one bytes None = refl
    one bytes (Some s) = refl

row-holds : (d : Declared) (structs : List Structure) (s t : ℕ) (row : List FieldPart) → slice_get (map (row_of d) structs) s ≡ Some row
    → has_struct row t ≡ list_any (λ v. is_the t (struct_held d v.of)) (fields_at (slice_get structs s))
row-holds d [] s t row h = absurd (cc h)
row-holds d (x ∷ xs) zero t row h = let same : row_of d x ≡ row = cc h in ap (λ r. has_struct r t) (sym same) ∙ has-held d t x.fields
row-holds d (x ∷ xs) (suc s) t row h = row-holds d xs s t row h

pub order-settles : (d : Declared) (flags : List Bool) (order : List ℕ) → AreHolding d flags → IsHoldingOrder d order → IsSettlingOrder flags (map (row_of d) d.structs) order
order-settles d flags order holding h = record {
  every = λ s l. h.every s (omega (arith, l, length-map d d.structs));
  within = λ s k. omega (arith, h.within s k, length-map d d.structs);
  behind = λ i s t row at is has off. elim (h.behind i s t at (sym (row-holds d d.structs s t row is) ∙ has)) [ inl p ↦ p | inr q ↦ absurd (cc (holding.complete t q, off)) ];
}
