-- The order of a package's methods has each of them once, and the order of its structs has each once, after those that its
-- fields hold.
use Rattle.std.proofs.Common.{◌≡◌, ℕ, ◌<◌, Bool, true, false, not, ◌&&◌, ◌||◌, List, [], ◌∷◌, ◌++◌, length, Option, Some, None, nat_eq, refl, sym, ap, ◌∙◌, subst, arith}
use Rattle.std.specs.Prelude.{slice_get}
use Rattle.std.specs.List.{list_all, IsDistinct, AllByRecursion}
use Rattle.std.proofs.lemmas.Bool.Decides.{nat_tests}
use Rattle.std.proofs.lemmas.List.Folds.{list_any-append}
use Rattle.std.proofs.lemmas.Option.{slice_get_within}
use Rattle.graphs.proofs.OrderLemmas.{all-held}
use Rattle.wf_ast.specs.declared.types.Ty.{Ty}
use Rattle.wf_ast.specs.declared.types.Ty.TheVariants as types
use Rattle.wf_ast.specs.TypedPackage.{Variable, StructTree, MethodTree, PackageTree}
use Rattle.wf_ast.specs.WellTyped.{calls_known, calls_in_front, is_whole_type, is_whole_struct, all_structs_whole, structs_in_front, has_struct_order, well_method, well_typed}
use Rattle.wf_ast.proofs.Arena.{both_true}
use Rattle.wf_meaning.specs.SourceState.{fields_of}
use Rattle.wf_lower_laws.proofs.Apart.{has, apart, neither, left_or, right_or, not_true, same_number}

pub one_number : (a b : ℕ) → nat_eq a b ≡ true → a ≡ b
one_number a b e = grind (arith, nat_tests, e)

-- Numbers that are all different, so many and below that: each is there.
distinct_of : (xs : List ℕ) → apart xs ≡ true → IsDistinct nat_eq xs
unfolding IsDistinct
distinct_of [] h = tt
distinct_of (x ∷ xs) h = let p = both_true (not (has xs x)) (apart xs) h in (none_of xs (not_true (has xs x) p.0), distinct_of xs p.1)
  where
    none_of : (ys : List ℕ) → has ys x ≡ false → AllByRecursion (λ y. nat_eq x y ≡ false) ys
    none_of [] h = tt
    none_of (y ∷ ys) h = let q = neither (nat_eq x y) (has ys x) h in (q.0, none_of ys q.1)

-- ---- numbers in an order

-- Numbers each of which passes a test with those before it, and isn't one of them.
module _ (fits : (front : List ℕ) → ℕ → Bool) where
  abbrev each_fits : (front rest : List ℕ) → Bool
  each_fits front [] = true
  each_fits front (m ∷ ms) = fits front m && (not (has front m) && each_fits (m ∷ front) ms)

  kept_out : (front rest : List ℕ) (a : ℕ) → each_fits front rest ≡ true → has front a ≡ true → has rest a ≡ false
  kept_out front [] a h f = refl
  kept_out front (m ∷ ms) a h f =
      let q = both_true (fits front m) _ h in
      let r = both_true (not (has front m)) (each_fits (m ∷ front) ms) q.1 in
      by (nat_eq a m) refl (not_true (has front m) r.0) (kept_out (m ∷ front) ms a r.1 (right_or (nat_eq a m) (has front a) f))
    where
      by : (b : Bool) → nat_eq a m ≡ b → has front m ≡ false → has ms a ≡ false → has (m ∷ ms) a ≡ false
      by true e n k =
          let P : ℕ → Type 0 = λ z. has front z ≡ true in
          absurd (cc (subst P (one_number a m e) f, n))
      by false e n k = rw (e, k) refl

  ordered_apart : (front rest : List ℕ) → each_fits front rest ≡ true → apart rest ≡ true
  ordered_apart front [] h = refl
  ordered_apart front (m ∷ ms) h =
      let q = both_true (fits front m) _ h in
      let r = both_true (not (has front m)) (each_fits (m ∷ front) ms) q.1 in
      rw (kept_out (m ∷ front) ms m r.1 (left_or (nat_eq m m) (has front m) (same_number m)), ordered_apart (m ∷ front) ms r.1) refl

  ordered_below : (n : ℕ) → ((front : List ℕ) (m : ℕ) → fits front m ≡ true → m < n) → (front rest : List ℕ) → each_fits front rest ≡ true → (a : ℕ) → has rest a ≡ true → a < n
  ordered_below n within front [] h a k = absurd (cc k)
  ordered_below n within front (m ∷ ms) h a k =
      let q = both_true (fits front m) _ h in
      let r = both_true (not (has front m)) (each_fits (m ∷ front) ms) q.1 in
      by (nat_eq a m) refl k (within front m q.0) (ordered_below n within (m ∷ front) ms r.1 a)
    where
      by : (b : Bool) → nat_eq a m ≡ b → (b || has ms a) ≡ true → m < n → (has ms a ≡ true → a < n) → a < n
      by true e k l more = let same : a ≡ m = one_number a m e in omega (arith, same, l)
      by false e k l more = more k

-- All numbers below n stand in the order, each once.
pub record HasEach (n : ℕ) (order : List ℕ) : Type 0 where
  pub once : apart order ≡ true
  pub below : (a : ℕ) → has order a ≡ true → a < n
  pub all : (a : ℕ) → a < n → has order a ≡ true

has_each : (fits : (front : List ℕ) → ℕ → Bool) (n : ℕ) (order : List ℕ) → ((front : List ℕ) (m : ℕ) → fits front m ≡ true → m < n) → nat_eq (length order) n ≡ true → each_fits fits [] order ≡ true → HasEach n order
has_each fits n order within long h =
    let once = ordered_apart fits [] order h in
    let below = ordered_below fits n within [] order h in
    record { once = once; below = below; all = all-held n order (one_number (length order) n long) below (distinct_of order once) }

-- ---- methods

module _ (p : PackageTree) where
  calls_fit : (front : List ℕ) → ℕ → Bool
  calls_fit front m = calls_known (has front) (slice_get p.methods m)

  each_calls : (front rest : List ℕ) → calls_in_front p front rest ≡ each_fits calls_fit front rest
  unfolding calls_fit
  each_calls front [] = refl
  each_calls front (m ∷ ms) = ap (λ t. calls_known (has front) (slice_get p.methods m) && (not (has front m) && t)) (each_calls (m ∷ front) ms)

  calls_below : (front : List ℕ) (m : ℕ) → calls_fit front m ≡ true → m < length p.methods
  unfolding calls_fit
  calls_below front m k = by (slice_get p.methods m) refl k
    where
      by : (o : Option MethodTree) → slice_get p.methods m ≡ o → calls_known (has front) o ≡ true → m < length p.methods
      by None e k = absurd (cc k)
      by (Some x) e k = slice_get_within p.methods m x e

  pub record AreOrdered : Type 0 where
    pub each : HasEach (length p.methods) p.order
    pub calls : calls_in_front p [] p.order ≡ true

  pub methods_ordered : well_typed p ≡ true → AreOrdered
  unfolding well_typed
  methods_ordered h =
      let a = (both_true (all_structs_whole p 0 p.structs) _ h).1 in
      let b = (both_true (list_all (well_method p) p.methods) _ a).1 in
      let c = both_true (nat_eq (length p.order) (length p.methods)) _ b in
      let d = (both_true (calls_in_front p [] p.order) (has_struct_order p) c.1).0 in
      record { each = has_each calls_fit (length p.methods) p.order calls_below c.0 (sym (each_calls [] p.order) ∙ d); calls = d }

-- ---- structs

-- The structs that fields hold.
abbrev pub parts_in : List Variable → List ℕ
parts_in [] = []
parts_in (x ∷ xs) = by_type x.ty (parts_in xs)
  where
    by_type : Ty → List ℕ → List ℕ
    by_type (types.Part s) others = s.0 ∷ others
    by_type ty others = others

field_known : (known : ℕ → Bool) (ty : Ty) (name : List ℕ) (xs : List Variable) → is_whole_type known ty ≡ true → ((t : ℕ) → has (parts_in xs) t ≡ true → known t ≡ true)
    → (t : ℕ) → has (parts_in (record { name = name; ty = ty } ∷ xs)) t ≡ true → known t ≡ true
field_known known (types.Part s) name xs w more t k = by (nat_eq t s.0) refl k
  where
    by : (b : Bool) → nat_eq t s.0 ≡ b → (b || has (parts_in xs) t) ≡ true → known t ≡ true
    by true e k = let P : ℕ → Type 0 = λ z. known z ≡ true in subst P (sym (one_number t s.0 e)) w
    by false e k = more t k
field_known known (types.Num width lo hi) name xs w more t k = more t k
field_known known types.Flag name xs w more t k = more t k
field_known known types.Status name xs w more t k = more t k
field_known known types.Reader name xs w more t k = more t k
field_known known types.Writer name xs w more t k = more t k
field_known known (types.Slice width) name xs w more t k = more t k
field_known known (types.Array width lo hi count) name xs w more t k = more t k

parts_known : (known : ℕ → Bool) (xs : List Variable) → list_all (λ x. is_whole_type known x.ty) xs ≡ true → (t : ℕ) → has (parts_in xs) t ≡ true → known t ≡ true
parts_known known [] w t k = absurd (cc k)
parts_known known (x ∷ xs) w t k =
    let q = both_true (is_whole_type known x.ty) (list_all (λ x. is_whole_type known x.ty) xs) w in
    field_known known x.ty x.name xs q.0 (λ t k. parts_known known xs q.1 t k) t k

module _ (p : PackageTree) where
  -- Each struct of the list stands after those that its fields hold.
  abbrev pub Rising : (front rest : List ℕ) → Type 0
  Rising front [] = Unit {0}
  Rising front (s ∷ ss) = ((t : ℕ) → has (parts_in (fields_of p s)) t ≡ true → has front t ≡ true) × Rising (front ++ s ∷ []) ss

  fields_fit : (front : List ℕ) → ℕ → Bool
  fields_fit front s = is_whole_struct (has front) (slice_get p.structs s)

  each_holds : (front rest : List ℕ) → structs_in_front p front rest ≡ each_fits fields_fit front rest
  unfolding fields_fit
  each_holds front [] = refl
  each_holds front (s ∷ ss) = ap (λ t. is_whole_struct (has front) (slice_get p.structs s) && (not (has front s) && t)) (each_holds (s ∷ front) ss)

  fields_below : (front : List ℕ) (s : ℕ) → fields_fit front s ≡ true → s < length p.structs
  unfolding fields_fit
  fields_below front s k = by (slice_get p.structs s) refl k
    where
      by : (o : Option StructTree) → slice_get p.structs s ≡ o → is_whole_struct (has front) o ≡ true → s < length p.structs
      by None e k = absurd (cc k)
      by (Some it) e k = slice_get_within p.structs s it e

  fields_known : (known : ℕ → Bool) (s : ℕ) → is_whole_struct known (slice_get p.structs s) ≡ true → list_all (λ x. is_whole_type known x.ty) (fields_of p s) ≡ true
  fields_known known s k = by (slice_get p.structs s) refl k
    where
      by : (o : Option StructTree) → slice_get p.structs s ≡ o → is_whole_struct known o ≡ true → list_all (λ x. is_whole_type known x.ty) (fields_of p s) ≡ true
      by None e k = absurd (cc k)
      by (Some it) e k = rw e k

  -- `known` are those before them, in whatever order.
  rising : (known front rest : List ℕ) → structs_in_front p known rest ≡ true → ((a : ℕ) → has known a ≡ true → has front a ≡ true) → Rising front rest
  rising known front [] h k = tt
  rising known front (s ∷ ss) h k =
      let q = both_true (is_whole_struct (has known) (slice_get p.structs s)) _ h in
      let r = both_true (not (has known s)) (structs_in_front p (s ∷ known) ss) q.1 in
      ((λ t e. k t (parts_known (has known) (fields_of p s) (fields_known (has known) s q.0) t e)), rising (s ∷ known) (front ++ s ∷ []) ss r.1 (λ a e. list_any-append (nat_eq a) front (s ∷ []) ∙ by a (nat_eq a s) refl e))
    where
      by : (a : ℕ) (b : Bool) → nat_eq a s ≡ b → (b || has known a) ≡ true → (has front a || (nat_eq a s || false)) ≡ true
      by a true e m = right_or (has front a) _ (left_or (nat_eq a s) false e)
      by a false e m = left_or (has front a) _ (k a m)

  pub record StructsOrdered : Type 0 where
    pub each : HasEach (length p.structs) p.struct_order
    pub rises : Rising [] p.struct_order

  pub structs_ordered : well_typed p ≡ true → StructsOrdered
  unfolding well_typed
  structs_ordered h =
      let a = (both_true (all_structs_whole p 0 p.structs) _ h).1 in
      let b = (both_true (list_all (well_method p) p.methods) _ a).1 in
      let c = both_true (nat_eq (length p.order) (length p.methods)) _ b in
      let d = (both_true (calls_in_front p [] p.order) (has_struct_order p) c.1).1 in
      let e = both_true (nat_eq (length p.struct_order) (length p.structs)) (structs_in_front p [] p.struct_order) d in
      record { each = has_each fields_fit (length p.structs) p.struct_order fields_below e.0 (sym (each_holds [] p.struct_order) ∙ e.1); rises = rising [] [] p.struct_order e.1 (λ a k. k) }
