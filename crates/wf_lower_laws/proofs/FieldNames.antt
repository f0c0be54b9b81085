-- The fields of a struct in C have different names.
use Rattle.std.proofs.Common.{◌≡◌, ◌⊎◌, inl, inr, ℕ, zero, suc, ◌+◌, Bool, true, false, not, ◌&&◌, List, [], ◌∷◌, ◌++◌, map, Option, Some, None, nat_eq, refl, sym, ap, ◌∙◌, subst, arith}
use Rattle.std.specs.Prelude.{if◌then◌else◌, bytes_eq, codes, slice_get, unwrap_or, option_map}
use Rattle.std.specs.List.{list_all}
use Rattle.std.proofs.lemmas.List.{append_cancel_right}
use Rattle.std.proofs.lemmas.Slice.Eq.{bytes_eq-Decides}
use Rattle.wf_ast.specs.declared.types.Ty.{Ty}
use Rattle.wf_ast.specs.declared.types.Ty.TheVariants as types
use Rattle.wf_ast.specs.TypedPackage.{Variable, StructTree, MethodTree, PackageTree}
use Rattle.wf_ast.specs.WellTyped.{is_coroutine}
use Rattle.wf_ast.proofs.Arena.{both_true}
use Rattle.wf_meaning.specs.SourceState.{fields_of}
use Rattle.c_text.specs.declared.kinds.CUint.TheVariants.{U8, U16, U64}
use Rattle.c_text.specs.CTree.{TypeTree, uint, plain, FieldTree}
use Rattle.c_meaning.specs.UnitForm.{is_among, all_distinct}
use Rattle.wf_exprs.specs.Names.{point_field, saved_field, held_field, count_field}
use Rattle.wf_lower_stmts.specs.Forms.{is_kept, holds_something, counts_bytes, keeps}
use Rattle.wf_lower.specs.Unit.{source_field, source_fields, kept_type, kept_fields, started_fields, coroutine_fields, methods_fields, struct_fields}
use Rattle.wf_lower_laws.specs.NameLaw.{begins, are_named, HasNames}
use Rattle.wf_lower_laws.specs.ItemLaw.{is_clean}
use Rattle.wf_lower_laws.specs.FieldLaw.{HasFieldNames}
use Rattle.wf_lower_laws.proofs.Apart.{neither, left_or, right_or, not_true}
use Rattle.wf_lower_laws.proofs.Names.{either_true, both_hold, among_passes, distinct_by, Owned, owned_none, owned_next, distinct_next, after_prefix}
use Rattle.wf_lower_laws.proofs.OwnNames.{all_both, map_both}
use Rattle.wf_lower_laws.proofs.ItemNames.{one_seam}
use Rattle.wf_lower_laws.proofs.Orders.{one_number}

abbrev pub labels : List FieldTree → List (List ℕ)
labels fields = map (λ (f : FieldTree). f.name) fields

-- ---- what a coroutine keeps

data FieldOf (key l : List ℕ) : Type 0 where
  point : l ≡ codes "r_" ++ key → FieldOf key l
  saved : (x : List ℕ) → is_clean key ≡ true → l ≡ codes "s_" ++ (key ++ (codes "__" ++ x)) → FieldOf key l
  holds : l ≡ codes "h_" ++ key → FieldOf key l
  counts : l ≡ codes "n_" ++ key → FieldOf key l

abbrev own_field : TypeTree → List ℕ → FieldTree
own_field type name = record { kind = plain type; name = name; count = None }

abbrev first : List ℕ → ℕ
first [] = 0
first (a ∷ l) = a

same_key : (x y a b : List ℕ) → is_clean x ≡ true → is_clean y ≡ true → x ++ (codes "__" ++ a) ≡ y ++ (codes "__" ++ b) → x ≡ y
same_key x y a b h j e =
    let P : List ℕ → Type 0 = λ z. x ++ (codes "__" ++ z) ≡ y ++ (codes "__" ++ b) in
    append_cancel_right x y (codes "__" ++ b) (subst P (one_seam x a y b h j e) e)

field_one : (x y l : List ℕ) → FieldOf x l → FieldOf y l → x ≡ y
field_one x y l (point e) (point g) = after_prefix (codes "r_") x y (sym e ∙ g)
field_one x y l (saved a c e) (saved b d g) = same_key x y a b c d (after_prefix (codes "s_") (x ++ (codes "__" ++ a)) (y ++ (codes "__" ++ b)) (sym e ∙ g))
field_one x y l (holds e) (holds g) = after_prefix (codes "h_") x y (sym e ∙ g)
field_one x y l (counts e) (counts g) = after_prefix (codes "n_") x y (sym e ∙ g)
field_one x y l (point e) (saved b d g) = let h : 114 ≡ 115 = ap first (sym e ∙ g) in absurd (omega (arith, h))
field_one x y l (point e) (holds g) = let h : 114 ≡ 104 = ap first (sym e ∙ g) in absurd (omega (arith, h))
field_one x y l (point e) (counts g) = let h : 114 ≡ 110 = ap first (sym e ∙ g) in absurd (omega (arith, h))
field_one x y l (saved a c e) (point g) = let h : 115 ≡ 114 = ap first (sym e ∙ g) in absurd (omega (arith, h))
field_one x y l (saved a c e) (holds g) = let h : 115 ≡ 104 = ap first (sym e ∙ g) in absurd (omega (arith, h))
field_one x y l (saved a c e) (counts g) = let h : 115 ≡ 110 = ap first (sym e ∙ g) in absurd (omega (arith, h))
field_one x y l (holds e) (point g) = let h : 104 ≡ 114 = ap first (sym e ∙ g) in absurd (omega (arith, h))
field_one x y l (holds e) (saved b d g) = let h : 104 ≡ 115 = ap first (sym e ∙ g) in absurd (omega (arith, h))
field_one x y l (holds e) (counts g) = let h : 104 ≡ 110 = ap first (sym e ∙ g) in absurd (omega (arith, h))
field_one x y l (counts e) (point g) = let h : 110 ≡ 114 = ap first (sym e ∙ g) in absurd (omega (arith, h))
field_one x y l (counts e) (saved b d g) = let h : 110 ≡ 115 = ap first (sym e ∙ g) in absurd (omega (arith, h))
field_one x y l (counts e) (holds g) = let h : 110 ≡ 104 = ap first (sym e ∙ g) in absurd (omega (arith, h))

passes : (T : List ℕ → Bool) (l x : List ℕ) → l ≡ x → T x ≡ true → T l ≡ true
passes T l x e g = let P : List ℕ → Type 0 = λ z. T z ≡ true in subst P (sym e) g

not_among_by : (T : List ℕ → Bool) (ls : List (List ℕ)) (l : List ℕ) → list_all T ls ≡ true → T l ≡ false → is_among ls l ≡ false
not_among_by T ls l h e = by (is_among ls l) refl
  where
    by : (b : Bool) → is_among ls l ≡ b → is_among ls l ≡ false
    by false g = g
    by true g = absurd (cc (among_passes T ls l h g, e))

if_all : (T : List ℕ → Bool) (b : Bool) (xs ys : List FieldTree) → list_all T (labels xs) ≡ true → list_all T (labels ys) ≡ true → list_all T (labels (if b then xs else ys)) ≡ true
if_all T true xs ys h j = h
if_all T false xs ys h j = j

all_labels : (T : List ℕ → Bool) (xs ys : List FieldTree) → list_all T (labels xs) ≡ true → list_all T (labels ys) ≡ true → list_all T (labels (xs ++ ys)) ≡ true
all_labels T xs ys h j = let P : List (List ℕ) → Type 0 = λ ls. list_all T ls ≡ true in subst P (sym (map_both (λ (f : FieldTree). f.name) xs ys)) (all_both T (labels xs) (labels ys) h j)

-- What all labels of a method's fields pass.
module _ (T : List ℕ → Bool) (m : MethodTree) where
  kept_all : ((x : List ℕ) → T (saved_field m.name x) ≡ true) → (xs : List Variable) → list_all T (labels (kept_fields m.name xs)) ≡ true
  kept_all h [] = refl
  kept_all h (x ∷ xs) = by (is_kept x.ty) (kept_all h xs)
    where
      by : (b : Bool) → list_all T (labels (kept_fields m.name xs)) ≡ true → list_all T (labels (if b then record { kind = plain (kept_type x.ty); name = saved_field m.name x.name; count = None } ∷ kept_fields m.name xs else kept_fields m.name xs)) ≡ true
      by true k = both_hold (T (saved_field m.name x.name)) _ (h x.name) k
      by false k = k

  started_all : T (held_field m.name) ≡ true → T (count_field m.name) ≡ true → list_all T (labels (started_fields m)) ≡ true
  started_all h j =
      all_labels T _ _ (if_all T (keeps holds_something m.body) (_ ∷ []) [] (both_hold (T (held_field m.name)) true h refl) refl) (if_all T (keeps counts_bytes m.body) (_ ∷ []) [] (both_hold (T (count_field m.name)) true j refl) refl)

  method_all : T (point_field m.name) ≡ true → ((x : List ℕ) → T (saved_field m.name x) ≡ true) → T (held_field m.name) ≡ true → T (count_field m.name) ≡ true → list_all T (labels (coroutine_fields m)) ≡ true
  method_all p k h j =
      if_all T (is_coroutine m.mark) (_ ∷ (kept_fields m.name m.locals ++ started_fields m)) [] (both_hold (T (point_field m.name)) _ p (all_labels T (kept_fields m.name m.locals) (started_fields m) (kept_all k m.locals) (started_all h j))) refl

-- Each label of a method's fields is of its name.
module _ (m : MethodTree) (clean : is_clean m.name ≡ true) where
  abbrev Of : List FieldTree → Type 0
  Of fields = (l : List ℕ) → is_among (labels fields) l ≡ true → FieldOf m.name l

  of_none : Of []
  of_none l a = absurd (cc a)

  of_one : (f : FieldTree) (fs : List FieldTree) → FieldOf m.name f.name → Of fs → Of (f ∷ fs)
  of_one f fs h more l a = by (either_true (bytes_eq l f.name) (is_among (labels fs) l) a)
    where
      by : (bytes_eq l f.name ≡ true) ⊎ (is_among (labels fs) l ≡ true) → FieldOf m.name l
      by (inl t) = let P : List ℕ → Type 0 = FieldOf m.name in subst P (sym ((bytes_eq-Decides l f.name).0 t)) h
      by (inr t) = more l t

  of_both : (xs ys : List FieldTree) → Of xs → Of ys → Of (xs ++ ys)
  of_both [] ys h j l a = j l a
  of_both (x ∷ xs) ys h j l a = by (either_true (bytes_eq l x.name) (is_among (labels (xs ++ ys)) l) a) (of_both xs ys (λ l a. h l (right_or (bytes_eq l x.name) (is_among (labels xs) l) a)) j l)
    where
      by : (bytes_eq l x.name ≡ true) ⊎ (is_among (labels (xs ++ ys)) l ≡ true) → (is_among (labels (xs ++ ys)) l ≡ true → FieldOf m.name l) → FieldOf m.name l
      by (inl t) more = h l (left_or (bytes_eq l x.name) (is_among (labels xs) l) t)
      by (inr t) more = more t

  of_if : (b : Bool) (xs ys : List FieldTree) → Of xs → Of ys → Of (if b then xs else ys)
  of_if true xs ys h j = h
  of_if false xs ys h j = j

  of_kept : (xs : List Variable) → Of (kept_fields m.name xs)
  of_kept [] = of_none
  of_kept (x ∷ xs) = of_if (is_kept x.ty) _ (kept_fields m.name xs) (of_one (own_field (kept_type x.ty) (saved_field m.name x.name)) (kept_fields m.name xs) (saved x.name clean refl) (of_kept xs)) (of_kept xs)

  of_method : Of (coroutine_fields m)
  of_method =
      of_if (is_coroutine m.mark) _ [] (of_one (own_field (uint U16) (point_field m.name)) (kept_fields m.name m.locals ++ started_fields m) (point refl) (of_both (kept_fields m.name m.locals) (started_fields m) (of_kept m.locals)
      (of_both _ _ (of_if (keeps holds_something m.body) _ [] (of_one (own_field (uint U64) (held_field m.name)) [] (holds refl) of_none) of_none) (of_if (keeps counts_bytes m.body) _ [] (of_one (own_field (uint U8) (count_field m.name)) [] (counts refl) of_none) of_none)))) of_none

  -- They differ.
  kept_absent : (xs : List Variable) (x : List ℕ) → is_among (map (λ x. x.name) xs) x ≡ false → is_among (labels (kept_fields m.name xs)) (saved_field m.name x) ≡ false
  kept_absent [] x h = refl
  kept_absent (y ∷ xs) x h =
      let p = neither (bytes_eq x y.name) (is_among (map (λ x. x.name) xs) x) h in
      by (is_kept y.ty) (other (bytes_eq (saved_field m.name x) (saved_field m.name y.name)) refl p.0) (kept_absent xs x p.1)
    where
      other : (b : Bool) → bytes_eq (saved_field m.name x) (saved_field m.name y.name) ≡ b → bytes_eq x y.name ≡ false → bytes_eq (saved_field m.name x) (saved_field m.name y.name) ≡ false
      other false e n = e
      other true e n =
          let all : saved_field m.name x ≡ saved_field m.name y.name = (bytes_eq-Decides (saved_field m.name x) (saved_field m.name y.name)).0 e in
          let same : x ≡ y.name = after_prefix (codes "__") x y.name (after_prefix m.name (codes "__" ++ x) (codes "__" ++ y.name) (after_prefix (codes "s_") (m.name ++ (codes "__" ++ x)) (m.name ++ (codes "__" ++ y.name)) all)) in
          absurd (cc (n, (bytes_eq-Decides x y.name).1 same))

      by : (b : Bool) → bytes_eq (saved_field m.name x) (saved_field m.name y.name) ≡ false → is_among (labels (kept_fields m.name xs)) (saved_field m.name x) ≡ false
          → is_among (labels (if b then record { kind = plain (kept_type y.ty); name = saved_field m.name y.name; count = None } ∷ kept_fields m.name xs else kept_fields m.name xs)) (saved_field m.name x) ≡ false
      by true n k = rw (n, k) refl
      by false n k = k

  kept_distinct : (xs : List Variable) → all_distinct (map (λ x. x.name) xs) ≡ true → all_distinct (labels (kept_fields m.name xs)) ≡ true
  kept_distinct [] d = refl
  kept_distinct (x ∷ xs) d =
      let p = both_true (not (is_among (map (λ x. x.name) xs) x.name)) (all_distinct (map (λ x. x.name) xs)) d in
      by (is_kept x.ty) (kept_absent xs x.name (not_true (is_among (map (λ x. x.name) xs) x.name) p.0)) (kept_distinct xs p.1)
    where
      by : (b : Bool) → is_among (labels (kept_fields m.name xs)) (saved_field m.name x.name) ≡ false → all_distinct (labels (kept_fields m.name xs)) ≡ true
          → all_distinct (labels (if b then record { kind = plain (kept_type x.ty); name = saved_field m.name x.name; count = None } ∷ kept_fields m.name xs else kept_fields m.name xs)) ≡ true
      by true n k = rw (n, k) refl
      by false n k = k

  started_distinct : all_distinct (labels (started_fields m)) ≡ true
  started_distinct = by (keeps holds_something m.body) (keeps counts_bytes m.body)
    where
      by : (a b : Bool) → all_distinct (labels ((if a then record { kind = plain (uint U64); name = held_field m.name; count = None } ∷ [] else []) ++ (if b then record { kind = plain (uint U8); name = count_field m.name; count = None } ∷ [] else []))) ≡ true
      by true true = refl
      by true false = refl
      by false true = refl
      by false false = refl

  method_distinct : all_distinct (map (λ x. x.name) m.locals) ≡ true → all_distinct (labels (coroutine_fields m)) ≡ true
  method_distinct d = by (is_coroutine m.mark)
    where
      T : List ℕ → Bool
      T l = begins (codes "s") l

      inner : all_distinct (labels (kept_fields m.name m.locals ++ started_fields m)) ≡ true
      inner =
          let P : List (List ℕ) → Type 0 = λ ls. all_distinct ls ≡ true in
          subst P (sym (map_both (λ (f : FieldTree). f.name) (kept_fields m.name m.locals) (started_fields m)))
          (distinct_by (λ l. begins (codes "s") l) (labels (kept_fields m.name m.locals)) (labels (started_fields m)) (kept_all (λ l. begins (codes "s") l) m (λ x. refl) m.locals) (started_all (λ l. not (begins (codes "s") l)) m refl refl)
          (kept_distinct m.locals d) started_distinct)

      absent : is_among (labels (kept_fields m.name m.locals ++ started_fields m)) (point_field m.name) ≡ false
      absent =
          not_among_by (λ l. not (begins (codes "r") l)) (labels (kept_fields m.name m.locals ++ started_fields m)) (point_field m.name)
          (all_labels (λ l. not (begins (codes "r") l)) (kept_fields m.name m.locals) (started_fields m) (kept_all (λ l. not (begins (codes "r") l)) m (λ x. refl) m.locals) (started_all (λ l. not (begins (codes "r") l)) m refl refl)) refl

      by : (b : Bool) → all_distinct (labels (if b then record { kind = plain (uint U16); name = point_field m.name; count = None } ∷ (kept_fields m.name m.locals ++ started_fields m) else [])) ≡ true
      by true = rw (absent, inner) refl
      by false = refl

-- ---- the methods of a struct

module _ (p : PackageTree) (names : HasFieldNames p) (own : HasNames p) (s : ℕ) where
  abbrev keys : List MethodTree → List (List ℕ)
  keys [] = []
  keys (m ∷ ms) = if nat_eq m.of s then m.name ∷ keys ms else keys ms

  abbrev From : ℕ → List MethodTree → Type 0
  From n ms = (i : ℕ) (m : MethodTree) → slice_get ms i ≡ Some m → slice_get p.methods (n + i) ≡ Some m

  from_next : (n : ℕ) (x : MethodTree) (ms : List MethodTree) → From n (x ∷ ms) → From (suc n) ms
  from_next n x ms h i m e = let same : n + suc i ≡ suc n + i = omega arith in let P : ℕ → Type 0 = λ k. slice_get p.methods k ≡ Some m in subst P same (h (suc i) m e)

  from_first : (n : ℕ) (x : MethodTree) (ms : List MethodTree) → From n (x ∷ ms) → slice_get p.methods n ≡ Some x
  from_first n x ms h = let same : n + 0 ≡ n = omega arith in let P : ℕ → Type 0 = λ k. slice_get p.methods k ≡ Some x in subst P same (h 0 x refl)

  record KeyAt (ms : List MethodTree) (l : List ℕ) : Type 0 where
    index : ℕ
    method : MethodTree
    there : slice_get ms index ≡ Some method
    of : method.of ≡ s
    named : method.name ≡ l

  key_at : (ms : List MethodTree) (l : List ℕ) → is_among (keys ms) l ≡ true → KeyAt ms l
  key_at [] l a = absurd (cc a)
  key_at (m ∷ ms) l a = by (nat_eq m.of s) refl a (key_at ms l)
    where
      later : KeyAt ms l → KeyAt (m ∷ ms) l
      later k = record { index = suc k.index; method = k.method; there = k.there; of = k.of; named = k.named }

      by : (b : Bool) → nat_eq m.of s ≡ b → is_among (if b then m.name ∷ keys ms else keys ms) l ≡ true → (is_among (keys ms) l ≡ true → KeyAt ms l) → KeyAt (m ∷ ms) l
      by false e a more = later (more a)
      by true e a more = split (either_true (bytes_eq l m.name) (is_among (keys ms) l) a)
        where
          split : (bytes_eq l m.name ≡ true) ⊎ (is_among (keys ms) l ≡ true) → KeyAt (m ∷ ms) l
          split (inl t) = record { index = 0; method = m; there = refl; of = one_number m.of s e; named = sym ((bytes_eq-Decides l m.name).0 t) }
          split (inr t) = later (more t)

  key_alone : (n : ℕ) (m : MethodTree) (ms : List MethodTree) → From n (m ∷ ms) → m.of ≡ s → is_among (keys ms) m.name ≡ false
  key_alone n m ms h o = by (is_among (keys ms) m.name) refl
    where
      by : (b : Bool) → is_among (keys ms) m.name ≡ b → is_among (keys ms) m.name ≡ false
      by false a = a
      by true a =
          let k = key_at ms m.name a in
          let same : n ≡ suc n + k.index = names.methods n (suc n + k.index) m k.method (from_first n m ms h) (from_next n m ms h k.index k.method k.there) (o ∙ sym k.of) (sym k.named) in
          absurd (omega (arith, same))

  at_method : (T : MethodTree → Bool) (ms : List MethodTree) (i : ℕ) (m : MethodTree) → list_all T ms ≡ true → slice_get ms i ≡ Some m → T m ≡ true
  at_method T [] i m h e = absurd (cc e)
  at_method T (x ∷ ms) zero m h e = let same : x ≡ m = cc e in let P : MethodTree → Type 0 = λ z. T z ≡ true in subst P same (both_true (T x) (list_all T ms) h).0
  at_method T (x ∷ ms) (suc i) m h e = at_method T ms i m (both_true (T x) (list_all T ms) h).1 e

  clean_at : (n : ℕ) (m : MethodTree) → slice_get p.methods n ≡ Some m → is_clean m.name ≡ true
  clean_at n m e = at_method (λ m. is_clean m.name) p.methods n m names.clean e

  locals_at : (n : ℕ) (m : MethodTree) → slice_get p.methods n ≡ Some m → all_distinct (map (λ x. x.name) m.locals) ≡ true
  locals_at n m e =
      let a = both_true (are_named m.args) (are_named m.locals) (at_method (λ m. are_named m.args && are_named m.locals) p.methods n m own e) in
      (both_true (all_distinct (map (λ x. x.name) m.locals)) _ a.1).0

  owned : (n : ℕ) (ms : List MethodTree) → From n ms → Owned FieldOf field_one (keys ms) (labels (methods_fields s ms))
  owned n [] h = owned_none FieldOf field_one []
  owned n (m ∷ ms) h = by (nat_eq m.of s) (owned (suc n) ms (from_next n m ms h))
    where
      by : (b : Bool) → Owned FieldOf field_one (keys ms) (labels (methods_fields s ms)) → Owned FieldOf field_one (if b then m.name ∷ keys ms else keys ms) (labels (if b then coroutine_fields m ++ methods_fields s ms else methods_fields s ms))
      by false o = o
      by true o =
          let P : List (List ℕ) → Type 0 = Owned FieldOf field_one (m.name ∷ keys ms) in
          subst P (sym (map_both (λ (f : FieldTree). f.name) (coroutine_fields m) (methods_fields s ms)))
          (owned_next FieldOf field_one m.name (keys ms) (labels (coroutine_fields m)) (labels (methods_fields s ms)) (of_method m (clean_at n m (from_first n m ms h))) o)

  methods_distinct : (n : ℕ) (ms : List MethodTree) → From n ms → all_distinct (labels (methods_fields s ms)) ≡ true
  methods_distinct n [] h = refl
  methods_distinct n (m ∷ ms) h = by (nat_eq m.of s) refl (owned (suc n) ms (from_next n m ms h)) (methods_distinct (suc n) ms (from_next n m ms h))
    where
      by : (b : Bool) → nat_eq m.of s ≡ b → Owned FieldOf field_one (keys ms) (labels (methods_fields s ms)) → all_distinct (labels (methods_fields s ms)) ≡ true
          → all_distinct (labels (if b then coroutine_fields m ++ methods_fields s ms else methods_fields s ms)) ≡ true
      by false e o d = d
      by true e o d =
          let P : List (List ℕ) → Type 0 = λ ls. all_distinct ls ≡ true in
          let alone : not (is_among (keys ms) m.name) ≡ true = rw (key_alone n m ms h (one_number m.of s e)) refl in
          subst P (sym (map_both (λ (f : FieldTree). f.name) (coroutine_fields m) (methods_fields s ms)))
          (distinct_next FieldOf field_one m.name (keys ms) (labels (coroutine_fields m)) (labels (methods_fields s ms)) alone (of_method m (clean_at n m (from_first n m ms h))) o
          (method_distinct m (clean_at n m (from_first n m ms h)) (locals_at n m (from_first n m ms h))) d)

  methods_all : (T : List ℕ → Bool) → ((x : List ℕ) → T (codes "r_" ++ x) ≡ true) → ((x : List ℕ) → T (codes "s_" ++ x) ≡ true) → ((x : List ℕ) → T (codes "h_" ++ x) ≡ true) → ((x : List ℕ) → T (codes "n_" ++ x) ≡ true)
      → (ms : List MethodTree) → list_all T (labels (methods_fields s ms)) ≡ true
  methods_all T r k h j [] = refl
  methods_all T r k h j (m ∷ ms) = if_all T (nat_eq m.of s) (coroutine_fields m ++ methods_fields s ms) (methods_fields s ms)
      (all_labels T (coroutine_fields m) (methods_fields s ms) (method_all T m (r m.name) (λ x. k (m.name ++ (codes "__" ++ x))) (h m.name) (j m.name)) (methods_all T r k h j ms)) (methods_all T r k h j ms)

  -- The source's own fields.
  source_named : (x : Variable) → (source_field p x).name ≡ codes "f_" ++ x.name
  source_named x = by x.ty
    where
      by : (ty : Ty) → (source_field p (record { name = x.name; ty = ty })).name ≡ codes "f_" ++ x.name
      by (types.Num width lo hi) = refl
      by types.Flag = refl
      by types.Status = refl
      by types.Reader = refl
      by types.Writer = refl
      by (types.Slice width) = refl
      by (types.Array width lo hi count) = refl
      by (types.Part t) = refl

  sources_named : (xs : List Variable) → labels (source_fields p xs) ≡ map (λ l. codes "f_" ++ l) (map (λ x. x.name) xs)
  sources_named [] = refl
  sources_named (x ∷ xs) = ap (λ l. l ∷ labels (source_fields p xs)) (source_named x) ∙ ap (λ ls. (codes "f_" ++ x.name) ∷ ls) (sources_named xs)

  front_absent : (ls : List (List ℕ)) (l : List ℕ) → is_among ls l ≡ false → is_among (map (λ l. codes "f_" ++ l) ls) (codes "f_" ++ l) ≡ false
  front_absent [] l h = refl
  front_absent (x ∷ ls) l h =
      let q = neither (bytes_eq l x) (is_among ls l) h in
      rw (q.0, front_absent ls l q.1) refl

  fronts_distinct : (ls : List (List ℕ)) → all_distinct ls ≡ true → all_distinct (map (λ l. codes "f_" ++ l) ls) ≡ true
  fronts_distinct [] d = refl
  fronts_distinct (l ∷ ls) d =
      let q = both_true (not (is_among ls l)) (all_distinct ls) d in
      rw (front_absent ls l (not_true (is_among ls l) q.0), fronts_distinct ls q.1) refl

  fronts_all : (T : List ℕ → Bool) → ((x : List ℕ) → T (codes "f_" ++ x) ≡ true) → (ls : List (List ℕ)) → list_all T (map (λ l. codes "f_" ++ l) ls) ≡ true
  fronts_all T h [] = refl
  fronts_all T h (l ∷ ls) = both_hold (T (codes "f_" ++ l)) _ (h l) (fronts_all T h ls)

  sources_all : (T : List ℕ → Bool) → ((x : List ℕ) → T (codes "f_" ++ x) ≡ true) → (xs : List Variable) → list_all T (labels (source_fields p xs)) ≡ true
  sources_all T h xs = let P : List (List ℕ) → Type 0 = λ ls. list_all T ls ≡ true in subst P (sym (sources_named xs)) (fronts_all T h (map (λ x. x.name) xs))

  source_distinct : all_distinct (labels (source_fields p (fields_of p s))) ≡ true
  source_distinct = let P : List (List ℕ) → Type 0 = λ ls. all_distinct ls ≡ true in subst P (sym (sources_named (fields_of p s))) (fronts_distinct (map (λ x. x.name) (fields_of p s)) (by (slice_get p.structs s) refl))
    where
      in_list : (ss : List StructTree) (i : ℕ) (it : StructTree) → list_all (λ s. all_distinct (map (λ x. x.name) s.fields)) ss ≡ true → slice_get ss i ≡ Some it → all_distinct (map (λ x. x.name) it.fields) ≡ true
      in_list [] i it h e = absurd (cc e)
      in_list (x ∷ ss) zero it h e = let same : x ≡ it = cc e in let P : StructTree → Type 0 = λ z. all_distinct (map (λ x. x.name) z.fields) ≡ true in subst P same (both_true (all_distinct (map (λ x. x.name) x.fields)) _ h).0
      in_list (x ∷ ss) (suc i) it h e = in_list ss i it (both_true (all_distinct (map (λ x. x.name) x.fields)) _ h).1 e

      by : (o : Option StructTree) → slice_get p.structs s ≡ o → all_distinct (map (λ x. x.name) (unwrap_or (option_map (λ it. it.fields) o) [])) ≡ true
      by None e = refl
      by (Some it) e = in_list p.structs s it names.fields e

  pub fields_distinct : all_distinct (labels (struct_fields p s)) ≡ true
  fields_distinct =
      let sources = source_fields p (fields_of p s) in
      let methods = methods_fields s p.methods in
      let P : List (List ℕ) → Type 0 = λ ls. all_distinct ls ≡ true in
      let from : From 0 p.methods = λ i m e. (let same : i ≡ 0 + i = omega arith in let Q : ℕ → Type 0 = λ k. slice_get p.methods k ≡ Some m in subst Q same e) in
      let inner : all_distinct (labels (sources ++ methods)) ≡ true =
      subst P (sym (map_both (λ (f : FieldTree). f.name) sources methods))
      (distinct_by (λ l. begins (codes "f") l) (labels sources) (labels methods) (sources_all (λ l. begins (codes "f") l) (λ x. refl) (fields_of p s)) (methods_all (λ l. not (begins (codes "f") l)) (λ x. refl) (λ x. refl) (λ x. refl) (λ x. refl) p.methods)
      source_distinct (methods_distinct 0 p.methods from)) in
      rw (absent (codes "life") (λ x. refl) (λ x. refl) (λ x. refl) (λ x. refl) (λ x. refl), absent (codes "active") (λ x. refl) (λ x. refl) (λ x. refl) (λ x. refl) (λ x. refl), inner) refl
    where
      absent : (l : List ℕ) → ((x : List ℕ) → not (bytes_eq (codes "f_" ++ x) l) ≡ true) → ((x : List ℕ) → not (bytes_eq (codes "r_" ++ x) l) ≡ true) → ((x : List ℕ) → not (bytes_eq (codes "s_" ++ x) l) ≡ true)
          → ((x : List ℕ) → not (bytes_eq (codes "h_" ++ x) l) ≡ true) → ((x : List ℕ) → not (bytes_eq (codes "n_" ++ x) l) ≡ true) → is_among (labels (source_fields p (fields_of p s) ++ methods_fields s p.methods)) l ≡ false
      absent l f r k h j =
          not_among_by (λ x. not (bytes_eq x l)) (labels (source_fields p (fields_of p s) ++ methods_fields s p.methods)) l
          (all_labels (λ x. not (bytes_eq x l)) (source_fields p (fields_of p s)) (methods_fields s p.methods) (sources_all (λ x. not (bytes_eq x l)) f (fields_of p s)) (methods_all (λ x. not (bytes_eq x l)) r k h j p.methods))
          (rw ((bytes_eq-Decides l l).1 refl) refl)
