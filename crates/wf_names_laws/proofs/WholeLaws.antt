-- Where no struct holds itself every struct is whole, with as many levels as there are structs.
use Rattle.std.proofs.Common.{◌≡◌, ◌⊎◌, ℕ, zero, suc, ◌+◌, ◌<◌, ◌≤◌, Bool, true, false, ◌||◌, List, [], ◌∷◌, ◌++◌, map, length, Option, Some, None, slice_get, nat_eq, is_some, refl, sym, ap, ◌∙◌, subst, inl, inr, arith, length-append}
use Rattle.std.specs.List.{IsDistinct, list_any, list_all}
use Rattle.std.proofs.lemmas.List.Folds.{list_any-append}
use Rattle.std.proofs.lemmas.Map.Keys.{IsDistinct-push}
use Rattle.std.proofs.lemmas.Map.Steps.{length-le_from_distinct_below}
use Rattle.std.proofs.lemmas.Option.{slice_get_within}
use Rattle.wf_text.specs.declared.rules.Rule.TheVariants.{N4}
use Rattle.wf_text.specs.Precedence.{Decides}
use Rattle.wf_ast.specs.ParsedTree as tree
use Rattle.wf_ast.specs.ParsedTree.{TypeTree, DeclTree}
use Rattle.wf_named.specs.NamedTree.{VarTree, NamedStructTree, NamedPackageTree}
use Rattle.wf_named.specs.WellNamed.{is_whole_type, is_whole_struct, is_whole, all_whole}
use Rattle.wf_names_rules.specs.Declarations.{Variable, Structure, Declared, declared, is_spelt, struct_named}
use Rattle.wf_names_rules.specs.Uses.{type_uses, struct_scope}
use Rattle.graphs.specs.Graphs.{Path, last, holds}
use Rattle.wf_names_rules.specs.Sizes.{struct_held, is_the, fields_at, holds_struct}
use Rattle.wf_names_rules.specs.NameRules.{Breaks, by_cycle, holds_itself}
use Rattle.graphs.proofs.NumberLemmas.{same_number, number_self, numbers_equivalence, path-push}
use Rattle.wf_names_uses.proofs.FoundLemmas.{both-so}
use Rattle.wf_names_resolve.specs.Standing.{Standing, standing_at}
use Rattle.wf_names_resolve.specs.Resolved.{number_or, resolved_type}
use Rattle.wf_names_resolve.specs.Package.{resolved_variable, resolved_by}
use Rattle.wf_names_laws.specs.Kept.{AreKept}
use Rattle.wf_names_laws.proofs.ListLemmas.{all-at}
use Rattle.wf_names_laws.proofs.ExprLaws.{number-below}
use Rattle.wf_names_laws.proofs.PackageLemmas.{struct-resolved, structs-long}
use Rattle.wf_names_laws.proofs.DeclLaws.{struct-types-kept}

pub item-at : {X : Type 0} (xs : List X) (i : ℕ) → i < length xs → (x : X) × (slice_get xs i ≡ Some x)
item-at [] i b = absurd (omega (arith, b))
item-at (x ∷ xs) zero b = (x, refl)
item-at (x ∷ xs) (suc i) b = item-at xs i (omega (arith, b))

or-true : (t : Bool) → (t || true) ≡ true
or-true true = refl
or-true false = refl

any-at : {X : Type 0} (p : X → Bool) (xs : List X) (i : ℕ) (x : X) → slice_get xs i ≡ Some x → p x ≡ true → list_any p xs ≡ true
any-at p [] i x e h = absurd (cc e)
any-at p (y ∷ ys) zero x e h = let same : y ≡ x = cc e in ap (λ t. t || list_any p ys) (ap p same ∙ h)
any-at p (y ∷ ys) (suc i) x e h = ap (λ t. p y || t) (any-at p ys i x e h) ∙ or-true (p y)

either : (x y : Bool) → (x || (y || false)) ≡ true → (x ≡ true) ⊎ (y ≡ true)
either true y h = inl refl
either false true h = inr refl
either false false h = absurd (cc h)

pub fields-whole : (k : Standing) (whole : ℕ → Bool) (vs : List Variable) → ((i : ℕ) (v : Variable) → slice_get vs i ≡ Some v → is_whole_type whole (resolved_type k v.of) ≡ true)
    → list_all (λ (x : VarTree). is_whole_type whole x.of) (map (resolved_variable k) vs) ≡ true
fields-whole k whole [] all = refl
fields-whole k whole (v ∷ vs) all =
    both-so (is_whole_type whole (resolved_type k v.of)) (list_all (λ (x : VarTree). is_whole_type whole x.of) (map (resolved_variable k) vs)) (all 0 v refl)
    (fields-whole k whole vs (λ i w e. all (suc i) w e))

module _ (name : List ℕ) (texts : List (List ℕ)) (decls : List DeclTree) (order struct_order : List ℕ) (h : Decides (Breaks (declared texts decls)) None) where
  abbrev given : Declared
  given = declared texts decls

  abbrev made : NamedPackageTree
  made = resolved_by given name decls order struct_order

  pub no-cycle : (a : ℕ) (it : Structure) → slice_get given.structs a ≡ Some it → Path (holds_struct given) a a → ⊥
  no-cycle a it e p = h (record { rule = N4; at = it.name.at }) (by_cycle (record { rule = N4; at = it.name.at }) (holds_itself a it e p))

  -- Structs that hold the one with the number n, each once.
  record Hold (n : ℕ) (holders : List ℕ) : Type 0 where
    distinct : IsDistinct nat_eq holders
    each : (a : ℕ) → holds holders a ≡ true → (a < length given.structs) × Path (holds_struct given) a n

  not-holding : (n : ℕ) (it : Structure) (holders : List ℕ) → slice_get given.structs n ≡ Some it → Hold n holders → holds holders n ≡ false
  not-holding n it holders e all = by_test (holds holders n) refl
    where
      by_test : (t : Bool) → holds holders n ≡ t → t ≡ false
      by_test false k = refl
      by_test true k = absurd (no-cycle n it e (all.each n k).1)

  with-it : (n : ℕ) (it : Structure) (holders : List ℕ) → slice_get given.structs n ≡ Some it → Hold n holders → IsDistinct nat_eq (holders ++ n ∷ [])
  with-it n it holders e all = IsDistinct-push numbers_equivalence holders n all.distinct (not-holding n it holders e all)

  held-or-it : (n a : ℕ) (holders : List ℕ) → holds (holders ++ n ∷ []) a ≡ true → (holds holders a ≡ true) ⊎ (a ≡ n)
  held-or-it n a holders k = elim (either (holds holders a) (nat_eq a n) (sym (list_any-append (nat_eq a) holders (n ∷ [])) ∙ k)) [
    | inl p ↦ inl p
    | inr q ↦ inr (same_number a n q)
  ]

  hold-next : (n m : ℕ) (it : Structure) (holders : List ℕ) → slice_get given.structs n ≡ Some it → holds_struct given n m ≡ true → Hold n holders → Hold m (holders ++ n ∷ [])
  hold-next n m it holders e step all = record {
    distinct = with-it n it holders e all;
    each = λ a k. elim (held-or-it n a holders k) [
      | inl p ↦ let r = all.each a p in (r.0, path-push (holds_struct given) a n m r.1 step)
      | inr same ↦ (let b = slice_get_within given.structs n it e in omega (arith, b, same), subst (λ x. Path (holds_struct given) x m) (sym same) (last n m step))
    ];
  }

  -- There are no more of them than structs.
  few : (n : ℕ) (it : Structure) (holders : List ℕ) → slice_get given.structs n ≡ Some it → Hold n holders → length holders < length given.structs
  few n it holders e all =
      let long : length (holders ++ n ∷ []) ≤ length given.structs =
      length-le_from_distinct_below (holders ++ n ∷ []) (length given.structs) (with-it n it holders e all) below in
      omega (arith, long, length-append holders (n ∷ []))
    where
      below : (a : ℕ) → holds (holders ++ n ∷ []) a ≡ true → a < length given.structs
      below a k = elim (held-or-it n a holders k) [
        | inl p ↦ (all.each a p).0
        | inr same ↦ let b = slice_get_within given.structs n it e in omega (arith, b, same)
      ]

  -- With these levels left, after the structs that hold it, a struct is whole.
  abbrev WholeBehind : ℕ → Type 0
  WholeBehind levels = (n : ℕ) (it : Structure) (holders : List ℕ) → slice_get given.structs n ≡ Some it → Hold n holders → length given.structs ≤ length holders + levels
      → is_whole made levels n ≡ true

  pub holds-it : (n m i : ℕ) (it : Structure) (v : Variable) → slice_get given.structs n ≡ Some it → slice_get it.fields i ≡ Some v → struct_held given v.of ≡ Some m → holds_struct given n m ≡ true
  holds-it n m i it v e f held =
      ap (λ o. list_any (λ (w : Variable). is_the m (struct_held given w.of)) (fields_at o)) e
      ∙ any-at (λ (w : Variable). is_the m (struct_held given w.of)) it.fields i v f (ap (is_the m) held ∙ number_self m)

  type-whole : (levels : ℕ) → WholeBehind levels → (n i : ℕ) (it : Structure) (v : Variable) (holders : List ℕ) → slice_get given.structs n ≡ Some it → Hold n holders
      → length given.structs ≤ length holders + suc levels → slice_get it.fields i ≡ Some v
      → (of : TypeTree) → v.of ≡ of → AreKept given (struct_scope given it) (type_uses of) → is_whole_type (is_whole made levels) (resolved_type (standing_at given (struct_scope given it)) of) ≡ true
  type-whole levels inner n i it v holders e all bound f (tree.slice_of at element) is kept = refl
  type-whole levels inner n i it v holders e all bound f (tree.array_of length at element) is kept = refl
  type-whole levels inner n i it v holders e all bound f (tree.base_type name at bounds) is kept = refl
  type-whole levels inner n i it v holders e all bound f (tree.status_type at bounds) is kept = refl
  type-whole levels inner n i it v holders e all bound f (tree.struct_type text) is kept =
      by_number (struct_named given text.text.0) refl kept.0 (number-below (λ x. is_spelt text.text.0 x.name) given.structs kept.0)
    where
      by_number : (o : Option ℕ) → struct_named given text.text.0 ≡ o → is_some o ≡ true → number_or (struct_named given text.text.0) < length given.structs → is_whole made levels (number_or o) ≡ true
      by_number None same there below = absurd (cc there)
      by_number (Some m) same there below =
          let inside : m < length given.structs = subst (λ o. number_or o < length given.structs) same below in
          let found = item-at given.structs m inside in
          let step = holds-it n m i it v e f (ap (struct_held given) is ∙ same) in
          let long : length given.structs ≤ length (holders ++ n ∷ []) + levels = omega (arith, bound, length-append holders (n ∷ [])) in
          inner m found.0 (holders ++ n ∷ []) found.1 (hold-next n m it holders e step all) long

  one-more : (levels : ℕ) → WholeBehind levels → WholeBehind (suc levels)
  one-more levels inner n it holders e all bound =
      let scope = struct_scope given it in
      let r = struct-resolved given decls n it e in
      ap (is_whole_struct (is_whole made levels)) r.1
      ∙ fields-whole (standing_at given scope) (is_whole made levels) it.fields
      (λ i v f. type-whole levels inner n i it v holders e all bound f v.of refl (all-at (λ (w : Variable). AreKept given scope (type_uses w.of)) it.fields i v (struct-types-kept name texts decls order struct_order h n it e) f))

  whole-behind : (levels : ℕ) → WholeBehind levels
  whole-behind zero = λ n it holders e all bound. absurd (let l = few n it holders e all in omega (arith, l, bound))
  whole-behind (suc levels) = one-more levels (whole-behind levels)

  pub struct-whole : (n : ℕ) → n < length given.structs → is_whole made (length made.structs) n ≡ true
  unfolding IsDistinct
  struct-whole n b =
      let found = item-at given.structs n b in
      whole-behind (length made.structs) n found.0 [] found.1 (record { distinct = tt; each = λ a k. absurd (cc k) }) (omega (arith, structs-long given decls))

  whole-from : (n : ℕ) (ss : List NamedStructTree) → ((i : ℕ) (x : NamedStructTree) → slice_get ss i ≡ Some x → is_whole made (length made.structs) (n + i) ≡ true) → all_whole made n ss ≡ true
  whole-from n [] all = refl
  whole-from n (x ∷ ss) all =
      both-so (is_whole made (length made.structs) n) (all_whole made (suc n) ss)
      (let same : n + 0 ≡ n = omega arith in subst (λ m. is_whole made (length made.structs) m ≡ true) same (all 0 x refl))
      (whole-from (suc n) ss (λ i y e. let same : n + suc i ≡ suc n + i = omega arith in subst (λ m. is_whole made (length made.structs) m ≡ true) same (all (suc i) y e)))

  pub structs-whole : all_whole made 0 made.structs ≡ true
  structs-whole =
      whole-from 0 made.structs (λ i x e. let same : i ≡ 0 + i = omega arith in
      let b = slice_get_within made.structs i x e in
      subst (λ m. is_whole made (length made.structs) m ≡ true) same (struct-whole i (omega (arith, b, structs-long given decls))))
