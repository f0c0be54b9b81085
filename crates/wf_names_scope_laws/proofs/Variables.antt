-- What paths, statuses and the names of structs mean.
use Rattle.std.proofs.Common.{◌≡◌, ◌⊎◌, inl, inr, ℕ, zero, suc, ◌+◌, Bool, true, false, not, ◌&&◌, ◌||◌, List, [], ◌∷◌, Option, Some, None, option_map, slice_get, nat_eq, is_some, refl, sym, ap, ◌∙◌, subst}
use Rattle.std.specs.List.{list_any}
use Rattle.std.proofs.lemmas.Slice.Eq.{bytes_eq-Decides}
use Rattle.std.specs.Str.{bytes_eq}
use Rattle.wf_text.specs.Precedence.{Decides}
use Rattle.wf_ast.specs.declared.parsed.Path.{Path}
use Rattle.wf_ast.specs.declared.parsed.Root.{Root}
use Rattle.wf_ast.specs.declared.parsed.Root.TheVariants as roots
use Rattle.wf_named.specs.declared.nodes.Variable.{Variable as NamedVariable}
use Rattle.wf_named.specs.declared.nodes.Variable.TheVariants as variables
use Rattle.wf_names_rules.specs.declared.sorts.Sort.{Sort}
use Rattle.wf_names_rules.specs.Declarations.{Variable, Structure, Declared, is_spelt, text_of, status_named, struct_named, structure_in, fields_in, place_in}
use Rattle.wf_names_rules.specs.NameRules.{Breaks}
use Rattle.wf_names_rules.specs.Meanings.{base_status_texts, is_base_status, sort_of, sort_in, fields_known, known_at, or_sort, sort_at, path_sort}
use Rattle.wf_names_rules.specs.Uses.{Scope}
use Rattle.graphs.proofs.NumberLemmas.{same_number, number_self}
use Rattle.wf_names_resolve.specs.Standing.{standing_at}
use Rattle.wf_names_resolve.specs.Resolved.{number_or, base_status_number, bare_variable, variable_at, resolved_path}
use Rattle.wf_names_laws.proofs.ListLemmas.{FoundAt, FoundNowhere, found-or-not, place-of}
use Rattle.wf_names_scope_laws.specs.Scoping.{HasNone, IsCalled, IsVariableCalled, IsStructCalled, IsVariable, IsStruct, VariableMeans, PathMeans, OwnStatusMeans, BaseStatusMeans, StructMeans}
use Rattle.wf_names_scope_laws.proofs.Apart.{AreOnce, IsApart, one-found, statuses-once, structs-once}

-- A variable by its number, with its type's sort.
pub record Met (d : Declared) (scope : Scope) (root : Root) (text : ℕ) (sort : Sort) (named : NamedVariable) : Type 0 where
  pub v : Variable
  pub means : VariableMeans d scope root text named v
  pub sort_is : sort_of (text_of d) v.of ≡ sort

module _ (d : Declared) (h : Decides (Breaks d) None) (scope : Scope) (apart : IsApart d scope) where
  abbrev called : ℕ → Variable → Bool
  called text v = is_spelt text v.name

  sort-found : (vs : List Variable) (text : ℕ) (r : FoundAt (called text) 0 vs) → sort_in d vs text ≡ Some (sort_of (text_of d) r.x.of)
  sort-found vs text r = ap (option_map (λ (v : Variable). sort_of (text_of d) v.of)) r.found

  sort-nowhere : (vs : List Variable) (text : ℕ) → FoundNowhere (called text) 0 vs → sort_in d vs text ≡ None
  sort-nowhere vs text r = ap (option_map (λ (v : Variable). sort_of (text_of d) v.of)) r.found

  variable-one : (vs : List Variable) (text : ℕ) → AreOnce (IsVariableCalled text) vs → (r : FoundAt (called text) 0 vs) → IsVariable vs text r.i r.x
  variable-one vs text once r = one-found (called text) (IsVariableCalled text) (λ v p. same_number v.name.text.0 text p) vs once r

  none-called : (vs : List Variable) (text : ℕ) → FoundNowhere (called text) 0 vs → HasNone (IsVariableCalled text) vs
  none-called vs text r i v e p =
      let turned : nat_eq v.name.text.0 text ≡ true = subst (λ n. nat_eq v.name.text.0 n ≡ true) p (number_self v.name.text.0) in
      absurd (cc (sym turned ∙ r.none i v e))

  bare-local : (text : ℕ) (sort : Sort) → FoundAt (called text) 0 scope.locals → sort_in d scope.locals text ≡ Some sort
      → Met d scope roots.Bare text sort (bare_variable (place_in scope.locals text) (place_in scope.constants text))
  bare-local text sort r e =
      let P : Option ℕ → Type 0 = λ o. Met d scope roots.Bare text sort (bare_variable o (place_in scope.constants text)) in
      subst P (sym (place-of (called text) scope.locals r)) (record {
        v = r.x;
        means = (variable-one scope.locals text (apart.locals text) r, (λ j c f q. apart.others text r.i j r.x c r.is f (same_number r.x.name.text.0 text r.passes) q));
        sort_is = cc (sym (sort-found scope.locals text r) ∙ e);
      })

  bare-constant : (text : ℕ) (sort : Sort) → FoundNowhere (called text) 0 scope.locals → FoundAt (called text) 0 scope.constants → sort_in d scope.constants text ≡ Some sort
      → Met d scope roots.Bare text sort (bare_variable (place_in scope.locals text) (place_in scope.constants text))
  bare-constant text sort none r e =
      let P : Option ℕ → Type 0 = λ o. Met d scope roots.Bare text sort (bare_variable o (place_in scope.constants text)) in
      let Q : Option ℕ → Type 0 = λ o. Met d scope roots.Bare text sort (variables.Const (record { 0 = number_or o })) in
      subst P (sym none.placed) (subst Q (sym (place-of (called text) scope.constants r)) (record {
        v = r.x;
        means = (variable-one scope.constants text (apart.constants text) r, none-called scope.locals text none);
        sort_is = cc (sym (sort-found scope.constants text r) ∙ e);
      }))

  bare-met : (text : ℕ) (sort : Sort) → or_sort (sort_in d scope.locals text) (sort_in d scope.constants text) ≡ Some sort
      → Met d scope roots.Bare text sort (bare_variable (place_in scope.locals text) (place_in scope.constants text))
  bare-met text sort e = elim (found-or-not (called text) 0 scope.locals) [
    | inl r ↦ bare-local text sort r (sort-found scope.locals text r ∙ (sym (ap (λ o. or_sort o (sort_in d scope.constants text)) (sort-found scope.locals text r)) ∙ e))
    | inr r ↦ behind r (sym (ap (λ o. or_sort o (sort_in d scope.constants text)) (sort-nowhere scope.locals text r)) ∙ e) (found-or-not (called text) 0 scope.constants)
  ]
    where
      behind : FoundNowhere (called text) 0 scope.locals → sort_in d scope.constants text ≡ Some sort → FoundAt (called text) 0 scope.constants ⊎ FoundNowhere (called text) 0 scope.constants
          → Met d scope roots.Bare text sort (bare_variable (place_in scope.locals text) (place_in scope.constants text))
      behind none k (inl r) = bare-constant text sort none r k
      behind none k (inr r) = absurd (cc (sym (sort-nowhere scope.constants text r) ∙ k))

  arg-met : (text : ℕ) (sort : Sort) → sort_in d scope.args text ≡ Some sort → Met d scope roots.Args text sort (variables.Arg (record { 0 = number_or (place_in scope.args text) }))
  arg-met text sort e = elim (found-or-not (called text) 0 scope.args) [
    | inl r ↦ found r
    | inr r ↦ absurd (cc (sym (sort-nowhere scope.args text r) ∙ e))
  ]
    where
      Q : Option ℕ → Type 0
      Q o = Met d scope roots.Args text sort (variables.Arg (record { 0 = number_or o }))

      found : FoundAt (called text) 0 scope.args → Met d scope roots.Args text sort (variables.Arg (record { 0 = number_or (place_in scope.args text) }))
      found r = subst Q (sym (place-of (called text) scope.args r)) (record {
        v = r.x;
        means = variable-one scope.args text (apart.args text) r;
        sort_is = cc (sym (sort-found scope.args text r) ∙ e);
      })

  -- The struct of a name, by what is found of it.
  struct-one : (text : ℕ) (r : FoundAt (λ (s : Structure). is_spelt text s.name) 0 d.structs) → IsStruct d text r.i r.x
  struct-one text r = one-found (λ (s : Structure). is_spelt text s.name) (IsStructCalled text) (λ s p. same_number s.name.text.0 text p) d.structs (structs-once d h text) r

  field-met : (text : ℕ) (sort : Sort) → sort_in d (fields_known d scope.this) text ≡ Some sort
      → Met d scope roots.This text sort (variables.Field (record { 0 = number_or (place_in (fields_known d scope.this) text) }))
  field-met text sort e = by_this scope.this refl
    where
      Here : Option ℕ → Type 0
      Here this = Met d scope roots.This text sort (variables.Field (record { 0 = number_or (place_in (fields_known d this) text) }))

      in_struct : (owner : ℕ) → scope.this ≡ Some owner → FoundAt (λ (s : Structure). is_spelt owner s.name) 0 d.structs → Here (Some owner)
      in_struct owner is r =
          let fields : fields_known d (Some owner) ≡ r.x.fields = ap (λ o. fields_in (structure_in d o)) (place-of (λ (s : Structure). is_spelt owner s.name) d.structs r) ∙ ap fields_in r.is in
          let sorted : sort_in d r.x.fields text ≡ Some sort = ap (λ vs. sort_in d vs text) (sym (ap (fields_known d) is ∙ fields)) ∙ e in
          let once : AreOnce (IsVariableCalled text) r.x.fields = subst (λ vs. AreOnce (IsVariableCalled text) vs) (ap (fields_known d) is ∙ fields) (apart.fields text) in
          let Q : List Variable → Type 0 = λ vs. Met d scope roots.This text sort (variables.Field (record { 0 = number_or (place_in vs text) })) in
          subst Q (sym fields) (elim (found-or-not (called text) 0 r.x.fields) [
            | inl q ↦ found owner is r once sorted q
            | inr q ↦ absurd (cc (sym (sort-nowhere r.x.fields text q) ∙ sorted))
          ])
        where
          found : (owner : ℕ) → scope.this ≡ Some owner → (r : FoundAt (λ (s : Structure). is_spelt owner s.name) 0 d.structs) → AreOnce (IsVariableCalled text) r.x.fields → sort_in d r.x.fields text ≡ Some sort
              → FoundAt (called text) 0 r.x.fields → Met d scope roots.This text sort (variables.Field (record { 0 = number_or (place_in r.x.fields text) }))
          found owner is r once sorted q =
              let R : Option ℕ → Type 0 = λ o. Met d scope roots.This text sort (variables.Field (record { 0 = number_or o })) in
              subst R (sym (place-of (called text) r.x.fields q)) (record {
                v = q.x;
                means = record { owner = owner; is = is; number = r.i; structure = r.x; declared = struct-one owner r; field = variable-one r.x.fields text once q };
                sort_is = cc (sym (sort-found r.x.fields text q) ∙ sorted);
              })

      no_struct : (owner : ℕ) → scope.this ≡ Some owner → struct_named d owner ≡ None → Here (Some owner)
      no_struct owner is none =
          let fields : fields_known d (Some owner) ≡ [] = ap (λ o. fields_in (structure_in d o)) none in
          let sorted : sort_in d [] text ≡ Some sort = ap (λ vs. sort_in d vs text) (sym (ap (fields_known d) is ∙ fields)) ∙ e in
          absurd (cc sorted)

      by_this : (this : Option ℕ) → scope.this ≡ this → Met d scope roots.This text sort (variables.Field (record { 0 = number_or (place_in (fields_known d scope.this) text) }))
      by_this None is = let sorted : sort_in d [] text ≡ Some sort = ap (λ o. sort_in d (fields_known d o) text) (sym is) ∙ e in absurd (cc sorted)
      by_this (Some owner) is = subst Here (sym is) (elim (found-or-not (λ (s : Structure). is_spelt owner s.name) 0 d.structs) [
        | inl r ↦ in_struct owner is r
        | inr r ↦ no_struct owner is r.placed
      ])

  pub root-met : (root : Root) (text : ℕ) (sort : Sort) → sort_at (known_at d scope) root text ≡ Some sort → Met d scope root text sort (variable_at (standing_at d scope) root text)
  root-met roots.Bare text sort e = bare-met text sort e
  root-met roots.This text sort e = field-met text sort e
  root-met roots.Args text sort e = arg-met text sort e

  pub path-means : (path : Path) → is_some (path_sort (known_at d scope) path) ≡ true → PathMeans d scope path (resolved_path (standing_at d scope) path)
  path-means path k = by_sort (path_sort (known_at d scope) path) refl k
    where
      by_sort : (o : Option Sort) → path_sort (known_at d scope) path ≡ o → is_some o ≡ true → PathMeans d scope path (resolved_path (standing_at d scope) path)
      by_sort None e k = absurd (cc k)
      by_sort (Some sort) e k = let met = root-met path.root path.name.text.0 sort e in record { v = met.v; means = met.means; place = refl }

-- Statuses and structs.
module _ (d : Declared) (h : Decides (Breaks d) None) where
  pub own-status-means : (text : ℕ) → is_some (status_named d text) ≡ true → OwnStatusMeans d text (number_or (option_map (λ n. 10 + n) (status_named d text)))
  own-status-means text k = elim (found-or-not (is_spelt text) 0 d.statuses) [
    | inl r ↦ found r
    | inr r ↦ absurd (cc (sym k ∙ ap (λ (o : Option ℕ). is_some o) r.placed))
  ]
    where
      found : FoundAt (is_spelt text) 0 d.statuses → OwnStatusMeans d text (number_or (option_map (λ n. 10 + n) (status_named d text)))
      found r = record {
        n = r.i;
        status = r.x;
        means = one-found (is_spelt text) (IsCalled text) (λ name p. same_number name.text.0 text p) d.statuses (statuses-once d h text) r;
        number_is = ap (λ o. number_or (option_map (λ n. 10 + n) o)) (place-of (is_spelt text) d.statuses r);
      }

  pub struct-means : (text : ℕ) → is_some (struct_named d text) ≡ true → StructMeans d text (number_or (struct_named d text))
  struct-means text k = elim (found-or-not (λ (s : Structure). is_spelt text s.name) 0 d.structs) [
    | inl r ↦ found r
    | inr r ↦ absurd (cc (sym k ∙ ap (λ (o : Option ℕ). is_some o) r.placed))
  ]
    where
      Q : Option ℕ → Type 0
      Q o = StructMeans d text (number_or o)

      found : FoundAt (λ (s : Structure). is_spelt text s.name) 0 d.structs → StructMeans d text (number_or (struct_named d text))
      found r = subst Q (sym (place-of (λ (s : Structure). is_spelt text s.name) d.structs r)) (record {
        structure = r.x;
        means = one-found (λ (s : Structure). is_spelt text s.name) (IsStructCalled text) (λ s p. same_number s.name.text.0 text p) d.structs (structs-once d h text) r;
      })

-- The texts of the language's statuses differ.
abbrev differ : List (List ℕ) → Bool
differ [] = true
differ (x ∷ xs) = not (list_any (bytes_eq x) xs) && differ xs

has-one : (p : List ℕ → Bool) (xs : List (List ℕ)) (i : ℕ) (x : List ℕ) → slice_get xs i ≡ Some x → p x ≡ true → list_any p xs ≡ true
has-one p [] i x e h = absurd (cc e)
has-one p (y ∷ ys) zero x e h = let same : y ≡ x = cc e in by_test (p y) (ap p same ∙ h)
  where
    by_test : (t : Bool) → t ≡ true → (t || list_any p ys) ≡ true
    by_test true k = refl
    by_test false k = absurd (cc k)
has-one p (y ∷ ys) (suc i) x e h = by_test (p y) (has-one p ys i x e h)
  where
    by_test : (t : Bool) → list_any p ys ≡ true → (t || list_any p ys) ≡ true
    by_test true k = refl
    by_test false k = k

has-none : (p : List ℕ → Bool) (xs : List (List ℕ)) → ((i : ℕ) (x : List ℕ) → slice_get xs i ≡ Some x → p x ≡ false) → list_any p xs ≡ false
has-none p [] none = refl
has-none p (y ∷ ys) none = by_test (p y) (none 0 y refl) (has-none p ys (λ i x e. none (suc i) x e))
  where
    by_test : (t : Bool) → t ≡ false → list_any p ys ≡ false → (t || list_any p ys) ≡ false
    by_test true h k = absurd (cc h)
    by_test false h k = k

unlike : (a b : Bool) → (not a && b) ≡ true → (a ≡ false) × (b ≡ true)
unlike true b h = absurd (cc h)
unlike false b h = (refl, h)

texts-once : (t : List ℕ) (xs : List (List ℕ)) → differ xs ≡ true → AreOnce (λ (s : List ℕ). s ≡ t) xs
texts-once t [] h i j x y e f p q = absurd (cc e)
texts-once t (z ∷ xs) h zero zero x y e f p q = refl
texts-once t (z ∷ xs) h zero (suc j) x y e f p q =
    let first : z ≡ x = cc e in
    let same : bytes_eq z y ≡ true = (bytes_eq-Decides z y).1 (first ∙ p ∙ sym q) in
    absurd (cc (sym (has-one (bytes_eq z) xs j y f same) ∙ (unlike (list_any (bytes_eq z) xs) (differ xs) h).0))
texts-once t (z ∷ xs) h (suc i) zero x y e f p q =
    let first : z ≡ y = cc f in
    let same : bytes_eq z x ≡ true = (bytes_eq-Decides z x).1 (first ∙ q ∙ sym p) in
    absurd (cc (sym (has-one (bytes_eq z) xs i x e same) ∙ (unlike (list_any (bytes_eq z) xs) (differ xs) h).0))
texts-once t (z ∷ xs) h (suc i) (suc j) x y e f p q = ap suc (texts-once t xs (unlike (list_any (bytes_eq z) xs) (differ xs) h).1 i j x y e f p q)

bytes-turned : (a b : List ℕ) → bytes_eq a b ≡ false → bytes_eq b a ≡ false
bytes-turned a b h = by_test (bytes_eq b a) refl
  where
    by_test : (t : Bool) → bytes_eq b a ≡ t → t ≡ false
    by_test false e = refl
    by_test true e = absurd (cc (sym ((bytes_eq-Decides a b).1 (sym ((bytes_eq-Decides b a).0 e))) ∙ h))

pub base-status-means : (d : Declared) (text : ℕ) → is_base_status (text_of d text) ≡ true → BaseStatusMeans d text (base_status_number (text_of d text))
base-status-means d text k = elim (found-or-not (bytes_eq (text_of d text)) 1 base_status_texts) [
  | inl r ↦ found r
  | inr r ↦ absurd (cc (sym k ∙ has-none (λ status. bytes_eq status (text_of d text)) base_status_texts (λ i x e. bytes-turned (text_of d text) x (r.none i x e))))
]
  where
    found : FoundAt (bytes_eq (text_of d text)) 1 base_status_texts → BaseStatusMeans d text (base_status_number (text_of d text))
    found r = record {
      n = r.i;
      status = r.x;
      means = one-found (bytes_eq (text_of d text)) (λ (s : List ℕ). s ≡ text_of d text) (λ s p. sym ((bytes_eq-Decides (text_of d text) s).0 p)) base_status_texts (texts-once (text_of d text) base_status_texts refl) r;
      number_is = ap number_or r.placed;
    }
