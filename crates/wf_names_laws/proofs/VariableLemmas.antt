-- What a path names in a scope of the package has its number in the resolved scope.
use Rattle.std.proofs.Common.{◌≡◌, ℕ, true, List, Option, Some, None, option_map, slice_get, is_some, refl, sym, ap, ◌∙◌, inl, inr}
use Rattle.wf_ast.specs.declared.parsed.Path.{Path}
use Rattle.wf_ast.specs.declared.parsed.Root.{Root}
use Rattle.wf_ast.specs.declared.parsed.Root.TheVariants as roots
use Rattle.wf_named.specs.declared.nodes.Variable.{Variable as NamedVariable}
use Rattle.wf_named.specs.declared.nodes.Variable.TheVariants as variables
use Rattle.wf_named.specs.NamedTree.{NamedTypeTree}
use Rattle.wf_named.specs.WellNamed.{NamedScope as NamedScope, type_of_variable, is_there}
use Rattle.wf_names_rules.specs.declared.sorts.Sort.{Sort}
use Rattle.wf_names_rules.specs.Declarations.{Variable, Declared, is_spelt, text_of, place_in}
use Rattle.wf_names_rules.specs.Uses.{Scope}
use Rattle.wf_names_rules.specs.Meanings.{sort_of, sort_in, fields_known, known_at, or_sort, sort_at, path_sort}
use Rattle.wf_names_resolve.specs.Standing.{standing_at}
use Rattle.wf_names_resolve.specs.Resolved.{number_or, bare_variable, variable_at, resolved_path, resolved_type}
use Rattle.wf_names_laws.specs.ResolvedScopes.{IsScopeOf}
use Rattle.wf_names_laws.proofs.ListLemmas.{same-inner, FoundAt, FoundNowhere, found-or-not, place-of}

-- A variable of this sort in a list, and its place.
record Listed (d : Declared) (vs : List Variable) (text : ℕ) (sort : Sort) : Type 0 where
  v : Variable
  i : ℕ
  place : place_in vs text ≡ Some i
  is : slice_get vs i ≡ Some v
  sort_is : sort_of (text_of d) v.of ≡ sort

-- A variable of this sort whose resolved type is that of the resolved variable.
pub record Names (d : Declared) (s : NamedScope) (sort : Sort) (of : NamedVariable) : Type 0 where
  pub v : Variable
  pub there : Scope
  pub sort_is : sort_of (text_of d) v.of ≡ sort
  pub type_is : type_of_variable s of ≡ Some (resolved_type (standing_at d there) v.of)

module _ (d : Declared) where
  sort-found : (vs : List Variable) (text : ℕ) (r : FoundAt (λ v. is_spelt text v.name) 0 vs) → sort_in d vs text ≡ Some (sort_of (text_of d) r.x.of)
  sort-found vs text r = ap (option_map (λ (v : Variable). sort_of (text_of d) v.of)) r.found

  sort-nowhere : (vs : List Variable) (text : ℕ) → FoundNowhere (λ v. is_spelt text v.name) 0 vs → sort_in d vs text ≡ None
  sort-nowhere vs text r = ap (option_map (λ (v : Variable). sort_of (text_of d) v.of)) r.found

  listed-found : (vs : List Variable) (text : ℕ) (sort : Sort) → FoundAt (λ v. is_spelt text v.name) 0 vs → sort_in d vs text ≡ Some sort → Listed d vs text sort
  listed-found vs text sort r e = record {
    v = r.x;
    i = r.i;
    place = place-of (λ v. is_spelt text v.name) vs r;
    is = r.is;
    sort_is = same-inner (sort_of (text_of d) r.x.of) sort (sym (sort-found vs text r) ∙ e);
  }

  listed : (vs : List Variable) (text : ℕ) (sort : Sort) → sort_in d vs text ≡ Some sort → Listed d vs text sort
  listed vs text sort e = elim (found-or-not (λ (v : Variable). is_spelt text v.name) 0 vs) [
    | inl r ↦ listed-found vs text sort r e
    | inr r ↦ absurd (cc (sym (sort-nowhere vs text r) ∙ e))
  ]

  module _ (scope : Scope) (s : NamedScope) (known : IsScopeOf d scope s) where
    local-named : (text : ℕ) (sort : Sort) → Listed d scope.locals text sort → Names d s sort (bare_variable (place_in scope.locals text) (place_in scope.constants text))
    local-named text sort l =
        let r = known.locals l.i l.v l.is in
        record { v = l.v; there = r.0; sort_is = l.sort_is; type_is = ap (λ o. type_of_variable s (bare_variable o (place_in scope.constants text))) l.place ∙ r.1 }

    constant-named : (text : ℕ) (sort : Sort) → place_in scope.locals text ≡ None → Listed d scope.constants text sort
        → Names d s sort (bare_variable (place_in scope.locals text) (place_in scope.constants text))
    constant-named text sort none l =
        let r = known.constants l.i l.v l.is in
        record {
          v = l.v;
          there = r.0;
          sort_is = l.sort_is;
          type_is = ap (λ o. type_of_variable s (bare_variable o (place_in scope.constants text))) none
              ∙ ap (λ o. type_of_variable s (variables.Const (record { 0 = number_or o }))) l.place ∙ r.1;
        }

    bare-named : (text : ℕ) (sort : Sort) → or_sort (sort_in d scope.locals text) (sort_in d scope.constants text) ≡ Some sort
        → Names d s sort (bare_variable (place_in scope.locals text) (place_in scope.constants text))
    bare-named text sort e = elim (found-or-not (λ (v : Variable). is_spelt text v.name) 0 scope.locals) [
      | inl r ↦ local-named text sort (listed-found scope.locals text sort r (sort-found scope.locals text r ∙ (sym (ap (λ o. or_sort o (sort_in d scope.constants text)) (sort-found scope.locals text r)) ∙ e)))
      | inr r ↦ constant-named text sort r.placed (listed scope.constants text sort (sym (ap (λ o. or_sort o (sort_in d scope.constants text)) (sort-nowhere scope.locals text r)) ∙ e))
    ]

    pub root-named : (root : Root) (text : ℕ) (sort : Sort) → sort_at (known_at d scope) root text ≡ Some sort → Names d s sort (variable_at (standing_at d scope) root text)
    root-named roots.Bare text sort e = bare-named text sort e
    root-named roots.This text sort e =
        let l = listed (fields_known d scope.this) text sort e in
        let r = known.fields l.i l.v l.is in
        record { v = l.v; there = r.0; sort_is = l.sort_is; type_is = ap (λ o. type_of_variable s (variables.Field (record { 0 = number_or o }))) l.place ∙ r.1 }
    root-named roots.Args text sort e =
        let l = listed scope.args text sort e in
        let r = known.args l.i l.v l.is in
        record { v = l.v; there = r.0; sort_is = l.sort_is; type_is = ap (λ o. type_of_variable s (variables.Arg (record { 0 = number_or o }))) l.place ∙ r.1 }

    -- A path that has a meaning is there.
    pub path-there : (path : Path) → is_some (path_sort (known_at d scope) path) ≡ true → is_there s (resolved_path (standing_at d scope) path) ≡ true
    path-there path h = by_sort (path_sort (known_at d scope) path) refl h
      where
        by_sort : (o : Option Sort) → path_sort (known_at d scope) path ≡ o → is_some o ≡ true → is_there s (resolved_path (standing_at d scope) path) ≡ true
        by_sort None e k = absurd (cc k)
        by_sort (Some sort) e k = ap (λ (o : Option NamedTypeTree). is_some o) (root-named path.root path.name.text.0 sort e).type_is
