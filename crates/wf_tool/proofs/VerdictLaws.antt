-- A package has one verdict, since reading gives one answer, and one refusal decides of names and one of types.
use Rattle.std.proofs.Common.{◌≡◌, ℕ, List, [], length, Option, None, Some, sym, ap, ◌∙◌, subst}
use Rattle.wf_text.specs.declared.rules.Refusal.{Refusal}
use Rattle.wf_text.specs.Precedence.{IsFirst}
use Rattle.wf_text.proofs.PrecedenceLaws.{Decides-map, IsFirst-same}
use Rattle.wf_ast.specs.ParsedParts.{Parsed}
use Rattle.wf_ast.specs.ParsedTree.{DeclTree}
use Rattle.wf_ast.specs.ReadPackage.{decls_of}
use Rattle.wf_parse.specs.Parsing.{IsParsed}
use Rattle.wf_parse.proofs.OneReadings.{trees_unique, one_refusal, read_or_misread}
use Rattle.wf_names_rules.specs.Declarations.{declared, methods_of}
use Rattle.wf_names_rules.specs.NameRules as names
use Rattle.wf_names_resolve.specs.Package.{resolved_package}
use Rattle.wf_types_rules.specs.TypeRules as types
use Rattle.wf_bounds_laws.specs.BoundsRules as bounds
use Rattle.wf_tool.specs.Verdict as verdicts
use Rattle.wf_tool.specs.Verdict.{BreaksNames, BreaksTypes, out_of_bounds_at, BreaksPoints, IsAccepted, IsMisread, IsMisnamed, IsMistyped, IsOutOfBounds, IsRefused, VerdictsExclude, large, misread, misnamed, mistyped, out_of_bounds, has_too_many_points}

some-once : (refusal other : Refusal) → Some refusal ≡ Some other → refusal ≡ other
some-once refusal other is = cc is

none-or-some : (refusal : Refusal) (found : Option Refusal) → found ≡ None → found ≡ Some refusal → ⊥
none-or-some refusal found none some = absurd (cc (none, some))

module _ (name : List ℕ) (files : List (List ℕ)) where
  -- what is read breaks the same rules of names, and of types, as each other tree that the files are read to
  names-once : (p q : Parsed) → IsParsed name files p → IsParsed name files q → (s : Refusal) → BreaksNames p s → BreaksNames q s
  names-once p q a b s h =
      let same = trees_unique name files p q a b in
      let T : List (List ℕ) → Type 0 = λ texts. names.Breaks (declared texts (decls_of p)) s in
      let D : List DeclTree → Type 0 = λ decls. names.Breaks (declared q.texts decls) s in
      subst D same.decls (subst T same.texts h)

  types-once : (p q : Parsed) → IsParsed name files p → IsParsed name files q → (s : Refusal) → BreaksTypes p s → BreaksTypes q s
  types-once p q a b s h =
      let same = trees_unique name files p q a b in
      let N : List ℕ → Type 0 = λ of. types.Breaks (resolved_package of p.texts (decls_of p) [] []) s in
      let T : List (List ℕ) → Type 0 = λ texts. types.Breaks (resolved_package q.name texts (decls_of p) [] []) s in
      let D : List DeclTree → Type 0 = λ decls. types.Breaks (resolved_package q.name q.texts decls [] []) s in
      subst D same.decls (subst T same.texts (subst N same.name h))

  -- and of bounds, and of points
  bounds-once : (p q : Parsed) → IsParsed name files p → IsParsed name files q → out_of_bounds_at p ≡ out_of_bounds_at q
  bounds-once p q a b =
      let same = trees_unique name files p q a b in
      ap (λ (of : List ℕ). bounds.bounds_refusal (resolved_package of p.texts (decls_of p) [] [])) same.name
      ∙ ap (λ (texts : List (List ℕ)). bounds.bounds_refusal (resolved_package q.name texts (decls_of p) [] [])) same.texts
      ∙ ap (λ (decls : List DeclTree). bounds.bounds_refusal (resolved_package q.name q.texts decls [] [])) same.decls

  points-once : (p q : Parsed) → IsParsed name files p → IsParsed name files q → (s : Refusal) → BreaksPoints p s → BreaksPoints q s
  points-once p q a b s h =
      let same = trees_unique name files p q a b in
      let N : List ℕ → Type 0 = λ of. bounds.BreaksPoints (resolved_package of p.texts (decls_of p) [] []) s in
      let T : List (List ℕ) → Type 0 = λ texts. bounds.BreaksPoints (resolved_package q.name texts (decls_of p) [] []) s in
      let D : List DeclTree → Type 0 = λ decls. bounds.BreaksPoints (resolved_package q.name q.texts decls [] []) s in
      subst D same.decls (subst T same.texts (subst N same.name h))

  first-name : (p q : Parsed) → IsParsed name files p → IsParsed name files q → (refusal : Refusal) → IsFirst (BreaksNames p) refusal → IsFirst (BreaksNames q) refusal
  first-name p q a b refusal h = Decides-map (BreaksNames p) (BreaksNames q) (Some refusal) (names-once p q a b) (names-once q p b a) h

  first-type : (p q : Parsed) → IsParsed name files p → IsParsed name files q → (refusal : Refusal) → IsFirst (BreaksTypes p) refusal → IsFirst (BreaksTypes q) refusal
  first-type p q a b refusal h = Decides-map (BreaksTypes p) (BreaksTypes q) (Some refusal) (types-once p q a b) (types-once q p b a) h

  first-point : (p q : Parsed) → IsParsed name files p → IsParsed name files q → (refusal : Refusal) → IsFirst (BreaksPoints p) refusal → IsFirst (BreaksPoints q) refusal
  first-point p q a b refusal h = Decides-map (BreaksPoints p) (BreaksPoints q) (Some refusal) (points-once p q a b) (points-once q p b a) h

  -- a phase refuses, and the tree is one that keeps its rules
  names-or : {X : Type 0} (refusal : Refusal) (read : Parsed) → IsMisnamed name files refusal → IsParsed name files read → verdicts.KeepsNames read → X
  names-or refusal read r parsed kept = absurd (kept refusal (names-once r.read read r.parsed parsed refusal r.decides.breaks))

  types-or : {X : Type 0} (refusal : Refusal) (read : Parsed) → IsMistyped name files refusal → IsParsed name files read → verdicts.KeepsTypes read → X
  types-or refusal read r parsed kept = absurd (kept refusal (types-once r.read read r.parsed parsed refusal r.decides.breaks))

  bounds-or : {X : Type 0} (refusal : Refusal) (read : Parsed) → IsOutOfBounds name files refusal → IsParsed name files read → out_of_bounds_at read ≡ None → X
  bounds-or refusal read r parsed kept = absurd (none-or-some refusal _ kept (bounds-once read r.read parsed r.parsed ∙ r.first))

  misread-or : {X : Type 0} (refusal : Refusal) (read : Parsed) → IsMisread files refusal → IsParsed name files read → X
  misread-or refusal read r parsed = absurd (read_or_misread name files read refusal parsed r.misread)

  accepted-or : (methods : ℕ) (refusal : Refusal) → IsAccepted name files methods → IsRefused name files refusal → ⊥
  accepted-or methods refusal a (large r) = none-or-some refusal _ a.sized r
  accepted-or methods refusal a (misread r) = read_or_misread name files a.read refusal a.parsed r.misread
  accepted-or methods refusal a (misnamed r) = names-or refusal a.read r a.parsed a.names
  accepted-or methods refusal a (mistyped r) = types-or refusal a.read r a.parsed a.types
  accepted-or methods refusal a (out_of_bounds r) = bounds-or refusal a.read r a.parsed a.bounds
  accepted-or methods refusal a (has_too_many_points r) = a.points refusal (points-once r.read a.read r.parsed a.parsed refusal r.decides.breaks)

  same-count : (methods other : ℕ) → IsAccepted name files methods → IsAccepted name files other → methods ≡ other
  same-count methods other a b = a.counted ∙ (ap (λ (decls : List DeclTree). length (methods_of decls)) (trees_unique name files a.read b.read a.parsed b.parsed).decls ∙ sym b.counted)

  same-refusal : (refusal other : Refusal) → IsRefused name files refusal → IsRefused name files other → refusal ≡ other
  same-refusal refusal other (large r) (large s) = some-once refusal other (sym r ∙ s)
  same-refusal refusal other (large r) (misread s) = absurd (none-or-some refusal _ s.sized r)
  same-refusal refusal other (large r) (misnamed s) = absurd (none-or-some refusal _ s.sized r)
  same-refusal refusal other (large r) (mistyped s) = absurd (none-or-some refusal _ s.sized r)
  same-refusal refusal other (large r) (out_of_bounds s) = absurd (none-or-some refusal _ s.sized r)
  same-refusal refusal other (large r) (has_too_many_points s) = absurd (none-or-some refusal _ s.sized r)
  same-refusal refusal other (misread r) (large s) = absurd (none-or-some other _ r.sized s)
  same-refusal refusal other (misread r) (misread s) = one_refusal files refusal other r.misread s.misread
  same-refusal refusal other (misread r) (misnamed s) = misread-or refusal s.read r s.parsed
  same-refusal refusal other (misread r) (mistyped s) = misread-or refusal s.read r s.parsed
  same-refusal refusal other (misread r) (out_of_bounds s) = misread-or refusal s.read r s.parsed
  same-refusal refusal other (misread r) (has_too_many_points s) = misread-or refusal s.read r s.parsed
  same-refusal refusal other (misnamed r) (large s) = absurd (none-or-some other _ r.sized s)
  same-refusal refusal other (misnamed r) (misread s) = misread-or other r.read s r.parsed
  same-refusal refusal other (misnamed r) (misnamed s) = IsFirst-same (BreaksNames r.read) refusal other r.decides (first-name s.read r.read s.parsed r.parsed other s.decides)
  same-refusal refusal other (misnamed r) (mistyped s) = names-or refusal s.read r s.parsed s.names
  same-refusal refusal other (misnamed r) (out_of_bounds s) = names-or refusal s.read r s.parsed s.names
  same-refusal refusal other (misnamed r) (has_too_many_points s) = names-or refusal s.read r s.parsed s.names
  same-refusal refusal other (mistyped r) (large s) = absurd (none-or-some other _ r.sized s)
  same-refusal refusal other (mistyped r) (misread s) = misread-or other r.read s r.parsed
  same-refusal refusal other (mistyped r) (misnamed s) = names-or other r.read s r.parsed r.names
  same-refusal refusal other (mistyped r) (mistyped s) = IsFirst-same (BreaksTypes r.read) refusal other r.decides (first-type s.read r.read s.parsed r.parsed other s.decides)
  same-refusal refusal other (mistyped r) (out_of_bounds s) = types-or refusal s.read r s.parsed s.types
  same-refusal refusal other (mistyped r) (has_too_many_points s) = types-or refusal s.read r s.parsed s.types
  same-refusal refusal other (out_of_bounds r) (large s) = absurd (none-or-some other _ r.sized s)
  same-refusal refusal other (out_of_bounds r) (misread s) = misread-or other r.read s r.parsed
  same-refusal refusal other (out_of_bounds r) (misnamed s) = names-or other r.read s r.parsed r.names
  same-refusal refusal other (out_of_bounds r) (mistyped s) = types-or other r.read s r.parsed r.types
  same-refusal refusal other (out_of_bounds r) (out_of_bounds s) = some-once refusal other (sym r.first ∙ (bounds-once r.read s.read r.parsed s.parsed ∙ s.first))
  same-refusal refusal other (out_of_bounds r) (has_too_many_points s) = bounds-or refusal s.read r s.parsed s.bounds
  same-refusal refusal other (has_too_many_points r) (large s) = absurd (none-or-some other _ r.sized s)
  same-refusal refusal other (has_too_many_points r) (misread s) = misread-or other r.read s r.parsed
  same-refusal refusal other (has_too_many_points r) (misnamed s) = names-or other r.read s r.parsed r.names
  same-refusal refusal other (has_too_many_points r) (mistyped s) = types-or other r.read s r.parsed r.types
  same-refusal refusal other (has_too_many_points r) (out_of_bounds s) = bounds-or other r.read s r.parsed r.bounds
  same-refusal refusal other (has_too_many_points r) (has_too_many_points s) = IsFirst-same (BreaksPoints r.read) refusal other r.decides (first-point s.read r.read s.parsed r.parsed other s.decides)

pub verdicts_exclude : VerdictsExclude
verdicts_exclude = record {
  one_answer = λ name files methods refusal. accepted-or name files methods refusal;
  one_count = λ name files methods other. same-count name files methods other;
  one_refusal = λ name files refusal other. same-refusal name files refusal other;
}
