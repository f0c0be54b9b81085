-- The fields of the locals that are kept, by their numbers, are those of all locals but slices.
use Rattle.std.proofs.Common.{◌≡◌, ◌∙◌, ap, sym, refl, ℕ, zero, suc, ◌+◌, Bool, true, false, not, if◌then◌else◌, List, [], ◌∷◌, ◌++◌, Some, drop, map}
use Rattle.std.specs.Prelude.{slice_get, option_map}
use Rattle.std.proofs.lemmas.List.{drop-drop}
use Rattle.std.proofs.lemmas.Option.{slice_get-map}
use Rattle.wf_ast.specs.declared.declarations.Var.{Var}
use Rattle.wf_ast.specs.declared.typed_nodes.TypedNodes.{TypedNodes}
use Rattle.wf_ast.specs.declared.variables.LocalId.{LocalId}
use Rattle.wf_ast.specs.TypedPackage.{Variable, variable_of}
use Rattle.wf_points.specs.PointNumbers.{is_slice, locals_kept}
use Rattle.c_text.specs.CTree.{FieldTree}
use Rattle.wf_lower_stmts.specs.Forms.{is_kept}
use Rattle.wf_lower_stmts.proofs.SavedLaws.{kept_if}
use Rattle.wf_lower.specs.Structs.{field_if, kept_field, listed_fields}
use Rattle.wf_lower.specs.Unit.{kept_fields}

-- The local with a number, and those after it.
at_front : (n : ℕ) (ys : List Variable) (x : Variable) (xs : List Variable) → drop n ys ≡ x ∷ xs → slice_get ys n ≡ Some x
at_front zero [] x xs h = absurd (cc h)
at_front zero (y ∷ ys) x xs h = let e : y ≡ x = cc h in ap Some e
at_front (suc n) [] x xs h = absurd (cc h)
at_front (suc n) (y ∷ ys) x xs h = at_front n ys x xs h

after_front : (n : ℕ) (ys : List Variable) (x : Variable) (xs : List Variable) → drop n ys ≡ x ∷ xs → drop (n + 1) ys ≡ xs
after_front n ys x xs h = sym (drop-drop 1 n ys) ∙ ap (drop 1) h

module _ (method : List ℕ) (ys : List Variable) where
  -- One local more, of which the first test tells whether it is a slice, and the second whether it is kept.
  one_more : (slice kept : Bool) → kept ≡ not slice → (n : LocalId) (x : Variable) → slice_get ys n.0 ≡ Some x → (ns : List LocalId) (fs : List FieldTree) → listed_fields method ys ns ≡ fs
      → listed_fields method ys (if slice then ns else n ∷ ns) ≡ (if kept then kept_field method x ∷ fs else fs)
  one_more true true e n x is ns fs same = absurd (cc e)
  one_more true false e n x is ns fs same = same
  one_more false true e n x is ns fs same = ap (λ o. field_if method o ++ listed_fields method ys ns) is ∙ ap (λ l. kept_field method x ∷ l) same
  one_more false false e n x is ns fs same = absurd (cc e)

  fields_from : (n : ℕ) (xs : List Variable) → drop n ys ≡ xs → listed_fields method ys (locals_kept n xs) ≡ kept_fields method xs
  fields_from n [] h = refl
  fields_from n (x ∷ xs) h =
      one_more (is_slice x.ty) (is_kept x.ty) (kept_if x.ty) (record { 0 = n }) x (at_front n ys x xs h) (locals_kept (n + 1) xs) (kept_fields method xs) (fields_from (n + 1) xs (after_front n ys x xs h))

  pub all_listed : (ns : List LocalId) → ns ≡ locals_kept 0 ys → listed_fields method ys ns ≡ kept_fields method ys
  all_listed ns e = ap (listed_fields method ys) e ∙ fields_from 0 ys refl

pub one_listed : (method : List ℕ) (nodes : TypedNodes) (locals : List Var) (k : ℕ) (x : Var) → slice_get locals k ≡ Some x → kept_field method (variable_of nodes x) ∷ [] ≡ field_if method (slice_get (map (variable_of nodes) locals) k) ++ []
one_listed method nodes locals k x h = sym (ap (λ o. field_if method o ++ []) (slice_get-map (variable_of nodes) locals k ∙ ap (option_map (variable_of nodes)) h))
