-- What is done for the locals that are kept, by their numbers, is done for all locals but slices.
use Rattle.std.proofs.Common.{◌≡◌, ◌∙◌, ap, sym, refl, subst, ℕ, zero, suc, ◌+◌, ◌<◌, ◌≤◌, Bool, true, false, not, if◌then◌else◌, List, [], ◌∷◌, Some, length, map, drop, drop-cons, get_or, arith}
use Rattle.std.specs.Prelude.{slice_get, option_map}
use Rattle.std.proofs.lemmas.List.{drop-drop, length-map}
use Rattle.std.proofs.lemmas.Option.{same_Some}
use Rattle.wf_ast.specs.declared.declarations.Var.{Var}
use Rattle.wf_ast.specs.declared.types.Ty.{Ty}
use Rattle.wf_ast.specs.declared.types.Ty.TheVariants as types
use Rattle.wf_ast.specs.declared.typed_nodes.TypedNodes.{TypedNodes}
use Rattle.wf_ast.specs.declared.variables.LocalId.{LocalId}
use Rattle.wf_ast.specs.TypedPackage.{Variable, variable_of}
use Rattle.wf_ast.specs.TypedTrees.{text_of}
use Rattle.wf_points.specs.PointNumbers.{is_slice, locals_kept}
use Rattle.c_text.specs.CNodes.{Nodes, code_of}
use Rattle.c_text.specs.CTree.{Code}
use Rattle.wf_exprs.specs.Grown.{HasCode}
use Rattle.wf_exprs.specs.Names.{named}
use Rattle.wf_lower_stmts.specs.BodyNodes.{for_locals, save_one, restore_one}
use Rattle.wf_lower_stmts.specs.Forms.{is_kept, save_locals, restore_locals}

-- A local is kept where it is no slice.
pub kept_if : (ty : Ty) → is_kept ty ≡ not (is_slice ty)
kept_if (types.Num width lo hi) = refl
kept_if types.Flag = refl
kept_if types.Status = refl
kept_if types.Reader = refl
kept_if types.Writer = refl
kept_if (types.Slice width) = refl
kept_if (types.Array width lo hi count) = refl
kept_if (types.Part s) = refl

-- The numbers are those of locals.
one_below : (slice : Bool) (n m : ℕ) (ns : List LocalId) → ((i : ℕ) (d : LocalId) → i < length ns → (get_or ns i d).0 < n + 1 + m)
    → (i : ℕ) (d : LocalId) → i < length (if slice then ns else record { 0 = n } ∷ ns) → (get_or (if slice then ns else record { 0 = n } ∷ ns) i d).0 < n + suc m
one_below true n m ns below i d h = omega (arith, below i d h)
one_below false n m ns below zero d h = omega arith
one_below false n m ns below (suc i) d h = omega (arith, below i d (omega (arith, h)))

kept_below : (n : ℕ) (xs : List Variable) (i : ℕ) (d : LocalId) → i < length (locals_kept n xs) → (get_or (locals_kept n xs) i d).0 < n + length xs
kept_below n [] i d h = absurd (omega (arith, h))
kept_below n (x ∷ xs) i d h = one_below (is_slice x.ty) n (length xs) (locals_kept (n + 1) xs) (kept_below (n + 1) xs) i d h

pub kept_known : (nodes : TypedNodes) (locals : List Var) (ns : List LocalId) → ns ≡ locals_kept 0 (map (variable_of nodes) locals) → (i : ℕ) (d : LocalId) → i < length ns → (get_or ns i d).0 < length locals
kept_known nodes locals ns e i d h =
    let P : List LocalId → Type 0 = λ l. i < length l in
    let below = kept_below 0 (map (variable_of nodes) locals) i d (subst P e h) in
    let same = length-map locals (variable_of nodes) in
    let here : (get_or ns i d).0 ≡ (get_or (locals_kept 0 (map (variable_of nodes) locals)) i d).0 = ap (λ l. (get_or l i d).0) e in
    omega (arith, below, same, here)

-- The name of the local with a number, and the list after it.
at_front : (n : ℕ) (names : List (List ℕ)) (x : List ℕ) (xs : List (List ℕ)) → drop n names ≡ x ∷ xs → named names n ≡ x
at_front zero [] x xs h = absurd (cc h)
at_front zero (y ∷ names) x xs h = cc
at_front (suc n) [] x xs h = absurd (cc h)
at_front (suc n) (y ∷ names) x xs h = at_front n names x xs h

after_front : (n : ℕ) (names : List (List ℕ)) (x : List ℕ) (xs : List (List ℕ)) → drop n names ≡ x ∷ xs → drop (n + 1) names ≡ xs
after_front n names x xs h = sym (drop-drop 1 n names) ∙ ap (drop 1) h

abbrev variable_names : List Variable → List (List ℕ)
variable_names xs = map (λ (x : Variable). x.name) xs

-- One local more, of which the first test tells whether it is a slice, and the second whether it is kept.
module _ (one : List ℕ → Code → Code) (names : List (List ℕ)) (rest : Code) where
  one_more : (slice kept : Bool) → kept ≡ not slice → (n : LocalId) (name : List ℕ) → named names n.0 ≡ name → (ns : List LocalId) (code : Code) → for_locals one names ns rest ≡ code
      → for_locals one names (if slice then ns else n ∷ ns) rest ≡ (if kept then one name code else code)
  one_more true true e n name is ns code same = absurd (cc e)
  one_more true false e n name is ns code same = same
  one_more false true e n name is ns code same = ap (λ l. one l (for_locals one names ns rest)) is ∙ ap (one name) same
  one_more false false e n name is ns code same = absurd (cc e)

-- The locals from this one on.
module _ (method : List ℕ) (names : List (List ℕ)) (rest : Code) where
  saves_from : (n : ℕ) (xs : List Variable) → drop n names ≡ variable_names xs → for_locals (save_one method) names (locals_kept n xs) rest ≡ save_locals method xs rest
  saves_from n [] h = refl
  saves_from n (x ∷ xs) h =
      one_more (save_one method) names rest (is_slice x.ty) (is_kept x.ty) (kept_if x.ty) (record { 0 = n }) x.name (at_front n names x.name (variable_names xs) h) (locals_kept (n + 1) xs) (save_locals method xs rest)
      (saves_from (n + 1) xs (after_front n names x.name (variable_names xs) h))

  restores_from : (n : ℕ) (xs : List Variable) → drop n names ≡ variable_names xs → for_locals (restore_one method) names (locals_kept n xs) rest ≡ restore_locals method xs rest
  restores_from n [] h = refl
  restores_from n (x ∷ xs) h =
      one_more (restore_one method) names rest (is_slice x.ty) (is_kept x.ty) (kept_if x.ty) (record { 0 = n }) x.name (at_front n names x.name (variable_names xs) h) (locals_kept (n + 1) xs) (restore_locals method xs rest)
      (restores_from (n + 1) xs (after_front n names x.name (variable_names xs) h))

-- All of them are done.
module _ (method : List ℕ) (xs : List Variable) (ns : List LocalId) (are : ns ≡ locals_kept 0 xs) (rest : Code) where
  pub all_saved : {a : Nodes} {code : ℕ} (left : ℕ) → left ≡ 0 → HasCode a code (for_locals (save_one method) (variable_names xs) (drop left ns) rest) → HasCode a code (save_locals method xs rest)
  all_saved {a} {code} left e h =
      let P : ℕ → Type 0 = λ n. HasCode a code (for_locals (save_one method) (variable_names xs) (drop n ns) rest) in
      let L : List LocalId → Type 0 = λ l. HasCode a code (for_locals (save_one method) (variable_names xs) l rest) in
      let C : Code → Type 0 = λ t. HasCode a code t in
      subst C (saves_from method (variable_names xs) rest 0 xs refl) (subst L are (subst P e h))

  pub all_restored : {a : Nodes} {code : ℕ} (left : ℕ) → left ≡ 0 → HasCode a code (for_locals (restore_one method) (variable_names xs) (drop left ns) rest) → HasCode a code (restore_locals method xs rest)
  all_restored {a} {code} left e h =
      let P : ℕ → Type 0 = λ n. HasCode a code (for_locals (restore_one method) (variable_names xs) (drop n ns) rest) in
      let L : List LocalId → Type 0 = λ l. HasCode a code (for_locals (restore_one method) (variable_names xs) l rest) in
      let C : Code → Type 0 = λ t. HasCode a code t in
      subst C (restores_from method (variable_names xs) rest 0 xs refl) (subst L are (subst P e h))

-- One local more is done, of which this is the name in the package.
name_here : (nodes : TypedNodes) (locals : List Var) (k : ℕ) (name : List ℕ) → option_map (λ x. text_of nodes x.name) (slice_get locals k) ≡ Some name → named (variable_names (map (variable_of nodes) locals)) k ≡ name
name_here nodes [] k name h = absurd (cc h)
name_here nodes (x ∷ locals) zero name h = same_Some (text_of nodes x.name) name h
name_here nodes (x ∷ locals) (suc k) name h = name_here nodes locals k name h

pub local_step : (one : List ℕ → Code → Code) (nodes : TypedNodes) (locals : List Var) (rest : Code) {a b : Nodes} {code it : ℕ} (ns : List LocalId) (left i : ℕ) (d : LocalId) (name : List ℕ) → suc i ≡ left → left ≤ length ns
    → option_map (λ x. text_of nodes x.name) (slice_get locals (get_or ns i d).0) ≡ Some name
    → HasCode a code (for_locals one (variable_names (map (variable_of nodes) locals)) (drop left ns) rest)
    → HasCode b it (one name (code_of a code)) → HasCode b it (for_locals one (variable_names (map (variable_of nodes) locals)) (drop i ns) rest)
local_step one nodes locals rest {a = a} {code = code} ns left i d name e h is so made =
    let names = variable_names (map (variable_of nodes) locals) in
    let P : ℕ → Type 0 = λ n. HasCode a code (for_locals one names (drop n ns) rest) in
    let next = subst P (sym e) so in
    let front = ap (λ l. for_locals one names l rest) (drop-cons ns i d (omega (arith, e, h))) in
    record {
      there = made.there;
      is = made.is ∙ ap (one name) next.is ∙ ap (λ l. one l (for_locals one names (drop (suc i) ns) rest)) (sym (name_here nodes locals (get_or ns i d).0 name is)) ∙ sym front;
    }
