-- Whether two expressions are the same is found from their parts.
use Rattle.std.proofs.Common.{◌≡◌, ℕ, zero, suc, ◌+◌, ◌<◌, ◌≤◌, Bool, true, false, ◌&&◌, List, [], ◌∷◌, length, drop, Option, Some, None, refl, sym, ap, ◌∙◌, subst, arith, nat_eq, nat_lt}
use Rattle.std.specs.Prelude.{slice_get}
use Rattle.std.specs.List.{list_all}
use Rattle.std.proofs.lemmas.Bool.Decides.{nat_tests}
use Rattle.wf_ast.specs.declared.numbers.ExprId.{ExprId}
use Rattle.wf_ast.specs.declared.types.Ty.{Ty}
use Rattle.wf_ast.specs.declared.typed_code.Expr.{Expr}
use Rattle.wf_ast.specs.declared.typed_code.Expr.TheVariants as exprs
use Rattle.wf_ast.specs.declared.typed_nodes.TypedNodes.{TypedNodes}
use Rattle.wf_ast.specs.TypedTree.{ValueTree, numeric, number}
use Rattle.wf_ast.specs.TypedTrees.{tree_of, made, made_or_number, type_of_node, constant_of_node, place_of_node, signs_of_node}
use Rattle.wf_ast.specs.TypedInvariant.{parts_of, parts_fit, kind_fits, node_fits}
use Rattle.wf_ast.specs.Same.{same}
use Rattle.wf_ast.specs.SameNodes.{same_head, all_same}
use Rattle.wf_ast.proofs.Arena.{both_true}
use Rattle.wf_ast.proofs.SameChains.{with_false, forms_differ}
use Rattle.wf_ast.proofs.SameParts.{made_same, made_form, expr_form}

-- A part has a smaller number.
pub part_below : (es : List ExprId) (n i : ℕ) (p : ExprId) → list_all (λ part. nat_lt part.0 n) es ≡ true → slice_get es i ≡ Some p → p.0 < n
part_below [] n i p h e = absurd (cc (e))
part_below (x ∷ xs) n zero p h e =
    let k : x ≡ p = cc (e) in
    let P : ExprId → Type 0 = λ q. nat_lt q.0 n ≡ true in
    let l = subst P k (both_true (nat_lt x.0 n) _ h).0 in
    grind (arith, nat_tests, l)
part_below (x ∷ xs) n (suc i) p h e = part_below xs n i p (both_true (nat_lt x.0 n) _ h).1 e

module _ (look : ExprId → ValueTree) where
  -- The parts from one on: that part, and those after it.
  same_next : (es fs : List ExprId) (i : ℕ) (p q : ExprId) → slice_get es i ≡ Some p → slice_get fs i ≡ Some q
      → all_same look (drop i es) (drop i fs) ≡ (same (look p) (look q) && all_same look (drop (i + 1) es) (drop (i + 1) fs))
  same_next [] fs i p q h k = absurd (cc (h))
  same_next (e ∷ es) [] i p q h k = absurd (cc (k))
  same_next (e ∷ es) (f ∷ fs) zero p q h k =
      let a : e ≡ p = cc (h) in
      let b : f ≡ q = cc (k) in
      rw (a, b) refl
  same_next (e ∷ es) (f ∷ fs) (suc i) p q h k =
      let n : suc (i + 1) ≡ suc i + 1 = omega arith in
      let P : ℕ → Type 0 = λ j. all_same look (drop i es) (drop i fs) ≡ (same (look p) (look q) && all_same look (drop j (e ∷ es)) (drop j (f ∷ fs))) in
      subst P n (same_next es fs i p q h k)

  same_behind : (es fs : List ExprId) (i : ℕ) → length es ≡ length fs → length es ≤ i → all_same look (drop i es) (drop i fs) ≡ true
  same_behind [] [] zero h k = refl
  same_behind [] [] (suc i) h k = refl
  same_behind (e ∷ es) [] i h k = absurd (omega (arith, h))
  same_behind [] (f ∷ fs) i h k = absurd (omega (arith, h))
  same_behind (e ∷ es) (f ∷ fs) zero h k = absurd (omega (arith, k))
  same_behind (e ∷ es) (f ∷ fs) (suc i) h k = same_behind es fs i (omega (arith, h)) (omega (arith, k))

  same_counts : (es fs : List ExprId) → (length es ≡ length fs → ⊥) → all_same look es fs ≡ false
  same_counts [] [] h = absurd (h refl)
  same_counts [] (f ∷ fs) h = refl
  same_counts (e ∷ es) [] h = refl
  same_counts (e ∷ es) (f ∷ fs) h = rw (same_counts es fs (λ k. h (ap suc k))) (with_false (same (look e) (look f)))

module _ (nodes : TypedNodes) where
  -- What is known of the node of an expression once it is lent.
  pub record Lent (e : ExprId) (x : Expr) : Type 0 where
    pub tree : tree_of nodes e ≡ made_or_number (tree_of nodes) (place_of_node nodes e.0) (signs_of_node nodes e.0) (type_of_node nodes e.0) (constant_of_node nodes e.0) x
    pub kinds : node_fits nodes (type_of_node nodes e.0) (constant_of_node nodes e.0) x ≡ true
    pub parts : parts_fit nodes (tree_of nodes) x ≡ true

  pub tree_at : (e : ExprId) (x : Expr) → Lent e x → (number : Option ℕ) → constant_of_node nodes e.0 ≡ number
      → tree_of nodes e ≡ made_or_number (tree_of nodes) (place_of_node nodes e.0) (signs_of_node nodes e.0) (type_of_node nodes e.0) number x
  tree_at e x it v is = it.tree ∙ ap (λ v. made_or_number (tree_of nodes) (place_of_node nodes e.0) (signs_of_node nodes e.0) (type_of_node nodes e.0) v x) is

  pub kinds_at : (e : ExprId) (x : Expr) → Lent e x → constant_of_node nodes e.0 ≡ None → kind_fits nodes (type_of_node nodes e.0) x ≡ true
  kinds_at e x it is = let P : Option ℕ → Type 0 = λ v. node_fits nodes (type_of_node nodes e.0) v x ≡ true in subst P is it.kinds

  no_number : (ty : Ty) (z : Expr) → kind_fits nodes ty z ≡ true → (nat_eq 1 (expr_form nodes (tree_of nodes) z) ≡ false) × (nat_eq (expr_form nodes (tree_of nodes) z) 1 ≡ false)
  no_number ty (exprs.Number v) h = absurd (cc (h))
  no_number ty z h = (refl, refl)

  module _ (a b : ExprId) (x y : Expr) (one : Lent a x) (other : Lent b y) where
    abbrev trees : Bool
    trees = same (tree_of nodes a) (tree_of nodes b)

    pub number_first : (m : ℕ) → constant_of_node nodes a.0 ≡ Some m → constant_of_node nodes b.0 ≡ None → false ≡ trees
    number_first m h k =
        let fits = kinds_at b y other k in
        let ty = type_of_node nodes b.0 in
        let at = place_of_node nodes b.0 in
        let signs = signs_of_node nodes b.0 in
        let left : ValueTree = numeric (number (place_of_node nodes a.0) m) in
        let right = made (tree_of nodes) at signs ty y in
        let d = forms_differ left right (rw (made_form nodes (tree_of nodes) at signs ty y fits) (no_number ty y fits).0) in
        sym (rw (tree_at a x one (Some m) h, tree_at b y other None k) d)

    pub number_second : (n : ℕ) → constant_of_node nodes a.0 ≡ None → constant_of_node nodes b.0 ≡ Some n → false ≡ trees
    number_second n h k =
        let fits = kinds_at a x one h in
        let ty = type_of_node nodes a.0 in
        let at = place_of_node nodes a.0 in
        let signs = signs_of_node nodes a.0 in
        let right : ValueTree = numeric (number (place_of_node nodes b.0) n) in
        let left = made (tree_of nodes) at signs ty x in
        let d = forms_differ left right (rw (made_form nodes (tree_of nodes) at signs ty x fits) (no_number ty x fits).1) in
        sym (rw (tree_at a x one None h, tree_at b y other (Some n) k) d)

    module _ (h : constant_of_node nodes a.0 ≡ None) (k : constant_of_node nodes b.0 ≡ None) where
      nodes_same : trees ≡ (same_head (type_of_node nodes a.0) (type_of_node nodes b.0) x y && all_same (tree_of nodes) (parts_of x) (parts_of y))
      nodes_same =
          rw (tree_at a x one None h, tree_at b y other None k)
          (made_same nodes (tree_of nodes) (place_of_node nodes a.0) (place_of_node nodes b.0) (signs_of_node nodes a.0) (signs_of_node nodes b.0) (type_of_node nodes a.0) (type_of_node nodes b.0) x y
          (kinds_at a x one h) (kinds_at b y other k) one.parts other.parts)

      pub heads_differ : (s t : Ty) → s ≡ type_of_node nodes a.0 → t ≡ type_of_node nodes b.0 → same_head s t x y ≡ false → false ≡ trees
      heads_differ s t e f d =
          let P : Ty → Type 0 = λ s. same_head s t x y ≡ false in
          let Q : Ty → Type 0 = λ t. same_head (type_of_node nodes a.0) t x y ≡ false in
          sym (nodes_same ∙ ap (λ c. c && all_same (tree_of nodes) (parts_of x) (parts_of y)) (subst Q f (subst P e d)))

      pub counts_differ : (length (parts_of x) ≡ length (parts_of y) → ⊥) → false ≡ trees
      counts_differ d =
          let head = same_head (type_of_node nodes a.0) (type_of_node nodes b.0) x y in
          sym (nodes_same ∙ ap (λ c. head && c) (same_counts (tree_of nodes) (parts_of x) (parts_of y) d) ∙ with_false head)

      -- The parts that are left are the same where all are.
      abbrev pub Left : ℕ → Type 0
      Left i = all_same (tree_of nodes) (drop i (parts_of x)) (drop i (parts_of y)) ≡ all_same (tree_of nodes) (parts_of x) (parts_of y)

      module _ (i : ℕ) (p q : ExprId) (is : slice_get (parts_of x) i ≡ Some p) (is' : slice_get (parts_of y) i ≡ Some q) (left : Left i) where
        pub part_differs : same (tree_of nodes p) (tree_of nodes q) ≡ false → false ≡ trees
        part_differs d =
            let head = same_head (type_of_node nodes a.0) (type_of_node nodes b.0) x y in
            let e = same_next (tree_of nodes) (parts_of x) (parts_of y) i p q is is' in
            let f : all_same (tree_of nodes) (parts_of x) (parts_of y) ≡ false = sym left ∙ e ∙ ap (λ c. c && all_same (tree_of nodes) (drop (i + 1) (parts_of x)) (drop (i + 1) (parts_of y))) d in
            sym (nodes_same ∙ ap (λ c. head && c) f ∙ with_false head)

        pub part_same : same (tree_of nodes p) (tree_of nodes q) ≡ true → Left (i + 1)
        part_same d =
            let e = same_next (tree_of nodes) (parts_of x) (parts_of y) i p q is is' in
            sym (e ∙ ap (λ c. c && all_same (tree_of nodes) (drop (i + 1) (parts_of x)) (drop (i + 1) (parts_of y))) d) ∙ left

      pub all_parts_same : (s t : Ty) → s ≡ type_of_node nodes a.0 → t ≡ type_of_node nodes b.0 → same_head s t x y ≡ true
          → length (parts_of x) ≡ length (parts_of y) → (i : ℕ) → length (parts_of x) ≤ i → Left i → true ≡ trees
      all_parts_same s t e f d count i long left =
          let P : Ty → Type 0 = λ s. same_head s t x y ≡ true in
          let Q : Ty → Type 0 = λ t. same_head (type_of_node nodes a.0) t x y ≡ true in
          let all = sym left ∙ same_behind (tree_of nodes) (parts_of x) (parts_of y) i count long in
          sym (nodes_same ∙ rw (subst Q f (subst P e d), all) refl)
