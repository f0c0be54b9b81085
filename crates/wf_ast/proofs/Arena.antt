-- A node's tree is made of those of its parts.
use Rattle.std.proofs.Common.{◌≡◌, ℕ, zero, suc, ◌+◌, ◌<◌, Bool, true, false, ◌&&◌, List, [], ◌∷◌, ◌++◌, length, map, Option, Some, None, nat_lt, refl, sym, ap, ◌∙◌, subst, arith, length-append}
use Rattle.std.specs.Prelude.{slice_get, unwrap_or}
use Rattle.std.specs.List.{list_all}
use Rattle.std.proofs.lemmas.Bool.Decides.{nat_tests}
use Rattle.wf_text.specs.declared.place.Place.{Place}
use Rattle.wf_ast.specs.declared.numbers.ExprId.{ExprId}
use Rattle.wf_ast.specs.declared.types.Ty.{Ty}
use Rattle.wf_ast.specs.declared.typed_code.Expr.{Expr}
use Rattle.wf_ast.specs.declared.typed_code.Expr.TheVariants as exprs
use Rattle.wf_ast.specs.declared.typed_code.ExprNode.{ExprNode}
use Rattle.wf_ast.specs.declared.typed_nodes.TypedNodes.{TypedNodes}
use Rattle.wf_ast.specs.TypedTree.{ValueTree, lost}
use Rattle.wf_ast.specs.TypedTrees.{made, made_or_number, tree_in, tree_of, expr_trees, exprs_after, type_of_node, constant_of_node, chain_of, operator_kind}
use Rattle.wf_ast.specs.TypedInvariant.{parts_of, parts_below, each_numbered}

-- Both tests of a conjunction.
pub both_true : (a b : Bool) → (a && b) ≡ true → (a ≡ true) × (b ≡ true)
both_true true b h = (refl, h)
both_true false b h = absurd (cc (h))

-- What is tested of each item with its number holds at an item.
pub numbered_at : {X : Type 0} (test : ℕ → X → Bool) (n : ℕ) (xs : List X) (i : ℕ) (x : X)
    → each_numbered test n xs ≡ true → slice_get xs i ≡ Some x → test (n + i) x ≡ true
numbered_at test n [] i x h e = absurd (cc (e))
numbered_at {X} test n (y ∷ ys) zero x h e =
    let k : y ≡ x = cc in
    let m : n ≡ n + 0 = omega arith in
    let P : ℕ → Type 0 = λ j. test j x ≡ true in
    let Q : X → Type 0 = λ z. test n z ≡ true in
    subst P m (subst Q k (both_true (test n y) _ h).0)
numbered_at test n (y ∷ ys) (suc i) x h e =
    let m : n + 1 + i ≡ n + suc i = omega arith in
    let P : ℕ → Type 0 = λ j. test j x ≡ true in
    subst P m (numbered_at test (n + 1) ys i x (both_true (test n y) _ h).1 e)

-- The same of a list that is numbered from 0.
pub numbered_from_zero : {X : Type 0} (test : ℕ → X → Bool) (xs : List X) (i : ℕ) (x : X)
    → each_numbered test 0 xs ≡ true → slice_get xs i ≡ Some x → test i x ≡ true
numbered_from_zero test xs i x h e =
    let m : 0 + i ≡ i = omega arith in
    let P : ℕ → Type 0 = λ j. test j x ≡ true in
    subst P m (numbered_at test 0 xs i x h e)

-- Items of two lists that are joined.
pub get_front : {X : Type 0} (xs ys : List X) (k : ℕ) → k < length xs → slice_get (xs ++ ys) k ≡ slice_get xs k
get_front [] ys k h = absurd (omega (arith, h))
get_front (x ∷ xs) ys zero h = refl
get_front (x ∷ xs) ys (suc k) h = get_front xs ys k (omega (arith, h))

pub get_seam : {X : Type 0} (xs : List X) (y : X) (ys : List X) → slice_get (xs ++ y ∷ ys) (length xs) ≡ Some y
get_seam [] y ys = refl
get_seam (x ∷ xs) y ys = get_seam xs y ys

-- Two ways to look up trees agree on these parts.
abbrev Agree : (ExprId → ValueTree) → (ExprId → ValueTree) → List ExprId → Type 0
Agree f g [] = Unit {0}
Agree f g (e ∷ es) = (f e ≡ g e) × Agree f g es

agree_all : (f g : ExprId → ValueTree) (k : ℕ) (es : List ExprId) → list_all (λ part. nat_lt part.0 k) es ≡ true
    → ((e : ExprId) → e.0 < k → f e ≡ g e) → Agree f g es
agree_all f g k [] h same = tt
agree_all f g k (e ∷ es) h same =
    let p = both_true (nat_lt e.0 k) _ h in
    (same e (grind (arith, nat_tests, p.0)), agree_all f g k es p.1 same)

same_map : (f g : ExprId → ValueTree) (es : List ExprId) → Agree f g es → map f es ≡ map g es
same_map f g [] h = refl
same_map f g (e ∷ es) h = let k = same_map f g es h.1 in let j = h.0 in cc

module _ (f g : ExprId → ValueTree) (at : Place) (signs : List Place) (ty : Ty) where
  made_same : (x : Expr) → Agree f g (parts_of x) → made f at signs ty x ≡ made g at signs ty x
  made_same (exprs.Number v) h = refl
  made_same (exprs.Const c) h = refl
  made_same (exprs.Status s) h = refl
  made_same (exprs.Truth v) h = refl
  made_same (exprs.Local x) h = refl
  made_same (exprs.Field x) h = refl
  made_same (exprs.Arg x) h = refl
  made_same (exprs.Index base index) h = rw (h.0, h.1.0) refl
  made_same (exprs.Cut base None None) h = rw h.0 refl
  made_same (exprs.Cut base None (Some to)) h = rw (h.0, h.1.0) refl
  made_same (exprs.Cut base (Some from) None) h = rw (h.0, h.1.0) refl
  made_same (exprs.Cut base (Some from) (Some to)) h = rw (h.0, h.1.0, h.1.1.0) refl
  made_same (exprs.Chain op parts) h = ap (chain_of at signs ty (operator_kind op)) (same_map f g parts h)
  made_same (exprs.Convert of to) h = rw h.0 refl
  made_same (exprs.Not of) h = rw h.0 refl
  made_same (exprs.Base on sig) h = rw h.0 refl

  made_or_number_same : (number : Option ℕ) (x : Expr) → Agree f g (parts_of x) → made_or_number f at signs ty number x ≡ made_or_number g at signs ty number x
  made_or_number_same None x h = made_same x h
  made_or_number_same (Some v) x h = refl

module _ (nodes : TypedNodes) where
  -- A tree stays while more are added.
  kept : (ns : List ExprNode) (ts : List ValueTree) (k : ℕ) → k < length ts → slice_get (exprs_after nodes ts ns) k ≡ slice_get ts k
  kept [] ts k h = refl
  kept (n ∷ ns) ts k h =
      let t = made_or_number (tree_in ts) n.at n.signs (type_of_node nodes (length ts)) (constant_of_node nodes (length ts)) n.expr in
      kept ns (ts ++ t ∷ []) k (omega (arith, h, length-append ts (t ∷ []))) ∙ get_front ts (t ∷ []) k h

  -- What the node with the number `e` makes of these trees.
  abbrev made_of : (ExprId → ValueTree) → ℕ → ExprNode → ValueTree
  made_of look e n = made_or_number look n.at n.signs (type_of_node nodes e) (constant_of_node nodes e) n.expr

  made_at : (ns : List ExprNode) (ts : List ValueTree) (i : ℕ) (n : ExprNode) → slice_get ns i ≡ Some n
      → each_numbered (λ e node. parts_below e node.expr) (length ts) ns ≡ true
      → slice_get (exprs_after nodes ts ns) (length ts + i) ≡ Some (made_of (tree_in (exprs_after nodes ts ns)) (length ts + i) n)
  made_at [] ts i n e h = absurd (cc (e))
  made_at (m ∷ ns) ts zero n e h =
      let t = made_of (tree_in ts) (length ts) m in
      let all = exprs_after nodes (ts ++ t ∷ []) ns in
      let long : length ts < length (ts ++ t ∷ []) = omega (arith, length-append ts (t ∷ [])) in
      let here : slice_get all (length ts) ≡ Some t = kept ns (ts ++ t ∷ []) (length ts) long ∙ get_seam ts t [] in
      let p = both_true (parts_below (length ts) m.expr) _ h in
      let same : (part : ExprId) → part.0 < length ts → tree_in ts part ≡ tree_in all part = λ part below.
      ap (λ o. unwrap_or o lost) (sym (kept (m ∷ ns) ts part.0 below)) in
      let again : t ≡ made_of (tree_in all) (length ts) m =
      made_or_number_same (tree_in ts) (tree_in all) m.at m.signs (type_of_node nodes (length ts)) (constant_of_node nodes (length ts)) m.expr
      (agree_all (tree_in ts) (tree_in all) (length ts) (parts_of m.expr) p.0 same) in
      let k : m ≡ n = cc in
      let l : length ts ≡ length ts + 0 = omega arith in
      let P : ExprNode → Type 0 = λ x. slice_get all (length ts) ≡ Some (made_of (tree_in all) (length ts) x) in
      let Q : ℕ → Type 0 = λ j. slice_get all j ≡ Some (made_of (tree_in all) j n) in
      subst Q l (subst P k (here ∙ ap Some again))
  made_at (m ∷ ns) ts (suc i) n e h =
      let t = made_of (tree_in ts) (length ts) m in
      let all = exprs_after nodes (ts ++ t ∷ []) ns in
      let p = both_true (parts_below (length ts) m.expr) _ h in
      let l : length ts + 1 ≡ length (ts ++ t ∷ []) = omega (arith, length-append ts (t ∷ [])) in
      let P : ℕ → Type 0 = λ j. each_numbered (λ e node. parts_below e node.expr) j ns ≡ true in
      let r = made_at ns (ts ++ t ∷ []) i n e (subst P l p.1) in
      let j : length (ts ++ t ∷ []) + i ≡ length ts + suc i = omega (arith, length-append ts (t ∷ [])) in
      let Q : ℕ → Type 0 = λ j. slice_get all j ≡ Some (made_of (tree_in all) j n) in
      subst Q j r

  pub tree_made : (e : ExprId) (n : ExprNode) → slice_get nodes.exprs e.0 ≡ Some n
      → each_numbered (λ e node. parts_below e node.expr) 0 nodes.exprs ≡ true
      → tree_of nodes e ≡ made_or_number (tree_of nodes) n.at n.signs (type_of_node nodes e.0) (constant_of_node nodes e.0) n.expr
  unfolding expr_trees
  tree_made e n is ordered =
      let r = made_at nodes.exprs [] e.0 n is ordered in
      let j : 0 + e.0 ≡ e.0 = omega arith in
      let Q : ℕ → Type 0 = λ j. slice_get (exprs_after nodes [] nodes.exprs) j ≡ Some (made_of (tree_in (exprs_after nodes [] nodes.exprs)) j n) in
      ap (λ o. unwrap_or o lost) (subst Q j r)
