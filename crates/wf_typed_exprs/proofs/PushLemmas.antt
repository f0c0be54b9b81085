-- One expression more: its tree joins the others, and these keep theirs.
use Rattle.std.proofs.Common.{◌≡◌, ℕ, ◌+◌, ◌<◌, ◌≤◌, Bool, true, false, ◌&&◌, List, [], ◌∷◌, ◌++◌, length, Option, Some, None, nat_lt, refl, sym, ap, ◌∙◌, subst, arith, length-append}
use Rattle.std.specs.Prelude.{if◌then◌else◌, slice_get, unwrap_or}
use Rattle.std.specs.Bool.{⊤}
use Rattle.std.specs.List.{list_all}
use Rattle.std.proofs.lemmas.Bool.Decides.{nat_tests}
use Rattle.wf_ast.specs.declared.numbers.ExprId.{ExprId}
use Rattle.wf_ast.specs.declared.types.Ty.{Ty}
use Rattle.wf_ast.specs.declared.types.Ty.TheVariants as types
use Rattle.wf_ast.specs.declared.typed_code.Expr.{Expr}
use Rattle.wf_ast.specs.declared.typed_code.Expr.TheVariants as exprs
use Rattle.wf_ast.specs.declared.typed_code.ExprNode.{ExprNode}
use Rattle.wf_ast.specs.declared.typed_nodes.TypedNodes.{TypedNodes}
use Rattle.wf_ast.specs.TypedTree.{ValueTree, lost}
use Rattle.wf_ast.specs.TypedTrees.{OperatorKind, arithmetic, ordering, joining, operator_kind, made_or_number, tree_in, tree_of, expr_trees, exprs_after, type_of_node, constant_of_node}
use Rattle.wf_ast.specs.TypedInvariant.{parts_of, parts_below, each_numbered, is_numeric, is_logical, kind_fits, chain_fits, node_fits}
use Rattle.wf_ast.proofs.Arena.{both_true, get_front, get_seam}
use Rattle.wf_typed_tree.proofs.NumberLemmas.{and-true}
use Rattle.wf_typed_exprs.specs.declared.typed_exprs.TypedExpr.{TypedExpr}
use Rattle.wf_typed_exprs.specs.declared.columns.Columns.{Columns}
use Rattle.wf_typed_exprs.specs.Growth.{with_columns, IsPushed, IsBuilt, Grows}

below : (m n : ℕ) → nat_lt m n ≡ true → m < n
below m n h = grind (arith, nat_tests, h)

-- Tests of numbered items.
numbered_push : {X : Type 0} (test : ℕ → X → Bool) (n : ℕ) (xs : List X) (x : X) (last : ℕ) → last ≡ n + length xs → each_numbered test n xs ≡ true → test last x ≡ true
    → each_numbered test n (xs ++ x ∷ []) ≡ true
numbered_push {X} test n [] x last e h k =
    let here : last ≡ n = omega (arith, e) in
    let P : ℕ → Type 0 = λ j. test j x ≡ true in
    and-true (test n x) true (subst P here k) refl
numbered_push {X} test n (y ∷ ys) x last e h k =
    let p = both_true (test n y) (each_numbered test (n + 1) ys) h in
    and-true (test n y) (each_numbered test (n + 1) (ys ++ x ∷ [])) p.0 (numbered_push test (n + 1) ys x last (omega (arith, e)) p.1 k)

-- A test that holds of each item by another one.
numbered_more : {X : Type 0} (f g h : ℕ → X → Bool) (n : ℕ) (xs : List X) → ((i : ℕ) (x : X) → i < n + length xs → f i x ≡ true → g i x ≡ true → h i x ≡ true)
    → each_numbered f n xs ≡ true → each_numbered g n xs ≡ true → each_numbered h n xs ≡ true
numbered_more f g h n [] each p q = refl
numbered_more f g h n (x ∷ xs) each p q =
    let a = both_true (f n x) (each_numbered f (n + 1) xs) p in
    let b = both_true (g n x) (each_numbered g (n + 1) xs) q in
    and-true (h n x) (each_numbered h (n + 1) xs) (each n x (omega arith) a.0 b.0)
    (numbered_more f g h (n + 1) xs (λ i y less. each i y (omega (arith, less))) a.1 b.1)

-- Kinds depend on the types of the parts alone, and on how many statuses there are.
abbrev SameTypes : TypedNodes → TypedNodes → List ExprId → Type 0
SameTypes p q [] = ⊤
SameTypes p q (e ∷ es) = (type_of_node q e.0 ≡ type_of_node p e.0) × SameTypes p q es

same_types : (p q : TypedNodes) (k : ℕ) (es : List ExprId) → list_all (λ part. nat_lt part.0 k) es ≡ true
    → ((i : ℕ) → i < k → type_of_node q i ≡ type_of_node p i) → SameTypes p q es
same_types p q k [] h same = tt
same_types p q k (e ∷ es) h same =
    let a = both_true (nat_lt e.0 k) (list_all (λ part. nat_lt part.0 k) es) h in
    (same e.0 (below e.0 k a.0), same_types p q k es a.1 same)

same_tests : (test : Ty → Bool) (p q : TypedNodes) (es : List ExprId) → SameTypes p q es
    → list_all (λ e. test (type_of_node q e.0)) es ≡ list_all (λ e. test (type_of_node p e.0)) es
same_tests test p q [] h = refl
same_tests test p q (e ∷ es) h = let a = h.0 in let b = same_tests test p q es h.1 in rw (a, b) refl

chain_same : (p q : TypedNodes) (sort : OperatorKind) (es : List ExprId) (ty : Ty) → SameTypes p q es → chain_fits q sort es ty ≡ chain_fits p sort es ty
chain_same p q (arithmetic op) [] ty h = refl
chain_same p q (arithmetic op) (e ∷ []) ty h = refl
chain_same p q (arithmetic op) (e ∷ f ∷ es) ty h = ap (λ b. is_numeric ty && b) (same_tests is_numeric p q (e ∷ f ∷ es) h)
chain_same p q (joining both) [] ty h = refl
chain_same p q (joining both) (e ∷ []) ty h = refl
chain_same p q (joining both) (e ∷ f ∷ es) ty h = ap (λ b. is_logical ty && b) (same_tests is_logical p q (e ∷ f ∷ es) h)
chain_same p q (ordering op) [] ty h = refl
chain_same p q (ordering op) (e ∷ []) ty h = refl
chain_same p q (ordering op) (e ∷ f ∷ []) ty h = rw (h.0, h.1.0) refl
chain_same p q (ordering op) (e ∷ f ∷ g ∷ es) ty h = refl

kind_same : (p q : TypedNodes) → length q.statuses ≡ length p.statuses → (ty : Ty) (x : Expr) → SameTypes p q (parts_of x) → kind_fits q ty x ≡ kind_fits p ty x
kind_same p q s ty (exprs.Number v) h = refl
kind_same p q s ty (exprs.Const c) h = refl
kind_same p q s ty (exprs.Status n) h = rw s refl
kind_same p q s ty (exprs.Truth v) h = refl
kind_same p q s ty (exprs.Local x) h = refl
kind_same p q s ty (exprs.Field x) h = refl
kind_same p q s ty (exprs.Arg x) h = refl
kind_same p q s ty (exprs.Index base i) h = rw (h.0, h.1.0) refl
kind_same p q s ty (exprs.Cut base None None) h = rw h.0 refl
kind_same p q s ty (exprs.Cut base None (Some to)) h = rw (h.0, h.1.0) refl
kind_same p q s ty (exprs.Cut base (Some from) None) h = rw (h.0, h.1.0) refl
kind_same p q s ty (exprs.Cut base (Some from) (Some to)) h = rw (h.0, h.1.0, h.1.1.0) refl
kind_same p q s ty (exprs.Chain op parts) h = chain_same p q (operator_kind op) parts ty h
kind_same p q s ty (exprs.Convert of to) h = rw h.0 refl
kind_same p q s ty (exprs.Not of) h = rw h.0 refl
kind_same p q s ty (exprs.Base on sig) h = rw h.0 refl

node_same : (p q : TypedNodes) → length q.statuses ≡ length p.statuses → (ty : Ty) (k : Option ℕ) (x : Expr) → SameTypes p q (parts_of x) → node_fits q ty k x ≡ node_fits p ty k x
node_same p q s ty None x h = kind_same p q s ty x h
node_same p q s ty (Some v) x h = refl

-- The fold over the nodes.
after_push : (nodes : TypedNodes) (ns : List ExprNode) (ts : List ValueTree) (n : ExprNode)
    → exprs_after nodes ts (ns ++ n ∷ [])
    ≡ exprs_after nodes ts ns
    ++ made_or_number (tree_in (exprs_after nodes ts ns)) n.at n.signs (type_of_node nodes (length (exprs_after nodes ts ns))) (constant_of_node nodes (length (exprs_after nodes ts ns))) n.expr
    ∷ []
after_push nodes [] ts n = refl
after_push nodes (m ∷ ns) ts n =
    after_push nodes ns (ts ++ made_or_number (tree_in ts) m.at m.signs (type_of_node nodes (length ts)) (constant_of_node nodes (length ts)) m.expr ∷ []) n

after_length : (nodes : TypedNodes) (ns : List ExprNode) (ts : List ValueTree) → length (exprs_after nodes ts ns) ≡ length ts + length ns
after_length nodes [] ts = omega arith
after_length nodes (m ∷ ns) ts =
    let made = made_or_number (tree_in ts) m.at m.signs (type_of_node nodes (length ts)) (constant_of_node nodes (length ts)) m.expr in
    let p = after_length nodes ns (ts ++ made ∷ []) in
    omega (arith, p, length-append ts (made ∷ []))

after_same : (p q : TypedNodes) (ns : List ExprNode) (ts : List ValueTree) (k : ℕ) → length ts + length ns ≤ k
    → ((i : ℕ) → i < k → type_of_node q i ≡ type_of_node p i) → ((i : ℕ) → i < k → constant_of_node q i ≡ constant_of_node p i) → exprs_after q ts ns ≡ exprs_after p ts ns
after_same p q [] ts k h f g = refl
after_same p q (m ∷ ns) ts k h f g =
    let made = made_or_number (tree_in ts) m.at m.signs (type_of_node q (length ts)) (constant_of_node q (length ts)) m.expr in
    let rest = after_same p q ns (ts ++ made ∷ []) k (omega (arith, h, length-append ts (made ∷ []))) f g in
    let ty = f (length ts) (omega (arith, h)) in
    let constant = g (length ts) (omega (arith, h)) in
    rest ∙ ap (λ x. exprs_after p (ts ++ x ∷ []) ns) (let e : made ≡ made_or_number (tree_in ts) m.at m.signs (type_of_node p (length ts)) (constant_of_node p (length ts)) m.expr = rw (ty, constant) refl in e)

pub trees_length : (p : TypedNodes) → length (expr_trees p) ≡ length p.exprs
unfolding expr_trees
trees_length p = after_length p p.exprs [] ∙ omega arith

module _ (p : TypedNodes) (typed : length p.types ≡ length p.exprs) (counted : length p.constants ≡ length p.exprs) (n : ExprNode) (ty : Ty) (k : Option ℕ) where
  abbrev pub longer : TypedNodes
  longer = record p { exprs = p.exprs ++ n ∷ []; types = p.types ++ ty ∷ []; constants = p.constants ++ k ∷ [] }

  pub type_front : (i : ℕ) → i < length p.exprs → type_of_node longer i ≡ type_of_node p i
  type_front i h = ap (λ o. unwrap_or o types.Flag) (get_front p.types (ty ∷ []) i (omega (arith, typed, h)))

  pub constant_front : (i : ℕ) → i < length p.exprs → constant_of_node longer i ≡ constant_of_node p i
  constant_front i h = ap (λ o. unwrap_or o None) (get_front p.constants (k ∷ []) i (omega (arith, counted, h)))

  pub type_last : type_of_node longer (length p.exprs) ≡ ty
  type_last = ap (type_of_node longer) (sym typed) ∙ ap (λ o. unwrap_or o types.Flag) (get_seam p.types ty [])

  pub constant_last : constant_of_node longer (length p.exprs) ≡ k
  constant_last = ap (constant_of_node longer) (sym counted) ∙ ap (λ o. unwrap_or o None) (get_seam p.constants k [])

  pub trees_push : expr_trees longer ≡ expr_trees p ++ made_or_number (tree_of p) n.at n.signs ty k n.expr ∷ []
  unfolding expr_trees
  trees_push =
      let front : exprs_after longer [] p.exprs ≡ exprs_after p [] p.exprs = after_same p longer p.exprs [] (length p.exprs) (omega arith) type_front constant_front in
      let count : length (exprs_after p [] p.exprs) ≡ length p.exprs = after_length p p.exprs [] ∙ omega arith in
      let P : List ValueTree → Type 0 = λ ts. exprs_after longer [] (p.exprs ++ n ∷ []) ≡ ts ++ made_or_number (tree_in ts) n.at n.signs (type_of_node longer (length ts)) (constant_of_node longer (length ts)) n.expr ∷ [] in
      let all = subst P front (after_push longer p.exprs [] n) in
      let ts = exprs_after p [] p.exprs in
      let t : type_of_node longer (length ts) ≡ ty = ap (type_of_node longer) count ∙ type_last in
      let c : constant_of_node longer (length ts) ≡ k = ap (constant_of_node longer) count ∙ constant_last in
      all ∙ ap (λ x. ts ++ x ∷ []) (let e : made_or_number (tree_in ts) n.at n.signs (type_of_node longer (length ts)) (constant_of_node longer (length ts)) n.expr ≡ made_or_number (tree_in ts) n.at n.signs ty k n.expr = rw (t, c) refl in e)

  pub tree_last : (e : ExprId) → e.0 ≡ length p.exprs → tree_of longer e ≡ made_or_number (tree_of p) n.at n.signs ty k n.expr
  tree_last e h =
      let made = made_or_number (tree_of p) n.at n.signs ty k n.expr in
      let spot : e.0 ≡ length (expr_trees p) = h ∙ sym (trees_length p) in
      ap (λ ts. tree_in ts e) trees_push ∙ ap (λ i. tree_in (expr_trees p ++ made ∷ []) (record { 0 = i })) spot
      ∙ ap (λ o. unwrap_or o lost) (get_seam (expr_trees p) made [])

  pub longer_grows : Grows p longer
  longer_grows = record {
    exprs = omega (arith, length-append p.exprs (n ∷ []));
    same_trees = λ i h.
        sym (get_front (expr_trees p) (made_or_number (tree_of p) n.at n.signs ty k n.expr ∷ []) i (omega (arith, h, trees_length p))) ∙ ap (λ ts. slice_get ts i) (sym trees_push);
    same_types = λ i h. sym (get_front p.types (ty ∷ []) i (omega (arith, typed, h)));
    same_constants = λ i h. sym (get_front p.constants (k ∷ []) i (omega (arith, counted, h)));
    rest = refl;
  }

  pub longer_built : IsBuilt p → length p.exprs < 4294967295 → parts_below (length p.exprs) n.expr ≡ true → node_fits p ty k n.expr ≡ true → IsBuilt longer
  longer_built built few parts fits = record {
    ordered = numbered_push (λ e node. parts_below e node.expr) 0 p.exprs n (length p.exprs) (omega arith) built.ordered parts;
    kinds =
        numbered_push (λ e node. node_fits longer (type_of_node longer e) (constant_of_node longer e) node.expr) 0 p.exprs n (length p.exprs) (omega arith)
        (numbered_more (λ e node. parts_below e node.expr) (λ e node. node_fits p (type_of_node p e) (constant_of_node p e) node.expr)
        (λ e node. node_fits longer (type_of_node longer e) (constant_of_node longer e) node.expr) 0 p.exprs
        (λ e node less front fit.
        let t = type_front e (omega (arith, less)) in
        let c = constant_front e (omega (arith, less)) in
        let same = node_same p longer refl (type_of_node p e) (constant_of_node p e) node.expr (same_types p longer e (parts_of node.expr) front (λ i l. type_front i (omega (arith, less, l)))) in
        rw (t, c) (same ∙ fit)) built.ordered built.kinds)
        (rw (type_last, constant_last) (node_same p longer refl ty k n.expr (same_types p longer (length p.exprs) (parts_of n.expr) parts type_front) ∙ fits));
    typed = omega (arith, typed, length-append p.exprs (n ∷ []), length-append p.types (ty ∷ []));
    counted = omega (arith, counted, length-append p.exprs (n ∷ []), length-append p.constants (k ∷ []));
    few = omega (arith, few, length-append p.exprs (n ∷ []));
  }

-- The same by the lists that the code keeps.
module _ (rest : TypedNodes) (old new : Columns) (x : TypedExpr) (built : IsBuilt (with_columns rest old)) where
  abbrev before : TypedNodes
  before = with_columns rest old

  abbrev more : TypedNodes
  more = longer before built.typed built.counted x.node x.ty x.constant

  pub pushed_is : IsPushed old new x → with_columns rest new ≡ more
  pushed_is p = rw (p.exprs, p.types, p.constants) refl

  pub pushed_grows : IsPushed old new x → Grows before (with_columns rest new)
  pushed_grows p = subst (Grows before) (sym (pushed_is p)) (longer_grows before built.typed built.counted x.node x.ty x.constant)

  pub pushed_made : (e : ExprId) → e.0 ≡ length old.exprs.items → IsPushed old new x → tree_of (with_columns rest new) e ≡ made_or_number (tree_of before) x.node.at x.node.signs x.ty x.constant x.node.expr
  pushed_made e at p = ap (λ q. tree_of q e) (pushed_is p) ∙ tree_last before built.typed built.counted x.node x.ty x.constant e at

  pub pushed_typed : (e : ExprId) → e.0 ≡ length old.exprs.items → IsPushed old new x → type_of_node (with_columns rest new) e.0 ≡ x.ty
  pushed_typed e at p = ap (λ q. type_of_node q e.0) (pushed_is p) ∙ ap (type_of_node more) at ∙ type_last before built.typed built.counted x.node x.ty x.constant

  pub pushed_counted : (e : ExprId) → e.0 ≡ length old.exprs.items → IsPushed old new x → constant_of_node (with_columns rest new) e.0 ≡ x.constant
  pushed_counted e at p =
      ap (λ q. constant_of_node q e.0) (pushed_is p) ∙ ap (constant_of_node more) at ∙ constant_last before built.typed built.counted x.node x.ty x.constant

  pub pushed_built : (added : Bool) → length old.exprs.items < 4294967295 → parts_below (length old.exprs.items) x.node.expr ≡ true → node_fits before x.ty x.constant x.node.expr ≡ true
      → new.exprs.items ≡ (if added then old.exprs.items ++ x.node ∷ [] else old.exprs.items) → new.types.items ≡ (if added then old.types.items ++ x.ty ∷ [] else old.types.items)
      → new.constants.items ≡ (if added then old.constants.items ++ x.constant ∷ [] else old.constants.items) → IsBuilt (with_columns rest new)
  pushed_built false few parts fits a b c =
      let same : with_columns rest new ≡ before = rw (a, b, c) refl in
      subst IsBuilt (sym same) built
  pushed_built true few parts fits a b c =
      let p : IsPushed old new x = record { exprs = a; types = b; constants = c } in
      subst IsBuilt (sym (pushed_is p)) (longer_built before built.typed built.counted x.node x.ty x.constant built few parts fits)
