-- One statement more: what it makes joins the others, and these make what they made.
use Rattle.std.proofs.Common.{◌≡◌, ℕ, ◌+◌, ◌<◌, Bool, true, List, [], ◌∷◌, ◌++◌, length, Option, Some, None, refl, sym, ap, ◌∙◌, subst, arith, length-append}
use Rattle.std.specs.Prelude.{◌&&◌, slice_get, unwrap_or}
use Rattle.std.specs.List.{list_all}
use Rattle.wf_ast.specs.declared.numbers.ExprId.{ExprId}
use Rattle.wf_ast.specs.declared.numbers.StmtId.{StmtId}
use Rattle.wf_ast.specs.declared.typed_code.Callee.{Callee}
use Rattle.wf_ast.specs.declared.typed_code.Callee.TheVariants as callees
use Rattle.wf_ast.specs.declared.typed_code.ExprNode.{ExprNode}
use Rattle.wf_ast.specs.declared.typed_code.Stmt.{Stmt}
use Rattle.wf_ast.specs.declared.typed_code.Stmt.TheVariants as stmts
use Rattle.wf_ast.specs.declared.typed_code.StmtNode.{StmtNode}
use Rattle.wf_ast.specs.declared.typed_nodes.TypedNodes.{TypedNodes}
use Rattle.wf_ast.specs.TypedTree.{ValueTree, Block}
use Rattle.wf_ast.specs.TypedTrees.{made_or_number, tree_in, tree_of, expr_trees, exprs_after, type_of_node, constant_of_node, stmt_made, no_stmt, onto, stmts_after, stmt_makers}
use Rattle.wf_ast.specs.TypedInvariant.{each_numbered, is_expr, is_optional_expr, callee_exists}
use Rattle.wf_ast.proofs.Arena.{both_true, get_front, get_seam}
use Rattle.wf_typed_tree.proofs.NumberLemmas.{and-true}
use Rattle.wf_typed_stmts.specs.StmtGrowth.{with_stmts, stmt_there, AreStmtsBuilt, GrowsStmts}
use Rattle.wf_typed_stmts.proofs.StmtLemmas.{node_same, after_same}

-- Tests of numbered items.
numbered_push : {X : Type 0} (test : ℕ → X → Bool) (n : ℕ) (xs : List X) (x : X) (last : ℕ) → last ≡ n + length xs → each_numbered test n xs ≡ true → test last x ≡ true
    → each_numbered test n (xs ++ x ∷ []) ≡ true
numbered_push {X} test n [] x last e h k =
    let here : last ≡ n = omega (arith, e) in
    let P : ℕ → Type 0 = λ j. test j x ≡ true in
    and-true (test n x) true (subst P here k) refl
numbered_push {X} test n (y ∷ ys) x last e h k =
    let p = both_true (test n y) (each_numbered test (n + 1) ys) h in
    and-true (test n y) (each_numbered test (n + 1) (ys ++ x ∷ [])) p.0 (numbered_push test (n + 1) ys x last (omega (arith, e)) p.1 k)

pub numbered_more : {X : Type 0} (f g : ℕ → X → Bool) (n : ℕ) (xs : List X) → ((i : ℕ) (x : X) → f i x ≡ true → g i x ≡ true) → each_numbered f n xs ≡ true → each_numbered g n xs ≡ true
numbered_more f g n [] each h = refl
numbered_more f g n (x ∷ xs) each h =
    let a = both_true (f n x) (each_numbered f (n + 1) xs) h in
    and-true (g n x) (each_numbered g (n + 1) xs) (each n x a.0) (numbered_more f g (n + 1) xs each a.1)

-- The fold over the nodes.
stmts_push : (nodes : TypedNodes) (look : ExprId → ValueTree) (ns : List StmtNode) (made : List (Block → Block)) (n : StmtNode)
    → stmts_after nodes look made (ns ++ n ∷ []) ≡ stmts_after nodes look made ns ++ stmt_made nodes look (onto (stmts_after nodes look made ns)) (length (stmts_after nodes look made ns)) n ∷ []
stmts_push nodes look [] made n = refl
stmts_push nodes look (m ∷ ns) made n = stmts_push nodes look ns (made ++ stmt_made nodes look (onto made) (length made) m ∷ []) n

stmts_length : (nodes : TypedNodes) (look : ExprId → ValueTree) (ns : List StmtNode) (made : List (Block → Block)) → length (stmts_after nodes look made ns) ≡ length made + length ns
stmts_length nodes look [] made = omega arith
stmts_length nodes look (m ∷ ns) made =
    let one = stmt_made nodes look (onto made) (length made) m in
    let p = stmts_length nodes look ns (made ++ one ∷ []) in
    omega (arith, p, length-append made (one ∷ []))

pub makers_length : (p : TypedNodes) → length (stmt_makers p) ≡ length p.stmts
unfolding stmt_makers
makers_length p = stmts_length p (tree_of p) p.stmts [] ∙ omega arith

-- The trees of expressions don't depend on statements.
after_stays : (nodes : TypedNodes) (xs : List StmtNode) (ns : List ExprNode) (ts : List ValueTree) → exprs_after (with_stmts nodes xs) ts ns ≡ exprs_after nodes ts ns
after_stays nodes xs [] ts = refl
after_stays nodes xs (m ∷ ns) ts =
    after_stays nodes xs ns (ts ++ made_or_number (tree_in ts) m.at m.signs (type_of_node nodes (length ts)) (constant_of_node nodes (length ts)) m.expr ∷ [])

pub trees_stay : (nodes : TypedNodes) (xs : List StmtNode) → expr_trees (with_stmts nodes xs) ≡ expr_trees nodes
unfolding expr_trees
trees_stay nodes xs = after_stays nodes xs nodes.exprs []

pub tree_stays : (nodes : TypedNodes) (xs : List StmtNode) (e : ExprId) → tree_of (with_stmts nodes xs) e ≡ tree_of nodes e
tree_stays nodes xs e = ap (λ ts. tree_in ts e) (trees_stay nodes xs)

there_stays : (p : TypedNodes) (xs : List StmtNode) (s : ℕ) (st : Stmt) → stmt_there p s st ≡ true → stmt_there (with_stmts p xs) s st ≡ true
there_stays p xs s (stmts.Assign target op value) h = h
there_stays p xs s (stmts.Call target keep callee args) h =
    let k = both_true (is_optional_expr p target) (callee_exists p callee && list_all (is_expr p) args) h in
    let l = both_true (callee_exists p callee) (list_all (is_expr p) args) k.1 in
    and-true (is_optional_expr (with_stmts p xs) target) _ (optional_stays target k.0) (and-true (callee_exists (with_stmts p xs) callee) _ (callee_stays callee l.0) l.1)
  where
    optional_stays : (e : Option ExprId) → is_optional_expr p e ≡ true → is_optional_expr (with_stmts p xs) e ≡ true
    optional_stays None i = refl
    optional_stays (Some e) i = i

    callee_stays : (c : Callee) → callee_exists p c ≡ true → callee_exists (with_stmts p xs) c ≡ true
    callee_stays (callees.Own m) i = i
    callee_stays (callees.Sub x m) i = i
    callee_stays (callees.Base on sig) i = i
there_stays p xs s (stmts.If arms otherwise) h = h
there_stays p xs s (stmts.While head body) h = h
there_stays p xs s (stmts.Break w) h = refl
there_stays p xs s (stmts.Continue w) h = refl
there_stays p xs s (stmts.Return None) h = refl
there_stays p xs s (stmts.Return (Some e)) h = h
there_stays p xs s (stmts.Yield n) h = h
there_stays p xs s (stmts.Assert goal None) h = h
there_stays p xs s (stmts.Assert goal (Some a)) h = h

module _ (p : TypedNodes) (built : AreStmtsBuilt p) (n : StmtNode) (there : stmt_there p (length p.stmts) n.stmt ≡ true) where
  abbrev pub longer : TypedNodes
  longer = with_stmts p (p.stmts ++ n ∷ [])

  abbrev pub made_last : Block → Block
  made_last = stmt_made p (tree_of p) (onto (stmt_makers p)) (length p.stmts) n

  same_tree : (e : ExprId) → e.0 < length p.exprs → tree_of longer e ≡ tree_of p e
  same_tree e h = tree_stays p (p.stmts ++ n ∷ []) e

  pub makers_push : stmt_makers longer ≡ stmt_makers p ++ made_last ∷ []
  unfolding stmt_makers
  makers_push =
      let front : stmts_after longer (tree_of longer) [] p.stmts ≡ stmts_after p (tree_of p) [] p.stmts = after_same p longer refl refl (tree_of p) (tree_of longer) same_tree [] 0 p.stmts built.ordered in
      let count : length (stmts_after p (tree_of p) [] p.stmts) ≡ length p.stmts = stmts_length p (tree_of p) p.stmts [] ∙ omega arith in
      let P : List (Block → Block) → Type 0 = λ ms. stmts_after longer (tree_of longer) [] (p.stmts ++ n ∷ []) ≡ ms ++ stmt_made longer (tree_of longer) (onto ms) (length ms) n ∷ [] in
      let all = subst P front (stmts_push longer (tree_of longer) p.stmts [] n) in
      let ms = stmts_after p (tree_of p) [] p.stmts in
      let last = node_same p longer refl refl (tree_of p) (tree_of longer) same_tree (onto ms) (length ms) (length p.stmts) n there in
      all ∙ ap (λ x. ms ++ x ∷ []) (last ∙ ap (λ k. stmt_made p (tree_of p) (onto ms) k n) count)

  pub longer_grows : GrowsStmts p longer
  longer_grows = record {
    exprs = omega arith;
    stmts = omega (arith, length-append p.stmts (n ∷ []));
    same_trees = λ i h. ap (λ ts. slice_get ts i) (sym (trees_stay p (p.stmts ++ n ∷ [])));
    same_types = λ i h. refl;
    same_constants = λ i h. refl;
    same_makers = λ i h. sym (get_front (stmt_makers p) (made_last ∷ []) i (omega (arith, h, makers_length p))) ∙ ap (λ ms. slice_get ms i) (sym makers_push);
    rest = refl;
  }

  pub longer_made : (s : StmtId) → s.0 ≡ length p.stmts → (rest : Block) → onto (stmt_makers longer) s rest ≡ made_last rest
  longer_made s h rest =
      let spot : s.0 ≡ length (stmt_makers p) = h ∙ sym (makers_length p) in
      ap (λ ms. onto ms s rest) makers_push ∙ ap (λ i. onto (stmt_makers p ++ made_last ∷ []) (record { 0 = i }) rest) spot
      ∙ ap (λ o. unwrap_or o no_stmt rest) (get_seam (stmt_makers p) made_last [])

  pub longer_built : length p.stmts < 4294967295 → AreStmtsBuilt longer
  longer_built few = record {
    ordered =
        numbered_push (λ s node. stmt_there longer s node.stmt) 0 p.stmts n (length p.stmts) (omega arith)
        (numbered_more (λ s node. stmt_there p s node.stmt) (λ s node. stmt_there longer s node.stmt) 0 p.stmts (λ s node h. there_stays p (p.stmts ++ n ∷ []) s node.stmt h) built.ordered)
        (there_stays p (p.stmts ++ n ∷ []) (length p.stmts) n.stmt there);
    few = omega (arith, few, length-append p.stmts (n ∷ []));
  }

-- The same by the list that the code keeps.
module _ (b : TypedNodes) (items new : List StmtNode) (n : StmtNode) (built : AreStmtsBuilt (with_stmts b items)) (there : stmt_there (with_stmts b items) (length items) n.stmt ≡ true) (is : new ≡ items ++ n ∷ []) where
  abbrev old : TypedNodes
  old = with_stmts b items

  pub pushed_is : with_stmts b new ≡ record (with_stmts b items) { stmts = (with_stmts b items).stmts ++ n ∷ [] }
  pushed_is = ap (with_stmts b) is

  pub pushed_grows : GrowsStmts (with_stmts b items) (with_stmts b new)
  pushed_grows = subst (GrowsStmts old) (sym pushed_is) (longer_grows old built n there)

  pub pushed_made : (s : StmtId) → s.0 ≡ length items → (rest : Block)
      → onto (stmt_makers (with_stmts b new)) s rest ≡ stmt_made (with_stmts b items) (tree_of (with_stmts b items)) (onto (stmt_makers (with_stmts b items))) (length items) n rest
  pushed_made s h rest = ap (λ q. onto (stmt_makers q) s rest) pushed_is ∙ longer_made old built n there s h rest

  pub pushed_built : length items < 4294967295 → AreStmtsBuilt (with_stmts b new)
  pushed_built few = subst AreStmtsBuilt (sym pushed_is) (longer_built old built n there few)
