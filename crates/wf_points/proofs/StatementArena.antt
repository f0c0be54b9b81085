-- What a statement makes of the block after it is made of what the statements inside it make.
use Rattle.std.proofs.Common.{◌≡◌, ℕ, zero, suc, ◌+◌, ◌<◌, true, false, ◌&&◌, List, [], ◌∷◌, ◌++◌, length, Option, Some, None, nat_lt, refl, sym, ap, ◌∙◌, subst, arith, length-append}
use Rattle.std.specs.Prelude.{slice_get, unwrap_or}
use Rattle.std.specs.List.{list_all}
use Rattle.std.proofs.lemmas.Bool.Decides.{nat_tests}
use Rattle.wf_text.specs.declared.place.Place.{Place}
use Rattle.wf_ast.specs.declared.numbers.ExprId.{ExprId}
use Rattle.wf_ast.specs.declared.numbers.StmtId.{StmtId}
use Rattle.wf_ast.specs.declared.typed_code.Arm.{Arm}
use Rattle.wf_ast.specs.declared.typed_code.Block as typed_code
use Rattle.wf_ast.specs.declared.typed_code.Stmt.{Stmt}
use Rattle.wf_ast.specs.declared.typed_code.Stmt.TheVariants as stmts
use Rattle.wf_ast.specs.declared.typed_code.StmtNode.{StmtNode}
use Rattle.wf_ast.specs.declared.typed_nodes.TypedNodes.{TypedNodes}
use Rattle.wf_ast.specs.TypedTree.{ValueTree, Site, Block, end, choose, loop}
use Rattle.wf_ast.specs.TypedTrees.{cond_in, tree_of, head_made, block_made, otherwise_made, if_made, stmt_made, no_stmt, onto, stmts_after, stmt_makers}
use Rattle.wf_ast.specs.TypedInvariant.{each_numbered, is_expr, block_below, optional_block_below, stmt_below}
use Rattle.wf_ast.proofs.Arena.{both_true, get_front, get_seam}

below : (m n : ℕ) → nat_lt m n ≡ true → m < n
below m n h = grind (arith, nat_tests, h)

-- Two ways to look up what statements make agree below a number.
module _ (f g : StmtId → Block → Block) (k : ℕ) (same : (s : StmtId) → s.0 < k → (rest : Block) → f s rest ≡ g s rest) where
  block_same : (ss : List StmtId) → list_all (λ inner. nat_lt inner.0 k) ss ≡ true → block_made f ss ≡ block_made g ss
  block_same [] h = refl
  block_same (s ∷ ss) h =
      let p = both_true (nat_lt s.0 k) (list_all (λ inner. nat_lt inner.0 k) ss) h in
      same s (below s.0 k p.0) (block_made f ss) ∙ ap (g s) (block_same ss p.1)

  module _ (nodes : TypedNodes) (look : ExprId → ValueTree) (site : Site) where
    otherwise_same : (arms : List Arm) (other : Option typed_code.Block) → list_all (λ a. is_expr nodes a.cond && block_below k a.body) arms ≡ true → optional_block_below k other ≡ true
        → otherwise_made look f site arms other ≡ otherwise_made look g site arms other
    otherwise_same [] None h o = refl
    otherwise_same [] (Some b) h o = block_same b.items o
    otherwise_same (arm ∷ arms) other h o =
        let p = both_true (is_expr nodes arm.cond && block_below k arm.body) (list_all (λ a. is_expr nodes a.cond && block_below k a.body) arms) h in
        let q = both_true (is_expr nodes arm.cond) (block_below k arm.body) p.0 in
        ap (λ b. choose site true (cond_in (look arm.cond)) b (otherwise_made look f site arms other) end) (block_same arm.body.items q.1)
        ∙ ap (λ b. choose site true (cond_in (look arm.cond)) (block_made g arm.body.items) b end) (otherwise_same arms other p.1 o)

    if_same : (arms : List Arm) (other : Option typed_code.Block) (rest : Block) → list_all (λ a. is_expr nodes a.cond && block_below k a.body) arms ≡ true → optional_block_below k other ≡ true
        → if_made look f site arms other rest ≡ if_made look g site arms other rest
    if_same [] other rest h o = refl
    if_same (arm ∷ arms) other rest h o =
        let p = both_true (is_expr nodes arm.cond && block_below k arm.body) (list_all (λ a. is_expr nodes a.cond && block_below k a.body) arms) h in
        let q = both_true (is_expr nodes arm.cond) (block_below k arm.body) p.0 in
        ap (λ b. choose site false (cond_in (look arm.cond)) b (otherwise_made look f site arms other) rest) (block_same arm.body.items q.1)
        ∙ ap (λ b. choose site false (cond_in (look arm.cond)) (block_made g arm.body.items) b rest) (otherwise_same arms other p.1 o)

  by_stmt : (nodes : TypedNodes) (look : ExprId → ValueTree) (n : ℕ) (at inner : Place) (st : Stmt) (rest : Block) → stmt_below nodes k st ≡ true
      → stmt_made nodes look f n (record { stmt = st; at = at; inner = inner }) rest ≡ stmt_made nodes look g n (record { stmt = st; at = at; inner = inner }) rest
  by_stmt nodes look n at inner (stmts.Assign target op value) rest h = refl
  by_stmt nodes look n at inner (stmts.Call target keep callee args) rest h = refl
  by_stmt nodes look n at inner (stmts.If arms otherwise) rest h =
      let p = both_true (list_all (λ a. is_expr nodes a.cond && block_below k a.body) arms) (optional_block_below k otherwise) h in
      if_same nodes look (record { number = n; at = at }) arms otherwise rest p.0 p.1
  by_stmt nodes look n at inner (stmts.While head body) rest h =
      let p = both_true (is_expr nodes head.cond) (list_all (λ c. is_expr nodes c.1) head.clauses && block_below k body) h in
      let q = both_true (list_all (λ c. is_expr nodes c.1) head.clauses) (block_below k body) p.1 in
      ap (λ b. loop (record { number = n; at = at }) (head_made look inner head) b rest) (block_same body.items q.1)
  by_stmt nodes look n at inner (stmts.Break w) rest h = refl
  by_stmt nodes look n at inner (stmts.Continue w) rest h = refl
  by_stmt nodes look n at inner (stmts.Return None) rest h = refl
  by_stmt nodes look n at inner (stmts.Return (Some e)) rest h = refl
  by_stmt nodes look n at inner (stmts.Yield s) rest h = refl
  by_stmt nodes look n at inner (stmts.Assert goal axiom_ref) rest h = refl

  node_same : (nodes : TypedNodes) (look : ExprId → ValueTree) (n : ℕ) (node : StmtNode) (rest : Block) → stmt_below nodes k node.stmt ≡ true
      → stmt_made nodes look f n node rest ≡ stmt_made nodes look g n node rest
  node_same nodes look n node rest h = by_stmt nodes look n node.at node.inner node.stmt rest h

module _ (nodes : TypedNodes) (look : ExprId → ValueTree) where
  -- What statements make stays while more are added.
  kept : (ns : List StmtNode) (made : List (Block → Block)) (k : ℕ) → k < length made → slice_get (stmts_after nodes look made ns) k ≡ slice_get made k
  kept [] made k h = refl
  kept (n ∷ ns) made k h =
      let one = stmt_made nodes look (onto made) (length made) n in
      kept ns (made ++ one ∷ []) k (omega (arith, h, length-append made (one ∷ []))) ∙ get_front made (one ∷ []) k h

  made_at : (ns : List StmtNode) (made : List (Block → Block)) (i : ℕ) (n : StmtNode) (rest : Block) → slice_get ns i ≡ Some n
      → each_numbered (λ s node. stmt_below nodes s node.stmt) (length made) ns ≡ true
      → unwrap_or (slice_get (stmts_after nodes look made ns) (length made + i)) no_stmt rest ≡ stmt_made nodes look (onto (stmts_after nodes look made ns)) (length made + i) n rest
  made_at [] made i n rest e h = absurd (cc e)
  made_at (m ∷ ns) made zero n rest e h =
      let one = stmt_made nodes look (onto made) (length made) m in
      let all = stmts_after nodes look (made ++ one ∷ []) ns in
      let long : length made < length (made ++ one ∷ []) = omega (arith, length-append made (one ∷ [])) in
      let here : slice_get all (length made) ≡ Some one = kept ns (made ++ one ∷ []) (length made) long ∙ get_seam made one [] in
      let p = both_true (stmt_below nodes (length made) m.stmt) (each_numbered (λ s node. stmt_below nodes s node.stmt) (length made + 1) ns) h in
      let same : (part : StmtId) → part.0 < length made → (after : Block) → onto made part after ≡ onto all part after = λ part small after.
      ap (λ o. unwrap_or o no_stmt after) (sym (kept (m ∷ ns) made part.0 small)) in
      let again : one rest ≡ stmt_made nodes look (onto all) (length made) m rest = node_same (onto made) (onto all) (length made) same nodes look (length made) m rest p.0 in
      let k : m ≡ n = cc e in
      let l : length made ≡ length made + 0 = omega arith in
      let P : StmtNode → Type 0 = λ x. unwrap_or (slice_get all (length made)) no_stmt rest ≡ stmt_made nodes look (onto all) (length made) x rest in
      let Q : ℕ → Type 0 = λ j. unwrap_or (slice_get all j) no_stmt rest ≡ stmt_made nodes look (onto all) j n rest in
      subst Q l (subst P k (ap (λ o. unwrap_or o no_stmt rest) here ∙ again))
  made_at (m ∷ ns) made (suc i) n rest e h =
      let one = stmt_made nodes look (onto made) (length made) m in
      let all = stmts_after nodes look (made ++ one ∷ []) ns in
      let p = both_true (stmt_below nodes (length made) m.stmt) (each_numbered (λ s node. stmt_below nodes s node.stmt) (length made + 1) ns) h in
      let l : length made + 1 ≡ length (made ++ one ∷ []) = omega (arith, length-append made (one ∷ [])) in
      let P : ℕ → Type 0 = λ j. each_numbered (λ s node. stmt_below nodes s node.stmt) j ns ≡ true in
      let r = made_at ns (made ++ one ∷ []) i n rest e (subst P l p.1) in
      let j : length (made ++ one ∷ []) + i ≡ length made + suc i = omega (arith, length-append made (one ∷ [])) in
      let Q : ℕ → Type 0 = λ j. unwrap_or (slice_get all j) no_stmt rest ≡ stmt_made nodes look (onto all) j n rest in
      subst Q j r

-- What a statement makes, by its node.
pub stmt_is : (nodes : TypedNodes) (s : StmtId) (n : StmtNode) (rest : Block) → slice_get nodes.stmts s.0 ≡ Some n
    → each_numbered (λ s node. stmt_below nodes s node.stmt) 0 nodes.stmts ≡ true
    → onto (stmt_makers nodes) s rest ≡ stmt_made nodes (tree_of nodes) (onto (stmt_makers nodes)) s.0 n rest
unfolding stmt_makers
stmt_is nodes s n rest is ordered =
    let r = made_at nodes (tree_of nodes) nodes.stmts [] s.0 n rest is ordered in
    let j : 0 + s.0 ≡ s.0 = omega arith in
    let all = stmts_after nodes (tree_of nodes) [] nodes.stmts in
    let Q : ℕ → Type 0 = λ j. unwrap_or (slice_get all j) no_stmt rest ≡ stmt_made nodes (tree_of nodes) (onto all) j n rest in
    subst Q j r
