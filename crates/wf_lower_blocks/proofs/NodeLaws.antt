-- What a statement makes of the block after it, by its node.
use Rattle.std.proofs.Common.{◌≡◌, ℕ, ◌<◌, Bool, true, false, List, Option, None, Some, refl, sym, ap, ◌∙◌, subst}
use Rattle.std.specs.Prelude.{slice_get, option_map, unwrap_or, length}
use Rattle.wf_text.specs.declared.place.Place.{Place}
use Rattle.wf_ast.specs.declared.numbers.StmtId.{StmtId}
use Rattle.wf_ast.specs.declared.typed_code.Arm.{Arm}
use Rattle.wf_ast.specs.declared.typed_code.Block as typed_code
use Rattle.wf_ast.specs.declared.typed_code.LoopHead.{LoopHead}
use Rattle.wf_ast.specs.declared.typed_code.Stmt.{Stmt}
use Rattle.wf_ast.specs.declared.typed_code.Stmt.TheVariants as stmts
use Rattle.wf_ast.specs.declared.typed_code.StmtNode.{StmtNode}
use Rattle.wf_ast.specs.declared.typed_nodes.TypedNodes.{TypedNodes}
use Rattle.wf_ast.specs.TypedInvariant.{IsTyped}
use Rattle.wf_ast.specs.TypedTree.{Block, plain, loop}
use Rattle.wf_ast.specs.TypedTrees.{no_place, tree_of, head_made, block_of, stmt_made, onto, stmt_makers}
use Rattle.wf_points.proofs.StatementArena.{stmt_is}
use Rattle.wf_lower_stmts.proofs.StandLaws.{node_there}
use Rattle.wf_lower_blocks.specs.Blocks.{site_at, if_in}
use Rattle.wf_lower_blocks.specs.Calls.{simple_made, simple_of_node, simple_at}

-- A statement without blocks of its own.
abbrev pub is_simple : Stmt → Bool
is_simple (stmts.If arms other) = false
is_simple (stmts.While head body) = false
is_simple st = true

by_stmt : (nodes : TypedNodes) (f : StmtId → Block → Block) (n : ℕ) (at inner : Place) (st : Stmt) (rest : Block) → is_simple st ≡ true
    → stmt_made nodes (tree_of nodes) f n (record { stmt = st; at = at; inner = inner }) rest ≡ plain (record { number = n; at = at }) (simple_made nodes inner st) rest
by_stmt nodes f n at inner (stmts.Assign target op value) rest h = refl
by_stmt nodes f n at inner (stmts.Call target keep callee given) rest h = refl
by_stmt nodes f n at inner (stmts.If arms other) rest h = absurd (cc h)
by_stmt nodes f n at inner (stmts.While head body) rest h = absurd (cc h)
by_stmt nodes f n at inner (stmts.Break w) rest h = refl
by_stmt nodes f n at inner (stmts.Continue w) rest h = refl
by_stmt nodes f n at inner (stmts.Return None) rest h = refl
by_stmt nodes f n at inner (stmts.Return (Some e)) rest h = refl
by_stmt nodes f n at inner (stmts.Yield k) rest h = refl
by_stmt nodes f n at inner (stmts.Assert goal ax) rest h = refl

-- The second place of a statement.
abbrev pub inner_at : TypedNodes → ℕ → Place
inner_at nodes s = unwrap_or (option_map (λ (node : StmtNode). node.inner) (slice_get nodes.stmts s)) no_place

module _ (nodes : TypedNodes) (typed : IsTyped nodes) (s : StmtId) (known : s.0 < length nodes.stmts) where
  abbrev pub Is : Stmt → Type 0
  Is st = option_map (λ (node : StmtNode). node.stmt) (slice_get nodes.stmts s.0) ≡ Some st

  at_node : (P : Place → Place → Stmt → Type 0) (st : Stmt) → Is st
      → ((node : StmtNode) → slice_get nodes.stmts s.0 ≡ Some node → P node.at node.inner node.stmt)
      → P (unwrap_or (option_map (λ (node : StmtNode). node.at) (slice_get nodes.stmts s.0)) no_place) (inner_at nodes s.0) st
  at_node P st h make =
      let n = node_there nodes.stmts s.0 known in
      let Q : Option StmtNode → Type 0 = λ o. option_map (λ (node : StmtNode). node.stmt) o ≡ Some st in
      let same : n.0.stmt ≡ st = cc (subst Q n.1 h) in
      let first : n.0.at ≡ unwrap_or (option_map (λ (node : StmtNode). node.at) (slice_get nodes.stmts s.0)) no_place = ap (λ (o : Option StmtNode). unwrap_or (option_map (λ node. node.at) o) no_place) (sym n.1) in
      let second : n.0.inner ≡ inner_at nodes s.0 = ap (λ (o : Option StmtNode). unwrap_or (option_map (λ node. node.inner) o) no_place) (sym n.1) in
      let A : Place → Type 0 = λ x. P x n.0.inner n.0.stmt in
      let B : Place → Type 0 = λ x. P (unwrap_or (option_map (λ (node : StmtNode). node.at) (slice_get nodes.stmts s.0)) no_place) x n.0.stmt in
      let C : Stmt → Type 0 = λ x. P (unwrap_or (option_map (λ (node : StmtNode). node.at) (slice_get nodes.stmts s.0)) no_place) (inner_at nodes s.0) x in
      subst C same (subst B second (subst A first (make n.0 n.1)))

  pub if_makes : (arms : List Arm) (other : Option typed_code.Block) → Is (stmts.If arms other) → (rest : Block) → onto (stmt_makers nodes) s rest ≡ if_in nodes s arms other rest
  if_makes arms other h rest =
      at_node (λ at inner st. onto (stmt_makers nodes) s rest ≡ stmt_made nodes (tree_of nodes) (onto (stmt_makers nodes)) s.0 (record { stmt = st; at = at; inner = inner }) rest)
      (stmts.If arms other) h (λ node is. stmt_is nodes s node rest is typed.stmts_ordered)

  pub loop_makes : (head : LoopHead) (body : typed_code.Block) → Is (stmts.While head body) → (rest : Block)
      → onto (stmt_makers nodes) s rest ≡ loop (site_at nodes s) (head_made (tree_of nodes) (inner_at nodes s.0) head) (block_of nodes body) rest
  loop_makes head body h rest =
      at_node (λ at inner st. onto (stmt_makers nodes) s rest ≡ stmt_made nodes (tree_of nodes) (onto (stmt_makers nodes)) s.0 (record { stmt = st; at = at; inner = inner }) rest)
      (stmts.While head body) h (λ node is. stmt_is nodes s node rest is typed.stmts_ordered)

  pub simple_is : (st : Stmt) → Is st → simple_at nodes s.0 ≡ simple_made nodes (inner_at nodes s.0) st
  simple_is st h =
      at_node (λ at inner x. simple_at nodes s.0 ≡ simple_made nodes inner x) st h (λ node is. ap (simple_of_node nodes) is)

  pub simply_makes : (st : Stmt) → Is st → is_simple st ≡ true → (rest : Block) → onto (stmt_makers nodes) s rest ≡ plain (site_at nodes s) (simple_at nodes s.0) rest
  simply_makes st h simple rest =
      at_node (λ at inner x. onto (stmt_makers nodes) s rest ≡ stmt_made nodes (tree_of nodes) (onto (stmt_makers nodes)) s.0 (record { stmt = x; at = at; inner = inner }) rest) st h (λ node is. stmt_is nodes s node rest is typed.stmts_ordered)
      ∙ by_stmt nodes (onto (stmt_makers nodes)) s.0 _ (inner_at nodes s.0) st rest simple
      ∙ ap (λ x. plain (site_at nodes s) x rest) (sym (simple_is st h))
