-- A loop that keeps the rules of types is one by the number of its statement.
use Rattle.std.proofs.Common.{◌≡◌, ℕ, ◌<◌, false, Bool, true, ◌&&◌, List, [], ◌∷◌, Some, nat_lt, refl, subst, arith}
use Rattle.std.specs.Prelude.{slice_get}
use Rattle.std.specs.List.{list_all}
use Rattle.std.proofs.lemmas.Bool.{and_parts}
use Rattle.std.proofs.lemmas.Bool.Decides.{nat_tests}
use Rattle.wf_text.specs.declared.place.Place.{Place}
use Rattle.wf_ast.specs.declared.parsed.Clause.{Clause}
use Rattle.wf_ast.specs.declared.numbers.ExprId.{ExprId}
use Rattle.wf_ast.specs.declared.numbers.StmtId.{StmtId}
use Rattle.wf_ast.specs.declared.types.Ty.{Ty}
use Rattle.wf_ast.specs.declared.types.Ty.TheVariants as types
use Rattle.wf_ast.specs.declared.typed_code.Block as typed_code
use Rattle.wf_ast.specs.declared.typed_code.LoopHead.{LoopHead}
use Rattle.wf_ast.specs.declared.typed_code.Stmt.{Stmt}
use Rattle.wf_ast.specs.declared.typed_code.Stmt.TheVariants as stmts
use Rattle.wf_ast.specs.declared.typed_code.StmtNode.{StmtNode}
use Rattle.wf_ast.specs.declared.typed_nodes.TypedNodes.{TypedNodes}
use Rattle.wf_ast.specs.TypedTree.{ValueTree, numeric, state, elements, io}
use Rattle.wf_ast.specs.TypedTrees.{cond_in, head_made, tree_of, type_of_node}
use Rattle.wf_ast.specs.TypedInvariant.{IsTyped, is_expr, is_logical, is_tree_of, stmt_below}
use Rattle.wf_ast.specs.WellTyped.{Context, well_cond}
use Rattle.wf_ast.specs.NodeKinds.{is_condition_at, node_cond}
use Rattle.wf_ast.proofs.Accessors.{tree_kind, stmt_inside}
use Rattle.wf_loops.specs.LoopNodes.{is_loop, is_loop_stmt, head_at, place_at, are_conditions, promises_in}
use Rattle.wf_loops.specs.LoopLaws.{well_head}

both_hold : (a b : Bool) → a ≡ true → b ≡ true → (a && b) ≡ true
both_hold true b h k = k
both_hold false b h k = absurd (cc (h))

lt_from : (m n : ℕ) → nat_lt m n ≡ true → m < n
lt_from m n h = grind (arith, nat_tests, h)

-- What stands for the condition of an expression that is none keeps no rules of types.
kind_of_condition : (c : Context) (ty : Ty) (t : ValueTree) → is_tree_of ty t ≡ true → well_cond c (cond_in t) ≡ true → is_logical ty ≡ true
kind_of_condition c types.Flag t h k = refl
kind_of_condition c (types.Num width lo hi) (numeric t) h k = absurd (cc (k))
kind_of_condition c types.Status (state t) h k = absurd (cc (k))
kind_of_condition c (types.Slice width) (elements t) h k = absurd (cc (k))
kind_of_condition c (types.Array width lo hi count) (elements t) h k = absurd (cc (k))
kind_of_condition c types.Reader (io at a) h k = absurd (cc (k))
kind_of_condition c types.Writer (io at a) h k = absurd (cc (k))
kind_of_condition c ty t h k = absurd (cc (h))

module _ (nodes : TypedNodes) (typed : IsTyped nodes) (c : Context) where
  pub condition_found : (e : ExprId) → is_expr nodes e ≡ true → well_cond c (node_cond nodes e) ≡ true → is_condition_at nodes e ≡ true
  condition_found e h k = both_hold (is_expr nodes e) _ h (kind_of_condition c (type_of_node nodes e.0) (tree_of nodes e) (tree_kind nodes typed e (lt_from _ _ h)) k)

  promises_found : (cs : List (Clause × ExprId)) → list_all (λ c. is_expr nodes c.1) cs ≡ true → list_all (λ p. well_cond c p.1) (promises_in nodes cs) ≡ true → are_conditions nodes cs ≡ true
  promises_found [] h k = refl
  promises_found (p ∷ ps) h k =
      let i = and_parts (is_expr nodes p.1) _ h in
      let j = and_parts (well_cond c (node_cond nodes p.1)) _ k in
      both_hold (is_condition_at nodes p.1) _ (condition_found p.1 i.0 j.0) (promises_found ps i.1 j.1)

  stmt_found : (w : StmtId) (head : LoopHead) (body : typed_code.Block) (close : Place) → stmt_below nodes w.0 (stmts.While head body) ≡ true → well_head c (head_made (tree_of nodes) close head) ≡ true
      → is_loop_stmt nodes (stmts.While head body) ≡ true
  stmt_found w head body close h k =
      let i = and_parts (is_expr nodes head.cond) _ h in
      let j = and_parts (list_all (λ c. is_expr nodes c.1) head.clauses) _ i.1 in
      let l = and_parts (well_cond c (node_cond nodes head.cond)) _ k in
      both_hold (is_condition_at nodes head.cond) _ (condition_found head.cond i.0 l.0) (promises_found head.clauses j.0 l.1)

  pub loop_found : (w : StmtId) (node : StmtNode) (head : LoopHead) (body : typed_code.Block) → slice_get nodes.stmts w.0 ≡ Some node → node.stmt ≡ stmts.While head body
      → well_head c (head_made (tree_of nodes) node.inner head) ≡ true → is_loop nodes w ≡ true
  unfolding is_loop
  loop_found w node head body h k l =
      let P : Stmt → Type 0 = λ stmt. stmt_below nodes w.0 stmt ≡ true in
      let below : stmt_below nodes w.0 (stmts.While head body) ≡ true = subst P k (stmt_inside nodes typed w.0 node h) in
      let found = stmt_found w head body node.inner below l in
      rw (h, k) found

pub head_found : (nodes : TypedNodes) (w : StmtId) (node : StmtNode) (head : LoopHead) (body : typed_code.Block) → slice_get nodes.stmts w.0 ≡ Some node → node.stmt ≡ stmts.While head body
    → head_at nodes w ≡ head_made (tree_of nodes) node.inner head
unfolding head_at
head_found nodes w node head body h k = rw (h, k) refl

pub place_found : (nodes : TypedNodes) (w : StmtId) (node : StmtNode) → slice_get nodes.stmts w.0 ≡ Some node → place_at nodes w ≡ node.at
unfolding place_at
place_found nodes w node h = rw h refl
