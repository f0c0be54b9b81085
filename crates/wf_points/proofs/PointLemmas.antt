-- The points of a block are those of its statements, one after the other, and those of a statement are told by its node.
use Rattle.std.proofs.Common.{◌≡◌, ℕ, zero, suc, ◌<◌, ◌≤◌, Bool, true, false, ◌&&◌, List, [], ◌∷◌, ◌++◌, length, map, Option, Some, None, nat_lt, nat_eq, refl, sym, ap, ◌∙◌, subst, arith, append_assoc}
use Rattle.std.specs.Prelude.{slice_get, unwrap_or, option_map, if◌then◌else◌}
use Rattle.std.specs.List.{list_all}
use Rattle.std.proofs.lemmas.Bool.Decides.{nat_tests}
use Rattle.std.proofs.lemmas.List.{length-map, append-nil}
use Rattle.std.proofs.lemmas.Option.{slice_get_within}
use Rattle.wf_text.specs.declared.place.Place.{Place}
use Rattle.wf_base.specs.declared.base_methods.BaseSig.{BaseSig}
use Rattle.wf_base.specs.declared.base_methods.BaseSig.TheVariants as sigs
use Rattle.wf_ast.specs.declared.numbers.ExprId.{ExprId}
use Rattle.wf_ast.specs.declared.numbers.StmtId.{StmtId}
use Rattle.wf_ast.specs.declared.typed_code.Callee.{Callee}
use Rattle.wf_ast.specs.declared.typed_code.Callee.TheVariants as callees
use Rattle.wf_ast.specs.declared.typed_code.Arm.{Arm}
use Rattle.wf_ast.specs.declared.typed_code.Block as typed_code
use Rattle.wf_ast.specs.declared.typed_code.Stmt.{Stmt}
use Rattle.wf_ast.specs.declared.typed_code.Stmt.TheVariants as stmts
use Rattle.wf_ast.specs.declared.typed_code.StmtNode.{StmtNode}
use Rattle.wf_ast.specs.declared.typed_nodes.TypedNodes.{TypedNodes}
use Rattle.wf_ast.specs.TypedTree.{ValueTree, Target, Site, Block, end}
use Rattle.wf_ast.specs.TypedTrees.{no_place, tree_of, optional_target, base_call, call_made, block_made, otherwise_made, if_made, stmt_made, onto, stmt_makers, block_of}
use Rattle.wf_ast.specs.TypedInvariant.{each_numbered, is_expr, block_below, optional_block_below, stmt_below, IsTyped}
use Rattle.wf_ast.proofs.Arena.{both_true, numbered_from_zero}
use Rattle.wf_meaning.specs.Remaining.{is_point, points_in}
use Rattle.wf_points.specs.FoundPoints.{place_of_stmt, points_at, points_listed, points_of_arms, points_of_else, points_of_if, points_of, base_suspends, call_suspends}
use Rattle.wf_points.proofs.StatementArena.{stmt_is}

-- Calls.
more_than_none : (n : ℕ) → false ≡ nat_eq (suc n) 0
more_than_none n = grind (arith, nat_tests)

more_than_one : (n : ℕ) → false ≡ nat_eq (suc (suc n)) 1
more_than_one n = grind (arith, nat_tests)

base_points : (at : Place) (target : Target) (on : ValueTree) (sig : BaseSig) (ts : List ValueTree) → is_point (base_call at target on sig ts) ≡ base_suspends sig (length ts)
base_points at target on (sigs.Read form) [] = refl
base_points at target on (sigs.Read form) (t ∷ ts) = more_than_none (length ts)
base_points at target on sigs.Skip [] = refl
base_points at target on sigs.Skip (t ∷ []) = refl
base_points at target on sigs.Skip (t ∷ u ∷ ts) = more_than_one (length ts)
base_points at target on sigs.Write [] = refl
base_points at target on sigs.Write (t ∷ []) = refl
base_points at target on sigs.Write (t ∷ u ∷ ts) = more_than_one (length ts)
base_points at target on sigs.SkipFast [] = refl
base_points at target on sigs.SkipFast (t ∷ []) = refl
base_points at target on sigs.SkipFast (t ∷ u ∷ []) = refl
base_points at target on sigs.SkipFast (t ∷ u ∷ v ∷ ts) = refl
base_points at target on sigs.WriteFast [] = refl
base_points at target on sigs.WriteFast (t ∷ []) = refl
base_points at target on sigs.WriteFast (t ∷ u ∷ ts) = refl
base_points at target on sigs.WriterCopy [] = refl
base_points at target on sigs.WriterCopy (t ∷ []) = refl
base_points at target on sigs.WriterCopy (t ∷ u ∷ ts) = refl
base_points at target on (sigs.SliceCopy width) [] = refl
base_points at target on (sigs.SliceCopy width) (t ∷ []) = refl
base_points at target on (sigs.SliceCopy width) (t ∷ u ∷ ts) = refl
base_points at target on sigs.ReaderLength ts = refl
base_points at target on sigs.ReaderIsClosed ts = refl
base_points at target on sigs.ReaderPosition ts = refl
base_points at target on (sigs.Peek form) ts = refl
base_points at target on sigs.WriterLength ts = refl
base_points at target on sigs.WriterPosition ts = refl
base_points at target on (sigs.SliceLength width) ts = refl
base_points at target on (sigs.ArrayLength width) ts = refl
base_points at target on sigs.IsOk ts = refl
base_points at target on sigs.IsNote ts = refl
base_points at target on sigs.IsSuspension ts = refl
base_points at target on sigs.IsError ts = refl

pub call_points : (nodes : TypedNodes) (at : Place) (target : Target) (keep : Bool) (callee : Callee) (args : List ExprId)
    → is_point (call_made nodes (tree_of nodes) at target keep callee (map (tree_of nodes) args)) ≡ call_suspends nodes keep callee (length args)
call_points nodes at target keep (callees.Own m) args = refl
call_points nodes at target keep (callees.Sub x m) args = refl
call_points nodes at target keep (callees.Base on sig) args =
    base_points at target (tree_of nodes on) sig (map (tree_of nodes) args) ∙ ap (base_suspends sig) (length-map args (tree_of nodes))

-- A list before others.
front : (test : Bool) (site : Site) (ps : List Site) → (if test then site ∷ ps else ps) ≡ (if test then site ∷ [] else []) ++ ps
front true site ps = refl
front false site ps = refl

ends : (a b c d e : List Site) → a ≡ b → c ≡ d ++ e → a ++ (c ++ []) ≡ (b ++ d) ++ e
ends a b c d e p q = ap (λ x. x ++ (c ++ [])) p ∙ ap (λ x. b ++ x) (append-nil c ∙ q) ∙ sym (append_assoc b d e)

lt_from : (m n : ℕ) → nat_lt m n ≡ true → m < n
lt_from m n h = grind (arith, nat_tests, h)

lt_more : (k m n : ℕ) → m ≤ n → nat_lt k m ≡ true → nat_lt k n ≡ true
lt_more k m n l h = grind (arith, nat_tests, l, h)

ids_more : (m n : ℕ) → m ≤ n → (ss : List StmtId) → list_all (λ s. nat_lt s.0 m) ss ≡ true → list_all (λ s. nat_lt s.0 n) ss ≡ true
ids_more m n l [] h = refl
ids_more m n l (s ∷ ss) h =
    let p = both_true (nat_lt s.0 m) (list_all (λ s. nat_lt s.0 m) ss) h in
    rw (lt_more s.0 m n l p.0, ids_more m n l ss p.1) refl

node_there : (ns : List StmtNode) (s : ℕ) → s < length ns → (n : StmtNode) × (slice_get ns s ≡ Some n)
node_there [] s h = absurd (omega (arith, h))
node_there (n ∷ ns) zero h = (n, refl)
node_there (n ∷ ns) (suc s) h = node_there ns s (omega (arith, h))

module _ (nodes : TypedNodes) (ordered : each_numbered (λ s node. stmt_below nodes s node.stmt) 0 nodes.stmts ≡ true) where
  -- The points of a statement stand before those of the block after it.
  made_in_front : (look : ExprId → ValueTree) (inner : StmtId → Block → Block) (n : ℕ) (at close : Place) (st : Stmt) (rest : Block)
      → points_in (stmt_made nodes look inner n (record { stmt = st; at = at; inner = close }) rest) ≡ points_in (stmt_made nodes look inner n (record { stmt = st; at = at; inner = close }) end) ++ points_in rest
  made_in_front look inner n at close (stmts.Assign target op value) rest = refl
  made_in_front look inner n at close (stmts.Call target keep callee args) rest = front _ _ (points_in rest)
  made_in_front look inner n at close (stmts.If [] otherwise) rest = refl
  made_in_front look inner n at close (stmts.If (arm ∷ arms) otherwise) rest =
      let site : Site = record { number = n; at = at } in
      let a = points_in (block_made inner arm.body.items) in
      let b = points_in (otherwise_made look inner site arms otherwise) in
      join a b (points_in rest)
    where
      join : (a b c : List Site) → a ++ (b ++ c) ≡ (a ++ (b ++ [])) ++ c
      join a b c = sym (append_assoc a b c) ∙ ap (λ x. (a ++ x) ++ c) (sym (append-nil b))
  made_in_front look inner n at close (stmts.While head body) rest = join (points_in (block_made inner body.items)) (points_in rest)
    where
      join : (a c : List Site) → a ++ c ≡ (a ++ []) ++ c
      join a c = ap (λ x. x ++ c) (sym (append-nil a))
  made_in_front look inner n at close (stmts.Break w) rest = refl
  made_in_front look inner n at close (stmts.Continue w) rest = refl
  made_in_front look inner n at close (stmts.Return None) rest = refl
  made_in_front look inner n at close (stmts.Return (Some e)) rest = refl
  made_in_front look inner n at close (stmts.Yield s) rest = refl
  made_in_front look inner n at close (stmts.Assert goal axiom_ref) rest = refl

  in_front : (s : StmtId) (n : StmtNode) (rest : Block) → slice_get nodes.stmts s.0 ≡ Some n → points_in (onto (stmt_makers nodes) s rest) ≡ points_at nodes s ++ points_in rest
  unfolding points_at
  in_front s n rest is =
      let made = λ (after : Block). ap points_in (stmt_is nodes s n after is ordered) in
      made rest ∙ made_in_front (tree_of nodes) (onto (stmt_makers nodes)) s.0 n.at n.inner n.stmt rest ∙ ap (λ ps. ps ++ points_in rest) (sym (made end))

  -- Statements of a block.
  pub listed : (ss : List StmtId) → list_all (λ inner. nat_lt inner.0 (length nodes.stmts)) ss ≡ true → points_in (block_made (onto (stmt_makers nodes)) ss) ≡ points_listed (points_at nodes) ss
  listed [] h = refl
  listed (s ∷ ss) h =
      let p = both_true (nat_lt s.0 (length nodes.stmts)) (list_all (λ inner. nat_lt inner.0 (length nodes.stmts)) ss) h in
      let n = node_there nodes.stmts s.0 (lt_from s.0 (length nodes.stmts) p.0) in
      in_front s n.0 (block_made (onto (stmt_makers nodes)) ss) n.1 ∙ ap (λ ps. points_at nodes s ++ ps) (listed ss p.1)

  module _ (k : ℕ) (small : k ≤ length nodes.stmts) where
    block_listed : (b : typed_code.Block) → block_below k b ≡ true → points_in (block_made (onto (stmt_makers nodes)) b.items) ≡ points_listed (points_at nodes) b.items
    block_listed b h = listed b.items (ids_more k (length nodes.stmts) small b.items h)

    otherwise_listed : (look : ExprId → ValueTree) (site : Site) (arms : List Arm) (other : Option typed_code.Block) → list_all (λ a. is_expr nodes a.cond && block_below k a.body) arms ≡ true → optional_block_below k other ≡ true
        → points_in (otherwise_made look (onto (stmt_makers nodes)) site arms other) ≡ points_of_arms (points_at nodes) arms ++ points_of_else (points_at nodes) other
    otherwise_listed look site [] None h o = refl
    otherwise_listed look site [] (Some b) h o = block_listed b o
    otherwise_listed look site (arm ∷ arms) other h o =
        let p = both_true (is_expr nodes arm.cond && block_below k arm.body) (list_all (λ a. is_expr nodes a.cond && block_below k a.body) arms) h in
        let q = both_true (is_expr nodes arm.cond) (block_below k arm.body) p.0 in
        ends (points_in (block_made (onto (stmt_makers nodes)) arm.body.items)) (points_listed (points_at nodes) arm.body.items)
        (points_in (otherwise_made look (onto (stmt_makers nodes)) site arms other)) (points_of_arms (points_at nodes) arms) (points_of_else (points_at nodes) other)
        (block_listed arm.body q.1) (otherwise_listed look site arms other p.1 o)

    if_listed : (look : ExprId → ValueTree) (site : Site) (arms : List Arm) (other : Option typed_code.Block) → list_all (λ a. is_expr nodes a.cond && block_below k a.body) arms ≡ true → optional_block_below k other ≡ true
        → points_in (if_made look (onto (stmt_makers nodes)) site arms other end) ≡ points_of_if (points_at nodes) arms other
    if_listed look site [] other h o = refl
    if_listed look site (arm ∷ arms) other h o =
        let p = both_true (is_expr nodes arm.cond && block_below k arm.body) (list_all (λ a. is_expr nodes a.cond && block_below k a.body) arms) h in
        let q = both_true (is_expr nodes arm.cond) (block_below k arm.body) p.0 in
        ends (points_in (block_made (onto (stmt_makers nodes)) arm.body.items)) (points_listed (points_at nodes) arm.body.items)
        (points_in (otherwise_made look (onto (stmt_makers nodes)) site arms other)) (points_of_arms (points_at nodes) arms) (points_of_else (points_at nodes) other)
        (block_listed arm.body q.1) (otherwise_listed look site arms other p.1 o)

    -- The points of a statement by its node.
    by_stmt : (n : ℕ) (at close : Place) (st : Stmt) → stmt_below nodes k st ≡ true
        → points_in (stmt_made nodes (tree_of nodes) (onto (stmt_makers nodes)) n (record { stmt = st; at = at; inner = close }) end) ≡ points_of nodes (points_at nodes) (record { number = n; at = at }) st
    by_stmt n at close (stmts.Assign target op value) h = refl
    by_stmt n at close (stmts.Call target keep callee args) h =
        ap (λ test. if test then record { number = n; at = at } ∷ [] else []) (call_points nodes close (optional_target (tree_of nodes) target) keep callee args)
    by_stmt n at close (stmts.If arms otherwise) h =
        let p = both_true (list_all (λ a. is_expr nodes a.cond && block_below k a.body) arms) (optional_block_below k otherwise) h in
        if_listed (tree_of nodes) (record { number = n; at = at }) arms otherwise p.0 p.1
    by_stmt n at close (stmts.While head body) h =
        let p = both_true (is_expr nodes head.cond) (list_all (λ c. is_expr nodes c.1) head.clauses && block_below k body) h in
        let q = both_true (list_all (λ c. is_expr nodes c.1) head.clauses) (block_below k body) p.1 in
        append-nil (points_in (block_made (onto (stmt_makers nodes)) body.items)) ∙ block_listed body q.1
    by_stmt n at close (stmts.Break w) h = refl
    by_stmt n at close (stmts.Continue w) h = refl
    by_stmt n at close (stmts.Return None) h = refl
    by_stmt n at close (stmts.Return (Some e)) h = refl
    by_stmt n at close (stmts.Yield s) h = refl
    by_stmt n at close (stmts.Assert goal axiom_ref) h = refl

  by_node : (s : StmtId) (n : StmtNode) → slice_get nodes.stmts s.0 ≡ Some n → points_at nodes s ≡ points_of nodes (points_at nodes) (record { number = s.0; at = n.at }) n.stmt
  unfolding points_at
  by_node s n is =
      let below : s.0 < length nodes.stmts = slice_get_within nodes.stmts s.0 n is in
      let kept = numbered_from_zero (λ s node. stmt_below nodes s node.stmt) nodes.stmts s.0 n ordered is in
      ap points_in (stmt_is nodes s n end is ordered) ∙ by_stmt s.0 (omega arith) s.0 n.at n.inner n.stmt kept

-- The points of a statement that stands in a package.
pub node_points : (nodes : TypedNodes) → IsTyped nodes → (s : StmtId) (st : Stmt) → s.0 < length nodes.stmts → option_map (λ node. node.stmt) (slice_get nodes.stmts s.0) ≡ Some st
    → points_at nodes s ≡ points_of nodes (points_at nodes) (record { number = s.0; at = place_of_stmt nodes s.0 }) st
node_points nodes typed s st h e =
    let n = node_there nodes.stmts s.0 h in
    let P : Option StmtNode → Type 0 = λ o. option_map (λ node. node.stmt) o ≡ Some st in
    let same : n.0.stmt ≡ st = cc (subst P n.1 e) in
    let Q : Place → Stmt → Type 0 = λ at st. points_at nodes s ≡ points_of nodes (points_at nodes) (record { number = s.0; at = at }) st in
    let place : n.0.at ≡ place_of_stmt nodes s.0 = ap (λ o. unwrap_or (option_map (λ node. node.at) o) no_place) (sym n.1) in
    let A : Place → Type 0 = λ at. Q at st in
    let B : Stmt → Type 0 = λ st. Q n.0.at st in
    subst A place (subst B same (by_node nodes typed.stmts_ordered s n.0 n.1))

-- The points of a body.
pub body_points : (nodes : TypedNodes) → IsTyped nodes → (b : typed_code.Block) → block_below (length nodes.stmts) b ≡ true → points_in (block_of nodes b) ≡ points_listed (points_at nodes) b.items
body_points nodes typed b h = listed nodes typed.stmts_ordered b.items h
