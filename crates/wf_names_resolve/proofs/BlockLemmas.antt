-- Blocks and the arms of an `if`, while nodes are added.
use Rattle.std.proofs.Common.{◌≡◌, ◌+◌, ◌<◌, ◌≤◌, ℕ, List, [], ◌∷◌, ◌++◌, Option, Some, None, length, drop, slice_index_or, refl, sym, ap, ◌∙◌, subst, arith}
use Rattle.std.specs.List.{AllByRecursion}
use Rattle.wf_text.specs.declared.place.Place.{Place}
use Rattle.wf_ast.specs.declared.numbers.StmtId.{StmtId}
use Rattle.wf_ast.specs.declared.parsed.Arm.{Arm}
use Rattle.wf_ast.specs.declared.parsed.Block.{Block}
use Rattle.wf_ast.specs.declared.parsed.Name.{Name}
use Rattle.wf_ast.specs.declared.parsed.Stmt.{Stmt}
use Rattle.wf_ast.specs.declared.parsed.Stmt.TheVariants as stmts
use Rattle.wf_ast.specs.ParsedTree.{ExprTree, StmtTree, ArmTrees}
use Rattle.wf_ast.specs.ParsedTrees as parsed
use Rattle.wf_ast.specs.ParsedParts.{BlockBelow, StmtParts}
use Rattle.wf_ast.proofs.TreeLemmas.{all_map, all_push, BlockBelow-more, ElseBelow-more}
use Rattle.wf_ast.proofs.AboveLemmas.{stmts_above, else_above, arms_above, arms_more}
use Rattle.wf_named.specs.NamedTree as tree
use Rattle.wf_named.specs.NamedTree.{NamedExprTree, NamedClauseTrees, NamedStmtTree, NamedBlockTree, NamedArmTrees}
use Rattle.wf_named.specs.NamedTrees.{expr_at, stmt_or, stmt_at, items_at, block_at, arms_at}
use Rattle.wf_named.specs.NamedParts.{NamedParts, exprs_of, stmts_of}
use Rattle.wf_named.proofs.StmtLemmas.{block_at-same, arms_at-same}
use Rattle.wf_names_rules.proofs.WalkLemmas.{drop-one}
use Rattle.wf_names_resolve.specs.Standing.{Standing}
use Rattle.wf_names_resolve.specs.Resolved.{with_stmt, resolved_expr, resolved_stmt, resolved_block, resolved_arms}
use Rattle.wf_names_resolve.specs.Growth.{Grows}
use Rattle.wf_names_resolve.specs.Statements.{listed, stmt_in, IsStmtBelow, ArmsBelow, above_stmt}
use Rattle.wf_names_resolve.proofs.Growth.{grows_self, grows_more}
use Rattle.wf_names_resolve.proofs.ResolveLemmas.{all_append}

-- Numbers of a statement's parts.
pub stmt_above : (e k : ℕ) (s : Stmt) → StmtParts e k s → above_stmt s ≤ k
stmt_above e k (stmts.Var name of) h = omega arith
stmt_above e k (stmts.Assign target op sign value) h = omega arith
stmt_above e k (stmts.Keep target c) h = omega arith
stmt_above e k (stmts.Call c) h = omega arith
stmt_above e k (stmts.If arms otherwise) h = omega (arith, arms_above e k arms h.0, else_above k otherwise h.1)
stmt_above e k (stmts.While label condition clauses body) h = stmts_above k body.items h.2
stmt_above e k (stmts.Break label) h = omega arith
stmt_above e k (stmts.Continue label) h = omega arith
stmt_above e k (stmts.Return value) h = omega arith
stmt_above e k (stmts.Yield value) h = omega arith
stmt_above e k (stmts.Assert goal v) h = omega arith

pub stmt_more : (e k l : ℕ) → k ≤ l → (s : Stmt) → StmtParts e k s → StmtParts e l s
stmt_more e k l m (stmts.Var name of) h = h
stmt_more e k l m (stmts.Assign target op sign value) h = h
stmt_more e k l m (stmts.Keep target c) h = h
stmt_more e k l m (stmts.Call c) h = h
stmt_more e k l m (stmts.If arms otherwise) h = (arms_more e k l m arms h.0, ElseBelow-more k l m otherwise h.1)
stmt_more e k l m (stmts.While label condition clauses body) h = (h.0, h.1, BlockBelow-more k l m body h.2)
stmt_more e k l m (stmts.Break label) h = h
stmt_more e k l m (stmts.Continue label) h = h
stmt_more e k l m (stmts.Return value) h = h
stmt_more e k l m (stmts.Yield value) h = h
stmt_more e k l m (stmts.Assert goal v) h = h

-- Numbers of made parts stay below those of more nodes.
pub block_below : (k l : ℕ) → k ≤ l → (ss : List StmtId) → AllByRecursion (λ s. s.0 < k) ss → AllByRecursion (λ s. s.0 < l) ss
block_below k l m ss h = all_map (λ s. s.0 < k) (λ s. s.0 < l) (λ s b. omega (arith, b, m)) ss h

pub arms_below : (e f k l : ℕ) → e ≤ f → k ≤ l → (arms : List Arm) → ArmsBelow e k arms → ArmsBelow f l arms
arms_below e f k l m n arms h =
    all_map (λ a. (a.condition.0 < e) × BlockBelow k a.body) (λ a. (a.condition.0 < f) × BlockBelow l a.body)
    (λ a b. (omega (arith, b.0, m), block_below k l n a.body.items b.1)) arms h

-- Statements before a block.
abbrev pub block_behind : List NamedStmtTree → List StmtId → NamedBlockTree → NamedBlockTree
block_behind ts [] others = others
block_behind ts (s ∷ ss) others = tree.more_stmts (stmt_at ts s) (block_behind ts ss others)

block_end : (ts : List NamedStmtTree) (ss : List StmtId) (close : Place) → items_at ts ss close ≡ block_behind ts ss (tree.close close)
block_end ts [] close = refl
block_end ts (s ∷ ss) close = ap (tree.more_stmts (stmt_at ts s)) (block_end ts ss close)

one_behind : (ts : List NamedStmtTree) (one : Option StmtId) (others : NamedBlockTree) → block_behind ts (listed one) others ≡ with_stmt (stmt_in ts one) others
one_behind ts None others = refl
one_behind ts (Some s) others = refl

block_push : (ts : List NamedStmtTree) (ss : List StmtId) (one : Option StmtId) (others : NamedBlockTree)
    → block_behind ts (ss ++ listed one) others ≡ block_behind ts ss (with_stmt (stmt_in ts one) others)
block_push ts [] one others = one_behind ts one others
block_push ts (s ∷ ss) one others = ap (tree.more_stmts (stmt_at ts s)) (block_push ts ss one others)

arms_push : (es : List NamedExprTree) (ts : List NamedStmtTree) (arms : List Arm) (a : Arm) (last : NamedArmTrees)
    → arms_at es ts (arms ++ a ∷ []) last ≡ arms_at es ts arms (tree.arm (expr_at es a.condition) (block_at ts a.body) last)
arms_push es ts [] a last = refl
arms_push es ts (x ∷ arms) a last = ap (tree.arm (expr_at es x.condition) (block_at ts x.body)) (arms_push es ts arms a last)

-- A loop, by its parts.
pub loop_made : (a b : NamedExprTree) (cs ds : NamedClauseTrees) (x y : NamedBlockTree) (at : Place) → a ≡ b → cs ≡ ds → x ≡ y → tree.loop a cs x at ≡ tree.loop b ds y at
loop_made a b cs ds x y at e f g = ap (λ c. tree.loop c cs x at) e ∙ ap (λ l. tree.loop b l x at) f ∙ ap (λ l. tree.loop b ds l at) g

listed_below : (k : ℕ) (one : Option StmtId) → IsStmtBelow k one → AllByRecursion (λ s. s.0 < k) (listed one)
listed_below k None h = tt
listed_below k (Some s) h = (h, tt)

module _ (p q : NamedParts) (g : Grows p q) where
  stmt_kept : (s : StmtId) → s.0 < length p.stmts → stmt_at (stmts_of q) s ≡ stmt_at (stmts_of p) s
  stmt_kept s h = ap stmt_or (sym (g.same_stmts s.0 h))

  pub block_kept : (b : Block) → BlockBelow (length p.stmts) b → block_at (stmts_of q) b ≡ block_at (stmts_of p) b
  block_kept b h = sym (block_at-same (length p.stmts) (stmts_of p) (stmts_of q) g.same_stmts b h)

  pub arms_kept : (arms : List Arm) (last : NamedArmTrees) → ArmsBelow (length p.exprs) (length p.stmts) arms
      → arms_at (exprs_of q) (stmts_of q) arms last ≡ arms_at (exprs_of p) (stmts_of p) arms last
  arms_kept arms last h =
      sym (arms_at-same (length p.stmts) (stmts_of p) (stmts_of q) g.same_stmts (length p.exprs) (exprs_of p) (exprs_of q) g.same_exprs arms last last refl h)

  behind_kept : (ss : List StmtId) (others : NamedBlockTree) → AllByRecursion (λ s. s.0 < length p.stmts) ss → block_behind (stmts_of q) ss others ≡ block_behind (stmts_of p) ss others
  behind_kept [] others h = refl
  behind_kept (s ∷ ss) others h = let e = stmt_kept s h.0 in let es = behind_kept ss others h.1 in cc

-- What the loop keeps over the statements of a block.
pub record StmtsMade (k : Standing) (loops : List (Option Name)) (ts : List StmtTree) (close : Place) (items : List StmtId) (i : ℕ) (p q : NamedParts) (made : List StmtId) : Type 0 where
  pub grows : Grows p q
  pub below : AllByRecursion (λ s. s.0 < length q.stmts) made
  pub trees : block_behind (stmts_of q) made (resolved_block k loops (parsed.items_at ts (drop i items) close)) ≡ resolved_block k loops (parsed.items_at ts items close)

-- What the loop keeps over the arms of an `if`.
pub record ArmsMade (k : Standing) (loops : List (Option Name)) (es : List ExprTree) (ts : List StmtTree) (arms : List Arm) (i : ℕ) (p q : NamedParts) (made : List Arm) : Type 0 where
  pub grows : Grows p q
  pub below : ArmsBelow (length q.exprs) (length q.stmts) made
  pub trees : (last : ArmTrees) → arms_at (exprs_of q) (stmts_of q) made (resolved_arms k loops (parsed.arms_at es ts (drop i arms) last)) ≡ resolved_arms k loops (parsed.arms_at es ts arms last)

-- Before the first nothing is made.
module _ (k : Standing) (loops : List (Option Name)) (es : List ExprTree) (ts : List StmtTree) (p : NamedParts) where
  pub stmts_start : (close : Place) (items made : List StmtId) → made ≡ [] → StmtsMade k loops ts close items 0 p p made
  stmts_start close items made e =
      let P : List StmtId → Type 0 = λ m. StmtsMade k loops ts close items 0 p p m in
      let none : StmtsMade k loops ts close items 0 p p [] = record { grows = grows_self p; below = tt; trees = refl } in
      subst P (sym e) none

  pub arms_start : (arms made : List Arm) → made ≡ [] → ArmsMade k loops es ts arms 0 p p made
  arms_start arms made e =
      let P : List Arm → Type 0 = λ m. ArmsMade k loops es ts arms 0 p p m in
      let none : ArmsMade k loops es ts arms 0 p p [] = record { grows = grows_self p; below = tt; trees = λ last. refl } in
      subst P (sym e) none

module _ (k : Standing) (loops : List (Option Name)) (es : List ExprTree) (ts : List StmtTree) (p q r : NamedParts) (i : ℕ) where
  pub stmt_added : (close : Place) (items made : List StmtId) (d : StmtId) (one : Option StmtId) → i < length items → StmtsMade k loops ts close items i p q made → Grows q r
      → IsStmtBelow (length r.stmts) one → stmt_in (stmts_of r) one ≡ resolved_stmt k loops (parsed.stmt_at ts (slice_index_or items i d))
      → StmtsMade k loops ts close items (i + 1) p r (made ++ listed one)
  stmt_added close items made d one h m g b is =
      let x = parsed.stmt_at ts (slice_index_or items i d) in
      let rest = resolved_block k loops (parsed.items_at ts (drop (i + 1) items) close) in
      let trees : block_behind (stmts_of r) (made ++ listed one) rest ≡ resolved_block k loops (parsed.items_at ts items close) =
      block_push (stmts_of r) made one rest
      ∙ ap (λ o. block_behind (stmts_of r) made (with_stmt o rest)) is
      ∙ behind_kept q r g made (with_stmt (resolved_stmt k loops x) rest) m.below
      ∙ sym (ap (λ xs. block_behind (stmts_of q) made (resolved_block k loops (parsed.items_at ts xs close))) (drop-one items i d h))
      ∙ m.trees in
      record {
        grows = grows_more p q r m.grows g;
        below = all_append (λ s. s.0 < length r.stmts) made (listed one) (block_below (length q.stmts) (length r.stmts) g.stmts made m.below) (listed_below (length r.stmts) one b);
        trees = trees;
      }

  pub arm_added : (arms made : List Arm) (x a : Arm) → x ≡ slice_index_or arms i x → i < length arms → ArmsMade k loops es ts arms i p q made → Grows q r
      → (a.condition.0 < length r.exprs) × BlockBelow (length r.stmts) a.body → expr_at (exprs_of r) a.condition ≡ resolved_expr k (parsed.expr_at es x.condition)
      → block_at (stmts_of r) a.body ≡ resolved_block k loops (parsed.block_at ts x.body)
      → ArmsMade k loops es ts arms (i + 1) p r (made ++ a ∷ [])
  arm_added arms made x a item h m g b condition body =
      let split : drop i arms ≡ x ∷ drop (i + 1) arms = drop-one arms i x h ∙ ap (λ y. y ∷ drop (i + 1) arms) (sym item) in
      let trees : (last : ArmTrees) → arms_at (exprs_of r) (stmts_of r) (made ++ a ∷ []) (resolved_arms k loops (parsed.arms_at es ts (drop (i + 1) arms) last)) ≡ resolved_arms k loops (parsed.arms_at es ts arms last) =
      λ last.
      let rest = resolved_arms k loops (parsed.arms_at es ts (drop (i + 1) arms) last) in
      let here : tree.arm (expr_at (exprs_of r) a.condition) (block_at (stmts_of r) a.body) rest ≡ resolved_arms k loops (parsed.arms_at es ts (x ∷ drop (i + 1) arms) last) = cc (condition, body) in
      arms_push (exprs_of r) (stmts_of r) made a rest
      ∙ ap (arms_at (exprs_of r) (stmts_of r) made) here
      ∙ arms_kept q r g made (resolved_arms k loops (parsed.arms_at es ts (x ∷ drop (i + 1) arms) last)) m.below
      ∙ sym (ap (λ xs. arms_at (exprs_of q) (stmts_of q) made (resolved_arms k loops (parsed.arms_at es ts xs last))) split)
      ∙ m.trees last in
      record {
        grows = grows_more p q r m.grows g;
        below = all_push (λ a. (a.condition.0 < length r.exprs) × BlockBelow (length r.stmts) a.body) made a (arms_below (length q.exprs) (length r.exprs) (length q.stmts) (length r.stmts) g.exprs g.stmts made m.below) b;
        trees = trees;
      }

  -- After the last there is nothing to make.
  pub stmts_all_made : (close : Place) (items made : List StmtId) → drop i items ≡ [] → StmtsMade k loops ts close items i p q made
      → items_at (stmts_of q) made close ≡ resolved_block k loops (parsed.items_at ts items close)
  stmts_all_made close items made e m =
      block_end (stmts_of q) made close ∙ sym (ap (λ xs. block_behind (stmts_of q) made (resolved_block k loops (parsed.items_at ts xs close))) e) ∙ m.trees

  pub arms_all_made : (arms made : List Arm) → drop i arms ≡ [] → ArmsMade k loops es ts arms i p q made
      → (last : ArmTrees) → arms_at (exprs_of q) (stmts_of q) made (resolved_arms k loops last) ≡ resolved_arms k loops (parsed.arms_at es ts arms last)
  arms_all_made arms made e m last =
      sym (ap (λ xs. arms_at (exprs_of q) (stmts_of q) made (resolved_arms k loops (parsed.arms_at es ts xs last))) e) ∙ m.trees last
