-- Blocks are lowered from their last statement on, and an `if` from its last arm on.
use Rattle.std.proofs.Common.{◌≡◌, ◌∙◌, ap, sym, subst, refl, ℕ, zero, suc, ◌<◌, ◌≤◌, true, false, List, [], ◌∷◌, drop, get_or, length, nat_lt, Option, None, Some, Result, Ok, Err, IfOk, arith}
use Rattle.std.specs.Prelude.{slice_get, option_map}
use Rattle.std.specs.List.{list_all}
use Rattle.std.proofs.lemmas.Bool.Decides.{nat_tests}
use Rattle.wf_text.specs.declared.faults.NoMemory.{NoMemory}
use Rattle.wf_text.specs.declared.place.Place.{Place}
use Rattle.wf_ast.specs.declared.numbers.StmtId.{StmtId}
use Rattle.wf_ast.specs.declared.typed_code.Arm.{Arm}
use Rattle.wf_ast.specs.declared.typed_code.Block as typed_code
use Rattle.wf_ast.specs.declared.typed_code.LoopHead.{LoopHead}
use Rattle.wf_ast.specs.declared.typed_code.Stmt.{Stmt}
use Rattle.wf_ast.specs.declared.typed_code.Stmt.TheVariants as stmts
use Rattle.wf_ast.specs.declared.typed_code.StmtNode.{StmtNode}
use Rattle.wf_ast.specs.declared.typed_nodes.TypedNodes.{TypedNodes}
use Rattle.wf_ast.specs.TypedInvariant.{IsTyped}
use Rattle.wf_ast.specs.TypedTree.{Block, choose, end}
use Rattle.wf_ast.specs.TypedTrees.{block_made, block_of, onto, stmt_made, stmt_makers, tree_of}
use Rattle.wf_ast.specs.NodeKinds.{node_cond}
use Rattle.wf_ast.proofs.Arena.{both_true}
use Rattle.wf_points.proofs.StatementArena.{stmt_is}
use Rattle.c_text.specs.declared.ids.CStmtId.{CStmtId}
use Rattle.c_text.specs.declared.kinds.Otherwise.{Otherwise}
use Rattle.c_text.specs.declared.kinds.Otherwise.TheVariants as else_is
use Rattle.c_text.specs.CNodes.{Nodes, code_of}
use Rattle.c_text.specs.CTree.{Code, branch, finish, repeat}
use Rattle.wf_exprs.specs.Exprs.{lowered_cond}
use Rattle.wf_exprs.specs.Grown.{Grows, HasCode}
use Rattle.wf_lower_stmts.specs.BodyNodes.{point_at, points_by}
use Rattle.wf_lower_stmts.specs.Forms.{Form}
use Rattle.wf_lower_stmts.specs.Lower.{again_here, behind_here, lower, other_kind}
use Rattle.wf_lower_stmts.specs.Statements.{lower_simple}
use Rattle.wf_lower_stmts.proofs.StandLaws.{node_there}
use Rattle.wf_lower_blocks.specs.Blocks.{HasOther, if_in, others_in, site_at}
use Rattle.wf_lower_blocks.specs.Calls.{simple_at}
use Rattle.wf_lower_blocks.proofs.NodeLaws.{if_makes, is_simple, loop_makes, simply_makes}
use Rattle.wf_lower_blocks.proofs.NodeLaws as node

drop_item : {X : Type 0} (xs : List X) (i : ℕ) (d : X) → i < length xs → drop i xs ≡ get_or xs i d ∷ drop (suc i) xs
drop_item [] i d h = absurd (omega (arith, h))
drop_item (x ∷ xs) zero d h = refl
drop_item (x ∷ xs) (suc i) d h = drop_item xs i d (omega (arith, h))

-- An `if` by its first arm, and what stands after an arm by the next one.
pub if_first : (nodes : TypedNodes) (s : StmtId) (arms : List Arm) (other : Option typed_code.Block) (after : Block) (d : Arm) → 0 < length arms
    → if_in nodes s arms other after ≡ choose (site_at nodes s) false (node_cond nodes (get_or arms 0 d).cond) (block_of nodes (get_or arms 0 d).body) (others_in nodes s (drop 1 arms) other) after
if_first nodes s [] other after d h = absurd (omega (arith, h))
if_first nodes s (arm ∷ arms) other after d h = refl

pub other_next : (nodes : TypedNodes) (s : StmtId) (arms : List Arm) (other : Option typed_code.Block) (i : ℕ) (d : Arm) → i < length arms
    → others_in nodes s (drop i arms) other ≡ choose (site_at nodes s) true (node_cond nodes (get_or arms i d).cond) (block_of nodes (get_or arms i d).body) (others_in nodes s (drop (suc i) arms) other) end
other_next nodes s arms other i d h = ap (λ l. others_in nodes s l other) (drop_item arms i d h)

module _ (nodes : TypedNodes) (f : Form) (numbers : List (Option ℕ)) where
  -- One more statement before those that are lowered.
  pub block_step : {a b : Nodes} {code it : ℕ} (ss : List StmtId) (left i : ℕ) (d : StmtId) (tail : Code) → suc i ≡ left → left ≤ length ss
      → HasCode a code (lower f (points_by numbers) (block_made (onto (stmt_makers nodes)) (drop left ss)) tail)
      → ((after : Block) (t : Code) → code_of a code ≡ lower f (points_by numbers) after t → HasCode b it (lower f (points_by numbers) (onto (stmt_makers nodes) (get_or ss i d) after) t))
      → HasCode b it (lower f (points_by numbers) (block_made (onto (stmt_makers nodes)) (drop i ss)) tail)
  block_step {a = a} {b = b} {code = code} {it = it} ss left i d tail e h so one =
      let look : StmtId → Block → Block = onto (stmt_makers nodes) in
      let L : List StmtId → Type 0 = λ l. HasCode b it (lower f (points_by numbers) (block_made look l) tail) in
      let P : ℕ → Type 0 = λ n. HasCode a code (lower f (points_by numbers) (block_made look (drop n ss)) tail) in
      let next = subst P (sym e) so in
      subst L (sym (drop_item ss i d (omega (arith, e, h)))) (one (block_made look (drop (suc i) ss)) tail next.is)

  -- A statement by its node.
  module _ (typed : IsTyped nodes) (s : StmtId) (known : s.0 < length nodes.stmts) (u : Nodes) (start : Code) where
    pub if_stmt : (arms : List Arm) (other : Option typed_code.Block) (r : Result CStmtId NoMemory) → node.Is nodes typed s known (stmts.If arms other)
        → IfOk r (λ code. (after : Block) (tail : Code) → start ≡ lower f (points_by numbers) after tail → HasCode u code.0 (lower f (points_by numbers) (if_in nodes s arms other after) tail))
        → IfOk r (λ code. (after : Block) (tail : Code) → start ≡ lower f (points_by numbers) after tail → HasCode u code.0 (lower f (points_by numbers) (onto (stmt_makers nodes) s after) tail))
    if_stmt arms other (Ok code) is h = λ after tail e.
        let k = h after tail e in
        record { there = k.there; is = k.is ∙ ap (λ b. lower f (points_by numbers) b tail) (sym (if_makes nodes typed s known arms other is after)) }
    if_stmt arms other (Err refused) is h = h

    pub while_stmt : (head : LoopHead) (body : typed_code.Block) (r : Result CStmtId NoMemory) → node.Is nodes typed s known (stmts.While head body)
        → IfOk r (λ code. HasCode u code.0 (repeat (lowered_cond f.names (node_cond nodes head.cond)) (lower f (points_by numbers) (block_of nodes body) (again_here (site_at nodes s) (block_of nodes body))) (behind_here (site_at nodes s) (block_of nodes body) start)))
        → IfOk r (λ code. (after : Block) (tail : Code) → start ≡ lower f (points_by numbers) after tail → HasCode u code.0 (lower f (points_by numbers) (onto (stmt_makers nodes) s after) tail))
    while_stmt head body (Ok code) is h = λ after tail e.
        let inner = lower f (points_by numbers) (block_of nodes body) (again_here (site_at nodes s) (block_of nodes body)) in
        record {
          there = h.there;
          is = h.is ∙ ap (λ c. repeat (lowered_cond f.names (node_cond nodes head.cond)) inner (behind_here (site_at nodes s) (block_of nodes body) c)) e
              ∙ ap (λ b. lower f (points_by numbers) b tail) (sym (loop_makes nodes typed s known head body is after));
        }
    while_stmt head body (Err refused) is h = h

    pub simple_stmt : (st : Stmt) (r : Result CStmtId NoMemory) → node.Is nodes typed s known st → is_simple st ≡ true
        → IfOk r (λ code. HasCode u code.0 (lower_simple f (point_at numbers s.0) (simple_at nodes s.0) start))
        → IfOk r (λ code. (after : Block) (tail : Code) → start ≡ lower f (points_by numbers) after tail → HasCode u code.0 (lower f (points_by numbers) (onto (stmt_makers nodes) s after) tail))
    simple_stmt st (Ok code) is simple h = λ after tail e.
        record {
          there = h.there;
          is = h.is ∙ ap (lower_simple f (point_at numbers s.0) (simple_at nodes s.0)) e ∙ ap (λ b. lower f (points_by numbers) b tail) (sym (simply_makes nodes typed s known st is simple after));
        }
    simple_stmt st (Err refused) is simple h = h

  -- An arm before what stands after it.
  abbrev arm_code : Arm → Otherwise → (other rest : Code) → Code
  arm_code arm kind other rest = branch (lowered_cond f.names (node_cond nodes arm.cond)) (lower f (points_by numbers) (block_of nodes arm.body) finish) kind other rest

  pub other_step : {a b u : Nodes} {kind : Otherwise} {code rest it : ℕ} (s : StmtId) (arms : List Arm) (other : Option typed_code.Block) (left i : ℕ) (d : Arm) → suc i ≡ left → left ≤ length arms
      → HasOther a kind code (others_in nodes s (drop left arms) other) (lower f (points_by numbers) (others_in nodes s (drop left arms) other) finish)
      → Grows a b → HasCode b rest finish → HasCode u it (arm_code (get_or arms i d) kind (code_of b code) (code_of b rest))
      → HasOther u else_is.If it (others_in nodes s (drop i arms) other) (lower f (points_by numbers) (others_in nodes s (drop i arms) other) finish)
  other_step {a = a} {b = b} {u = u} {kind = kind} {code = code} {rest = rest} {it = it} s arms other left i d e h so grows end_code one =
      let arm = get_or arms i d in
      let P : ℕ → Type 0 = λ n. HasOther a kind code (others_in nodes s (drop n arms) other) (lower f (points_by numbers) (others_in nodes s (drop n arms) other) finish) in
      let next = subst P (sym e) so in
      let Q : Block → Type 0 = λ block. HasOther u else_is.If it block (lower f (points_by numbers) block finish) in
      let same : code_of b code ≡ lower f (points_by numbers) (others_in nodes s (drop (suc i) arms) other) finish = grows.stmts code next.made.there ∙ next.made.is in
      subst Q (sym (other_next nodes s arms other i d (omega (arith, e, h))))
      (record {
        same = refl;
        made = record {
          there = one.there;
          is = one.is ∙ ap (λ k. arm_code arm k (code_of b code) (code_of b rest)) next.same
              ∙ ap (λ c. arm_code arm (other_kind (others_in nodes s (drop (suc i) arms) other)) c (code_of b rest)) same
              ∙ ap (λ c. arm_code arm (other_kind (others_in nodes s (drop (suc i) arms) other)) (lower f (points_by numbers) (others_in nodes s (drop (suc i) arms) other) finish) c) end_code.is;
        };
        fits = refl;
      })

  -- An `if` without an arm leaves nothing.
  pub if_none : {u : Nodes} {rest : ℕ} (s : StmtId) (arms : List Arm) (other : Option typed_code.Block) → arms ≡ [] → rest < length u.stmts
      → (after : Block) (tail : Code) → code_of u rest ≡ lower f (points_by numbers) after tail → HasCode u rest (lower f (points_by numbers) (if_in nodes s arms other after) tail)
  if_none {u = u} {rest = rest} s arms other none known after tail is =
      let P : List Arm → Type 0 = λ l. HasCode u rest (lower f (points_by numbers) (if_in nodes s l other after) tail) in
      subst P (sym none) (record { there = known; is = is })

-- A block with a statement stands after `else` as a block.
kind_made : (nodes : TypedNodes) (look : StmtId → Block → Block) (n : ℕ) (at inner : Place) (st : Stmt) (rest : Block) → other_kind (stmt_made nodes (tree_of nodes) look n (record { stmt = st; at = at; inner = inner }) rest) ≡ else_is.Block
kind_made nodes look n at inner (stmts.Assign target op value) rest = refl
kind_made nodes look n at inner (stmts.Call target keep callee given) rest = refl
kind_made nodes look n at inner (stmts.If [] other) rest = refl
kind_made nodes look n at inner (stmts.If (arm ∷ arms) other) rest = refl
kind_made nodes look n at inner (stmts.While head body) rest = refl
kind_made nodes look n at inner (stmts.Break w) rest = refl
kind_made nodes look n at inner (stmts.Continue w) rest = refl
kind_made nodes look n at inner (stmts.Return None) rest = refl
kind_made nodes look n at inner (stmts.Return (Some e)) rest = refl
kind_made nodes look n at inner (stmts.Yield k) rest = refl
kind_made nodes look n at inner (stmts.Assert goal ax) rest = refl

lt_from : (m n : ℕ) → nat_lt m n ≡ true → m < n
lt_from m n h = grind (arith, nat_tests, h)

pub else_block : (nodes : TypedNodes) → IsTyped nodes → (k : ℕ) → k ≤ length nodes.stmts → (ss : List StmtId) → 0 < length ss → list_all (λ s. nat_lt s.0 k) ss ≡ true → else_is.Block ≡ other_kind (block_made (onto (stmt_makers nodes)) ss)
else_block nodes typed k small [] some below = absurd (omega (arith, some))
else_block nodes typed k small (s ∷ ss) some below =
    let known : s.0 < length nodes.stmts = omega (arith, small, lt_from s.0 k (both_true (nat_lt s.0 k) (list_all (λ s. nat_lt s.0 k) ss) below).0) in
    let n = node_there nodes.stmts s.0 known in
    let rest = block_made (onto (stmt_makers nodes)) ss in
    sym (ap other_kind (stmt_is nodes s n.0 rest n.1 typed.stmts_ordered) ∙ kind_made nodes (onto (stmt_makers nodes)) s.0 n.0.at n.0.inner n.0.stmt rest)

pub others_first : {A : Type 0} (arms : List A) (left : ℕ) → left ≤ 1 → (0 < length arms → 0 < left) → drop left arms ≡ drop 1 arms
others_first [] zero h k = refl
others_first [] (suc left) h k = refl
others_first (a ∷ arms) zero h k = let some : 0 < length (a ∷ arms) = omega (arith) in absurd (omega (arith, k some))
others_first (a ∷ arms) (suc zero) h k = refl
others_first (a ∷ arms) (suc (suc n)) h k = absurd (omega (arith, h))

lt_more : (m k n : ℕ) → k ≤ n → nat_lt m k ≡ true → nat_lt m n ≡ true
lt_more m k n l h = grind (arith, nat_tests, l, h)

pub more_below : (k n : ℕ) → k ≤ n → (ss : List StmtId) → list_all (λ s. nat_lt s.0 k) ss ≡ true → list_all (λ s. nat_lt s.0 n) ss ≡ true
more_below k n l [] h = refl
more_below k n l (s ∷ ss) h = let p = both_true (nat_lt s.0 k) (list_all (λ s. nat_lt s.0 k) ss) h in rw (lt_more s.0 k n l p.0, more_below k n l ss p.1) refl

-- A statement as it was asked for.
pub stmt_seen : (t nodes : TypedNodes) (s : ℕ) (x st : Stmt) → t ≡ nodes → option_map (λ (node : StmtNode). node.stmt) (slice_get t.stmts s) ≡ Some x → x ≡ st
    → option_map (λ (node : StmtNode). node.stmt) (slice_get nodes.stmts s) ≡ Some st
stmt_seen t nodes s x st same h is = ap (λ (n : TypedNodes). option_map (λ (node : StmtNode). node.stmt) (slice_get n.stmts s)) (sym same) ∙ h ∙ ap Some is
