-- What stands in a method that keeps the rules of types keeps them too.
use Rattle.std.proofs.Common.{◌≡◌, ℕ, zero, suc, ◌+◌, ◌<◌, ◌≤◌, Bool, true, false, ◌&&◌, ◌||◌, List, [], ◌∷◌, length, map, Option, Some, None, nat_lt, nat_eq, refl, sym, ap, ◌∙◌, subst, arith, All}
use Rattle.std.specs.Prelude.{slice_get, option_map, unwrap_or, if◌then◌else◌, nat_le}
use Rattle.std.specs.List.{list_all, list_any}
use Rattle.std.proofs.lemmas.Bool.Decides.{nat_tests}
use Rattle.std.proofs.lemmas.Option.{slice_get_within}
use Rattle.wf_text.specs.declared.place.Place.{Place}
use Rattle.wf_base.specs.declared.marks.Mark.{Mark}
use Rattle.wf_base.specs.declared.marks.Mark.TheVariants.{Pure, Impure, Coroutine}
use Rattle.wf_base.specs.BaseTable.{row_of}
use Rattle.wf_ast.specs.declared.types.Ty.{Ty}
use Rattle.wf_ast.specs.declared.types.Ty.TheVariants as types
use Rattle.wf_ast.specs.declared.numbers.StmtId.{StmtId}
use Rattle.wf_ast.specs.declared.declarations.Method.{Method}
use Rattle.wf_ast.specs.declared.typed_code.Callee.TheVariants as callees
use Rattle.wf_ast.specs.declared.typed_code.Arm.{Arm}
use Rattle.wf_ast.specs.declared.typed_code.Block as typed_code
use Rattle.wf_ast.specs.declared.typed_code.Stmt.{Stmt}
use Rattle.wf_ast.specs.declared.typed_code.Stmt.TheVariants as stmts
use Rattle.wf_ast.specs.declared.typed_code.StmtNode.{StmtNode}
use Rattle.wf_ast.specs.declared.typed_nodes.TypedNodes.{TypedNodes}
use Rattle.wf_ast.specs.TypedTree.{Simple, assign, await, perform, invoke, break_from, continue_in, give_back, yield, claim, lost, Site, Head, Block, end, plain, choose, loop}
use Rattle.wf_ast.specs.TypedTrees.{type_of_node, no_statement, cond_in, tree_of, head_made, block_made, otherwise_made, stmt_made, onto, stmt_makers}
use Rattle.wf_ast.specs.TypedPackage.{package_of}
use Rattle.wf_ast.specs.TypedInvariant.{is_expr, is_optional_expr, has_kind, has_few_variables, callee_exists, block_below, optional_block_below, stmt_below, IsTyped}
use Rattle.wf_ast.specs.WellTyped.{Context, breaks, well_cond, fits_type, well_simple, well_returned, well_block}
use Rattle.wf_ast.specs.Value.{same_truth}
use Rattle.wf_ast.specs.NodeKinds.{is_condition_at}
use Rattle.wf_ast.proofs.Arena.{both_true, numbered_from_zero}
use Rattle.wf_points.proofs.StatementArena.{stmt_is}
use Rattle.wf_points.proofs.NumberLemmas.{tree_there}
use Rattle.wf_loops.specs.LoopNodes.{is_loop, head_at}
use Rattle.wf_loops.proofs.LoopLemmas.{loop_within}
use Rattle.wf_loops.proofs.NodeLemmas.{condition_found, loop_found}
use Rattle.wf_bounds_stmts.specs.FactRules.{loop_numbered}
use Rattle.wf_bounds_stmts.specs.Passing.{simple_of, has_no_block, is_single, simple_at, IsLoopOf, AreLoopsOf, StandsIn, has_few_locals, receiver_fits, fits_receiver}
use Rattle.wf_bounds.specs.WalkNodes.{loops_from, all_loops, no_method, method_at, all_round, stands_well, stmt_stands, block_stands, else_stands, have_conditions, arms_stand, parts_stand}

-- All loops of a package.
same_number : (n : ℕ) → nat_eq n n ≡ true
same_number n = grind (arith, nat_tests)

later_number : (n i w : ℕ) → w ≡ n + suc i → nat_eq n w ≡ false
later_number n i w e = grind (arith, nat_tests, e)

module _ (nodes : TypedNodes) where
  known_from : (ns : List StmtNode) (n i : ℕ) (w : StmtId) → w.0 ≡ n + i → i < length ns → is_loop nodes w ≡ true
      → loop_numbered (loops_from nodes n ns) w.0 ≡ Some (head_at nodes w)
  known_from [] n i w e l h = absurd (omega (arith, l))
  known_from (x ∷ ns) n zero w e l h =
      let same : w.0 ≡ n = omega (arith, e) in
      let here : is_loop nodes (record { 0 = n }) ≡ true = ap (λ k. is_loop nodes (record { 0 = k })) (sym same) ∙ h in
      ap (λ b. loop_numbered (if b then (n, head_at nodes (record { 0 = n })) ∷ loops_from nodes (suc n) ns else loops_from nodes (suc n) ns) w.0) here
      ∙ ap (λ k. loop_numbered ((n, head_at nodes (record { 0 = n })) ∷ loops_from nodes (suc n) ns) k) same
      ∙ ap (λ b. if b then Some (head_at nodes (record { 0 = n })) else loop_numbered (loops_from nodes (suc n) ns) n) (same_number n)
      ∙ ap (λ k. Some (head_at nodes (record { 0 = k }))) (sym same)
  known_from (x ∷ ns) n (suc i) w e l h = by (is_loop nodes (record { 0 = n })) ∙ known_from ns (suc n) i w (omega (arith, e)) (omega (arith, l)) h
    where
      by : (b : Bool) → loop_numbered (if b then (n, head_at nodes (record { 0 = n })) ∷ loops_from nodes (suc n) ns else loops_from nodes (suc n) ns) w.0 ≡ loop_numbered (loops_from nodes (suc n) ns) w.0
      by true = ap (λ b. if b then Some (head_at nodes (record { 0 = n })) else loop_numbered (loops_from nodes (suc n) ns) w.0) (later_number n i w.0 e)
      by false = refl

  among_from : (ns : List StmtNode) (n i w : ℕ) → w ≡ n + i → i < length ns → is_loop nodes (record { 0 = w }) ≡ true → list_any (nat_eq w) (map (λ l. l.0) (loops_from nodes n ns)) ≡ true
  among_from [] n i w e l h = absurd (omega (arith, l))
  among_from (x ∷ ns) n zero w e l h =
      let same : w ≡ n = omega (arith, e) in
      let here : is_loop nodes (record { 0 = n }) ≡ true = ap (λ k. is_loop nodes (record { 0 = k })) (sym same) ∙ h in
      let rest = map (λ l. l.0) (loops_from nodes (suc n) ns) in
      ap (λ b. list_any (nat_eq w) (map (λ l. l.0) (if b then (n, head_at nodes (record { 0 = n })) ∷ loops_from nodes (suc n) ns else loops_from nodes (suc n) ns))) here
      ∙ ap (λ b. b || list_any (nat_eq w) rest) (ap (nat_eq w) (sym same) ∙ same_number w)
  among_from (x ∷ ns) n (suc i) w e l h = by (is_loop nodes (record { 0 = n })) (among_from ns (suc n) i w (omega (arith, e)) (omega (arith, l)) h)
    where
      or_right : (a b : Bool) → b ≡ true → (a || b) ≡ true
      or_right true b h = refl
      or_right false b h = h

      by : (b : Bool) → list_any (nat_eq w) (map (λ l. l.0) (loops_from nodes (suc n) ns)) ≡ true
          → list_any (nat_eq w) (map (λ l. l.0) (if b then (n, head_at nodes (record { 0 = n })) ∷ loops_from nodes (suc n) ns else loops_from nodes (suc n) ns)) ≡ true
      by true k = or_right (nat_eq w n) (list_any (nat_eq w) (map (λ l. l.0) (loops_from nodes (suc n) ns))) k
      by false k = k

  all_more : (l : ℕ × Head) (ls : List (ℕ × Head)) → IsLoopOf nodes l → All (IsLoopOf nodes) ls → All (IsLoopOf nodes) (l ∷ ls)
  all_more l ls one rest zero d h = one
  all_more l ls one rest (suc k) d h = rest k d (omega (arith, h))

  loops_of : (ns : List StmtNode) (n : ℕ) → All (IsLoopOf nodes) (loops_from nodes n ns)
  loops_of [] n = λ k d h. absurd (omega (arith, h))
  loops_of (x ∷ ns) n = by (is_loop nodes (record { 0 = n })) refl (loops_of ns (suc n))
    where
      by : (b : Bool) → is_loop nodes (record { 0 = n }) ≡ b → All (IsLoopOf nodes) (loops_from nodes (suc n) ns)
          → All (IsLoopOf nodes) (if b then (n, head_at nodes (record { 0 = n })) ∷ loops_from nodes (suc n) ns else loops_from nodes (suc n) ns)
      by true e rest = all_more (n, head_at nodes (record { 0 = n })) (loops_from nodes (suc n) ns) (record { is = e; head = refl }) rest
      by false e rest = rest

  pub loops_are : AreLoopsOf nodes (all_loops nodes)
  unfolding all_loops
  loops_are = loops_of nodes.stmts 0

  pub loop_known : (w : StmtId) → is_loop nodes w ≡ true → loop_numbered (all_loops nodes) w.0 ≡ Some (head_at nodes w)
  unfolding all_loops
  loop_known w h = known_from nodes.stmts 0 w.0 w (omega arith) (loop_within nodes w h) h

  pub loop_among : (w : StmtId) → is_loop nodes w ≡ true → list_any (nat_eq w.0) (map (λ l. l.0) (all_loops nodes)) ≡ true
  unfolding all_loops
  loop_among w h = among_from nodes.stmts 0 w.0 w.0 (omega arith) (loop_within nodes w h) h

-- With more loops round it a block keeps the rules of types too.
both_hold : (a b : Bool) → a ≡ true → b ≡ true → (a && b) ≡ true
both_hold true b h k = k
both_hold false b h k = absurd (cc h)

pub record Within (ns ms : List ℕ) : Type 0 where
  pub by : (w : ℕ) → list_any (nat_eq w) ns ≡ true → list_any (nat_eq w) ms ≡ true

within_more : (n : ℕ) (ns ms : List ℕ) → Within ns ms → Within (n ∷ ns) (n ∷ ms)
within_more n ns ms h = record { by = λ w k. at (nat_eq w n) (list_any (nat_eq w) ns) (list_any (nat_eq w) ms) (h.by w) k }
  where
    at : (here one other : Bool) → (one ≡ true → other ≡ true) → (here || one) ≡ true → (here || other) ≡ true
    at true one other f k = refl
    at false one other f k = f k

within_inside : (n : ℕ) (ns : List ℕ) → list_any (nat_eq n) ns ≡ true → Within (n ∷ ns) ns
within_inside n ns h = record { by = λ w k. at w (nat_eq w n) refl k }
  where
    number_is : (w : ℕ) → nat_eq w n ≡ true → n ≡ w
    number_is w e = grind (arith, nat_tests, e)

    at : (w : ℕ) (here : Bool) → nat_eq w n ≡ here → (here || list_any (nat_eq w) ns) ≡ true → list_any (nat_eq w) ns ≡ true
    at w true e k = let P : ℕ → Type 0 = λ j. list_any (nat_eq j) ns ≡ true in subst P (number_is w e) h
    at w false e k = k

module _ (c : Context) where
  simple_more : (ns ms : List ℕ) → Within ns ms → (s : Simple) → well_simple c ns s ≡ true → well_simple c ms s ≡ true
  simple_more ns ms h (assign target None v) k = k
  simple_more ns ms h (assign target (Some op) v) k = k
  simple_more ns ms h (await at target a call) k = k
  simple_more ns ms h (perform at target call) k = k
  simple_more ns ms h (invoke at target keep mark called vs) k = k
  simple_more ns ms h (break_from w) k = h.by w k
  simple_more ns ms h (continue_in w) k = h.by w k
  simple_more ns ms h (give_back v) k = k
  simple_more ns ms h (yield n) k = k
  simple_more ns ms h (claim goal by) k = k

  pub block_more : (ns ms : List ℕ) → Within ns ms → (b : Block) → well_block c ns b ≡ true → well_block c ms b ≡ true
  block_more ns ms h end k = refl
  block_more ns ms h (plain site s rest) k =
      let p = both_true (well_simple c ns s) (well_block c ns rest) k in
      both_hold (well_simple c ms s) (well_block c ms rest) (simple_more ns ms h s p.0) (block_more ns ms h rest p.1)
  block_more ns ms h (choose site chained cond a b rest) k =
      let p = both_true (well_cond c cond) _ k in
      let q = both_true (well_block c ns a) _ p.1 in
      let o = both_true (well_block c ns b) (well_block c ns rest) q.1 in
      both_hold (well_cond c cond) _ p.0 (both_hold (well_block c ms a) _ (block_more ns ms h a q.0) (both_hold (well_block c ms b) _ (block_more ns ms h b o.0) (block_more ns ms h rest o.1)))
  block_more ns ms h (loop site head body rest) k =
      let p = both_true (well_cond c head.cond) _ k in
      let q = both_true (list_all (λ x. well_cond c x.1) head.clauses) _ p.1 in
      let o = both_true (same_truth head.is_left (breaks site.number body)) _ q.1 in
      let l = both_true (well_block c (site.number ∷ ns) body) (well_block c ns rest) o.1 in
      both_hold (well_cond c head.cond) _ p.0 (both_hold (list_all (λ x. well_cond c x.1) head.clauses) _ q.0 (both_hold (same_truth head.is_left (breaks site.number body)) _ o.0
      (both_hold (well_block c (site.number ∷ ms) body) _ (block_more (site.number ∷ ns) (site.number ∷ ms) (within_more site.number ns ms h) body l.0) (block_more ns ms h rest l.1))))

  -- A statement and what follows it keep the rules each.
  apart1 : (a r : Bool) → (a && r) ≡ true → ((a && true) ≡ true) × (r ≡ true)
  apart1 true r h = (refl, h)
  apart1 false r h = absurd (cc h)

  apart3 : (a b d r : Bool) → (a && (b && (d && r))) ≡ true → ((a && (b && (d && true))) ≡ true) × (r ≡ true)
  apart3 true true true r h = (refl, h)
  apart3 false b d r h = absurd (cc h)
  apart3 true false d r h = absurd (cc h)
  apart3 true true false r h = absurd (cc h)

  apart4 : (a b d e r : Bool) → (a && (b && (d && (e && r)))) ≡ true → ((a && (b && (d && (e && true)))) ≡ true) × (r ≡ true)
  apart4 true true true true r h = (refl, h)
  apart4 false b d e r h = absurd (cc h)
  apart4 true false d e r h = absurd (cc h)
  apart4 true true false e r h = absurd (cc h)
  apart4 true true true false r h = absurd (cc h)

  module _ (nodes : TypedNodes) (inner : StmtId → Block → Block) (ns : List ℕ) where
    stmt_apart : (n : ℕ) (at close : Place) (st : Stmt) (rest : Block) → well_block c ns (stmt_made nodes (tree_of nodes) inner n (record { stmt = st; at = at; inner = close }) rest) ≡ true
        → (well_block c ns (stmt_made nodes (tree_of nodes) inner n (record { stmt = st; at = at; inner = close }) end) ≡ true) × (well_block c ns rest ≡ true)
    stmt_apart n at close (stmts.Assign target op value) rest h = apart1 _ (well_block c ns rest) h
    stmt_apart n at close (stmts.Call target keep callee args) rest h = apart1 _ (well_block c ns rest) h
    stmt_apart n at close (stmts.If [] otherwise) rest h = apart1 _ (well_block c ns rest) h
    stmt_apart n at close (stmts.If (arm ∷ arms) otherwise) rest h =
        apart3 (well_cond c (cond_in (tree_of nodes arm.cond))) (well_block c ns (block_made inner arm.body.items)) (well_block c ns (otherwise_made (tree_of nodes) inner (record { number = n; at = at }) arms otherwise)) (well_block c ns rest) h
    stmt_apart n at close (stmts.While head body) rest h =
        let made = head_made (tree_of nodes) close head in
        apart4 (well_cond c made.cond) (list_all (λ p. well_cond c p.1) made.clauses) (same_truth made.is_left (breaks n (block_made inner body.items))) (well_block c (n ∷ ns) (block_made inner body.items)) (well_block c ns rest) h
    stmt_apart n at close (stmts.Break w) rest h = apart1 _ (well_block c ns rest) h
    stmt_apart n at close (stmts.Continue w) rest h = apart1 _ (well_block c ns rest) h
    stmt_apart n at close (stmts.Return None) rest h = apart1 _ (well_block c ns rest) h
    stmt_apart n at close (stmts.Return (Some e)) rest h = apart1 _ (well_block c ns rest) h
    stmt_apart n at close (stmts.Yield s) rest h = apart1 _ (well_block c ns rest) h
    stmt_apart n at close (stmts.Assert goal ax) rest h = apart1 _ (well_block c ns rest) h

  -- An `if` without an arm stands in no method.
  not_fitting : (ty : Ty) → fits_type c ty lost ≡ true → ⊥
  not_fitting (types.Num width lo hi) h = cc h
  not_fitting types.Flag h = cc h
  not_fitting types.Status h = cc h
  not_fitting (types.Slice width) h = cc h
  not_fitting types.Reader h = cc h
  not_fitting types.Writer h = cc h
  not_fitting ty h = cc h

  not_returned : (mark : Mark) (gives : Option Ty) → well_returned c mark gives (Some lost) ≡ true → ⊥
  not_returned Coroutine gives h = cc h
  not_returned Pure None h = cc h
  not_returned Impure None h = cc h
  not_returned Pure (Some ty) h = not_fitting ty h
  not_returned Impure (Some ty) h = not_fitting ty h

node_there : (ns : List StmtNode) (s : ℕ) → s < length ns → (n : StmtNode) × (slice_get ns s ≡ Some n)
node_there [] s h = absurd (omega (arith, h))
node_there (n ∷ ns) zero h = (n, refl)
node_there (n ∷ ns) (suc s) h = node_there ns s (omega (arith, h))

lt_from : (m n : ℕ) → nat_lt m n ≡ true → m < n
lt_from m n h = grind (arith, nat_tests, h)

lt_test : (m n : ℕ) → m < n → nat_lt m n ≡ true
lt_test m n h = grind (arith, nat_tests, h)

module _ (nodes : TypedNodes) (typed : IsTyped nodes) (m : ℕ) where
  abbrev round : List ℕ
  round = map (λ l. l.0) (all_loops nodes)

  abbrev context : Context
  context = (all_round nodes m).context

  module _ (k : ℕ) (small : k ≤ length nodes.stmts) where
    pub items_stand : (ss : List StmtId) → list_all (λ s. nat_lt s.0 k) ss ≡ true → well_block context round (block_made (onto (stmt_makers nodes)) ss) ≡ true → list_all (stmt_stands nodes m k) ss ≡ true
    unfolding stands_well
    items_stand [] h w = refl
    items_stand (s ∷ ss) h w =
        let p = both_true (nat_lt s.0 k) (list_all (λ s. nat_lt s.0 k) ss) h in
        let inside : s.0 < length nodes.stmts = omega (arith, small, lt_from s.0 k p.0) in
        let n = node_there nodes.stmts s.0 inside in
        let rest = block_made (onto (stmt_makers nodes)) ss in
        let P : Block → Type 0 = λ b. well_block context round b ≡ true in
        let q = stmt_apart context nodes (onto (stmt_makers nodes)) round s.0 n.0.at n.0.inner n.0.stmt rest (subst P (stmt_is nodes s n.0 rest n.1 typed.stmts_ordered) w) in
        let alone : P (onto (stmt_makers nodes) s end) = subst P (sym (stmt_is nodes s n.0 end n.1 typed.stmts_ordered)) q.0 in
        both_hold (stmt_stands nodes m k s) (list_all (stmt_stands nodes m k) ss)
        (both_hold (nat_lt s.0 k) _ p.0 (both_hold (nat_lt s.0 (length nodes.stmts)) _ (lt_test s.0 (length nodes.stmts) inside) alone))
        (items_stand ss p.1 q.1)

    otherwise_stands : (site : Site) (arms : List Arm) (otherwise : Option typed_code.Block) → list_all (λ a. is_expr nodes a.cond && block_below k a.body) arms ≡ true → optional_block_below k otherwise ≡ true
        → well_block context round (otherwise_made (tree_of nodes) (onto (stmt_makers nodes)) site arms otherwise) ≡ true
        → (have_conditions nodes arms ≡ true) × (arms_stand nodes m k arms ≡ true) × (else_stands nodes m k otherwise ≡ true)
    otherwise_stands site [] None h o w = (refl, refl, refl)
    otherwise_stands site [] (Some b) h o w = (refl, refl, items_stand b.items o w)
    otherwise_stands site (arm ∷ arms) otherwise h o w =
        let p = both_true (is_expr nodes arm.cond && block_below k arm.body) (list_all (λ a. is_expr nodes a.cond && block_below k a.body) arms) h in
        let q = both_true (is_expr nodes arm.cond) (block_below k arm.body) p.0 in
        let cond = cond_in (tree_of nodes arm.cond) in
        let body = block_made (onto (stmt_makers nodes)) arm.body.items in
        let rest = otherwise_made (tree_of nodes) (onto (stmt_makers nodes)) site arms otherwise in
        let a = both_true (well_cond context cond) (well_block context round body && (well_block context round rest && true)) w in
        let b = both_true (well_block context round body) (well_block context round rest && true) a.1 in
        let d = both_true (well_block context round rest) true b.1 in
        let r = otherwise_stands site arms otherwise p.1 o d.0 in
        (both_hold (is_condition_at nodes arm.cond) _ (condition_found nodes typed context arm.cond q.0 a.0) r.0, both_hold (block_stands nodes m k arm.body) _ (items_stand arm.body.items q.1 b.0) r.1, r.2)

  parts_of_made : (s : StmtId) (at close : Place) (st : Stmt) → slice_get nodes.stmts s.0 ≡ Some (record { stmt = st; at = at; inner = close }) → s.0 ≤ length nodes.stmts → stmt_below nodes s.0 st ≡ true
      → well_block context round (stmt_made nodes (tree_of nodes) (onto (stmt_makers nodes)) s.0 (record { stmt = st; at = at; inner = close }) end) ≡ true → parts_stand nodes m s st ≡ true
  parts_of_made s at close (stmts.Assign target op value) is l h w = refl
  parts_of_made s at close (stmts.Call target keep callee args) is l h w = refl
  parts_of_made s at close (stmts.If [] otherwise) is l h w =
      let p = both_true (well_returned context context.method.mark context.method.gives (Some lost)) true w in
      absurd (not_returned context context.method.mark context.method.gives p.0)
  parts_of_made s at close (stmts.If (arm ∷ arms) otherwise) is l h w =
      let p = both_true (list_all (λ a. is_expr nodes a.cond && block_below s.0 a.body) (arm ∷ arms)) (optional_block_below s.0 otherwise) h in
      let r = otherwise_stands s.0 l (record { number = s.0; at = at }) (arm ∷ arms) otherwise p.0 p.1 w in
      both_hold (have_conditions nodes (arm ∷ arms)) _ r.0 (both_hold (arms_stand nodes m s.0 (arm ∷ arms)) _ r.1 r.2)
  parts_of_made s at close (stmts.While head body) is l h w =
      let p = both_true (is_expr nodes head.cond) (list_all (λ c. is_expr nodes c.1) head.clauses && block_below s.0 body) h in
      let q = both_true (list_all (λ c. is_expr nodes c.1) head.clauses) (block_below s.0 body) p.1 in
      let n : StmtNode = record { stmt = stmts.While head body; at = at; inner = close } in
      let made = head_made (tree_of nodes) close head in
      let tree = block_made (onto (stmt_makers nodes)) body.items in
      let a = both_true (well_cond context made.cond) _ w in
      let b = both_true (list_all (λ x. well_cond context x.1) made.clauses) _ a.1 in
      let d = both_true (same_truth made.is_left (breaks s.0 tree)) _ b.1 in
      let e = both_true (well_block context (s.0 ∷ round) tree) true d.1 in
      let found = loop_found nodes typed context s n head body is refl (both_hold (well_cond context made.cond) _ a.0 b.0) in
      let inner = block_more context (s.0 ∷ round) round (within_inside s.0 round (loop_among nodes s found)) tree e.0 in
      both_hold (is_loop nodes s) _ found (items_stand s.0 l body.items q.1 inner)
  parts_of_made s at close (stmts.Break v) is l h w = refl
  parts_of_made s at close (stmts.Continue v) is l h w = refl
  parts_of_made s at close (stmts.Return v) is l h w = refl
  parts_of_made s at close (stmts.Yield v) is l h w = refl
  parts_of_made s at close (stmts.Assert goal ax) is l h w = refl

  -- What stands in a statement that keeps the rules.
  pub node_stands : (s : StmtId) (n : StmtNode) → slice_get nodes.stmts s.0 ≡ Some n → stands_well nodes m s ≡ true → parts_stand nodes m s n.stmt ≡ true
  unfolding stands_well
  node_stands s n is w =
      let below : s.0 < length nodes.stmts = slice_get_within nodes.stmts s.0 n is in
      let kept = numbered_from_zero (λ s node. stmt_below nodes s node.stmt) nodes.stmts s.0 n typed.stmts_ordered is in
      let P : Block → Type 0 = λ b. well_block context round b ≡ true in
      parts_of_made s n.at n.inner n.stmt is (omega arith) kept (subst P (stmt_is nodes s n end is typed.stmts_ordered) w)

  -- A statement without blocks is one that may be passed.
  single_made : (inner : StmtId → Block → Block) (n : ℕ) (at close : Place) (st : Stmt) → has_no_block st ≡ true → (rest : Block)
      → stmt_made nodes (tree_of nodes) inner n (record { stmt = st; at = at; inner = close }) rest ≡ plain (record { number = n; at = at }) (simple_of nodes close st) rest
  single_made inner n at close (stmts.Assign target op value) h rest = refl
  single_made inner n at close (stmts.Call target keep callee args) h rest = refl
  single_made inner n at close (stmts.If arms otherwise) h rest = absurd (cc h)
  single_made inner n at close (stmts.While head body) h rest = absurd (cc h)
  single_made inner n at close (stmts.Break w) h rest = refl
  single_made inner n at close (stmts.Continue w) h rest = refl
  single_made inner n at close (stmts.Return None) h rest = refl
  single_made inner n at close (stmts.Return (Some e)) h rest = refl
  single_made inner n at close (stmts.Yield s) h rest = refl
  single_made inner n at close (stmts.Assert goal ax) h rest = refl

  single_well : (s : StmtId) (n : StmtNode) → slice_get nodes.stmts s.0 ≡ Some n → stands_well nodes m s ≡ true → is_single nodes s ≡ true → well_simple context round (simple_at nodes s) ≡ true
  unfolding stands_well is_single simple_at
  single_well s n is w alone =
      let P : Block → Type 0 = λ b. well_block context round b ≡ true in
      let Q : Option StmtNode → Type 0 = λ o. unwrap_or (option_map (λ node. has_no_block node.stmt) o) false ≡ true in
      let made = stmt_is nodes s n end is typed.stmts_ordered ∙ single_made (onto (stmt_makers nodes)) s.0 n.at n.inner n.stmt (subst Q is alone) end in
      let p = both_true (well_simple context round (simple_of nodes n.inner n.stmt)) true (subst P made w) in
      let R : Option StmtNode → Type 0 = λ o. well_simple context round (unwrap_or (option_map (λ node. simple_of nodes node.inner node.stmt) o) no_statement) ≡ true in
      subst R (sym is) p.0

  method_known : m < length nodes.methods → slice_get (package_of nodes).methods m ≡ Some (method_at nodes m)
  unfolding method_at
  method_known l =
      let it = tree_there nodes typed m l in
      it.1 ∙ sym (ap (λ o. Some (unwrap_or o no_method)) it.1)

  pub may_pass : m < length nodes.methods → (s : StmtId) → s.0 < length nodes.stmts → stands_well nodes m s ≡ true → is_single nodes s ≡ true → StandsIn nodes (record { 0 = m }) (all_round nodes m) s
  may_pass l s h w alone =
      let n = node_there nodes.stmts s.0 h in
      record { within = refl; method = method_known l; loops = loops_are nodes; alone = alone; well = single_well s n.0 n.1 w alone }

-- What holds of all items of a list holds of each.
pub all_at : {X : Type 0} (test : X → Bool) (xs : List X) (i : ℕ) (x : X) → list_all test xs ≡ true → slice_get xs i ≡ Some x → test x ≡ true
all_at test [] i x h e = absurd (cc e)
all_at test (y ∷ xs) zero x h e =
    let same : y ≡ x = cc e in
    ap test (sym same) ∙ (both_true (test y) (list_all test xs) h).0
all_at test (y ∷ xs) (suc i) x h e = all_at test xs i x (both_true (test y) (list_all test xs) h).1 e

method_there : (ms : List Method) (m : ℕ) → m < length ms → (x : Method) × (slice_get ms m ≡ Some x)
method_there [] m h = absurd (omega (arith, h))
method_there (x ∷ ms) zero h = (x, refl)
method_there (x ∷ ms) (suc m) h = method_there ms m (omega (arith, h))

-- A method of a typed package has few locals, and a base method is called on what has it.
module _ (nodes : TypedNodes) (typed : IsTyped nodes) where
  pub few_at : (m : ℕ) → m < length nodes.methods → has_few_locals nodes (record { 0 = m }) ≡ true
  unfolding has_few_locals
  few_at m h =
      let it = method_there nodes.methods m h in
      let p = both_true (nat_le (length it.0.args) 64) (nat_le (length it.0.locals) 256) (all_at has_few_variables nodes.methods m it.0 typed.few_variables it.1) in
      let P : Option Method → Type 0 = λ o. unwrap_or (option_map (λ method. nat_le (length method.locals) 256) o) false ≡ true in
      subst P (sym it.1) p.1

  receiver_of : (n : ℕ) (st : Stmt) → stmt_below nodes n st ≡ true → receiver_fits nodes st ≡ true
  receiver_of n (stmts.Call target keep (callees.Own m) args) h = refl
  receiver_of n (stmts.Call target keep (callees.Sub x m) args) h = refl
  receiver_of n (stmts.Call target keep (callees.Base on sig) args) h =
      let p = both_true (is_optional_expr nodes target) (callee_exists nodes (callees.Base on sig) && list_all (is_expr nodes) args) h in
      let q = both_true (callee_exists nodes (callees.Base on sig)) (list_all (is_expr nodes) args) p.1 in
      (both_true (is_expr nodes on) (has_kind (row_of sig).on (type_of_node nodes on.0)) q.0).1
  receiver_of n st h = refl

  pub receiver_at : (s : StmtId) → s.0 < length nodes.stmts → fits_receiver nodes s ≡ true
  unfolding fits_receiver
  receiver_at s h =
      let n = node_there nodes.stmts s.0 h in
      let kept = numbered_from_zero (λ s node. stmt_below nodes s node.stmt) nodes.stmts s.0 n.0 typed.stmts_ordered n.1 in
      let P : Option StmtNode → Type 0 = λ o. unwrap_or (option_map (λ node. receiver_fits nodes node.stmt) o) false ≡ true in
      subst P (sym n.1) (receiver_of s.0 n.0.stmt kept)
