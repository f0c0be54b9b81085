-- Which statements stand in which method: they are numbered in order, method by method.
use Rattle.std.proofs.Common.{◌≡◌, ◌⊎◌, inl, inr, ℕ, zero, suc, ◌+◌, ◌-◌, ◌<◌, ◌≤◌, Bool, true, false, ◌&&◌, ◌||◌, List, [], ◌∷◌, ◌++◌, length, drop, Option, Some, None, nat_lt, nat_eq, refl, sym, ap, ◌∙◌, arith, append_assoc}
use Rattle.std.specs.Prelude.{slice_get, if◌then◌else◌, nat_le}
use Rattle.std.specs.List.{list_all, list_any, flat_map}
use Rattle.std.proofs.lemmas.Bool.Decides.{nat_tests}
use Rattle.std.proofs.lemmas.List.{append-nil}
use Rattle.wf_text.specs.declared.place.Place.{Place}
use Rattle.wf_ast.specs.declared.numbers.StmtId.{StmtId}
use Rattle.wf_ast.specs.declared.typed_code.Arm.{Arm}
use Rattle.wf_ast.specs.declared.typed_code.Block as typed_code
use Rattle.wf_ast.specs.declared.typed_code.Stmt.{Stmt}
use Rattle.wf_ast.specs.declared.typed_code.Stmt.TheVariants as stmts
use Rattle.wf_ast.specs.declared.typed_code.StmtNode.{StmtNode}
use Rattle.wf_ast.specs.declared.typed_nodes.TypedNodes.{TypedNodes}
use Rattle.wf_ast.specs.TypedTree.{Site, Block}
use Rattle.wf_ast.specs.TypedTrees.{tree_of, block_made, otherwise_made, stmt_made, onto, stmt_makers}
use Rattle.wf_ast.specs.TypedPackage.{MethodTree, package_of}
use Rattle.wf_ast.specs.TypedInvariant.{is_expr, block_below, optional_block_below, stmt_below, numbers_in, numbers_from, IsTyped}
use Rattle.wf_ast.proofs.Arena.{both_true, numbered_from_zero}
use Rattle.wf_points.proofs.StatementArena.{stmt_is}
use Rattle.wf_points.proofs.LoopLemmas.{drop_at}
use Rattle.wf_points.proofs.NumberLemmas.{body_known}
use Rattle.wf_facts_exprs.specs.Claims.{Claim}
use Rattle.wf_bounds_stmts.specs.Statements.{Form, Body, nothing_more, statement, Blocks, no_block, block, Reading, reading, body_of}
use Rattle.wf_bounds_stmts.specs.FactRules.{Known, Around, inside, fronts}
use Rattle.wf_bounds_stmts.specs.MethodRules.{first_known, where_known, known_after, around_body, zero_facts, front_in_body, front_in_blocks, local_at}
use Rattle.wf_bounds.specs.MethodWalks.{method_front, front_from, last_reaches}
use Rattle.wf_bounds.specs.WalkNodes.{method_at}
use Rattle.wf_bounds.proofs.NodeLemmas.{one_statement, one_at, read_at, block_alone, ids_more, node_there, lt_from}
use Rattle.wf_bounds.proofs.MethodLemmas.{body_is, method_known, front_next, front_last}

-- Numbers in order.
not_this : (s n : ℕ) → s < n → nat_eq s n ≡ false
not_this s n h = grind (arith, nat_tests, h)

not_that : (s n : ℕ) → n < s → nat_eq s n ≡ false
not_that s n h = grind (arith, nat_tests, h)

below_all : (s n c : ℕ) → s < n → list_any (nat_eq s) (numbers_from n c) ≡ false
below_all s n zero h = refl
below_all s n (suc c) h = rw (not_this s n h) (below_all s (suc n) c (omega (arith, h)))

above_all : (s n c : ℕ) → n + c ≤ s → list_any (nat_eq s) (numbers_from n c) ≡ false
above_all s n zero h = refl
above_all s n (suc c) h = rw (not_that s n (omega (arith, h))) (above_all s (suc n) c (omega (arith, h)))

record Split (xs ys : List ℕ) (n c : ℕ) : Type 0 where
  count : ℕ
  left : ℕ
  all : count + left ≡ c
  front : xs ≡ numbers_from n count
  back : ys ≡ numbers_from (n + count) left

split : (xs ys : List ℕ) (n c : ℕ) → xs ++ ys ≡ numbers_from n c → Split xs ys n c
split [] ys n c e =
    let none : n ≡ n + 0 = omega arith in
    record { count = 0; left = c; all = omega arith; front = refl; back = e ∙ ap (λ k. numbers_from k c) none }
split (x ∷ xs) ys n zero e = absurd (cc e)
split (x ∷ xs) ys n (suc c) e =
    let rest : (xs ++ ys) ≡ numbers_from (suc n) c = cc e in
    let first : x ≡ n = cc e in
    let it = split xs ys (suc n) c rest in
    let past : suc n + it.count ≡ n + suc it.count = omega arith in
    record {
      count = suc it.count;
      left = it.left;
      all = omega (arith, it.all);
      front = ap (λ k. k ∷ xs) first ∙ ap (λ l. n ∷ l) it.front;
      back = it.back ∙ ap (λ k. numbers_from k it.left) past;
    }

any_append : (s : ℕ) (xs ys : List ℕ) → list_any (nat_eq s) (xs ++ ys) ≡ false → (list_any (nat_eq s) xs ≡ false) × (list_any (nat_eq s) ys ≡ false)
any_append s [] ys h = (refl, h)
any_append s (x ∷ xs) ys h = by (nat_eq s x) h (any_append s xs ys)
  where
    by : (b : Bool) → (b || list_any (nat_eq s) (xs ++ ys)) ≡ false → (list_any (nat_eq s) (xs ++ ys) ≡ false → (list_any (nat_eq s) xs ≡ false) × (list_any (nat_eq s) ys ≡ false))
        → ((b || list_any (nat_eq s) xs) ≡ false) × (list_any (nat_eq s) ys ≡ false)
    by true h next = absurd (cc h)
    by false h next = next h

any_first : (s n : ℕ) (xs : List ℕ) → list_any (nat_eq s) (n ∷ xs) ≡ false → (nat_eq s n ≡ false) × (list_any (nat_eq s) xs ≡ false)
any_first s n xs h = by (nat_eq s n) h
  where
    by : (b : Bool) → (b || list_any (nat_eq s) xs) ≡ false → (b ≡ false) × (list_any (nat_eq s) xs ≡ false)
    by true h = absurd (cc h)
    by false h = (refl, h)

turned : (s n : ℕ) → nat_eq s n ≡ false → nat_eq n s ≡ false
turned s n h = grind (arith, nat_tests, h)

-- The numbers of a statement and of what follows it.
module _ (nodes : TypedNodes) (inner : StmtId → Block → Block) where
  record Numbers (n : ℕ) (node : StmtNode) : Type 0 where
    within : List ℕ
    made : (rest : Block) → numbers_in (stmt_made nodes (tree_of nodes) inner n node rest) ≡ within ++ (n ∷ numbers_in rest)

  abbrev numbers_of : (n : ℕ) (at close : Place) (st : Stmt) → Numbers n (record { stmt = st; at = at; inner = close })
  numbers_of n at close (stmts.Assign target op value) = record { within = []; made = λ rest. refl }
  numbers_of n at close (stmts.Call target keep callee args) = record { within = []; made = λ rest. refl }
  numbers_of n at close (stmts.If [] otherwise) = record { within = []; made = λ rest. refl }
  numbers_of n at close (stmts.If (arm ∷ arms) otherwise) =
      let site : Site = record { number = n; at = at } in
      let a = numbers_in (block_made inner arm.body.items) in
      let b = numbers_in (otherwise_made (tree_of nodes) inner site arms otherwise) in
      record { within = numbers_in (otherwise_made (tree_of nodes) inner site (arm ∷ arms) otherwise); made = λ rest. join a b (n ∷ numbers_in rest) }
    where
      join : (a b c : List ℕ) → a ++ (b ++ c) ≡ (a ++ (b ++ [])) ++ c
      join a b c = sym (append_assoc a b c) ∙ ap (λ x. (a ++ x) ++ c) (sym (append-nil b))
  numbers_of n at close (stmts.While head body) = record { within = numbers_in (block_made inner body.items); made = λ rest. refl }
  numbers_of n at close (stmts.Break w) = record { within = []; made = λ rest. refl }
  numbers_of n at close (stmts.Continue w) = record { within = []; made = λ rest. refl }
  numbers_of n at close (stmts.Return None) = record { within = []; made = λ rest. refl }
  numbers_of n at close (stmts.Return (Some e)) = record { within = []; made = λ rest. refl }
  numbers_of n at close (stmts.Yield s) = record { within = []; made = λ rest. refl }
  numbers_of n at close (stmts.Assert goal ax) = record { within = []; made = λ rest. refl }

nowhere : (known : Known) (f : List Claim → Known) → ((gs : List Claim) → f gs ≡ None) → where_known known f ≡ None
nowhere None f h = refl
nowhere (Some gs) f h = h gs

neither_known : (p q : Known) → p ≡ None → q ≡ None → first_known p q ≡ None
neither_known p q e f = ap (λ k. first_known k q) e ∙ f

module _ (nodes : TypedNodes) (typed : IsTyped nodes) where
  numbers_at : (i : StmtId) (n : StmtNode) → slice_get nodes.stmts i.0 ≡ Some n → (rest : Block)
      → numbers_in (onto (stmt_makers nodes) i rest) ≡ (numbers_of nodes (onto (stmt_makers nodes)) i.0 n.at n.inner n.stmt).within ++ (i.0 ∷ numbers_in rest)
  numbers_at i n is rest = ap numbers_in (stmt_is nodes i n rest is typed.stmts_ordered) ∙ (numbers_of nodes (onto (stmt_makers nodes)) i.0 n.at n.inner n.stmt).made rest

  module _ (s : ℕ) where
    -- What a walk through statements without this number finds, where that is told of smaller ones.
    abbrev Lacks : ℕ → Type 0
    Lacks k =
        (ss : List StmtId) → list_all (λ i. nat_lt i.0 k) ss ≡ true → list_any (nat_eq s) (numbers_in (block_made (onto (stmt_makers nodes)) ss)) ≡ false
        → (a : Around) (fs : List Claim) → front_in_body a s fs (body_of (block_made (onto (stmt_makers nodes)) ss)) ≡ None

    one_block : (a : Around) (body : Body) (blocks : Blocks) → ((fs : List Claim) → front_in_body a s fs body ≡ None) → ((lists : List (List Claim)) → front_in_blocks a s lists blocks ≡ None)
        → (lists : List (List Claim)) → front_in_blocks a s lists (block body blocks) ≡ None
    one_block a body blocks h k [] = refl
    one_block a body blocks h k (fs ∷ lists) = neither_known (front_in_body a s fs body) (front_in_blocks a s lists blocks) (h fs) (k lists)

    module _ (k : ℕ) (small : k ≤ length nodes.stmts) (lacks : Lacks k) where
      arms_lack : (site : Site) (arms : List Arm) (otherwise : Option typed_code.Block) → list_all (λ a. is_expr nodes a.cond && block_below k a.body) arms ≡ true → optional_block_below k otherwise ≡ true
          → list_any (nat_eq s) (numbers_in (otherwise_made (tree_of nodes) (onto (stmt_makers nodes)) site arms otherwise)) ≡ false
          → (a : Around) (lists : List (List Claim)) → front_in_blocks a s lists (reading (otherwise_made (tree_of nodes) (onto (stmt_makers nodes)) site arms otherwise)).blocks ≡ None
      arms_lack site [] None h o w a lists = one_block a nothing_more no_block (λ fs. refl) (λ lists. refl) lists
      arms_lack site [] (Some b) h o w a lists =
          ap (λ (r : Reading). front_in_blocks a s lists r.blocks) (block_alone nodes typed b.items (ids_more k (length nodes.stmts) small b.items o))
          ∙ one_block a (body_of (block_made (onto (stmt_makers nodes)) b.items)) no_block (λ fs. lacks b.items o w a fs) (λ lists. refl) lists
      arms_lack site (arm ∷ arms) otherwise h o w a lists =
          let p = both_true (is_expr nodes arm.cond && block_below k arm.body) (list_all (λ a. is_expr nodes a.cond && block_below k a.body) arms) h in
          let q = both_true (is_expr nodes arm.cond) (block_below k arm.body) p.0 in
          let rest = otherwise_made (tree_of nodes) (onto (stmt_makers nodes)) site arms otherwise in
          let l = any_append s (numbers_in (block_made (onto (stmt_makers nodes)) arm.body.items)) (numbers_in rest ++ []) w in
          let r = any_append s (numbers_in rest) [] l.1 in
          one_block a (body_of (block_made (onto (stmt_makers nodes)) arm.body.items)) (reading rest).blocks (λ fs. lacks arm.body.items q.1 l.0 a fs) (λ lists. arms_lack site arms otherwise p.1 o r.0 a lists) lists

      parts_lack : (n : ℕ) (at close : Place) (st : Stmt) → stmt_below nodes k st ≡ true → list_any (nat_eq s) (numbers_of nodes (onto (stmt_makers nodes)) n at close st).within ≡ false
          → (a : Around) (lists : List (List Claim)) → front_in_blocks a s lists (one_statement nodes (onto (stmt_makers nodes)) n at close st).blocks ≡ None
      parts_lack n at close (stmts.Assign target op value) h w a lists = refl
      parts_lack n at close (stmts.Call target keep callee args) h w a lists = refl
      parts_lack n at close (stmts.If [] otherwise) h w a lists = refl
      parts_lack n at close (stmts.If (arm ∷ arms) otherwise) h w a lists =
          let p = both_true (list_all (λ a. is_expr nodes a.cond && block_below k a.body) (arm ∷ arms)) (optional_block_below k otherwise) h in
          arms_lack (record { number = n; at = at }) (arm ∷ arms) otherwise p.0 p.1 w a lists
      parts_lack n at close (stmts.While head body) h w a lists =
          let p = both_true (is_expr nodes head.cond) (list_all (λ c. is_expr nodes c.1) head.clauses && block_below k body) h in
          let q = both_true (list_all (λ c. is_expr nodes c.1) head.clauses) (block_below k body) p.1 in
          one_block a (body_of (block_made (onto (stmt_makers nodes)) body.items)) no_block (λ fs. lacks body.items q.1 w a fs) (λ lists. refl) lists
      parts_lack n at close (stmts.Break v) h w a lists = refl
      parts_lack n at close (stmts.Continue v) h w a lists = refl
      parts_lack n at close (stmts.Return None) h w a lists = refl
      parts_lack n at close (stmts.Return (Some e)) h w a lists = refl
      parts_lack n at close (stmts.Yield v) h w a lists = refl
      parts_lack n at close (stmts.Assert goal ax) h w a lists = refl

    stmt_lacks : (a : Around) (fs : List Claim) (site : Site) (form : Form) (blocks : Blocks) (rest : Body) → nat_eq site.number s ≡ false
        → front_in_blocks (inside a site form) s (fronts fs form) blocks ≡ None → ((gs : List Claim) → front_in_body a s gs rest ≡ None) → front_in_body a s fs (statement site form blocks rest) ≡ None
    stmt_lacks a fs site form blocks rest e f g =
        ap (λ b. if b then Some fs else first_known (front_in_blocks (inside a site form) s (fronts fs form) blocks) (where_known (known_after a fs site form blocks) (λ gs. front_in_body a s gs rest))) e
        ∙ neither_known (front_in_blocks (inside a site form) s (fronts fs form) blocks) (where_known (known_after a fs site form blocks) (λ gs. front_in_body a s gs rest)) f
        (nowhere (known_after a fs site form blocks) (λ gs. front_in_body a s gs rest) g)

    -- By the numbers, the larger ones last.
    lacks_below : (fuel k : ℕ) → k ≤ fuel → k ≤ length nodes.stmts → Lacks k
    lacks_below fuel k l small [] h w a fs = refl
    lacks_below zero k l small (i ∷ ss) h w a fs =
        let p = both_true (nat_lt i.0 k) (list_all (λ i. nat_lt i.0 k) ss) h in
        let inside_k = lt_from i.0 k p.0 in
        absurd (omega (arith, inside_k, l))
    lacks_below (suc fuel) k l small (i ∷ ss) h w a fs =
        let p = both_true (nat_lt i.0 k) (list_all (λ i. nat_lt i.0 k) ss) h in
        let inside_k = lt_from i.0 k p.0 in
        let n = node_there nodes.stmts i.0 (omega (arith, inside_k, small)) in
        let kept = numbered_from_zero (λ s node. stmt_below nodes s node.stmt) nodes.stmts i.0 n.0 typed.stmts_ordered n.1 in
        let rest = block_made (onto (stmt_makers nodes)) ss in
        let within = (numbers_of nodes (onto (stmt_makers nodes)) i.0 n.0.at n.0.inner n.0.stmt).within in
        let q = any_append s within (i.0 ∷ numbers_in rest) (ap (λ l. list_any (nat_eq s) l) (sym (numbers_at i n.0 n.1 rest)) ∙ w) in
        let r = any_first s i.0 (numbers_in rest) q.1 in
        let one = one_at nodes typed i n.0 n.1 in
        let site : Site = record { number = i.0; at = n.0.at } in
        ap (λ (r : Reading). front_in_body a s fs r.body) (read_at nodes typed i n.0 n.1 rest)
        ∙ stmt_lacks a fs site one.form one.blocks (body_of rest) (turned s i.0 r.0)
        (parts_lack i.0 (omega (arith, inside_k, small)) (lacks_below fuel i.0 (omega (arith, inside_k, l)) (omega (arith, inside_k, small))) i.0 n.0.at n.0.inner n.0.stmt kept q.0 (inside a site one.form) (fronts fs one.form))
        (λ gs. lacks_below (suc fuel) k l small ss p.1 r.1 a gs)

  -- The last statement of a block has the largest number in it.
  abbrev Ends : ℕ → Bool → List StmtId → (n count : ℕ) → Type 0
  Ends s so_far ss n count = ((ss ≡ []) × (count ≡ 0)) ⊎ ((1 ≤ count) × (last_reaches s so_far ss ≡ nat_le s (n + count - 1)))

  last_more : (s : ℕ) (so_far : Bool) (i : StmtId) (ss : List StmtId) (n count before left : ℕ) → before + suc left ≡ count → i.0 ≡ n + before
      → Ends s (nat_le s i.0) ss (suc (n + before)) left → Ends s so_far (i ∷ ss) n count
  last_more s so_far i ss n count before left all here (inl h) =
      let last : i.0 ≡ n + count - 1 = omega (arith, all, here, h.1) in
      inr (omega (arith, all), ap (last_reaches s (nat_le s i.0)) h.0 ∙ ap (nat_le s) last)
  last_more s so_far i ss n count before left all here (inr h) =
      let last : suc (n + before) + left - 1 ≡ n + count - 1 = omega (arith, all) in
      inr (omega (arith, all), h.1 ∙ ap (nat_le s) last)

  ends_on : (s : ℕ) (so_far : Bool) (i : StmtId) (ss : List StmtId) (n count before left : ℕ) → before + left ≡ count
      → (i.0 ∷ numbers_in (block_made (onto (stmt_makers nodes)) ss)) ≡ numbers_from (n + before) left
      → ((n count : ℕ) → numbers_in (block_made (onto (stmt_makers nodes)) ss) ≡ numbers_from n count → Ends s (nat_le s i.0) ss n count)
      → Ends s so_far (i ∷ ss) n count
  ends_on s so_far i ss n count before zero all back next = absurd (cc back)
  ends_on s so_far i ss n count before (suc left) all back next =
      let here : i.0 ≡ n + before = cc back in
      let more : numbers_in (block_made (onto (stmt_makers nodes)) ss) ≡ numbers_from (suc (n + before)) left = cc back in
      last_more s so_far i ss n count before left all here (next (suc (n + before)) left more)

  ends : (s : ℕ) (so_far : Bool) (ss : List StmtId) → list_all (λ i. nat_lt i.0 (length nodes.stmts)) ss ≡ true → (n count : ℕ)
      → numbers_in (block_made (onto (stmt_makers nodes)) ss) ≡ numbers_from n count → Ends s so_far ss n count
  ends s so_far [] h n zero e = inl (refl, refl)
  ends s so_far [] h n (suc count) e = absurd (cc e)
  ends s so_far (i ∷ ss) h n count e =
      let p = both_true (nat_lt i.0 (length nodes.stmts)) (list_all (λ i. nat_lt i.0 (length nodes.stmts)) ss) h in
      let node = node_there nodes.stmts i.0 (lt_from i.0 (length nodes.stmts) p.0) in
      let rest = block_made (onto (stmt_makers nodes)) ss in
      let within = (numbers_of nodes (onto (stmt_makers nodes)) i.0 node.0.at node.0.inner node.0.stmt).within in
      let q = split within (i.0 ∷ numbers_in rest) n count (sym (numbers_at i node.0 node.1 rest) ∙ e) in
      ends_on s so_far i ss n count q.count q.left q.all q.back (ends s (nat_le s i.0) ss p.1)

  -- The bodies of the methods, one after another.
  body_for : (bs : List typed_code.Block) (m : ℕ) → m < length bs → (b : typed_code.Block) × (slice_get bs m ≡ Some b)
  body_for [] m h = absurd (omega (arith, h))
  body_for (b ∷ bs) zero h = (b, refl)
  body_for (b ∷ bs) (suc m) h = body_for bs m (omega (arith, h))

  record From (ms : List MethodTree) : Type 0 where
    first : ℕ
    count : ℕ
    are : flat_map (λ (m : MethodTree). numbers_in m.body) ms ≡ numbers_from first count

  next_numbers : (m : ℕ) → m < length nodes.methods → (n count : ℕ) → flat_map (λ (m : MethodTree). numbers_in m.body) (drop m (package_of nodes).methods) ≡ numbers_from n count
      → Split (numbers_in (method_at nodes m).body) (flat_map (λ (m : MethodTree). numbers_in m.body) (drop (m + 1) (package_of nodes).methods)) n count
  next_numbers m l n count e =
      split (numbers_in (method_at nodes m).body) (flat_map (λ (m : MethodTree). numbers_in m.body) (drop (m + 1) (package_of nodes).methods)) n count
      (sym (ap (flat_map (λ (m : MethodTree). numbers_in m.body)) (drop_at (package_of nodes).methods m (method_at nodes m) (method_known nodes typed m l))) ∙ e)

  numbers_to : (m : ℕ) → m ≤ length nodes.methods → From (drop m (package_of nodes).methods)
  numbers_to zero l = record { first = 0; count = length nodes.stmts; are = typed.numbered }
  numbers_to (suc m) l =
      let it = numbers_to m (omega (arith, l)) in
      let next = next_numbers m (omega (arith, l)) it.first it.count it.are in
      let one : m + 1 ≡ suc m = omega arith in
      record { first = it.first + next.count; count = next.left; are = ap (λ k. flat_map (λ (m : MethodTree). numbers_in m.body) (drop k (package_of nodes).methods)) (sym one) ∙ next.back }

  method_lacks : (m : ℕ) → m < length nodes.methods → (s : StmtId) → list_any (nat_eq s.0) (numbers_in (method_at nodes m).body) ≡ false → method_front nodes m s ≡ None
  unfolding method_front
  method_lacks m l s h =
      let b = body_for nodes.bodies m (omega (arith, l, typed.bodied)) in
      let is = body_is nodes m (record { typed = typed; known = l }) b.0 b.1 in
      let a = around_body (package_of nodes) (method_at nodes m) in
      let fs = zero_facts (local_at nodes m) 0 (method_at nodes m).locals in
      ap (λ t. front_in_body a s.0 fs (body_of t)) is
      ∙ lacks_below s.0 (length nodes.stmts) (length nodes.stmts) (omega arith) (omega arith) b.0.items (body_known nodes typed m b.0 b.1) (ap (λ t. list_any (nat_eq s.0) (numbers_in t)) (sym is) ∙ h) a fs

  later_lack : (fuel m : ℕ) → length nodes.methods ≤ m + fuel → (n count : ℕ) → flat_map (λ (m : MethodTree). numbers_in m.body) (drop m (package_of nodes).methods) ≡ numbers_from n count
      → (s : StmtId) → s.0 < n → front_from nodes m s ≡ None
  later_lack zero m l n count e s h = front_last nodes typed m (omega (arith, l)) s
  later_lack (suc fuel) m l n count e s h = by (nat_lt m (length nodes.methods)) refl (λ next. later_lack fuel (m + 1) (omega (arith, l)) (n + next.count) next.left next.back s (omega (arith, h)))
    where
      yes_below : nat_lt m (length nodes.methods) ≡ true → m < length nodes.methods
      yes_below t = grind (arith, nat_tests, t)

      not_below : nat_lt m (length nodes.methods) ≡ false → length nodes.methods ≤ m
      not_below t = grind (arith, nat_tests, t)

      by : (t : Bool) → nat_lt m (length nodes.methods) ≡ t
          → ((next : Split (numbers_in (method_at nodes m).body) (flat_map (λ (m : MethodTree). numbers_in m.body) (drop (m + 1) (package_of nodes).methods)) n count) → front_from nodes (m + 1) s ≡ None)
          → front_from nodes m s ≡ None
      by false t later = front_last nodes typed m (not_below t) s
      by true t later =
          let here = yes_below t in
          let next = next_numbers m here n count e in
          front_next nodes typed m here s
          ∙ neither_known (method_front nodes m s) (front_from nodes (m + 1) s)
          (method_lacks m here s (ap (λ xs. list_any (nat_eq s.0) xs) next.front ∙ below_all s.0 n next.count h))
          (later next)

  -- Whether a statement may stand in a method, by its last statement.
  module _ (m : ℕ) (l : m < length nodes.methods) (s : StmtId) (b : typed_code.Block) (body : slice_get nodes.bodies m ≡ Some b) where
    body_numbers : numbers_in (block_made (onto (stmt_makers nodes)) b.items) ≡ numbers_in (method_at nodes m).body
    body_numbers = ap numbers_in (sym (body_is nodes m (record { typed = typed; known = l }) b body))

    past_last : (n count : ℕ) → nat_le s.0 (n + count - 1) ≡ false → 1 ≤ count → n + count ≤ s.0
    past_last n count t h = grind (arith, nat_tests, t, h)

    up_to_last : (n count : ℕ) → nat_le s.0 (n + count - 1) ≡ true → 1 ≤ count → s.0 < n + count
    up_to_last n count t h = grind (arith, nat_tests, t, h)

    pub skipped : last_reaches s.0 false b.items ≡ false → method_front nodes m s ≡ None
    skipped h =
        let it = numbers_to m (omega (arith, l)) in
        let next = next_numbers m l it.first it.count it.are in
        let lack : list_any (nat_eq s.0) (numbers_from it.first next.count) ≡ false = by it.first next.count (ends s.0 false b.items (body_known nodes typed m b body) it.first next.count (body_numbers ∙ next.front)) in
        method_lacks m l s (ap (λ xs. list_any (nat_eq s.0) xs) next.front ∙ lack)
      where
        by : (n count : ℕ) → Ends s.0 false b.items n count → list_any (nat_eq s.0) (numbers_from n count) ≡ false
        by n count (inl k) = ap (λ c. list_any (nat_eq s.0) (numbers_from n c)) k.1
        by n count (inr k) = above_all s.0 n count (past_last n count (sym k.1 ∙ h) k.0)

    pub alone_in : last_reaches s.0 false b.items ≡ true → front_from nodes (m + 1) s ≡ None
    alone_in h =
        let it = numbers_to m (omega (arith, l)) in
        let next = next_numbers m l it.first it.count it.are in
        let within : s.0 < it.first + next.count = by it.first next.count (ends s.0 false b.items (body_known nodes typed m b body) it.first next.count (body_numbers ∙ next.front)) in
        later_lack (length nodes.methods) (m + 1) (omega arith) (it.first + next.count) next.left next.back s within
      where
        by : (n count : ℕ) → Ends s.0 false b.items n count → s.0 < n + count
        by n count (inl k) = let no : last_reaches s.0 false b.items ≡ false = ap (last_reaches s.0 false) k.0 in absurd (cc (no, h))
        by n count (inr k) = up_to_last n count (sym k.1 ∙ h) k.0
