-- What a walk comes to at a statement, by its node.
use Rattle.std.proofs.Common.{◌≡◌, ℕ, zero, suc, ◌<◌, ◌≤◌, Bool, true, false, ◌&&◌, List, [], ◌∷◌, length, Option, Some, None, Result, Ok, Err, nat_lt, nat_eq, refl, sym, ap, ◌∙◌, subst, arith}
use Rattle.std.specs.Prelude.{slice_get, option_map, unwrap_or, if◌then◌else◌}
use Rattle.std.specs.List.{list_all}
use Rattle.std.proofs.lemmas.Bool.Decides.{nat_tests}
use Rattle.std.proofs.lemmas.Option.{slice_get_within}
use Rattle.wf_text.specs.declared.place.Place.{Place}
use Rattle.wf_text.specs.declared.rules.Refusal.{Refusal}
use Rattle.wf_ast.specs.declared.numbers.StmtId.{StmtId}
use Rattle.wf_ast.specs.declared.typed_code.Arm.{Arm}
use Rattle.wf_ast.specs.declared.typed_code.Block as typed_code
use Rattle.wf_ast.specs.declared.typed_code.Stmt.{Stmt}
use Rattle.wf_ast.specs.declared.typed_code.Stmt.TheVariants as stmts
use Rattle.wf_ast.specs.declared.typed_code.StmtNode.{StmtNode}
use Rattle.wf_ast.specs.declared.typed_nodes.TypedNodes.{TypedNodes}
use Rattle.wf_ast.specs.TypedTree.{Simple, Site, Head, Block, end}
use Rattle.wf_ast.specs.TypedTrees.{no_place, no_statement, tree_of, head_made, block_made, otherwise_made, stmt_made, onto, stmt_makers}
use Rattle.wf_ast.specs.TypedInvariant.{is_expr, block_below, optional_block_below, stmt_below, IsTyped}
use Rattle.wf_ast.specs.NodeKinds.{node_cond}
use Rattle.wf_ast.proofs.Arena.{both_true, numbered_from_zero}
use Rattle.wf_points.proofs.StatementArena.{stmt_is}
use Rattle.wf_facts_exprs.specs.Claims.{Claim}
use Rattle.wf_facts_exprs.specs.Demands.{or_else}
use Rattle.wf_facts.specs.FactLists.{with_condition, common}
use Rattle.wf_loops.specs.LoopRules.{front_refusal, head_list, body_list}
use Rattle.wf_loops.specs.LoopNodes.{is_loop, head_at}
use Rattle.wf_loops.proofs.NodeLemmas.{head_found, place_found}
use Rattle.wf_bounds_stmts.specs.Statements.{Form, single, branches, repeated, Body, nothing_more, statement, Blocks, no_block, block, Reading, by_itself, reading, body_of}
use Rattle.wf_bounds_stmts.specs.FactRules.{Known, Around, loop_numbered, inside, single_refusal, statement_refusal, known_behind, branch_fronts, fronts, in_all, merged, behind, behind_loop, limit_behind, ends_refusal, unless}
use Rattle.wf_bounds_stmts.specs.Passing.{simple_of, simple_at, site_at, has_no_block, is_single}
use Rattle.wf_bounds.specs.Walks.{Reached, found, passed, going_on, where_passed, is_sought, walked_body, walked_blocks, joined, joined_all}
use Rattle.wf_bounds.specs.WalkNodes.{all_loops, all_round, walked_at, walked_listed, walked_arms, conditions_of, arms_refusal, walked_if, left_loop, walked_loop, walked_single, walked_node, stands_well, parts_stand, block_stands}
use Rattle.wf_bounds.proofs.RoundLemmas.{walk_same}
use Rattle.wf_bounds.proofs.StandingLemmas.{loop_known, node_stands}

-- What follows a walk.
going_end : (walked : Result (Reached Known) Refusal) → going_on walked (λ known. where_passed known (λ gs. Ok (passed (Some gs)))) ≡ walked
going_end (Ok (found fs)) = refl
going_end (Ok (passed None)) = refl
going_end (Ok (passed (Some gs))) = refl
going_end (Err r) = refl

going_twice : {X Y Z : Type 0} (walked : Result (Reached X) Refusal) (f : X → Y) (next : Y → Result (Reached Z) Refusal) → going_on (going_on walked (λ x. Ok (passed (f x)))) next ≡ going_on walked (λ x. next (f x))
going_twice (Ok (found fs)) f next = refl
going_twice (Ok (passed x)) f next = refl
going_twice (Err r) f next = refl

going_by : {X Y : Type 0} (walked : Result (Reached X) Refusal) (f g : X → Result (Reached Y) Refusal) → ((x : X) → f x ≡ g x) → going_on walked f ≡ going_on walked g
going_by (Ok (found fs)) f g h = refl
going_by (Ok (passed x)) f g h = h x
going_by (Err r) f g h = refl

-- A statement, and then what follows it.
module _ (a : Around) (sought : Option StmtId) where
  then_rest : (test : Bool) (fs : List Claim) (walked : Result (Reached Known) Refusal) (rest : List Claim → Result (Reached Known) Refusal)
      → (if test then Ok (found fs) else going_on walked (λ k. where_passed k rest))
      ≡ going_on (if test then Ok (found fs) else going_on walked (λ k. where_passed k (λ gs. Ok (passed (Some gs))))) (λ k. where_passed k rest)
  then_rest true fs walked rest = refl
  then_rest false fs walked rest = sym (ap (λ w. going_on w (λ k. where_passed k rest)) (going_end walked))

  stmt_first : (fs : List Claim) (site : Site) (form : Form) (blocks : Blocks) (rest : Body)
      → walked_body a sought fs (statement site form blocks rest) ≡ going_on (walked_body a sought fs (statement site form blocks nothing_more)) (λ k. where_passed k (λ gs. walked_body a sought gs rest))
  stmt_first fs site form blocks rest =
      then_rest (is_sought sought site.number) fs
      (unless (statement_refusal a fs site form) (going_on (walked_blocks (inside a site form) sought (fronts fs form) blocks) (λ ends. unless (ends_refusal fs site form ends) (Ok (passed (behind fs form ends))))))
      (λ gs. walked_body a sought gs rest)

  -- A statement alone.
  stmt_alone : (fs : List Claim) (site : Site) (form : Form) (blocks : Blocks)
      → walked_body a sought fs (statement site form blocks nothing_more)
      ≡ (if is_sought sought site.number then Ok (found fs)
      else unless (statement_refusal a fs site form) (going_on (walked_blocks (inside a site form) sought (fronts fs form) blocks) (λ ends. unless (ends_refusal fs site form ends) (Ok (passed (behind fs form ends))))))
  stmt_alone fs site form blocks =
      ap (λ w. if is_sought sought site.number then Ok (found fs) else w)
      (going_end (unless (statement_refusal a fs site form) (going_on (walked_blocks (inside a site form) sought (fronts fs form) blocks) (λ ends. unless (ends_refusal fs site form ends) (Ok (passed (behind fs form ends)))))))

-- What a node makes: one statement, by its form and its blocks, which is by itself.
module _ (nodes : TypedNodes) (inner : StmtId → Block → Block) where
  pub record OneStatement (n : ℕ) (node : StmtNode) : Type 0 where
    pub form : Form
    pub blocks : Blocks
    pub made : (rest : Block) → reading (stmt_made nodes (tree_of nodes) inner n node rest) ≡ by_itself (statement (record { number = n; at = node.at }) form blocks (body_of rest))

  abbrev pub one_statement : (n : ℕ) (at close : Place) (st : Stmt) → OneStatement n (record { stmt = st; at = at; inner = close })
  one_statement n at close (stmts.Assign target op value) = record { form = single (simple_of nodes close (stmts.Assign target op value)); blocks = no_block; made = λ rest. refl }
  one_statement n at close (stmts.Call target keep callee args) = record { form = single (simple_of nodes close (stmts.Call target keep callee args)); blocks = no_block; made = λ rest. refl }
  one_statement n at close (stmts.If [] otherwise) = record { form = single no_statement; blocks = no_block; made = λ rest. refl }
  one_statement n at close (stmts.If (arm ∷ arms) otherwise) =
      let r = reading (otherwise_made (tree_of nodes) inner (record { number = n; at = at }) (arm ∷ arms) otherwise) in
      record { form = branches r.conditions; blocks = r.blocks; made = λ rest. refl }
  one_statement n at close (stmts.While head body) = record { form = repeated (head_made (tree_of nodes) close head); blocks = block (body_of (block_made inner body.items)) no_block; made = λ rest. refl }
  one_statement n at close (stmts.Break w) = record { form = single (simple_of nodes close (stmts.Break w)); blocks = no_block; made = λ rest. refl }
  one_statement n at close (stmts.Continue w) = record { form = single (simple_of nodes close (stmts.Continue w)); blocks = no_block; made = λ rest. refl }
  one_statement n at close (stmts.Return None) = record { form = single (simple_of nodes close (stmts.Return None)); blocks = no_block; made = λ rest. refl }
  one_statement n at close (stmts.Return (Some e)) = record { form = single (simple_of nodes close (stmts.Return (Some e))); blocks = no_block; made = λ rest. refl }
  one_statement n at close (stmts.Yield s) = record { form = single (simple_of nodes close (stmts.Yield s)); blocks = no_block; made = λ rest. refl }
  one_statement n at close (stmts.Assert goal ax) = record { form = single (simple_of nodes close (stmts.Assert goal ax)); blocks = no_block; made = λ rest. refl }

pub lt_from : (m n : ℕ) → nat_lt m n ≡ true → m < n
lt_from m n h = grind (arith, nat_tests, h)

lt_more : (k m n : ℕ) → m ≤ n → nat_lt k m ≡ true → nat_lt k n ≡ true
lt_more k m n l h = grind (arith, nat_tests, l, h)

pub ids_more : (m n : ℕ) → m ≤ n → (ss : List StmtId) → list_all (λ s. nat_lt s.0 m) ss ≡ true → list_all (λ s. nat_lt s.0 n) ss ≡ true
ids_more m n l [] h = refl
ids_more m n l (s ∷ ss) h =
    let p = both_true (nat_lt s.0 m) (list_all (λ s. nat_lt s.0 m) ss) h in
    rw (lt_more s.0 m n l p.0, ids_more m n l ss p.1) refl

pub node_there : (ns : List StmtNode) (s : ℕ) → s < length ns → (n : StmtNode) × (slice_get ns s ≡ Some n)
node_there [] s h = absurd (omega (arith, h))
node_there (n ∷ ns) zero h = (n, refl)
node_there (n ∷ ns) (suc s) h = node_there ns s (omega (arith, h))

merged_joined : (fs : List Claim) (ks : List Known) → Some (in_all fs ks) ≡ joined_all (Some fs) ks
merged_joined fs [] = refl
merged_joined fs (None ∷ ks) = merged_joined fs ks
merged_joined fs (Some gs ∷ ks) = merged_joined (common fs gs) ks

merged_is : (ks : List Known) → merged ks ≡ joined_all None ks
merged_is [] = refl
merged_is (None ∷ ks) = merged_is ks
merged_is (Some fs ∷ ks) = merged_joined fs ks

module _ (nodes : TypedNodes) (typed : IsTyped nodes) where
  abbrev pub one_at : (s : StmtId) (n : StmtNode) → slice_get nodes.stmts s.0 ≡ Some n → OneStatement nodes (onto (stmt_makers nodes)) s.0 n
  one_at s n is = one_statement nodes (onto (stmt_makers nodes)) s.0 n.at n.inner n.stmt

  pub read_at : (s : StmtId) (n : StmtNode) (is : slice_get nodes.stmts s.0 ≡ Some n) (rest : Block)
      → reading (onto (stmt_makers nodes) s rest) ≡ by_itself (statement (record { number = s.0; at = n.at }) (one_at s n is).form (one_at s n is).blocks (body_of rest))
  read_at s n is rest = ap reading (stmt_is nodes s n rest is typed.stmts_ordered) ∙ (one_at s n is).made rest

  -- Statements in order are by themselves.
  pub block_alone : (ss : List StmtId) → list_all (λ s. nat_lt s.0 (length nodes.stmts)) ss ≡ true → reading (block_made (onto (stmt_makers nodes)) ss) ≡ by_itself (body_of (block_made (onto (stmt_makers nodes)) ss))
  block_alone [] h = refl
  block_alone (s ∷ ss) h =
      let p = both_true (nat_lt s.0 (length nodes.stmts)) (list_all (λ s. nat_lt s.0 (length nodes.stmts)) ss) h in
      let n = node_there nodes.stmts s.0 (lt_from s.0 (length nodes.stmts) p.0) in
      let r = read_at s n.0 n.1 (block_made (onto (stmt_makers nodes)) ss) in
      r ∙ sym (ap (λ (r : Reading). by_itself r.body) r)

  module _ (m : ℕ) (sought : Option StmtId) where
    first_at : (s : StmtId) (n : StmtNode) → slice_get nodes.stmts s.0 ≡ Some n → (fs : List Claim) (rest : Block)
        → walked_body (all_round nodes m) sought fs (body_of (onto (stmt_makers nodes) s rest)) ≡ going_on (walked_at nodes m sought fs s) (λ k. where_passed k (λ gs. walked_body (all_round nodes m) sought gs (body_of rest)))
    unfolding walked_at
    first_at s n is fs rest =
        let site : Site = record { number = s.0; at = n.at } in
        let one = one_at s n is in
        let a = all_round nodes m in
        ap (λ (r : Reading). walked_body a sought fs r.body) (read_at s n is rest)
        ∙ stmt_first a sought fs site one.form one.blocks (body_of rest)
        ∙ ap (λ (r : Reading). going_on (walked_body a sought fs r.body) (λ k. where_passed k (λ gs. walked_body a sought gs (body_of rest)))) (sym (read_at s n is end))

    -- Statements in order.
    pub listed : (ss : List StmtId) → list_all (λ s. nat_lt s.0 (length nodes.stmts)) ss ≡ true → (fs : List Claim)
        → walked_body (all_round nodes m) sought fs (body_of (block_made (onto (stmt_makers nodes)) ss)) ≡ walked_listed (walked_at nodes m sought) fs ss
    listed [] h fs = refl
    listed (s ∷ ss) h fs =
        let p = both_true (nat_lt s.0 (length nodes.stmts)) (list_all (λ s. nat_lt s.0 (length nodes.stmts)) ss) h in
        let n = node_there nodes.stmts s.0 (lt_from s.0 (length nodes.stmts) p.0) in
        first_at s n.0 n.1 fs (block_made (onto (stmt_makers nodes)) ss)
        ∙ going_by (walked_at nodes m sought fs s) (λ k. where_passed k (λ gs. walked_body (all_round nodes m) sought gs (body_of (block_made (onto (stmt_makers nodes)) ss)))) (λ k. where_passed k (λ gs. walked_listed (walked_at nodes m sought) gs ss))
        (λ known. known_same known (λ gs. walked_body (all_round nodes m) sought gs (body_of (block_made (onto (stmt_makers nodes)) ss))) (λ gs. walked_listed (walked_at nodes m sought) gs ss) (λ gs. listed ss p.1 gs))
      where
        known_same : (known : Known) (f g : List Claim → Result (Reached Known) Refusal) → ((gs : List Claim) → f gs ≡ g gs) → where_passed known f ≡ where_passed known g
        known_same None f g h = refl
        known_same (Some gs) f g h = h gs

    module _ (k : ℕ) (small : k ≤ length nodes.stmts) (site : Site) where
      block_listed : (b : typed_code.Block) → block_below k b ≡ true → (fs : List Claim) → walked_body (all_round nodes m) sought fs (body_of (block_made (onto (stmt_makers nodes)) b.items)) ≡ walked_listed (walked_at nodes m sought) fs b.items
      block_listed b h fs = listed b.items (ids_more k (length nodes.stmts) small b.items h) fs

      abbrev others : List Arm → Option typed_code.Block → Reading
      others arms otherwise = reading (otherwise_made (tree_of nodes) (onto (stmt_makers nodes)) site arms otherwise)

      -- The conditions of an `if`, and where its blocks meet.
      conditions_are : (arms : List Arm) (otherwise : Option typed_code.Block) → optional_block_below k otherwise ≡ true → (others arms otherwise).conditions ≡ conditions_of nodes arms
      conditions_are [] None o = refl
      conditions_are [] (Some b) o = ap (λ (r : Reading). r.conditions) (block_alone b.items (ids_more k (length nodes.stmts) small b.items o))
      conditions_are (arm ∷ arms) otherwise o = ap (λ cs. node_cond nodes arm.cond ∷ cs) (conditions_are arms otherwise o)

      arms_meet : (next : Known → Result (Reached Known) Refusal) (met : Known) (fs : List Claim) (arms : List Arm) (otherwise : Option typed_code.Block)
          → list_all (λ a. is_expr nodes a.cond && block_below k a.body) arms ≡ true → optional_block_below k otherwise ≡ true
          → going_on (walked_blocks (all_round nodes m) sought (branch_fronts fs (others arms otherwise).conditions) (others arms otherwise).blocks) (λ ends. next (joined_all met ends))
          ≡ going_on (walked_arms nodes (walked_at nodes m sought) met fs arms otherwise) next
      arms_meet next met fs [] None h o = refl
      arms_meet next met fs [] (Some b) h o =
          let r = block_alone b.items (ids_more k (length nodes.stmts) small b.items o) in
          ap (λ (r : Reading). going_on (walked_blocks (all_round nodes m) sought (branch_fronts fs r.conditions) r.blocks) (λ ends. next (joined_all met ends))) r
          ∙ going_twice (walked_body (all_round nodes m) sought fs (body_of (block_made (onto (stmt_makers nodes)) b.items))) (λ known. known ∷ []) (λ ends. next (joined_all met ends))
          ∙ ap (λ w. going_on w (λ known. next (joined met known))) (block_listed b o fs)
          ∙ sym (going_twice (walked_listed (walked_at nodes m sought) fs b.items) (joined met) next)
      arms_meet next met fs (arm ∷ arms) otherwise h o =
          let p = both_true (is_expr nodes arm.cond && block_below k arm.body) (list_all (λ a. is_expr nodes a.cond && block_below k a.body) arms) h in
          let q = both_true (is_expr nodes arm.cond) (block_below k arm.body) p.0 in
          let c = node_cond nodes arm.cond in
          let yes_list = with_condition fs c true in
          let no_list = with_condition fs c false in
          let rest = others arms otherwise in
          let later = walked_blocks (all_round nodes m) sought (branch_fronts no_list rest.conditions) rest.blocks in
          after_first (walked_body (all_round nodes m) sought yes_list (body_of (block_made (onto (stmt_makers nodes)) arm.body.items))) later (λ ends. next (joined_all met ends))
          ∙ ap (λ w. going_on w (λ known. going_on later (λ ends. next (joined_all met (known ∷ ends))))) (block_listed arm.body q.1 yes_list)
          ∙ going_by (walked_listed (walked_at nodes m sought) yes_list arm.body.items) (λ known. going_on later (λ ends. next (joined_all met (known ∷ ends)))) (λ known. going_on (walked_arms nodes (walked_at nodes m sought) (joined met known) no_list arms otherwise) next)
          (λ known. arms_meet next (joined met known) no_list arms otherwise p.1 o)
          ∙ sym (going_apart (walked_listed (walked_at nodes m sought) yes_list arm.body.items) (λ known. walked_arms nodes (walked_at nodes m sought) (joined met known) no_list arms otherwise) next)
        where
          after_first : (one : Result (Reached Known) Refusal) (others : Result (Reached (List Known)) Refusal) (next : List Known → Result (Reached Known) Refusal)
              → going_on (going_on one (λ known. going_on others (λ ends. Ok (passed (known ∷ ends))))) next ≡ going_on one (λ known. going_on others (λ ends. next (known ∷ ends)))
          after_first (Ok (found fs)) others next = refl
          after_first (Err r) others next = refl
          after_first (Ok (passed known)) others next = going_twice others (λ ends. known ∷ ends) next

          going_apart : (one : Result (Reached Known) Refusal) (f : Known → Result (Reached Known) Refusal) (next : Known → Result (Reached Known) Refusal) → going_on (going_on one f) next ≡ going_on one (λ known. going_on (f known) next)
          going_apart (Ok (found fs)) f next = refl
          going_apart (Err r) f next = refl
          going_apart (Ok (passed known)) f next = refl

unless_both : (p q : Option Refusal) (walked : Result (Reached Known) Refusal) → unless p (unless q walked) ≡ unless (or_else p q) walked
unless_both None q walked = refl
unless_both (Some r) q walked = refl

-- What is found of a statement with a number.
pub site_found : (nodes : TypedNodes) (s : StmtId) (n : StmtNode) → slice_get nodes.stmts s.0 ≡ Some n → site_at nodes s ≡ record { number = s.0; at = n.at }
unfolding site_at
site_found nodes s n is = ap (λ (o : Option StmtNode). record { number = s.0; at = unwrap_or (option_map (λ node. node.at) o) no_place }) is

pub simple_found : (nodes : TypedNodes) (s : StmtId) (n : StmtNode) → slice_get nodes.stmts s.0 ≡ Some n → simple_at nodes s ≡ simple_of nodes n.inner n.stmt
unfolding simple_at
simple_found nodes s n is = ap (λ (o : Option StmtNode). unwrap_or (option_map (λ node. simple_of nodes node.inner node.stmt) o) no_statement) is

module _ (nodes : TypedNodes) (typed : IsTyped nodes) (m : ℕ) (sought : Option StmtId) where
  single_walk : (fs : List Claim) (site : Site) (s : Simple)
      → walked_body (all_round nodes m) sought fs (statement site (single s) no_block nothing_more) ≡ (if is_sought sought site.number then Ok (found fs) else walked_single (all_round nodes m) fs site s)
  single_walk fs site s =
      let a = all_round nodes m in
      stmt_alone a sought fs site (single s) no_block
      ∙ ap (λ w. if is_sought sought site.number then Ok (found fs) else w) (unless_both (single_refusal a fs site s) (limit_behind site.at (known_behind fs s)) (Ok (passed (known_behind fs s))))

  module _ (k : ℕ) (small : k ≤ length nodes.stmts) where
    if_walk : (fs : List Claim) (site : Site) (arms : List Arm) (otherwise : Option typed_code.Block) → list_all (λ a. is_expr nodes a.cond && block_below k a.body) arms ≡ true → optional_block_below k otherwise ≡ true
        → walked_body (all_round nodes m) sought fs (statement site (branches (others nodes typed m sought k small site arms otherwise).conditions) (others nodes typed m sought k small site arms otherwise).blocks nothing_more)
        ≡ (if is_sought sought site.number then Ok (found fs) else walked_if nodes (walked_at nodes m sought) fs site arms otherwise)
    if_walk fs site arms otherwise h o =
        let a = all_round nodes m in
        let r = others nodes typed m sought k small site arms otherwise in
        let next = λ (known : Known). unless (limit_behind site.at known) (Ok (passed known)) in
        let walk = walked_blocks a sought (branch_fronts fs r.conditions) r.blocks in
        stmt_alone a sought fs site (branches r.conditions) r.blocks
        ∙ ap (λ w. if is_sought sought site.number then Ok (found fs) else unless (arms_refusal fs site r.conditions) w)
        (going_by walk (λ ends. next (merged ends)) (λ ends. next (joined_all None ends)) (λ ends. ap next (merged_is ends)) ∙ arms_meet nodes typed m sought k small site next None fs arms otherwise h o)
        ∙ ap (λ cs. if is_sought sought site.number then Ok (found fs) else unless (arms_refusal fs site cs) (going_on (walked_arms nodes (walked_at nodes m sought) None fs arms otherwise) next))
        (conditions_are nodes typed m sought k small site arms otherwise o)

    loop_walk : (fs : List Claim) (site : Site) (head : Head) (body : typed_code.Block) → block_below k body ≡ true → loop_numbered (all_loops nodes) site.number ≡ Some head
        → walked_body (all_round nodes m) sought fs (statement site (repeated head) (block (body_of (block_made (onto (stmt_makers nodes)) body.items)) no_block) nothing_more)
        ≡ (if is_sought sought site.number then Ok (found fs) else walked_loop (walked_at nodes m sought) fs site.at head body.items)
    loop_walk fs site head body b known =
        let a = all_round nodes m in
        let tree = body_of (block_made (onto (stmt_makers nodes)) body.items) in
        let front = body_list (head_list head) head in
        let next = λ (ends : List Known). unless (ends_refusal fs site (repeated head) ends) (Ok (passed (behind_loop head))) in
        stmt_alone a sought fs site (repeated head) (block tree no_block)
        ∙ ap (λ w. if is_sought sought site.number then Ok (found fs) else unless (front_refusal fs site.at head) w)
        (going_twice (walked_body (inside a site (repeated head)) sought front tree) (λ known. known ∷ []) next
        ∙ ap (λ w. going_on w (left_loop site.at head))
        (walk_same a.context sought ((site.number, head) ∷ all_loops nodes) (all_loops nodes) (record { by = λ w t. at w (nat_eq site.number w) refl }) front tree
        ∙ block_listed nodes typed m sought k small site body b front))
      where
        number_is : (w : ℕ) → nat_eq site.number w ≡ true → site.number ≡ w
        number_is w e = grind (arith, nat_tests, e)

        at : (w : ℕ) (same : Bool) → nat_eq site.number w ≡ same → (if same then Some head else loop_numbered (all_loops nodes) w) ≡ loop_numbered (all_loops nodes) w
        at w true e = sym known ∙ ap (loop_numbered (all_loops nodes)) (number_is w e)
        at w false e = refl

  -- A statement by its node.
  single_at : (s : StmtId) (at close : Place) (st : Stmt) → slice_get nodes.stmts s.0 ≡ Some (record { stmt = st; at = at; inner = close }) → (fs : List Claim)
      → walked_body (all_round nodes m) sought fs (statement (record { number = s.0; at = at }) (single (simple_of nodes close st)) no_block nothing_more)
      ≡ (if is_sought sought s.0 then Ok (found fs) else walked_single (all_round nodes m) fs (site_at nodes s) (simple_at nodes s))
  single_at s at close st is fs =
      let a = all_round nodes m in
      let n : StmtNode = record { stmt = st; at = at; inner = close } in
      single_walk fs (record { number = s.0; at = at }) (simple_of nodes close st)
      ∙ ap (λ site. if is_sought sought s.0 then Ok (found fs) else walked_single a fs site (simple_of nodes close st)) (sym (site_found nodes s n is))
      ∙ ap (λ x. if is_sought sought s.0 then Ok (found fs) else walked_single a fs (site_at nodes s) x) (sym (simple_found nodes s n is))

  module _ (s : StmtId) (small : s.0 ≤ length nodes.stmts) where
    made_walk : (at close : Place) (st : Stmt) → slice_get nodes.stmts s.0 ≡ Some (record { stmt = st; at = at; inner = close }) → stmt_below nodes s.0 st ≡ true
        → parts_stand nodes m s st ≡ true → (fs : List Claim)
        → walked_body (all_round nodes m) sought fs (body_of (stmt_made nodes (tree_of nodes) (onto (stmt_makers nodes)) s.0 (record { stmt = st; at = at; inner = close }) end))
        ≡ walked_node nodes m sought (walked_at nodes m sought) fs s st
    made_walk at close (stmts.Assign target op value) is h w fs = single_at s at close (stmts.Assign target op value) is fs
    made_walk at close (stmts.Call target keep callee args) is h w fs = single_at s at close (stmts.Call target keep callee args) is fs
    made_walk at close (stmts.If [] otherwise) is h w fs = absurd (cc w)
    made_walk at close (stmts.If (arm ∷ arms) otherwise) is h w fs =
        let p = both_true (list_all (λ a. is_expr nodes a.cond && block_below s.0 a.body) (arm ∷ arms)) (optional_block_below s.0 otherwise) h in
        let n : StmtNode = record { stmt = stmts.If (arm ∷ arms) otherwise; at = at; inner = close } in
        if_walk s.0 small fs (record { number = s.0; at = at }) (arm ∷ arms) otherwise p.0 p.1
        ∙ ap (λ site. if is_sought sought s.0 then Ok (found fs) else walked_if nodes (walked_at nodes m sought) fs site (arm ∷ arms) otherwise) (sym (site_found nodes s n is))
    made_walk at close (stmts.While head body) is h w fs =
        let p = both_true (is_expr nodes head.cond) (list_all (λ c. is_expr nodes c.1) head.clauses && block_below s.0 body) h in
        let q = both_true (list_all (λ c. is_expr nodes c.1) head.clauses) (block_below s.0 body) p.1 in
        let n : StmtNode = record { stmt = stmts.While head body; at = at; inner = close } in
        let l = both_true (is_loop nodes s) (block_stands nodes m s.0 body) w in
        let e : head_at nodes s ≡ head_made (tree_of nodes) close head = head_found nodes s n head body is refl in
        loop_walk s.0 small fs (record { number = s.0; at = at }) (head_made (tree_of nodes) close head) body q.1 (loop_known nodes s l.0 ∙ ap (λ x. Some x) e)
        ∙ ap (λ x. if is_sought sought s.0 then Ok (found fs) else walked_loop (walked_at nodes m sought) fs at x body.items) (sym e)
        ∙ ap (λ x. if is_sought sought s.0 then Ok (found fs) else walked_loop (walked_at nodes m sought) fs x (head_at nodes s) body.items) (sym (place_found nodes s n is))
    made_walk at close (stmts.Break v) is h w fs = single_at s at close (stmts.Break v) is fs
    made_walk at close (stmts.Continue v) is h w fs = single_at s at close (stmts.Continue v) is fs
    made_walk at close (stmts.Return None) is h w fs = single_at s at close (stmts.Return None) is fs
    made_walk at close (stmts.Return (Some e)) is h w fs = single_at s at close (stmts.Return (Some e)) is fs
    made_walk at close (stmts.Yield v) is h w fs = single_at s at close (stmts.Yield v) is fs
    made_walk at close (stmts.Assert goal ax) is h w fs = single_at s at close (stmts.Assert goal ax) is fs

  -- A statement that stands in the method.
  pub node_walks : (s : StmtId) (n : StmtNode) → slice_get nodes.stmts s.0 ≡ Some n → parts_stand nodes m s n.stmt ≡ true → (fs : List Claim)
      → walked_at nodes m sought fs s ≡ walked_node nodes m sought (walked_at nodes m sought) fs s n.stmt
  unfolding walked_at
  node_walks s n is w fs =
      let below : s.0 < length nodes.stmts = slice_get_within nodes.stmts s.0 n is in
      let kept = numbered_from_zero (λ s node. stmt_below nodes s node.stmt) nodes.stmts s.0 n typed.stmts_ordered is in
      ap (λ b. walked_body (all_round nodes m) sought fs (body_of b)) (stmt_is nodes s n end is typed.stmts_ordered)
      ∙ made_walk s (omega arith) n.at n.inner n.stmt is kept w fs

-- The same of a statement that an accessor lends.
module _ (nodes : TypedNodes) (typed : IsTyped nodes) (m : ℕ) where
  pub parts_of_stmt : (s : StmtId) (st : Stmt) → s.0 < length nodes.stmts → option_map (λ node. node.stmt) (slice_get nodes.stmts s.0) ≡ Some st → stands_well nodes m s ≡ true → parts_stand nodes m s st ≡ true
  parts_of_stmt s st h e w =
      let n = node_there nodes.stmts s.0 h in
      let P : Option StmtNode → Type 0 = λ o. option_map (λ node. node.stmt) o ≡ Some st in
      let same : n.0.stmt ≡ st = cc (subst P n.1 e) in
      let Q : Stmt → Type 0 = λ st. parts_stand nodes m s st ≡ true in
      subst Q same (node_stands nodes typed m s n.0 n.1 w)

  pub stmt_walks : (sought : Option StmtId) (s : StmtId) (st : Stmt) → s.0 < length nodes.stmts → option_map (λ node. node.stmt) (slice_get nodes.stmts s.0) ≡ Some st → stands_well nodes m s ≡ true → (fs : List Claim)
      → walked_at nodes m sought fs s ≡ walked_node nodes m sought (walked_at nodes m sought) fs s st
  stmt_walks sought s st h e w fs =
      let n = node_there nodes.stmts s.0 h in
      let P : Option StmtNode → Type 0 = λ o. option_map (λ node. node.stmt) o ≡ Some st in
      let same : n.0.stmt ≡ st = cc (subst P n.1 e) in
      let Q : Stmt → Type 0 = λ st. walked_at nodes m sought fs s ≡ walked_node nodes m sought (walked_at nodes m sought) fs s st in
      subst Q same (node_walks nodes typed m sought s n.0 n.1 (node_stands nodes typed m s n.0 n.1 w) fs)

pub alone_stmt : (nodes : TypedNodes) (s : StmtId) (st : Stmt) → option_map (λ node. node.stmt) (slice_get nodes.stmts s.0) ≡ Some st → is_single nodes s ≡ has_no_block st
unfolding is_single
alone_stmt nodes s st h = by (slice_get nodes.stmts s.0) h
  where
    by : (o : Option StmtNode) → option_map (λ node. node.stmt) o ≡ Some st → unwrap_or (option_map (λ node. has_no_block node.stmt) o) false ≡ has_no_block st
    by None h = absurd (cc h)
    by (Some node) h = let e : node.stmt ≡ st = cc h in ap has_no_block e
