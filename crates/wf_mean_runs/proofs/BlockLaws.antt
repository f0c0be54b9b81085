-- Statements one after the other.
use Rattle.std.proofs.Common.{◌≡◌, ℕ, zero, suc, ◌+◌, ◌<◌, ◌≤◌, true, false, List, [], ◌∷◌, drop, get_or, take, length, Option, Some, None, inr, refl, sym, ap, ◌∙◌, subst, arith}
use Rattle.std.specs.Prelude.{slice_get, nat_lt, option_map, unwrap_or}
use Rattle.std.specs.List.{list_all}
use Rattle.std.proofs.lemmas.Bool.Decides.{nat_tests}
use Rattle.turns.specs.Run.{Outcome}
use Rattle.wf_text.specs.declared.place.Place.{Place}
use Rattle.wf_ast.specs.declared.numbers.ExprId.{ExprId}
use Rattle.wf_ast.specs.declared.numbers.StmtId.{StmtId}
use Rattle.wf_ast.specs.declared.typed_code.Stmt.{Stmt}
use Rattle.wf_ast.specs.declared.typed_code.Stmt.TheVariants as stmts
use Rattle.wf_ast.specs.declared.typed_code.StmtNode.{StmtNode}
use Rattle.wf_ast.specs.declared.typed_nodes.TypedNodes.{TypedNodes}
use Rattle.wf_ast.specs.TypedTree.{ValueTree, Block, end}
use Rattle.wf_ast.specs.TypedTrees.{no_place, stmt_made, onto, stmt_makers, tree_of}
use Rattle.wf_ast.specs.TypedInvariant.{IsTyped}
use Rattle.wf_meaning.specs.SourceState.{Behind, untouched}
use Rattle.wf_meaning.specs.Remaining.{Items}
use Rattle.wf_meaning.specs.World.{World}
use Rattle.wf_meaning.specs.SourceStep.{Ending}
use Rattle.wf_ast.proofs.Arena.{both_true}
use Rattle.wf_points.proofs.StatementArena.{stmt_is}
use Rattle.wf_mean_stmts.specs.declared.stage.Stage.{Stage}
use Rattle.wf_mean_flows.specs.declared.flows.Flow.{Flow}
use Rattle.wf_mean_flows.specs.declared.flows.Flow.TheVariants.{Falls, Breaks, Continues, Returns, Suspends, Out, Stuck}
use Rattle.wf_mean_flows.specs.Flows.{Flows, Runs, RunsBlock, StandsIn, block_made_of, inner_of, made_of, place_of, run_on}
use Rattle.wf_mean_runs.specs.Frames.{is_falls}

stmt_there : (ns : List StmtNode) (s : ℕ) → s < length ns → (n : StmtNode) × (slice_get ns s ≡ Some n)
stmt_there [] s h = absurd (omega (arith, h))
stmt_there (n ∷ ns) zero h = (n, refl)
stmt_there (n ∷ ns) (suc s) h = stmt_there ns s (omega (arith, h))

-- A point after a statement is one of the statement with what follows it.
module _ (nodes : TypedNodes) (look : ExprId → ValueTree) (inner : StmtId → Block → Block) (at : Place) (items : Items) (rest : Block) (behind : Behind) (h : StandsIn at items rest behind) where
  by_stmt : (n : ℕ) (own close : Place) (st : Stmt) → StandsIn at items (stmt_made nodes look inner n (record { stmt = st; at = own; inner = close }) rest) behind
  by_stmt n own close (stmts.Assign target op value) = inr h
  by_stmt n own close (stmts.Call target keep callee args) = inr h
  by_stmt n own close (stmts.If [] otherwise) = inr h
  by_stmt n own close (stmts.If (arm ∷ arms) otherwise) = inr (inr h)
  by_stmt n own close (stmts.While head body) = inr h
  by_stmt n own close (stmts.Break w) = inr h
  by_stmt n own close (stmts.Continue w) = inr h
  by_stmt n own close (stmts.Return None) = inr h
  by_stmt n own close (stmts.Return (Some e)) = inr h
  by_stmt n own close (stmts.Yield s) = inr h
  by_stmt n own close (stmts.Assert goal axiom_ref) = inr h

module _ (nodes : TypedNodes) (typed : IsTyped nodes) where
  pub behind_one : (s : StmtId) (at : Place) (items : Items) (rest : Block) (behind : Behind) → s.0 < length nodes.stmts → StandsIn at items rest behind → StandsIn at items (made_of nodes s rest) behind
  behind_one s at items rest behind known h =
      let it = stmt_there nodes.stmts s.0 known in
      let n = it.0 in
      let P : Block → Type 0 = λ part. StandsIn at items part behind in
      subst P (sym (stmt_is nodes s n rest it.1 typed.stmts_ordered)) (by_stmt nodes (tree_of nodes) (onto (stmt_makers nodes)) at items rest behind h s.0 n.at n.inner n.stmt)

-- A flow that leaves a part leaves every part that the part stands in.
pub passes : (nodes : TypedNodes) (level : ℕ) (part rest part' rest' : Block) (behind : Behind) (flow : Flow) (stage : Stage) (o o' : Outcome (Ending × World)) → is_falls flow ≡ false → o' ≡ o
    → ((at : Place) (items : Items) → StandsIn at items part behind → StandsIn at items part' behind)
    → Flows nodes level part rest behind flow stage o → Flows nodes level part' rest' behind flow stage o'
passes nodes level part rest part' rest' behind Falls stage o o' f e stands h = absurd (cc (f))
passes nodes level part rest part' rest' behind (Breaks w) stage o o' f e stands h = e ∙ h
passes nodes level part rest part' rest' behind (Continues w) stage o o' f e stands h = e ∙ h
passes nodes level part rest part' rest' behind (Returns v) stage o o' f e stands h = e ∙ h
passes nodes level part rest part' rest' behind (Suspends status at done) stage o o' f e stands h = (h.0, stands at h.0 h.1, e ∙ h.2)
passes nodes level part rest part' rest' behind Out stage o o' f e stands h = e ∙ h
passes nodes level part rest part' rest' behind Stuck stage o o' f e stands h = e ∙ h

pub falls_is : (flow : Flow) → is_falls flow ≡ true → flow ≡ Falls
falls_is Falls h = refl
falls_is (Breaks w) h = absurd (cc (h))
falls_is (Continues w) h = absurd (cc (h))
falls_is (Returns v) h = absurd (cc (h))
falls_is (Suspends status at done) h = absurd (cc (h))
falls_is Out h = absurd (cc (h))
falls_is Stuck h = absurd (cc (h))

-- The first of the statements that follow.
pub first_of : (nodes : TypedNodes) (ss : List StmtId) (i : ℕ) (d : StmtId) → i < length ss → block_made_of nodes (drop i ss) ≡ made_of nodes (get_or ss i d) (block_made_of nodes (drop (i + 1) ss))
first_of nodes [] i d h = absurd (omega (arith, h))
first_of nodes (s ∷ ss) zero d h = refl
first_of nodes (s ∷ ss) (suc i) d h = let e : suc i + 1 ≡ suc (i + 1) = omega arith in first_of nodes ss i d (omega (arith, h)) ∙ ap (λ j. made_of nodes (get_or ss i d) (block_made_of nodes (drop j (s ∷ ss)))) (sym e)

-- What a statement makes, by its node.
whole_node : (o : Option StmtNode) (st : Stmt) → option_map (λ (node : StmtNode). node.stmt) o ≡ Some st
    → o ≡ Some (record { stmt = st; at = unwrap_or (option_map (λ (node : StmtNode). node.at) o) no_place; inner = unwrap_or (option_map (λ (node : StmtNode). node.inner) o) no_place })
whole_node None st h = absurd (cc (h))
whole_node (Some node) st h = let e : node.stmt ≡ st = cc (h) in ap (λ it. Some (record { stmt = it; at = node.at; inner = node.inner })) e

pub node_made : (nodes : TypedNodes) (typed : IsTyped nodes) (s : StmtId) (st : Stmt) → option_map (λ (node : StmtNode). node.stmt) (slice_get nodes.stmts s.0) ≡ Some st
    → (rest : Block) → made_of nodes s rest ≡ stmt_made nodes (tree_of nodes) (onto (stmt_makers nodes)) s.0 (record { stmt = st; at = place_of nodes s.0; inner = inner_of nodes s.0 }) rest
node_made nodes typed s st h rest = stmt_is nodes s (record { stmt = st; at = place_of nodes s.0; inner = inner_of nodes s.0 }) rest (whole_node (slice_get nodes.stmts s.0) st h) typed.stmts_ordered

-- One more statement of a block has run: `s`, with the number `i` in the list.
module _ (nodes : TypedNodes) (level level' : ℕ) (same : level' ≡ level) (all : Block) (ss : List StmtId) (i : ℕ) (s : StmtId) (first : block_made_of nodes (drop i ss) ≡ made_of nodes s (block_made_of nodes (drop (i + 1) ss))) (old mid new : Stage) (flow : Flow)
    (runs : (behind : Behind) → run_on nodes level old untouched all behind ≡ run_on nodes level mid untouched (block_made_of nodes (drop i ss)) behind)
    (one : Runs nodes level' (made_of nodes s) untouched mid new flow) where
  from_first : (behind : Behind) → run_on nodes level old untouched all behind ≡ run_on nodes level mid untouched (made_of nodes s (block_made_of nodes (drop (i + 1) ss))) behind
  from_first behind = runs behind ∙ ap (λ b. run_on nodes level mid untouched b behind) first

  alike : Runs nodes level (made_of nodes s) untouched mid new flow
  alike = let P : ℕ → Type 0 = λ l. Runs nodes l (made_of nodes s) untouched mid new flow in subst P same one

  pub leaves : is_falls flow ≡ false → ((at : Place) (items : Items) (behind : Behind) → StandsIn at items (block_made_of nodes (drop i ss)) behind → StandsIn at items all behind)
      → RunsBlock nodes level all old new flow
  leaves off stands = λ behind.
      let rest = block_made_of nodes (drop (i + 1) ss) in
      passes nodes level (made_of nodes s rest) rest all end behind flow new
      (run_on nodes level mid untouched (made_of nodes s rest) behind) (run_on nodes level old untouched all behind) off (from_first behind)
      (λ at items h. let Q : Block → Type 0 = λ b. StandsIn at items b behind in stands at items behind (subst Q (sym first) h)) (alike rest behind)

  pub goes_on : is_falls flow ≡ true → (behind : Behind) → run_on nodes level old untouched all behind ≡ run_on nodes level new untouched (block_made_of nodes (drop (i + 1) ss)) behind
  goes_on on behind =
      let rest = block_made_of nodes (drop (i + 1) ss) in
      let F : Flow → Type 0 = λ f. Flows nodes level (made_of nodes s rest) rest behind f new (run_on nodes level mid untouched (made_of nodes s rest) behind) in
      from_first behind ∙ subst F (falls_is flow on) (alike rest behind)

-- The numbers of a block's statements lie below a number that is at most that of all statements.
pub known_inside : (ss : List StmtId) (top n i : ℕ) (d : StmtId) → top ≤ n → list_all (λ (inner : StmtId). nat_lt inner.0 top) ss ≡ true → i < length ss → (get_or ss i d).0 < n
known_inside [] top n i d h k l = absurd (omega (arith, l))
known_inside (s ∷ ss) top n zero d h k l = let p : nat_lt s.0 top ≡ true = (both_true (nat_lt s.0 top) (list_all (λ (inner : StmtId). nat_lt inner.0 top) ss) k).0 in let q : s.0 < top = grind (arith, nat_tests, p) in omega (arith, h, q)
known_inside (s ∷ ss) top n (suc i) d h k l = known_inside ss top n i d h (both_true (nat_lt s.0 top) (list_all (λ (inner : StmtId). nat_lt inner.0 top) ss) k).1 (omega (arith, l))

-- The same, where the list was read in other words.
pub first_in : (nodes : TypedNodes) (ss read : List StmtId) → read ≡ ss → (i : ℕ) (d : StmtId) → i < length read → block_made_of nodes (drop i ss) ≡ made_of nodes (get_or read i d) (block_made_of nodes (drop (i + 1) ss))
first_in nodes ss read same i d h = rw (sym same) (first_of nodes read i d h)

pub known_in : (ss read : List StmtId) → read ≡ ss → (top n i : ℕ) (d : StmtId) → top ≤ n → list_all (λ (inner : StmtId). nat_lt inner.0 top) ss ≡ true → i < length read → (get_or read i d).0 < n
known_in ss read same top n i d h k l = known_inside read top n i d h (let P : List StmtId → Type 0 = λ xs. list_all (λ (inner : StmtId). nat_lt inner.0 top) xs ≡ true in subst P (sym same) k) l

-- What a statement makes, by what its node is.
pub by_node : (nodes : TypedNodes) (s : StmtId) (read : Stmt)
    → ((rest : Block) → made_of nodes s rest ≡ stmt_made nodes (tree_of nodes) (onto (stmt_makers nodes)) s.0 (record { stmt = read; at = place_of nodes s.0; inner = inner_of nodes s.0 }) rest)
    → (st : Stmt) → read ≡ st → (rest : Block) → made_of nodes s rest ≡ stmt_made nodes (tree_of nodes) (onto (stmt_makers nodes)) s.0 (record { stmt = st; at = place_of nodes s.0; inner = inner_of nodes s.0 }) rest
by_node nodes s read made st same rest = made rest ∙ ap (λ it. stmt_made nodes (tree_of nodes) (onto (stmt_makers nodes)) s.0 (record { stmt = it; at = place_of nodes s.0; inner = inner_of nodes s.0 }) rest) same

pub one_below : (ss : List StmtId) (i top new : ℕ) (d : StmtId) → i < length ss → list_all (λ (s : StmtId). nat_lt s.0 top) (take i ss) ≡ true → top ≤ new → (get_or ss i d).0 < new → list_all (λ (s : StmtId). nat_lt s.0 new) (take (suc i) ss) ≡ true
one_below [] i top new d h k l m = absurd (omega (arith, h))
one_below (s ∷ ss) zero top new d h k l m = let q : nat_lt s.0 new ≡ true = grind (arith, nat_tests, m) in rw q refl
one_below (s ∷ ss) (suc i) top new d h k l m =
    let p = both_true (nat_lt s.0 top) (list_all (λ (s : StmtId). nat_lt s.0 top) (take i ss)) k in
    let q : nat_lt s.0 new ≡ true = less p.0 in
    rw (q, one_below ss i top new d (omega (arith, h)) p.1 l m) refl
  where
    less : nat_lt s.0 top ≡ true → nat_lt s.0 new ≡ true
    less e = grind (arith, nat_tests, e, l)
