-- Branches and loops whose parts have run.
use Rattle.std.proofs.Common.{◌≡◌, ℕ, zero, suc, ◌<◌, ◌≤◌, Bool, true, false, List, [], ◌∷◌, get_or, length, Option, Some, None, inl, inr, refl, sym, ◌∙◌, subst, arith}
use Rattle.std.specs.Prelude.{◌==◌, option_map}
use Rattle.std.proofs.lemmas.Bool.Decides.{nat_tests}
use Rattle.turns.specs.Run.{Outcome}
use Rattle.wf_ast.specs.declared.numbers.StmtId.{StmtId}
use Rattle.wf_ast.specs.declared.typed_code.Arm.{Arm}
use Rattle.wf_ast.specs.declared.typed_code.Block as typed_code
use Rattle.wf_ast.specs.declared.typed_nodes.TypedNodes.{TypedNodes}
use Rattle.wf_ast.specs.TypedTree.{CondTree, Site, Head, Block, end, choose, loop}
use Rattle.wf_ast.specs.TypedTrees.{cond_in, if_made, no_statement, onto, otherwise_made, stmt_makers, tree_of}
use Rattle.wf_ast.specs.Value.{truth_of}
use Rattle.wf_meaning.specs.SourceState.{Behind, behind_if, again, stop, untouched}
use Rattle.wf_meaning.specs.World.{World}
use Rattle.wf_meaning.specs.SourceStep.{Ending, entered_loop, with_some}
use Rattle.wf_mean_stmts.specs.declared.stage.Stage.{Stage}
use Rattle.wf_mean_stmts.specs.Stages.{body_on, sight_on, vars_on}
use Rattle.wf_mean_flows.specs.declared.flows.Flow.{Flow}
use Rattle.wf_mean_flows.specs.declared.flows.Flow.TheVariants.{Falls, Stuck, Out}
use Rattle.wf_mean_flows.specs.declared.looping.Turned.{Turned}
use Rattle.wf_mean_flows.specs.declared.looping.Turned.TheVariants as turned
use Rattle.wf_mean_flows.specs.Flows.{Flows, Runs, RunsBlock, RunsRounds, block_made_of, calls_below, chain_of_arms, made_of, run_on, site_of, went}
use Rattle.wf_mean_flows.specs.declared.looping.Round.{Round}
use Rattle.wf_mean_flows.specs.declared.looping.Round.TheVariants.{Again, Ends}
use Rattle.wf_mean_flows.specs.Loops.{Rounds, turned_on}
use Rattle.wf_mean_runs.specs.Picking.{block_picked, by_truth, else_block, picked}
use Rattle.wf_mean_flows.proofs.SimpleLaws.{still_runs}
use Rattle.wf_mean_flows.proofs.RunLaws.{chooses, out_of_if, stepped, stuck_choice}

module _ (nodes : TypedNodes) (level : ℕ) (site : Site) (chained : Bool) (cond : CondTree) (a c : Block) (old new : Stage) (flow : Flow) where
  pub runs_then : Some true ≡ truth_of (sight_on nodes old) cond → RunsBlock nodes level a old new flow → Runs nodes level (λ rest. choose site chained cond a c rest) untouched old new flow
  runs_then e runs = λ rest behind.
      let P : Outcome (Ending × World) → Type 0 = λ o. Flows nodes level (choose site chained cond a c rest) rest behind flow new o in
      subst P (sym (chooses nodes level site chained cond a c rest behind old true e))
      (out_of_if nodes level a (choose site chained cond a c rest) rest behind flow new _ (λ at items h. inl h) (runs (behind_if rest behind)))

  pub runs_else : Some false ≡ truth_of (sight_on nodes old) cond → RunsBlock nodes level c old new flow → Runs nodes level (λ rest. choose site chained cond a c rest) untouched old new flow
  runs_else e runs = λ rest behind.
      let P : Outcome (Ending × World) → Type 0 = λ o. Flows nodes level (choose site chained cond a c rest) rest behind flow new o in
      subst P (sym (chooses nodes level site chained cond a c rest behind old false e))
      (out_of_if nodes level c (choose site chained cond a c rest) rest behind flow new _ (λ at items h. inr (inl h)) (runs (behind_if rest behind)))

  pub runs_neither : None ≡ truth_of (sight_on nodes old) cond → Runs nodes level (λ rest. choose site chained cond a c rest) untouched old old Stuck
  runs_neither e = λ rest behind. stuck_choice nodes level site chained cond a c rest behind old e

-- A part that makes the same of what follows.
pub runs_like : (nodes : TypedNodes) (level : ℕ) (part like : Block → Block) (old new : Stage) (flow : Flow) → ((rest : Block) → part rest ≡ like rest) → Runs nodes level like untouched old new flow → Runs nodes level part untouched old new flow
runs_like nodes level part like old new flow same runs = λ rest behind.
    let P : Block → Type 0 = λ b. Flows nodes level b rest behind flow new (run_on nodes level old untouched b behind) in
    subst P (sym (same rest)) (runs rest behind)

-- The arms of an `if`: one of them runs, or what stands after the last `else`.
counted : (o : Option ℕ) (i : ℕ) → Some i ≡ option_map (λ i. suc i) o → (j : ℕ) × (i ≡ suc j) × (Some j ≡ o)
counted None i h = absurd (cc (h))
counted (Some j) i h = (j, cc (h), refl)

module _ (nodes : TypedNodes) (level : ℕ) (site : Site) (other : Option typed_code.Block) (old new : Stage) (flow : Flow) where
  abbrev Chain : (chained : Bool) → List Arm → Type 0
  Chain chained arms = Runs nodes level (chain_of_arms nodes site chained arms other) untouched old new flow

  abbrev Tail : List Arm → Type 0
  Tail more = RunsBlock nodes level (otherwise_made (tree_of nodes) (onto (stmt_makers nodes)) site more other) old new flow

  abbrev Taken : List Arm → ℕ → Type 0
  Taken arms i = RunsBlock nodes level (block_picked nodes arms other i) old new flow

  tail_alone : (other' : Option typed_code.Block) → RunsBlock nodes level (else_block nodes other') old new flow → RunsBlock nodes level (otherwise_made (tree_of nodes) (onto (stmt_makers nodes)) site [] other') old new flow
  tail_alone None h = h
  tail_alone (Some b) h = h

  by_test : (arm : Arm) (more : List Arm) (chained : Bool) (i : ℕ) (t : Option Bool) → t ≡ truth_of (sight_on nodes old) (cond_in (tree_of nodes arm.cond)) → Some i ≡ by_truth t (picked nodes old more) → Taken (arm ∷ more) i
      → ((j : ℕ) → Some j ≡ picked nodes old more → Taken more j → Tail more) → Chain chained (arm ∷ more)
  by_test arm more chained i None t e h tail = absurd (cc (e))
  by_test arm more chained i (Some true) t e h tail =
      let z : i ≡ zero = cc (e) in
      runs_then nodes level site chained (cond_in (tree_of nodes arm.cond)) (block_made_of nodes arm.body.items) (otherwise_made (tree_of nodes) (onto (stmt_makers nodes)) site more other) old new flow t (subst (Taken (arm ∷ more)) z h)
  by_test arm more chained i (Some false) t e h tail =
      let k = counted (picked nodes old more) i e in
      runs_else nodes level site chained (cond_in (tree_of nodes arm.cond)) (block_made_of nodes arm.body.items) (otherwise_made (tree_of nodes) (onto (stmt_makers nodes)) site more other) old new flow t (tail k.0 k.2 (subst (Taken (arm ∷ more)) k.1 h))

  runs_from : (more : List Arm) (arm : Arm) (chained : Bool) (i : ℕ) → Some i ≡ picked nodes old (arm ∷ more) → Taken (arm ∷ more) i → Chain chained (arm ∷ more)
  runs_from [] arm chained i e h = by_test arm [] chained i (truth_of (sight_on nodes old) (cond_in (tree_of nodes arm.cond))) refl e h (λ j k taken. tail_alone other taken)
  runs_from (next ∷ more) arm chained i e h =
      by_test arm (next ∷ more) chained i (truth_of (sight_on nodes old) (cond_in (tree_of nodes arm.cond))) refl e h
      (λ j k taken. λ behind. runs_from more next true j k taken end behind)

  -- A whole `if`.
  pub if_runs : (arms : List Arm) (i : ℕ) (part : Block → Block) → 0 < length arms → ((rest : Block) → part rest ≡ if_made (tree_of nodes) (onto (stmt_makers nodes)) site arms other rest)
      → Some i ≡ picked nodes old arms → Taken arms i → Runs nodes level part untouched old new flow
  if_runs [] i part some made e h = absurd (omega (arith, some))
  if_runs (arm ∷ more) i part some made e h = runs_like nodes level part (chain_of_arms nodes site false (arm ∷ more) other) old new flow made (runs_from more arm false i e h)

module _ (nodes : TypedNodes) (level : ℕ) (site : Site) (other : Option typed_code.Block) (old : Stage) where
  stuck_test : (arm : Arm) (more : List Arm) (chained : Bool) (t : Option Bool) → t ≡ truth_of (sight_on nodes old) (cond_in (tree_of nodes arm.cond)) → None ≡ by_truth t (picked nodes old more)
      → (None ≡ picked nodes old more → RunsBlock nodes level (otherwise_made (tree_of nodes) (onto (stmt_makers nodes)) site more other) old old Stuck) → Runs nodes level (chain_of_arms nodes site chained (arm ∷ more) other) untouched old old Stuck
  stuck_test arm more chained None t e tail = runs_neither nodes level site chained (cond_in (tree_of nodes arm.cond)) (block_made_of nodes arm.body.items) (otherwise_made (tree_of nodes) (onto (stmt_makers nodes)) site more other) old old Stuck t
  stuck_test arm more chained (Some true) t e tail = absurd (cc (e))
  stuck_test arm more chained (Some false) t e tail =
      runs_else nodes level site chained (cond_in (tree_of nodes arm.cond)) (block_made_of nodes arm.body.items) (otherwise_made (tree_of nodes) (onto (stmt_makers nodes)) site more other) old old Stuck t (tail (uncounted (picked nodes old more) e))
    where
      uncounted : (o : Option ℕ) → None ≡ option_map (λ i. suc i) o → None ≡ o
      uncounted None h = refl
      uncounted (Some j) h = absurd (cc (h))

  stuck_from : (more : List Arm) (arm : Arm) (chained : Bool) → None ≡ picked nodes old (arm ∷ more) → Runs nodes level (chain_of_arms nodes site chained (arm ∷ more) other) untouched old old Stuck
  stuck_from [] arm chained e = stuck_test arm [] chained (truth_of (sight_on nodes old) (cond_in (tree_of nodes arm.cond))) refl e (λ none. absurd (cc (none)))
  stuck_from (next ∷ more) arm chained e = stuck_test arm (next ∷ more) chained (truth_of (sight_on nodes old) (cond_in (tree_of nodes arm.cond))) refl e (λ none behind. stuck_from more next true none end behind)

  pub if_stuck : (arms : List Arm) (part : Block → Block) → ((rest : Block) → part rest ≡ if_made (tree_of nodes) (onto (stmt_makers nodes)) site arms other rest)
      → None ≡ picked nodes old arms → Runs nodes level part untouched old old Stuck
  if_stuck [] part made e = absurd (cc (e))
  if_stuck (arm ∷ more) part made e = runs_like nodes level part (chain_of_arms nodes site false (arm ∷ more) other) old old Stuck made (stuck_from more arm false e)

-- One that has no arm stands for no statement.
pub if_none : (nodes : TypedNodes) (level : ℕ) (s : StmtId) (arms : List Arm) (other : Option typed_code.Block) (stage : Stage) (none : Bool) → none ≡ (length arms == 0) → none ≡ true
    → ((rest : Block) → made_of nodes s rest ≡ if_made (tree_of nodes) (onto (stmt_makers nodes)) (site_of nodes s) arms other rest) → Runs nodes level (made_of nodes s) untouched stage stage Stuck
unfolding with_some
if_none nodes level s [] other stage none e t made = still_runs nodes level s no_statement untouched stage Stuck made tt (λ rest behind. refl)
if_none nodes level s (arm ∷ arms) other stage none e t made = let z : length (arm ∷ arms) ≡ 0 = grind (arith, nat_tests, e, t) in absurd (omega (arith, z))

pub some_there : (arms : List Arm) (none : Bool) → none ≡ (length arms == 0) → none ≡ false → 0 < length arms
some_there arms none e f = grind (arith, nat_tests, e, f)

-- The block that was picked.
pub picked_arm : (nodes : TypedNodes) (arms : List Arm) (other : Option typed_code.Block) (i : ℕ) (d : Arm) → i < length arms → block_picked nodes arms other i ≡ block_made_of nodes (get_or arms i d).body.items
picked_arm nodes [] other i d h = absurd (omega (arith, h))
picked_arm nodes (arm ∷ arms) other zero d h = refl
picked_arm nodes (arm ∷ arms) other (suc i) d h = picked_arm nodes arms other i d (omega (arith, h))

pub picked_else : (nodes : TypedNodes) (arms : List Arm) (other : Option typed_code.Block) (i : ℕ) → length arms ≤ i → block_picked nodes arms other i ≡ else_block nodes other
picked_else nodes [] other i h = refl
picked_else nodes (arm ∷ arms) other zero h = absurd (omega (arith, h))
picked_else nodes (arm ∷ arms) other (suc i) h = picked_else nodes arms other i (omega (arith, h))

-- Loops.
module _ (nodes : TypedNodes) (level : ℕ) (site : Site) (head : Head) (body : Block) (old : Stage) where
  entered : (rest : Block) (behind : Behind) (t : Turned) → went (body_on nodes old) (calls_below nodes level) old.turns (entered_loop (body_on nodes old) site head body rest behind (vars_on nodes old)) ≡ turned_on nodes level old site head body rest behind t
      → run_on nodes level old untouched (loop site head body rest) behind ≡ turned_on nodes level old site head body rest behind t
  entered rest behind t e = stepped nodes level (body_on nodes old) old.turns untouched (loop site head body rest) behind (vars_on nodes old) ∙ e

  abbrev pub Enters : Turned → Type 0
  Enters t = (rest : Block) (behind : Behind) → went (body_on nodes old) (calls_below nodes level) old.turns (entered_loop (body_on nodes old) site head body rest behind (vars_on nodes old)) ≡ turned_on nodes level old site head body rest behind t

  pub loops_into : (new : Stage) (flow : Flow) → Enters turned.Into → RunsRounds nodes level site head body old new flow → Runs nodes level (loop site head body) untouched old new flow
  loops_into new flow e runs = λ rest behind.
      let P : Outcome (Ending × World) → Type 0 = λ o. Flows nodes level (loop site head body rest) rest behind flow new o in
      subst P (sym (entered rest behind turned.Into (e rest behind))) (runs rest behind)

  pub loops_past : Enters turned.Past → Runs nodes level (loop site head body) untouched old old Falls
  loops_past e = λ rest behind. entered rest behind turned.Past (e rest behind)

  pub loops_out : Enters turned.Out → Runs nodes level (loop site head body) untouched old old Out
  loops_out e = λ rest behind. entered rest behind turned.Out (e rest behind)

  pub loops_stuck : Enters turned.Stuck → Runs nodes level (loop site head body) untouched old old Stuck
  loops_stuck e = λ rest behind. entered rest behind turned.Stuck (e rest behind)

-- Passes of a loop's body.
module _ (nodes : TypedNodes) (level level' : ℕ) (same : level' ≡ level) (site : Site) (head : Head) (body : Block) (old mid ended new : Stage) (flow : Flow) (round : Round)
    (runs : (rest : Block) (behind : Behind) → run_on nodes level old untouched body (again site head body rest behind) ≡ run_on nodes level mid untouched body (again site head body rest behind))
    (one : RunsBlock nodes level' body mid ended flow)
    (closed : (rest : Block) (behind : Behind) (o : Outcome (Ending × World)) → Flows nodes level body end (again site head body rest behind) flow ended o → Rounds nodes level site head body rest behind ended new round o) where
  passed : (rest : Block) (behind : Behind) → Rounds nodes level site head body rest behind ended new round (run_on nodes level mid untouched body (again site head body rest behind))
  passed rest behind =
      let P : ℕ → Type 0 = λ l. RunsBlock nodes l body mid ended flow in
      closed rest behind _ (subst P same one (again site head body rest behind))

  pub runs_again : round ≡ Again → (rest : Block) (behind : Behind) → run_on nodes level old untouched body (again site head body rest behind) ≡ run_on nodes level new untouched body (again site head body rest behind)
  runs_again is rest behind =
      let P : Round → Type 0 = λ r. Rounds nodes level site head body rest behind ended new r (run_on nodes level mid untouched body (again site head body rest behind)) in
      runs rest behind ∙ (subst P is (passed rest behind)).0

  pub takes_turn : round ≡ Again → new.turns < ended.turns
  takes_turn is =
      let P : Round → Type 0 = λ r. Rounds nodes level site head body end stop ended new r (run_on nodes level mid untouched body (again site head body end stop)) in
      (subst P is (passed end stop)).1

  pub round_ends : (f : Flow) → round ≡ Ends f → RunsRounds nodes level site head body old new f
  round_ends f is = λ rest behind.
      let P : Round → Type 0 = λ r. Rounds nodes level site head body rest behind ended new r (run_on nodes level mid untouched body (again site head body rest behind)) in
      let Q : Outcome (Ending × World) → Type 0 = λ o. Flows nodes level (loop site head body rest) rest behind f new o in
      subst Q (sym (runs rest behind)) (subst P is (passed rest behind))
