-- Loops, step by step.
use Rattle.std.proofs.Common.{◌≡◌, ℕ, suc, ◌<◌, Bool, true, false, ◌||◌, Option, Some, None, refl, sym, ◌∙◌, arith, nat_eq}
use Rattle.std.proofs.lemmas.Bool.Decides.{nat_tests}
use Rattle.turns.specs.Run.{Go, Outcome, More, Lost}
use Rattle.wf_text.specs.declared.place.Place.{Place}
use Rattle.wf_ast.specs.declared.numbers.StmtId.{StmtId}
use Rattle.wf_ast.specs.declared.typed_nodes.TypedNodes.{TypedNodes}
use Rattle.wf_ast.specs.TypedTree.{CondTree, truth, flag, compare, same_status, junction, negation, closed, has_category, Site, Head, Block, end}
use Rattle.wf_ast.specs.Value.{State, truth_of}
use Rattle.wf_ast.specs.WellTyped.{is_word_true}
use Rattle.wf_meaning.specs.SourceState.{Behind, again, untouched}
use Rattle.wf_meaning.specs.Remaining.{marker_of}
use Rattle.wf_meaning.specs.World.{Body, Vars, World}
use Rattle.wf_meaning.specs.SourceStep.{At, Callees, Ending, all_hold, at_block, at_exit, at_head, broken, entered_loop, state_of, taking_turn, tested, went_back, where_true}
use Rattle.wf_mean_exprs.specs.MachineState.{sight}
use Rattle.wf_mean_stmts.specs.declared.stage.Stage.{Stage}
use Rattle.wf_mean_stmts.specs.Stages.{body_on, sight_on, vars_on}
use Rattle.wf_mean_flows.specs.declared.flows.Flow.TheVariants as flows
use Rattle.wf_mean_flows.specs.declared.looping.Turned.{Turned}
use Rattle.wf_mean_flows.specs.declared.looping.Turned.TheVariants.{Into, Past, Out, Stuck}
use Rattle.wf_mean_flows.specs.Flows.{Flows, calls_below, went}
use Rattle.wf_mean_flows.specs.Loops.{Rounds, past_if, round_of, turned_on}
use Rattle.wf_mean_flows.proofs.RunLaws.{stepped}

-- A condition that is false isn't the word `true`.
no_word : (s : State) (c : CondTree) → truth_of s c ≡ Some false → is_word_true c ≡ false
no_word s (truth at true) e = absurd (cc (e))
no_word s (truth at false) e = refl
no_word s (flag at path) e = refl
no_word s (compare at sign a op b) e = refl
no_word s (same_status at sign a one b) e = refl
no_word s (junction at both joined a b) e = refl
no_word s (negation at a) e = refl
no_word s (closed at a) e = refl
no_word s (has_category at a category) e = refl

module _ (nodes : TypedNodes) (level : ℕ) (stage : Stage) (site : Site) (head : Head) (body rest : Block) (behind : Behind) where
  past : (hold : Bool) → went (body_on nodes stage) (calls_below nodes level) stage.turns (where_true hold (Go (at_block rest behind (vars_on nodes stage)))) ≡ turned_on nodes level stage site head body rest behind (past_if hold)
  unfolding where_true
  past true = refl
  past false = refl

  -- A loop whose condition is false.
  pub left_loop : (hold : Bool) → Some false ≡ truth_of (sight_on nodes stage) head.cond → hold ≡ all_hold (sight_on nodes stage) at_exit head.clauses
      → went (body_on nodes stage) (calls_below nodes level) stage.turns (tested (body_on nodes stage) site head body rest behind (vars_on nodes stage) (truth_of (sight_on nodes stage) head.cond)) ≡ turned_on nodes level stage site head body rest behind (past_if hold)
  unfolding sight
  left_loop hold e h = rw (sym e, no_word _ head.cond (sym e), sym h) (past hold)

  -- A loop is entered.
  pub enters : (o : Outcome (Ending × World)) → true ≡ all_hold (sight_on nodes stage) at_head head.clauses
      → went (body_on nodes stage) (calls_below nodes level) stage.turns (tested (body_on nodes stage) site head body rest behind (vars_on nodes stage) (truth_of (sight_on nodes stage) head.cond)) ≡ o
      → went (body_on nodes stage) (calls_below nodes level) stage.turns (entered_loop (body_on nodes stage) site head body rest behind (vars_on nodes stage)) ≡ o
  unfolding sight where_true
  enters o h e = rw (sym h) e

  pub enters_not : false ≡ all_hold (sight_on nodes stage) at_head head.clauses
      → went (body_on nodes stage) (calls_below nodes level) stage.turns (entered_loop (body_on nodes stage) site head body rest behind (vars_on nodes stage)) ≡ Lost
  unfolding sight where_true
  enters_not h = rw (sym h) refl

  -- A `break` of the loop.
  pub breaks : (hold : Bool) (w : ℕ) → nat_eq site.number w ≡ true → hold ≡ all_hold (sight_on nodes stage) at_exit head.clauses
      → went (body_on nodes stage) (calls_below nodes level) stage.turns (broken (body_on nodes stage) (marker_of w (again site head body rest behind)) (vars_on nodes stage)) ≡ turned_on nodes level stage site head body rest behind (past_if hold)
  unfolding sight
  breaks hold w e h = rw (e, sym h) (past hold)

-- The way back.
by_test : (b : Body) (calls : Callees) (left : ℕ) (x : At) (test : Bool) → went b calls (suc left) (taking_turn (suc left) (where_true test (Go x))) ≡ went b calls left (where_true test (Go x))
unfolding taking_turn where_true
by_test b calls left x true = refl
by_test b calls left x false = refl

turn_taken : (b : Body) (calls : Callees) (left : ℕ) (site : Site) (head : Head) (body rest : Block) (behind : Behind) (vars : Vars) (o : Option Bool)
    → went b calls (suc left) (taking_turn (suc left) (tested b site head body rest behind vars o)) ≡ went b calls left (tested b site head body rest behind vars o)
unfolding taking_turn
turn_taken b calls left site head body rest behind vars None = refl
turn_taken b calls left site head body rest behind vars (Some true) = refl
turn_taken b calls left site head body rest behind vars (Some false) = by_test b calls left (at_block rest behind vars) (is_word_true head.cond || all_hold (state_of b vars) at_exit head.clauses)

module _ (nodes : TypedNodes) (level : ℕ) (stage : Stage) (site : Site) (head : Head) (body rest : Block) (behind : Behind) where
  pub back_stuck : false ≡ all_hold (sight_on nodes stage) at_head head.clauses
      → went (body_on nodes stage) (calls_below nodes level) stage.turns (went_back (body_on nodes stage) stage.turns site head body rest behind (vars_on nodes stage)) ≡ Lost
  unfolding sight where_true
  back_stuck h = rw (sym h) refl

  pub back_out : true ≡ all_hold (sight_on nodes stage) at_head head.clauses → stage.turns ≡ 0
      → went (body_on nodes stage) (calls_below nodes level) stage.turns (went_back (body_on nodes stage) stage.turns site head body rest behind (vars_on nodes stage)) ≡ More
  unfolding sight where_true taking_turn
  back_out h n = rw (sym h, n) refl

  pub back_turn : (o : Outcome (Ending × World)) (left : ℕ) → true ≡ all_hold (sight_on nodes stage) at_head head.clauses → stage.turns ≡ suc left
      → went (body_on nodes stage) (calls_below nodes level) left (tested (body_on nodes stage) site head body rest behind (vars_on nodes stage) (truth_of (sight_on nodes stage) head.cond)) ≡ o
      → went (body_on nodes stage) (calls_below nodes level) stage.turns (went_back (body_on nodes stage) stage.turns site head body rest behind (vars_on nodes stage)) ≡ o
  unfolding sight where_true
  back_turn o left h n e = rw (sym h, n) (turn_taken (body_on nodes stage) (calls_below nodes level) left site head body rest behind (vars_on nodes stage) _ ∙ e)

-- Passes.
module _ (nodes : TypedNodes) (level : ℕ) (s : StmtId) (at : Place) (head : Head) (body rest : Block) (behind : Behind) (old new : Stage) (o : Outcome (Ending × World)) where
  abbrev here : Site
  here = record { number = s.0; at = at }

  pub by_turn : (turned : Turned) → o ≡ turned_on nodes level new here head body rest behind turned → (turned ≡ Into → new.turns < old.turns) → Rounds nodes level here head body rest behind old new (round_of turned) o
  by_turn Into e less = (e, less refl)
  by_turn Past e less = e
  by_turn Out e less = e
  by_turn Stuck e less = e

  same_number : (w : StmtId) → w.0 ≡ s.0 → nat_eq s.0 w.0 ≡ true
  same_number w e = grind (arith, nat_tests, e)

  -- The end of the body, and a `continue`.
  pub falls_back : (turned : Turned) → went (body_on nodes old) (calls_below nodes level) old.turns (went_back (body_on nodes old) old.turns here head body rest behind (vars_on nodes old)) ≡ turned_on nodes level new here head body rest behind turned
      → Flows nodes level body end (again here head body rest behind) flows.Falls old o → o ≡ turned_on nodes level new here head body rest behind turned
  falls_back turned e h = h ∙ stepped nodes level (body_on nodes old) old.turns untouched end (again here head body rest behind) (vars_on nodes old) ∙ e

  pub continues_back : (w : StmtId) → w.0 ≡ s.0 → Flows nodes level body end (again here head body rest behind) (flows.Continues w) old o → Flows nodes level body end (again here head body rest behind) flows.Falls old o
  continues_back w e h = h ∙ rw (same_number w e) refl

  pub breaks_out : (w : StmtId) (hold : Bool) → w.0 ≡ s.0 → hold ≡ all_hold (sight_on nodes old) at_exit head.clauses → Flows nodes level body end (again here head body rest behind) (flows.Breaks w) old o
      → o ≡ turned_on nodes level old here head body rest behind (past_if hold)
  breaks_out w hold e h f = f ∙ breaks nodes level old here head body rest behind hold w.0 (same_number w e) h

pub never_into : (hold : Bool) → past_if hold ≡ Into → ⊥
never_into true e = cc e
never_into false e = cc e
