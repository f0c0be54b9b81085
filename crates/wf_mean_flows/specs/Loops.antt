-- What a loop's head comes to, in the words of the source's meaning.
use Rattle.std.specs.Prelude.{◌≡◌, ◌<◌, ℕ, Bool, List, map, if◌then◌else◌}
use Rattle.turns.specs.Run.{Outcome, More, Lost}
use Rattle.wf_ast.specs.declared.parsed.Clause.{Clause}
use Rattle.wf_ast.specs.declared.numbers.ExprId.{ExprId}
use Rattle.wf_ast.specs.declared.typed_nodes.TypedNodes.{TypedNodes}
use Rattle.wf_ast.specs.TypedTree.{CondTree, Site, Head, Block, loop}
use Rattle.wf_ast.specs.TypedTrees.{cond_in, tree_of}
use Rattle.wf_meaning.specs.SourceState.{Behind, again}
use Rattle.wf_meaning.specs.World.{World}
use Rattle.wf_meaning.specs.SourceStep.{Ending, at_block, at_head, at_exit}
use Rattle.wf_mean_stmts.specs.declared.stage.Stage.{Stage}
use Rattle.wf_mean_stmts.specs.Stages.{body_on, vars_on}
use Rattle.wf_mean_flows.specs.declared.flows.Flow.TheVariants as flows
use Rattle.wf_mean_flows.specs.declared.looping.Turned.{Turned}
use Rattle.wf_mean_flows.specs.declared.looping.Turned.TheVariants.{Into, Past, Out, Stuck}
use Rattle.wf_mean_flows.specs.declared.looping.Round.{Round}
use Rattle.wf_mean_flows.specs.declared.looping.Round.TheVariants.{Again, Ends}
use Rattle.wf_mean_flows.specs.Flows.{goes, calls_below, Flows}

-- The clauses that are required where a loop is entered and on each way back, or where it is left.
abbrev pub required : (head : Bool) → Clause → Bool
required head clause = if head then at_head clause else at_exit clause

-- The clauses of a loop by their trees.
abbrev pub clauses_of : TypedNodes → List (Clause × ExprId) → List (Clause × CondTree)
clauses_of nodes clauses = map (λ c. (c.0, cond_in (tree_of nodes c.1))) clauses

-- Where a loop's run then stands: in its body, or after it.
abbrev pub turned_on : TypedNodes → (level : ℕ) → Stage → Site → Head → (body rest : Block) → Behind → Turned → Outcome (Ending × World)
turned_on nodes level stage site head body rest behind Into =
    goes (body_on nodes stage) (calls_below nodes level) stage.turns (at_block body (again site head body rest behind) (vars_on nodes stage))
turned_on nodes level stage site head body rest behind Past =
    goes (body_on nodes stage) (calls_below nodes level) stage.turns (at_block rest behind (vars_on nodes stage))
turned_on nodes level stage site head body rest behind Out = More
turned_on nodes level stage site head body rest behind Stuck = Lost

-- What a pass of the body comes to: the body runs again, with fewer turns; or the run of the loop ends.
abbrev pub Rounds : TypedNodes → (level : ℕ) → Site → Head → (body rest : Block) → Behind → (old new : Stage) → Round → Outcome (Ending × World) → Type 0
Rounds nodes level site head body rest behind old new Again o =
    (o ≡ goes (body_on nodes new) (calls_below nodes level) new.turns (at_block body (again site head body rest behind) (vars_on nodes new))) × (new.turns < old.turns)
Rounds nodes level site head body rest behind old new (Ends flow) o = Flows nodes level (loop site head body rest) rest behind flow new o

-- A loop is left where the clauses hold that are required there.
abbrev pub past_if : (hold : Bool) → Turned
past_if hold = if hold then Past else Stuck

abbrev pub round_of : Turned → Round
round_of Into = Again
round_of Past = Ends flows.Falls
round_of Out = Ends flows.Out
round_of Stuck = Ends flows.Stuck
