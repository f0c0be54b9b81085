-- What a part of a body comes to as it runs, in the words of the source's meaning. A run of a part is a function of what
-- follows the part: wherever it stands, its run goes on with what follows, or leaves as it says.
use Rattle.std.specs.Prelude.{◌≡◌, ◌⊎◌, ⊤, ℕ, Bool, true, List, [], ◌∷◌, reverse, take, Option, None, Some, option_map, slice_get, unwrap_or}
use Rattle.turns.specs.Run.{Go, End, Fail, Outcome, Got, More, Lost, on_next, run}
use Rattle.turns.specs.Run as runs
use Rattle.wf_text.specs.declared.place.Place.{Place}
use Rattle.wf_ast.specs.declared.numbers.StmtId.{StmtId}
use Rattle.wf_ast.specs.declared.typed_nodes.TypedNodes.{TypedNodes}
use Rattle.wf_ast.specs.declared.typed_code.Arm.{Arm}
use Rattle.wf_ast.specs.declared.typed_code.Block as typed_code
use Rattle.wf_ast.specs.declared.typed_code.StmtNode.{StmtNode}
use Rattle.wf_ast.specs.TypedTree.{Simple, Site, Head, Block, end, plain, choose, loop}
use Rattle.wf_ast.specs.TypedTrees.{no_place, cond_in, onto, otherwise_made, stmt_makers, block_made, tree_of}
use Rattle.wf_ast.specs.TypedPackage.{package_of}
use Rattle.wf_meaning.specs.SourceState.{Behind, behind_if, again, Done, untouched}
use Rattle.wf_meaning.specs.Remaining.{Items, is_point, marker_of}
use Rattle.wf_meaning.specs.World.{World, Body, Vars, kept_locals}
use Rattle.wf_meaning.specs.SourceStep.{At, Ending, gives, suspends, Steps, Callees, at_block, continued, broken, suspending, step, weight}
use Rattle.wf_meaning.specs.SourceCall.{bodies}
use Rattle.wf_mean_exprs.specs.MachineState.{slot_seen, done_seen, standing_at}
use Rattle.wf_mean_stmts.specs.declared.stage.Stage.{Stage}
use Rattle.wf_mean_stmts.specs.Stages.{body_on, vars_on}
use Rattle.wf_mean_flows.specs.declared.flows.Flow.{Flow}
use Rattle.wf_mean_flows.specs.declared.flows.Flow.TheVariants.{Falls, Breaks, Continues, Returns, Suspends, Out, Stuck}

-- A run of a body from where it stands, with so many turns left.
unfoldable pub goes : Body → Callees → (n : ℕ) → At → Outcome (Ending × World)
goes b calls n x = run (step b calls) weight n x

-- A run that goes on with a step.
abbrev pub went : Body → Callees → (n : ℕ) → Steps → Outcome (Ending × World)
went b calls n steps = on_next steps (goes b calls n) (goes b calls)

-- What runs the bodies that a body may call: those of the methods before its own, `level` of them, in the package's
-- order.
unfoldable pub calls_below : TypedNodes → (level : ℕ) → Callees
calls_below nodes level = bodies (package_of nodes) (reverse (take level nodes.order))

-- The run of the body on a stage.
abbrev pub run_on : TypedNodes → (level : ℕ) → Stage → Done → Block → Behind → Outcome (Ending × World)
run_on nodes level stage done block behind =
    goes (body_on nodes stage) (calls_below nodes level) stage.turns (record { done = done; block = block; behind = behind; vars = vars_on nodes stage })

-- The point at a place stands in a block, with these items.
abbrev pub StandsIn : (at : Place) → Items → Block → Behind → Type 0
StandsIn at items end behind = ⊥
StandsIn at items (plain site s rest) behind =
    ((is_point s ≡ true) × (site.at ≡ at) × (items ≡ record { block = plain site s rest; behind = behind })) ⊎ StandsIn at items rest behind
StandsIn at items (choose site chained c a b rest) behind =
    StandsIn at items a (behind_if rest behind) ⊎ (StandsIn at items b (behind_if rest behind) ⊎ StandsIn at items rest behind)
StandsIn at items (loop site head body rest) behind =
    StandsIn at items body (again site head body rest behind) ⊎ StandsIn at items rest behind

-- How a run comes to the outcome `o` from the beginning of a part that `rest` follows: it falls through the part and goes on
-- with the rest; it leaves a loop or goes on with it; it returns; it suspends at a point of the part; more turns are needed;
-- or it is stuck. The stage is the one that the part leaves.
abbrev pub Flows : TypedNodes → (level : ℕ) → (part rest : Block) → Behind → Flow → Stage → Outcome (Ending × World) → Type 0
Flows nodes level part rest behind Falls stage o = o ≡ goes (body_on nodes stage) (calls_below nodes level) stage.turns (at_block rest behind (vars_on nodes stage))
Flows nodes level part rest behind (Breaks w) stage o =
    o ≡ went (body_on nodes stage) (calls_below nodes level) stage.turns (broken (body_on nodes stage) (marker_of w.0 behind) (vars_on nodes stage))
Flows nodes level part rest behind (Continues w) stage o =
    o ≡ went (body_on nodes stage) (calls_below nodes level) stage.turns (continued (marker_of w.0 behind) (vars_on nodes stage))
Flows nodes level part rest behind (Returns v) stage o = o ≡ Got stage.turns (gives (option_map slot_seen v), (vars_on nodes stage).world)
Flows nodes level part rest behind (Suspends status at done) stage o =
    (items : Items) × StandsIn at items part behind
    × (o ≡ Got stage.turns (suspends status (record { done = done_seen done; block = items.block; behind = items.behind; locals = kept_locals (vars_on nodes stage).locals }), (vars_on nodes stage).world))
Flows nodes level part rest behind Out stage o = o ≡ More
Flows nodes level part rest behind Stuck stage o = o ≡ Lost

-- What a statement makes of the block that follows it, and a list of statements.
abbrev pub made_of : TypedNodes → StmtId → Block → Block
made_of nodes s rest = onto (stmt_makers nodes) s rest

abbrev pub block_made_of : TypedNodes → List StmtId → Block
block_made_of nodes ss = block_made (onto (stmt_makers nodes)) ss

-- What the search for the point at a place comes to in a part that `rest` follows: it isn't there, and nothing has changed;
-- or it is, and the run from there comes to a flow.
abbrev pub Sought : TypedNodes → (level : ℕ) → (at : Place) → Done → (part rest : Block) → Behind → Stage → Option Flow → Stage → Type 0
Sought nodes level at done part rest behind old None new = (standing_at at part behind ≡ standing_at at rest behind) × (new ≡ old)
Sought nodes level at done part rest behind old (Some flow) new =
    (items : Items) × (standing_at at part behind ≡ Some items)
    × Flows nodes level part rest behind flow new (run_on nodes level old done items.block items.behind)

-- Where a statement stands.
abbrev pub place_of : TypedNodes → ℕ → Place
place_of nodes s = unwrap_or (option_map (λ (node : StmtNode). node.at) (slice_get nodes.stmts s)) no_place

abbrev pub inner_of : TypedNodes → ℕ → Place
inner_of nodes s = unwrap_or (option_map (λ (node : StmtNode). node.inner) (slice_get nodes.stmts s)) no_place

abbrev pub site_of : TypedNodes → StmtId → Site
site_of nodes s = record { number = s.0; at = place_of nodes s.0 }

-- A part of a body, given as what it makes of the rest, has run from its beginning, or where its first statement had done so
-- much; whatever follows it.
abbrev pub Runs : TypedNodes → (level : ℕ) → (part : Block → Block) → Done → (old new : Stage) → Flow → Type 0
Runs nodes level part done old new flow =
    (rest : Block) (behind : Behind) → Flows nodes level (part rest) rest behind flow new (run_on nodes level old done (part rest) behind)

-- A whole block has run.
abbrev pub RunsBlock : TypedNodes → (level : ℕ) → Block → (old new : Stage) → Flow → Type 0
RunsBlock nodes level block old new flow =
    (behind : Behind) → Flows nodes level block end behind flow new (run_on nodes level old untouched block behind)

-- A statement by itself comes to a flow by one step; `here` is the statement with those that follow it.
abbrev pub flow_steps : Body → (n : ℕ) → Flow → (here rest : Block) → Behind → Vars → Steps
flow_steps b n Falls here rest behind vars = Go (at_block rest behind vars)
flow_steps b n (Breaks w) here rest behind vars = broken b (marker_of w.0 behind) vars
flow_steps b n (Continues w) here rest behind vars = continued (marker_of w.0 behind) vars
flow_steps b n (Returns v) here rest behind vars = End n (gives (option_map slot_seen v), vars.world)
flow_steps b n (Suspends status at done) here rest behind vars = suspending n status (done_seen done) here behind vars
flow_steps b n Out here rest behind vars = runs.Out
flow_steps b n Stuck here rest behind vars = Fail

-- Where a statement suspends it is a point, and tells its place.
abbrev pub IsAt : Site → Simple → Flow → Type 0
IsAt site s (Suspends status at done) = (is_point s ≡ true) × (site.at ≡ at)
IsAt site s flow = ⊤

-- The run of a loop's body from its beginning, pass after pass.
abbrev pub RunsRounds : TypedNodes → (level : ℕ) → Site → Head → (body : Block) → (old new : Stage) → Flow → Type 0
RunsRounds nodes level site head body old new flow =
    (rest : Block) (behind : Behind) → Flows nodes level (loop site head body rest) rest behind flow new (run_on nodes level old untouched body (again site head body rest behind))

-- The arms of an `if` from one on, `chained` to those before them.
abbrev pub chain_of_arms : TypedNodes → Site → (chained : Bool) → List Arm → Option typed_code.Block → Block → Block
chain_of_arms nodes site chained [] other rest = rest
chain_of_arms nodes site chained (arm ∷ arms) other rest =
    choose site chained (cond_in (tree_of nodes arm.cond)) (block_made_of nodes arm.body.items) (otherwise_made (tree_of nodes) (onto (stmt_makers nodes)) site arms other) rest
