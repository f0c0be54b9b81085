-- What stands before the call of a method and after it, in the words of the source's meaning.
use Rattle.std.specs.Prelude.{◌≡◌, ⊤, ◌≤◌, ℕ, zero, suc, Bool, true, false, List, Option, None, Some, option_and_then, slice_get}
use Rattle.turns.specs.Run.{holding}
use Rattle.wf_base.specs.declared.marks.Mark.{Mark}
use Rattle.wf_text.specs.declared.place.Place.{Place}
use Rattle.wf_ast.specs.declared.numbers.ExprId.{ExprId}
use Rattle.wf_ast.specs.declared.numbers.StmtId.{StmtId}
use Rattle.wf_ast.specs.declared.typed_nodes.TypedNodes.{TypedNodes}
use Rattle.wf_ast.specs.TypedTree.{Called, Block, ValueTree, invoke, plain}
use Rattle.wf_ast.specs.TypedTrees.{optional_target, tree_of}
use Rattle.wf_ast.specs.Value.{Value}
use Rattle.wf_meaning.specs.SourceState.{Behind, Object}
use Rattle.wf_meaning.specs.Entry.{Admission, Answered, admitted, refused}
use Rattle.wf_meaning.specs.World.{Vars, World, updated}
use Rattle.wf_meaning.specs.SourceStep.{after_call}
use Rattle.turns.specs.Run.{Outcome}
use Rattle.wf_mean_exprs.specs.declared.objects.FieldState.{FieldState}
use Rattle.wf_mean_exprs.specs.declared.objects.FieldState.TheVariants as fields
use Rattle.wf_mean_exprs.specs.declared.objects.Frame.{Frame}
use Rattle.wf_mean_exprs.specs.declared.objects.ObjectState.{ObjectState}
use Rattle.wf_mean_exprs.specs.declared.values.Slot.{Slot}
use Rattle.wf_mean_exprs.specs.declared.values.Slot.TheVariants as slots
use Rattle.wf_mean_stmts.specs.declared.stage.Stage.{Stage}
use Rattle.wf_mean_stmts.specs.Stages.{body_on, vars_on}
use Rattle.wf_mean_flows.specs.declared.flows.Flow.{Flow}
use Rattle.wf_mean_flows.specs.declared.flows.Flow.TheVariants.{Falls, Returns, Stuck}
use Rattle.wf_mean_flows.specs.Flows.{Flows, calls_below, site_of, went}
use Rattle.wf_mean_runs.specs.Calls.{HoldArgs}

-- The arguments of a call have values, which stand in the frame of the method; or one has none.
abbrev pub Given : Bool → TypedNodes → (below : List Frame) → (m : ℕ) → Option (List Value) → Type 0
Given true nodes below m (Some values) = HoldArgs nodes below m values
Given false nodes below m None = ⊤
Given given nodes below m values = ⊥

-- The number of the struct state in a field.
abbrev pub part_of : FieldState → Option ℕ
part_of (fields.Part object) = Some object
part_of held = None

abbrev pub part_at : List ObjectState → (object n : ℕ) → Option ℕ
part_at objects object n = option_and_then part_of (option_and_then (λ (o : ObjectState). slice_get o.fields.items n) (slice_get objects object))

-- The status with which a call is refused, or None where the body is entered; and the struct states then, the call's being
-- that with the number `i`.
abbrev pub AdmitsAmong : Option ℕ → Admission → (i : ℕ) → (old new : List Object) → Type 0
AdmitsAmong None admitted i old new = new ≡ old
AdmitsAmong (Some status) (refused given object) i old new = (status ≡ given) × (new ≡ updated (λ _. object) i old)
AdmitsAmong answer admission i old new = ⊥

-- A value has gone to a target; or it couldn't.
abbrev pub TakesValue : Flow → Option Vars → Vars → Type 0
TakesValue Falls (Some left) vars = vars ≡ left
TakesValue Stuck None vars = ⊤
TakesValue flow o vars = ⊥

-- What stands for a value where a method gives none.
abbrev pub value_or_buffer : Option Slot → Slot
value_or_buffer None = slots.Buffer 0
value_or_buffer (Some v) = v

-- What becomes of a value that a coroutine returns, without `=?`.
abbrev pub handed : Option Slot → Flow
handed (Some (slots.Status zero)) = Falls
handed (Some (slots.Status (suc status))) = Returns (Some (slots.Status (suc status)))
handed v = Stuck

-- The call of a method, the statement `s`, came to an outcome where `old` tells the turns that are left and the variables; it
-- goes on as `flow` and `new` say, whatever follows it.
abbrev pub Closes : TypedNodes → StmtId → Option ExprId → (keep : Bool) → Mark → (old new : Stage) → Outcome (Answered × World) → Flow → Type 0
Closes nodes s target keep mark old new o flow =
    (level n : ℕ) (at : Place) (called : Called) (trees : List ValueTree) (rest : Block) (behind : Behind) → old.turns ≤ n
    → Flows nodes level (plain (site_of nodes s) (invoke at (optional_target (tree_of nodes) target) keep mark called trees) rest) rest behind flow new
    (went (body_on nodes old) (calls_below nodes level) n
    (holding o (after_call (body_on nodes old) n keep mark (optional_target (tree_of nodes) target) (plain (site_of nodes s) (invoke at (optional_target (tree_of nodes) target) keep mark called trees) rest) rest behind (vars_on nodes old).locals)))
