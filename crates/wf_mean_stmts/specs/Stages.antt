-- Where a body runs, in the words of the source's meaning.
use Rattle.std.specs.Prelude.{◌≡◌, ℕ, Bool, true, false, List, length, map, Option, None, Some, ⊤}
use Rattle.wf_text.specs.declared.numbers.MethodId.{MethodId}
use Rattle.wf_ast.specs.declared.typed_nodes.TypedNodes.{TypedNodes}
use Rattle.wf_ast.specs.Value.{State}
use Rattle.wf_meaning.specs.SourceState.{Held, Object}
use Rattle.wf_meaning.specs.World.{Body, Vars, updated}
use Rattle.wf_mean_exprs.specs.declared.values.Slot.{Slot}
use Rattle.wf_mean_exprs.specs.declared.objects.ObjectState.{ObjectState}
use Rattle.wf_mean_exprs.specs.declared.objects.Frame.{Frame}
use Rattle.wf_mean_exprs.specs.MachineState.{slot_seen, field_seen, body_seen, world_seen, sight}
use Rattle.wf_mean_stmts.specs.declared.stage.Stage.{Stage}

-- The body that runs, and its variables.
abbrev pub body_on : TypedNodes → Stage → Body
body_on nodes stage = body_seen nodes stage.frame

abbrev pub vars_on : TypedNodes → Stage → Vars
vars_on nodes stage = record { locals = map slot_seen stage.frame.locals.items; world = world_seen nodes stage.objects.items stage.host }

-- What its expressions look at.
abbrev pub sight_on : TypedNodes → Stage → State
sight_on nodes stage = sight nodes stage.frame stage.objects.items stage.host

-- What stays while a body runs: its method, its struct state and its arguments, how many locals it has, and how many are kept
-- of each method.
pub record Shape : Type 0 where
  pub method : MethodId
  pub object : ℕ
  pub args : List Slot
  pub locals : ℕ
  pub kept : List (List ℕ)

abbrev pub kept_lengths : ObjectState → List ℕ
kept_lengths o = map (λ k. length k.locals.items) o.kept.items

abbrev pub shape_of : Frame → List ObjectState → Shape
shape_of frame objects =
    record { method = frame.method; object = frame.object; args = frame.args.items; locals = length frame.locals.items; kept = map kept_lengths objects }

abbrev pub shape : Stage → Shape
shape stage = shape_of stage.frame stage.objects.items

-- A field of a struct state is changed, and nothing else of it.
pub record ChangesField (n : ℕ) (change : Held → Held) (old new : ObjectState) : Type 0 where
  pub fields : map field_seen new.fields.items ≡ updated change n (map field_seen old.fields.items)
  pub life : new.life ≡ old.life
  pub active : new.active ≡ old.active
  pub kept : new.kept ≡ old.kept

-- The same in the words of the meaning.
abbrev pub with_field_changed : (n : ℕ) → (Held → Held) → Object → Object
with_field_changed n change o = record o { fields = updated change n o.fields }

-- What a step does that may be stuck: the variables are then those that it leaves, and where it is stuck nothing is said of
-- them.
abbrev pub Comes : Bool → Option Vars → Vars → Type 0
Comes true (Some left) vars = vars ≡ left
Comes false None vars = ⊤
Comes came o vars = ⊥
