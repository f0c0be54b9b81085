-- The text of a function's body as it is put down.
use Rattle.std.specs.Prelude.{◌≡◌, ℕ, if◌then◌else◌, nat_lt, List, [], ◌∷◌, ◌++◌, length, Option, Some, None, option_map}
use Rattle.c_text.specs.CTree.{Code}
use Rattle.c_text.specs.CNodes.{Nodes, type_in}
use Rattle.c_meaning.specs.CTypes.{CScope}
use Rattle.c_meaning.specs.CStep.{by_name}
use Rattle.c_form_exprs.specs.Tables.{named}
use Rattle.c_step_exprs.specs.declared.instrs.Instr.{Instr}
use Rattle.c_step_exprs.specs.Resolving.{function_number}
use Rattle.c_step_text.specs.declared.text.Arm.{Arm}
use Rattle.c_step_text.specs.declared.text.StmtInstr.{StmtInstr}
use Rattle.c_step_text.specs.Flat.{FlatText, flat_text}
use Rattle.c_step_text.specs.Layout.{Names}
use Rattle.c_step_text.specs.Emitted.{statements_of, exprs_of, arms_of}
use Rattle.c_step_load_exprs.specs.Knowing.{program_scope, Knows}
use Rattle.c_step_places.specs.Marks.{first_marked}
use Rattle.c_step_places.specs.Places.{PlaceTree}
use Rattle.c_step_places.specs.Weights.{WeighsAll}
use Rattle.c_step_load_stmts.specs.declared.bodies.Body.{Body}

-- The unit of a body, and the scope of its expressions.
abbrev pub nodes_of : Body → Nodes
nodes_of b = b.names.scope.now.front.nodes

abbrev pub scope_of : Body → CScope
scope_of b = program_scope b.names.scope.now

-- What a body is put down by is told of one unit.
pub record Fits (b : Body) : Type 0 where
  pub knows : Knows b.names.scope.now b.names.numbers.now
  pub same : b.weighed.unit.now ≡ b.names.scope.now.front.nodes
  pub weighs : WeighsAll b.weighed.unit.now b.weighed.weights.now

-- A number below another one.
abbrev pub below : ℕ → Option ℕ → Option ℕ
below n None = None
below n (Some k) = if nat_lt k n then Some k else None

-- It tells the names of a function's text.
pub record Tells (b : Body) (names : Names) : Type 0 where
  pub scope : names.scope ≡ scope_of b
  pub labels : (name : List ℕ) → named b.labels.now name ≡ names.labels name
  pub result_type : option_map (type_in (nodes_of b).names) b.result ≡ names.result_type
  pub callable : (name : List ℕ) → below b.number (function_number (scope_of b).functions name) ≡ function_number names.callable name

-- A table has the numbers of the labels among statements; of two with one name, the first.
abbrev pub HasLabels : List (List ℕ × ℕ) → List PlaceTree → Type 0
HasLabels table places = (name : List ℕ) → named table name ≡ first_marked (by_name name) places

-- A text with more at its ends.
abbrev pub with_exprs : FlatText → List Instr → FlatText
with_exprs t code = flat_text t.statements (t.exprs ++ code) t.arms

abbrev pub with_arms : FlatText → List Arm → FlatText
with_arms t arms = flat_text t.statements t.exprs (t.arms ++ arms)

abbrev pub with_statement : FlatText → StmtInstr → FlatText
with_statement t i = flat_text (t.statements ++ i ∷ []) t.exprs t.arms

-- A text with the code of statements at its ends.
abbrev pub with_code : Names → FlatText → (number next : ℕ) → Code → FlatText
with_code names t i next code =
    flat_text (t.statements ++ statements_of names i next (length t.exprs) (length t.arms) code) (t.exprs ++ exprs_of names code) (t.arms ++ arms_of i code)
