-- What the nodes of a typed package tell of targets.
use Rattle.std.specs.Prelude.{◌≡◌, ℕ, Bool, true, false, List, Option, None, Some, if◌then◌else◌}
use Rattle.wf_ast.specs.declared.things.Thing.{Thing}
use Rattle.wf_ast.specs.declared.things.Thing.TheVariants as things
use Rattle.wf_ast.specs.declared.types.Ty.{Ty}
use Rattle.wf_ast.specs.declared.types.Ty.TheVariants as types
use Rattle.wf_ast.specs.declared.typed_code.Expr.{Expr}
use Rattle.wf_ast.specs.declared.typed_code.Expr.TheVariants as exprs
use Rattle.wf_ast.specs.TypedTree.{NumTree, read, ValueTree, numeric}
use Rattle.wf_ast.specs.TypedTrees.{OperatorKind, arithmetic, num_in, target_of}
use Rattle.wf_ast.specs.Same.{same_num}
use Rattle.wf_facts_exprs.specs.Claims.{Claim}
use Rattle.wf_facts.specs.declared.changes.Change.{Change}
use Rattle.wf_bounds_stmts.specs.Requirements.{number_type}
use Rattle.wf_bounds_stmts.specs.Targets.{taken_by, written_by, number_written, known_equal, step_by, step_of, stepped, without_some}

-- A variable of this type may be written as a whole.
abbrev pub variable_written : Ty → Thing → Option Thing
variable_written (types.Num width lo hi) x = Some x
variable_written types.Flag x = Some x
variable_written types.Status x = Some x
variable_written (types.Slice width) x = Some x
variable_written ty x = None

abbrev pub node_written : Ty → Expr → Option Thing
node_written ty (exprs.Index base index) = Some things.Element
node_written ty (exprs.Local x) = variable_written ty (things.Local x)
node_written ty (exprs.Field x) = variable_written ty (things.Field x)
node_written ty (exprs.Arg x) = variable_written ty (things.Arg x)
node_written ty expr = None

abbrev pub constant_or_written : Ty → Option ℕ → Expr → Option Thing
constant_or_written ty None expr = node_written ty expr
constant_or_written ty (Some value) expr = None

abbrev pub is_element_thing : Option Thing → Bool
is_element_thing (Some things.Element) = true
is_element_thing x = false

-- The variable that takes a number.
abbrev pub number_variable : Ty → Option Thing → Option Thing
number_variable (types.Num width lo hi) x = if is_element_thing x then None else x
number_variable ty x = None

-- What is known once a number has been written to a variable, which stands here as an expression.
abbrev pub known_variable : Option Thing → (target value : ValueTree) → List Claim → List Claim
known_variable (Some x) target (numeric t) fs = known_equal fs (num_in target) x t
known_variable x target value fs = fs

-- What is written where an expression is a target, and the numbers that go there.
pub record Seen (v : ValueTree) (ty : Ty) (x : Option Thing) : Type 0 where
  pub thing : written_by (target_of v) ≡ x
  pub variable : number_written (target_of v) ≡ number_variable ty x
  pub taken : (y : Thing) → x ≡ Some y → taken_by (target_of v) ≡ number_type ty
  pub none : x ≡ None → taken_by (target_of v) ≡ None

-- A reader or a writer is named by an argument.
abbrev pub buffer_named : Ty → Expr → Option Thing
buffer_named types.Reader (exprs.Arg x) = Some (things.Arg x)
buffer_named types.Writer (exprs.Arg x) = Some (things.Arg x)
buffer_named ty expr = None

abbrev pub constant_or_buffer : Ty → Option ℕ → Expr → Option Thing
constant_or_buffer ty None expr = buffer_named ty expr
constant_or_buffer ty (Some value) expr = None

-- A number that a variable holds.
abbrev pub is_read : NumTree → Bool
is_read (read at of path) = true
is_read t = false

-- How a variable changes by a value that is written to it with an operator; and by an operator between two operands, of which
-- the right one may be constant.
abbrev pub step_in : (variable : NumTree) → ValueTree → Option Change
step_in x (numeric t) = step_of x t
step_in x v = None

abbrev pub step_by_sort : OperatorKind → ℕ → Option Change
step_by_sort (arithmetic op) k = step_by op k
step_by_sort sort k = None

abbrev pub step_of_two : (variable : NumTree) → OperatorKind → (a : NumTree) → (right : Option ℕ) → Option Change
step_of_two x sort a None = None
step_of_two x sort a (Some k) = if same_num x a then step_by_sort sort k else None

-- What stands after an assignment with an operator.
abbrev pub stepped_or_dropped : List Claim → (variable written : Option Thing) → Option Change → List Claim
stepped_or_dropped fs (Some x) written step = stepped fs x step
stepped_or_dropped fs None written step = without_some written fs
