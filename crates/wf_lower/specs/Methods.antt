-- What the functions of a method are made of, by the nodes of its package.
use Rattle.std.specs.Prelude.{◌≡◌, ◌++◌, ℕ, Bool, true, not, List, [], ◌∷◌, length, map, Some, slice_get, if◌then◌else◌}
use Rattle.wf_text.specs.Surface.{AnswerKind}
use Rattle.wf_ast.specs.declared.declarations.Method.{Method}
use Rattle.wf_ast.specs.declared.typed_code.Block as typed_code
use Rattle.wf_ast.specs.declared.typed_nodes.TypedNodes.{TypedNodes}
use Rattle.wf_ast.specs.TypedInvariant.{block_below}
use Rattle.wf_ast.specs.TypedPackage.{MethodTree, package_of, method_of, answers_of}
use Rattle.wf_ast.specs.TypedTrees.{block_of}
use Rattle.wf_ast.specs.WellTyped.{is_coroutine}
use Rattle.wf_points.specs.PointNumbers.{number_at, point_number}
use Rattle.c_text.specs.declared.ids.CExprId.{CExprId}
use Rattle.c_text.specs.declared.kinds.COp.TheVariants.{Either}
use Rattle.c_text.specs.declared.nodes.CArg.{CArg}
use Rattle.c_text.specs.CFits.{HasExprs}
use Rattle.c_text.specs.declared.nodes.CLocal.{CLocal}
use Rattle.c_text.specs.declared.nodes.CParam.{CParam}
use Rattle.c_text.specs.CNodes.{Nodes, expr_of, local_tree, param_tree}
use Rattle.c_text.specs.CTree.{ExprTree, operation, Code, call, ParamTree, LocalTree}
use Rattle.wf_exprs.specs.Exprs.{same_op}
use Rattle.wf_exprs.specs.Names.{body_name}
use Rattle.wf_exprs.specs.Words.{num, args}
use Rattle.wf_lower_stmts.specs.BodyNodes.{BodyTree, HasWords, form_in, is_spelt_method}
use Rattle.wf_lower_stmts.specs.Forms.{Form}
use Rattle.wf_lower_blocks.specs.Calls.{HasGiven}
use Rattle.wf_lower.specs.Bodies.{answer_in, answered, bytes_locals, either_of, further_locals, handed, only_read, resume_of, settle_if_coroutine}

-- A method whose entry is made.
pub record EntryTree : Type 0 where
  pub nodes : TypedNodes
  pub method : Method
  pub number : ℕ

-- Its names are there, and are words.
pub record IsEntry (nodes : TypedNodes) (m : Method) : Type 0 where
  pub words : HasWords nodes
  pub spelt : is_spelt_method nodes m ≡ true

-- The method as a tree. An entry asks nothing of the body.
abbrev pub method_in : EntryTree → MethodTree
method_in e = method_of e.nodes e.method (record { items = [] })

abbrev pub answers_in : EntryTree → AnswerKind
answers_in e = answers_of e.method.mark e.method.gives

-- The unit has these tests, in order.
abbrev pub test_trees : Nodes → List CExprId → List ExprTree
test_trees nodes tests = map (λ (e : CExprId). expr_of nodes e.0) tests

pub record HasTests (nodes : Nodes) (tests : List CExprId) (trees : List ExprTree) : Type 0 where
  pub there : HasExprs (length nodes.exprs) tests
  pub are : test_trees nodes tests ≡ trees

-- Whatever tests the unit had, it has with these after them.
abbrev pub AddsTests : (old new : Nodes) → (before after : List CExprId) → List ExprTree → Type 0
AddsTests old new before after added = (so_far : List ExprTree) → HasTests old before so_far → HasTests new after (so_far ++ added)

-- One of these tests is met.
abbrev pub any_of : List ExprTree → ExprTree
any_of [] = num 0
any_of (e ∷ es) = either_of e es

-- The first one is no chain of `||` itself, so that a chain of all of them doesn't go on in it.
abbrev pub is_apart : ExprTree → Bool
is_apart (operation op first second others) = not (same_op Either op)
is_apart e = true

abbrev pub begins_apart : List ExprTree → Bool
begins_apart [] = true
begins_apart (e ∷ es) = is_apart e

-- The same of arguments that are passed.
abbrev pub AddsGiven : (old new : Nodes) → (before after : List CArg) → List ExprTree → Type 0
AddsGiven old new before after added = (so_far : List ExprTree) → HasGiven old before so_far → HasGiven new after (so_far ++ added)

-- What follows the table of an entry: the call of the body, and what comes after it.
abbrev pub after_body : EntryTree → Code
after_body e = settle_if_coroutine e.number (method_in e) (answered (answer_in (answers_in e)))

abbrev pub body_call : EntryTree → List ParamTree → Code
body_call e params = call (answer_in (answers_in e)) (body_name (package_of e.nodes) (method_in e)) (args (handed params)) (after_body e)

-- The block is the body of the method that is lowered, which is one of its package's, and the table has the numbers of the
-- package's points.
pub record IsBodyOf (b : BodyTree) (body : typed_code.Block) : Type 0 where
  pub number : ℕ
  pub known : slice_get (package_of b.nodes).methods number ≡ Some (form_in b).method
  pub below : block_below (length b.nodes.stmts) body ≡ true
  pub same : block_of b.nodes body ≡ (form_in b).method.body
  pub numbers : (s : ℕ) → number_at b.numbers s ≡ point_number (package_of b.nodes).methods s

-- The locals that a body has where its code reads them.
abbrev pub read_locals : Form → (code : Code) → List LocalTree
read_locals f code =
    only_read code (bytes_locals f 0 f.method.args) ++ (only_read code further_locals ++ (if is_coroutine f.method.mark then resume_of f.method ∷ [] else []))

-- The names of parameters and of locals.
abbrev pub param_names : List ParamTree → List (List ℕ)
param_names params = map (λ (x : ParamTree). x.name) params

abbrev pub local_names : List LocalTree → List (List ℕ)
local_names locals = map (λ (x : LocalTree). x.name) locals

-- Those of these parameters of a unit, and then those of these locals.
abbrev pub names_in : Nodes → List CParam → List CLocal → List (List ℕ)
names_in nodes params locals = param_names (map (param_tree nodes.names) params) ++ local_names (map (local_tree nodes.names (expr_of nodes)) locals)
