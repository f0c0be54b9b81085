-- The functions of a unit that has the unit form, one after the other, as a program's functions are put down.
use Rattle.std.specs.Prelude.{◌≡◌, ℕ, Bool, true, false, List, [], ◌∷◌, ◌++◌, length, map, take, reverse, Option, Some, None, option_map}
use Rattle.wf_text.specs.Surface.{Surface}
use Rattle.c_text.specs.CTree.{TypeTree, ExprTree, ParamTree, LocalTree, Code}
use Rattle.c_text.specs.CNodes.{Nodes, type_in, param_tree, local_tree, expr_of, code_of as body_of, unit_tree}
use Rattle.c_meaning.specs.declared.cells.CellType.{CellType}
use Rattle.c_meaning.specs.CTypes.{Function, local_name, functions_of}
use Rattle.c_meaning.specs.CExprs.{cell_type}
use Rattle.c_meaning.specs.CCall.{Program, program_of}
use Rattle.c_meaning.specs.UnitForm.{HasUnitForm}
use Rattle.c_form_stmts.specs.declared.functions.Parts.{Parts}
use Rattle.c_step_exprs.specs.declared.instrs.Instr.{Instr}
use Rattle.c_step_text.specs.declared.text.Span.{Span}
use Rattle.c_step_text.specs.declared.text.StmtInstr.TheVariants.{Finish}
use Rattle.c_step_text.specs.Flat.{FlatText, flat_text}
use Rattle.c_step_text.specs.Layout.{Names}
use Rattle.c_step_text.specs.Acting.{names_of}
use Rattle.c_step_text.specs.Numbered.{activation_of}
use Rattle.c_step_text.specs.Emitted.{exprs_of, arms_of, statements_of}
use Rattle.c_step_places.specs.Weights.{WeighsAll}
use Rattle.c_step_frames.specs.Frames.{FrameView, local_type}
use Rattle.c_step_run.specs.declared.code.Inline.{Inline}
use Rattle.c_step_run.specs.Coding.{CodeView, frame_of, args_of}
use Rattle.c_step_program.specs.Programs.{code_of, frames_of, all_args, inline_lengths}
use Rattle.c_step_load.specs.declared.functions.Known.{Known}
use Rattle.c_step_load.specs.declared.loading.Build.{Build}

-- The unit has the unit form for a package.
abbrev pub IsFormed : Nodes → Type 0
IsFormed nodes = (p : Surface) × HasUnitForm p (unit_tree nodes)

-- The program that a unit is, and its functions before an item, the last one first.
abbrev pub program_in : Nodes → Program
program_in nodes = program_of (unit_tree nodes)

abbrev pub functions_before : Nodes → (i : ℕ) → List Function
functions_before nodes i = reverse (functions_of (take i (unit_tree nodes)))

-- The parameters and locals of a function by its parts, and the function of a name.
abbrev pub own_names : Nodes → Parts → List ParamTree
own_names nodes parts = map (param_tree nodes.names) parts.params.now ++ map local_name (map (local_tree nodes.names (expr_of nodes)) parts.locals.now)

abbrev pub function_by : Nodes → Parts → (name : List ℕ) → Function
function_by nodes parts name = record {
  linkage = parts.linkage;
  result_type = option_map (type_in nodes.names) parts.result_type;
  name = name;
  params = map (param_tree nodes.names) parts.params.now;
  locals = map (local_tree nodes.names (expr_of nodes)) parts.locals.now;
  body = body_of nodes parts.body.0;
}

-- What is known of a unit: all that it declares, with numbers, and the weights of its statements.
abbrev pub nodes_in : Known → Nodes
nodes_in known = known.weighed.unit.now

pub record IsKnown (known : Known) : Type 0 where
  pub front : known.front.now ≡ record { nodes = nodes_in known; count = length (nodes_in known).items }
  pub numbers : known.numbers.now ≡ nodes_in known
  pub weighs : WeighsAll (nodes_in known) known.weighed.weights.now
  pub formed : IsFormed (nodes_in known)

-- A function of the unit with these parts stands among the functions of the program, the last one first: `callable` are
-- those before it in the text, and `others` those after it.
pub record IsFunction (nodes : Nodes) (parts : Parts) (f : Function) (others callable : List Function) : Type 0 where
  pub is : f ≡ function_by nodes parts f.name
  pub among : (program_in nodes).functions ≡ others ++ f ∷ callable

-- The names of its text, which begins at a number.
abbrev pub names_by : Nodes → Function → (callable : List Function) → (start : ℕ) → Names
names_by nodes f callable start = names_of (activation_of (program_in nodes) f callable 0 start)

-- A text with a function at its ends: the code of its body, the end, and the initial values of its locals.
abbrev pub with_body : Names → FlatText → (number next : ℕ) → Code → (initial : List Instr) → FlatText
with_body names t i next code initial =
    flat_text (t.statements ++ (statements_of names i next (length t.exprs) (length t.arms) code ++ Finish ∷ [])) (t.exprs ++ (exprs_of names code ++ initial)) (t.arms ++ arms_of i code)

-- What a function returns in an expression, where its value's instructions stand in a part of the list.
abbrev pub inline_by : Span → Option ExprTree → Option TypeTree → Option Inline
inline_by span (Some v) (Some type) = Some (record { value = span; ty = cell_type type })
inline_by span (Some v) None = None
inline_by span None type = None

-- What is put down so far is this code, and nothing is left of a body.
pub record IsBuilt (build : Build) (c : CodeView) : Type 0 where
  pub text : build.work.text ≡ c.text
  pub left : build.work.left.items ≡ []
  pub initials : build.initials.items ≡ c.initials
  pub functions : build.functions.items ≡ c.functions
  pub rank : build.rank ≡ inline_lengths c.functions

-- The code of the functions before an item.
abbrev pub code_before : Nodes → (i : ℕ) → CodeView
code_before nodes i = code_of (program_in nodes) (functions_before nodes i)

-- The types of the cells of locals, or none.
abbrev pub local_types_by : (whole : Bool) → List LocalTree → List CellType
local_types_by true ls = map local_type ls
local_types_by false ls = []

-- What the calls of a function are made of, and those of functions; as statements with the locals, else without them.
abbrev pub frame_by : (whole : Bool) → Function → FrameView
frame_by true f = frame_of f
frame_by false f = args_of f

abbrev pub frames_by : (whole : Bool) → List Function → List FrameView
frames_by true fs = frames_of fs
frames_by false fs = all_args fs
