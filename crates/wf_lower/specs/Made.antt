-- What a unit has of the parts of its items.
use Rattle.std.specs.Prelude.{◌≡◌, ℕ, Bool, true, List, [], ◌∷◌, ◌++◌, length, map, Option, None, Some, option_map, IfSome, if◌then◌else◌, ⊤, codes}
use Rattle.std.specs.List.{list_all}
use Rattle.wf_ast.specs.declared.declarations.Method.{Method}
use Rattle.wf_ast.specs.declared.typed_nodes.TypedNodes.{TypedNodes}
use Rattle.wf_ast.specs.TypedInvariant.{IsTyped}
use Rattle.wf_ast.specs.TypedPackage.{Variable, MethodTree, PackageTree, package_of, variable_of}
use Rattle.wf_ast.specs.WellTyped.{is_coroutine}
use Rattle.wf_meaning.specs.Entry.{bad_receiver}
use Rattle.wf_points.specs.PointNumbers.{PointTable, number_at, point_number, saved_locals}
use Rattle.c_text.specs.declared.kinds.CUnary.TheVariants.{Not}
use Rattle.c_text.specs.declared.nodes.CArg.{CArg}
use Rattle.c_text.specs.declared.nodes.CField.{CField}
use Rattle.c_text.specs.declared.nodes.CItem.{CItem}
use Rattle.c_text.specs.declared.nodes.CItem.TheVariants as item
use Rattle.c_text.specs.declared.nodes.CLocal.{CLocal}
use Rattle.c_text.specs.declared.nodes.CParam.{CParam}
use Rattle.c_text.specs.declared.nodes.CType.{CType}
use Rattle.c_text.specs.CFits.{FitsItem, HasArgs, HasField, HasFields, HasLocal, HasLocals, HasParam, HasParams, HasType}
use Rattle.c_text.specs.CNodes.{Nodes, args_in, expr_of, field_tree, local_tree, made_item, param_tree, type_in}
use Rattle.c_text.specs.CSpelling.{is_string}
use Rattle.c_text.specs.CTree.{TypeTree, struct_pointer, FieldTree, ParamTree, LocalTree, ItemTree, unary, Args, expr_arg, sizeof_arg, no_arg, Code, finish, assign, call, leave}
use Rattle.c_meaning.specs.UnitForm.{args_params}
use Rattle.wf_exprs.specs.Exprs.{status_constant}
use Rattle.wf_exprs.specs.Names.{struct_type}
use Rattle.wf_exprs.specs.Reads.{code_reads}
use Rattle.wf_exprs.specs.Words.{num, of_self, self}
use Rattle.wf_exprs_nodes.specs.Marks.{AreThose}
use Rattle.wf_lower_stmts.specs.BodyNodes.{AreSmall, HasWords, started_of}
use Rattle.wf_lower_stmts.specs.Forms.{Form, when}
use Rattle.wf_lower_stmts.specs.declared.walks.StartedNumbers.{StartedNumbers}
use Rattle.wf_lower.specs.Bodies.{public_args, bytes_locals, further_locals, only_read, resume_of}
use Rattle.wf_lower.specs.Unit.{is_used}

-- The unit has the names of this type, and the type is this one.
pub record HasTypeTree (nodes : Nodes) (kind : CType) (tree : TypeTree) : Type 0 where
  pub there : HasType nodes kind
  pub is : type_in nodes.names kind ≡ tree

-- The same of a parameter, a local, a field and an item.
pub record HasParamTree (nodes : Nodes) (param : CParam) (tree : ParamTree) : Type 0 where
  pub there : HasParam nodes param
  pub is : param_tree nodes.names param ≡ tree

pub record HasLocalTree (nodes : Nodes) (local : CLocal) (tree : LocalTree) : Type 0 where
  pub there : HasLocal nodes local
  pub is : local_tree nodes.names (expr_of nodes) local ≡ tree

pub record HasFieldTree (nodes : Nodes) (field : CField) (tree : FieldTree) : Type 0 where
  pub there : HasField nodes field
  pub is : field_tree nodes.names field ≡ tree

pub record HasItemTree (nodes : Nodes) (it : CItem) (tree : ItemTree) : Type 0 where
  pub there : FitsItem nodes it
  pub is : made_item nodes it ≡ tree

-- The same of lists of them.
abbrev pub param_trees : Nodes → List CParam → List ParamTree
param_trees nodes params = map (param_tree nodes.names) params

abbrev pub local_trees : Nodes → List CLocal → List LocalTree
local_trees nodes locals = map (local_tree nodes.names (expr_of nodes)) locals

abbrev pub field_trees : Nodes → List CField → List FieldTree
field_trees nodes fields = map (field_tree nodes.names) fields

abbrev pub item_trees : Nodes → List CItem → List ItemTree
item_trees nodes items = map (made_item nodes) items

-- The same of the arguments of a call.
pub record HasArgTrees (nodes : Nodes) (given : List CArg) (trees : Args) : Type 0 where
  pub there : HasArgs nodes (length nodes.exprs) given
  pub are : args_in nodes.names (expr_of nodes) given ≡ trees

-- A function, whose parts the unit has.
abbrev pub FitsFunction : Nodes → CItem → Type 0
FitsFunction nodes (item.Struct fields n) = ⊥
FitsFunction nodes (item.Text n s) = ⊥
FitsFunction nodes (item.Function linkage result_type n params locals body) = FitsItem nodes (item.Function linkage result_type n params locals body)

abbrev pub FitFunctions : Nodes → List CItem → Type 0
FitFunctions nodes [] = ⊤
FitFunctions nodes (it ∷ items) = FitsFunction nodes it × FitFunctions nodes items

pub record HasFunctionTree (nodes : Nodes) (function : CItem) (tree : ItemTree) : Type 0 where
  pub there : FitsFunction nodes function
  pub is : made_item nodes function ≡ tree

pub record HasParamTrees (nodes : Nodes) (params : List CParam) (trees : List ParamTree) : Type 0 where
  pub there : HasParams nodes params
  pub are : param_trees nodes params ≡ trees

pub record HasLocalTrees (nodes : Nodes) (locals : List CLocal) (trees : List LocalTree) : Type 0 where
  pub there : HasLocals nodes locals
  pub are : local_trees nodes locals ≡ trees

pub record HasFieldTrees (nodes : Nodes) (fields : List CField) (trees : List FieldTree) : Type 0 where
  pub there : HasFields nodes fields
  pub are : field_trees nodes fields ≡ trees

pub record HasFunctionTrees (nodes : Nodes) (functions : List CItem) (trees : List ItemTree) : Type 0 where
  pub there : FitFunctions nodes functions
  pub are : item_trees nodes functions ≡ trees

-- Whatever list the unit had, it has with these after it.
abbrev pub AddsParams : (old new : Nodes) → (before after : List CParam) → List ParamTree → Type 0
AddsParams old new before after added = (so_far : List ParamTree) → HasParamTrees old before so_far → HasParamTrees new after (so_far ++ added)

abbrev pub AddsLocals : (old new : Nodes) → (before after : List CLocal) → List LocalTree → Type 0
AddsLocals old new before after added = (so_far : List LocalTree) → HasLocalTrees old before so_far → HasLocalTrees new after (so_far ++ added)

abbrev pub AddsFields : (old new : Nodes) → (before after : List CField) → List FieldTree → Type 0
AddsFields old new before after added = (so_far : List FieldTree) → HasFieldTrees old before so_far → HasFieldTrees new after (so_far ++ added)

abbrev pub AddsFunctions : (old new : Nodes) → (before after : List CItem) → List ItemTree → Type 0
AddsFunctions old new before after added = (so_far : List ItemTree) → HasFunctionTrees old before so_far → HasFunctionTrees new after (so_far ++ added)

-- The flags are those of the names that one of these functions reads.
abbrev pub AreRead : List ItemTree → (names : List (List ℕ)) → (flags : List Bool) → Type 0
AreRead functions names flags = AreThose (λ name. is_used functions name) names flags

-- The flags are those of the names that this code reads.
abbrev pub CodeReads : Code → (names : List (List ℕ)) → (flags : List Bool) → Type 0
CodeReads code names flags = AreThose (λ name. code_reads name code) names flags

-- Of some locals those are added whose names the code reads that has these flags.
abbrev pub AddsRead : (flags : List Bool) → (old new : Nodes) → (before after : List CLocal) → List LocalTree → Type 0
AddsRead flags old new before after locals = (code : Code) → CodeReads code old.names flags → AddsLocals old new before after (only_read code locals)

-- A type without names is the same tree in every unit.
pub record IsResult (result : Option CType) (tree : Option TypeTree) : Type 0 where
  pub there : (nodes : Nodes) → IfSome result (HasType nodes)
  pub is : (names : List (List ℕ)) → option_map (type_in names) result ≡ tree

pub record IsPlain (kind : CType) (tree : TypeTree) : Type 0 where
  pub there : (nodes : Nodes) → HasType nodes kind
  pub is : (names : List (List ℕ)) → type_in names kind ≡ tree

-- The parameters of a method, by its declaration.
abbrev pub receiver_param : PackageTree → (s : ℕ) → ParamTree
receiver_param p s = record { kind = struct_pointer (struct_type p s); name = codes "self" }

abbrev pub params_in : TypedNodes → Method → List ParamTree
params_in nodes m = receiver_param (package_of nodes) m.of.0 ∷ args_params (public_args (map (variable_of nodes) m.args))

-- The locals of a body beside the fixed ones, where its code is this.
abbrev pub bytes_read : Form → (code : Code) → (n : ℕ) → List Variable → List LocalTree
bytes_read f code n xs = only_read code (bytes_locals f n xs)

abbrev pub resume_locals : MethodTree → List LocalTree
resume_locals m = if is_coroutine m.mark then resume_of m ∷ [] else []

abbrev pub more_locals : Form → (code : Code) → List LocalTree
more_locals f code = bytes_read f code 0 f.method.args ++ (only_read code further_locals ++ resume_locals f.method)

-- What an init does before the structs in the fields are made ready.
abbrev pub ready_code : (rest : Code) → Code
ready_code rest =
    when (unary Not self) (leave (Some (status_constant bad_receiver)) finish)
    (call None (codes "memset") (expr_arg self (expr_arg (num 0) (sizeof_arg (codes "self") no_arg))) (assign (of_self (codes "life")) (num 1) rest))

-- What the text of a package asks of its names and of the texts of its statuses: they are spelt as C spells names and strings.
pub record IsSpelt (nodes : TypedNodes) : Type 0 where
  pub words : HasWords nodes
  pub strings : list_all is_string nodes.statuses ≡ true

-- The package keeps its rules, its names and texts are spelt so, and the table has the numbers of its points, which are small, and
-- the locals that its methods keep; the numbers that their started statements keep are these.
pub record IsReady (nodes : TypedNodes) (points : PointTable) (kept : List StartedNumbers) : Type 0 where
  pub typed : IsTyped nodes
  pub spelt : IsSpelt nodes
  pub small : AreSmall points.numbers
  pub numbered : (s : ℕ) → number_at points.numbers s ≡ point_number (package_of nodes).methods s
  pub saved : points.saved ≡ map saved_locals (package_of nodes).methods
  pub started : kept ≡ map started_of (package_of nodes).methods
