-- The places of a package that use a name, each with what is known there.
use Rattle.std.specs.Prelude.{ℕ, List, [], ◌∷◌, ◌++◌, map, Option, Some, None}
use Rattle.std.specs.List.{flat_map}
use Rattle.wf_ast.specs.declared.parsed.Name.{Name}
use Rattle.wf_ast.specs.declared.parsed.Path.{Path}
use Rattle.wf_ast.specs.declared.parsed.Receiver.{Receiver}
use Rattle.wf_ast.specs.declared.parsed.Receiver.TheVariants as receivers
use Rattle.wf_ast.specs.ParsedTree as tree
use Rattle.wf_ast.specs.ParsedTree.{ExprTree, PartTree, LinkTrees, GivenTrees, CallTree, TypeTree, BoundsTree, TargetTree, ClauseTrees, ViaTree, StmtTree, BlockTree, ArmTrees, ResultTree}
use Rattle.wf_names_rules.specs.Declarations.{Variable, Constant, Structure, Method, Declared, as_variable}

-- Where a name is used.
pub data Use : Type 0 where
  -- a status of the package, and one of the language
  own_status : (text : Name) → Use
  base_status : (text : Name) → Use
  -- a local, a constant, a field or an argument
  variable : (path : Path) → Use
  -- a struct
  structure : (name : Name) → Use
  -- a method
  method : (of : CallTree) → Use

abbrev pub receiver_uses : Receiver → List Use
receiver_uses (receivers.This at) = []
receiver_uses (receivers.Path path) = variable path ∷ []

-- What an expression uses, its parts' uses before its own but for a path.
abbrev mutual
  pub uses_of : ExprTree → List Use
  uses_of (tree.number value at) = []
  uses_of (tree.own_status text) = own_status text ∷ []
  uses_of (tree.base_status text at) = base_status text ∷ []
  uses_of (tree.fine at) = []
  uses_of (tree.truth value at) = []
  uses_of (tree.path path) = variable path ∷ []
  uses_of (tree.index base place at) = variable base ∷ uses_of place
  uses_of (tree.slice base from to at) = variable base ∷ (part_uses from ++ part_uses to)
  uses_of (tree.answer c) = call_uses c
  uses_of (tree.chain op first links at) = uses_of first ++ link_uses links
  uses_of (tree.convert of to at) = uses_of of ++ type_uses to
  uses_of (tree.negation of at) = uses_of of

  pub part_uses : PartTree → List Use
  part_uses tree.absent = []
  part_uses (tree.present part) = uses_of part

  pub link_uses : LinkTrees → List Use
  link_uses tree.no_link = []
  link_uses (tree.link sign operand others) = uses_of operand ++ link_uses others

  pub given_uses : GivenTrees → List Use
  given_uses tree.no_given = []
  given_uses (tree.more_given name value others) = uses_of value ++ given_uses others

  pub call_uses : CallTree → List Use
  call_uses (tree.call on name mark args) = receiver_uses on ++ (given_uses args ++ method (tree.call on name mark args) ∷ [])

  pub type_uses : TypeTree → List Use
  type_uses (tree.slice_of at element) = type_uses element
  type_uses (tree.array_of length at element) = uses_of length ++ type_uses element
  type_uses (tree.base_type name at bounds) = bounds_uses bounds
  type_uses (tree.status_type at bounds) = bounds_uses bounds
  type_uses (tree.struct_type name) = structure name ∷ []

  pub bounds_uses : BoundsTree → List Use
  bounds_uses tree.unrefined = []
  bounds_uses (tree.refined low high) = part_uses low ++ uses_of high

abbrev pub target_uses : TargetTree → List Use
target_uses (tree.to_path path) = variable path ∷ []
target_uses (tree.to_element base place at) = variable base ∷ uses_of place

abbrev pub clause_uses : ClauseTrees → List Use
clause_uses tree.no_clause = []
clause_uses (tree.more_clauses kind condition at others) = uses_of condition ++ clause_uses others

abbrev pub via_uses : ViaTree → List Use
via_uses tree.by_itself = []
via_uses (tree.via axiom_name given) = given_uses given

-- What a statement uses.
abbrev mutual
  pub stmt_uses : StmtTree → List Use
  stmt_uses (tree.var name of at) = type_uses of
  stmt_uses (tree.assign target op sign value at) = target_uses target ++ uses_of value
  stmt_uses (tree.keep target c at) = target_uses target ++ call_uses c
  stmt_uses (tree.do_call c at) = call_uses c
  stmt_uses (tree.branch arms at) = arm_uses arms
  stmt_uses (tree.loop label condition clauses body at) = uses_of condition ++ (clause_uses clauses ++ block_uses body)
  stmt_uses (tree.leave label at) = []
  stmt_uses (tree.again label at) = []
  stmt_uses (tree.back value at) = part_uses value
  stmt_uses (tree.suspend value at) = uses_of value
  stmt_uses (tree.claim goal axiom_named at) = uses_of goal ++ via_uses axiom_named

  pub block_uses : BlockTree → List Use
  block_uses (tree.close at) = []
  block_uses (tree.more_stmts first others) = stmt_uses first ++ block_uses others

  pub arm_uses : ArmTrees → List Use
  arm_uses tree.no_else = []
  arm_uses (tree.otherwise body) = block_uses body
  arm_uses (tree.arm condition body others) = uses_of condition ++ (block_uses body ++ arm_uses others)

abbrev pub result_uses : ResultTree → List Use
result_uses tree.gives_nothing = []
result_uses (tree.gives of) = type_uses of

abbrev pub variable_uses : List Variable → List Use
variable_uses variables = flat_map (λ v. type_uses v.of) variables

-- What a method uses, its declaration and its body.
abbrev pub method_uses : Method → List Use
method_uses m = variable_uses m.args ++ (result_uses m.result ++ block_uses m.body)

-- What is known at a place, besides what the whole package knows: the constants, the struct that `this` means, by
-- its name, and the arguments and locals of the method.
pub record Scope : Type 0 where
  pub constants : List Variable
  pub this : Option ℕ
  pub args : List Variable
  pub locals : List Variable

-- In the declaration of a constant only those before it are known.
abbrev pub constant_scope : List Variable → Scope
constant_scope known = record { constants = known; this = None; args = []; locals = [] }

abbrev pub struct_scope : Declared → Structure → Scope
struct_scope d s = record { constants = map as_variable d.constants; this = Some s.name.text.0; args = []; locals = [] }

abbrev pub method_scope : Declared → Method → Scope
method_scope d m = record { constants = map as_variable d.constants; this = Some m.owner.text.0; args = m.args; locals = m.locals }

pub record Site : Type 0 where
  pub scope : Scope
  pub usage : Use

abbrev pub sites_in : Scope → List Use → List Site
sites_in scope uses = map (λ usage. record { scope = scope; usage = usage }) uses

-- `known` are the constants before it.
abbrev pub constant_sites : List Variable → List Constant → List Site
constant_sites known [] = []
constant_sites known (c ∷ cs) = sites_in (constant_scope known) (type_uses c.of ++ uses_of c.value) ++ constant_sites (known ++ as_variable c ∷ []) cs

abbrev pub struct_sites : Declared → Structure → List Site
struct_sites d s = sites_in (struct_scope d s) (variable_uses s.fields)

-- The owner of a method is used in its declaration.
abbrev pub method_sites : Declared → Method → List Site
method_sites d m = sites_in (method_scope d m) (structure m.owner ∷ method_uses m)

-- Every place of the package that uses a name.
abbrev pub sites : Declared → List Site
sites d = constant_sites [] d.constants ++ (flat_map (struct_sites d) d.structs ++ flat_map (method_sites d) d.methods)
