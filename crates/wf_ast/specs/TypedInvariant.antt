-- What holds of the nodes of every typed package.
use Rattle.std.specs.Prelude.{◌≡◌, ℕ, zero, suc, ◌+◌, ◌^◌, ◌<◌, ⊤, Bool, true, false, not, ◌&&◌, ◌||◌, take, drop, List, [], ◌∷◌, ◌++◌, length, slice_get, Option, None, Some, if◌then◌else◌, nat_lt, nat_le}
use Rattle.std.specs.List.{list_all, flat_map}
use Rattle.wf_base.specs.declared.base_methods.Kind.TheVariants as kinds
use Rattle.wf_base.specs.declared.base_methods.Gives.{Gives}
use Rattle.wf_base.specs.declared.base_methods.Gives.TheVariants as gives
use Rattle.wf_base.specs.declared.base_methods.Kind.{Kind}
use Rattle.wf_base.specs.declared.marks.Mark.TheVariants.{Pure}
use Rattle.wf_base.specs.BaseTable.{row_of}
use Rattle.wf_text.specs.StatusText.{category_of}
use Rattle.wf_text.specs.declared.categories.Category.TheVariants.{Fine}
use Rattle.wf_ast.specs.declared.numbers.ExprId.{ExprId}
use Rattle.wf_ast.specs.declared.types.Ty.{Ty}
use Rattle.wf_ast.specs.declared.types.Ty.TheVariants as types
use Rattle.wf_ast.specs.declared.typed_code.Expr.{Expr}
use Rattle.wf_ast.specs.declared.typed_code.Expr.TheVariants as exprs
use Rattle.wf_ast.specs.declared.typed_code.Callee.{Callee}
use Rattle.wf_ast.specs.declared.typed_code.Callee.TheVariants as callees
use Rattle.wf_ast.specs.declared.typed_code.Stmt.{Stmt}
use Rattle.wf_ast.specs.declared.typed_code.Stmt.TheVariants as stmts
use Rattle.wf_ast.specs.declared.typed_code.AxiomRef.{AxiomRef}
use Rattle.wf_ast.specs.declared.typed_code.Block as typed_code
use Rattle.wf_ast.specs.declared.declarations.Var.{Var}
use Rattle.wf_ast.specs.declared.declarations.Method.{Method}
use Rattle.wf_ast.specs.declared.typed_nodes.TypedNodes.{TypedNodes}
use Rattle.wf_ast.specs.TypedTree.{equal, differs, local, ValueTree, numeric, logical, state, elements, io, Block, end, plain, choose, loop}
use Rattle.wf_ast.specs.TypedTrees.{OperatorKind, arithmetic, ordering, joining, operator_kind, named, tree_of, type_of_node, constant_of_node, place_of_node}
use Rattle.wf_ast.specs.TypedPackage.{package_of}
use Rattle.wf_ast.specs.StatementOrder.{stand_in_order}
use Rattle.wf_ast.specs.BaseStatuses.{base_statuses}
use Rattle.wf_ast.specs.Value.{same_category}
use Rattle.wf_ast.specs.WellTyped.{well_typed, same_mark}

-- What is sliced, and the ends that are there.
abbrev pub cut_parts : ExprId → (from to : Option ExprId) → List ExprId
cut_parts base None None = base ∷ []
cut_parts base None (Some f) = base ∷ f ∷ []
cut_parts base (Some e) None = base ∷ e ∷ []
cut_parts base (Some e) (Some f) = base ∷ e ∷ f ∷ []

-- The expressions, and the statements, inside a node.
abbrev pub parts_of : Expr → List ExprId
parts_of (exprs.Index base at) = base ∷ at ∷ []
parts_of (exprs.Cut base from to) = cut_parts base from to
parts_of (exprs.Chain op parts) = parts
parts_of (exprs.Convert of to) = of ∷ []
parts_of (exprs.Not of) = of ∷ []
parts_of (exprs.Base on sig) = on ∷ []
parts_of expr = []

-- A part has a smaller number than the whole.
abbrev pub parts_below : ℕ → Expr → Bool
parts_below e expr = list_all (λ part. nat_lt part.0 e) (parts_of expr)

-- A test holds of each item of a list with its number, `n` being that of the first.
abbrev pub each_numbered : {X : Type 0} → (ℕ → X → Bool) → (n : ℕ) → List X → Bool
each_numbered test n [] = true
each_numbered test n (x ∷ xs) = test n x && each_numbered test (n + 1) xs

abbrev pub block_below : ℕ → typed_code.Block → Bool
block_below s block = list_all (λ inner. nat_lt inner.0 s) block.items

abbrev pub optional_block_below : ℕ → Option typed_code.Block → Bool
optional_block_below s None = true
optional_block_below s (Some block) = block_below s block

-- Whether an expression has this number.
abbrev pub is_expr : TypedNodes → ExprId → Bool
is_expr nodes e = nat_lt e.0 (length nodes.exprs)

abbrev pub is_optional_expr : TypedNodes → Option ExprId → Bool
is_optional_expr nodes None = true
is_optional_expr nodes (Some e) = is_expr nodes e

-- Whether a base method of this kind of receiver is known of a type.
abbrev pub has_kind : Kind → Ty → Bool
has_kind kinds.Reader types.Reader = true
has_kind kinds.Writer types.Writer = true
has_kind (kinds.Slice width) (types.Slice own) = true
has_kind (kinds.Array width) (types.Array own lo hi count) = true
has_kind kinds.Status types.Status = true
has_kind kind ty = false

-- What is called is there; a base method is called on what has it.
abbrev pub callee_exists : TypedNodes → Callee → Bool
callee_exists nodes (callees.Own m) = nat_lt m.0 (length nodes.methods)
callee_exists nodes (callees.Sub x m) = nat_lt m.0 (length nodes.methods)
callee_exists nodes (callees.Base on sig) = is_expr nodes on && has_kind (row_of sig).on (type_of_node nodes on.0)

abbrev pub axiom_exists : TypedNodes → Option AxiomRef → Bool
axiom_exists nodes None = true
axiom_exists nodes (Some a) = nat_lt a.name.0 (length nodes.texts) && list_all (λ g. nat_lt g.0.0 (length nodes.texts) && is_expr nodes g.1) a.given

-- The parts of a statement are there, and those that are statements have smaller numbers.
abbrev pub stmt_below : TypedNodes → ℕ → Stmt → Bool
stmt_below nodes s (stmts.Assign target op value) = is_expr nodes target && is_expr nodes value
stmt_below nodes s (stmts.Call target keep callee args) = is_optional_expr nodes target && (callee_exists nodes callee && list_all (is_expr nodes) args)
stmt_below nodes s (stmts.If arms otherwise) = list_all (λ a. is_expr nodes a.cond && block_below s a.body) arms && optional_block_below s otherwise
stmt_below nodes s (stmts.While head body) = is_expr nodes head.cond && (list_all (λ c. is_expr nodes c.1) head.clauses && block_below s body)
stmt_below nodes s (stmts.Break w) = nat_lt w.0 (length nodes.stmts)
stmt_below nodes s (stmts.Continue w) = nat_lt w.0 (length nodes.stmts)
stmt_below nodes s (stmts.Return value) = is_optional_expr nodes value
stmt_below nodes s (stmts.Yield n) = nat_lt n.0 (length nodes.statuses)
stmt_below nodes s (stmts.Assert goal ax) = is_expr nodes goal && axiom_exists nodes ax

-- Kinds of types.
abbrev pub is_numeric : Ty → Bool
is_numeric (types.Num width lo hi) = true
is_numeric ty = false

abbrev pub is_logical : Ty → Bool
is_logical types.Flag = true
is_logical ty = false

abbrev pub is_state : Ty → Bool
is_state types.Status = true
is_state ty = false

abbrev pub is_list : Ty → Bool
is_list (types.Slice width) = true
is_list (types.Array width lo hi count) = true
is_list ty = false

abbrev pub is_io : Ty → Bool
is_io types.Reader = true
is_io types.Writer = true
is_io ty = false

abbrev pub is_given : Gives → Ty → Bool
is_given (gives.Num width) ty = is_numeric ty
is_given gives.Flag ty = is_logical ty
is_given gives.Nothing ty = false

-- The tree is one of the kind that values of this type have.
abbrev pub is_tree_of : Ty → ValueTree → Bool
is_tree_of (types.Num width lo hi) (numeric t) = true
is_tree_of types.Flag (logical t) = true
is_tree_of types.Status (state t) = true
is_tree_of (types.Slice width) (elements t) = true
is_tree_of (types.Array width lo hi count) (elements t) = true
is_tree_of types.Reader (io at a) = true
is_tree_of types.Writer (io at a) = true
is_tree_of ty t = false

-- Each part's tree is of the kind of its type.
abbrev pub parts_fit : TypedNodes → (ExprId → ValueTree) → Expr → Bool
parts_fit nodes look expr = list_all (λ part. is_tree_of (type_of_node nodes part.0) (look part)) (parts_of expr)

-- The kinds of the operands of an operator, and of what it gives.
abbrev pub all_numeric : TypedNodes → List ExprId → Bool
all_numeric nodes es = list_all (λ e. is_numeric (type_of_node nodes e.0)) es

abbrev pub compares_kinds : OperatorKind → (a b : Ty) → Bool
compares_kinds (ordering equal) a b = (is_numeric a && is_numeric b) || (is_state a && is_state b)
compares_kinds (ordering differs) a b = (is_numeric a && is_numeric b) || (is_state a && is_state b)
compares_kinds sort a b = is_numeric a && is_numeric b

abbrev pub chain_fits : TypedNodes → OperatorKind → List ExprId → Ty → Bool
chain_fits nodes (arithmetic op) (e ∷ f ∷ es) ty = is_numeric ty && all_numeric nodes (e ∷ f ∷ es)
chain_fits nodes (joining both) (e ∷ f ∷ es) ty = is_logical ty && list_all (λ part. is_logical (type_of_node nodes part.0)) (e ∷ f ∷ es)
chain_fits nodes (ordering op) (e ∷ f ∷ []) ty = is_logical ty && compares_kinds (ordering op) (type_of_node nodes e.0) (type_of_node nodes f.0)
chain_fits nodes sort es ty = false

abbrev pub optional_numeric : TypedNodes → Option ExprId → Bool
optional_numeric nodes None = true
optional_numeric nodes (Some e) = is_numeric (type_of_node nodes e.0)

-- A node that is no constant number has the kind of its type, and so have its parts.
abbrev pub kind_fits : TypedNodes → Ty → Expr → Bool
kind_fits nodes ty (exprs.Number value) = false
kind_fits nodes ty (exprs.Const c) = false
kind_fits nodes ty (exprs.Status s) = is_state ty && nat_lt s.0 (length nodes.statuses)
kind_fits nodes ty (exprs.Truth value) = is_logical ty
kind_fits nodes ty (exprs.Local x) = is_numeric ty || (is_logical ty || (is_state ty || is_list ty))
kind_fits nodes ty (exprs.Field x) = is_numeric ty || (is_logical ty || (is_state ty || is_list ty))
kind_fits nodes ty (exprs.Arg x) = is_numeric ty || (is_logical ty || (is_list ty || is_io ty))
kind_fits nodes ty (exprs.Index base at) = is_numeric ty && (is_list (type_of_node nodes base.0) && is_numeric (type_of_node nodes at.0))
kind_fits nodes ty (exprs.Cut base from to) = is_list ty && (is_list (type_of_node nodes base.0) && (optional_numeric nodes from && optional_numeric nodes to))
kind_fits nodes ty (exprs.Chain op parts) = chain_fits nodes (operator_kind op) parts ty
kind_fits nodes ty (exprs.Convert of to) = is_numeric ty && is_numeric (type_of_node nodes of.0)
kind_fits nodes ty (exprs.Not of) = is_logical ty && is_logical (type_of_node nodes of.0)
kind_fits nodes ty (exprs.Base on sig) = same_mark (row_of sig).mark Pure && (has_kind (row_of sig).on (type_of_node nodes on.0) && is_given (row_of sig).gives ty)

abbrev pub node_fits : TypedNodes → Ty → Option ℕ → Expr → Bool
node_fits nodes ty None expr = kind_fits nodes ty expr
node_fits nodes ty (Some value) expr = is_numeric ty && nat_lt value 18446744073709551616

-- A status text other than ok's begins with the byte of its kind.
abbrev pub has_kind_byte : List ℕ → Bool
has_kind_byte text = not (same_category Fine (category_of text))

-- At most 64 arguments and 256 locals.
abbrev pub has_few_variables : Method → Bool
has_few_variables m = nat_le (length m.args) 64 && nat_le (length m.locals) 256

-- The expression with the number `e` is the local with the number `x`, at the place of the name in its declaration.
pub record IsLocal (nodes : TypedNodes) (e x : ℕ) (v : Var) : Type 0 where
  pub there : e < length nodes.exprs
  pub tree : tree_of nodes (record { 0 = e }) ≡ named v.at v.ty (local x)
  pub placed : place_of_node nodes e ≡ v.at
  pub typed : type_of_node nodes e ≡ v.ty

-- Each local of a method has such an expression: that of the first has this number, and those of the others follow it.
pub record HasLocals (nodes : TypedNodes) (first : ℕ) (m : Method) : Type 0 where
  pub each : (x : ℕ) (v : Var) → slice_get m.locals x ≡ Some v → IsLocal nodes (first + x) x v

abbrev pub HaveLocals : TypedNodes → (firsts : List ExprId) → List Method → Type 0
HaveLocals nodes [] [] = ⊤
HaveLocals nodes (e ∷ es) (m ∷ ms) = HasLocals nodes e.0 m × HaveLocals nodes es ms
HaveLocals nodes es ms = ⊥

-- The numbers of the statements of a block, each after those of the statements inside it. What an `else if` stands before
-- is no statement of its own.
abbrev pub numbers_in : Block → List ℕ
numbers_in end = []
numbers_in (plain site s rest) = site.number ∷ numbers_in rest
numbers_in (choose site chained c a b rest) = numbers_in a ++ (numbers_in b ++ ((if chained then [] else site.number ∷ []) ++ numbers_in rest))
numbers_in (loop site head body rest) = numbers_in body ++ site.number ∷ numbers_in rest

-- So many numbers, from `n` on.
abbrev pub numbers_from : (n count : ℕ) → List ℕ
numbers_from n zero = []
numbers_from n (suc count) = n ∷ numbers_from (suc n) count

-- Every number names something; parts stand before their wholes, and have the kinds that these want; the package
-- keeps the rules of types and effects; the statements of each method stand in order of place; no method has too many
-- variables; each local is an expression at its name; and each statement stands in one method, and once: they are
-- numbered in order, method by method, each after those inside it.
pub record IsTyped (nodes : TypedNodes) : Type 0 where
  pub exprs_ordered : each_numbered (λ e node. parts_below e node.expr) 0 nodes.exprs ≡ true
  pub stmts_ordered : each_numbered (λ s node. stmt_below nodes s node.stmt) 0 nodes.stmts ≡ true
  pub typed : length nodes.types ≡ length nodes.exprs
  pub counted : length nodes.constants ≡ length nodes.exprs
  pub bodied : length nodes.bodies ≡ length nodes.methods
  pub base_first : take 10 nodes.statuses ≡ base_statuses
  pub told : list_all has_kind_byte (drop 1 nodes.statuses) ≡ true
  pub few_statuses : length nodes.statuses < 2 ^ 32
  pub few_exprs : length nodes.exprs < 2 ^ 32
  pub few_stmts : length nodes.stmts < 2 ^ 32
  pub few_structs : length nodes.structs < 2 ^ 32
  pub few_methods : length nodes.methods < 2 ^ 32
  pub bodies_made : list_all (λ body. block_below (length nodes.stmts) body) nodes.bodies ≡ true
  pub kinds : each_numbered (λ e node. node_fits nodes (type_of_node nodes e) (constant_of_node nodes e) node.expr) 0 nodes.exprs ≡ true
  pub rules : well_typed (package_of nodes) ≡ true
  pub placed : stand_in_order (package_of nodes) ≡ true
  pub few_variables : list_all has_few_variables nodes.methods ≡ true
  pub locals_stand : HaveLocals nodes nodes.first_locals nodes.methods
  pub numbered : flat_map (λ m. numbers_in m.body) (package_of nodes).methods ≡ numbers_from 0 (length nodes.stmts)
