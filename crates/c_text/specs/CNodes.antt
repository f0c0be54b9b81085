-- A unit's nodes, and the trees that they stand for. A part has a smaller number than its whole, so the trees
-- are made in order of the nodes; a number that no node has stands for a literal 0 or an empty block.
use Rattle.std.specs.Prelude.{ℕ, List, [], ◌∷◌, ◌++◌, map, slice_get, unwrap_or, Option}
use Rattle.std.specs.Option.{option_map}
use Rattle.c_text.specs.declared.kinds.CNumber.TheVariants.{Int}
use Rattle.c_text.specs.declared.nodes.CType.{CType}
use Rattle.c_text.specs.declared.nodes.CType.TheVariants as type
use Rattle.c_text.specs.declared.nodes.CArg.{CArg}
use Rattle.c_text.specs.declared.nodes.CArg.TheVariants as arg
use Rattle.c_text.specs.declared.nodes.CExpr.{CExpr}
use Rattle.c_text.specs.declared.nodes.CExpr.TheVariants as expr
use Rattle.c_text.specs.declared.nodes.CStmt.{CStmt}
use Rattle.c_text.specs.declared.nodes.CStmt.TheVariants as stmt
use Rattle.c_text.specs.declared.nodes.CItem.{CItem}
use Rattle.c_text.specs.declared.nodes.CItem.TheVariants as item
use Rattle.c_text.specs.declared.nodes.CFieldType.{CFieldType}
use Rattle.c_text.specs.declared.nodes.CFieldType.TheVariants as held
use Rattle.c_text.specs.declared.nodes.CField.{CField}
use Rattle.c_text.specs.declared.nodes.CParam.{CParam}
use Rattle.c_text.specs.declared.nodes.CLocal.{CLocal}
use Rattle.c_text.specs.declared.ids.CExprId.{CExprId}
use Rattle.c_text.specs.CTree.{TypeTree, uint, size, boolean, uint_pointer, struct_pointer, text, ExprTree, number, variable, member, element, pointed, operation, unary, cast, choice, called, Operands, no_operand, operand, Args, no_arg, expr_arg, sizeof_arg, Code, finish, nested, empty, assign, call, jump, branch, repeat, select, leave, case_label, default_label, name_label, FieldKind, plain, inside, FieldTree, ParamTree, LocalTree, ItemTree, struct_item, text_item, function_item}

-- `names` are spelt differently from each other.
pub record Nodes : Type 0 where
  pub names : List (List ℕ)
  pub strings : List (List ℕ)
  pub exprs : List CExpr
  pub stmts : List CStmt
  pub items : List CItem

abbrev pub bytes_at : List (List ℕ) → ℕ → List ℕ
bytes_at names n = unwrap_or (slice_get names n) []

abbrev pub type_in : List (List ℕ) → CType → TypeTree
type_in names (type.Uint u) = uint u
type_in names type.Size = size
type_in names type.Bool = boolean
type_in names (type.UintPointer u) = uint_pointer u
type_in names (type.StructPointer n) = struct_pointer (bytes_at names n.0)
type_in names type.Text = text

-- The trees of nodes, in order; `make` makes a node's tree of those of its parts, and `none` stands for a part
-- that isn't there.
abbrev pub trees_after : {X T : Type 0} → (make : (ℕ → T) → X → T) → (none : T) → List T → List X → List T
trees_after make none trees [] = trees
trees_after make none trees (x ∷ xs) = trees_after make none (trees ++ make (λ i. unwrap_or (slice_get trees i) none) x ∷ []) xs

abbrev pub tree_at : {X T : Type 0} → (make : (ℕ → T) → X → T) → (none : T) → List X → ℕ → T
tree_at make none xs i = unwrap_or (slice_get (trees_after make none [] xs) i) none

abbrev pub operands_in : (ℕ → ExprTree) → List CExprId → Operands
operands_in look [] = no_operand
operands_in look (e ∷ es) = operand (look e.0) (operands_in look es)

abbrev pub args_in : List (List ℕ) → (ℕ → ExprTree) → List CArg → Args
args_in names look [] = no_arg
args_in names look (arg.Expr e ∷ args) = expr_arg (look e.0) (args_in names look args)
args_in names look (arg.SizeOf n ∷ args) = sizeof_arg (bytes_at names n.0) (args_in names look args)

-- what a node stands for, given by `look` what its parts do
abbrev pub made_expr : List (List ℕ) → (ℕ → ExprTree) → CExpr → ExprTree
made_expr names look (expr.Number n) = number n
made_expr names look (expr.Name n) = variable (bytes_at names n.0)
made_expr names look (expr.Member e n) = member (look e.0) (bytes_at names n.0)
made_expr names look (expr.Index e i) = element (look e.0) (look i.0)
made_expr names look (expr.Deref e) = pointed (look e.0)
made_expr names look (expr.Operation op a b es) = operation op (look a.0) (look b.0) (operands_in look es)
made_expr names look (expr.Unary op e) = unary op (look e.0)
made_expr names look (expr.Cast t e) = cast (type_in names t) (look e.0)
made_expr names look (expr.Choice a b c) = choice (look a.0) (look b.0) (look c.0)
made_expr names look (expr.Call c) = called (bytes_at names c.function.0) (args_in names look c.args)

-- The tree of the expression with this number.
unfoldable pub expr_of : Nodes → ℕ → ExprTree
expr_of nodes e = tree_at (made_expr nodes.names) (number (Int 0)) nodes.exprs e

abbrev pub value_in : (ℕ → ExprTree) → Option CExprId → Option ExprTree
value_in look value = option_map (λ e. look e.0) value

-- the block of a node, where `look` gives the trees of expressions and `code` those of the blocks in it
abbrev pub made_code : List (List ℕ) → (ℕ → ExprTree) → (ℕ → Code) → CStmt → Code
made_code names look code stmt.End = finish
made_code names look code (stmt.Block b r) = nested (code b.0) (code r.0)
made_code names look code (stmt.Empty r) = empty (code r.0)
made_code names look code (stmt.Assign t v r) = assign (look t.0) (look v.0) (code r.0)
made_code names look code (stmt.Call t c r) = call (value_in look t) (bytes_at names c.function.0) (args_in names look c.args) (code r.0)
made_code names look code (stmt.Goto n r) = jump (bytes_at names n.0) (code r.0)
made_code names look code (stmt.If e b k o r) = branch (look e.0) (code b.0) k (code o.0) (code r.0)
made_code names look code (stmt.While e b r) = repeat (look e.0) (code b.0) (code r.0)
made_code names look code (stmt.Switch e b r) = select (look e.0) (code b.0) (code r.0)
made_code names look code (stmt.Return v r) = leave (value_in look v) (code r.0)
made_code names look code (stmt.Case n r) = case_label n (code r.0)
made_code names look code (stmt.Default r) = default_label (code r.0)
made_code names look code (stmt.Label n r) = name_label (bytes_at names n.0) (code r.0)

-- The block from the statement with this number on.
unfoldable pub code_of : Nodes → ℕ → Code
code_of nodes s = tree_at (made_code nodes.names (expr_of nodes)) finish nodes.stmts s

abbrev pub field_kind : List (List ℕ) → CFieldType → FieldKind
field_kind names (held.Plain t) = plain (type_in names t)
field_kind names (held.Struct n) = inside (bytes_at names n.0)

abbrev pub field_tree : List (List ℕ) → CField → FieldTree
field_tree names f = record { kind = field_kind names f.kind; name = bytes_at names f.name.0; count = f.count }

abbrev pub param_tree : List (List ℕ) → CParam → ParamTree
param_tree names p = record { kind = type_in names p.kind; name = bytes_at names p.name.0 }

abbrev pub local_tree : List (List ℕ) → (ℕ → ExprTree) → CLocal → LocalTree
local_tree names look l = record { kind = type_in names l.kind; name = bytes_at names l.name.0; initial = value_in look l.initial }

abbrev pub made_item : Nodes → CItem → ItemTree
made_item nodes (item.Struct fields n) = struct_item (map (field_tree nodes.names) fields) (bytes_at nodes.names n.0)
made_item nodes (item.Text n s) = text_item (bytes_at nodes.names n.0) (bytes_at nodes.strings s.0)
made_item nodes (item.Function linkage result_type n params locals body) = function_item linkage (option_map (type_in nodes.names) result_type) (bytes_at nodes.names n.0) (map (param_tree nodes.names) params) (map (local_tree nodes.names (expr_of nodes)) locals) (code_of nodes body.0)

-- The items of the unit, in the order of the text.
unfoldable pub unit_tree : Nodes → List ItemTree
unit_tree nodes = map (made_item nodes) nodes.items

abbrev pub no_nodes : Nodes
no_nodes = record { names = []; strings = []; exprs = []; stmts = []; items = [] }
