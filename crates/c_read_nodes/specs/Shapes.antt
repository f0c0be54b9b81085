-- The shapes of values, and which values the actions take from the top of the stack.
use Rattle.std.specs.Prelude.{Bool, true, false, not, Option, None, Some, List, [], ◌∷◌, slice_get}
use Rattle.stacks.specs.Shapes.{all_fit}
use Rattle.c_text.specs.declared.ids.CExprId.{CExprId}
use Rattle.c_text.specs.declared.kinds.COp.{COp}
use Rattle.c_text.specs.declared.nodes.CType.TheVariants as types
use Rattle.c_text.specs.CGrammar.{repeats, is_literal, is_lvalue}
use Rattle.c_text.specs.CNodes.{Nodes, expr_of}
use Rattle.c_read_grammar.specs.declared.actions.Action.{Action}
use Rattle.c_read_grammar.specs.declared.actions.Action.TheVariants as acts
use Rattle.c_read_grammar.specs.declared.actions.ExprAction.{ExprAction}
use Rattle.c_read_grammar.specs.declared.actions.ExprAction.TheVariants as expr_does
use Rattle.c_read_grammar.specs.declared.actions.TypeAction.{TypeAction}
use Rattle.c_read_grammar.specs.declared.actions.TypeAction.TheVariants as type_does
use Rattle.c_read_grammar.specs.declared.actions.StmtAction.{StmtAction}
use Rattle.c_read_grammar.specs.declared.actions.StmtAction.TheVariants as stmt_does
use Rattle.c_read_grammar.specs.declared.actions.ItemAction.{ItemAction}
use Rattle.c_read_grammar.specs.declared.actions.ItemAction.TheVariants as item_does
use Rattle.c_read_nodes.specs.declared.shapes.Shape.{Shape}
use Rattle.c_read_nodes.specs.declared.shapes.Shape.TheVariants as shapes
use Rattle.c_read_nodes.specs.declared.values.SemanticValue.{SemanticValue}
use Rattle.c_read_nodes.specs.declared.values.SemanticValue.TheVariants as vals

abbrev pub is_shape : Shape → SemanticValue → Bool
is_shape shapes.Name (vals.Name _) = true
is_shape shapes.Number (vals.Number _) = true
is_shape shapes.Text (vals.Text _) = true
is_shape shapes.Expr (vals.Expr _) = true
is_shape shapes.Operation (vals.Operation _) = true
is_shape shapes.Args (vals.Args _) = true
is_shape shapes.Type (vals.Type _) = true
is_shape shapes.UintType (vals.Type (types.Uint _)) = true
is_shape shapes.Block vals.Block = true
is_shape shapes.Code (vals.Code _) = true
is_shape shapes.Statement (vals.Statement _) = true
is_shape shapes.Arm (vals.Arm _) = true
is_shape shapes.Field (vals.Field _) = true
is_shape shapes.Fields (vals.Fields _) = true
is_shape shapes.SomeFields (vals.Fields (_ ∷ _)) = true
is_shape shapes.Outcome (vals.Outcome _) = true
is_shape shapes.Params (vals.Params _) = true
is_shape shapes.Locals (vals.Locals _) = true
is_shape shapes.Unit vals.Unit = true
is_shape _ _ = false

-- The topmost values have these shapes.
abbrev pub fits : List Shape → List SemanticValue → Bool
fits ss vs = all_fit is_shape ss vs

-- What an action takes, the topmost first.
abbrev pub takes_expr : ExprAction → List Shape
takes_expr expr_does.MakeVariable = shapes.Name ∷ []
takes_expr expr_does.MakeNumber = shapes.Number ∷ []
takes_expr expr_does.MakeMember = shapes.Name ∷ shapes.Expr ∷ []
takes_expr expr_does.MakeElement = shapes.Expr ∷ shapes.Expr ∷ []
takes_expr expr_does.MakePointed = shapes.Expr ∷ []
takes_expr expr_does.StartOperation = shapes.Expr ∷ shapes.Expr ∷ []
takes_expr expr_does.AddOperand = shapes.Expr ∷ shapes.Operation ∷ []
takes_expr (expr_does.MakeOperation op) = shapes.Operation ∷ []
takes_expr (expr_does.MakeUnary op) = shapes.Expr ∷ []
takes_expr expr_does.MakeCast = shapes.Expr ∷ shapes.Type ∷ []
takes_expr expr_does.MakeChoice = shapes.Expr ∷ shapes.Expr ∷ shapes.Expr ∷ []
takes_expr expr_does.MakeCalled = shapes.Args ∷ shapes.Name ∷ []
takes_expr expr_does.StartArgs = []
takes_expr expr_does.AddArg = shapes.Expr ∷ shapes.Args ∷ []
takes_expr expr_does.AddSizeof = shapes.Name ∷ shapes.Args ∷ []
takes_expr expr_does.MakeVariableBelow = []

abbrev pub takes_type : TypeAction → List Shape
takes_type (type_does.MakeUint uint) = []
takes_type type_does.MakeUintPointer = shapes.UintType ∷ []
takes_type type_does.MakeSize = []
takes_type type_does.MakeBool = []
takes_type type_does.MakeStructPointer = shapes.Name ∷ []
takes_type type_does.MakeText = []

abbrev pub takes_stmt : StmtAction → List Shape
takes_stmt stmt_does.StartBlock = []
takes_stmt stmt_does.MakeNested = shapes.Code ∷ []
takes_stmt stmt_does.MakeEmpty = []
takes_stmt stmt_does.MakeAssign = shapes.Expr ∷ shapes.Expr ∷ []
takes_stmt stmt_does.MakeCall = shapes.Args ∷ shapes.Name ∷ []
takes_stmt stmt_does.MakeCallInto = shapes.Args ∷ shapes.Name ∷ shapes.Expr ∷ []
takes_stmt stmt_does.MakeGoto = shapes.Name ∷ []
takes_stmt stmt_does.AddArm = shapes.Code ∷ shapes.Expr ∷ []
takes_stmt stmt_does.MakeWhile = shapes.Code ∷ shapes.Expr ∷ []
takes_stmt stmt_does.MakeSwitch = shapes.Code ∷ shapes.Expr ∷ []
takes_stmt stmt_does.MakeReturn = []
takes_stmt stmt_does.MakeReturnValue = shapes.Expr ∷ []
takes_stmt stmt_does.MakeCase = shapes.Number ∷ []
takes_stmt stmt_does.MakeDefault = []
takes_stmt stmt_does.MakeLabel = shapes.Name ∷ []
takes_stmt stmt_does.EndBlock = []
takes_stmt stmt_does.MakeIf = []

abbrev pub takes_item : ItemAction → List Shape
takes_item item_does.StartFields = []
takes_item item_does.MakeField = shapes.Name ∷ shapes.Type ∷ []
takes_item item_does.MakeStructField = shapes.Name ∷ shapes.Name ∷ []
takes_item item_does.SetCount = shapes.Number ∷ shapes.Field ∷ []
takes_item item_does.AddField = shapes.Field ∷ shapes.Fields ∷ []
takes_item item_does.MakeStruct = shapes.Name ∷ shapes.SomeFields ∷ shapes.Unit ∷ []
takes_item item_does.MakeTextItem = shapes.Text ∷ shapes.Name ∷ shapes.Unit ∷ []
takes_item (item_does.MakeResult linkage) = shapes.Type ∷ []
takes_item (item_does.MakeVoid linkage) = []
takes_item item_does.StartParams = []
takes_item item_does.AddParam = shapes.Name ∷ shapes.Type ∷ shapes.Params ∷ []
takes_item item_does.StartLocals = []
takes_item item_does.AddLocal = shapes.Name ∷ shapes.Type ∷ shapes.Locals ∷ []
takes_item item_does.AddInitialLocal = shapes.Expr ∷ shapes.Name ∷ shapes.Type ∷ shapes.Locals ∷ []
takes_item item_does.MakeFunction = shapes.Code ∷ shapes.Locals ∷ shapes.Params ∷ shapes.Name ∷ shapes.Outcome ∷ shapes.Unit ∷ []

abbrev pub takes : Action → List Shape
takes (acts.Expr a) = takes_expr a
takes (acts.Type a) = takes_type a
takes (acts.Stmt a) = takes_stmt a
takes (acts.Item a) = takes_item a

-- What else is asked: what is pointed from is no literal, a target is an lvalue, and only some operators repeat.
abbrev pub value_expr : SemanticValue → Option CExprId
value_expr (vals.Expr e) = Some e
value_expr _ = None

-- the expression that stands there, if one does
abbrev pub expr_in : Option SemanticValue → Option CExprId
expr_in None = None
expr_in (Some v) = value_expr v

abbrev pub points : Nodes → Option CExprId → Bool
points nodes None = false
points nodes (Some e) = not (is_literal (expr_of nodes e.0))

abbrev pub is_pointer : Nodes → Option SemanticValue → Bool
is_pointer nodes v = points nodes (expr_in v)

abbrev pub is_assigned : Nodes → Option CExprId → Bool
is_assigned nodes None = false
is_assigned nodes (Some e) = is_lvalue (expr_of nodes e.0)

abbrev pub is_target : Nodes → Option SemanticValue → Bool
is_target nodes v = is_assigned nodes (expr_in v)

abbrev pub repeats_lawfully : COp → List CExprId → Bool
repeats_lawfully op [] = true
repeats_lawfully op (_ ∷ _) = repeats op

abbrev pub is_operation_of : COp → Option SemanticValue → Bool
is_operation_of op (Some (vals.Operation o)) = repeats_lawfully op o.others
is_operation_of op _ = false

abbrev pub meets : Nodes → Action → List SemanticValue → Bool
meets nodes (acts.Expr expr_does.MakeMember) vs = is_pointer nodes (slice_get vs 1)
meets nodes (acts.Expr expr_does.MakeElement) vs = is_pointer nodes (slice_get vs 1)
meets nodes (acts.Expr expr_does.MakePointed) vs = is_pointer nodes (slice_get vs 0)
meets nodes (acts.Expr (expr_does.MakeOperation op)) vs = is_operation_of op (slice_get vs 0)
meets nodes (acts.Stmt stmt_does.MakeAssign) vs = is_target nodes (slice_get vs 1)
meets nodes (acts.Stmt stmt_does.MakeCallInto) vs = is_target nodes (slice_get vs 2)
meets nodes _ vs = true

-- The actions that take a fixed number of values from the top.
abbrev pub is_plain : Action → Bool
is_plain (acts.Expr expr_does.MakeVariableBelow) = false
is_plain (acts.Stmt stmt_does.EndBlock) = false
is_plain (acts.Stmt stmt_does.MakeIf) = false
is_plain _ = true
