-- What each action makes of the values that it takes from the top of the stack, by numbers of nodes.
use Rattle.std.specs.Prelude.{None, Some, List, [], ◌∷◌, ◌++◌}
use Rattle.c_text.specs.declared.nodes.CArg.TheVariants as args
use Rattle.c_text.specs.declared.nodes.CExpr.TheVariants as exprs
use Rattle.c_text.specs.declared.nodes.CFieldType.TheVariants as held
use Rattle.c_text.specs.declared.nodes.CItem.TheVariants as items
use Rattle.c_text.specs.declared.nodes.CType.TheVariants as types
use Rattle.c_read_grammar.specs.declared.actions.Action.{Action}
use Rattle.c_read_grammar.specs.declared.actions.Action.TheVariants as acts
use Rattle.c_read_grammar.specs.declared.actions.ExprAction.{ExprAction}
use Rattle.c_read_grammar.specs.declared.actions.ExprAction.TheVariants as expr_does
use Rattle.c_read_grammar.specs.declared.actions.TypeAction.{TypeAction}
use Rattle.c_read_grammar.specs.declared.actions.TypeAction.TheVariants as type_does
use Rattle.c_read_grammar.specs.declared.actions.StmtAction.{StmtAction}
use Rattle.c_read_grammar.specs.declared.actions.StmtAction.TheVariants as stmt_does
use Rattle.c_read_grammar.specs.declared.actions.ItemAction.{ItemAction}
use Rattle.c_read_grammar.specs.declared.actions.ItemAction.TheVariants as item_does
use Rattle.c_read_nodes.specs.declared.statements.Statement.TheVariants as says
use Rattle.c_read_nodes.specs.declared.values.Product.{Product}
use Rattle.c_read_nodes.specs.declared.values.Product.TheVariants as makes
use Rattle.c_read_nodes.specs.declared.values.SemanticValue.{SemanticValue}
use Rattle.c_read_nodes.specs.declared.values.SemanticValue.TheVariants as vals

-- What is made, and the values that are left.
pub record Making : Type 0 where
  pub product : Product
  pub vals : List SemanticValue

-- Where the topmost values don't fit the action, this stands for nothing.
abbrev pub making_expr : ExprAction → List SemanticValue → Making
making_expr expr_does.MakeVariable (vals.Name name ∷ vs) = record { product = makes.Expr (exprs.Name name); vals = vs }
making_expr expr_does.MakeNumber (vals.Number number ∷ vs) = record { product = makes.Expr (exprs.Number number); vals = vs }
making_expr expr_does.MakeMember (vals.Name field ∷ vals.Expr of ∷ vs) = record { product = makes.Expr (exprs.Member of field); vals = vs }
making_expr expr_does.MakeElement (vals.Expr at ∷ vals.Expr of ∷ vs) = record { product = makes.Expr (exprs.Index of at); vals = vs }
making_expr expr_does.MakePointed (vals.Expr of ∷ vs) = record { product = makes.Expr (exprs.Deref of); vals = vs }
making_expr expr_does.StartOperation (vals.Expr second ∷ vals.Expr first ∷ vs) = record { product = makes.Value (vals.Operation (record { first = first; second = second; others = [] })); vals = vs }
making_expr expr_does.AddOperand (vals.Expr operand ∷ vals.Operation operation ∷ vs) = record { product = makes.Value (vals.Operation (record { first = operation.first; second = operation.second; others = operation.others ++ operand ∷ [] })); vals = vs }
making_expr (expr_does.MakeOperation op) (vals.Operation operation ∷ vs) = record { product = makes.Expr (exprs.Operation op operation.first operation.second operation.others); vals = vs }
making_expr (expr_does.MakeUnary op) (vals.Expr of ∷ vs) = record { product = makes.Expr (exprs.Unary op of); vals = vs }
making_expr expr_does.MakeCast (vals.Expr of ∷ vals.Type to ∷ vs) = record { product = makes.Expr (exprs.Cast to of); vals = vs }
making_expr expr_does.MakeChoice (vals.Expr unmet ∷ vals.Expr met ∷ vals.Expr test ∷ vs) = record { product = makes.Expr (exprs.Choice test met unmet); vals = vs }
making_expr expr_does.MakeCalled (vals.Args args ∷ vals.Name function ∷ vs) = record { product = makes.Expr (exprs.Call (record { function = function; args = args })); vals = vs }
making_expr expr_does.StartArgs vs = record { product = makes.Value (vals.Args []); vals = vs }
making_expr expr_does.AddArg (vals.Expr argument ∷ vals.Args given ∷ vs) = record { product = makes.Value (vals.Args (given ++ args.Expr argument ∷ [])); vals = vs }
making_expr expr_does.AddSizeof (vals.Name name ∷ vals.Args given ∷ vs) = record { product = makes.Value (vals.Args (given ++ args.SizeOf name ∷ [])); vals = vs }
making_expr _ vs = record { product = makes.Value vals.Block; vals = vs }

abbrev pub making_type : TypeAction → List SemanticValue → Making
making_type (type_does.MakeUint uint) vs = record { product = makes.Value (vals.Type (types.Uint uint)); vals = vs }
making_type type_does.MakeUintPointer (vals.Type (types.Uint uint) ∷ vs) = record { product = makes.Value (vals.Type (types.UintPointer uint)); vals = vs }
making_type type_does.MakeSize vs = record { product = makes.Value (vals.Type types.Size); vals = vs }
making_type type_does.MakeBool vs = record { product = makes.Value (vals.Type types.Bool); vals = vs }
making_type type_does.MakeStructPointer (vals.Name name ∷ vs) = record { product = makes.Value (vals.Type (types.StructPointer name)); vals = vs }
making_type type_does.MakeText vs = record { product = makes.Value (vals.Type types.Text); vals = vs }
making_type _ vs = record { product = makes.Value vals.Block; vals = vs }

abbrev pub making_stmt : StmtAction → List SemanticValue → Making
making_stmt stmt_does.StartBlock vs = record { product = makes.Value (vals.Block); vals = vs }
making_stmt stmt_does.MakeNested (vals.Code inner ∷ vs) = record { product = makes.Value (vals.Statement (says.Nested inner)); vals = vs }
making_stmt stmt_does.MakeEmpty vs = record { product = makes.Value (vals.Statement (says.Empty)); vals = vs }
making_stmt stmt_does.MakeAssign (vals.Expr value ∷ vals.Expr target ∷ vs) = record { product = makes.Value (vals.Statement (says.Assign target value)); vals = vs }
making_stmt stmt_does.MakeCall (vals.Args args ∷ vals.Name function ∷ vs) = record { product = makes.Value (vals.Statement (says.Call None (record { function = function; args = args }))); vals = vs }
making_stmt stmt_does.MakeCallInto (vals.Args args ∷ vals.Name function ∷ vals.Expr target ∷ vs) = record { product = makes.Value (vals.Statement (says.Call (Some target) (record { function = function; args = args }))); vals = vs }
making_stmt stmt_does.MakeGoto (vals.Name label ∷ vs) = record { product = makes.Value (vals.Statement (says.Goto label)); vals = vs }
making_stmt stmt_does.AddArm (vals.Code body ∷ vals.Expr test ∷ vs) = record { product = makes.Value (vals.Arm (record { test = test; body = body })); vals = vs }
making_stmt stmt_does.MakeWhile (vals.Code body ∷ vals.Expr test ∷ vs) = record { product = makes.Value (vals.Statement (says.While test body)); vals = vs }
making_stmt stmt_does.MakeSwitch (vals.Code body ∷ vals.Expr on ∷ vs) = record { product = makes.Value (vals.Statement (says.Switch on body)); vals = vs }
making_stmt stmt_does.MakeReturn vs = record { product = makes.Value (vals.Statement (says.Return None)); vals = vs }
making_stmt stmt_does.MakeReturnValue (vals.Expr value ∷ vs) = record { product = makes.Value (vals.Statement (says.Return (Some value))); vals = vs }
making_stmt stmt_does.MakeCase (vals.Number number ∷ vs) = record { product = makes.Value (vals.Statement (says.Case number)); vals = vs }
making_stmt stmt_does.MakeDefault vs = record { product = makes.Value (vals.Statement (says.Default)); vals = vs }
making_stmt stmt_does.MakeLabel (vals.Name name ∷ vs) = record { product = makes.Value (vals.Statement (says.Label name)); vals = vs }
making_stmt _ vs = record { product = makes.Value vals.Block; vals = vs }

abbrev pub making_item : ItemAction → List SemanticValue → Making
making_item item_does.StartFields vs = record { product = makes.Value (vals.Fields []); vals = vs }
making_item item_does.MakeField (vals.Name name ∷ vals.Type kind ∷ vs) = record { product = makes.Value (vals.Field (record { kind = held.Plain kind; name = name; count = None })); vals = vs }
making_item item_does.MakeStructField (vals.Name name ∷ vals.Name of ∷ vs) = record { product = makes.Value (vals.Field (record { kind = held.Struct of; name = name; count = None })); vals = vs }
making_item item_does.SetCount (vals.Number count ∷ vals.Field field ∷ vs) = record { product = makes.Value (vals.Field (record { kind = field.kind; name = field.name; count = Some count })); vals = vs }
making_item item_does.AddField (vals.Field field ∷ vals.Fields fields ∷ vs) = record { product = makes.Value (vals.Fields (fields ++ field ∷ [])); vals = vs }
making_item item_does.MakeStruct (vals.Name name ∷ vals.Fields fields ∷ vals.Unit ∷ vs) = record { product = makes.Item (items.Struct fields name); vals = vs }
making_item item_does.MakeTextItem (vals.Text text ∷ vals.Name name ∷ vals.Unit ∷ vs) = record { product = makes.Item (items.Text name text); vals = vs }
making_item (item_does.MakeResult linkage) (vals.Type kind ∷ vs) = record { product = makes.Value (vals.Outcome (record { linkage = linkage; of = Some kind })); vals = vs }
making_item (item_does.MakeVoid linkage) vs = record { product = makes.Value (vals.Outcome (record { linkage = linkage; of = None })); vals = vs }
making_item item_does.StartParams vs = record { product = makes.Value (vals.Params []); vals = vs }
making_item item_does.AddParam (vals.Name name ∷ vals.Type kind ∷ vals.Params params ∷ vs) = record { product = makes.Value (vals.Params (params ++ record { kind = kind; name = name } ∷ [])); vals = vs }
making_item item_does.StartLocals vs = record { product = makes.Value (vals.Locals []); vals = vs }
making_item item_does.AddLocal (vals.Name name ∷ vals.Type kind ∷ vals.Locals locals ∷ vs) = record { product = makes.Value (vals.Locals (locals ++ record { kind = kind; name = name; initial = None } ∷ [])); vals = vs }
making_item item_does.AddInitialLocal (vals.Expr initial ∷ vals.Name name ∷ vals.Type kind ∷ vals.Locals locals ∷ vs) = record { product = makes.Value (vals.Locals (locals ++ record { kind = kind; name = name; initial = Some initial } ∷ [])); vals = vs }
making_item item_does.MakeFunction (vals.Code body ∷ vals.Locals locals ∷ vals.Params params ∷ vals.Name name ∷ vals.Outcome outcome ∷ vals.Unit ∷ vs) = record { product = makes.Item (items.Function outcome.linkage outcome.of name params locals body); vals = vs }
making_item _ vs = record { product = makes.Value vals.Block; vals = vs }

abbrev pub making : Action → List SemanticValue → Making
making (acts.Expr a) vs = making_expr a vs
making (acts.Type a) vs = making_type a vs
making (acts.Stmt a) vs = making_stmt a vs
making (acts.Item a) vs = making_item a vs
