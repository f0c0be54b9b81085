-- What each action makes of the values that it takes from the top of the stack, by numbers of nodes.
use Rattle.std.specs.Prelude.{Bool, false, None, Some, List, [], ◌∷◌, ◌++◌}
use Rattle.wf_text.specs.declared.place.Place.{Place}
use Rattle.wf_ast.specs.declared.parsed.Core.{Core}
use Rattle.wf_ast.specs.declared.parsed.Core.TheVariants as cores
use Rattle.wf_ast.specs.declared.parsed.Decl.{Decl}
use Rattle.wf_ast.specs.declared.parsed.Decl.TheVariants as decls
use Rattle.wf_ast.specs.declared.parsed.Expr.{Expr}
use Rattle.wf_ast.specs.declared.parsed.Expr.TheVariants as exprs
use Rattle.wf_ast.specs.declared.parsed.Prefix.TheVariants as fronts
use Rattle.wf_ast.specs.declared.parsed.Receiver.TheVariants as receivers
use Rattle.wf_ast.specs.declared.parsed.Stmt.{Stmt}
use Rattle.wf_ast.specs.declared.parsed.Stmt.TheVariants as stmts
use Rattle.wf_ast.specs.declared.parsed.Target.TheVariants as targets
use Rattle.wf_parse_grammar.specs.declared.symbols.Action.{Action}
use Rattle.wf_parse_grammar.specs.declared.symbols.Action.TheVariants as does
use Rattle.wf_parse_grammar.specs.Values.{bare_path, this_path, args_path}
use Rattle.wf_parse_nodes.specs.Products.{Product}
use Rattle.wf_parse_nodes.specs.Products as makes
use Rattle.wf_parse_nodes.specs.declared.values.OpenCore.{OpenCore}
use Rattle.wf_parse_nodes.specs.declared.values.OpenCore.TheVariants as open_cores
use Rattle.wf_parse_nodes.specs.declared.values.SemanticValue.{SemanticValue}
use Rattle.wf_parse_nodes.specs.declared.values.SemanticValue.TheVariants as vals

-- What is made, and the values that are left below it.
pub record Making : Type 0 where
  pub product : Product
  pub vals : List SemanticValue

abbrev pub closed_core : OpenCore → Core
closed_core (open_cores.Base name at) = cores.Base name at
closed_core (open_cores.Status at) = cores.BaseStatus at

abbrev pub a_value : SemanticValue → List SemanticValue → Making
a_value v vs = record { product = makes.Value v; vals = vs }

abbrev pub an_expr : Expr → Place → List SemanticValue → Making
an_expr e at vs = record { product = makes.Expr (record { expr = e; at = at }); vals = vs }

abbrev pub a_stmt : Stmt → Place → List SemanticValue → Making
a_stmt s at vs = record { product = makes.Stmt (record { stmt = s; at = at }); vals = vs }

abbrev pub a_decl : Bool → Decl → Place → List SemanticValue → Making
a_decl public d at vs = record { product = makes.Decl (record { public = public; decl = d; at = at }); vals = vs }

-- Where the topmost values don't fit the action, this stands for nothing.
abbrev pub making : Action → List SemanticValue → Making
making (does.PushName name) vs = a_value (vals.Name name) vs
making (does.PushPlace at) vs = a_value (vals.Place at) vs
making (does.PushMark mark) vs = a_value (vals.Mark mark) vs
making (does.PushPublic public) vs = a_value (vals.Public public) vs
making (does.PushSign op at) vs = a_value (vals.Sign (record { op = op; at = at })) vs
making (does.BarePath name) vs = a_value (vals.Path (bare_path name)) vs
making does.ThisPath (vals.Name name ∷ vals.Place at ∷ vs) = a_value (vals.Path (this_path at name)) vs
making does.ArgsPath (vals.Name name ∷ vals.Place at ∷ vs) = a_value (vals.Path (args_path at name)) vs
making does.PathReceiver (vals.Path path ∷ vs) = a_value (vals.Receiver (receivers.Path path)) vs
making does.ThisMethod (vals.Name name ∷ vals.Place at ∷ vs) = a_value (vals.Name name) (vals.Receiver (receivers.This at) ∷ vs)
making (does.NumberExpr value at) vs = an_expr (exprs.Number value) at vs
making (does.OwnStatusExpr name) vs = an_expr (exprs.OwnStatus name) name.at vs
making does.BaseStatusExpr (vals.Name text ∷ vals.Place at ∷ vs) = an_expr (exprs.BaseStatus text) at vs
making (does.FineExpr at) vs = an_expr (exprs.Fine) at vs
making (does.TruthExpr value at) vs = an_expr (exprs.Truth value) at vs
making does.PathExpr (vals.Path path ∷ vs) = an_expr (exprs.Path path) path.at vs
making does.IndexExpr (vals.Expr index ∷ vals.Place at ∷ vals.Path base ∷ vs) = an_expr (exprs.Index base index) at vs
making does.SliceExpr (vals.Part to ∷ vals.Part from ∷ vals.Place at ∷ vals.Path base ∷ vs) = an_expr (exprs.Slice base from to) at vs
making does.CallExpr (vals.Call call ∷ vs) = an_expr (exprs.Call call) call.method.at vs
making does.NotExpr (vals.Expr of ∷ vals.Place at ∷ vs) = an_expr (exprs.Not of) at vs
making does.ConvertExpr (vals.Type to ∷ vals.Place at ∷ vals.Expr of ∷ vs) = an_expr (exprs.Convert of to) at vs
making (does.StartChain op at) (vals.Expr first ∷ vs) = a_value (vals.Chain (record { op = op; first = first; links = []; at = at })) vs
making does.AddLink (vals.Expr operand ∷ vals.Place sign ∷ vals.Chain chain ∷ vs) = a_value (vals.Chain (record { op = chain.op; first = chain.first; links = chain.links ++ record { sign = sign; operand = operand } ∷ []; at = chain.at })) vs
making does.FinishChain (vals.Chain chain ∷ vs) = an_expr (exprs.Chain chain.op chain.first chain.links) chain.at vs
making does.NoPart vs = a_value (vals.Part None) vs
making does.SomePart (vals.Expr part ∷ vs) = a_value (vals.Part (Some part)) vs
making does.StartGivens vs = a_value (vals.Givens []) vs
making does.AddGiven (vals.Expr value ∷ vals.Name name ∷ vals.Givens givens ∷ vs) = a_value (vals.Givens (givens ++ record { name = name; value = value } ∷ [])) vs
making does.FinishCall (vals.Givens given ∷ vals.Mark mark ∷ vals.Name method ∷ vals.Receiver on ∷ vs) = a_value (vals.Call (record { on = on; method = method; mark = mark; args = given })) vs
making does.StartType vs = a_value (vals.Prefixes []) vs
making (does.AddSlice at) (vals.Prefixes prefixes ∷ vs) = a_value (vals.Prefixes (prefixes ++ fronts.Slice at ∷ [])) vs
making does.AddArray (vals.Expr length ∷ vals.Place at ∷ vals.Prefixes prefixes ∷ vs) = a_value (vals.Prefixes (prefixes ++ fronts.Array length at ∷ [])) vs
making (does.StructType name) (vals.Prefixes prefixes ∷ vs) = a_value (vals.Type (record { prefixes = prefixes; core = cores.Struct name; bounds = None })) vs
making (does.BaseCore name) (vals.Place at ∷ vs) = a_value (vals.Core (open_cores.Base name at)) vs
making does.StatusCore (vals.Place at ∷ vs) = a_value (vals.Core (open_cores.Status at)) vs
making does.NoBounds vs = a_value (vals.Bounds None) vs
making does.SomeBounds (vals.Expr high ∷ vals.Part low ∷ vs) = a_value (vals.Bounds (Some (record { low = low; high = high }))) vs
making does.FinishType (vals.Bounds bounds ∷ vals.Core core ∷ vals.Prefixes prefixes ∷ vs) = a_value (vals.Type (record { prefixes = prefixes; core = closed_core core; bounds = bounds })) vs
making does.StartItems vs = a_value (vals.Items []) vs
making does.AddStmt (vals.Stmt stmt ∷ vals.Items items ∷ vs) = a_value (vals.Items (items ++ stmt ∷ [])) vs
making (does.CloseBlock close) (vals.Items items ∷ vs) = a_value (vals.Block (record { items = items; close = close })) vs
making does.VarStmt (vals.Type of ∷ vals.Name name ∷ vals.Place at ∷ vs) = a_stmt (stmts.Var name of) at vs
making does.PathTarget (vals.Path path ∷ vs) = a_value (vals.Target (targets.Path path)) vs
making does.ElementTarget (vals.Expr index ∷ vals.Place at ∷ vals.Path base ∷ vs) = a_value (vals.Target (targets.Element base index at)) vs
making does.AssignStmt (vals.Expr value ∷ vals.Sign sign ∷ vals.Target target ∷ vals.Place at ∷ vs) = a_stmt (stmts.Assign target sign.op sign.at value) at vs
making does.KeepStmt (vals.Call call ∷ vals.Target target ∷ vals.Place at ∷ vs) = a_stmt (stmts.Keep target call) at vs
making does.CallStmt (vals.Call call ∷ vals.Place at ∷ vs) = a_stmt (stmts.Call call) at vs
making does.StartArms vs = a_value (vals.Arms []) vs
making does.AddArm (vals.Block body ∷ vals.Expr condition ∷ vals.Arms arms ∷ vs) = a_value (vals.Arms (arms ++ record { condition = condition; body = body } ∷ [])) vs
making does.NoElse vs = a_value (vals.Otherwise None) vs
making does.SomeElse (vals.Block body ∷ vs) = a_value (vals.Otherwise (Some body)) vs
making does.IfStmt (vals.Otherwise otherwise ∷ vals.Arms arms ∷ vals.Place at ∷ vs) = a_stmt (stmts.If arms otherwise) at vs
making does.StartClauses vs = a_value (vals.Clauses []) vs
making (does.AddClause kind) (vals.Expr condition ∷ vals.Place at ∷ vals.Clauses clauses ∷ vs) = a_value (vals.Clauses (clauses ++ record { kind = kind; condition = condition; at = at } ∷ [])) vs
making does.LoopStmt (vals.Block body ∷ vals.Clauses clauses ∷ vals.Expr condition ∷ vals.Place at ∷ vs) = a_stmt (stmts.While None condition clauses body) at vs
making does.LabelledStmt (vals.Block body ∷ vals.Clauses clauses ∷ vals.Expr condition ∷ vals.Name label ∷ vals.Place at ∷ vs) = a_stmt (stmts.While (Some label) condition clauses body) at vs
making does.NoLabel vs = a_value (vals.Label None) vs
making does.SomeLabel (vals.Name name ∷ vs) = a_value (vals.Label (Some name)) vs
making does.BreakStmt (vals.Label label ∷ vals.Place at ∷ vs) = a_stmt (stmts.Break label) at vs
making does.ContinueStmt (vals.Label label ∷ vals.Place at ∷ vs) = a_stmt (stmts.Continue label) at vs
making does.ReturnStmt (vals.Part value ∷ vals.Place at ∷ vs) = a_stmt (stmts.Return value) at vs
making does.YieldStmt (vals.Expr value ∷ vals.Place at ∷ vs) = a_stmt (stmts.Yield value) at vs
making does.NoVia vs = a_value (vals.Via None) vs
making does.SomeVia (vals.Givens given ∷ vals.Name axiom_name ∷ vs) = a_value (vals.Via (Some (record { «axiom» = axiom_name; given = given }))) vs
making does.AssertStmt (vals.Via via ∷ vals.Expr goal ∷ vals.Place at ∷ vs) = a_stmt (stmts.Assert goal via) at vs
making does.StartFields vs = a_value (vals.Fields []) vs
making does.AddField (vals.Type of ∷ vals.Name name ∷ vals.Fields fields ∷ vs) = a_value (vals.Fields (fields ++ record { name = name; of = of } ∷ [])) vs
making does.NoResult (vals.Prefixes prefixes ∷ vs) = a_value (vals.Result None) vs
making does.SomeResult (vals.Type of ∷ vs) = a_value (vals.Result (Some of)) vs
making does.StatusDecl (vals.Name text ∷ vals.Place at ∷ vals.Public public ∷ vs) = a_decl public (decls.Status text) at vs
making does.ConstDecl (vals.Expr value ∷ vals.Type of ∷ vals.Name name ∷ vals.Place at ∷ vals.Public public ∷ vs) = a_decl public (decls.Const name of value) at vs
making does.StructDecl (vals.Fields fields ∷ vals.Mark mark ∷ vals.Name name ∷ vals.Place at ∷ vals.Public public ∷ vs) = a_decl public (decls.Struct name mark fields) at vs
making does.MethodDecl (vals.Block body ∷ vals.Result gives ∷ vals.Fields args ∷ vals.Mark mark ∷ vals.Name name ∷ vals.Name of ∷ vals.Place at ∷ vals.Public public ∷ vs) = a_decl public (decls.Method of name mark args gives body) at vs
making _ vs = a_value (vals.Public false) []
