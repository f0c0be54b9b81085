-- That what an action makes of numbers of nodes is what the machine makes of trees.
use Rattle.std.proofs.Common.{◌≡◌, ℕ, true, if◌then◌else◌, List, []}
use Rattle.wf_ast.specs.ParsedTree.{ExprTree, StmtTree, DeclTree}
use Rattle.wf_parse_grammar.specs.declared.symbols.Action.{Action}
use Rattle.wf_parse_grammar.specs.declared.symbols.Action.TheVariants as does
use Rattle.wf_parse_grammar.specs.Values.{perform}
use Rattle.wf_parse_nodes.specs.declared.values.SemanticValue.{SemanticValue}
use Rattle.wf_parse_nodes.specs.Making.{making}
use Rattle.wf_parse_nodes.specs.Seen.{seen_values, ValuesBelow, ProductParts, made_with}
use Rattle.wf_parse_nodes.specs.Shapes.{fits, takes}
use Rattle.wf_parse_nodes.proofs.PathMaking as pathmaking
use Rattle.wf_parse_nodes.proofs.PlainMaking as plainmaking
use Rattle.wf_parse_nodes.proofs.ExprMaking as exprmaking
use Rattle.wf_parse_nodes.proofs.CallMaking as callmaking
use Rattle.wf_parse_nodes.proofs.TypeMaking as typemaking
use Rattle.wf_parse_nodes.proofs.StmtMaking as stmtmaking
use Rattle.wf_parse_nodes.proofs.BranchMaking as branchmaking
use Rattle.wf_parse_nodes.proofs.DeclMaking as declmaking

pub action-made : (es : List ExprTree) (ss : List StmtTree) (ds : List DeclTree) (a : Action) (vs : List SemanticValue) → (if fits (takes a) vs then made_with es ss (making a vs).product (seen_values es ss (making a vs).vals) ds else record { vals = []; decls = ds }) ≡ perform a (record { vals = seen_values es ss vs; decls = ds })
action-made es ss ds (does.PushName name) vs = plainmaking.push_name-made es ss ds name vs
action-made es ss ds (does.PushPlace at) vs = plainmaking.push_place-made es ss ds at vs
action-made es ss ds (does.PushMark mark) vs = plainmaking.push_mark-made es ss ds mark vs
action-made es ss ds (does.PushPublic public) vs = plainmaking.push_public-made es ss ds public vs
action-made es ss ds (does.PushSign op at) vs = plainmaking.push_sign-made es ss ds op at vs
action-made es ss ds (does.BarePath name) vs = plainmaking.bare_path-made es ss ds name vs
action-made es ss ds does.ThisPath vs = pathmaking.this_path-made es ss ds vs
action-made es ss ds does.ArgsPath vs = pathmaking.args_path-made es ss ds vs
action-made es ss ds does.PathReceiver vs = pathmaking.path_receiver-made es ss ds vs
action-made es ss ds does.ThisMethod vs = pathmaking.this_method-made es ss ds vs
action-made es ss ds (does.NumberExpr value at) vs = plainmaking.number_expr-made es ss ds value at vs
action-made es ss ds (does.OwnStatusExpr name) vs = plainmaking.own_status_expr-made es ss ds name vs
action-made es ss ds does.BaseStatusExpr vs = exprmaking.base_status_expr-made es ss ds vs
action-made es ss ds (does.FineExpr at) vs = plainmaking.fine_expr-made es ss ds at vs
action-made es ss ds (does.TruthExpr value at) vs = plainmaking.truth_expr-made es ss ds value at vs
action-made es ss ds does.PathExpr vs = exprmaking.path_expr-made es ss ds vs
action-made es ss ds does.IndexExpr vs = exprmaking.index_expr-made es ss ds vs
action-made es ss ds does.SliceExpr vs = exprmaking.slice_expr-made es ss ds vs
action-made es ss ds does.CallExpr vs = exprmaking.call_expr-made es ss ds vs
action-made es ss ds does.NotExpr vs = exprmaking.not_expr-made es ss ds vs
action-made es ss ds does.ConvertExpr vs = exprmaking.convert_expr-made es ss ds vs
action-made es ss ds (does.StartChain op at) vs = exprmaking.start_chain-made es ss ds op at vs
action-made es ss ds does.AddLink vs = exprmaking.add_link-made es ss ds vs
action-made es ss ds does.FinishChain vs = exprmaking.finish_chain-made es ss ds vs
action-made es ss ds does.NoPart vs = plainmaking.no_part-made es ss ds vs
action-made es ss ds does.SomePart vs = exprmaking.some_part-made es ss ds vs
action-made es ss ds does.StartGivens vs = plainmaking.start_givens-made es ss ds vs
action-made es ss ds does.AddGiven vs = callmaking.add_given-made es ss ds vs
action-made es ss ds does.FinishCall vs = callmaking.finish_call-made es ss ds vs
action-made es ss ds does.StartType vs = plainmaking.start_type-made es ss ds vs
action-made es ss ds (does.AddSlice at) vs = typemaking.add_slice-made es ss ds at vs
action-made es ss ds does.AddArray vs = typemaking.add_array-made es ss ds vs
action-made es ss ds (does.StructType name) vs = typemaking.struct_type-made es ss ds name vs
action-made es ss ds (does.BaseCore name) vs = typemaking.base_core-made es ss ds name vs
action-made es ss ds does.StatusCore vs = typemaking.status_core-made es ss ds vs
action-made es ss ds does.NoBounds vs = plainmaking.no_bounds-made es ss ds vs
action-made es ss ds does.SomeBounds vs = typemaking.some_bounds-made es ss ds vs
action-made es ss ds does.FinishType vs = typemaking.finish_type-made es ss ds vs
action-made es ss ds does.StartItems vs = plainmaking.start_items-made es ss ds vs
action-made es ss ds does.AddStmt vs = stmtmaking.add_stmt-made es ss ds vs
action-made es ss ds (does.CloseBlock close) vs = stmtmaking.close_block-made es ss ds close vs
action-made es ss ds does.VarStmt vs = stmtmaking.var_stmt-made es ss ds vs
action-made es ss ds does.PathTarget vs = stmtmaking.path_target-made es ss ds vs
action-made es ss ds does.ElementTarget vs = stmtmaking.element_target-made es ss ds vs
action-made es ss ds does.AssignStmt vs = stmtmaking.assign_stmt-made es ss ds vs
action-made es ss ds does.KeepStmt vs = stmtmaking.keep_stmt-made es ss ds vs
action-made es ss ds does.CallStmt vs = stmtmaking.call_stmt-made es ss ds vs
action-made es ss ds does.StartArms vs = plainmaking.start_arms-made es ss ds vs
action-made es ss ds does.AddArm vs = branchmaking.add_arm-made es ss ds vs
action-made es ss ds does.NoElse vs = plainmaking.no_else-made es ss ds vs
action-made es ss ds does.SomeElse vs = branchmaking.some_else-made es ss ds vs
action-made es ss ds does.IfStmt vs = branchmaking.if_stmt-made es ss ds vs
action-made es ss ds does.StartClauses vs = plainmaking.start_clauses-made es ss ds vs
action-made es ss ds (does.AddClause kind) vs = branchmaking.add_clause-made es ss ds kind vs
action-made es ss ds does.LoopStmt vs = branchmaking.loop_stmt-made es ss ds vs
action-made es ss ds does.LabelledStmt vs = branchmaking.labelled_stmt-made es ss ds vs
action-made es ss ds does.NoLabel vs = plainmaking.no_label-made es ss ds vs
action-made es ss ds does.SomeLabel vs = branchmaking.some_label-made es ss ds vs
action-made es ss ds does.BreakStmt vs = branchmaking.break_stmt-made es ss ds vs
action-made es ss ds does.ContinueStmt vs = branchmaking.continue_stmt-made es ss ds vs
action-made es ss ds does.ReturnStmt vs = stmtmaking.return_stmt-made es ss ds vs
action-made es ss ds does.YieldStmt vs = stmtmaking.yield_stmt-made es ss ds vs
action-made es ss ds does.NoVia vs = plainmaking.no_via-made es ss ds vs
action-made es ss ds does.SomeVia vs = stmtmaking.some_via-made es ss ds vs
action-made es ss ds does.AssertStmt vs = stmtmaking.assert_stmt-made es ss ds vs
action-made es ss ds does.StartFields vs = plainmaking.start_fields-made es ss ds vs
action-made es ss ds does.AddField vs = declmaking.add_field-made es ss ds vs
action-made es ss ds does.NoResult vs = declmaking.no_result-made es ss ds vs
action-made es ss ds does.SomeResult vs = declmaking.some_result-made es ss ds vs
action-made es ss ds does.StatusDecl vs = declmaking.status_decl-made es ss ds vs
action-made es ss ds does.ConstDecl vs = declmaking.const_decl-made es ss ds vs
action-made es ss ds does.StructDecl vs = declmaking.struct_decl-made es ss ds vs
action-made es ss ds does.MethodDecl vs = declmaking.method_decl-made es ss ds vs

pub action-below : (e k : ℕ) (a : Action) (vs : List SemanticValue) → fits (takes a) vs ≡ true → ValuesBelow e k vs → ProductParts e k (making a vs).product × ValuesBelow e k (making a vs).vals
action-below e k (does.PushName name) vs f h = plainmaking.push_name-below e k name vs f h
action-below e k (does.PushPlace at) vs f h = plainmaking.push_place-below e k at vs f h
action-below e k (does.PushMark mark) vs f h = plainmaking.push_mark-below e k mark vs f h
action-below e k (does.PushPublic public) vs f h = plainmaking.push_public-below e k public vs f h
action-below e k (does.PushSign op at) vs f h = plainmaking.push_sign-below e k op at vs f h
action-below e k (does.BarePath name) vs f h = plainmaking.bare_path-below e k name vs f h
action-below e k does.ThisPath vs f h = pathmaking.this_path-below e k vs f h
action-below e k does.ArgsPath vs f h = pathmaking.args_path-below e k vs f h
action-below e k does.PathReceiver vs f h = pathmaking.path_receiver-below e k vs f h
action-below e k does.ThisMethod vs f h = pathmaking.this_method-below e k vs f h
action-below e k (does.NumberExpr value at) vs f h = plainmaking.number_expr-below e k value at vs f h
action-below e k (does.OwnStatusExpr name) vs f h = plainmaking.own_status_expr-below e k name vs f h
action-below e k does.BaseStatusExpr vs f h = exprmaking.base_status_expr-below e k vs f h
action-below e k (does.FineExpr at) vs f h = plainmaking.fine_expr-below e k at vs f h
action-below e k (does.TruthExpr value at) vs f h = plainmaking.truth_expr-below e k value at vs f h
action-below e k does.PathExpr vs f h = exprmaking.path_expr-below e k vs f h
action-below e k does.IndexExpr vs f h = exprmaking.index_expr-below e k vs f h
action-below e k does.SliceExpr vs f h = exprmaking.slice_expr-below e k vs f h
action-below e k does.CallExpr vs f h = exprmaking.call_expr-below e k vs f h
action-below e k does.NotExpr vs f h = exprmaking.not_expr-below e k vs f h
action-below e k does.ConvertExpr vs f h = exprmaking.convert_expr-below e k vs f h
action-below e k (does.StartChain op at) vs f h = exprmaking.start_chain-below e k op at vs f h
action-below e k does.AddLink vs f h = exprmaking.add_link-below e k vs f h
action-below e k does.FinishChain vs f h = exprmaking.finish_chain-below e k vs f h
action-below e k does.NoPart vs f h = plainmaking.no_part-below e k vs f h
action-below e k does.SomePart vs f h = exprmaking.some_part-below e k vs f h
action-below e k does.StartGivens vs f h = plainmaking.start_givens-below e k vs f h
action-below e k does.AddGiven vs f h = callmaking.add_given-below e k vs f h
action-below e k does.FinishCall vs f h = callmaking.finish_call-below e k vs f h
action-below e k does.StartType vs f h = plainmaking.start_type-below e k vs f h
action-below e k (does.AddSlice at) vs f h = typemaking.add_slice-below e k at vs f h
action-below e k does.AddArray vs f h = typemaking.add_array-below e k vs f h
action-below e k (does.StructType name) vs f h = typemaking.struct_type-below e k name vs f h
action-below e k (does.BaseCore name) vs f h = typemaking.base_core-below e k name vs f h
action-below e k does.StatusCore vs f h = typemaking.status_core-below e k vs f h
action-below e k does.NoBounds vs f h = plainmaking.no_bounds-below e k vs f h
action-below e k does.SomeBounds vs f h = typemaking.some_bounds-below e k vs f h
action-below e k does.FinishType vs f h = typemaking.finish_type-below e k vs f h
action-below e k does.StartItems vs f h = plainmaking.start_items-below e k vs f h
action-below e k does.AddStmt vs f h = stmtmaking.add_stmt-below e k vs f h
action-below e k (does.CloseBlock close) vs f h = stmtmaking.close_block-below e k close vs f h
action-below e k does.VarStmt vs f h = stmtmaking.var_stmt-below e k vs f h
action-below e k does.PathTarget vs f h = stmtmaking.path_target-below e k vs f h
action-below e k does.ElementTarget vs f h = stmtmaking.element_target-below e k vs f h
action-below e k does.AssignStmt vs f h = stmtmaking.assign_stmt-below e k vs f h
action-below e k does.KeepStmt vs f h = stmtmaking.keep_stmt-below e k vs f h
action-below e k does.CallStmt vs f h = stmtmaking.call_stmt-below e k vs f h
action-below e k does.StartArms vs f h = plainmaking.start_arms-below e k vs f h
action-below e k does.AddArm vs f h = branchmaking.add_arm-below e k vs f h
action-below e k does.NoElse vs f h = plainmaking.no_else-below e k vs f h
action-below e k does.SomeElse vs f h = branchmaking.some_else-below e k vs f h
action-below e k does.IfStmt vs f h = branchmaking.if_stmt-below e k vs f h
action-below e k does.StartClauses vs f h = plainmaking.start_clauses-below e k vs f h
action-below e k (does.AddClause kind) vs f h = branchmaking.add_clause-below e k kind vs f h
action-below e k does.LoopStmt vs f h = branchmaking.loop_stmt-below e k vs f h
action-below e k does.LabelledStmt vs f h = branchmaking.labelled_stmt-below e k vs f h
action-below e k does.NoLabel vs f h = plainmaking.no_label-below e k vs f h
action-below e k does.SomeLabel vs f h = branchmaking.some_label-below e k vs f h
action-below e k does.BreakStmt vs f h = branchmaking.break_stmt-below e k vs f h
action-below e k does.ContinueStmt vs f h = branchmaking.continue_stmt-below e k vs f h
action-below e k does.ReturnStmt vs f h = stmtmaking.return_stmt-below e k vs f h
action-below e k does.YieldStmt vs f h = stmtmaking.yield_stmt-below e k vs f h
action-below e k does.NoVia vs f h = plainmaking.no_via-below e k vs f h
action-below e k does.SomeVia vs f h = stmtmaking.some_via-below e k vs f h
action-below e k does.AssertStmt vs f h = stmtmaking.assert_stmt-below e k vs f h
action-below e k does.StartFields vs f h = plainmaking.start_fields-below e k vs f h
action-below e k does.AddField vs f h = declmaking.add_field-below e k vs f h
action-below e k does.NoResult vs f h = declmaking.no_result-below e k vs f h
action-below e k does.SomeResult vs f h = declmaking.some_result-below e k vs f h
action-below e k does.StatusDecl vs f h = declmaking.status_decl-below e k vs f h
action-below e k does.ConstDecl vs f h = declmaking.const_decl-below e k vs f h
action-below e k does.StructDecl vs f h = declmaking.struct_decl-below e k vs f h
action-below e k does.MethodDecl vs f h = declmaking.method_decl-below e k vs f h
