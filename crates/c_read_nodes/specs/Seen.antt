-- What the reader's values mean as trees, by the nodes of the unit that they name.
use Rattle.std.specs.Prelude.{◌≡◌, ◌<◌, ⊤, List, [], ◌∷◌, ◌++◌, length, map, IfSome}
use Rattle.std.specs.Option.{option_map}
use Rattle.c_text.specs.CFits.{HasName, HasType, HasExprs, HasArgs, HasField, HasFields, HasParams, HasLocals, FitsExpr, FitsItem}
use Rattle.c_text.specs.CNodes.{Nodes, bytes_at, type_in, operands_in, args_in, made_expr, expr_of, code_of, field_tree, param_tree, local_tree, made_item, unit_tree}
use Rattle.c_text.specs.CSpelling.{IsLiteral}
use Rattle.c_text.specs.CTree.{finish}
use Rattle.c_read_grammar.specs.Values.{Val, a_name, a_number, a_string, an_expr, an_operation, some_args, a_type, a_block, a_code, a_statement, an_arm, a_field, some_fields, a_result, some_params, some_locals, a_unit}
use Rattle.c_read_nodes.specs.Statements.{code_with, StatementFits}
use Rattle.c_read_nodes.specs.declared.values.Product.{Product}
use Rattle.c_read_nodes.specs.declared.values.Product.TheVariants as makes
use Rattle.c_read_nodes.specs.declared.values.SemanticValue.{SemanticValue}
use Rattle.c_read_nodes.specs.declared.values.SemanticValue.TheVariants as vals

abbrev pub seen_value : Nodes → SemanticValue → Val
seen_value nodes (vals.Name n) = a_name (bytes_at nodes.names n.0)
seen_value nodes (vals.Number n) = a_number n
seen_value nodes (vals.Text s) = a_string (bytes_at nodes.strings s.0)
seen_value nodes (vals.Expr e) = an_expr (expr_of nodes e.0)
seen_value nodes (vals.Operation o) = an_operation (expr_of nodes o.first.0) (expr_of nodes o.second.0) (operands_in (expr_of nodes) o.others)
seen_value nodes (vals.Args args) = some_args (args_in nodes.names (expr_of nodes) args)
seen_value nodes (vals.Type t) = a_type (type_in nodes.names t)
seen_value nodes vals.Block = a_block
seen_value nodes (vals.Code s) = a_code (code_of nodes s.0)
seen_value nodes (vals.Statement s) = a_statement (code_with nodes s finish)
seen_value nodes (vals.Arm a) = an_arm (expr_of nodes a.test.0) (code_of nodes a.body.0)
seen_value nodes (vals.Field f) = a_field (field_tree nodes.names f)
seen_value nodes (vals.Fields fs) = some_fields (map (field_tree nodes.names) fs)
seen_value nodes (vals.Outcome o) = a_result o.linkage (option_map (type_in nodes.names) o.of)
seen_value nodes (vals.Params ps) = some_params (map (param_tree nodes.names) ps)
seen_value nodes (vals.Locals ls) = some_locals (map (local_tree nodes.names (expr_of nodes)) ls)
seen_value nodes vals.Unit = a_unit (unit_tree nodes)

abbrev pub seen_values : Nodes → List SemanticValue → List Val
seen_values nodes [] = []
seen_values nodes (v ∷ vs) = seen_value nodes v ∷ seen_values nodes vs

-- What a value names is there, where `below` stand below it; nothing stands below the unit.
abbrev pub ValueFits : Nodes → (below : List SemanticValue) → SemanticValue → Type 0
ValueFits nodes below (vals.Name n) = HasName nodes n
ValueFits nodes below (vals.Number n) = IsLiteral n
ValueFits nodes below (vals.Text s) = s.0 < length nodes.strings
ValueFits nodes below (vals.Expr e) = e.0 < length nodes.exprs
ValueFits nodes below (vals.Operation o) = (o.first.0 < length nodes.exprs) × (o.second.0 < length nodes.exprs) × HasExprs (length nodes.exprs) o.others
ValueFits nodes below (vals.Args args) = HasArgs nodes (length nodes.exprs) args
ValueFits nodes below (vals.Type t) = HasType nodes t
ValueFits nodes below vals.Block = ⊤
ValueFits nodes below (vals.Code s) = s.0 < length nodes.stmts
ValueFits nodes below (vals.Statement s) = StatementFits nodes s
ValueFits nodes below (vals.Arm a) = (a.test.0 < length nodes.exprs) × (a.body.0 < length nodes.stmts)
ValueFits nodes below (vals.Field f) = HasField nodes f
ValueFits nodes below (vals.Fields fs) = HasFields nodes fs
ValueFits nodes below (vals.Outcome o) = IfSome o.of (HasType nodes)
ValueFits nodes below (vals.Params ps) = HasParams nodes ps
ValueFits nodes below (vals.Locals ls) = HasLocals nodes ls
ValueFits nodes below vals.Unit = below ≡ []

abbrev pub ValuesFit : Nodes → List SemanticValue → Type 0
ValuesFit nodes [] = ⊤
ValuesFit nodes (v ∷ vs) = ValueFits nodes vs v × ValuesFit nodes vs

-- What is made, above these values.
abbrev pub made_with : Nodes → Product → List Val → List Val
made_with nodes (makes.Value v) vs = seen_value nodes v ∷ vs
made_with nodes (makes.Expr x) vs = an_expr (made_expr nodes.names (expr_of nodes) x) ∷ vs
made_with nodes (makes.Item x) vs = a_unit (unit_tree nodes ++ made_item nodes x ∷ []) ∷ vs

-- What it names is there.
abbrev pub ProductFits : Nodes → (below : List SemanticValue) → Product → Type 0
ProductFits nodes below (makes.Value v) = ValueFits nodes below v
ProductFits nodes below (makes.Expr x) = FitsExpr nodes (length nodes.exprs) x
ProductFits nodes below (makes.Item x) = FitsItem nodes x × (below ≡ [])
