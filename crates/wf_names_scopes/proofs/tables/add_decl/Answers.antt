use Rattle.wf_ast.specs.ParsedTrees.{expr_trees, stmt_trees, expr_at, type_at, fields_at, result_at, block_at}
use Rattle.wf_names_scopes.proofs.PackageLemmas.{status_more, struct_more, method_more, constant_more, on_ok}
use Rattle.wf_names_scopes.proofs.tables.add_decl.Goals as goal

pub returns-in-Status : goal.returns-in-Status
returns-in-Status c =
    rw c.in-Status.is
    (on_ok c.add_status.result (status_more c.args.parsed.now.texts c.args.tables.now c.add_status.new.tables c.args.node.now.public c.in-Status.name c.args.node.now.at) c.add_status.ensures)

pub returns-in-Const : goal.returns-in-Const
returns-in-Const c =
    let es = expr_trees c.args.parsed.now.exprs in
    rw c.in-Const.is
    (on_ok c.add_constant.result
    (constant_more c.args.parsed.now.texts c.args.tables.now c.add_constant.new.tables c.args.node.now.public c.in-Const.name (type_at es c.in-Const.of) (expr_at es c.in-Const.value) c.args.node.now.at) c.add_constant.ensures)

pub returns-in-Struct : goal.returns-in-Struct
returns-in-Struct c =
    let es = expr_trees c.args.parsed.now.exprs in
    let added = rw c.as_slice.ensures at c.add_struct.ensures in
    rw c.in-Struct.is
    (on_ok c.add_struct.result (struct_more c.args.parsed.now.texts c.args.tables.now c.add_struct.new.tables c.args.node.now.public c.in-Struct.name c.in-Struct.mark (fields_at es c.in-Struct.fields) c.args.node.now.at) added)

pub returns-in-Method : goal.returns-in-Method
returns-in-Method c =
    let es = expr_trees c.args.parsed.now.exprs in
    let ts = stmt_trees c.args.parsed.now.exprs c.args.parsed.now.stmts in
    let added = rw c.as_slice-in-Method.ensures at c.add_method.ensures in
    rw c.in-Method.is
    (on_ok c.add_method.result
    (method_more c.args.parsed.now.texts es c.args.tables.now c.add_method.new.tables c.args.node.now.public c.in-Method.of c.in-Method.name c.in-Method.mark c.in-Method.args (result_at es c.in-Method.gives) (block_at ts c.in-Method.body) c.args.node.now.at)
    added)
