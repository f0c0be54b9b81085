use Rattle.std.proofs.Common.{◌≤◌, ◌<◌, ◌+◌, ◌∷◌, [], ◌∙◌, drop, length}
use Rattle.wf_ast.specs.ParsedTrees.{expr_trees, stmt_trees, decl_trees, decl_made}
use Rattle.wf_names_rules.specs.Declarations.{structs_of, declared_in}
use Rattle.wf_names_sizes.proofs.TableLemmas.{structs_next, structs_none, rows_step, rows_end}
use Rattle.wf_names_sizes.proofs.ValueLemmas.{item-there}
use Rattle.wf_names_sizes.proofs.tables.rows.Goals as goal

pub loop-number-preserved : goal.loop-number-preserved
loop-number-preserved c =
    let p = c.args.setting.now.parsed.now in
    let within : c.loop-number.number < length p.decls = rw c.decls-number-end.ensures at c.loop-number-test.true in
    let there = item-there p.decls c.loop-number.number within in
    let these = structs_of (decl_made (expr_trees p.exprs) (stmt_trees p.exprs p.stmts) there.0.public there.0.decl there.0.at ∷ []) in
    rows_step (declared_in p) c.loop-number.rows.items _ these (structs_of (drop (c.loop-number.number + 1) (decl_trees p.exprs p.stmts p.decls))) (structs_of (drop c.loop-number.number (decl_trees p.exprs p.stmts p.decls)))
    (c.in_ok-add_row.ensures there.0 there.1) (structs_next p.exprs p.stmts p.decls c.loop-number.number there.0 there.1)
    ∙ c.loop-number.invariant

pub returns : goal.returns
returns c =
    let p = c.args.setting.now.parsed.now in
    let past : length p.decls ≤ c.loop-number.number = rw c.decls-number-end.ensures at c.loop-number-test.false in
    rows_end (declared_in p) c.loop-number.rows.items (structs_of (drop c.loop-number.number (decl_trees p.exprs p.stmts p.decls))) (structs_none p.exprs p.stmts p.decls c.loop-number.number past) ∙ c.loop-number.invariant
