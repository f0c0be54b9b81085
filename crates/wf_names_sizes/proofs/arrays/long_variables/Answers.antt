use Rattle.std.proofs.Common.{Some, map, ◌∙◌, sym, ap}
use Rattle.wf_text.specs.Precedence.{soonest}
use Rattle.wf_ast.specs.ParsedTrees.{expr_trees, stmt_trees, fields_at, block_at}
use Rattle.wf_names_rules.specs.Declarations.{variables, locals_of, declared_in}
use Rattle.wf_names_sizes.specs.declared.environment.Environment.{Environment}
use Rattle.wf_names_sizes.specs.LongArrays.{too_long_array}
use Rattle.wf_names_sizes.proofs.ArrayLemmas.{soonest-append, longs_by, locals_hide}
use Rattle.wf_names_sizes.proofs.arrays.long_variables.Goals as goal

pub returns : goal.returns
returns c =
    let setting = c.args.setting.now in
    let p = setting.parsed.now in
    let d = declared_in p in
    let locals = locals_of (block_at (stmt_trees p.exprs p.stmts) c.args.body.now) in
    let args = variables (fields_at (expr_trees p.exprs) c.args.args.now) in
    let env : Environment = record { parsed = setting.parsed; constants = setting.constants; locals = Some c.args.locals } in
    let longs = longs_by d locals env c.requires.setting.knows (locals_hide p.texts locals c.args.locals.now c.requires.locals) in
    c.long_locals.ensures ∙ ap (soonest c.long_fields.new.found) (longs locals)
    ∙ ap (λ x. soonest x (map (too_long_array d locals) locals)) (c.long_fields.ensures ∙ ap (soonest c.args.found.now) (longs args))
    ∙ sym (soonest-append c.args.found.now (map (too_long_array d locals) args) (map (too_long_array d locals) locals))
