use Rattle.std.proofs.Common.{◌<◌, [], length, refl}
use Rattle.wf_ast.specs.ParsedTrees.{stmt_trees, items_at}
use Rattle.wf_names_rules.specs.Declarations.{locals_of}
use Rattle.wf_names_scopes.proofs.VariableLemmas.{local_next}
use Rattle.wf_names_scopes.proofs.variables.locals.Goals as goal

pub loop-s-init : goal.loop-s-init
loop-s-init c = record { front = []; split = refl; tells = c.no_variables-table.ensures c.args.parsed.now.texts }

pub loop-s-preserved : goal.loop-s-preserved
loop-s-preserved c =
    let ts = stmt_trees c.args.parsed.now.exprs c.args.parsed.now.stmts in
    let inside : c.loop-s.s-index < length c.args.body.now.items = rw (← c.as_slice-s-items.ensures) c.loop-s-test.true in
    let one = rw c.as_slice-s-items.ensures at c.in_ok-add_local.ensures in
    local_next c.args.parsed.now.texts ts c.args.body.now.items c.args.body.now.close c.loop-s.s-index (record { 0 = 0 }) (locals_of (items_at ts c.args.body.now.items c.args.body.now.close)) c.loop-s.table c.add_local.new.table inside
    c.loop-s.invariant one
