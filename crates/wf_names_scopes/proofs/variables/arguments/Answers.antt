use Rattle.std.proofs.Common.{[], refl}
use Rattle.wf_ast.specs.ParsedTrees.{expr_trees, fields_at}
use Rattle.wf_names_rules.specs.Declarations.{variables}
use Rattle.wf_names_scopes.proofs.VariableLemmas.{arg_next}
use Rattle.wf_names_scopes.proofs.variables.arguments.Goals as goal

pub loop-arg-init : goal.loop-arg-init
loop-arg-init c = record { front = []; split = refl; tells = c.no_variables-table.ensures c.args.parsed.now.texts }

pub loop-arg-preserved : goal.loop-arg-preserved
loop-arg-preserved c =
    let es = expr_trees c.args.parsed.now.exprs in
    arg_next c.args.parsed.now.texts es c.args.args.now c.loop-arg.arg-index c.arg-item.result (variables (fields_at es c.args.args.now)) c.loop-arg.table c.add_variable.new.table c.arg-item.is c.loop-arg-test.true
    c.loop-arg.invariant c.in_ok-add_variable.ensures
