use Rattle.wf_ast.specs.ParsedTrees.{expr_trees, type_at}
use Rattle.wf_names_scopes.proofs.PackageLemmas.{all_ok}
use Rattle.wf_names_scopes.proofs.VariableLemmas.{variable_added}
use Rattle.wf_names_scopes.proofs.variables.add_variable.Goals as goal

pub returns : goal.returns
returns c =
    let es = expr_trees c.args.parsed.now.exprs in
    all_ok c.add_entry.result
    (variable_added c.args.parsed.now.texts c.args.table.now c.add_entry.new.variables (record { name = c.args.name; of = type_at es c.args.of.now }) c.sort.result (c.sort.ensures es))
    c.add_entry.ensures.next c.add_entry.ensures.sorts c.add_entry.ensures.places c.add_entry.ensures.names
