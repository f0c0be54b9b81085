use Rattle.wf_ast.specs.ParsedTrees.{expr_trees, type_at}
use Rattle.wf_names_scopes.proofs.PackageLemmas.{constants_added, on_ok}
use Rattle.wf_names_scopes.proofs.tables.add_constant.Goals as goal

pub returns : goal.returns
returns c =
    let p = c.args.parsed.now in
    on_ok c.add_variable.result (λ step d constant texts name of t. record {
      statuses = t.statuses;
      structs = t.structs;
      constants = constants_added d constant p.texts c.args.name (type_at (expr_trees p.exprs) c.args.of.now) c.args.tables.now.constants c.add_variable.new.table texts name of step t.constants;
      fields = t.fields;
      places = t.places;
      methods = t.methods;
      method_names = t.method_names;
      publics = t.publics;
      variables = t.variables;
    }) c.add_variable.ensures
