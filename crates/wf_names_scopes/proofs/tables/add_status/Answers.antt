use Rattle.wf_ast.specs.declared.parsed.Name.{Name}
use Rattle.wf_names_scopes.proofs.NumberLemmas.{number_added}
use Rattle.wf_names_scopes.proofs.tables.add_status.Goals as goal

pub returns : goal.returns
returns c = λ d p. record {
  statuses = number_added 10 (λ (name : Name). name) d.statuses c.args.name c.args.tables.now.statuses c.add_number.new.names c.in_ok-add_number.ensures.next c.in_ok-add_number.ensures.numbers p.statuses;
  structs = p.structs;
  constants = p.constants;
  fields = p.fields;
  places = p.places;
  methods = p.methods;
  method_names = p.method_names;
  publics = p.publics;
  variables = p.variables;
}
