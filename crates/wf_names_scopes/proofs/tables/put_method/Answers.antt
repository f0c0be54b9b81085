use Rattle.std.proofs.Common.{nat_eq}
use Rattle.indexmap.specs.IndexSet.{contains}
use Rattle.wf_names_rules.specs.Pairs.{pair_at}
use Rattle.wf_names_scopes.proofs.PackageLemmas.{number_added, name_added, public_added, variables_added, count, on_ok}
use Rattle.wf_names_scopes.proofs.tables.put_method.Goals as goal

pub returns : goal.returns
returns c =
    let heading = c.args.heading in
    on_ok c.put_pair.result (λ put d m public owner name told p. record {
      statuses = p.statuses;
      structs = p.structs;
      constants = p.constants;
      fields = p.fields;
      places = p.places;
      methods = number_added d m heading.owner heading.name c.len-m.result (pair_at c.args.tables.now.methods) (pair_at c.put_pair.new.table) owner name
          (count c.len-m.result c.args.tables.now.publics d.methods c.len-m.ensures p.publics) put p.methods;
      method_names = name_added d m heading.name (contains nat_eq c.args.tables.now.method_names) (contains nat_eq c.add_name.new.names) name c.in_ok-add_name.ensures p.method_names;
      publics = public_added d m heading.public c.args.tables.now.publics.items c.push-2.new.self.items public c.in_ok-push-2.ensures.items p.publics;
      variables = variables_added d m c.args.tables.now.variables.items c.push.new.self.items c.args.variables c.in_ok-push.ensures.items told p.variables;
    }) c.put_pair.ensures
