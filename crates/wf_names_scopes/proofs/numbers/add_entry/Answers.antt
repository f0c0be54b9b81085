use Rattle.std.proofs.Common.{nat_eq}
use Rattle.indexmap.specs.IndexMap.{get}
use Rattle.wf_names_rules.specs.declared.tables.Entry.{Entry}
use Rattle.wf_names_scopes.proofs.NumberLemmas.{sort_put, place_put}
use Rattle.wf_names_scopes.proofs.numbers.add_entry.Goals as goal

pub returns-clause-sorts : goal.returns-clause-sorts
returns-clause-sorts c =
    let entry : Entry = record { sort = c.args.sort; place = c.args.variables.now.next } in
    sort_put nat_eq (get nat_eq c.args.variables.now.entries) (get nat_eq c.put_variable.new.entries) c.args.name.0 entry c.in_ok-put_variable.ensures.entries

pub returns-clause-places : goal.returns-clause-places
returns-clause-places c =
    let entry : Entry = record { sort = c.args.sort; place = c.args.variables.now.next } in
    place_put nat_eq (get nat_eq c.args.variables.now.entries) (get nat_eq c.put_variable.new.entries) c.args.name.0 entry c.in_ok-put_variable.ensures.entries
