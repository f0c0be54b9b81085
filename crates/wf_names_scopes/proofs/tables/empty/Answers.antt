use Rattle.std.proofs.Common.{refl}
use Rattle.wf_names_scopes.proofs.tables.empty.Goals as goal

pub returns : goal.returns
returns c = λ texts. record {
  statuses = c.no_names.ensures.statuses;
  structs = c.no_names-2.ensures.structs;
  constants = c.no_variables.ensures texts;
  fields = λ owner text. rw c.new.ensures.empty refl;
  places = λ owner text. rw c.new.ensures.empty refl;
  methods = λ owner text. rw c.new-2.ensures.empty refl;
  method_names = λ text. rw c.new-3.ensures.empty refl;
  publics = c.new-4.ensures.items;
  variables = rw c.new-5.ensures.items tt;
}
