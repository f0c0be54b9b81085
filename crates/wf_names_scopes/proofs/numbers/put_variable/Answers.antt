use Rattle.std.proofs.Common.{nat_eq, sym, ◌∙◌}
use Rattle.wf_names_scopes.proofs.NumberLemmas.{name_kept, name_put}
use Rattle.wf_names_scopes.proofs.numbers.put_variable.Goals as goal

pub returns-then-contains_key-clause-names : goal.returns-then-contains_key-clause-names
returns-then-contains_key-clause-names c = name_kept nat_eq c.args.entries.now c.args.name.0 (sym c.contains_key.ensures ∙ c.if-contains_key.true)

pub returns-clause-names : goal.returns-clause-names
returns-clause-names c =
    name_put nat_eq c.args.entries.now c.args.name.0 c.args.entry c.insert.new.self.entries (sym c.contains_key.ensures ∙ c.if-contains_key.false) c.in_ok-insert.ensures.entries
