use Rattle.wf_names_rules.specs.Pairs.{same_pair, pair_at}
use Rattle.wf_names_scopes.proofs.NumberLemmas.{sort_put, place_put}
use Rattle.wf_names_scopes.proofs.PackageLemmas.{on_ok}
use Rattle.wf_names_scopes.proofs.numbers.add_field.Goals as goal

pub returns-clause-sorts : goal.returns-clause-sorts
returns-clause-sorts c =
    on_ok c.put_pair.result (sort_put same_pair (pair_at c.args.fields.now) (pair_at c.put_pair.new.table) (c.args.owner.0, c.args.name.0) c.args.entry) c.put_pair.ensures

pub returns-clause-places : goal.returns-clause-places
returns-clause-places c =
    on_ok c.put_pair.result (place_put same_pair (pair_at c.args.fields.now) (pair_at c.put_pair.new.table) (c.args.owner.0, c.args.name.0) c.args.entry) c.put_pair.ensures
