use Rattle.wf_facts.proofs.LeftLemmas.{claims-without, list-without, own_set, IsOver-lost}
use Rattle.wf_facts.proofs.list.Facts.drop_indexed.Goals as goal

pub returns-clause-list : goal.returns-clause-list
returns-clause-list c nodes over = list-without nodes c.args.self.now _ c.self.view_is c.args.x c.set.result.now.words c.join.new.self.words over c.join.ensures c.set.ensures

pub returns-clause-over : goal.returns-clause-over
returns-clause-over c nodes over =
    IsOver-lost nodes c.args.self.now _ c.self.view_is c.args.x c.set.result.now.words c.join.new.self.words over c.join.ensures (own_set nodes c.args.self.now _ c.self.view_is over c.args.x c.requires c.set.result.now.words c.set.ensures)

pub returns-clause-claims : goal.returns-clause-claims
returns-clause-claims c nodes over =
    claims-without nodes c.args.self.now _ c.self.view_is c.args.x c.set.result.now.words c.join.new.self.words over c.join.ensures (own_set nodes c.args.self.now _ c.self.view_is over c.args.x c.requires c.set.result.now.words c.set.ensures)
