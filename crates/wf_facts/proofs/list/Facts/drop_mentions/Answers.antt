use Rattle.wf_facts.proofs.LeftLemmas.{claims-without, IsOver-lost}
use Rattle.wf_facts.proofs.list.Facts.drop_mentions.Goals as goal

pub returns-clause-claims : goal.returns-clause-claims
returns-clause-claims c = claims-without c.args.t.now c.args.self.now _ c.self.view_is c.args.x c.meant-dropped.result.words c.join.new.self.words c.requires.over c.join.ensures c.meant-dropped.ensures

pub returns-clause-over : goal.returns-clause-over
returns-clause-over c = IsOver-lost c.args.t.now c.args.self.now _ c.self.view_is c.args.x c.meant-dropped.result.words c.join.new.self.words c.requires.over c.join.ensures c.meant-dropped.ensures
