use Rattle.std.proofs.Common.{sym}
use Rattle.wf_facts.proofs.LeftLemmas.{about_left}
use Rattle.wf_facts.proofs.list.Facts.about.Goals as goal

pub returns-clause-some : goal.returns-clause-some
returns-clause-some c =
    about_left c.args.t.now c.args.self.now _ c.self.view_is c.requires.over c.args.x (sym c.if-not-has_set.ensures) c.set.result.now.words c.set.ensures c.left.result.words c.len.result c.len.ensures.value c.left.ensures
