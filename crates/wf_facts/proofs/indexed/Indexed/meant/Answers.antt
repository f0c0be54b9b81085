use Rattle.std.proofs.Common.{sym}
use Rattle.wf_facts.proofs.DropLemmas.{set_known}
use Rattle.wf_facts.proofs.indexed.Indexed.meant.Goals as goal

pub returns-then-has_set : goal.returns-then-has_set
returns-then-has_set c =
    set_known c.args.t.now c.args.self.now _ c.self.view_is c.args.x (sym c.if-has_set.ensures) c.requires.over c.set_number.result c.set_number.ensures c.at.result.now.words c.at.ensures
