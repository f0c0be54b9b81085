use Rattle.std.proofs.Common.{length, ap, arith}
use Rattle.wf_facts_exprs.proofs.PassLemmas.{lt_from}
use Rattle.wf_facts.proofs.LeftLemmas.{left-few}
use Rattle.wf_facts.proofs.list.Facts.has_room.Goals as goal

pub returns : goal.returns
returns c told = omega (arith, ap (λ f. length f.list) c.self.view_is, left-few c.self.inside.gone.words c.self.inside.slots.list, c.len.ensures.value, lt_from c.len.result 512 told)
