use Rattle.std.proofs.Common.{length, ap, arith}
use Rattle.wf_facts.proofs.LeftLemmas.{left-few}
use Rattle.wf_facts.proofs.list.Facts.keeps_limit.Goals as goal

pub returns : goal.returns
returns c = omega (arith, ap (λ f. length f.list) c.self.view_is, left-few c.self.inside.gone.words c.self.inside.slots.list, c.len-slots.ensures.value, c.len-slots.ensures.few)
