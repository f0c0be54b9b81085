use Rattle.std.proofs.Common.{ap, ◌∙◌, arith}
use Rattle.wf_facts_exprs.specs.NumberedSets.{words_at}
use Rattle.wf_facts_exprs.proofs.NumberedLemmas.{words_pushed}
use Rattle.wf_facts_exprs.proofs.numbered.use_up_to.Goals as goal

pub loop-list-preserved : goal.loop-list-preserved
loop-list-preserved c = record {
  same = λ k. ap (λ sets. words_at sets k) c.push_reserved.ensures.items ∙ words_pushed c.loop-list.list.items c.new.result c.new.ensures.words k ∙ c.loop-list.invariant.same k;
  few = omega arith;
  room = c.push_reserved.ensures.capacity ∙ c.loop-list.invariant.room;
}
