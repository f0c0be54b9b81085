use Rattle.std.proofs.Common.{arith}
use Rattle.wf_axioms.specs.Bindings.{trees_in}
use Rattle.wf_axioms.specs.Items.{claims_of_items}
use Rattle.wf_axioms.proofs.ItemLemmas.{claims-stop, stopped}
use Rattle.wf_axioms.proofs.asking.items.Goals as goal

pub returns-in_err-item-clause-claims : goal.returns-in_err-item-clause-claims
returns-in_err-item-clause-claims c = λ nodes. rw c.from_residual.ensures
    (stopped (claims_of_items nodes c.loop-c.made) _ _ (claims-stop (trees_in nodes c.args.b) c.args.asked.now c.loop-c.c-index _ (omega arith) (c.in_err-item.ensures.claim nodes)) (c.loop-c.invariant.left nodes))
