use Rattle.wf_facts_exprs.specs.Claims.{side_in, side_mentions}
use Rattle.wf_facts.proofs.MarkLemmas.{things-both}
use Rattle.wf_facts.proofs.marking.mark.Goals as goal

pub returns-in-Compare : goal.returns-in-Compare
returns-in-Compare c =
    rw c.in-Compare.is
    (things-both c.args.n (λ x. side_mentions x (side_in c.args.t.now c.in-Compare.left)) (λ x. side_mentions x (side_in c.args.t.now c.in-Compare.right)) c.args.sets.now c.args.fields.now c.mark_side.new.sets c.mark_side.new.fields
    c.mark_side-in-Compare.new.sets c.mark_side-in-Compare.new.fields c.mark_side.ensures c.mark_side-in-Compare.ensures)

pub returns-in-Cond : goal.returns-in-Cond
returns-in-Cond c = rw c.in-Cond.is c.mark_condition.ensures
