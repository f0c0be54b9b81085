use Rattle.std.proofs.Common.{◌∙◌, sym}
use Rattle.wf_mean_stmts.proofs.AwaitLemmas.{no_room, wrote}
use Rattle.wf_mean_stmts.proofs.awaiting.write_to.Goals as goal

pub returns-then-give_at-clause-steps : goal.returns-then-give_at-clause-steps
returns-then-give_at-clause-steps c = λ nodes n here rest behind buffer h.
    wrote nodes c.args.stage.now c.give_at.new.bufs n c.args.k c.args.byte buffer here rest behind (sym (c.give_at.ensures.room buffer h) ∙ c.if-give_at.true) (rw c.if-give_at.true at c.give_at.ensures.after)

pub returns-else-give_at-clause-steps : goal.returns-else-give_at-clause-steps
returns-else-give_at-clause-steps c = λ nodes n here rest behind buffer h.
    no_room nodes c.args.stage.now c.give_at.new.bufs n c.args.k c.args.byte buffer here rest behind (sym (c.give_at.ensures.room buffer h) ∙ c.if-give_at.false) (rw c.if-give_at.false at c.give_at.ensures.after)
