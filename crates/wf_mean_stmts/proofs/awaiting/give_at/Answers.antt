use Rattle.wf_mean_stmts.proofs.StoringLemmas.{set_if}
use Rattle.wf_mean_stmts.proofs.awaiting.give_at.Goals as goal

pub returns-clause-after : goal.returns-clause-after
returns-clause-after c = set_if _ c.give_u8.result c.args.bufs.now c.args.k c.give_u8.new.self c.at_mut.result.now c.at_mut.ensures.value c.give_u8.ensures.after
