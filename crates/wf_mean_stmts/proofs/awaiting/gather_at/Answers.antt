use Rattle.wf_mean_stmts.proofs.StoringLemmas.{set_change}
use Rattle.wf_mean_stmts.proofs.awaiting.gather_at.Goals as goal

pub returns-clause-after : goal.returns-clause-after
returns-clause-after c = set_change _ c.args.bufs.now c.args.k c.gather.new.buf c.at_mut.result.now c.at_mut.ensures.value c.gather.ensures.after
