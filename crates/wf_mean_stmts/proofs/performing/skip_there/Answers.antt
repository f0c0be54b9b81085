use Rattle.wf_mean_stmts.proofs.StoringLemmas.{set_change}
use Rattle.wf_mean_stmts.proofs.performing.skip_there.Goals as goal

pub returns-then-worst_case-reader_length-clause-after : goal.returns-then-worst_case-reader_length-clause-after
returns-then-worst_case-reader_length-clause-after c = set_change _ c.args.bufs.now c.args.k c.skip-taken.new.self c.at_mut.result.now c.at_mut.ensures.value c.skip-taken.ensures.after
