use Rattle.wf_mean_stmts.proofs.CopyOutLemmas.{count_stays}
use Rattle.wf_mean_stmts.proofs.copying.write_element.Goals as goal

pub returns-then-v-lt256-clause-count : goal.returns-then-v-lt256-clause-count
returns-then-v-lt256-clause-count c = count_stays _ c.give_at-room.result _ _ c.args.k c.give_at-room.ensures.after
