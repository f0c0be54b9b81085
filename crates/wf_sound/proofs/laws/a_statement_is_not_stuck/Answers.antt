use Rattle.wf_sound.proofs.StatementLaw.{statement-law}
use Rattle.wf_sound.proofs.laws.a_statement_is_not_stuck.Goals as goal

pub returns : goal.returns
returns k lists shape b calls turns done site s rest behind vars fs running on facts e ready runs = statement-law _ shape b calls turns done site rest behind vars fs facts s running on e ready runs
