use Rattle.wf_mean.proofs.ToldLaws.{call-seen, init-seen}
use Rattle.wf_mean.proofs.laws.a_reply_is_the_meanings.Goals as goal

pub returns-clause-calls : goal.returns-clause-calls
returns-clause-calls c e called host n first = call-seen e called host n first

pub returns-clause-inits : goal.returns-clause-inits
returns-clause-inits c e receiver n = init-seen e receiver n
