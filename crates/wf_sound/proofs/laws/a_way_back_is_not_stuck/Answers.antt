use Rattle.wf_sound.proofs.Standing.{back-law, end-asks}
use Rattle.wf_sound.proofs.laws.a_way_back_is_not_stuck.Goals as goal

pub returns-clause-step : goal.returns-clause-step
returns-clause-step k lists shape b calls turns site head body rest behind vars before fs at running facts known e w = back-law _ shape b calls turns site head body rest behind vars before fs at running facts known e w

pub returns-clause-at_end : goal.returns-clause-at_end
returns-clause-at_end k before fs site head e = end-asks before fs site head e
