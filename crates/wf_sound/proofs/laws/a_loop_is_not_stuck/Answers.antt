use Rattle.wf_sound.proofs.Standing.{loop-law}
use Rattle.wf_sound.proofs.laws.a_loop_is_not_stuck.Goals as goal

pub returns : goal.returns
returns k lists shape b calls turns site head body rest behind vars fs running facts known e = loop-law _ shape b calls turns site head body rest behind vars fs running facts known e
