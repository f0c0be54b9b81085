use Rattle.wf_sound.proofs.Standing.{body-end-law}
use Rattle.wf_sound.proofs.laws.the_end_of_a_body_is_not_stuck.Goals as goal

pub returns : goal.returns
returns k lists shape b calls turns vars running e = body-end-law _ shape b calls turns vars running e
