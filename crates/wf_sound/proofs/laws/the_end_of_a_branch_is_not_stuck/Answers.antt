use Rattle.wf_sound.proofs.Standing.{branch-end-law}
use Rattle.wf_sound.proofs.laws.the_end_of_a_branch_is_not_stuck.Goals as goal

pub returns : goal.returns
returns k lists shape b calls turns cs ends i rest behind vars before fs running all e known = branch-end-law _ shape b calls turns cs ends i rest behind vars before fs running all e known
