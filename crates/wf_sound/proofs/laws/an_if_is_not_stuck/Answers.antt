use Rattle.wf_sound.proofs.Standing.{if-law}
use Rattle.wf_sound.proofs.laws.an_if_is_not_stuck.Goals as goal

pub returns : goal.returns
returns k lists shape b calls turns at site chained t cs a d rest behind vars fs running facts known e = if-law _ shape b calls turns at site chained t cs a d rest behind vars fs running facts known e
