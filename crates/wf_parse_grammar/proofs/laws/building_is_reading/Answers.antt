use Rattle.wf_parse_grammar.proofs.Erasing.{same-run}
use Rattle.wf_parse_grammar.proofs.laws.building_is_reading.Goals as goal

pub returns : goal.returns
returns c limited room tokens wants made = same-run limited room tokens wants made
