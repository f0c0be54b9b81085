use Rattle.wf_parse.proofs.OneReadings.{parsed_distinct}
use Rattle.wf_parse.proofs.laws.texts_are_distinct.Goals as goal

pub returns : goal.returns
returns c = parsed_distinct
