use Rattle.wf_parse.proofs.OneReadings.{trees_unique, one_refusal, read_or_misread}
use Rattle.wf_parse.proofs.laws.one_reading.Goals as goal

pub returns-clause-trees : goal.returns-clause-trees
returns-clause-trees c = trees_unique

pub returns-clause-refusals : goal.returns-clause-refusals
returns-clause-refusals c = one_refusal

pub returns-clause-never_both : goal.returns-clause-never_both
returns-clause-never_both c = read_or_misread
