use Rattle.wf_names_uses.proofs.MeaningLaws.{calls-fit}
use Rattle.wf_names_uses.proofs.laws.where_nothing_is_found_every_call_fits.Goals as goal

pub returns : goal.returns
returns c = calls-fit
