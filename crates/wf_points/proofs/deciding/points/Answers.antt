use Rattle.std.proofs.Common.{◌∙◌, sym, None, Some}
use Rattle.wf_points.proofs.NumberLemmas.{decided_so}
use Rattle.wf_points.proofs.deciding.points.Goals as goal

pub returns-in_ok-saved-in-None-clause-few : goal.returns-in_ok-saved-in-None-clause-few
returns-in_ok-saved-in-None-clause-few c = decided_so c.args.t.now c.requires None (sym c.in-None.is ∙ c.in_ok-number_methods.ensures.refused)

pub returns-in-Some-clause-refused : goal.returns-in-Some-clause-refused
returns-in-Some-clause-refused c = decided_so c.args.t.now c.requires (Some c.in-Some.refusal) (sym c.in-Some.is ∙ c.in_ok-number_methods.ensures.refused)
