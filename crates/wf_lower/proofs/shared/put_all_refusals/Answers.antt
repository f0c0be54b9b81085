use Rattle.wf_exprs.proofs.Growing.{grows_on}
use Rattle.wf_lower.proofs.SharedLaws.{kept_refusals}
use Rattle.wf_lower.proofs.shared.put_all_refusals.Goals as goal

pub returns-in_err-value-clause-grows : goal.returns-in_err-value-clause-grows
returns-in_err-value-clause-grows c = grows_on c.put_refusals.ensures.grows c.put_refusals-2.ensures.grows

pub returns-in_err-nothing-clause-grows : goal.returns-in_err-nothing-clause-grows
returns-in_err-nothing-clause-grows c = grows_on (grows_on c.put_refusals.ensures.grows c.put_refusals-2.ensures.grows) c.put_refusals-3.ensures.grows

pub returns-clause-grows : goal.returns-clause-grows
returns-clause-grows c = grows_on (grows_on c.put_refusals.ensures.grows c.put_refusals-2.ensures.grows) c.put_refusals-3.ensures.grows

pub returns-clause-made : goal.returns-clause-made
returns-clause-made c = record {
  status = kept_refusals _ _ (grows_on c.put_refusals-2.ensures.grows c.put_refusals-3.ensures.grows) c.in_ok-status.ensures.made;
  value = kept_refusals _ _ c.put_refusals-3.ensures.grows c.in_ok-value.ensures.made;
  nothing = c.in_ok-nothing.ensures.made;
}
