use Rattle.wf_exprs.proofs.Growing.{grows_on}
use Rattle.wf_exprs_nodes.proofs.ItemLaws.{code_kept}
use Rattle.wf_lower.proofs.SharedLaws.{kept_exprs, kept_names}
use Rattle.wf_lower.proofs.shared.put_shared.Goals as goal

pub returns-in_err-exprs-clause-grows : goal.returns-in_err-exprs-clause-grows
returns-in_err-exprs-clause-grows c = grows_on c.put_names.ensures.grows c.put_exprs.ensures.grows

pub returns-in_err-failed-clause-grows : goal.returns-in_err-failed-clause-grows
returns-in_err-failed-clause-grows c = grows_on (grows_on c.put_names.ensures.grows c.put_exprs.ensures.grows) c.settle_error.ensures.grows

pub returns-in_err-refusals-clause-grows : goal.returns-in_err-refusals-clause-grows
returns-in_err-refusals-clause-grows c = grows_on (grows_on (grows_on c.put_names.ensures.grows c.put_exprs.ensures.grows) c.settle_error.ensures.grows) c.put_all_refusals.ensures.grows

pub returns-clause-grows : goal.returns-clause-grows
returns-clause-grows c = grows_on (grows_on (grows_on c.put_names.ensures.grows c.put_exprs.ensures.grows) c.settle_error.ensures.grows) c.put_all_refusals.ensures.grows

pub returns-clause-made : goal.returns-clause-made
returns-clause-made c = record {
  names = kept_names _ (grows_on (grows_on c.put_exprs.ensures.grows c.settle_error.ensures.grows) c.put_all_refusals.ensures.grows) c.in_ok-names.ensures.made;
  exprs = kept_exprs _ (grows_on c.settle_error.ensures.grows c.put_all_refusals.ensures.grows) c.in_ok-exprs.ensures.made;
  failed = code_kept _ _ c.put_all_refusals.ensures.grows c.in_ok-failed.ensures.made;
  refusals = c.in_ok-refusals.ensures.made;
}
