use Rattle.wf_exprs.proofs.Growing.{grows_on, kept_name}
use Rattle.wf_lower.proofs.shared.put_names.Goals as goal

pub returns-in_err-size-clause-grows : goal.returns-in_err-size-clause-grows
returns-in_err-size-clause-grows c = grows_on (grows_on c.put_name.ensures.grows c.put_name-2.ensures.grows) c.put_name-3.ensures.grows

pub returns-in_err-held-clause-grows : goal.returns-in_err-held-clause-grows
returns-in_err-held-clause-grows c = grows_on (grows_on (grows_on c.put_name.ensures.grows c.put_name-2.ensures.grows) c.put_name-3.ensures.grows) c.put_name-4.ensures.grows

pub returns-in_err-count-clause-grows : goal.returns-in_err-count-clause-grows
returns-in_err-count-clause-grows c = grows_on (grows_on (grows_on (grows_on c.put_name.ensures.grows c.put_name-2.ensures.grows) c.put_name-3.ensures.grows) c.put_name-4.ensures.grows) c.put_name-5.ensures.grows

pub returns-clause-grows : goal.returns-clause-grows
returns-clause-grows c = grows_on (grows_on (grows_on (grows_on c.put_name.ensures.grows c.put_name-2.ensures.grows) c.put_name-3.ensures.grows) c.put_name-4.ensures.grows) c.put_name-5.ensures.grows

pub returns-clause-made : goal.returns-clause-made
returns-clause-made c = record {
  status = kept_name _ _ (grows_on (grows_on (grows_on c.put_name-2.ensures.grows c.put_name-3.ensures.grows) c.put_name-4.ensures.grows) c.put_name-5.ensures.grows) c.in_ok-status.ensures.made;
  got = kept_name _ _ (grows_on (grows_on c.put_name-3.ensures.grows c.put_name-4.ensures.grows) c.put_name-5.ensures.grows) c.in_ok-got.ensures.made;
  size = kept_name _ _ (grows_on c.put_name-4.ensures.grows c.put_name-5.ensures.grows) c.in_ok-size.ensures.made;
  held = kept_name _ _ c.put_name-5.ensures.grows c.in_ok-held.ensures.made;
  count = c.in_ok-count.ensures.made;
}
