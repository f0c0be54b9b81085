use Rattle.wf_exprs.proofs.Growing.{grows_on}
use Rattle.wf_exprs_nodes.proofs.ItemLaws.{code_kept}
use Rattle.wf_lower.proofs.shared.put_refusals.Goals as goal

pub returns-in_err-not_initialized-clause-grows : goal.returns-in_err-not_initialized-clause-grows
returns-in_err-not_initialized-clause-grows c = grows_on (grows_on c.refuse.ensures.grows c.refuse-2.ensures.grows) c.refuse-3.ensures.grows

pub returns-in_err-interleaved-clause-grows : goal.returns-in_err-interleaved-clause-grows
returns-in_err-interleaved-clause-grows c = grows_on (grows_on (grows_on c.refuse.ensures.grows c.refuse-2.ensures.grows) c.refuse-3.ensures.grows) c.refuse-4.ensures.grows

pub returns-in_err-was_disabled-clause-grows : goal.returns-in_err-was_disabled-clause-grows
returns-in_err-was_disabled-clause-grows c = grows_on (grows_on (grows_on (grows_on c.refuse.ensures.grows c.refuse-2.ensures.grows) c.refuse-3.ensures.grows) c.refuse-4.ensures.grows) c.refuse-5.ensures.grows

pub returns-clause-grows : goal.returns-clause-grows
returns-clause-grows c = grows_on (grows_on (grows_on (grows_on c.refuse.ensures.grows c.refuse-2.ensures.grows) c.refuse-3.ensures.grows) c.refuse-4.ensures.grows) c.refuse-5.ensures.grows

pub returns-clause-made : goal.returns-clause-made
returns-clause-made c = record {
  bad_receiver = code_kept _ _ (grows_on (grows_on (grows_on c.refuse-2.ensures.grows c.refuse-3.ensures.grows) c.refuse-4.ensures.grows) c.refuse-5.ensures.grows) c.in_ok-bad_receiver.ensures.made;
  bad_argument = code_kept _ _ (grows_on (grows_on c.refuse-3.ensures.grows c.refuse-4.ensures.grows) c.refuse-5.ensures.grows) c.in_ok-bad_argument.ensures.made;
  not_initialized = code_kept _ _ (grows_on c.refuse-4.ensures.grows c.refuse-5.ensures.grows) c.in_ok-not_initialized.ensures.made;
  interleaved = code_kept _ _ c.refuse-5.ensures.grows c.in_ok-interleaved.ensures.made;
  was_disabled = c.in_ok-was_disabled.ensures.made;
}
