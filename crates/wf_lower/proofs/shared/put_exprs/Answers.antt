use Rattle.wf_exprs.proofs.Growing.{grows_on, kept_expr}
use Rattle.wf_lower.proofs.shared.put_exprs.Goals as goal

pub returns-in_err-two-clause-grows : goal.returns-in_err-two-clause-grows
returns-in_err-two-clause-grows c = grows_on (grows_on c.of_self.ensures.grows c.of_self-2.ensures.grows) c.number.ensures.grows

pub returns-in_err-null-clause-grows : goal.returns-in_err-null-clause-grows
returns-in_err-null-clause-grows c = grows_on (grows_on (grows_on c.of_self.ensures.grows c.of_self-2.ensures.grows) c.number.ensures.grows) c.is_null.ensures.grows

pub returns-in_err-raw-clause-grows : goal.returns-in_err-raw-clause-grows
returns-in_err-raw-clause-grows c = grows_on (grows_on (grows_on (grows_on c.of_self.ensures.grows c.of_self-2.ensures.grows) c.number.ensures.grows) c.is_null.ensures.grows) c.life_is.ensures.grows

pub returns-in_err-disabled-clause-grows : goal.returns-in_err-disabled-clause-grows
returns-in_err-disabled-clause-grows c = grows_on (grows_on (grows_on (grows_on (grows_on c.of_self.ensures.grows c.of_self-2.ensures.grows) c.number.ensures.grows) c.is_null.ensures.grows) c.life_is.ensures.grows) c.life_is-2.ensures.grows

pub returns-in_err-suspended-clause-grows : goal.returns-in_err-suspended-clause-grows
returns-in_err-suspended-clause-grows c = grows_on (grows_on (grows_on (grows_on (grows_on (grows_on c.of_self.ensures.grows c.of_self-2.ensures.grows) c.number.ensures.grows) c.is_null.ensures.grows) c.life_is.ensures.grows) c.life_is-2.ensures.grows) c.first_is.ensures.grows

pub returns-clause-grows : goal.returns-clause-grows
returns-clause-grows c = grows_on (grows_on (grows_on (grows_on (grows_on (grows_on c.of_self.ensures.grows c.of_self-2.ensures.grows) c.number.ensures.grows) c.is_null.ensures.grows) c.life_is.ensures.grows) c.life_is-2.ensures.grows) c.first_is.ensures.grows

pub returns-clause-made : goal.returns-clause-made
returns-clause-made c = record {
  life = kept_expr _ _ (grows_on (grows_on (grows_on (grows_on (grows_on c.of_self-2.ensures.grows c.number.ensures.grows) c.is_null.ensures.grows) c.life_is.ensures.grows) c.life_is-2.ensures.grows) c.first_is.ensures.grows) c.in_ok-life.ensures.made;
  active = kept_expr _ _ (grows_on (grows_on (grows_on (grows_on c.number.ensures.grows c.is_null.ensures.grows) c.life_is.ensures.grows) c.life_is-2.ensures.grows) c.first_is.ensures.grows) c.in_ok-active.ensures.made;
  two = kept_expr _ _ (grows_on (grows_on (grows_on c.is_null.ensures.grows c.life_is.ensures.grows) c.life_is-2.ensures.grows) c.first_is.ensures.grows) c.in_ok-two.ensures.made;
  null = kept_expr _ _ (grows_on (grows_on c.life_is.ensures.grows c.life_is-2.ensures.grows) c.first_is.ensures.grows) c.in_ok-null.ensures.made;
  raw = kept_expr _ _ (grows_on c.life_is-2.ensures.grows c.first_is.ensures.grows) c.in_ok-raw.ensures.made;
  disabled = kept_expr _ _ c.first_is.ensures.grows c.in_ok-disabled.ensures.made;
  suspended = c.in_ok-suspended.ensures.made;
}
