use Rattle.wf_exprs.proofs.Growing.{grows_on}
use Rattle.wf_lower.proofs.SharedLaws.{kept_parts}
use Rattle.wf_lower.proofs.entries.table.Goals as goal

pub when_wrong-requires-clause-parts : goal.when_wrong-requires-clause-parts
when_wrong-requires-clause-parts c = kept_parts _ _ c.when_other.ensures.grows c.requires.parts

pub when_disabled-requires-clause-parts : goal.when_disabled-requires-clause-parts
when_disabled-requires-clause-parts c = kept_parts _ _ (grows_on c.when_other.ensures.grows c.when_wrong.ensures.grows) c.requires.parts

pub when_unready-requires-clause-parts : goal.when_unready-requires-clause-parts
when_unready-requires-clause-parts c = kept_parts _ _ (grows_on (grows_on c.when_other.ensures.grows c.when_wrong.ensures.grows) c.when_disabled.ensures.grows) c.requires.parts

pub returns-clause-grows : goal.returns-clause-grows
returns-clause-grows c = grows_on (grows_on (grows_on c.when_other.ensures.grows c.when_wrong.ensures.grows) c.when_disabled.ensures.grows) c.when_unready.ensures.grows

pub returns-in_err-rest-2-clause-grows : goal.returns-in_err-rest-2-clause-grows
returns-in_err-rest-2-clause-grows c = grows_on c.when_other.ensures.grows c.when_wrong.ensures.grows

pub returns-in_err-rest-3-clause-grows : goal.returns-in_err-rest-3-clause-grows
returns-in_err-rest-3-clause-grows c = grows_on (grows_on c.when_other.ensures.grows c.when_wrong.ensures.grows) c.when_disabled.ensures.grows
