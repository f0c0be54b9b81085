use Rattle.std.proofs.Common.{◌∙◌, ap}
use Rattle.c_text.specs.declared.kinds.COp.TheVariants.{Both, Ne}
use Rattle.wf_exprs.proofs.Growing.{grows_on}
use Rattle.wf_exprs.specs.Words.{num, two}
use Rattle.wf_exprs_nodes.proofs.ItemLaws.{code_kept}
use Rattle.wf_lower_stmts.proofs.HereLaws.{retell_code}
use Rattle.wf_lower.specs.Bodies.{active}
use Rattle.wf_lower.proofs.EntryLaws.{when_as}
use Rattle.wf_lower.proofs.SharedLaws.{kept_exprs}
use Rattle.wf_lower.proofs.entries.when_not_own.Goals as goal

pub is_other-requires : goal.is_other-requires
is_other-requires c = kept_exprs _ c.refuse_other.ensures.grows c.requires.parts.exprs

pub returns-in_err-test-clause-grows : goal.returns-in_err-test-clause-grows
returns-in_err-test-clause-grows c = grows_on c.refuse_other.ensures.grows c.is_other.ensures.grows

pub when-requires-clause-rest : goal.when-requires-clause-rest
when-requires-clause-rest c = (grows_on c.refuse_other.ensures.grows c.is_other.ensures.grows).more_stmts c.args.rest.0 c.requires.rest

pub returns-clause-grows : goal.returns-clause-grows
returns-clause-grows c = grows_on (grows_on c.refuse_other.ensures.grows c.is_other.ensures.grows) c.when.ensures.grows

pub returns-clause-made : goal.returns-clause-made
returns-clause-made c =
    let test = c.in_ok-test.ensures.made.is ∙ ap (λ n. two Both active (two Ne active (num n))) c.active_number.ensures in
    let body = (code_kept _ _ c.is_other.ensures.grows c.in_ok-body.ensures.made).is in
    let rest = (grows_on c.refuse_other.ensures.grows c.is_other.ensures.grows).stmts c.args.rest.0 c.requires.rest in
    retell_code _ _ _ c.when.result (when_as test body rest) c.when.ensures.made
