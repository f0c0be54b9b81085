use Rattle.std.proofs.Common.{◌∙◌, ap}
use Rattle.wf_exprs.proofs.Growing.{grows_on}
use Rattle.wf_exprs.specs.Words.{num}
use Rattle.wf_exprs_nodes.proofs.ItemLaws.{code_kept}
use Rattle.c_text.specs.CTree.{assign, finish}
use Rattle.wf_lower_stmts.proofs.HereLaws.{retell_code}
use Rattle.wf_lower_stmts.specs.Forms.{when}
use Rattle.wf_lower.specs.Bodies.{active, first_is}
use Rattle.wf_lower.specs.Shared.{settle_error}
use Rattle.wf_lower.proofs.EntryLaws.{when_as}
use Rattle.wf_lower.proofs.SharedLaws.{kept_exprs}
use Rattle.wf_lower.proofs.entries.settle.Goals as goal

pub set_active-requires-clause-exprs : goal.set_active-requires-clause-exprs
set_active-requires-clause-exprs c = kept_exprs _ (grows_on (grows_on c.settle_status.ensures.grows c.variable.ensures.grows) c.when.ensures.grows) c.requires.parts.exprs

pub returns-in_err-status-clause-grows : goal.returns-in_err-status-clause-grows
returns-in_err-status-clause-grows c = grows_on c.settle_status.ensures.grows c.variable.ensures.grows

pub returns-in_err-rest-clause-grows : goal.returns-in_err-rest-clause-grows
returns-in_err-rest-clause-grows c = grows_on (grows_on c.settle_status.ensures.grows c.variable.ensures.grows) c.when.ensures.grows

pub returns-clause-grows : goal.returns-clause-grows
returns-clause-grows c = grows_on (grows_on (grows_on c.settle_status.ensures.grows c.variable.ensures.grows) c.when.ensures.grows) c.set_active.ensures.grows

pub returns-clause-made : goal.returns-clause-made
returns-clause-made c =
    let first = grows_on c.settle_status.ensures.grows c.variable.ensures.grows in
    let body = (code_kept _ _ c.variable.ensures.grows c.in_ok-body.ensures.made).is ∙ ap (λ n. when (first_is 36) (assign active (num n) finish) settle_error) c.active_number.ensures in
    let tested = c.in_ok-rest.ensures.made.is ∙ when_as c.in_ok-status.ensures.made.is body (first.stmts c.args.rest.0 c.requires.rest) in
    retell_code _ _ _ c.set_active.result (ap (assign active (num 0)) tested) c.set_active.ensures.made
