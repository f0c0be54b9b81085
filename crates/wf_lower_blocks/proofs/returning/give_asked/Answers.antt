use Rattle.std.proofs.Common.{ap, ◌∙◌}
use Rattle.c_text.specs.CGrammar.{is_lvalue}
use Rattle.wf_exprs.proofs.Growing.{grows_on}
use Rattle.wf_lower_blocks.proofs.returning.give_asked.Goals as goal

pub returns-clause-grows : goal.returns-clause-grows
returns-clause-grows c = grows_on (grows_on (grows_on (grows_on c.variable.ensures.grows c.give.ensures.grows) c.replace_suspension.ensures.grows) c.status.ensures.grows) c.assign.ensures.grows

pub returns-in_err-value-clause-grows : goal.returns-in_err-value-clause-grows
returns-in_err-value-clause-grows c = grows_on (grows_on (grows_on c.variable.ensures.grows c.give.ensures.grows) c.replace_suspension.ensures.grows) c.status.ensures.grows

pub assign-requires-clause-target : goal.assign-requires-clause-target
assign-requires-clause-target c =
    let grows = grows_on (grows_on c.give.ensures.grows c.replace_suspension.ensures.grows) c.status.ensures.grows in
    let made = c.in_ok-status.ensures.made in
    (grows.more_exprs c.in_ok-status.status.0 made.there, ap is_lvalue (grows.exprs c.in_ok-status.status.0 made.there ∙ made.is))
