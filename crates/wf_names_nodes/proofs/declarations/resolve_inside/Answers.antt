use Rattle.std.proofs.Common.{◌∙◌}
use Rattle.wf_names_resolve.proofs.Growth.{grows_more}
use Rattle.wf_names_nodes.proofs.DeclaringLemmas.{variables_kept, variables_below}
use Rattle.wf_names_nodes.proofs.declarations.resolve_inside.Goals as goal

pub returns-clause-grows : goal.returns-clause-grows
returns-clause-grows c = grows_more c.args.nodes.now c.resolve_locals.new.nodes c.resolve_body.new.nodes c.in_ok-locals.ensures.grows c.in_ok-body.ensures.grows

pub returns-clause-below : goal.returns-clause-below
returns-clause-below c =
    (variables_below c.resolve_locals.new.nodes c.resolve_body.new.nodes c.in_ok-body.ensures.grows c.in_ok-locals.locals c.in_ok-locals.ensures.below, c.in_ok-body.ensures.below)

pub returns-clause-locals : goal.returns-clause-locals
returns-clause-locals c =
    variables_kept c.resolve_locals.new.nodes c.resolve_body.new.nodes c.in_ok-body.ensures.grows c.in_ok-locals.locals c.in_ok-locals.ensures.below ∙ c.in_ok-locals.ensures.made
