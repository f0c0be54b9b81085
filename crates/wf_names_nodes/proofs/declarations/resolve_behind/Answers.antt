use Rattle.std.proofs.Common.{◌∙◌, length}
use Rattle.wf_names_resolve.proofs.Growth.{grows_more}
use Rattle.wf_names_nodes.proofs.DeclaringLemmas.{result_kept, result_below}
use Rattle.wf_names_nodes.proofs.declarations.resolve_behind.Goals as goal

pub returns-clause-grows : goal.returns-clause-grows
returns-clause-grows c = grows_more c.args.nodes.now c.resolve_result.new.nodes c.resolve_inside.new.nodes c.in_ok-gives.ensures.grows c.in_ok-locals.ensures.grows

pub returns-clause-below : goal.returns-clause-below
returns-clause-below c =
    (result_below (length c.resolve_result.new.nodes.exprs) (length c.resolve_inside.new.nodes.exprs) c.in_ok-locals.ensures.grows.exprs c.in_ok-gives.gives c.in_ok-gives.ensures.below, c.in_ok-locals.ensures.below.0, c.in_ok-locals.ensures.below.1)

pub returns-clause-gives : goal.returns-clause-gives
returns-clause-gives c =
    result_kept c.resolve_result.new.nodes c.resolve_inside.new.nodes c.in_ok-locals.ensures.grows c.in_ok-gives.gives c.in_ok-gives.ensures.below ∙ c.in_ok-gives.ensures.made
