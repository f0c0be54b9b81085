use Rattle.std.proofs.Common.{◌∙◌, length}
use Rattle.wf_names_resolve.proofs.Growth.{grows_more}
use Rattle.wf_names_resolve.proofs.StmtLemmas.{target_more, target_kept}
use Rattle.wf_names_resolve.proofs.stmt_parts.resolve_keep.Goals as goal

pub returns-clause-grows : goal.returns-clause-grows
returns-clause-grows c =
    grows_more c.args.nodes.now c.resolve_target.new.nodes c.resolve_call.new.nodes c.in_ok-target.ensures.grows c.in_ok-call.ensures.grows

pub returns-clause-below : goal.returns-clause-below
returns-clause-below c =
    (target_more (length c.resolve_target.new.nodes.exprs) (length c.resolve_call.new.nodes.exprs) c.in_ok-call.ensures.grows.exprs c.in_ok-target.target c.in_ok-target.ensures.below, c.in_ok-call.ensures.below)

pub returns-clause-target : goal.returns-clause-target
returns-clause-target c =
    target_kept c.resolve_target.new.nodes c.resolve_call.new.nodes c.in_ok-call.ensures.grows c.in_ok-target.target c.in_ok-target.ensures.below ∙ c.in_ok-target.ensures.made
