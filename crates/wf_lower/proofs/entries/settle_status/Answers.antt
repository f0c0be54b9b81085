use Rattle.wf_exprs.proofs.Growing.{grows_on, kept_expr}
use Rattle.wf_exprs_nodes.proofs.ItemLaws.{code_kept}
use Rattle.wf_lower_stmts.proofs.HereLaws.{retell_code}
use Rattle.wf_lower.proofs.EntryLaws.{when_as}
use Rattle.wf_lower.proofs.entries.settle_status.Goals as goal

pub when-requires-clause-test : goal.when-requires-clause-test
when-requires-clause-test c = c.set_active_at_end.ensures.grows.more_exprs _ c.requires.exprs.suspended.there

pub when-requires-clause-rest : goal.when-requires-clause-rest
when-requires-clause-rest c = c.set_active_at_end.ensures.grows.more_stmts _ c.requires.failed.there

pub returns-clause-made : goal.returns-clause-made
returns-clause-made c =
    let g = c.set_active_at_end.ensures.grows in
    retell_code _ _ _ c.when.result (when_as (kept_expr _ _ g c.requires.exprs.suspended).is c.in_ok-body.ensures.made.is (code_kept _ _ g c.requires.failed).is) c.when.ensures.made

pub returns-clause-grows : goal.returns-clause-grows
returns-clause-grows c = grows_on c.set_active_at_end.ensures.grows c.when.ensures.grows
