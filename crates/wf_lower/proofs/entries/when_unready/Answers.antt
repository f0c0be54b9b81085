use Rattle.std.proofs.Common.{◌∙◌, refl}
use Rattle.wf_exprs.proofs.Growing.{grows_on, kept_expr}
use Rattle.wf_exprs_nodes.proofs.ItemLaws.{code_kept}
use Rattle.wf_lower_stmts.proofs.HereLaws.{retell_code}
use Rattle.wf_lower.proofs.EntryLaws.{when_as}
use Rattle.wf_lower.proofs.entries.when_unready.Goals as goal

pub when-requires-2-clause-test : goal.when-requires-2-clause-test
when-requires-2-clause-test c = c.when.ensures.grows.more_exprs _ c.requires.parts.exprs.null.there

pub when-requires-2-clause-body : goal.when-requires-2-clause-body
when-requires-2-clause-body c = c.when.ensures.grows.more_stmts _ c.requires.parts.refusals.bad_receiver.there

pub returns-clause-made : goal.returns-clause-made
returns-clause-made c =
    let k = c.requires.parts in
    let first = c.when.ensures.grows in
    let test = (kept_expr _ _ first k.exprs.null).is in
    let body = (code_kept _ _ first k.refusals.bad_receiver).is in
    let rest = c.in_ok-rest.ensures.made.is ∙ when_as k.exprs.raw.is k.refusals.not_initialized.is refl in
    retell_code _ _ _ c.when-2.result (when_as test body rest) c.when-2.ensures.made

pub returns-clause-grows : goal.returns-clause-grows
returns-clause-grows c = grows_on c.when.ensures.grows c.when-2.ensures.grows
