use Rattle.std.proofs.Common.{ℕ, ap}
use Rattle.wf_exprs.specs.Exprs.{peeked}
use Rattle.wf_exprs.proofs.Growing.{grows_on, kept_expr, retell}
use Rattle.wf_exprs_nodes.proofs.OperandLaws.{has_there, has_is}
use Rattle.wf_exprs_nodes.proofs.asking.number_ahead.Goals as goal

pub operation-requires-clause-others : goal.operation-requires-clause-others
operation-requires-clause-others c = has_there _ _ _ c.in_ok-others.ensures.made

pub returns-clause-grows : goal.returns-clause-grows
returns-clause-grows c = grows_on (grows_on (grows_on c.peeked.ensures.grows c.byte_ahead.ensures.grows) c.higher_bytes.ensures.grows) c.operation.ensures.grows

pub returns-clause-made : goal.returns-clause-made
returns-clause-made c =
    let x = (kept_expr _ _ c.higher_bytes.ensures.grows (kept_expr _ _ c.byte_ahead.ensures.grows c.in_ok-lowest.ensures.made)).is in
    let y = (kept_expr _ _ c.higher_bytes.ensures.grows c.in_ok-second.ensures.made).is in
    let z = has_is _ _ _ c.in_ok-others.ensures.made in
    let at = ap (λ (k : ℕ). peeked c.args.scope.now.names c.args.a k) c.byte_at.ensures in
    retell _ _ _ c.operation.result (cc (x, y, z, at)) c.operation.ensures.made
