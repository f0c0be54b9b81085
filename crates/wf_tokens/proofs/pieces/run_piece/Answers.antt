use Rattle.std.proofs.lemmas.Result.{err_from_is_err_and}
use Rattle.wf_tokens.proofs.PieceLemmas.{front_run, refused_run}
use Rattle.wf_tokens.proofs.pieces.run_piece.Goals as goal

pub returns-clause-piece : goal.returns-clause-piece
returns-clause-piece c = front_run c.in_ok-kind.kind c.run_len-len.result c.args.bytes.now c.requires c.run_len-len.ensures.within c.run_len-len.ensures.whole c.in_ok-kind.ensures.kind

pub returns-in_err-kind-clause-none : goal.returns-in_err-kind-clause-none
returns-in_err-kind-clause-none c =
    let p = err_from_is_err_and c.from_residual.result c.from_residual.ensures.1 in
    rw (p.1, p.2) (refused_run c.in_err-kind.field-0.0 c.run_len-len.result c.args.bytes.now c.run_len-len.ensures.run c.run_len-len.ensures.whole c.in_err-kind.ensures.none)
