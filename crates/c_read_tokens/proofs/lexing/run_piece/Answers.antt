use Rattle.c_read_tokens.proofs.LexLaws.{run_stands, run_absent}
use Rattle.c_read_tokens.proofs.lexing.run_piece.Goals as goal

pub returns-clause-some : goal.returns-clause-some
returns-clause-some c = run_stands c.args.bytes.now _ _ c.word_len.result c.requires c.word_len.ensures.run c.word_len.ensures.whole c.split_at.ensures.front c.split_at.ensures.back c.run_kind.result c.in_ok-kind.kind c.run_kind.ensures c.in_ok-kind.was

pub returns-in_err-kind-clause-none : goal.returns-in_err-kind-clause-none
returns-in_err-kind-clause-none c = rw c.from_residual.ensures (run_absent c.args.bytes.now _ _ c.word_len.result c.requires c.word_len.ensures.run c.word_len.ensures.whole c.split_at.ensures.front c.split_at.ensures.back c.run_kind.result c.run_kind.ensures c.in_err-kind.was)
