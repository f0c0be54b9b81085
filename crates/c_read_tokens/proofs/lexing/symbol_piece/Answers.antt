use Rattle.c_read_tokens.proofs.LexLaws.{first_is, symbol_there, symbol_nowhere}
use Rattle.c_read_tokens.proofs.lexing.symbol_piece.Goals as goal

pub symbol_in_front-requires : goal.symbol_in_front-requires
symbol_in_front-requires c = symbol_there c.args.bytes.now _ _ c.symbol_of.result c.in_ok-symbol_of.field-0 (first_is c.args.bytes.now c.requires.some _ c.first_byte-first.ensures) c.split_at.ensures.back c.symbol_of.ensures c.in_ok-symbol_of.was

pub returns-in_err-symbol_of-clause-none : goal.returns-in_err-symbol_of-clause-none
returns-in_err-symbol_of-clause-none c = rw c.from_residual.ensures (symbol_nowhere c.args.bytes.now _ _ c.symbol_of.result (first_is c.args.bytes.now c.requires.some _ c.first_byte-first.ensures) c.split_at.ensures.back c.requires.run c.requires.quote c.symbol_of.ensures c.in_err-symbol_of.was)
