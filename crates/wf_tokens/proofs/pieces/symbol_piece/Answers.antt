use Rattle.wf_tokens.proofs.PieceLemmas.{refused_symbol}
use Rattle.wf_tokens.proofs.pieces.symbol_piece.Goals as goal

pub returns-in-None-clause-none : goal.returns-in-None-clause-none
returns-in-None-clause-none c = refused_symbol c.args.bytes.now c.requires.run c.requires.quote c.in-None.ensures.none
