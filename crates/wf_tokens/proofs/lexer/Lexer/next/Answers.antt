use Rattle.std.proofs.Common.{subst}
use Rattle.wf_tokens.specs.Spelling.{State, Reads, item_of}
use Rattle.wf_tokens.proofs.Reading.{reads_piece}
use Rattle.wf_tokens.proofs.lexer.Lexer.next.Goals as goal

pub returns-in-Ok-clause-token : goal.returns-in-Ok-clause-token
returns-in-Ok-clause-token c =
    let P : State → Type 0 = λ old. Reads old (item_of c.take_piece.result) c.take_piece.new.self in
    let old : State = record { rest = c.self.inside.rest.now; at = c.self.inside.at; due = c.self.inside.due; over = c.self.inside.over } in
    subst P c.self.view_is (reads_piece old c.gap_len.result c.in-Ok.piece.len c.split_at.result.0.now c.split_at.result.1.now c.behind_bytes-at.result c.in-Ok.piece.kind (item_of c.take_piece.result) c.take_piece.new.self c.if-self.false c.split_at.ensures.front c.split_at.ensures.back c.gap_len.ensures.gap c.behind_bytes-at.ensures.place c.in-Ok.ensures.piece c.take_piece.ensures)
