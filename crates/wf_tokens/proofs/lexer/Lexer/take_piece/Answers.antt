use Rattle.std.proofs.Common.{◌≡◌, ◌∙◌, take, drop, refl, sym, ap}
use Rattle.std.proofs.lemmas.List.{length-take-le}
use Rattle.wf_tokens.specs.Places.{along, behind_bytes}
use Rattle.wf_tokens.proofs.OneLine.{piece_along}
use Rattle.wf_tokens.proofs.lexer.Lexer.take_piece.Goals as goal

pub returns : goal.returns
returns c =
    let piece = c.args.piece in
    let behind = c.args.behind.now in
    let place : c.along.result ≡ behind_bytes c.args.at (take piece.len behind) = c.along.ensures ∙ ap (along c.args.at) (sym (length-take-le piece.len behind c.requires.piece.within)) ∙ sym (piece_along c.args.at piece.kind (take piece.len behind) (drop piece.len behind) c.requires.piece.piece) in
    rw (c.split_at.ensures.front, c.split_at.ensures.back, place, c.ends_statement.ensures) (record { is = refl; after = refl })
