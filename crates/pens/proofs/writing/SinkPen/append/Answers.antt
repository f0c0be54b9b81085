use Rattle.std.proofs.Common.{rules, ◌≡◌, ◌+◌, ◌-◌, ◌≤◌, ◌++◌, length, take, sym, ◌∙◌, ap}
use Rattle.std.proofs.lemmas.Slice.{take-put_mid}
use borrow.Rule.Slice.PartMut.{put_mid}
use Rattle.pens.proofs.PenLemmas.{piece_waits}
use Rattle.pens.proofs.writing.SinkPen.append.Goals as goal

pub returns-clause-writes : goal.returns-clause-writes
returns-clause-writes g c =
    let filled = c.args.self.now.filled in
    let buffer = c.args.self.now.buffer in
    let piece = c.args.piece.now in
    let copy = c.copy_from_slice.new.self in
    let within : filled ≤ length buffer = search rules in
    let same : copy ≡ piece = c.copy_from_slice.ensures.after in
    let end : filled + length piece ≡ filled + length copy = ap (λ xs. filled + length xs) (sym same) in
    let more : take (filled + length piece) (put_mid filled (filled + length piece - filled) buffer copy) ≡ take filled buffer ++ piece = take-put_mid filled (filled + length piece - filled) buffer copy (filled + length piece) end within ∙ ap (λ xs. take filled buffer ++ xs) same in
    piece_waits _ _ _ _ buffer (put_mid filled (filled + length piece - filled) buffer copy) filled c.args.self.now.sent c.args.self.now.failed piece c.requires.sent c.requires.fine more
