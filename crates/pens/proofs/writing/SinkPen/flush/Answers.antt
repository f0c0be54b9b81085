use Rattle.std.proofs.Common.{rules, ◌≤◌, ◌+◌, length, take, refl, ◌∙◌, sym, ap}
use Rattle.std.proofs.lemmas.List.{length-take-le}
use Rattle.pens.specs.Pens.{cut}
use Rattle.pens.proofs.PenLemmas.{put_part}
use Rattle.pens.proofs.writing.SinkPen.flush.Goals as goal

pub returns-in-Err-clause-writes : goal.returns-in-Err-clause-writes
returns-in-Err-clause-writes g c =
    let small : length (take c.args.self.now.filled c.args.self.now.buffer) ≤ 4096 = search rules in
    let sent = c.saturating_add-self-in-Err.ensures ∙ ap (λ n. cut (c.args.self.now.sent + n)) (sym (length-take-le c.in-Err.fault.gone (take c.args.self.now.filled c.args.self.now.buffer) c.in-Err.ensures.bytes.1)) in
    put_part _ _ c.in-Err.fault c.if-not-self.true refl small c.in-Err.ensures.bytes.0 sent c.in-Err.ensures.count c.in-Err.ensures.room c.in-Err.ensures.longest
