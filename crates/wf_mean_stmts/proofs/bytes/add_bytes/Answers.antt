use Rattle.std.proofs.Common.{◌∙◌, refl, ap, take, arith}
use Rattle.wf_mean_stmts.proofs.ByteLemmas.{bytes_added}
use Rattle.wf_mean_stmts.proofs.bytes.add_bytes.Goals as goal

pub returns-clause-bytes : goal.returns-clause-bytes
returns-clause-bytes c =
    let more = c.split_at-2.result.0.now in
    let n = c.min-n.result in
    bytes_added c.args.had.bytes more c.write_over.new.cells c.args.buf.now c.args.had.count n c.args.lacks c.write_over.ensures
    (c.split_at-2.ensures.front ∙ ap (take n) (c.split_at.ensures.back ∙ rw (c.bytes.ensures.cells, c.ri.ensures) refl))
    (c.min-n.ensures ∙ rw c.reader_length.ensures refl) (omega (arith, c.requires)) c.split_at-2.ensures.front_len
