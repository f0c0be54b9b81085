use Rattle.std.proofs.Common.{rules, take, refl, ap, length}
use Rattle.wf_outside.specs.Sinks.{FitsRoom}
use Rattle.c_text.specs.CNodes.{unit_tree}
use Rattle.c_text.specs.CLayout.{text_of}
use Rattle.pens.specs.Pens.{Prints}
use Rattle.pens.proofs.PenLemmas.{print_done}
use Rattle.c_text.proofs.printing.print.Goals as goal

pub returns-clause-bytes : goal.returns-clause-bytes
returns-clause-bytes g c =
    let all = print_done _ _ _ (text_of (unit_tree c.args.u.now)) c.finish.new.self.failed c.finish.result c.new-pen.ensures.fine (ap (λ n. take n c.new-pen.result.buffer) c.new-pen.ensures.empty) c.new-pen.ensures.none_sent refl (λ fine. ap (λ n. take n c.finish.new.self.buffer) (c.finish.ensures.empty fine)) c.unit.ensures.writes.1 c.finish.ensures.writes c.finish.ensures.answer in
    let all_now = rw c.new-pen.ensures.out at all in
    let bytes : Prints (g.O.Sink.written c.args.out.now) (g.O.Sink.written c.finish.new.self.out.now) c.finish.result (text_of (unit_tree c.args.u.now)) = all_now.bytes in
    search rules

pub returns-clause-room : goal.returns-clause-room
returns-clause-room g c =
    let all = print_done _ _ _ (text_of (unit_tree c.args.u.now)) c.finish.new.self.failed c.finish.result c.new-pen.ensures.fine (ap (λ n. take n c.new-pen.result.buffer) c.new-pen.ensures.empty) c.new-pen.ensures.none_sent refl (λ fine. ap (λ n. take n c.finish.new.self.buffer) (c.finish.ensures.empty fine)) c.unit.ensures.writes.1 c.finish.ensures.writes c.finish.ensures.answer in
    let all_now = rw c.new-pen.ensures.out at all in
    let room : FitsRoom (g.O.Sink.room c.args.out.now) (g.O.Sink.room c.finish.new.self.out.now) c.finish.result (length (text_of (unit_tree c.args.u.now))) = all_now.room in
    search rules
