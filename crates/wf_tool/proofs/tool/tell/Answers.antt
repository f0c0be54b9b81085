use Rattle.std.proofs.Common.{Result, refl, string_bytes, subst, sym}
use Rattle.wf_text.specs.declared.faults.NoMemory.{NoMemory}
use Rattle.wf_tool.specs.declared.tool.Answer.{Answer}
use Rattle.wf_tool.specs.Told.{IsTold}
use Rattle.wf_tool.proofs.WritingLemmas.{part-told}
use Rattle.wf_tool.proofs.tool.tell.Goals as goal

pub returns-in-Ok-clause-written : goal.returns-in-Ok-clause-written
returns-in-Ok-clause-written g c =
    let it = c.in-Ok.answer in
    let T : Result Answer NoMemory → Type 0 = λ r. IsTold r it.ending (string_bytes it.line) in
    part-told (IsTold c.args.answer) it.ending (string_bytes it.line) c.as_bytes.result.now (g.O.Sink.written c.args.out.now) (g.O.Sink.written c.put.new.self) (g.O.Sink.room c.args.out.now) (g.O.Sink.room c.put.new.self)
    c.in-Err-put.field-0 (subst T (sym c.in-Ok.is) (refl, refl)) c.as_bytes.ensures.value c.in-Err-put.ensures.bytes.0 c.in-Err-put.ensures.room
