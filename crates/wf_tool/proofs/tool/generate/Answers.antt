use Rattle.std.proofs.Common.{[], ◌∙◌}
use Rattle.wf_tool.specs.Told.{GenTold, IsFaultTold, IsTextOfUnit, IsTold}
use Rattle.wf_tool.specs.Views.{words_seen}
use Rattle.wf_tool.proofs.FaultLines.{gen-fault-told, told-answer}
use Rattle.wf_tool.proofs.UnitTexts.{fault-lawful, unit-lawful, unit-told}
use Rattle.wf_tool.proofs.WritingLemmas.{writes-more}
use Rattle.wf_tool.proofs.tool.generate.Goals as goal

pub returns-in-Ok-clause-written : goal.returns-in-Ok-clause-written
returns-in-Ok-clause-written g c =
    let held = g.I.Inputs.held c.args.inputs.now in
    let failed = g.I.Inputs.last_failed c.lower_package.new.inputs in
    let asked = words_seen c.args.asked in
    let before = g.I.Inputs.faults c.args.inputs.now in
    let now = g.I.Inputs.faults c.lower_package.new.inputs in
    let unit = c.in-Ok.unit in
    writes-more (IsTextOfUnit unit) (GenTold held failed asked before now) (unit-told held failed asked before now c.in-Ok.ensures.count unit c.in-Ok.ensures.verdict)
    (g.O.Sink.written c.args.out.now) (g.O.Sink.written c.write_unit.new.out) (g.O.Sink.room c.args.out.now) c.write_unit.result (rw (c.deref.ensures ∙ c.new-kept.ensures) at c.write_unit.ensures.written)

pub returns-in-Err-clause-written : goal.returns-in-Err-clause-written
returns-in-Err-clause-written g c =
    let held = g.I.Inputs.held c.args.inputs.now in
    let failed = g.I.Inputs.last_failed c.lower_package.new.inputs in
    let asked = words_seen c.args.asked in
    let before = g.I.Inputs.faults c.args.inputs.now in
    let now = g.I.Inputs.faults c.lower_package.new.inputs in
    let fault = c.in-Err.fault in
    writes-more (IsTold c.fault_answer.result) (GenTold held failed asked before now)
    (λ ending text told. gen-fault-told held failed asked before now fault c.in-Err.ensures.verdict c.in-Err.ensures.count c.in-Err.ensures.name ending text
    (told-answer (IsFaultTold asked.files [] [] fault) c.fault_answer.result c.fault_answer.ensures ending text told))
    (g.O.Sink.written c.args.out.now) (g.O.Sink.written c.tell.new.out) (g.O.Sink.room c.args.out.now) c.tell.result c.tell.ensures.written

pub returns-in-Ok-clause-lawful : goal.returns-in-Ok-clause-lawful
returns-in-Ok-clause-lawful g c =
    unit-lawful (g.I.Inputs.held c.args.inputs.now) (words_seen c.args.asked) (g.O.Sink.written c.args.out.now) (g.O.Sink.written c.write_unit.new.out) (g.O.Sink.room c.args.out.now) c.in-Ok.unit
    c.in-Ok.ensures.verdict (rw (c.deref.ensures ∙ c.new-kept.ensures) at c.write_unit.ensures.spelt) c.write_unit.result (rw (c.deref.ensures ∙ c.new-kept.ensures) at c.write_unit.ensures.written)

pub returns-in-Err-clause-lawful : goal.returns-in-Err-clause-lawful
returns-in-Err-clause-lawful g c =
    let asked = words_seen c.args.asked in
    fault-lawful (g.I.Inputs.held c.args.inputs.now) asked (g.O.Sink.written c.args.out.now) (g.O.Sink.written c.tell.new.out) (g.O.Sink.room c.args.out.now) asked.files c.in-Err.fault c.fault_answer.result
    c.fault_answer.ensures c.tell.result c.tell.ensures.written
