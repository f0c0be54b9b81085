use Rattle.wf_ast.specs.TypedPackage.{package_of, surface_of}
use Rattle.wf_tool.specs.Runs.{TextCallsFor}
use Rattle.wf_tool.specs.Told.{ExecTold, IsFaultTold, IsTold}
use Rattle.wf_tool.specs.Views.{words_seen}
use Rattle.wf_tool.proofs.FaultLines.{exec-fault-told, told-answer}
use Rattle.wf_tool.proofs.RunLemmas.{exec-told}
use Rattle.wf_tool.proofs.WritingLemmas.{writes-more}
use Rattle.wf_tool.proofs.tool.exec.Goals as goal

pub returns-in-Ok-clause-written : goal.returns-in-Ok-clause-written
returns-in-Ok-clause-written g c =
    let seen = g.L.Loader.seen c.args.loader.now in
    let held = g.I.Inputs.held c.args.inputs.now in
    let failed = g.I.Inputs.last_failed c.ready_text.new.inputs in
    let asked = words_seen c.args.asked.package_words in
    let script = c.args.asked.script.now in
    let text = c.args.asked.text.now in
    let before = g.I.Inputs.faults c.args.inputs.now in
    let now = g.I.Inputs.faults c.ready_text.new.inputs in
    let it = c.in-Ok.ready in
    let p = package_of it.ready.accepted.nodes in
    let is = c.in-Ok.ensures.verdict in
    let of = is.readied in
    writes-more (TextCallsFor seen (surface_of p) it.ready.script.items it.text.items) (ExecTold seen held failed asked script text before now)
    (exec-told held failed asked script before now c.in-Ok.ensures.count of.files p it.ready.script.items of.hold of.accepted of.taken seen text it.text.items is.taken)
    (g.O.Sink.written c.args.out.now) (g.O.Sink.written c.exec_text.new.out) (g.O.Sink.room c.args.out.now) c.exec_text.result c.exec_text.ensures.written

pub returns-in-Err-clause-written : goal.returns-in-Err-clause-written
returns-in-Err-clause-written g c =
    let seen = g.L.Loader.seen c.args.loader.now in
    let held = g.I.Inputs.held c.args.inputs.now in
    let failed = g.I.Inputs.last_failed c.ready_text.new.inputs in
    let asked = words_seen c.args.asked.package_words in
    let script = c.args.asked.script.now in
    let text = c.args.asked.text.now in
    let before = g.I.Inputs.faults c.args.inputs.now in
    let now = g.I.Inputs.faults c.ready_text.new.inputs in
    let fault = c.in-Err.fault in
    writes-more (IsTold c.fault_answer.result) (ExecTold seen held failed asked script text before now)
    (λ ending line told. exec-fault-told held failed asked seen script text before now fault c.in-Err.ensures.verdict c.in-Err.ensures.count c.in-Err.ensures.name ending line
    (told-answer (IsFaultTold asked.files script text fault) c.fault_answer.result c.fault_answer.ensures ending line told))
    (g.O.Sink.written c.args.out.now) (g.O.Sink.written c.tell.new.out) (g.O.Sink.room c.args.out.now) c.tell.result c.tell.ensures.written
