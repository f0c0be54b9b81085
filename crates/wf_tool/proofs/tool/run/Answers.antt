use Rattle.std.proofs.Common.{[]}
use Rattle.wf_ast.specs.TypedPackage.{package_of, surface_of}
use Rattle.wf_tool_runs.specs.Lowered.{lowered_report}
use Rattle.wf_tool.specs.Runs.{ScriptCallsFor}
use Rattle.wf_tool.specs.Told.{IsFaultTold, IsTold, RunTold}
use Rattle.wf_tool.specs.Views.{words_seen}
use Rattle.wf_tool.proofs.FaultLines.{run-fault-told, told-answer}
use Rattle.wf_tool.proofs.RunLemmas.{run-told}
use Rattle.wf_tool.proofs.WritingLemmas.{writes-more}
use Rattle.wf_tool.proofs.tool.run.Goals as goal

pub returns-in-Ok-clause-written : goal.returns-in-Ok-clause-written
returns-in-Ok-clause-written g c =
    let seen = g.L.Loader.seen c.args.loader.now in
    let held = g.I.Inputs.held c.args.inputs.now in
    let failed = g.I.Inputs.last_failed c.ready_package.new.inputs in
    let asked = words_seen c.args.asked in
    let before = g.I.Inputs.faults c.args.inputs.now in
    let now = g.I.Inputs.faults c.ready_package.new.inputs in
    let ready = c.in-Ok.ready in
    let p = package_of ready.accepted.nodes in
    let is = c.in-Ok.ensures.verdict in
    writes-more (ScriptCallsFor (surface_of p) (lowered_report seen p) ready.script.items) (RunTold seen held failed asked c.args.script.now before now)
    (run-told held failed asked c.args.script.now before now c.in-Ok.ensures.count is.files p ready.script.items is.hold is.accepted is.taken seen)
    (g.O.Sink.written c.args.out.now) (g.O.Sink.written c.run_package.new.out) (g.O.Sink.room c.args.out.now) c.run_package.result c.run_package.ensures.written

pub returns-in-Err-clause-written : goal.returns-in-Err-clause-written
returns-in-Err-clause-written g c =
    let seen = g.L.Loader.seen c.args.loader.now in
    let held = g.I.Inputs.held c.args.inputs.now in
    let failed = g.I.Inputs.last_failed c.ready_package.new.inputs in
    let asked = words_seen c.args.asked in
    let before = g.I.Inputs.faults c.args.inputs.now in
    let now = g.I.Inputs.faults c.ready_package.new.inputs in
    let fault = c.in-Err.fault in
    writes-more (IsTold c.fault_answer.result) (RunTold seen held failed asked c.args.script.now before now)
    (λ ending text told. run-fault-told held failed asked seen c.args.script.now before now fault c.in-Err.ensures.verdict c.in-Err.ensures.count c.in-Err.ensures.name ending text
    (told-answer (IsFaultTold asked.files c.args.script.now [] fault) c.fault_answer.result c.fault_answer.ensures ending text told))
    (g.O.Sink.written c.args.out.now) (g.O.Sink.written c.tell.new.out) (g.O.Sink.room c.args.out.now) c.tell.result c.tell.ensures.written
