use Rattle.std.proofs.Common.{ℕ, List, Ok, Err, string_bytes, refl, subst}
use Rattle.wf_ast.specs.TypedPackage.{package_of, surface_of}
use Rattle.wf_tool_runs.specs.declared.texts.RunFault.TheVariants as run_faults
use Rattle.wf_tool_runs.specs.Units.{RunsText}
use Rattle.wf_tool.proofs.EndedRuns.{text-driven, script-refused, text-refused}
use Rattle.wf_tool.proofs.tool.exec_text.Goals as goal

pub returns-in-Ok-clause-written : goal.returns-in-Ok-clause-written
returns-in-Ok-clause-written g c =
    let seen = g.L.Loader.seen c.args.loader.now in
    let surface = surface_of (package_of c.args.it.now.ready.accepted.nodes) in
    let script = c.args.it.now.ready.script.items in
    let text = c.args.it.now.text.items in
    let old = g.O.Sink.written c.args.out.now in
    let mid = g.O.Sink.written c.run_text.new.out in
    let room = g.O.Sink.room c.args.out.now in
    let left = g.O.Sink.room c.run_text.new.out in
    let R : List ℕ → List ℕ → Type 0 = λ bytes others. RunsText seen surface bytes others old mid room left (Ok c.in-Ok.end) in
    let runs : R script text = subst (R script) c.as_slice.ensures.value (subst (λ bytes. R bytes c.as_slice.result.now) c.as_slice-script.ensures.value c.in-Ok.ensures.runs) in
    text-driven seen surface script text old mid (g.O.Sink.written c.end_run.new.out) room left c.end_run.result c.in-Ok.end runs c.end_run.ensures.written

pub returns-in-Ok-clause-pieces : goal.returns-in-Ok-clause-pieces
returns-in-Ok-clause-pieces g c = c.end_run.ensures.pieces (g.O.Sink.longest c.args.out.now) c.in-Ok.ensures.longest

pub returns-in-Ok-clause-sink : goal.returns-in-Ok-clause-sink
returns-in-Ok-clause-sink g c = c.end_run.ensures.sink (g.O.Sink.faults c.args.out.now) c.in-Ok.ensures.count

pub returns-in-Err-Script-clause-written : goal.returns-in-Err-Script-clause-written
returns-in-Err-Script-clause-written g c =
    let seen = g.L.Loader.seen c.args.loader.now in
    let surface = surface_of (package_of c.args.it.now.ready.accepted.nodes) in
    let script = c.args.it.now.ready.script.items in
    let text = c.args.it.now.text.items in
    let old = g.O.Sink.written c.args.out.now in
    let mid = g.O.Sink.written c.run_text.new.out in
    let room = g.O.Sink.room c.args.out.now in
    let left = g.O.Sink.room c.run_text.new.out in
    let number = c.in-Err-Script.line in
    let rule = c.in-Err-Script.rule in
    let R : List ℕ → List ℕ → Type 0 = λ bytes others. RunsText seen surface bytes others old mid room left (Err (run_faults.Script number rule)) in
    let ran = rw c.in-Err-Script.field-0-is at c.in-Err-Script.ensures.runs in
    let runs : R script text = subst (R script) c.as_slice.ensures.value (subst (λ bytes. R bytes c.as_slice.result.now) c.as_slice-script.ensures.value ran) in
    script-refused seen surface script text old mid (g.O.Sink.written c.end_run-in-Err-Script.new.out) room left c.end_run-in-Err-Script.result number rule runs c.end_run-in-Err-Script.ensures.written

pub returns-in-Err-Script-clause-pieces : goal.returns-in-Err-Script-clause-pieces
returns-in-Err-Script-clause-pieces g c = c.end_run-in-Err-Script.ensures.pieces (g.O.Sink.longest c.args.out.now) c.in-Err-Script.ensures.longest

pub returns-in-Err-Script-clause-sink : goal.returns-in-Err-Script-clause-sink
returns-in-Err-Script-clause-sink g c = c.end_run-in-Err-Script.ensures.sink (g.O.Sink.faults c.args.out.now) c.in-Err-Script.ensures.count

pub returns-in-Err-Text-clause-written : goal.returns-in-Err-Text-clause-written
returns-in-Err-Text-clause-written g c =
    let seen = g.L.Loader.seen c.args.loader.now in
    let surface = surface_of (package_of c.args.it.now.ready.accepted.nodes) in
    let script = c.args.it.now.ready.script.items in
    let text = c.args.it.now.text.items in
    let old = g.O.Sink.written c.args.out.now in
    let mid = g.O.Sink.written c.run_text.new.out in
    let room = g.O.Sink.room c.args.out.now in
    let left = g.O.Sink.room c.run_text.new.out in
    let fault = c.in-Err-Text.fault in
    let R : List ℕ → List ℕ → Type 0 = λ bytes others. RunsText seen surface bytes others old mid room left (Err (run_faults.Text fault)) in
    let ran = rw c.in-Err-Text.field-0-is at c.in-Err-Text.ensures.runs in
    let runs : R script text = subst (R script) c.as_slice.ensures.value (subst (λ bytes. R bytes c.as_slice.result.now) c.as_slice-script.ensures.value ran) in
    text-refused seen surface script text old mid (g.O.Sink.written c.tell.new.out) room left c.tell.result (λ line. string_bytes line) fault c.text_line.result (λ it. it.line) (λ it. refl) c.of-answer.result runs c.text_line.ensures c.of-answer.ensures
    c.tell.ensures.written
