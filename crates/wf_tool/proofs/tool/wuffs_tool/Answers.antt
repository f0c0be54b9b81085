use Rattle.std.proofs.Common.{map, refl, string_bytes}
use Rattle.wf_tool.specs.Answer.{Asked, Called}
use Rattle.wf_tool.specs.Told.{IsTold}
use Rattle.wf_tool.proofs.UsageLine.{usage-told}
use Rattle.wf_tool.proofs.WritingLemmas.{writes-more}
use Rattle.wf_tool.proofs.tool.wuffs_tool.Goals as goal

pub returns-in-None-clause-written : goal.returns-in-None-clause-written
returns-in-None-clause-written g c =
    let asked : Asked = record { seen = g.L.Loader.seen c.args.loader.now; held = g.I.Inputs.held c.args.inputs.now; failed = g.I.Inputs.last_failed c.args.inputs.now; words = map (λ word. string_bytes word) c.args.words.now } in
    let faults = g.I.Inputs.faults c.args.inputs.now in
    writes-more (IsTold c.of.result) (Called asked faults faults) (usage-told (λ line. string_bytes line) asked faults c.usage_line.result (λ it. it.line) (λ it. refl) c.of.result c.in-None.ensures.command c.usage_line.ensures c.of.ensures)
    (g.O.Sink.written c.args.out.now) (g.O.Sink.written c.tell-in-None.new.out) (g.O.Sink.room c.args.out.now) c.tell-in-None.result c.tell-in-None.ensures.written
