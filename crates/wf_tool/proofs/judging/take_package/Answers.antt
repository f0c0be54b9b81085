use Rattle.std.proofs.Common.{string_bytes, sym}
use Rattle.std.proofs.lemmas.Result.{IfErr-weaker, IfOk-weaker}
use Rattle.wf_tool.proofs.TakingLemmas.{fault-stopped, taken-package, too-many-names}
use Rattle.wf_tool.proofs.judging.take_package.Goals as goal

pub returns-in-Some-clause-stops : goal.returns-in-Some-clause-stops
returns-in-Some-clause-stops g c = too-many-names (λ name. string_bytes name) (g.I.Inputs.held c.args.inputs.now) c.args.names.now c.in-Some.refusal c.in-Some.ensures.refused

pub returns-in-None-clause-takes : goal.returns-in-None-clause-takes
returns-in-None-clause-takes g c =
    IfOk-weaker c.take_files.result _ _
    (λ files takes. taken-package (λ bytes. bytes.items) (λ name. string_bytes name) (g.I.Inputs.held c.args.inputs.now) c.args.names.now files.items (sym c.in-None.ensures.refused) takes)
    c.take_files.ensures.takes

pub returns-in-None-clause-stops : goal.returns-in-None-clause-stops
returns-in-None-clause-stops g c =
    IfErr-weaker c.take_files.result _ _
    (λ fault stops. fault-stopped (λ name. string_bytes name) (g.I.Inputs.held c.args.inputs.now) c.args.names.now fault (sym c.in-None.ensures.refused) stops)
    c.take_files.ensures.stops
