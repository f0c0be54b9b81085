use Rattle.std.proofs.Common.{◌∷◌, []}
use Rattle.std.proofs.lemmas.Result.{err_from_is_err_and}
use Rattle.wf_tool.specs.Views.{words_seen}
use Rattle.wf_tool.proofs.FaultLines.{stopped-faults, stopped-names}
use Rattle.wf_tool.proofs.judging.ready_package.Goals as goal

pub returns-in_err-files-clause-verdict : goal.returns-in_err-files-clause-verdict
returns-in_err-files-clause-verdict g c =
    let r = err_from_is_err_and c.from_residual.result c.from_residual.ensures.1 in
    rw (r.1, r.2) (stopped-faults (g.I.Inputs.held c.args.inputs.now) (words_seen c.args.asked) (c.args.script.now ∷ []) c.in_err-files.field-0.0 c.in_err-files.ensures.stops)

pub returns-in_err-files-clause-name : goal.returns-in_err-files-clause-name
returns-in_err-files-clause-name g c =
    let r = err_from_is_err_and c.from_residual.result c.from_residual.ensures.1 in
    rw (r.1, r.2) (stopped-names (g.I.Inputs.held c.args.inputs.now) (words_seen c.args.asked) (c.args.script.now ∷ []) (g.I.Inputs.last_failed c.take_package.new.inputs) c.in_err-files.field-0.0 c.in_err-files.ensures.stops c.in_err-files.ensures.name)
