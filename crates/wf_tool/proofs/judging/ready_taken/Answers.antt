use Rattle.std.proofs.Common.{length, map, string_bytes, refl, ◌∷◌, [], arith}
use Rattle.std.proofs.lemmas.List.{length-map}
use Rattle.std.proofs.lemmas.Result.{err_from_is_err_and}
use Rattle.wf_tool.specs.Views.{words_seen}
use Rattle.wf_tool.proofs.FaultLines.{other-faults, other-names}
use Rattle.wf_tool.proofs.judging.ready_taken.Goals as goal

pub returns-in_err-script-clause-verdict : goal.returns-in_err-script-clause-verdict
returns-in_err-script-clause-verdict g c =
    let r = err_from_is_err_and c.from_residual.result c.from_residual.ensures.1 in
    rw (r.1, r.2) (other-faults (g.I.Inputs.held c.args.inputs.now) (words_seen c.args.asked) (c.args.script.now ∷ []) 0 (omega arith) (map (λ bytes. bytes.items) c.args.files.now) c.requires.taken (length c.args.asked.files.now)
    (omega (arith, length-map c.args.asked.files.now (λ name. string_bytes name))) c.in_err-script.field-0.0 c.in_err-script.ensures.stops)

pub returns-in_err-script-clause-name : goal.returns-in_err-script-clause-name
returns-in_err-script-clause-name g c =
    let r = err_from_is_err_and c.from_residual.result c.from_residual.ensures.1 in
    rw (r.1, r.2) (other-names (g.I.Inputs.held c.args.inputs.now) (words_seen c.args.asked) (c.args.script.now ∷ []) 0 (omega arith) (map (λ bytes. bytes.items) c.args.files.now) c.requires.taken (length c.args.asked.files.now)
    (omega (arith, length-map c.args.asked.files.now (λ name. string_bytes name))) (g.I.Inputs.last_failed c.take_other.new.inputs) c.args.script.now c.in_err-script.field-0.0 refl c.in_err-script.ensures.stops c.in_err-script.ensures.name)
