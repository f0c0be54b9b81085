use Rattle.std.proofs.Common.{◌+◌, length, map, string_bytes, refl, ◌∷◌, [], arith}
use Rattle.std.proofs.lemmas.List.{length-map}
use Rattle.std.proofs.lemmas.Result.{err_from_is_err_and}
use Rattle.wf_tool.specs.Views.{words_seen}
use Rattle.wf_tool.proofs.FaultLines.{other-faults, other-names}
use Rattle.wf_tool.proofs.judging.text_taken.Goals as goal

pub returns-in_err-text-clause-verdict : goal.returns-in_err-text-clause-verdict
returns-in_err-text-clause-verdict g c =
    let r = err_from_is_err_and c.from_residual.result c.from_residual.ensures.1 in
    let asked = c.args.asked in
    rw (r.1, r.2) (other-faults (g.I.Inputs.held c.args.inputs.now) (words_seen asked.package_words) (asked.script.now ∷ asked.text.now ∷ []) 1 (omega arith) (map (λ bytes. bytes.items) c.args.files.now) c.requires.taken (length asked.package_words.files.now + 1)
    (omega (arith, length-map asked.package_words.files.now (λ name. string_bytes name))) c.in_err-text.field-0.0 c.in_err-text.ensures.stops)

pub returns-in_err-text-clause-name : goal.returns-in_err-text-clause-name
returns-in_err-text-clause-name g c =
    let r = err_from_is_err_and c.from_residual.result c.from_residual.ensures.1 in
    let asked = c.args.asked in
    rw (r.1, r.2) (other-names (g.I.Inputs.held c.args.inputs.now) (words_seen asked.package_words) (asked.script.now ∷ asked.text.now ∷ []) 1 (omega arith) (map (λ bytes. bytes.items) c.args.files.now) c.requires.taken (length asked.package_words.files.now + 1)
    (omega (arith, length-map asked.package_words.files.now (λ name. string_bytes name))) (g.I.Inputs.last_failed c.take_other.new.inputs) asked.text.now c.in_err-text.field-0.0 refl c.in_err-text.ensures.stops c.in_err-text.ensures.name)
