use Rattle.std.proofs.Common.{◌≤◌, ◌∙◌, length, string_bytes, ap, arith}
use Rattle.std.proofs.lemmas.Result.{err_from_is_err_and}
use Rattle.wf_tool.proofs.TakingLemmas.{pushed, stopped, taken-all}
use Rattle.wf_tool.proofs.taking.take_files.Goals as goal

pub returns-in_err-bytes-clause-stops : goal.returns-in_err-bytes-clause-stops
returns-in_err-bytes-clause-stops g c =
    let r = err_from_is_err_and c.from_residual.result c.from_residual.ensures.1 in
    rw (r.1, r.2) (stopped (λ bytes. bytes.items) (λ name. string_bytes name) (g.I.Inputs.held c.args.inputs.now) (g.I.Inputs.held c.loop-number.inputs) c.loop-number.invariant.held
    c.args.names.now c.loop-number.number c.loop-number.left c.loop-number.files.items c.file_name.result.now c.in_err-bytes.field-0.0
    c.loop-number.invariant.taken c.loop-number-test.true c.file_name.ensures c.in_err-bytes.ensures.stops)

pub loop-number-preserved : goal.loop-number-preserved
loop-number-preserved g c = record {
  taken = pushed (λ bytes. bytes.items) (λ name. string_bytes name) (g.I.Inputs.held c.args.inputs.now) (g.I.Inputs.held c.loop-number.inputs) c.loop-number.invariant.held
      c.args.names.now c.loop-number.number c.loop-number.left c.loop-number.files.items c.file_name.result.now c.push.new.self.items c.in_ok-bytes.bytes (length c.as_slice.result.now)
      c.loop-number.invariant.taken c.loop-number-test.true c.file_name.ensures c.in_ok-bytes.ensures.takes c.in_ok-push.ensures.items (ap length c.as_slice.ensures.value);
  left = omega (arith, c.loop-number.invariant.left);
  number = omega (arith, c.loop-number-test.true);
  held = c.in_ok-bytes.ensures.same ∙ c.loop-number.invariant.held;
  faults = c.in_ok-bytes.ensures.count ∙ c.loop-number.invariant.faults;
}

pub returns-clause-takes : goal.returns-clause-takes
returns-clause-takes g c =
    let past : length c.args.names.now ≤ c.loop-number.number = omega (arith, c.loop-number-test.false) in
    taken-all (λ bytes. bytes.items) (λ name. string_bytes name) (g.I.Inputs.held c.args.inputs.now) c.args.names.now c.loop-number.number c.loop-number.left c.loop-number.files.items
    c.loop-number.invariant.taken past
