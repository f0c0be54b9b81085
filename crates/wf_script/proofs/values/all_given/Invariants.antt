use Rattle.std.proofs.Common.{◌≡◌, drop}
use Rattle.wf_script_rules.specs.Values.{all_given}
use Rattle.wf_script.specs.Values.{with_front}
use Rattle.wf_script.proofs.values.all_given.Given as goal

abbrev pub invariant-loop-one : goal.invariant-loop-one
invariant-loop-one l = with_front l.args.items (all_given (drop l.one-index l.given)) ≡ all_given l.given
