use Rattle.std.proofs.Common.{◌≡◌, length}
use Rattle.wf_script_rules.specs.Values.{with_args}
use Rattle.wf_script.proofs.values.with_args.Given as goal

abbrev pub invariant-loop-word : goal.invariant-loop-word
invariant-loop-word l = with_args l.names l.args l.given l.words ≡ with_args l.initial.names l.initial.args l.initial.given l.initial.words

abbrev pub decreases-loop-word : goal.decreases-loop-word
decreases-loop-word l = length l.words
