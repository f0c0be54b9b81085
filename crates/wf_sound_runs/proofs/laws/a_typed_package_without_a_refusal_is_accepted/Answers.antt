use Rattle.wf_sound_runs.proofs.Receivers.{accepted-nodes}
use Rattle.wf_sound_runs.proofs.laws.a_typed_package_without_a_refusal_is_accepted.Goals as goal

pub returns : goal.returns
returns k nodes typed none made short = accepted-nodes nodes typed none made short
