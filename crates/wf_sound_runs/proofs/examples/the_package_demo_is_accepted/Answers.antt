use Rattle.wf_sound_runs.proofs.ExampleLemmas.{demo-accepted}
use Rattle.wf_sound_runs.proofs.examples.the_package_demo_is_accepted.Goals as goal

pub returns : goal.returns
returns k = demo-accepted
