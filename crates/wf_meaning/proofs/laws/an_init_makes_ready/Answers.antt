use Rattle.std.proofs.Common.{Some, map, ap}
use Rattle.wf_meaning.specs.World.{updated}
use Rattle.wf_meaning.specs.SourceState.{cleared_object}
use Rattle.wf_meaning.specs.SourceCall.{source_init, init_receiver}
use Rattle.wf_meaning.proofs.Lists.{updated-at, updated-other, length-map}
use Rattle.wf_meaning.proofs.Inits.{ready_objects}
use Rattle.wf_meaning.proofs.laws.an_init_makes_ready.Goals as goal

pub returns-clause-answer : goal.returns-clause-answer
unfolding source_init
returns-clause-answer c p state r turns objects e =
    let left = map cleared_object objects in
    let after = updated (λ _. Some left) r state in
    (after, left, ap (init_receiver p state r) e, updated-at (λ _. Some left) r state (Some objects) e, length-map cleared_object objects, ready_objects objects, λ other apart. updated-other (λ _. Some left) r other state apart)

pub returns-clause-null : goal.returns-clause-null
unfolding source_init
returns-clause-null c p state r turns e = ap (init_receiver p state r) e
