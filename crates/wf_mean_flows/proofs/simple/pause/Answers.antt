use Rattle.std.proofs.Common.{refl, ap}
use Rattle.std.specs.Prelude.{unwrap_or}
use Rattle.wf_ast.specs.TypedTree.{yield}
use Rattle.wf_ast.specs.TypedTrees.{no_place}
use Rattle.wf_meaning.specs.SourceState.{has_yielded}
use Rattle.wf_mean_flows.specs.declared.flows.Flow.TheVariants.{Falls, Suspends}
use Rattle.wf_mean_exprs.specs.declared.objects.Progress.TheVariants as progress
use Rattle.wf_mean_flows.proofs.SimpleLaws.{still_runs}
use Rattle.wf_mean_flows.proofs.simple.pause.Goals as goal

pub returns-in-Yielded : goal.returns-in-Yielded
returns-in-Yielded c = record { runs = λ level. rw c.in-Yielded.is (still_runs c.args.t.now level c.args.s (yield c.args.status.0) has_yielded c.args.stage.now Falls c.requires.made tt (λ rest behind. refl)) }

pub returns-in-Untouched : goal.returns-in-Untouched
returns-in-Untouched c = record { runs = λ level. rw c.in-Untouched.is (still_runs c.args.t.now level c.args.s (yield c.args.status.0) _ c.args.stage.now (Suspends c.args.status.0 c.stmt_place.result progress.Yielded) c.requires.made (refl, ap (λ o. unwrap_or o no_place) c.stmt_place.ensures) (λ rest behind. refl)) }

pub returns-in-Bytes : goal.returns-in-Bytes
returns-in-Bytes c = record { runs = λ level. rw c.in-Bytes.is (still_runs c.args.t.now level c.args.s (yield c.args.status.0) _ c.args.stage.now (Suspends c.args.status.0 c.stmt_place.result progress.Yielded) c.requires.made (refl, ap (λ o. unwrap_or o no_place) c.stmt_place.ensures) (λ rest behind. refl)) }

pub returns-in-ToSkip : goal.returns-in-ToSkip
returns-in-ToSkip c = record { runs = λ level. rw c.in-ToSkip.is (still_runs c.args.t.now level c.args.s (yield c.args.status.0) _ c.args.stage.now (Suspends c.args.status.0 c.stmt_place.result progress.Yielded) c.requires.made (refl, ap (λ o. unwrap_or o no_place) c.stmt_place.ensures) (λ rest behind. refl)) }

pub returns-in-ToWrite : goal.returns-in-ToWrite
returns-in-ToWrite c = record { runs = λ level. rw c.in-ToWrite.is (still_runs c.args.t.now level c.args.s (yield c.args.status.0) _ c.args.stage.now (Suspends c.args.status.0 c.stmt_place.result progress.Yielded) c.requires.made (refl, ap (λ o. unwrap_or o no_place) c.stmt_place.ensures) (λ rest behind. refl)) }
