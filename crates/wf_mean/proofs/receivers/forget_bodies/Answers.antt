use Rattle.std.proofs.Common.{◌∙◌, ◌≡◌, ◌<◌, None, arith, length, refl}
use Rattle.wf_mean_exprs.specs.declared.objects.KeptBody.{KeptBody}
use Rattle.wf_mean.proofs.LoopLaws.{all-at-last, all-changed, seen-again}
use Rattle.wf_mean.proofs.receivers.forget_bodies.Goals as goal

pub loop-i-preserved : goal.loop-i-preserved
loop-i-preserved c =
    let within : c.loop-i.i < length c.loop-i.kept = omega (arith, c.loop-i-test.true) in record {
      none = all-changed (λ (k : KeptBody). k.point ≡ None) c.loop-i.kept c.loop-i.i _ within c.loop-i.invariant.none refl;
      locals = seen-again (λ (k : KeptBody). length k.locals.items) c.loop-i.kept c.loop-i.i c.index-kept-i.result _ within refl ∙ c.loop-i.invariant.locals;
    }

pub returns-clause-none : goal.returns-clause-none
returns-clause-none c = all-at-last (λ (k : KeptBody). k.point ≡ None) c.loop-i.kept c.loop-i.i (omega (arith, c.loop-i-test.false)) c.loop-i.invariant.none
