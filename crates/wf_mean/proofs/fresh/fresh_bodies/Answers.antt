use Rattle.std.proofs.Common.{◌∙◌, ◌≡◌, ◌<◌, None, arith, ap, length}
use Rattle.std.proofs.lemmas.List.Elements.{All-push, All-same}
use Rattle.wf_ast.specs.declared.declarations.Method.{Method}
use Rattle.wf_mean_exprs.specs.declared.objects.KeptBody.{KeptBody}
use Rattle.wf_mean.proofs.LoopLaws.{one-added}
use Rattle.wf_mean.proofs.fresh.fresh_bodies.Goals as goal

pub loop-m-preserved : goal.loop-m-preserved
loop-m-preserved c =
    let within : c.loop-m.m < length c.args.t.now.methods = omega (arith, c.loop-m-test.true, c.methods-m-end.ensures) in record {
      none = All-same (λ (k : KeptBody). k.point ≡ None) _ _ c.in_ok-push.ensures.items (All-push (λ (k : KeptBody). k.point ≡ None) c.loop-m.kept.items c.in_ok-body.body c.loop-m.invariant.none c.in_ok-body.ensures.none);
      locals = one-added (λ (k : KeptBody). length k.locals.items) (λ (it : Method). length it.locals) c.loop-m.kept.items c.push.new.self.items c.args.t.now.methods c.loop-m.m c.in_ok-body.body c.method.result.now c.method.ensures within c.in_ok-push.ensures.items c.loop-m.invariant.locals (c.in_ok-body.ensures.locals ∙ ap length c.as_slice-locals.ensures);
    }
