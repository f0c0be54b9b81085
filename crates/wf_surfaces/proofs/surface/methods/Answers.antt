use Rattle.std.proofs.Common.{◌∙◌, arith, sym}
use Rattle.wf_surfaces.proofs.SurfaceLemmas.{method-passed, method-taken, methods-ended}
use Rattle.wf_surfaces.proofs.surface.methods.Goals as goal
use Rattle.wf_surfaces.proofs.surface.methods.Goals.{then-is_public_in+in_ok-it+in_ok-push, else-is_public_in}

pub loop-m-preserved : goal.loop-m-preserved
loop-m-preserved c =
    let nodes = c.args.t.now in
    elim c.if-is_public_in.branch [
      | then-is_public_in+in_ok-it+in_ok-push w ↦
          rw (w.all-is, w.in_ok-push.ensures.items)
          (method-taken nodes c.requires.typed c.args.s c.loop-m.m c.loop-m.all.items c.method-declared.result.now _ c.method-declared.ensures (sym (c.is_public_in.ensures) ∙ w.if-is_public_in.true) w.in_ok-it.ensures c.loop-m.invariant)
      | else-is_public_in w ↦
          rw w.all-is
          (method-passed nodes c.requires.typed c.args.s c.loop-m.m c.loop-m.all.items c.method-declared.result.now c.method-declared.ensures (sym (c.is_public_in.ensures) ∙ w.if-is_public_in.false) c.loop-m.invariant)
    ]

pub returns : goal.returns
returns c = methods-ended c.args.t.now c.requires.typed c.args.s c.loop-m.m c.loop-m.all.items (omega (arith, c.loop-m-test.false, c.methods-m-end.ensures)) c.loop-m.invariant
