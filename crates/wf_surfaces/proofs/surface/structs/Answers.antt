use Rattle.std.proofs.Common.{arith}
use Rattle.wf_surfaces.proofs.SurfaceLemmas.{struct-passed, struct-taken, structs-ended}
use Rattle.wf_surfaces.proofs.surface.structs.Goals as goal
use Rattle.wf_surfaces.proofs.surface.structs.Goals.{then-declared+in_ok-it+in_ok-push, else-declared}

pub loop-s-preserved : goal.loop-s-preserved
loop-s-preserved c =
    let nodes = c.args.t.now in
    elim c.if-declared.branch [
      | then-declared+in_ok-it+in_ok-push w ↦
          rw (w.all-is, w.in_ok-push.ensures.items)
          (struct-taken nodes c.loop-s.s c.loop-s.all.items c.structure-declared.result.now _ c.structure-declared.ensures w.if-declared.true w.in_ok-it.ensures c.loop-s.invariant)
      | else-declared w ↦
          rw w.all-is
          (struct-passed nodes c.loop-s.s c.loop-s.all.items c.structure-declared.result.now c.structure-declared.ensures w.if-declared.false c.loop-s.invariant)
    ]

pub returns : goal.returns
returns c = structs-ended c.args.t.now c.loop-s.s c.loop-s.all.items (omega (arith, c.loop-s-test.false, c.structs-s-end.ensures)) c.loop-s.invariant
