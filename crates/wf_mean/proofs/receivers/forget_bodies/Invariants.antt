use Rattle.std.proofs.Common.{◌≡◌, All, None, length, map, take}
use Rattle.wf_mean.proofs.receivers.forget_bodies.Given as goal

-- Nothing remains of the methods so far.
abbrev pub invariant-loop-i : goal.invariant-loop-i
invariant-loop-i l = record {
  none : All (λ k. k.point ≡ None) (take l.i l.kept);
  locals : map (λ k. length k.locals.items) l.kept ≡ map (λ k. length k.locals.items) l.fn.kept;
}
