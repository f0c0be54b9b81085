use Rattle.std.proofs.Common.{◌≡◌, All, None, length, map, take}
use Rattle.wf_mean.proofs.fresh.fresh_bodies.Given as goal

-- Nothing remains of the methods so far, and there is room for their locals.
abbrev pub invariant-loop-m : goal.invariant-loop-m
invariant-loop-m l = record {
  none : All (λ k. k.point ≡ None) l.kept.items;
  locals : map (λ k. length k.locals.items) l.kept.items ≡ map (λ it. length it.locals) (take l.m l.t.methods);
}
