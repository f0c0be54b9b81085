use Rattle.std.proofs.Common.{◌≡◌, ◌+◌, suc, drop, map}
use Rattle.wf_mean.specs.Sizes.{sizes_inside}
use Rattle.wf_mean.proofs.sizes.size.Given as goal

-- With what is inside the fields that follow, it is the size.
abbrev pub invariant-loop-i : goal.invariant-loop-i
invariant-loop-i l = l.n + sizes_inside l.sizes (map (λ x. x.ty) (drop l.i l.declared)) ≡ suc (sizes_inside l.sizes (map (λ x. x.ty) l.declared))
