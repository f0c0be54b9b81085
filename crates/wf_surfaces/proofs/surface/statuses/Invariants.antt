use Rattle.std.proofs.Common.{◌≡◌, map, take}
use Rattle.wf_surfaces.proofs.surface.statuses.Given as goal

abbrev pub invariant-loop-n : goal.invariant-loop-n
invariant-loop-n l = map (λ text. text.items) l.all.items ≡ take l.n l.t.statuses
