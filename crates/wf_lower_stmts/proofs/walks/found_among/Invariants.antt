use Rattle.std.proofs.Common.{◌≡◌, drop}
use Rattle.wf_lower_stmts.specs.BodyNodes.{is_sought, stands_at, stands_among}
use Rattle.wf_lower_stmts.proofs.walks.found_among.Given as goal

-- What is looked for stands in what is left exactly where it stands in the whole.
abbrev pub invariant-loop-s : goal.invariant-loop-s
invariant-loop-s l = stands_among (stands_at l.t (is_sought l.sought)) (drop l.s-index l.items) ≡ stands_among (stands_at l.t (is_sought l.sought)) l.items
