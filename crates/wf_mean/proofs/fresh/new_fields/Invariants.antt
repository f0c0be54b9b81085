use Rattle.std.proofs.Common.{◌≡◌, ◌++◌, drop, map}
use Rattle.wf_mean_exprs.specs.MachineState.{field_seen}
use Rattle.wf_mean.specs.Sizes.{fields_from}
use Rattle.wf_mean.proofs.fresh.new_fields.Given as goal

-- With what is to come of the fields that follow, all is there.
abbrev pub invariant-loop-i : goal.invariant-loop-i
invariant-loop-i l = map field_seen l.fields.items ++ fields_from l.sizes l.next (map (λ x. x.ty) (drop l.i l.declared)) ≡ fields_from l.sizes l.fn.from (map (λ x. x.ty) l.declared)
