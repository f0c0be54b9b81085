use Rattle.std.proofs.Common.{◌≡◌, map, take}
use Rattle.wf_ast.specs.TypedPackage.{kind_of, variable_of}
use Rattle.wf_surfaces.proofs.surface.args.Given as goal

abbrev pub invariant-loop-i : goal.invariant-loop-i
invariant-loop-i l = l.all.items ≡ map (λ x. record { name = x.name; kind = kind_of x.ty }) (map (variable_of l.t) (take l.i l.declared))
