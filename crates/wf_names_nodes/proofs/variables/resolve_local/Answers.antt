use Rattle.std.proofs.Common.{[], ◌∷◌, ap}
use Rattle.wf_names_nodes.proofs.variables.resolve_local.Goals as goal

pub returns-in_ok-one-in-Var-clause-made : goal.returns-in_ok-one-in-Var-clause-made
returns-in_ok-one-in-Var-clause-made c = rw (c.stmt.ensures.made, c.in-Var.is) (ap (λ v. v ∷ []) c.in_ok-one-in-Var.ensures.made)
