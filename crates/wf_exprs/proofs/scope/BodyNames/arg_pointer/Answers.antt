use Rattle.std.proofs.Common.{ap, codes, ◌++◌}
use Rattle.c_text.specs.CTree.{variable}
use Rattle.wf_exprs.proofs.Growing.{retell}
use Rattle.wf_exprs.proofs.Prefixes.{ap_name}
use Rattle.wf_exprs.proofs.scope.BodyNames.arg_pointer.Goals as goal

pub spelt_variable-requires : goal.spelt_variable-requires
spelt_variable-requires c = ap_name c.named.result.now c.named.ensures.word

pub returns-clause-made : goal.returns-clause-made
returns-clause-made c = rw (← c.self.view_is) (retell _ _ _ c.spelt_variable.result (ap (λ name. variable (codes "ap_" ++ name)) c.named.ensures.is) c.spelt_variable.ensures.made)
