use Rattle.wf_names_laws.proofs.FewLemmas.{methods-few}
use Rattle.wf_names_laws.proofs.well_named.methods_have_few_variables.Goals as goal

pub returns : goal.returns
returns c name texts decls order struct_order h = methods-few texts decls h
