use Rattle.wf_names_decls.proofs.DeclarationLaws.{declarations-exact}
use Rattle.wf_names_decls.proofs.laws.found_of_declarations_decides.Goals as goal

pub returns : goal.returns
returns c = declarations-exact
