use Rattle.wf_parse.proofs.DeclForms.{forms_are_well_formed}
use Rattle.wf_parse.proofs.ReadForms.{packages_are_well_formed}
use Rattle.wf_parse.proofs.SpeltTokens.{tokens_are_formed}
use Rattle.wf_parse.proofs.forms.the_grammar_gives_well_formed_declarations.Goals as goal

pub returns-clause-tokens : goal.returns-clause-tokens
returns-clause-tokens c = tokens_are_formed

pub returns-clause-forms : goal.returns-clause-forms
returns-clause-forms c = forms_are_well_formed

pub returns-clause-packages : goal.returns-clause-packages
returns-clause-packages c = packages_are_well_formed
