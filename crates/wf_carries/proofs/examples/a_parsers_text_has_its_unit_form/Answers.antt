use Rattle.std.proofs.Common.{refl}
use Rattle.wf_ast.specs.TypedPackage.{surface_of}
use Rattle.wf_carries.proofs.examples.a_parsers_text_has_its_unit_form.Goals as goal

pub returns-clause-surface : goal.returns-clause-surface
unfolding surface_of
returns-clause-surface c = refl

pub returns-clause-form : goal.returns-clause-form
unfolding surface_of
returns-clause-form c = refl
