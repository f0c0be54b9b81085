use Rattle.std.proofs.Common.{refl}
use Rattle.wf_ast.specs.TypedPackage.{surface_of}
use Rattle.std.specs.Fmt.{digits}
use Rattle.wf_lower.specs.Unit.{lowered_unit}
use Rattle.wf_lower.proofs.examples.a_parsers_text_is_this.Goals as goal

pub returns-clause-text : goal.returns-clause-text
unfolding lowered_unit digits
returns-clause-text c = refl

pub returns-clause-form : goal.returns-clause-form
unfolding surface_of
returns-clause-form c = refl
