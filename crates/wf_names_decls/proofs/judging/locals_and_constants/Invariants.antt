use Rattle.std.proofs.Common.{◌≡◌, drop}
use Rattle.wf_text.specs.Precedence.{soonest}
use Rattle.wf_names_decls.specs.ConstantNames.{constant_by}
use Rattle.wf_names_decls.specs.DeclarationPass.{locals_and_constants}
use Rattle.wf_names_decls.proofs.judging.locals_and_constants.Given as goal

abbrev pub invariant-loop-local : goal.invariant-loop-local
invariant-loop-local l = soonest l.found (locals_and_constants (constant_by l.constants.names.now l.constants.places.now) (drop l.local-index l.locals)) ≡ soonest l.fn.found (locals_and_constants (constant_by l.constants.names.now l.constants.places.now) l.locals)
