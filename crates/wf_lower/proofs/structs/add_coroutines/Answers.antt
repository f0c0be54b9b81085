use Rattle.std.proofs.Common.{refl, sym}
use Rattle.wf_ast.specs.TypedPackage.{package_of}
use Rattle.wf_exprs.proofs.Growing.{unchanged}
use Rattle.wf_lower.specs.Unit.{methods_fields}
use Rattle.wf_lower.proofs.CoroutineLaws.{none_kept}
use Rattle.wf_lower.proofs.FieldLaws.{no_fields_as}
use Rattle.wf_lower.proofs.structs.add_coroutines.Goals as goal

pub returns-else-has_coroutine-clause-made : goal.returns-else-has_coroutine-clause-made
returns-else-has_coroutine-clause-made c =
    let methods = (package_of c.args.p.now.t.now).methods in
    no_fields_as _ (methods_fields c.args.s.0 methods) (sym (none_kept c.args.s.0 methods (sym c.if-has_coroutine.ensures))) (unchanged _ _ refl)
