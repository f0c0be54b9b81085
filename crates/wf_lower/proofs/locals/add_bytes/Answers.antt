use Rattle.std.proofs.Common.{◌∙◌, ◌∷◌, [], ap, refl}
use Rattle.wf_exprs.proofs.Growing.{unchanged}
use Rattle.wf_lower_stmts.specs.BodyNodes.{form_in}
use Rattle.wf_lower.specs.Bodies.{only_read}
use Rattle.wf_lower.specs.Locals.{bytes_in}
use Rattle.wf_lower.proofs.LocalLaws.{first_of, no_locals_as, reads_after, second_of}
use Rattle.wf_lower.proofs.locals.add_bytes.Goals as goal

pub returns-in_ok-bytes-clause-made : goal.returns-in_ok-bytes-clause-made
returns-in_ok-bytes-clause-made c =
    reads_after c.args.read.now _ _ _ _ _ _ (bytes_in (form_in c.args.b.now).names c.args.n c.args.ty) c.add_where_read.result c.bytes_local.ensures.grows
    (ap (λ t. t ∷ []) c.in_ok-bytes.ensures.made.is ∙ first_of _ _ _ c.if-is_io.ensures) c.add_where_read.ensures

pub returns-else-is_io-clause-made : goal.returns-else-is_io-clause-made
returns-else-is_io-clause-made c = λ code reads. no_locals_as _ _ (ap (only_read code) (second_of _ _ _ c.if-is_io.ensures)) (unchanged _ _ refl)
