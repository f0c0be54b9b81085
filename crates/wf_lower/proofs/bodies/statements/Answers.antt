use Rattle.std.proofs.Common.{◌∙◌, ap}
use Rattle.wf_lower_stmts.specs.BodyNodes.{form_in, points_by}
use Rattle.wf_lower_stmts.specs.Lower.{lower, tail_of, top}
use Rattle.wf_lower_stmts.proofs.HereLaws.{retell_code}
use Rattle.wf_lower.proofs.BodyLaws.{numbered_lower}
use Rattle.wf_lower.proofs.bodies.statements.Goals as goal

pub returns-clause-made : goal.returns-clause-made
returns-clause-made c =
    let b = c.args.b.now in
    let tail = tail_of (form_in b) top in
    retell_code _ _ _ c.lower_body.result
    (ap (λ x. lower (form_in b) (points_by b.numbers) x tail) c.requires.same ∙ numbered_lower b c.args.body.now c.is_sound.ensures.typed c.requires tail)
    c.lower_body.ensures.made
