use Rattle.std.proofs.Common.{◌∙◌, sym}
use Rattle.wf_exprs.proofs.Growing.{grows_on}
use Rattle.wf_lower.proofs.BodyLaws.{touched_not, touched_one}
use Rattle.wf_lower.proofs.bodies.touch.Goals as goal

pub returns-then-has-clause-made : goal.returns-then-has-clause-made
returns-then-has-clause-made c = touched_not _ c.args.read.now _ c.args.rest.0 c.requires.rest (λ reads those. sym c.if-has.true ∙ c.has.ensures reads those)

pub returns-clause-grows : goal.returns-clause-grows
returns-clause-grows c = grows_on (grows_on c.finish.ensures.grows c.put.ensures.grows) c.when.ensures.grows

pub returns-clause-made : goal.returns-clause-made
returns-clause-made c =
    touched_one _ _ _ _ c.args.read.now c.args.name.0 _ _ c.args.rest.0 c.when.result c.finish.ensures.grows c.put.ensures.grows c.in_ok-body.ensures.made c.in_ok-test.ensures.made c.requires.name c.requires.rest
    (λ reads those. sym c.if-has.false ∙ c.has.ensures reads those) c.when.ensures.made
