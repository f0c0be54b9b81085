use Rattle.std.proofs.Common.{◌-◌, ◌≡◌, ◌+◌, ◌<◌, arith, length}
use Rattle.wf_lower.proofs.BodyLaws.{local_at, local_there, param_at, param_there}
use Rattle.wf_lower.proofs.bodies.name_at.Goals as goal

pub returns-then-i-params-clause-there : goal.returns-then-i-params-clause-there
returns-then-i-params-clause-there c = λ nodes h k. param_there nodes c.args.params.now c.args.i _ h (omega (arith, c.if-i-params.true))

pub returns-then-i-params-clause-is : goal.returns-then-i-params-clause-is
returns-then-i-params-clause-is c = λ nodes. param_at nodes c.args.params.now c.args.locals.now c.args.i _ (omega (arith, c.if-i-params.true))

pub returns-else-i-params-clause-there : goal.returns-else-i-params-clause-there
returns-else-i-params-clause-there c = λ nodes h k. local_there nodes c.args.locals.now (c.args.i - length c.args.params.now) _ k (omega (arith, c.requires, c.if-i-params.false))

pub returns-else-i-params-clause-is : goal.returns-else-i-params-clause-is
returns-else-i-params-clause-is c =
    let j = c.args.i - length c.args.params.now in
    let at : c.args.i ≡ length c.args.params.now + j = omega (arith, c.if-i-params.false) in
    let low : j < length c.args.locals.now = omega (arith, c.requires, c.if-i-params.false) in
    λ nodes. local_at nodes c.args.params.now c.args.locals.now c.args.i j _ at low
