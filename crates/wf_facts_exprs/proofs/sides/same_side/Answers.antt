use Rattle.std.proofs.Common.{◌≡◌, true, subst}
use Rattle.wf_facts_exprs.specs.declared.facts.Side.{Side}
use Rattle.wf_facts_exprs.specs.Claims.{same_side, side_in}
use Rattle.wf_facts_exprs.proofs.SelfLemmas.{side-self}
use Rattle.wf_facts_exprs.proofs.sides.same_side.Goals as goal

pub returns-then-is_named_alike : goal.returns-then-is_named_alike
returns-then-is_named_alike c =
    let one = side_in c.args.t.now c.args.a in
    let P : Side → Type 0 = λ s. true ≡ same_side one (side_in c.args.t.now s) in
    subst P (c.is_named_alike.ensures c.if-is_named_alike.true) (side-self one)
