use Rattle.std.proofs.Common.{◌≡◌, ℕ, ◌∷◌, ◌∙◌, subst}
use Rattle.wf_ast.specs.TypedTrees.{operator_kind}
use Rattle.wf_types_rules.specs.Operands.{bits_in}
use Rattle.wf_types_operators.specs.Working.{numbers, value_by}
use Rattle.wf_types_operators.proofs.WorkingLemmas.{chain_is}
use Rattle.wf_types_operators.proofs.values.chain_value.Goals as goal

pub returns : goal.returns
returns c =
    let sort = operator_kind c.args.op in
    let others = numbers c.in_ok-first.others.now in
    let worked = chain_is sort c.requires c.args.width c.number.result c.number.ensures.small others in
    let value = (rw c.joined.ensures at c.fitted_if.ensures) ∙ worked in
    rw
    c.in_ok-first.ensures.cases.0
    (subst (λ (n : ℕ). c.fitted_if.result ≡ value_by sort (bits_in c.args.width) (n ∷ others)) c.number.ensures.number value)
