use Rattle.std.proofs.Common.{◌≡◌, ◌∙◌, Some, ap, rules}
use Rattle.wf_ast.specs.TypedTrees.{operator_kind}
use Rattle.wf_types_rules.specs.Judgements.{two_operands}
use Rattle.wf_types_exprs.specs.Found.{chain_found}
use Rattle.wf_types_exprs.proofs.parts.judged_pair.Goals as goal

pub returns-in-Some-Some-clause-found : goal.returns-in-Some-Some-clause-found
returns-in-Some-Some-clause-found c =
    let same : Some c.as_slice.result.now ≡ two_operands c.args.a c.args.b = search rules in
    c.judged_operands.ensures.found ∙ ap (λ os. chain_found (operator_kind c.args.op) os c.args.at c.args.found.now) same
