use Rattle.std.proofs.Common.{Some, ◌∙◌, ap, sym}
use Rattle.wf_ast.specs.TypedTrees.{operator_kind}
use Rattle.wf_types_exprs.specs.Found.{chain_found}
use Rattle.wf_types_exprs.proofs.parts.judged_chain.Goals as goal

pub returns-in-Some-clause-found : goal.returns-in-Some-clause-found
returns-in-Some-clause-found c =
    let same = ap (λ os. Some os) c.as_slice.ensures ∙ sym c.in-Some.is in
    c.judged_operands.ensures.found ∙ ap (λ os. chain_found (operator_kind c.args.op) os c.args.at c.args.found.now) same
