use Rattle.std.proofs.Common.{◌∙◌, ap}
use Rattle.wf_named.specs.NamedTree.{VarTree}
use Rattle.wf_names_resolve.proofs.Growth.{grows_more}
use Rattle.wf_names_nodes.proofs.DeclaringLemmas.{variable_kept, variable_below}
use Rattle.wf_names_nodes.proofs.declarations.resolve_const.Goals as goal

pub returns-clause-grows : goal.returns-clause-grows
returns-clause-grows c = grows_more c.args.nodes.now c.resolve_variable.new.nodes c.resolve_expr.new.nodes c.in_ok-declared.ensures.grows c.in_ok-value.ensures.grows

pub returns-clause-below : goal.returns-clause-below
returns-clause-below c =
    let declared = variable_below c.resolve_variable.new.nodes c.resolve_expr.new.nodes c.in_ok-value.ensures.grows c.in_ok-declared.declared c.in_ok-declared.ensures.below in
    (declared.0, declared.1, c.in_ok-value.ensures.below)

pub returns-clause-made : goal.returns-clause-made
returns-clause-made c =
    let declared = variable_kept c.resolve_variable.new.nodes c.resolve_expr.new.nodes c.in_ok-value.ensures.grows c.in_ok-declared.declared c.in_ok-declared.ensures.below ∙ c.in_ok-declared.ensures.made in
    let name = ap (λ (v : VarTree). v.name) declared in
    let of = ap (λ (v : VarTree). v.of) declared in
    let value = c.in_ok-value.ensures.made in
    cc (name, of, value)
