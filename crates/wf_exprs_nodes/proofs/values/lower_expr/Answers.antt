use Rattle.std.proofs.Common.{ap}
use Rattle.wf_ast.specs.TypedInvariant.{is_logical, is_numeric, is_state}
use Rattle.wf_exprs.proofs.Growing.{retell}
use Rattle.wf_exprs_nodes.proofs.ValueLaws.{flag_value, number_value, seen_type, status_value}
use Rattle.wf_exprs_nodes.proofs.values.lower_expr.Goals as goal

pub returns-in-Num-clause-made : goal.returns-in-Num-clause-made
returns-in-Num-clause-made c =
    let s = c.args.scope.now in
    let is = ap is_numeric (seen_type _ s.nodes c.args.e.0 _ _ c.typed.ensures.same c.type_of.ensures c.in-Num.is) in
    retell _ _ _ c.given.result (number_value s.nodes c.typed.ensures.kept c.args.e c.requires.node s.names is) c.given.ensures.made

pub returns-in-Flag-clause-made : goal.returns-in-Flag-clause-made
returns-in-Flag-clause-made c =
    let s = c.args.scope.now in
    let is = ap is_logical (seen_type _ s.nodes c.args.e.0 _ _ c.typed.ensures.same c.type_of.ensures c.in-Flag.is) in
    retell _ _ _ c.condition.result (flag_value s.nodes c.typed.ensures.kept c.args.e c.requires.node s.names is) c.condition.ensures.made

pub returns-in-Status-clause-made : goal.returns-in-Status-clause-made
returns-in-Status-clause-made c =
    let s = c.args.scope.now in
    let is = ap is_state (seen_type _ s.nodes c.args.e.0 _ _ c.typed.ensures.same c.type_of.ensures c.in-Status.is) in
    retell _ _ _ c.status.result (status_value s.nodes c.typed.ensures.kept c.args.e c.requires.node s.names is) c.status.ensures.made
