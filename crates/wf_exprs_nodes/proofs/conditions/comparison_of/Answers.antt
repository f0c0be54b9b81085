use Rattle.std.proofs.Common.{◌≡◌, ◌∙◌, sym, ap, true, false, rules}
use Rattle.wf_ast.specs.TypedTree.{ValueTree}
use Rattle.wf_ast.specs.TypedTrees.{cond_in, operator_kind, tree_of, type_of_node, place_of_node, signs_of_node}
use Rattle.wf_ast.specs.TypedInvariant.{is_state}
use Rattle.wf_exprs.specs.Exprs.{lowered_cond}
use Rattle.wf_exprs.proofs.Growing.{retell}
use Rattle.wf_exprs_nodes.proofs.ConditionLaws.{numbers_compared, statuses_as_one}
use Rattle.wf_exprs_nodes.proofs.conditions.comparison_of.Goals as goal

pub returns-then-has_status-clause-made : goal.returns-then-has_status-clause-made
returns-then-has_status-clause-made c =
    let nodes = c.args.scope.now.nodes in
    let names = c.args.scope.now.names in
    let e = c.args.e in
    let is : is_state (type_of_node nodes c.args.a.0) ≡ true = search rules in
    retell _ _ _ c.statuses_compared.result
    (statuses_as_one names (place_of_node nodes e.0) (signs_of_node nodes e.0) (type_of_node nodes e.0) (type_of_node nodes c.args.a.0) (type_of_node nodes c.args.b.0) (operator_kind c.args.op) (tree_of nodes c.args.a) (tree_of nodes c.args.b) c.requires.ordering is c.requires.left_tree c.requires.kinds
    ∙ ap (λ (x : ValueTree). lowered_cond names (cond_in x)) (sym c.requires.tree)) c.statuses_compared.ensures.made

pub returns-else-has_status-clause-made : goal.returns-else-has_status-clause-made
returns-else-has_status-clause-made c =
    let nodes = c.args.scope.now.nodes in
    let names = c.args.scope.now.names in
    let e = c.args.e in
    let is : is_state (type_of_node nodes c.args.a.0) ≡ false = search rules in
    retell _ _ _ c.numbers_compared.result
    (numbers_compared names (place_of_node nodes e.0) (signs_of_node nodes e.0) (type_of_node nodes e.0) (type_of_node nodes c.args.a.0) (operator_kind c.args.op) (tree_of nodes c.args.a) (tree_of nodes c.args.b) c.requires.ordering is c.requires.left_tree
    ∙ ap (λ (x : ValueTree). lowered_cond names (cond_in x)) (sym c.requires.tree)) c.numbers_compared.ensures.made
