use Rattle.std.proofs.Common.{◌≡◌, ◌∙◌, Some, None, true, false, sym, ap, rules}
use Rattle.wf_base.specs.BaseTable.{bits_of}
use Rattle.wf_ast.specs.TypedTree.{ValueTree}
use Rattle.wf_ast.specs.TypedTrees.{num_in, num_type, operator_kind, tree_of, type_of_node, place_of_node, signs_of_node}
use Rattle.wf_ast.specs.NodeKinds.{node_number}
use Rattle.wf_exprs.specs.Exprs.{compared_as, is_ones, lowered}
use Rattle.wf_exprs_nodes.specs.Trees.{complement_by}
use Rattle.wf_exprs_nodes.proofs.ComparandLaws.{left_complement, right_complement, xor_compared, pair_as_is}
use Rattle.wf_exprs_nodes.proofs.SliceLaws.{retell_rated}
use Rattle.wf_exprs_nodes.proofs.comparands.pair.Goals as goal

pub returns-in-Some-true-clause-made : goal.returns-in-Some-true-clause-made
returns-in-Some-true-clause-made c =
    let nodes = c.args.scope.now.nodes in
    let names = c.args.scope.now.names in
    let e = c.args.e in
    let bits = bits_of c.width_of-width.result in
    let width : bits ≡ (num_type (type_of_node nodes e.0)).bits = search rules in
    let one : c.is_ones-one.result ≡ is_ones bits (node_number nodes c.args.a) = search rules in
    let other : c.is_ones-other.result ≡ is_ones bits (node_number nodes c.args.b) = search rules in
    let it : complement_by (operator_kind c.args.op) c.is_ones-one.result c.is_ones-other.result ≡ Some true = cc (c.complement.ensures, c.in-Some-true.is, c.in-Some-true.field-0-test) in
    retell_rated _ _ _ c.difference.result
    (left_complement names (place_of_node nodes e.0) (signs_of_node nodes e.0) (type_of_node nodes e.0) (operator_kind c.args.op) (tree_of nodes c.args.a) (tree_of nodes c.args.b) bits
    c.is_ones-one.result c.is_ones-other.result c.requires.arithmetic width one other it
    ∙ ap (λ (x : ValueTree). compared_as names (num_in x)) (sym c.requires.tree)) c.difference.ensures.made

pub returns-in-Some-false-clause-made : goal.returns-in-Some-false-clause-made
returns-in-Some-false-clause-made c =
    let nodes = c.args.scope.now.nodes in
    let names = c.args.scope.now.names in
    let e = c.args.e in
    let bits = bits_of c.width_of-width.result in
    let width : bits ≡ (num_type (type_of_node nodes e.0)).bits = search rules in
    let one : c.is_ones-one.result ≡ is_ones bits (node_number nodes c.args.a) = search rules in
    let other : c.is_ones-other.result ≡ is_ones bits (node_number nodes c.args.b) = search rules in
    let it : complement_by (operator_kind c.args.op) c.is_ones-one.result c.is_ones-other.result ≡ Some false = cc (c.complement.ensures, c.in-Some-false.is, c.in-Some-false.field-0-test) in
    retell_rated _ _ _ c.difference-in-Some-false.result
    (right_complement names (place_of_node nodes e.0) (signs_of_node nodes e.0) (type_of_node nodes e.0) (operator_kind c.args.op) (tree_of nodes c.args.a) (tree_of nodes c.args.b) bits
    c.is_ones-one.result c.is_ones-other.result c.requires.arithmetic width one other it
    ∙ ap (λ (x : ValueTree). compared_as names (num_in x)) (sym c.requires.tree)) c.difference-in-Some-false.ensures.made

pub returns-then-is_xor-clause-made : goal.returns-then-is_xor-clause-made
returns-then-is_xor-clause-made c =
    let nodes = c.args.scope.now.nodes in
    let names = c.args.scope.now.names in
    let e = c.args.e in
    let bits = bits_of c.width_of-width.result in
    let width : bits ≡ (num_type (type_of_node nodes e.0)).bits = search rules in
    let one : c.is_ones-one.result ≡ is_ones bits (node_number nodes c.args.a) = search rules in
    let other : c.is_ones-other.result ≡ is_ones bits (node_number nodes c.args.b) = search rules in
    let it : complement_by (operator_kind c.args.op) c.is_ones-one.result c.is_ones-other.result ≡ None = cc (c.complement.ensures, c.in-None.is) in
    retell_rated _ _ _ c.xor.result
    (xor_compared names (place_of_node nodes e.0) (signs_of_node nodes e.0) (type_of_node nodes e.0) (operator_kind c.args.op) (tree_of nodes c.args.a) (tree_of nodes c.args.b) bits
    c.is_ones-one.result c.is_ones-other.result c.requires.arithmetic width one other it (sym c.is_xor.ensures ∙ c.if-is_xor.true)
    ∙ ap (λ (x : ValueTree). compared_as names (num_in x)) (sym c.requires.tree)) c.xor.ensures.made

pub returns-else-is_xor-clause-made : goal.returns-else-is_xor-clause-made
returns-else-is_xor-clause-made c =
    let nodes = c.args.scope.now.nodes in
    let names = c.args.scope.now.names in
    let e = c.args.e in
    let bits = bits_of c.width_of-width.result in
    let width : bits ≡ (num_type (type_of_node nodes e.0)).bits = search rules in
    let one : c.is_ones-one.result ≡ is_ones bits (node_number nodes c.args.a) = search rules in
    let other : c.is_ones-other.result ≡ is_ones bits (node_number nodes c.args.b) = search rules in
    let it : complement_by (operator_kind c.args.op) c.is_ones-one.result c.is_ones-other.result ≡ None = cc (c.complement.ensures, c.in-None.is) in
    retell_rated _ _ _ c.number.result
    (ap (λ (x : ValueTree). lowered names (num_in x)) c.requires.tree
    ∙ pair_as_is names (place_of_node nodes e.0) (signs_of_node nodes e.0) (type_of_node nodes e.0) (operator_kind c.args.op) (tree_of nodes c.args.a) (tree_of nodes c.args.b) bits
    c.is_ones-one.result c.is_ones-other.result c.requires.arithmetic width one other it (sym c.is_xor.ensures ∙ c.if-is_xor.false)
    ∙ ap (λ (x : ValueTree). compared_as names (num_in x)) (sym c.requires.tree)) c.number.ensures.made
