use Rattle.std.proofs.Common.{sym, ◌∙◌}
use Rattle.wf_ast.specs.TypedTrees.{constant_of_node, place_of_node, signs_of_node, tree_of, type_of_node}
use Rattle.wf_ast.specs.NodeKinds.{node_cond}
use Rattle.wf_bounds.proofs.RoomLemmas.{node-alone, room-left}
use Rattle.wf_bounds.proofs.branching.has_room.Goals as goal

pub returns-then-joins_none : goal.returns-then-joins_none
returns-then-joins_none c =
    let nodes = c.args.walk.now.t.now in
    let e = c.args.cond.0 in
    let alone = node-alone (tree_of nodes) (place_of_node nodes e) (signs_of_node nodes e) (type_of_node nodes e) (constant_of_node nodes e) c.expr.result.now (tree_of nodes c.args.cond) c.expr.ensures.made (sym c.joins_none.ensures ∙ c.if-joins_none.true) in
    room-left nodes c.args.known.now.list (node_cond nodes c.args.cond) alone (c.has_room.ensures c.if-has_room.true)
