use Rattle.std.proofs.Common.{◌≡◌, ◌∷◌, [], subst}
use Rattle.wf_ast.specs.declared.typed_nodes.TypedNodes.{TypedNodes}
use Rattle.wf_ast.specs.TypedTrees.{tree_of, chain_of, operator_kind}
use Rattle.wf_typed_stmts.specs.StmtGrowth.{with_stmts}
use Rattle.wf_typed_stmts.proofs.EntryLemmas.{lifted_adds}
use Rattle.wf_typed_stmts.proofs.GrowthLemmas.{step_grows, step_begun, operator_made}
use Rattle.wf_typed_stmts.proofs.building.BodyBuilding.push_operator.Goals as goal

pub returns-clause-grows : goal.returns-clause-grows
returns-clause-grows c =
    let begun = rw (← c.self.view_is) at c.requires.begun in
    rw (← c.self.view_is) (step_grows c.self.inside.building c.push_expr.new.self c.self.inside.stmts.items c.in_ok-e.ensures.grows begun.stmts)

pub returns-clause-begun : goal.returns-clause-begun
returns-clause-begun c =
    let begun = rw (← c.self.view_is) at c.requires.begun in
    step_begun c.self.inside.building c.push_expr.new.self c.self.inside.stmts.items c.in_ok-e.ensures.grows c.args.here.now.nodes.now begun

pub returns-clause-made : goal.returns-clause-made
returns-clause-made c =
    let new : TypedNodes = with_stmts c.push_expr.new.self c.self.inside.stmts.items in
    let P : TypedNodes → Type 0 = λ p. tree_of new c.in_ok-e.e ≡ chain_of c.args.by.sign (c.args.by.sign ∷ []) c.args.by.ty (operator_kind c.args.by.op) (tree_of p c.args.left ∷ tree_of p c.args.right ∷ []) in
    subst P c.self.view_is
    (operator_made c.self.inside.building c.push_expr.new.self c.self.inside.stmts.items c.in_ok-e.e c.args.left c.args.right c.args.by.op c.args.by.sign c.args.by.ty c.in_ok-node.node c.in_ok-node.ensures c.in_ok-e.ensures.made)

pub returns-clause-entries : goal.returns-clause-entries
returns-clause-entries c =
    let one = rw c.in_ok-node.ensures at c.in_ok-e.ensures.adds in
    rw (← c.self.view_is) (lifted_adds c.self.inside.building c.push_expr.new.self c.self.inside.stmts.items _ one)
