use Rattle.std.proofs.Common.{◌∙◌, ap}
use Rattle.wf_ast.specs.declared.typed_code.ExprNode.{ExprNode}
use Rattle.wf_ast.specs.declared.typed_nodes.TypedNodes.{TypedNodes}
use Rattle.wf_ast.proofs.PlaceLemmas.{none_in, none_left}
use Rattle.wf_ast.proofs.typed.Typed.expr_at.Goals as goal

pub loop-e-preserved : goal.loop-e-preserved
loop-e-preserved c =
    none_in (λ (node : ExprNode). node.at) c.args.self.now.exprs c.args.at c.as_slice-nodes.result.now (c.as_slice-nodes.ensures ∙ ap (λ (n : TypedNodes). n.exprs) c.self.view_is)
    c.loop-e.e c.index-nodes-e.result c.loop-e-test.true c.if-same_place.ensures.1 c.loop-e.invariant

pub returns-clause-none : goal.returns-clause-none
returns-clause-none c =
    none_left (λ (node : ExprNode). node.at) c.args.self.now.exprs c.args.at c.as_slice-nodes.result.now (c.as_slice-nodes.ensures ∙ ap (λ (n : TypedNodes). n.exprs) c.self.view_is)
    c.loop-e.e c.loop-e-test.false c.loop-e.invariant
