use Rattle.std.proofs.Common.{◌∙◌, ap}
use Rattle.wf_ast.specs.declared.typed_code.StmtNode.{StmtNode}
use Rattle.wf_ast.specs.declared.typed_nodes.TypedNodes.{TypedNodes}
use Rattle.wf_ast.proofs.PlaceLemmas.{none_in, none_left}
use Rattle.wf_ast.proofs.typed.Typed.stmt_at.Goals as goal

pub loop-s-preserved : goal.loop-s-preserved
loop-s-preserved c =
    none_in (λ (node : StmtNode). node.at) c.args.self.now.stmts c.args.at c.as_slice-nodes.result.now (c.as_slice-nodes.ensures ∙ ap (λ (n : TypedNodes). n.stmts) c.self.view_is)
    c.loop-s.s c.index-nodes-s.result c.loop-s-test.true c.if-same_place.ensures.1 c.loop-s.invariant

pub returns-clause-none : goal.returns-clause-none
returns-clause-none c =
    none_left (λ (node : StmtNode). node.at) c.args.self.now.stmts c.args.at c.as_slice-nodes.result.now (c.as_slice-nodes.ensures ∙ ap (λ (n : TypedNodes). n.stmts) c.self.view_is)
    c.loop-s.s c.loop-s-test.false c.loop-s.invariant
