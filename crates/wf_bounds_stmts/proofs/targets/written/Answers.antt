use Rattle.std.proofs.Common.{◌≡◌, ap, sym, ◌∙◌, None}
use Rattle.wf_ast.specs.TypedTrees.{type_of_node, constant_of_node}
use Rattle.wf_bounds_stmts.specs.Nodes.{node_written, constant_or_written}
use Rattle.wf_bounds_stmts.proofs.TargetLemmas.{target-seen}
use Rattle.wf_bounds_stmts.proofs.targets.written.Goals as goal

pub returns-in-None : goal.returns-in-None
returns-in-None c =
    let x = c.expr-expr.result.now in
    let ty = type_of_node c.args.t.now c.args.target.0 in
    let k : constant_of_node c.args.t.now c.args.target.0 ≡ None = cc in
    let e : c.written_node.result ≡ constant_or_written ty (constant_of_node c.args.t.now c.args.target.0) x = c.written_node.ensures ∙ ap (λ it. node_written it x) c.type_of.ensures ∙ ap (λ it. constant_or_written ty it x) (sym k) in
    record { seen = rw e (target-seen c.args.t.now c.args.target x c.expr-expr.ensures.made c.expr-expr.ensures.kinds) }
