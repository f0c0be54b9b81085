use Rattle.std.proofs.Common.{◌≡◌, ap, sym, ◌∙◌, None}
use Rattle.wf_ast.specs.TypedTrees.{type_of_node, constant_of_node}
use Rattle.wf_bounds_stmts.specs.Nodes.{buffer_named, constant_or_buffer}
use Rattle.wf_bounds_stmts.proofs.BufferLemmas.{handed-at}
use Rattle.wf_bounds_stmts.proofs.calling.handed.Goals as goal

pub returns-in-None-clause-thing : goal.returns-in-None-clause-thing
returns-in-None-clause-thing c =
    let x = c.expr-expr.result.now in
    let ty = type_of_node c.args.t.now c.args.e.0 in
    let k : constant_of_node c.args.t.now c.args.e.0 ≡ None = cc in
    c.buffer.ensures.thing ∙ ap (λ it. buffer_named it x) c.type_of.ensures ∙ ap (λ it. constant_or_buffer ty it x) (sym k) ∙ sym (handed-at c.args.t.now c.args.e x c.expr-expr.ensures.made)
