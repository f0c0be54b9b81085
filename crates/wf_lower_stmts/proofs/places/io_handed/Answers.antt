use Rattle.std.proofs.Common.{sym, ◌∙◌, ap, Some}
use Rattle.wf_ast.specs.TypedInvariant.{is_tree_of}
use Rattle.wf_ast.specs.TypedTrees.{tree_of}
use Rattle.wf_lower_stmts.proofs.PlaceLaws.{io_some, io_none, kind_at}
use Rattle.wf_lower_stmts.proofs.places.io_handed.Goals as goal

pub returns-then-is_io : goal.returns-then-is_io
returns-then-is_io c =
    let t = tree_of c.args.t.now c.args.e in
    ap Some c.io_arg.ensures ∙ sym (io_some c.type_of.result t (sym c.if-is_io.ensures) (ap (λ ty. is_tree_of ty t) c.type_of.ensures ∙ kind_at c.args.t.now c.requires.typed c.args.e c.requires.node))

pub returns-else-is_io : goal.returns-else-is_io
returns-else-is_io c =
    let t = tree_of c.args.t.now c.args.e in
    sym (io_none c.type_of.result t (sym c.if-is_io.ensures) (ap (λ ty. is_tree_of ty t) c.type_of.ensures ∙ kind_at c.args.t.now c.requires.typed c.args.e c.requires.node))
