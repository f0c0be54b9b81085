use Rattle.std.proofs.Common.{◌∙◌, sym}
use Rattle.wf_named.specs.NamedParts.{exprs_of, named_package}
use Rattle.wf_named.specs.NamedTrees.{expr_at}
use Rattle.wf_typed_stmts.specs.Right.{known_in}
use Rattle.wf_typed_stmts.proofs.SimpleLemmas.{arg_value}
use Rattle.wf_typed_stmts.proofs.calls.add_arg.Goals as goal

pub push_value-requires-clause-right : goal.push_value-requires-clause-right
push_value-requires-clause-right c =
    arg_value c.args.here.now.around.now (known_in (named_package c.args.here.now.nodes.now)) (expr_at (exprs_of c.args.here.now.nodes.now) c.args.e) (sym c.as_path.ensures ∙ c.in-None.is) c.requires.right
