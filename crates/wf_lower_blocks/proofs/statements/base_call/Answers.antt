use Rattle.std.proofs.Common.{ap, ◌∙◌}
use Rattle.wf_ast.specs.TypedTrees.{io_in, tree_of}
use Rattle.wf_lower_blocks.proofs.ComesLaws.{skip_comes}
use Rattle.wf_lower_blocks.proofs.statements.base_call.Goals as goal

pub returns-in-SkipFast-clause-comes : goal.returns-in-SkipFast-clause-comes
returns-in-SkipFast-clause-comes c =
    let nodes = c.args.b.now.nodes in
    let same = c.io_arg-in-SkipFast.ensures ∙ ap (λ n. io_in (tree_of n c.args.on)) c.typed-in-SkipFast.ensures.same in
    skip_comes nodes c.args.target (tree_of nodes c.args.on) c.io_arg-in-SkipFast.result.0 c.args.sig c.args.args.now _ c.in-SkipFast.is c.in-len2.len_at_least c.in-len2.len_below same
