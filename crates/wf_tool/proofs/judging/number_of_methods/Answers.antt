use Rattle.std.proofs.Common.{◌∙◌, ap, length}
use Rattle.wf_ast.specs.declared.typed_nodes.TypedNodes.{TypedNodes}
use Rattle.wf_tool.proofs.JudgingLemmas.{methods-told}
use Rattle.wf_tool.proofs.judging.number_of_methods.Goals as goal

pub returns : goal.returns
returns c =
    c.methods.ensures ∙ ap (λ (nodes : TypedNodes). length nodes.methods) c.typed.ensures.same ∙ methods-told c.args.accepted.now.nodes c.typed.ensures.kept.typed.bodied
