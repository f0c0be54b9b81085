use Rattle.std.proofs.Common.{◌∙◌, refl, not}
use Rattle.wf_named.specs.NamedTrees.{word_at}
use Rattle.wf_types_rules.specs.Judgements.{is_status_text}
use Rattle.wf_types_decls.proofs.DeclarationLemmas.{status_alone}
use Rattle.wf_types_decls.proofs.declarations.judge_status.Goals as goal

pub returns : goal.returns
returns c =
    let w = word_at c.args.nodes.now.texts c.args.text in
    λ s. c.tell.ensures ∙ rw c.wrong_status.ensures (status_alone s c.args.found.now w (not (is_status_text w.text)) refl)
