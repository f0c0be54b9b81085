use Rattle.std.proofs.Common.{◌∙◌, sym, ap, not}
use Rattle.wf_named.specs.NamedTrees.{text_or}
use Rattle.wf_types_rules.specs.Judgements.{at_if, is_status_text}
use Rattle.wf_types_decls.proofs.declarations.wrong_status.Goals as goal

pub returns : goal.returns
returns c =
    c.at_if.ensures ∙ rw c.is_status_text-right.ensures (ap (λ b. at_if (not (is_status_text b)) c.args.text.at) (sym (ap text_or c.text.ensures)))
