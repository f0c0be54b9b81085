use Rattle.std.proofs.Common.{◌∙◌, sym, ap, Some}
use Rattle.std.specs.Cmp.Lexicographic.{same_text}
use Rattle.wf_parse.proofs.recent.is_text.Goals as goal

pub returns : goal.returns
returns c = λ h. c.text.ensures ∙ ap Some (same_text c.text.result.now c.args.text.now (sym (sym c.eq.ensures ∙ h)))
