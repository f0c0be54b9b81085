use Rattle.std.proofs.Common.{sym, refl}
use Rattle.wf_script_rules.proofs.TextLaws.{empty_text, next_none, next_some, over_none, over_some}
use Rattle.wf_script_rules.proofs.text.Words.at_end.Goals as goal

pub returns-then-is_empty : goal.returns-then-is_empty
returns-then-is_empty c = sym (over_none c.args.self.now (next_none c.args.self.now c.self.inside.rest.now c.without_blanks.result.now c.self.view_is c.without_blanks.ensures.words (empty_text _ _ c.is_empty.ensures c.if-is_empty.true)))

pub returns-else-is_empty : goal.returns-else-is_empty
returns-else-is_empty c = sym (over_some _ _ _ (next_some c.args.self.now c.self.inside.rest.now c.without_blanks.result.now _ _ _ c.is_empty.result c.self.view_is c.without_blanks.ensures.words c.is_empty.ensures c.if-is_empty.false c.without_blanks.ensures.front refl refl refl))
