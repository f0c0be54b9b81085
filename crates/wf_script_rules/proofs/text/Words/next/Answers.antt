use Rattle.std.proofs.Common.{ap}
use Rattle.wf_script_rules.specs.Values.{next_word}
use Rattle.wf_script_rules.proofs.TextLaws.{empty_text, next_none, next_some}
use Rattle.wf_script_rules.proofs.text.Words.next.Goals as goal

pub returns-then-is_empty : goal.returns-then-is_empty
returns-then-is_empty c = ap next_word (next_none c.args.self.now c.self.inside.rest.now c.without_blanks-text.result.now c.self.view_is c.without_blanks-text.ensures.words (empty_text _ _ c.is_empty.ensures c.if-is_empty.true))

pub split_at-requires : goal.split_at-requires
split_at-requires c = c.word_len.ensures.within

pub returns : goal.returns
returns c = ap next_word (next_some c.args.self.now c.self.inside.rest.now c.without_blanks-text.result.now c.split_at.result.0.now c.split_at.result.1.now c.word_len.result c.is_empty.result c.self.view_is c.without_blanks-text.ensures.words c.is_empty.ensures c.if-is_empty.false c.without_blanks-text.ensures.front c.word_len.ensures.place c.split_at.ensures.front c.split_at.ensures.back)
