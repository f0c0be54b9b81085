use Rattle.c_read_tokens.proofs.LexLaws.{string_stands, string_open, string_double}
use Rattle.c_read_tokens.proofs.lexing.string_piece.Goals as goal

pub returns-then-not-begins_with_quote-clause-none : goal.returns-then-not-begins_with_quote-clause-none
returns-then-not-begins_with_quote-clause-none c = string_open c.args.bytes.now _ _ _ c.string_len.result c.requires c.split_at.ensures.back c.split_at-2.ensures.front c.split_at-2.ensures.back c.string_len.ensures.run c.string_len.ensures.whole c.begins_with_quote.result c.begins_with_quote.ensures c.if-not-begins_with_quote.true

pub returns-then-has_double_question-clause-none : goal.returns-then-has_double_question-clause-none
returns-then-has_double_question-clause-none c = string_double c.args.bytes.now _ _ _ c.string_len.result c.requires c.split_at.ensures.back c.split_at-2.ensures.front c.split_at-2.ensures.back c.string_len.ensures.run c.string_len.ensures.whole c.begins_with_quote.result c.has_double_question.result c.begins_with_quote.ensures c.if-not-begins_with_quote.false c.has_double_question.ensures c.if-has_double_question.true

pub returns-clause-some : goal.returns-clause-some
returns-clause-some c = string_stands c.args.bytes.now _ _ _ c.string_len.result c.requires c.split_at.ensures.back c.split_at-2.ensures.front c.split_at-2.ensures.back c.string_len.ensures.run _ c.begins_with_quote.result c.has_double_question.result c.begins_with_quote.ensures c.if-not-begins_with_quote.false c.has_double_question.ensures c.if-has_double_question.false c.split_at-3.ensures.back
