use Rattle.std.proofs.Common.{◌≡◌, ◌∙◌, false, Some, nat_eq, sym}
use Rattle.std.specs.Cmp.Lexicographic.{pointwise}
use Rattle.wf_tokens.specs.Words.{word_text}
use Rattle.wf_tokens.proofs.WordTable.{likely, unwritten_not_found}
use Rattle.wf_tokens.proofs.words.find_word.Goals as goal

pub returns-else-is_written : goal.returns-else-is_written
returns-else-is_written c =
    let likely_is = rw (c.first_byte.ensures, c.byte_at.ensures, c.byte_at-2.ensures) at c.in_ok-word.ensures in
    let is : likely c.args.text.now ≡ Some c.in_ok-word.word = sym likely_is in
    let unwritten : pointwise nat_eq (word_text c.in_ok-word.word) c.args.text.now ≡ false = sym c.is_written.ensures ∙ c.if-is_written.false in
    unwritten_not_found c.args.text.now c.in_ok-word.word is unwritten
