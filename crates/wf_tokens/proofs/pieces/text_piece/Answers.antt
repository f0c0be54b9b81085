use Rattle.std.proofs.Common.{◌≡◌, ℕ, ◌≤◌, List, length, take, drop, true, false, sym, ◌∙◌, ap, subst}
use Rattle.std.specs.List.{list_all}
use Rattle.wf_tokens.specs.Runs.{is_quote, is_text_byte, begins}
use Rattle.wf_tokens.proofs.GapSizes.{range_rest}
use Rattle.wf_tokens.proofs.PieceLemmas.{closed_text, refused_text}
use Rattle.wf_tokens.proofs.pieces.text_piece.Goals as goal

pub returns-then-begins_with_quote-clause-piece : goal.returns-then-begins_with_quote-clause-piece
returns-then-begins_with_quote-clause-piece c =
    let bytes = c.args.bytes.now in
    let n = c.text_len-inner.result in
    let W : List ℕ → Type 0 = λ inside. n ≤ length inside in
    let P : List ℕ → Type 0 = λ inside. list_all is_text_byte (take n inside) ≡ true in
    closed_text n bytes c.requires (subst W (range_rest bytes 1) c.text_len-inner.ensures.within) (subst P (range_rest bytes 1) c.text_len-inner.ensures.plain) (sym (ap (begins is_quote) c.split_at.ensures.back) ∙ sym c.if-begins_with_quote.ensures)

pub returns-else-begins_with_quote-clause-none : goal.returns-else-begins_with_quote-clause-none
returns-else-begins_with_quote-clause-none c =
    let bytes = c.args.bytes.now in
    let n = c.text_len-inner.result in
    let P : List ℕ → Type 0 = λ inside. list_all is_text_byte (take n inside) ≡ true in
    let W : List ℕ → Type 0 = λ inside. begins is_text_byte (drop n inside) ≡ false in
    refused_text n bytes c.requires (subst P (range_rest bytes 1) c.text_len-inner.ensures.plain) (subst W (range_rest bytes 1) c.text_len-inner.ensures.whole) (sym (ap (begins is_quote) c.split_at.ensures.back) ∙ sym c.if-begins_with_quote.ensures)
