-- The three lines before a text.
use Rattle.std.proofs.Common.{◌≡◌, ◌∙◌, ap, sym, ℕ, Bool, true, false, nat_eq, List, ◌++◌, length, drop, refl, append_assoc, inl, inr}
use Rattle.std.specs.List.{starts_with}
use Rattle.std.proofs.lemmas.Slice.Eq.{starts_is}
use Rattle.std.proofs.lemmas.Bool.Decides.{Decides-eqb}
use Rattle.c_text.specs.CSpelling.{includes}
use Rattle.c_read_grammar.specs.Outcomes.{stddef_line, stdint_line, string_line, IsBadHeader}
use Rattle.c_read_tokens.specs.Headers.{LacksLine}

pub line_there : (line bytes rest : List ℕ) (r : Bool) → r ≡ starts_with nat_eq bytes line → r ≡ true → rest ≡ drop (length line) bytes → bytes ≡ line ++ rest
line_there line bytes rest r test holds is = (starts_is Decides-eqb bytes line r test).0 holds ∙ ap (λ x. line ++ x) (sym is)

pub line_lacks : (line bytes : List ℕ) (r : Bool) → r ≡ starts_with nat_eq bytes line → r ≡ false → LacksLine line bytes
line_lacks line bytes r test fails more is = let k : r ≡ true = (starts_is Decides-eqb bytes line r test).1 more is in absurd (cc (k, fails))

pub first_bad : (line bytes : List ℕ) → line ≡ stddef_line → LacksLine line bytes → IsBadHeader bytes 0
first_bad line bytes is lacks = inl (record { rest = bytes; begun = refl; other = λ more e. lacks more (e ∙ ap (λ x. x ++ more) (sym is)); place_is = refl })

pub second_bad : (line next bytes rest : List ℕ) → line ≡ stddef_line → next ≡ stdint_line → bytes ≡ line ++ rest → LacksLine next rest → IsBadHeader bytes 20
second_bad line next bytes rest is also cut lacks = inr (inl (record { rest = rest; begun = cut ∙ ap (λ x. x ++ rest) is; other = λ more e. lacks more (e ∙ ap (λ x. x ++ more) (sym also)); place_is = refl }))

both : (line next bytes rest last : List ℕ) → line ≡ stddef_line → next ≡ stdint_line → bytes ≡ line ++ rest → rest ≡ next ++ last → bytes ≡ (stddef_line ++ stdint_line) ++ last
both line next bytes rest last is also cut more =
    cut ∙ ap (λ x. line ++ x) more ∙ ap (λ x. x ++ (next ++ last)) is ∙ ap (λ x. stddef_line ++ (x ++ last)) also ∙ sym (append_assoc stddef_line stdint_line last)

pub third_bad : (line next third bytes rest last : List ℕ) → line ≡ stddef_line → next ≡ stdint_line → third ≡ string_line → bytes ≡ line ++ rest → rest ≡ next ++ last → LacksLine third last → IsBadHeader bytes 40
third_bad line next third bytes rest last is also so cut more lacks = inr (inr (record { rest = last; begun = both line next bytes rest last is also cut more; other = λ q e. lacks q (e ∙ ap (λ x. x ++ q) (sym so)); place_is = refl }))

pub all_there : (line next third bytes rest last body : List ℕ) → line ≡ stddef_line → next ≡ stdint_line → third ≡ string_line → bytes ≡ line ++ rest → rest ≡ next ++ last → last ≡ third ++ body → bytes ≡ includes ++ body
all_there line next third bytes rest last body is also so cut more whole =
    both line next bytes rest last is also cut more ∙ ap (λ x. (stddef_line ++ stdint_line) ++ x) (whole ∙ ap (λ x. x ++ body) so) ∙ sym (append_assoc (stddef_line ++ stdint_line) string_line body)
