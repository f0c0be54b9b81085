-- The first line of a text, and the first word of a line.
use Rattle.std.proofs.Common.{◌≡◌, ℕ, ◌+◌, ◌-◌, ◌<◌, suc, Bool, true, false, not, ◌&&◌, List, [], ◌∷◌, length, take, drop, Some, None, Result, Ok, Err, refl, sym, ◌∙◌, ap, cond, eqb, nat_eq, slice_get, arith, add-one}
use Rattle.std.specs.List.{position_or_len}
use Rattle.std.proofs.lemmas.Bool.{eqb-true}
use Rattle.std.proofs.lemmas.List.{nil_from_length}
use Rattle.wf_script_rules.specs.declared.rules.XRule.{XRule}
use Rattle.wf_script_rules.specs.declared.rules.XRule.TheVariants.{X3}
use Rattle.wf_script_rules.specs.Text.{is_feed, is_return, is_blank, begins, in_front, lines_of, ends_word, words_of, without_return}
use Rattle.wf_script_rules.specs.Values.{next_word, at_end}
use Rattle.wf_script_rules.specs.Lines.{is_skipped}

one_more : (n : ℕ) → 1 + n ≡ suc n
one_more n = omega arith

-- Blanks before a word don't count.
pub skip_blanks : (text : List ℕ) → words_of (drop (position_or_len (λ byte. not (is_blank byte)) text) text) ≡ words_of text
unfolding words_of
skip_blanks [] = refl
skip_blanks (byte ∷ rest) = by_test (is_blank byte) refl (skip_blanks rest)
  where
    by_test : (t : Bool) → is_blank byte ≡ t → words_of (drop (position_or_len (λ b. not (is_blank b)) rest) rest) ≡ words_of rest → words_of (drop (cond (not (not t)) (1 + position_or_len (λ b. not (is_blank b)) rest) 0) (byte ∷ rest)) ≡ cond t (words_of rest) (cond (ends_word rest) ((byte ∷ []) ∷ words_of rest) (in_front byte (words_of rest)))
    by_test true e others = rw (one_more (position_or_len (λ b. not (is_blank b)) rest)) others
    by_test false e others = rw e refl

no_words_left : (xs : List ℕ) → words_of (drop (length xs) xs) ≡ []
unfolding words_of
no_words_left [] = refl
no_words_left (x ∷ xs) = no_words_left xs

pub no_words : (text : List ℕ) → position_or_len (λ byte. not (is_blank byte)) text ≡ length text → words_of text ≡ []
no_words text h = sym (skip_blanks text) ∙ (ap (λ n. words_of (drop n text)) h ∙ no_words_left text)

-- The first byte after blanks is none.
pub blanks_end : (text : List ℕ) → begins is_blank (drop (position_or_len (λ byte. not (is_blank byte)) text) text) ≡ false
blanks_end [] = refl
blanks_end (byte ∷ rest) = by_test (is_blank byte) refl (blanks_end rest)
  where
    by_test : (t : Bool) → is_blank byte ≡ t → begins is_blank (drop (position_or_len (λ b. not (is_blank b)) rest) rest) ≡ false → begins is_blank (drop (cond (not (not t)) (1 + position_or_len (λ b. not (is_blank b)) rest) 0) (byte ∷ rest)) ≡ false
    by_test true e others = rw (one_more (position_or_len (λ b. not (is_blank b)) rest)) others
    by_test false e others = e

-- A text that begins with a word.
pub word_on : (rest : List ℕ) (byte : ℕ) → is_blank byte ≡ false → words_of (byte ∷ rest) ≡ (byte ∷ take (position_or_len is_blank rest) rest) ∷ words_of (drop (position_or_len is_blank rest) rest)
unfolding words_of
word_on [] byte plain = rw plain refl
word_on (next ∷ more) byte plain = rw plain (by_test (is_blank next) refl (word_on more next))
  where
    by_test : (t : Bool) → is_blank next ≡ t → (is_blank next ≡ false → words_of (next ∷ more) ≡ (next ∷ take (position_or_len is_blank more) more) ∷ words_of (drop (position_or_len is_blank more) more)) → cond t ((byte ∷ []) ∷ words_of (next ∷ more)) (in_front byte (words_of (next ∷ more))) ≡ (byte ∷ take (cond (not t) (1 + position_or_len is_blank more) 0) (next ∷ more)) ∷ words_of (drop (cond (not t) (1 + position_or_len is_blank more) 0) (next ∷ more))
    by_test true e others = refl
    by_test false e others = rw (one_more (position_or_len is_blank more)) (ap (in_front byte) (others e))

pub empty_text : (text : List ℕ) (b : Bool) → b ≡ eqb (length text) 0 → b ≡ true → text ≡ []
empty_text text b is holds = nil_from_length text (eqb-true _ _ (sym is ∙ holds))

pub record FirstWord (text : List ℕ) (words : List (List ℕ)) (n : ℕ) : Type 0 where
  pub some : words ≡ take n text ∷ words_of (drop n text)

pub first_word : (text : List ℕ) (words : List (List ℕ)) (n : ℕ) (b : Bool) → b ≡ eqb (length text) 0 → b ≡ false → begins is_blank text ≡ false → words_of text ≡ words → n ≡ position_or_len is_blank text → FirstWord text words n
first_word [] words n b is fails plain all count = absurd cc
first_word (byte ∷ rest) words n b is fails plain all count =
    let m : n ≡ suc (position_or_len is_blank rest) = count ∙ (rw plain (one_more (position_or_len is_blank rest))) in
    record { some = rw m (sym all ∙ word_on rest byte plain) }

-- What the words of a text that goes on after blanks are.
pub next_none : (old : List (List ℕ)) (rest text : List ℕ) → words_of rest ≡ old → words_of text ≡ words_of rest → text ≡ [] → old ≡ []
unfolding words_of
next_none old rest text view same empty = sym view ∙ (sym same ∙ ap words_of empty)

pub next_some : (old : List (List ℕ)) (rest text front back : List ℕ) (n : ℕ) (b : Bool) → words_of rest ≡ old → words_of text ≡ words_of rest → b ≡ eqb (length text) 0 → b ≡ false → begins is_blank text ≡ false → n ≡ position_or_len is_blank text → front ≡ take n text → back ≡ drop n text → old ≡ front ∷ words_of back
next_some old rest text front back n b view same is fails plain count first second =
    let found = first_word text old n b is fails plain (same ∙ view) count in
    rw (first, second) found.some

pub over_none : (old : List (List ℕ)) → old ≡ [] → at_end old ≡ Ok tt
over_none old e = ap at_end e

pub over_some : (old : List (List ℕ)) (word : List ℕ) (words : List (List ℕ)) → old ≡ word ∷ words → at_end old ≡ Err X3
over_some old word words e = ap at_end e

same_taken : (x y : List ℕ × List (List ℕ)) (a b : Result (List ℕ × List (List ℕ)) XRule) → a ≡ Ok x → b ≡ Ok y → a ≡ b → x ≡ y
same_taken x y a b p q h = cc

pub word_taken : (old : List (List ℕ)) (word : List ℕ) (new : List (List ℕ)) → next_word old ≡ Ok (word, new) → old ≡ word ∷ new
word_taken [] word new h = absurd cc
word_taken (x ∷ xs) word new h =
    let first : List ℕ × List (List ℕ) = (x, xs) in
    let second : List ℕ × List (List ℕ) = (word, new) in
    ap (λ (q : List ℕ × List (List ℕ)). q.0 ∷ q.1) (same_taken first second (Ok first) (Ok second) refl refl h)

pub none_taken : (old : List (List ℕ)) (rule : XRule) → next_word old ≡ Err rule → old ≡ []
none_taken [] rule h = refl
none_taken (x ∷ xs) rule h = absurd cc

pub skips_none : (old : List (List ℕ)) → old ≡ [] → is_skipped old ≡ true
skips_none old e = ap is_skipped e

-- The first byte after blanks tells whether a line is skipped.
pub skips_some : (old : List (List ℕ)) (rest text : List ℕ) (byte : ℕ) → words_of rest ≡ old → words_of text ≡ words_of rest → begins is_blank text ≡ false → Some byte ≡ slice_get text 0 → is_skipped old ≡ nat_eq byte 35
skips_some old rest [] byte view same plain first = absurd cc
skips_some old rest (other ∷ more) byte view same plain first =
    let is : byte ≡ other = cc in
    ap is_skipped (sym view ∙ (sym same ∙ word_on more other plain)) ∙ sym (ap (λ b. nat_eq b 35) is)

and_false : (b : Bool) → (b && false) ≡ false
and_false true = refl
and_false false = refl

before_last : (n : ℕ) → suc (suc n) - 1 ≡ suc (suc n - 1)
before_last n = omega arith

-- A carriage return at a line's end.
pub drops_return : (line : List ℕ) (byte : ℕ) → Some byte ≡ slice_get line (length line - 1) → is_return byte ≡ true → take (length line - 1) line ≡ without_return line
unfolding without_return
drops_return [] byte last is = absurd cc
drops_return (x ∷ []) byte last is =
    let same : x ≡ byte = cc in
    let return : is_return x ≡ true = ap is_return same ∙ is in
    rw return refl
drops_return (x ∷ y ∷ ys) byte last is =
    let shorter = rw (before_last (length ys)) at last in
    rw (before_last (length ys), and_false (is_return x)) (ap (λ zs. x ∷ zs) (drops_return (y ∷ ys) byte shorter is))

pub keeps_line : (line : List ℕ) (byte : ℕ) → Some byte ≡ slice_get line (length line - 1) → is_return byte ≡ false → line ≡ without_return line
unfolding without_return
keeps_line [] byte last is = absurd cc
keeps_line (x ∷ []) byte last is =
    let same : x ≡ byte = cc in
    let return : is_return x ≡ false = ap is_return same ∙ is in
    rw return refl
keeps_line (x ∷ y ∷ ys) byte last is =
    let shorter = rw (before_last (length ys)) at last in
    rw (and_false (is_return x)) (ap (λ zs. x ∷ zs) (keeps_line (y ∷ ys) byte shorter is))

pub keeps_none : (line : List ℕ) → None ≡ slice_get line (length line - 1) → line ≡ without_return line
unfolding without_return
keeps_none [] last = refl
keeps_none (x ∷ []) last = absurd cc
keeps_none (x ∷ y ∷ ys) last =
    let shorter = rw (before_last (length ys)) at last in
    rw (and_false (is_return x)) (ap (λ zs. x ∷ zs) (keeps_none (y ∷ ys) shorter))

-- A text with a line feed begins with the line before it.
pub line_on : (rest : List ℕ) (byte : ℕ) → is_feed byte ≡ false → position_or_len is_feed rest < length rest → lines_of (byte ∷ rest) ≡ without_return (byte ∷ take (position_or_len is_feed rest) rest) ∷ lines_of (drop (suc (position_or_len is_feed rest)) rest)
unfolding lines_of without_return
line_on [] byte plain within = absurd (omega (arith, within))
line_on (next ∷ more) byte plain within = rw plain (by_test (is_feed next) refl within (line_on more next))
  where
    by_return : (r : Bool) → cond (r && true) ([] ∷ lines_of more) ((byte ∷ []) ∷ lines_of more) ≡ cond (r && true) [] (byte ∷ []) ∷ lines_of more
    by_return true = refl
    by_return false = refl

    by_test : (t : Bool) → is_feed next ≡ t → cond (not t) (1 + position_or_len is_feed more) 0 < suc (length more) → (is_feed next ≡ false → position_or_len is_feed more < length more → lines_of (next ∷ more) ≡ without_return (next ∷ take (position_or_len is_feed more) more) ∷ lines_of (drop (suc (position_or_len is_feed more)) more)) → cond (is_return byte && t) (lines_of (next ∷ more)) (in_front byte (lines_of (next ∷ more))) ≡ without_return (byte ∷ take (cond (not t) (1 + position_or_len is_feed more) 0) (next ∷ more)) ∷ lines_of (drop (suc (cond (not t) (1 + position_or_len is_feed more) 0)) (next ∷ more))
    by_test true e short others = rw e (by_return (is_return byte))
    by_test false e short others =
        let fewer : position_or_len is_feed more < length more = omega (arith, short) in
        rw (one_more (position_or_len is_feed more), and_false (is_return byte)) (ap (in_front byte) (others e fewer))

pub first_line : (text : List ℕ) (k : ℕ) → position_or_len is_feed text ≡ k → k < length text → lines_of text ≡ without_return (take k text) ∷ lines_of (drop (k + 1) text)
unfolding lines_of without_return
first_line [] k is within = absurd (omega (arith, within))
first_line (byte ∷ rest) k is within = by_test (is_feed byte) refl is
  where
    by_test : (t : Bool) → is_feed byte ≡ t → cond (not t) (1 + position_or_len is_feed rest) 0 ≡ k → lines_of (byte ∷ rest) ≡ without_return (take k (byte ∷ rest)) ∷ lines_of (drop (k + 1) (byte ∷ rest))
    by_test true e h = rw (← h, e) refl
    by_test false e h =
        let shifted : k ≡ suc (position_or_len is_feed rest) = sym h ∙ one_more (position_or_len is_feed rest) in
        let fewer : position_or_len is_feed rest < length rest = omega (arith, shifted, within) in
        rw (add-one, shifted) (line_on rest byte e fewer)

line_off : {A : Type 0} (r t : Bool) (x y : A) → t ≡ false → cond (r && t) x y ≡ y
line_off true true x y h = absurd cc
line_off true false x y h = refl
line_off false t x y h = refl

-- A text without one is one line.
pub last_line : (rest : List ℕ) (byte : ℕ) → position_or_len is_feed (byte ∷ rest) ≡ length (byte ∷ rest) → lines_of (byte ∷ rest) ≡ (byte ∷ rest) ∷ []
unfolding lines_of
last_line [] byte h = by_test (is_feed byte) refl h
  where
    by_test : (t : Bool) → is_feed byte ≡ t → cond (not t) (1 + 0) 0 ≡ 1 → lines_of (byte ∷ []) ≡ (byte ∷ []) ∷ []
    by_test true e k = absurd (omega (arith, k))
    by_test false e k = rw (e, and_false (is_return byte)) refl
last_line (next ∷ more) byte h = by_test (is_feed byte) (is_feed next) refl refl h (last_line more next)
  where
    by_test : (t u : Bool) → is_feed byte ≡ t → is_feed next ≡ u → cond (not t) (1 + cond (not u) (1 + position_or_len is_feed more) 0) 0 ≡ suc (suc (length more)) → (cond (not (is_feed next)) (1 + position_or_len is_feed more) 0 ≡ suc (length more) → lines_of (next ∷ more) ≡ (next ∷ more) ∷ []) → lines_of (byte ∷ next ∷ more) ≡ (byte ∷ next ∷ more) ∷ []
    by_test true u e f k others = absurd (omega (arith, k))
    by_test false true e f k others = absurd (omega (arith, k))
    by_test false false e f k others =
        let here : lines_of (next ∷ more) ≡ (next ∷ more) ∷ [] = others (rw f (omega (arith, k))) in
        rw e (line_off (is_return byte) (is_feed next) (lines_of (next ∷ more)) (in_front byte (lines_of (next ∷ more))) f ∙ ap (in_front byte) here)
