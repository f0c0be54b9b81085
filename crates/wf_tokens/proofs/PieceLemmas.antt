-- What stands at the front of bytes decides which piece can stand there.
use Rattle.std.proofs.Common.{◌≡◌, ℕ, ◌+◌, ◌≤◌, ◌<◌, ◌^◌, Bool, true, false, not, ◌&&◌, List, [], ◌∷◌, ◌++◌, length, take, drop, refl, sym, ◌∙◌, ap, subst, suc, zero, nat_eq, arith, Some, is_some, append_assoc, add_comm, length-drop, Err, if◌then◌else◌}
use Rattle.std.specs.List.{list_all}
use Rattle.std.proofs.lemmas.List.{take-append-drop, drop-drop}
use Rattle.std.proofs.Math.Seq.{take-add}
use Rattle.wf_text.specs.declared.rules.Rule.{Rule}
use Rattle.wf_text.specs.declared.rules.Rule.TheVariants as rule
use Rattle.wf_tokens.specs.declared.kinds.TokenKind.{TokenKind}
use Rattle.wf_tokens.specs.declared.kinds.TokenKind.TheVariants as kind
use Rattle.wf_tokens.specs.declared.symbols.Symbol.{Symbol}
use Rattle.wf_tokens.specs.Runs.{is_letter, is_digit, is_run, is_quote, is_text_byte, begins, front}
use Rattle.wf_tokens.specs.Numbers.{number_of, AnswersNumber}
use Rattle.wf_tokens.specs.Symbols.{symbol_text, BeginsNoSymbol}
use Rattle.wf_tokens.specs.Words.{word_text}
use Rattle.wf_tokens.specs.Pieces.{IsText, Spells, IsPiece, NoPiece, rule_at, IsFrontPiece, IsRefused, IsRunKind, RefusesRun}
use Rattle.wf_tokens.proofs.ByteClasses.{letter_run, digit_run, no_run_digit, run_no_quote, letter_no_digit, quote_is}
use Rattle.wf_tokens.proofs.NumberValues.{number_run}
use Rattle.wf_tokens.proofs.SymbolTable.{symbol_begins, is_symbol_byte}
use Rattle.wf_tokens.proofs.WordTable.{word_runs, is_word_run}
use Rattle.wf_tokens.proofs.Tables.{both}
use Rattle.wf_tokens.proofs.GapSizes.{SameCut}

pub begins-append : (test : ℕ → Bool) (text rest : List ℕ) → begins test text ≡ true → begins test (text ++ rest) ≡ true
begins-append test [] rest h = absurd cc
begins-append test (byte ∷ text) rest h = h

pub begins-take : (test : ℕ → Bool) (n : ℕ) (bytes : List ℕ) → begins test (take n bytes) ≡ true → begins test bytes ≡ true
begins-take test n bytes h = subst (λ (t : List ℕ). begins test t ≡ true) (take-append-drop n bytes) (begins-append test (take n bytes) (drop n bytes) h)

-- One class of first bytes lies in another, or outside it.
pub begins-since : (test other : ℕ → Bool) → ((byte : ℕ) → test byte ≡ true → other byte ≡ true) → (bytes : List ℕ) → begins test bytes ≡ true → begins other bytes ≡ true
begins-since test other since [] h = h
begins-since test other since (byte ∷ rest) h = since byte h

pub begins-apart : (test other : ℕ → Bool) → ((byte : ℕ) → test byte ≡ true → other byte ≡ false) → (bytes : List ℕ) → begins test bytes ≡ true → begins other bytes ≡ false
begins-apart test other apart [] h = refl
begins-apart test other apart (byte ∷ rest) h = apart byte h

pub begins-none : (test other : ℕ → Bool) → ((byte : ℕ) → test byte ≡ false → other byte ≡ false) → (bytes : List ℕ) → begins test bytes ≡ false → begins other bytes ≡ false
begins-none test other none [] h = refl
begins-none test other none (byte ∷ rest) h = none byte h

-- The longest front of a class is one.
pub same_front : (test : ℕ → Bool) (text rest other behind : List ℕ) → text ++ rest ≡ other ++ behind → list_all test text ≡ true → list_all test other ≡ true → begins test rest ≡ false → begins test behind ≡ false → SameCut text rest other behind
same_front test [] rest [] behind cut h k r b = record { front = refl; back = cut }
same_front test [] rest (y ∷ other) behind cut h k r b =
    let passes : begins test rest ≡ true = ap (begins test) cut ∙ (both (test y) (list_all test other) k).left in absurd cc
same_front test (x ∷ text) rest [] behind cut h k r b =
    let passes : begins test behind ≡ true = sym (ap (begins test) cut) ∙ (both (test x) (list_all test text) h).left in absurd cc
same_front test (x ∷ text) rest (y ∷ other) behind cut h k r b =
    let first : x ≡ y = cc in
    let later : text ++ rest ≡ other ++ behind = cc in
    let s = same_front test text rest other behind later (both (test x) (list_all test text) h).right (both (test y) (list_all test other) k).right r b in
    record { front = cong_cons x y text other first s.front; back = s.back }
  where
    cong_cons : (a b : ℕ) (xs ys : List ℕ) → a ≡ b → xs ≡ ys → a ∷ xs ≡ b ∷ ys
    cong_cons a b xs ys e f = cc

pub front_is : (test : ℕ → Bool) (text rest : List ℕ) → list_all test text ≡ true → begins test rest ≡ false → front test (text ++ rest) ≡ text
front_is test [] [] h r = refl
front_is test [] (byte ∷ rest) h r = rw r
front_is test (byte ∷ text) rest h r =
    let parts = both (test byte) (list_all test text) h in
    rw parts.left (ap (λ t. byte ∷ t) (front_is test text rest parts.right r))

pub apart : (b : Bool) → b ≡ true → b ≡ false → ⊥
apart b h k = cc

-- Names, words and numbers are runs.
pub record IsRunText (text : List ℕ) : Type 0 where
  pub first : begins is_run text ≡ true
  pub run : list_all is_run text ≡ true

pub word_run : (text : List ℕ) → is_word_run text ≡ true → IsRunText text
word_run text h =
    let parts = both (begins is_letter text) (list_all is_run text) h in
    record { first = begins-since is_letter is_run letter_run text parts.left; run = parts.right }

pub kind_runs : (kind : TokenKind) (text : List ℕ) → IsRunKind kind text → IsRunText text
kind_runs kind.Name text h = record { first = begins-since is_letter is_run letter_run text h.first; run = h.run }
kind_runs (kind.Number value) text h =
    let n = number_run value text h.0 in
    record { first = begins-since is_digit is_run digit_run text n.first; run = n.run }
kind_runs kind.Text text h = absurd h
kind_runs (kind.Keyword word) text h = subst IsRunText (sym h) (word_run (word_text word) (word_runs word))
kind_runs (kind.Symbol symbol) text h = absurd h

pub run_piece : (kind : TokenKind) (text rest : List ℕ) → IsRunKind kind text → begins is_run rest ≡ false → IsPiece kind text rest
run_piece kind.Name text rest h r = record { spells = h; whole = r }
run_piece (kind.Number value) text rest h r = record { spells = h; whole = r }
run_piece kind.Text text rest h r = absurd h
run_piece (kind.Keyword word) text rest h r = record { spells = h; whole = r }
run_piece (kind.Symbol symbol) text rest h r = absurd h

pub text_begins : (text : List ℕ) → IsText text → begins is_quote text ≡ true
text_begins text t = ap (begins is_quote) t.quoted

pub symbol_first : (symbol : Symbol) (text : List ℕ) → text ≡ symbol_text symbol → begins is_symbol_byte text ≡ true
symbol_first symbol text h = ap (begins is_symbol_byte) h ∙ symbol_begins symbol

pub symbol_no_run : (byte : ℕ) → is_symbol_byte byte ≡ true → is_run byte ≡ false
symbol_no_run byte h = by_test (is_run byte) (not (is_quote byte)) (not (nat_eq byte 10)) h
  where
    by_test : (a b c : Bool) → (not a && b && c) ≡ true → a ≡ false
    by_test true b c g = absurd cc
    by_test false b c g = refl

pub symbol_no_quote : (byte : ℕ) → is_symbol_byte byte ≡ true → is_quote byte ≡ false
symbol_no_quote byte h = by_test (not (is_run byte)) (is_quote byte) (not (nat_eq byte 10)) h
  where
    by_test : (a b c : Bool) → (a && not b && c) ≡ true → b ≡ false
    by_test true true c g = absurd cc
    by_test false true c g = absurd cc
    by_test a false c g = refl

-- Bytes begin as a run, as a text or as a symbol.
pub run_or_quote : (bytes : List ℕ) → begins is_run bytes ≡ true → begins is_quote bytes ≡ true → ⊥
run_or_quote bytes h k = apart (begins is_quote bytes) k (begins-apart is_run is_quote run_no_quote bytes h)

pub symbol_or_run : (bytes : List ℕ) → begins is_symbol_byte bytes ≡ true → begins is_run bytes ≡ true → ⊥
symbol_or_run bytes h k = apart (begins is_run bytes) k (begins-apart is_symbol_byte is_run symbol_no_run bytes h)

pub symbol_or_quote : (bytes : List ℕ) → begins is_symbol_byte bytes ≡ true → begins is_quote bytes ≡ true → ⊥
symbol_or_quote bytes h k = apart (begins is_quote bytes) k (begins-apart is_symbol_byte is_quote symbol_no_quote bytes h)

-- Bytes that begin with no letter, digit, `_` or quote and with no symbol have no piece.
pub no_symbol : (bytes : List ℕ) → begins is_run bytes ≡ false → begins is_quote bytes ≡ false → BeginsNoSymbol bytes → NoPiece bytes
no_symbol bytes r q none which text rest cut p = by_kind which p
  where
    clash : IsRunText text → ⊥
    clash t = let runs : begins is_run bytes ≡ true = ap (begins is_run) cut ∙ begins-append is_run text rest t.first in apart (begins is_run bytes) runs r

    by_kind : (k : TokenKind) → IsPiece k text rest → ⊥
    by_kind kind.Name h = clash (kind_runs kind.Name text h.spells)
    by_kind (kind.Number value) h = clash (kind_runs (kind.Number value) text h.spells)
    by_kind kind.Text h = let quote : begins is_quote bytes ≡ true = ap (begins is_quote) cut ∙ begins-append is_quote text rest (text_begins text h) in apart (begins is_quote bytes) quote q
    by_kind (kind.Keyword word) h = clash (kind_runs (kind.Keyword word) text h.spells)
    by_kind (kind.Symbol symbol) h = none symbol record { rest = rest; is = cut ∙ ap (λ t. t ++ rest) h.spells }

pub refused_symbol : (bytes : List ℕ) → begins is_run bytes ≡ false → begins is_quote bytes ≡ false → BeginsNoSymbol bytes → IsRefused rule.S1 bytes
refused_symbol bytes r q none = record { none = no_symbol bytes r q none; rule_is = rw (q, begins-none is_run is_digit no_run_digit bytes r) refl }

-- The piece at the front of a run, and why there is none.
pub front_run : (kind : TokenKind) (n : ℕ) (bytes : List ℕ) → begins is_run bytes ≡ true → n ≤ length bytes → begins is_run (drop n bytes) ≡ false → IsRunKind kind (take n bytes) → IsFrontPiece kind n bytes
front_run kind zero bytes b within whole h = absurd cc
front_run kind (suc n) bytes b within whole h = record { some = omega arith; within = within; piece = run_piece kind (take (suc n) bytes) (drop (suc n) bytes) h whole }

pub no_number : (text : List ℕ) (rule : Rule) (value : ℕ) → AnswersNumber (Err rule) (number_of text) → (number_of text ≡ Some value) × (value < 2 ^ 64) → ⊥
no_number text rule value h k = omega (arith, h.1 value k.0, k.1)

pub refused_run : (rule : Rule) (n : ℕ) (bytes : List ℕ) → list_all is_run (take n bytes) ≡ true → begins is_run (drop n bytes) ≡ false → RefusesRun rule (take n bytes) → IsRefused rule bytes
refused_run r n bytes run whole h = record { none = λ kind text rest cut p. by_kind text rest cut kind p; rule_is = h.refuses.0 ∙ sym at_digit }
  where
    digit : begins is_digit bytes ≡ true
    digit = begins-take is_digit n bytes h.digit

    runs : begins is_run bytes ≡ true
    runs = begins-since is_digit is_run digit_run bytes digit

    no_quote : begins is_quote bytes ≡ false
    no_quote = begins-apart is_run is_quote run_no_quote bytes runs

    whole_front : front is_run bytes ≡ take n bytes
    whole_front = ap (front is_run) (sym (take-append-drop n bytes)) ∙ front_is is_run (take n bytes) (drop n bytes) run whole

    at_digit : rule_at bytes ≡ (if is_some (number_of (take n bytes)) then rule.S4 else rule.S3)
    at_digit = rw (no_quote, digit, whole_front) refl

    same_text : (text rest : List ℕ) → bytes ≡ text ++ rest → IsRunText text → begins is_run rest ≡ false → take n bytes ≡ text
    same_text text rest cut t e = (same_front is_run (take n bytes) (drop n bytes) text rest (take-append-drop n bytes ∙ cut) run t.run whole e).front

    letter : (text : List ℕ) → take n bytes ≡ text → begins is_letter text ≡ true → ⊥
    letter text same l = let no : begins is_digit text ≡ false = begins-apart is_letter is_digit letter_no_digit text l in let also : begins is_digit text ≡ true = subst (λ (t : List ℕ). begins is_digit t ≡ true) same h.digit in apart (begins is_digit text) also no

    by_kind : (text rest : List ℕ) → bytes ≡ text ++ rest → (k : TokenKind) → IsPiece k text rest → ⊥
    by_kind text rest cut kind.Name p = letter text (same_text text rest cut (kind_runs kind.Name text p.spells) p.whole) p.spells.first
    by_kind text rest cut (kind.Number value) p =
        let same = same_text text rest cut (kind_runs (kind.Number value) text p.spells) p.whole in
        no_number (take n bytes) r value h.refuses (subst (λ (t : List ℕ). Spells (kind.Number value) t) (sym same) p.spells)
    by_kind text rest cut kind.Text p = let quote : begins is_quote bytes ≡ true = ap (begins is_quote) cut ∙ begins-append is_quote text rest (text_begins text p) in apart (begins is_quote bytes) quote no_quote
    by_kind text rest cut (kind.Keyword word) p =
        let same = same_text text rest cut (kind_runs (kind.Keyword word) text p.spells) p.whole in
        letter text same (subst (λ (t : List ℕ). begins is_letter t ≡ true) (sym p.spells) (both (begins is_letter (word_text word)) (list_all is_run (word_text word)) (word_runs word)).left)
    by_kind text rest cut (kind.Symbol symbol) p =
        symbol_or_run bytes (ap (begins is_symbol_byte) cut ∙ begins-append is_symbol_byte text rest (symbol_first symbol text p.spells)) runs

-- A quote that no quote closes has no piece.
pub refused_text : (n : ℕ) (bytes : List ℕ) → begins is_quote bytes ≡ true → list_all is_text_byte (take n (drop 1 bytes)) ≡ true → begins is_text_byte (drop n (drop 1 bytes)) ≡ false → begins is_quote (drop (n + 1) bytes) ≡ false → IsRefused rule.S2 bytes
refused_text n bytes quote plain whole open' = record { none = λ kind text rest cut p. by_kind text rest cut kind p; rule_is = rw quote refl }
  where
    clash : (text rest : List ℕ) → bytes ≡ text ++ rest → IsRunText text → ⊥
    clash text rest cut t =
        let runs : begins is_run bytes ≡ true = ap (begins is_run) cut ∙ begins-append is_run text rest t.first in
        let no : begins is_quote bytes ≡ false = begins-apart is_run is_quote run_no_quote bytes runs in apart (begins is_quote bytes) quote no

    closed : (text rest : List ℕ) → bytes ≡ text ++ rest → IsText text → ⊥
    closed text rest cut t =
        let inside : drop 1 bytes ≡ t.inner ++ (34 ∷ rest) = ap (drop 1) (cut ∙ ap (λ x. x ++ rest) t.quoted) ∙ append_assoc t.inner (34 ∷ []) rest in
        let same = same_front is_text_byte (take n (drop 1 bytes)) (drop n (drop 1 bytes)) t.inner (34 ∷ rest) (take-append-drop n (drop 1 bytes) ∙ inside) plain t.plain whole refl in
        let behind : begins is_quote (drop (n + 1) bytes) ≡ true = ap (begins is_quote) (ap (λ k. drop k bytes) (add_comm n 1) ∙ sym (drop-drop n 1 bytes) ∙ same.back) in apart (begins is_quote (drop (n + 1) bytes)) behind open'

    by_kind : (text rest : List ℕ) → bytes ≡ text ++ rest → (k : TokenKind) → IsPiece k text rest → ⊥
    by_kind text rest cut kind.Name p = clash text rest cut (kind_runs kind.Name text p.spells)
    by_kind text rest cut (kind.Number value) p = clash text rest cut (kind_runs (kind.Number value) text p.spells)
    by_kind text rest cut kind.Text p = closed text rest cut p
    by_kind text rest cut (kind.Keyword word) p = clash text rest cut (kind_runs (kind.Keyword word) text p.spells)
    by_kind text rest cut (kind.Symbol symbol) p = symbol_or_quote bytes (ap (begins is_symbol_byte) cut ∙ begins-append is_symbol_byte text rest (symbol_first symbol text p.spells)) quote

-- A quote that a quote closes is a text.
pub closed_text : (n : ℕ) (bytes : List ℕ) → begins is_quote bytes ≡ true → n ≤ length (drop 1 bytes) → list_all is_text_byte (take n (drop 1 bytes)) ≡ true → begins is_quote (drop (n + 1) bytes) ≡ true → IsFrontPiece kind.Text (n + 2) bytes
closed_text n [] quote within plain closed = absurd cc
closed_text n (first ∷ rest) quote within plain closed = by_end (drop n rest) refl (ap (begins is_quote) (drop-drop n 1 (first ∷ rest) ∙ ap (λ k. drop k (first ∷ rest)) (add_comm 1 n)) ∙ closed)
  where
    by_end : (behind : List ℕ) → drop n rest ≡ behind → begins is_quote (drop n rest) ≡ true → IsFrontPiece kind.Text (n + 2) (first ∷ rest)
    by_end [] e c = absurd (apart (begins is_quote (drop n rest)) c (ap (begins is_quote) e))
    by_end (quote' ∷ behind) e c =
        let last : quote' ≡ 34 = quote_is quote' (sym (ap (begins is_quote) e) ∙ c) in
        let start : first ≡ 34 = quote_is first quote in
        let inside : take (n + 1) rest ≡ take n rest ++ (34 ∷ []) = take-add n 1 rest ∙ ap (λ t. take n rest ++ take 1 t) e ∙ ap (λ b. take n rest ++ (b ∷ [])) last in
        let sizes : length (drop n rest) ≡ suc (length behind) = ap length e in
        let two_more : n + 2 ≡ suc (n + 1) = omega arith in
        record {
          some = omega arith;
          within = omega (arith, sizes, length-drop n rest);
          piece = record {
            inner = take n rest;
            plain = plain;
            quoted = ap (λ k. take k (first ∷ rest)) two_more ∙ ap (λ b. b ∷ take (n + 1) rest) start ∙ ap (λ t. 34 ∷ t) inside;
          };
        }
