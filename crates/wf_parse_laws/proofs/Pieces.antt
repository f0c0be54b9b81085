-- Bytes have a token's piece at the front, or a rule that refuses them.
use Rattle.std.proofs.Common.{◌≡◌, ◌⊎◌, inl, inr, ℕ, ◌+◌, ◌≤◌, ◌<◌, ◌^◌, Bool, true, false, ◌||◌, List, [], ◌∷◌, ◌++◌, length, take, drop, refl, sym, ◌∙◌, ap, subst, suc, zero, nat_lt, arith, Option, Some, None, length-append}
use Rattle.std.specs.List.{list_all}
use Rattle.std.proofs.lemmas.Bool.Decides.{nat_tests}
use Rattle.std.proofs.Math.Seq.{take-append_seam, drop-append_seam}
use Rattle.wf_text.specs.declared.rules.Rule.{Rule}
use Rattle.wf_text.specs.declared.rules.Rule.TheVariants as rule
use Rattle.wf_tokens.specs.declared.kinds.TokenKind.{TokenKind}
use Rattle.wf_tokens.specs.declared.kinds.TokenKind.TheVariants as kind
use Rattle.wf_tokens.specs.declared.symbols.Symbol.{Symbol}
use Rattle.wf_tokens.specs.declared.words.Word.{Word}
use Rattle.wf_tokens.specs.Runs.{is_letter, is_digit, is_run, is_quote, is_text_byte, begins}
use Rattle.wf_tokens.specs.Numbers.{number_of}
use Rattle.wf_tokens.specs.Symbols.{symbol_text, IsLongestSymbol}
use Rattle.wf_tokens.specs.Pieces.{IsFrontPiece, IsRefused, IsRunKind, RefusesRun}
use Rattle.wf_tokens.proofs.PieceLemmas.{front_run, refused_run, closed_text, refused_text, refused_symbol, symbol_first}
use Rattle.wf_tokens.proofs.SymbolTable as symbols
use Rattle.wf_tokens.proofs.SymbolTable.{longest_found, none_found, is_symbol_byte}
use Rattle.wf_tokens.proofs.WordTable as words
use Rattle.wf_tokens.proofs.WordTable.{if_none, if_found}

-- A piece at the front.
pub record HasPiece (bytes : List ℕ) : Type 0 where
  pub kind : TokenKind
  pub len : ℕ
  pub is : IsFrontPiece kind len bytes

pub record HasNoPiece (bytes : List ℕ) : Type 0 where
  pub rule : Rule
  pub is : IsRefused rule bytes

-- The longest front of a class, by its length.
pub record Run (test : ℕ → Bool) (bytes : List ℕ) : Type 0 where
  pub len : ℕ
  pub within : len ≤ length bytes
  pub run : list_all test (take len bytes) ≡ true
  pub whole : begins test (drop len bytes) ≡ false

run-front : (test : ℕ → Bool) (bytes : List ℕ) → Run test bytes
run-front test [] = record { len = 0; within = omega arith; run = refl; whole = refl }
run-front test (byte ∷ bytes) = by_test (run-front test bytes) (test byte) refl
  where
    by_test : Run test bytes → (b : Bool) → test byte ≡ b → Run test (byte ∷ bytes)
    by_test r true e = record { len = suc r.len; within = omega (arith, r.within); run = rw e r.run; whole = r.whole }
    by_test r false e = record { len = 0; within = omega arith; run = refl; whole = e }

-- A run begins with what the bytes begin with.
begins-front : (test : ℕ → Bool) (n : ℕ) (bytes : List ℕ) → begins test bytes ≡ true → 0 < n → begins test (take n bytes) ≡ true
begins-front test n [] h k = absurd (cc h)
begins-front test zero (byte ∷ bytes) h k = absurd (omega arith)
begins-front test (suc n) (byte ∷ bytes) h k = h

run-some : (bytes : List ℕ) (r : Run is_run bytes) → begins is_run bytes ≡ true → 0 < r.len
run-some bytes r h = by_len r.len r.whole
  where
    by_len : (n : ℕ) → begins is_run (drop n bytes) ≡ false → 0 < n
    by_len zero w = absurd (cc (h, w))
    by_len (suc n) w = omega arith

-- The kind of a run.
number-or-not : (text : List ℕ) → begins is_digit text ≡ true → (number : Option ℕ) → number_of text ≡ number
    → ((kind : TokenKind) × IsRunKind kind text) ⊎ ((rule : Rule) × RefusesRun rule text)
number-or-not text digit None e = inr (rule.S3, record { digit = digit; refuses = (rw e refl, λ value h. absurd (cc (e, h))) })
number-or-not text digit (Some value) e = by_size (nat_lt value (2 ^ 64)) refl
  where
    by_size : (b : Bool) → nat_lt value (2 ^ 64) ≡ b → ((kind : TokenKind) × IsRunKind kind text) ⊎ ((rule : Rule) × RefusesRun rule text)
    by_size true h = inl (kind.Number value, (e, grind (arith, nat_tests, h)))
    by_size false h =
        let large : 2 ^ 64 ≤ value = grind (arith, nat_tests, h) in
        inr (rule.S4, record { digit = digit; refuses = (rw e refl, λ other g. (let same : value ≡ other = cc (e, g) in let P : ℕ → Type 0 = λ n. 2 ^ 64 ≤ n in subst P same large)) })

letter-of : (bytes : List ℕ) → begins is_run bytes ≡ true → begins is_digit bytes ≡ false → begins is_letter bytes ≡ true
letter-of [] h d = absurd (cc h)
letter-of (byte ∷ bytes) h d = by_test (is_letter byte) (is_digit byte) h d
  where
    by_test : (a b : Bool) → (a || b) ≡ true → b ≡ false → a ≡ true
    by_test true b g k = refl
    by_test false b g k = absurd (cc (g, k))

word-or-name : (text : List ℕ) → begins is_letter text ≡ true → list_all is_run text ≡ true → (found : Option Word) → found ≡ words.found text → (kind : TokenKind) × IsRunKind kind text
word-or-name text first run None e = (kind.Name, record { first = first; run = run; free = if_none text None e })
word-or-name text first run (Some word) e = (kind.Keyword word, if_found text (Some word) e)

run-kind : (text : List ℕ) → begins is_run text ≡ true → list_all is_run text ≡ true → ((kind : TokenKind) × IsRunKind kind text) ⊎ ((rule : Rule) × RefusesRun rule text)
run-kind text first run = by_digit (begins is_digit text) refl
  where
    by_digit : (b : Bool) → begins is_digit text ≡ b → ((kind : TokenKind) × IsRunKind kind text) ⊎ ((rule : Rule) × RefusesRun rule text)
    by_digit true e = number-or-not text e (number_of text) refl
    by_digit false e = inl (word-or-name text (letter-of text first e) run (words.found text) refl)

-- Bytes that begin as a run, as a text, and as neither.
run-decided : (bytes : List ℕ) → begins is_run bytes ≡ true → HasPiece bytes ⊎ HasNoPiece bytes
run-decided bytes h =
    let r = run-front is_run bytes in
    elim (run-kind (take r.len bytes) (begins-front is_run r.len bytes h (run-some bytes r h)) r.run) [
      | inl k ↦ inl (record { kind = k.0; len = r.len; is = front_run k.0 r.len bytes h r.within r.whole k.1 })
      | inr k ↦ inr (record { rule = k.0; is = refused_run k.0 r.len bytes r.run r.whole k.1 })
    ]

text-decided : (bytes : List ℕ) → begins is_quote bytes ≡ true → HasPiece bytes ⊎ HasNoPiece bytes
text-decided bytes h =
    let r = run-front is_text_byte (drop 1 bytes) in
    by_end r (begins is_quote (drop (r.len + 1) bytes)) refl
  where
    by_end : (r : Run is_text_byte (drop 1 bytes)) (b : Bool) → begins is_quote (drop (r.len + 1) bytes) ≡ b → HasPiece bytes ⊎ HasNoPiece bytes
    by_end r true e = inl (record { kind = kind.Text; len = r.len + 2; is = closed_text r.len bytes h r.within r.run e })
    by_end r false e = inr (record { rule = rule.S2; is = refused_text r.len bytes h r.run r.whole e })

symbol-some : (symbol : Symbol) → 0 < length (symbol_text symbol)
symbol-some symbol = by_text (symbol_text symbol) (symbol_first symbol (symbol_text symbol) refl)
  where
    by_text : (text : List ℕ) → begins is_symbol_byte text ≡ true → 0 < length text
    by_text [] h = absurd (cc h)
    by_text (byte ∷ text) h = omega arith

front-symbol : (bytes : List ℕ) (symbol : Symbol) → IsLongestSymbol symbol bytes → HasPiece bytes
front-symbol bytes symbol l =
    let text = symbol_text symbol in
    let rest = l.begins.rest in
    let is : bytes ≡ text ++ rest = l.begins.is in
    let some = symbol-some symbol in
    let front : take (length text) bytes ≡ text = ap (take (length text)) is ∙ take-append_seam text rest in
    let back : drop (length text) bytes ≡ rest = ap (drop (length text)) is ∙ drop-append_seam text rest in
    let whole : take (length text) bytes ++ drop (length text) bytes ≡ bytes = ap (λ t. t ++ drop (length text) bytes) front ∙ ap (λ t. text ++ t) back ∙ sym is in
    let count : length bytes ≡ length (text ++ rest) = ap length is in
    let L : List ℕ → Type 0 = IsLongestSymbol symbol in
    record {
      kind = kind.Symbol symbol;
      len = length text;
      is = record { some = some; within = omega (arith, count, length-append text rest); piece = record { spells = front; longest = subst L (sym whole) l } };
    }

symbol-decided : (bytes : List ℕ) → begins is_run bytes ≡ false → begins is_quote bytes ≡ false → HasPiece bytes ⊎ HasNoPiece bytes
symbol-decided bytes r q = by_found (symbols.found bytes) refl
  where
    by_found : (o : Option Symbol) → symbols.found bytes ≡ o → HasPiece bytes ⊎ HasNoPiece bytes
    by_found None e = inr (record { rule = rule.S1; is = refused_symbol bytes r q (none_found bytes e) })
    by_found (Some symbol) e = inl (front-symbol bytes symbol (longest_found bytes symbol e))

-- All bytes.
pub piece-or-none : (bytes : List ℕ) → HasPiece bytes ⊎ HasNoPiece bytes
piece-or-none bytes = by_tests (begins is_quote bytes) (begins is_run bytes) refl refl
  where
    by_tests : (a b : Bool) → begins is_quote bytes ≡ a → begins is_run bytes ≡ b → HasPiece bytes ⊎ HasNoPiece bytes
    by_tests true b q r = text-decided bytes q
    by_tests false true q r = run-decided bytes r
    by_tests false false q r = symbol-decided bytes r q
