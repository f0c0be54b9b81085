-- At most one piece stands at the front of bytes, and no longer front spells a token.
use Rattle.std.proofs.Common.{◌≡◌, ℕ, ◌+◌, ◌-◌, ◌≤◌, ◌<◌, Bool, true, false, not, ◌&&◌, List, [], ◌∷◌, ◌++◌, length, take, drop, refl, sym, ◌∙◌, ap, subst, nat_eq, suc, arith, Some, append_assoc, length-append}
use Rattle.std.specs.List.{list_all}
use Rattle.std.proofs.lemmas.List.{take-append-drop, length-take-le}
use Rattle.std.proofs.Math.Seq.{take-append_seam, drop-append_seam, take-append-add}
use Rattle.std.proofs.lemmas.Bool.Decides.{nat_tests}
use Rattle.wf_tokens.specs.declared.kinds.TokenKind.{TokenKind}
use Rattle.wf_tokens.specs.declared.kinds.TokenKind.TheVariants as kind
use Rattle.wf_tokens.specs.declared.symbols.Symbol.{Symbol}
use Rattle.wf_tokens.specs.declared.words.Word.{Word}
use Rattle.wf_tokens.specs.Gaps.{ends_line}
use Rattle.wf_tokens.specs.Runs.{is_letter, is_digit, is_run, is_quote, is_text_byte, begins}
use Rattle.wf_tokens.specs.Symbols.{symbol_text, BeginsWith}
use Rattle.wf_tokens.specs.Words.{word_text}
use Rattle.wf_tokens.specs.Pieces.{IsText, Spells, IsSymbolPiece, IsPiece, IsRunKind, PiecesAreLongest}
use Rattle.wf_tokens.proofs.ByteClasses.{letter_no_digit}
use Rattle.wf_tokens.proofs.NumberValues.{number_run}
use Rattle.wf_tokens.proofs.SymbolTable.{is_symbol_byte, symbol_back, found as symbol_found}
use Rattle.wf_tokens.proofs.WordTable.{word_runs, word_back, found as word_found}
use Rattle.wf_tokens.proofs.Tables.{both}
use Rattle.wf_tokens.proofs.PieceLemmas.{begins-append, begins-take, begins-apart, same_front, apart, kind_runs, text_begins, symbol_first, run_or_quote, symbol_or_run, symbol_or_quote}

-- A piece is a run, a text or a symbol.
pub data Class (which : TokenKind) (text rest : List ℕ) : Type 0 where
  run : IsRunKind which text → begins is_run rest ≡ false → Class which text rest
  quoted : which ≡ kind.Text → IsText text → Class which text rest
  symbol : (s : Symbol) → which ≡ kind.Symbol s → IsSymbolPiece s text rest → Class which text rest

pub class : (which : TokenKind) (text rest : List ℕ) → IsPiece which text rest → Class which text rest
class kind.Name text rest p = run p.spells p.whole
class (kind.Number value) text rest p = run p.spells p.whole
class kind.Text text rest p = quoted refl p
class (kind.Keyword word) text rest p = run p.spells p.whole
class (kind.Symbol s) text rest p = symbol s refl p

-- Words that are written alike are one, and so are symbols.
pub same_word : (word other : Word) → word_text word ≡ word_text other → word ≡ other
same_word word other h = let e : Some word ≡ Some other = sym (word_back word) ∙ ap word_found h ∙ word_back other in cc

pub same_symbol : (s other : Symbol) → symbol_text s ≡ symbol_text other → s ≡ other
same_symbol s other h = let e : Some s ≡ Some other = sym (symbol_back s) ∙ ap symbol_found h ∙ symbol_back other in cc

pub letter_or_digit : (text : List ℕ) → begins is_letter text ≡ true → begins is_digit text ≡ true → ⊥
letter_or_digit text l d = apart (begins is_digit text) d (begins-apart is_letter is_digit letter_no_digit text l)

pub word_letter : (word : Word) (text : List ℕ) → text ≡ word_text word → begins is_letter text ≡ true
word_letter word text h = ap (begins is_letter) h ∙ (both (begins is_letter (word_text word)) (list_all is_run (word_text word)) (word_runs word)).left

-- A run spells one token.
pub same_run_kind : (which other : TokenKind) (text : List ℕ) → IsRunKind which text → IsRunKind other text → which ≡ other
same_run_kind kind.Name kind.Name text h k = refl
same_run_kind kind.Name (kind.Number value) text h k = absurd (letter_or_digit text h.first (number_run value text k.0).first)
same_run_kind kind.Name kind.Text text h k = absurd k
same_run_kind kind.Name (kind.Keyword word) text h k = absurd (h.free word k)
same_run_kind kind.Name (kind.Symbol s) text h k = absurd k
same_run_kind (kind.Number value) kind.Name text h k = absurd (letter_or_digit text k.first (number_run value text h.0).first)
same_run_kind (kind.Number value) (kind.Number other) text h k = let e : Some value ≡ Some other = sym h.0 ∙ k.0 in let same : value ≡ other = cc in ap (λ n. kind.Number n) same
same_run_kind (kind.Number value) kind.Text text h k = absurd k
same_run_kind (kind.Number value) (kind.Keyword word) text h k = absurd (letter_or_digit text (word_letter word text k) (number_run value text h.0).first)
same_run_kind (kind.Number value) (kind.Symbol s) text h k = absurd k
same_run_kind kind.Text other text h k = absurd h
same_run_kind (kind.Keyword word) kind.Name text h k = absurd (k.free word h)
same_run_kind (kind.Keyword word) (kind.Number value) text h k = absurd (letter_or_digit text (word_letter word text h) (number_run value text k.0).first)
same_run_kind (kind.Keyword word) kind.Text text h k = absurd k
same_run_kind (kind.Keyword word) (kind.Keyword other) text h k = ap (λ w. kind.Keyword w) (same_word word other (sym h ∙ k))
same_run_kind (kind.Keyword word) (kind.Symbol s) text h k = absurd k
same_run_kind (kind.Symbol s) other text h k = absurd h

-- Two pieces at the front of the same bytes are one.
pub record SamePiece (which : TokenKind) (text rest : List ℕ) (other : TokenKind) (words behind : List ℕ) : Type 0 where
  pub same_kind : which ≡ other
  pub front : text ≡ words
  pub back : rest ≡ behind

pub same_runs : (which other : TokenKind) (text rest words behind : List ℕ) → text ++ rest ≡ words ++ behind → IsRunKind which text → begins is_run rest ≡ false → IsRunKind other words → begins is_run behind ≡ false → SamePiece which text rest other words behind
same_runs which other text rest words behind cut h r k b =
    let s = same_front is_run text rest words behind cut (kind_runs which text h).run (kind_runs other words k).run r b in
    let K : List ℕ → Type 0 = λ t. IsRunKind which t in
    record { same_kind = same_run_kind which other words (subst K s.front h) k; front = s.front; back = s.back }

pub record SameText (text rest words behind : List ℕ) : Type 0 where
  pub front : text ≡ words
  pub back : rest ≡ behind

-- What is after a text's opening quote.
pub inside : (text rest : List ℕ) (t : IsText text) → drop 1 (text ++ rest) ≡ t.inner ++ (34 ∷ rest)
inside text rest t = ap (λ x. drop 1 (x ++ rest)) t.quoted ∙ append_assoc t.inner (34 ∷ []) rest

pub same_texts : (text rest words behind : List ℕ) → text ++ rest ≡ words ++ behind → IsText text → IsText words → SameText text rest words behind
same_texts text rest words behind cut t u =
    let s = same_front is_text_byte t.inner (34 ∷ rest) u.inner (34 ∷ behind) (sym (inside text rest t) ∙ ap (drop 1) cut ∙ inside words behind u) t.plain u.plain refl refl in
    record { front = t.quoted ∙ ap (λ inner. 34 ∷ (inner ++ 34 ∷ [])) s.front ∙ sym u.quoted; back = ap (drop 1) s.back }

pub symbol_begins_with : (s : Symbol) (text rest bytes : List ℕ) → bytes ≡ text ++ rest → text ≡ symbol_text s → BeginsWith s bytes
symbol_begins_with s text rest bytes cut h = record { rest = rest; is = cut ∙ ap (λ t. t ++ rest) h }

pub same_symbols : (s other : Symbol) (text rest words behind : List ℕ) → text ++ rest ≡ words ++ behind → IsSymbolPiece s text rest → IsSymbolPiece other words behind → SamePiece (kind.Symbol s) text rest (kind.Symbol other) words behind
same_symbols s other text rest words behind cut p q =
    let below = q.longest.longest s (symbol_begins_with s text rest (words ++ behind) (sym cut) p.spells) in
    let above = p.longest.longest other (symbol_begins_with other words behind (text ++ rest) cut q.spells) in
    let sizes : length text ≡ length words = omega (arith, below, above, ap length p.spells, ap length q.spells) in
    let front : text ≡ words = sym (take-append_seam text rest) ∙ ap (take (length text)) cut ∙ ap (λ n. take n (words ++ behind)) sizes ∙ take-append_seam words behind in
    let back : rest ≡ behind = sym (drop-append_seam text rest) ∙ ap (drop (length text)) cut ∙ ap (λ n. drop n (words ++ behind)) sizes ∙ drop-append_seam words behind in
    record { same_kind = ap (λ x. kind.Symbol x) (same_symbol s other (sym p.spells ∙ front ∙ q.spells)); front = front; back = back }

-- A piece's first byte is that of the bytes before which it stands.
pub run_first : (which : TokenKind) (text rest : List ℕ) → IsRunKind which text → begins is_run (text ++ rest) ≡ true
run_first which text rest h = begins-append is_run text rest (kind_runs which text h).first

pub quote_first : (text rest : List ℕ) → IsText text → begins is_quote (text ++ rest) ≡ true
quote_first text rest t = begins-append is_quote text rest (text_begins text t)

pub sign_first : (s : Symbol) (text rest : List ℕ) → text ≡ symbol_text s → begins is_symbol_byte (text ++ rest) ≡ true
sign_first s text rest h = begins-append is_symbol_byte text rest (symbol_first s text h)

pub same_piece : (which other : TokenKind) (text rest words behind : List ℕ) → text ++ rest ≡ words ++ behind → IsPiece which text rest → IsPiece other words behind → SamePiece which text rest other words behind
same_piece which other text rest words behind cut p q = by_class (class which text rest p) (class other words behind q)
  where
    along : (test : ℕ → Bool) → begins test (text ++ rest) ≡ true → begins test (words ++ behind) ≡ true
    along test h = sym (ap (begins test) cut) ∙ h

    by_class : Class which text rest → Class other words behind → SamePiece which text rest other words behind
    by_class (run h r) (run k b) = same_runs which other text rest words behind cut h r k b
    by_class (run h r) (quoted e k) = absurd (run_or_quote (words ++ behind) (along is_run (run_first which text rest h)) (quote_first words behind k))
    by_class (run h r) (symbol s e k) = absurd (symbol_or_run (words ++ behind) (sign_first s words behind k.spells) (along is_run (run_first which text rest h)))
    by_class (quoted e h) (run k b) = absurd (run_or_quote (words ++ behind) (run_first other words behind k) (along is_quote (quote_first text rest h)))
    by_class (quoted e h) (quoted f k) = let t = same_texts text rest words behind cut h k in record { same_kind = e ∙ sym f; front = t.front; back = t.back }
    by_class (quoted e h) (symbol s f k) = absurd (symbol_or_quote (words ++ behind) (sign_first s words behind k.spells) (along is_quote (quote_first text rest h)))
    by_class (symbol s e h) (run k b) = absurd (symbol_or_run (words ++ behind) (along is_symbol_byte (sign_first s text rest h.spells)) (run_first other words behind k))
    by_class (symbol s e h) (quoted f k) = absurd (symbol_or_quote (words ++ behind) (along is_symbol_byte (sign_first s text rest h.spells)) (quote_first words behind k))
    by_class (symbol s e h) (symbol t f k) = let p = same_symbols s t text rest words behind cut h k in record { same_kind = e ∙ p.same_kind ∙ sym f; front = p.front; back = p.back }

-- A piece doesn't stand at a line's end.
pub run_no_line : (byte : ℕ) → is_run byte ≡ true → nat_eq byte 10 ≡ false
run_no_line byte h = grind (arith, nat_tests)

pub quote_no_line : (byte : ℕ) → is_quote byte ≡ true → nat_eq byte 10 ≡ false
quote_no_line byte h = grind (arith, nat_tests)

pub sign_no_line : (byte : ℕ) → is_symbol_byte byte ≡ true → nat_eq byte 10 ≡ false
sign_no_line byte h = by_test (not (is_run byte) && not (is_quote byte)) (nat_eq byte 10) h
  where
    by_test : (a b : Bool) → (a && not b) ≡ true → b ≡ false
    by_test true true g = absurd cc
    by_test false true g = absurd cc
    by_test a false g = refl

pub begins-no_line : (test : ℕ → Bool) → ((byte : ℕ) → test byte ≡ true → nat_eq byte 10 ≡ false) → (bytes : List ℕ) → begins test bytes ≡ true → ends_line bytes ≡ false
begins-no_line test none [] h = absurd cc
begins-no_line test none (byte ∷ rest) h = none byte h

pub piece_no_line : (which : TokenKind) (text rest : List ℕ) → IsPiece which text rest → ends_line (text ++ rest) ≡ false
piece_no_line which text rest p = by_class (class which text rest p)
  where
    by_class : Class which text rest → ends_line (text ++ rest) ≡ false
    by_class (run h r) = begins-no_line is_run run_no_line (text ++ rest) (run_first which text rest h)
    by_class (quoted e h) = begins-no_line is_quote quote_no_line (text ++ rest) (quote_first text rest h)
    by_class (symbol s e h) = begins-no_line is_symbol_byte sign_no_line (text ++ rest) (sign_first s text rest h.spells)

-- A longer front of the bytes after a piece.
pub record Longer (text rest : List ℕ) (n : ℕ) : Type 0 where
  pub first : ℕ
  pub later : List ℕ
  pub more : List ℕ
  pub rest_is : rest ≡ first ∷ later
  pub is : take n (text ++ rest) ≡ text ++ (first ∷ more)

pub longer : (text rest : List ℕ) (n : ℕ) → length text < n → n ≤ length (text ++ rest) → Longer text rest n
longer text [] n above within = absurd (omega (arith, length-append text [], above, within))
longer text (first ∷ later) n above within =
    let m = n - length text - 1 in
    let size : n ≡ length text + suc m = omega arith in
    record { first = first; later = later; more = take m later; rest_is = refl; is = ap (λ k. take k (text ++ (first ∷ later))) size ∙ take-append-add text (first ∷ later) (suc m) }

pub all-append : (test : ℕ → Bool) (xs ys : List ℕ) → list_all test (xs ++ ys) ≡ true → list_all test ys ≡ true
all-append test [] ys h = h
all-append test (x ∷ xs) ys h = all-append test xs ys (both (test x) (list_all test (xs ++ ys)) h).right

-- No run is longer than a whole one, no text goes on after its closing quote.
pub no_longer_run : (which other : TokenKind) (text rest : List ℕ) (n : ℕ) → Longer text rest n → begins is_run rest ≡ false → IsRunKind other (take n (text ++ rest)) → ⊥
no_longer_run which other text rest n l whole h =
    let runs : list_all is_run (l.first ∷ l.more) ≡ true = all-append is_run text (l.first ∷ l.more) (sym (ap (list_all is_run) l.is) ∙ (kind_runs other (take n (text ++ rest)) h).run) in
    let first : is_run l.first ≡ true = (both (is_run l.first) (list_all is_run l.more) runs).left in
    apart (begins is_run rest) (ap (begins is_run) l.rest_is ∙ first) whole

pub no_longer_text : (text rest : List ℕ) (n : ℕ) → Longer text rest n → IsText text → IsText (take n (text ++ rest)) → ⊥
no_longer_text text rest n l t u =
    let cut : u.inner ++ (34 ∷ []) ≡ t.inner ++ (34 ∷ (l.first ∷ l.more)) = sym (ap (drop 1) u.quoted) ∙ ap (drop 1) l.is ∙ inside text (l.first ∷ l.more) t in
    let s = same_front is_text_byte u.inner (34 ∷ []) t.inner (34 ∷ (l.first ∷ l.more)) cut u.plain t.plain refl refl in
    let sizes : 1 ≡ suc (suc (length l.more)) = ap length s.back in
    omega (arith, sizes)

pub no_longer_symbol : (s other : Symbol) (text rest : List ℕ) (n : ℕ) → length text < n → n ≤ length (text ++ rest) → IsSymbolPiece s text rest → take n (text ++ rest) ≡ symbol_text other → ⊥
no_longer_symbol s other text rest n above within p h =
    let below = p.longest.longest other (symbol_begins_with other (take n (text ++ rest)) (drop n (text ++ rest)) (text ++ rest) (sym (take-append-drop n (text ++ rest))) h) in
    omega (arith, below, ap length p.spells, ap length h, length-take-le n (text ++ rest) within, above)

-- A spelling is that of a run, a text or a symbol.
pub data Spelling (which : TokenKind) (text : List ℕ) : Type 0 where
  run : IsRunKind which text → Spelling which text
  quoted : IsText text → Spelling which text
  symbol : (s : Symbol) → text ≡ symbol_text s → Spelling which text

pub spelling_class : (which : TokenKind) (text : List ℕ) → Spells which text → Spelling which text
spelling_class kind.Name text h = run h
spelling_class (kind.Number value) text h = run h
spelling_class kind.Text text h = quoted h
spelling_class (kind.Keyword word) text h = run h
spelling_class (kind.Symbol s) text h = symbol s h

pub pieces_longest : PiecesAreLongest
pieces_longest which other text rest n p above within spells = by_class (class which text rest p) (spelling_class other (take n (text ++ rest)) spells)
  where
    more : Longer text rest n
    more = longer text rest n above within

    by_class : Class which text rest → Spelling other (take n (text ++ rest)) → ⊥
    by_class (run h r) (run k) = no_longer_run which other text rest n more r k
    by_class (run h r) (quoted k) = run_or_quote (text ++ rest) (run_first which text rest h) (begins-take is_quote n (text ++ rest) (text_begins (take n (text ++ rest)) k))
    by_class (run h r) (symbol s k) = symbol_or_run (text ++ rest) (begins-take is_symbol_byte n (text ++ rest) (symbol_first s (take n (text ++ rest)) k)) (run_first which text rest h)
    by_class (quoted e h) (run k) = run_or_quote (text ++ rest) (begins-take is_run n (text ++ rest) (kind_runs other (take n (text ++ rest)) k).first) (quote_first text rest h)
    by_class (quoted e h) (quoted k) = no_longer_text text rest n more h k
    by_class (quoted e h) (symbol s k) = symbol_or_quote (text ++ rest) (begins-take is_symbol_byte n (text ++ rest) (symbol_first s (take n (text ++ rest)) k)) (quote_first text rest h)
    by_class (symbol s e h) (run k) = symbol_or_run (text ++ rest) (sign_first s text rest h.spells) (begins-take is_run n (text ++ rest) (kind_runs other (take n (text ++ rest)) k).first)
    by_class (symbol s e h) (quoted k) = symbol_or_quote (text ++ rest) (sign_first s text rest h.spells) (begins-take is_quote n (text ++ rest) (text_begins (take n (text ++ rest)) k))
    by_class (symbol s e h) (symbol t k) = no_longer_symbol s t text rest n above within h k
