-- Bytes spell one list of tokens at most.
use Rattle.std.proofs.Common.{◌≡◌, ◌∙◌, ap, sym, subst, ℕ, ◌+◌, ◌%◌, ◌^◌, ◌<◌, Bool, true, false, ◌&&◌, ◌||◌, not, nat_eq, nat_le, Some, List, [], ◌∷◌, ◌++◌, IsTrue, refl, arith, codes, decimal, if◌then◌else◌, append_assoc}
use Rattle.std.specs.List.{list_all}
use Rattle.std.proofs.lemmas.Bool.{le-leb}
use Rattle.std.proofs.lemmas.Fmt.{decimal_by_steps, decimal_injective}
use Rattle.std.proofs.lemmas.List.{append_cancel_left}
use Rattle.std.proofs.lemmas.List.Folds.{list_all-append}
use Rattle.c_text.specs.declared.kinds.CNumber.{CNumber}
use Rattle.c_text.specs.declared.kinds.CNumber.TheVariants.{Int, Unsigned, Long}
use Rattle.c_text.specs.declared.kinds.COp.{COp}
use Rattle.c_text.specs.declared.kinds.COp.TheVariants as op
use Rattle.c_text.specs.declared.tokens.CWord.{CWord}
use Rattle.c_text.specs.declared.tokens.CWord.TheVariants as word
use Rattle.c_text.specs.declared.tokens.CMark.{CMark}
use Rattle.c_text.specs.declared.tokens.CMark.TheVariants as mark
use Rattle.c_text.specs.CSpelling as spelling
use Rattle.c_text.specs.CSpelling.{CToken, keyword, named, literal, quoted, operator, marked, token_bytes, word_bytes, op_bytes, mark_bytes, literal_bytes, IsLiteral, is_between, begins_name, is_word_byte, is_word, is_name, is_reserved, is_gap_byte, is_string_byte, is_string, has_double_question, IsGap, IsWhole, ReadsToken, Spells}
use Rattle.c_text.specs.CGrammar.{IsName}
use Rattle.c_read_grammar.specs.FirstToken.{is_digit, begins, word_of, symbol_token}
use Rattle.c_read_grammar.specs.Texts.{IsToken, AreTokens}
use Rattle.c_read_grammar.proofs.FirstBytes.{BeginsAs, begins-append, begins-token, token_sort, and-left, and-right, or-left, or-right, fits-31, fits-32, sort-same, token-no-gap, SameCut, same-front}

-- Words, names and literals consist of bytes of words.
pub words-all : (w : CWord) → list_all is_word_byte (word_bytes w) ≡ true
words-all word.Typedef = refl
words-all word.Struct = refl
words-all word.Static = refl
words-all word.Inline = refl
words-all word.Const = refl
words-all word.Char = refl
words-all word.Void = refl
words-all word.Uint8 = refl
words-all word.Uint16 = refl
words-all word.Uint32 = refl
words-all word.Uint64 = refl
words-all word.SizeT = refl
words-all word.Bool = refl
words-all word.Goto = refl
words-all word.If = refl
words-all word.Else = refl
words-all word.While = refl
words-all word.Switch = refl
words-all word.Return = refl
words-all word.Case = refl
words-all word.Default = refl
words-all word.Sizeof = refl

and-true : (a b : Bool) → a ≡ true → b ≡ true → (a && b) ≡ true
and-true true b h k = k
and-true false b h k = absurd (cc h)

or-true : (a b : Bool) → a ≡ true → (a || b) ≡ true
or-true true b h = refl
or-true false b h = absurd (cc h)

or-true-right : (a b : Bool) → b ≡ true → (a || b) ≡ true
or-true-right true b h = refl
or-true-right false b h = h

pub word-all : (n : List ℕ) → is_word n ≡ true → list_all is_word_byte n ≡ true
word-all [] h = refl
word-all (b ∷ bs) h = and-true (is_word_byte b) (list_all is_word_byte bs)
    (or-true (begins_name b) (is_between 48 57 b) (and-left (begins_name b) (list_all is_word_byte bs) h))
    (and-right (begins_name b) (list_all is_word_byte bs) h)

pub name-word : (n : List ℕ) → IsName n → is_word n ≡ true
name-word n h = and-left (is_word n) (not (is_reserved n)) h

digit-is : (n : ℕ) → n < 10 → is_digit (48 + n) ≡ true
digit-is n h = and-true (nat_le 48 (48 + n)) (nat_le (48 + n) 57) (le-leb 48 (48 + n) (omega arith)) (le-leb (48 + n) 57 (omega (arith, h)))

last-below : (n : ℕ) → n % 10 < 10
last-below n = grind (arith)

all-then : (test : ℕ → Bool) (a b : List ℕ) → list_all test a ≡ true → list_all test b ≡ true → list_all test (a ++ b) ≡ true
all-then test a b h k = list_all-append test a b ∙ and-true (list_all test a) (list_all test b) h k

pub digits-all : (n : ℕ) → n < 2 ^ 64 → list_all is_digit (decimal n) ≡ true
digits-all n fits = decimal_by_steps (λ (m : ℕ) (ds : List ℕ). list_all is_digit ds ≡ true)
    (λ m h. and-true (is_digit (48 + m)) true (digit-is m h) refl)
    (λ m ds h k. all-then is_digit ds ((48 + m % 10) ∷ []) k (and-true (is_digit (48 + m % 10)) true (digit-is (m % 10) (last-below m)) refl))
    n fits

digits-word : (ds : List ℕ) → list_all is_digit ds ≡ true → list_all is_word_byte ds ≡ true
digits-word [] h = refl
digits-word (d ∷ ds) h = and-true (is_word_byte d) (list_all is_word_byte ds)
    (or-true-right (begins_name d) (is_digit d) (and-left (is_digit d) (list_all is_digit ds) h))
    (digits-word ds (and-right (is_digit d) (list_all is_digit ds) h))

-- a literal's digits and its suffix
abbrev pub value : CNumber → ℕ
value (Int n) = n
value (Unsigned n) = n
value (Long n) = n

abbrev pub suffix : CNumber → List ℕ
suffix (Int n) = []
suffix (Unsigned n) = codes "u"
suffix (Long n) = codes "ull"

append-none : (xs : List ℕ) → xs ≡ xs ++ []
append-none [] = refl
append-none (x ∷ xs) = ap (λ ys. x ∷ ys) (append-none xs)

pub literal-cut : (n : CNumber) → literal_bytes n ≡ decimal (value n) ++ suffix n
literal-cut (Int n) = append-none (decimal n)
literal-cut (Unsigned n) = refl
literal-cut (Long n) = refl

pub value-fits : (n : CNumber) → IsLiteral n → value n < 2 ^ 64
value-fits (Int n) h = fits-31 n h
value-fits (Unsigned n) h = fits-32 n h
value-fits (Long n) h = h

suffix-word : (n : CNumber) → list_all is_word_byte (suffix n) ≡ true
suffix-word (Int n) = refl
suffix-word (Unsigned n) = refl
suffix-word (Long n) = refl

pub suffix-no_digit : (n : CNumber) → begins is_digit (suffix n) ≡ false
suffix-no_digit (Int n) = refl
suffix-no_digit (Unsigned n) = refl
suffix-no_digit (Long n) = refl

pub literal-all : (n : CNumber) → IsLiteral n → list_all is_word_byte (literal_bytes n) ≡ true
literal-all n h = ap (list_all is_word_byte) (literal-cut n) ∙ all-then is_word_byte (decimal (value n)) (suffix n) (digits-word (decimal (value n)) (digits-all (value n) (value-fits n h))) (suffix-word n)

same-literal : (a b : CNumber) → value a ≡ value b → suffix a ≡ suffix b → a ≡ b
same-literal (Int n) (Int m) h k = cc h
same-literal (Int n) (Unsigned m) h k = absurd (cc k)
same-literal (Int n) (Long m) h k = absurd (cc k)
same-literal (Unsigned n) (Int m) h k = absurd (cc k)
same-literal (Unsigned n) (Unsigned m) h k = cc h
same-literal (Unsigned n) (Long m) h k = absurd (cc k)
same-literal (Long n) (Int m) h k = absurd (cc k)
same-literal (Long n) (Unsigned m) h k = absurd (cc k)
same-literal (Long n) (Long m) h k = cc h

literal-injective : (a b : CNumber) → IsLiteral a → IsLiteral b → literal_bytes a ≡ literal_bytes b → a ≡ b
literal-injective a b la lb h =
    let s = same-front is_digit (decimal (value a)) (suffix a) (decimal (value b)) (suffix b) (sym (literal-cut a) ∙ h ∙ literal-cut b) (digits-all (value a) (value-fits a la)) (digits-all (value b) (value-fits b lb)) (suffix-no_digit a) (suffix-no_digit b) in
    same-literal a b (decimal_injective (value a) (value b) (value-fits a la) (value-fits b lb) s.front) s.back

pub word-spelt : (w : CWord) → word_of (word_bytes w) ≡ Some w
word-spelt word.Typedef = refl
word-spelt word.Struct = refl
word-spelt word.Static = refl
word-spelt word.Inline = refl
word-spelt word.Const = refl
word-spelt word.Char = refl
word-spelt word.Void = refl
word-spelt word.Uint8 = refl
word-spelt word.Uint16 = refl
word-spelt word.Uint32 = refl
word-spelt word.Uint64 = refl
word-spelt word.SizeT = refl
word-spelt word.Bool = refl
word-spelt word.Goto = refl
word-spelt word.If = refl
word-spelt word.Else = refl
word-spelt word.While = refl
word-spelt word.Switch = refl
word-spelt word.Return = refl
word-spelt word.Case = refl
word-spelt word.Default = refl
word-spelt word.Sizeof = refl

-- no word is a name
word-no_name : (w : CWord) → is_name (word_bytes w) ≡ false
unfolding spelling.is_reserved
word-no_name word.Typedef = refl
word-no_name word.Struct = refl
word-no_name word.Static = refl
word-no_name word.Inline = refl
word-no_name word.Const = refl
word-no_name word.Char = refl
word-no_name word.Void = refl
word-no_name word.Uint8 = refl
word-no_name word.Uint16 = refl
word-no_name word.Uint32 = refl
word-no_name word.Uint64 = refl
word-no_name word.SizeT = refl
word-no_name word.Bool = refl
word-no_name word.Goto = refl
word-no_name word.If = refl
word-no_name word.Else = refl
word-no_name word.While = refl
word-no_name word.Switch = refl
word-no_name word.Return = refl
word-no_name word.Case = refl
word-no_name word.Default = refl
word-no_name word.Sizeof = refl

-- The symbol at the front of these bytes.
abbrev pub SymbolIs : List ℕ → CToken → Type 0
SymbolIs [] t = ⊥
SymbolIs (b ∷ bs) t = symbol_token b bs ≡ Some t

pub symbol-op : (o : COp) (r : List ℕ) → IsWhole (operator o) r → SymbolIs (op_bytes o ++ r) (operator o)
symbol-op op.Sub [] h = refl
symbol-op op.Sub (b ∷ r) h = ap (λ c. Some (if c then marked mark.Arrow else operator op.Sub)) h
symbol-op op.Lt [] h = refl
symbol-op op.Lt (b ∷ r) h = ap (λ c. Some (if c then operator op.Shl else (if nat_eq b 61 then operator op.Le else operator op.Lt))) (or-left (nat_eq b 60) (nat_eq b 61) h) ∙ ap (λ c. Some (if c then operator op.Le else operator op.Lt)) (or-right (nat_eq b 60) (nat_eq b 61) h)
symbol-op op.Gt [] h = refl
symbol-op op.Gt (b ∷ r) h = ap (λ c. Some (if c then operator op.Shr else (if nat_eq b 61 then operator op.Ge else operator op.Gt))) (or-left (nat_eq b 62) (nat_eq b 61) h) ∙ ap (λ c. Some (if c then operator op.Ge else operator op.Gt)) (or-right (nat_eq b 62) (nat_eq b 61) h)
symbol-op op.BitAnd [] h = refl
symbol-op op.BitAnd (b ∷ r) h = ap (λ c. Some (if c then operator op.Both else operator op.BitAnd)) h
symbol-op op.BitOr [] h = refl
symbol-op op.BitOr (b ∷ r) h = ap (λ c. Some (if c then operator op.Either else operator op.BitOr)) h
symbol-op op.Add r h = refl
symbol-op op.Mul r h = refl
symbol-op op.Div r h = refl
symbol-op op.Rem r h = refl
symbol-op op.Shl r h = refl
symbol-op op.Shr r h = refl
symbol-op op.BitXor r h = refl
symbol-op op.Le r h = refl
symbol-op op.Ge r h = refl
symbol-op op.Eq r h = refl
symbol-op op.Ne r h = refl
symbol-op op.Both r h = refl
symbol-op op.Either r h = refl

pub symbol-mark : (m : CMark) (r : List ℕ) → IsWhole (marked m) r → SymbolIs (mark_bytes m ++ r) (marked m)
symbol-mark mark.Assign [] h = refl
symbol-mark mark.Assign (b ∷ r) h = ap (λ c. Some (if c then operator op.Eq else marked mark.Assign)) h
symbol-mark mark.Not [] h = refl
symbol-mark mark.Not (b ∷ r) h = ap (λ c. Some (if c then operator op.Ne else marked mark.Not)) h
symbol-mark mark.OpenParen r h = refl
symbol-mark mark.CloseParen r h = refl
symbol-mark mark.OpenBracket r h = refl
symbol-mark mark.CloseBracket r h = refl
symbol-mark mark.OpenBrace r h = refl
symbol-mark mark.CloseBrace r h = refl
symbol-mark mark.Comma r h = refl
symbol-mark mark.Semicolon r h = refl
symbol-mark mark.Colon r h = refl
symbol-mark mark.Question r h = refl
symbol-mark mark.Arrow r h = refl
symbol-mark mark.Complement r h = refl

-- Two tokens at the front of the same bytes.
abbrev Same : CToken → CToken → List ℕ → List ℕ → Type 0
Same t u r q = (t ≡ u) × (r ≡ q)

pub clear : (t : CToken) (r : List ℕ) → ((b : ℕ) → spelling.goes_on t b ≡ is_word_byte b) → IsWhole t r → begins is_word_byte r ≡ false
clear t [] f h = refl
clear t (b ∷ r) f h = sym (f b) ∙ h

-- words, names and literals: the bytes are the same
same-run : (t u : CToken) (r q : List ℕ) → token_bytes t ++ r ≡ token_bytes u ++ q → list_all is_word_byte (token_bytes t) ≡ true → list_all is_word_byte (token_bytes u) ≡ true → begins is_word_byte r ≡ false → begins is_word_byte q ≡ false → SameCut (token_bytes t) r (token_bytes u) q
same-run t u r q h a b c d = same-front is_word_byte (token_bytes t) r (token_bytes u) q h a b c d

word-name : (w : CWord) (n : List ℕ) → IsName n → word_bytes w ≡ n → ⊥
word-name w n l h = let k : is_name (word_bytes w) ≡ true = ap is_name h ∙ l in let no : is_name (word_bytes w) ≡ false = word-no_name w in absurd (cc (k, no))

-- symbols: both are what stands there
one-symbol : (xs ys : List ℕ) (t u : CToken) → xs ≡ ys → SymbolIs xs t → SymbolIs ys u → t ≡ u
one-symbol [] ys t u h a b = absurd a
one-symbol (x ∷ xs) [] t u h a b = absurd b
one-symbol (x ∷ xs) (y ∷ ys) t u h a b =
    let first : x ≡ y = cc h in
    let more : xs ≡ ys = cc h in
    let same : Some t ≡ Some u = sym a ∙ ap (λ z. symbol_token z xs) first ∙ ap (symbol_token y) more ∙ b in
    cc same

same-symbol : (t u : CToken) (r q : List ℕ) → token_bytes t ++ r ≡ token_bytes u ++ q → SymbolIs (token_bytes t ++ r) t → SymbolIs (token_bytes u ++ q) u → Same t u r q
same-symbol t u r q h a b =
    let e : t ≡ u = one-symbol (token_bytes t ++ r) (token_bytes u ++ q) t u h a b in
    (e, append_cancel_left (token_bytes t) r q (h ∙ ap (λ x. token_bytes x ++ q) (sym e)))

-- strings: both end at the first quote
pub string-all : (bytes : List ℕ) → IsTrue (is_string bytes) → list_all is_string_byte bytes ≡ true
string-all bytes h = and-left (list_all is_string_byte bytes) (not (has_double_question bytes)) h

same-string : (a b : List ℕ) (r q : List ℕ) → IsTrue (is_string a) → IsTrue (is_string b) → token_bytes (quoted a) ++ r ≡ token_bytes (quoted b) ++ q → Same (quoted a) (quoted b) r q
same-string a b r q la lb h =
    let inner : (a ++ 34 ∷ []) ++ r ≡ (b ++ 34 ∷ []) ++ q = cc h in
    let cut : a ++ (34 ∷ r) ≡ b ++ (34 ∷ q) = sym (append_assoc a (34 ∷ []) r) ∙ inner ∙ append_assoc b (34 ∷ []) q in
    let s = same-front is_string_byte a (34 ∷ r) b (34 ∷ q) cut (string-all a la) (string-all b lb) refl refl in
    (ap quoted s.front, cc s.back)

same-token : (t u : CToken) → IsToken t → IsToken u → (r q : List ℕ) → token_bytes t ++ r ≡ token_bytes u ++ q → IsWhole t r → IsWhole u q → token_sort t ≡ token_sort u → Same t u r q
same-token (keyword w) (keyword v) lt lu r q h a b e =
    let s = same-run (keyword w) (keyword v) r q h (words-all w) (words-all v) (clear (keyword w) r (λ b. refl) a) (clear (keyword v) q (λ b. refl) b) in
    let known : Some w ≡ Some v = sym (word-spelt w) ∙ ap word_of s.front ∙ word-spelt v in
    let same : w ≡ v = cc known in
    (ap keyword same, s.back)
same-token (keyword w) (named n) lt lu r q h a b e =
    let s = same-run (keyword w) (named n) r q h (words-all w) (word-all n (name-word n lu)) (clear (keyword w) r (λ b. refl) a) (clear (named n) q (λ b. refl) b) in
    absurd (word-name w n lu s.front)
same-token (named n) (keyword w) lt lu r q h a b e =
    let s = same-run (named n) (keyword w) r q h (word-all n (name-word n lt)) (words-all w) (clear (named n) r (λ b. refl) a) (clear (keyword w) q (λ b. refl) b) in
    absurd (word-name w n lt (sym s.front))
same-token (named n) (named m) lt lu r q h a b e =
    let s = same-run (named n) (named m) r q h (word-all n (name-word n lt)) (word-all m (name-word m lu)) (clear (named n) r (λ b. refl) a) (clear (named m) q (λ b. refl) b) in
    (ap named s.front, s.back)
same-token (literal n) (literal m) lt lu r q h a b e =
    let s = same-run (literal n) (literal m) r q h (literal-all n lt) (literal-all m lu) (clear (literal n) r (λ b. refl) a) (clear (literal m) q (λ b. refl) b) in
    (ap literal (literal-injective n m lt lu s.front), s.back)
same-token (quoted x) (quoted y) lt lu r q h a b e = same-string x y r q lt lu h
same-token (operator o) (operator x) lt lu r q h a b e = same-symbol (operator o) (operator x) r q h (symbol-op o r a) (symbol-op x q b)
same-token (operator o) (marked m) lt lu r q h a b e = same-symbol (operator o) (marked m) r q h (symbol-op o r a) (symbol-mark m q b)
same-token (marked m) (operator o) lt lu r q h a b e = same-symbol (marked m) (operator o) r q h (symbol-mark m r a) (symbol-op o q b)
same-token (marked m) (marked x) lt lu r q h a b e = same-symbol (marked m) (marked x) r q h (symbol-mark m r a) (symbol-mark x q b)
same-token _ _ lt lu r q h a b e = absurd (cc e)

-- The first token of bytes, and what stands after it, is one.
pub one-token : (t u : CToken) → IsToken t → IsToken u → (bytes r q : List ℕ) → ReadsToken t bytes r → ReadsToken u bytes q → Same t u r q
one-token t u lt lu bytes r q x y =
    let s = same-front is_gap_byte x.gap (token_bytes t ++ r) y.gap (token_bytes u ++ q) (sym x.cut ∙ y.cut) x.blank y.blank (token-no-gap t lt r) (token-no-gap u lu q) in
    same-token t u lt lu r q s.back x.whole y.whole (sort-same t u lt lu r q s.back)

first-passes : (sort : ℕ) (test : ℕ → Bool) (bytes : List ℕ) → BeginsAs sort bytes → list_all test bytes ≡ true → begins test bytes ≡ true
first-passes sort test [] s h = absurd s
first-passes sort test (b ∷ bytes) s h = and-left (test b) (list_all test bytes) h

-- A gap holds no token.
pub gap-no_token : (t : CToken) → IsToken t → (bytes r : List ℕ) → IsGap bytes → ReadsToken t bytes r → ⊥
gap-no_token t l bytes r blank x =
    let behind : list_all is_gap_byte (token_bytes t ++ r) ≡ true =
    and-right (list_all is_gap_byte x.gap) (list_all is_gap_byte (token_bytes t ++ r)) (sym (list_all-append is_gap_byte x.gap (token_bytes t ++ r)) ∙ ap (list_all is_gap_byte) (sym x.cut) ∙ blank) in
    let passes : begins is_gap_byte (token_bytes t ++ r) ≡ true = first-passes (token_sort t) is_gap_byte (token_bytes t ++ r) (begins-append (token_sort t) (token_bytes t) r (begins-token t l)) behind in
    let stops : begins is_gap_byte (token_bytes t ++ r) ≡ false = token-no-gap t l r in
    absurd (cc (passes, stops))

-- Bytes spell one list of tokens at most.
pub one-spelling : (ts us : List CToken) → AreTokens ts → AreTokens us → (bytes : List ℕ) → Spells ts bytes → Spells us bytes → ts ≡ us
one-spelling [] [] l m bytes s v = refl
one-spelling [] (u ∷ us) l m bytes s v = absurd (gap-no_token u m.0 bytes v.0 s v.1)
one-spelling (t ∷ ts) [] l m bytes s v = absurd (gap-no_token t l.0 bytes s.0 v s.1)
one-spelling (t ∷ ts) (u ∷ us) l m bytes s v =
    let same = one-token t u l.0 m.0 bytes s.0 v.0 s.1 v.1 in
    let later : ts ≡ us = one-spelling ts us l.1 m.1 s.0 s.2 (subst (λ (x : List ℕ). Spells us x) (sym same.1) v.2) in
    cons-same t u ts us same.0 later
  where
    cons-same : (t u : CToken) (ts us : List CToken) → t ≡ u → ts ≡ us → t ∷ ts ≡ u ∷ us
    cons-same t u ts us h k = cc (h, k)
