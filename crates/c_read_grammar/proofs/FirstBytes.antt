-- The first byte of a token tells what sort of token it is.
use Rattle.std.proofs.Common.{◌≡◌, ◌∙◌, ap, sym, ℕ, zero, suc, ◌+◌, ◌%◌, ◌^◌, ◌<◌, Bool, true, false, ◌&&◌, ◌||◌, not, nat_eq, List, [], ◌∷◌, ◌++◌, refl, arith, codes, decimal, if◌then◌else◌}
use Rattle.std.specs.List.{list_all}
use Rattle.std.proofs.lemmas.Bool.{eqb-true}
use Rattle.std.proofs.lemmas.Fmt.{decimal_by_steps}
use Rattle.c_text.specs.declared.kinds.CNumber.{CNumber}
use Rattle.c_text.specs.declared.kinds.CNumber.TheVariants.{Int, Unsigned, Long}
use Rattle.c_text.specs.declared.kinds.COp.{COp}
use Rattle.c_text.specs.declared.kinds.COp.TheVariants as op
use Rattle.c_text.specs.declared.tokens.CWord.{CWord}
use Rattle.c_text.specs.declared.tokens.CWord.TheVariants as word
use Rattle.c_text.specs.declared.tokens.CMark.{CMark}
use Rattle.c_text.specs.declared.tokens.CMark.TheVariants as mark
use Rattle.c_text.specs.CSpelling.{CToken, keyword, named, literal, quoted, operator, marked, token_bytes, word_bytes, op_bytes, mark_bytes, literal_bytes, IsLiteral, is_between, begins_name, is_word_byte, is_word, is_reserved, is_gap_byte}
use Rattle.c_text.specs.CGrammar.{IsName}
use Rattle.c_read_grammar.specs.FirstToken.{begins}
use Rattle.c_read_grammar.specs.Texts.{IsToken}

-- Sorts of first bytes: of gaps, names, literals, strings and all others.
abbrev pub byte_sort : ℕ → ℕ
byte_sort b = if is_gap_byte b then 0 else (if begins_name b then 1 else (if is_between 48 57 b then 2 else (if nat_eq b 34 then 3 else 4)))

abbrev pub token_sort : CToken → ℕ
token_sort (keyword w) = 1
token_sort (named n) = 1
token_sort (literal n) = 2
token_sort (quoted bytes) = 3
token_sort (operator o) = 4
token_sort (marked m) = 4

-- the first byte is of this sort
abbrev pub BeginsAs : ℕ → List ℕ → Type 0
BeginsAs sort [] = ⊥
BeginsAs sort (b ∷ bs) = byte_sort b ≡ sort

pub begins-append : (sort : ℕ) (a b : List ℕ) → BeginsAs sort a → BeginsAs sort (a ++ b)
begins-append sort [] b h = absurd h
begins-append sort (x ∷ a) b h = h

begins-word : (w : CWord) → BeginsAs 1 (word_bytes w)
begins-word word.Typedef = refl
begins-word word.Struct = refl
begins-word word.Static = refl
begins-word word.Inline = refl
begins-word word.Const = refl
begins-word word.Char = refl
begins-word word.Void = refl
begins-word word.Uint8 = refl
begins-word word.Uint16 = refl
begins-word word.Uint32 = refl
begins-word word.Uint64 = refl
begins-word word.SizeT = refl
begins-word word.Bool = refl
begins-word word.Goto = refl
begins-word word.If = refl
begins-word word.Else = refl
begins-word word.While = refl
begins-word word.Switch = refl
begins-word word.Return = refl
begins-word word.Case = refl
begins-word word.Default = refl
begins-word word.Sizeof = refl

begins-op : (o : COp) → BeginsAs 4 (op_bytes o)
begins-op op.Add = refl
begins-op op.Sub = refl
begins-op op.Mul = refl
begins-op op.Div = refl
begins-op op.Rem = refl
begins-op op.Shl = refl
begins-op op.Shr = refl
begins-op op.BitAnd = refl
begins-op op.BitOr = refl
begins-op op.BitXor = refl
begins-op op.Lt = refl
begins-op op.Le = refl
begins-op op.Gt = refl
begins-op op.Ge = refl
begins-op op.Eq = refl
begins-op op.Ne = refl
begins-op op.Both = refl
begins-op op.Either = refl

begins-mark : (m : CMark) → BeginsAs 4 (mark_bytes m)
begins-mark mark.OpenParen = refl
begins-mark mark.CloseParen = refl
begins-mark mark.OpenBracket = refl
begins-mark mark.CloseBracket = refl
begins-mark mark.OpenBrace = refl
begins-mark mark.CloseBrace = refl
begins-mark mark.Comma = refl
begins-mark mark.Semicolon = refl
begins-mark mark.Colon = refl
begins-mark mark.Question = refl
begins-mark mark.Assign = refl
begins-mark mark.Arrow = refl
begins-mark mark.Not = refl
begins-mark mark.Complement = refl

-- both parts of a conjunction
pub and-left : (a b : Bool) → (a && b) ≡ true → a ≡ true
and-left true b h = refl
and-left false b h = h

pub and-right : (a b : Bool) → (a && b) ≡ true → b ≡ true
and-right true b h = h
and-right false b h = absurd (cc h)

pub or-left : (a b : Bool) → (a || b) ≡ false → a ≡ false
or-left true b h = h
or-left false b h = refl

pub or-right : (a b : Bool) → (a || b) ≡ false → b ≡ false
or-right true b h = absurd (cc h)
or-right false b h = h

-- a letter is no space
letter-32 : (b : ℕ) (c : Bool) → begins_name b ≡ true → nat_eq b 32 ≡ c → c ≡ false
letter-32 b false h e = refl
letter-32 b true h e = let q : b ≡ 32 = eqb-true b 32 e in let k : begins_name 32 ≡ true = ap begins_name (sym q) ∙ h in absurd (cc k)

letter-10 : (b : ℕ) (c : Bool) → begins_name b ≡ true → nat_eq b 10 ≡ c → c ≡ false
letter-10 b false h e = refl
letter-10 b true h e = let q : b ≡ 10 = eqb-true b 10 e in let k : begins_name 10 ≡ true = ap begins_name (sym q) ∙ h in absurd (cc k)

sort-letter : (b : ℕ) → begins_name b ≡ true → byte_sort b ≡ 1
sort-letter b h =
    let space : nat_eq b 32 ≡ false = letter-32 b (nat_eq b 32) h refl in
    let feed : nat_eq b 10 ≡ false = letter-10 b (nat_eq b 10) h refl in
    rw (space, feed, h) refl

begins-name : (n : List ℕ) → IsName n → BeginsAs 1 n
begins-name [] h = absurd (cc h)
begins-name (b ∷ bs) h = sort-letter b (and-left (begins_name b) (list_all is_word_byte bs) (and-left (is_word (b ∷ bs)) (not (is_reserved (b ∷ bs))) h))

-- digits
sort-digit : (n : ℕ) → n < 10 → byte_sort (48 + n) ≡ 2
sort-digit zero h = refl
sort-digit (suc zero) h = refl
sort-digit (suc (suc zero)) h = refl
sort-digit (suc (suc (suc zero))) h = refl
sort-digit (suc (suc (suc (suc zero)))) h = refl
sort-digit (suc (suc (suc (suc (suc zero))))) h = refl
sort-digit (suc (suc (suc (suc (suc (suc zero)))))) h = refl
sort-digit (suc (suc (suc (suc (suc (suc (suc zero))))))) h = refl
sort-digit (suc (suc (suc (suc (suc (suc (suc (suc zero)))))))) h = refl
sort-digit (suc (suc (suc (suc (suc (suc (suc (suc (suc zero))))))))) h = refl
sort-digit (suc (suc (suc (suc (suc (suc (suc (suc (suc (suc n)))))))))) h = absurd (too_large n h)
  where
    too_large : (n : ℕ) → suc (suc (suc (suc (suc (suc (suc (suc (suc (suc n))))))))) < 10 → ⊥
    too_large n h = grind (arith, h)

begins-decimal : (n : ℕ) → n < 2 ^ 64 → BeginsAs 2 (decimal n)
begins-decimal n fits = decimal_by_steps (λ (m : ℕ) (ds : List ℕ). BeginsAs 2 ds) (λ m h. sort-digit m h) (λ m ds h b. begins-append 2 ds ((48 + m % 10) ∷ []) b) n fits

pub fits-31 : (n : ℕ) → n < 2 ^ 31 → n < 2 ^ 64
fits-31 n h = grind (arith, h)

pub fits-32 : (n : ℕ) → n < 2 ^ 32 → n < 2 ^ 64
fits-32 n h = grind (arith, h)

begins-literal : (n : CNumber) → IsLiteral n → BeginsAs 2 (literal_bytes n)
begins-literal (Int n) h = begins-decimal n (fits-31 n h)
begins-literal (Unsigned n) h = begins-append 2 (decimal n) (codes "u") (begins-decimal n (fits-32 n h))
begins-literal (Long n) h = begins-append 2 (decimal n) (codes "ull") (begins-decimal n h)

pub begins-token : (t : CToken) → IsToken t → BeginsAs (token_sort t) (token_bytes t)
begins-token (keyword w) l = begins-word w
begins-token (named n) l = begins-name n l
begins-token (literal n) l = begins-literal n l
begins-token (quoted bytes) l = refl
begins-token (operator o) l = begins-op o
begins-token (marked m) l = begins-mark m

same-sort : (a b : ℕ) (xs ys : List ℕ) → xs ≡ ys → BeginsAs a xs → BeginsAs b ys → a ≡ b
same-sort a b [] ys h p q = absurd p
same-sort a b (x ∷ xs) [] h p q = absurd q
same-sort a b (x ∷ xs) (y ∷ ys) h p q = let e : x ≡ y = cc h in cc (e, p, q)

-- Tokens at the front of the same bytes are of one sort.
pub sort-same : (t u : CToken) → IsToken t → IsToken u → (r q : List ℕ) → token_bytes t ++ r ≡ token_bytes u ++ q → token_sort t ≡ token_sort u
sort-same t u lt lu r q h = same-sort (token_sort t) (token_sort u) (token_bytes t ++ r) (token_bytes u ++ q) h (begins-append (token_sort t) (token_bytes t) r (begins-token t lt)) (begins-append (token_sort u) (token_bytes u) q (begins-token u lu))

sort-gap : (b : ℕ) (c : Bool) (sort : ℕ) → is_gap_byte b ≡ c → byte_sort b ≡ suc sort → c ≡ false
sort-gap b false sort e h = refl
sort-gap b true sort e h = let k : byte_sort b ≡ 0 = ap (λ c. if c then 0 else (if begins_name b then 1 else (if is_between 48 57 b then 2 else (if nat_eq b 34 then 3 else 4)))) e in absurd (cc (k, h))

no-gap : (sort : ℕ) (bytes : List ℕ) → BeginsAs (suc sort) bytes → begins is_gap_byte bytes ≡ false
no-gap sort [] h = absurd h
no-gap sort (b ∷ bs) h = sort-gap b (is_gap_byte b) sort refl h

later-sort : (t : CToken) → BeginsAs (token_sort t) (token_bytes t) → (rest : List ℕ) → begins is_gap_byte (token_bytes t ++ rest) ≡ false
later-sort (keyword w) h rest = no-gap 0 (word_bytes w ++ rest) (begins-append 1 (word_bytes w) rest h)
later-sort (named n) h rest = no-gap 0 (n ++ rest) (begins-append 1 n rest h)
later-sort (literal n) h rest = no-gap 1 (literal_bytes n ++ rest) (begins-append 2 (literal_bytes n) rest h)
later-sort (quoted bytes) h rest = refl
later-sort (operator o) h rest = no-gap 3 (op_bytes o ++ rest) (begins-append 4 (op_bytes o) rest h)
later-sort (marked m) h rest = no-gap 3 (mark_bytes m ++ rest) (begins-append 4 (mark_bytes m) rest h)

-- No token begins with a byte of a gap.
pub token-no-gap : (t : CToken) → IsToken t → (rest : List ℕ) → begins is_gap_byte (token_bytes t ++ rest) ≡ false
token-no-gap t l rest = later-sort t (begins-token t l) rest

-- Two cuts of the same bytes.
pub record SameCut (text rest other behind : List ℕ) : Type 0 where
  pub front : text ≡ other
  pub back : rest ≡ behind

-- The longest front of a class is one.
pub same-front : (test : ℕ → Bool) (text rest other behind : List ℕ) → text ++ rest ≡ other ++ behind → list_all test text ≡ true → list_all test other ≡ true → begins test rest ≡ false → begins test behind ≡ false → SameCut text rest other behind
same-front test [] rest [] behind cut h k r b = record { front = refl; back = cut }
same-front test [] rest (y ∷ other) behind cut h k r b =
    let passes : begins test rest ≡ true = ap (begins test) cut ∙ and-left (test y) (list_all test other) k in absurd (cc (passes, r))
same-front test (x ∷ text) rest [] behind cut h k r b =
    let passes : begins test behind ≡ true = sym (ap (begins test) cut) ∙ and-left (test x) (list_all test text) h in absurd (cc (passes, b))
same-front test (x ∷ text) rest (y ∷ other) behind cut h k r b =
    let first : x ≡ y = cc cut in
    let later : text ++ rest ≡ other ++ behind = cc cut in
    let s = same-front test text rest other behind later (and-right (test x) (list_all test text) h) (and-right (test y) (list_all test other) k) r b in
    record { front = cong-cons x y text other first s.front; back = s.back }
  where
    cong-cons : (a b : ℕ) (xs ys : List ℕ) → a ≡ b → xs ≡ ys → a ∷ xs ≡ b ∷ ys
    cong-cons a b xs ys e f = cc (e, f)
