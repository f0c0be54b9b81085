-- The token at the front of bytes is what the first bytes tell, or there is none.
use Rattle.std.proofs.Common.{◌≡◌, ◌∙◌, ap, sym, subst, ℕ, zero, suc, ◌^◌, ◌<◌, Bool, true, false, ◌&&◌, nat_eq, nat_le, nat_lt, Option, Some, None, List, [], ◌∷◌, ◌++◌, length, get_or, refl, arith, codes, decimal, if◌then◌else◌}
use Rattle.std.specs.List.{list_all}
use Rattle.std.specs.Str.{bytes_eq}
use Rattle.std.specs.Str.Parse.{digits_value}
use Rattle.std.specs.Int.{IsInRange}
use Rattle.std.proofs.lemmas.Bool.{le-leb, leb-true}
use Rattle.std.proofs.lemmas.Bool.Decides.{nat_tests}
use Rattle.std.proofs.lemmas.Fmt.{decimal_digit, first_decimal, digits_value-decimal, decimal-digits_value}
use Rattle.std.proofs.lemmas.Str.Parse.{IsDigitsTest, IsNumeralModel, numerals_by_value}
use Rattle.c_text.proofs.Names.{bytes_eq-true}
use Rattle.c_text.specs.declared.kinds.CNumber.{CNumber}
use Rattle.c_text.specs.declared.kinds.CNumber.TheVariants.{Int, Unsigned, Long}
use Rattle.c_text.specs.declared.tokens.CWord.{CWord}
use Rattle.c_text.specs.declared.tokens.CWord.TheVariants as word
use Rattle.c_text.specs.CSpelling as spelling
use Rattle.c_text.specs.CSpelling.{keyword, word_bytes, literal_bytes, IsLiteral, is_reserved}
use Rattle.c_read_grammar.specs.FirstToken.{is_digit, begins, front, behind, word_of, has_leading_zero, literal_with, literal_of, run_token}
use Rattle.c_read_grammar.proofs.FirstBytes.{and-left, and-right}
use Rattle.c_read_grammar.proofs.OneSpelling.{value, suffix, literal-cut, value-fits, suffix-no_digit, digits-all}

-- Fronts of a class.
front-is : (test : ℕ → Bool) (text rest : List ℕ) → list_all test text ≡ true → begins test rest ≡ false → front test (text ++ rest) ≡ text
front-is test [] [] h r = refl
front-is test [] (b ∷ rest) h r = ap (λ c. if c then b ∷ front test rest else []) r
front-is test (b ∷ text) rest h r =
    ap (λ c. if c then b ∷ front test (text ++ rest) else []) (and-left (test b) (list_all test text) h)
    ∙ ap (λ x. b ∷ x) (front-is test text rest (and-right (test b) (list_all test text) h) r)

behind-is : (test : ℕ → Bool) (text rest : List ℕ) → list_all test text ≡ true → begins test rest ≡ false → behind test (text ++ rest) ≡ rest
behind-is test [] [] h r = refl
behind-is test [] (b ∷ rest) h r = ap (λ c. if c then behind test rest else b ∷ rest) r
behind-is test (b ∷ text) rest h r =
    ap (λ c. if c then behind test (text ++ rest) else b ∷ (text ++ rest)) (and-left (test b) (list_all test text) h)
    ∙ behind-is test text rest (and-right (test b) (list_all test text) h) r

cut-by : (b : ℕ) (bytes front_part back : List ℕ) → front_part ++ back ≡ bytes → (c : Bool) → (if c then b ∷ front_part else []) ++ (if c then back else b ∷ bytes) ≡ b ∷ bytes
cut-by b bytes front_part back h true = ap (λ x. b ∷ x) h
cut-by b bytes front_part back h false = refl

front-behind : (test : ℕ → Bool) (bytes : List ℕ) → front test bytes ++ behind test bytes ≡ bytes
front-behind test [] = refl
front-behind test (b ∷ bytes) = cut-by b bytes (front test bytes) (behind test bytes) (front-behind test bytes) (test b)

all-by : (test : ℕ → Bool) (b : ℕ) (front_part : List ℕ) → list_all test front_part ≡ true → (c : Bool) → test b ≡ c → list_all test (if c then b ∷ front_part else []) ≡ true
all-by test b front_part k true h = ap (λ x. x && list_all test front_part) h ∙ k
all-by test b front_part k false h = refl

front-all : (test : ℕ → Bool) (bytes : List ℕ) → list_all test (front test bytes) ≡ true
front-all test [] = refl
front-all test (b ∷ bytes) = all-by test b (front test bytes) (front-all test bytes) (test b) refl

front-some : (test : ℕ → Bool) (bytes : List ℕ) → begins test bytes ≡ true → 0 < length (front test bytes)
front-some test [] h = absurd (cc h)
front-some test (b ∷ bytes) h = subst (λ (c : Bool). 0 < length (if c then b ∷ front test bytes else [])) (sym h) (one_more (front test bytes))
  where
    one_more : (xs : List ℕ) → 0 < length (b ∷ xs)
    one_more xs = grind (arith)

-- Digits.
digit-range : (b : ℕ) → is_digit b ≡ true → IsInRange 48 57 b
digit-range b h = (leb-true 48 b (and-left (nat_le 48 b) (nat_le b 57) h), leb-true b 57 (and-right (nat_le 48 b) (nat_le b 57) h))

and-true : (a b : Bool) → a ≡ true → b ≡ true → (a && b) ≡ true
and-true true b h k = k
and-true false b h k = absurd (cc h)

range-digit : (b : ℕ) → IsInRange 48 57 b → is_digit b ≡ true
range-digit b h = and-true (nat_le 48 b) (nat_le b 57) (le-leb 48 b h.0) (le-leb b 57 h.1)

digits-test : IsDigitsTest (λ ds. list_all is_digit ds ≡ true)
digits-test = record {
  empty = refl;
  parts = λ c cs h. (digit-range c (and-left (is_digit c) (list_all is_digit cs) h), and-right (is_digit c) (list_all is_digit cs) h);
  more = λ c cs h k. and-true (is_digit c) (list_all is_digit cs) (range-digit c h) k;
}

numerals : IsNumeralModel (λ ds. list_all is_digit ds ≡ true) (digits_value 10)
numerals = numerals_by_value (λ ds. list_all is_digit ds ≡ true) digits-test

lt-true : (a b : ℕ) → a < b → nat_lt a b ≡ true
lt-true a b h = grind (arith, nat_tests, h)

true-lt : (a b : ℕ) → nat_lt a b ≡ true → a < b
true-lt a b h = grind (arith, nat_tests, h)

and-false : (a b : Bool) → b ≡ false → (a && b) ≡ false
and-false true b h = h
and-false false b h = refl

other-first : (ds : List ℕ) → 48 < get_or ds 0 0 → begins (λ b. nat_eq b 48) ds ≡ false
other-first [] h = refl
other-first (b ∷ ds) h = above b h
  where
    above : (b : ℕ) → 48 < b → nat_eq b 48 ≡ false
    above b h = grind (arith, nat_tests, h)

no-leading_zero : (v : ℕ) → v < 2 ^ 64 → has_leading_zero (decimal v) ≡ false
no-leading_zero zero fits = ap has_leading_zero (decimal_digit 0 (omega arith))
no-leading_zero (suc v) fits = and-false (nat_lt 1 (length (decimal (suc v)))) (begins (λ b. nat_eq b 48) (decimal (suc v))) (other-first (decimal (suc v)) (first_decimal (suc v) (omega arith) fits))

-- Literals.
literal-with-found : (n : CNumber) → IsLiteral n → literal_with (value n) (suffix n) ≡ Some n
literal-with-found (Int n) h = ap (λ c. if c then Some (Int n) else None) (lt-true n (2 ^ 31) h)
literal-with-found (Unsigned n) h = ap (λ c. if c then Some (Unsigned n) else None) (lt-true n (2 ^ 32) h)
literal-with-found (Long n) h = ap (λ c. if c then Some (Long n) else None) (lt-true n (2 ^ 64) h)

pub literal-found : (n : CNumber) → IsLiteral n → literal_of (literal_bytes n) ≡ Some n
literal-found n h =
    let fits = value-fits n h in
    let digits = digits-all (value n) fits in
    let front_is : front is_digit (literal_bytes n) ≡ decimal (value n) = ap (front is_digit) (literal-cut n) ∙ front-is is_digit (decimal (value n)) (suffix n) digits (suffix-no_digit n) in
    let behind_is : behind is_digit (literal_bytes n) ≡ suffix n = ap (behind is_digit) (literal-cut n) ∙ behind-is is_digit (decimal (value n)) (suffix n) digits (suffix-no_digit n) in
    let value_is : digits_value 10 (decimal (value n)) ≡ value n = digits_value-decimal numerals (value n) fits in
    ap (λ ds. if has_leading_zero ds then None else literal_with (digits_value 10 ds) (behind is_digit (literal_bytes n))) front_is
    ∙ ap (λ c. if c then None else literal_with (digits_value 10 (decimal (value n))) (behind is_digit (literal_bytes n))) (no-leading_zero (value n) fits)
    ∙ ap (literal_with (digits_value 10 (decimal (value n)))) behind_is
    ∙ ap (λ v. literal_with v (suffix n)) value_is
    ∙ literal-with-found n h

record LiteralParts (n : CNumber) (v : ℕ) (sf : List ℕ) : Type 0 where
  lawful : IsLiteral n
  value_is : value n ≡ v
  suffix_is : suffix n ≡ sf

int-parts : (n : CNumber) (v : ℕ) (sf : List ℕ) → [] ≡ sf → (c : Bool) → nat_lt v (2 ^ 31) ≡ c → (if c then Some (Int v) else None) ≡ Some n → LiteralParts n v sf
int-parts n v sf s true e h =
    let q : Int v ≡ n = cc h in
    subst (λ (x : CNumber). LiteralParts x v sf) q (record { lawful = true-lt v (2 ^ 31) e; value_is = refl; suffix_is = s })
int-parts n v sf s false e h = absurd (cc h)

unsigned-parts : (n : CNumber) (v : ℕ) (sf : List ℕ) → codes "u" ≡ sf → (c : Bool) → nat_lt v (2 ^ 32) ≡ c → (if c then Some (Unsigned v) else None) ≡ Some n → LiteralParts n v sf
unsigned-parts n v sf s true e h =
    let q : Unsigned v ≡ n = cc h in
    subst (λ (x : CNumber). LiteralParts x v sf) q (record { lawful = true-lt v (2 ^ 32) e; value_is = refl; suffix_is = s })
unsigned-parts n v sf s false e h = absurd (cc h)

long-parts : (n : CNumber) (v : ℕ) (sf : List ℕ) → codes "ull" ≡ sf → (c : Bool) → nat_lt v (2 ^ 64) ≡ c → (if c then Some (Long v) else None) ≡ Some n → LiteralParts n v sf
long-parts n v sf s true e h =
    let q : Long v ≡ n = cc h in
    subst (λ (x : CNumber). LiteralParts x v sf) q (record { lawful = true-lt v (2 ^ 64) e; value_is = refl; suffix_is = s })
long-parts n v sf s false e h = absurd (cc h)

literal-long : (n : CNumber) (v : ℕ) (sf : List ℕ) (c : Bool) → bytes_eq sf (codes "ull") ≡ c → (if c then (if nat_lt v (2 ^ 64) then Some (Long v) else None) else None) ≡ Some n → LiteralParts n v sf
literal-long n v sf true e h = long-parts n v sf (sym (bytes_eq-true sf (codes "ull") e)) (nat_lt v (2 ^ 64)) refl h
literal-long n v sf false e h = absurd (cc h)

literal-unsigned : (n : CNumber) (v : ℕ) (sf : List ℕ) (c : Bool) → bytes_eq sf (codes "u") ≡ c → (if c then (if nat_lt v (2 ^ 32) then Some (Unsigned v) else None) else (if bytes_eq sf (codes "ull") then (if nat_lt v (2 ^ 64) then Some (Long v) else None) else None)) ≡ Some n → LiteralParts n v sf
literal-unsigned n v sf true e h = unsigned-parts n v sf (sym (bytes_eq-true sf (codes "u") e)) (nat_lt v (2 ^ 32)) refl h
literal-unsigned n v sf false e h = literal-long n v sf (bytes_eq sf (codes "ull")) refl h

literal-int : (n : CNumber) (v : ℕ) (sf : List ℕ) (c : Bool) → bytes_eq sf [] ≡ c → (if c then (if nat_lt v (2 ^ 31) then Some (Int v) else None) else (if bytes_eq sf (codes "u") then (if nat_lt v (2 ^ 32) then Some (Unsigned v) else None) else (if bytes_eq sf (codes "ull") then (if nat_lt v (2 ^ 64) then Some (Long v) else None) else None))) ≡ Some n → LiteralParts n v sf
literal-int n v sf true e h = int-parts n v sf (sym (bytes_eq-true sf [] e)) (nat_lt v (2 ^ 31)) refl h
literal-int n v sf false e h = literal-unsigned n v sf (bytes_eq sf (codes "u")) refl h

one-digit : (ds : List ℕ) → has_leading_zero ds ≡ false → get_or ds 0 0 ≡ 48 → length ds ≡ 1
one-digit [] z h = absurd (cc h)
one-digit (b ∷ ds) z h =
    let zero_first : nat_eq b 48 ≡ true = ap (λ x. nat_eq x 48) h in
    let short : nat_lt 1 (length (b ∷ ds)) ≡ false = left-false (nat_lt 1 (length (b ∷ ds))) (nat_eq b 48) z zero_first in
    only (length ds) short
  where
    left-false : (x y : Bool) → (x && y) ≡ false → y ≡ true → x ≡ false
    left-false true y h k = absurd (cc (h, k))
    left-false false y h k = refl

    only : (n : ℕ) → nat_lt 1 (suc n) ≡ false → suc n ≡ 1
    only n h = grind (arith, nat_tests, h)

pub literal-is : (run : List ℕ) (n : CNumber) → begins is_digit run ≡ true → (c : Bool) → has_leading_zero (front is_digit run) ≡ c
    → (if c then None else literal_with (digits_value 10 (front is_digit run)) (behind is_digit run)) ≡ Some n → IsLiteral n × (literal_bytes n ≡ run)
literal-is run n d true z h = absurd (cc h)
literal-is run n d false z h =
    let ds = front is_digit run in
    let parts = literal-int n (digits_value 10 ds) (behind is_digit run) (bytes_eq (behind is_digit run) []) refl h in
    let fits : digits_value 10 ds < 2 ^ 64 = subst (λ (x : ℕ). x < 2 ^ 64) parts.value_is (value-fits n parts.lawful) in
    let digits : decimal (digits_value 10 ds) ≡ ds = decimal-digits_value numerals ds (front-all is_digit run) (front-some is_digit run d) (λ e. one-digit ds z e) fits in (
      parts.lawful,
      literal-cut n
          ∙ ap (λ x. x ++ suffix n) (ap decimal parts.value_is ∙ digits)
          ∙ ap (λ x. ds ++ x) parts.suffix_is
          ∙ front-behind is_digit run,
    )

-- Words and names.
pub word-found : (w : CWord) → run_token (word_bytes w) ≡ Some (keyword w)
unfolding spelling.is_reserved
word-found word.Typedef = refl
word-found word.Struct = refl
word-found word.Static = refl
word-found word.Inline = refl
word-found word.Const = refl
word-found word.Char = refl
word-found word.Void = refl
word-found word.Uint8 = refl
word-found word.Uint16 = refl
word-found word.Uint32 = refl
word-found word.Uint64 = refl
word-found word.SizeT = refl
word-found word.Bool = refl
word-found word.Goto = refl
word-found word.If = refl
word-found word.Else = refl
word-found word.While = refl
word-found word.Switch = refl
word-found word.Return = refl
word-found word.Case = refl
word-found word.Default = refl
word-found word.Sizeof = refl

pick-word : (run : List ℕ) (w : CWord) (text : List ℕ) (x : CWord) (other : Option CWord) → word_bytes x ≡ text → (other ≡ Some w → word_bytes w ≡ run)
    → (if bytes_eq run text then Some x else other) ≡ Some w → word_bytes w ≡ run
pick-word run w text x other t f h = by_test (bytes_eq run text) refl h
  where
    by_test : (c : Bool) → bytes_eq run text ≡ c → (if c then Some x else other) ≡ Some w → word_bytes w ≡ run
    by_test true e h = let q : x ≡ w = cc h in ap word_bytes (sym q) ∙ t ∙ sym (bytes_eq-true run text e)
    by_test false e h = f h

pub word-is : (run : List ℕ) (w : CWord) → word_of run ≡ Some w → word_bytes w ≡ run
word-is run w h = pick-word run w (codes "typedef") word.Typedef _ refl (λ h. pick-word run w (codes "struct") word.Struct _ refl (λ h. pick-word run w (codes "static") word.Static _ refl (λ h. pick-word run w (codes "inline") word.Inline _ refl (λ h. pick-word run w (codes "const") word.Const _ refl (λ h. pick-word run w (codes "char") word.Char _ refl (λ h. pick-word run w (codes "void") word.Void _ refl (λ h. pick-word run w (codes "uint8_t") word.Uint8 _ refl (λ h. pick-word run w (codes "uint16_t") word.Uint16 _ refl (λ h. pick-word run w (codes "uint32_t") word.Uint32 _ refl (λ h. pick-word run w (codes "uint64_t") word.Uint64 _ refl (λ h. pick-word run w (codes "size_t") word.SizeT _ refl (λ h. pick-word run w (codes "_Bool") word.Bool _ refl (λ h. pick-word run w (codes "goto") word.Goto _ refl (λ h. pick-word run w (codes "if") word.If _ refl (λ h. pick-word run w (codes "else") word.Else _ refl (λ h. pick-word run w (codes "while") word.While _ refl (λ h. pick-word run w (codes "switch") word.Switch _ refl (λ h. pick-word run w (codes "return") word.Return _ refl (λ h. pick-word run w (codes "case") word.Case _ refl (λ h. pick-word run w (codes "default") word.Default _ refl (λ h. pick-word run w (codes "sizeof") word.Sizeof _ refl (λ h. absurd (cc h)) h) h) h) h) h) h) h) h) h) h) h) h) h) h) h) h) h) h) h) h) h) h
