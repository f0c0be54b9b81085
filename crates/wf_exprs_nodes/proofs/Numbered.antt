-- What ends with a number in decimal digits is a name of C.
use Rattle.std.proofs.Common.{◌≡◌, ◌∙◌, ap, ℕ, ◌+◌, ◌%◌, ◌^◌, ◌<◌, Bool, true, false, ◌&&◌, ◌||◌, nat_le, List, [], ◌∷◌, ◌++◌, refl, arith, codes, decimal}
use Rattle.std.specs.List.{list_all}
use Rattle.std.proofs.lemmas.Bool.{le-leb}
use Rattle.std.proofs.lemmas.Fmt.{decimal_by_steps}
use Rattle.std.proofs.lemmas.List.Folds.{list_all-append}
use Rattle.c_text.specs.CSpelling.{is_between, begins_name, is_word_byte, is_reserved}
use Rattle.c_text.specs.CGrammar.{IsName}

and_true : (a b : Bool) → a ≡ true → b ≡ true → (a && b) ≡ true
and_true true b h k = k
and_true false b h k = absurd (cc h)

or_right : (a b : Bool) → b ≡ true → (a || b) ≡ true
or_right true b h = refl
or_right false b h = h

digit_is_word : (n : ℕ) → n < 10 → is_word_byte (48 + n) ≡ true
digit_is_word n h = or_right (begins_name (48 + n)) (is_between 48 57 (48 + n)) (and_true (nat_le 48 (48 + n)) (nat_le (48 + n) 57) (le-leb 48 (48 + n) (omega arith)) (le-leb (48 + n) 57 (omega (arith, h))))

last_below : (n : ℕ) → n % 10 < 10
last_below n = grind (arith)

one_more : (a : List ℕ) (b : ℕ) → list_all is_word_byte a ≡ true → is_word_byte b ≡ true → list_all is_word_byte (a ++ b ∷ []) ≡ true
one_more a b h k = list_all-append is_word_byte a (b ∷ []) ∙ and_true (list_all is_word_byte a) (list_all is_word_byte (b ∷ [])) h (and_true (is_word_byte b) true k refl)

pub digits_are_word : (n : ℕ) → n < 2 ^ 64 → list_all is_word_byte (decimal n) ≡ true
digits_are_word n fits = decimal_by_steps (λ (m : ℕ) (ds : List ℕ). list_all is_word_byte ds ≡ true)
    (λ m h. and_true (is_word_byte (48 + m)) true (digit_is_word m h) refl)
    (λ m ds h k. one_more ds (48 + m % 10) k (digit_is_word (m % 10) (last_below m)))
    n fits

pub status_is_name : (n : ℕ) → n < 2 ^ 64 → IsName (codes "status_" ++ decimal n)
unfolding is_reserved
status_is_name n h = ap (λ x. x && true) (digits_are_word n h)
