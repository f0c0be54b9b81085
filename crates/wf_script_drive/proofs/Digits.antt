-- Hexadecimal digits spell bytes.
use Rattle.std.proofs.Common.{◌≡◌, ℕ, ◌+◌, ◌-◌, ◌*◌, ◌%◌, ◌==◌, ◌&&◌, ◌<◌, ◌≤◌, ◌^◌, List, [], ◌∷◌, length, Bool, true, false, refl, subst, arith, Option, Some, None, Result, Ok, Err, cond}
use Rattle.std.specs.Prelude.{nat_le}
use Rattle.std.proofs.lemmas.Bool.{and_parts, leb-true}
use Rattle.std.proofs.lemmas.Option.{same_Some}
use Rattle.std.proofs.lemmas.List.Elements.{All-nil, All-cons}
use Rattle.hex.specs.declared.error.FromHexError.{FromHexError}
use Rattle.hex.specs.declared.error.FromHexError.TheVariants.{OddLength}
use Rattle.hex.specs.Hex.{◌>>=◌, hex_digit_value, digit_or_error, value_at, pair_value, decode_pairs, decode_of}
use Rattle.wf_base.specs.BaseOps.{AreBytes}
use Rattle.wf_script_drive.proofs.Readings.{same_ok, no_value, cond_ok}

some_if : {A P : Type 0} (b : Bool) (x y : Option A) (v : A) → cond b x y ≡ Some v → (b ≡ true → x ≡ Some v → P) → (b ≡ false → y ≡ Some v → P) → P
some_if true x y v e then other = then refl e
some_if false x y v e then other = other refl e

between : (low high c : ℕ) → (nat_le low c && nat_le c high) ≡ true → (low ≤ c) × (c ≤ high)
between low high c e = let parts = and_parts (nat_le low c) (nat_le c high) e in (leb-true low c parts.0, leb-true c high parts.1)

digit_small : (c v : ℕ) → hex_digit_value c ≡ Some v → v < 16
digit_small c v e =
    some_if (nat_le 65 c && nat_le c 70) (Some (c - 55)) _ v e (λ t q. let h = between 65 70 c t in omega (arith, h.0, h.1, same_Some (c - 55) v q)) (λ t q.
    some_if (nat_le 97 c && nat_le c 102) (Some (c - 87)) _ v q (λ u p. let h = between 97 102 c u in omega (arith, h.0, h.1, same_Some (c - 87) v p)) (λ u p.
    some_if (nat_le 48 c && nat_le c 57) (Some (c - 48)) None v p (λ w o. let h = between 48 57 c w in omega (arith, h.0, h.1, same_Some (c - 48) v o)) (λ w o. absurd (cc (o)))))

told_small : (c i v : ℕ) (o : Option ℕ) → ((w : ℕ) → o ≡ Some w → w < 16) → digit_or_error c i o ≡ Ok v → v < 16
told_small c i v None small e = no_value _ v e
told_small c i v (Some w) small e = subst (λ n. n < 16) (same_ok w v e) (small w refl)

at_small : (c i v : ℕ) → value_at c i ≡ Ok v → v < 16
at_small c i v e = told_small c i v (hex_digit_value c) (digit_small c) e

step_ok : {A B P : Type 0} (x : Result A FromHexError) (f : A → Result B FromHexError) (y : B) → (x >>= f) ≡ Ok y → ((a : A) → x ≡ Ok a → f a ≡ Ok y → P) → P
step_ok (Ok a) f y e k = k a refl e
step_ok (Err r) f y e k = no_value r y e

pair_small : (high low i byte : ℕ) → pair_value high low i ≡ Ok byte → byte < 2 ^ 8
pair_small high low i byte e =
    step_ok (value_at high i) (λ h. value_at low (i + 1) >>= (λ l. Ok (h * 16 + l))) byte e (λ h is e1.
    step_ok (value_at low (i + 1)) (λ l. Ok (h * 16 + l)) byte e1 (λ l same e2.
    omega (arith, at_small high i h is, at_small low (i + 1) l same, same_ok (h * 16 + l) byte e2)))

pairs_are_bytes : (i : ℕ) (text bytes : List ℕ) → decode_pairs i text ≡ Ok bytes → AreBytes bytes
unfolding decode_pairs
pairs_are_bytes i [] bytes e = subst AreBytes (same_ok [] bytes e) (All-nil (λ (cell : ℕ). cell < 2 ^ 8))
pairs_are_bytes i (digit ∷ []) bytes e = no_value OddLength bytes e
pairs_are_bytes i (high ∷ low ∷ rest) bytes e =
    step_ok (pair_value high low i) (λ byte. decode_pairs (i + 2) rest >>= (λ more. Ok (byte ∷ more))) bytes e (λ byte is e1.
    step_ok (decode_pairs (i + 2) rest) (λ more. Ok (byte ∷ more)) bytes e1 (λ more same e2.
    subst AreBytes (same_ok (byte ∷ more) bytes e2) (All-cons (λ (cell : ℕ). cell < 2 ^ 8) byte more (pair_small high low i byte is) (pairs_are_bytes (i + 2) rest more same))))

pub decoded_are_bytes : (text bytes : List ℕ) → decode_of text ≡ Ok bytes → AreBytes bytes
decoded_are_bytes text bytes e = cond_ok (length text % 2 == 1) (Err OddLength) (decode_pairs 0 text) bytes e (λ t q. no_value OddLength bytes q) (λ t q. pairs_are_bytes 0 text bytes q)
