-- What a link of a chain becomes has the value that the operator gives, at every width.
use Rattle.std.proofs.Common.{◌≡◌, ℕ, zero, suc, ◌+◌, ◌-◌, ◌*◌, ◌/◌, ◌%◌, ◌^◌, ◌<◌, ◌≤◌, Bool, true, false, Option, Some, None, refl, sym, ap, ◌∙◌, subst, arith, ℤ, pos, negsuc, ◌+ℤ◌, ◌-ℤ◌, ◌*ℤ◌, ◌⊎◌, inl, inr, min, bit_and, bit_or}
use Rattle.std.specs.Prelude.{if◌then◌else◌, nat_eq, nat_lt, nat_le, int_le, bit_xor, option_map}
use Rattle.std.proofs.Math.Pow.{pow_mono}
use Rattle.std.proofs.lemmas.Nat.{mul-le}
use Rattle.std.proofs.lemmas.Bool.{cases_lt}
use Rattle.std.proofs.lemmas.Bool.Decides.{nat_tests}
use Rattle.std.proofs.lemmas.Int.{ints}
use Rattle.wf_num.specs.declared.c_arithmetic.CTy.{CTy}
use Rattle.wf_num.specs.declared.c_arithmetic.CTy.TheVariants.{Int, U32}
use Rattle.wf_num.specs.CArithmetic.{c_width, modulo, c_value, is_int, c_result, c_product, c_shifted_left, c_shifted_right}
use Rattle.wf_num.proofs.CLaws.{c_limit, c_value-whole, c_sum-whole, c_difference-whole, c_product-whole, c_quotient-whole, c_remainder-whole, c_shifted_left-whole, c_shifted_right-whole}
use Rattle.wf_ast.specs.TypedTree.{Arith, plus, minus, times, divided, remainder, shift_left, shift_right, bits_and, bits_or, bits_xor, mod_plus, mod_minus, mod_times, mod_shift_left, sat_plus, sat_minus}
use Rattle.wf_ast.specs.Value.{fitted, only_if, applied}
use Rattle.wf_ast.specs.WellTyped.{is_width, is_shift}
use Rattle.c_text.specs.declared.kinds.COp.{COp}
use Rattle.c_text.specs.declared.kinds.COp.TheVariants.{Add, Sub, Mul, Div, Rem, Shl, Shr, BitAnd, BitOr, BitXor}
use Rattle.c_text.specs.CTree.{ExprTree, cast}
use Rattle.c_meaning.specs.declared.values.CValue.TheVariants.{Numeric as numeric}
use Rattle.c_meaning.specs.CValues.{number, common, of_type, arithmetic, class_of, arithmetics}
use Rattle.c_meaning.specs.CTypes.{type_of}
use Rattle.c_meaning.specs.CExprs.{Surroundings}
use Rattle.c_meaning.specs.CExprs as c
use Rattle.wf_exprs.specs.Words.{uint_of, two}
use Rattle.wf_exprs.specs.Exprs.{calculated, rank, Rated, recast, firm, balanced, saturated, cut_off, taken, linked, chained}
use Rattle.wf_exprs_laws.specs.ExprLaw.{DeclaresOperator}
use Rattle.wf_exprs_laws.proofs.CNumbers.{by_width, width-limit, width-of_calculated, common-turned}
use Rattle.wf_exprs_laws.proofs.Operands.{the-number, IsNumber, has-type, cast-typed, cast-value, taken-number, recast-number, firm-number, common-wider, balanced-number, Calculates, chained-number, calculated-number}

-- ---- what the source's operators say

pub fitted-some : (bits z r : ℕ) → fitted bits z ≡ Some r → (z ≡ r) × (r < 2 ^ bits)
fitted-some bits z r h = by (nat_lt z (2 ^ bits)) refl h
  where
    by : (test : Bool) → nat_lt z (2 ^ bits) ≡ test → (if test then Some z else None) ≡ Some r → (z ≡ r) × (r < 2 ^ bits)
    by true e k = let same : z ≡ r = cc k in (same, grind (arith, nat_tests, e, same))
    by false e k = absurd (cc k)

pub only-some : {X : Type 0} (test : Bool) (o : Option X) (r : X) → only_if test o ≡ Some r → (test ≡ true) × (o ≡ Some r)
only-some true o r h = (refl, h)
only-some false o r h = absurd (cc h)

-- ---- operators whose result fits

module _ (bits : ℕ) (w : is_width bits ≡ true) (x : Surroundings) (a b : Rated) (m n : ℕ) (h : IsNumber x a.code a.ty m) (g : IsNumber x b.code b.ty n) (small : m < 2 ^ bits) (left : rank a.ty ≤ rank (calculated bits)) where
  pub balanced-calculates : (joined : Bool) (op : COp) → class_of op ≡ arithmetics → rank b.ty ≤ rank (calculated bits)
      → Calculates x (chained joined op (balanced bits a b) b.code) (calculated bits) (arithmetic op (calculated bits) m n)
  balanced-calculates joined op k right =
      let l = balanced-number bits w x a b m h small left right in
      subst (λ ty. Calculates x (chained joined op (balanced bits a b) b.code) ty (arithmetic op ty m n)) l.together (chained-number x joined op k (balanced bits a b) b.code l.ty b.ty m n l.is g)

  fits : (joined : Bool) (op : COp) → class_of op ≡ arithmetics → rank b.ty ≤ rank (calculated bits) → (r : ℕ) → r < 2 ^ bits → arithmetic op (calculated bits) m n ≡ Some r
      → IsNumber x (chained joined op (balanced bits a b) b.code) (calculated bits) r
  fits joined op k right r s e = calculated-number x (chained joined op (balanced bits a b) b.code) (calculated bits) (arithmetic op (calculated bits) m n) r (balanced-calculates joined op k right) e (width-limit bits r w s)

  module _ (right : rank b.ty ≤ rank (calculated bits)) (few : n < 2 ^ bits) where
    p : m < c_limit (calculated bits)
    p = width-limit bits m w small

    q : n < c_limit (calculated bits)
    q = width-limit bits n w few

    pub plus-number : (joined : Bool) (r : ℕ) → applied plus bits m n ≡ Some r → IsNumber x (linked plus bits joined a b) (calculated bits) r
    plus-number joined r e =
        let f = fitted-some bits (m + n) r e in
        fits joined Add refl right r f.1 (c_sum-whole (calculated bits) m n p q (width-limit bits (m + n) w (omega (arith, f.0, f.1))) ∙ ap Some f.0)

    pub minus-number : (joined : Bool) (r : ℕ) → applied minus bits m n ≡ Some r → IsNumber x (linked minus bits joined a b) (calculated bits) r
    minus-number joined r e =
        let o = only-some (nat_le n m) (fitted bits (m - n)) r e in
        let f = fitted-some bits (m - n) r o.1 in
        fits false Sub refl right r f.1 (c_difference-whole (calculated bits) m n p (grind (arith, nat_tests, o.0)) ∙ ap Some f.0)

    pub times-number : (joined : Bool) (r : ℕ) → applied times bits m n ≡ Some r → IsNumber x (linked times bits joined a b) (calculated bits) r
    times-number joined r e =
        let f = fitted-some bits (m * n) r e in
        fits joined Mul refl right r f.1 (c_product-whole (calculated bits) m n p q (width-limit bits (m * n) w (omega (arith, f.0, f.1))) ∙ ap Some f.0)

    pub and-number : (joined : Bool) (r : ℕ) → applied bits_and bits m n ≡ Some r → IsNumber x (linked bits_and bits joined a b) (calculated bits) r
    and-number joined r e = let f = fitted-some bits (bit_and m n) r e in fits joined BitAnd refl right r f.1 (ap Some f.0)

    pub or-number : (joined : Bool) (r : ℕ) → applied bits_or bits m n ≡ Some r → IsNumber x (linked bits_or bits joined a b) (calculated bits) r
    or-number joined r e = let f = fitted-some bits (bit_or m n) r e in fits joined BitOr refl right r f.1 (ap Some f.0)

    pub xor-number : (joined : Bool) (r : ℕ) → applied bits_xor bits m n ≡ Some r → IsNumber x (linked bits_xor bits joined a b) (calculated bits) r
    xor-number joined r e = let f = fitted-some bits (bit_xor m n) r e in fits joined BitXor refl right r f.1 (ap Some f.0)

-- A divisor isn't 0.
pub divided-number : (bits : ℕ) → is_width bits ≡ true → (x : Surroundings) (joined : Bool) (a b : Rated) (m n : ℕ) → IsNumber x a.code a.ty m → IsNumber x b.code b.ty n
    → m < 2 ^ bits → rank a.ty ≤ rank (calculated bits) → rank b.ty ≤ rank (calculated bits) → n < 2 ^ bits
    → (r : ℕ) → applied divided bits m n ≡ Some r → IsNumber x (linked divided bits joined a b) (calculated bits) r
divided-number bits w x joined a b m zero h g s left right t r e = absurd (cc e)
divided-number bits w x joined a b m (suc n) h g s left right t r e =
    let f = fitted-some bits (m / suc n) r e in
    fits bits w x a b m (suc n) h g s left false Div refl right r f.1 (c_quotient-whole (calculated bits) m (suc n) (width-limit bits m w s) (width-limit bits (suc n) w t) (omega arith) ∙ ap Some f.0)

pub remainder-number : (bits : ℕ) → is_width bits ≡ true → (x : Surroundings) (joined : Bool) (a b : Rated) (m n : ℕ) → IsNumber x a.code a.ty m → IsNumber x b.code b.ty n
    → m < 2 ^ bits → rank a.ty ≤ rank (calculated bits) → rank b.ty ≤ rank (calculated bits) → n < 2 ^ bits
    → (r : ℕ) → applied remainder bits m n ≡ Some r → IsNumber x (linked remainder bits joined a b) (calculated bits) r
remainder-number bits w x joined a b m zero h g s left right t r e = absurd (cc e)
remainder-number bits w x joined a b m (suc n) h g s left right t r e =
    let f = fitted-some bits (m % suc n) r e in
    fits bits w x a b m (suc n) h g s left false Rem refl right r f.1 (c_remainder-whole (calculated bits) m (suc n) (width-limit bits m w s) (width-limit bits (suc n) w t) (omega arith) ∙ ap Some f.0)

-- ---- shifts

pub shift_left-calculates : (x : Surroundings) (a e : ExprTree) (ta te : CTy) (m n : ℕ) → IsNumber x a ta m → IsNumber x e te n → Calculates x (two Shl a e) ta (c_shifted_left ta m n)
shift_left-calculates x a e ta te m n h g =
    let s = has-type (type_of x.scope a) ta h.gives.type in
    let t = has-type (type_of x.scope e) te g.gives.type in
    record { type = rw (s.is, t.is, s.number, t.number) refl; value = rw (h.gives.value, g.gives.value) refl }

pub shift_right-calculates : (x : Surroundings) (a e : ExprTree) (ta te : CTy) (m n : ℕ) → IsNumber x a ta m → IsNumber x e te n → Calculates x (two Shr a e) ta (c_shifted_right ta m n)
shift_right-calculates x a e ta te m n h g =
    let s = has-type (type_of x.scope a) ta h.gives.type in
    let t = has-type (type_of x.scope e) te g.gives.type in
    record { type = rw (s.is, t.is, s.number, t.number) refl; value = rw (h.gives.value, g.gives.value) refl }

module _ (bits : ℕ) (w : is_width bits ≡ true) (x : Surroundings) (joined : Bool) (a b : Rated) (m n : ℕ) (h : IsNumber x a.code a.ty m) (g : IsNumber x b.code b.ty n) (small : m < 2 ^ bits) where
  narrow-width : n < bits → n < c_width (calculated bits)
  narrow-width s = omega (arith, s, width-of_calculated bits w)

  pub shift_left-number : (r : ℕ) → applied shift_left bits m n ≡ Some r → IsNumber x (linked shift_left bits joined a b) (calculated bits) r
  shift_left-number r e =
      let o = only-some (nat_lt n bits) (fitted bits (m * 2 ^ n)) r e in
      let f = fitted-some bits (m * 2 ^ n) r o.1 in
      let narrow : n < bits = grind (arith, nat_tests, o.0) in
      calculated-number x _ (calculated bits) (c_shifted_left (calculated bits) m n) r
      (shift_left-calculates x (firm bits a) b.code (calculated bits) b.ty m n (firm-number bits w x a m h small) g)
      (c_shifted_left-whole (calculated bits) m n (narrow-width narrow) (width-limit bits m w small) (width-limit bits (m * 2 ^ n) w (omega (arith, f.0, f.1))) ∙ ap Some f.0)
      (width-limit bits r w f.1)

  pub shift_right-number : (r : ℕ) → applied shift_right bits m n ≡ Some r → IsNumber x (linked shift_right bits joined a b) (calculated bits) r
  shift_right-number r e =
      let o = only-some (nat_lt n bits) (fitted bits (m / 2 ^ n)) r e in
      let f = fitted-some bits (m / 2 ^ n) r o.1 in
      let narrow : n < bits = grind (arith, nat_tests, o.0) in
      calculated-number x _ (calculated bits) (c_shifted_right (calculated bits) m n) r
      (shift_right-calculates x (firm bits a) b.code (calculated bits) b.ty m n (firm-number bits w x a m h small) g)
      (c_shifted_right-whole (calculated bits) m n (narrow-width narrow) (width-limit bits m w small) ∙ ap Some f.0)
      (width-limit bits r w f.1)

-- ---- operators modulo a power of 2

-- The bits of an `int` have the value of the result that they are of.
pub int-value : (z : ℤ) → is_int z ≡ true → c_value Int (modulo z (2 ^ 32)) ≡ z
int-value (pos n) h =
    let s : n < 2 ^ 31 = grind (arith, ints, nat_tests, h) in
    let e : n % 2 ^ 32 ≡ n = omega (arith, s) in rw e (c_value-whole Int n s)
int-value (negsuc n) h =
    let s : n < 2 ^ 31 = grind (arith, ints, nat_tests, h) in
    let e : (2 ^ 32 - 1 - n % 2 ^ 32) % 2 ^ 32 ≡ 2 ^ 32 - 1 - n = omega (arith, s) in
    let t : nat_lt (2 ^ 32 - 1 - n) (2 ^ 31) ≡ false = grind (arith, nat_tests, s) in
    let v : pos (2 ^ 32 - 1 - n) -ℤ pos (2 ^ 32) ≡ negsuc n = omega (arith, ints, s) in rw (e, t) v

below-modulo : (z : ℤ) (bits : ℕ) → is_width bits ≡ true → modulo z (2 ^ bits) < 2 ^ bits
below-modulo (pos n) bits w = by_width (λ bits. n % 2 ^ bits < 2 ^ bits) bits w (omega arith) (omega arith) (omega arith) (omega arith)
below-modulo (negsuc n) bits w = by_width (λ bits. 2 ^ bits - 1 - n % 2 ^ bits < 2 ^ bits) bits w (omega arith) (omega arith) (omega arith) (omega arith)

-- A result is cut off to its width: C's own type does so from 32 bits on, a cast below.
pub cut-number : (bits : ℕ) → is_width bits ≡ true → (x : Surroundings) (e : ExprTree) (z : ℤ) → (bits ≤ 16 → is_int z ≡ true)
    → Calculates x e (calculated bits) (c_result (calculated bits) z) → IsNumber x (cut_off bits e) (calculated bits) (modulo z (2 ^ bits))
cut-number bits w x e z int = by_width P bits w (narrow 8 refl refl (omega arith)) (narrow 16 refl refl (omega arith)) (wide 32 refl refl) (wide 64 refl refl) int
  where
    P : ℕ → Type 0
    P bits = (bits ≤ 16 → is_int z ≡ true) → Calculates x e (calculated bits) (c_result (calculated bits) z) → IsNumber x (cut_off bits e) (calculated bits) (modulo z (2 ^ bits))

    narrow : (bits : ℕ) → is_width bits ≡ true → calculated bits ≡ Int → bits ≤ 16 → (bits ≤ 16 → is_int z ≡ true) → Calculates x e (calculated bits) (c_result (calculated bits) z)
        → IsNumber x (cast (uint_of bits) e) (calculated bits) (modulo z (2 ^ bits))
    narrow bits w is_small le int h =
        let i = int le in
        let k : Calculates x e Int (c_result Int z) = subst (λ ty. Calculates x e ty (c_result ty z)) is_small h in
        let v : c.value x e ≡ Some (numeric (number Int (modulo z (2 ^ 32)))) = k.value ∙ rw i refl in
        record {
          gives = record {
            type = cast-typed bits w x.scope e Int k.type;
            value = cast-value bits w x e (number Int (modulo z (2 ^ 32))) v ∙ ap (λ z. Some (numeric (number (calculated bits) (modulo z (2 ^ bits))))) (int-value z i);
          };
          small = width-limit bits (modulo z (2 ^ bits)) w (below-modulo z bits w);
        }

    wide : (bits : ℕ) → is_width bits ≡ true → c_result (calculated bits) z ≡ Some (modulo z (2 ^ bits)) → (bits ≤ 16 → is_int z ≡ true) → Calculates x e (calculated bits) (c_result (calculated bits) z)
        → IsNumber x e (calculated bits) (modulo z (2 ^ bits))
    wide bits w r int h = calculated-number x e (calculated bits) (c_result (calculated bits) z) (modulo z (2 ^ bits)) h r (width-limit bits (modulo z (2 ^ bits)) w (below-modulo z bits w))

-- Whole numbers of small widths are in `int`.
int-pos : (n : ℕ) → n < 2 ^ 31 → is_int (pos n) ≡ true
int-pos n h = grind (arith, nat_tests, h)

int-difference : (m n : ℕ) → m < 2 ^ 31 → n < 2 ^ 31 → is_int (pos m -ℤ pos n) ≡ true
int-difference m n p q = by (cases_lt m n)
  where
    by : (m < n) ⊎ (n ≤ m) → is_int (pos m -ℤ pos n) ≡ true
    by (inl l) =
        let e : pos m -ℤ pos n ≡ negsuc (n - m - 1) = omega (arith, ints, l) in
        let k : n - m - 1 ≤ 2 ^ 31 - 1 = omega (arith, l, q) in
        rw e (grind (arith, nat_tests, k))
    by (inr g) =
        let e : pos m -ℤ pos n ≡ pos (m - n) = omega (arith, ints, g) in rw e (int-pos (m - n) (omega (arith, p)))

difference-modulo : (bits m n : ℕ) → is_width bits ≡ true → m < 2 ^ bits → n < 2 ^ bits → modulo (pos m -ℤ pos n) (2 ^ bits) ≡ (m + (2 ^ bits - n)) % 2 ^ bits
difference-modulo bits m n w p q = by (cases_lt m n)
  where
    by : (m < n) ⊎ (n ≤ m) → modulo (pos m -ℤ pos n) (2 ^ bits) ≡ (m + (2 ^ bits - n)) % 2 ^ bits
    by (inl l) =
        let e : pos m -ℤ pos n ≡ negsuc (n - m - 1) = omega (arith, ints, l) in
        rw e (by_width (λ bits. n < 2 ^ bits → 2 ^ bits - 1 - (n - m - 1) % 2 ^ bits ≡ (m + (2 ^ bits - n)) % 2 ^ bits) bits w
        (λ k. omega (arith, k, l)) (λ k. omega (arith, k, l)) (λ k. omega (arith, k, l)) (λ k. omega (arith, k, l)) q)
    by (inr g) =
        let e : pos m -ℤ pos n ≡ pos (m - n) = omega (arith, ints, g) in
        rw e (by_width (λ bits. m < 2 ^ bits → (m - n) % 2 ^ bits ≡ (m + (2 ^ bits - n)) % 2 ^ bits) bits w
        (λ k. omega (arith, k, g)) (λ k. omega (arith, k, g)) (λ k. omega (arith, k, g)) (λ k. omega (arith, k, g)) p)

narrow-limit : (bits n : ℕ) → bits ≤ 16 → n < 2 ^ bits → n < 2 ^ 16
narrow-limit bits n h k = omega (arith, k, pow_mono h)

module _ (bits : ℕ) (w : is_width bits ≡ true) (x : Surroundings) (joined : Bool) (a b : Rated) (m n : ℕ) (h : IsNumber x a.code a.ty m) (g : IsNumber x b.code b.ty n) (small : m < 2 ^ bits) (left : rank a.ty ≤ rank (calculated bits)) (right : rank b.ty ≤ rank (calculated bits)) (few : n < 2 ^ bits) where
  m_limit : m < c_limit (calculated bits)
  m_limit = width-limit bits m w small

  n_limit : n < c_limit (calculated bits)
  n_limit = width-limit bits n w few

  pub mod_plus-number : (r : ℕ) → applied mod_plus bits m n ≡ Some r → IsNumber x (linked mod_plus bits joined a b) (calculated bits) r
  mod_plus-number r e =
      let same : (m + n) % 2 ^ bits ≡ r = cc e in
      let k = balanced-calculates bits w x a b m n h g small left false Add refl right in
      let t : Calculates x (two Add (balanced bits a b) b.code) (calculated bits) (c_result (calculated bits) (pos m +ℤ pos n)) =
      subst (λ z. Calculates x (two Add (balanced bits a b) b.code) (calculated bits) z) (rw (c_value-whole (calculated bits) m m_limit, c_value-whole (calculated bits) n n_limit) refl) k in
      subst (λ r. IsNumber x (cut_off bits (two Add (balanced bits a b) b.code)) (calculated bits) r) same
      (cut-number bits w x (two Add (balanced bits a b) b.code) (pos (m + n)) (λ le. int-pos (m + n) (omega (arith, narrow-limit bits m le small, narrow-limit bits n le few))) t)

  pub mod_minus-number : (r : ℕ) → applied mod_minus bits m n ≡ Some r → IsNumber x (linked mod_minus bits joined a b) (calculated bits) r
  mod_minus-number r e =
      let same : (m + (2 ^ bits - n)) % 2 ^ bits ≡ r = cc e in
      let k = balanced-calculates bits w x a b m n h g small left false Sub refl right in
      let t : Calculates x (two Sub (balanced bits a b) b.code) (calculated bits) (c_result (calculated bits) (pos m -ℤ pos n)) =
      subst (λ z. Calculates x (two Sub (balanced bits a b) b.code) (calculated bits) z) (rw (c_value-whole (calculated bits) m m_limit, c_value-whole (calculated bits) n n_limit) refl) k in
      subst (λ r. IsNumber x (cut_off bits (two Sub (balanced bits a b) b.code)) (calculated bits) r) (difference-modulo bits m n w small few ∙ same)
      (cut-number bits w x (two Sub (balanced bits a b) b.code) (pos m -ℤ pos n) (λ le. int-difference m n (omega (arith, narrow-limit bits m le small)) (omega (arith, narrow-limit bits n le few))) t)

  -- of 8, 32 and 64 bits
  times-by_width : (bits ≤ 16 → m * n < 2 ^ 31) → (r : ℕ) → applied mod_times bits m n ≡ Some r
      → IsNumber x (cut_off bits (two Mul (balanced bits a b) b.code)) (calculated bits) r
  times-by_width int r e =
      let same : (m * n) % 2 ^ bits ≡ r = cc e in
      let k = balanced-calculates bits w x a b m n h g small left false Mul refl right in
      let t : Calculates x (two Mul (balanced bits a b) b.code) (calculated bits) (c_result (calculated bits) (pos m *ℤ pos n)) =
      subst (λ z. Calculates x (two Mul (balanced bits a b) b.code) (calculated bits) z) (rw (c_value-whole (calculated bits) m m_limit, c_value-whole (calculated bits) n n_limit) refl) k in
      subst (λ r. IsNumber x (cut_off bits (two Mul (balanced bits a b) b.code)) (calculated bits) r) same
      (cut-number bits w x (two Mul (balanced bits a b) b.code) (pos (m * n)) (λ le. int-pos (m * n) (int le)) t)

  -- of 16 bits: in the type of 32, since two numbers of 16 bits would leave `int`
  times-in_word : bits ≡ 16 → (r : ℕ) → applied mod_times bits m n ≡ Some r → IsNumber x (cut_off bits (two Mul (recast 32 a.code) b.code)) (calculated bits) r
  times-in_word sixteen r e =
      let m_few : m < 2 ^ 16 = subst (λ bits. m < 2 ^ bits) sixteen small in
      let n_few : n < 2 ^ 16 = subst (λ bits. n < 2 ^ bits) sixteen few in
      let narrow : rank b.ty ≤ 0 = subst (λ bits. rank b.ty ≤ rank (calculated bits)) sixteen right in
      let l : IsNumber x (recast 32 a.code) U32 m = recast-number 32 refl x a.code a.ty m h (omega (arith, m_few)) in
      let together : common U32 b.ty ≡ U32 = common-turned U32 b.ty ∙ common-wider b.ty U32 (omega (arith, narrow)) in
      let k : Calculates x (two Mul (recast 32 a.code) b.code) U32 (c_product U32 m n) =
      subst (λ ty. Calculates x (two Mul (recast 32 a.code) b.code) ty (c_product ty m n)) together (chained-number x false Mul refl (recast 32 a.code) b.code U32 b.ty m n l g) in
      let m_same : m % 2 ^ 32 ≡ m = omega (arith, m_few) in
      let n_same : n % 2 ^ 32 ≡ n = omega (arith, n_few) in
      let result : c_product U32 m n ≡ Some ((m * n) % 2 ^ 32) = rw (m_same, n_same) refl in
      let v : c.value x (two Mul (recast 32 a.code) b.code) ≡ Some (numeric (number U32 ((m * n) % 2 ^ 32))) = k.value ∙ ap (λ r. option_map numeric (of_type U32 r)) result in
      let same : ((m * n) % 2 ^ 32 % 2 ^ 32) % 2 ^ 16 ≡ (m * n) % 2 ^ 16 = omega arith in
      let at : (m * n) % 2 ^ 16 ≡ r = subst (λ bits. (m * n) % 2 ^ bits ≡ r) sixteen (cc e) in
      let it : IsNumber x (cast (uint_of 16) (two Mul (recast 32 a.code) b.code)) Int r = record {
        gives = record {
          type = cast-typed 16 refl x.scope (two Mul (recast 32 a.code) b.code) U32 k.type;
          value = cast-value 16 refl x (two Mul (recast 32 a.code) b.code) (number U32 ((m * n) % 2 ^ 32)) v ∙ ap (λ r. Some (numeric (number Int r))) (same ∙ at);
        };
        small = omega (arith, at);
      } in
      subst (λ bits. IsNumber x (cut_off bits (two Mul (recast 32 a.code) b.code)) (calculated bits) r) (sym sixteen) it

  pub mod_times-number : (r : ℕ) → applied mod_times bits m n ≡ Some r → IsNumber x (linked mod_times bits joined a b) (calculated bits) r
  mod_times-number r e = by (nat_eq bits 16) refl
    where
      by : (test : Bool) → nat_eq bits 16 ≡ test → IsNumber x (cut_off bits (two Mul (if test then recast 32 a.code else balanced bits a b) b.code)) (calculated bits) r
      by true t =
          let sixteen : bits ≡ 16 = grind (arith, nat_tests, t) in
          times-in_word sixteen r e
      by false t = times-by_width (λ le.
          let eight : bits ≤ 8 = by_width (λ bits. nat_eq bits 16 ≡ false → bits ≤ 16 → bits ≤ 8) bits w (λ _ _. omega arith) (λ f _. absurd (cc f)) (λ _ k. absurd (omega (arith, k))) (λ _ k. absurd (omega (arith, k))) t le in
          let i : m ≤ 2 ^ 8 - 1 = omega (arith, small, pow_mono eight) in
          let j : n ≤ 2 ^ 8 - 1 = omega (arith, few, pow_mono eight) in
          omega (arith, mul-le m n (2 ^ 8 - 1) (2 ^ 8 - 1) i j)) r e

pub mod_shift_left-number : (bits : ℕ) → is_width bits ≡ true → (x : Surroundings) (joined : Bool) (a b : Rated) (m n : ℕ) → IsNumber x a.code a.ty m → IsNumber x b.code b.ty n
    → m < 2 ^ bits → (r : ℕ) → applied mod_shift_left bits m n ≡ Some r → IsNumber x (linked mod_shift_left bits joined a b) (calculated bits) r
mod_shift_left-number bits w x joined a b m n h g small r e =
    let o = only-some (nat_lt n bits) (Some ((m * 2 ^ n) % 2 ^ bits)) r e in
    let same : (m * 2 ^ n) % 2 ^ bits ≡ r = cc (o.1) in
    let narrow : n < bits = grind (arith, nat_tests, o.0) in
    let t : nat_lt n (c_width (calculated bits)) ≡ true = grind (arith, nat_tests, narrow-width bits w x joined a b m n h g small narrow) in
    let s : int_le (pos 0) (pos m) ≡ true = grind (arith, nat_tests) in
    let result : c_shifted_left (calculated bits) m n ≡ c_result (calculated bits) (pos m *ℤ pos (2 ^ n)) = rw (t, c_value-whole (calculated bits) m (width-limit bits m w small), s) refl in
    let k = shift_left-calculates x (firm bits a) b.code (calculated bits) b.ty m n (firm-number bits w x a m h small) g in
    subst (λ r. IsNumber x (cut_off bits (two Shl (firm bits a) b.code)) (calculated bits) r) same
    (cut-number bits w x (two Shl (firm bits a) b.code) (pos (m * 2 ^ n))
    (λ le. int-pos (m * 2 ^ n) (
    let i : m ≤ 2 ^ 16 - 1 = omega (arith, narrow-limit bits m le small) in
    let j : n ≤ 15 = omega (arith, narrow, le) in
    let u : 2 ^ n ≤ 2 ^ 15 = pow_mono j in
    omega (arith, mul-le m (2 ^ n) (2 ^ 16 - 1) (2 ^ 15) i u)))
    (subst (λ z. Calculates x (two Shl (firm bits a) b.code) (calculated bits) z) result k))

-- ---- all of them

capped-below : (bits m n : ℕ) → is_width bits ≡ true → min (m + n) (2 ^ bits - 1) < 2 ^ bits
capped-below bits m n w = by_width (λ bits. min (m + n) (2 ^ bits - 1) < 2 ^ bits) bits w (omega arith) (omega arith) (omega arith) (omega arith)

-- What an operator gives is in its width.
pub applied-below : (op : Arith) (bits m n r : ℕ) → is_width bits ≡ true → m < 2 ^ bits → applied op bits m n ≡ Some r → r < 2 ^ bits
applied-below plus bits m n r w h e = (fitted-some bits (m + n) r e).1
applied-below minus bits m n r w h e = (fitted-some bits (m - n) r (only-some (nat_le n m) (fitted bits (m - n)) r e).1).1
applied-below times bits m n r w h e = (fitted-some bits (m * n) r e).1
applied-below divided bits m zero r w h e = absurd (cc e)
applied-below divided bits m (suc n) r w h e = (fitted-some bits (m / suc n) r e).1
applied-below remainder bits m zero r w h e = absurd (cc e)
applied-below remainder bits m (suc n) r w h e = (fitted-some bits (m % suc n) r e).1
applied-below shift_left bits m n r w h e = (fitted-some bits (m * 2 ^ n) r (only-some (nat_lt n bits) (fitted bits (m * 2 ^ n)) r e).1).1
applied-below shift_right bits m n r w h e = (fitted-some bits (m / 2 ^ n) r (only-some (nat_lt n bits) (fitted bits (m / 2 ^ n)) r e).1).1
applied-below bits_and bits m n r w h e = (fitted-some bits (bit_and m n) r e).1
applied-below bits_or bits m n r w h e = (fitted-some bits (bit_or m n) r e).1
applied-below bits_xor bits m n r w h e = (fitted-some bits (bit_xor m n) r e).1
applied-below mod_plus bits m n r w h e = let s : (m + n) % 2 ^ bits ≡ r = cc e in subst (λ r. r < 2 ^ bits) s (below-modulo (pos (m + n)) bits w)
applied-below mod_minus bits m n r w h e = let s : (m + (2 ^ bits - n)) % 2 ^ bits ≡ r = cc e in subst (λ r. r < 2 ^ bits) s (below-modulo (pos (m + (2 ^ bits - n))) bits w)
applied-below mod_times bits m n r w h e = let s : (m * n) % 2 ^ bits ≡ r = cc e in subst (λ r. r < 2 ^ bits) s (below-modulo (pos (m * n)) bits w)
applied-below mod_shift_left bits m n r w h e =
    let s : (m * 2 ^ n) % 2 ^ bits ≡ r = cc ((only-some (nat_lt n bits) (Some ((m * 2 ^ n) % 2 ^ bits)) r e).1) in
    subst (λ r. r < 2 ^ bits) s (below-modulo (pos (m * 2 ^ n)) bits w)
applied-below sat_plus bits m n r w h e = let s : min (m + n) (2 ^ bits - 1) ≡ r = cc e in subst (λ r. r < 2 ^ bits) s (capped-below bits m n w)
applied-below sat_minus bits m n r w h e = let s : m - n ≡ r = cc e in omega (arith, h, s)

-- A link is the number that its operator gives. The right operand of a shift may be of any width.
module _ (bits : ℕ) (w : is_width bits ≡ true) (x : Surroundings) (joined : Bool) (a b : Rated) (m n : ℕ) (h : IsNumber x a.code a.ty m) (g : IsNumber x b.code b.ty n) (small : m < 2 ^ bits) (left : rank a.ty ≤ rank (calculated bits)) where
  pub linked-number : (op : Arith) → DeclaresOperator x op bits → (is_shift op ≡ false → (n < 2 ^ bits) × (rank b.ty ≤ rank (calculated bits))) → (r : ℕ) → applied op bits m n ≡ Some r
      → IsNumber x (linked op bits joined a b) (calculated bits) r
  linked-number plus d k r e = let f = k refl in plus-number bits w x a b m n h g small left f.1 f.0 joined r e
  linked-number minus d k r e = let f = k refl in minus-number bits w x a b m n h g small left f.1 f.0 joined r e
  linked-number times d k r e = let f = k refl in times-number bits w x a b m n h g small left f.1 f.0 joined r e
  linked-number divided d k r e = let f = k refl in divided-number bits w x joined a b m n h g small left f.1 f.0 r e
  linked-number remainder d k r e = let f = k refl in remainder-number bits w x joined a b m n h g small left f.1 f.0 r e
  linked-number shift_left d k r e = shift_left-number bits w x joined a b m n h g small r e
  linked-number shift_right d k r e = shift_right-number bits w x joined a b m n h g small r e
  linked-number bits_and d k r e = let f = k refl in and-number bits w x a b m n h g small left f.1 f.0 joined r e
  linked-number bits_or d k r e = let f = k refl in or-number bits w x a b m n h g small left f.1 f.0 joined r e
  linked-number bits_xor d k r e = let f = k refl in xor-number bits w x a b m n h g small left f.1 f.0 joined r e
  linked-number mod_plus d k r e = let f = k refl in mod_plus-number bits w x joined a b m n h g small left f.1 f.0 r e
  linked-number mod_minus d k r e = let f = k refl in mod_minus-number bits w x joined a b m n h g small left f.1 f.0 r e
  linked-number mod_times d k r e = let f = k refl in mod_times-number bits w x joined a b m n h g small left f.1 f.0 r e
  linked-number mod_shift_left d k r e = mod_shift_left-number bits w x joined a b m n h g small r e
  linked-number sat_plus d k r e =
      let s : min (m + n) (2 ^ bits - 1) ≡ r = cc e in
      let f = k refl in
      let l = taken-number bits w x a.code a.ty m h small in
      let t = taken-number bits w x b.code b.ty n g f.0 in
      subst (λ r. IsNumber x (saturated true bits (taken bits a.code) (taken bits b.code)) (calculated bits) r) s
      (record { gives = d (taken bits a.code) (taken bits b.code) l.0 t.0 m n w small f.0 (the-number x (taken bits a.code) l.0 m l.1) (the-number x (taken bits b.code) t.0 n t.1); small = width-limit bits (min (m + n) (2 ^ bits - 1)) w (capped-below bits m n w) })
  linked-number sat_minus d k r e =
      let s : m - n ≡ r = cc e in
      let f = k refl in
      let l = taken-number bits w x a.code a.ty m h small in
      let t = taken-number bits w x b.code b.ty n g f.0 in
      subst (λ r. IsNumber x (saturated false bits (taken bits a.code) (taken bits b.code)) (calculated bits) r) s
      (record { gives = d (taken bits a.code) (taken bits b.code) l.0 t.0 m n w small f.0 (the-number x (taken bits a.code) l.0 m l.1) (the-number x (taken bits b.code) t.0 n t.1); small = width-limit bits (m - n) w (omega (arith, small)) })
