-- Numbers of C whose types represent them: conversions keep them, and operators give what whole numbers give.
use Rattle.std.proofs.Common.{◌≡◌, ℕ, ◌%◌, ◌^◌, ◌<◌, ◌≤◌, true, not, ◌&&◌, Some, refl, ap, ◌∙◌, subst, arith, pos, inl, inr}
use Rattle.std.specs.Prelude.{nat_eq, nat_le, option_map}
use Rattle.std.proofs.lemmas.Bool.{or_cases}
use Rattle.std.proofs.lemmas.Bool.Decides.{nat_tests}
use Rattle.wf_num.specs.declared.c_arithmetic.CTy.{CTy}
use Rattle.wf_num.specs.declared.c_arithmetic.CTy.TheVariants.{Int, U32, U64}
use Rattle.wf_num.specs.CArithmetic.{c_width, modulo, c_value}
use Rattle.wf_num.proofs.CLaws.{c_limit, c_value-whole}
use Rattle.wf_ast.specs.TypedTree.{Order, less, at_most, equal, differs, at_least, greater}
use Rattle.wf_ast.specs.Value.{compares}
use Rattle.wf_ast.specs.WellTyped.{is_width}
use Rattle.c_text.specs.declared.kinds.COp.{COp}
use Rattle.c_meaning.specs.CValues.{number, common, truth, of_type, arithmetic, compared, arithmetics, comparison, operated_as}
use Rattle.wf_exprs.specs.Exprs.{calculated, order_op}

-- A statement on every width.
pub by_width : (P : ℕ → Type 0) (bits : ℕ) → is_width bits ≡ true → P 8 → P 16 → P 32 → P 64 → P bits
by_width P bits h p8 p16 p32 p64 =
    elim (or_cases (nat_eq bits 8) _ h) [
      | inl a ↦ let e : 8 ≡ bits = grind (arith, nat_tests, a) in subst P e p8
      | inr r ↦ elim (or_cases (nat_eq bits 16) _ r) [
        | inl a ↦ let e : 16 ≡ bits = grind (arith, nat_tests, a) in subst P e p16
        | inr q ↦ elim (or_cases (nat_eq bits 32) _ q) [
          | inl a ↦ let e : 32 ≡ bits = grind (arith, nat_tests, a) in subst P e p32
          | inr a ↦ let e : 64 ≡ bits = grind (arith, nat_tests, a) in subst P e p64
        ]
      ]
    ]

-- Numbers of so many bits are in the type in which C calculates with them.
pub width-limit : (bits n : ℕ) → is_width bits ≡ true → n < 2 ^ bits → n < c_limit (calculated bits)
width-limit bits n w = by_width (λ bits. n < 2 ^ bits → n < c_limit (calculated bits)) bits w (λ h. omega (arith, h)) (λ h. omega (arith, h)) (λ h. h) (λ h. h)

pub width-of_calculated : (bits : ℕ) → is_width bits ≡ true → bits ≤ c_width (calculated bits)
width-of_calculated bits w = by_width (λ bits. bits ≤ c_width (calculated bits)) bits w (omega arith) (omega arith) (omega arith) (omega arith)

pub limit-width : (ty : CTy) (n : ℕ) → n < c_limit ty → n < 2 ^ c_width ty
limit-width Int n h = omega (arith, h)
limit-width U32 n h = h
limit-width U64 n h = h

-- The type of two operands represents what theirs do.
pub limit-left : (a b : CTy) (n : ℕ) → n < c_limit a → n < c_limit (common a b)
limit-left Int Int n h = h
limit-left Int U32 n h = omega (arith, h)
limit-left Int U64 n h = omega (arith, h)
limit-left U32 Int n h = h
limit-left U32 U32 n h = h
limit-left U32 U64 n h = omega (arith, h)
limit-left U64 b n h = h

pub common-turned : (a b : CTy) → common a b ≡ common b a
common-turned Int Int = refl
common-turned Int U32 = refl
common-turned Int U64 = refl
common-turned U32 Int = refl
common-turned U32 U32 = refl
common-turned U32 U64 = refl
common-turned U64 Int = refl
common-turned U64 U32 = refl
common-turned U64 U64 = refl

pub limit-right : (a b : CTy) (n : ℕ) → n < c_limit b → n < c_limit (common a b)
limit-right a b n h = subst (λ ty. n < c_limit ty) (common-turned b a) (limit-left b a n h)

-- A conversion keeps a number that both types represent.
pub kept : (to from : CTy) (n : ℕ) → n < c_limit from → n < 2 ^ c_width to → modulo (c_value from n) (2 ^ c_width to) ≡ n
kept to from n h k = rw (c_value-whole from n h) (small to n k)
  where
    small : (ty : CTy) (n : ℕ) → n < 2 ^ c_width ty → n % 2 ^ c_width ty ≡ n
    small Int n h = omega (arith, h)
    small U32 n h = omega (arith, h)
    small U64 n h = omega (arith, h)

-- Both operands are converted to one type, and stay what they are.
pub same-arithmetic : (op : COp) (a b : CTy) (m n : ℕ) → m < c_limit a → n < c_limit b
    → operated_as arithmetics op (number a m) (number b n) ≡ of_type (common a b) (arithmetic op (common a b) m n)
same-arithmetic op a b m n p q =
    rw (kept (common a b) a m p (limit-width (common a b) m (limit-left a b m p)), kept (common a b) b n q (limit-width (common a b) n (limit-right a b n q))) refl

same-comparison : (op : COp) (a b : CTy) (m n : ℕ) → m < c_limit a → n < c_limit b
    → operated_as comparison op (number a m) (number b n) ≡ option_map truth (compared op (pos m) (pos n))
same-comparison op a b m n p q =
    rw (
      kept (common a b) a m p (limit-width (common a b) m (limit-left a b m p)),
      kept (common a b) b n q (limit-width (common a b) n (limit-right a b n q)),
      c_value-whole (common a b) m (limit-left a b m p),
      c_value-whole (common a b) n (limit-right a b n q),
    ) refl

-- Comparisons compare whole numbers.
both-ways : (m n : ℕ) → (nat_le m n && nat_le n m) ≡ nat_eq m n
both-ways m n = grind (arith, nat_tests)

compares-whole : (op : Order) (m n : ℕ) → compared (order_op op) (pos m) (pos n) ≡ Some (compares op m n)
compares-whole less m n = refl
compares-whole at_most m n = refl
compares-whole equal m n = ap Some (both-ways m n)
compares-whole differs m n = ap (λ b. Some (not b)) (both-ways m n)
compares-whole at_least m n = refl
compares-whole greater m n = refl

pub comparison-whole : (op : Order) (a b : CTy) (m n : ℕ) → m < c_limit a → n < c_limit b
    → operated_as comparison (order_op op) (number a m) (number b n) ≡ Some (truth (compares op m n))
comparison-whole op a b m n p q = same-comparison (order_op op) a b m n p q ∙ ap (option_map truth) (compares-whole op m n)
