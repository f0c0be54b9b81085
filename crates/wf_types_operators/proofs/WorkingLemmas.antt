-- Constants worked out with a number that is let go beyond 64 bits are the constants that the rules work out.
use Rattle.std.proofs.Common.{◌≡◌, ℕ, zero, suc, ◌+◌, ◌*◌, ◌^◌, ◌<◌, ◌≤◌, bit_and, bit_or, bit_xor, Bool, true, false, ◌&&◌, if◌then◌else◌, List, [], ◌∷◌, Option, Some, None, option_and_then, nat_eq, nat_lt, refl, sym, ap, ◌∙◌, arith}
use Rattle.std.specs.List.{list_all}
use Rattle.std.proofs.lemmas.Bool.Decides.{nat_tests}
use Rattle.wf_base.specs.declared.widths.Width.{Width}
use Rattle.wf_base.specs.declared.widths.Width.TheVariants.{W8, W16, W32, W64}
use Rattle.wf_ast.specs.TypedTree.{plus, times, bits_and, bits_or, bits_xor}
use Rattle.wf_ast.specs.TypedTrees.{OperatorKind, arithmetic, ordering, joining}
use Rattle.wf_ast.specs.Value.{fitted}
use Rattle.wf_types_rules.specs.declared.meanings.Meaning.{Meaning}
use Rattle.wf_types_rules.specs.declared.meanings.Meaning.TheVariants as meanings
use Rattle.wf_types_rules.specs.declared.meanings.Operand.{Operand}
use Rattle.wf_types_rules.specs.Meanings.{is_constant, constant_number}
use Rattle.wf_types_rules.specs.Operands.{bits_in, joined_numbers, with_number, constants_in, constant_of, number_in}
use Rattle.wf_types_operators.specs.Working.{number_or_zero, numbers, capped, folded, capped_by, value_by, joins, width_by, computed_by}

-- A number beyond 64 bits lies in no width.
beyond : (n : ℕ) → nat_lt n (2 ^ 64) ≡ false → (width : Option Width) → fitted (bits_in width) n ≡ None
beyond n h None = rw h refl
beyond n h (Some W8) = let k : nat_lt n (2 ^ 8) ≡ false = grind (arith, nat_tests, h) in rw k refl
beyond n h (Some W16) = let k : nat_lt n (2 ^ 16) ≡ false = grind (arith, nat_tests, h) in rw k refl
beyond n h (Some W32) = let k : nat_lt n (2 ^ 32) ≡ false = grind (arith, nat_tests, h) in rw k refl
beyond n h (Some W64) = rw h refl

fits_again : (width : Option Width) (n : ℕ) → option_and_then (fitted (bits_in width)) (fitted 64 n) ≡ fitted (bits_in width) n
fits_again width n = by_size (nat_lt n (2 ^ 64)) refl
  where
    by_size : (b : Bool) → nat_lt n (2 ^ 64) ≡ b → option_and_then (fitted (bits_in width)) (if b then Some n else None) ≡ fitted (bits_in width) n
    by_size true e = refl
    by_size false e = sym (beyond n e width)

fits_so : (width : Option Width) (o : Option ℕ) → option_and_then (fitted (bits_in width)) (option_and_then (fitted 64) o) ≡ option_and_then (fitted (bits_in width)) o
fits_so width None = refl
fits_so width (Some n) = fits_again width n

-- One step of a sum and of a product.
sum_step : (a n : ℕ) → capped plus (fitted 64 a) n ≡ fitted 64 (a + n)
sum_step a n = by_size (nat_lt a (2 ^ 64)) refl
  where
    by_size : (b : Bool) → nat_lt a (2 ^ 64) ≡ b → capped plus (if b then Some a else None) n ≡ fitted 64 (a + n)
    by_size true e = refl
    by_size false e = let k : nat_lt (a + n) (2 ^ 64) ≡ false = grind (arith, nat_tests, e) in rw k refl

grows : (a n : ℕ) → nat_lt a (2 ^ 64) ≡ false → nat_lt (a * suc n) (2 ^ 64) ≡ false
grows a n h =
    let big : 2 ^ 64 ≤ a = grind (arith, nat_tests, h) in
    let same : a * suc n ≡ a + a * n = grind arith in
    grind (arith, nat_tests, big, same)

product_step : (a n : ℕ) → capped times (fitted 64 a) n ≡ fitted 64 (a * n)
product_step a n = by_size n (nat_lt a (2 ^ 64)) refl
  where
    by_size : (n : ℕ) (b : Bool) → nat_lt a (2 ^ 64) ≡ b → capped times (if b then Some a else None) n ≡ fitted 64 (a * n)
    by_size n true e = refl
    by_size zero false e = let none : a * zero ≡ 0 = grind arith in rw none refl
    by_size (suc n) false e =
        let k : nat_lt (a * suc n) (2 ^ 64) ≡ false = grows a n e in
        let more : nat_eq (suc n) 0 ≡ false = grind (arith, nat_tests) in
        rw (k, more) refl

sums_are : (a : ℕ) (ns : List ℕ) → folded (capped plus) (fitted 64 a) ns ≡ option_and_then (fitted 64) (joined_numbers plus a ns)
sums_are a [] = refl
sums_are a (n ∷ ns) = ap (λ s. folded (capped plus) s ns) (sum_step a n) ∙ sums_are (a + n) ns

products_are : (a : ℕ) (ns : List ℕ) → folded (capped times) (fitted 64 a) ns ≡ option_and_then (fitted 64) (joined_numbers times a ns)
products_are a [] = refl
products_are a (n ∷ ns) = ap (λ s. folded (capped times) s ns) (product_step a n) ∙ products_are (a * n) ns

ands_are : (a : ℕ) (ns : List ℕ) → folded (capped bits_and) (Some a) ns ≡ joined_numbers bits_and a ns
ands_are a [] = refl
ands_are a (n ∷ ns) = ands_are (bit_and a n) ns

ors_are : (a : ℕ) (ns : List ℕ) → folded (capped bits_or) (Some a) ns ≡ joined_numbers bits_or a ns
ors_are a [] = refl
ors_are a (n ∷ ns) = ors_are (bit_or a n) ns

xors_are : (a : ℕ) (ns : List ℕ) → folded (capped bits_xor) (Some a) ns ≡ joined_numbers bits_xor a ns
xors_are a [] = refl
xors_are a (n ∷ ns) = xors_are (bit_xor a n) ns

-- A chain by the capped number has the value of the chain.
pub chain_is : (s : OperatorKind) → joins s ≡ true → (width : Option Width) (a : ℕ) → a < 2 ^ 64 → (ns : List ℕ)
    → option_and_then (fitted (bits_in width)) (folded (capped_by s) (Some a) ns) ≡ value_by s (bits_in width) (a ∷ ns)
chain_is (ordering op) j width a small ns = absurd (cc j)
chain_is (joining both) j width a small ns = absurd (cc j)
chain_is (arithmetic plus) j width a small ns =
    let within : Some a ≡ fitted 64 a = (let k : nat_lt a (2 ^ 64) ≡ true = grind (arith, nat_tests, small) in rw k refl) in
    ap (λ s. option_and_then (fitted (bits_in width)) (folded (capped plus) s ns)) within
    ∙ ap (option_and_then (fitted (bits_in width))) (sums_are a ns) ∙ fits_so width (joined_numbers plus a ns)
chain_is (arithmetic times) j width a small ns =
    let within : Some a ≡ fitted 64 a = (let k : nat_lt a (2 ^ 64) ≡ true = grind (arith, nat_tests, small) in rw k refl) in
    ap (λ s. option_and_then (fitted (bits_in width)) (folded (capped times) s ns)) within
    ∙ ap (option_and_then (fitted (bits_in width))) (products_are a ns) ∙ fits_so width (joined_numbers times a ns)
chain_is (arithmetic bits_and) j width a small ns = ap (option_and_then (fitted (bits_in width))) (ands_are a ns)
chain_is (arithmetic bits_or) j width a small ns = ap (option_and_then (fitted (bits_in width))) (ors_are a ns)
chain_is (arithmetic bits_xor) j width a small ns = ap (option_and_then (fitted (bits_in width))) (xors_are a ns)
chain_is (arithmetic op) j width a small ns = absurd (cc j)

-- The numbers of operands that are all constant.
with_first : (m : Meaning) (b : Bool) (ns : List ℕ)
    → with_number (constant_number m) (if b then Some ns else None) ≡ (if is_constant m && b then Some (number_or_zero m ∷ ns) else None)
with_first (meanings.Constant width value) true ns = refl
with_first (meanings.Constant width value) false ns = refl
with_first (meanings.Typed ty) b ns = refl

pub constants_are : (os : List Operand) → constants_in os ≡ (if list_all (λ o. is_constant o.of) os then Some (numbers os) else None)
constants_are [] = refl
constants_are (o ∷ os) = ap (with_number (constant_number o.of)) (constants_are os) ∙ with_first o.of (list_all (λ o. is_constant o.of) os) (numbers os)

-- What an operator gives, by a test whether its operands are all constant.
of_constants : (s : OperatorKind) (os : List Operand) (ns : List ℕ)
    → computed_by s os (Some ns) ≡ constant_of (width_by s os) (value_by s (bits_in (width_by s os)) ns)
of_constants (arithmetic op) os ns = refl
of_constants (ordering op) os ns = refl
of_constants (joining both) os ns = refl

of_types : (s : OperatorKind) (os : List Operand) → computed_by s os None ≡ number_in (width_by s os)
of_types (arithmetic op) os = refl
of_types (ordering op) os = refl
of_types (joining both) os = refl

pub computed_is : (s : OperatorKind) (os : List Operand)
    → computed_by s os (constants_in os)
    ≡ (if list_all (λ o. is_constant o.of) os then constant_of (width_by s os) (value_by s (bits_in (width_by s os)) (numbers os)) else number_in (width_by s os))
computed_is s os = ap (computed_by s os) (constants_are os) ∙ by_test (list_all (λ o. is_constant o.of) os)
  where
    by_test : (b : Bool) → computed_by s os (if b then Some (numbers os) else None)
        ≡ (if b then constant_of (width_by s os) (value_by s (bits_in (width_by s os)) (numbers os)) else number_in (width_by s os))
    by_test true = of_constants s os (numbers os)
    by_test false = of_types s os
