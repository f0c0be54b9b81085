-- Each axiom is true of all whole numbers.
use Rattle.std.proofs.Common.{◌≡◌, ℕ, ◌+◌, true, ◌&&◌, arith}
use Rattle.std.specs.Prelude.{nat_eq, nat_lt, nat_le}
use Rattle.std.specs.List.{list_all}
use Rattle.std.proofs.lemmas.Bool.Decides.{nat_tests}
use Rattle.wf_axioms.specs.declared.axioms.Letter.{Letter}
use Rattle.wf_axioms.specs.declared.axioms.Letter.TheVariants.{A, B, C, D, B0, C0}
use Rattle.wf_axioms.specs.declared.axioms.Axiom.{Axiom}
use Rattle.wf_axioms.specs.declared.axioms.Axiom.TheVariants.{LtByGt, LtByLtLt, LtByLtEq, LtByEqLt, LtByLtLe, LtByLeLt, GtByLt, LeByGe, LeByLeLe, LeByLeEq, LeByEqLe, GeByLe, LtSum, LtSums, LeSum, LeByLt, EqByLeLe, SumsByLeLe}
use Rattle.wf_axioms.specs.Axioms.{row_of, holds}

ltByGt-true : (a b : ℕ) → (nat_lt a b && true) ≡ true → nat_lt a b ≡ true
ltByGt-true a b h = grind (arith, nat_tests, h)

ltByLtLt-true : (a b c : ℕ) → (nat_lt a c && (nat_lt c b && true)) ≡ true → nat_lt a b ≡ true
ltByLtLt-true a b c h = grind (arith, nat_tests, h)

ltByLtEq-true : (a b c : ℕ) → (nat_lt a c && (nat_eq c b && true)) ≡ true → nat_lt a b ≡ true
ltByLtEq-true a b c h = grind (arith, nat_tests, h)

ltByEqLt-true : (a b c : ℕ) → (nat_eq a c && (nat_lt c b && true)) ≡ true → nat_lt a b ≡ true
ltByEqLt-true a b c h = grind (arith, nat_tests, h)

ltByLtLe-true : (a b c : ℕ) → (nat_lt a c && (nat_le c b && true)) ≡ true → nat_lt a b ≡ true
ltByLtLe-true a b c h = grind (arith, nat_tests, h)

ltByLeLt-true : (a b c : ℕ) → (nat_le a c && (nat_lt c b && true)) ≡ true → nat_lt a b ≡ true
ltByLeLt-true a b c h = grind (arith, nat_tests, h)

gtByLt-true : (a b : ℕ) → (nat_lt b a && true) ≡ true → nat_lt b a ≡ true
gtByLt-true a b h = grind (arith, nat_tests, h)

leByGe-true : (a b : ℕ) → (nat_le a b && true) ≡ true → nat_le a b ≡ true
leByGe-true a b h = grind (arith, nat_tests, h)

leByLeLe-true : (a b c : ℕ) → (nat_le a c && (nat_le c b && true)) ≡ true → nat_le a b ≡ true
leByLeLe-true a b c h = grind (arith, nat_tests, h)

leByLeEq-true : (a b c : ℕ) → (nat_le a c && (nat_eq c b && true)) ≡ true → nat_le a b ≡ true
leByLeEq-true a b c h = grind (arith, nat_tests, h)

leByEqLe-true : (a b c : ℕ) → (nat_eq a c && (nat_le c b && true)) ≡ true → nat_le a b ≡ true
leByEqLe-true a b c h = grind (arith, nat_tests, h)

geByLe-true : (a b : ℕ) → (nat_le b a && true) ≡ true → nat_le b a ≡ true
geByLe-true a b h = grind (arith, nat_tests, h)

ltSum-true : (a b c : ℕ) → (nat_lt a c && (nat_le 0 b && true)) ≡ true → nat_lt a (b + c) ≡ true
ltSum-true a b c h = grind (arith, nat_tests, h)

ltSums-true : (a b b0 c c0 : ℕ) → (nat_lt a (b0 + c0) && (nat_le b0 b && (nat_le c0 c && true))) ≡ true → nat_lt a (b + c) ≡ true
ltSums-true a b b0 c c0 h = grind (arith, nat_tests, h)

leSum-true : (a b : ℕ) → (nat_le 0 b && true) ≡ true → nat_le a (a + b) ≡ true
leSum-true a b h = grind (arith, nat_tests, h)

leByLt-true : (a b : ℕ) → (nat_lt a b && true) ≡ true → nat_le a b ≡ true
leByLt-true a b h = grind (arith, nat_tests, h)

eqByLeLe-true : (a b : ℕ) → (nat_le a b && (nat_le b a && true)) ≡ true → nat_eq a b ≡ true
eqByLeLe-true a b h = grind (arith, nat_tests, h)

sumsByLeLe-true : (a b c d : ℕ) → (nat_le a b && (nat_le c d && true)) ≡ true → nat_le (a + c) (b + d) ≡ true
sumsByLeLe-true a b c d h = grind (arith, nat_tests, h)

pub axiom-true : (a : Axiom) (n : Letter → ℕ) → list_all (λ c. holds n c) (row_of a).premises ≡ true → holds n (row_of a).goal ≡ true
axiom-true LtByGt n h = ltByGt-true (n A) (n B) h
axiom-true LtByLtLt n h = ltByLtLt-true (n A) (n B) (n C) h
axiom-true LtByLtEq n h = ltByLtEq-true (n A) (n B) (n C) h
axiom-true LtByEqLt n h = ltByEqLt-true (n A) (n B) (n C) h
axiom-true LtByLtLe n h = ltByLtLe-true (n A) (n B) (n C) h
axiom-true LtByLeLt n h = ltByLeLt-true (n A) (n B) (n C) h
axiom-true GtByLt n h = gtByLt-true (n A) (n B) h
axiom-true LeByGe n h = leByGe-true (n A) (n B) h
axiom-true LeByLeLe n h = leByLeLe-true (n A) (n B) (n C) h
axiom-true LeByLeEq n h = leByLeEq-true (n A) (n B) (n C) h
axiom-true LeByEqLe n h = leByEqLe-true (n A) (n B) (n C) h
axiom-true GeByLe n h = geByLe-true (n A) (n B) h
axiom-true LtSum n h = ltSum-true (n A) (n B) (n C) h
axiom-true LtSums n h = ltSums-true (n A) (n B) (n B0) (n C) (n C0) h
axiom-true LeSum n h = leSum-true (n A) (n B) h
axiom-true LeByLt n h = leByLt-true (n A) (n B) h
axiom-true EqByLeLe n h = eqByLeLe-true (n A) (n B) h
axiom-true SumsByLeLe n h = sumsByLeLe-true (n A) (n B) (n C) (n D) h
