-- The first place at which a test passes.
use Rattle.std.proofs.Common.{◌≡◌, ℕ, ◌<◌, ◌≤◌, Bool, true, false, List, length, Some, None, refl, cond, ltb, arith}
use Rattle.std.specs.List.{position, position_or_len}
use Rattle.std.proofs.lemmas.List.Sums.{prefix_len-le-length}
use Rattle.std.proofs.lemmas.Bool.Decides.{nat_tests}

pub record IsPlace {X : Type 0} (p : X → Bool) (xs : List X) (k : ℕ) : Type 0 where
  pub first : position_or_len p xs ≡ k
  pub within : k < length xs

at_test : (n m k : ℕ) (t : Bool) → ltb n m ≡ t → cond t (Some n) None ≡ Some k → (n ≡ k) × (n < m)
at_test n m k true e h = (cc, grind (arith, nat_tests))
at_test n m k false e h = absurd cc

pub place : {X : Type 0} (p : X → Bool) (xs : List X) (k : ℕ) → position p xs ≡ Some k → IsPlace p xs k
place p xs k h =
    let found = at_test (position_or_len p xs) (length xs) k (ltb (position_or_len p xs) (length xs)) refl h in
    record { first = found.0; within = omega (arith, found.0, found.1) }

past : (n m : ℕ) (t : Bool) → ltb n m ≡ t → cond t (Some n) None ≡ None → m ≤ n
past n m true e h = absurd cc
past n m false e h = grind (arith, nat_tests)

pub no_place : {X : Type 0} (p : X → Bool) (xs : List X) → position p xs ≡ None → position_or_len p xs ≡ length xs
no_place p xs h =
    let over = past (position_or_len p xs) (length xs) (ltb (position_or_len p xs) (length xs)) refl h in
    let small : position_or_len p xs ≤ length xs = prefix_len-le-length _ xs in
    omega (arith, over, small)
