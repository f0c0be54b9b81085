-- Every method of a package stands in its order, after those that it calls when the order is turned round.
use Rattle.std.proofs.Common.{◌≡◌, ℕ, zero, suc, ◌+◌, ◌≤◌, ◌<◌, Bool, true, false, not, List, [], ◌∷◌, length, Option, Some, None, refl, sym, ap, subst, nat_eq, arith}
use Rattle.std.specs.Prelude.{slice_get, if◌then◌else◌, reverse}
use mathlib.Core.List.{reverse_aux}
use Rattle.std.proofs.lemmas.Bool.{and_parts, or_parts}
use Rattle.std.proofs.lemmas.Bool.Decides.{nat_tests}
use Rattle.std.proofs.lemmas.Option.{slice_get_within}
use Rattle.wf_ast.specs.TypedPackage.{MethodTree, PackageTree}
use Rattle.wf_ast.specs.WellTyped.{is_among, calls_known, calls_in_front}

not-false : (b : Bool) → not b ≡ true → b ≡ false
not-false true h = absurd (cc (h))
not-false false h = refl

-- Distinct numbers below a bound are no more than the bound.
abbrev Distinct : List ℕ → Type 0
Distinct [] = Unit {0}
Distinct (x ∷ xs) = (is_among xs x ≡ false) × Distinct xs

abbrev Below : ℕ → List ℕ → Type 0
Below n [] = Unit {0}
Below n (x ∷ xs) = (x < n) × Below n xs

abbrev remove : ℕ → List ℕ → List ℕ
remove n [] = []
remove n (x ∷ xs) = if nat_eq n x then remove n xs else x ∷ remove n xs

remove-absent : (n : ℕ) (xs : List ℕ) → is_among xs n ≡ false → length (remove n xs) ≡ length xs
remove-absent n [] h = refl
remove-absent n (x ∷ xs) h = let p = or_parts (nat_eq n x) _ h in rw p.0 (ap suc (remove-absent n xs p.1))

still-absent : (n k : ℕ) (xs : List ℕ) → is_among xs k ≡ false → is_among (remove n xs) k ≡ false
still-absent n k [] h = refl
still-absent n k (x ∷ xs) h =
    let p = or_parts (nat_eq k x) _ h in
    by (nat_eq n x) p.0 (still-absent n k xs p.1)
  where
    by : (t : Bool) → nat_eq k x ≡ false → is_among (remove n xs) k ≡ false → is_among (if t then remove n xs else x ∷ remove n xs) k ≡ false
    by true i j = j
    by false i j = rw (i, j) refl

remove-distinct : (n : ℕ) (xs : List ℕ) → Distinct xs → Distinct (remove n xs)
remove-distinct n [] h = tt
remove-distinct n (x ∷ xs) h = by (nat_eq n x) (still-absent n x xs h.0) (remove-distinct n xs h.1)
  where
    by : (t : Bool) → is_among (remove n xs) x ≡ false → Distinct (remove n xs) → Distinct (if t then remove n xs else x ∷ remove n xs)
    by true i j = j
    by false i j = (i, j)

remove-below : (n : ℕ) (xs : List ℕ) → Below (suc n) xs → Below n (remove n xs)
remove-below n [] h = tt
remove-below n (x ∷ xs) h = by (nat_eq n x) refl (remove-below n xs h.1)
  where
    by : (t : Bool) → nat_eq n x ≡ t → Below n (remove n xs) → Below n (if t then remove n xs else x ∷ remove n xs)
    by true e j = j
    by false e j = (let l : x < suc n = h.0 in grind (arith, nat_tests, e, l), j)

remove-length : (n : ℕ) (xs : List ℕ) → Distinct xs → length xs ≤ suc (length (remove n xs))
remove-length n [] h = omega arith
remove-length n (x ∷ xs) h = by (nat_eq n x) refl (remove-length n xs h.1)
  where
    by : (t : Bool) → nat_eq n x ≡ t → length xs ≤ suc (length (remove n xs)) → suc (length xs) ≤ suc (length (if t then remove n xs else x ∷ remove n xs))
    by true e j =
        let same : n ≡ x = grind (arith, nat_tests, e) in
        let P : ℕ → Type 0 = λ n. is_among xs n ≡ false in
        let k = remove-absent n xs (subst P (sym same) h.0) in
        omega (arith, k)
    by false e j = omega (arith, j)

few : (n : ℕ) (xs : List ℕ) → Distinct xs → Below n xs → length xs ≤ n
few zero [] h b = omega arith
few zero (x ∷ xs) h b = absurd (omega (arith, b.0))
few (suc n) xs h b =
    let i = few n (remove n xs) (remove-distinct n xs h) (remove-below n xs b) in
    let j = remove-length n xs h in
    omega (arith, i, j)

all-there : (n : ℕ) (xs : List ℕ) (k : ℕ) → Distinct xs → Below n xs → length xs ≡ n → k < n → is_among xs k ≡ true
all-there n xs k h b long l = by (is_among xs k) refl
  where
    by : (t : Bool) → is_among xs k ≡ t → t ≡ true
    by true e = refl
    by false e = let i = few n (k ∷ xs) (e, h) (l, b) in absurd (omega (arith, i, long))

-- Methods that call only those that follow them in the list.
module _ (p : PackageTree) where
  abbrev pub CallsOn : List ℕ → Type 0
  CallsOn [] = Unit {0}
  CallsOn (m ∷ ms) = (calls_known (is_among ms) (slice_get p.methods m) ≡ true) × CallsOn ms

  known-below : (known : ℕ → Bool) (m : ℕ) → calls_known known (slice_get p.methods m) ≡ true → m < length p.methods
  known-below known m h = by (slice_get p.methods m) refl h
    where
      by : (o : Option MethodTree) → slice_get p.methods m ≡ o → calls_known known o ≡ true → m < length p.methods
      by None e k = absurd (cc (k))
      by (Some x) e k = slice_get_within p.methods m x e

  pub record Turned (front rest : List ℕ) (ms : List ℕ) : Type 0 where
    pub calls : CallsOn ms
    pub distinct : Distinct ms
    pub below : Below (length p.methods) ms
    pub long : length ms ≡ length front + length rest

  -- `ms` is the front, with the rest turned round before it.
  turned : (front rest : List ℕ) → CallsOn front → Distinct front → Below (length p.methods) front → calls_in_front p front rest ≡ true → Turned front rest (reverse_aux rest front)
  turned front [] c d b h = record { calls = c; distinct = d; below = b; long = omega arith }
  turned front (m ∷ ms) c d b h =
      let q = and_parts (calls_known (is_among front) (slice_get p.methods m)) _ h in
      let r = and_parts (not (is_among front m)) _ q.1 in
      let t : Turned (m ∷ front) ms (reverse_aux ms (m ∷ front)) = turned (m ∷ front) ms (q.0, c) (not-false (is_among front m) r.0, d) (known-below (is_among front) m q.0, b) r.1 in
      record { calls = t.calls; distinct = t.distinct; below = t.below; long = omega (arith, t.long) }

  pub order-turned : calls_in_front p [] p.order ≡ true → Turned [] p.order (reverse p.order)
  order-turned h = turned [] p.order tt tt tt h

  pub in-order : (k : ℕ) (m : MethodTree) → calls_in_front p [] p.order ≡ true → length p.order ≡ length p.methods → slice_get p.methods k ≡ Some m → is_among (reverse p.order) k ≡ true
  in-order k m h l e =
      let t : Turned [] p.order (reverse p.order) = order-turned h in
      all-there (length p.methods) (reverse p.order) k t.distinct t.below (omega (arith, t.long, l)) (slice_get_within p.methods k m e)
