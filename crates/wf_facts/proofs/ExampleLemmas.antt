-- Sets of eight words, and those of the worked example.
use Rattle.std.proofs.Common.{◌≡◌, ℕ, zero, suc, ◌+◌, ◌*◌, ◌/◌, ◌%◌, ◌^◌, ◌<◌, ◌≤◌, Bool, true, false, ◌&&◌, ◌⊎◌, inl, inr, List, [], ◌∷◌, length, get_or, map, refl, sym, ap, ◌∙◌, subst, arith}
use Rattle.std.specs.Prelude.{All, nat_eq, replicate, slice_index}
use Rattle.std.specs.Int.{bit_at}
use Rattle.std.proofs.lemmas.Bool.{cases_eq, cases_lt, and_parts}
use Rattle.std.proofs.lemmas.Bool.Decides.{nat_tests}
use Rattle.std.proofs.lemmas.Nat.Bits.{bit_at-lt, bit_at_above, same_from_bits}
use Rattle.std.proofs.lemmas.List.Elements.{All-head, All-tail}
use Rattle.wf_ast.specs.declared.things.Thing.{Thing}
use Rattle.wf_ast.specs.declared.things.Thing.TheVariants.{Local, This}
use Rattle.wf_ast.specs.declared.typed_nodes.TypedNodes.{TypedNodes}
use Rattle.wf_facts_exprs.specs.declared.facts.Fact.{Fact}
use Rattle.wf_facts_exprs.specs.Claims.{claim_in, claims_in, claim_mentions}
use Rattle.wf_facts.specs.Examples.{digit_facts}
use Rattle.wf_facts.specs.IndexedFacts.{mentioning}
use Rattle.wf_facts_exprs.specs.Sets.{member, marked, IsSetOf}

-- Words of 64 bits with the same bits are the same.
same-word : (m n : ℕ) → m < 2 ^ 64 → n < 2 ^ 64 → ((b : ℕ) → b < 64 → bit_at m b ≡ bit_at n b) → m ≡ n
same-word m n h k same = same_from_bits m n (λ b. by b (cases_lt b 64))
  where
    by : (b : ℕ) → (b < 64) ⊎ (64 ≤ b) → bit_at m b ≡ bit_at n b
    by b (inl l) = same b l
    by b (inr l) = bit_at_above m 64 b h l ∙ sym (bit_at_above n 64 b k l)

words-same : (count : ℕ) (xs ys : List ℕ) → length xs ≡ count → length ys ≡ count → All (λ n. n < 2 ^ 64) xs → All (λ n. n < 2 ^ 64) ys
    → ((j : ℕ) → j < count → (b : ℕ) → b < 64 → bit_at (get_or xs j 0) b ≡ bit_at (get_or ys j 0) b) → xs ≡ ys
words-same zero [] [] p q f g same = refl
words-same zero (x ∷ xs) ys p q f g same = absurd (omega (arith, p))
words-same zero [] (y ∷ ys) p q f g same = absurd (omega (arith, q))
words-same (suc count) [] ys p q f g same = absurd (omega (arith, p))
words-same (suc count) (x ∷ xs) [] p q f g same = absurd (omega (arith, q))
words-same (suc count) (x ∷ xs) (y ∷ ys) p q f g same =
    let head : x ≡ y = same-word x y (All-head (λ n. n < 2 ^ 64) x xs f) (All-head (λ n. n < 2 ^ 64) y ys g) (same 0 (omega arith)) in
    let tail : xs ≡ ys = words-same count xs ys (omega (arith, p)) (omega (arith, q)) (All-tail (λ n. n < 2 ^ 64) x xs f) (All-tail (λ n. n < 2 ^ 64) y ys g) (λ j h. same (suc j) (omega (arith, h))) in
    ap (λ z. z ∷ xs) head ∙ ap (λ zs. y ∷ zs) tail

one-bit : (m n : ℕ) → m < 2 → n < 2 → nat_eq m 1 ≡ nat_eq n 1 → m ≡ n
one-bit m n h k e = by (cases_eq m 1) (cases_eq n 1)
  where
    by : (m ≡ 1) ⊎ (m ≡ 1 → ⊥) → (n ≡ 1) ⊎ (n ≡ 1 → ⊥) → m ≡ n
    by (inl a) (inl b) = a ∙ sym b
    by (inr a) (inr b) = omega (arith, a, b, h, k)
    by (inl a) (inr b) = absurd (grind (arith, nat_tests, a, b, e))
    by (inr a) (inl b) = absurd (grind (arith, nat_tests, a, b, e))

pub one_set : (xs ys : List ℕ) (marks : List Bool) → length xs ≡ 8 → length ys ≡ 8 → All (λ n. n < 2 ^ 64) xs → All (λ n. n < 2 ^ 64) ys → IsSetOf xs marks → IsSetOf ys marks → xs ≡ ys
unfolding member
one_set xs ys marks p q f g s t = words-same 8 xs ys p q f g bits
  where
    bits : (j : ℕ) → j < 8 → (b : ℕ) → b < 64 → bit_at (get_or xs j 0) b ≡ bit_at (get_or ys j 0) b
    bits j h b l =
        let i = 64 * j + b in
        let word : i / 64 ≡ j = omega (arith, l) in
        let bit : i % 64 ≡ b = omega (arith, l) in
        let low : i < 512 = omega (arith, h, l) in
        let e : nat_eq (bit_at (slice_index xs (i / 64)) (i % 64)) 1 ≡ nat_eq (bit_at (slice_index ys (i / 64)) (i % 64)) 1 = s.at i low ∙ sym (t.at i low) in
        let P : ℕ → Type 0 = λ w. nat_eq (bit_at (slice_index xs w) (i % 64)) 1 ≡ nat_eq (bit_at (slice_index ys w) (i % 64)) 1 in
        let Q : ℕ → Type 0 = λ r. nat_eq (bit_at (slice_index xs j) r) 1 ≡ nat_eq (bit_at (slice_index ys j) r) 1 in
        one-bit _ _ (bit_at-lt (slice_index xs j) b) (bit_at-lt (slice_index ys j) b) (subst Q bit (subst P word e))

-- A test of all places.
same : Bool → Bool → Bool
same true true = true
same false false = true
same a b = false

same-is : (a b : Bool) → same a b ≡ true → a ≡ b
unfolding same
same-is true true h = refl
same-is false false h = refl
same-is true false h = absurd (cc (h))
same-is false true h = absurd (cc (h))

all_told : List ℕ → List Bool → ℕ → Bool
all_told words marks zero = true
all_told words marks (suc n) = same (member words n) (marked marks n) && all_told words marks n

told-at : (words : List ℕ) (marks : List Bool) (n : ℕ) → all_told words marks n ≡ true → (i : ℕ) → i < n → member words i ≡ marked marks i
unfolding all_told
told-at words marks zero h i l = absurd (omega (arith, l))
told-at words marks (suc n) h i l = by (and_parts (same (member words n) (marked marks n)) _ h) (told-at words marks n) (cases_eq i n)
  where
    by : (same (member words n) (marked marks n) ≡ true) × (all_told words marks n ≡ true) → (all_told words marks n ≡ true → (i : ℕ) → i < n → member words i ≡ marked marks i)
        → (i ≡ n) ⊎ (i ≡ n → ⊥) → member words i ≡ marked marks i
    by p rest (inl e) = let P : ℕ → Type 0 = λ k. member words k ≡ marked marks k in subst P (sym e) (same-is _ _ p.0)
    by p rest (inr e) = rest p.1 i (omega (arith, l, e))

mentioning-claims : (nodes : TypedNodes) (x : Thing) (fs : List Fact) → mentioning nodes x fs ≡ map (claim_mentions x) (claims_in nodes fs)
mentioning-claims nodes x [] = refl
mentioning-claims nodes x (f ∷ fs) = ap (λ ms. claim_mentions x (claim_in nodes f) ∷ ms) (mentioning-claims nodes x fs)

byte-told : all_told (7 ∷ replicate 7 0) (true ∷ true ∷ true ∷ []) 512 ≡ true
unfolding all_told same member
byte-told = refl

this-told : all_told (replicate 8 0) (false ∷ false ∷ false ∷ []) 512 ≡ true
unfolding all_told same member
this-told = refl

pub byte_set : (nodes : TypedNodes) (fs : List Fact) → claims_in nodes fs ≡ digit_facts → IsSetOf (7 ∷ replicate 7 0) (mentioning nodes (Local (record { 0 = 0 })) fs)
byte_set nodes fs h =
    let P : List Bool → Type 0 = IsSetOf (7 ∷ replicate 7 0) in
    subst P (sym (mentioning-claims nodes (Local (record { 0 = 0 })) fs ∙ ap (map (claim_mentions (Local (record { 0 = 0 })))) h)) (record { at = told-at _ _ 512 byte-told })

pub this_set : (nodes : TypedNodes) (fs : List Fact) → claims_in nodes fs ≡ digit_facts → IsSetOf (replicate 8 0) (mentioning nodes This fs)
this_set nodes fs h =
    let P : List Bool → Type 0 = IsSetOf (replicate 8 0) in
    subst P (sym (mentioning-claims nodes This fs ∙ ap (map (claim_mentions This)) h)) (record { at = told-at _ _ 512 this-told })
