-- Sets by number.
use Rattle.std.proofs.Common.{◌≡◌, ℕ, zero, suc, ◌+◌, ◌<◌, ◌≤◌, Bool, true, false, ◌&&◌, ◌||◌, ◌⊎◌, inl, inr, List, [], ◌∷◌, ◌++◌, length, get_or, refl, sym, ap, ◌∙◌, subst, arith}
use Rattle.std.specs.Prelude.{slice_set, nat_eq, replicate}
use Rattle.std.proofs.lemmas.Bool.{cases_eq, cases_lt}
use Rattle.std.proofs.lemmas.Bool.Decides.{nat_tests}
use Rattle.std.proofs.lemmas.List.{length-set}
use Rattle.wf_facts_exprs.specs.declared.sets.FactSet.{FactSet}
use Rattle.wf_facts_exprs.specs.Sets.{member, members, IsSetOf, unmarked}
use Rattle.wf_facts_exprs.specs.NumberedSets.{Marks, words_at}
use Rattle.wf_facts_exprs.proofs.SetLemmas.{members_known, none_in_zeros, stays_before}

-- Sets by place.
pub words_read : (sets : List FactSet) (k : ℕ) (s : FactSet) → k < length sets → s ≡ get_or sets k s → words_at sets k ≡ s.words
words_read [] k s h is = absurd (omega (arith, h))
words_read (r ∷ sets) zero s h is = ap (λ q. q.words) (sym is)
words_read (r ∷ sets) (suc k) s h is = words_read sets k s (omega (arith, h)) is

pub words_got : (sets : List FactSet) (k : ℕ) (d : FactSet) → k < length sets → words_at sets k ≡ (get_or sets k d).words
words_got [] k d h = absurd (omega (arith, h))
words_got (r ∷ sets) zero d h = refl
words_got (r ∷ sets) (suc k) d h = words_got sets k d (omega (arith, h))

pub words_set : (sets : List FactSet) (k : ℕ) (s : FactSet) → k < length sets → words_at (slice_set sets k s) k ≡ s.words
words_set [] k s h = absurd (omega (arith, h))
words_set (r ∷ sets) zero s h = refl
words_set (r ∷ sets) (suc k) s h = words_set sets k s (omega (arith, h))

pub words_set_other : (sets : List FactSet) (k j : ℕ) (s : FactSet) → (j ≡ k → ⊥) → words_at (slice_set sets k s) j ≡ words_at sets j
words_set_other [] k j s h = refl
words_set_other (r ∷ sets) zero zero s h = absurd (h refl)
words_set_other (r ∷ sets) zero (suc j) s h = refl
words_set_other (r ∷ sets) (suc k) zero s h = refl
words_set_other (r ∷ sets) (suc k) (suc j) s h = words_set_other sets k j s (λ e. h (ap suc e))

-- A set of marks has become that of those that are left.
abbrev pub Leaves : (dropped : List ℕ) (n : ℕ) (before after : List ℕ) → Type 0
Leaves dropped n before after = (marks : List Bool) → length marks ≡ n → IsSetOf before marks → IsSetOf after (unmarked (members dropped n) marks)

pub Leaves-moved : (dropped : List ℕ) (n : ℕ) (before after : List ℕ) → n ≤ 512 → IsSetOf after (unmarked (members dropped n) (members before n)) → Leaves dropped n before after
Leaves-moved dropped n before after few set marks count is =
    let P : List Bool → Type 0 = λ ms. IsSetOf after (unmarked (members dropped n) ms) in
    subst P (members_known before marks is n (sym count) few) set

pub Leaves-same : (dropped : List ℕ) (n first : ℕ) (own : List ℕ) → first ≤ n → n ≤ 512 → ((k : ℕ) → k < first → member dropped k ≡ false)
    → ((k : ℕ) → first ≤ k → k < n → member own k ≡ false) → Leaves dropped n own own
Leaves-same dropped n first own h few before none marks count is = stays_before dropped own marks first n count h few before none is

-- The sets up to `i` have moved, and the others stand as they were.
pub record MovesSets (dropped : List ℕ) (n : ℕ) (xs ys : List FactSet) (i : ℕ) : Type 0 where
  pub done : (k : ℕ) → k < i → Leaves dropped n (words_at xs k) (words_at ys k)
  pub rest : (k : ℕ) → i ≤ k → words_at ys k ≡ words_at xs k
  pub long : length ys ≡ length xs

pub MovesSets-more : (dropped : List ℕ) (n : ℕ) (xs ys : List FactSet) (i : ℕ) → MovesSets dropped n xs ys i → i < length ys → (old : List ℕ) (moved : FactSet) → words_at ys i ≡ old
    → Leaves dropped n old moved.words → MovesSets dropped n xs (slice_set ys i moved) (i + 1)
MovesSets-more dropped n xs ys i m within old moved is set = record {
  done = λ k h. by k h (cases_eq k i);
  rest = λ k h. words_set_other ys i k moved (λ e. absurd (omega (arith, e, h))) ∙ m.rest k (omega (arith, h));
  long = length-set ys i moved ∙ m.long;
}
  where
    own : old ≡ words_at xs i
    own = sym is ∙ m.rest i (omega arith)

    by : (k : ℕ) → k < i + 1 → (k ≡ i) ⊎ (k ≡ i → ⊥) → Leaves dropped n (words_at xs k) (words_at (slice_set ys i moved) k)
    by k h (inl e) =
        let P : List ℕ → Type 0 = Leaves dropped n (words_at xs i) in
        let Q : List ℕ → Type 0 = λ ws. Leaves dropped n ws moved.words in
        let R : ℕ → Type 0 = λ j. Leaves dropped n (words_at xs j) (words_at (slice_set ys i moved) j) in
        subst R (sym e) (subst P (sym (words_set ys i moved within)) (subst Q own set))
    by k h (inr e) =
        let P : List ℕ → Type 0 = Leaves dropped n (words_at xs k) in
        subst P (sym (words_set_other ys i k moved e)) (m.done k (omega (arith, h, e)))

pub MovesSets-same : (dropped : List ℕ) (n : ℕ) (xs ys : List FactSet) (i : ℕ) → MovesSets dropped n xs ys i → (old : List ℕ) → words_at ys i ≡ old → Leaves dropped n old old
    → MovesSets dropped n xs ys (i + 1)
MovesSets-same dropped n xs ys i m old is set = record {
  done = λ k h. by k h (cases_eq k i);
  rest = λ k h. m.rest k (omega (arith, h));
  long = m.long;
}
  where
    by : (k : ℕ) → k < i + 1 → (k ≡ i) ⊎ (k ≡ i → ⊥) → Leaves dropped n (words_at xs k) (words_at ys k)
    by k h (inl e) =
        let P : List ℕ → Type 0 = λ ws. Leaves dropped n ws (words_at ys i) in
        let Q : List ℕ → Type 0 = λ ws. Leaves dropped n ws ws in
        let R : ℕ → Type 0 = λ j. Leaves dropped n (words_at xs j) (words_at ys j) in
        subst R (sym e) (subst P (m.rest i (omega arith)) (subst Q (sym is) set))
    by k h (inr e) = m.done k (omega (arith, h, e))

-- A set that isn't in use stays empty.
words_past : (sets : List FactSet) (k : ℕ) → length sets ≤ k → words_at sets k ≡ replicate 8 0
words_past [] k h = refl
words_past (s ∷ sets) zero h = absurd (omega (arith, h))
words_past (s ∷ sets) (suc k) h = words_past sets k (omega (arith, h))

Leaves-empty : (dropped : List ℕ) (n : ℕ) → n ≤ 512 → Leaves dropped n (replicate 8 0) (replicate 8 0)
Leaves-empty dropped n few = Leaves-same dropped n 0 (replicate 8 0) (omega arith) few (λ k h. absurd (omega (arith, h))) (λ k a b. none_in_zeros k)

pub Leaves-each : (dropped : List ℕ) (n : ℕ) (xs ys : List FactSet) → n ≤ 512 → length ys ≡ length xs → ((k : ℕ) → k < length xs → Leaves dropped n (words_at xs k) (words_at ys k))
    → (k : ℕ) → Leaves dropped n (words_at xs k) (words_at ys k)
Leaves-each dropped n xs ys few long moved k = by (cases_lt k (length xs))
  where
    by : (k < length xs) ⊎ (length xs ≤ k) → Leaves dropped n (words_at xs k) (words_at ys k)
    by (inl h) = moved k h
    by (inr h) =
        let P : List ℕ → Type 0 = λ ws. Leaves dropped n ws (words_at ys k) in
        let Q : List ℕ → Type 0 = λ ws. Leaves dropped n (replicate 8 0) ws in
        subst P (sym (words_past xs k h)) (subst Q (sym (words_past ys k (omega (arith, h, long)))) (Leaves-empty dropped n few))

pub words_pushed : (sets : List FactSet) (s : FactSet) → s.words ≡ replicate 8 0 → (k : ℕ) → words_at (sets ++ s ∷ []) k ≡ words_at sets k
words_pushed [] s empty zero = empty
words_pushed [] s empty (suc k) = refl
words_pushed (r ∷ sets) s empty zero = refl
words_pushed (r ∷ sets) s empty (suc k) = words_pushed sets s empty k

pub words_beyond : (sets : List FactSet) (k : ℕ) (empty : List ℕ) → empty ≡ replicate 8 0 → length sets ≤ k → empty ≡ words_at sets k
words_beyond sets k empty is h = is ∙ sym (words_past sets k h)

-- A place comes into sets.
pub marks-same : (n : ℕ) (p q : ℕ → Bool) (xs ys : List FactSet) → ((k : ℕ) → k < 260 → p k ≡ q k) → Marks n p xs ys → Marks n q xs ys
marks-same n p q xs ys same m k h j low = m k h j low ∙ ap (λ b. (nat_eq j n && b) || member (words_at xs k) j) (same k h)

pub marks-both : (n : ℕ) (p q : ℕ → Bool) (xs ys zs : List FactSet) → Marks n p xs ys → Marks n q ys zs → Marks n (λ k. p k || q k) xs zs
marks-both n p q xs ys zs a b k h j low =
    b k h j low ∙ ap (λ c. (nat_eq j n && q k) || c) (a k h j low) ∙ by (nat_eq j n) (p k) (q k) (member (words_at xs k) j)
  where
    by : (e x y m : Bool) → ((e && y) || ((e && x) || m)) ≡ ((e && (x || y)) || m)
    by false x y m = refl
    by true true true m = refl
    by true true false m = refl
    by true false true m = refl
    by true false false m = refl

-- The sets stand as they did before.
pub marks-from : (n : ℕ) (p : ℕ → Bool) (xs ys zs : List FactSet) → ((k : ℕ) → words_at ys k ≡ words_at xs k) → Marks n p ys zs → Marks n p xs zs
marks-from n p xs ys zs same m k h j low = m k h j low ∙ ap (λ ws. (nat_eq j n && p k) || member ws j) (same k)

pub marks-one : (n : ℕ) (xs : List FactSet) (i : ℕ) (old : List ℕ) (written : FactSet) → i < length xs → words_at xs i ≡ old
    → ((j : ℕ) → j < 512 → member written.words j ≡ (nat_eq j n || member old j)) → Marks n (λ k. nat_eq k i) xs (slice_set xs i written)
marks-one n xs i old written within is put k h j low = by (cases_eq k i)
  where
    there : (e m : Bool) → (e || m) ≡ ((e && true) || m)
    there true m = refl
    there false m = refl

    elsewhere : (e m : Bool) → m ≡ ((e && false) || m)
    elsewhere true m = refl
    elsewhere false m = refl

    by : (k ≡ i) ⊎ (k ≡ i → ⊥) → member (words_at (slice_set xs i written) k) j ≡ ((nat_eq j n && nat_eq k i) || member (words_at xs k) j)
    by (inl e) =
        let R : ℕ → Type 0 = λ k. member (words_at (slice_set xs i written) k) j ≡ ((nat_eq j n && nat_eq k i) || member (words_at xs k) j) in
        let own : nat_eq i i ≡ true = grind (arith, nat_tests) in
        subst R (sym e) (ap (λ ws. member ws j) (words_set xs i written within) ∙ put j low ∙ ap (λ ws. nat_eq j n || member ws j) (sym is) ∙ there (nat_eq j n) (member (words_at xs i) j)
        ∙ ap (λ b. (nat_eq j n && b) || member (words_at xs i) j) (sym own))
    by (inr e) =
        let other : nat_eq k i ≡ false = grind (arith, nat_tests, e) in
        ap (λ ws. member ws j) (words_set_other xs i k written e) ∙ elsewhere (nat_eq j n) (member (words_at xs k) j) ∙ ap (λ b. (nat_eq j n && b) || member (words_at xs k) j) (sym other)
