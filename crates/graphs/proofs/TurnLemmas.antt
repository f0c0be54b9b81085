-- A graph is turned, number by number.
use Rattle.std.proofs.Common.{◌≡◌, ℕ, zero, suc, ◌+◌, ◌<◌, ◌≤◌, ◌||◌, ◌&&◌, Bool, true, false, List, [], ◌∷◌, ◌++◌, length, take, set, nat_eq, slice_index_or, get_or, refl, sym, ap, ◌∙◌, arith}
use Rattle.std.proofs.lemmas.Bool.Decides.{nat_tests}
use Rattle.graphs.specs.Graphs.{holds, row_at, goes}
use Rattle.graphs.proofs.WalkLemmas.{holds-pushed}

or_false : (t : Bool) → (t || false) ≡ t
or_false true = refl
or_false false = refl

or_swap : (x y : Bool) → (x || y) ≡ (y || x)
or_swap true true = refl
or_swap true false = refl
or_swap false true = refl
or_swap false false = refl

-- The front of a row, place by place.
pub take-next : (ks : List ℕ) (i b d : ℕ) → i < length ks → holds (take (i + 1) ks) b ≡ (holds (take i ks) b || nat_eq b (slice_index_or ks i d))
take-next [] i b d l = absurd (omega (arith, l))
take-next (k ∷ ks) zero b d l = or_false (nat_eq b k)
take-next (k ∷ ks) (suc i) b d l =
    ap (λ n. holds (take n (k ∷ ks)) b) (sym next) ∙ ap (λ t. nat_eq b k || t) (take-next ks i b d (omega (arith, l)))
    ∙ joined (nat_eq b k) (holds (take i ks) b) (nat_eq b (slice_index_or ks i d))
  where
    next : suc (i + 1) ≡ suc i + 1
    next = omega arith

    joined : (x y z : Bool) → (x || (y || z)) ≡ ((x || y) || z)
    joined true y z = refl
    joined false y z = refl

pub take-over : (ks : List ℕ) (i : ℕ) → length ks ≤ i → take i ks ≡ ks
take-over [] zero l = refl
take-over [] (suc i) l = refl
take-over (k ∷ ks) zero l = absurd (omega (arith, l))
take-over (k ∷ ks) (suc i) l = ap (λ r. k ∷ r) (take-over ks i (omega (arith, l)))

-- One more of a row whose numbers are made to go to one.
pub row-more : (row : List ℕ) (i b d : ℕ) (g h c : Bool) → i < length row → g ≡ (h || (holds (take i row) b && c)) → (g || (nat_eq b (slice_index_or row i d) && c)) ≡ (h || (holds (take (i + 1) row) b && c))
row-more row i b d g h c l e =
    ap (λ t. t || (nat_eq b (slice_index_or row i d) && c)) e ∙ shared h (holds (take i row) b) (nat_eq b (slice_index_or row i d)) c
    ∙ ap (λ t. h || (t && c)) (sym (take-next row i b d l))
  where
    shared : (h x y c : Bool) → ((h || (x && c)) || (y && c)) ≡ (h || ((x || y) && c))
    shared true x y c = refl
    shared false true y true = refl
    shared false true true false = refl
    shared false true false false = refl
    shared false false y c = refl

pub row-begins : (g c : Bool) → g ≡ (g || (false && c))
row-begins g c = sym (or_false g)

-- One more number in one row.
pub goes-joined : (rows : List (List ℕ)) (a b : ℕ) (row : List ℕ) → a < length rows → row ≡ row_at rows a ++ b ∷ [] → (c d : ℕ) → goes (set rows a row) c d ≡ (goes rows c d || (nat_eq c a && nat_eq d b))
goes-joined [] a b row l e c d = absurd (omega (arith, l))
goes-joined (r ∷ rows) zero b row l e zero d = ap (λ k. holds k d) e ∙ holds-pushed r b d ∙ or_swap (nat_eq d b) (holds r d)
goes-joined (r ∷ rows) zero b row l e (suc c) d =
    let no : nat_eq (suc c) 0 ≡ false = grind (arith, nat_tests) in
    sym (or_false (goes rows c d)) ∙ ap (λ t. goes rows c d || (t && nat_eq d b)) (sym no)
goes-joined (r ∷ rows) (suc a) b row l e zero d =
    let no : nat_eq 0 (suc a) ≡ false = grind (arith, nat_tests) in
    sym (or_false (holds r d)) ∙ ap (λ t. holds r d || (t && nat_eq d b)) (sym no)
goes-joined (r ∷ rows) (suc a) b row l e (suc c) d =
    let same : nat_eq c a ≡ nat_eq (suc c) (suc a) = grind (arith, nat_tests) in
    goes-joined rows a b row (omega (arith, l)) e c d ∙ ap (λ t. goes rows c d || (t && nat_eq d b)) same

-- The row of a number of the graph, as it is read.
pub row-read : (rows : List (List ℕ)) (a : ℕ) (row : List ℕ) → a < length rows → row ≡ get_or rows a row → row ≡ row_at rows a
row-read [] a row l e = absurd (omega (arith, l))
row-read (r ∷ rows) zero row l e = e
row-read (r ∷ rows) (suc a) row l e = row-read rows a row (omega (arith, l)) e
