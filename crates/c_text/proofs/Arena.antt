-- The trees of an arena's nodes: a node's tree is made of those of its parts, and is kept while the arena grows.
use Rattle.std.proofs.Common.{◌≡◌, ℕ, zero, suc, ◌+◌, ◌<◌, List, [], ◌∷◌, ◌++◌, length, Some, refl, sym, ◌∙◌, ap, subst, arith, length-append, unwrap_or}
use Rattle.std.specs.List.{slice_get}
use Rattle.c_text.specs.CNodes.{trees_after, tree_at}

-- at a place of the first list, both lists together hold what the first holds
pub slice_get-front : {X : Type 0} (xs ys : List X) (i : ℕ) → i < length xs → slice_get (xs ++ ys) i ≡ slice_get xs i
slice_get-front [] ys i h = absurd (omega (arith, h))
slice_get-front (x ∷ xs) ys zero h = refl
slice_get-front (x ∷ xs) ys (suc i) h = slice_get-front xs ys i (omega (arith, h))

pub slice_get-seam : {X : Type 0} (xs : List X) (x : X) (ys : List X) → slice_get (xs ++ x ∷ ys) (length xs) ≡ Some x
slice_get-seam [] x ys = refl
slice_get-seam (a ∷ xs) x ys = slice_get-seam xs x ys

pub slice_get-some : {X : Type 0} (xs : List X) (i : ℕ) → i < length xs → (x : X) × (slice_get xs i ≡ Some x)
slice_get-some [] i h = absurd (omega (arith, h))
slice_get-some (x ∷ xs) zero h = (x, refl)
slice_get-some (x ∷ xs) (suc i) h = slice_get-some xs i (omega (arith, h))

-- a list is what stands before a place, the place, and the rest
pub record Split {X : Type 0} (xs : List X) (i : ℕ) (x : X) : Type 0 where
  pub front : List X
  pub back : List X
  pub whole : xs ≡ front ++ x ∷ back
  pub place : length front ≡ i

pub split_at_place : {X : Type 0} (xs : List X) (i : ℕ) (x : X) → slice_get xs i ≡ Some x → Split xs i x
split_at_place [] i x h = absurd (cc (h))
split_at_place (a ∷ xs) zero x h = let e : a ≡ x = cc (h) in record { front = []; back = xs; whole = ap (λ y. y ∷ xs) e; place = refl }
split_at_place (a ∷ xs) (suc i) x h = let s = split_at_place xs i x h in record { front = a ∷ s.front; back = s.back; whole = ap (λ ys. a ∷ ys) s.whole; place = ap (λ n. suc n) s.place }

trees_after-append : {X T : Type 0} (make : (ℕ → T) → X → T) (none : T) (ts : List T) (xs ys : List X) → trees_after make none ts (xs ++ ys) ≡ trees_after make none (trees_after make none ts xs) ys
trees_after-append make none ts [] ys = refl
trees_after-append make none ts (x ∷ xs) ys = trees_after-append make none (ts ++ make (λ i. unwrap_or (slice_get ts i) none) x ∷ []) xs ys

trees_after-length : {X T : Type 0} (make : (ℕ → T) → X → T) (none : T) (ts : List T) (xs : List X) → length (trees_after make none ts xs) ≡ length ts + length xs
trees_after-length make none ts [] = omega arith
trees_after-length make none ts (x ∷ xs) = omega (arith, trees_after-length make none (ts ++ make (λ i. unwrap_or (slice_get ts i) none) x ∷ []) xs, length-append ts (make (λ i. unwrap_or (slice_get ts i) none) x ∷ []))

trees_after-front : {X T : Type 0} (make : (ℕ → T) → X → T) (none : T) (ts : List T) (xs : List X) (i : ℕ) → i < length ts → slice_get (trees_after make none ts xs) i ≡ slice_get ts i
trees_after-front make none ts [] i h = refl
trees_after-front make none ts (x ∷ xs) i h =
    let more = make (λ i. unwrap_or (slice_get ts i) none) x ∷ [] in
    trees_after-front make none (ts ++ more) xs i (omega (arith, h, length-append ts more)) ∙ slice_get-front ts more i h

-- `make` reads no tree of a part from `i` on
abbrev pub Agrees : {X T : Type 0} → ((ℕ → T) → X → T) → ℕ → X → Type 0
Agrees {X} {T} make i x = (f g : ℕ → T) → ((p : ℕ) → p < i → f p ≡ g p) → make f x ≡ make g x

pub tree_at-is : {X T : Type 0} (make : (ℕ → T) → X → T) (none : T) (xs : List X) (i : ℕ) (x : X) → slice_get xs i ≡ Some x → Agrees make i x → tree_at make none xs i ≡ make (tree_at make none xs) x
tree_at-is {X} {T} make none xs i x h agrees =
    let s = split_at_place xs i x h in
    let before : List T = trees_after make none [] s.front in
    let long : length before ≡ i = trees_after-length make none [] s.front ∙ (omega (arith, s.place)) in
    let own : T = make (λ p. unwrap_or (slice_get before p) none) x in
    let all : trees_after make none [] xs ≡ trees_after make none (before ++ own ∷ []) s.back = ap (λ ys. trees_after make none [] ys) s.whole ∙ trees_after-append make none [] s.front (x ∷ s.back) in
    let grown : length (before ++ own ∷ []) ≡ i + 1 = length-append before (own ∷ []) ∙ omega (arith, long) in
    let parts : (p : ℕ) → p < i → tree_at make none xs p ≡ unwrap_or (slice_get before p) none =
    λ p less. ap (λ t. unwrap_or t none) (ap (λ ts. slice_get ts p) all ∙ (trees_after-front make none (before ++ own ∷ []) s.back p (omega (arith, less, grown)) ∙ slice_get-front before (own ∷ []) p (omega (arith, less, long)))) in
    let seam : slice_get (before ++ own ∷ []) i ≡ Some own = subst (λ (n : ℕ). slice_get (before ++ own ∷ []) n ≡ Some own) long (slice_get-seam before own []) in
    let here : tree_at make none xs i ≡ own =
    ap (λ t. unwrap_or t none) (ap (λ ts. slice_get ts i) all ∙ (trees_after-front make none (before ++ own ∷ []) s.back i (omega (arith, grown)) ∙ seam)) in
    here ∙ sym (agrees (tree_at make none xs) (λ p. unwrap_or (slice_get before p) none) parts)

-- the two ways of making trees agree at each node of a list
abbrev pub SameMake : {X T : Type 0} → (make other : (ℕ → T) → X → T) → List X → Type 0
SameMake {X} {T} make other xs = (i : ℕ) (x : X) → slice_get xs i ≡ Some x → (f g : ℕ → T) → ((p : ℕ) → p < i → f p ≡ g p) → other f x ≡ make g x

kept_below : {X T : Type 0} (make other : (ℕ → T) → X → T) (none : T) (xs ys : List X) → SameMake make other xs → (n : ℕ) (i : ℕ) → i < n → i < length xs → tree_at other none (xs ++ ys) i ≡ tree_at make none xs i
kept_below make other none xs ys same zero i below within = absurd (omega (arith, below))
kept_below {X} {T} make other none xs ys same (suc n) i below within =
    let found = slice_get-some xs i within in
    let x : X = found.0 in
    let is : slice_get xs i ≡ Some x = found.1 in
    let is_too : slice_get (xs ++ ys) i ≡ Some x = slice_get-front xs ys i within ∙ is in
    let one : Agrees make i x = λ f g agree. sym (same i x is f f (λ p less. refl)) ∙ same i x is f g agree in
    let two : Agrees other i x = λ f g agree. same i x is f g agree ∙ sym (same i x is g g (λ p less. refl)) in
    tree_at-is other none (xs ++ ys) i x is_too two ∙ (same i x is (tree_at other none (xs ++ ys)) (tree_at make none xs) (λ p less. kept_below make other none xs ys same n p (omega (arith, less, below)) (omega (arith, less, within))) ∙ sym (tree_at-is make none xs i x is one))

pub tree_at-kept : {X T : Type 0} (make other : (ℕ → T) → X → T) (none : T) (xs ys : List X) → SameMake make other xs → (i : ℕ) → i < length xs → tree_at other none (xs ++ ys) i ≡ tree_at make none xs i
tree_at-kept make other none xs ys same i within = kept_below make other none xs ys same (suc i) i (omega arith) within
