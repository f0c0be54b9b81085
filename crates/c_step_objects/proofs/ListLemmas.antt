-- Lists that grow at the end.
use Rattle.std.proofs.Common.{◌≡◌, ℕ, ◌+◌, List, [], ◌∷◌, ◌++◌, length, refl, sym, ap, ◌∙◌, arith, append_assoc}
use Rattle.std.proofs.lemmas.List.{append-nil, length-append}

-- One more of a list of which the rest is left.
pub one_more : {A : Type 0} (old new rest all total : List A) (x y : A) → new ≡ old ++ x ∷ [] → x ≡ y → all ≡ y ∷ rest → old ++ all ≡ total → new ++ rest ≡ total
one_more {A} old new rest all total x y put same here so_far =
    ap (λ (xs : List A). xs ++ rest) put ∙ (append_assoc old (x ∷ []) rest ∙ (ap (λ (z : A). old ++ z ∷ rest) same ∙ (ap (λ (xs : List A). old ++ xs) (sym here) ∙ so_far)))

pub none_left : {A : Type 0} (xs : List A) → length xs ≡ 0 → xs ≡ []
none_left [] e = refl
none_left (x ∷ xs) e = absurd (omega (arith, e))

pub all_there : {A : Type 0} (front rest total : List A) → front ++ rest ≡ total → rest ≡ [] → front ≡ total
all_there {A} front rest total is none = sym (append-nil front) ∙ (ap (λ (xs : List A). front ++ xs) (sym none) ∙ is)

pub one_longer : {A : Type 0} (old new : List A) (x : A) (m n : ℕ) → new ≡ old ++ x ∷ [] → length old ≡ m + n → length new ≡ m + (n + 1)
one_longer old new x m n put so_far = ap length put ∙ omega (arith, length-append old (x ∷ []), so_far)

pub one_longer_is : {A : Type 0} (old new : List A) (x : A) (n : ℕ) → new ≡ old ++ x ∷ [] → length old ≡ n → length new ≡ n + 1
one_longer_is old new x n put so_far = ap length put ∙ omega (arith, length-append old (x ∷ []), so_far)
