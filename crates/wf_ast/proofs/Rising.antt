-- Lists whose places rise, and lists that stand among others in their order.
use Rattle.std.proofs.Common.{◌≡◌, ◌⊎◌, inl, inr, ℕ, Bool, true, ◌&&◌, ◌||◌, nat_eq, nat_lt, List, [], ◌∷◌, ◌++◌, map, refl, sym, subst, append_assoc, arith}
use Rattle.std.proofs.lemmas.Bool.Decides.{nat_tests}
use Rattle.std.proofs.lemmas.List.{append-nil}
use Rattle.std.specs.List.{list_all, AllByRecursion}
use Rattle.wf_text.specs.declared.place.Place.{Place}
use Rattle.wf_ast.specs.TypedTree.{Site}
use Rattle.wf_ast.specs.StatementOrder.{stands_before, ascend}
use Rattle.wf_ast.specs.StatementPlaces.{rise}
use Rattle.wf_ast.proofs.BoolLemmas.{both, and-true}

-- One place stands before another.
abbrev pub Before : Place → Place → Type 0
Before p q = stands_before p q ≡ true

by-first : (a b c : ℕ) (x y z : Bool) → (x ≡ true → y ≡ true → z ≡ true)
    → (nat_lt a b || (nat_eq a b && x)) ≡ true → (nat_lt b c || (nat_eq b c && y)) ≡ true → (nat_lt a c || (nat_eq a c && z)) ≡ true
by-first a b c x y z h p q = grind (arith, nat_tests, h, p, q)

by-last : (a b c : ℕ) → nat_lt a b ≡ true → nat_lt b c ≡ true → nat_lt a c ≡ true
by-last a b c p q = grind (arith, nat_tests, p, q)

pub before-all : (p q r : Place) → Before p q → Before q r → Before p r
before-all p q r = by-first p.file q.file r.file _ _ _ (by-first p.line q.line r.line _ _ _ (by-last p.col q.col r.col))

-- What has places that rise.
abbrev pub Rises : {X : Type 0} → (place : X → Place) → List X → Type 0
Rises place [] = Unit {0}
Rises place (x ∷ xs) = AllByRecursion (λ y. Before (place x) (place y)) xs × Rises place xs

-- The first list has its places from the second one, in the same order.
abbrev pub StandAmong : {X Y : Type 0} → (f : X → Place) → (g : Y → Place) → List X → List Y → Type 0
StandAmong f g [] ys = Unit {0}
StandAmong f g (x ∷ xs) [] = ⊥
StandAmong f g (x ∷ xs) (y ∷ ys) = ((f x ≡ g y) × StandAmong f g xs ys) ⊎ StandAmong f g (x ∷ xs) ys

module _ {X Y : Type 0} (f : X → Place) (g : Y → Place) where
  pub over : (xs : List X) (y : Y) (ys : List Y) → StandAmong f g xs ys → StandAmong f g xs (y ∷ ys)
  over [] y ys h = tt
  over (x ∷ xs) y ys h = inr h

  pub over-all : (xs : List X) (ys zs : List Y) → StandAmong f g xs zs → StandAmong f g xs (ys ++ zs)
  over-all xs [] zs h = h
  over-all xs (y ∷ ys) zs h = over xs y (ys ++ zs) (over-all xs ys zs h)

  pub in-front : (xs : List X) (ys zs : List Y) → StandAmong f g xs ys → StandAmong f g xs (ys ++ zs)
  in-front [] ys zs h = tt
  in-front (x ∷ xs) [] zs h = absurd h
  in-front (x ∷ xs) (y ∷ ys) zs (inl h) = inl (h.0, in-front xs ys zs h.1)
  in-front (x ∷ xs) (y ∷ ys) zs (inr h) = inr (in-front (x ∷ xs) ys zs h)

  pub joined : (xs us : List X) (ys vs : List Y) → StandAmong f g xs ys → StandAmong f g us vs → StandAmong f g (xs ++ us) (ys ++ vs)
  joined [] us ys vs h k = over-all us ys vs k
  joined (x ∷ xs) us [] vs h k = absurd h
  joined (x ∷ xs) us (y ∷ ys) vs (inl h) k = inl (h.0, joined xs us ys vs h.1 k)
  joined (x ∷ xs) us (y ∷ ys) vs (inr h) k = inr (joined (x ∷ xs) us ys vs h k)

  pub three-joined : (us vs ws : List X) (xs ys zs : List Y) → StandAmong f g us xs → StandAmong f g vs ys → StandAmong f g ws zs → StandAmong f g (us ++ (vs ++ ws)) ((xs ++ ys) ++ zs)
  three-joined us vs ws xs ys zs h k l =
      let P : List Y → Type 0 = StandAmong f g (us ++ (vs ++ ws)) in
      subst P (sym (append_assoc xs ys zs)) (joined us (vs ++ ws) xs (ys ++ zs) h (joined vs ws ys zs k l))

  pub none-behind : (xs : List X) (ys : List Y) → StandAmong f g xs ys → StandAmong f g (xs ++ []) ys
  none-behind xs ys h =
      let P : List X → Type 0 = λ zs. StandAmong f g zs ys in
      subst P (sym (append-nil xs)) h

  pub but-first : (x : X) (xs : List X) (ys : List Y) → StandAmong f g (x ∷ xs) ys → StandAmong f g xs ys
  but-first x xs [] h = absurd h
  but-first x xs (y ∷ ys) (inl h) = over xs y ys h.1
  but-first x xs (y ∷ ys) (inr h) = over xs y ys (but-first x xs ys h)

  all-among : (p : Place) (xs : List X) (ys : List Y) → StandAmong f g xs ys → AllByRecursion (λ y. Before p (g y)) ys → AllByRecursion (λ x. Before p (f x)) xs
  all-among p [] ys h a = tt
  all-among p (x ∷ xs) [] h a = absurd h
  all-among p (x ∷ xs) (y ∷ ys) (inl h) a =
      let P : Place → Type 0 = Before p in
      (subst P (sym h.0) a.0, all-among p xs ys h.1 a.1)
  all-among p (x ∷ xs) (y ∷ ys) (inr h) a = all-among p (x ∷ xs) ys h a.1

  -- What stands among what rises does so too.
  pub rises-among : (xs : List X) (ys : List Y) → StandAmong f g xs ys → Rises g ys → Rises f xs
  rises-among [] ys h r = tt
  rises-among (x ∷ xs) [] h r = absurd h
  rises-among (x ∷ xs) (y ∷ ys) (inl h) r =
      let P : Place → Type 0 = λ p. AllByRecursion (λ z. Before p (f z)) xs in
      (subst P (sym h.0) (all-among (g y) xs ys h.1 r.0), rises-among xs ys h.1 r.1)
  rises-among (x ∷ xs) (y ∷ ys) (inr h) r = rises-among (x ∷ xs) ys h r.1

module _ {X : Type 0} (f : X → Place) where
  itself : (xs : List X) → StandAmong f f xs xs
  itself [] = tt
  itself (x ∷ xs) = inl (refl, itself xs)

  pub rises-front : (xs ys : List X) → Rises f (xs ++ ys) → Rises f xs
  rises-front xs ys r = rises-among f f xs (xs ++ ys) (in-front f f xs xs ys (itself xs)) r

  pub rises-behind : (xs ys : List X) → Rises f (xs ++ ys) → Rises f ys
  rises-behind xs ys r = rises-among f f ys (xs ++ ys) (over-all f f ys xs ys (itself ys)) r

  -- The places themselves.
  mapped : (xs : List X) → StandAmong (λ (p : Place). p) f (map f xs) xs
  mapped [] = tt
  mapped (x ∷ xs) = inl (refl, mapped xs)

  pub places-rise : (xs : List X) → Rises f xs → Rises (λ (p : Place). p) (map f xs)
  places-rise xs r = rises-among (λ (p : Place). p) f (map f xs) xs (mapped xs) r

-- The tests say the same.
module _ {X : Type 0} (test : X → Bool) where
  all-pass : (xs : List X) → AllByRecursion (λ x. test x ≡ true) xs → list_all test xs ≡ true
  all-pass [] a = refl
  all-pass (x ∷ xs) a = and-true (test x) (list_all test xs) a.0 (all-pass xs a.1)

  each-passes : (xs : List X) → list_all test xs ≡ true → AllByRecursion (λ x. test x ≡ true) xs
  each-passes [] h = tt
  each-passes (x ∷ xs) h = let parts = both (test x) (list_all test xs) h in (parts.0, each-passes xs parts.1)

pub rises-by-test : (ps : List Place) → rise ps ≡ true → Rises (λ (p : Place). p) ps
rises-by-test [] h = tt
rises-by-test (p ∷ ps) h =
    let parts = both (list_all (stands_before p) ps) (rise ps) h in
    (each-passes (stands_before p) ps parts.0, rises-by-test ps parts.1)

pub rise-passes : (ps : List Place) → Rises (λ (p : Place). p) ps → rise ps ≡ true
rise-passes [] r = refl
rise-passes (p ∷ ps) r = and-true (list_all (stands_before p) ps) (rise ps) (all-pass (stands_before p) ps r.0) (rise-passes ps r.1)

pub ascend-passes : (sites : List Site) → Rises (λ (s : Site). s.at) sites → ascend sites ≡ true
ascend-passes [] r = refl
ascend-passes (s ∷ ss) r =
    and-true (list_all (λ t. stands_before s.at t.at) ss) (ascend ss) (all-pass (λ (t : Site). stands_before s.at t.at) ss r.0) (ascend-passes ss r.1)
