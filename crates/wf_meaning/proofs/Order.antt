-- The points of a typed package stand in order of place.
use Rattle.std.proofs.Common.{◌≡◌, ◌⊎◌, inl, inr, ℕ, zero, suc, Bool, true, false, ◌&&◌, List, [], ◌∷◌, ◌++◌, Some, refl, subst}
use Rattle.std.specs.Prelude.{slice_get, if◌then◌else◌}
use Rattle.std.specs.List.{list_all, AllByRecursion}
use Rattle.wf_ast.specs.declared.typed_nodes.TypedNodes.{TypedNodes}
use Rattle.wf_ast.specs.TypedTree.{Site, Block, end, plain, choose, loop}
use Rattle.wf_ast.specs.TypedPackage.{MethodTree, package_of}
use Rattle.wf_ast.specs.TypedInvariant.{IsTyped}
use Rattle.wf_ast.specs.StatementOrder.{stands_before, sites_in, ascend, stand_in_order}
use Rattle.wf_meaning.specs.Remaining.{is_point, points_in}
use Rattle.wf_meaning.specs.Laws.{Ascend}

both_true : (a b : Bool) → (a && b) ≡ true → (a ≡ true) × (b ≡ true)
both_true true b h = (refl, h)
both_true false b h = absurd (cc (h))

-- The first list is left of the second one where some of its items are taken away.
abbrev IsLeft : (xs ys : List Site) → Type 0
IsLeft [] ys = Unit {0}
IsLeft (x ∷ xs) [] = ⊥
IsLeft (x ∷ xs) (y ∷ ys) = ((y ≡ x) × IsLeft xs ys) ⊎ IsLeft (x ∷ xs) ys

skipped : (xs ys : List Site) (y : Site) → IsLeft xs ys → IsLeft xs (y ∷ ys)
skipped [] ys y h = tt
skipped (x ∷ xs) ys y h = inr h

skipped_all : (xs ys zs : List Site) → IsLeft xs zs → IsLeft xs (ys ++ zs)
skipped_all xs [] zs h = h
skipped_all xs (y ∷ ys) zs h = skipped xs (ys ++ zs) y (skipped_all xs ys zs h)

joined : (xs ys us vs : List Site) → IsLeft xs ys → IsLeft us vs → IsLeft (xs ++ us) (ys ++ vs)
joined [] ys us vs h k = skipped_all us ys vs k
joined (x ∷ xs) [] us vs h k = absurd h
joined (x ∷ xs) (y ∷ ys) us vs (inl h) k = inl (h.0, joined xs ys us vs h.1 k)
joined (x ∷ xs) (y ∷ ys) us vs (inr h) k = inr (joined (x ∷ xs) ys us vs h k)

plain_left : (point : Bool) (site : Site) (xs ys : List Site) → IsLeft xs ys → IsLeft (if point then site ∷ xs else xs) (site ∷ ys)
plain_left true site xs ys h = inl (refl, h)
plain_left false site xs ys h = skipped xs ys site h

choice_left : (chained : Bool) (site : Site) (xs ys : List Site) → IsLeft xs ys → IsLeft xs (if chained then ys else site ∷ ys)
choice_left true site xs ys h = h
choice_left false site xs ys h = skipped xs ys site h

points_left : (b : Block) → IsLeft (points_in b) (sites_in b)
points_left end = tt
points_left (plain site s rest) = plain_left (is_point s) site (points_in rest) (sites_in rest) (points_left rest)
points_left (choose site chained c a b rest) =
    let behind = joined (points_in b) (sites_in b) (points_in rest) (sites_in rest) (points_left b) (points_left rest) in
    let inner = joined (points_in a) (sites_in a) (points_in b ++ points_in rest) (sites_in b ++ sites_in rest) (points_left a) behind in
    choice_left chained site (points_in a ++ (points_in b ++ points_in rest)) (sites_in a ++ (sites_in b ++ sites_in rest)) inner
points_left (loop site head body rest) =
    skipped (points_in body ++ points_in rest) (sites_in body ++ sites_in rest) site (joined (points_in body) (sites_in body) (points_in rest) (sites_in rest) (points_left body) (points_left rest))

all_left : (test : Site → Bool) (xs ys : List Site) → IsLeft xs ys → list_all test ys ≡ true → AllByRecursion (λ t. test t ≡ true) xs
all_left test [] ys h k = tt
all_left test (x ∷ xs) [] h k = absurd h
all_left test (x ∷ xs) (y ∷ ys) (inl h) k =
    let p = both_true (test y) _ k in
    let P : Site → Type 0 = λ z. test z ≡ true in
    (subst P h.0 p.0, all_left test xs ys h.1 p.1)
all_left test (x ∷ xs) (y ∷ ys) (inr h) k = all_left test (x ∷ xs) ys h (both_true (test y) _ k).1

left_ascends : (xs ys : List Site) → IsLeft xs ys → ascend ys ≡ true → Ascend xs
left_ascends [] ys h k = tt
left_ascends (x ∷ xs) [] h k = absurd h
left_ascends (x ∷ xs) (y ∷ ys) (inl h) k =
    let p = both_true (list_all (λ t. stands_before y.at t.at) ys) _ k in
    let P : Site → Type 0 = λ z. AllByRecursion (λ t. stands_before z.at t.at ≡ true) xs in
    (subst P h.0 (all_left (λ t. stands_before y.at t.at) xs ys h.1 p.0), left_ascends xs ys h.1 p.1)
left_ascends (x ∷ xs) (y ∷ ys) (inr h) k = left_ascends (x ∷ xs) ys h (both_true (list_all (λ t. stands_before y.at t.at) ys) _ k).1

one_of : (test : MethodTree → Bool) (ms : List MethodTree) (i : ℕ) (m : MethodTree) → list_all test ms ≡ true → slice_get ms i ≡ Some m → test m ≡ true
one_of test [] i m h e = absurd (cc (e))
one_of test (n ∷ ms) zero m h e =
    let k : n ≡ m = cc (e) in
    let P : MethodTree → Type 0 = λ z. test z ≡ true in
    subst P k (both_true (test n) _ h).0
one_of test (n ∷ ms) (suc i) m h e = one_of test ms i m (both_true (test n) _ h).1 e

pub points_ascend : (nodes : TypedNodes) → IsTyped nodes → (m : ℕ) (method : MethodTree) → slice_get (package_of nodes).methods m ≡ Some method → Ascend (points_in method.body)
unfolding stand_in_order
points_ascend nodes typed m method known =
    left_ascends (points_in method.body) (sites_in method.body) (points_left method.body)
    (one_of (λ m. ascend (sites_in m.body)) (package_of nodes).methods m method typed.placed known)
