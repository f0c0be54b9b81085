-- The numbers of points, those of a method and those of several, and which refusal decides.
use Rattle.std.proofs.Common.{◌≡◌, ◌⊎◌, inl, inr, ℕ, zero, suc, ◌+◌, ◌<◌, ◌≤◌, Bool, true, false, List, [], ◌∷◌, length, map, Option, Some, None, nat_eq, refl, sym, ap, ◌∙◌, subst, arith}
use Rattle.std.specs.Prelude.{slice_get, option_map, if◌then◌else◌}
use Rattle.std.proofs.lemmas.Bool.Decides.{nat_tests}
use Rattle.wf_text.specs.declared.rules.Refusal.{Refusal}
use Rattle.wf_text.specs.Precedence.{sooner, soonest, Decides}
use Rattle.wf_text.proofs.PrecedenceLaws.{Decides-map, Decides-sooner}
use Rattle.wf_ast.specs.declared.typed_nodes.TypedNodes.{TypedNodes}
use Rattle.wf_ast.specs.declared.declarations.Method.{Method}
use Rattle.wf_ast.specs.declared.typed_code.Block as typed_code
use Rattle.wf_ast.specs.TypedTree.{Site, Block}
use Rattle.wf_ast.specs.TypedPackage.{MethodTree, package_of, method_of, methods_of}
use Rattle.wf_ast.specs.TypedTrees.{block_of}
use Rattle.wf_ast.specs.TypedInvariant.{block_below, IsTyped}
use Rattle.wf_ast.proofs.Arena.{both_true}
use Rattle.std.specs.List.{list_all}
use Rattle.wf_meaning.specs.Remaining.{points_in, number_of}
use Rattle.wf_meaning.proofs.Numbers.{numbered}
use Rattle.wf_meaning.proofs.Order.{points_ascend}
use Rattle.wf_points.specs.declared.finding.FoundPoint.{FoundPoint}
use Rattle.wf_points.specs.PointNumbers.{number_at, point_with, number_in, earlier, point_number, most_points, HasTooMany, StandOnce, IsPoint}
use Rattle.wf_points.proofs.OnceLemmas.{stand_once}
use Rattle.wf_points.specs.FoundPoints.{found_at, refused_at, too_many, numbered_from, limit_at, limit_of, NumbersMethod}

-- Points that are numbered from `n` on have the numbers that are found.
found_numbers : (f : Site → ℕ) (n : ℕ) (xs : List Site) (s : ℕ) → ((i : ℕ) (site : Site) → slice_get xs i ≡ Some site → f site ≡ n + i)
    → numbered_from n (map found_at xs) s ≡ option_map f (point_with s xs)
found_numbers f n [] s h = refl
found_numbers f n (x ∷ xs) s h = by (nat_eq x.number s) (h 0 x refl) (found_numbers f (n + 1) xs s (λ i site e. h (suc i) site e ∙ omega arith))
  where
    by : (test : Bool) → f x ≡ n + 0 → numbered_from (n + 1) (map found_at xs) s ≡ option_map f (point_with s xs)
        → (if test then Some n else numbered_from (n + 1) (map found_at xs) s) ≡ option_map f (if test then Some x else point_with s xs)
    by true e k = let m : n ≡ f x = omega (arith, e) in ap (λ j. Some j) m
    by false e k = k

pub in_order : (nodes : TypedNodes) → IsTyped nodes → (m : ℕ) (method : MethodTree) → slice_get (package_of nodes).methods m ≡ Some method
    → (i : ℕ) (site : Site) → slice_get (points_in method.body) i ≡ Some site → number_of method.body site ≡ 1 + i
in_order nodes typed m method known i site e = numbered (points_in method.body) (points_ascend nodes typed m method known) i site e

pub method_numbers : (nodes : TypedNodes) → IsTyped nodes → (m : ℕ) (method : MethodTree) → slice_get (package_of nodes).methods m ≡ Some method
    → (s : ℕ) → numbered_from 1 (map found_at (points_in method.body)) s ≡ number_in method.body s
method_numbers nodes typed m method known s = found_numbers (number_of method.body) 1 (points_in method.body) s (in_order nodes typed m method known)

-- The refusal of a method.
get_map : {X Y : Type 0} (f : X → Y) (xs : List X) (i : ℕ) → slice_get (map f xs) i ≡ option_map f (slice_get xs i)
get_map f [] i = refl
get_map f (x ∷ xs) zero = refl
get_map f (x ∷ xs) (suc i) = get_map f xs i

pub limit_met : (method : MethodTree) → limit_of (map found_at (points_in method.body)) ≡ too_many method
limit_met method = ap (option_map limit_at) (get_map found_at (points_in method.body) most_points) ∙ twice (slice_get (points_in method.body) most_points)
  where
    twice : (o : Option Site) → option_map limit_at (option_map found_at o) ≡ option_map refused_at o
    twice None = refl
    twice (Some site) = refl

-- Which refusal decides.
abbrev InMethods : List MethodTree → Refusal → Type 0
InMethods [] r = ⊥
InMethods (m ∷ ms) r = (too_many m ≡ Some r) ⊎ InMethods ms r

decides_over : (P : Refusal → Type 0) (found : Option Refusal) (ms : List MethodTree) → Decides P found
    → Decides (λ r. P r ⊎ InMethods ms r) (soonest found (map too_many ms))
decides_over P found [] h = Decides-map P (λ r. P r ⊎ InMethods [] r) found (λ r p. inl p) (λ r c. elim c [ inl p ↦ p | inr q ↦ absurd q ]) h
decides_over P found (m ∷ ms) h =
    Decides-map (λ r. (P r ⊎ (too_many m ≡ Some r)) ⊎ InMethods ms r) (λ r. P r ⊎ InMethods (m ∷ ms) r) (soonest (sooner found (too_many m)) (map too_many ms))
    (λ r c. elim c [ inl p ↦ elim p [ inl k ↦ inl k | inr n ↦ inr (inl n) ] | inr q ↦ inr (inr q) ])
    (λ r c. elim c [ inl k ↦ inl (inl k) | inr q ↦ elim q [ inl n ↦ inl (inr n) | inr a ↦ inr a ] ])
    (decides_over (λ r. P r ⊎ (too_many m ≡ Some r)) (sooner found (too_many m)) ms (Decides-sooner P found (too_many m) h))

record HasMethod (ms : List MethodTree) (r : Refusal) : Type 0 where
  number : ℕ
  method : MethodTree
  known : slice_get ms number ≡ Some method
  too : too_many method ≡ Some r

in_methods : (ms : List MethodTree) (r : Refusal) → InMethods ms r → HasMethod ms r
in_methods [] r h = absurd h
in_methods (m ∷ ms) r (inl e) = record { number = 0; method = m; known = refl; too = e }
in_methods (m ∷ ms) r (inr h) = let k = in_methods ms r h in record { number = suc k.number; method = k.method; known = k.known; too = k.too }

of_methods : (ms : List MethodTree) (r : Refusal) (i : ℕ) (m : MethodTree) → slice_get ms i ≡ Some m → too_many m ≡ Some r → InMethods ms r
of_methods [] r i m e t = absurd (cc e)
of_methods (x ∷ ms) r zero m e t = let same : x ≡ m = cc e in let P : MethodTree → Type 0 = λ y. too_many y ≡ Some r in inl (subst P (sym same) t)
of_methods (x ∷ ms) r (suc i) m e t = inr (of_methods ms r i m e t)

record IsRefusedAt (points : List Site) (r : Refusal) : Type 0 where
  point : Site
  stands : slice_get points most_points ≡ Some point
  refused : r ≡ refused_at point

refused_by : (points : List Site) (r : Refusal) (o : Option Site) → slice_get points most_points ≡ o → option_map refused_at o ≡ Some r → IsRefusedAt points r
refused_by points r None e h = absurd (cc h)
refused_by points r (Some site) e h = record { point = site; stands = e; refused = cc h }

module _ (nodes : TypedNodes) (typed : IsTyped nodes) where
  breaks : (r : Refusal) → InMethods (package_of nodes).methods r → HasTooMany (package_of nodes) r
  breaks r h =
      let k = in_methods (package_of nodes).methods r h in
      let at = refused_by (points_in k.method.body) r (slice_get (points_in k.method.body) most_points) refl k.too in
      record {
        number = k.number;
        method = k.method;
        place = most_points;
        point = at.point;
        known = k.known;
        stands = at.stands;
        numbered = in_order nodes typed k.number k.method k.known most_points at.point at.stands;
        refused = at.refused;
      }

  found : (r : Refusal) → HasTooMany (package_of nodes) r → InMethods (package_of nodes).methods r
  found r h =
      let n = in_order nodes typed h.number h.method h.known h.place h.point h.stands in
      let last : h.place ≡ most_points = omega (arith, n, h.numbered) in
      let here : slice_get (points_in h.method.body) most_points ≡ Some h.point = ap (slice_get (points_in h.method.body)) (sym last) ∙ h.stands in
      of_methods (package_of nodes).methods r h.number h.method h.known (ap (option_map refused_at) here ∙ ap (λ x. Some x) (sym h.refused))

  pub decided : Decides (HasTooMany (package_of nodes)) (soonest None (map too_many (package_of nodes).methods))
  decided =
      Decides-map (λ r. ⊥ ⊎ InMethods (package_of nodes).methods r) (HasTooMany (package_of nodes)) (soonest None (map too_many (package_of nodes).methods))
      (λ r c. elim c [ inl p ↦ absurd p | inr q ↦ breaks r q ]) (λ r h. inr (found r h))
      (decides_over (λ _. ⊥) None (package_of nodes).methods (λ r p. p))

-- The tree of a method, and its points.
pub method_there : (nodes : TypedNodes) (m : ℕ) (x : Method) (b : typed_code.Block) → slice_get nodes.methods m ≡ Some x → slice_get nodes.bodies m ≡ Some b
    → slice_get (package_of nodes).methods m ≡ Some (method_of nodes x b)
unfolding package_of
method_there nodes m x b e f = at nodes.methods nodes.bodies m e f
  where
    at : (xs : List Method) (bs : List typed_code.Block) (i : ℕ) → slice_get xs i ≡ Some x → slice_get bs i ≡ Some b → slice_get (methods_of nodes xs bs) i ≡ Some (method_of nodes x b)
    at [] bs i e f = absurd (cc e)
    at (y ∷ xs) [] i e f = absurd (cc f)
    at (y ∷ xs) (c ∷ bs) zero e f = let p : y ≡ x = cc e in let q : c ≡ b = cc f in ap (λ z. Some (method_of nodes z c)) p ∙ ap (λ z. Some (method_of nodes x z)) q
    at (y ∷ xs) (c ∷ bs) (suc i) e f = at xs bs i e f

-- A body for each method.
body_there : (xs : List Method) (bs : List typed_code.Block) (i : ℕ) (x : Method) → length bs ≡ length xs → slice_get xs i ≡ Some x → (b : typed_code.Block) × (slice_get bs i ≡ Some b)
body_there [] bs i x l e = absurd (cc e)
body_there (y ∷ xs) [] i x l e = absurd (omega (arith, l))
body_there (y ∷ xs) (b ∷ bs) zero x l e = (b, refl)
body_there (y ∷ xs) (b ∷ bs) (suc i) x l e = body_there xs bs i x (omega (arith, l)) e

-- A method that is declared, with a body.
pub declared_there : (nodes : TypedNodes) → IsTyped nodes → (m : ℕ) (x : Method) → slice_get nodes.methods m ≡ Some x
    → (b : typed_code.Block) × (slice_get (package_of nodes).methods m ≡ Some (method_of nodes x b))
declared_there nodes typed m x e =
    let b = body_there nodes.methods nodes.bodies m x typed.bodied e in
    (b.0, method_there nodes m x b.0 e b.1)

-- A method with a body that is known.
pub bodied_there : (nodes : TypedNodes) → IsTyped nodes → (m : ℕ) (b : typed_code.Block) → m < length nodes.methods → slice_get nodes.bodies m ≡ Some b
    → (x : Method) × (slice_get (package_of nodes).methods m ≡ Some (method_of nodes x b))
bodied_there nodes typed m b l e =
    let x = item_there nodes.methods m l in
    (x.0, method_there nodes m x.0 b x.1 e)
  where
    item_there : (xs : List Method) (i : ℕ) → i < length xs → (x : Method) × (slice_get xs i ≡ Some x)
    item_there [] i l = absurd (omega (arith, l))
    item_there (x ∷ xs) zero l = (x, refl)
    item_there (x ∷ xs) (suc i) l = item_there xs i (omega (arith, l))

pub methods_long : (nodes : TypedNodes) → IsTyped nodes → length (package_of nodes).methods ≡ length nodes.methods
unfolding package_of
methods_long nodes typed = long nodes.methods nodes.bodies typed.bodied
  where
    long : (xs : List Method) (bs : List typed_code.Block) → length bs ≡ length xs → length (methods_of nodes xs bs) ≡ length xs
    long [] bs l = refl
    long (x ∷ xs) [] l = absurd (omega (arith, l))
    long (x ∷ xs) (b ∷ bs) l = ap (λ n. suc n) (long xs bs (omega (arith, l)))

pub body_known : (nodes : TypedNodes) → IsTyped nodes → (m : ℕ) (b : typed_code.Block) → slice_get nodes.bodies m ≡ Some b → block_below (length nodes.stmts) b ≡ true
body_known nodes typed m b e = at nodes.bodies m typed.bodies_made e
  where
    at : (bs : List typed_code.Block) (i : ℕ) → list_all (λ body. block_below (length nodes.stmts) body) bs ≡ true → slice_get bs i ≡ Some b → block_below (length nodes.stmts) b ≡ true
    at [] i h e = absurd (cc e)
    at (c ∷ bs) zero h e =
        let same : c ≡ b = cc e in
        let P : typed_code.Block → Type 0 = λ x. block_below (length nodes.stmts) x ≡ true in
        subst P same (both_true (block_below (length nodes.stmts) c) (list_all (λ body. block_below (length nodes.stmts) body) bs) h).0
    at (c ∷ bs) (suc i) h e = at bs i (both_true (block_below (length nodes.stmts) c) (list_all (λ body. block_below (length nodes.stmts) body) bs) h).1 e

-- The tree of a method that is there.
pub tree_there : (nodes : TypedNodes) → IsTyped nodes → (m : ℕ) → m < length nodes.methods → (method : MethodTree) × (slice_get (package_of nodes).methods m ≡ Some method)
tree_there nodes typed m l = there (package_of nodes).methods m (omega (arith, l, methods_long nodes typed))
  where
    there : (xs : List MethodTree) (i : ℕ) → i < length xs → (x : MethodTree) × (slice_get xs i ≡ Some x)
    there [] i l = absurd (omega (arith, l))
    there (x ∷ xs) zero l = (x, refl)
    there (x ∷ xs) (suc i) l = there xs i (omega (arith, l))

-- What was found of a method, where its points were.
pub numbers_method : (nodes : TypedNodes) → IsTyped nodes → (m : ℕ) (b : typed_code.Block) → m < length nodes.methods → slice_get nodes.bodies m ≡ Some b
    → (found : List FoundPoint) → found ≡ map found_at (points_in (block_of nodes b)) → (old new : List (Option ℕ)) (refusal : Option Refusal) → refusal ≡ limit_of found
    → (refusal ≡ None → (s : ℕ) → number_at new s ≡ earlier (number_at old s) (numbered_from 1 found s))
    → (method : MethodTree) → slice_get (package_of nodes).methods m ≡ Some method → NumbersMethod old new refusal method
numbers_method nodes typed m b l e found is old new refusal limit numbers method known =
    let x = bodied_there nodes typed m b l e in
    let same : method_of nodes x.0 b ≡ method = some_same _ _ (sym x.1 ∙ known) in
    let points : found ≡ map found_at (points_in method.body) = is ∙ ap (λ (t : MethodTree). map found_at (points_in t.body)) same in
    record {
      refused = limit ∙ ap limit_of points ∙ limit_met method;
      numbers = λ none s. numbers none s ∙ ap (λ ps. earlier (number_at old s) (numbered_from 1 ps s)) points ∙ ap (earlier (number_at old s)) (method_numbers nodes typed m method known s);
    }
  where
    some_same : (a b : MethodTree) → Some a ≡ Some b → a ≡ b
    some_same a b e = cc e

-- Where no refusal comes of the points that were found, they are few enough.
pub few_found : (points : List FoundPoint) → None ≡ limit_of points → length points ≤ most_points
few_found points h = by (slice_get points most_points) refl h
  where
    past : (xs : List FoundPoint) (i : ℕ) → slice_get xs i ≡ None → length xs ≤ i
    past [] i e = omega arith
    past (x ∷ xs) zero e = absurd (cc e)
    past (x ∷ xs) (suc i) e = let k = past xs i e in omega (arith, k)

    by : (o : Option FoundPoint) → slice_get points most_points ≡ o → None ≡ option_map limit_at o → length points ≤ most_points
    by None e h = past points most_points e
    by (Some x) e h = absurd (cc h)

pub decided_so : (nodes : TypedNodes) → IsTyped nodes → (o : Option Refusal) → o ≡ soonest None (map too_many (package_of nodes).methods) → Decides (HasTooMany (package_of nodes)) o
decided_so nodes typed o e = let P : Option Refusal → Type 0 = Decides (HasTooMany (package_of nodes)) in subst P (sym e) (decided nodes typed)

-- The laws.
with_number : (s : ℕ) (points : List Site) (point : Site) → point_with s points ≡ Some point → (i : ℕ) × (slice_get points i ≡ Some point) × (point.number ≡ s)
with_number s [] point h = absurd (cc h)
with_number s (x ∷ xs) point h = by (nat_eq x.number s) refl (with_number s xs point) h
  where
    by : (test : Bool) → nat_eq x.number s ≡ test → (point_with s xs ≡ Some point → (i : ℕ) × (slice_get xs i ≡ Some point) × (point.number ≡ s))
        → (if test then Some x else point_with s xs) ≡ Some point → (i : ℕ) × (slice_get (x ∷ xs) i ≡ Some point) × (point.number ≡ s)
    by true e later h =
        let same : x ≡ point = cc h in
        let n : x.number ≡ s = grind (arith, nat_tests, e) in
        (0, h, ap (λ (p : Site). p.number) (sym same) ∙ n)
    by false e later h = let k = later h in (suc k.0, k.1, k.2)

named : (body : Block) (s n : ℕ) (o : Option Site) → point_with s (points_in body) ≡ o → option_map (number_of body) o ≡ Some n
    → (i : ℕ) × (point : Site) × (slice_get (points_in body) i ≡ Some point) × (point.number ≡ s) × (number_of body point ≡ n)
named body s n None e h = absurd (cc h)
named body s n (Some point) e h = let k = with_number s (points_in body) point e in (k.0, point, k.1, k.2, cc h)

pub only_points : (methods : List MethodTree) (s n : ℕ) → point_number methods s ≡ Some n → IsPoint methods s n
only_points [] s n h = absurd (cc h)
only_points (m ∷ ms) s n h = by (number_in m.body s) refl (only_points ms s n) h
  where
    by : (o : Option ℕ) → number_in m.body s ≡ o → (point_number ms s ≡ Some n → IsPoint ms s n) → earlier o (point_number ms s) ≡ Some n → IsPoint (m ∷ ms) s n
    by None e later h =
        let k = later h in
        record { number = suc k.number; method = k.method; place = k.place; point = k.point; known = k.known; stands = k.stands; named = k.named; numbered = k.numbered }
    by (Some j) e later h =
        let k = named m.body s n (point_with s (points_in m.body)) refl (e ∙ h) in
        record { number = 0; method = m; place = k.0; point = k.1; known = refl; stands = k.2; named = k.3; numbered = k.4 }

-- The first point of a method that is this statement.
first_with : (points : List Site) (i : ℕ) (point : Site) → slice_get points i ≡ Some point → (x : Site) × (point_with point.number points ≡ Some x)
first_with [] i point e = absurd (cc e)
first_with (x ∷ xs) zero point e =
    let same : x ≡ point = cc e in
    let t : nat_eq x.number point.number ≡ true = grind (arith, nat_tests, ap (λ (p : Site). p.number) same) in
    (x, rw t refl)
first_with (x ∷ xs) (suc i) point e = by (nat_eq x.number point.number) (first_with xs i point e)
  where
    by : (test : Bool) → (y : Site) × (point_with point.number xs ≡ Some y) → (y : Site) × ((if test then Some x else point_with point.number xs) ≡ Some y)
    by true h = (x, refl)
    by false h = h

-- A point that no other method has is numbered in its own.
found_in : (ms : List MethodTree) (m : ℕ) (method : MethodTree) (s n : ℕ) → slice_get ms m ≡ Some method → number_in method.body s ≡ Some n
    → ((k : ℕ) (other : MethodTree) → k < m → slice_get ms k ≡ Some other → number_in other.body s ≡ None) → point_number ms s ≡ Some n
found_in [] m method s n e h others = absurd (cc e)
found_in (x ∷ ms) zero method s n e h others =
    let same : x ≡ method = cc e in
    let P : MethodTree → Type 0 = λ y. earlier (number_in y.body s) (point_number ms s) ≡ Some n in
    subst P (sym same) (ap (λ o. earlier o (point_number ms s)) h)
found_in (x ∷ ms) (suc m) method s n e h others =
    ap (λ o. earlier o (point_number ms s)) (others 0 x (omega arith) refl) ∙ found_in ms m method s n e h (λ k other l f. others (suc k) other (omega (arith, l)) f)

not_there : (points : List Site) (s : ℕ) → ((i : ℕ) (point : Site) → slice_get points i ≡ Some point → point.number ≡ s → ⊥) → point_with s points ≡ None
not_there [] s none = refl
not_there (x ∷ xs) s none =
    let t : nat_eq x.number s ≡ false = ne_false x.number s (none 0 x refl) in
    rw t (not_there xs s (λ i point e. none (suc i) point e))
  where
    ne_false : (a b : ℕ) → (a ≡ b → ⊥) → nat_eq a b ≡ false
    ne_false a b h = by (nat_eq a b) refl
      where
        by : (test : Bool) → nat_eq a b ≡ test → test ≡ false
        by true e = absurd (h (grind (arith, nat_tests, e)))
        by false e = refl

pub each_point : (nodes : TypedNodes) (m i : ℕ) (method : MethodTree) (point : Site)
    → IsTyped nodes → slice_get (package_of nodes).methods m ≡ Some method → slice_get (points_in method.body) i ≡ Some point → point_number (package_of nodes).methods point.number ≡ Some (1 + i)
each_point nodes m i method point typed known stands =
    let ms = (package_of nodes).methods in
    let once : StandOnce ms = stand_once nodes typed in
    let first = first_with (points_in method.body) i point stands in
    let is = with_number point.number (points_in method.body) first.0 first.1 in
    let same = once.by m m method method is.0 i first.0 point known known is.1 stands is.2 in
    let n : number_of method.body first.0 ≡ 1 + i = in_order nodes typed m method known is.0 first.0 is.1 ∙ ap (λ j. 1 + j) same.1 in
    let here : number_in method.body point.number ≡ Some (1 + i) = ap (option_map (number_of method.body)) first.1 ∙ ap (λ j. Some j) n in
    found_in ms m method point.number (1 + i) known here
    (λ k other l f. ap (option_map (number_of other.body)) (not_there (points_in other.body) point.number
    (λ j twin e number. let apart = once.by k m other method j i twin point f known e stands number in absurd (omega (arith, l, apart.0)))))
