-- Each statement of a typed package stands in one method, and once.
use Rattle.std.proofs.Common.{◌≡◌, ℕ, zero, suc, ◌+◌, ◌<◌, ◌≤◌, Bool, true, false, List, [], ◌∷◌, ◌++◌, length, map, Some, nat_eq, refl, sym, ap, ◌∙◌, subst, arith}
use Rattle.std.specs.Prelude.{slice_get, if◌then◌else◌}
use Rattle.std.specs.List.{flat_map}
use Rattle.std.proofs.lemmas.Bool.Decides.{nat_tests}
use Rattle.wf_ast.specs.declared.typed_nodes.TypedNodes.{TypedNodes}
use Rattle.wf_ast.specs.TypedTree.{Site, Block, end, plain, choose, loop}
use Rattle.wf_ast.specs.TypedPackage.{MethodTree, package_of}
use Rattle.wf_ast.specs.TypedInvariant.{numbers_in, numbers_from, IsTyped}
use Rattle.wf_meaning.specs.Remaining.{is_point, points_in}
use Rattle.wf_points.specs.PointNumbers.{times, StandOnce, StandsIn}

-- How often a number stands in lists that are joined.
times-join : (s : ℕ) (xs ys : List ℕ) → times s (xs ++ ys) ≡ times s xs + times s ys
times-join s [] ys = omega arith
times-join s (x ∷ xs) ys = by_test (nat_eq x s) (times-join s xs ys)
  where
    by_test : (t : Bool) → times s (xs ++ ys) ≡ times s xs + times s ys
        → (if t then suc (times s (xs ++ ys)) else times s (xs ++ ys)) ≡ (if t then suc (times s xs) else times s xs) + times s ys
    by_test true e = omega (arith, e)
    by_test false e = e

-- Numbers that follow each other stand once.
times-below : (n count s : ℕ) → s < n → times s (numbers_from n count) ≡ 0
times-below n zero s h = refl
times-below n (suc count) s h = by_test (nat_eq n s) refl (times-below (suc n) count s (omega (arith, h)))
  where
    by_test : (t : Bool) → nat_eq n s ≡ t → times s (numbers_from (suc n) count) ≡ 0 → (if t then suc (times s (numbers_from (suc n) count)) else times s (numbers_from (suc n) count)) ≡ 0
    by_test true e later = let same : n ≡ s = grind (arith, nat_tests, e) in absurd (omega (arith, h, same))
    by_test false e later = later

times-most : (n count s : ℕ) → times s (numbers_from n count) ≤ 1
times-most n zero s = omega arith
times-most n (suc count) s = by_test (nat_eq n s) refl (times-most (suc n) count s)
  where
    by_test : (t : Bool) → nat_eq n s ≡ t → times s (numbers_from (suc n) count) ≤ 1 → (if t then suc (times s (numbers_from (suc n) count)) else times s (numbers_from (suc n) count)) ≤ 1
    by_test true e later = let same : n ≡ s = grind (arith, nat_tests, e) in let none = times-below (suc n) count s (omega (arith, same)) in omega (arith, none)
    by_test false e later = later

times-there : (n count s : ℕ) → n ≤ s → s < n + count → times s (numbers_from n count) ≡ 1
times-there n zero s low high = absurd (omega (arith, low, high))
times-there n (suc count) s low high = by_test (nat_eq n s) refl (λ other. times-there (suc n) count s (omega (arith, other)) (omega (arith, high)))
  where
    by_test : (t : Bool) → nat_eq n s ≡ t → (n < s → times s (numbers_from (suc n) count) ≡ 1) → (if t then suc (times s (numbers_from (suc n) count)) else times s (numbers_from (suc n) count)) ≡ 1
    by_test true e later = let same : n ≡ s = grind (arith, nat_tests, e) in ap suc (times-below (suc n) count s (omega (arith, same)))
    by_test false e later = later (grind (arith, nat_tests, e, low))

-- The points of a block are among its statements.
abbrev numbers : List Site → List ℕ
numbers points = map (λ (p : Site). p.number) points

numbers-join : (xs ys : List Site) → numbers (xs ++ ys) ≡ numbers xs ++ numbers ys
numbers-join [] ys = refl
numbers-join (x ∷ xs) ys = ap (λ ns. x.number ∷ ns) (numbers-join xs ys)

two-join : (s : ℕ) (xs ys : List Site) → times s (numbers (xs ++ ys)) ≡ times s (numbers xs) + times s (numbers ys)
two-join s xs ys = ap (times s) (numbers-join xs ys) ∙ times-join s (numbers xs) (numbers ys)

more : (s n : ℕ) (ns : List ℕ) → times s ns ≤ times s (n ∷ ns)
more s n ns = by_test (nat_eq n s)
  where
    by_test : (t : Bool) → times s ns ≤ (if t then suc (times s ns) else times s ns)
    by_test true = omega arith
    by_test false = omega arith

same-more : (s n : ℕ) (ms ns : List ℕ) → times s ms ≤ times s ns → times s (n ∷ ms) ≤ times s (n ∷ ns)
same-more s n ms ns h = by_test (nat_eq n s)
  where
    by_test : (t : Bool) → (if t then suc (times s ms) else times s ms) ≤ (if t then suc (times s ns) else times s ns)
    by_test true = omega (arith, h)
    by_test false = h

own-more : (s n : ℕ) (chained : Bool) (ns : List ℕ) → times s ns ≤ times s ((if chained then [] else n ∷ []) ++ ns)
own-more s n true ns = omega arith
own-more s n false ns = more s n ns

points-among : (s : ℕ) (b : Block) → times s (numbers (points_in b)) ≤ times s (numbers_in b)
points-among s end = omega arith
points-among s (plain site st rest) = by_test (is_point st) (points-among s rest)
  where
    by_test : (t : Bool) → times s (numbers (points_in rest)) ≤ times s (numbers_in rest)
        → times s (numbers (if t then site ∷ points_in rest else points_in rest)) ≤ times s (site.number ∷ numbers_in rest)
    by_test true h = same-more s site.number (numbers (points_in rest)) (numbers_in rest) h
    by_test false h = let k = more s site.number (numbers_in rest) in omega (arith, h, k)
points-among s (choose site chained c a b rest) =
    let own : List ℕ = (if chained then [] else site.number ∷ []) ++ numbers_in rest in
    let p = two-join s (points_in a) (points_in b ++ points_in rest) in
    let q = two-join s (points_in b) (points_in rest) in
    let m = times-join s (numbers_in a) (numbers_in b ++ own) in
    let n = times-join s (numbers_in b) own in
    let k = own-more s site.number chained (numbers_in rest) in
    let first = points-among s a in
    let second = points-among s b in
    let third = points-among s rest in
    omega (arith, p, q, m, n, k, first, second, third)
points-among s (loop site head body rest) =
    let p = two-join s (points_in body) (points_in rest) in
    let m = times-join s (numbers_in body) (site.number ∷ numbers_in rest) in
    let k = more s site.number (numbers_in rest) in
    let first = points-among s body in
    let second = points-among s rest in
    omega (arith, p, m, k, first, second)

-- What stands at a place stands at least once, and at no other place if it stands once.
self-more : (n : ℕ) (ns : List ℕ) → times n (n ∷ ns) ≡ suc (times n ns)
self-more n ns = let t : nat_eq n n ≡ true = grind (arith, nat_tests) in ap (λ b. if b then suc (times n ns) else times n ns) t

one-there : (points : List Site) (i : ℕ) (point : Site) → slice_get points i ≡ Some point → 1 ≤ times point.number (numbers points)
one-there [] i point e = absurd (cc e)
one-there (x ∷ xs) zero point e =
    let same : x ≡ point = cc e in
    let P : Site → Type 0 = λ y. 1 ≤ times y.number (numbers (x ∷ xs)) in
    let k = self-more x.number (numbers xs) in
    subst P same (omega (arith, k))
one-there (x ∷ xs) (suc i) point e = let k = one-there xs i point e in let l = more point.number x.number (numbers xs) in omega (arith, k, l)

apart-first : (x : Site) (xs : List Site) (j : ℕ) (twin : Site) → slice_get xs j ≡ Some twin → x.number ≡ twin.number → times x.number (numbers (x ∷ xs)) ≤ 1 → ⊥
apart-first x xs j twin e same h =
    let P : ℕ → Type 0 = λ n. 1 ≤ times n (numbers xs) in
    let there : 1 ≤ times x.number (numbers xs) = subst P (sym same) (one-there xs j twin e) in
    let k = self-more x.number (numbers xs) in
    omega (arith, there, k, h)

one-place : (points : List Site) (i j : ℕ) (point twin : Site) → slice_get points i ≡ Some point → slice_get points j ≡ Some twin → point.number ≡ twin.number
    → times point.number (numbers points) ≤ 1 → i ≡ j
one-place [] i j point twin e f same h = absurd (cc e)
one-place (x ∷ xs) zero zero point twin e f same h = refl
one-place (x ∷ xs) zero (suc j) point twin e f same h =
    let is : x ≡ point = cc e in
    let P : Site → Type 0 = λ y. times y.number (numbers (x ∷ xs)) ≤ 1 in
    absurd (apart-first x xs j twin f (ap (λ (y : Site). y.number) is ∙ same) (subst P (sym is) h))
one-place (x ∷ xs) (suc i) zero point twin e f same h =
    let is : x ≡ twin = cc f in
    let number : point.number ≡ x.number = same ∙ ap (λ (y : Site). y.number) (sym is) in
    let P : ℕ → Type 0 = λ n. times n (numbers (x ∷ xs)) ≤ 1 in
    absurd (apart-first x xs i point e (sym number) (subst P number h))
one-place (x ∷ xs) (suc i) (suc j) point twin e f same h =
    ap suc (one-place xs i j point twin e f same (let k = more point.number x.number (numbers xs) in omega (arith, k, h)))

-- So it is of methods.
abbrev all_numbers : List MethodTree → List ℕ
all_numbers ms = flat_map (λ (m : MethodTree). numbers_in m.body) ms

among-methods : (s : ℕ) (ms : List MethodTree) (i : ℕ) (m : MethodTree) → slice_get ms i ≡ Some m → times s (numbers_in m.body) ≤ times s (all_numbers ms)
among-methods s [] i m e = absurd (cc e)
among-methods s (x ∷ xs) zero m e =
    let same : x ≡ m = cc e in
    let P : MethodTree → Type 0 = λ y. times s (numbers_in y.body) ≤ times s (all_numbers (x ∷ xs)) in
    let k = times-join s (numbers_in x.body) (all_numbers xs) in
    subst P same (omega (arith, k))
among-methods s (x ∷ xs) (suc i) m e = let k = times-join s (numbers_in x.body) (all_numbers xs) in let l = among-methods s xs i m e in omega (arith, k, l)

apart-methods : (s : ℕ) (x : MethodTree) (xs : List MethodTree) (j : ℕ) (other : MethodTree) → slice_get xs j ≡ Some other → 1 ≤ times s (numbers_in x.body) → 1 ≤ times s (numbers_in other.body)
    → times s (all_numbers (x ∷ xs)) ≤ 1 → ⊥
apart-methods s x xs j other e one two h =
    let k = times-join s (numbers_in x.body) (all_numbers xs) in
    let l = among-methods s xs j other e in
    omega (arith, one, two, h, k, l)

one-method : (s : ℕ) (ms : List MethodTree) (i j : ℕ) (m other : MethodTree) → slice_get ms i ≡ Some m → slice_get ms j ≡ Some other → 1 ≤ times s (numbers_in m.body)
    → 1 ≤ times s (numbers_in other.body) → times s (all_numbers ms) ≤ 1 → i ≡ j
one-method s [] i j m other e f one two h = absurd (cc e)
one-method s (x ∷ xs) zero zero m other e f one two h = refl
one-method s (x ∷ xs) zero (suc j) m other e f one two h =
    let is : x ≡ m = cc e in
    let P : MethodTree → Type 0 = λ y. 1 ≤ times s (numbers_in y.body) in
    absurd (apart-methods s x xs j other f (subst P (sym is) one) two h)
one-method s (x ∷ xs) (suc i) zero m other e f one two h =
    let is : x ≡ other = cc f in
    let P : MethodTree → Type 0 = λ y. 1 ≤ times s (numbers_in y.body) in
    absurd (apart-methods s x xs i m e (subst P (sym is) two) one h)
one-method s (x ∷ xs) (suc i) (suc j) m other e f one two h =
    let k = times-join s (numbers_in x.body) (all_numbers xs) in
    ap suc (one-method s xs i j m other e f one two (omega (arith, h, k)))

some-method : (s : ℕ) (ms : List MethodTree) → 1 ≤ times s (all_numbers ms) → times s (all_numbers ms) ≤ 1 → StandsIn ms s
some-method s [] one h = absurd (omega (arith, one))
some-method s (x ∷ xs) one h = by_count (times s (numbers_in x.body)) refl (some-method s xs)
  where
    by_count : (n : ℕ) → times s (numbers_in x.body) ≡ n → (1 ≤ times s (all_numbers xs) → times s (all_numbers xs) ≤ 1 → StandsIn xs s) → StandsIn (x ∷ xs) s
    by_count zero e later =
        let k = times-join s (numbers_in x.body) (all_numbers xs) in
        let r = later (omega (arith, one, k, e)) (omega (arith, h, k)) in
        record { number = suc r.number; method = r.method; known = r.known; once = r.once }
    by_count (suc n) e later =
        let k = times-join s (numbers_in x.body) (all_numbers xs) in
        record { number = 0; method = x; known = refl; once = omega (arith, e, h, k) }

module _ (nodes : TypedNodes) (typed : IsTyped nodes) where
  most-once : (s : ℕ) → times s (all_numbers (package_of nodes).methods) ≤ 1
  most-once s = let P : List ℕ → Type 0 = λ ns. times s ns ≤ 1 in subst P (sym typed.numbered) (times-most 0 (length nodes.stmts) s)

  points-once : (s m : ℕ) (method : MethodTree) → slice_get (package_of nodes).methods m ≡ Some method → times s (numbers (points_in method.body)) ≤ 1
  points-once s m method e =
      let k = points-among s method.body in
      let l = among-methods s (package_of nodes).methods m method e in
      let h = most-once s in
      omega (arith, k, l, h)

  pub stand_once : StandOnce (package_of nodes).methods
  stand_once = record { by = by }
    where
      by : (m n : ℕ) (one other : MethodTree) (i j : ℕ) (point twin : Site)
          → slice_get (package_of nodes).methods m ≡ Some one → slice_get (package_of nodes).methods n ≡ Some other
          → slice_get (points_in one.body) i ≡ Some point → slice_get (points_in other.body) j ≡ Some twin
          → point.number ≡ twin.number → (m ≡ n) × (i ≡ j)
      by m n one other i j point twin e f g h same =
          let P : ℕ → Type 0 = λ s. 1 ≤ times s (numbers (points_in other.body)) in
          let first = one-there (points_in one.body) i point g in
          let second = subst P (sym same) (one-there (points_in other.body) j twin h) in
          let k = points-among point.number one.body in
          let l = points-among point.number other.body in
          let methods : m ≡ n = one-method point.number (package_of nodes).methods m n one other e f (omega (arith, first, k)) (omega (arith, second, l)) (most-once point.number) in
          let both : Some one ≡ Some other = sym e ∙ (ap (slice_get (package_of nodes).methods) methods ∙ f) in
          let same_method : one ≡ other = cc both in
          let Q : MethodTree → Type 0 = λ x. slice_get (points_in x.body) j ≡ Some twin in
          (methods, one-place (points_in one.body) i j point twin g (subst Q (sym same_method) h) same (points-once point.number m one e))

  pub stands_in_one : (s : ℕ) → s < length nodes.stmts → StandsIn (package_of nodes).methods s
  stands_in_one s low =
      let P : List ℕ → Type 0 = λ ns. 1 ≤ times s ns in
      let there = times-there 0 (length nodes.stmts) s (omega arith) (omega (arith, low)) in
      some-method s (package_of nodes).methods (subst P (sym typed.numbered) (omega (arith, there))) (most-once s)
