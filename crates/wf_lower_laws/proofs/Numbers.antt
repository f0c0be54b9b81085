-- The loops of a method of a typed package have different numbers, and small ones.
use Rattle.std.proofs.Common.{◌≡◌, ℕ, zero, suc, ◌+◌, ◌≤◌, ◌<◌, ◌^◌, Bool, true, false, not, ◌&&◌, ◌||◌, List, [], ◌∷◌, ◌++◌, length, Some, nat_eq, refl, ap, ◌∙◌, subst, arith}
use Rattle.std.specs.Prelude.{if◌then◌else◌, nat_le, slice_get}
use Rattle.std.specs.List.{flat_map}
use Rattle.std.proofs.lemmas.Bool.Decides.{nat_tests}
use Rattle.std.proofs.lemmas.List.Folds.{list_any-append}
use Rattle.wf_ast.specs.declared.typed_nodes.TypedNodes.{TypedNodes}
use Rattle.wf_ast.specs.TypedTree.{Block, end, plain, choose, loop}
use Rattle.wf_ast.specs.TypedPackage.{MethodTree, package_of}
use Rattle.wf_ast.specs.TypedInvariant.{IsTyped, numbers_in, numbers_from}
use Rattle.wf_lower_stmts.specs.Laws.{AreSpelt}
use Rattle.wf_lower_laws.proofs.Apart.{has, apart, left_or, right_or, same_number}
use Rattle.wf_lower_laws.proofs.Loops.{loops_in}

-- How often a number stands in a list.
abbrev one_if : Bool → ℕ
one_if true = 1
one_if false = 0

abbrev times : ℕ → List ℕ → ℕ
times w [] = 0
times w (x ∷ xs) = one_if (nat_eq w x) + times w xs

times_append : (w : ℕ) (xs ys : List ℕ) → times w (xs ++ ys) ≡ times w xs + times w ys
times_append w [] ys = omega arith
times_append w (x ∷ xs) ys = omega (arith, times_append w xs ys)

-- Loops are statements.
times_skipped : (chained : Bool) (w n : ℕ) (xs : List ℕ) → times w xs ≤ times w ((if chained then [] else n ∷ []) ++ xs)
times_skipped true w n xs = omega arith
times_skipped false w n xs = omega arith

fewer_loops : (w : ℕ) (b : Block) → times w (loops_in b) ≤ times w (numbers_in b)
fewer_loops w end = omega arith
fewer_loops w (plain site s rest) = omega (arith, fewer_loops w rest)
fewer_loops w (choose site chained c a b rest) =
    let own = (if chained then [] else site.number ∷ []) ++ numbers_in rest in
    omega (
      arith,
      fewer_loops w a,
      fewer_loops w b,
      fewer_loops w rest,
      times_append w (loops_in a) (loops_in b ++ loops_in rest),
      times_append w (loops_in b) (loops_in rest),
      times_append w (numbers_in a) (numbers_in b ++ own),
      times_append w (numbers_in b) own,
      times_skipped chained w site.number (numbers_in rest),
    )
fewer_loops w (loop site head body rest) =
    omega (arith, fewer_loops w body, fewer_loops w rest, times_append w (loops_in body) (site.number ∷ loops_in rest), times_append w (numbers_in body) (site.number ∷ numbers_in rest))

-- Those of one method are among those of all.
among_all : (w : ℕ) (ms : List MethodTree) (i : ℕ) (m : MethodTree) → slice_get ms i ≡ Some m → times w (numbers_in m.body) ≤ times w (flat_map (λ m. numbers_in m.body) ms)
among_all w [] i m e = absurd (cc e)
among_all w (x ∷ ms) zero m e =
    let same : x ≡ m = cc e in
    let P : MethodTree → Type 0 = λ m. times w (numbers_in m.body) ≤ times w (flat_map (λ m. numbers_in m.body) (x ∷ ms)) in
    subst P same (omega (arith, times_append w (numbers_in x.body) (flat_map (λ m. numbers_in m.body) ms)))
among_all w (x ∷ ms) (suc i) m e = omega (arith, among_all w ms i m e, times_append w (numbers_in x.body) (flat_map (λ m. numbers_in m.body) ms))

-- Numbers in order stand once, and below their end.
other_number : (w n : ℕ) → w < n → nat_eq w n ≡ false
other_number w n h = grind (arith, nat_tests, h)

other_number_above : (w n : ℕ) → n < w → nat_eq w n ≡ false
other_number_above w n h = grind (arith, nat_tests, h)

none_below : (w n c : ℕ) → w < n → times w (numbers_from n c) ≡ 0
none_below w n zero h = refl
none_below w n (suc c) h = omega (arith, ap one_if (other_number w n h), none_below w (suc n) c (omega (arith, h)))

none_above : (w n c : ℕ) → n + c ≤ w → times w (numbers_from n c) ≡ 0
none_above w n zero h = refl
none_above w n (suc c) h = omega (arith, ap one_if (other_number_above w n (omega (arith, h))), none_above w (suc n) c (omega (arith, h)))

once : (w n c : ℕ) → times w (numbers_from n c) ≤ 1
once w n zero = omega arith
once w n (suc c) = by (nat_eq w n) refl (once w (suc n) c)
  where
    by : (b : Bool) → nat_eq w n ≡ b → times w (numbers_from (suc n) c) ≤ 1 → times w (numbers_from n (suc c)) ≤ 1
    by true e h =
        let same : w ≡ n = grind (arith, nat_tests, e) in
        omega (arith, none_below w (suc n) c (omega (arith, same)), ap one_if e)
    by false e h = omega (arith, h, ap one_if e)

-- A list in which each number stands at most once.
counted : (w : ℕ) (xs : List ℕ) → has xs w ≡ true → 1 ≤ times w xs
counted w [] h = absurd (cc h)
counted w (x ∷ xs) h = by (nat_eq w x) refl (counted w xs)
  where
    by : (b : Bool) → nat_eq w x ≡ b → (has xs w ≡ true → 1 ≤ times w xs) → 1 ≤ times w (x ∷ xs)
    by true e more = omega (arith, ap one_if e)
    by false e more =
        let P : Bool → Type 0 = λ b. (b || has xs w) ≡ true in
        omega (arith, more (subst P e h))

apart_once : (xs : List ℕ) → ((w : ℕ) → times w xs ≤ 1) → apart xs ≡ true
apart_once [] h = refl
apart_once (x ∷ xs) h = by (has xs x) refl (apart_once xs (λ w. omega (arith, h w)))
  where
    by : (b : Bool) → has xs x ≡ b → apart xs ≡ true → (not (has xs x) && apart xs) ≡ true
    by true e k = absurd (omega (arith, h x, counted x xs e, ap one_if (same_number x)))
    by false e k = rw (e, k) refl

-- The loops of a method.
pub record HasLoops (body : Block) : Type 0 where
  pub apart : apart (loops_in body) ≡ true
  pub small : (w : ℕ) → has (loops_in body) w ≡ true → w < 2 ^ 64

pub has_loops : (nodes : TypedNodes) (i : ℕ) (m : MethodTree) → IsTyped nodes → slice_get (package_of nodes).methods i ≡ Some m → HasLoops m.body
has_loops nodes i m typed e = record { apart = apart_once (loops_in m.body) one; small = few }
  where
    at_most : (w : ℕ) → times w (loops_in m.body) ≤ times w (numbers_from 0 (length nodes.stmts))
    at_most w =
        let P : List ℕ → Type 0 = λ ns. times w (numbers_in m.body) ≤ times w ns in
        omega (arith, fewer_loops w m.body, subst P typed.numbered (among_all w (package_of nodes).methods i m e))

    one : (w : ℕ) → times w (loops_in m.body) ≤ 1
    one w = omega (arith, at_most w, once w 0 (length nodes.stmts))

    few : (w : ℕ) → has (loops_in m.body) w ≡ true → w < 2 ^ 64
    few w h = by (nat_le (length nodes.stmts) w) refl
      where
        by : (b : Bool) → nat_le (length nodes.stmts) w ≡ b → w < 2 ^ 64
        by true k =
            let above : length nodes.stmts ≤ w = grind (arith, nat_tests, k) in
            absurd (omega (arith, counted w (loops_in m.body) h, at_most w, none_above w 0 (length nodes.stmts) (omega (arith, above))))
        by false k =
            let below : w < length nodes.stmts = grind (arith, nat_tests, k) in
            omega (arith, below, typed.few_stmts)

pub are_spelt : (b : Block) → ((w : ℕ) → has (loops_in b) w ≡ true → w < 2 ^ 64) → AreSpelt b
are_spelt end h = tt
are_spelt (plain site s rest) h = are_spelt rest h
are_spelt (choose site chained c a b rest) h = (
  are_spelt a (λ w k. h w (list_any-append (nat_eq w) (loops_in a) (loops_in b ++ loops_in rest) ∙ left_or (has (loops_in a) w) (has (loops_in b ++ loops_in rest) w) k)),
  (
    are_spelt b (λ w k. h w (list_any-append (nat_eq w) (loops_in a) (loops_in b ++ loops_in rest) ∙ right_or (has (loops_in a) w) (has (loops_in b ++ loops_in rest) w) (list_any-append (nat_eq w) (loops_in b) (loops_in rest) ∙ left_or (has (loops_in b) w) (has (loops_in rest) w) k))),
    are_spelt rest (λ w k. h w (list_any-append (nat_eq w) (loops_in a) (loops_in b ++ loops_in rest) ∙ right_or (has (loops_in a) w) (has (loops_in b ++ loops_in rest) w) (list_any-append (nat_eq w) (loops_in b) (loops_in rest) ∙ right_or (has (loops_in b) w) (has (loops_in rest) w) k))),
  ),
)
are_spelt (loop site head body rest) h = (
  h site.number (list_any-append (nat_eq site.number) (loops_in body) (site.number ∷ loops_in rest) ∙ right_or (has (loops_in body) site.number) (has (site.number ∷ loops_in rest) site.number) (left_or (nat_eq site.number site.number) (has (loops_in rest) site.number) (same_number site.number))),
  (
    are_spelt body (λ w k. h w (list_any-append (nat_eq w) (loops_in body) (site.number ∷ loops_in rest) ∙ left_or (has (loops_in body) w) (has (site.number ∷ loops_in rest) w) k)),
    are_spelt rest (λ w k. h w (list_any-append (nat_eq w) (loops_in body) (site.number ∷ loops_in rest) ∙ right_or (has (loops_in body) w) (has (site.number ∷ loops_in rest) w) (right_or (nat_eq w site.number) (has (loops_in rest) w) k))),
  ),
)
