-- Suspension points, and what remains at each.
use Rattle.std.proofs.Common.{◌≡◌, ℕ, Bool, true, false, ◌&&◌, ◌∷◌, Option, Some, None, ◌⊎◌, inl, inr, refl, ap, ◌∙◌, subst, arith, nat_eq}
use Rattle.std.specs.Prelude.{slice_get, if◌then◌else◌, IsSome}
use Rattle.std.proofs.lemmas.Bool.Decides.{nat_tests}
use Rattle.wf_ast.specs.TypedTree.{Simple, Site, Block, end, plain, choose, loop}
use Rattle.wf_meaning.specs.SourceState.{Behind, stop, behind_if, again}
use Rattle.wf_meaning.specs.Remaining.{Items, is_point, points_in, first, rest_in, rest, number_of}
use Rattle.wf_meaning.specs.Laws.{BeginsWithPoint}
use Rattle.wf_meaning.proofs.Lists.{Has, first_or, front_or_back, both_true}

record Begins (number : Site → ℕ) (k : ℕ) (items : Items) : Type 0 where
  site : Site
  statement : Simple
  after : Block
  begins : items.block ≡ plain site statement after
  point : is_point statement ≡ true
  numbered : number site ≡ k

first_cases : (a b : Option Items) (items : Items) → first a b ≡ Some items → (a ≡ Some items) ⊎ (b ≡ Some items)
first_cases None b items h = inr h
first_cases (Some x) b items h = inl h

module _ (number : Site → ℕ) (k : ℕ) where
  here_or : (test : Bool) (site : Site) (s : Simple) (r : Block) (behind : Behind) (items : Items)
      → (is_point s && nat_eq (number site) k) ≡ test
      → (rest_in number k r behind ≡ Some items → Begins number k items)
      → (if test then Some (record { block = plain site s r; behind = behind }) else rest_in number k r behind) ≡ Some items → Begins number k items
  here_or true site s r behind items e later h =
      let p = both_true (is_point s) (nat_eq (number site) k) e in
      let same : number site ≡ k = grind (arith, nat_tests, p.1) in
      let it : Items = record { block = plain site s r; behind = behind } in
      let eq : it ≡ items = cc in
      let P : Items → Type 0 = Begins number k in
      subst P eq (record { site = site; statement = s; after = r; begins = refl; point = p.0; numbered = same })
  here_or false site s r behind items e later h = later h

  begins_in : (block : Block) (behind : Behind) (items : Items) → rest_in number k block behind ≡ Some items → Begins number k items
  begins_in end behind items h = absurd (cc (h))
  begins_in (plain site s r) behind items h = here_or (is_point s && nat_eq (number site) k) site s r behind items refl (begins_in r behind items) h
  begins_in (choose site chained c a b r) behind items h =
      among (first_cases _ _ items h) (begins_in a (behind_if r behind) items) (λ e. later (first_cases _ _ items e) (begins_in b (behind_if r behind) items) (begins_in r behind items))
    where
      later : {P Q : Type 0} → P ⊎ Q → (P → Begins number k items) → (Q → Begins number k items) → Begins number k items
      later (inl p) f g = f p
      later (inr q) f g = g q

      among : {P Q : Type 0} → P ⊎ Q → (P → Begins number k items) → (Q → Begins number k items) → Begins number k items
      among (inl p) f g = f p
      among (inr q) f g = g q
  begins_in (loop site head body r) behind items h =
      among (first_cases _ _ items h) (begins_in body (again site head body r behind) items) (begins_in r behind items)
    where
      among : {P Q : Type 0} → P ⊎ Q → (P → Begins number k items) → (Q → Begins number k items) → Begins number k items
      among (inl p) f g = f p
      among (inr q) f g = g q

  -- Something is found where a part of the search finds something.
  some_front : (a b : Option Items) → IsSome a → IsSome (first a b)
  some_front None b h = absurd (cc (h))
  some_front (Some x) b h = h

  some_back : (a b : Option Items) → IsSome b → IsSome (first a b)
  some_back None b h = h
  some_back (Some x) b h = refl

  some_here : (test : Bool) (items : Items) (o : Option Items) → (test ≡ true) ⊎ IsSome o → IsSome (if test then Some items else o)
  some_here true items o h = refl
  some_here false items o (inl e) = absurd (cc (e))
  some_here false items o (inr h) = h

  found_plain : (test : Bool) (point : Site) (site : Site) (s : Simple) (r : Block) (behind : Behind) (i : ℕ)
      → is_point s ≡ test → number point ≡ k
      → ((j : ℕ) → slice_get (points_in r) j ≡ Some point → IsSome (rest_in number k r behind))
      → slice_get (if test then site ∷ points_in r else points_in r) i ≡ Some point
      → ((is_point s && nat_eq (number site) k) ≡ true) ⊎ IsSome (rest_in number k r behind)
  found_plain true point site s r behind i e num later h = by_place (first_or site (points_in r) point i h)
    where
      by_place : (site ≡ point) ⊎ Has (points_in r) point → ((is_point s && nat_eq (number site) k) ≡ true) ⊎ IsSome (rest_in number k r behind)
      by_place (inl same) =
          let n : number site ≡ k = ap number same ∙ num in
          let t : nat_eq (number site) k ≡ true = grind (arith, nat_tests, n) in
          inl (rw (e, t) refl)
      by_place (inr has) = inr (later has.place has.is)
  found_plain false point site s r behind i e num later h = inr (later i h)

  found : (block : Block) (behind : Behind) (point : Site) (i : ℕ) → number point ≡ k → slice_get (points_in block) i ≡ Some point → IsSome (rest_in number k block behind)
  found end behind point i num h = absurd (cc (h))
  found (plain site s r) behind point i num h =
      some_here (is_point s && nat_eq (number site) k) _ _ (found_plain (is_point s) point site s r behind i refl num (λ j. found r behind point j num) h)
  found (choose site chained c a b r) behind point i num h =
      among (front_or_back (points_in a) _ point i h)
      (λ has. some_front _ _ (found a (behind_if r behind) point has.place num has.is))
      (λ has. some_back (rest_in number k a (behind_if r behind)) _ (among' (front_or_back (points_in b) (points_in r) point has.place has.is)
      (λ it. some_front _ _ (found b (behind_if r behind) point it.place num it.is))
      (λ it. some_back (rest_in number k b (behind_if r behind)) _ (found r behind point it.place num it.is))))
    where
      among : {P Q R : Type 0} → P ⊎ Q → (P → R) → (Q → R) → R
      among (inl p) f g = f p
      among (inr q) f g = g q

      among' : {P Q R : Type 0} → P ⊎ Q → (P → R) → (Q → R) → R
      among' (inl p) f g = f p
      among' (inr q) f g = g q
  found (loop site head body r) behind point i num h =
      among (front_or_back (points_in body) (points_in r) point i h)
      (λ has. some_front _ _ (found body (again site head body r behind) point has.place num has.is))
      (λ has. some_back (rest_in number k body (again site head body r behind)) _ (found r behind point has.place num has.is))
    where
      among : {P Q R : Type 0} → P ⊎ Q → (P → R) → (Q → R) → R
      among (inl p) f g = f p
      among (inr q) f g = g q

pub begins : (body : Block) (k : ℕ) (items : Items) → rest body k ≡ Some items → BeginsWithPoint body k items
unfolding rest
begins body k items h =
    let b = begins_in (number_of body) k body stop items h in
    record { site = b.site; statement = b.statement; behind = b.after; first = b.begins; point = b.point; numbered = b.numbered }

pub remains : (body : Block) (i : ℕ) (site : Site) → slice_get (points_in body) i ≡ Some site → IsSome (rest body (number_of body site))
unfolding rest
remains body i site h = found (number_of body) (number_of body site) body stop site i refl h
