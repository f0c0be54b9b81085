-- What is broken has a first refusal, or nothing is broken: for rules that are put together.
use Rattle.std.proofs.Common.{◌≡◌, ◌⊎◌, inl, inr, ℕ, zero, suc, false, List, [], ◌∷◌, slice_get, Option, None, Some, refl, sym, subst, ◌+◌, arith}
use Rattle.wf_text.specs.declared.rules.Refusal.{Refusal}
use Rattle.wf_text.specs.Precedence.{is_before, sooner, Decides}
use Rattle.wf_text.proofs.PrecedenceLaws.{is_before-self, Decides-map}
use Rattle.wf_names_cycles.proofs.CycleLemmas.{Decides-both}

pub record AreDecided (P : Refusal → Type 0) : Type 0 where
  pub found : Option Refusal
  pub decides : Decides P found

pub decided-none : AreDecided (λ s. ⊥)
decided-none = record { found = None; decides = λ s none. none }

pub decided-map : (P Q : Refusal → Type 0) → ((s : Refusal) → P s → Q s) → ((s : Refusal) → Q s → P s) → AreDecided P → AreDecided Q
decided-map P Q to from d = record { found = d.found; decides = Decides-map P Q d.found to from d.decides }

pub decided-or : (P Q : Refusal → Type 0) → AreDecided P → AreDecided Q → AreDecided (λ s. P s ⊎ Q s)
decided-or P Q a b = record { found = sooner a.found b.found; decides = Decides-both P Q a.found b.found a.decides b.decides }

-- One refusal, where something is so.
pub record Since (A : Type 0) (r s : Refusal) : Type 0 where
  pub cause : A
  pub is : s ≡ r

pub decided-one : (A : Type 0) (r : Refusal) → A ⊎ (A → ⊥) → AreDecided (Since A r)
decided-one A r (inr off) = record { found = None; decides = λ s h. off h.cause }
decided-one A r (inl a) = record {
  found = Some r;
  decides = record {
    breaks = record { cause = a; is = refl };
    first = λ s h. let F : Refusal → Type 0 = λ u. is_before u r ≡ false in subst F (sym h.is) (is_before-self r);
  };
}

-- What one of the items of a list breaks, by its number from `k` on.
pub record OneBreaks {X : Type 0} (P : ℕ → X → Refusal → Type 0) (k : ℕ) (xs : List X) (s : Refusal) : Type 0 where
  pub place : ℕ
  pub number : ℕ
  pub item : X
  pub is : slice_get xs place ≡ Some item
  pub counted : number ≡ k + place
  pub breaks : P number item s

one-here : {X : Type 0} (P : ℕ → X → Refusal → Type 0) (k : ℕ) (x : X) (xs : List X) (s : Refusal) → P k x s ⊎ OneBreaks P (suc k) xs s → OneBreaks P k (x ∷ xs) s
one-here P k x xs s (inl p) = record { place = 0; number = k; item = x; is = refl; counted = omega arith; breaks = p }
one-here P k x xs s (inr o) = let c = o.counted in record { place = suc o.place; number = o.number; item = o.item; is = o.is; counted = omega (arith, c); breaks = o.breaks }

one-there : {X : Type 0} (P : ℕ → X → Refusal → Type 0) (k : ℕ) (x : X) (xs : List X) (s : Refusal) → OneBreaks P k (x ∷ xs) s → P k x s ⊎ OneBreaks P (suc k) xs s
one-there {X} P k x xs s o = by_place o.place o.is o.counted
  where
    by_place : (i : ℕ) → slice_get (x ∷ xs) i ≡ Some o.item → o.number ≡ k + i → P k x s ⊎ OneBreaks P (suc k) xs s
    by_place zero e c =
        let same : x ≡ o.item = cc e in
        let number : o.number ≡ k = omega (arith, c) in
        let Q : ℕ → Type 0 = λ n. P n o.item s in
        let R : X → Type 0 = λ y. P k y s in
        inl (subst R (sym same) (subst Q number o.breaks))
    by_place (suc i) e c = inr (record { place = i; number = o.number; item = o.item; is = e; counted = omega (arith, c); breaks = o.breaks })

pub decided-list : {X : Type 0} (P : ℕ → X → Refusal → Type 0) → ((i : ℕ) (x : X) → AreDecided (P i x)) → (k : ℕ) (xs : List X) → AreDecided (OneBreaks P k xs)
decided-list P each k [] = record { found = None; decides = λ s o. let e = o.is in cc e }
decided-list P each k (x ∷ xs) =
    decided-map (λ s. P k x s ⊎ OneBreaks P (suc k) xs s) (OneBreaks P k (x ∷ xs)) (one-here P k x xs) (one-there P k x xs) (decided-or (P k x) (OneBreaks P (suc k) xs) (each k x) (decided-list P each (suc k) xs))
