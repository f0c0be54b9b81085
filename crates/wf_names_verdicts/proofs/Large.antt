-- Of the arrays that are too long and the structs that are too large there is a first refusal, or there is none at all.
use Rattle.std.proofs.Common.{◌≡◌, ◌⊎◌, inl, inr, ℕ, zero, suc, ◌+◌, Bool, true, false, List, [], ◌∷◌, map, slice_get, Option, None, Some, is_some, refl, sym, ◌∙◌, ap, subst, arith}
use Rattle.std.specs.List.{list_any, flat_map}
use Rattle.std.specs.Option.{option_map}
use Rattle.graphs.specs.Graphs.{Path, last, more}
use Rattle.wf_text.specs.Precedence.{soonest}
use Rattle.wf_names_rules.specs.Declarations.{Structure, Declared}
use Rattle.wf_names_rules.specs.NameRules.{SizeBreaks}
use Rattle.wf_names_rules.specs.Passes.{is_flagged}
use Rattle.wf_names_rules.specs.Sizes.{struct_held, is_the, fields_at, holds_struct, Take}
use Rattle.wf_names_sizes.specs.LongArrays.{arrays_found}
use Rattle.wf_names_sizes.specs.StructSizes.{capped, row_of, struct_large, size_in, AreHolding, AreSizes, AreSettled, TakesCapped}
use Rattle.wf_names_sizes.proofs.DecidingLaws.{alone-decides, large-behind, sizes-behind}
use Rattle.wf_names_verdicts.proofs.Decided.{AreDecided}
use Rattle.wf_names_verdicts.proofs.Takes.{holds-itself, takes}

-- Whether the first of two is so.
is-first : {A B : Type 0} → A ⊎ B → Bool
is-first (inl a) = true
is-first (inr b) = false

first-so : {A B : Type 0} (o : A ⊎ B) → is-first o ≡ true → A
unfolding is-first
first-so (inl a) h = a
first-so (inr b) h = absurd (cc h)

so-first : {A : Type 0} (o : A ⊎ (A → ⊥)) → A → is-first o ≡ true
unfolding is-first
so-first (inl a) h = refl
so-first (inr off) h = absurd (off h)

-- Flags of the items of a list, by their numbers.
flags-of : {X : Type 0} → (ℕ → Bool) → ℕ → List X → List Bool
flags-of test k [] = []
flags-of test k (x ∷ xs) = test k ∷ flags-of test (suc k) xs

flagged-is : (b : Bool) → is_flagged (Some b) ≡ b
flagged-is true = refl
flagged-is false = refl

flag-at : {X : Type 0} (test : ℕ → Bool) (k : ℕ) (xs : List X) (i : ℕ) (x : X) → slice_get xs i ≡ Some x → is_flagged (slice_get (flags-of test k xs) i) ≡ test (k + i)
unfolding flags-of
flag-at test k [] i x e = absurd (cc e)
flag-at test k (y ∷ xs) zero x e = flagged-is (test k) ∙ ap test (let n : k ≡ k + 0 = omega arith in n)
flag-at test k (y ∷ xs) (suc i) x e = flag-at test (suc k) xs i x e ∙ ap test (let n : suc k + i ≡ k + suc i = omega arith in n)

flag-none : {X : Type 0} (test : ℕ → Bool) (k : ℕ) (xs : List X) (i : ℕ) → slice_get xs i ≡ None → is_flagged (slice_get (flags-of test k xs) i) ≡ false
unfolding flags-of
flag-none test k [] i e = refl
flag-none test k (y ∷ xs) zero e = absurd (cc e)
flag-none test k (y ∷ xs) (suc i) e = flag-none test (suc k) xs i e

pub mapped-at : {X Y : Type 0} (f : X → Y) (xs : List X) (i : ℕ) → slice_get (map f xs) i ≡ option_map f (slice_get xs i)
mapped-at f [] i = refl
mapped-at f (x ∷ xs) zero = refl
mapped-at f (x ∷ xs) (suc i) = mapped-at f xs i

module _ (d : Declared) where
  flags : List Bool
  flags = flags-of (λ s. is-first (holds-itself d s)) 0 d.structs

  size-of : Structure → Option ℕ
  size-of s = Some (capped (takes d s.fields).0)

  sizes : List (Option ℕ)
  sizes = map size-of d.structs

  -- A struct on a cycle is there.
  holder-some : (a b : ℕ) → holds_struct d a b ≡ true → slice_get d.structs a ≡ None → ⊥
  holder-some a b h e = let none : holds_struct d a b ≡ false = ap (λ s. list_any (λ v. is_the b (struct_held d v.of)) (fields_at s)) e in cc (h, none)

  cycle-some : (a b : ℕ) → Path (holds_struct d) a b → slice_get d.structs a ≡ None → ⊥
  cycle-some _ _ (last a b s) e = holder-some a b s e
  cycle-some _ _ (more a b c s p) e = holder-some a b s e

  holding : AreHolding d flags
  unfolding flags
  holding = record { sound = λ s h. sound s (slice_get d.structs s) refl h; complete = λ s p. complete s p (slice_get d.structs s) refl }
    where
      sound : (s : ℕ) (o : Option Structure) → slice_get d.structs s ≡ o → is_flagged (slice_get (flags-of (λ t. is-first (holds-itself d t)) 0 d.structs) s) ≡ true → Path (holds_struct d) s s
      sound s None e h = let none = flag-none (λ t. is-first (holds-itself d t)) 0 d.structs s e in absurd (cc (h, none))
      sound s (Some x) e h =
          let at = flag-at (λ t. is-first (holds-itself d t)) 0 d.structs s x e in
          let n : 0 + s ≡ s = omega arith in
          first-so (holds-itself d s) (ap (λ t. is-first (holds-itself d t)) (sym n) ∙ sym at ∙ h)

      complete : (s : ℕ) → Path (holds_struct d) s s → (o : Option Structure) → slice_get d.structs s ≡ o → is_flagged (slice_get (flags-of (λ t. is-first (holds-itself d t)) 0 d.structs) s) ≡ true
      complete s p None e = absurd (cycle-some s s p e)
      complete s p (Some x) e =
          let n : 0 + s ≡ s = omega arith in
          flag-at (λ t. is-first (holds-itself d t)) 0 d.structs s x e ∙ ap (λ t. is-first (holds-itself d t)) n ∙ so-first (holds-itself d s) p

  size-at : (s : ℕ) (x : Structure) → slice_get d.structs s ≡ Some x → size_in (slice_get sizes s) ≡ Some (capped (takes d x.fields).0)
  unfolding sizes size-of
  size-at s x e = ap size_in (mapped-at size-of d.structs s) ∙ ap (λ o. size_in (option_map size-of o)) e

  size-none : (s : ℕ) → slice_get d.structs s ≡ None → size_in (slice_get sizes s) ≡ None
  unfolding sizes
  size-none s e = ap size_in (mapped-at size-of d.structs s) ∙ ap (λ o. size_in (option_map size-of o)) e

  are-sizes : AreSizes d sizes
  are-sizes s n h = by_struct (slice_get d.structs s) refl
    where
      by_struct : (o : Option Structure) → slice_get d.structs s ≡ o → TakesCapped d (fields_at (slice_get d.structs s)) n
      by_struct None e = absurd (let none = size-none s e in cc (h, none))
      by_struct (Some x) e =
          let is = size-at s x e in
          let same : n ≡ capped (takes d x.fields).0 = cc (h, is) in
          let P : Option Structure → Type 0 = λ o. Take d (fields_at o) (takes d x.fields).0 in
          record { whole = (takes d x.fields).0; takes = subst P (sym e) (takes d x.fields).1; is = same }

  settled : AreSettled flags sizes (map (row_of d) d.structs)
  settled s row e known = by_struct (slice_get d.structs s) refl
    where
      by_struct : (o : Option Structure) → slice_get d.structs s ≡ o → is_some (size_in (slice_get sizes s)) ≡ true
      by_struct None f = absurd (let none : slice_get (map (row_of d) d.structs) s ≡ None = mapped-at (row_of d) d.structs s ∙ ap (option_map (row_of d)) f in cc (e, none))
      by_struct (Some x) f = ap is_some (size-at s x f)

  pub sizes-decided : AreDecided (SizeBreaks d)
  sizes-decided =
      let all = soonest (arrays_found d None) (flat_map (struct_large d flags sizes) d.structs) in
      record { found = all; decides = alone-decides (SizeBreaks d) all (sizes-behind d None all (large-behind d flags sizes holding are-sizes settled (arrays_found d None))) }
