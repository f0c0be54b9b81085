-- Flags of the graph of structs tell which of them hold themselves, and an order in which a walk leaves its numbers
-- has each struct after those that it holds.
use Rattle.std.proofs.Common.{◌≡◌, ◌⊎◌, ℕ, ◌<◌, Bool, true, false, List, take, length, Option, Some, None, slice_get, refl, sym, ap, ◌∙◌, inl, inr}
use Rattle.std.proofs.lemmas.Option.{slice_get_within}
use Rattle.std.specs.List.{list_any}
use Rattle.wf_names_rules.specs.Declarations.{Structure, Declared}
use Rattle.graphs.specs.Graphs.{Path, last, more, holds, goes, AreCycles}
use Rattle.wf_names_rules.specs.Passes.{is_flagged}
use Rattle.wf_names_rules.specs.Sizes.{fields_at, holds_struct, is_the, struct_held}
use Rattle.graphs.proofs.NumberLemmas.{path-push}
use Rattle.wf_names_sizes.specs.Orders.{IsHoldingOrder}
use Rattle.wf_names_sizes.specs.StructSizes.{AreHolding}

path-same : (f g : ℕ → ℕ → Bool) → ((a b : ℕ) → f a b ≡ g a b) → (a b : ℕ) → Path f a b → Path g a b
path-same f g same _ _ (last a b h) = last a b (sym (same a b) ∙ h)
path-same f g same _ _ (more a b c h p) = more a b c (sym (same a b) ∙ h) (path-same f g same b c p)

flag-true : (flag : Option Bool) → is_flagged flag ≡ true → flag ≡ Some true
flag-true None h = absurd (cc h)
flag-true (Some true) h = refl
flag-true (Some false) h = absurd (cc h)

struct-within : (d : Declared) (a b : ℕ) → holds_struct d a b ≡ true → a < length d.structs
struct-within d a b = by_get (slice_get d.structs a) refl
  where
    by_get : (s : Option Structure) → slice_get d.structs a ≡ s → list_any (λ v. is_the b (struct_held d v.of)) (fields_at s) ≡ true → a < length d.structs
    by_get None e h = absurd (cc h)
    by_get (Some s) e h = slice_get_within d.structs a s e

path-within : (d : Declared) (a b : ℕ) → Path (holds_struct d) a b → a < length d.structs
path-within d _ _ (last a b h) = struct-within d a b h
path-within d _ _ (more a b c h p) = struct-within d a b h

pub cycles-hold : (d : Declared) (rows : List (List ℕ)) (flags : List Bool) → ((a b : ℕ) → goes rows a b ≡ holds_struct d a b) → AreCycles rows flags (length d.structs) → AreHolding d flags
cycles-hold d rows flags same cycles = record {
  sound = λ s h. path-same (goes rows) (holds_struct d) same s s (cycles.sound s (flag-true (slice_get flags s) h));
  complete = λ s p. ap is_flagged (cycles.complete s (path-within d s s p) (path-same (holds_struct d) (goes rows) (λ a b. sym (same a b)) s s p));
}

pub order-holds : (d : Declared) (rows : List (List ℕ)) (order : List ℕ) → ((a b : ℕ) → goes rows a b ≡ holds_struct d a b)
    → ((s : ℕ) → s < length d.structs → holds order s ≡ true) → ((s : ℕ) → holds order s ≡ true → s < length d.structs)
    → ((i a b : ℕ) → slice_get order i ≡ Some a → goes rows a b ≡ true → (holds (take i order) b ≡ true) ⊎ Path (goes rows) b a)
    → IsHoldingOrder d order
order-holds d rows order same every within back = record {
  every = every;
  within = within;
  behind = λ i s t at h. elim (back i s t at (same s t ∙ h)) [
    | inl p ↦ inl p
    | inr p ↦ inr (path-push (holds_struct d) t s t (path-same (goes rows) (holds_struct d) same t s p) h)
  ];
}
