-- What is among a list of findings, and the first refusal of it.
use Rattle.std.proofs.Common.{◌≡◌, ◌⊎◌, ℕ, zero, suc, Bool, true, false, not, ◌&&◌, List, [], ◌∷◌, Option, Some, None, slice_get, is_some, refl, sym, ap, inl, inr}
use Rattle.wf_text.specs.declared.place.Place.{Place}
use Rattle.wf_text.specs.declared.rules.Rule.{Rule}
use Rattle.wf_text.specs.declared.rules.Refusal.{Refusal}
use Rattle.wf_text.specs.Precedence.{sooner, soonest, Decides}
use Rattle.wf_text.proofs.PrecedenceLaws.{Decides-map, Decides-sooner}
use Rattle.wf_names_rules.specs.Passes.{refused_if}
use Rattle.wf_names_rules.specs.Found.{Finds}

-- A refusal is among what is found.
abbrev pub Has : Refusal → List (Option Refusal) → Type 0
Has s [] = ⊥
Has s (now ∷ more) = (now ≡ Some s) ⊎ Has s more

pub has-item : (s : Refusal) (finds : List (Option Refusal)) → Finds finds s → Has s finds
has-item s finds f = item finds f.0 f.1
  where
    item : (ns : List (Option Refusal)) (i : ℕ) → slice_get ns i ≡ Some (Some s) → Has s ns
    item [] i e = absurd (cc e)
    item (n ∷ ns) zero e = inl (let same : n ≡ Some s = cc e in same)
    item (n ∷ ns) (suc i) e = inr (item ns i e)

pub item-has : (s : Refusal) (finds : List (Option Refusal)) → Has s finds → Finds finds s
item-has s [] h = absurd h
item-has s (n ∷ ns) (inl e) = (0, ap (λ x. Some x) e)
item-has s (n ∷ ns) (inr h) = let f = item-has s ns h in (suc f.0, f.1)

-- The first refusal of the causes that were known and those of a list.
pub Decides-all : (P : Refusal → Type 0) (found : Option Refusal) (now : List (Option Refusal)) → Decides P found → Decides (λ s. P s ⊎ Has s now) (soonest found now)
Decides-all P found [] h = Decides-map P (λ s. P s ⊎ ⊥) found (λ s p. inl p) (λ s c. elim c [ inl p ↦ p | inr q ↦ absurd q ]) h
Decides-all P found (n ∷ ns) h =
    Decides-map (λ s. (P s ⊎ (n ≡ Some s)) ⊎ Has s ns) (λ s. P s ⊎ ((n ≡ Some s) ⊎ Has s ns)) (soonest (sooner found n) ns)
    (λ s c. elim c [ inl p ↦ elim p [ inl k ↦ inl k | inr e ↦ inr (inl e) ] | inr q ↦ inr (inr q) ])
    (λ s c. elim c [ inl k ↦ inl (inl k) | inr q ↦ elim q [ inl e ↦ inl (inr e) | inr a ↦ inr a ] ])
    (Decides-all (λ s. P s ⊎ (n ≡ Some s)) (sooner found n) ns (Decides-sooner P found n h))

-- Why a rule is found broken, and that it is.
pub refused-cause : (t : Bool) (rule : Rule) (at : Place) (s : Refusal) → refused_if t rule at ≡ Some s → (t ≡ true) × (s ≡ record { rule = rule; at = at })
refused-cause true rule at s e = (refl, (let same : record { rule = rule; at = at } ≡ s = cc e in sym same))
refused-cause false rule at s e = absurd (cc e)

pub refused-so : (t : Bool) (rule : Rule) (at : Place) → t ≡ true → refused_if t rule at ≡ Some (record { rule = rule; at = at })
refused-so t rule at h = ap (λ b. refused_if b rule at) h

pub not-cause : (t : Bool) → not t ≡ true → t ≡ false
not-cause true h = absurd (cc h)
not-cause false h = refl

pub not-so : (t : Bool) → t ≡ false → not t ≡ true
not-so t h = ap not h

pub none-cause : {X : Type 0} (o : Option X) → not (is_some o) ≡ true → o ≡ None
none-cause None h = refl
none-cause (Some x) h = absurd (cc h)

pub none-so : {X : Type 0} (o : Option X) → o ≡ None → not (is_some o) ≡ true
none-so o h = ap (λ p. not (is_some p)) h

pub both : (x y : Bool) → (x && y) ≡ true → (x ≡ true) × (y ≡ true)
both true y h = (refl, h)
both false y h = absurd (cc h)

pub both-so : (x y : Bool) → x ≡ true → y ≡ true → (x && y) ≡ true
both-so true y h k = k
both-so false y h k = absurd (cc h)
