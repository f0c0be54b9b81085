-- The first refusal after a pass over a list.
use Rattle.std.proofs.Common.{◌≡◌, ◌⊎◌, ℕ, zero, suc, Bool, true, false, List, [], ◌∷◌, fold, Option, Some, slice_get, refl, sym, ap, subst, inl, inr}
use Rattle.wf_text.specs.declared.place.Place.{Place}
use Rattle.wf_text.specs.declared.rules.Rule.{Rule}
use Rattle.wf_text.specs.declared.rules.Refusal.{Refusal}
use Rattle.wf_text.specs.Precedence.{sooner, soonest, Decides}
use Rattle.wf_text.proofs.PrecedenceLaws.{Among, here, there, Decides-map, Decides-sooner, Decides-soonest}
use Rattle.wf_names_rules.specs.Found.{Finds}
use Rattle.wf_names_rules.specs.Passes.{refused_if}

-- What is refused if something is so is refused because it is so.
pub refused-cause : (t : Bool) (rule : Rule) (at : Place) (s : Refusal) → refused_if t rule at ≡ Some s → (t ≡ true) × (s ≡ record { rule = rule; at = at })
refused-cause true rule at s e = (refl, (let same : record { rule = rule; at = at } ≡ s = cc e in sym same))
refused-cause false rule at s e = absurd (cc e)

-- One of these gives cause for a refusal.
abbrev pub Each : {A : Type 0} → (A → Refusal → Type 0) → List A → Refusal → Type 0
Each {A} B xs s = (i : ℕ) × (x : A) × ((slice_get xs i ≡ Some x) × B x s)

each-cases : {A : Type 0} (B : A → Refusal → Type 0) (x : A) (xs : List A) (s : Refusal) (i : ℕ) (y : A) → slice_get (x ∷ xs) i ≡ Some y → B y s → B x s ⊎ Each B xs s
each-cases {A} B x xs s zero y e b = let same : x ≡ y = cc e in let F : A → Type 0 = λ z. B z s in inl (subst F (sym same) b)
each-cases B x xs s (suc i) y e b = inr (i, y, (e, b))

-- A pass that judges one after the other, where the first refusal after each is known.
pub fold-decides : {A : Type 0} (f : Option Refusal → A → Option Refusal) (B : A → Refusal → Type 0)
    → ((P : Refusal → Type 0) (found : Option Refusal) (x : A) → Decides P found → Decides (λ s. P s ⊎ B x s) (f found x))
    → (P : Refusal → Type 0) (found : Option Refusal) (xs : List A) → Decides P found → Decides (λ s. P s ⊎ Each B xs s) (fold f found xs)
fold-decides {A} f B step P found [] h =
    Decides-map P (λ s. P s ⊎ Each B [] s) found (λ s p. inl p) (λ s c. elim c [ inl p ↦ p | inr e ↦ absurd (none s e) ]) h
  where
    none : (s : Refusal) → Each B [] s → ⊥
    none s e = absurd (cc e.2.0)
fold-decides f B step P found (x ∷ xs) h =
    Decides-map (λ s. (P s ⊎ B x s) ⊎ Each B xs s) (λ s. P s ⊎ Each B (x ∷ xs) s) (fold f (f found x) xs)
    (λ s c. elim c [ inl a ↦ elim a [ inl p ↦ inl p | inr b ↦ inr (0, x, (refl, b)) ] | inr e ↦ inr (suc e.0, e.1, e.2) ])
    (λ s c. elim c [ inl p ↦ inl (inl p) | inr e ↦ elim (each-cases B x xs s e.0 e.1 e.2.0 e.2.1) [ inl b ↦ inl (inr b) | inr t ↦ inr t ] ])
    (fold-decides f B step (λ s. P s ⊎ B x s) (f found x) xs (step P found x h))

-- A pass adds causes: after it the first refusal is the one before or one of these.
abbrev pub Adds : (Option Refusal → Option Refusal) → (Refusal → Type 0) → Type 1
Adds pass Q = (P : Refusal → Type 0) (found : Option Refusal) → Decides P found → Decides (λ s. P s ⊎ Q s) (pass found)

pub adds-map : (pass : Option Refusal → Option Refusal) (Q R : Refusal → Type 0) → ((s : Refusal) → Q s → R s) → ((s : Refusal) → R s → Q s) → Adds pass Q → Adds pass R
adds-map pass Q R to from adds P found h =
    Decides-map (λ s. P s ⊎ Q s) (λ s. P s ⊎ R s) (pass found) (λ s c. elim c [ inl p ↦ inl p | inr q ↦ inr (to s q) ]) (λ s c. elim c [ inl p ↦ inl p | inr r ↦ inr (from s r) ])
    (adds P found h)

pub adds-then : (f g : Option Refusal → Option Refusal) (Q R : Refusal → Type 0) → Adds f Q → Adds g R → Adds (λ found. g (f found)) (λ s. Q s ⊎ R s)
adds-then f g Q R first second P found h =
    Decides-map (λ s. (P s ⊎ Q s) ⊎ R s) (λ s. P s ⊎ (Q s ⊎ R s)) (g (f found))
    (λ s c. elim c [ inl a ↦ elim a [ inl p ↦ inl p | inr q ↦ inr (inl q) ] | inr r ↦ inr (inr r) ])
    (λ s c. elim c [ inl p ↦ inl (inl p) | inr a ↦ elim a [ inl q ↦ inl (inr q) | inr r ↦ inr r ] ])
    (second (λ s. P s ⊎ Q s) (f found) (first P found h))

finds-among : (s : Refusal) (ns : List (Option Refusal)) (k : ℕ) → slice_get ns k ≡ Some (Some s) → Among s ns
finds-among s [] k h = absurd (cc h)
finds-among s (n ∷ ns) zero h = here n ns (let e : n ≡ Some s = cc h in e)
finds-among s (n ∷ ns) (suc k) h = there n ns (finds-among s ns k h)

among-finds : (s : Refusal) (ns : List (Option Refusal)) → Among s ns → Finds ns s
among-finds s _ (here n ns e) = (0, ap (λ x. Some x) e)
among-finds s _ (there n ns a) = let r = among-finds s ns a in (suc r.0, r.1)

-- A pass over a list of finds, where these are causes and all of them.
pub adds-finds : (finds : List (Option Refusal)) (Q : Refusal → Type 0) → ((s : Refusal) → Finds finds s → Q s) → ((s : Refusal) → Q s → Finds finds s)
    → Adds (λ found. soonest found finds) Q
adds-finds finds Q sound complete =
    adds-map (λ found. soonest found finds) (λ s. Among s finds) Q (λ s a. sound s (among-finds s finds a))
    (λ s q. let f = complete s q in finds-among s finds f.0 f.1) (λ P found h. Decides-soonest P found finds h)

-- One find.
pub adds-one : (find : Option Refusal) (Q : Refusal → Type 0) → ((s : Refusal) → find ≡ Some s → Q s) → ((s : Refusal) → Q s → find ≡ Some s)
    → Adds (λ found. sooner found find) Q
adds-one find Q sound complete = adds-map (λ found. sooner found find) (λ s. find ≡ Some s) Q sound complete (λ P found h. Decides-sooner P found find h)

-- A pass that judges one after the other.
pub adds-each : {A : Type 0} (f : Option Refusal → A → Option Refusal) (B : A → Refusal → Type 0) → ((x : A) → Adds (λ found. f found x) (B x))
    → (xs : List A) → Adds (λ found. fold f found xs) (Each B xs)
adds-each f B step xs P found h = fold-decides f B (λ P found x. step x P found) P found xs h
