-- The first refusal with the names on cycles.
use Rattle.std.proofs.Common.{◌≡◌, ◌⊎◌, ℕ, zero, suc, if◌then◌else◌, Bool, true, false, List, [], ◌∷◌, length, Option, Some, None, slice_get, refl, sym, ap, ◌∙◌, subst, inl, inr}
use Rattle.std.proofs.lemmas.Option.{none-some}
use Rattle.wf_text.specs.declared.rules.Rule.{Rule}
use Rattle.wf_text.specs.declared.rules.Refusal.{Refusal}
use Rattle.wf_text.specs.Precedence.{is_before, sooner, soonest, IsFirst, Decides}
use Rattle.wf_text.proofs.PrecedenceLaws.{Among, here, there, is_before-self, is_before-over, is_before-same, Decides-map, Decides-soonest}
use Rattle.wf_ast.specs.declared.parsed.Name.{Name}
use Rattle.graphs.specs.Graphs.{Path, last, more, AreCycles}
use Rattle.wf_names_rules.specs.Passes.{flagged_from}
use Rattle.wf_names_rules.specs.Found.{Finds, IsOnCycle}
use Rattle.wf_names_rules.proofs.ListLaws.{flagged-sound, flagged-complete}
use Rattle.wf_names_cycles.specs.CyclesFound.{DecidesWith}

-- The first refusal of what was found.
decides-found : (found : Option Refusal) → Decides (λ s. found ≡ Some s) found
decides-found None = λ s e. none-some s e
decides-found (Some r) = record {
  breaks = refl;
  first = λ s e. let F : Refusal → Type 0 = λ u. is_before u r ≡ false in subst F (let same : r ≡ s = cc e in same) (is_before-self r);
}

among-item : (t : Refusal) (ns : List (Option Refusal)) (k : ℕ) → slice_get ns k ≡ Some (Some t) → Among t ns
among-item t [] k h = absurd (cc h)
among-item t (n ∷ ns) zero h = here n ns (let e : n ≡ Some t = cc h in e)
among-item t (n ∷ ns) (suc k) h = there n ns (among-item t ns k h)

item-among : (t : Refusal) (ns : List (Option Refusal)) → Among t ns → Finds ns t
item-among t _ (here n ns e) = (0, ap (λ x. Some x) e)
item-among t _ (there n ns a) = let r = item-among t ns a in (suc r.0, r.1)

pub cycles_found-decides : (rule : Rule) (rows : List (List ℕ)) (names : List Name) (flags : List Bool) (found all : Option Refusal)
    → AreCycles rows flags (length names) → all ≡ soonest found (flagged_from rule 0 flags names) → DecidesWith (IsOnCycle rule rows names) found all
cycles_found-decides rule rows names flags found all h e =
    let P : Option Refusal → Type 0 = λ o. DecidesWith (IsOnCycle rule rows names) found o in
    subst P (sym e) (
    Decides-map (λ t. (found ≡ Some t) ⊎ Among t (flagged_from rule 0 flags names)) (λ t. (found ≡ Some t) ⊎ IsOnCycle rule rows names t) (soonest found (flagged_from rule 0 flags names))
    (λ t c. elim c [ inl p ↦ inl p | inr a ↦ inr (flagged-sound rule rows flags names t h (item-among t (flagged_from rule 0 flags names) a)) ])
    (λ t c. elim c [ inl p ↦ inl p | inr r ↦ inr (let f = flagged-complete rule rows flags names t h r in among-item t (flagged_from rule 0 flags names) f.0 f.1) ])
    (Decides-soonest (λ s. found ≡ Some s) found (flagged_from rule 0 flags names) (decides-found found))
    )

-- What doesn't decide over the second doesn't over the first, which the second doesn't decide over.
over-both : (Q : Refusal → Type 0) (r s t : Refusal) → is_before s r ≡ false → IsFirst Q s → Q t → is_before t r ≡ false
over-both Q r s t e k q = by_test (is_before t r) refl
  where
    by_test : (b : Bool) → is_before t r ≡ b → is_before t r ≡ false
    by_test false h = h
    by_test true h =
        let after : is_before s t ≡ false = is_before-over r t s h e in
        let same : t ≡ s = is_before-same t s (k.first t q) after in
        ap (λ u. is_before u r) same ∙ e

first-of-both : (P Q : Refusal → Type 0) (r s : Refusal) (b : Bool) → is_before s r ≡ b → IsFirst P r → IsFirst Q s → Decides (λ t. P t ⊎ Q t) (if b then Some s else Some r)
first-of-both P Q r s true e h k = record { breaks = inr k.breaks; first = λ t c. elim c [ inl p ↦ is_before-over r s t e (h.first t p) | inr q ↦ k.first t q ] }
first-of-both P Q r s false e h k = record { breaks = inl h.breaks; first = λ t c. elim c [ inl p ↦ h.first t p | inr q ↦ over-both Q r s t e k q ] }

-- Of two kinds of rules together the first refusal is the sooner of the first refusals of each.
pub Decides-both : (P Q : Refusal → Type 0) (a b : Option Refusal) → Decides P a → Decides Q b → Decides (λ s. P s ⊎ Q s) (sooner a b)
Decides-both P Q None None h k = λ s c. elim c [ inl p ↦ h s p | inr q ↦ k s q ]
Decides-both P Q (Some r) None h k = record {
  breaks = inl h.breaks;
  first = λ t c. elim c [ inl p ↦ h.first t p | inr q ↦ absurd (k t q) ];
}
Decides-both P Q None (Some s) h k = record {
  breaks = inr k.breaks;
  first = λ t c. elim c [ inl p ↦ absurd (h t p) | inr q ↦ k.first t q ];
}
Decides-both P Q (Some r) (Some s) h k = first-of-both P Q r s (is_before s r) refl h k

-- The same for rules that say the same.
pub DecidesWith-map : (P Q : Refusal → Type 0) (found all : Option Refusal) → ((s : Refusal) → P s → Q s) → ((s : Refusal) → Q s → P s)
    → DecidesWith P found all → DecidesWith Q found all
DecidesWith-map P Q found all to from h =
    Decides-map (λ t. (found ≡ Some t) ⊎ P t) (λ t. (found ≡ Some t) ⊎ Q t) all
    (λ t c. elim c [ inl p ↦ inl p | inr q ↦ inr (to t q) ]) (λ t c. elim c [ inl p ↦ inl p | inr q ↦ inr (from t q) ]) h

-- The first refusal of the one before and of these rules is that of all rules together.
pub decides-with : (P Q : Refusal → Type 0) (found all : Option Refusal) → Decides P found → DecidesWith Q found all → Decides (λ s. P s ⊎ Q s) all
decides-with P Q None all h k =
    Decides-map (λ t. (None ≡ Some t) ⊎ Q t) (λ t. P t ⊎ Q t) all
    (λ t c. elim c [ inl e ↦ absurd (none-some t e) | inr q ↦ inr q ]) (λ t c. elim c [ inl p ↦ absurd (h t p) | inr q ↦ inr q ]) k
decides-with P Q (Some r) None h k = absurd (k r (inl refl))
decides-with P Q (Some r) (Some t) h k = record {
  breaks = elim k.breaks [
    | inl e ↦ inl (let same : r ≡ t = cc e in subst P same h.breaks)
    | inr q ↦ inr q
  ];
  first = λ s c. elim c [
    | inl p ↦ behind s (is_before s t) refl p
    | inr q ↦ k.first s (inr q)
  ];
}
  where
    behind : (s : Refusal) (b : Bool) → is_before s t ≡ b → P s → is_before s t ≡ false
    behind s false e p = e
    behind s true e p =
        let after : is_before r t ≡ false = k.first r (inl refl) in
        let over : is_before r s ≡ false = is_before-over t s r e after in
        let same : r ≡ s = is_before-same r s over (h.first s p) in
        let F : Refusal → Type 0 = λ u. is_before u t ≡ false in subst F same after

-- Ways in two graphs that go the same.
pub path-map : (f g : ℕ → ℕ → Bool) → ((a b : ℕ) → f a b ≡ g a b) → (a b : ℕ) → Path f a b → Path g a b
path-map f g same _ _ (last a b e) = last a b (sym (same a b) ∙ e)
path-map f g same _ _ (more a b c e p) = more a b c (sym (same a b) ∙ e) (path-map f g same b c p)
