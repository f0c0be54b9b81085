-- What the walks find of loops and jumps is what the rules say.
use Rattle.std.proofs.Common.{◌≡◌, ◌⊎◌, ℕ, Bool, true, false, not, List, [], ◌∷◌, fold, Option, Some, None, refl, sym, ap, subst, inl, inr}
use Rattle.wf_text.specs.declared.rules.Rule.TheVariants.{N2, N3, N5}
use Rattle.wf_text.specs.declared.rules.Refusal.{Refusal}
use Rattle.wf_text.specs.Precedence.{sooner, Decides}
use Rattle.wf_text.proofs.PrecedenceLaws.{Decides-map, Decides-sooner}
use Rattle.wf_names_rules.specs.Declarations.{Method, Declared, text_of}
use Rattle.wf_names_rules.specs.Passes.{refused_if}
use Rattle.wf_names_rules.specs.Reserved.{is_reserved}
use Rattle.wf_names_rules.specs.Jumps.{Jump, labelled, to_label, to_innermost, has_label, label_twice, reserved_label, unknown_label, outside_loops, block_jumps, jump_judged, jumped, method_labels, labels_found}
use Rattle.wf_names_rules.specs.NameRules as rules
use Rattle.wf_names_rules.specs.NameRules.{Jumps, LabelBreaks}
use Rattle.wf_names_decls.proofs.PassLaws.{refused-cause, Each, fold-decides}

-- What a labelled loop or a jump gives cause for.
abbrev Broken : List (List ℕ) → Jump → Refusal → Type 0
Broken texts (labelled loops label) s = (label_twice loops label ≡ Some s) ⊎ (reserved_label texts label ≡ Some s)
Broken texts (to_label loops label) s = unknown_label loops label ≡ Some s
Broken texts (to_innermost loops at) s = outside_loops loops at ≡ Some s

judge-decides : (texts : List (List ℕ)) (P : Refusal → Type 0) (found : Option Refusal) (j : Jump) → Decides P found → Decides (λ s. P s ⊎ Broken texts j s) (jump_judged texts found j)
judge-decides texts P found (labelled loops label) h =
    let double = label_twice loops label in
    let kept = reserved_label texts label in
    Decides-map (λ s. (P s ⊎ (double ≡ Some s)) ⊎ (kept ≡ Some s)) (λ s. P s ⊎ Broken texts (labelled loops label) s) (sooner (sooner found double) kept)
    (λ s c. elim c [ inl a ↦ elim a [ inl p ↦ inl p | inr x ↦ inr (inl x) ] | inr y ↦ inr (inr y) ])
    (λ s c. elim c [ inl p ↦ inl (inl p) | inr q ↦ elim q [ inl x ↦ inl (inr x) | inr y ↦ inr y ] ])
    (Decides-sooner (λ s. P s ⊎ (double ≡ Some s)) (sooner found double) kept (Decides-sooner P found double h))
judge-decides texts P found (to_label loops label) h = Decides-sooner P found (unknown_label loops label) h
judge-decides texts P found (to_innermost loops at) h = Decides-sooner P found (outside_loops loops at) h

jumped-fold : (texts : List (List ℕ)) (found : Option Refusal) (js : List Jump) → fold (jump_judged texts) found js ≡ jumped texts found js
jumped-fold texts found [] = refl
jumped-fold texts found (j ∷ js) = jumped-fold texts (jump_judged texts found j) js

method-decides : (texts : List (List ℕ)) (P : Refusal → Type 0) (found : Option Refusal) (m : Method) → Decides P found
    → Decides (λ s. P s ⊎ Each (Broken texts) (block_jumps [] m.body) s) (jumped texts found (block_jumps [] m.body))
method-decides texts P found m h =
    let F : Option Refusal → Type 0 = λ r. Decides (λ s. P s ⊎ Each (Broken texts) (block_jumps [] m.body) s) r in
    subst F (jumped-fold texts found (block_jumps [] m.body)) (fold-decides (jump_judged texts) (Broken texts) (judge-decides texts) P found (block_jumps [] m.body) h)

abbrev InMethod : List (List ℕ) → Method → Refusal → Type 0
InMethod texts m s = Each (Broken texts) (block_jumps [] m.body) s

broken-breaks : (d : Declared) (j : Jump) (s : Refusal) → Jumps d j → Broken d.texts j s → LabelBreaks d s
broken-breaks d (labelled loops label) s at (inl e) =
    let c = refused-cause (has_label loops label.text.0) N2 label.at s e in
    let F : Refusal → Type 0 = λ r. LabelBreaks d r in subst F (sym c.1) (rules.label_twice loops label at c.0)
broken-breaks d (labelled loops label) s at (inr e) =
    let c = refused-cause (is_reserved (text_of d label.text.0)) N3 label.at s e in
    let F : Refusal → Type 0 = λ r. LabelBreaks d r in subst F (sym c.1) (rules.reserved_label loops label at c.0)
broken-breaks d (to_label loops label) s at e =
    let c = refused-cause (not (has_label loops label.text.0)) N5 label.at s e in
    let F : Refusal → Type 0 = λ r. LabelBreaks d r in subst F (sym c.1) (rules.unknown_label loops label at (lacks (has_label loops label.text.0) c.0))
  where
    lacks : (b : Bool) → not b ≡ true → b ≡ false
    lacks true h = absurd (cc h)
    lacks false h = refl
broken-breaks d (to_innermost [] at) s stands e =
    let c = refused-cause true N5 at s e in
    let F : Refusal → Type 0 = λ r. LabelBreaks d r in subst F (sym c.1) (rules.outside_loops at stands)
broken-breaks d (to_innermost (loop ∷ loops) at) s stands e = absurd (cc e)

breaks-broken : (d : Declared) (s : Refusal) → LabelBreaks d s → (j : Jump) × (Jumps d j × Broken d.texts j s)
breaks-broken d _ (rules.label_twice loops label at t) = (labelled loops label, (at, inl (ap (λ b. refused_if b N2 label.at) t)))
breaks-broken d _ (rules.reserved_label loops label at t) = (labelled loops label, (at, inr (ap (λ b. refused_if b N3 label.at) t)))
breaks-broken d _ (rules.unknown_label loops label at t) = (to_label loops label, (at, ap (λ b. refused_if (not b) N5 label.at) t))
breaks-broken d _ (rules.outside_loops at stands) = (to_innermost [] at, (stands, refl))

-- After the walks over all methods it is the first refusal of what was found before and what the loops and jumps break.
pub labels-decide : (d : Declared) (P : Refusal → Type 0) (found : Option Refusal) → Decides P found → Decides (λ s. P s ⊎ LabelBreaks d s) (labels_found d found)
labels-decide d P found h =
    Decides-map (λ s. P s ⊎ Each (InMethod d.texts) d.methods s) (λ s. P s ⊎ LabelBreaks d s) (labels_found d found)
    (λ s c. elim c [ inl p ↦ inl p | inr e ↦ inr (broken-breaks d e.2.1.1 s (e.1, e.2.1.0, ((e.0, e.2.0), e.2.1.2.0)) e.2.1.2.1) ])
    (λ s c. elim c [ inl p ↦ inl p | inr b ↦ let j = breaks-broken d s b in inr (j.1.0.2.0.0, j.1.0.0, (j.1.0.2.0.1, (j.1.0.1, j.0, (j.1.0.2.1, j.1.1)))) ])
    (fold-decides (method_labels d.texts) (InMethod d.texts) (method-decides d.texts) P found d.methods h)

nothing-decides : Decides (λ s. ⊥) None
nothing-decides = λ s none. none

pub labels-exact : (d : Declared) → Decides (LabelBreaks d) (labels_found d None)
labels-exact d =
    Decides-map (λ s. ⊥ ⊎ LabelBreaks d s) (LabelBreaks d) (labels_found d None) (λ s c. elim c [ inl none ↦ absurd none | inr b ↦ b ]) (λ s b. inr b)
    (labels-decide d (λ s. ⊥) None nothing-decides)
