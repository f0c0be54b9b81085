-- What decides doesn't depend on the order in which parts are judged.
use Rattle.std.proofs.Common.{◌≡◌, ◌∙◌, ◌⊎◌, refl, sym, ap, subst, inl, inr, false, List, [], ◌∷◌, ◌++◌, Option, Some, None}
use Rattle.std.specs.List.{flat_map}
use Rattle.std.proofs.lemmas.Grind.{flat_map-append}
use Rattle.std.proofs.lemmas.Option.{none-some}
use Rattle.wf_text.specs.declared.rules.Refusal.{Refusal}
use Rattle.wf_text.specs.Precedence.{is_before, sooner, soonest, Decides}
use Rattle.wf_text.proofs.PrecedenceLaws.{is_before-self, Decides-map, Decides-sooner, IsFirst-same}
use Rattle.wf_types_rules.specs.declared.settings.Setting.{Setting}
use Rattle.wf_types_rules.specs.Parts.{Part}
use Rattle.wf_types_rules.specs.FirstBreak.{refusals_at}
use Rattle.wf_types_exprs.specs.Judged.{judged}

-- What was found decides among itself.
found-decides : (found : Option Refusal) → Decides (λ t. found ≡ Some t) found
found-decides None = λ t e. none-some t e
found-decides (Some r) = record {
  breaks = refl;
  first = λ t e. let F : Refusal → Type 0 = λ u. is_before u r ≡ false in subst F (let same : r ≡ t = cc e in same) (is_before-self r);
}

-- At most one answer decides.
decides-same : (Q : Refusal → Type 0) (a b : Option Refusal) → Decides Q a → Decides Q b → a ≡ b
decides-same Q None None h k = refl
decides-same Q None (Some s) h k = absurd (h s k.breaks)
decides-same Q (Some r) None h k = absurd (k r h.breaks)
decides-same Q (Some r) (Some s) h k = ap Some (IsFirst-same Q r s h k)

both-decide : (found a b : Option Refusal) → Decides (λ t. ((found ≡ Some t) ⊎ (a ≡ Some t)) ⊎ (b ≡ Some t)) (sooner (sooner found a) b)
both-decide found a b =
    Decides-sooner (λ t. (found ≡ Some t) ⊎ (a ≡ Some t)) (sooner found a) b (Decides-sooner (λ t. found ≡ Some t) found a (found-decides found))

sooner-swap : (found a b : Option Refusal) → sooner (sooner found a) b ≡ sooner (sooner found b) a
sooner-swap found a b =
    decides-same (λ t. ((found ≡ Some t) ⊎ (b ≡ Some t)) ⊎ (a ≡ Some t)) (sooner (sooner found a) b) (sooner (sooner found b) a)
    (Decides-map (λ t. ((found ≡ Some t) ⊎ (a ≡ Some t)) ⊎ (b ≡ Some t)) (λ t. ((found ≡ Some t) ⊎ (b ≡ Some t)) ⊎ (a ≡ Some t)) (sooner (sooner found a) b)
    (λ t c. elim c [ inl p ↦ elim p [ inl f ↦ inl (inl f) | inr x ↦ inr x ] | inr y ↦ inl (inr y) ])
    (λ t c. elim c [ inl p ↦ elim p [ inl f ↦ inl (inl f) | inr y ↦ inr y ] | inr x ↦ inl (inr x) ]) (both-decide found a b))
    (both-decide found b a)

soonest-sooner : (found a : Option Refusal) (rs : List (Option Refusal)) → soonest (sooner found a) rs ≡ sooner (soonest found rs) a
soonest-sooner found a [] = refl
soonest-sooner found a (r ∷ rs) = ap (λ f. soonest f rs) (sooner-swap found a r) ∙ soonest-sooner (sooner found r) a rs

pub soonest-swap : (found : Option Refusal) (xs ys : List (Option Refusal)) → soonest (soonest found xs) ys ≡ soonest (soonest found ys) xs
soonest-swap found [] ys = refl
soonest-swap found (x ∷ xs) ys = soonest-swap (sooner found x) xs ys ∙ ap (λ f. soonest f xs) (soonest-sooner found x ys)

soonest-append : (found : Option Refusal) (xs ys : List (Option Refusal)) → soonest found (xs ++ ys) ≡ soonest (soonest found xs) ys
soonest-append found [] ys = refl
soonest-append found (x ∷ xs) ys = soonest-append (sooner found x) xs ys

pub judged-append : (s : Setting) (found : Option Refusal) (xs ys : List Part) → judged s found (xs ++ ys) ≡ judged s (judged s found xs) ys
unfolding judged
judged-append s found xs ys = ap (soonest found) (flat_map-append (refusals_at s) xs ys) ∙ soonest-append found (flat_map (refusals_at s) xs) (flat_map (refusals_at s) ys)

pub judged-none : (s : Setting) (found : Option Refusal) → found ≡ judged s found []
unfolding judged
judged-none s found = refl

pub judged-swap : (s : Setting) (found : Option Refusal) (xs ys : List Part) → judged s (judged s found xs) ys ≡ judged s (judged s found ys) xs
unfolding judged
judged-swap s found xs ys = soonest-swap found (flat_map (refusals_at s) xs) (flat_map (refusals_at s) ys)

-- A whole may be judged after its parts.
pub judged-last : (s : Setting) (found : Option Refusal) (x : Part) (xs : List Part) → judged s (judged s found xs) (x ∷ []) ≡ judged s found (x ∷ xs)
judged-last s found x xs = judged-swap s found xs (x ∷ []) ∙ sym (judged-append s found (x ∷ []) xs)

-- And parts in any order.
pub judged-turned : (s : Setting) (found : Option Refusal) (xs ys : List Part) → judged s (judged s found ys) xs ≡ judged s found (xs ++ ys)
judged-turned s found xs ys = judged-swap s found ys xs ∙ sym (judged-append s found xs ys)
