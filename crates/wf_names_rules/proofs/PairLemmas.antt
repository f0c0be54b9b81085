-- When two pairs are one.
use Rattle.std.proofs.Common.{◌≡◌, ℕ, Bool, true, false, ◌&&◌, [], ◌∷◌, nat_eq, refl, sym, ap, ◌∙◌}
use Rattle.std.specs.declared.cmp.Ordering.{Ordering}
use Rattle.std.specs.declared.cmp.Ordering.TheVariants.{Less, Equal, Greater}
use Rattle.std.specs.Ordering.{is_eq, nat_cmp, ordering_then}
use Rattle.std.proofs.lemmas.Map.Text.{is_eq-slice_cmp}
use Rattle.graphs.proofs.NumberLemmas.{same_number}
use Rattle.wf_names_rules.specs.Pairs.{Pair, same_pair, pair_cmp}

-- Pairs are alike that compare as equal.
pub pair_ties : (p q : Pair) → is_eq (pair_cmp p q) ≡ same_pair p q
pair_ties p q = sym (ending (nat_cmp p.0 q.0) (nat_cmp p.1 q.1)) ∙ is_eq-slice_cmp (p.0 ∷ p.1 ∷ []) (q.0 ∷ q.1 ∷ []) ∙ both (nat_eq p.0 q.0) (nat_eq p.1 q.1)
  where
    ending : (a b : Ordering) → is_eq (ordering_then a (ordering_then b Equal)) ≡ is_eq (ordering_then a b)
    ending Less b = refl
    ending Greater b = refl
    ending Equal Less = refl
    ending Equal Equal = refl
    ending Equal Greater = refl

    both : (a b : Bool) → (a && (b && true)) ≡ (a && b)
    both false b = refl
    both true true = refl
    both true false = refl

pub alike : (p q : Pair) → same_pair p q ≡ true → p ≡ q
alike p q h =
    let both : (nat_eq p.0 q.0 ≡ true) × (nat_eq p.1 q.1 ≡ true) = parts (nat_eq p.0 q.0) (nat_eq p.1 q.1) h in
    let made : ℕ → ℕ → Pair = λ a b. (a, b) in
    ap (λ a. made a p.1) (same_number p.0 q.0 both.0) ∙ ap (λ b. made q.0 b) (same_number p.1 q.1 both.1)
  where
    parts : (a b : Bool) → (a && b) ≡ true → (a ≡ true) × (b ≡ true)
    parts true b e = (refl, e)
    parts false b e = absurd (cc e)
