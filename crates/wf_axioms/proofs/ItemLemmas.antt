-- The premises that are answered, one by one.
use Rattle.std.proofs.Common.{◌≡◌, ℕ, zero, suc, ◌<◌, List, [], ◌∷◌, ◌++◌, length, drop, map, Option, None, ap, ◌∙◌, arith}
use Rattle.std.specs.Prelude.{slice_index_or, option_and_then, option_map, All}
use Rattle.std.proofs.lemmas.List.Elements.{All-nil, All-cons, All-head, All-tail}
use Rattle.wf_facts_exprs.specs.declared.facts.Cmp.{Cmp}
use Rattle.wf_facts_exprs.specs.Claims.{Claim}
use Rattle.wf_axioms.specs.declared.axioms.Term.{Term}
use Rattle.wf_axioms.specs.Matching.{Trees, claim_of, claims_of}

-- A premise one of whose letters stands for nothing.
pub claims-stop : (ts : Trees) (asked : List (Term × Cmp × Term)) (i : ℕ) (d : Term × Cmp × Term) → i < length asked → None ≡ claim_of ts (slice_index_or asked i d) → None ≡ claims_of ts (drop i asked)
claims-stop ts [] i d h k = absurd (omega (arith, h))
claims-stop ts (c ∷ cs) zero d h k = ap (option_and_then (λ f. option_map (λ fs. f ∷ fs) (claims_of ts cs))) k
claims-stop ts (c ∷ cs) (suc i) d h k = claims-stop ts cs i d (omega (arith, h)) k

pub stopped : (before : List Claim) (rest whole : Option (List Claim)) → None ≡ rest → option_map (λ fs. before ++ fs) rest ≡ whole → None ≡ whole
stopped before rest whole h k = ap (option_map (λ fs. before ++ fs)) h ∙ k

-- What holds of all that a list is turned into holds of each item turned.
pub all_turned : {X Y : Type 0} (P : Y → Type 0) (f : X → Y) (xs : List X) → All P (map f xs) → All (λ x. P (f x)) xs
all_turned P f [] h = All-nil (λ x. P (f x))
all_turned P f (x ∷ xs) h = All-cons (λ y. P (f y)) x xs (All-head P (f x) (map f xs) h) (all_turned P f xs (All-tail P (f x) (map f xs) h))
