-- Laws of the order of refusals, and of the one that decides.
use Rattle.std.proofs.Common.{ℕ, slice_get, ap, ◌∙◌, Bool, if◌then◌else◌, true, false, List, [], ◌∷◌, Option, Some, None, ◌≡◌, refl, sym, subst, inl, inr, ◌⊎◌, nat_lt, arith}
use Rattle.std.proofs.lemmas.Bool.Decides.{nat_tests}
use Rattle.std.proofs.lemmas.Option.{none-some}
use Rattle.wf_text.specs.declared.rules.Refusal.{Refusal}
use Rattle.wf_text.specs.declared.place.Place.{Place}
use Rattle.wf_text.specs.declared.rules.Rule.{Rule}
use Rattle.wf_text.specs.declared.rules.Rule.TheVariants.{S1, S2, S3, S4, S5, S6, N1, N2, N3, N4, N5, N6, N7, N8, T1, T2, T3, T4, T5, E1, E2, E3, E4, E5, B1, B2, B3, B4, B5, B6, B7, B8, B9, B10, B11, B12, L1, L2, L3, L4, L5, L6, L7, L8, L9}
use Rattle.wf_text.specs.Precedence.{then_by, is_before, rank, sooner, soonest, IsFirst, Decides}

then_by-self : (a : ℕ) (next : Bool) → next ≡ false → then_by a a next ≡ false
then_by-self a next h = grind (arith, nat_tests, h)

-- No refusal decides over itself.
pub is_before-self : (r : Refusal) → is_before r r ≡ false
unfolding is_before
is_before-self r =
    let least : nat_lt (rank r.rule) (rank r.rule) ≡ false = grind (arith, nat_tests) in
    then_by-self r.at.file _ (then_by-self r.at.line _ (then_by-self r.at.col _ least))

then_by-over : (s r t : ℕ) (first second third : Bool) → (first ≡ true → second ≡ false → third ≡ false)
    → then_by s r first ≡ true → then_by t r second ≡ false → then_by t s third ≡ false
then_by-over s r t first second third h p q = grind (arith, nat_tests, h, p, q)

lt-over : (s r t : ℕ) → nat_lt s r ≡ true → nat_lt t r ≡ false → nat_lt t s ≡ false
lt-over s r t p q = grind (arith, nat_tests, p, q)

-- What doesn't decide over r doesn't decide over what does.
pub is_before-over : (r s t : Refusal) → is_before s r ≡ true → is_before t r ≡ false → is_before t s ≡ false
unfolding is_before
is_before-over r s t =
    then_by-over s.at.file r.at.file t.at.file _ _ _ (then_by-over s.at.line r.at.line t.at.line _ _ _
    (then_by-over s.at.col r.at.col t.at.col _ _ _ (lt-over (rank s.rule) (rank r.rule) (rank t.rule))))

-- What decides among the causes that were known and one more.
pub Decides-map : (P Q : Refusal → Type 0) (found : Option Refusal) → ((s : Refusal) → P s → Q s) → ((s : Refusal) → Q s → P s)
    → Decides P found → Decides Q found
Decides-map P Q None to from h = λ s q. h s (from s q)
Decides-map P Q (Some r) to from h = record { breaks = to r h.breaks; first = λ s q. h.first s (from s q) }

sooner-some : (P : Refusal → Type 0) (r s : Refusal) (b : Bool) → is_before s r ≡ b → IsFirst P r
    → Decides (λ t. P t ⊎ (Some s ≡ Some t)) (if b then Some s else Some r)
sooner-some P r s true e h = record {
  breaks = inr refl;
  first = λ t c. elim c [
    | inl p ↦ is_before-over r s t e (h.first t p)
    | inr q ↦ let F : Refusal → Type 0 = λ u. is_before u s ≡ false in subst F (let same : s ≡ t = cc q in same) (is_before-self s)
  ];
}
sooner-some P r s false e h = record {
  breaks = inl h.breaks;
  first = λ t c. elim c [
    | inl p ↦ h.first t p
    | inr q ↦ let F : Refusal → Type 0 = λ u. is_before u r ≡ false in subst F (let same : s ≡ t = cc q in same) e
  ];
}

-- What decides among the causes that were known and the one that is found now, if any.
pub Decides-sooner : (P : Refusal → Type 0) (found now : Option Refusal) → Decides P found
    → Decides (λ t. P t ⊎ (now ≡ Some t)) (sooner found now)
Decides-sooner P None None h = λ s c. elim c [ inl p ↦ h s p | inr q ↦ none-some s q ]
Decides-sooner P (Some r) None h = record {
  breaks = inl h.breaks;
  first = λ t c. elim c [ inl p ↦ h.first t p | inr q ↦ absurd (none-some t q) ];
}
Decides-sooner P None (Some s) h = record {
  breaks = inr refl;
  first = λ t c. elim c [
    | inl p ↦ absurd (h t p)
    | inr q ↦ let F : Refusal → Type 0 = λ u. is_before u s ≡ false in subst F (let same : s ≡ t = cc q in same) (is_before-self s)
  ];
}
Decides-sooner P (Some r) (Some s) h = sooner-some P r s (is_before s r) refl h

-- The refusals of a list of finds.
pub data Among (s : Refusal) : List (Option Refusal) → Type 0 where
  here : (now : Option Refusal) (more : List (Option Refusal)) → now ≡ Some s → Among s (now ∷ more)
  there : (now : Option Refusal) (more : List (Option Refusal)) → Among s more → Among s (now ∷ more)

among-cases : (s : Refusal) (now : Option Refusal) (more : List (Option Refusal)) → Among s (now ∷ more) → (now ≡ Some s) ⊎ Among s more
among-cases s now more h = among-parts (now ∷ more) now more refl h
  where
    among-parts : (all : List (Option Refusal)) (n : Option Refusal) (ns : List (Option Refusal)) → all ≡ n ∷ ns → Among s all → (n ≡ Some s) ⊎ Among s ns
    among-parts _ n ns e (here m ms p) = inl (cc (e, p))
    among-parts _ n ns e (there m ms p) = inr (let F : List (Option Refusal) → Type 0 = Among s in subst F (let tails : ms ≡ ns = cc e in tails) p)

-- What decides among the causes that were known and those of a list.
pub Decides-soonest : (P : Refusal → Type 0) (found : Option Refusal) (now : List (Option Refusal)) → Decides P found
    → Decides (λ t. P t ⊎ Among t now) (soonest found now)
Decides-soonest P found [] h = Decides-map P (λ t. P t ⊎ Among t []) found (λ s p. inl p) (λ s c. elim c [ inl p ↦ p | inr q ↦ absurd (among-none s q) ]) h
  where
    among-none : (s : Refusal) → Among s [] → ⊥
    among-none s a = none-among [] refl a
      where
        none-among : (all : List (Option Refusal)) → all ≡ [] → Among s all → ⊥
        none-among _ e (here m ms p) = absurd (cc e)
        none-among _ e (there m ms p) = absurd (cc e)
Decides-soonest P found (r ∷ rs) h =
    Decides-map (λ t. (P t ⊎ (r ≡ Some t)) ⊎ Among t rs) (λ t. P t ⊎ Among t (r ∷ rs)) (soonest (sooner found r) rs)
    (λ s c. elim c [ inl p ↦ elim p [ inl k ↦ inl k | inr n ↦ inr (here r rs n) ] | inr q ↦ inr (there r rs q) ])
    (λ s c. elim c [ inl k ↦ inl (inl k) | inr q ↦ elim (among-cases s r rs q) [ inl n ↦ inl (inr n) | inr a ↦ inr a ] ])
    (Decides-soonest (λ t. P t ⊎ (r ≡ Some t)) (sooner found r) rs (Decides-sooner P found r h))

-- The rules in their order.
abbrev rules : List Rule
rules = S1 ∷ S2 ∷ S3 ∷ S4 ∷ S5 ∷ S6 ∷ N1 ∷ N2 ∷ N3 ∷ N4 ∷ N5 ∷ N6 ∷ N7 ∷ N8 ∷ T1 ∷ T2 ∷ T3 ∷ T4 ∷ T5 ∷ E1 ∷ E2 ∷ E3 ∷ E4 ∷ E5 ∷ B1 ∷ B2 ∷ B3 ∷ B4 ∷ B5 ∷ B6 ∷ B7 ∷ B8 ∷ B9 ∷ B10 ∷ B11 ∷ B12 ∷ L1 ∷ L2 ∷ L3 ∷ L4 ∷ L5 ∷ L6 ∷ L7 ∷ L8 ∷ L9 ∷ []

rule_at-rank : (rule : Rule) → slice_get rules (rank rule) ≡ Some rule
rule_at-rank S1 = refl
rule_at-rank S2 = refl
rule_at-rank S3 = refl
rule_at-rank S4 = refl
rule_at-rank S5 = refl
rule_at-rank S6 = refl
rule_at-rank N1 = refl
rule_at-rank N2 = refl
rule_at-rank N3 = refl
rule_at-rank N4 = refl
rule_at-rank N5 = refl
rule_at-rank N6 = refl
rule_at-rank N7 = refl
rule_at-rank N8 = refl
rule_at-rank T1 = refl
rule_at-rank T2 = refl
rule_at-rank T3 = refl
rule_at-rank T4 = refl
rule_at-rank T5 = refl
rule_at-rank E1 = refl
rule_at-rank E2 = refl
rule_at-rank E3 = refl
rule_at-rank E4 = refl
rule_at-rank E5 = refl
rule_at-rank B1 = refl
rule_at-rank B2 = refl
rule_at-rank B3 = refl
rule_at-rank B4 = refl
rule_at-rank B5 = refl
rule_at-rank B6 = refl
rule_at-rank B7 = refl
rule_at-rank B8 = refl
rule_at-rank B9 = refl
rule_at-rank B10 = refl
rule_at-rank B11 = refl
rule_at-rank B12 = refl
rule_at-rank L1 = refl
rule_at-rank L2 = refl
rule_at-rank L3 = refl
rule_at-rank L4 = refl
rule_at-rank L5 = refl
rule_at-rank L6 = refl
rule_at-rank L7 = refl
rule_at-rank L8 = refl
rule_at-rank L9 = refl

rank-same : (a b : Rule) → rank a ≡ rank b → a ≡ b
rank-same a b e =
    let both : Some a ≡ Some b = sym (rule_at-rank a) ∙ ap (λ n. slice_get rules n) e ∙ rule_at-rank b in cc both

-- Where neither of two numbers is below the other nor what follows decides, they are the same and neither does.
then_by-same : (a b : ℕ) (first second : Bool) → then_by a b first ≡ false → then_by b a second ≡ false
    → (a ≡ b) × (first ≡ false) × (second ≡ false)
then_by-same a b first second p q =
    (grind (arith, nat_tests, p, q), grind (arith, nat_tests, p, q), grind (arith, nat_tests, p, q))

place : ℕ → ℕ → ℕ → Place
place file line col = record { file = file; line = line; col = col }

place-same : (p q : Place) → p.file ≡ q.file → p.line ≡ q.line → p.col ≡ q.col → p ≡ q
unfolding place
place-same p q file line col =
    ap (λ n. place n p.line p.col) file ∙ ap (λ n. place q.file n p.col) line ∙ ap (λ n. place q.file q.line n) col

refusal-same : (r s : Refusal) → r.rule ≡ s.rule → r.at ≡ s.at → r ≡ s
refusal-same r s rule at =
    let made : Rule → Place → Refusal = λ rule at. record { rule = rule; at = at } in
    ap (λ rule. made rule r.at) rule ∙ ap (λ at. made s.rule at) at

-- Two refusals neither of which decides over the other are one.
pub is_before-same : (r s : Refusal) → is_before r s ≡ false → is_before s r ≡ false → r ≡ s
unfolding is_before
is_before-same r s p q =
    let file = then_by-same r.at.file s.at.file _ _ p q in
    let line = then_by-same r.at.line s.at.line _ _ file.1 file.2 in
    let col = then_by-same r.at.col s.at.col _ _ line.1 line.2 in
    let ranks : rank r.rule ≡ rank s.rule = grind (arith, nat_tests, col.1, col.2) in
    let rule = rank-same r.rule s.rule ranks in
    refusal-same r s rule (place-same r.at s.at file.0 line.0 col.0)

-- At most one refusal decides.
pub IsFirst-same : (P : Refusal → Type 0) (r s : Refusal) → IsFirst P r → IsFirst P s → r ≡ s
IsFirst-same P r s h k = is_before-same r s (k.first r h.breaks) (h.first s k.breaks)
