-- The refusal that is computed is the first of those that the table has.
use Rattle.std.specs.Prelude.{ℕ, zero, suc, List, [], ◌∷◌, ◌++◌, map, Option, Some, None, option_map, slice_get}
use Rattle.std.specs.Bool.{⊤}
use Rattle.std.specs.List.{flat_map}
use Rattle.std.proofs.Common.{◌≡◌, ◌∙◌, ◌⊎◌, refl, ap, subst, inl, inr}
use Rattle.std.proofs.lemmas.Option.{slice_get-map}
use Rattle.wf_text.specs.declared.place.Place.{Place}
use Rattle.wf_text.specs.declared.rules.Refusal.{Refusal}
use Rattle.wf_text.specs.Precedence.{Decides, told, refused}
use Rattle.wf_text.proofs.PrecedenceLaws.{Among, here, there, Decides-map, Decides-soonest}
use Rattle.wf_named.specs.NamedTree.{NamedPackageTree}
use Rattle.wf_types_rules.specs.Parts.{Site, sites, IsPart}
use Rattle.wf_types_rules.specs.TypeRules.{TypeRule, type_rules, IsRule, Breaks}
use Rattle.wf_types_rules.specs.FirstBreak.{refusals_at, refusals_of, refusals, deciding}

-- An item of a list is among it.
among-item : (t : Refusal) (ns : List (Option Refusal)) (k : ℕ) → slice_get ns k ≡ Some (Some t) → Among t ns
among-item t [] k h = absurd (cc h)
among-item t (n ∷ ns) zero h = here n ns (let e : n ≡ Some t = cc h in e)
among-item t (n ∷ ns) (suc k) h = there n ns (among-item t ns k h)

among-front : (t : Refusal) (ns ms : List (Option Refusal)) → Among t ns → Among t (ns ++ ms)
among-front t _ ms (here n ns e) = here n (ns ++ ms) e
among-front t _ ms (there n ns a) = there n (ns ++ ms) (among-front t ns ms a)

among-behind : (t : Refusal) (ns ms : List (Option Refusal)) → Among t ms → Among t (ns ++ ms)
among-behind t [] ms a = a
among-behind t (n ∷ ns) ms a = there n (ns ++ ms) (among-behind t ns ms a)

-- What is said of one site is said of all.
among-sites : (t : Refusal) (xs : List Site) (i : ℕ) (x : Site) → slice_get xs i ≡ Some x → Among t (refusals_of x) → Among t (flat_map refusals_of xs)
among-sites t [] i x h a = absurd (cc h)
among-sites t (y ∷ ys) zero x h a =
    among-front t (refusals_of y) (flat_map refusals_of ys) (let F : Site → Type 0 = λ z. Among t (refusals_of z) in subst F (let e : x ≡ y = cc h in e) a)
among-sites t (y ∷ ys) (suc i) x h a = among-behind t (refusals_of y) (flat_map refusals_of ys) (among-sites t ys i x h a)

-- Every refusal in a list has its cause in the package.
abbrev AllBreak : NamedPackageTree → List (Option Refusal) → Type 0
AllBreak p [] = ⊤
AllBreak p (n ∷ ns) = ((t : Refusal) → n ≡ Some t → Breaks p t) × AllBreak p ns

each-breaks : (p : NamedPackageTree) (t : Refusal) (ns : List (Option Refusal)) → AllBreak p ns → Among t ns → Breaks p t
each-breaks p t _ all (here n ns e) = all.0 t e
each-breaks p t _ all (there n ns a) = each-breaks p t ns all.1 a

all-append : (p : NamedPackageTree) (ns ms : List (Option Refusal)) → AllBreak p ns → AllBreak p ms → AllBreak p (ns ++ ms)
all-append p [] ms a b = b
all-append p (n ∷ ns) ms a b = (a.0, all-append p ns ms a.1 b)

all-sites : (p : NamedPackageTree) (xs : List Site) → ((i : ℕ) (x : Site) → slice_get xs i ≡ Some x → AllBreak p (refusals_of x)) → AllBreak p (flat_map refusals_of xs)
all-sites p [] h = tt
all-sites p (y ∷ ys) h = all-append p (refusals_of y) (flat_map refusals_of ys) (h 0 y refl) (all-sites p ys (λ i x e. h (suc i) x e))

-- What one row tells of a site has its cause.
row-breaks : (p : NamedPackageTree) (x : Site) → IsPart p x.around x.part → (row : TypeRule) → IsRule row.0 row.1 → (t : Refusal) → told row.0 (row.1 x.around x.part) ≡ Some t → Breaks p t
row-breaks p x stands row listed t h = by_judged (row.1 x.around x.part) refl h
  where
    by_judged : (judged : Option Place) → row.1 x.around x.part ≡ judged → told row.0 judged ≡ Some t → Breaks p t
    by_judged None e k = absurd (cc k)
    by_judged (Some at) e k =
        let F : Refusal → Type 0 = λ r. Breaks p r in
        subst F (let same : refused row.0 at ≡ t = cc k in same)
        (record { judge = row.1; is_rule = listed; is_wrong = record { around = x.around; part = x.part; stands = stands; wrong = e } })

rows-break : (p : NamedPackageTree) (x : Site) → IsPart p x.around x.part → (rows : List TypeRule) → ((i : ℕ) (row : TypeRule) → slice_get rows i ≡ Some row → IsRule row.0 row.1)
    → AllBreak p (map (λ row. told row.0 (row.1 x.around x.part)) rows)
rows-break p x stands [] listed = tt
rows-break p x stands (row ∷ rows) listed = (row-breaks p x stands row (listed 0 row refl), rows-break p x stands rows (λ i r e. listed (suc i) r e))

site-breaks : (p : NamedPackageTree) (x : Site) → IsPart p x.around x.part → AllBreak p (refusals_of x)
site-breaks p x stands = rows-break p x stands type_rules (λ i row e. (i, e))

-- Every cause is told.
told-somewhere : (p : NamedPackageTree) (t : Refusal) → Breaks p t → Among t (refusals p)
told-somewhere p t b =
    let w = b.is_wrong in
    let tell : TypeRule → Option Refusal = λ row. told row.0 (row.1 w.around w.part) in
    among-sites t (sites p) w.stands.0 (record { around = w.around; part = w.part }) w.stands.1
    (among-item t (refusals_at w.around w.part) b.is_rule.0
    (slice_get-map tell type_rules b.is_rule.0 ∙ ap (option_map tell) b.is_rule.1 ∙ ap (λ judged. Some (told t.rule judged)) w.wrong))

pub deciding-decides : (p : NamedPackageTree) → Decides (Breaks p) (deciding p)
unfolding deciding
deciding-decides p =
    Decides-map (λ t. ⊥ ⊎ Among t (refusals p)) (Breaks p) (deciding p)
    (λ t c. elim c [ inl none ↦ absurd none | inr a ↦ each-breaks p t (refusals p) (all-sites p (sites p) (λ i x e. site-breaks p x (i, e))) a ])
    (λ t b. inr (told-somewhere p t b)) (Decides-soonest (λ t. ⊥) None (refusals p) (λ t none. none))
