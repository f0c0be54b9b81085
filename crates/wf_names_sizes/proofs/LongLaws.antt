-- What the pass over the variables finds is what the rule says of arrays, and it keeps the first
-- of these.
use Rattle.std.proofs.Common.{◌≡◌, ◌⊎◌, ℕ, zero, suc, Bool, true, false, List, [], ◌∷◌, ◌++◌, map, Option, Some, None, slice_get, refl, sym, ap, ◌∙◌, subst, inl, inr}
use Rattle.std.specs.List.{flat_map}
use Rattle.wf_text.specs.declared.place.Place.{Place}
use Rattle.wf_text.specs.declared.rules.Refusal.{Refusal}
use Rattle.wf_text.specs.declared.rules.Rule.TheVariants.{L7}
use Rattle.wf_text.specs.Precedence.{Decides, soonest}
use Rattle.wf_text.proofs.PrecedenceLaws.{Among, here, there, Decides-map, Decides-soonest}
use Rattle.wf_names_rules.specs.Declarations.{Variable, Declared}
use Rattle.wf_names_rules.specs.Sizes.{is_too_long}
use Rattle.wf_names_rules.specs.Passes.{refused_if}
use Rattle.wf_names_rules.specs.NameRules as rules
use Rattle.wf_names_rules.specs.NameRules.{IsSizedHere, field, arg, local, SizeBreaks}
use Rattle.wf_names_sizes.specs.LongArrays.{too_long_array, struct_longs, method_longs, arrays_found, HasLongArray}

-- Where a refusal is among the finds of a list.
pub among-none : (t : Refusal) → Among t [] → ⊥
among-none t a = none-among [] refl a
  where
    none-among : (all : List (Option Refusal)) → all ≡ [] → Among t all → ⊥
    none-among _ e (here m ms p) = absurd (cc e)
    none-among _ e (there m ms p) = absurd (cc e)

pub among-cases : (t : Refusal) (now : Option Refusal) (more : List (Option Refusal)) → Among t (now ∷ more) → (now ≡ Some t) ⊎ Among t more
among-cases t now more h = among-parts (now ∷ more) now more refl h
  where
    among-parts : (all : List (Option Refusal)) (n : Option Refusal) (ns : List (Option Refusal)) → all ≡ n ∷ ns → Among t all → (n ≡ Some t) ⊎ Among t ns
    among-parts _ n ns e (here m ms p) = inl (cc (e, p))
    among-parts _ n ns e (there m ms p) = inr (let F : List (Option Refusal) → Type 0 = Among t in subst F (let tails : ms ≡ ns = cc e in tails) p)

pub among-append : (t : Refusal) (ns ms : List (Option Refusal)) → Among t (ns ++ ms) → Among t ns ⊎ Among t ms
among-append t [] ms a = inr a
among-append t (n ∷ ns) ms a = elim (among-cases t n (ns ++ ms) a) [
  | inl e ↦ inl (here n ns e)
  | inr b ↦ elim (among-append t ns ms b) [ inl p ↦ inl (there n ns p) | inr q ↦ inr q ]
]

pub among-front : (t : Refusal) (ns ms : List (Option Refusal)) → Among t ns → Among t (ns ++ ms)
among-front t _ ms (here n ns e) = here n (ns ++ ms) e
among-front t _ ms (there n ns a) = there n (ns ++ ms) (among-front t ns ms a)

pub among-behind : (t : Refusal) (ns ms : List (Option Refusal)) → Among t ms → Among t (ns ++ ms)
among-behind t [] ms a = a
among-behind t (n ∷ ns) ms a = there n (ns ++ ms) (among-behind t ns ms a)

-- Finds of a list's items.
module _ {X : Type 0} (f : X → List (Option Refusal)) (t : Refusal) where
  pub flat-cause : (xs : List X) → Among t (flat_map f xs) → (i : ℕ) × ((x : X) × ((slice_get xs i ≡ Some x) × Among t (f x)))
  flat-cause [] a = absurd (among-none t a)
  flat-cause (x ∷ xs) a = elim (among-append t (f x) (flat_map f xs) a) [
    | inl p ↦ (0, (x, (refl, p)))
    | inr q ↦ let r = flat-cause xs q in (suc r.0, (r.1.0, (r.1.1.0, r.1.1.1)))
  ]

  pub among-flat : (xs : List X) (i : ℕ) (x : X) → slice_get xs i ≡ Some x → Among t (f x) → Among t (flat_map f xs)
  among-flat [] i x h a = absurd (cc h)
  among-flat (y ∷ ys) zero x h a =
      among-front t (f y) (flat_map f ys) (let F : X → Type 0 = λ z. Among t (f z) in subst F (let e : x ≡ y = cc h in e) a)
  among-flat (y ∷ ys) (suc i) x h a = among-behind t (f y) (flat_map f ys) (among-flat ys i x h a)

module _ (g : Variable → Option Refusal) (t : Refusal) where
  pub map-cause : (vs : List Variable) → Among t (map g vs) → (i : ℕ) × ((v : Variable) × ((slice_get vs i ≡ Some v) × (g v ≡ Some t)))
  map-cause [] a = absurd (among-none t a)
  map-cause (v ∷ vs) a = elim (among-cases t (g v) (map g vs) a) [
    | inl e ↦ (0, (v, (refl, e)))
    | inr q ↦ let r = map-cause vs q in (suc r.0, (r.1.0, (r.1.1.0, r.1.1.1)))
  ]

  pub among-map : (vs : List Variable) (i : ℕ) (v : Variable) → slice_get vs i ≡ Some v → g v ≡ Some t → Among t (map g vs)
  among-map [] i v h e = absurd (cc h)
  among-map (w ∷ ws) zero v h e = here (g w) (map g ws) (let same : w ≡ v = cc h in ap g same ∙ e)
  among-map (w ∷ ws) (suc i) v h e = there (g w) (map g ws) (among-map ws i v h e)

abbrev pub refused : Place → Refusal
refused at = record { rule = L7; at = at }

pub refused-cause : (b : Bool) (at : Place) (t : Refusal) → refused_if b L7 at ≡ Some t → (b ≡ true) × (t ≡ refused at)
refused-cause true at t e = (refl, (let same : record { rule = L7; at = at } ≡ t = cc e in sym same))
refused-cause false at t e = absurd (cc e)

-- What is found breaks the rule.
item-breaks : (d : Declared) (locals : List Variable) (v : Variable) (t : Refusal) → IsSizedHere d locals v → too_long_array d locals v ≡ Some t → HasLongArray d t
item-breaks d locals v t h e =
    let r = refused-cause (is_too_long d locals v.of) v.name.at t e in
    record { locals = locals; variable = v; here = h; long = r.0; refused = r.1 }

pub struct-breaks : (d : Declared) (t : Refusal) → Among t (flat_map (struct_longs d) d.structs) → HasLongArray d t
struct-breaks d t a =
    let s = flat-cause (struct_longs d) t d.structs a in
    let v = map-cause (too_long_array d []) t s.1.0.fields s.1.1.1 in
    item-breaks d [] v.1.0 t (field s.1.0 v.0 v.1.0 (s.0, s.1.1.0) v.1.1.0) v.1.1.1

pub method-breaks : (d : Declared) (t : Refusal) → Among t (flat_map (method_longs d) d.methods) → HasLongArray d t
method-breaks d t a =
    let m = flat-cause (method_longs d) t d.methods a in
    elim (among-append t (map (too_long_array d m.1.0.locals) m.1.0.args) (map (too_long_array d m.1.0.locals) m.1.0.locals) m.1.1.1) [
      | inl p ↦ let v = map-cause (too_long_array d m.1.0.locals) t m.1.0.args p in item-breaks d m.1.0.locals v.1.0 t (arg m.1.0 v.0 v.1.0 (m.0, m.1.1.0) v.1.1.0) v.1.1.1
      | inr q ↦ let v = map-cause (too_long_array d m.1.0.locals) t m.1.0.locals q in item-breaks d m.1.0.locals v.1.0 t (local m.1.0 v.0 v.1.0 (m.0, m.1.1.0) v.1.1.0) v.1.1.1
    ]

-- What breaks the rule is found.
item-found : (d : Declared) (locals : List Variable) (v : Variable) → is_too_long d locals v.of ≡ true → too_long_array d locals v ≡ Some (record { rule = L7; at = v.name.at })
item-found d locals v h = ap (λ b. refused_if b L7 v.name.at) h

here-found : (d : Declared) (locals : List Variable) (v : Variable) → IsSizedHere d locals v → is_too_long d locals v.of ≡ true
    → Among (record { rule = L7; at = v.name.at }) (flat_map (struct_longs d) d.structs) ⊎ Among (record { rule = L7; at = v.name.at }) (flat_map (method_longs d) d.methods)
here-found d _ _ (field s i v is e) h =
    inl (among-flat (struct_longs d) _ d.structs is.0 s is.1 (among-map (too_long_array d []) _ s.fields i v e (item-found d [] v h)))
here-found d _ _ (arg m i v is e) h =
    inr (among-flat (method_longs d) _ d.methods is.0 m is.1 (among-front _ (map (too_long_array d m.locals) m.args) (map (too_long_array d m.locals) m.locals) (among-map (too_long_array d m.locals) _ m.args i v e (item-found d m.locals v h))))
here-found d _ _ (local m i v is e) h =
    inr (among-flat (method_longs d) _ d.methods is.0 m is.1 (among-behind _ (map (too_long_array d m.locals) m.args) (map (too_long_array d m.locals) m.locals) (among-map (too_long_array d m.locals) _ m.locals i v e (item-found d m.locals v h))))

pub found-break : (d : Declared) (t : Refusal) → HasLongArray d t → Among t (flat_map (struct_longs d) d.structs) ⊎ Among t (flat_map (method_longs d) d.methods)
found-break d t h =
    let P : Refusal → Type 0 = λ s. Among s (flat_map (struct_longs d) d.structs) ⊎ Among s (flat_map (method_longs d) d.methods) in
    subst P (sym h.refused) (here-found d h.locals h.variable h.here h.long)

-- The first refusal of what was known and the arrays that are too long.
pub arrays-decide-behind : (d : Declared) (P : Refusal → Type 0) (found : Option Refusal) → Decides P found → Decides (λ s. P s ⊎ HasLongArray d s) (arrays_found d found)
arrays-decide-behind d P found h =
    let xs = flat_map (struct_longs d) d.structs in
    let ys = flat_map (method_longs d) d.methods in
    Decides-map (λ t. (P t ⊎ Among t xs) ⊎ Among t ys) (λ s. P s ⊎ HasLongArray d s) (arrays_found d found)
    (λ t c. elim c [ inl p ↦ elim p [ inl k ↦ inl k | inr a ↦ inr (struct-breaks d t a) ] | inr b ↦ inr (method-breaks d t b) ])
    (λ t c. elim c [ inl k ↦ inl (inl k) | inr b ↦ elim (found-break d t b) [ inl a ↦ inl (inr a) | inr a ↦ inr a ] ])
    (Decides-soonest (λ t. P t ⊎ Among t xs) (soonest found xs) ys (Decides-soonest P found xs h))

-- The first refusal of the arrays that are too long.
pub arrays-decide : (d : Declared) → Decides (HasLongArray d) (arrays_found d None)
arrays-decide d =
    Decides-map (λ s. ⊥ ⊎ HasLongArray d s) (HasLongArray d) (arrays_found d None) (λ t c. elim c [ inl k ↦ absurd k | inr b ↦ b ]) (λ t b. inr b)
    (arrays-decide-behind d (λ t. ⊥) None (λ t k. k))

-- It breaks the table's rule.
pub array-breaks : (d : Declared) (s : Refusal) → HasLongArray d s → SizeBreaks d s
array-breaks d s h = let P : Refusal → Type 0 = SizeBreaks d in subst P (sym h.refused) (rules.too_long_array h.locals h.variable h.here h.long)
