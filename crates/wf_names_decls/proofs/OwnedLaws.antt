-- Methods of a struct that are declared twice: one pass over all methods finds those of each struct.
use Rattle.std.proofs.Common.{◌≡◌, ◌⊎◌, ℕ, zero, suc, ◌<◌, ◌||◌, Bool, true, false, if◌then◌else◌, List, [], ◌∷◌, ◌++◌, map, Option, Some, slice_get, nat_eq, refl, sym, ap, ◌∙◌, subst, inl, inr, arith}
use Rattle.std.specs.List.{list_any}
use Rattle.std.proofs.lemmas.Bool.Decides.{nat_tests}
use Rattle.std.proofs.lemmas.List.Folds.{list_any-append}
use Rattle.indexmap.specs.IndexSet.{insert_key}
use Rattle.wf_text.specs.declared.rules.Rule.TheVariants.{N2}
use Rattle.wf_text.specs.declared.rules.Refusal.{Refusal}
use Rattle.wf_ast.specs.declared.numbers.TextId.{TextId}
use Rattle.wf_ast.specs.declared.parsed.Name.{Name}
use Rattle.wf_names_rules.specs.Declarations.{Method, is_spelt}
use Rattle.wf_names_rules.specs.Passes.{refused_if}
use Rattle.wf_names_rules.specs.Pairs.{Pair, same_pair}
use Rattle.wf_names_rules.specs.NameRules.{twice, names_owned}
use Rattle.wf_names_rules.specs.Found.{Finds, RepeatsName}
use Rattle.wf_names_decls.specs.DeclarationPass.{pair_of, declared_twice_in_struct}
use Rattle.wf_names_decls.proofs.PassLaws.{refused-cause}

-- Pairs in a list.
has : List Pair → Pair → Bool
has ps p = list_any (same_pair p) ps

pub pair-self : (p : Pair) → same_pair p p ≡ true
pair-self p = grind (arith, nat_tests)

pair-parts : (p q : Pair) → same_pair p q ≡ true → (p.0 ≡ q.0) × (p.1 ≡ q.1)
pair-parts p q h = (grind (arith, nat_tests, h), grind (arith, nat_tests, h))

either : (x y : Bool) → (x || y) ≡ true → (x ≡ true) ⊎ (y ≡ true)
either true y h = inl refl
either false y h = inr h

left : (x y : Bool) → x ≡ true → (x || y) ≡ true
left x y h = ap (λ t. t || y) h

right : (x y : Bool) → y ≡ true → (x || y) ≡ true
right true y h = refl
right false y h = h

or_false : (t : Bool) → (t || false) ≡ t
or_false true = refl
or_false false = refl

has-pushed : (ps : List Pair) (p q : Pair) → has (ps ++ p ∷ []) q ≡ (has ps q || same_pair q p)
unfolding has
has-pushed ps p q = list_any-append (same_pair q) ps (p ∷ []) ∙ ap (λ t. list_any (same_pair q) ps || t) (or_false (same_pair q p))

keeps-if : (t : Bool) (ps : List Pair) (p q : Pair) → has ps q ≡ true → has (if t then ps else ps ++ p ∷ []) q ≡ true
keeps-if true ps p q h = h
keeps-if false ps p q h = has-pushed ps p q ∙ left (has ps q) (same_pair q p) h

has-if : (t : Bool) (ps : List Pair) (p : Pair) → has ps p ≡ t → has (if t then ps else ps ++ p ∷ []) p ≡ true
has-if true ps p h = h
has-if false ps p h = has-pushed ps p p ∙ right (has ps p) (same_pair p p) (pair-self p)

only-if : (t : Bool) (ps : List Pair) (p q : Pair) → has (if t then ps else ps ++ p ∷ []) q ≡ true → (has ps q ≡ true) ⊎ (same_pair q p ≡ true)
only-if true ps p q h = inl h
only-if false ps p q h = either (has ps q) (same_pair q p) (sym (has-pushed ps p q) ∙ h)

insert-keeps : (ps : List Pair) (p q : Pair) → has ps q ≡ true → has (insert_key same_pair ps p) q ≡ true
unfolding has
insert-keeps ps p q h = keeps-if (list_any (same_pair p) ps) ps p q h

insert-has : (ps : List Pair) (p : Pair) → has (insert_key same_pair ps p) p ≡ true
unfolding has
insert-has ps p = has-if (list_any (same_pair p) ps) ps p refl

insert-only : (ps : List Pair) (p q : Pair) → has (insert_key same_pair ps p) q ≡ true → (has ps q ≡ true) ⊎ (same_pair q p ≡ true)
unfolding has
insert-only ps p q h = only-if (list_any (same_pair p) ps) ps p q h

-- The same, where what a list has is written out.
pub pair-keeps : (ps : List Pair) (p q : Pair) → list_any (same_pair q) ps ≡ true → list_any (same_pair q) (insert_key same_pair ps p) ≡ true
unfolding has
pair-keeps ps p q h = insert-keeps ps p q h

pub pair-has : (ps : List Pair) (p : Pair) → list_any (same_pair p) (insert_key same_pair ps p) ≡ true
unfolding has
pair-has ps p = insert-has ps p

pub pair-only : (ps : List Pair) (p q : Pair) → list_any (same_pair q) (insert_key same_pair ps p) ≡ true → (list_any (same_pair q) ps ≡ true) ⊎ (same_pair q p ≡ true)
unfolding has
pair-only ps p q h = insert-only ps p q h

abbrev key_of : Method → Pair
key_of m = pair_of m.owner m.name

abbrev repeats_in : List Pair → List Method → List (Option Refusal)
repeats_in seen ms = declared_twice_in_struct seen (map (λ m. m.owner) ms) (map (λ m. m.name) ms)

-- Two methods of one struct and of one name; `later` is the name of the second one.
record Two (ms : List Method) (j : ℕ) (b : Method) : Type 0 where
  i : ℕ
  a : Method
  below : i < j
  is : slice_get ms i ≡ Some a
  owner : a.owner.text.0 ≡ b.owner.text.0
  same : a.name.text.0 ≡ b.name.text.0

seen-found : (seen : List Pair) (ms : List Method) (j : ℕ) (b : Method) → slice_get ms j ≡ Some b → has seen (key_of b) ≡ true
    → slice_get (repeats_in seen ms) j ≡ Some (Some (twice b.name))
unfolding has
seen-found seen [] j b e h = absurd (cc e)
seen-found seen (m ∷ ms) zero b e h =
    let same : m ≡ b = cc e in
    let P : Method → Type 0 = λ x. Some (refused_if (list_any (same_pair (key_of x)) seen) N2 x.name.at) ≡ Some (Some (twice b.name)) in
    subst P (sym same) (ap (λ t. Some (refused_if t N2 b.name.at)) h)
seen-found seen (m ∷ ms) (suc j) b e h = seen-found (insert_key same_pair seen (key_of m)) ms j b e (insert-keeps seen (key_of m) (key_of b) h)

two-found : (seen : List Pair) (ms : List Method) (i j : ℕ) (a b : Method) → i < j → slice_get ms i ≡ Some a → slice_get ms j ≡ Some b
    → key_of a ≡ key_of b → slice_get (repeats_in seen ms) j ≡ Some (Some (twice b.name))
two-found seen [] i j a b l e f t = absurd (cc e)
two-found seen (m ∷ ms) i zero a b l e f t = absurd (omega (arith, l))
two-found seen (m ∷ ms) zero (suc j) a b l e f t =
    let same : m ≡ a = cc e in
    let pairs : key_of m ≡ key_of b = ap key_of same ∙ t in
    let P : Pair → Type 0 = λ x. has (insert_key same_pair seen (key_of m)) x ≡ true in
    seen-found (insert_key same_pair seen (key_of m)) ms j b f (subst P pairs (insert-has seen (key_of m)))
two-found seen (m ∷ ms) (suc i) (suc j) a b l e f t = two-found (insert_key same_pair seen (key_of m)) ms i j a b (omega (arith, l)) e f t

record Cause (seen : List Pair) (ms : List Method) (j : ℕ) (s : Refusal) : Type 0 where
  b : Method
  at : slice_get ms j ≡ Some b
  is : s ≡ twice b.name
  earlier : (has seen (key_of b) ≡ true) ⊎ Two ms j b

inner : (x y : Option Refusal) → Some x ≡ Some y → x ≡ y
inner x y e = cc e

double-cause : (seen : List Pair) (ms : List Method) (j : ℕ) (s : Refusal) → slice_get (repeats_in seen ms) j ≡ Some (Some s) → Cause seen ms j s
unfolding has
double-cause seen [] j s e = absurd (cc e)
double-cause seen (m ∷ ms) zero s e =
    let t = list_any (same_pair (key_of m)) seen in
    let r = refused-cause t N2 m.name.at s (inner (refused_if t N2 m.name.at) (Some s) e) in
    record { b = m; at = refl; is = r.1; earlier = inl r.0 }
double-cause seen (m ∷ ms) (suc j) s e =
    let r = double-cause (insert_key same_pair seen (key_of m)) ms j s e in
    record { b = r.b; at = r.at; is = r.is; earlier = earlier_in r.b r.earlier }
  where
    earlier_in : (b : Method) → (has (insert_key same_pair seen (key_of m)) (key_of b) ≡ true) ⊎ Two ms j b → (has seen (key_of b) ≡ true) ⊎ Two (m ∷ ms) (suc j) b
    earlier_in b (inl p) = elim (insert-only seen (key_of m) (key_of b) p) [
      | inl k ↦ inl k
      | inr t ↦ let parts = pair-parts (key_of b) (key_of m) t in inr (record { i = 0; a = m; below = omega arith; is = refl; owner = sym parts.0; same = sym parts.1 })
    ]
    earlier_in b (inr q) = inr (record { i = suc q.i; a = q.a; below = omega (arith, q.below); is = q.is; owner = q.owner; same = q.same })

-- Two names of a list, in order.
record InOrder (names : List Name) (a b : Name) : Type 0 where
  first : ℕ
  second : ℕ
  order : first < second
  at_first : slice_get names first ≡ Some a
  at_second : slice_get names second ≡ Some b

shift : (c : Bool) (n : Name) (rest : List Name) (b : Name) → (k : ℕ) × (slice_get rest k ≡ Some b) → (k : ℕ) × (slice_get (if c then n ∷ rest else rest) k ≡ Some b)
shift true n rest b f = (suc f.0, f.1)
shift false n rest b f = f

place-into : (o : ℕ) (ms : List Method) (j : ℕ) (b : Method) → slice_get ms j ≡ Some b → is_spelt o b.owner ≡ true → (k : ℕ) × (slice_get (names_owned o ms) k ≡ Some b.name)
place-into o [] j b e t = absurd (cc e)
place-into o (m ∷ ms) zero b e t =
    let same : m ≡ b = cc e in
    let spelt : is_spelt o m.owner ≡ true = ap (λ (x : Method). is_spelt o x.owner) same ∙ t in
    (0, ap (λ c. slice_get (if c then m.name ∷ names_owned o ms else names_owned o ms) 0) spelt ∙ ap (λ (x : Method). Some x.name) same)
place-into o (m ∷ ms) (suc j) b e t = shift (is_spelt o m.owner) m.name (names_owned o ms) b.name (place-into o ms j b e t)

shift-two : (c : Bool) (n : Name) (rest : List Name) (a b : Name) → InOrder rest a b → InOrder (if c then n ∷ rest else rest) a b
shift-two true n rest a b h = record { first = suc h.first; second = suc h.second; order = omega (arith, h.order); at_first = h.at_first; at_second = h.at_second }
shift-two false n rest a b h = h

two-into : (o : ℕ) (ms : List Method) (i j : ℕ) (a b : Method) → i < j → slice_get ms i ≡ Some a → slice_get ms j ≡ Some b → is_spelt o a.owner ≡ true → is_spelt o b.owner ≡ true
    → InOrder (names_owned o ms) a.name b.name
two-into o [] i j a b l e f t u = absurd (cc e)
two-into o (m ∷ ms) i zero a b l e f t u = absurd (omega (arith, l))
two-into o (m ∷ ms) zero (suc j) a b l e f t u =
    let same : m ≡ a = cc e in
    let spelt : is_spelt o m.owner ≡ true = ap (λ (x : Method). is_spelt o x.owner) same ∙ t in
    let r = place-into o ms j b f u in
    let P : Bool → Type 0 = λ c. InOrder (if c then m.name ∷ names_owned o ms else names_owned o ms) a.name b.name in
    subst P (sym spelt) (record { first = 0; second = suc r.0; order = omega arith; at_first = ap (λ (x : Method). Some x.name) same; at_second = r.1 })
two-into o (m ∷ ms) (suc i) (suc j) a b l e f t u = shift-two (is_spelt o m.owner) m.name (names_owned o ms) a.name b.name (two-into o ms i j a b (omega (arith, l)) e f t u)

-- Where a name of one struct's methods comes from, and where two do.
record From (o : ℕ) (ms : List Method) (x : Name) : Type 0 where
  j : ℕ
  b : Method
  is : slice_get ms j ≡ Some b
  spelt : is_spelt o b.owner ≡ true
  same : b.name ≡ x

record FromTwo (o : ℕ) (ms : List Method) (x y : Name) : Type 0 where
  i : ℕ
  j : ℕ
  a : Method
  b : Method
  order : i < j
  is_a : slice_get ms i ≡ Some a
  is_b : slice_get ms j ≡ Some b
  spelt_a : is_spelt o a.owner ≡ true
  spelt_b : is_spelt o b.owner ≡ true
  same_a : a.name ≡ x
  same_b : b.name ≡ y

from-behind : (o : ℕ) (m : Method) (ms : List Method) (x : Name) → From o ms x → From o (m ∷ ms) x
from-behind o m ms x h = record { j = suc h.j; b = h.b; is = h.is; spelt = h.spelt; same = h.same }

two-behind : (o : ℕ) (m : Method) (ms : List Method) (x y : Name) → FromTwo o ms x y → FromTwo o (m ∷ ms) x y
two-behind o m ms x y h = record {
  i = suc h.i;
  j = suc h.j;
  a = h.a;
  b = h.b;
  order = omega (arith, h.order);
  is_a = h.is_a;
  is_b = h.is_b;
  spelt_a = h.spelt_a;
  spelt_b = h.spelt_b;
  same_a = h.same_a;
  same_b = h.same_b;
}

from-step : (o : ℕ) (m : Method) (ms : List Method) (rest : List Name) → ((k : ℕ) (x : Name) → slice_get rest k ≡ Some x → From o ms x)
    → (c : Bool) → is_spelt o m.owner ≡ c → (k : ℕ) (x : Name) → slice_get (if c then m.name ∷ rest else rest) k ≡ Some x → From o (m ∷ ms) x
from-step o m ms rest more true t zero x e = record { j = 0; b = m; is = refl; spelt = t; same = cc e }
from-step o m ms rest more true t (suc k) x e = from-behind o m ms x (more k x e)
from-step o m ms rest more false t k x e = from-behind o m ms x (more k x e)

from-names : (o : ℕ) (ms : List Method) (k : ℕ) (x : Name) → slice_get (names_owned o ms) k ≡ Some x → From o ms x
from-names o [] k x e = absurd (cc e)
from-names o (m ∷ ms) k x e = from-step o m ms (names_owned o ms) (from-names o ms) (is_spelt o m.owner) refl k x e

two-step : (o : ℕ) (m : Method) (ms : List Method) (rest : List Name) → ((k : ℕ) (x : Name) → slice_get rest k ≡ Some x → From o ms x)
    → ((p q : ℕ) (x y : Name) → p < q → slice_get rest p ≡ Some x → slice_get rest q ≡ Some y → FromTwo o ms x y)
    → (c : Bool) → is_spelt o m.owner ≡ c → (p q : ℕ) (x y : Name) → p < q → slice_get (if c then m.name ∷ rest else rest) p ≡ Some x
    → slice_get (if c then m.name ∷ rest else rest) q ≡ Some y → FromTwo o (m ∷ ms) x y
two-step o m ms rest one two true t p zero x y l e f = absurd (omega (arith, l))
two-step o m ms rest one two true t zero (suc q) x y l e f =
    let r = one q y f in
    record {
      i = 0;
      j = suc r.j;
      a = m;
      b = r.b;
      order = omega arith;
      is_a = refl;
      is_b = r.is;
      spelt_a = t;
      spelt_b = r.spelt;
      same_a = cc e;
      same_b = r.same;
    }
two-step o m ms rest one two true t (suc p) (suc q) x y l e f = two-behind o m ms x y (two p q x y (omega (arith, l)) e f)
two-step o m ms rest one two false t p q x y l e f = two-behind o m ms x y (two p q x y l e f)

two-names : (o : ℕ) (ms : List Method) (p q : ℕ) (x y : Name) → p < q → slice_get (names_owned o ms) p ≡ Some x → slice_get (names_owned o ms) q ≡ Some y → FromTwo o ms x y
two-names o [] p q x y l e f = absurd (cc e)
two-names o (m ∷ ms) p q x y l e f = two-step o m ms (names_owned o ms) (from-names o ms) (two-names o ms) (is_spelt o m.owner) refl p q x y l e f

number-same : (a b : ℕ) → nat_eq a b ≡ true → a ≡ b
number-same a b h = grind (arith, nat_tests, h)

number-self : (a : ℕ) → nat_eq a a ≡ true
number-self a = grind (arith, nat_tests)

text-same : (a b : TextId) → a.0 ≡ b.0 → a ≡ b
text-same a b e = let made : ℕ → TextId = λ x. record { 0 = x } in ap made e

-- A name that an earlier method of its struct has.
pub record RepeatsOwned (ms : List Method) (s : Refusal) : Type 0 where
  pub owner : ℕ
  pub repeats : RepeatsName (names_owned owner ms) s

pub owned-sound : (ms : List Method) (s : Refusal) → Finds (declared_twice_in_struct [] (map (λ m. m.owner) ms) (map (λ m. m.name) ms)) s → RepeatsOwned ms s
unfolding has
owned-sound ms s f =
    let r = double-cause [] ms f.0 s f.1 in
    elim r.earlier [
      | inl p ↦ absurd (cc p)
      | inr q ↦
          let o = r.b.owner.text.0 in
          let here : nat_eq q.a.owner.text.0 o ≡ true = ap (λ x. nat_eq x o) q.owner ∙ number-self o in
          let h = two-into o ms q.i f.0 q.a r.b q.below q.is r.at here (number-self o) in
          record {
            owner = o;
            repeats = (
              r.b.name,
              (
                record { first = h.first; second = h.second; earlier = q.a.name; order = h.order; at_first = h.at_first; at_second = h.at_second; same = text-same q.a.name.text r.b.name.text q.same },
                r.is,
              ),
            );
          }
    ]

pub owned-complete : (ms : List Method) (s : Refusal) → RepeatsOwned ms s → Finds (declared_twice_in_struct [] (map (λ m. m.owner) ms) (map (λ m. m.name) ms)) s
owned-complete ms s h =
    let o = h.owner in
    let back = h.repeats in
    let k = back.1.0 in
    let two = two-names o ms k.first k.second k.earlier back.0 k.order k.at_first k.at_second in
    let texts : two.a.name.text.0 ≡ two.b.name.text.0 = ap (λ (n : Name). n.text.0) two.same_a ∙ ap (λ (x : TextId). x.0) k.same ∙ sym (ap (λ (n : Name). n.text.0) two.same_b) in
    let owners : two.a.owner.text.0 ≡ two.b.owner.text.0 = number-same two.a.owner.text.0 o two.spelt_a ∙ sym (number-same two.b.owner.text.0 o two.spelt_b) in
    let pair : ℕ → ℕ → Pair = λ x y. (x, y) in
    let pairs : key_of two.a ≡ key_of two.b = ap (λ x. pair x two.a.name.text.0) owners ∙ ap (λ y. pair two.b.owner.text.0 y) texts in (
      two.j,
      two-found [] ms two.i two.j two.a two.b two.order two.is_a two.is_b pairs
          ∙ ap (λ (n : Name). Some (Some (twice n))) two.same_b ∙ ap (λ x. Some (Some x)) (sym back.1.1),
    )
