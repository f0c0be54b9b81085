-- Sets of pairs, which grow by a pair at a time.
use Rattle.std.proofs.Common.{◌≡◌, ◌⊎◌, ℕ, ◌+◌, ◌<◌, ◌≤◌, min, Bool, true, false, not, cond, if◌then◌else◌, List, [], ◌∷◌, ◌++◌, length, drop, slice_index_or, Option, refl, sym, ap, ◌∙◌, subst, inl, inr, arith}
use Rattle.std.specs.List.{list_any}
use Rattle.std.specs.Ordering.{is_eq}
use Rattle.indexmap.specs.IndexSet.{insert_key}
use Rattle.wf_text.specs.declared.rules.Rule.TheVariants.{N2}
use Rattle.wf_text.specs.declared.rules.Refusal.{Refusal}
use Rattle.wf_text.specs.Precedence.{sooner, soonest}
use Rattle.wf_ast.specs.declared.parsed.Name.{Name}
use Rattle.wf_names_rules.specs.Passes.{refused_if, rise_from}
use Rattle.wf_names_rules.specs.Pairs.{Pair, same_pair, pair_cmp}
use Rattle.wf_names_rules.proofs.ApartLemmas.{rise-first, not_true}
use Rattle.wf_names_rules.proofs.PairLemmas.{pair_ties, alike}
use Rattle.wf_names_rules.proofs.WalkLemmas.{drop-one}
use Rattle.wf_names_decls.specs.DeclarationPass.{pair_of, declared_twice_in_struct}
use Rattle.wf_names_decls.proofs.DeclSteps.{drop-over}
use Rattle.wf_names_decls.proofs.OwnedLaws.{pair-self, pair-keeps, pair-has, pair-only}

-- A set that has the pairs of a list has those of the list with one more after it is put.
pub set-more : (old new : Pair → Bool) (ps : List Pair) (key : Pair) → ((p : Pair) → old p ≡ list_any (same_pair p) ps)
    → ((p : Pair) → new p ≡ cond (is_eq (pair_cmp key p)) true (old p)) → (p : Pair) → new p ≡ list_any (same_pair p) (insert_key same_pair ps key)
set-more old new ps key has put p = put p ∙ ap (λ b. cond b true (old p)) (pair_ties key p) ∙ by_test (same_pair key p) refl
  where
    all : List Pair
    all = insert_key same_pair ps key

    by_old : (b : Bool) → list_any (same_pair p) ps ≡ b → same_pair key p ≡ false → b ≡ list_any (same_pair p) all
    by_old true h f = sym (pair-keeps ps key p h)
    by_old false h f = by_new (list_any (same_pair p) all) refl
      where
        by_new : (b : Bool) → list_any (same_pair p) all ≡ b → false ≡ b
        by_new false e = refl
        by_new true e = elim (pair-only ps key p e) [
          | inl k ↦ absurd (cc (h, k))
          | inr t ↦ (let same : p ≡ key = alike p key t in
              let other : same_pair key p ≡ true = subst (λ (q : Pair). same_pair key q ≡ true) (sym same) (pair-self key) in
              absurd (cc (f, other)))
        ]

    by_test : (b : Bool) → same_pair key p ≡ b → cond b true (old p) ≡ list_any (same_pair p) all
    by_test true e = let same : key ≡ p = alike key p e in subst (λ (q : Pair). true ≡ list_any (same_pair q) all) same (sym (pair-has ps key))
    by_test false e = has p ∙ by_old (list_any (same_pair p) ps) refl e

-- One more method of a pass that looks for those that are declared twice: the set has the pairs before it, `fresh` tells that its
-- own isn't among them, and `next` is the first refusal after it.
pub pass-step : (old new : Pair → Bool) (found next item : Option Refusal) (ps : List Pair) (owners names : List Name) (i : ℕ) (owner name : Name) (fresh : Bool) (r : Option Refusal)
    → i < length owners → i < length names → owner ≡ slice_index_or owners i owner → name ≡ slice_index_or names i name
    → ((p : Pair) → old p ≡ list_any (same_pair p) ps) → ((p : Pair) → new p ≡ cond (is_eq (pair_cmp (pair_of owner name) p)) true (old p))
    → fresh ≡ not (old (pair_of owner name)) → ((seen : Bool) → fresh ≡ not seen → item ≡ refused_if seen N2 name.at) → next ≡ sooner found item
    → soonest found (declared_twice_in_struct ps (drop i owners) (drop i names)) ≡ r
    → (qs : List Pair) × ((p : Pair) → new p ≡ list_any (same_pair p) qs) × (soonest next (declared_twice_in_struct qs (drop (i + 1) owners) (drop (i + 1) names)) ≡ r)
pass-step old new found next item ps owners names i owner name fresh r h k owner_is name_is has put added judged joined all =
    let key : Pair = pair_of owner name in
    let rest = declared_twice_in_struct (insert_key same_pair ps key) (drop (i + 1) owners) (drop (i + 1) names) in
    let is : item ≡ refused_if (list_any (same_pair key) ps) N2 name.at = judged (list_any (same_pair key) ps) (added ∙ ap not (has key)) in
    let some_owner : drop i owners ≡ owner ∷ drop (i + 1) owners = drop-one owners i owner h ∙ ap (λ x. x ∷ drop (i + 1) owners) (sym owner_is) in
    let some_name : drop i names ≡ name ∷ drop (i + 1) names = drop-one names i name k ∙ ap (λ x. x ∷ drop (i + 1) names) (sym name_is) in (
      insert_key same_pair ps key,
      set-more old new ps key has put,
      ap (λ o. soonest o rest) (joined ∙ ap (sooner found) is)
          ∙ sym (ap (λ xs. soonest found (declared_twice_in_struct ps xs (drop i names))) some_owner ∙ ap (λ xs. soonest found (declared_twice_in_struct ps (owner ∷ drop (i + 1) owners) xs)) some_name) ∙ all,
    )

-- Methods of which the names rise, from a text on that is above all that are seen: none of their pairs is seen before.
pub rising-pairs : (found : Option Refusal) (seen : List Pair) (low : ℕ) (owners names : List Name) → ((p : Pair) → list_any (same_pair p) seen ≡ true → p.1 < low)
    → rise_from low names ≡ true → soonest found (declared_twice_in_struct seen owners names) ≡ found
rising-pairs found seen low [] names below h = refl
rising-pairs found seen low (owner ∷ owners) [] below h = refl
rising-pairs found seen low (owner ∷ owners) (name ∷ names) below h =
    let first = rise-first low name names h in
    let fresh : list_any (same_pair key) seen ≡ false = not_true (list_any (same_pair key) seen) (λ s. absurd (omega (arith, first.0, below key s))) in
    by (list_any (same_pair key) seen) fresh (rising-pairs found (insert_key same_pair seen key) (name.text.0 + 1) owners names still first.1)
  where
    key : Pair
    key = pair_of owner name

    still : (p : Pair) → list_any (same_pair p) (insert_key same_pair seen key) ≡ true → p.1 < name.text.0 + 1
    still p s = elim (pair-only seen key p s) [
      | inl k ↦ omega (arith, (rise-first low name names h).0, below p k)
      | inr t ↦ (let same : p.1 ≡ name.text.0 = ap (λ (q : Pair). q.1) (alike p key t) in omega (arith, same))
    ]

    by : (b : Bool) → b ≡ false → soonest found (declared_twice_in_struct (if b then seen else seen ++ key ∷ []) owners names) ≡ found
        → soonest (sooner found (refused_if b N2 name.at)) (declared_twice_in_struct (if b then seen else seen ++ key ∷ []) owners names) ≡ found
    by false e r = r
    by true e r = absurd (cc e)

-- After the last method.
no-name : (ps : List Pair) (owners : List Name) → declared_twice_in_struct ps owners [] ≡ []
no-name ps [] = refl
no-name ps (owner ∷ owners) = refl

pub pass-end : (ps : List Pair) (owners names : List Name) (i : ℕ) → i ≡ min (length owners) (length names) → declared_twice_in_struct ps (drop i owners) (drop i names) ≡ []
pass-end ps owners names i h =
    elim (short (length owners) (length names) h) [
      | inl l ↦ ap (λ xs. declared_twice_in_struct ps xs (drop i names)) (drop-over owners i l)
      | inr l ↦ ap (declared_twice_in_struct ps (drop i owners)) (drop-over names i l) ∙ no-name ps (drop i owners)
    ]
  where
    short : (a b : ℕ) → i ≡ min a b → (a ≤ i) ⊎ (b ≤ i)
    short a b e = grind (arith, e)
