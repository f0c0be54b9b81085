-- Lists of names of which no two are alike have nothing that is declared twice.
use Rattle.std.proofs.Common.{◌≡◌, ◌⊎◌, ℕ, ◌+◌, ◌<◌, ◌≤◌, ◌&&◌, ◌||◌, Bool, true, false, not, if◌then◌else◌, List, [], ◌∷◌, ◌++◌, length, Option, nat_eq, nat_lt, nat_le, refl, inl, inr, arith}
use Rattle.std.proofs.lemmas.Bool.Decides.{nat_tests}
use Rattle.indexmap.specs.IndexSet.{insert_key}
use Rattle.wf_text.specs.Precedence.{sooner, soonest}
use Rattle.wf_text.specs.declared.rules.Refusal.{Refusal}
use Rattle.wf_text.specs.declared.rules.Rule.TheVariants.{N2}
use Rattle.wf_ast.specs.declared.parsed.Name.{Name}
use Rattle.graphs.specs.Graphs.{holds}
use Rattle.graphs.proofs.NumberLemmas.{number_self}
use Rattle.wf_names_rules.specs.Passes.{refused_if, doubles_of, rise_from, have_text, are_apart, are_plainly_apart}
use Rattle.wf_names_rules.proofs.InsertLemmas.{insert-only}

first_holds : (a b : Bool) → (a && b) ≡ true → a ≡ true
first_holds true b h = refl
first_holds false b h = absurd (cc h)

second_holds : (a b : Bool) → (a && b) ≡ true → b ≡ true
second_holds true b h = h
second_holds false b h = absurd (cc h)

either : (a b : Bool) → (a || b) ≡ true → (a ≡ true) ⊎ (b ≡ true)
either true b h = inl refl
either false b h = inr h

denied : (a : Bool) → not a ≡ true → a ≡ false
denied false h = refl
denied true h = absurd (cc h)

pub not_true : (a : Bool) → (a ≡ true → ⊥) → a ≡ false
not_true false h = refl
not_true true h = absurd (h refl)

-- A name that isn't seen yet refuses nothing.
fresh_first : (found : Option Refusal) (seen : List ℕ) (name : Name) (names : List Name) → holds seen name.text.0 ≡ false
    → soonest found (doubles_of (insert_key nat_eq seen name.text.0) names) ≡ found → soonest found (doubles_of seen (name ∷ names)) ≡ found
fresh_first found seen name names fresh rest = by (holds seen name.text.0) fresh rest
  where
    by : (b : Bool) → b ≡ false → soonest found (doubles_of (if b then seen else seen ++ name.text.0 ∷ []) names) ≡ found
        → soonest (sooner found (refused_if b N2 name.at)) (doubles_of (if b then seen else seen ++ name.text.0 ∷ []) names) ≡ found
    by false e r = r
    by true e r = absurd (cc e)

-- Of names that rise from a text on the first has none below it, and the others rise from behind its own.
pub rise-first : (low : ℕ) (name : Name) (names : List Name) → rise_from low (name ∷ names) ≡ true → (low ≤ name.text.0) × (rise_from (name.text.0 + 1) names ≡ true)
rise-first low name names h =
    let above : nat_lt name.text.0 low ≡ false = denied (nat_lt name.text.0 low) (first_holds (not (nat_lt name.text.0 low)) (rise_from (name.text.0 + 1) names) h) in
    (grind (arith, nat_tests, above), second_holds (not (nat_lt name.text.0 low)) (rise_from (name.text.0 + 1) names) h)

-- Names that rise, from a text on that is above all that are seen.
rising : (found : Option Refusal) (seen : List ℕ) (low : ℕ) (names : List Name) → ((text : ℕ) → holds seen text ≡ true → text < low) → rise_from low names ≡ true
    → soonest found (doubles_of seen names) ≡ found
rising found seen low [] below h = refl
rising found seen low (name ∷ names) below h =
    let first = rise-first low name names h in
    fresh_first found seen name names (not_true (holds seen name.text.0) (λ s. absurd (omega (arith, first.0, below name.text.0 s))))
    (rising found (insert_key nat_eq seen name.text.0) (name.text.0 + 1) names still first.1)
  where
    still : (other : ℕ) → holds (insert_key nat_eq seen name.text.0) other ≡ true → other < name.text.0 + 1
    still other s = elim (insert-only seen name.text.0 other s) [
      | inl k ↦ omega (arith, (rise-first low name names h).0, below other k)
      | inr e ↦ omega (arith, e)
    ]

-- Names of which no two are alike, and none is like one that is seen.
unlike : (text : ℕ) (names : List Name) (other : ℕ) → have_text text names ≡ false → have_text other names ≡ true → other ≡ text → ⊥
unlike text names other h k e = absurd (cc (h, k, e))

different : (found : Option Refusal) (seen : List ℕ) (names : List Name) → ((text : ℕ) → have_text text names ≡ true → holds seen text ≡ false) → are_apart names ≡ true
    → soonest found (doubles_of seen names) ≡ found
different found seen [] fresh h = refl
different found seen (name ∷ names) fresh h =
    let text = name.text.0 in
    fresh_first found seen name names (fresh text (or_left (nat_eq text text) (have_text text names) (number_self text)))
    (different found (insert_key nat_eq seen text) names still (second_holds (not (have_text text names)) (are_apart names) h))
  where
    or_left : (a b : Bool) → a ≡ true → (a || b) ≡ true
    or_left true b e = refl
    or_left false b e = absurd (cc e)

    or_right : (a b : Bool) → b ≡ true → (a || b) ≡ true
    or_right true b e = refl
    or_right false b e = e

    both : (a b : Bool) → a ≡ false → b ≡ true → a ≡ b → ⊥
    both a b x y e = absurd (cc (x, y, e))

    still : (other : ℕ) → have_text other names ≡ true → holds (insert_key nat_eq seen name.text.0) other ≡ false
    still other k =
        let none : have_text name.text.0 names ≡ false = denied (have_text name.text.0 names) (first_holds (not (have_text name.text.0 names)) (are_apart names) h) in
        not_true (holds (insert_key nat_eq seen name.text.0) other) (λ s.
        elim (insert-only seen name.text.0 other s) [
          | inl t ↦ both (holds seen other) (holds seen other) (fresh other (or_right (nat_eq other name.text.0) (have_text other names) k)) t refl
          | inr e ↦ unlike name.text.0 names other none k e
        ])

pub rise-none : (found : Option Refusal) (names : List Name) → rise_from 0 names ≡ true → soonest found (doubles_of [] names) ≡ found
rise-none found names h = rising found [] 0 names (λ text s. absurd (cc s)) h

pub apart-none : (found : Option Refusal) (names : List Name) → are_plainly_apart names ≡ true → soonest found (doubles_of [] names) ≡ found
apart-none found names h =
    elim (either (rise_from 0 names) (nat_le (length names) 8 && are_apart names) h) [
      | inl r ↦ rise-none found names r
      | inr a ↦ different found [] names (λ text k. refl) (second_holds (nat_le (length names) 8) (are_apart names) a)
    ]
