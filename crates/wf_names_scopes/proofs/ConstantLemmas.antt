-- Constants of which only the first are known: a look-up in the table of all of them finds what it finds among these.
use Rattle.std.proofs.Common.{◌≡◌, ℕ, ◌+◌, ◌<◌, ◌≤◌, Bool, true, false, cond, List, [], ◌∷◌, ◌++◌, map, length, Option, Some, None, option_map, refl, sym, ap, ◌∙◌, length-append, lt-ltb, le-ltb, arith}
use Rattle.std.specs.List.{find, position_from}
use Rattle.wf_names_rules.specs.declared.sorts.Sort.{Sort}
use Rattle.wf_names_rules.specs.declared.tables.Entry.{Entry}
use Rattle.wf_names_rules.specs.declared.tables.Scope.{Scope as ScopeTables}
use Rattle.wf_names_rules.specs.Declarations.{Variable, Declared, as_variable, bytes_of, is_spelt, place_in}
use Rattle.wf_names_rules.specs.Meanings.{sort_of}
use Rattle.wf_names_rules.specs.Tables.{constant_in, entry_sort, entry_place}
use Rattle.wf_names_rules.specs.Uses.{constant_scope}
use Rattle.wf_names_scopes.specs.Agreeing.{AreFirstConstants, IsInside, TellsScope, sort_among}

-- The first that passes has no lower number than where the count begins.
place_least : {X : Type 0} (p : X → Bool) (i n : ℕ) (xs : List X) → Some n ≡ position_from p i xs → i ≤ n
place_least p i n [] e = absurd (cc e)
place_least p i n (x ∷ xs) e = by (p x) e (λ r. place_least p (i + 1) n xs r)
  where
    by : (b : Bool) → Some n ≡ cond b (Some i) (position_from p (i + 1) xs) → (Some n ≡ position_from p (i + 1) xs → i + 1 ≤ n) → i ≤ n
    by true same later = let at : n ≡ i = cc same in omega (arith, at)
    by false same later = let after = later same in omega (arith, after)

passed : (known : ℕ) (e : Entry) → known ≤ e.place → constant_in known (Some e) ≡ None
passed known e h = rw (le-ltb e.place known h) refl

kept : (known : ℕ) (e : Entry) → e.place < known → constant_in known (Some e) ≡ Some e
kept known e h = rw (lt-ltb e.place known h) refl

module _ {X : Type 0} (p : X → Bool) (sort : X → Sort) where
  behind : (i : ℕ) (xs : List X) (o : Option Entry) → entry_place o ≡ position_from p i xs → constant_in i o ≡ None
  behind i xs None e = refl
  behind i xs (Some entry) e = passed i entry (place_least p i entry.place xs e)

  in_front : (i : ℕ) (front left : List X) (o : Option Entry) → entry_place o ≡ position_from p i (front ++ left) → entry_sort o ≡ option_map sort (find p (front ++ left))
      → (entry_place (constant_in (i + length front) o) ≡ position_from p i front) × (entry_sort (constant_in (i + length front) o) ≡ option_map sort (find p front))
  in_front i [] left o place sorted =
      let none : constant_in (i + 0) o ≡ None = let same : i + 0 ≡ i = omega arith in ap (λ n. constant_in n o) same ∙ behind i left o place in
      (ap entry_place none, ap entry_sort none)
  in_front i (x ∷ xs) left o place sorted = by (p x) o place sorted (λ placed found. in_front (i + 1) xs left o placed found)
    where
      next : (i + 1) + length xs ≡ i + length (x ∷ xs)
      next = omega arith

      by : (b : Bool) (o : Option Entry) → entry_place o ≡ cond b (Some i) (position_from p (i + 1) (xs ++ left)) → entry_sort o ≡ option_map sort (cond b (Some x) (find p (xs ++ left)))
          → (entry_place o ≡ position_from p (i + 1) (xs ++ left) → entry_sort o ≡ option_map sort (find p (xs ++ left))
          → (entry_place (constant_in ((i + 1) + length xs) o) ≡ position_from p (i + 1) xs) × (entry_sort (constant_in ((i + 1) + length xs) o) ≡ option_map sort (find p xs)))
          → (entry_place (constant_in (i + length (x ∷ xs)) o) ≡ cond b (Some i) (position_from p (i + 1) xs)) × (entry_sort (constant_in (i + length (x ∷ xs)) o) ≡ option_map sort (cond b (Some x) (find p xs)))
      by true None place sorted rest = absurd (cc place)
      by true (Some entry) place sorted rest =
          let at : entry.place ≡ i = cc place in
          let there = kept (i + length (x ∷ xs)) entry (omega (arith, at)) in
          (ap entry_place there ∙ place, ap entry_sort there ∙ sorted)
      by false o place sorted rest =
          let later = rest place sorted in
          let same : constant_in (i + length (x ∷ xs)) o ≡ constant_in ((i + 1) + length xs) o = ap (λ n. constant_in n o) (sym next) in
          (ap entry_place same ∙ later.0, ap entry_sort same ∙ later.1)

-- What a table of all constants tells of those that are known.
module _ (d : Declared) (known : List Variable) (count : ℕ) (o : Option Entry) (text : ℕ) (first : AreFirstConstants d known count)
    (place : entry_place o ≡ place_in (map as_variable d.constants) text) (sorted : entry_sort o ≡ sort_among d.texts (map as_variable d.constants) text) where
  found : (entry_place (constant_in (0 + length known) o) ≡ place_in known text) × (entry_sort (constant_in (0 + length known) o) ≡ sort_among d.texts known text)
  found =
      in_front (λ v. is_spelt text v.name) (λ (v : Variable). sort_of (bytes_of d.texts) v.of) 0 known first.left o
      (place ∙ ap (λ vs. place_in vs text) (sym first.split)) (sorted ∙ ap (λ vs. sort_among d.texts vs text) (sym first.split))

  counted : constant_in count o ≡ constant_in (0 + length known) o
  counted = let same : count ≡ 0 + length known = omega (arith, first.count_is) in ap (λ n. constant_in n o) same

  pub constant-place : entry_place (constant_in count o) ≡ place_in known text
  constant-place = ap entry_place counted ∙ found.0

  pub constant-sort : entry_sort (constant_in count o) ≡ sort_among d.texts known text
  constant-sort = ap entry_sort counted ∙ found.1

-- One constant more is known.
still_inside : (d : Declared) (known more : List Variable) (method : Option ℕ) → IsInside d (constant_scope known) method → IsInside d (constant_scope more) method
still_inside d known more None h = h
still_inside d known more (Some m) h = record { method = h.method; at = h.at; args = h.args; locals = h.locals }

pub constant_passed : (d : Declared) (known left : List Variable) (v : Variable) (old : ScopeTables) (next : ℕ) → next ≡ old.constants + 1 → (known ++ v ∷ []) ++ left ≡ map as_variable d.constants
    → TellsScope d (constant_scope known) old → TellsScope d (constant_scope (known ++ v ∷ [])) (record old { constants = next })
constant_passed d known left v old next e split h = record {
  constants = record { left = left; split = split; count_is = omega (arith, e, h.constants.count_is, length-append known (v ∷ [])) };
  this = h.this;
  inside = still_inside d known (known ++ v ∷ []) old.method h.inside;
}
