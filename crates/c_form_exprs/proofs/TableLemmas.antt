-- Tables of names: the place of a name, and what it declares.
use Rattle.std.proofs.Common.{◌≡◌, ℕ, suc, ◌+◌, ◌<◌, Bool, cond, not, true, false, if◌then◌else◌, nat_lt, nat_eq, unwrap_or, List, [], ◌∷◌, ◌++◌, length, map, Option, Some, None, is_none, Bor, position, refl, sym, ◌∙◌, ap, subst, inl, inr, arith, lt-ltb, le-ltb, ltb-true, ltb-false}
use Rattle.std.specs.Str.{bytes_eq}
use Rattle.std.specs.List.{position_or_len, slice_get}
use Rattle.std.specs.Option.{option_map, option_or}
use Rattle.std.specs.Ordering.{is_eq, nat_cmp, ordering_then}
use Rattle.std.specs.declared.cmp.Ordering.{Ordering}
use Rattle.std.specs.declared.cmp.Ordering.TheVariants.{Less, Equal, Greater}
use Rattle.std.specs.Cmp.Lexicographic.{texts_ties}
use Rattle.std.specs.BTreeMap.{BTreeMap, get_by, UpdatesBy}
use Rattle.std.proofs.lemmas.Bool.{cases_Bool, eqb-true, eq-eqb}
use Rattle.std.proofs.lemmas.List.{length-map, map-append}
use Rattle.std.proofs.lemmas.Option.{slice_get_within, slice_get-map}
use Rattle.std.proofs.lemmas.Slice.Eq.{bytes_eq-Decides}
use Rattle.interner.specs.Interning.{digest}
use Rattle.c_text.proofs.Arena.{slice_get-front, slice_get-seam, slice_get-some}
use Rattle.c_text.specs.declared.ids.CNameId.{CNameId}
use Rattle.c_text.specs.CNodes.{bytes_at}
use Rattle.c_text.specs.CUnit.{AreDistinct}
use Rattle.c_text.proofs.Names.{same_names}
use Rattle.c_form_exprs.specs.Tables.{named, name_at, found, FindsPlaces, TellsPlaces}
use Rattle.c_form_exprs.proofs.FrontLemmas.{bytes_eq-swap}

-- The entries with the bytes of their names.
abbrev pub seen : {V : Type 0} → Bor (List ℕ) × V → List ℕ × V
seen entry = (entry.0.now, entry.1)

abbrev pub spelled : {V : Type 0} → List (List ℕ) → CNameId × V → List ℕ × V
spelled names entry = (bytes_at names entry.0.0, entry.1)

-- Places in a list that stands for another one.
first_in : {A B : Type 0} (p : B → Bool) (f : A → B) (xs : List A) → position_or_len p (map f xs) ≡ position_or_len (λ x. p (f x)) xs
first_in p f [] = refl
first_in p f (x ∷ xs) = ap (λ (n : ℕ). cond (not (p (f x))) (1 + n) 0) (first_in p f xs)

pub place_in : {A B : Type 0} (p : B → Bool) (f : A → B) (xs : List A) → position p (map f xs) ≡ position (λ x. p (f x)) xs
place_in p f xs = rw (first_in p f xs, length-map xs f) refl

-- The place of the first that passes, one element at a time.
less_on : (m n : ℕ) → nat_lt (1 + m) (suc n) ≡ nat_lt m n
less_on m n = by (nat_lt m n) refl
  where
    by : (b : Bool) → nat_lt m n ≡ b → nat_lt (1 + m) (suc n) ≡ nat_lt m n
    by true e = lt-ltb (1 + m) (suc n) (omega (arith, ltb-true m n e)) ∙ sym e
    by false e = le-ltb (1 + m) (suc n) (omega (arith, ltb-false m n e)) ∙ sym e

first_less : (n : ℕ) → nat_lt 0 (suc n) ≡ true
first_less n = lt-ltb 0 (suc n) (omega arith)

pub place_cons : {A : Type 0} (p : A → Bool) (x : A) (xs : List A) → position p (x ∷ xs) ≡ (if p x then Some 0 else option_map suc (position p xs))
place_cons {A} p x xs = by (p x) refl
  where
    one : (n : ℕ) → 1 + n ≡ suc n
    one n = omega arith

    on : (t : Bool) → (if t then Some (1 + position_or_len p xs) else None) ≡ option_map suc (if t then Some (position_or_len p xs) else None)
    on true = ap Some (one (position_or_len p xs))
    on false = refl

    by : (b : Bool) → p x ≡ b → position p (x ∷ xs) ≡ (if b then Some 0 else option_map suc (position p xs))
    by true e = rw (e, first_less (length xs)) refl
    by false e = rw (e, less_on (position_or_len p xs) (length xs)) (on (nat_lt (position_or_len p xs) (length xs)))

pub place_end : {A : Type 0} (p : A → Bool) (xs : List A) (y : A) → position p (xs ++ y ∷ []) ≡ option_or (position p xs) (if p y then Some (length xs) else None)
place_end {A} p [] y = place_cons p y [] ∙ by (p y)
  where
    by : (b : Bool) → (if b then Some 0 else option_map suc (position p [])) ≡ (if b then Some 0 else None)
    by true = refl
    by false = refl
place_end {A} p (x ∷ xs) y = place_cons p x (xs ++ y ∷ []) ∙ (ap (λ (o : Option ℕ). if p x then Some 0 else option_map suc o) (place_end p xs y) ∙ (by (p x) (position p xs) (p y) ∙ ap (λ (o : Option ℕ). option_or o (if p y then Some (suc (length xs)) else None)) (sym (place_cons p x xs))))
  where
    by : (b : Bool) (o : Option ℕ) (c : Bool) → (if b then Some 0 else option_map suc (option_or o (if c then Some (length xs) else None))) ≡ option_or (if b then Some 0 else option_map suc o) (if c then Some (suc (length xs)) else None)
    by true o c = refl
    by false (Some k) c = refl
    by false None true = refl
    by false None false = refl

-- What stands at a name's place in a table is what it declares.
abbrev Stands : {V : Type 0} → List (List ℕ × V) → List ℕ → Option ℕ → Type 0
Stands es name None = named es name ≡ None
Stands {V} es name (Some n) = (entry : List ℕ × V) × (slice_get es n ≡ Some entry) × (named es name ≡ Some entry.1)

stands : {V : Type 0} (es : List (List ℕ × V)) (name : List ℕ) → Stands es name (position (λ entry. bytes_eq entry.0 name) es)
stands [] name = refl
stands {V} (e ∷ es) name = subst (Stands (e ∷ es) name) (sym (place_cons (λ (entry : List ℕ × V). bytes_eq entry.0 name) e es)) (by (bytes_eq e.0 name) refl (position (λ (entry : List ℕ × V). bytes_eq entry.0 name) es) (stands es name))
  where
    first : (b : Bool) → bytes_eq e.0 name ≡ b → named (e ∷ es) name ≡ (if b then Some e.1 else named es name)
    first b h = ap (λ (t : Bool). if t then Some e.1 else named es name) (bytes_eq-swap name e.0 ∙ h)

    by : (b : Bool) → bytes_eq e.0 name ≡ b → (o : Option ℕ) → Stands es name o → Stands (e ∷ es) name (if b then Some 0 else option_map suc o)
    by true h o there = (e, refl, first true h)
    by false h None there = first false h ∙ there
    by false h (Some n) there = (there.0, there.1, first false h ∙ there.2)

stands_by : {V : Type 0} (es : List (List ℕ × V)) (name : List ℕ) (o : Option ℕ) → o ≡ position (λ entry. bytes_eq entry.0 name) es → Stands es name o
stands_by es name o is = subst (Stands es name) (sym is) (stands es name)

-- A name with a place, and one without.
pub place_within : {E V : Type 0} (f : E → List ℕ × V) (es : List E) (name : List ℕ) (n : ℕ) → Some n ≡ position (λ (entry : List ℕ × V). bytes_eq entry.0 name) (map f es) → n < length es
place_within f es name n is =
    let there = stands_by (map f es) name (Some n) is in
    subst (λ (m : ℕ). n < m) (length-map es f) (slice_get_within (map f es) n there.0 there.1)

pub place_declares : {E V : Type 0} (f : E → List ℕ × V) (es : List E) (name : List ℕ) (n : ℕ) (entry : E) → Some n ≡ position (λ (entry : List ℕ × V). bytes_eq entry.0 name) (map f es) → slice_get es n ≡ Some entry → Some (f entry).1 ≡ named (map f es) name
place_declares f es name n entry is at =
    let there = stands_by (map f es) name (Some n) is in
    let same : Some (f entry) ≡ Some there.0 = sym (slice_get-map f es n ∙ ap (option_map f) at) ∙ there.1 in
    ap (option_map (λ e. e.1)) same ∙ sym there.2

pub no_place_declares : {V : Type 0} (es : List (List ℕ × V)) (name : List ℕ) → None ≡ position (λ entry. bytes_eq entry.0 name) es → None ≡ named es name
no_place_declares es name is = sym (stands_by es name None is)

pub place_taken : {V : Type 0} (es : List (List ℕ × V)) (name : List ℕ) (n : ℕ) → Some n ≡ position (λ entry. bytes_eq entry.0 name) es → false ≡ is_none (named es name)
place_taken es name n is = let there = stands_by es name (Some n) is in ap is_none (sym there.2)

pub place_free : {V : Type 0} (es : List (List ℕ × V)) (name : List ℕ) → None ≡ position (λ entry. bytes_eq entry.0 name) es → true ≡ is_none (named es name)
place_free es name is = ap is_none (no_place_declares es name is)

-- The places after a name has joined.
places_end : {V : Type 0} (es : List (List ℕ × V)) (name : List ℕ) (v : V) (other : List ℕ) → bytes_eq name other ≡ false → position (λ entry. bytes_eq entry.0 other) (es ++ (name, v) ∷ []) ≡ position (λ entry. bytes_eq entry.0 other) es
places_end {V} es name v other h = place_end (λ (entry : List ℕ × V). bytes_eq entry.0 other) es (name, v) ∙ (ap (λ (b : Bool). option_or (position (λ (entry : List ℕ × V). bytes_eq entry.0 other) es) (if b then Some (length es) else None)) h ∙ by (position (λ (entry : List ℕ × V). bytes_eq entry.0 other) es))
  where
    by : (o : Option ℕ) → option_or o None ≡ o
    by None = refl
    by (Some k) = refl

place_last : {V : Type 0} (es : List (List ℕ × V)) (name : List ℕ) (v : V) (other : List ℕ) → bytes_eq name other ≡ true → position (λ entry. bytes_eq entry.0 other) es ≡ None → position (λ entry. bytes_eq entry.0 other) (es ++ (name, v) ∷ []) ≡ Some (length es)
place_last {V} es name v other h none = place_end (λ (entry : List ℕ × V). bytes_eq entry.0 other) es (name, v) ∙ (ap (λ (b : Bool). option_or (position (λ (entry : List ℕ × V). bytes_eq entry.0 other) es) (if b then Some (length es) else None)) h ∙ ap (λ (o : Option ℕ). option_or o (Some (length es))) none)

-- A table with one more entry has the earlier names at their places.
name_kept : {V : Type 0} (es : List (List ℕ × V)) (e : List ℕ × V) (n : ℕ) → n < length es → name_at (es ++ e ∷ []) n ≡ name_at es n
name_kept {V} es e n within = ap (λ (o : Option (List ℕ × V)). unwrap_or (option_map (λ (entry : List ℕ × V). entry.0) o) []) (slice_get-front es (e ∷ []) n within)

name_last : {V : Type 0} (es : List (List ℕ × V)) (name : List ℕ) (v : V) → name_at (es ++ (name, v) ∷ []) (length es) ≡ name
name_last {V} es name v = ap (λ (o : Option (List ℕ × V)). unwrap_or (option_map (λ (entry : List ℕ × V). entry.0) o) []) (slice_get-seam es (name, v) [])

found_kept : {V : Type 0} (es : List (List ℕ × V)) (e : List ℕ × V) (q : List ℕ) (first other : Option ℕ) → ((n : ℕ) → first ≡ Some n → n < length es) → found (es ++ e ∷ []) q first other ≡ found es q first other
found_kept es e q None other within = refl
found_kept es e q (Some n) other within = ap (λ (name : List ℕ). if bytes_eq name q then Some n else other) (name_kept es e n (within n refl))

passed : {V : Type 0} (es : List (List ℕ × V)) (q : List ℕ) (m : ℕ) (o x : Option ℕ) → found es q (Some m) o ≡ None → found es q (Some m) x ≡ x
passed {V} es q m o x h = by (bytes_eq (name_at es m) q) h
  where
    by : (b : Bool) → (if b then Some m else o) ≡ None → (if b then Some m else x) ≡ x
    by true e = absurd (cc (e))
    by false e = refl

apart : (name q : List ℕ) → nat_eq (digest name) (digest q) ≡ false → bytes_eq name q ≡ false
apart name q f = elim (cases_Bool (bytes_eq name q)) [
  | inl y ↦ (let same : name ≡ q = (bytes_eq-Decides name q).0 y in
      let alike : nat_eq (digest name) (digest q) ≡ true = eq-eqb (digest name) (digest q) (ap (λ (n : List ℕ). digest n) same) in
      absurd (cc (f, alike)))
  | inr e ↦ e
]

more_within : {V : Type 0} (es : List (List ℕ × V)) (e : List ℕ × V) (n : ℕ) → n < length es → n < length (es ++ e ∷ [])
more_within es e n within = slice_get_within (es ++ e ∷ []) n (slice_get-some es n within).0 (slice_get-front es (e ∷ []) n within ∙ (slice_get-some es n within).1)

-- A name joins by its digest, which no name has.
pub first_joined : {V : Type 0} (first new : ℕ → Option ℕ) (other : List ℕ → Option ℕ) (es later : List (List ℕ × V)) (name : List ℕ) (v : V)
    → FindsPlaces first other es → position (λ (entry : List ℕ × V). bytes_eq entry.0 name) es ≡ None → first (digest name) ≡ None
    → new (digest name) ≡ Some (length es) → ((made : ℕ) → nat_eq (digest name) made ≡ false → new made ≡ first made)
    → later ≡ es ++ (name, v) ∷ [] → FindsPlaces new other later
first_joined {V} first new other es later name v h free none here others joined = subst (FindsPlaces new other) (sym joined) (record {
  within = λ made n is. elim (cases_Bool (nat_eq (digest name) made)) [
    | inl y ↦ (let same : Some n ≡ Some (length es) = sym is ∙ (ap new (sym (eqb-true (digest name) made y)) ∙ here) in
        slice_get_within (es ++ (name, v) ∷ []) n (name, v) (ap (slice_get (es ++ (name, v) ∷ [])) (cc same) ∙ slice_get-seam es (name, v) []))
    | inr f ↦ more_within es (name, v) n (h.within made n (sym (others made f) ∙ is))
  ];
  finds = λ q. elim (cases_Bool (nat_eq (digest name) (digest q))) [
    | inl y ↦ (let same : digest name ≡ digest q = eqb-true (digest name) (digest q) y in
        let at : new (digest q) ≡ Some (length es) = ap new (sym same) ∙ here in
        let was : first (digest q) ≡ None = ap first (sym same) ∙ none in
        let absent : position (λ (entry : List ℕ × V). bytes_eq entry.0 q) es ≡ None = sym (h.finds q) ∙ ap (λ (o : Option ℕ). found es q o (other q)) was in
        ap (λ (o : Option ℕ). found (es ++ (name, v) ∷ []) q o (other q)) at
        ∙ (ap (λ (o : Option ℕ). found (es ++ (name, v) ∷ []) q (Some (length es)) o) (h.none q was)
        ∙ (ap (λ (n : List ℕ). if bytes_eq n q then Some (length es) else None) (name_last es name v)
        ∙ sym (place_end (λ (entry : List ℕ × V). bytes_eq entry.0 q) es (name, v) ∙ ap (λ (o : Option ℕ). option_or o (if bytes_eq name q then Some (length es) else None)) absent))))
    | inr f ↦ ap (λ (o : Option ℕ). found (es ++ (name, v) ∷ []) q o (other q)) (others (digest q) f) ∙ (found_kept es (name, v) q (first (digest q)) (other q) (h.within (digest q)) ∙ (h.finds q ∙ sym (places_end es name v q (apart name q f))))
  ];
  none = λ q is. elim (cases_Bool (nat_eq (digest name) (digest q))) [
    | inl y ↦ (let at : new (digest q) ≡ Some (length es) = ap new (sym (eqb-true (digest name) (digest q) y)) ∙ here in absurd (cc (at, is)))
    | inr f ↦ h.none q (sym (others (digest q) f) ∙ is)
  ];
})

-- A name joins whose digest another has.
pub other_joined : {V : Type 0} (first : ℕ → Option ℕ) (other new : List ℕ → Option ℕ) (es later : List (List ℕ × V)) (name : List ℕ) (v : V) (m : ℕ)
    → FindsPlaces first other es → position (λ (entry : List ℕ × V). bytes_eq entry.0 name) es ≡ None → first (digest name) ≡ Some m
    → new name ≡ Some (length es) → ((q : List ℕ) → bytes_eq name q ≡ false → new q ≡ other q)
    → later ≡ es ++ (name, v) ∷ [] → FindsPlaces first new later
other_joined {V} first other new es later name v m h free has here others joined = subst (FindsPlaces first new) (sym joined) (record {
  within = λ made n is. more_within es (name, v) n (h.within made n is);
  finds = λ q. elim (cases_Bool (bytes_eq name q)) [
    | inl y ↦ (let same : name ≡ q = (bytes_eq-Decides name q).0 y in
        let absent : position (λ (entry : List ℕ × V). bytes_eq entry.0 q) es ≡ None = subst (λ (n : List ℕ). position (λ (entry : List ℕ × V). bytes_eq entry.0 n) es ≡ None) same free in
        let at : new q ≡ Some (length es) = subst (λ (n : List ℕ). new n ≡ Some (length es)) same here in
        let first_at : first (digest q) ≡ Some m = subst (λ (n : List ℕ). first (digest n) ≡ Some m) same has in
        let not_first : found es q (Some m) (other q) ≡ None = ap (λ (o : Option ℕ). found es q o (other q)) (sym first_at) ∙ (h.finds q ∙ absent) in
        found_kept es (name, v) q (first (digest q)) (new q) (h.within (digest q))
        ∙ (ap (λ (o : Option ℕ). found es q o (new q)) first_at
        ∙ (passed es q m (other q) (new q) not_first ∙ (at ∙ sym (place_last es name v q y absent)))))
    | inr f ↦ ap (λ (o : Option ℕ). found (es ++ (name, v) ∷ []) q (first (digest q)) o) (others q f) ∙ (found_kept es (name, v) q (first (digest q)) (other q) (h.within (digest q)) ∙ (h.finds q ∙ sym (places_end es name v q f)))
  ];
  none = λ q is. elim (cases_Bool (bytes_eq name q)) [
    | inl y ↦ (let same : name ≡ q = (bytes_eq-Decides name q).0 y in
        let first_at : first (digest q) ≡ Some m = subst (λ (n : List ℕ). first (digest n) ≡ Some m) same has in absurd (cc (first_at, is)))
    | inr f ↦ others q f ∙ h.none q is
  ];
})

-- A change of a map at one number changes what it has of no other number.
ties : (m n : ℕ) → nat_eq m n ≡ false → is_eq (nat_cmp m n) ≡ false
ties m n f = elim (cases_Bool (is_eq (nat_cmp m n))) [
  | inl t ↦ (let same : bytes_eq (m ∷ []) (n ∷ []) ≡ true = texts_ties (m ∷ []) (n ∷ []) ∙ one (nat_cmp m n) t in
      let is : m ∷ [] ≡ n ∷ [] = (bytes_eq-Decides (m ∷ []) (n ∷ [])).0 same in
      let alike : nat_eq m n ≡ true = eq-eqb m n (cc is) in
      absurd (cc (f, alike)))
  | inr e ↦ e
]
  where
    one : (o : Ordering) → is_eq o ≡ true → is_eq (ordering_then o Equal) ≡ true
    one Equal h = refl
    one Less h = h
    one Greater h = h

pub other_numbers : (old new : BTreeMap ℕ ℕ) (query made : ℕ) (w : Option ℕ) → query ≡ made → UpdatesBy nat_cmp (nat_cmp query) old new w → (other : ℕ) → nat_eq made other ≡ false → get_by (nat_cmp other) new ≡ get_by (nat_cmp other) old
other_numbers old new query made w same updates other f = updates.2 other (ties query other (ap (λ (n : ℕ). nat_eq n other) same ∙ f))

pub entries_joined : {E V : Type 0} (f : E → List ℕ × V) (es later : List E) (entry : E) → later ≡ es ++ entry ∷ [] → map f later ≡ map f es ++ f entry ∷ []
entries_joined f es later entry is = ap (map f) is ∙ map-append f es (entry ∷ [])

-- A name of a unit joins by its number.
pub number_joined : {V : Type 0} (old new : ℕ → Option ℕ) (names : List (List ℕ)) (es later : List (List ℕ × V)) (n : ℕ) (v : V)
    → AreDistinct names → n < length names → TellsPlaces old names es → position (λ (entry : List ℕ × V). bytes_eq entry.0 (bytes_at names n)) es ≡ None
    → new n ≡ Some (length es) → ((m : ℕ) → nat_eq n m ≡ false → new m ≡ old m)
    → later ≡ es ++ (bytes_at names n, v) ∷ [] → TellsPlaces new names later
number_joined {V} old new names es later n v distinct has h free here others joined = subst (TellsPlaces new names) (sym joined) (λ m within. elim (cases_Bool (nat_eq n m)) [
  | inl y ↦ (let alike : bytes_eq (bytes_at names n) (bytes_at names m) ≡ true = sym (same_names names distinct n m has within) ∙ y in
      let absent : position (λ (entry : List ℕ × V). bytes_eq entry.0 (bytes_at names m)) es ≡ None = subst (λ (k : ℕ). position (λ (entry : List ℕ × V). bytes_eq entry.0 (bytes_at names k)) es ≡ None) (eqb-true n m y) free in
      ap new (sym (eqb-true n m y)) ∙ (here ∙ sym (place_last es (bytes_at names n) v (bytes_at names m) alike absent)))
  | inr f ↦ others m f ∙ (h m within ∙ sym (places_end es (bytes_at names n) v (bytes_at names m) (sym (same_names names distinct n m has within) ∙ f)))
])
