-- Changes of the elements of a store.
use Rattle.std.proofs.Common.{◌≡◌, ℕ, zero, suc, ◌+◌, ◌-◌, ◌<◌, ◌≤◌, Bool, true, false, ◌&&◌, List, [], ◌∷◌, length, min, take, drop, set, Option, Some, None, ◌⊎◌, inl, inr, refl, sym, ap, ◌∙◌, subst, arith, append_assoc, nat_eq, nat_le}
use Rattle.std.specs.Prelude.{slice_get, unwrap_or, option_map, option_and_then}
use Rattle.std.proofs.lemmas.Bool.Decides.{nat_tests}
use Rattle.std.specs.List.{list_all}
use Rattle.std.proofs.lemmas.Bool.{and_parts}
use Rattle.std.proofs.lemmas.List.{length-drop, length-take, length-take-le, take_min}
use Rattle.std.proofs.lemmas.List.Edits as edits
use Rattle.std.proofs.lemmas.List.Edits.{sets-eq}
use Rattle.wf_base.specs.BaseOps.{elements, overwritten}
use Rattle.wf_ast.specs.Value.{Value, Store, nowhere, host_array, field_array}
use Rattle.wf_meaning.specs.SourceState.{Held, held_num, held_truth, held_status, held_cells, held_part, Object}
use Rattle.wf_meaning.specs.World.{Vars, World, updated, cells_at, cells_held, change_held, fits_store, with_cells}
use Rattle.wf_meaning.proofs.Lists.{updated-other}
use Rattle.wf_meaning.specs.SourceStep.{elements_of, takes_all}
use Rattle.wf_mean_exprs.specs.declared.values.SliceSpan.{SliceSpan}
use Rattle.wf_mean_exprs.specs.MachineState.{span_seen}
use Rattle.wf_mean_stmts.specs.Copies.{copied_if, sets, with_set}
use Rattle.wf_mean_stmts.specs.Stages.{Comes}
use Rattle.wf_mean_stmts.proofs.StoringLemmas.{item_there}

pub updated_twice : {X : Type 0} (f g : X → X) (i : ℕ) (xs : List X) → updated g i (updated f i xs) ≡ updated (λ x. g (f x)) i xs
updated_twice f g i [] = refl
updated_twice f g zero (x ∷ xs) = refl
updated_twice f g (suc i) (x ∷ xs) = ap (λ ys. x ∷ ys) (updated_twice f g i xs)

pub updated_like : {X : Type 0} (f g : X → X) (i : ℕ) (xs : List X) → ((x : X) → slice_get xs i ≡ Some x → f x ≡ g x) → updated f i xs ≡ updated g i xs
updated_like f g i [] h = refl
updated_like f g zero (x ∷ xs) h = ap (λ y. y ∷ xs) (h x refl)
updated_like f g (suc i) (x ∷ xs) h = ap (λ ys. x ∷ ys) (updated_like f g i xs h)

updated_not : {X : Type 0} (f : X → X) (i : ℕ) (xs : List X) → ((x : X) → f x ≡ x) → updated f i xs ≡ xs
updated_not f i [] h = refl
updated_not f zero (x ∷ xs) h = ap (λ y. y ∷ xs) (h x)
updated_not f (suc i) (x ∷ xs) h = ap (λ ys. x ∷ ys) (updated_not f i xs h)

held_twice : (f g : List ℕ → List ℕ) (h : Held) → change_held g (change_held f h) ≡ change_held (λ xs. g (f xs)) h
held_twice f g (held_num n) = refl
held_twice f g (held_truth b) = refl
held_twice f g (held_status n) = refl
held_twice f g (held_cells cells) = refl
held_twice f g (held_part o) = refl

held_like : (f g : List ℕ → List ℕ) (h : Held) → f (cells_held h) ≡ g (cells_held h) → change_held f h ≡ change_held g h
held_like f g (held_num n) e = refl
held_like f g (held_truth b) e = refl
held_like f g (held_status n) e = refl
held_like f g (held_cells cells) e = ap held_cells e
held_like f g (held_part o) e = refl

held_not : (h : Held) → change_held (λ xs. xs) h ≡ h
held_not (held_num n) = refl
held_not (held_truth b) = refl
held_not (held_status n) = refl
held_not (held_cells cells) = refl
held_not (held_part o) = refl

-- Two changes, one after the other.
pub twice : (s : Store) (f g : List ℕ → List ℕ) (w : World) → with_cells s g (with_cells s f w) ≡ with_cells s (λ xs. g (f xs)) w
twice nowhere f g w = refl
twice (host_array a) f g w = rw (updated_twice f g a w.host.arrays) refl
twice (field_array object n) f g w =
    let in_fields : (o : Object) → updated (change_held g) n (updated (change_held f) n o.fields) ≡ updated (change_held (λ xs. g (f xs))) n o.fields =
    λ o. updated_twice (change_held f) (change_held g) n o.fields ∙ updated_like _ _ n o.fields (λ h e. held_twice f g h) in
    rw (updated_twice (λ (o : Object). record o { fields = updated (change_held f) n o.fields }) (λ (o : Object). record o { fields = updated (change_held g) n o.fields }) object w.objects
    ∙ updated_like _ (λ (o : Object). record o { fields = updated (change_held (λ xs. g (f xs))) n o.fields }) object w.objects (λ o e. rw (in_fields o) refl))
    refl

-- Changes that do the same to the elements that are there.
pub alike : (s : Store) (f g : List ℕ → List ℕ) (w : World) → f (cells_at w s) ≡ g (cells_at w s) → with_cells s f w ≡ with_cells s g w
alike nowhere f g w e = refl
alike (host_array a) f g w e =
    rw (updated_like f g a w.host.arrays (λ xs h. let P : Option (List ℕ) → Type 0 = λ o. f (unwrap_or o []) ≡ g (unwrap_or o []) in subst P h e)) refl
alike (field_array object n) f g w e =
    rw (updated_like (λ (o : Object). record o { fields = updated (change_held f) n o.fields }) (λ (o : Object). record o { fields = updated (change_held g) n o.fields }) object w.objects (λ o h.
    let P : Option Object → Type 0 = λ it. f (unwrap_or (option_map cells_held (option_and_then (λ (x : Object). slice_get x.fields n) it)) []) ≡ g (unwrap_or (option_map cells_held (option_and_then (λ (x : Object). slice_get x.fields n) it)) []) in
    let inner = subst P h e in
    rw (updated_like (change_held f) (change_held g) n o.fields (λ held k.
    let Q : Option Held → Type 0 = λ it. f (unwrap_or (option_map cells_held it) []) ≡ g (unwrap_or (option_map cells_held it) []) in
    held_like f g held (subst Q k inner))) refl))
    refl

-- No change.
pub unchanged : (s : Store) (w : World) → with_cells s (λ xs. xs) w ≡ w
unchanged nowhere w = refl
unchanged (host_array a) w = rw (updated_not (λ (xs : List ℕ). xs) a w.host.arrays (λ xs. refl)) refl
unchanged (field_array object n) w =
    rw (updated_not (λ (o : Object). record o { fields = updated (change_held (λ xs. xs)) n o.fields }) object w.objects (λ o. rw (updated_not (change_held (λ xs. xs)) n o.fields held_not) refl)) refl

-- Reading.
same_or_not : (m n : ℕ) → (m ≡ n) ⊎ (m ≡ n → ⊥)
same_or_not m n = by_test (nat_eq m n) refl
  where
    by_test : (t : Bool) → nat_eq m n ≡ t → (m ≡ n) ⊎ (m ≡ n → ⊥)
    by_test true e = inl (grind (arith, nat_tests, e))
    by_test false e = inr (λ q. grind (arith, nat_tests, e, q))

get_changed : {X : Type 0} (f : X → X) (i : ℕ) (xs : List X) → slice_get (updated f i xs) i ≡ option_map f (slice_get xs i)
get_changed f i [] = refl
get_changed f zero (x ∷ xs) = refl
get_changed f (suc i) (x ∷ xs) = get_changed f i xs

set_other : (xs : List ℕ) (i v j : ℕ) → (i ≡ j → ⊥) → slice_get (set xs i v) j ≡ slice_get xs j
set_other [] i v j h = refl
set_other (x ∷ xs) zero v zero h = absurd (h refl)
set_other (x ∷ xs) zero v (suc j) h = refl
set_other (x ∷ xs) (suc i) v zero h = refl
set_other (x ∷ xs) (suc i) v (suc j) h = set_other xs i v j (λ e. h (ap suc e))

in_array : (o : Option (List ℕ)) (i v j : ℕ) → (i ≡ j → ⊥) → slice_get (unwrap_or (option_map (λ xs. set xs i v) o) []) j ≡ slice_get (unwrap_or o []) j
in_array None i v j h = refl
in_array (Some xs) i v j h = set_other xs i v j h

in_held : (o : Option Held) (i v j : ℕ) → (i ≡ j → ⊥) → slice_get (unwrap_or (option_map cells_held (option_map (change_held (λ xs. set xs i v)) o)) []) j ≡ slice_get (unwrap_or (option_map cells_held o) []) j
in_held None i v j h = refl
in_held (Some (held_num n)) i v j h = refl
in_held (Some (held_truth b)) i v j h = refl
in_held (Some (held_status n)) i v j h = refl
in_held (Some (held_cells cells)) i v j h = set_other cells i v j h
in_held (Some (held_part o)) i v j h = refl

-- An element that isn't set stays, in whatever store.
pub stays : (t s : Store) (i v j : ℕ) (w : World) → (t ≡ s → i ≡ j → ⊥) → slice_get (cells_at (with_cells t (λ xs. set xs i v) w) s) j ≡ slice_get (cells_at w s) j
stays nowhere s i v j w h = refl
stays (host_array a) nowhere i v j w h = refl
stays (host_array a) (field_array object n) i v j w h = refl
stays (host_array a) (host_array b) i v j w h = by_array (same_or_not a b)
  where
    by_array : (a ≡ b) ⊎ (a ≡ b → ⊥) → slice_get (unwrap_or (slice_get (updated (λ xs. set xs i v) a w.host.arrays) b) []) j ≡ slice_get (unwrap_or (slice_get w.host.arrays b) []) j
    by_array (inl e) =
        let P : ℕ → Type 0 = λ c. slice_get (unwrap_or (slice_get (updated (λ xs. set xs i v) a w.host.arrays) c) []) j ≡ slice_get (unwrap_or (slice_get w.host.arrays c) []) j in
        subst P e (ap (λ o. slice_get (unwrap_or o []) j) (get_changed (λ xs. set xs i v) a w.host.arrays) ∙ in_array (slice_get w.host.arrays a) i v j (h (ap host_array e)))
    by_array (inr e) = ap (λ o. slice_get (unwrap_or o []) j) (updated-other (λ xs. set xs i v) a b w.host.arrays (λ q. e (sym q)))
stays (field_array object n) nowhere i v j w h = refl
stays (field_array object n) (host_array b) i v j w h = refl
stays (field_array object n) (field_array other m) i v j w h = by_object (same_or_not object other)
  where
    change : Object → Object
    change = λ o. record o { fields = updated (change_held (λ xs. set xs i v)) n o.fields }

    there : Option Object → List ℕ
    there it = unwrap_or (option_map cells_held (option_and_then (λ (x : Object). slice_get x.fields m) it)) []

    in_object : (it : Option Object) → (object ≡ other) → slice_get (there (option_map change it)) j ≡ slice_get (there it) j
    in_object None e = refl
    in_object (Some o) e = by_field (same_or_not n m)
      where
        by_field : (n ≡ m) ⊎ (n ≡ m → ⊥) → slice_get (unwrap_or (option_map cells_held (slice_get (updated (change_held (λ xs. set xs i v)) n o.fields) m)) []) j ≡ slice_get (unwrap_or (option_map cells_held (slice_get o.fields m)) []) j
        by_field (inl q) =
            let P : ℕ → Type 0 = λ k. slice_get (unwrap_or (option_map cells_held (slice_get (updated (change_held (λ xs. set xs i v)) n o.fields) k)) []) j ≡ slice_get (unwrap_or (option_map cells_held (slice_get o.fields k)) []) j in
            subst P q (ap (λ it. slice_get (unwrap_or (option_map cells_held it) []) j) (get_changed (change_held (λ xs. set xs i v)) n o.fields) ∙ in_held (slice_get o.fields n) i v j (h (rw (e, q) refl)))
        by_field (inr q) = ap (λ it. slice_get (unwrap_or (option_map cells_held it) []) j) (updated-other (change_held (λ xs. set xs i v)) n m o.fields (λ z. q (sym z)))

    by_object : (object ≡ other) ⊎ (object ≡ other → ⊥) → slice_get (there (slice_get (updated change object w.objects) other)) j ≡ slice_get (there (slice_get w.objects other)) j
    by_object (inl e) =
        let P : ℕ → Type 0 = λ k. slice_get (there (slice_get (updated change object w.objects) k)) j ≡ slice_get (there (slice_get w.objects k)) j in
        subst P e (ap (λ it. slice_get (there it) j) (get_changed change object w.objects) ∙ in_object (slice_get w.objects object) e)
    by_object (inr e) = ap (λ it. slice_get (there it) j) (updated-other change object other w.objects (λ q. e (sym q)))

-- Elements of a slice.
pub elements_count : (c f : ℕ) (cells : List ℕ) → length (elements f c cells) ≡ min c (length cells - f)
elements_count c f cells = length-take c (drop f cells) ∙ ap (min c) (length-drop f cells)

pub get_taken : (n i : ℕ) (xs : List ℕ) → i < n → slice_get (take n xs) i ≡ slice_get xs i
get_taken zero i xs h = absurd (omega (arith, h))
get_taken (suc n) i [] h = refl
get_taken (suc n) zero (x ∷ xs) h = refl
get_taken (suc n) (suc i) (x ∷ xs) h = get_taken n i xs (omega (arith, h))

get_dropped : (f i : ℕ) (xs : List ℕ) → slice_get (drop f xs) i ≡ slice_get xs (f + i)
get_dropped zero i xs = let e : 0 + i ≡ i = omega arith in rw e refl
get_dropped (suc f) i [] = refl
get_dropped (suc f) i (x ∷ xs) = let e : suc f + i ≡ suc (f + i) = omega arith in rw e (get_dropped f i xs)

pub element_at : (f c i : ℕ) (cells : List ℕ) → i < length (elements f c cells) → slice_get cells (f + i) ≡ slice_get (elements f c cells) i
element_at f c i cells h = sym (get_taken c i (drop f cells) (omega (arith, h, elements_count c f cells)) ∙ get_dropped f i cells)

-- Items that are set, one after the other.
sets_same : (vs xs : List ℕ) (at : ℕ) → sets xs at vs ≡ edits.sets xs at vs
sets_same [] xs at = refl
sets_same (v ∷ vs) xs at = sets_same vs (set xs at v) (suc at)

pub sets_over : (vs xs : List ℕ) (at : ℕ) → at + length vs ≤ length xs → sets xs at vs ≡ overwritten at vs xs
sets_over vs xs at h = sets_same vs xs at ∙ sets-eq vs xs at h ∙ append_assoc (take at xs) vs (drop (at + length vs) xs)

set_commutes : (xs : List ℕ) (i a k v : ℕ) → k < i → set (set xs i a) k v ≡ set (set xs k v) i a
set_commutes [] i a k v h = refl
set_commutes (x ∷ xs) zero a k v h = absurd (omega (arith, h))
set_commutes (x ∷ xs) (suc i) a zero v h = refl
set_commutes (x ∷ xs) (suc i) a (suc k) v h = ap (λ ys. x ∷ ys) (set_commutes xs i a k v (omega (arith, h)))

sets_commute : (vs xs : List ℕ) (at k v : ℕ) → k < at → set (sets xs at vs) k v ≡ sets (set xs k v) at vs
sets_commute [] xs at k v h = refl
sets_commute (a ∷ vs) xs at k v h = sets_commute vs (set xs at a) (suc at) k v (omega (arith, h)) ∙ ap (λ ys. sets ys (suc at) vs) (set_commutes xs at a k v h)

pub drop_get : {X : Type 0} (xs : List X) (i : ℕ) (v : X) → slice_get xs i ≡ Some v → drop i xs ≡ v ∷ drop (suc i) xs
drop_get [] i v h = absurd (cc (h))
drop_get (x ∷ xs) zero v h = let q : x ≡ v = cc in ap (λ y. y ∷ xs) q
drop_get (x ∷ xs) (suc i) v h = drop_get xs i v h

pub drop_whole : (xs : List ℕ) (n : ℕ) → length xs ≤ n → drop n xs ≡ []
drop_whole [] zero h = refl
drop_whole [] (suc n) h = refl
drop_whole (x ∷ xs) zero h = absurd (omega (arith, h))
drop_whole (x ∷ xs) (suc n) h = drop_whole xs n (omega (arith, h))

pub all_get : (test : ℕ → Bool) (xs : List ℕ) (i v : ℕ) → list_all test xs ≡ true → slice_get xs i ≡ Some v → test v ≡ true
all_get test [] i v h e = absurd (cc (e))
all_get test (x ∷ xs) zero v h e = let q : x ≡ v = cc in let P : ℕ → Type 0 = λ y. test y ≡ true in subst P q (and_parts (test x) _ h).0
all_get test (x ∷ xs) (suc i) v h e = all_get test xs i v (and_parts (test x) _ h).1 e

-- A copy from one slice to another, element after element; `w0` is the world before it.
module _ (t s : Store) (tf sf c n : ℕ) (w0 : World) where
  abbrev pub whole : List ℕ
  whole = elements sf c (cells_at w0 s)

  abbrev pub those : List ℕ
  those = take n whole

  pub record CopiedUp (i : ℕ) (w : World) : Type 0 where
    pub rest : with_cells t (λ xs. sets xs (tf + i) (drop i those)) w ≡ with_cells t (λ xs. sets xs tf those) w0
    pub source : (k : ℕ) → i ≤ k → slice_get (cells_at w s) (sf + k) ≡ slice_get (cells_at w0 s) (sf + k)

  pub record CopiedDown (i : ℕ) (w : World) : Type 0 where
    pub rest : w ≡ with_cells t (λ xs. sets xs (tf + i) (drop i those)) w0
    pub source : (k : ℕ) → k < i → slice_get (cells_at w s) (sf + k) ≡ slice_get (cells_at w0 s) (sf + k)

module _ (t s : Store) (tf sf c n : ℕ) (w0 : World) (test : ℕ → Bool) (within : n ≤ length (whole t s tf sf c n w0)) (fit : list_all test (whole t s tf sf c n w0) ≡ true) where
  abbrev pub Copies : (i : ℕ) (w w' : World) → Type 0
  Copies i w w' = (v : ℕ) → slice_get (cells_at w s) (sf + i) ≡ Some v → test v ≡ true → w' ≡ with_cells t (λ xs. set xs (tf + i) v) w

  those_long : length (those t s tf sf c n w0) ≡ n
  those_long = length-take-le n (whole t s tf sf c n w0) within

  pub begins_down : CopiedDown t s tf sf c n w0 n w0
  begins_down = record { rest = sym (rw (drop_whole (those t s tf sf c n w0) n (omega (arith, those_long))) (unchanged t w0)); source = λ k h. refl }

  pub ends_up : (w : World) → CopiedUp t s tf sf c n w0 n w → w ≡ with_cells t (λ xs. sets xs tf (those t s tf sf c n w0)) w0
  ends_up w h = sym (unchanged t w) ∙ ap (λ vs. with_cells t (λ xs. sets xs (tf + n) vs) w) (sym (drop_whole (those t s tf sf c n w0) n (omega (arith, those_long)))) ∙ h.rest

  pub ends_down : (w : World) → CopiedDown t s tf sf c n w0 0 w → w ≡ with_cells t (λ xs. sets xs tf (those t s tf sf c n w0)) w0
  ends_down w h = let e : tf + 0 ≡ tf = omega arith in h.rest ∙ rw e refl

  module _ (i : ℕ) (below : i < n) where
    it : (v : ℕ) × (slice_get (whole t s tf sf c n w0) i ≡ Some v)
    it = item_there (whole t s tf sf c n w0) i (omega (arith, below, within))

    now : (w : World) → slice_get (cells_at w s) (sf + i) ≡ slice_get (cells_at w0 s) (sf + i) → slice_get (cells_at w s) (sf + i) ≡ Some it.0
    now w e = e ∙ element_at sf c i (cells_at w0 s) (omega (arith, below, within)) ∙ it.1

    fits : test it.0 ≡ true
    fits = all_get test (whole t s tf sf c n w0) i it.0 fit it.1

    first : drop i (those t s tf sf c n w0) ≡ it.0 ∷ drop (suc i) (those t s tf sf c n w0)
    first = drop_get (those t s tf sf c n w0) i it.0 (get_taken n i (whole t s tf sf c n w0) below ∙ it.1)

    pub goes_up : (w w' : World) → tf ≤ sf → CopiedUp t s tf sf c n w0 i w → Copies i w w' → CopiedUp t s tf sf c n w0 (i + 1) w'
    goes_up w w' le h copies =
        let v = it.0 in
        let e : w' ≡ with_cells t (λ xs. set xs (tf + i) v) w = copies v (now w (h.source i (omega arith))) fits in
        let next : suc (tf + i) ≡ tf + (i + 1) = omega arith in
        let more : suc i ≡ i + 1 = omega arith in
        record {
          rest = ap (with_cells t (λ xs. sets xs (tf + (i + 1)) (drop (i + 1) (those t s tf sf c n w0)))) e
              ∙ twice t (λ xs. set xs (tf + i) v) (λ xs. sets xs (tf + (i + 1)) (drop (i + 1) (those t s tf sf c n w0))) w
              ∙ sym
              (ap (λ vs. with_cells t (λ xs. sets xs (tf + i) vs) w) first
              ∙ ap (λ j. with_cells t (λ xs. sets (set xs (tf + i) v) j (drop (suc i) (those t s tf sf c n w0))) w) next
              ∙ ap (λ j. with_cells t (λ xs. sets (set xs (tf + i) v) (tf + (i + 1)) (drop j (those t s tf sf c n w0))) w) more)
              ∙ h.rest;
          source = λ k l. ap (λ x. slice_get (cells_at x s) (sf + k)) e ∙ stays t s (tf + i) v (sf + k) w (λ q r. absurd (omega (arith, le, l, r))) ∙ h.source k (omega (arith, l));
        }

    pub goes_down : (w w' : World) → sf < tf → CopiedDown t s tf sf c n w0 (i + 1) w → Copies i w w' → CopiedDown t s tf sf c n w0 i w'
    goes_down w w' lt h copies =
        let v = it.0 in
        let e : w' ≡ with_cells t (λ xs. set xs (tf + i) v) w = copies v (now w (h.source i (omega arith))) fits in
        let next : tf + (i + 1) ≡ suc (tf + i) = omega arith in
        let more : i + 1 ≡ suc i = omega arith in
        record {
          rest = e ∙ ap (with_cells t (λ xs. set xs (tf + i) v)) h.rest
              ∙ twice t (λ xs. sets xs (tf + (i + 1)) (drop (i + 1) (those t s tf sf c n w0))) (λ xs. set xs (tf + i) v) w0
              ∙ alike t (λ xs. set (sets xs (tf + (i + 1)) (drop (i + 1) (those t s tf sf c n w0))) (tf + i) v) (λ xs. sets xs (tf + i) (drop i (those t s tf sf c n w0))) w0
              (sets_commute (drop (i + 1) (those t s tf sf c n w0)) (cells_at w0 t) (tf + (i + 1)) (tf + i) v (omega arith)
              ∙ sym
              (ap (λ vs. sets (cells_at w0 t) (tf + i) vs) first
              ∙ ap (λ j. sets (set (cells_at w0 t) (tf + i) v) j (drop (suc i) (those t s tf sf c n w0))) (sym next)
              ∙ ap (λ j. sets (set (cells_at w0 t) (tf + i) v) (tf + (i + 1)) (drop j (those t s tf sf c n w0))) (sym more)));
          source = λ k l. ap (λ x. slice_get (cells_at x s) (sf + k)) e ∙ stays t s (tf + i) v (sf + k) w (λ q r. absurd (omega (arith, lt, l, r))) ∙ h.source k (omega (arith, l));
        }

-- All items of a list, one after the other.
pub all_step : (test : ℕ → Bool) (xs : List ℕ) (i : ℕ) (r : Bool) → i < length xs → ((v : ℕ) → slice_get xs i ≡ Some v → r ≡ test v) → list_all test (drop i xs) ≡ (r && list_all test (drop (i + 1) xs))
all_step test xs i r h same =
    let it = item_there xs i h in
    let more : suc i ≡ i + 1 = omega arith in
    ap (list_all test) (drop_get xs i it.0 it.1) ∙ ap (λ b. b && list_all test (drop (suc i) xs)) (sym (same it.0 it.1)) ∙ ap (λ j. r && list_all test (drop j xs)) more

pub all_behind : (test : ℕ → Bool) (xs : List ℕ) (i : ℕ) → length xs ≤ i → list_all test (drop i xs) ≡ true
all_behind test xs i h = ap (list_all test) (drop_whole xs i h)

pub vars_are : (vars : Vars) (locals : List Value) (world : World) → vars.locals ≡ locals → vars.world ≡ world → vars ≡ record { locals = locals; world = world }
vars_are vars locals world l w = rw (sym l, sym w) refl

-- A whole copy.
le_from : (m n : ℕ) → nat_le m n ≡ true → m ≤ n
le_from m n h = grind (arith, nat_tests, h)

both : (a b : Bool) → a ≡ true → b ≡ true → (a && b) ≡ true
both true b h k = k
both false b h k = absurd (cc (h))

pub elements_copied : (vars new : Vars) (to from : SliceSpan) (n : ℕ) → nat_le ((span_seen to).from + (span_seen to).count) (length (cells_at vars.world (span_seen to).store)) ≡ true → list_all (fits_store (span_seen to).store) (elements_of vars (span_seen from)) ≡ true
    → n ≡ min (span_seen to).count (length (elements_of vars (span_seen from))) → new ≡ with_set to (take n (elements_of vars (span_seen from))) vars
    → Comes true (copied_if (takes_all vars (span_seen to) (elements_of vars (span_seen from))) (span_seen to) (span_seen from) vars) new
elements_copied vars new to from n lies fit few is =
    let xs = elements_of vars (span_seen from) in
    let cells = cells_at vars.world (span_seen to).store in
    let takes : takes_all vars (span_seen to) xs ≡ true = both _ _ lies fit in
    let those_are : take n xs ≡ take (span_seen to).count xs = ap (λ j. take j xs) few ∙ take_min (span_seen to).count xs in
    let long = length-take n xs in
    let over = sets_over (take n xs) cells to.from (omega (arith, le_from _ _ lies, few, long)) ∙ ap (λ vs. overwritten to.from vs cells) those_are in
    let world = alike (span_seen to).store (λ ys. sets ys to.from (take n xs)) (λ ys. overwritten to.from (take (span_seen to).count xs) ys) vars.world over in
    rw takes (is ∙ ap (λ w. record vars { world = w }) world)
