-- What slots and a map of other texts tell of a text, before and after a text has joined.
use Rattle.std.proofs.Common.{◌≡◌, ◌≢◌, ◌∙◌, ◌⊎◌, ℕ, zero, suc, ◌+◌, ◌-◌, ◌<◌, ◌≤◌, if◌then◌else◌, nat_lt, unwrap_or, Bor, Bool, true, false, Option, Some, None, Result, Ok, Err, List, [], ◌∷◌, ◌++◌, length, get_or, set, take, bit_and, refl, sym, ap, subst, inl, inr, arith}
use Rattle.std.specs.List.{slice_get}
use Rattle.std.specs.Option.{is_some, option_copied, IfSome}
use Rattle.std.specs.Result.{IfOk, OnOk}
use Rattle.std.specs.Str.{bytes_eq}
use Rattle.std.proofs.lemmas.Bool.{cases_Bool, cases_lt, ltb-true, ltb-false}
use Rattle.std.proofs.lemmas.List.{get_or-set_same, get_or-set_other, length-set, take_more, get_or_past, get_or_read}
use Rattle.std.proofs.lemmas.Nat.{and_le_r}
use Rattle.std.proofs.lemmas.Option.{slice_get_within, get_or_from_slice_get, none-some, same_Some}
use Rattle.std.proofs.lemmas.Slice.Eq.{bytes_eq-Decides}
use Rattle.interner.specs.declared.places.TheConstants.{REACH}
use Rattle.interner.specs.Interning.{AreDistinct, IsNew, digest, text_at, first_slot, told, found, look_up, Finds, TakesSlot, JoinsOthers, Seats, Interns}

-- The text at a number of the list, before and after another has joined.
stood : (texts : List (List ℕ)) (n : ℕ) → n < length texts → slice_get texts n ≡ Some (text_at texts n)
stood [] n h = absurd (omega (arith, h))
stood (x ∷ xs) zero h = refl
stood (x ∷ xs) (suc n) h = stood xs n (omega (arith, h))

text_kept : (texts : List (List ℕ)) (text : List ℕ) (n : ℕ) → n < length texts → text_at (texts ++ text ∷ []) n ≡ text_at texts n
text_kept [] text n h = absurd (omega (arith, h))
text_kept (x ∷ xs) text zero h = refl
text_kept (x ∷ xs) text (suc n) h = text_kept xs text n (omega (arith, h))

text_last : (texts : List (List ℕ)) (text : List ℕ) → text_at (texts ++ text ∷ []) (length texts) ≡ text
text_last [] text = refl
text_last (x ∷ xs) text = text_last xs text

one_more : (texts : List (List ℕ)) (text : List ℕ) → length (texts ++ text ∷ []) ≡ suc (length texts)
one_more [] text = refl
one_more (x ∷ xs) text = ap suc (one_more xs text)

joined_at : (texts : List (List ℕ)) (text other : List ℕ) (i : ℕ) → slice_get (texts ++ text ∷ []) i ≡ Some other
    → (slice_get texts i ≡ Some other) ⊎ ((i ≡ length texts) × (text ≡ other))
joined_at [] text other zero g = inr (refl, cc g)
joined_at [] text other (suc i) g = absurd (cc g)
joined_at (x ∷ xs) text other zero g = inl g
joined_at (x ∷ xs) text other (suc i) g = elim (joined_at xs text other i g) [ inl a ↦ inl a | inr b ↦ inr (ap suc b.0, b.1) ]

stays_at : (texts : List (List ℕ)) (text other : List ℕ) (i : ℕ) → slice_get texts i ≡ Some other → slice_get (texts ++ text ∷ []) i ≡ Some other
stays_at [] text other i g = absurd (cc g)
stays_at (x ∷ xs) text other zero g = g
stays_at (x ∷ xs) text other (suc i) g = stays_at xs text other i g

last_at : (texts : List (List ℕ)) (text : List ℕ) → slice_get (texts ++ text ∷ []) (length texts) ≡ Some text
last_at [] text = refl
last_at (x ∷ xs) text = last_at xs text

-- What a slot tells is so.
told_stands : (texts : List (List ℕ)) (text : List ℕ) (slot : ℕ) (later : Option ℕ) (n : ℕ) → slot ≤ length texts → (later ≡ Some n → slice_get texts n ≡ Some text)
    → told texts text slot later ≡ Some n → slice_get texts n ≡ Some text
told_stands texts text zero later n w h e = absurd (none-some n e)
told_stands texts text (suc m) later n w h e = by (bytes_eq (text_at texts m) text) refl e
  where
    by : (b : Bool) → bytes_eq (text_at texts m) text ≡ b → (if b then Some m else later) ≡ Some n → slice_get texts n ≡ Some text
    by true t s = subst (λ (k : ℕ). slice_get texts k ≡ Some text) (same_Some m n s) (stood texts m (omega (arith, w)) ∙ ap Some ((bytes_eq-Decides (text_at texts m) text).0 t))
    by false t s = h s

found_stands : (texts : List (List ℕ)) (slots text : List ℕ) (other : Option ℕ) (n : ℕ) → ((at : ℕ) → get_or slots at 0 ≤ length texts) → (other ≡ Some n → slice_get texts n ≡ Some text)
    → (left at : ℕ) → found texts slots text other at left ≡ Some n → slice_get texts n ≡ Some text
unfolding found
found_stands texts slots text other n w o zero at e = o e
found_stands texts slots text other n w o (suc left) at e =
    told_stands texts text (get_or slots at 0) (found texts slots text other (at + 1) left) n (w at) (λ s. found_stands texts slots text other n w o left (at + 1) s) e

-- A text whose number is found stands at it.
pub look_up_stands : (slots : List ℕ) (other : List ℕ → Option ℕ) (texts : List (List ℕ)) (text : List ℕ) (n : ℕ) → Finds slots other texts
    → look_up texts slots other text ≡ Some n → slice_get texts n ≡ Some text
look_up_stands slots other texts text n f e = found_stands texts slots text (other text) n f.within (f.stands text n) REACH (first_slot slots (digest text)) e

-- Texts that are found by their bytes are without repeats.
pub distinct_texts : (slots : List ℕ) (other : List ℕ → Option ℕ) (texts : List (List ℕ)) → Finds slots other texts → AreDistinct texts
distinct_texts slots other texts f i j text g h = same_Some i j (sym (f.known i text g) ∙ f.known j text h)

-- One slot further on, and after the last.
found_next : (texts : List (List ℕ)) (slots text : List ℕ) (other : Option ℕ) (at left : ℕ)
    → found texts slots text other at (suc left) ≡ told texts text (get_or slots at 0) (found texts slots text other (at + 1) left)
unfolding found
found_next texts slots text other at left = refl

found_end : (texts : List (List ℕ)) (slots text : List ℕ) (other : Option ℕ) (at : ℕ) → found texts slots text other at 0 ≡ other
unfolding found
found_end texts slots text other at = refl

pub found_more : (texts : List (List ℕ)) (slots text : List ℕ) (other : Option ℕ) (at end : ℕ) → at < end
    → found texts slots text other at (end - at) ≡ told texts text (get_or slots at 0) (found texts slots text other (at + 1) (end - (at + 1)))
found_more texts slots text other at end h =
    let one : end - at ≡ suc (end - (at + 1)) = omega (arith, h) in
    ap (λ (left : ℕ). found texts slots text other at left) one ∙ found_next texts slots text other at (end - (at + 1))

pub found_all : (texts : List (List ℕ)) (slots text : List ℕ) (other : Option ℕ) (at end : ℕ) → end ≤ at → found texts slots text other at (end - at) ≡ other
found_all texts slots text other at end h =
    let none : end - at ≡ 0 = omega (arith, h) in
    ap (λ (left : ℕ). found texts slots text other at left) none ∙ found_end texts slots text other at

-- A slot as it is read, free where it is past the end.
pub slot_read : (r : Option (Bor ℕ)) (slots : List ℕ) (at : ℕ) → is_some r ≡ nat_lt at (length slots) → IfSome r (λ x. x.now ≡ get_or slots at x.now) → unwrap_or (option_copied r) 0 ≡ get_or slots at 0
slot_read None slots at h is = sym (get_or_past slots at 0 (omega (arith, ltb-false at (length slots) (sym h))))
slot_read (Some x) slots at h is = get_or_read slots at x.now (ltb-true at (length slots) (sym h)) is 0

-- A free slot ends a look-up; one with a number ends it where the text is the same, and else hands it on.
pub found_free : (texts : List (List ℕ)) (slots text : List ℕ) (other : Option ℕ) (at end slot : ℕ) → at < end → slot ≡ get_or slots at 0 → slot ≡ 0 → found texts slots text other at (end - at) ≡ None
found_free texts slots text other at end slot h is free =
    found_more texts slots text other at end h ∙ ap (λ (s : ℕ). told texts text s (found texts slots text other (at + 1) (end - (at + 1)))) (sym is ∙ free)

with_number : (texts : List (List ℕ)) (text held : List ℕ) (slot : ℕ) (later : Option ℕ) (b : Bool) → slot ≢ 0 → slice_get texts (slot - 1) ≡ Some held → bytes_eq held text ≡ b
    → told texts text slot later ≡ (if b then Some (slot - 1) else later)
with_number texts text held zero later b z at e = absurd (z refl)
with_number texts text held (suc n) later b z at e =
    let one : suc n - 1 ≡ n = omega arith in
    ap (λ (o : Option (List ℕ)). if bytes_eq (unwrap_or o []) text then Some n else later) (ap (λ (i : ℕ). slice_get texts i) (sym one) ∙ at)
    ∙ ap (λ (t : Bool). if t then Some n else later) e ∙ ap (λ (i : ℕ). if b then Some i else later) (sym one)

pub found_taken : (texts : List (List ℕ)) (slots text : List ℕ) (other : Option ℕ) (at end slot : ℕ) (held : List ℕ) (b : Bool) → at < end → slot ≡ get_or slots at 0 → slot ≢ 0
    → slice_get texts (slot - 1) ≡ Some held → bytes_eq held text ≡ b
    → found texts slots text other at (end - at) ≡ (if b then Some (slot - 1) else found texts slots text other (at + 1) (end - (at + 1)))
found_taken texts slots text other at end slot held b h is taken stands e =
    found_more texts slots text other at end h ∙ ap (λ (s : ℕ). told texts text s (found texts slots text other (at + 1) (end - (at + 1)))) (sym is)
    ∙ with_number texts text held slot (found texts slots text other (at + 1) (end - (at + 1))) b taken stands e

-- What a slot tells of a text of the list stays so after another text has joined.
told_kept : (texts : List (List ℕ)) (new text : List ℕ) (slot : ℕ) (old later : Option ℕ) (i : ℕ) → slot ≤ length texts → (old ≡ Some i → later ≡ Some i)
    → told texts text slot old ≡ Some i → told (texts ++ new ∷ []) text slot later ≡ Some i
told_kept texts new text zero old later i w h e = absurd (none-some i e)
told_kept texts new text (suc m) old later i w h e = ap (λ (t : List ℕ). if bytes_eq t text then Some m else later) (text_kept texts new m (omega (arith, w))) ∙ by (bytes_eq (text_at texts m) text) e
  where
    by : (b : Bool) → (if b then Some m else old) ≡ Some i → (if b then Some m else later) ≡ Some i
    by true s = s
    by false s = h s

taken_slot : (texts : List (List ℕ)) (text : List ℕ) (slot : ℕ) (later : Option ℕ) (i : ℕ) → told texts text slot later ≡ Some i → slot ≢ 0
taken_slot texts text zero later i e = λ z. none-some i e
taken_slot texts text (suc m) later i e = λ z. omega (arith, z)

found_kept : (texts : List (List ℕ)) (new text slots slots_later : List ℕ) (other other_later : Option ℕ) (i : ℕ) → ((at : ℕ) → get_or slots at 0 ≤ length texts)
    → ((k : ℕ) → get_or slots k 0 ≢ 0 → get_or slots_later k 0 ≡ get_or slots k 0) → other_later ≡ other
    → (left at : ℕ) → found texts slots text other at left ≡ Some i → found (texts ++ new ∷ []) slots_later text other_later at left ≡ Some i
unfolding found
found_kept texts new text slots slots_later other other_later i w kept o zero at e = o ∙ e
found_kept texts new text slots slots_later other other_later i w kept o (suc left) at e =
    ap (λ (slot : ℕ). told (texts ++ new ∷ []) text slot (found (texts ++ new ∷ []) slots_later text other_later (at + 1) left)) (kept at (taken_slot texts text (get_or slots at 0) (found texts slots text other (at + 1) left) i e))
    ∙ told_kept texts new text (get_or slots at 0) (found texts slots text other (at + 1) left) (found (texts ++ new ∷ []) slots_later text other_later (at + 1) left) i (w at)
    (λ s. found_kept texts new text slots slots_later other other_later i w kept o left (at + 1) s) e

-- A slot with another's number tells nothing of a text that has joined; one with its own tells that.
told_passed : (texts : List (List ℕ)) (text : List ℕ) (slot : ℕ) (later : Option ℕ) → IsNew texts text → slot ≢ 0 → slot ≤ length texts → told (texts ++ text ∷ []) text slot later ≡ later
told_passed texts text zero later n z w = absurd (z refl)
told_passed texts text (suc m) later n z w = ap (λ (t : List ℕ). if bytes_eq t text then Some m else later) (text_kept texts text m (omega (arith, w))) ∙ by (bytes_eq (text_at texts m) text) refl
  where
    by : (b : Bool) → bytes_eq (text_at texts m) text ≡ b → (if b then Some m else later) ≡ later
    by true t = absurd (n m (stood texts m (omega (arith, w)) ∙ ap Some ((bytes_eq-Decides (text_at texts m) text).0 t)))
    by false t = refl

told_itself : (texts : List (List ℕ)) (text : List ℕ) (later : Option ℕ) → told (texts ++ text ∷ []) text (suc (length texts)) later ≡ Some (length texts)
told_itself texts text later =
    ap (λ (t : List ℕ). if bytes_eq t text then Some (length texts) else later) (text_last texts text) ∙ ap (λ (b : Bool). if b then Some (length texts) else later) ((bytes_eq-Decides text text).1 refl)

found_passed : (texts : List (List ℕ)) (text slots : List ℕ) (other : Option ℕ) → IsNew texts text → ((at : ℕ) → get_or slots at 0 ≤ length texts)
    → (left at : ℕ) → ((k : ℕ) → at ≤ k → k < at + left → get_or slots k 0 ≢ 0) → found (texts ++ text ∷ []) slots text other at left ≡ other
unfolding found
found_passed texts text slots other n w zero at taken = refl
found_passed texts text slots other n w (suc left) at taken =
    told_passed texts text (get_or slots at 0) (found (texts ++ text ∷ []) slots text other (at + 1) left) n (taken at (omega arith) (omega arith)) (w at)
    ∙ found_passed texts text slots other n w left (at + 1) (λ k a b. taken k (omega (arith, a)) (omega (arith, b)))

found_itself : (texts : List (List ℕ)) (text slots slots_later : List ℕ) (other : Option ℕ) (spot : ℕ) → IsNew texts text → ((at : ℕ) → get_or slots at 0 ≤ length texts)
    → ((k : ℕ) → get_or slots k 0 ≢ 0 → get_or slots_later k 0 ≡ get_or slots k 0) → get_or slots_later spot 0 ≡ suc (length texts)
    → (left at : ℕ) → at ≤ spot → spot < at + left → ((k : ℕ) → at ≤ k → k < spot → get_or slots k 0 ≢ 0)
    → found (texts ++ text ∷ []) slots_later text other at left ≡ Some (length texts)
unfolding found
found_itself texts text slots slots_later other spot n w kept here zero at a b taken = absurd (omega (arith, a, b))
found_itself texts text slots slots_later other spot n w kept here (suc left) at a b taken = elim (cases_lt at spot) [
  | inl l ↦ (let z : get_or slots at 0 ≢ 0 = taken at (omega arith) l in
      ap (λ (slot : ℕ). told (texts ++ text ∷ []) text slot (found (texts ++ text ∷ []) slots_later text other (at + 1) left)) (kept at z)
      ∙ told_passed texts text (get_or slots at 0) (found (texts ++ text ∷ []) slots_later text other (at + 1) left) n z (w at)
      ∙ found_itself texts text slots slots_later other spot n w kept here left (at + 1) (omega (arith, l)) (omega (arith, b)) (λ k c d. taken k (omega (arith, c)) d))
  | inr g ↦ (let same : at ≡ spot = omega (arith, a, g) in
      ap (λ (slot : ℕ). told (texts ++ text ∷ []) text slot (found (texts ++ text ∷ []) slots_later text other (at + 1) left)) (ap (λ (k : ℕ). get_or slots_later k 0) same ∙ here)
      ∙ told_itself texts text (found (texts ++ text ∷ []) slots_later text other (at + 1) left))
]

set_within : (xs : List ℕ) (i k y n : ℕ) → get_or xs k 0 ≤ n → y ≤ n → get_or (set xs i y) k 0 ≤ n
set_within [] i k y n h l = h
set_within (x ∷ xs) zero zero y n h l = l
set_within (x ∷ xs) zero (suc k) y n h l = h
set_within (x ∷ xs) (suc i) zero y n h l = h
set_within (x ∷ xs) (suc i) (suc k) y n h l = set_within xs i k y n h l

-- A text that was new has joined the list at its end, and its number a slot or the map.
by_slot : (slots later : List ℕ) (before after : List ℕ → Option ℕ) (texts : List (List ℕ)) (text : List ℕ) (number : ℕ) → REACH ≤ length slots → number ≡ length texts
    → IsNew texts text → Finds slots before texts → TakesSlot slots later before after text number → Finds later after (texts ++ text ∷ [])
by_slot slots later before after texts text number room last n f t =
    let kept : (k : ℕ) → get_or slots k 0 ≢ 0 → get_or later k 0 ≡ get_or slots k 0 = λ k z.
    (let apart : k ≢ t.at = λ e. z (ap (λ (i : ℕ). get_or slots i 0) e ∙ t.first.free) in
    ap (λ (xs : List ℕ). get_or xs k 0) t.slots ∙ get_or-set_other slots t.at k (number + 1) 0 apart) in
    let first : (made : ℕ) → first_slot later made ≡ first_slot slots made = λ made. ap (λ (m : ℕ). bit_and made (m - REACH)) (ap length t.slots ∙ length-set slots t.at (number + 1)) in
    let inside : t.at < length slots = omega (arith, t.first.before, room, and_le_r (digest text) (length slots - REACH)) in
    let here : get_or later t.at 0 ≡ suc (length texts) = ap (λ (xs : List ℕ). get_or xs t.at 0) t.slots ∙ get_or-set_same slots t.at (number + 1) 0 inside ∙ omega (arith, last) in
    record {
      within = λ at. subst (λ (xs : List ℕ). get_or xs at 0 ≤ length (texts ++ text ∷ [])) (sym t.slots)
          (set_within slots t.at at (number + 1) (length (texts ++ text ∷ [])) (omega (arith, f.within at, one_more texts text)) (omega (arith, last, one_more texts text)));
      stands = λ q i e. stays_at texts text q i (f.stands q i (sym (t.others q) ∙ e));
      known = λ i q g. elim (joined_at texts text q i g) [
        | inl a ↦ ap (λ (at : ℕ). found (texts ++ text ∷ []) later q (after q) at REACH) (first (digest q))
            ∙ found_kept texts text q slots later (before q) (after q) i f.within kept (t.others q) REACH (first_slot slots (digest q)) (f.known i q a)
        | inr b ↦ subst (λ (q : List ℕ). look_up (texts ++ text ∷ []) later after q ≡ Some i) b.1
            (ap (λ (at : ℕ). found (texts ++ text ∷ []) later text (after text) at REACH) (first (digest text))
            ∙ found_itself texts text slots later (after text) t.at n f.within kept here REACH (first_slot slots (digest text)) t.first.after t.first.before t.first.taken
            ∙ ap Some (sym b.0))
      ];
    }

by_others : (slots later : List ℕ) (before after : List ℕ → Option ℕ) (texts : List (List ℕ)) (text : List ℕ) (number : ℕ) → number ≡ length texts
    → IsNew texts text → Finds slots before texts → JoinsOthers slots later before after text number → Finds later after (texts ++ text ∷ [])
by_others slots later before after texts text number last n f j =
    subst (λ (xs : List ℕ). Finds xs after (texts ++ text ∷ [])) (sym j.slots) (record {
      within = λ at. omega (arith, f.within at, one_more texts text);
      stands = λ q i e. elim (cases_Bool (bytes_eq q text)) [
        | inl y ↦ (let same : q ≡ text = (bytes_eq-Decides q text).0 y in
            let at : number ≡ i = same_Some number i (sym j.has ∙ ap after (sym same) ∙ e) in
            ap (λ (k : ℕ). slice_get (texts ++ text ∷ []) k) (sym at ∙ last) ∙ last_at texts text ∙ ap Some (sym same))
        | inr d ↦ (let apart : q ≢ text = λ same. (let y : bytes_eq q text ≡ true = (bytes_eq-Decides q text).1 same in absurd (cc (d, y))) in
            stays_at texts text q i (f.stands q i (sym (j.others q apart) ∙ e)))
      ];
      known = λ i q g. elim (joined_at texts text q i g) [
        | inl a ↦ (let apart : q ≢ text = λ same. n i (a ∙ ap Some same) in
            found_kept texts text q slots slots (before q) (after q) i f.within (λ k z. refl) (j.others q apart) REACH (first_slot slots (digest q)) (f.known i q a))
        | inr b ↦ subst (λ (q : List ℕ). look_up (texts ++ text ∷ []) slots after q ≡ Some i) b.1
            (found_passed texts text slots (after text) n f.within REACH (first_slot slots (digest text)) j.taken ∙ j.has ∙ ap Some (last ∙ sym b.0))
      ];
    })

pub seated : (slots later : List ℕ) (before after : List ℕ → Option ℕ) (texts : List (List ℕ)) (text : List ℕ) (number : ℕ) → REACH ≤ length slots → number ≡ length texts
    → IsNew texts text → Finds slots before texts → Seats slots later before after text number → Finds later after (texts ++ text ∷ [])
seated slots later before after texts text number room last n f (inl t) = by_slot slots later before after texts text number room last n f t
seated slots later before after texts text number room last n f (inr j) = by_others slots later before after texts text number last n f j

-- The texts before a number, in a list without repeats.
front_at : (n : ℕ) (texts : List (List ℕ)) (text : List ℕ) (i : ℕ) → slice_get (take n texts) i ≡ Some text → (slice_get texts i ≡ Some text) × (i < n)
front_at zero texts text i g = absurd (none-some text g)
front_at (suc n) [] text i g = absurd (none-some text g)
front_at (suc n) (x ∷ xs) text zero g = (g, omega arith)
front_at (suc n) (x ∷ xs) text (suc i) g = let h = front_at n xs text i g in (h.0, omega (arith, h.1))

pub new_after : (texts : List (List ℕ)) (n : ℕ) (text : List ℕ) → AreDistinct texts → slice_get texts n ≡ Some text → IsNew (take n texts) text
new_after texts n text d at i g =
    let h = front_at n texts text i g in
    let same : i ≡ n = d i n text h.0 at in
    omega (arith, h.1, same)

pub one_taken : (texts : List (List ℕ)) (n : ℕ) (text : List ℕ) → slice_get texts n ≡ Some text → take (n + 1) texts ≡ take n texts ++ text ∷ []
one_taken texts n text at = take_more texts n text (slice_get_within texts n text at) ∙ ap (λ (t : List ℕ). take n texts ++ t ∷ []) (get_or_from_slice_get texts n text text at)

-- A text that has joined has a number.
pub joined_interns : {E : Type 0} (r : Result ℕ E) (old new : List (List ℕ)) (text : List ℕ) → IfOk r (λ n. n ≡ length old) → OnOk r (new ≡ old ++ text ∷ []) → IfOk r (λ n. Interns old new text n)
joined_interns (Ok n) old new text at is =
    record { joins = inr is; stands = ap (λ (texts : List (List ℕ)). slice_get texts n) is ∙ ap (λ (i : ℕ). slice_get (old ++ text ∷ []) i) at ∙ last_at old text }
joined_interns (Err fault) old new text at is = tt
