-- What is gone, and what is left.
use Rattle.std.proofs.Common.{◌≡◌, ℕ, zero, suc, ◌+◌, ◌-◌, ◌<◌, ◌≤◌, Bool, true, false, ◌||◌, List, [], ◌∷◌, ◌++◌, Some, length, get_or, drop, refl, sym, ap, ◌∙◌, subst, arith, length-append}
use Rattle.std.specs.Prelude.{replicate, slice_get}
use Rattle.std.proofs.lemmas.List.{drop_more}
use Rattle.wf_ast.specs.declared.things.Thing.{Thing}
use Rattle.wf_ast.specs.declared.typed_nodes.TypedNodes.{TypedNodes}
use Rattle.wf_facts_exprs.specs.declared.facts.Fact.{Fact}
use Rattle.wf_facts_exprs.specs.Claims.{claims_in}
use Rattle.wf_facts_exprs.specs.Knowledge.{left_of}
use Rattle.wf_facts_exprs.specs.Sets.{member, members, marked, IsSetOf, unmarked}
use Rattle.wf_facts_exprs.proofs.SetLemmas.{all_stay, length-members, length-unmarked, marked_members, marked_past, members_known, none_in_zeros, unmarked-push}
use Rattle.wf_facts.specs.FactLists.{without}
use Rattle.wf_facts.specs.IndexedFacts.{AreOver, IsOver, FactList, Slots, has_set, marks_left, mentioning, set_of}
use Rattle.wf_facts.proofs.DropLemmas.{claims-unmarked, length-mentioning, map-unmarked, mentions_in}

-- ---- two sets in one

abbrev pub or_marks : (gs ms : List Bool) → List Bool
or_marks [] ms = ms
or_marks (g ∷ gs) [] = g ∷ gs
or_marks (g ∷ gs) (m ∷ ms) = (g || m) ∷ or_marks gs ms

or-push : (gs ms : List Bool) (g m : Bool) → length gs ≡ length ms → or_marks (gs ++ g ∷ []) (ms ++ m ∷ []) ≡ or_marks gs ms ++ (g || m) ∷ []
or-push [] [] g m h = refl
or-push (a ∷ gs) (b ∷ ms) g m h = ap (λ cs. (a || b) ∷ cs) (or-push gs ms g m (omega (arith, h)))
or-push [] (b ∷ ms) g m h = absurd (omega (arith, h))
or-push (a ∷ gs) [] g m h = absurd (omega (arith, h))

joined : (gone s after : List ℕ) (n : ℕ) → n ≤ 512 → ((k : ℕ) → k < 512 → member after k ≡ (member gone k || member s k)) → members after n ≡ or_marks (members gone n) (members s n)
joined gone s after zero few both = refl
joined gone s after (suc n) few both =
    ap (λ ms. ms ++ member after n ∷ []) (joined gone s after n (omega (arith, few)) both) ∙ ap (λ m. or_marks (members gone n) (members s n) ++ m ∷ []) (both n (omega (arith, few)))
    ∙ sym (or-push (members gone n) (members s n) (member gone n) (member s n) (length-members gone n ∙ sym (length-members s n)))

unmarked-or : {X : Type 0} (gs ms : List Bool) (xs : List X) → length gs ≡ length xs → length ms ≡ length xs → unmarked (or_marks gs ms) xs ≡ unmarked (unmarked gs ms) (unmarked gs xs)
unmarked-or [] [] [] h k = refl
unmarked-or (true ∷ gs) (m ∷ ms) (x ∷ xs) h k = unmarked-or gs ms xs (omega (arith, h)) (omega (arith, k))
unmarked-or (false ∷ gs) (true ∷ ms) (x ∷ xs) h k = unmarked-or gs ms xs (omega (arith, h)) (omega (arith, k))
unmarked-or (false ∷ gs) (false ∷ ms) (x ∷ xs) h k = ap (λ ys. x ∷ ys) (unmarked-or gs ms xs (omega (arith, h)) (omega (arith, k)))
unmarked-or [] ms (x ∷ xs) h k = absurd (omega (arith, h))
unmarked-or (g ∷ gs) ms [] h k = absurd (omega (arith, h))
unmarked-or gs [] (x ∷ xs) h k = absurd (omega (arith, k))
unmarked-or gs (m ∷ ms) [] h k = absurd (omega (arith, k))

pub left-joined : (gone s after : List ℕ) (fs : List Fact) → length fs ≤ 512 → ((k : ℕ) → k < 512 → member after k ≡ (member gone k || member s k))
    → left_of after fs ≡ unmarked (unmarked (members gone (length fs)) (members s (length fs))) (left_of gone fs)
left-joined gone s after fs few both =
    ap (λ ms. unmarked ms fs) (joined gone s after (length fs) few both) ∙ unmarked-or (members gone (length fs)) (members s (length fs)) fs (length-members gone (length fs)) (length-members s (length fs))

-- ---- what mentions a thing is dropped

marks-mentioning : (nodes : TypedNodes) (x : Thing) (gone s : List ℕ) (fs : List Fact) → length fs ≤ 512 → IsSetOf s (mentioning nodes x fs) → unmarked (members gone (length fs)) (members s (length fs)) ≡ mentioning nodes x (left_of gone fs)
marks-mentioning nodes x gone s fs few set =
    ap (unmarked (members gone (length fs))) (members_known s (mentioning nodes x fs) set (length fs) (length-mentioning nodes x fs) few) ∙ sym (map-unmarked (mentions_in nodes x) (members gone (length fs)) fs)

module _ (nodes : TypedNodes) (x : Thing) (gone s after : List ℕ) (fs : List Fact) (few : length fs ≤ 512) (both : (k : ℕ) → k < 512 → member after k ≡ (member gone k || member s k)) (set : IsSetOf s (mentioning nodes x fs)) where
  pub claims-left : claims_in nodes (left_of after fs) ≡ without x (claims_in nodes (left_of gone fs))
  claims-left =
      ap (claims_in nodes) (left-joined gone s after fs few both ∙ ap (λ ms. unmarked ms (left_of gone fs)) (marks-mentioning nodes x gone s fs few set)) ∙ claims-unmarked nodes x (left_of gone fs)

  pub none_behind : ((k : ℕ) → length fs ≤ k → k < 512 → member gone k ≡ false) → (k : ℕ) → length fs ≤ k → k < 512 → member after k ≡ false
  none_behind inside k h low =
      both k low ∙ ap (λ m. m || member s k) (inside k h low) ∙ set.at k low ∙ marked_past (mentioning nodes x fs) k (omega (arith, h, length-mentioning nodes x fs))

-- The same of a list whose slots and gone facts are named anew.
module _ (nodes : TypedNodes) (known mid : FactList) (same : mid ≡ known) where
  pub slots_over : IsOver nodes known → AreOver nodes mid.slots
  slots_over over = let P : FactList → Type 0 = λ k. AreOver nodes k.slots in subst P (sym same) over.slots

  pub own_set : IsOver nodes known → (x : Thing) → has_set x ≡ true → (s : List ℕ) → s ≡ set_of mid.slots x → IsSetOf s (mentioning nodes x mid.slots.list)
  own_set over x h s is = let P : List ℕ → Type 0 = λ ws. IsSetOf ws (mentioning nodes x mid.slots.list) in subst P (sym is) ((slots_over over).sets x h)

  over_mid : IsOver nodes known → IsOver nodes mid
  over_mid over = let P : FactList → Type 0 = IsOver nodes in subst P (sym same) over

  module _ (x : Thing) (s after : List ℕ) (over : IsOver nodes known) (both : (k : ℕ) → k < 512 → member after k ≡ (member mid.gone k || member s k)) where
    pub claims-without : IsSetOf s (mentioning nodes x mid.slots.list) → claims_in nodes (left_of after mid.slots.list) ≡ without x (claims_in nodes known.list)
    claims-without set =
        let own = over_mid over in
        claims-left nodes x mid.gone s after mid.slots.list own.few both set ∙ ap (λ fs. without x (claims_in nodes fs)) (sym own.left ∙ ap (λ k. k.list) same)

    pub IsOver-lost : IsSetOf s (mentioning nodes x mid.slots.list) → IsOver nodes (record { list = left_of after mid.slots.list; slots = mid.slots; gone = after })
    IsOver-lost set =
        let own = over_mid over in
        record {
          slots = own.slots;
          few = own.few;
          left = refl;
          inside = none_behind nodes x mid.gone s after mid.slots.list own.few both set own.inside;
        }

    pub list-without : s ≡ set_of mid.slots x → left_of after mid.slots.list ≡ unmarked (marks_left known (set_of known.slots x)) known.list
    list-without is =
        let own = over_mid over in
        let P : FactList → Type 0 = λ k. left_of after mid.slots.list ≡ unmarked (marks_left k (set_of k.slots x)) k.list in
        subst P same (left-joined mid.gone s after mid.slots.list own.few both
        ∙ ap (λ ws. unmarked (unmarked (members mid.gone (length mid.slots.list)) (members ws (length mid.slots.list))) (left_of mid.gone mid.slots.list)) is
        ∙ ap (unmarked (marks_left mid (set_of mid.slots x))) (sym own.left))

  -- The set that is lent of a thing has the facts that are left.
  pub about_left : IsOver nodes known → (x : Thing) → has_set x ≡ true → (s : List ℕ) → s ≡ set_of mid.slots x → (words : List ℕ) (n : ℕ) → n ≡ length mid.slots.list → IsSetOf words (unmarked (members mid.gone n) (members s n))
      → IsSetOf words (mentioning nodes x known.list)
  about_left over x h s is words n count set =
      let own = over_mid over in
      let P : ℕ → Type 0 = λ m. IsSetOf words (unmarked (members mid.gone m) (members s m)) in
      let Q : List Bool → Type 0 = IsSetOf words in
      let R : List Fact → Type 0 = λ fs. IsSetOf words (mentioning nodes x fs) in
      subst R (sym own.left ∙ ap (λ k. k.list) same)
      (subst Q (marks-mentioning nodes x mid.gone s mid.slots.list own.few (own_set over x h s is)) (subst P count set))

-- ---- the slots are closed up

pub left-none : (gone : List ℕ) (fs : List Fact) → gone ≡ replicate 8 0 → left_of gone fs ≡ fs
left-none gone fs none =
    let P : List ℕ → Type 0 = λ g. left_of g fs ≡ fs in
    subst P (sym none) (all_stay (replicate 8 0) (length fs) fs (λ k h. none_in_zeros k))

pub IsOver-whole : (nodes : TypedNodes) (slots : Slots) (gone : List ℕ) → AreOver nodes slots → length slots.list ≤ 512 → gone ≡ replicate 8 0 → IsOver nodes (record { list = left_of gone slots.list; slots = slots; gone = gone })
IsOver-whole nodes slots gone over few none = record {
  slots = over;
  few = few;
  left = refl;
  inside = λ k h low. ap (λ g. member g k) none ∙ none_in_zeros k;
}

pub IsOver-empty : (nodes : TypedNodes) (slots : Slots) (gone : List ℕ) → AreOver nodes slots → slots.list ≡ [] → gone ≡ replicate 8 0 → IsOver nodes (record { list = left_of gone slots.list; slots = slots; gone = gone })
IsOver-empty nodes slots gone over none whole = IsOver-whole nodes slots gone over (omega (arith, ap length none)) whole

-- ---- one fact more

pub left-pushed : (gone : List ℕ) (fs : List Fact) (f : Fact) → member gone (length fs) ≡ false → left_of gone (fs ++ f ∷ []) ≡ left_of gone fs ++ f ∷ []
left-pushed gone fs f stays =
    let long : length (fs ++ f ∷ []) ≡ suc (length fs) = length-append fs (f ∷ []) ∙ omega arith in
    ap (λ n. unmarked (members gone n) (fs ++ f ∷ [])) long ∙ unmarked-push (members gone (length fs)) fs (member gone (length fs)) f (length-members gone (length fs))
    ∙ ap (λ m. left_of gone fs ++ unmarked (m ∷ []) (f ∷ [])) stays

pub IsOver-appended : (nodes : TypedNodes) (known : FactList) (slots : Slots) (f : Fact) → IsOver nodes known → AreOver nodes slots → slots.list ≡ known.slots.list ++ f ∷ [] → length known.slots.list < 512
    → IsOver nodes (record { list = left_of known.gone slots.list; slots = slots; gone = known.gone })
IsOver-appended nodes known slots f over more is room =
    let long : length slots.list ≡ suc (length known.slots.list) = ap length is ∙ length-append known.slots.list (f ∷ []) ∙ omega arith in
    record {
      slots = more;
      few = omega (arith, long, room);
      left = refl;
      inside = λ k h low. over.inside k (omega (arith, h, long)) low;
    }

-- ---- how many are left

pub left-few : (gone : List ℕ) (fs : List Fact) → length (left_of gone fs) ≤ length fs
left-few gone fs = length-unmarked (members gone (length fs)) fs

fewer : {X : Type 0} (ms : List Bool) (xs : List X) (k : ℕ) → k < length xs → marked ms k ≡ true → length (unmarked ms xs) < length xs
fewer ms [] k h m = absurd (omega (arith, h))
fewer [] (x ∷ xs) k h m = absurd (cc (m))
fewer (true ∷ ms) (x ∷ xs) k h m = omega (arith, length-unmarked ms xs)
fewer (false ∷ ms) (x ∷ xs) zero h m = absurd (cc (m))
fewer (false ∷ ms) (x ∷ xs) (suc k) h m = omega (arith, fewer ms xs k (omega (arith, h)) m)

pub left-fewer : (gone : List ℕ) (fs : List Fact) (k : ℕ) → k < length fs → member gone k ≡ true → length (left_of gone fs) < length fs
left-fewer gone fs k h is = fewer (members gone (length fs)) fs k h (marked_members gone (length fs) k h ∙ is)

-- ---- the facts that are left, one after the other

abbrev pub left_from : (gone : List ℕ) → List Fact → ℕ → List Fact
left_from gone fs i = unmarked (drop i (members gone (length fs))) (drop i fs)

drop_past : {X : Type 0} (xs : List X) (k : ℕ) → length xs ≤ k → drop k xs ≡ []
drop_past [] zero h = refl
drop_past [] (suc k) h = refl
drop_past (x ∷ xs) zero h = absurd (omega (arith, h))
drop_past (x ∷ xs) (suc k) h = drop_past xs k (omega (arith, h))

got_marked : (ms : List Bool) (i : ℕ) (d : Bool) → i < length ms → get_or ms i d ≡ marked ms i
got_marked [] i d h = absurd (omega (arith, h))
got_marked (m ∷ ms) zero d h = refl
got_marked (m ∷ ms) (suc i) d h = got_marked ms i d (omega (arith, h))

unmarked_past : {X : Type 0} (ms : List Bool) → unmarked {X = X} ms [] ≡ []
unmarked_past [] = refl
unmarked_past (m ∷ ms) = refl

module _ (gone : List ℕ) (fs : List Fact) where
  left_more : (i : ℕ) (d : Fact) → i < length fs → left_from gone fs i ≡ unmarked (member gone i ∷ drop (i + 1) (members gone (length fs))) (get_or fs i d ∷ drop (i + 1) fs)
  left_more i d h =
      let long = length-members gone (length fs) in
      let within : i < length (members gone (length fs)) = omega (arith, h, long) in
      ap (λ ms. unmarked ms (drop i fs)) (drop_more (members gone (length fs)) i false within ∙ ap (λ m. m ∷ drop (i + 1) (members gone (length fs))) (got_marked (members gone (length fs)) i false within ∙ marked_members gone (length fs) i h))
      ∙ ap (unmarked (member gone i ∷ drop (i + 1) (members gone (length fs)))) (drop_more fs i d h)

  pub left_on : (i : ℕ) (d : Fact) → i < length fs → member gone i ≡ true → left_from gone fs i ≡ left_from gone fs (i + 1)
  left_on i d h out = left_more i d h ∙ ap (λ m. unmarked (m ∷ drop (i + 1) (members gone (length fs))) (get_or fs i d ∷ drop (i + 1) fs)) out

  pub left_here : (i : ℕ) (d : Fact) → i < length fs → member gone i ≡ false → left_from gone fs i ≡ get_or fs i d ∷ left_from gone fs (i + 1)
  left_here i d h stays = left_more i d h ∙ ap (λ m. unmarked (m ∷ drop (i + 1) (members gone (length fs))) (get_or fs i d ∷ drop (i + 1) fs)) stays

  pub left_past : (i : ℕ) → length fs ≤ i → left_from gone fs i ≡ []
  left_past i h = ap (unmarked (drop i (members gone (length fs)))) (drop_past fs i h) ∙ unmarked_past (drop i (members gone (length fs)))

pub got_is : (fs : List Fact) (i : ℕ) (f : Fact) → slice_get fs i ≡ Some f → get_or fs i f ≡ f
got_is [] i f h = refl
got_is (g ∷ fs) zero f h = cc (h)
got_is (g ∷ fs) (suc i) f h = got_is fs i f h

pub got_later : (f : Fact) (fs : List Fact) (n : ℕ) → 0 < n → slice_get (f ∷ fs) n ≡ slice_get fs (n - 1)
got_later f fs zero h = absurd (omega (arith, h))
got_later f fs (suc n) h = let e : n ≡ suc n - 1 = omega arith in ap (slice_get fs) e

-- ---- what a push asks

pub few_left : (nodes : TypedNodes) (known : FactList) → IsOver nodes known → length known.list ≤ 512
few_left nodes known over = omega (arith, ap length over.left, left-few known.gone known.slots.list, over.few)

pub own_stays : (known : FactList) (nodes : TypedNodes) → IsOver nodes known → (mid : FactList) → mid ≡ known → length known.slots.list < 512 → member mid.gone (length mid.slots.list) ≡ false
own_stays known nodes over mid same room =
    let P : FactList → Type 0 = λ k. member k.gone (length k.slots.list) ≡ false in
    subst P (sym same) (over.inside (length known.slots.list) (omega arith) room)

pub all_left : (nodes : TypedNodes) (known mid : FactList) → mid ≡ known → IsOver nodes known → length mid.slots.list ≡ 512 → ((k : ℕ) → k < 512 → member mid.gone k ≡ false) → length known.list ≡ 512
all_left nodes known mid same over long none =
    let own : IsOver nodes mid = let P : FactList → Type 0 = IsOver nodes in subst P (sym same) over in
    ap (λ k. length k.list) (sym same) ∙ ap length (own.left ∙ all_stay mid.gone (length mid.slots.list) mid.slots.list (λ k h. none k (omega (arith, h, long)))) ∙ long

pub room_made : (nodes : TypedNodes) (known mid : FactList) → mid ≡ known → IsOver nodes known → length mid.slots.list ≡ 512 → (k : ℕ) → k < 512 → member mid.gone k ≡ true → (after : List Fact) → after ≡ known.list → length after < 512
room_made nodes known mid same over long k low is after whole =
    let own : IsOver nodes mid = let P : FactList → Type 0 = IsOver nodes in subst P (sym same) over in
    let less = left-fewer mid.gone mid.slots.list k (omega (arith, low, long)) is in
    omega (arith, ap length whole, ap (λ f. length f.list) (sym same), ap length own.left, less, long)
