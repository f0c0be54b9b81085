-- Facts come into the list.
use Rattle.std.proofs.Common.{◌≡◌, ℕ, suc, ◌+◌, ◌<◌, ◌≤◌, Bool, true, false, not, ◌&&◌, ◌||◌, List, [], ◌∷◌, ◌++◌, length, get_or, take, map, refl, sym, ap, ◌∙◌, subst, arith}
use Rattle.std.specs.Prelude.{filter, nat_eq}
use Rattle.std.proofs.lemmas.Bool.Decides.{nat_tests}
use Rattle.std.proofs.lemmas.List.{take_more, length-take-le, length-map, map-append}
use Rattle.std.proofs.lemmas.List.Elements.{All-push}
use Rattle.wf_ast.specs.declared.variables.FieldId.{FieldId}
use Rattle.wf_ast.specs.declared.things.Thing.{Thing}
use Rattle.wf_ast.specs.declared.things.Thing.TheVariants as things
use Rattle.wf_ast.specs.declared.typed_nodes.TypedNodes.{TypedNodes}
use Rattle.wf_facts_exprs.specs.declared.facts.Fact.{Fact}
use Rattle.wf_facts_exprs.specs.Claims.{Claim, claim_in, claims_in, claim_mentions, is_among, is_fact}
use Rattle.wf_facts_exprs.specs.declared.sets.FactSet.{FactSet}
use Rattle.wf_facts_exprs.specs.Heads.{claim_head, having_head}
use Rattle.wf_facts_exprs.specs.NumberedSets.{Marks, words_at}
use Rattle.wf_facts_exprs.specs.Sets.{member, members, IsAround, IsSetOf, Within, unmarked}
use Rattle.wf_facts.specs.FactLists.{common}
use Rattle.wf_facts.specs.IndexedFacts.{Slots, AreOver, MarksThings, field_set, has_set, set_number, set_of, mentioning, thing_of}
use Rattle.wf_facts_exprs.proofs.SetLemmas.{members_known, IsSetOf-put}
use Rattle.wf_facts.proofs.DropLemmas.{length-mentioning, length-within, number_below}

-- The marks of a test.
pub marks-more : (p : Fact → Bool) (fs : List Fact) (i : ℕ) (d : Fact) → i < length fs → (words written : List ℕ) → IsSetOf words (map p (take i fs))
    → (b : Bool) → b ≡ p (get_or fs i d) → ((k : ℕ) → k < 512 → member written k ≡ ((nat_eq k i && b) || member words k)) → IsSetOf written (map p (take (i + 1) fs))
marks-more p fs i d h words written set b is put =
    let e : length (map p (take i fs)) ≡ i = length-map (take i fs) p ∙ length-take-le i fs (omega (arith, h)) in
    let Q : ℕ → Type 0 = λ n. (k : ℕ) → k < 512 → member written k ≡ ((nat_eq k n && b) || member words k) in
    let P : List Bool → Type 0 = IsSetOf written in
    let more : map p (take (i + 1) fs) ≡ map p (take i fs) ++ p (get_or fs i d) ∷ [] = ap (map p) (take_more fs i d h) ∙ map-append p (take i fs) (get_or fs i d ∷ []) in
    subst P (ap (λ c. map p (take i fs) ++ c ∷ []) is ∙ sym more) (IsSetOf-put words written (map p (take i fs)) b set (subst Q (sym e) put))

pub marks-none : (p : Fact → Bool) (fs : List Fact) (i : ℕ) (d : Fact) → i < length fs → (words : List ℕ) → IsSetOf words (map p (take i fs)) → p (get_or fs i d) ≡ false
    → IsSetOf words (map p (take (i + 1) fs))
marks-none p fs i d h words set none = marks-more p fs i d h words words set false (sym none) (λ k low. by (nat_eq k i) (member words k))
  where
    by : (e b : Bool) → b ≡ ((e && false) || b)
    by true b = refl
    by false b = refl

pub marks-one : (p : Fact → Bool) (fs : List Fact) (i : ℕ) (d : Fact) → i < length fs → (words written : List ℕ) → IsSetOf words (map p (take i fs)) → p (get_or fs i d) ≡ true
    → ((k : ℕ) → k < 512 → member written k ≡ (nat_eq k i || member words k)) → IsSetOf written (map p (take (i + 1) fs))
marks-one p fs i d h words written set one put = marks-more p fs i d h words written set true (sym one) (λ k low. put k low ∙ by (nat_eq k i) (member words k))
  where
    by : (e b : Bool) → (e || b) ≡ ((e && true) || b)
    by true b = refl
    by false b = refl

filtered : (nodes : TypedNodes) (q : Claim → Bool) (fs : List Fact) → claims_in nodes (unmarked (map (λ f. not (q (claim_in nodes f))) fs) fs) ≡ filter q (claims_in nodes fs)
filtered nodes q [] = refl
filtered nodes q (f ∷ fs) = by (q (claim_in nodes f)) refl (filtered nodes q fs)
  where
    by : (b : Bool) → q (claim_in nodes f) ≡ b → claims_in nodes (unmarked (map (λ f. not (q (claim_in nodes f))) fs) fs) ≡ filter q (claims_in nodes fs)
        → claims_in nodes (unmarked (map (λ f. not (q (claim_in nodes f))) (f ∷ fs)) (f ∷ fs)) ≡ filter q (claims_in nodes (f ∷ fs))
    by true h rest = rw h (ap (λ cs. claim_in nodes f ∷ cs) rest)
    by false h rest = rw h rest

pub claims-common : (nodes : TypedNodes) (fs others xs ys : List Fact) (words : List ℕ) → xs ≡ fs → ys ≡ others → length fs ≤ 512
    → IsSetOf words (map (λ f. not (is_among (claims_in nodes ys) (claim_in nodes f))) xs)
    → claims_in nodes (unmarked (members words (length fs)) fs) ≡ common (claims_in nodes fs) (claims_in nodes others)
claims-common nodes fs others xs ys words left right few seen =
    let P : List Fact → Type 0 = λ gs. IsSetOf words (map (λ f. not (is_among (claims_in nodes ys) (claim_in nodes f))) gs) in
    let Q : List Fact → Type 0 = λ gs. IsSetOf words (map (λ f. not (is_among (claims_in nodes gs) (claim_in nodes f))) fs) in
    let set = subst Q right (subst P left seen) in
    let p : Fact → Bool = λ f. not (is_among (claims_in nodes others) (claim_in nodes f)) in
    let known = members_known words (map p fs) set (length fs) (sym (length-map fs p)) few in
    ap (λ ms. claims_in nodes (unmarked ms fs)) known ∙ filtered nodes (λ c. is_among (claims_in nodes others) c) fs

-- A thing with a set is the one whose set stands there.
thing_back : (x : Thing) → has_set x ≡ true → thing_of (set_number x) ≡ x
thing_back (things.Local x) h =
    let e : 4 + x.0 ≡ suc (suc (suc (suc x.0))) = omega arith in ap thing_of e
thing_back things.This h = refl
thing_back things.Args h = refl
thing_back things.Element h = refl
thing_back things.SliceLocals h = refl
thing_back (things.Field x) h = absurd (cc (h))
thing_back (things.Arg x) h = absurd (cc (h))

eq_turned : (m n : ℕ) → nat_eq m n ≡ nat_eq n m
eq_turned m n = grind (arith, nat_tests)

-- What is marked among others, and one more.
within-push : (ms ws : List Bool) (m w : Bool) → Within ms ws → (m ≡ true → w ≡ true) → Within (ms ++ m ∷ []) (ws ++ w ∷ [])
within-push [] [] m w h it = (it, tt)
within-push (a ∷ ms) (b ∷ ws) m w h it = (h.0, within-push ms ws m w h.1 it)
within-push [] (b ∷ ws) m w h it = absurd h
within-push (a ∷ ms) [] m w h it = absurd h

module _ (nodes : TypedNodes) (old : Slots) (f : Fact) (sets fields heads : List FactSet) (head : ℕ) (marks : MarksThings (length old.list) (λ x. claim_mentions x (claim_in nodes f)) old.sets old.fields sets fields)
    (by_head : Marks (length old.list) (λ k. nat_eq k head) old.heads heads) (is : head ≡ claim_head (claim_in nodes f)) (over : AreOver nodes old) where
  more_sets : (x : Thing) → has_set x ≡ true → IsSetOf (words_at sets (set_number x)) (mentioning nodes x (old.list ++ f ∷ []))
  more_sets x h =
      let k = set_number x in
      let b = claim_mentions x (claim_in nodes f) in
      let put : (j : ℕ) → j < 512 → member (words_at sets k) j ≡ ((nat_eq j (length (mentioning nodes x old.list)) && b) || member (set_of old x) j) = λ j low.
      marks.things k (number_below x h) j low
      ∙ ap (λ m. (nat_eq j m && claim_mentions (thing_of k) (claim_in nodes f)) || member (words_at old.sets k) j) (length-mentioning nodes x old.list)
      ∙ ap (λ y. (nat_eq j (length (mentioning nodes x old.list)) && claim_mentions y (claim_in nodes f)) || member (words_at old.sets k) j) (thing_back x h) in
      let P : List Bool → Type 0 = IsSetOf (words_at sets k) in
      subst P (sym (map-append (λ g. claim_mentions x (claim_in nodes g)) old.list (f ∷ []))) (IsSetOf-put (set_of old x) (words_at sets k) (mentioning nodes x old.list) b (over.sets x h) put)

  more_fields : (x : FieldId) → IsAround (words_at fields (field_set x)) (mentioning nodes (things.Field x) (old.list ++ f ∷ []))
  more_fields x =
      let around = over.fields x in
      let m = marks.shared (field_set x) (omega arith) in
      let long : length old.list ≡ length around.whole = length-mentioning nodes (things.Field x) old.list ∙ sym (length-within _ around.whole around.holds) in
      let put : (j : ℕ) → j < 512 → member (words_at fields (field_set x)) j ≡ ((nat_eq j (length around.whole) && m.comes) || member (words_at old.fields (field_set x)) j) = λ j low.
      m.places j low ∙ ap (λ n. (nat_eq j n && m.comes) || member (words_at old.fields (field_set x)) j) long in
      let P : List Bool → Type 0 = λ ms. Within ms (around.whole ++ m.comes ∷ []) in
      record {
        whole = around.whole ++ m.comes ∷ [];
        is = IsSetOf-put (words_at old.fields (field_set x)) (words_at fields (field_set x)) around.whole m.comes around.is put;
        holds = subst P (sym (map-append (λ g. claim_mentions (things.Field x) (claim_in nodes g)) old.list (f ∷ [])))
            (within-push (mentioning nodes (things.Field x) old.list) around.whole (claim_mentions (things.Field x) (claim_in nodes f)) m.comes around.holds (m.holds x refl));
      }

  more_heads : (h : ℕ) → h < 256 → IsSetOf (words_at heads h) (having_head nodes h (old.list ++ f ∷ []))
  more_heads h low =
      let b = nat_eq (claim_head (claim_in nodes f)) h in
      let long : length old.list ≡ length (having_head nodes h old.list) = sym (length-map old.list _) in
      let put : (j : ℕ) → j < 512 → member (words_at heads h) j ≡ ((nat_eq j (length (having_head nodes h old.list)) && b) || member (words_at old.heads h) j) = λ j few.
      by_head h (omega (arith, low)) j few
      ∙ ap (λ m. (nat_eq j m && nat_eq h head) || member (words_at old.heads h) j) long
      ∙ ap (λ e. (nat_eq j (length (having_head nodes h old.list)) && e) || member (words_at old.heads h) j) (ap (nat_eq h) is ∙ eq_turned h (claim_head (claim_in nodes f))) in
      let P : List Bool → Type 0 = IsSetOf (words_at heads h) in
      subst P (sym (map-append (λ g. nat_eq (claim_head (claim_in nodes g)) h) old.list (f ∷ []))) (IsSetOf-put (words_at old.heads h) (words_at heads h) (having_head nodes h old.list) b (over.heads h low) put)

  AreOver-more : is_fact nodes f ≡ true → AreOver nodes (record { list = old.list ++ f ∷ []; sets = sets; fields = fields; heads = heads })
  AreOver-more fact = record { facts = All-push (λ g. is_fact nodes g ≡ true) old.list f over.facts fact; sets = more_sets; fields = more_fields; heads = more_heads }

pub AreOver-pushed : (nodes : TypedNodes) (old mid : Slots) (f : Fact) (list : List Fact) (sets fields heads : List FactSet) (n head : ℕ) → mid ≡ old → n ≡ length old.list → list ≡ old.list ++ f ∷ [] → is_fact nodes f ≡ true
    → MarksThings n (λ x. claim_mentions x (claim_in nodes f)) mid.sets mid.fields sets fields → Marks n (λ k. nat_eq k head) mid.heads heads → head ≡ claim_head (claim_in nodes f)
    → AreOver nodes old → AreOver nodes (record { list = list; sets = sets; fields = fields; heads = heads })
AreOver-pushed nodes old mid f list sets fields heads n head same count more fact marks by_head is over =
    let M : Slots → Type 0 = λ k. MarksThings n (λ x. claim_mentions x (claim_in nodes f)) k.sets k.fields sets fields × Marks n (λ k. nat_eq k head) k.heads heads in
    let N : ℕ → Type 0 = λ m. MarksThings m (λ x. claim_mentions x (claim_in nodes f)) old.sets old.fields sets fields × Marks m (λ k. nat_eq k head) old.heads heads in
    let both = subst N count (subst M same (marks, by_head)) in
    let R : List Fact → Type 0 = λ fs. AreOver nodes (record { list = fs; sets = sets; fields = fields; heads = heads }) in
    subst R (sym more) (AreOver-more nodes old f sets fields heads head both.0 both.1 is over fact)
