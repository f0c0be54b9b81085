-- What is still known of a number once it has changed.
use Rattle.std.proofs.Common.{◌≡◌, ℕ, zero, suc, ◌+◌, ◌<◌, ◌≤◌, Bool, true, false, ◌||◌, List, [], ◌∷◌, ◌++◌, length, get_or, take, drop, map, Option, Some, None, refl, sym, ap, ◌∙◌, subst, arith, add-one}
use Rattle.std.specs.Prelude.{slice_set, nat_eq}
use Rattle.std.proofs.lemmas.Bool.{ne_eqb, eq-eqb}
use Rattle.std.proofs.lemmas.List.{append-nil, take_more, take_more_set, get_or-drop, drop-drop, drop-set-lt, length-set, length-take-le, length-map, take_all, map-append}
use Rattle.std.proofs.lemmas.List.Elements.{All-set}
use Rattle.wf_ast.specs.declared.things.Thing.{Thing}
use Rattle.wf_ast.specs.declared.things.Thing.TheVariants as things
use Rattle.wf_ast.specs.declared.typed_nodes.TypedNodes.{TypedNodes}
use Rattle.wf_facts_exprs.specs.declared.facts.Fact.{Fact}
use Rattle.wf_facts_exprs.specs.Claims.{Claim, claim_in, claims_in, claim_mentions, is_fact, AreFacts}
use Rattle.wf_facts_exprs.specs.declared.sets.FactSet.{FactSet}
use Rattle.wf_facts.specs.declared.changes.Change.{Change}
use Rattle.wf_facts_exprs.specs.Sets.{member, members, IsAround, IsSetOf, unmarked}
use Rattle.wf_facts.specs.FactLists.{changed, still_known}
use Rattle.wf_facts.specs.IndexedFacts.{Slots, AreOver, field_set, mentioning, set_of, set_number}
use Rattle.wf_facts_exprs.specs.Heads.{claim_head, having_head}
use Rattle.wf_facts_exprs.specs.NumberedSets.{words_at}
use Rattle.wf_facts_exprs.proofs.SetLemmas.{length-members, unmarked-push, members_known}
use Rattle.wf_facts.proofs.DropLemmas.{length-mentioning, item_at}

-- A list whose marked items are taken along.
abbrev onto : Option Claim → List Claim → List Claim
onto None fs = fs
onto (Some f) fs = f ∷ fs

abbrev pub renewed : Change → List Bool → List Claim → List Claim
renewed change [] fs = []
renewed change (m ∷ ms) [] = []
renewed change (true ∷ ms) (f ∷ fs) = onto (still_known change f) (renewed change ms fs)
renewed change (false ∷ ms) (f ∷ fs) = f ∷ renewed change ms fs

onto-append : (o : Option Claim) (fs gs : List Claim) → onto o (fs ++ gs) ≡ onto o fs ++ gs
onto-append None fs gs = refl
onto-append (Some f) fs gs = refl

renewed-push : (change : Change) (ms : List Bool) (fs : List Claim) (m : Bool) (f : Claim) → length ms ≡ length fs
    → renewed change (ms ++ m ∷ []) (fs ++ f ∷ []) ≡ renewed change ms fs ++ renewed change (m ∷ []) (f ∷ [])
renewed-push change [] [] true f h = refl
renewed-push change [] [] false f h = refl
renewed-push change [] (g ∷ fs) m f h = absurd (omega (arith, h))
renewed-push change (b ∷ ms) [] m f h = absurd (omega (arith, h))
renewed-push change (true ∷ ms) (g ∷ fs) m f h =
    ap (onto (still_known change g)) (renewed-push change ms fs m f (omega (arith, h))) ∙ onto-append (still_known change g) (renewed change ms fs) (renewed change (m ∷ []) (f ∷ []))
renewed-push change (false ∷ ms) (g ∷ fs) m f h = ap (λ gs. g ∷ gs) (renewed-push change ms fs m f (omega (arith, h)))

renewed-is : (nodes : TypedNodes) (x : Thing) (change : Change) (fs : List Fact) → renewed change (mentioning nodes x fs) (claims_in nodes fs) ≡ changed x change (claims_in nodes fs)
renewed-is nodes x change [] = refl
renewed-is nodes x change (f ∷ fs) = by (claim_mentions x (claim_in nodes f)) refl (renewed-is nodes x change fs)
  where
    known : (o : Option Claim) → still_known change (claim_in nodes f) ≡ o → claim_mentions x (claim_in nodes f) ≡ true
        → renewed change (mentioning nodes x fs) (claims_in nodes fs) ≡ changed x change (claims_in nodes fs)
        → renewed change (mentioning nodes x (f ∷ fs)) (claims_in nodes (f ∷ fs)) ≡ changed x change (claims_in nodes (f ∷ fs))
    known None e h rest = rw (h, e) rest
    known (Some g) e h rest = rw (h, e) (ap (λ gs. g ∷ gs) rest)

    by : (b : Bool) → claim_mentions x (claim_in nodes f) ≡ b → renewed change (mentioning nodes x fs) (claims_in nodes fs) ≡ changed x change (claims_in nodes fs)
        → renewed change (mentioning nodes x (f ∷ fs)) (claims_in nodes (f ∷ fs)) ≡ changed x change (claims_in nodes (f ∷ fs))
    by true h rest = known (still_known change (claim_in nodes f)) refl h rest
    by false h rest = rw h (ap (λ gs. claim_in nodes f ∷ gs) rest)

-- The facts up to `i` have been taken along.
pub record Renews (nodes : TypedNodes) (change : Change) (meant dropped : List ℕ) (xs ys : List Fact) (i : ℕ) : Type 0 where
  pub claims : claims_in nodes (unmarked (members dropped i) (take i ys)) ≡ renewed change (members meant i) (claims_in nodes (take i xs))
  pub later : (k : ℕ) → i ≤ k → k < 512 → member dropped k ≡ false
  pub rest : drop i ys ≡ drop i xs
  pub long : length ys ≡ length xs
  pub facts : AreFacts nodes ys
  pub same : (x : Thing) → mentioning nodes x ys ≡ mentioning nodes x xs
  pub headed : (h : ℕ) → having_head nodes h ys ≡ having_head nodes h xs

members_below : (a b : List ℕ) (n : ℕ) → ((k : ℕ) → k < n → member a k ≡ member b k) → members a n ≡ members b n
members_below a b zero h = refl
members_below a b (suc n) h = rw (members_below a b n (λ k l. h k (omega (arith, l))), h n (omega arith)) refl

map_set_same : {X Y : Type 0} (f : X → Y) (xs : List X) (i : ℕ) (x d : X) → i < length xs → f x ≡ f (get_or xs i d) → map f (slice_set xs i x) ≡ map f xs
map_set_same f [] i x d h e = absurd (omega (arith, h))
map_set_same f (y ∷ xs) zero x d h e = ap (λ z. z ∷ map f xs) e
map_set_same f (y ∷ xs) (suc i) x d h e = ap (λ zs. f y ∷ zs) (map_set_same f xs i x d (omega (arith, h)) e)

module _ (nodes : TypedNodes) (change : Change) (meant dropped : List ℕ) (xs ys : List Fact) (i : ℕ) (r : Renews nodes change meant dropped xs ys i) (within : i < length ys) (few : length xs ≤ 512) (d : Fact) where
  abbrev item : Fact
  item = get_or ys i d

  inside : i < length xs
  inside = omega (arith, within, r.long)

  same_item : item ≡ get_or xs i d
  same_item =
      let z : i + 0 ≡ i = omega arith in
      let P : ℕ → Type 0 = λ n. get_or ys n d ≡ get_or xs n d in
      subst P z (sym (get_or-drop i ys 0 d) ∙ ap (λ zs. get_or zs 0 d) r.rest ∙ get_or-drop i xs 0 d)

  rest_on : drop (i + 1) ys ≡ drop (i + 1) xs
  rest_on = sym (drop-drop 1 i ys) ∙ ap (drop 1) r.rest ∙ drop-drop 1 i xs

  -- What the facts up to this one become.
  right_on : renewed change (members meant (i + 1)) (claims_in nodes (take (i + 1) xs)) ≡ renewed change (members meant i) (claims_in nodes (take i xs)) ++ renewed change (member meant i ∷ []) (claim_in nodes item ∷ [])
  right_on =
      let t : claims_in nodes (take (i + 1) xs) ≡ claims_in nodes (take i xs) ++ claim_in nodes item ∷ [] =
      ap (claims_in nodes) (take_more xs i d inside) ∙ map-append (claim_in nodes) (take i xs) (get_or xs i d ∷ []) ∙ ap (λ g. claims_in nodes (take i xs) ++ claim_in nodes g ∷ []) (sym same_item) in
      let e : length (members meant i) ≡ length (claims_in nodes (take i xs)) =
      length-members meant i ∙ sym (length-map (take i xs) (claim_in nodes) ∙ length-take-le i xs (omega (arith, inside))) in
      rw t (rw (add-one i) (renewed-push change (members meant i) (claims_in nodes (take i xs)) (member meant i) (claim_in nodes item) e))

  left_on : (marks : List ℕ) (b : Bool) (g : Fact) (ws : List Fact) → members marks i ≡ members dropped i → member marks i ≡ b → take (i + 1) ws ≡ take i ys ++ g ∷ []
      → claims_in nodes (unmarked (members marks (i + 1)) (take (i + 1) ws)) ≡ claims_in nodes (unmarked (members dropped i) (take i ys)) ++ claims_in nodes (unmarked (b ∷ []) (g ∷ []))
  left_on marks b g ws before here t =
      let e : length (members dropped i) ≡ length (take i ys) = length-members dropped i ∙ sym (length-take-le i ys (omega (arith, within))) in
      rw t (rw (add-one i, before, here)
      (ap (claims_in nodes) (unmarked-push (members dropped i) (take i ys) b g e) ∙ map-append (claim_in nodes) (unmarked (members dropped i) (take i ys)) (unmarked (b ∷ []) (g ∷ []))))

  fresh : member dropped i ≡ false
  fresh = r.later i (omega arith) (omega (arith, inside, few))

  unmeant_on : member meant i ≡ false → Renews nodes change meant dropped xs ys (i + 1)
  unmeant_on h = record {
    claims = left_on dropped false item ys refl fresh (take_more ys i d within) ∙ ap (λ cs. cs ++ claim_in nodes item ∷ []) r.claims
        ∙ sym (right_on ∙ rw h refl);
    later = λ k a b. r.later k (omega (arith, a)) b;
    rest = rest_on;
    long = r.long;
    facts = r.facts;
    same = r.same;
    headed = r.headed;
  }

  pub Renews-kept : member meant i ≡ true → (g : Fact) → Some (claim_in nodes g) ≡ still_known change (claim_in nodes item) → is_fact nodes g ≡ true
      → ((x : Thing) → claim_mentions x (claim_in nodes g) ≡ claim_mentions x (claim_in nodes item)) → claim_head (claim_in nodes g) ≡ claim_head (claim_in nodes item) → Renews nodes change meant dropped xs (slice_set ys i g) (i + 1)
  Renews-kept h g known fact same head = record {
    claims = left_on dropped false g (slice_set ys i g) refl fresh (take_more_set ys i g within) ∙ ap (λ cs. cs ++ claim_in nodes g ∷ []) r.claims
        ∙ sym (right_on ∙ rw (h, ← known) refl);
    later = λ k a b. r.later k (omega (arith, a)) b;
    rest = drop-set-lt (i + 1) ys i g (omega arith) ∙ rest_on;
    long = length-set ys i g ∙ r.long;
    facts = All-set (λ f. is_fact nodes f ≡ true) ys i g fact r.facts;
    same = λ x. map_set_same (λ f. claim_mentions x (claim_in nodes f)) ys i g d within (same x) ∙ r.same x;
    headed = λ k. map_set_same (λ f. nat_eq (claim_head (claim_in nodes f)) k) ys i g d within (ap (λ n. nat_eq n k) head) ∙ r.headed k;
  }

  pub Renews-lost : member meant i ≡ true → None ≡ still_known change (claim_in nodes item) → (written : List ℕ)
      → ((k : ℕ) → k < 512 → member written k ≡ (nat_eq k i || member dropped k)) → Renews nodes change meant written xs ys (i + 1)
  Renews-lost h known written put =
      let low : i < 512 = omega (arith, inside, few) in
      let here : member written i ≡ true = put i low ∙ rw (eq-eqb i i refl) refl in
      let before : members written i ≡ members dropped i = members_below written dropped i (λ k l. put k (omega (arith, l, low)) ∙ rw (ne_eqb k i (λ e. absurd (omega (arith, l, e)))) refl) in
      record {
        claims = left_on written true item ys before here (take_more ys i d within) ∙ append-nil _ ∙ r.claims ∙ sym (right_on ∙ rw (h, ← known) (append-nil _));
        later = λ k a b. put k b ∙ rw (ne_eqb k i (λ e. absurd (omega (arith, a, e)))) (r.later k (omega (arith, a)) b);
        rest = rest_on;
        long = r.long;
        facts = r.facts;
        same = r.same;
        headed = r.headed;
      }

pub Renews-unmeant : (nodes : TypedNodes) (change : Change) (meant dropped : List ℕ) (xs ys : List Fact) (i : ℕ) → Renews nodes change meant dropped xs ys i → i < length ys → length xs ≤ 512
    → member meant i ≡ false → Renews nodes change meant dropped xs ys (i + 1)
Renews-unmeant nodes change meant dropped xs ys i r within few h = unmeant_on nodes change meant dropped xs ys i r within few (item_at ys i within).0 h

pub Renews-all : (nodes : TypedNodes) (change : Change) (meant dropped : List ℕ) (xs ys : List Fact) (i : ℕ) → Renews nodes change meant dropped xs ys i → length xs ≤ i → i ≤ length xs → length xs ≤ 512
    → (x : Thing) → IsSetOf meant (mentioning nodes x xs) → claims_in nodes (unmarked (members dropped (length xs)) ys) ≡ changed x change (claims_in nodes xs)
Renews-all nodes change meant dropped xs ys i r a b few x set =
    let e : i ≡ length xs = omega (arith, a, b) in
    let P : ℕ → Type 0 = λ n. claims_in nodes (unmarked (members dropped n) (take n ys)) ≡ renewed change (members meant n) (claims_in nodes (take n xs)) in
    let q : claims_in nodes (unmarked (members dropped (length xs)) (take (length xs) ys)) ≡ renewed change (members meant (length xs)) (claims_in nodes (take (length xs) xs)) = subst P e r.claims in
    ap (λ fs. claims_in nodes (unmarked (members dropped (length xs)) fs)) (sym (take_all (length xs) ys (omega (arith, r.long))))
    ∙ q
    ∙ ap (λ fs. renewed change (members meant (length xs)) (claims_in nodes fs)) (take_all (length xs) xs (omega arith))
    ∙ ap (λ ms. renewed change ms (claims_in nodes xs)) (members_known meant (mentioning nodes x xs) set (length xs) (length-mentioning nodes x xs) few)
    ∙ renewed-is nodes x change xs

-- The sets stay those of a list whose facts mention what they did, and have the heads that they had.
pub AreOver-same : (nodes : TypedNodes) (old mid : Slots) (list : List Fact) → mid.list ≡ list → mid.sets ≡ old.sets → mid.fields ≡ old.fields → mid.heads ≡ old.heads → AreFacts nodes list
    → ((x : Thing) → mentioning nodes x list ≡ mentioning nodes x old.list) → ((h : ℕ) → having_head nodes h list ≡ having_head nodes h old.list) → AreOver nodes old → AreOver nodes mid
AreOver-same nodes old mid list is sets fields heads facts same headed over =
    let P : List Fact → Type 0 = AreFacts nodes in
    record {
      facts = subst P (sym is) facts;
      sets = λ x h.
          let Q : List Bool → Type 0 = λ bs. IsSetOf (set_of mid x) bs in
          let R : List FactSet → Type 0 = λ ss. IsSetOf (words_at ss (set_number x)) (mentioning nodes x old.list) in
          subst Q (sym (ap (mentioning nodes x) is ∙ same x)) (subst R (sym sets) (over.sets x h));
      fields = λ x.
          let Q : List Bool → Type 0 = λ bs. IsAround (words_at mid.fields (field_set x)) bs in
          let R : List FactSet → Type 0 = λ ss. IsAround (words_at ss (field_set x)) (mentioning nodes (things.Field x) old.list) in
          subst Q (sym (ap (mentioning nodes (things.Field x)) is ∙ same (things.Field x))) (subst R (sym fields) (over.fields x));
      heads = λ h low.
          let Q : List Bool → Type 0 = λ bs. IsSetOf (words_at mid.heads h) bs in
          let R : List FactSet → Type 0 = λ ss. IsSetOf (words_at ss h) (having_head nodes h old.list) in
          subst Q (sym (ap (having_head nodes h) is ∙ headed h)) (subst R (sym heads) (over.heads h low));
    }
