-- What a list says is found among the facts with one head.
use Rattle.std.proofs.Common.{◌≡◌, ℕ, zero, suc, ◌+◌, ◌-◌, ◌<◌, ◌≤◌, Bool, true, false, not, ◌&&◌, ◌||◌, ◌⊎◌, inl, inr, List, [], ◌∷◌, length, get_or, drop, nat_eq, refl, sym, ap, ◌∙◌, subst, arith}
use Rattle.std.proofs.lemmas.Bool.{cases_lt, eq-eqb}
use Rattle.std.proofs.lemmas.Bool.Decides.{nat_tests}
use Rattle.std.proofs.lemmas.List.{drop_more}
use Rattle.wf_num.specs.declared.ranges.Range.{Range}
use Rattle.wf_ast.specs.TypedTree.{Path, local, field, arg, Order, NumTree, number, read, element, link, convert, length_of, asked}
use Rattle.wf_ast.specs.Same.{same_path, same_num}
use Rattle.wf_ast.specs.declared.typed_nodes.TypedNodes.{TypedNodes}
use Rattle.wf_facts_exprs.specs.declared.facts.Fact.{Fact}
use Rattle.wf_facts_exprs.specs.declared.known.Known.{Known}
use Rattle.wf_facts_exprs.specs.Knowledge.{IsKnown}
use Rattle.wf_facts_exprs.specs.NumberedSets.{words_at}
use Rattle.wf_facts_exprs.specs.Claims.{SideTree, Claim, compared, stands, tree_of_side, same_side, same_claim, is_among, claim_in, claims_in}
use Rattle.wf_facts_exprs.specs.Heads.{path_head, head_of, claim_head, having_head}
use Rattle.wf_facts_exprs.specs.HeadRules.{head_gives}
use Rattle.wf_facts_exprs.specs.RangeOf.{claim_gives, first_rule, met_by, passed}
use Rattle.wf_facts_exprs.specs.Sets.{member, members, marked, IsSetOf, unmarked}
use Rattle.wf_facts_exprs.proofs.SetLemmas.{length-members, marked_members}
use Rattle.wf_facts_exprs.specs.Shapes.{Alike}
use Rattle.wf_facts_exprs.proofs.PassLemmas.{both_of, equal_numbers}
use Rattle.wf_facts_exprs.proofs.SelfLemmas.{num-self}

-- ---- heads

paths_agree : (p q : Path) → same_path p q ≡ true → path_head p ≡ path_head q
paths_agree (local m) (local n) h = ap (λ k. path_head (local k)) (equal_numbers m n h)
paths_agree (field m) (field n) h = ap (λ k. path_head (field k)) (equal_numbers m n h)
paths_agree (arg m) (arg n) h = ap (λ k. path_head (arg k)) (equal_numbers m n h)
paths_agree p q h = absurd (cc (h))

pub heads_agree : (t u : NumTree) → same_num t u ≡ true → head_of t ≡ head_of u
heads_agree (number at m) (number at' n) h = refl
heads_agree (read at of p) (read at' of' q) h = paths_agree p q h
heads_agree (element at of cells index) (element at' of' cells' index') h = refl
heads_agree (link at sign op bits joined a b) (link at' sign' op' bits' joined' a' b') h = refl
heads_agree (convert at sign bits a) (convert at' sign' bits' a') h = refl
heads_agree (length_of at cells) (length_of at' cells') h = refl
heads_agree (asked at question a) (asked at' question' a') h = refl
heads_agree t u h = absurd (cc (h))

pub claims_agree : (f g : Claim) → same_claim f g ≡ true → claim_head f ≡ claim_head g
claims_agree (compared a op b) (compared a' op' b') h = heads_agree (tree_of_side a) (tree_of_side a') (both_of (same_side a a') _ (both_of _ _ h).1).0
claims_agree (stands c answer) (stands c' answer') h = refl
claims_agree f g h = absurd (cc (h))

pub alike_heads : (t u : NumTree) → Alike t u → head_of t ≡ head_of u
alike_heads t u h = heads_agree t u (sym (h.right t) ∙ num-self t)

untrue : (b : Bool) → (b ≡ true → ⊥) → b ≡ false
untrue true h = absurd (h refl)
untrue false h = refl

other_number : (m n : ℕ) → nat_eq m n ≡ false → m ≡ n → ⊥
other_number m n h e = absurd (grind (arith, nat_tests, h, e))

-- A claim with another head says nothing of a tree.
other_head : (t u : NumTree) → nat_eq (head_of t) (head_of u) ≡ false → same_num t u ≡ false
other_head t u h = untrue (same_num t u) (λ e. other_number (head_of t) (head_of u) h (heads_agree t u e))

met_by-other : (pass : Order → ℕ → Range → Range) (f : Claim) (t : NumTree) (r : Range) → nat_eq (claim_head f) (head_of t) ≡ false → met_by pass f t r ≡ r
met_by-other pass (stands c answer) t r h = refl
met_by-other pass (compared a op b) t r h = rw (other_head (tree_of_side a) t h) refl

among-other : (f g : Claim) → nat_eq (claim_head f) (claim_head g) ≡ false → same_claim f g ≡ false
among-other f g h = untrue (same_claim f g) (λ e. other_number (claim_head f) (claim_head g) h (claims_agree f g e))

neither-and : (p q c d : Bool) → p ≡ false → q ≡ false → ((p && c) || (q && d)) ≡ false
neither-and false false c d h k = refl
neither-and true q c d h k = absurd (cc (h))
neither-and p true c d h k = absurd (cc (k))

gives-other : (f : Claim) (a b : SideTree) (op : Order) → nat_eq (claim_head f) (head_of (tree_of_side a)) ≡ false → nat_eq (claim_head f) (head_of (tree_of_side b)) ≡ false → claim_gives f a op b ≡ false
gives-other (stands c answer) a b op h k = refl
gives-other (compared l known r) a b op h k = neither-and (same_side l a) (same_side l b) _ _ (other_head (tree_of_side l) (tree_of_side a) h) (other_head (tree_of_side l) (tree_of_side b) k)

-- ---- the facts of a set, in order

pub head_lent : (nodes : TypedNodes) (known : Known) → IsKnown nodes known → (h : ℕ) (c : Claim) → h ≡ claim_head c → h < 256 → (words : List ℕ) → words ≡ words_at known.heads.now h
    → IsSetOf words (having_head nodes (claim_head c) known.list.now)
head_lent nodes known is h c own low words lent =
    let P : ℕ → Type 0 = λ k. IsSetOf words (having_head nodes k known.list.now) in
    let Q : List ℕ → Type 0 = λ ws. IsSetOf ws (having_head nodes h known.list.now) in
    subst P own (subst Q (sym lent) (is.heads h low))

-- The set that is lent for a head.
pub head_set : (nodes : TypedNodes) (known : Known) → IsKnown nodes known → (h : ℕ) → h < 256 → (words : List ℕ) → words ≡ words_at known.heads.now h → IsSetOf words (having_head nodes h known.list.now)
head_set nodes known is h low words lent = let P : List ℕ → Type 0 = λ ws. IsSetOf ws (having_head nodes h known.list.now) in subst P (sym lent) (is.heads h low)

-- What isn't in the set is passed over.
skipped : {X : Type 0} (p : ℕ → X) (stands : ℕ → Bool) (i m : ℕ) → ((k : ℕ) → i ≤ k → k < i + m → stands k ≡ false) → ((k : ℕ) → stands k ≡ false → p (k + 1) ≡ p k) → p (i + m) ≡ p i
skipped p words i zero none step = let e : i + 0 ≡ i = omega arith in ap p e
skipped p words i (suc m) none step =
    let e : i + suc m ≡ (i + m) + 1 = omega arith in
    ap p e ∙ step (i + m) (none (i + m) (omega arith) (omega arith)) ∙ skipped p words i m (λ k a b. none k a (omega (arith, b))) step

skipped_to : {X : Type 0} (p : ℕ → X) (stands : ℕ → Bool) (i j : ℕ) → i ≤ j → ((k : ℕ) → i ≤ k → k < j → stands k ≡ false) → ((k : ℕ) → stands k ≡ false → p (k + 1) ≡ p k) → p j ≡ p i
skipped_to p words i j h none step =
    let e : i + (j - i) ≡ j = omega (arith, h) in
    sym (ap p e) ∙ skipped p words i (j - i) (λ k a b. none k a (omega (arith, b, h))) step

drop_past : {X : Type 0} (xs : List X) (k : ℕ) → length xs ≤ k → drop k xs ≡ []
drop_past [] zero h = refl
drop_past [] (suc k) h = refl
drop_past (x ∷ xs) zero h = absurd (omega (arith, h))
drop_past (x ∷ xs) (suc k) h = drop_past xs k (omega (arith, h))

pub item_in : {X : Type 0} (xs : List X) (i : ℕ) → i < length xs → (x : X) × (x ≡ get_or xs i x)
item_in [] i h = absurd (omega (arith, h))
item_in (x ∷ xs) zero h = (x, refl)
item_in (x ∷ xs) (suc i) h = item_in xs i (omega (arith, h))

marked_head : (nodes : TypedNodes) (h : ℕ) (fs : List Fact) (k : ℕ) (d : Fact) → k < length fs → marked (having_head nodes h fs) k ≡ nat_eq (claim_head (claim_in nodes (get_or fs k d))) h
marked_head nodes h [] k d l = absurd (omega (arith, l))
marked_head nodes h (f ∷ fs) zero d l = refl
marked_head nodes h (f ∷ fs) (suc k) d l = marked_head nodes h fs k d (omega (arith, l))

-- What the facts from a place on claim, but for those that are gone.
abbrev pub rest : TypedNodes → (gone : List ℕ) → List Fact → ℕ → List Claim
rest nodes gone fs i = claims_in nodes (unmarked (drop i (members gone (length fs))) (drop i fs))

got_marked : (ms : List Bool) (i : ℕ) (d : Bool) → i < length ms → get_or ms i d ≡ marked ms i
got_marked [] i d h = absurd (omega (arith, h))
got_marked (m ∷ ms) zero d h = refl
got_marked (m ∷ ms) (suc i) d h = got_marked ms i d (omega (arith, h))

unmarked_past : {X : Type 0} (ms : List Bool) → unmarked {X = X} ms [] ≡ []
unmarked_past [] = refl
unmarked_past (m ∷ ms) = refl

module _ (nodes : TypedNodes) (gone : List ℕ) (fs : List Fact) where
  marks_more : (i : ℕ) → i < length fs → drop i (members gone (length fs)) ≡ member gone i ∷ drop (i + 1) (members gone (length fs))
  marks_more i h =
      let long = length-members gone (length fs) in
      let within : i < length (members gone (length fs)) = omega (arith, h, long) in
      drop_more (members gone (length fs)) i false within ∙ ap (λ m. m ∷ drop (i + 1) (members gone (length fs))) (got_marked (members gone (length fs)) i false within ∙ marked_members gone (length fs) i h)

  rest_more : (i : ℕ) (d : Fact) → i < length fs → rest nodes gone fs i ≡ claims_in nodes (unmarked (member gone i ∷ drop (i + 1) (members gone (length fs))) (get_or fs i d ∷ drop (i + 1) fs))
  rest_more i d h = ap (λ ms. claims_in nodes (unmarked ms (drop i fs))) (marks_more i h) ∙ ap (λ gs. claims_in nodes (unmarked (member gone i ∷ drop (i + 1) (members gone (length fs))) gs)) (drop_more fs i d h)

  pub rest_gone : (i : ℕ) → i < length fs → member gone i ≡ true → rest nodes gone fs i ≡ rest nodes gone fs (i + 1)
  rest_gone i h out = rest_more i (item_in fs i h).0 h ∙ ap (λ m. claims_in nodes (unmarked (m ∷ drop (i + 1) (members gone (length fs))) (get_or fs i (item_in fs i h).0 ∷ drop (i + 1) fs))) out

  pub rest_here : (i : ℕ) (d : Fact) → i < length fs → member gone i ≡ false → rest nodes gone fs i ≡ claim_in nodes (get_or fs i d) ∷ rest nodes gone fs (i + 1)
  rest_here i d h stays = rest_more i d h ∙ ap (λ m. claims_in nodes (unmarked (m ∷ drop (i + 1) (members gone (length fs))) (get_or fs i d ∷ drop (i + 1) fs))) stays

  pub rest_past : (i : ℕ) → length fs ≤ i → rest nodes gone fs i ≡ []
  rest_past i h = ap (λ gs. claims_in nodes (unmarked (drop i (members gone (length fs))) gs)) (drop_past fs i h) ∙ ap (claims_in nodes) (unmarked_past (drop i (members gone (length fs))))

abbrev pub standing : (words gone : List ℕ) → ℕ → Bool
standing words gone k = member words k && not (member gone k)

pub standing_parts : (m g : Bool) → (m && not g) ≡ true → (m ≡ true) × (g ≡ false)
standing_parts true false h = (refl, refl)
standing_parts true true h = absurd (cc (h))
standing_parts false g h = absurd (cc (h))

module _ (nodes : TypedNodes) (gone : List ℕ) (fs : List Fact) (few : length fs ≤ 512) (h : ℕ) (words : List ℕ) (set : IsSetOf words (having_head nodes h fs)) where
  -- A fact that isn't in the set of a head has another.
  head_apart : (k : ℕ) (d : Fact) → k < length fs → member words k ≡ false → nat_eq (claim_head (claim_in nodes (get_or fs k d))) h ≡ false
  head_apart k d l out = sym (marked_head nodes h fs k d l) ∙ sym (set.at k (omega (arith, l, few))) ∙ out

  pub head_here : (k : ℕ) (d : Fact) → k < length fs → member words k ≡ true → nat_eq (claim_head (claim_in nodes (get_or fs k d))) h ≡ true
  head_here k d l has = sym (marked_head nodes h fs k d l) ∙ sym (set.at k (omega (arith, l, few))) ∙ has

  -- What is said by the facts from a place on is said by those from the next, where the one there is gone or isn't in the set.
  passes : {X : Type 0} (said : List Claim → X) → ((f : Claim) (gs : List Claim) → nat_eq (claim_head f) h ≡ false → said (f ∷ gs) ≡ said gs) → (k : ℕ) → standing words gone k ≡ false
      → said (rest nodes gone fs (k + 1)) ≡ said (rest nodes gone fs k)
  passes said other k out = by (cases_lt k (length fs))
    where
      in_set : (m g : Bool) → (m && not g) ≡ false → g ≡ false → m ≡ false
      in_set false g a b = refl
      in_set true true a b = absurd (cc (b))
      in_set true false a b = absurd (cc (a))

      within : k < length fs → (g : Bool) → member gone k ≡ g → said (rest nodes gone fs (k + 1)) ≡ said (rest nodes gone fs k)
      within l true g = ap said (sym (rest_gone nodes gone fs k l g))
      within l false g =
          let it = item_in fs k l in
          sym (ap said (rest_here nodes gone fs k it.0 l g) ∙ other (claim_in nodes (get_or fs k it.0)) (rest nodes gone fs (k + 1)) (head_apart k it.0 l (in_set (member words k) (member gone k) out g)))

      by : (k < length fs) ⊎ (length fs ≤ k) → said (rest nodes gone fs (k + 1)) ≡ said (rest nodes gone fs k)
      by (inl l) = within l (member gone k) refl
      by (inr l) = ap said (rest_past nodes gone fs (k + 1) (omega (arith, l)) ∙ sym (rest_past nodes gone fs k l))

  -- From one place to the next one that stands in the set.
  pub said_from : {X : Type 0} (said : List Claim → X) → ((f : Claim) (gs : List Claim) → nat_eq (claim_head f) h ≡ false → said (f ∷ gs) ≡ said gs) → (i j : ℕ) → i ≤ j
      → ((k : ℕ) → i ≤ k → k < j → standing words gone k ≡ false) → said (rest nodes gone fs j) ≡ said (rest nodes gone fs i)
  said_from said other i j l none = skipped_to (λ k. said (rest nodes gone fs k)) (standing words gone) i j l none (passes said other)

-- ---- what is said with other heads

other_passed : (pass : Order → ℕ → Range → Range) (t : NumTree) (r : Range) (f : Claim) (gs : List Claim) → nat_eq (claim_head f) (head_of t) ≡ false → passed pass (f ∷ gs) t r ≡ passed pass gs t r
other_passed pass t r f gs h = ap (passed pass gs t) (met_by-other pass f t r h)

pub lent_passed : (pass : Order → ℕ → Range → Range) (t : NumTree) (h : ℕ) → h ≡ head_of t → (r : Range) (f : Claim) (gs : List Claim) → nat_eq (claim_head f) h ≡ false → passed pass (f ∷ gs) t r ≡ passed pass gs t r
lent_passed pass t h is r f gs other = let P : ℕ → Type 0 = λ k. nat_eq (claim_head f) k ≡ false in other_passed pass t r f gs (subst P is other)

pub neither : (a b : Bool) → (a || b) ≡ false → (a ≡ false) × (b ≡ false)
neither true b h = absurd (cc (h))
neither false b h = (refl, h)

pub other_among : (c : Claim) (f : Claim) (gs : List Claim) → nat_eq (claim_head f) (claim_head c) ≡ false → is_among (f ∷ gs) c ≡ is_among gs c
other_among c f gs h = ap (λ b. b || is_among gs c) (among-other f c h)

pub other_gives : (h : ℕ) (a : SideTree) (op : Order) (b : SideTree) (f : Claim) (gs : List Claim) → nat_eq (claim_head f) h ≡ false → head_gives h (f ∷ gs) a op b ≡ head_gives h gs a op b
other_gives h a op b f gs other = ap (λ c. (c && claim_gives f a op b) || head_gives h gs a op b) other

-- ---- the first rule

rule_by : (p q g u v : Bool) → (p ≡ false → q ≡ false → g ≡ false) → (g || (u || v)) ≡ ((p && g || u) || (q && g || v))
rule_by true true true u v h = refl
rule_by true true false u v h = refl
rule_by true false true u v h = refl
rule_by true false false u v h = refl
rule_by false true true true v h = refl
rule_by false true true false v h = refl
rule_by false true false u v h = refl
rule_by false false true u v h = absurd (cc (h refl refl))
rule_by false false false u v h = refl

pub first_by_heads : (fs : List Claim) (a : SideTree) (op : Order) (b : SideTree)
    → first_rule fs a op b ≡ (head_gives (head_of (tree_of_side a)) fs a op b || head_gives (head_of (tree_of_side b)) fs a op b)
first_by_heads [] a op b = refl
first_by_heads (f ∷ fs) a op b =
    ap (λ c. claim_gives f a op b || c) (first_by_heads fs a op b)
    ∙ rule_by (nat_eq (claim_head f) (head_of (tree_of_side a))) (nat_eq (claim_head f) (head_of (tree_of_side b))) (claim_gives f a op b) _ _ (gives-other f a b op)

-- ---- one fact more

pub passed_next : (pass : Order → ℕ → Range → Range) (nodes : TypedNodes) (gone : List ℕ) (fs : List Fact) (i : ℕ) (d : Fact) (t : NumTree) (r q : Range) → i < length fs → member gone i ≡ false → q ≡ met_by pass (claim_in nodes (get_or fs i d)) t r
    → passed pass (rest nodes gone fs (i + 1)) t q ≡ passed pass (rest nodes gone fs i) t r
passed_next pass nodes gone fs i d t r q h stays is = ap (passed pass (rest nodes gone fs (i + 1)) t) is ∙ sym (ap (λ gs. passed pass gs t r) (rest_here nodes gone fs i d h stays))

pub among_next : (nodes : TypedNodes) (gone : List ℕ) (fs : List Fact) (i : ℕ) (d : Fact) (c : Claim) → i < length fs → member gone i ≡ false → same_claim (claim_in nodes (get_or fs i d)) c ≡ false
    → is_among (rest nodes gone fs (i + 1)) c ≡ is_among (rest nodes gone fs i) c
among_next nodes gone fs i d c h stays other = sym (ap (λ gs. is_among gs c) (rest_here nodes gone fs i d h stays) ∙ ap (λ b. b || is_among (rest nodes gone fs (i + 1)) c) other)

pub among_here : (nodes : TypedNodes) (gone : List ℕ) (fs : List Fact) (i : ℕ) (d : Fact) (c : Claim) → i < length fs → member gone i ≡ false → same_claim (claim_in nodes (get_or fs i d)) c ≡ true
    → true ≡ is_among (rest nodes gone fs i) c
among_here nodes gone fs i d c h stays same = sym (ap (λ gs. is_among gs c) (rest_here nodes gone fs i d h stays) ∙ ap (λ b. b || is_among (rest nodes gone fs (i + 1)) c) same)

pub gives_next : (nodes : TypedNodes) (gone : List ℕ) (fs : List Fact) (i : ℕ) (d : Fact) (h : ℕ) (a : SideTree) (op : Order) (b : SideTree) → i < length fs → member gone i ≡ false → claim_gives (claim_in nodes (get_or fs i d)) a op b ≡ false
    → head_gives h (rest nodes gone fs (i + 1)) a op b ≡ head_gives h (rest nodes gone fs i) a op b
gives_next nodes gone fs i d h a op b within stays none =
    by (nat_eq (claim_head (claim_in nodes (get_or fs i d))) h) (claim_gives (claim_in nodes (get_or fs i d)) a op b) none ∙ sym (ap (λ gs. head_gives h gs a op b) (rest_here nodes gone fs i d within stays))
  where
    by : (p g : Bool) → g ≡ false → head_gives h (rest nodes gone fs (i + 1)) a op b ≡ ((p && g) || head_gives h (rest nodes gone fs (i + 1)) a op b)
    by true g e = rw e refl
    by false g e = refl

pub gives_here : (nodes : TypedNodes) (gone : List ℕ) (fs : List Fact) (i : ℕ) (d : Fact) (h : ℕ) (a : SideTree) (op : Order) (b : SideTree) → i < length fs → member gone i ≡ false → nat_eq (claim_head (claim_in nodes (get_or fs i d))) h ≡ true
    → claim_gives (claim_in nodes (get_or fs i d)) a op b ≡ true → true ≡ head_gives h (rest nodes gone fs i) a op b
gives_here nodes gone fs i d h a op b within stays here it = sym (ap (λ gs. head_gives h gs a op b) (rest_here nodes gone fs i d within stays) ∙ rw (here, it) refl)

-- What is among the facts from a place on is among all.
among_all : (nodes : TypedNodes) (gone : List ℕ) (fs : List Fact) (said : List Claim → Bool) → ((f : Claim) (gs : List Claim) → said gs ≡ true → said (f ∷ gs) ≡ true) → (i j : ℕ) → said (rest nodes gone fs (j + i)) ≡ true → said (rest nodes gone fs j) ≡ true
among_all nodes gone fs said more zero j it = let e : j + 0 ≡ j = omega arith in sym (ap (λ k. said (rest nodes gone fs k)) e) ∙ it
among_all nodes gone fs said more (suc i) j it =
    let e : j + suc i ≡ (j + 1) + i = omega arith in
    one j (cases_lt j (length fs)) (among_all nodes gone fs said more i (j + 1) (sym (ap (λ k. said (rest nodes gone fs k)) e) ∙ it))
  where
    here : (j : ℕ) → j < length fs → (g : Bool) → member gone j ≡ g → said (rest nodes gone fs (j + 1)) ≡ true → said (rest nodes gone fs j) ≡ true
    here j l true g it = ap said (rest_gone nodes gone fs j l g) ∙ it
    here j l false g it = ap said (rest_here nodes gone fs j (item_in fs j l).0 l g) ∙ more _ _ it

    one : (j : ℕ) → (j < length fs) ⊎ (length fs ≤ j) → said (rest nodes gone fs (j + 1)) ≡ true → said (rest nodes gone fs j) ≡ true
    one j (inl l) it = here j l (member gone j) refl it
    one j (inr l) it = ap said (rest_past nodes gone fs j l ∙ sym (rest_past nodes gone fs (j + 1) (omega (arith, l)))) ∙ it

or-right : (p q : Bool) → q ≡ true → (p || q) ≡ true
or-right true q h = refl
or-right false q h = h

from_place : (nodes : TypedNodes) (gone : List ℕ) (fs : List Fact) (said : List Claim → Bool) → ((f : Claim) (gs : List Claim) → said gs ≡ true → said (f ∷ gs) ≡ true) → (i : ℕ) → said (rest nodes gone fs i) ≡ true → said (rest nodes gone fs 0) ≡ true
from_place nodes gone fs said more i it = let e : 0 + i ≡ i = omega arith in among_all nodes gone fs said more i 0 (ap (λ k. said (rest nodes gone fs k)) e ∙ it)

pub first-at : (nodes : TypedNodes) (gone : List ℕ) (fs : List Fact) (i : ℕ) (d : Fact) (a : SideTree) (op : Order) (b : SideTree) → i < length fs → member gone i ≡ false → claim_gives (claim_in nodes (get_or fs i d)) a op b ≡ true
    → first_rule (rest nodes gone fs 0) a op b ≡ true
first-at nodes gone fs i d a op b h stays gives =
    from_place nodes gone fs (λ gs. first_rule gs a op b) (λ f gs it. or-right (claim_gives f a op b) (first_rule gs a op b) it) i
    (ap (λ gs. first_rule gs a op b) (rest_here nodes gone fs i d h stays) ∙ ap (λ c. c || first_rule (rest nodes gone fs (i + 1)) a op b) gives)

pub among-at : (nodes : TypedNodes) (gone : List ℕ) (fs : List Fact) (i : ℕ) (d : Fact) (c : Claim) → i < length fs → member gone i ≡ false → same_claim (claim_in nodes (get_or fs i d)) c ≡ true → is_among (rest nodes gone fs 0) c ≡ true
among-at nodes gone fs i d c h stays same =
    from_place nodes gone fs (λ gs. is_among gs c) (λ f gs it. or-right (same_claim f c) (is_among gs c) it) i (sym (among_here nodes gone fs i d c h stays same))

-- ---- by the heads of both sides

module _ (fs : List Claim) (a : SideTree) (op : Order) (b : SideTree) (h k : ℕ) (left : h ≡ head_of (tree_of_side a)) (right : k ≡ head_of (tree_of_side b)) (p : Bool) (first : p ≡ head_gives h fs a op b) where
  both_heads : first_rule fs a op b ≡ (head_gives h fs a op b || head_gives k fs a op b)
  both_heads =
      let P : ℕ → Type 0 = λ m. first_rule fs a op b ≡ (head_gives m fs a op b || head_gives (head_of (tree_of_side b)) fs a op b) in
      let Q : ℕ → Type 0 = λ m. first_rule fs a op b ≡ (head_gives h fs a op b || head_gives m fs a op b) in
      subst Q (sym right) (subst P (sym left) (first_by_heads fs a op b))

  pub by_first : p ≡ true → p ≡ first_rule fs a op b
  by_first it = it ∙ sym (both_heads ∙ ap (λ c. c || head_gives k fs a op b) (sym first ∙ it))

  pub by_second : p ≡ false → (q : Bool) → q ≡ head_gives k fs a op b → q ≡ first_rule fs a op b
  by_second none q second = second ∙ sym (both_heads ∙ ap (λ c. c || head_gives k fs a op b) (sym first ∙ none))

  pub by_one : p ≡ false → k ≡ h → not (nat_eq k h) ≡ first_rule fs a op b
  by_one none one =
      ap not (eq-eqb k h one) ∙ sym (both_heads ∙ ap (λ c. c || head_gives k fs a op b) (sym first ∙ none) ∙ ap (λ m. head_gives m fs a op b) one ∙ sym first ∙ none)
