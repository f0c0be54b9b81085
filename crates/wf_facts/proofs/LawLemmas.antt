-- What statements do to a list of facts keeps truth.
use Rattle.std.proofs.Common.{◌≡◌, ℕ, ◌+◌, ◌-◌, ◌≤◌, Bool, true, false, not, ◌&&◌, ◌||◌, List, [], ◌∷◌, ◌++◌, Option, Some, None, refl, sym, ap, ◌∙◌, subst, arith}
use Rattle.std.specs.Prelude.{option_and_then, option_map, if◌then◌else◌, nat_lt, nat_le}
use Rattle.std.proofs.lemmas.Bool.{and_parts, or_parts}
use Rattle.std.proofs.lemmas.Bool.Decides.{nat_tests}
use Rattle.wf_text.specs.declared.place.Place.{Place}
use Rattle.wf_ast.specs.declared.things.Thing.{Thing}
use Rattle.wf_ast.specs.TypedTree.{NumTree, number, Order, less, at_most, equal, differs, at_least, greater, CondTree, truth, flag, compare, same_status, junction, negation, closed, has_category}
use Rattle.wf_ast.specs.TypedTrees.{no_place}
use Rattle.wf_ast.specs.Value.{State, value, truth_of, compares, same_truth, only_if}
use Rattle.wf_ast.specs.Mentions.{num_mentions, AgreeBut}
use Rattle.wf_ast.proofs.Depends.{value_depends, cond_depends}
use Rattle.wf_facts_exprs.specs.Claims.{SideTree, single, sum, Claim, compared, stands, side_value, claim_truth, AllTrue, side_mentions, claim_mentions, is_among, complement, flip, with_answer, turned, facts_of}
use Rattle.wf_facts_exprs.proofs.ClaimLemmas.{compared-parts, some_of}
use Rattle.wf_facts.specs.declared.changes.Change.{Change}
use Rattle.wf_facts.specs.declared.changes.Change.TheVariants.{Raised, Lowered, Shortened}
use Rattle.wf_facts.specs.declared.forms.Form.{Form}
use Rattle.wf_facts.specs.Forms.{form_of}
use Rattle.wf_facts.specs.FactLists.{added, all_added, with_condition, without, common, changed, still_known, moves_with, moved_number, in_64_bits, is_io_length, is_least}
use Rattle.wf_facts.specs.Changes.{Becomes, speaks_of, TakesPlace}

-- A claim's truth depends only on what the claim mentions.
module _ (x : Thing) (s s' : State) (agree : AgreeBut x s s') where
  side_depends : (a : SideTree) → side_mentions x a ≡ false → side_value s a ≡ side_value s' a
  side_depends (single t) h = value_depends x s s' agree t h
  side_depends (sum a b) h =
      let p = or_parts (num_mentions x a) _ h in
      let m = value_depends x s s' agree a p.0 in
      let n = value_depends x s s' agree b p.1 in
      λ i. option_and_then (λ k. option_map (λ l. k + l) (n i)) (m i)

  claim_depends : (f : Claim) → claim_mentions x f ≡ false → claim_truth s f ≡ claim_truth s' f
  claim_depends (compared a op b) h =
      let p = or_parts (side_mentions x a) _ h in
      let m = side_depends a p.0 in
      let n = side_depends b p.1 in
      λ i. option_and_then (λ k. option_map (compares op k) (n i)) (m i)
  claim_depends (stands c answer) h = ap (option_map (same_truth answer)) (cond_depends x s s' agree c h)

  pub without-true : (fs : List Claim) → AllTrue s fs → AllTrue s' (without x fs)
  without-true [] h = tt
  without-true (f ∷ fs) h = by (claim_mentions x f) refl (without-true fs h.1)
    where
      by : (b : Bool) → claim_mentions x f ≡ b → AllTrue s' (without x fs) → AllTrue s' (without x (f ∷ fs))
      by true e rest = rw e rest
      by false e rest = rw e (sym (claim_depends f e) ∙ h.0, rest)

pub common-true : (s : State) (fs others : List Claim) → AllTrue s fs → AllTrue s (common fs others)
common-true s [] others h = tt
common-true s (f ∷ fs) others h = by (is_among others f) refl (common-true s fs others h.1)
  where
    by : (b : Bool) → is_among others f ≡ b → AllTrue s (common fs others) → AllTrue s (common (f ∷ fs) others)
    by true e rest = rw e (h.0, rest)
    by false e rest = rw e rest

-- Adding.
push-true : (s : State) (fs : List Claim) (f : Claim) → AllTrue s fs → claim_truth s f ≡ Some true → AllTrue s (fs ++ f ∷ [])
push-true s [] f h k = (k, tt)
push-true s (g ∷ fs) f h k = (h.0, push-true s fs f h.1 k)

append-true : (s : State) (fs gs : List Claim) → AllTrue s fs → AllTrue s gs → AllTrue s (fs ++ gs)
append-true s [] gs h k = k
append-true s (f ∷ fs) gs h k = (h.0, append-true s fs gs h.1 k)

pub added-true : (s : State) (fs : List Claim) (f : Claim) → AllTrue s fs → claim_truth s f ≡ Some true → AllTrue s (added fs f)
added-true s fs f h k = by (is_among fs f)
  where
    by : (b : Bool) → AllTrue s (if b then fs else fs ++ f ∷ [])
    by true = h
    by false = push-true s fs f h k

all_added-true : (s : State) (fs gs : List Claim) → AllTrue s fs → AllTrue s gs → AllTrue s (all_added fs gs)
all_added-true s fs [] h k = h
all_added-true s fs (g ∷ gs) h k = all_added-true s (added fs g) gs (added-true s fs g h k.0) k.1

-- The facts of a condition.
not_some : (o : Option Bool) (b : Bool) → option_map not o ≡ Some b → o ≡ Some (not b)
not_some None b h = absurd (cc (h))
not_some (Some true) true h = absurd (cc (h))
not_some (Some true) false h = refl
not_some (Some false) true h = refl
not_some (Some false) false h = absurd (cc (h))

same_self : (b : Bool) → same_truth b b ≡ true
same_self true = refl
same_self false = refl

stands-true : (s : State) (c : CondTree) (answer : Bool) → truth_of s c ≡ Some answer → claim_truth s (stands c answer) ≡ Some true
stands-true s c answer h = rw (h, same_self answer) refl

complement-true : (op : Order) (m n : ℕ) → compares op m n ≡ false → compares (complement op) m n ≡ true
complement-true less m n h = grind (arith, nat_tests, h)
complement-true at_most m n h = grind (arith, nat_tests, h)
complement-true equal m n h = rw h refl
complement-true differs m n h = grind (arith, nat_tests, h)
complement-true at_least m n h = grind (arith, nat_tests, h)
complement-true greater m n h = grind (arith, nat_tests, h)

flip-true : (op : Order) (m n : ℕ) → compares op m n ≡ true → compares (flip op) n m ≡ true
flip-true less m n h = h
flip-true at_most m n h = h
flip-true equal m n h = grind (arith, nat_tests, h)
flip-true differs m n h = grind (arith, nat_tests, h)
flip-true at_least m n h = h
flip-true greater m n h = h

answered : (op : Order) (x y : Option ℕ) (answer : Bool) → option_and_then (λ m. option_map (compares op m) y) x ≡ Some answer
    → option_and_then (λ m. option_map (compares (with_answer answer op) m) y) x ≡ Some true
answered op None y answer h = absurd (cc (h))
answered op (Some m) None answer h = absurd (cc (h))
answered op (Some m) (Some n) true h = h
answered op (Some m) (Some n) false h = let e : compares op m n ≡ false = cc (h) in ap (λ b. Some b) (complement-true op m n e)

flipped : (op : Order) (x y : Option ℕ) → option_and_then (λ m. option_map (compares op m) y) x ≡ Some true → option_and_then (λ n. option_map (compares (flip op) n) x) y ≡ Some true
flipped op None y h = absurd (cc (h))
flipped op (Some m) None h = absurd (cc (h))
flipped op (Some m) (Some n) h = let e : compares op m n ≡ true = cc (h) in ap (λ b. Some b) (flip-true op m n e)

turned-true : (s : State) (a : NumTree) (op : Order) (b : NumTree) → claim_truth s (compared (single a) op (single b)) ≡ Some true → claim_truth s (turned a op b) ≡ Some true
turned-true s (number at n) op b h = flipped op (Some n) (value s b) h
turned-true s a op b h = h

-- The answers of the operands of a chain.
junction_parts : (both answer : Bool) (p q : Option Bool) → same_truth both answer ≡ true → option_and_then (λ a. option_map (λ b. if both then a && b else a || b) q) p ≡ Some answer → (p ≡ Some answer) × (q ≡ Some answer)
junction_parts both answer None q e h = absurd (cc (h))
junction_parts both answer (Some a) None e h = absurd (cc (h))
junction_parts true true (Some true) (Some true) e h = (refl, refl)
junction_parts true true (Some true) (Some false) e h = absurd (cc (h))
junction_parts true true (Some false) (Some b) e h = absurd (cc (h))
junction_parts false false (Some false) (Some false) e h = (refl, refl)
junction_parts false false (Some false) (Some true) e h = absurd (cc (h))
junction_parts false false (Some true) (Some b) e h = absurd (cc (h))
junction_parts true false (Some a) (Some b) e h = absurd (cc (e))
junction_parts false true (Some a) (Some b) e h = absurd (cc (e))

pub facts_of-true : (s : State) (c : CondTree) (answer : Bool) → truth_of s c ≡ Some answer → AllTrue s (facts_of c answer)
facts_of-true s (truth at b) answer h = by (same_truth b answer)
  where
    by : (p : Bool) → AllTrue s (if p then [] else stands (truth at b) answer ∷ [])
    by true = tt
    by false = (stands-true s (truth at b) answer h, tt)
facts_of-true s (compare at sign a op b) answer h = (turned-true s a (with_answer answer op) b (answered op (value s a) (value s b) answer h), tt)
facts_of-true s (junction at both joined a b) answer h =
    by (same_truth both answer) refl (facts_of-true s a answer) (facts_of-true s b answer)
  where
    by : (p : Bool) → same_truth both answer ≡ p → (truth_of s a ≡ Some answer → AllTrue s (facts_of a answer)) → (truth_of s b ≡ Some answer → AllTrue s (facts_of b answer))
        → AllTrue s (facts_of (junction at both joined a b) answer)
    by true e left right =
        let p = junction_parts both answer (truth_of s a) (truth_of s b) e h in
        rw e (append-true s (facts_of a answer) (facts_of b answer) (left p.0) (right p.1))
    by false e left right = rw e (stands-true s (junction at both joined a b) answer h, tt)
facts_of-true s (negation at a) answer h = facts_of-true s a (not answer) (not_some (truth_of s a) answer h)
facts_of-true s (flag at p) answer h = (stands-true s (flag at p) answer h, tt)
facts_of-true s (same_status at sign a one b) answer h = (stands-true s (same_status at sign a one b) answer h, tt)
facts_of-true s (closed at a) answer h = (stands-true s (closed at a) answer h, tt)
facts_of-true s (has_category at a category) answer h = (stands-true s (has_category at a category) answer h, tt)

pub with_condition-true : (s : State) (fs : List Claim) (c : CondTree) (answer : Bool) → AllTrue s fs → truth_of s c ≡ Some answer → AllTrue s (with_condition fs c answer)
with_condition-true s fs c answer h k = all_added-true s fs (facts_of c answer) h (facts_of-true s c answer k)

-- A number taken along.
fits_is : (n m : ℕ) → in_64_bits n ≡ Some m → m ≡ n
fits_is n m h = by (nat_lt n 18446744073709551616) refl
  where
    by : (b : Bool) → nat_lt n 18446744073709551616 ≡ b → m ≡ n
    by true e = let k : Some n ≡ Some m = sym (rw e refl) ∙ h in sym (some_of n m k)
    by false e = let k : None ≡ Some m = sym (rw e refl) ∙ h in absurd (cc (k))

less_is : (k n m : ℕ) → only_if (nat_le k n) (in_64_bits (n - k)) ≡ Some m → n ≡ m + k
less_is k n m h = by (nat_le k n) refl
  where
    by : (b : Bool) → nat_le k n ≡ b → n ≡ m + k
    by true e =
        let q : in_64_bits (n - k) ≡ Some m = sym (rw e refl) ∙ h in
        let low : k ≤ n = grind (arith, nat_tests, e) in
        let is = fits_is (n - k) m q in
        omega (arith, is, low)
    by false e = let q : None ≡ Some m = sym (rw e refl) ∙ h in absurd (cc (q))

shifted_up : (op : Order) (u v u' v' k : ℕ) → u' ≡ u + k → v' ≡ v + k → compares op u v ≡ true → compares op u' v' ≡ true
shifted_up less u v u' v' k p q h = grind (arith, nat_tests, h, p, q)
shifted_up at_most u v u' v' k p q h = grind (arith, nat_tests, h, p, q)
shifted_up equal u v u' v' k p q h = grind (arith, nat_tests, h, p, q)
shifted_up differs u v u' v' k p q h = grind (arith, nat_tests, h, p, q)
shifted_up at_least u v u' v' k p q h = grind (arith, nat_tests, h, p, q)
shifted_up greater u v u' v' k p q h = grind (arith, nat_tests, h, p, q)

shifted_down : (op : Order) (u v u' v' k : ℕ) → u ≡ u' + k → v ≡ v' + k → compares op u v ≡ true → compares op u' v' ≡ true
shifted_down less u v u' v' k p q h = grind (arith, nat_tests, h, p, q)
shifted_down at_most u v u' v' k p q h = grind (arith, nat_tests, h, p, q)
shifted_down equal u v u' v' k p q h = grind (arith, nat_tests, h, p, q)
shifted_down differs u v u' v' k p q h = grind (arith, nat_tests, h, p, q)
shifted_down at_least u v u' v' k p q h = grind (arith, nat_tests, h, p, q)
shifted_down greater u v u' v' k p q h = grind (arith, nat_tests, h, p, q)

still_least : (op : Order) (u v u' v' k : ℕ) → is_least op ≡ true → u ≤ u' + k → v ≡ v' + k → compares op u v ≡ true → compares op u' v' ≡ true
still_least at_least u v u' v' k l p q h = grind (arith, nat_tests, h, p, q)
still_least greater u v u' v' k l p q h = grind (arith, nat_tests, h, p, q)
still_least op u v u' v' k l p q h = absurd (cc (l))

taken_along : (change : Change) (form : Form) (op : Order) (u v u' v' : ℕ) → moves_with change form op ≡ true → Becomes change u u' → moved_number change v ≡ Some v' → compares op u v ≡ true → compares op u' v' ≡ true
taken_along (Raised k) form op u v u' v' w b m h = shifted_up op u v u' v' k b (fits_is (v + k) v' m) h
taken_along (Lowered k) form op u v u' v' w b m h = shifted_down op u v u' v' k b (less_is k v v' m) h
taken_along (Shortened (Some k)) form op u v u' v' w b m h = still_least op u v u' v' k (and_parts (is_io_length form) _ w).1 b (less_is k v v' m) h
taken_along (Shortened None) form op u v u' v' w b m h = absurd (cc (m))

spoken : (change : Change) (form : Form) (op : Order) → moves_with change form op ≡ true → speaks_of change form ≡ true
spoken (Raised k) form op h = h
spoken (Lowered k) form op h = h
spoken (Shortened k) form op h = (and_parts (is_io_length form) _ h).0

module _ (x : Thing) (change : Change) (s s' : State) (takes : TakesPlace x change s s') where
  one_moved : (t : NumTree) (op : Order) (at : Place) (n m : ℕ) → num_mentions x t ≡ true → moves_with change (form_of t) op ≡ true → moved_number change n ≡ Some m
      → claim_truth s (compared (single t) op (single (number at n))) ≡ Some true → claim_truth s' (compared (single t) op (single (number no_place m))) ≡ Some true
  one_moved t op at n m mentioned w moved h =
      let p = compared-parts op (value s t) (Some n) h in
      let e : n ≡ p.right = some_of n p.right p.right_is in
      let v = takes.moved t p.left mentioned (spoken change (form_of t) op w) p.left_is in
      let Q : ℕ → Type 0 = λ k. compares op p.left k ≡ true in
      rw v.1 (ap (λ b. Some b) (taken_along change (form_of t) op p.left n v.0 m w v.2 moved (subst Q (sym e) p.holds)))

  or_false : (b : Bool) → (b || false) ≡ true → b ≡ true
  or_false true h = refl
  or_false false h = absurd (cc (h))

  known_true : (f : Claim) → claim_mentions x f ≡ true → claim_truth s f ≡ Some true → (g : Claim) → still_known change f ≡ Some g → claim_truth s' g ≡ Some true
  known_true (compared (single t) op (single (number at n))) mentioned h g known =
      by (moves_with change (form_of t) op) (moved_number change n) refl refl
    where
      by : (b : Bool) (o : Option ℕ) → moves_with change (form_of t) op ≡ b → moved_number change n ≡ o → claim_truth s' g ≡ Some true
      by true (Some m) w k =
          let e : Some (compared (single t) op (single (number no_place m))) ≡ Some g = sym (rw (w, k) refl) ∙ known in
          let is : compared (single t) op (single (number no_place m)) ≡ g = cc (e) in
          let P : Claim → Type 0 = λ c. claim_truth s' c ≡ Some true in
          subst P is (one_moved t op at n m (or_false (num_mentions x t) mentioned) w k h)
      by true None w k = let e : None ≡ Some g = sym (rw (w, k) refl) ∙ known in absurd (cc (e))
      by false o w k = let e : None ≡ Some g = sym (rw w refl) ∙ known in absurd (cc (e))
  known_true (compared (single t) op b) mentioned h g known = absurd (cc (known))
  known_true (compared (sum a b) op (single (number at n))) mentioned h g known = absurd (cc (known))
  known_true (compared (sum a b) op d) mentioned h g known = absurd (cc (known))
  known_true (stands c answer) mentioned h g known = absurd (cc (known))

  pub changed-true : (fs : List Claim) → AllTrue s fs → AllTrue s' (changed x change fs)
  changed-true [] h = tt
  changed-true (f ∷ fs) h = by (claim_mentions x f) (still_known change f) refl refl (changed-true fs h.1)
    where
      by : (b : Bool) (o : Option Claim) → claim_mentions x f ≡ b → still_known change f ≡ o → AllTrue s' (changed x change fs) → AllTrue s' (changed x change (f ∷ fs))
      by true (Some g) e k rest = rw (e, k) (known_true f e h.0 g k, rest)
      by true None e k rest = rw (e, k) rest
      by false o e k rest = rw e (sym (claim_depends x s s' takes.others f e) ∙ h.0, rest)
