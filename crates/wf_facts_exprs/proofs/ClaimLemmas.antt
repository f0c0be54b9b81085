-- What true claims say of the values of sides, and so of a range that is met with them.
use Rattle.std.proofs.Common.{◌≡◌, ℕ, ℤ, pos, ◌+◌, ◌^◌, ◌<◌, inl, inr, Bool, true, false, not, ◌&&◌, ◌||◌, List, [], ◌∷◌, Option, Some, None, nat_lt, refl, sym, ap, ◌∙◌, subst, arith}
use Rattle.std.specs.Prelude.{if◌then◌else◌, option_and_then, option_map}
use Rattle.wf_num.specs.declared.ranges.Range.{Range}
use Rattle.wf_num.specs.Ranges.{Holds, HoldsInt}
use Rattle.wf_ast.specs.TypedTree.{Arith, plus, Order, NumTree, number, read, element, link, convert, length_of, asked}
use Rattle.wf_ast.specs.TypedTrees.{no_place}
use Rattle.wf_ast.specs.Value.{State, value, applied, fitted, compares}
use Rattle.wf_ast.specs.Same.{same_num}
use Rattle.wf_ast.specs.WellTyped.{Context, is_width, fits, is_shift, continues, is_constant, is_whole_number, well_part, well_num}
use Rattle.wf_ast.proofs.SameValue.{number_same}
use Rattle.wf_facts_exprs.specs.Claims.{SideTree, single, sum, Claim, compared, stands, tree_of_side, same_side, side_value, claim_truth, AllTrue, flip}
use Rattle.wf_facts_exprs.specs.RangeOf.{claim_gives, first_rule, allows_no_more, narrowed, thinned, number_of_side, met_with, met_by, passed, met}
use Rattle.wf_facts_exprs.specs.LawfulState.{well_side, well_claim, well_claims}
use Rattle.wf_facts_exprs.proofs.OperatorLemmas.{result_of}
use Rattle.wf_facts_exprs.proofs.PassLemmas.{equal_numbers, or_cases, both_of, allowed, compares-flip, natural, whole, narrowed-holds, thinned-holds, narrowed-small, thinned-small}

pub some_of : (m n : ℕ) → Some m ≡ Some n → m ≡ n
some_of m n h = cc

-- A comparison that is true has sides with values.
pub record Compared (op : Order) (x y : Option ℕ) : Type 0 where
  pub left : ℕ
  pub right : ℕ
  pub left_is : x ≡ Some left
  pub right_is : y ≡ Some right
  pub holds : compares op left right ≡ true

pub compared-parts : (op : Order) (x y : Option ℕ) → option_and_then (λ m. option_map (compares op m) y) x ≡ Some true → Compared op x y
compared-parts op None y h = absurd (cc (h))
compared-parts op (Some m) None h = absurd (cc (h))
compared-parts op (Some m) (Some n) h = record { left = m; right = n; left_is = refl; right_is = refl; holds = cc (h) }

-- Two operands that have values.
pub record Both (x y : Option ℕ) (k : ℕ) : Type 0 where
  pub left : ℕ
  pub right : ℕ
  pub left_is : x ≡ Some left
  pub right_is : y ≡ Some right
  pub total : left + right ≡ k

pub sum-parts : (x y : Option ℕ) (k : ℕ) → option_and_then (λ m. option_map (λ n. m + n) y) x ≡ Some k → Both x y k
sum-parts None y k h = absurd (cc (h))
sum-parts (Some m) None k h = absurd (cc (h))
sum-parts (Some m) (Some n) k h = record { left = m; right = n; left_is = refl; right_is = refl; total = cc (h) }

fitted-value : (bits n k : ℕ) → fitted bits n ≡ Some k → n ≡ k
fitted-value bits n k h = by_test (nat_lt n (2 ^ bits)) h
  where
    by_test : (b : Bool) → (if b then Some n else None) ≡ Some k → n ≡ k
    by_test true e = cc (e)
    by_test false e = absurd (cc (e))

link-parts : (bits : ℕ) (x y : Option ℕ) (k : ℕ) → option_and_then (λ m. option_and_then (applied plus bits m) y) x ≡ Some k → Both x y k
link-parts bits None y k h = absurd (cc (h))
link-parts bits (Some m) None k h = absurd (cc (h))
link-parts bits (Some m) (Some n) k h = record { left = m; right = n; left_is = refl; right_is = refl; total = fitted-value bits (m + n) k h }

module _ (c : Context) (s : State) where
  well_operands : (at sign : _) (op : Arith) (bits : ℕ) (a b : NumTree) → well_part c (link at sign op bits false a b) ≡ true → (well_num c a ≡ true) × (well_num c b ≡ true)
  well_operands at sign op bits a b h =
      let p1 = both_of (is_width bits) _ h in
      let p2 = both_of (fits bits a) _ p1.1 in
      let p3 = both_of (is_shift op || fits bits b) _ p2.1 in
      let p4 = both_of (not false || continues op bits a) _ p3.1 in
      let p5 = both_of (is_whole_number a) _ p4.1 in
      let p6 = both_of (well_part c a) _ p5.1 in
      (rw (p5.0, p6.0) refl, p6.1)

  -- Two sides of one tree have one value, where they have values.
  single-same : (t u : NumTree) (x m : ℕ) → (is_constant t || well_num c t) ≡ true → (is_constant u || well_num c u) ≡ true → same_num t u ≡ true → value s t ≡ Some x → value s u ≡ Some m → x ≡ m
  single-same (number at i) (number at' j) x m h k e p q = let same = equal_numbers i j e in cc
  single-same (number at i) u x m h k e p q = absurd (cc (e))
  single-same t (number at j) x m h k e p q = absurd (cc (e))
  single-same t u x m h k e p q = let same = number_same c s t u h k e in cc

  sums-same : (a b a' b' : NumTree) (x m : ℕ) → well_num c a ≡ true → well_num c b ≡ true → well_num c a' ≡ true → well_num c b' ≡ true → same_num a a' ≡ true → same_num b b' ≡ true
      → Both (value s a) (value s b) x → Both (value s a') (value s b') m → x ≡ m
  sums-same a b a' b' x m ha hb ha' hb' ea eb p q =
      let u = number_same c s a a' ha ha' ea in
      let v = number_same c s b b' hb hb' eb in
      let i = some_of p.left q.left (sym p.left_is ∙ u ∙ q.left_is) in
      let j = some_of p.right q.right (sym p.right_is ∙ v ∙ q.right_is) in
      omega (arith, p.total, q.total, i, j)

  -- A sum against one tree, which is then a `+` of the same two.
  record Adds (a b t : NumTree) : Type 0 where
    left : NumTree
    right : NumTree
    bits : ℕ
    is : value s t ≡ option_and_then (λ m. option_and_then (applied plus bits m) (value s right)) (value s left)
    left_same : same_num a left ≡ true
    right_same : same_num b right ≡ true
    left_well : well_num c left ≡ true
    right_well : well_num c right ≡ true

  adds : (a b t : NumTree) → (is_constant t || well_num c t) ≡ true → same_num (link no_place no_place plus 0 false a b) t ≡ true → Adds a b t
  adds a b (link at sign plus bits false l r) h e =
      let p = both_of (same_num a l) _ e in
      let w = well_operands at sign plus bits l r (both_of (is_whole_number (link at sign plus bits false l r)) _ h).1 in
      record { left = l; right = r; bits = bits; is = refl; left_same = p.0; right_same = p.1; left_well = w.0; right_well = w.1 }
  adds a b (link at sign op bits joined l r) h e = absurd (cc (e))
  adds a b t h e = absurd (cc (e))

  adds-reversed : (a b t : NumTree) → (is_constant t || well_num c t) ≡ true → same_num t (link no_place no_place plus 0 false a b) ≡ true → well_num c a ≡ true → well_num c b ≡ true → (x m : ℕ) → value s t ≡ Some x → Both (value s a) (value s b) m → x ≡ m
  adds-reversed a b (link at sign plus bits false l r) h e wa wb x m p q =
      let k = both_of (same_num l a) _ e in
      let w = well_operands at sign plus bits l r (both_of (is_whole_number (link at sign plus bits false l r)) _ h).1 in
      sums-same l r a b x m w.0 w.1 wa wb k.0 k.1 (link-parts bits (value s l) (value s r) x p) q
  adds-reversed a b (link at sign op bits joined l r) h e wa wb x m p q = absurd (cc (e))
  adds-reversed a b t h e wa wb x m p q = absurd (cc (e))

  pub side-same : (l a : SideTree) (x m : ℕ) → well_side c l ≡ true → well_side c a ≡ true → same_side l a ≡ true → side_value s l ≡ Some x → side_value s a ≡ Some m → x ≡ m
  side-same (single t) (single u) x m h k e p q = single-same t u x m h k e p q
  side-same (sum a b) (sum a' b') x m h k e p q =
      let w = both_of (well_num c a) _ h in
      let w' = both_of (well_num c a') _ k in
      let i = both_of (same_num a a') _ e in
      sums-same a b a' b' x m w.0 w.1 w'.0 w'.1 i.0 i.1 (sum-parts (value s a) (value s b) x p) (sum-parts (value s a') (value s b') m q)
  side-same (sum a b) (single t) x m h k e p q =
      let w = both_of (well_num c a) _ h in
      let t' = adds a b t k e in
      sums-same a b t'.left t'.right x m w.0 w.1 t'.left_well t'.right_well t'.left_same t'.right_same (sum-parts (value s a) (value s b) x p) (link-parts t'.bits (value s t'.left) (value s t'.right) m (sym t'.is ∙ q))
  side-same (single t) (sum a b) x m h k e p q =
      let w = both_of (well_num c a) _ k in
      adds-reversed a b t h e w.0 w.1 x m p (sum-parts (value s a) (value s b) m q)

  -- A sum that is the same side as an operator's tree, which is then a `+`.
  pub sum-link : (l r : NumTree) (at sign : _) (op : Arith) (bits : ℕ) (joined : Bool) (a b : NumTree) (m n k : ℕ) → well_num c (link at sign op bits joined a b) ≡ true → well_side c (sum l r) ≡ true
      → same_num (link no_place no_place plus 0 false l r) (link at sign op bits joined a b) ≡ true → side_value s (sum l r) ≡ Some k → value s a ≡ Some m → value s b ≡ Some n → result_of op bits m n ≡ pos k
  sum-link l r at sign plus bits false a b m n k w wl same v p q =
      let x = both_of (well_num c l) _ wl in
      let y = well_operands at sign plus bits a b (both_of (is_whole_number (link at sign plus bits false a b)) _ w).1 in
      let e = both_of (same_num l a) _ same in
      ap pos (sym (sums-same l r a b k (m + n) x.0 x.1 y.0 y.1 e.0 e.1 (sum-parts (value s l) (value s r) k v) (record { left = m; right = n; left_is = p; right_is = q; total = refl })))
  sum-link l r at sign op bits joined a b m n k w wl same v p q = absurd (cc (same))

  -- ---- the first rule

  claim-true : (f : Claim) (a b : SideTree) (op : Order) (m n : ℕ) → well_claim c f ≡ true → claim_truth s f ≡ Some true → well_side c a ≡ true → well_side c b ≡ true
      → side_value s a ≡ Some m → side_value s b ≡ Some n → claim_gives f a op b ≡ true → compares op m n ≡ true
  claim-true (stands d answer) a b op m n w t wa wb p q g = absurd (cc (g))
  claim-true (compared l known r) a b op m n w t wa wb p q g =
      let v = compared-parts known (side_value s l) (side_value s r) t in
      let wl = both_of (well_side c l) _ w in
      elim (or_cases (same_side l a && (same_side r b && allows_no_more known op)) _ g) [
        | inl e ↦ straight v wl e
        | inr e ↦ turned_round v wl e
      ]
    where
      straight : Compared known (side_value s l) (side_value s r) → (well_side c l ≡ true) × (well_side c r ≡ true) → (same_side l a && (same_side r b && allows_no_more known op)) ≡ true → compares op m n ≡ true
      straight v wl e =
          let e1 = both_of (same_side l a) _ e in
          let e2 = both_of (same_side r b) _ e1.1 in
          let i = side-same l a v.left m wl.0 wa e1.0 v.left_is p in
          let j = side-same r b v.right n wl.1 wb e2.0 v.right_is q in
          allowed known op m n e2.1 (rw (sym i, sym j) v.holds)

      turned_round : Compared known (side_value s l) (side_value s r) → (well_side c l ≡ true) × (well_side c r ≡ true) → (same_side l b && (same_side r a && allows_no_more (flip known) op)) ≡ true → compares op m n ≡ true
      turned_round v wl e =
          let e1 = both_of (same_side l b) _ e in
          let e2 = both_of (same_side r a) _ e1.1 in
          let i = side-same l b v.left n wl.0 wb e1.0 v.left_is q in
          let j = side-same r a v.right m wl.1 wa e2.0 v.right_is p in
          allowed (flip known) op m n e2.1 (compares-flip known n m ∙ rw (sym i, sym j) v.holds)

  pub first-true : (fs : List Claim) (a b : SideTree) (op : Order) (m n : ℕ) → well_claims c fs ≡ true → AllTrue s fs → well_side c a ≡ true → well_side c b ≡ true
      → side_value s a ≡ Some m → side_value s b ≡ Some n → first_rule fs a op b ≡ true → compares op m n ≡ true
  first-true [] a b op m n w t wa wb p q g = absurd (cc (g))
  first-true (f ∷ fs) a b op m n w t wa wb p q g =
      let k = both_of (well_claim c f) _ w in
      elim (or_cases (claim_gives f a op b) _ g) [
        | inl e ↦ claim-true f a b op m n k.0 t.0 wa wb p q e
        | inr e ↦ first-true fs a b op m n k.1 t.1 wa wb p q e
      ]

  -- ---- meeting

  -- Whatever side of this tree has a value, z is that value.
  abbrev pub Agrees : NumTree → ℤ → Type 0
  Agrees t z = (l : SideTree) (m : ℕ) → well_side c l ≡ true → same_num (tree_of_side l) t ≡ true → side_value s l ≡ Some m → z ≡ pos m

  side_number : (r : SideTree) (n : ℕ) → number_of_side r ≡ Some n → side_value s r ≡ Some n
  side_number (single (number at i)) n h = h
  side_number (single (read at of p)) n h = absurd (cc (h))
  side_number (single (element at of cells i)) n h = absurd (cc (h))
  side_number (single (link at sign op bits joined a b)) n h = absurd (cc (h))
  side_number (single (convert at sign bits a)) n h = absurd (cc (h))
  side_number (single (length_of at cells)) n h = absurd (cc (h))
  side_number (single (asked at q a)) n h = absurd (cc (h))
  side_number (sum a b) n h = absurd (cc (h))

  met_by-holds : (pass : Order → ℕ → Range → Range) → ((op : Order) (n v : ℕ) (r : Range) → compares op v n ≡ true → Holds r v → Holds (pass op n r) v)
      → (f : Claim) (t : NumTree) (r : Range) (z : ℤ) → well_claim c f ≡ true → claim_truth s f ≡ Some true → Agrees t z → HoldsInt r z → HoldsInt (met_by pass f t r) z
  met_by-holds pass keeps (stands d answer) t held z w u agree h = h
  met_by-holds pass keeps (compared l op r) t held z w u agree h = by_test (same_num (tree_of_side l) t) refl (number_of_side r) refl
    where
      about : same_num (tree_of_side l) t ≡ true → (n : ℕ) → number_of_side r ≡ Some n → HoldsInt (pass op n held) z
      about e n is =
          let v = compared-parts op (side_value s l) (side_value s r) u in
          let same = agree l v.left (both_of (well_side c l) _ w).0 e v.left_is in
          let i = some_of v.right n (sym v.right_is ∙ side_number r n is) in
          let P : ℤ → Type 0 = λ z. HoldsInt held z in
          let Q : ℤ → Type 0 = λ z. HoldsInt (pass op n held) z in
          let R : ℕ → Type 0 = λ n. compares op v.left n ≡ true in
          subst Q (sym same) (whole _ _ (keeps op n v.left held (subst R i v.holds) (natural _ _ (subst P same h))))

      by_test : (b : Bool) → same_num (tree_of_side l) t ≡ b → (o : Option ℕ) → number_of_side r ≡ o → HoldsInt (met_with pass b op o held) z
      by_test true e (Some n) is = about e n is
      by_test true e None is = h
      by_test false e (Some n) is = h
      by_test false e None is = h

  passed-holds : (pass : Order → ℕ → Range → Range) → ((op : Order) (n v : ℕ) (r : Range) → compares op v n ≡ true → Holds r v → Holds (pass op n r) v)
      → (fs : List Claim) (t : NumTree) (r : Range) (z : ℤ) → well_claims c fs ≡ true → AllTrue s fs → Agrees t z → HoldsInt r z → HoldsInt (passed pass fs t r) z
  passed-holds pass keeps [] t r z w u agree h = h
  passed-holds pass keeps (f ∷ fs) t r z w u agree h =
      let k = both_of (well_claim c f) _ w in
      passed-holds pass keeps fs t (met_by pass f t r) z k.1 u.1 agree (met_by-holds pass keeps f t r z k.0 u.0 agree h)

  pub met-holds : (fs : List Claim) (t : NumTree) (r : Range) (z : ℤ) → well_claims c fs ≡ true → AllTrue s fs → Agrees t z → HoldsInt r z → HoldsInt (met fs t r) z
  unfolding met
  met-holds fs t r z w u agree h =
      passed-holds thinned thinned-holds fs t (passed narrowed fs t r) z w u agree (passed-holds narrowed narrowed-holds fs t r z w u agree h)

-- ---- meeting adds no number

met_with-small : (pass : Order → ℕ → Range → Range) → ((op : Order) (n k : ℕ) (r : Range) → r.hi < k → (pass op n r).hi < k) → (b : Bool) (op : Order) (o : Option ℕ) (k : ℕ) (r : Range) → r.hi < k → (met_with pass b op o r).hi < k
met_with-small pass keeps true op (Some n) k r h = keeps op n k r h
met_with-small pass keeps true op None k r h = h
met_with-small pass keeps false op (Some n) k r h = h
met_with-small pass keeps false op None k r h = h

passed-small : (pass : Order → ℕ → Range → Range) → ((op : Order) (n k : ℕ) (r : Range) → r.hi < k → (pass op n r).hi < k) → (fs : List Claim) (t : NumTree) (k : ℕ) (r : Range) → r.hi < k → (passed pass fs t r).hi < k
passed-small pass keeps [] t k r h = h
passed-small pass keeps (stands d answer ∷ fs) t k r h = passed-small pass keeps fs t k r h
passed-small pass keeps (compared l op right ∷ fs) t k r h =
    passed-small pass keeps fs t k (met_by pass (compared l op right) t r) (met_with-small pass keeps (same_num (tree_of_side l) t) op (number_of_side right) k r h)

pub met-small : (fs : List Claim) (t : NumTree) (k : ℕ) (r : Range) → r.hi < k → (met fs t r).hi < k
unfolding met
met-small fs t k r h = passed-small thinned thinned-small fs t k (passed narrowed fs t r) (passed-small narrowed narrowed-small fs t k r h)
