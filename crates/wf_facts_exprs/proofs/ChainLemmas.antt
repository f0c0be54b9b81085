-- A chain is judged from the left, one operand after the other.
use Rattle.std.proofs.Common.{◌≡◌, ℕ, zero, suc, ◌+◌, ◌-◌, ◌<◌, ◌≤◌, Bool, true, false, ◌&&◌, List, [], ◌∷◌, length, map, drop, Option, Some, None, nat_lt, nat_eq, refl, sym, ap, ◌∙◌, arith}
use Rattle.std.specs.Prelude.{slice_index_or, Result, Ok, Err}
use Rattle.std.specs.List.{list_all}
use Rattle.std.proofs.Math.Seq.{drop-cons}
use Rattle.std.proofs.lemmas.List.{drop_all}
use Rattle.std.proofs.lemmas.Bool.Decides.{nat_tests}
use Rattle.wf_text.specs.declared.place.Place.{Place}
use Rattle.wf_text.specs.declared.rules.Rule.TheVariants.{B1}
use Rattle.wf_text.specs.declared.rules.Refusal.{Refusal}
use Rattle.wf_num.specs.declared.ranges.Range.{Range}
use Rattle.wf_num.specs.Ranges.{fits_width}
use Rattle.wf_ast.specs.declared.numbers.ExprId.{ExprId}
use Rattle.wf_ast.specs.declared.types.Ty.{Ty}
use Rattle.wf_ast.specs.declared.typed_nodes.TypedNodes.{TypedNodes}
use Rattle.wf_ast.specs.TypedTree.{Arith, minus, mod_minus, sat_minus, NumTree, link}
use Rattle.wf_ast.specs.TypedTrees.{OperatorKind, arithmetic, ordering, joining, num_in, num_chain, chain_of, first_sign, num_type, tree_of}
use Rattle.wf_ast.specs.OperatorForms.{arith_in, is_arithmetic}
use Rattle.wf_ast.specs.NodeKinds.{node_number}
use Rattle.wf_facts_exprs.specs.Claims.{Claim}
use Rattle.wf_facts_exprs.specs.RangeOf.{rule_range, part_range, range_of, is_ordered, operator_range}
use Rattle.wf_facts_exprs.specs.Demands.{demand, or_else, operand_demand, num_refusal, unless_refused}
use Rattle.wf_facts_exprs.specs.Operands.{is_difference, after, rule_refusal, ruled, judged, rest_signs, is_last, part_demand, one_more, and_then_range, chain_on, part_number}
use Rattle.wf_facts_exprs.proofs.PassLemmas.{both_of}
use Rattle.wf_facts_exprs.proofs.JudgeLemmas.{answer-ok, answer-err, after-or, or-none}

end-chain : (q : Option Refusal) (s : Range) → and_then_range (unless_refused q s) (λ r. Ok r) ≡ unless_refused q s
end-chain None s = refl
end-chain (Some x) s = refl

module _ (fs : List Claim) (nodes : TypedNodes) (at : Place) (op : Arith) (bits : ℕ) where
  -- A part that is refused refuses the whole chain.
  refused-chain : (so_far : NumTree) (x : Refusal) (t : ExprId) (ts : List ExprId) (signs : List Place) → num_refusal fs true so_far ≡ Some x
      → rule_refusal fs (num_chain at op bits true so_far (map (tree_of nodes) (t ∷ ts)) signs) ≡ Some x
  refused-chain so_far x t [] [] h = rw h refl
  refused-chain so_far x t [] (s ∷ ss) h = rw h refl
  refused-chain so_far x t (u ∷ us) [] h = refused-chain (link at at op bits true so_far (node_number nodes t)) x u us [] (rw h refl)
  refused-chain so_far x t (u ∷ us) (s ∷ ss) h = refused-chain (link at s op bits true so_far (node_number nodes t)) x u us ss (rw h refl)

  more-is : (sign : Place) (ordered last : Bool) (r : Range) (t : NumTree) → one_more fs op bits sign ordered last r t
      ≡ unless_refused (or_else (num_refusal fs false t) (or_else (operand_demand op bits sign (range_of fs t)) (part_demand last bits sign (operator_range op bits ordered r (range_of fs t))))) (operator_range op bits ordered r (range_of fs t))
  more-is sign ordered last r t = after-or (num_refusal fs false t) (operand_demand op bits sign (range_of fs t)) (part_demand last bits sign (operator_range op bits ordered r (range_of fs t))) (operator_range op bits ordered r (range_of fs t))

  ordered-first : (joined : Bool) (so_far first t : NumTree) → (joined ≡ false → so_far ≡ first) → is_ordered fs joined first t ≡ is_ordered fs joined so_far t
  ordered-first true so_far first t h = refl
  ordered-first false so_far first t h = ap (λ a. is_ordered fs false a t) (sym (h refl))

  chain-one : (joined : Bool) (so_far first : NumTree) (r : Range) (t : ExprId) (sign : Place) → num_refusal fs joined so_far ≡ None → part_range joined fs so_far ≡ r → (joined ≡ false → so_far ≡ first)
      → and_then_range (one_more fs op bits sign (is_ordered fs joined first (node_number nodes t)) true r (node_number nodes t)) (λ s. Ok s) ≡ ruled fs (link at sign op bits joined so_far (node_number nodes t))
  chain-one joined so_far first r t sign h k same =
      let tn = node_number nodes t in
      let o = ordered-first joined so_far first tn same in
      let p = ap (λ b. and_then_range (one_more fs op bits sign b true r tn) (λ s. Ok s)) o in
      let q = ap (λ r. and_then_range (one_more fs op bits sign (is_ordered fs joined so_far tn) true r tn) (λ s. Ok s)) (sym k) in
      let s = operator_range op bits (is_ordered fs joined so_far tn) (part_range joined fs so_far) (range_of fs tn) in
      let m = ap (λ a. and_then_range a (λ s. Ok s)) (more-is sign (is_ordered fs joined so_far tn) true (part_range joined fs so_far) tn) in
      let e = end-chain (or_else (num_refusal fs false tn) (or_else (operand_demand op bits sign (range_of fs tn)) None)) s in
      let n = ap (λ d. unless_refused (or_else (num_refusal fs false tn) d) s) (or-none (operand_demand op bits sign (range_of fs tn))) in
      let g = ap (λ a. unless_refused (or_else a (or_else (num_refusal fs false tn) (operand_demand op bits sign (range_of fs tn)))) s) (sym h) in
      p ∙ q ∙ m ∙ e ∙ n ∙ g

  -- The part with one operand more, and the rest of the chain.
  chain-more : (joined : Bool) (so_far first : NumTree) (r : Range) (t u : ExprId) (us : List ExprId) (sign : Place) (signs : List Place) → num_refusal fs joined so_far ≡ None → part_range joined fs so_far ≡ r → (joined ≡ false → so_far ≡ first)
      → (num_refusal fs true (link at sign op bits joined so_far (node_number nodes t)) ≡ None
      → chain_on fs at op bits true first (rule_range fs (link at sign op bits joined so_far (node_number nodes t))) (map (node_number nodes) (u ∷ us)) signs ≡ ruled fs (num_chain at op bits true (link at sign op bits joined so_far (node_number nodes t)) (map (tree_of nodes) (u ∷ us)) signs))
      → and_then_range (one_more fs op bits sign (is_ordered fs joined first (node_number nodes t)) false r (node_number nodes t)) (λ s. chain_on fs at op bits true first s (map (node_number nodes) (u ∷ us)) signs)
      ≡ ruled fs (num_chain at op bits true (link at sign op bits joined so_far (node_number nodes t)) (map (tree_of nodes) (u ∷ us)) signs)
  chain-more joined so_far first r t u us sign signs h k same next =
      let tn = node_number nodes t in
      let l = link at sign op bits joined so_far tn in
      let rest : Range → Result Range Refusal = λ s. chain_on fs at op bits true first s (map (node_number nodes) (u ∷ us)) signs in
      let o = ap (λ b. and_then_range (one_more fs op bits sign b false r tn) rest) (ordered-first joined so_far first tn same) in
      let q = ap (λ r. and_then_range (one_more fs op bits sign (is_ordered fs joined so_far tn) false r tn) rest) (sym k) in
      let m = ap (λ a. and_then_range a rest) (more-is sign (is_ordered fs joined so_far tn) false (part_range joined fs so_far) tn) in
      let refusal : num_refusal fs true l ≡ or_else (num_refusal fs false tn) (or_else (operand_demand op bits sign (range_of fs tn)) (part_demand false bits sign (rule_range fs l))) =
      ap (λ a. or_else a (or_else (num_refusal fs false tn) (or_else (operand_demand op bits sign (range_of fs tn)) (demand (fits_width (rule_range fs l) bits) B1 sign)))) h in
      o ∙ q ∙ m ∙ ap (λ p. and_then_range (unless_refused p (rule_range fs l)) rest) (sym refusal) ∙ by_refusal l (num_refusal fs true l) refl next
    where
      by_refusal : (l : NumTree) (p : Option Refusal) → num_refusal fs true l ≡ p
          → (num_refusal fs true l ≡ None → chain_on fs at op bits true first (rule_range fs l) (map (node_number nodes) (u ∷ us)) signs ≡ ruled fs (num_chain at op bits true l (map (tree_of nodes) (u ∷ us)) signs))
          → and_then_range (unless_refused p (rule_range fs l)) (λ s. chain_on fs at op bits true first s (map (node_number nodes) (u ∷ us)) signs) ≡ ruled fs (num_chain at op bits true l (map (tree_of nodes) (u ∷ us)) signs)
      by_refusal l None e next = next e
      by_refusal l (Some x) e next = ap (λ p. unless_refused p (rule_range fs (num_chain at op bits true l (map (tree_of nodes) (u ∷ us)) signs))) (sym (refused-chain l x u us signs e))

  chain-answer : (joined : Bool) (so_far first : NumTree) (r : Range) (t : ExprId) (ts : List ExprId) (signs : List Place) → num_refusal fs joined so_far ≡ None → part_range joined fs so_far ≡ r → (joined ≡ false → so_far ≡ first)
      → chain_on fs at op bits joined first r (map (node_number nodes) (t ∷ ts)) signs ≡ ruled fs (num_chain at op bits joined so_far (map (tree_of nodes) (t ∷ ts)) signs)
  chain-answer joined so_far first r t [] [] h k same = chain-one joined so_far first r t at h k same
  chain-answer joined so_far first r t [] (s ∷ ss) h k same = chain-one joined so_far first r t s h k same
  chain-answer joined so_far first r t (u ∷ us) [] h k same =
      chain-more joined so_far first r t u us at [] h k same (λ e. chain-answer true (link at at op bits joined so_far (node_number nodes t)) first (rule_range fs (link at at op bits joined so_far (node_number nodes t))) u us [] e refl (λ j. absurd (cc (j))))
  chain-answer joined so_far first r t (u ∷ us) (s ∷ ss) h k same =
      chain-more joined so_far first r t u us s ss h k same (λ e. chain-answer true (link at s op bits joined so_far (node_number nodes t)) first (rule_range fs (link at s op bits joined so_far (node_number nodes t))) u us ss e refl (λ j. absurd (cc (j))))

  -- ---- the loop over the operands

  signs-on : (i : ℕ) (signs : List Place) → drop (suc i) signs ≡ rest_signs (drop i signs)
  signs-on zero [] = refl
  signs-on zero (s ∷ ss) = refl
  signs-on (suc i) [] = refl
  signs-on (suc i) (s ∷ ss) = signs-on i ss

  last-is : (i : ℕ) (es : List ExprId) → i < length es → nat_eq (i + 1) (length es) ≡ is_last (map (node_number nodes) (drop (suc i) es))
  last-is i [] h = absurd (omega (arith, h))
  last-is zero (e ∷ []) h = refl
  last-is zero (e ∷ f ∷ es) h = grind (arith, nat_tests)
  last-is (suc i) (e ∷ es) h =
      let same : nat_eq (suc i + 1) (length (e ∷ es)) ≡ nat_eq (i + 1) (length es) = grind (arith, nat_tests) in
      same ∙ last-is i es (omega (arith, h))

  -- The chain from one operand on: that operand, and the rest.
  pub chain-at : (first : NumTree) (r : Range) (i : ℕ) (es : List ExprId) (signs : List Place) → 1 ≤ i → i < length es
      → chain_on fs at op bits (nat_lt 1 i) first r (map (node_number nodes) (drop i es)) (drop (i - 1) signs)
      ≡ and_then_range (one_more fs op bits (first_sign at (drop (i - 1) signs)) (is_ordered fs (nat_lt 1 i) first (part_number nodes es i)) (nat_eq (i + 1) (length es)) r (part_number nodes es i))
      (λ s. chain_on fs at op bits (nat_lt 1 (i + 1)) first s (map (node_number nodes) (drop (i + 1) es)) (drop (i + 1 - 1) signs))
  chain-at first r (suc i) es signs low within =
      let d = drop-cons es (suc i) (record { 0 = 0 }) within in
      let j : suc i - 1 ≡ i = omega arith in
      let k : suc (suc i) ≡ suc i + 1 = omega arith in
      let l : suc i + 1 - 1 ≡ suc i = omega arith in
      let true_again : nat_lt 1 (suc i + 1) ≡ true = grind (arith, nat_tests) in
      let rest = map (node_number nodes) (drop (suc (suc i)) es) in
      let p = part_number nodes es (suc i) in
      ap (λ es. chain_on fs at op bits (nat_lt 1 (suc i)) first r (map (node_number nodes) es) (drop (suc i - 1) signs)) d
      ∙ ap (λ b. and_then_range (one_more fs op bits (first_sign at (drop (suc i - 1) signs)) (is_ordered fs (nat_lt 1 (suc i)) first p) b r p) (λ s. chain_on fs at op bits true first s rest (rest_signs (drop (suc i - 1) signs)))) (sym (last-is (suc i) es within))
      ∙ ap (λ ss. and_then_range (one_more fs op bits (first_sign at (drop (suc i - 1) signs)) (is_ordered fs (nat_lt 1 (suc i)) first p) (nat_eq (suc i + 1) (length es)) r p) (λ s. chain_on fs at op bits true first s rest ss)) (ap (λ n. rest_signs (drop n signs)) j ∙ sym (signs-on i signs) ∙ ap (λ n. drop n signs) (sym l))
      ∙ ap (λ b. and_then_range (one_more fs op bits (first_sign at (drop (suc i - 1) signs)) (is_ordered fs (nat_lt 1 (suc i)) first p) (nat_eq (suc i + 1) (length es)) r p) (λ s. chain_on fs at op bits b first s rest (drop (suc i + 1 - 1) signs))) (sym true_again)
      ∙ ap (λ n. and_then_range (one_more fs op bits (first_sign at (drop (suc i - 1) signs)) (is_ordered fs (nat_lt 1 (suc i)) first p) (nat_eq (suc i + 1) (length es)) r p) (λ s. chain_on fs at op bits (nat_lt 1 (suc i + 1)) first s (map (node_number nodes) (drop n es)) (drop (suc i + 1 - 1) signs))) k
  chain-at first r zero es signs low within = absurd (omega (arith, low))

  pub chain-over : (first : NumTree) (r : Range) (i : ℕ) (es : List ExprId) (signs : List Place) → length es ≤ i → chain_on fs at op bits (nat_lt 1 i) first r (map (node_number nodes) (drop i es)) (drop (i - 1) signs) ≡ Ok r
  chain-over first r i es signs long = ap (λ es. chain_on fs at op bits (nat_lt 1 i) first r (map (node_number nodes) es) (drop (i - 1) signs)) (drop_all i es long)

-- ---- a node that is a chain

refused-from : (fs : List Claim) (nodes : TypedNodes) (at : Place) (op : Arith) (bits : ℕ) (joined : Bool) (so_far : NumTree) (x : Refusal) (t : ExprId) (ts : List ExprId) (signs : List Place) → num_refusal fs joined so_far ≡ Some x
    → rule_refusal fs (num_chain at op bits joined so_far (map (tree_of nodes) (t ∷ ts)) signs) ≡ Some x
refused-from fs nodes at op bits joined so_far x t [] [] h = rw h refl
refused-from fs nodes at op bits joined so_far x t [] (s ∷ ss) h = rw h refl
refused-from fs nodes at op bits joined so_far x t (u ∷ us) [] h = refused-from fs nodes at op bits true (link at at op bits joined so_far (node_number nodes t)) x u us [] (rw h refl)
refused-from fs nodes at op bits joined so_far x t (u ∷ us) (s ∷ ss) h = refused-from fs nodes at op bits true (link at s op bits joined so_far (node_number nodes t)) x u us ss (rw h refl)

pub first-refused : (fs : List Claim) (nodes : TypedNodes) (at : Place) (signs : List Place) (ty : Ty) (sort : OperatorKind) (es : List ExprId) (x : Refusal) → is_arithmetic sort ≡ true → 2 ≤ length es
    → Err x ≡ judged fs (part_number nodes es 0) → Err x ≡ ruled fs (num_in (chain_of at signs ty sort (map (tree_of nodes) es)))
first-refused fs nodes at signs ty (arithmetic op) (e ∷ f ∷ es) x a some h =
    let p = answer-err (num_refusal fs false (node_number nodes e)) (range_of fs (node_number nodes e)) x h in
    ap (λ p. unless_refused p (rule_range fs (num_chain at op (num_type ty).bits false (node_number nodes e) (map (tree_of nodes) (f ∷ es)) signs))) (sym (refused-from fs nodes at op (num_type ty).bits false (node_number nodes e) x f es signs p))
first-refused fs nodes at signs ty (arithmetic op) [] x a some h = absurd (omega (arith, some))
first-refused fs nodes at signs ty (arithmetic op) (e ∷ []) x a some h = absurd (omega (arith, some))
first-refused fs nodes at signs ty (joining both) es x a some h = absurd (cc (a))
first-refused fs nodes at signs ty (ordering op) es x a some h = absurd (cc (a))

pub chain-begins : (fs : List Claim) (nodes : TypedNodes) (at : Place) (signs : List Place) (ty : Ty) (sort : OperatorKind) (es : List ExprId) (r : Range) → is_arithmetic sort ≡ true → 2 ≤ length es
    → Ok r ≡ judged fs (part_number nodes es 0) → chain_on fs at (arith_in sort) (num_type ty).bits false (part_number nodes es 0) r (map (node_number nodes) (drop 1 es)) signs ≡ ruled fs (num_in (chain_of at signs ty sort (map (tree_of nodes) es)))
chain-begins fs nodes at signs ty (arithmetic op) (e ∷ f ∷ es) r a some h =
    let p = answer-ok (num_refusal fs false (node_number nodes e)) (range_of fs (node_number nodes e)) r h in
    chain-answer fs nodes at op (num_type ty).bits false (node_number nodes e) (node_number nodes e) r f es signs p.none p.is (λ j. refl)
chain-begins fs nodes at signs ty (arithmetic op) [] r a some h = absurd (omega (arith, some))
chain-begins fs nodes at signs ty (arithmetic op) (e ∷ []) r a some h = absurd (omega (arith, some))
chain-begins fs nodes at signs ty (joining both) es r a some h = absurd (cc (a))
chain-begins fs nodes at signs ty (ordering op) es r a some h = absurd (cc (a))

-- Where an operator isn't a difference, the order of its operands makes nothing.
order-counts : (op : Arith) (bits : ℕ) (ordered : Bool) (a b : Range) → operator_range op bits (is_difference op && ordered) a b ≡ operator_range op bits ordered a b
order-counts minus bits ordered a b = refl
order-counts mod_minus bits ordered a b = refl
order-counts sat_minus bits ordered a b = refl
order-counts op bits ordered a b = refl

pub more-unordered : (fs : List Claim) (op : Arith) (bits : ℕ) (sign : Place) (ordered last : Bool) (r : Range) (t : NumTree) → one_more fs op bits sign (is_difference op && ordered) last r t ≡ one_more fs op bits sign ordered last r t
more-unordered fs op bits sign ordered last r t =
    ap (λ s. after (num_refusal fs false t) (after (operand_demand op bits sign (range_of fs t)) (unless_refused (part_demand last bits sign s) s))) (order-counts op bits ordered r (range_of fs t))

-- What an item of a list passes that all pass.
pub item-true : (test : ExprId → Bool) (es : List ExprId) (i : ℕ) (d : ExprId) → list_all test es ≡ true → i < length es → test (slice_index_or es i d) ≡ true
item-true test [] i d h k = absurd (omega (arith, k))
item-true test (e ∷ es) zero d h k = (both_of (test e) _ h).0
item-true test (e ∷ es) (suc i) d h k = item-true test es i d (both_of (test e) _ h).1 (omega (arith, k))

module _ (fs : List Claim) (nodes : TypedNodes) (at : Place) (op : Arith) (bits : ℕ) (first : NumTree) (i : ℕ) (es : List ExprId) (signs : List Place) (r : Range) where
  -- One more operand at this place, and the chain from there on.
  abbrev pub next_at : Result Range Refusal
  next_at = one_more fs op bits (first_sign at (drop (i - 1) signs)) (is_ordered fs (nat_lt 1 i) first (part_number nodes es i)) (nat_eq (i + 1) (length es)) r (part_number nodes es i)

  abbrev pub from_at : Result Range Refusal
  from_at = chain_on fs at op bits (nat_lt 1 i) first r (map (node_number nodes) (drop i es)) (drop (i - 1) signs)

  pub chain-stops : (x : Refusal) (whole : Result Range Refusal) → 1 ≤ i → i < length es → Err x ≡ next_at → from_at ≡ whole → Err x ≡ whole
  chain-stops x whole low within h left =
      ap (λ a. and_then_range a (λ s. chain_on fs at op bits (nat_lt 1 (i + 1)) first s (map (node_number nodes) (drop (i + 1) es)) (drop (i + 1 - 1) signs))) h
      ∙ sym (chain-at fs nodes at op bits first r i es signs low within) ∙ left

  pub chain-goes-on : (s : Range) (whole : Result Range Refusal) → 1 ≤ i → i < length es → Ok s ≡ next_at → from_at ≡ whole
      → chain_on fs at op bits (nat_lt 1 (i + 1)) first s (map (node_number nodes) (drop (i + 1) es)) (drop (i + 1 - 1) signs) ≡ whole
  chain-goes-on s whole low within h left =
      ap (λ a. and_then_range a (λ s. chain_on fs at op bits (nat_lt 1 (i + 1)) first s (map (node_number nodes) (drop (i + 1) es)) (drop (i + 1 - 1) signs))) h
      ∙ sym (chain-at fs nodes at op bits first r i es signs low within) ∙ left

  pub chain-ends : (whole : Result Range Refusal) → length es ≤ i → from_at ≡ whole → Ok r ≡ whole
  chain-ends whole long left = sym (chain-over fs nodes at op bits first r i es signs long) ∙ left
