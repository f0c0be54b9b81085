-- The text that is left falls from each statement to each later one, and a label that is found is one of the statements.
use Rattle.std.proofs.Common.{◌≡◌, ℕ, zero, suc, ◌+◌, ◌<◌, ◌≤◌, Bool, true, false, List, [], ◌∷◌, ◌++◌, Option, Some, None, refl, subst, arith}
use Rattle.std.specs.Prelude.{if◌then◌else◌, slice_get}
use Rattle.c_text.specs.CTree.{Code, finish, nested, empty, assign, call, jump, branch, repeat, select, leave, case_label, default_label, name_label}
use Rattle.c_meaning.specs.CStep.{Continuation, behind, again, Place, at, code_weight, continuation_weight, place_weight, Label, enters_switch, is_case, is_default, is_named, first_of, here, find}
use Rattle.c_meaning.specs.TextOrder.{statements}

-- Every place has more text left than `low` and at most `high`; and of two places the later one has less.
abbrev Between : (low high : ℕ) → List Place → Type 0
Between low high [] = Unit {0}
Between low high (p ∷ ps) = (low < place_weight p) × (place_weight p ≤ high) × Between low high ps

abbrev Below : ℕ → List Place → Type 0
Below n [] = Unit {0}
Below n (p ∷ ps) = (place_weight p < n) × Below n ps

abbrev InOrder : List Place → Type 0
InOrder [] = Unit {0}
InOrder (p ∷ ps) = Below (place_weight p) ps × InOrder ps

between_more : (low high low' high' : ℕ) (ps : List Place) → low' ≤ low → high ≤ high' → Between low high ps → Between low' high' ps
between_more low high low' high' [] p q h = tt
between_more low high low' high' (x ∷ ps) p q h = (omega (arith, p, h.0), omega (arith, q, h.1), between_more low high low' high' ps p q h.2)

between_append : (low high : ℕ) (ps qs : List Place) → Between low high ps → Between low high qs → Between low high (ps ++ qs)
between_append low high [] qs h k = k
between_append low high (p ∷ ps) qs h k = (h.0, h.1, between_append low high ps qs h.2 k)

below_between : (n low high : ℕ) (ps : List Place) → high < n → Between low high ps → Below n ps
below_between n low high [] l h = tt
below_between n low high (p ∷ ps) l h = (omega (arith, l, h.1), below_between n low high ps l h.2)

below_append : (n : ℕ) (ps qs : List Place) → Below n ps → Below n qs → Below n (ps ++ qs)
below_append n [] qs h k = k
below_append n (p ∷ ps) qs h k = (h.0, below_append n ps qs h.1 k)

-- what is between is before what has less
in_order_append : (low high middle : ℕ) (ps qs : List Place) → Between middle high ps → Between low middle qs → InOrder ps → InOrder qs → InOrder (ps ++ qs)
in_order_append low high middle [] qs h k p q = q
in_order_append low high middle (x ∷ ps) qs h k p q =
    (below_append (place_weight x) ps qs p.0 (below_between (place_weight x) low middle qs h.0 k), in_order_append low high middle ps qs h.2 k p.1 q)

between : (c : Code) (k : Continuation) → Between (continuation_weight k) (code_weight c + continuation_weight k) (statements c k)
between finish k = tt
between (nested inner rest) k = (omega arith, omega arith, between_append _ _ (statements inner (behind finish rest k)) _ (between_more _ _ _ _ (statements inner (behind finish rest k)) (omega arith) (omega arith) (between inner (behind finish rest k))) (between_more _ _ _ _ (statements rest k) (omega arith) (omega arith) (between rest k)))
between (empty rest) k = (omega arith, omega arith, between_more _ _ _ _ (statements rest k) (omega arith) (omega arith) (between rest k))
between (assign target v rest) k = (omega arith, omega arith, between_more _ _ _ _ (statements rest k) (omega arith) (omega arith) (between rest k))
between (call target function given rest) k = (omega arith, omega arith, between_more _ _ _ _ (statements rest k) (omega arith) (omega arith) (between rest k))
between (jump label rest) k = (omega arith, omega arith, between_more _ _ _ _ (statements rest k) (omega arith) (omega arith) (between rest k))
between (branch test body otherwise other rest) k = (
  omega arith,
  omega arith,
  between_append _ _ (statements body (behind other rest k)) _ (between_more _ _ _ _ (statements body (behind other rest k)) (omega arith) (omega arith) (between body (behind other rest k)))
      (between_append _ _ (statements other (behind finish rest k)) _ (between_more _ _ _ _ (statements other (behind finish rest k)) (omega arith) (omega arith) (between other (behind finish rest k))) (between_more _ _ _ _ (statements rest k) (omega arith) (omega arith) (between rest k))),
)
between (repeat test body rest) k = (omega arith, omega arith, between_append _ _ (statements body (again test body (behind finish rest k))) _ (between_more _ _ _ _ (statements body (again test body (behind finish rest k))) (omega arith) (omega arith) (between body (again test body (behind finish rest k)))) (between_more _ _ _ _ (statements rest k) (omega arith) (omega arith) (between rest k)))
between (select on body rest) k = (omega arith, omega arith, between_append _ _ (statements body (behind finish rest k)) _ (between_more _ _ _ _ (statements body (behind finish rest k)) (omega arith) (omega arith) (between body (behind finish rest k))) (between_more _ _ _ _ (statements rest k) (omega arith) (omega arith) (between rest k)))
between (leave v rest) k = (omega arith, omega arith, between_more _ _ _ _ (statements rest k) (omega arith) (omega arith) (between rest k))
between (case_label n rest) k = (omega arith, omega arith, between_more _ _ _ _ (statements rest k) (omega arith) (omega arith) (between rest k))
between (default_label rest) k = (omega arith, omega arith, between_more _ _ _ _ (statements rest k) (omega arith) (omega arith) (between rest k))
between (name_label name rest) k = (omega arith, omega arith, between_more _ _ _ _ (statements rest k) (omega arith) (omega arith) (between rest k))

-- what follows a statement of a block
rest_below : (n : ℕ) (c : Code) (k : Continuation) → code_weight c + continuation_weight k < n → Below n (statements c k)
rest_below n c k h = below_between n _ _ (statements c k) h (between c k)

-- a block and what stands after it
in_order_behind : (c : Code) (k : Continuation) (low : ℕ) (qs : List Place) → Between low (continuation_weight k) qs → InOrder (statements c k) → InOrder qs → InOrder (statements c k ++ qs)
in_order_behind c k low qs h p q = in_order_append low (code_weight c + continuation_weight k) (continuation_weight k) (statements c k) qs (between c k) h p q

rest_between : (c : Code) (k : Continuation) (n : ℕ) → code_weight c + continuation_weight k ≤ n → Between (continuation_weight k) n (statements c k)
rest_between c k n h = between_more (continuation_weight k) (code_weight c + continuation_weight k) (continuation_weight k) n (statements c k) (omega arith) h (between c k)

in_order : (c : Code) (k : Continuation) → InOrder (statements c k)
in_order finish k = tt
in_order (nested inner rest) k = (
  below_append _ (statements inner (behind finish rest k)) _ (rest_below _ inner (behind finish rest k) (omega arith)) (rest_below _ rest k (omega arith)),
  in_order_behind inner (behind finish rest k) (continuation_weight k) (statements rest k) (rest_between rest k (continuation_weight (behind finish rest k)) (omega arith)) (in_order inner (behind finish rest k)) (in_order rest k),
)
in_order (empty rest) k = (rest_below _ rest k (omega arith), in_order rest k)
in_order (assign target v rest) k = (rest_below _ rest k (omega arith), in_order rest k)
in_order (call target function given rest) k = (rest_below _ rest k (omega arith), in_order rest k)
in_order (jump label rest) k = (rest_below _ rest k (omega arith), in_order rest k)
in_order (branch test body otherwise other rest) k = (
  below_append _ (statements body (behind other rest k)) _ (rest_below _ body (behind other rest k) (omega arith)) (below_append _ (statements other (behind finish rest k)) _ (rest_below _ other (behind finish rest k) (omega arith)) (rest_below _ rest k (omega arith))),
  in_order_behind body (behind other rest k) (continuation_weight k) (statements other (behind finish rest k) ++ statements rest k)
      (between_append _ _ (statements other (behind finish rest k)) (statements rest k) (between_more _ _ _ _ (statements other (behind finish rest k)) (omega arith) (omega arith) (between other (behind finish rest k))) (rest_between rest k (continuation_weight (behind other rest k)) (omega arith)))
      (in_order body (behind other rest k))
      (in_order_behind other (behind finish rest k) (continuation_weight k) (statements rest k) (rest_between rest k (continuation_weight (behind finish rest k)) (omega arith)) (in_order other (behind finish rest k)) (in_order rest k)),
)
in_order (repeat test body rest) k = (
  below_append _ (statements body (again test body (behind finish rest k))) _ (rest_below _ body (again test body (behind finish rest k)) (omega arith)) (rest_below _ rest k (omega arith)),
  in_order_behind body (again test body (behind finish rest k)) (continuation_weight k) (statements rest k) (rest_between rest k (continuation_weight (again test body (behind finish rest k))) (omega arith)) (in_order body (again test body (behind finish rest k))) (in_order rest k),
)
in_order (select on body rest) k = (
  below_append _ (statements body (behind finish rest k)) _ (rest_below _ body (behind finish rest k) (omega arith)) (rest_below _ rest k (omega arith)),
  in_order_behind body (behind finish rest k) (continuation_weight k) (statements rest k) (rest_between rest k (continuation_weight (behind finish rest k)) (omega arith)) (in_order body (behind finish rest k)) (in_order rest k),
)
in_order (leave v rest) k = (rest_below _ rest k (omega arith), in_order rest k)
in_order (case_label n rest) k = (rest_below _ rest k (omega arith), in_order rest k)
in_order (default_label rest) k = (rest_below _ rest k (omega arith), in_order rest k)
in_order (name_label name rest) k = (rest_below _ rest k (omega arith), in_order rest k)

below_at : (n : ℕ) (ps : List Place) (j : ℕ) (q : Place) → Below n ps → slice_get ps j ≡ Some q → place_weight q < n
below_at n [] j q h e = absurd (cc (e))
below_at n (p ∷ ps) zero q h e = let s : p ≡ q = cc (e) in subst (λ (x : Place). place_weight x < n) s h.0
below_at n (p ∷ ps) (suc j) q h e = below_at n ps j q h.1 e

order_at : (ps : List Place) (i j : ℕ) (p q : Place) → InOrder ps → slice_get ps i ≡ Some p → slice_get ps j ≡ Some q → i < j → place_weight q < place_weight p
order_at [] i j p q h e f l = absurd (cc (e))
order_at (x ∷ ps) zero zero p q h e f l = absurd (omega (arith, l))
order_at (x ∷ ps) zero (suc j) p q h e f l = let s : x ≡ p = cc (e) in subst (λ (y : Place). place_weight q < place_weight y) s (below_at (place_weight x) ps j q h.0 f)
order_at (x ∷ ps) (suc i) zero p q h e f l = absurd (omega (arith, l))
order_at (x ∷ ps) (suc i) (suc j) p q h e f l = order_at ps i j p q h.1 e f (omega (arith, l))

-- The statements of a function's body have less and less text left.
pub text_falls : (c : Code) (k : Continuation) (i j : ℕ) (p q : Place) → slice_get (statements c k) i ≡ Some p → slice_get (statements c k) j ≡ Some q → i < j → place_weight q < place_weight p
text_falls c k i j p q e f l = order_at (statements c k) i j p q (in_order c k) e f l

-- A place that is found is one of the statements.
abbrev pub IsOneOf : List Place → Option Place → Type 0
IsOneOf ps None = Unit {0}
IsOneOf ps (Some p) = (j : ℕ) × (slice_get ps j ≡ Some p)

one_first : (ps : List Place) (a b : Option Place) → IsOneOf ps a → IsOneOf ps b → IsOneOf ps (first_of a b)
one_first ps None b h k = k
one_first ps (Some p) b h k = h

one_here : (ps : List Place) (b : Bool) (p : Place) (o : Option Place) → IsOneOf ps (Some p) → IsOneOf ps o → IsOneOf ps (here b p o)
one_here ps true p o h k = h
one_here ps false p o h k = k

one_if : (ps : List Place) (b : Bool) (o : Option Place) → IsOneOf ps o → IsOneOf ps (if b then o else None)
one_if ps true o h = h
one_if ps false o h = tt

one_later : (x : Place) (ps : List Place) (o : Option Place) → IsOneOf ps o → IsOneOf (x ∷ ps) o
one_later x ps None h = tt
one_later x ps (Some p) h = (suc h.0, h.1)

get_left : (ps qs : List Place) (j : ℕ) (p : Place) → slice_get ps j ≡ Some p → slice_get (ps ++ qs) j ≡ Some p
get_left [] qs j p e = absurd (cc (e))
get_left (x ∷ ps) qs zero p e = e
get_left (x ∷ ps) qs (suc j) p e = get_left ps qs j p e

get_right : (ps qs : List Place) (j : ℕ) (p : Place) → slice_get qs j ≡ Some p → (i : ℕ) × (slice_get (ps ++ qs) i ≡ Some p)
get_right [] qs j p e = (j, e)
get_right (x ∷ ps) qs j p e = let found = get_right ps qs j p e in (suc found.0, found.1)

one_left : (ps qs : List Place) (o : Option Place) → IsOneOf ps o → IsOneOf (ps ++ qs) o
one_left ps qs None h = tt
one_left ps qs (Some p) h = (h.0, get_left ps qs h.0 p h.1)

one_right : (ps qs : List Place) (o : Option Place) → IsOneOf qs o → IsOneOf (ps ++ qs) o
one_right ps qs None h = tt
one_right ps qs (Some p) h = get_right ps qs h.0 p h.1

pub found_stands : (label : Label) (c : Code) (k : Continuation) → IsOneOf (statements c k) (find label c k)
found_stands label finish k = tt
found_stands label (nested inner rest) k = one_later _ _ (find label (nested inner rest) k) (one_first _ (find label inner (behind finish rest k)) _ (one_left _ _ (find label inner (behind finish rest k)) (found_stands label inner (behind finish rest k))) (one_right (statements inner (behind finish rest k)) _ (find label rest k) (found_stands label rest k)))
found_stands label (empty rest) k = one_later _ _ (find label rest k) (found_stands label rest k)
found_stands label (assign target v rest) k = one_later _ _ (find label rest k) (found_stands label rest k)
found_stands label (call target function given rest) k = one_later _ _ (find label rest k) (found_stands label rest k)
found_stands label (jump name rest) k = one_later _ _ (find label rest k) (found_stands label rest k)
found_stands label (branch test body otherwise other rest) k = one_later _ _ (find label (branch test body otherwise other rest) k) (one_first _ (find label body (behind other rest k)) _ (one_left _ _ (find label body (behind other rest k)) (found_stands label body (behind other rest k)))
    (one_right (statements body (behind other rest k)) _ (first_of (find label other (behind finish rest k)) (find label rest k)) (one_first _ (find label other (behind finish rest k)) _ (one_left _ _ (find label other (behind finish rest k)) (found_stands label other (behind finish rest k))) (one_right (statements other (behind finish rest k)) _ (find label rest k) (found_stands label rest k)))))
found_stands label (repeat test body rest) k = one_later _ _ (find label (repeat test body rest) k) (one_first _ (find label body (again test body (behind finish rest k))) _ (one_left _ _ (find label body (again test body (behind finish rest k))) (found_stands label body (again test body (behind finish rest k)))) (one_right (statements body (again test body (behind finish rest k))) _ (find label rest k) (found_stands label rest k)))
found_stands label (select on body rest) k = one_later _ _ (find label (select on body rest) k) (one_first _ (if enters_switch label then find label body (behind finish rest k) else None) _ (one_if _ (enters_switch label) _ (one_left _ _ (find label body (behind finish rest k)) (found_stands label body (behind finish rest k)))) (one_right (statements body (behind finish rest k)) _ (find label rest k) (found_stands label rest k)))
found_stands label (leave v rest) k = one_later _ _ (find label rest k) (found_stands label rest k)
found_stands label (case_label n rest) k = one_here (at (case_label n rest) k ∷ statements rest k) (is_case label n) (at (case_label n rest) k) (find label rest k) (0, refl) (one_later (at (case_label n rest) k) (statements rest k) (find label rest k) (found_stands label rest k))
found_stands label (default_label rest) k = one_here (at (default_label rest) k ∷ statements rest k) (is_default label) (at (default_label rest) k) (find label rest k) (0, refl) (one_later (at (default_label rest) k) (statements rest k) (find label rest k) (found_stands label rest k))
found_stands label (name_label name rest) k = one_here (at (name_label name rest) k ∷ statements rest k) (is_named label name) (at (name_label name rest) k) (find label rest k) (0, refl) (one_later (at (name_label name rest) k) (statements rest k) (find label rest k) (found_stands label rest k))
