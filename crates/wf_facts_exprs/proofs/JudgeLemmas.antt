-- What the code's parts answer is what the definitions say.
use Rattle.std.proofs.Common.{◌≡◌, ℕ, zero, suc, ◌-◌, ◌<◌, ◌≤◌, Bool, true, false, ◌&&◌, ◌||◌, List, [], ◌∷◌, length, map, drop, Option, Some, None, nat_lt, refl, sym, ap, ◌∙◌, subst, arith}
use Rattle.std.specs.Prelude.{Result, Ok, Err}
use Rattle.std.specs.List.{list_all}
use Rattle.std.proofs.lemmas.Bool.Decides.{nat_tests}
use Rattle.wf_text.specs.declared.place.Place.{Place}
use Rattle.wf_text.specs.declared.rules.Rule.TheVariants.{B1, B2, B3, B9}
use Rattle.wf_text.specs.declared.rules.Refusal.{Refusal}
use Rattle.wf_num.specs.declared.ranges.Range.{Range}
use Rattle.wf_num.specs.Ranges.{IsSmall, fits_width, width_range}
use Rattle.wf_num.proofs.RangeLaws.{small-fits}
use Rattle.wf_base.specs.declared.base_methods.PeekForm.{PeekForm}
use Rattle.wf_base.specs.BaseTable.{bits_of, bytes_of, peek_width}
use Rattle.wf_ast.specs.declared.numbers.ExprId.{ExprId}
use Rattle.wf_ast.specs.declared.types.Ty.{Ty}
use Rattle.wf_ast.specs.declared.types.Ty.TheVariants as types
use Rattle.wf_ast.specs.declared.typed_nodes.TypedNodes.{TypedNodes}
use Rattle.wf_ast.specs.TypedTree.{Arith, Order, less, at_most, at_least, NumType, NumTree, number, read, element, link, convert, length_of, asked, reader_length, peek, SliceTree, absent, present, ValueTree, elements, io}
use Rattle.wf_ast.specs.TypedTrees.{OperatorKind, arithmetic, ordering, joining, no_place, num_in, slice_in, io_in, num_chain, chain_of, first_sign, num_type, tree_of, type_of_node, place_of_node}
use Rattle.wf_ast.specs.TypedInvariant.{is_expr, is_numeric, is_logical, is_list, is_io, is_tree_of, chain_fits}
use Rattle.wf_ast.specs.Same.{same_num}
use Rattle.wf_ast.specs.NodeKinds.{is_number_at, node_slice}
use Rattle.wf_ast.specs.OperatorForms.{is_arithmetic}
use Rattle.wf_facts_exprs.specs.Claims.{single, Claim, length_in, side_in}
use Rattle.wf_facts_exprs.specs.declared.facts.Side.{Side}
use Rattle.wf_facts_exprs.specs.declared.facts.Side.TheVariants as sides
use Rattle.wf_facts_exprs.specs.RangeOf.{first_rule, met, rule_range, range_of, side_range, type_range, operator_range}
use Rattle.wf_facts_exprs.specs.Given.{second_rule, gives_sides}
use Rattle.wf_facts_exprs.specs.Demands.{demand, or_else, operand_demand, num_refusal, slice_refusal, unless_refused}
use Rattle.wf_facts_exprs.specs.Operands.{rule_refusal, width_demand, ruled, judged, judged_slice, is_operator, after, part_demand, one_more, length_rule, ends_refusal}
use Rattle.wf_facts_exprs.specs.Shapes.{Alike}
use Rattle.wf_facts_exprs.proofs.PassLemmas.{both_of}
use Rattle.wf_facts_exprs.proofs.AlikeLemmas.{swapped, first-alike, met-alike}
use Rattle.wf_facts_exprs.proofs.ShapeLemmas.{alike_self, asked_alike, length_alike, length_in-alike}

-- ---- answers

pub record Accepted {X : Type 0} (p : Option Refusal) (x r : X) : Type 0 where
  pub none : p ≡ None
  pub is : x ≡ r

pub answer-ok : {X : Type 0} (p : Option Refusal) (x r : X) → Ok r ≡ unless_refused p x → Accepted p x r
answer-ok None x r h = record { none = refl; is = cc (h) }
answer-ok (Some q) x r h = absurd (cc (h))

pub answer-err : {X : Type 0} (p : Option Refusal) (x : X) (q : Refusal) → Err q ≡ unless_refused p x → p ≡ Some q
answer-err None x q h = absurd (cc (h))
answer-err (Some r) x q h = cc (h)

or-assoc : (p q r : Option Refusal) → or_else (or_else p q) r ≡ or_else p (or_else q r)
or-assoc None q r = refl
or-assoc (Some x) q r = refl

pub or-none : (p : Option Refusal) → or_else p None ≡ p
or-none None = refl
or-none (Some x) = refl

-- The demands of an expression are those of its rule and then its own width's.
split-refusal : (fs : List Claim) (t : NumTree) → num_refusal fs false t ≡ or_else (rule_refusal fs t) (width_demand t (range_of fs t))
split-refusal fs (number at n) = refl
split-refusal fs (read at of path) = refl
split-refusal fs (element at of t index) = sym (or-none (num_refusal fs false (element at of t index)))
split-refusal fs (link at sign op bits joined a b) =
    ap (or_else (num_refusal fs joined a)) (sym (or-assoc (num_refusal fs false b) (operand_demand op bits sign (range_of fs b)) _))
    ∙ sym (or-assoc (num_refusal fs joined a) _ _)
split-refusal fs (convert at sign bits a) = sym (or-none (num_refusal fs false (convert at sign bits a)))
split-refusal fs (length_of at t) = sym (or-none (slice_refusal fs t))
split-refusal fs (asked at q a) = sym (or-none (num_refusal fs false (asked at q a)))

pub judged-ok : (fs : List Claim) (t u : NumTree) (r s : Range) (answer : Result Range Refusal) → Ok r ≡ ruled fs t → s ≡ met fs u r → Alike u t → answer ≡ unless_refused (width_demand t s) s → answer ≡ judged fs t
judged-ok fs t u r s answer h m alike e =
    let a = answer-ok (rule_refusal fs t) (rule_range fs t) r h in
    let same : s ≡ range_of fs t = m ∙ ap (met fs u) (sym a.is) ∙ met-alike fs u t (rule_range fs t) alike in
    let refusal : num_refusal fs false t ≡ width_demand t (range_of fs t) = split-refusal fs t ∙ ap (λ p. or_else p (width_demand t (range_of fs t))) a.none in
    e ∙ ap (λ s. unless_refused (width_demand t s) s) same ∙ ap (λ p. unless_refused p (range_of fs t)) (sym refusal)

-- ---- chains that close

first-nil : (at : Place) (k : ℕ) → at ≡ first_sign at (drop k [])
first-nil at zero = refl
first-nil at (suc k) = refl

chain-width : (at : Place) (op : Arith) (bits : ℕ) (joined : Bool) (so_far : NumTree) (t : ValueTree) (ts : List ValueTree) (signs : List Place) (r : Range)
    → width_demand (num_chain at op bits joined so_far (t ∷ ts) signs) r ≡ demand (fits_width r bits) B1 (first_sign at (drop (length ts) signs))
chain-width at op bits joined so_far t [] [] r = refl
chain-width at op bits joined so_far t [] (s ∷ ss) r = refl
chain-width at op bits joined so_far t (u ∷ us) [] r =
    chain-width at op bits true (link at at op bits joined so_far (num_in t)) u us [] r ∙ ap (λ p. demand (fits_width r bits) B1 p) (sym (first-nil at (length us)))
chain-width at op bits joined so_far t (u ∷ us) (s ∷ ss) r = chain-width at op bits true (link at s op bits joined so_far (num_in t)) u us ss r

length-map : (look : ExprId → ValueTree) (es : List ExprId) → length (map look es) ≡ length es
length-map look [] = refl
length-map look (e ∷ es) = ap suc (length-map look es)

pub numeric-not-logical : (ty : Ty) → is_numeric ty ≡ true → is_logical ty ≡ true → ⊥
numeric-not-logical (types.Num width lo hi) h k = absurd (cc (k))
numeric-not-logical ty h k = absurd (cc (h))

-- The width of a chain is asked for at its last sign.
pub chain-closes : (nodes : TypedNodes) (look : ExprId → ValueTree) (at : Place) (signs : List Place) (ty : Ty) (sort : OperatorKind) (es : List ExprId) (r : Range) → is_numeric ty ≡ true → chain_fits nodes sort es ty ≡ true
    → width_demand (num_in (chain_of at signs ty sort (map look es))) r ≡ demand (fits_width r (num_type ty).bits) B1 (first_sign at (drop (length es - 2) signs))
chain-closes nodes look at signs ty (arithmetic op) (e ∷ f ∷ es) r h k =
    let n : length es ≡ suc (suc (length es)) - 2 = omega arith in
    let P : ℕ → Type 0 = λ n. width_demand (num_chain at op (num_type ty).bits false (num_in (look e)) (look f ∷ map look es) signs) r ≡ demand (fits_width r (num_type ty).bits) B1 (first_sign at (drop n signs)) in
    subst P (length-map look es ∙ n) (chain-width at op (num_type ty).bits false (num_in (look e)) (look f) (map look es) signs r)
chain-closes nodes look at signs ty (joining both) (e ∷ f ∷ es) r h k = absurd (numeric-not-logical ty h (both_of (is_logical ty) _ k).0)
chain-closes nodes look at signs ty (ordering op) (e ∷ f ∷ []) r h k = absurd (numeric-not-logical ty h (both_of (is_logical ty) _ k).0)
chain-closes nodes look at signs ty sort es r h k = absurd (cc (k))

pub closed-ok : (p : Option Refusal) (b : Bool) (sign : Place) (r : Range) → p ≡ demand b B1 sign → b ≡ true → Ok r ≡ unless_refused p r
closed-ok p b sign r h e = rw (h, e) refl

pub closed-err : (p : Option Refusal) (b : Bool) (sign at : Place) (r : Range) → p ≡ demand b B1 sign → b ≡ false → at ≡ sign → Err (record { rule = B1; at = at }) ≡ unless_refused p r
closed-err p b sign at r h e same = rw (h, e, same) refl

-- An arithmetic chain.
pub record IsArith (nodes : TypedNodes) (sort : OperatorKind) (es : List ExprId) : Type 0 where
  pub arithmetic_sort : is_arithmetic sort ≡ true
  pub numbers : list_all (is_number_at nodes) es ≡ true
  pub some : 2 ≤ length es

chain-operator : (at : Place) (op : Arith) (bits : ℕ) (joined : Bool) (so_far : NumTree) (t : ValueTree) (ts : List ValueTree) (signs : List Place) → is_operator (num_chain at op bits joined so_far (t ∷ ts) signs) ≡ true
chain-operator at op bits joined so_far t [] [] = refl
chain-operator at op bits joined so_far t [] (s ∷ ss) = refl
chain-operator at op bits joined so_far t (u ∷ us) [] = chain-operator at op bits true (link at at op bits joined so_far (num_in t)) u us []
chain-operator at op bits joined so_far t (u ∷ us) (s ∷ ss) = chain-operator at op bits true (link at s op bits joined so_far (num_in t)) u us ss

pub is-operator : (nodes : TypedNodes) (look : ExprId → ValueTree) (at : Place) (signs : List Place) (ty : Ty) (sort : OperatorKind) (es : List ExprId) → is_numeric ty ≡ true → chain_fits nodes sort es ty ≡ true → is_operator (num_in (chain_of at signs ty sort (map look es))) ≡ true
is-operator nodes look at signs ty (arithmetic op) (e ∷ f ∷ es) h k = chain-operator at op (num_type ty).bits false (num_in (look e)) (look f) (map look es) signs
is-operator nodes look at signs ty (joining both) (e ∷ f ∷ es) h k = absurd (numeric-not-logical ty h (both_of (is_logical ty) _ k).0)
is-operator nodes look at signs ty (ordering op) (e ∷ f ∷ []) h k = absurd (numeric-not-logical ty h (both_of (is_logical ty) _ k).0)
is-operator nodes look at signs ty sort es h k = absurd (cc (k))

and_both : (a b : Bool) → a ≡ true → b ≡ true → (a && b) ≡ true
and_both true b h k = k
and_both false b h k = absurd (cc (h))

all-numbers : (nodes : TypedNodes) (n : ℕ) (es : List ExprId) → n < length nodes.exprs → list_all (λ e. is_numeric (type_of_node nodes e.0)) es ≡ true → list_all (λ p. nat_lt p.0 n) es ≡ true → list_all (is_number_at nodes) es ≡ true
all-numbers nodes n [] h k l = refl
all-numbers nodes n (e ∷ es) h k l =
    let p = both_of (is_numeric (type_of_node nodes e.0)) _ k in
    let q = both_of (nat_lt e.0 n) _ l in
    let i : is_expr nodes e ≡ true = grind (arith, nat_tests, h, q.0) in
    and_both _ _ (and_both _ _ i p.0) (all-numbers nodes n es h p.1 q.1)

pub is-arith : (nodes : TypedNodes) (n : ℕ) (ty : Ty) (sort : OperatorKind) (es : List ExprId) → n < length nodes.exprs → is_numeric ty ≡ true → chain_fits nodes sort es ty ≡ true → list_all (λ p. nat_lt p.0 n) es ≡ true → IsArith nodes sort es
is-arith nodes n ty (arithmetic op) (e ∷ f ∷ es) h k l below = record {
  arithmetic_sort = refl;
  numbers = all-numbers nodes n (e ∷ f ∷ es) h (both_of (is_numeric ty) _ l).1 below;
  some = omega arith;
}
is-arith nodes n ty (joining both) (e ∷ f ∷ es) h k l below = absurd (numeric-not-logical ty k (both_of (is_logical ty) _ l).0)
is-arith nodes n ty (ordering op) (e ∷ f ∷ []) h k l below = absurd (numeric-not-logical ty k (both_of (is_logical ty) _ l).0)
is-arith nodes n ty sort es h k l below = absurd (cc (l))

-- ---- what is given of a length

number-left : (p q : Place) (n : ℕ) (x : NumTree) → same_num (number p n) x ≡ same_num (number q n) x
number-left p q n (number at m) = refl
number-left p q n x = refl

number-right : (p q : Place) (n : ℕ) (x : NumTree) → same_num x (number p n) ≡ same_num x (number q n)
number-right p q n (number at m) = refl
number-right p q n x = refl

pub number_alike : (p q : Place) (n : ℕ) → Alike (number p n) (number q n)
number_alike p q n = record { left = number-left p q n; right = number-right p q n }

pub sides-alike : (fs : List Claim) (op : Order) (a a' b b' : NumTree) → Alike a a' → Alike b b' → rule_range fs a ≡ rule_range fs a' → rule_range fs b ≡ rule_range fs b' → gives_sides fs (single a) op (single b) ≡ gives_sides fs (single a') op (single b')
sides-alike fs op a a' b b' h k i j =
    let x = met-alike fs a a' (rule_range fs a) h ∙ ap (met fs a') i in
    let y = met-alike fs b b' (rule_range fs b) k ∙ ap (met fs b') j in
    let z = first-alike fs op (single a) (single a') (single b) (single b') h k in
    λ n. z n || second_rule op (x n) (y n)

pub length-rule-is : (fs : List Claim) (nodes : TypedNodes) (e : ExprId) (ty : Ty) (t : ValueTree) → is_tree_of ty t ≡ true → (is_list ty || is_io ty) ≡ true → length_rule ty t ≡ rule_range fs (length_in nodes e ty t)
length-rule-is fs nodes e (types.Slice width) (elements t) h k = refl
length-rule-is fs nodes e (types.Array width lo hi n) (elements t) h k = refl
length-rule-is fs nodes e types.Reader (io at a) h k = refl
length-rule-is fs nodes e types.Writer (io at a) h k = refl
length-rule-is fs nodes e (types.Slice width) t h k = absurd (cc (h))
length-rule-is fs nodes e (types.Array width lo hi n) t h k = absurd (cc (h))
length-rule-is fs nodes e types.Reader t h k = absurd (cc (h))
length-rule-is fs nodes e types.Writer t h k = absurd (cc (h))
length-rule-is fs nodes e ty t h k = absurd (cc (k))

list-rule : (fs : List Claim) (nodes : TypedNodes) (e : ExprId) (p : Place) (ty : Ty) (t : ValueTree) → is_tree_of ty t ≡ true → is_list ty ≡ true → rule_range fs (length_in nodes e ty t) ≡ rule_range fs (length_of p (slice_in t))
list-rule fs nodes e p (types.Slice width) (elements t) h k = refl
list-rule fs nodes e p (types.Array width lo hi n) (elements t) h k = refl
list-rule fs nodes e p (types.Slice width) t h k = absurd (cc (h))
list-rule fs nodes e p (types.Array width lo hi n) t h k = absurd (cc (h))
list-rule fs nodes e p ty t h k = absurd (cc (k))

-- Two that are alike with a third.
chained : (t u v : NumTree) → Alike t u → Alike u v → Alike t v
chained t u v h k = record { left = λ x. h.left x ∙ k.left x; right = λ x. h.right x ∙ k.right x }

-- What is given of a number and the length of a slice.
pub length-given : (fs : List Claim) (nodes : TypedNodes) (on : ExprId) (op : Order) (t : NumTree) (p : Place) (side : Side) (r s : Range) → is_list (type_of_node nodes on.0) ≡ true → is_tree_of (type_of_node nodes on.0) (tree_of nodes on) ≡ true
    → side ≡ sides.Length on → r ≡ range_of fs t → s ≡ side_range fs (side_in nodes (sides.Length on))
    → (first_rule fs (single t) op (side_in nodes side) || second_rule op r s) ≡ gives_sides fs (single t) op (single (length_of p (node_slice nodes on)))
length-given fs nodes on op t p side r s list kind e i j =
    let inside : NumTree = length_in nodes on (type_of_node nodes on.0) (tree_of nodes on) in
    let outside : NumTree = length_of p (node_slice nodes on) in
    let alike : Alike inside outside = chained inside (length_of no_place (node_slice nodes on)) outside (swapped (length_of no_place (node_slice nodes on)) inside (length_in-alike nodes on (type_of_node nodes on.0) (tree_of nodes on) list kind)) (length_alike no_place p (node_slice nodes on)) in
    let same : (first_rule fs (single t) op (side_in nodes side) || second_rule op r s) ≡ gives_sides fs (single t) op (single inside) = λ n. first_rule fs (single t) op (side_in nodes (e n)) || second_rule op (i n) (j n) in
    same ∙ sides-alike fs op t t inside outside (alike_self t) alike refl (list-rule fs nodes on p (type_of_node nodes on.0) (tree_of nodes on) kind list)

-- ---- one more operand

pub after-or : (p d w : Option Refusal) (s : Range) → after p (after d (unless_refused w s)) ≡ unless_refused (or_else p (or_else d w)) s
after-or None None w s = refl
after-or None (Some x) w s = refl
after-or (Some x) d w s = refl

pub next-refused : (fs : List Claim) (op : Arith) (bits : ℕ) (sign : Place) (ordered last : Bool) (r q : Range) (t : NumTree) (x : Refusal) → Ok q ≡ judged fs t → Err x ≡ unless_refused (operand_demand op bits sign q) (tt {0}) → Err x ≡ one_more fs op bits sign ordered last r t
next-refused fs op bits sign ordered last r q t x h k =
    let a = answer-ok (num_refusal fs false t) (range_of fs t) q h in
    let d : operand_demand op bits sign (range_of fs t) ≡ Some x = ap (operand_demand op bits sign) a.is ∙ answer-err (operand_demand op bits sign q) (tt {0}) x k in
    rw (a.none, d) refl

last-or : (last b : Bool) (bits : ℕ) (sign : Place) (s : Range) → b ≡ fits_width s bits → (last || b) ≡ true → part_demand last bits sign s ≡ None
last-or true b bits sign s e h = refl
last-or false b bits sign s e h = rw (sym e, h) refl

pub next-ok : (fs : List Claim) (op : Arith) (bits : ℕ) (sign : Place) (ordered last b : Bool) (r q s : Range) (t : NumTree) → Ok q ≡ judged fs t → Ok (tt {0}) ≡ unless_refused (operand_demand op bits sign q) (tt {0}) → s ≡ operator_range op bits ordered r q
    → b ≡ fits_width s bits → (last || b) ≡ true → Ok s ≡ one_more fs op bits sign ordered last r t
next-ok fs op bits sign ordered last b r q s t h k e f g =
    let a = answer-ok (num_refusal fs false t) (range_of fs t) q h in
    let d = answer-ok (operand_demand op bits sign q) (tt {0}) (tt {0}) k in
    let d' : operand_demand op bits sign (range_of fs t) ≡ None = ap (operand_demand op bits sign) a.is ∙ d.none in
    let same : operator_range op bits ordered r (range_of fs t) ≡ s = ap (operator_range op bits ordered r) a.is ∙ sym e in
    let w : part_demand last bits sign s ≡ None = last-or last b bits sign s f g in
    let w' : part_demand last bits sign (operator_range op bits ordered r (range_of fs t)) ≡ None = ap (part_demand last bits sign) same ∙ w in
    rw (a.none, d', w') (ap Ok (sym same))

neither : (last b : Bool) → (last || b) ≡ false → (last ≡ false) × (b ≡ false)
neither true b h = absurd (cc (h))
neither false b h = (refl, h)

pub next-err : (fs : List Claim) (op : Arith) (bits : ℕ) (sign : Place) (ordered last b : Bool) (r q s : Range) (t : NumTree) → Ok q ≡ judged fs t → Ok (tt {0}) ≡ unless_refused (operand_demand op bits sign q) (tt {0}) → s ≡ operator_range op bits ordered r q
    → b ≡ fits_width s bits → (last || b) ≡ false → Err (record { rule = B1; at = sign }) ≡ one_more fs op bits sign ordered last r t
next-err fs op bits sign ordered last b r q s t h k e f g =
    let a = answer-ok (num_refusal fs false t) (range_of fs t) q h in
    let d = answer-ok (operand_demand op bits sign q) (tt {0}) (tt {0}) k in
    let d' : operand_demand op bits sign (range_of fs t) ≡ None = ap (operand_demand op bits sign) a.is ∙ d.none in
    let same : operator_range op bits ordered r (range_of fs t) ≡ s = ap (operator_range op bits ordered r) a.is ∙ sym e in
    let n = neither last b g in
    let out : Range = operator_range op bits ordered r (range_of fs t) in
    let w : part_demand last bits sign (operator_range op bits ordered r (range_of fs t)) ≡ Some (record { rule = B1; at = sign }) =
    ap (λ l. part_demand l bits sign out) n.0 ∙ ap (λ s. demand (fits_width s bits) B1 sign) same ∙ ap (λ b. demand b B1 sign) (sym f ∙ n.1) in
    rw (a.none, d', w) refl

pub next-small : (bits : ℕ) (last b : Bool) (s : Range) → bits ≤ 64 → b ≡ fits_width s bits → (last || b) ≡ true → last ≡ false → IsSmall s
next-small bits last b s le f g h =
    let e : b ≡ true = sym (ap (λ l. l || b) h) ∙ g in
    small-fits s bits le (sym f ∙ e)

-- ---- a peek

pub peek-given : (fs : List Claim) (nodes : TypedNodes) (on : ExprId) (p : Place) (n : ℕ) (side : Side) (r s : Range) → type_of_node nodes on.0 ≡ types.Reader → is_tree_of (type_of_node nodes on.0) (tree_of nodes on) ≡ true
    → side ≡ sides.Length on → r ≡ side_range fs (side_in nodes (sides.Length on)) → s ≡ side_range fs (side_in nodes (sides.Num n))
    → (first_rule fs (side_in nodes side) at_least (side_in nodes (sides.Num n)) || second_rule at_least r s) ≡ gives_sides fs (single (asked p reader_length (io_in (tree_of nodes on)))) at_least (single (number p n))
peek-given fs nodes on p n side r s ty kind e i j =
    let same : (first_rule fs (side_in nodes side) at_least (side_in nodes (sides.Num n)) || second_rule at_least r s) ≡ gives_sides fs (side_in nodes (sides.Length on)) at_least (side_in nodes (sides.Num n)) =
    λ k. first_rule fs (side_in nodes (e k)) at_least (side_in nodes (sides.Num n)) || second_rule at_least (i k) (j k) in
    let P : Ty → Type 0 = λ ty. is_tree_of ty (tree_of nodes on) ≡ true in
    same ∙ read-given (type_of_node nodes on.0) (tree_of nodes on) ty (subst P ty kind)
  where
    read-given : (ty : Ty) (t : ValueTree) → ty ≡ types.Reader → is_tree_of types.Reader t ≡ true → gives_sides fs (single (length_in nodes on ty t)) at_least (single (number no_place n)) ≡ gives_sides fs (single (asked p reader_length (io_in t))) at_least (single (number p n))
    read-given ty (io at a) same h =
        let P : Ty → Type 0 = λ ty. gives_sides fs (single (length_in nodes on ty (io at a))) at_least (single (number no_place n)) ≡ gives_sides fs (single (asked p reader_length a)) at_least (single (number p n)) in
        subst P (sym same) (sides-alike fs at_least (asked (place_of_node nodes on.0) reader_length a) (asked p reader_length a) (number no_place n) (number p n) (asked_alike (place_of_node nodes on.0) p reader_length a) (number_alike no_place p n) refl refl)
    read-given ty t same h = absurd (cc (h))

-- What a peek answers.
pub peek-ok : (fs : List Claim) (p : Place) (form : PeekForm) (a : ℕ) (b : Bool) (r : Range) → b ≡ gives_sides fs (single (asked p reader_length a)) at_least (single (number p (bytes_of (peek_width form)))) → b ≡ true
    → r ≡ width_range (bits_of (peek_width form)) → Ok r ≡ ruled fs (asked p (peek form) a)
peek-ok fs p form a b r e h same = rw (sym e, h, same) refl

pub peek-err : (fs : List Claim) (p at : Place) (form : PeekForm) (a : ℕ) (b : Bool) → b ≡ gives_sides fs (single (asked p reader_length a)) at_least (single (number p (bytes_of (peek_width form)))) → b ≡ false
    → at ≡ p → Err (record { rule = B9; at = at }) ≡ ruled fs (asked p (peek form) a)
peek-err fs p at form a b e h same = rw (sym e, h, same) refl

-- ---- elements

pub element-ok : (fs : List Claim) (p : Place) (of : NumType) (cells : SliceTree) (index : NumTree) (q : Range) (b : Bool) (r : Range) → Ok (tt {0}) ≡ judged_slice fs cells → Ok q ≡ judged fs index
    → b ≡ gives_sides fs (single index) less (single (length_of p cells)) → b ≡ true → r ≡ type_range of → Ok r ≡ ruled fs (element p of cells index)
element-ok fs p of cells index q b r h k e f same =
    let x = answer-ok (slice_refusal fs cells) (tt {0}) (tt {0}) h in
    let y = answer-ok (num_refusal fs false index) (range_of fs index) q k in
    let g : gives_sides fs (single index) less (single (length_of p cells)) ≡ true = sym e ∙ f in
    rw (x.none, y.none, g, same) refl

pub element-err : (fs : List Claim) (p at : Place) (of : NumType) (cells : SliceTree) (index : NumTree) (q : Range) (b : Bool) → Ok (tt {0}) ≡ judged_slice fs cells → Ok q ≡ judged fs index
    → b ≡ gives_sides fs (single index) less (single (length_of p cells)) → b ≡ false → at ≡ p → Err (record { rule = B2; at = at }) ≡ ruled fs (element p of cells index)
element-err fs p at of cells index q b h k e f same =
    let x = answer-ok (slice_refusal fs cells) (tt {0}) (tt {0}) h in
    let y = answer-ok (num_refusal fs false index) (range_of fs index) q k in
    let g : gives_sides fs (single index) less (single (length_of p cells)) ≡ false = sym e ∙ f in
    rw (x.none, y.none, g, same) refl

-- ---- the ends of a slice

pub from-answer : (fs : List Claim) (p : Place) (cells : SliceTree) (i : NumTree) (q : Range) (b : Bool) (answer : Result (Unit {0}) Refusal) → Ok q ≡ judged fs i → answer ≡ unless_refused (demand b B3 p) (tt {0})
    → b ≡ gives_sides fs (single i) at_most (single (length_of p cells)) → answer ≡ unless_refused (ends_refusal fs p cells (present i) absent) (tt {0})
from-answer fs p cells i q b answer h e g =
    let x = answer-ok (num_refusal fs false i) (range_of fs i) q h in
    e ∙ ap (λ b. unless_refused (demand b B3 p) (tt {0})) g ∙ ap (λ r. unless_refused (or_else r (demand (gives_sides fs (single i) at_most (single (length_of p cells))) B3 p)) (tt {0})) (sym x.none)

demand-none : (b : Bool) (p : Place) → Ok (tt {0}) ≡ unless_refused (demand b B3 p) (tt {0}) → b ≡ true
demand-none true p h = refl
demand-none false p h = absurd (cc (h))

-- Two demands after those of the ends, of which the first is met, and of which it isn't.
both-ends : (r d d' : Option Refusal) (answer : Result (Unit {0}) Refusal) → r ≡ None → d ≡ None → answer ≡ unless_refused d' (tt {0}) → answer ≡ unless_refused (or_else r (or_else d d')) (tt {0})
both-ends r d d' answer h k e = rw (h, k) e

first-end : (r d d' : Option Refusal) (x : Refusal) → r ≡ None → d ≡ Some x → Err x ≡ unless_refused (or_else r (or_else d d')) (tt {0})
first-end r d d' x h k = rw (h, k) refl

pub up-to-answer : (fs : List Claim) (p : Place) (cells : SliceTree) (j : NumTree) (q : Range) (b b' : Bool) (answer : Result (Unit {0}) Refusal) → Ok q ≡ judged fs j → Ok (tt {0}) ≡ unless_refused (demand b B3 p) (tt {0})
    → answer ≡ unless_refused (demand b' B3 p) (tt {0}) → b ≡ gives_sides fs (single (number p 0)) at_most (single j) → b' ≡ gives_sides fs (single j) at_most (single (length_of p cells))
    → answer ≡ unless_refused (ends_refusal fs p cells absent (present j)) (tt {0})
up-to-answer fs p cells j q b b' answer h k e f g =
    let x = answer-ok (num_refusal fs false j) (range_of fs j) q h in
    both-ends (num_refusal fs false j) (demand (gives_sides fs (single (number p 0)) at_most (single j)) B3 p) (demand (gives_sides fs (single j) at_most (single (length_of p cells))) B3 p) answer x.none
    (ap (λ b. demand b B3 p) (sym f ∙ demand-none b p k)) (e ∙ ap (λ b. unless_refused (demand b B3 p) (tt {0})) g)

pub up-to-refused : (fs : List Claim) (p : Place) (cells : SliceTree) (j : NumTree) (q : Range) (b : Bool) (r : Refusal) → Ok q ≡ judged fs j → Err r ≡ unless_refused (demand b B3 p) (tt {0})
    → b ≡ gives_sides fs (single (number p 0)) at_most (single j) → Err r ≡ unless_refused (ends_refusal fs p cells absent (present j)) (tt {0})
up-to-refused fs p cells j q b r h k f =
    let x = answer-ok (num_refusal fs false j) (range_of fs j) q h in
    first-end (num_refusal fs false j) (demand (gives_sides fs (single (number p 0)) at_most (single j)) B3 p) (demand (gives_sides fs (single j) at_most (single (length_of p cells))) B3 p) r x.none
    (ap (λ b. demand b B3 p) (sym f) ∙ answer-err (demand b B3 p) (tt {0}) r k)

pub between-answer : (fs : List Claim) (p : Place) (cells : SliceTree) (i j : NumTree) (q q' : Range) (b b' : Bool) (answer : Result (Unit {0}) Refusal) → Ok q ≡ judged fs i → Ok q' ≡ judged fs j → Ok (tt {0}) ≡ unless_refused (demand b B3 p) (tt {0})
    → answer ≡ unless_refused (demand b' B3 p) (tt {0}) → b ≡ gives_sides fs (single i) at_most (single j) → b' ≡ gives_sides fs (single j) at_most (single (length_of p cells))
    → answer ≡ unless_refused (ends_refusal fs p cells (present i) (present j)) (tt {0})
between-answer fs p cells i j q q' b b' answer h h' k e f g =
    let x = answer-ok (num_refusal fs false i) (range_of fs i) q h in
    let y = answer-ok (num_refusal fs false j) (range_of fs j) q' h' in
    let d = demand (gives_sides fs (single i) at_most (single j)) B3 p in
    let d' = demand (gives_sides fs (single j) at_most (single (length_of p cells))) B3 p in
    both-ends (num_refusal fs false j) d d' answer y.none
    (ap (λ b. demand b B3 p) (sym f ∙ demand-none b p k)) (e ∙ ap (λ b. unless_refused (demand b B3 p) (tt {0})) g)
    ∙ ap (λ r. unless_refused (or_else r (or_else (num_refusal fs false j) (or_else d d'))) (tt {0})) (sym x.none)

pub between-refused : (fs : List Claim) (p : Place) (cells : SliceTree) (i j : NumTree) (q q' : Range) (b : Bool) (r : Refusal) → Ok q ≡ judged fs i → Ok q' ≡ judged fs j → Err r ≡ unless_refused (demand b B3 p) (tt {0})
    → b ≡ gives_sides fs (single i) at_most (single j) → Err r ≡ unless_refused (ends_refusal fs p cells (present i) (present j)) (tt {0})
between-refused fs p cells i j q q' b r h h' k f =
    let x = answer-ok (num_refusal fs false i) (range_of fs i) q h in
    let y = answer-ok (num_refusal fs false j) (range_of fs j) q' h' in
    let d = demand (gives_sides fs (single i) at_most (single j)) B3 p in
    let d' = demand (gives_sides fs (single j) at_most (single (length_of p cells))) B3 p in
    first-end (num_refusal fs false j) d d' r y.none (ap (λ b. demand b B3 p) (sym f) ∙ answer-err (demand b B3 p) (tt {0}) r k)
    ∙ ap (λ r. unless_refused (or_else r (or_else (num_refusal fs false j) (or_else d d'))) (tt {0})) (sym x.none)

-- What is given of two numbers whose ranges are known.
pub numbers-given : (fs : List Claim) (op : Order) (i j : NumTree) (q r : Range) → Ok q ≡ judged fs i → Ok r ≡ judged fs j → (first_rule fs (single i) op (single j) || second_rule op q r) ≡ gives_sides fs (single i) op (single j)
numbers-given fs op i j q r h k =
    let x = answer-ok (num_refusal fs false i) (range_of fs i) q h in
    let y = answer-ok (num_refusal fs false j) (range_of fs j) r k in
    let a = sym x.is in
    let b = sym y.is in
    λ n. first_rule fs (single i) op (single j) || second_rule op (a n) (b n)

pub zero-given : (fs : List Claim) (p : Place) (j : NumTree) (z r : Range) → z ≡ side_range fs (single (number no_place 0)) → Ok r ≡ judged fs j
    → (first_rule fs (single (number no_place 0)) at_most (single j) || second_rule at_most z r) ≡ gives_sides fs (single (number p 0)) at_most (single j)
zero-given fs p j z r h k =
    let y = answer-ok (num_refusal fs false j) (range_of fs j) r k in
    let b = sym y.is in
    let same : (first_rule fs (single (number no_place 0)) at_most (single j) || second_rule at_most z r) ≡ gives_sides fs (single (number no_place 0)) at_most (single j) =
    λ n. first_rule fs (single (number no_place 0)) at_most (single j) || second_rule at_most (h n) (b n) in
    same ∙ sides-alike fs at_most (number no_place 0) (number p 0) j j (number_alike no_place p 0) (alike_self j) refl refl

pub judged-range : (fs : List Claim) (t : NumTree) (r : Range) → Ok r ≡ judged fs t → r ≡ range_of fs t
judged-range fs t r h = let x = answer-ok (num_refusal fs false t) (range_of fs t) r h in sym x.is
