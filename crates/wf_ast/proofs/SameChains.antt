-- Two expressions are the same where they are alike and their parts are the same.
use Rattle.std.proofs.Common.{◌≡◌, ℕ, suc, ◌+◌, Bool, true, false, ◌&&◌, List, [], ◌∷◌, length, refl, sym, ap, ◌∙◌, arith, nat_eq}
use Rattle.std.proofs.lemmas.Bool.Decides.{nat_tests}
use Rattle.wf_text.specs.declared.place.Place.{Place}
use Rattle.wf_ast.specs.declared.operators.Op.{Op}
use Rattle.wf_ast.specs.declared.operators.Op.TheVariants as ops
use Rattle.wf_ast.specs.declared.types.Ty.{Ty}
use Rattle.wf_ast.specs.declared.types.Ty.TheVariants as types
use Rattle.wf_ast.specs.TypedTree.{Path, arg, Arith, NumTree, number, read, element, link, convert, length_of, asked, slice, array, cut, status, held, no_status, CondTree, truth, flag, compare, same_status, junction, negation, closed, has_category, ValueTree, numeric, logical, state, elements, io, lost}
use Rattle.wf_ast.specs.TypedTrees.{OperatorKind, arithmetic, ordering, joining, operator_kind, named, num_type, num_chain, cond_chain, num_in, cond_in, status_in, slice_in, io_in}
use Rattle.wf_ast.specs.TypedInvariant.{is_numeric, is_logical, is_state, is_list, is_io, is_tree_of}
use Rattle.wf_ast.specs.Value.{same_truth}
use Rattle.wf_ast.specs.Same.{same, same_num, same_slice, same_state, same_cond, same_path, same_arith, same_order, same_width}
use Rattle.wf_ast.specs.SameNodes.{same_kind, same_operator}
use Rattle.wf_ast.proofs.Arena.{both_true}

-- Tests of conjunctions.
pub not_true : (b : Bool) → (b ≡ true → ⊥) → b ≡ false
not_true false h = refl
not_true true h = absurd (h refl)

pub eq_self : (n : ℕ) → nat_eq n n ≡ true
eq_self n = grind (arith, nat_tests)

pub with_true : (a : Bool) → (a && true) ≡ a
with_true true = refl
with_true false = refl

pub with_false : (a : Bool) → (a && false) ≡ false
with_false true = refl
with_false false = refl

-- Kinds of trees.
abbrev pub is_num_tree : ValueTree → Bool
is_num_tree (numeric t) = true
is_num_tree t = false

abbrev pub is_cond_tree : ValueTree → Bool
is_cond_tree (logical t) = true
is_cond_tree t = false

abbrev pub is_state_tree : ValueTree → Bool
is_state_tree (state t) = true
is_state_tree t = false

abbrev pub is_list_tree : ValueTree → Bool
is_list_tree (elements t) = true
is_list_tree t = false

abbrev pub is_io_tree : ValueTree → Bool
is_io_tree (io at a) = true
is_io_tree t = false

pub num_tree : (ty : Ty) (t : ValueTree) → is_numeric ty ≡ true → is_tree_of ty t ≡ true → is_num_tree t ≡ true
num_tree (types.Num width lo hi) (numeric t) h k = refl
num_tree ty t h k = absurd (cc (h, k))

pub cond_tree : (ty : Ty) (t : ValueTree) → is_logical ty ≡ true → is_tree_of ty t ≡ true → is_cond_tree t ≡ true
cond_tree types.Flag (logical t) h k = refl
cond_tree ty t h k = absurd (cc (h, k))

pub state_tree : (ty : Ty) (t : ValueTree) → is_state ty ≡ true → is_tree_of ty t ≡ true → is_state_tree t ≡ true
state_tree types.Status (state t) h k = refl
state_tree ty t h k = absurd (cc (h, k))

pub list_tree : (ty : Ty) (t : ValueTree) → is_list ty ≡ true → is_tree_of ty t ≡ true → is_list_tree t ≡ true
list_tree (types.Slice width) (elements t) h k = refl
list_tree (types.Array width lo hi count) (elements t) h k = refl
list_tree ty t h k = absurd (cc (h, k))

pub io_tree : (ty : Ty) (t : ValueTree) → is_io ty ≡ true → is_tree_of ty t ≡ true → is_io_tree t ≡ true
io_tree types.Reader (io at a) h k = refl
io_tree types.Writer (io at a) h k = refl
io_tree ty t h k = absurd (cc (h, k))

-- What `same` is of two trees of one kind.
pub nums_same : (t u : ValueTree) → is_num_tree t ≡ true → is_num_tree u ≡ true → same_num (num_in t) (num_in u) ≡ same t u
nums_same (numeric t) (numeric u) h k = refl
nums_same t u h k = absurd (cc (h, k))

pub conds_same : (t u : ValueTree) → is_cond_tree t ≡ true → is_cond_tree u ≡ true → same_cond (cond_in t) (cond_in u) ≡ same t u
conds_same (logical t) (logical u) h k = refl
conds_same t u h k = absurd (cc (h, k))

pub states_same : (t u : ValueTree) → is_state_tree t ≡ true → is_state_tree u ≡ true → same_state (status_in t) (status_in u) ≡ same t u
states_same (state t) (state u) h k = refl
states_same t u h k = absurd (cc (h, k))

pub lists_same : (t u : ValueTree) → is_list_tree t ≡ true → is_list_tree u ≡ true → same_slice (slice_in t) (slice_in u) ≡ same t u
lists_same (elements t) (elements u) h k = refl
lists_same t u h k = absurd (cc (h, k))

pub ios_same : (t u : ValueTree) → is_io_tree t ≡ true → is_io_tree u ≡ true → nat_eq (io_in t) (io_in u) ≡ same t u
ios_same (io at a) (io at' b) h k = refl
ios_same t u h k = absurd (cc (h, k))

-- The forms of trees: 0 for variables, 3 for the operators of chains, and others for the rest.
abbrev pub form : ValueTree → ℕ
form (numeric (number at n)) = 1
form (numeric (read at of p)) = 0
form (numeric (element at of cells index)) = 2
form (numeric (link at sign op bits joined a b)) = 3
form (numeric (convert at sign bits a)) = 4
form (numeric (length_of at cells)) = 5
form (numeric (asked at question a)) = 5
form (elements (slice at bits p)) = 0
form (elements (array at of count p)) = 0
form (elements (cut at cells from to)) = 6
form (state (status at n)) = 7
form (state (held at p)) = 0
form (state no_status) = 10
form (logical (truth at b)) = 8
form (logical (flag at p)) = 0
form (logical (compare at sign a op b)) = 3
form (logical (same_status at sign a one b)) = 3
form (logical (junction at both joined a b)) = 3
form (logical (negation at a)) = 9
form (logical (closed at a)) = 5
form (logical (has_category at a category)) = 5
form (io at a) = 0
form lost = 10

-- The sorts of operators: 1 for arithmetic, 2 for comparisons, 3 for `and` and `or`.
abbrev pub operator_form : ValueTree → ℕ
operator_form (numeric (link at sign op bits joined a b)) = 1
operator_form (logical (compare at sign a op b)) = 2
operator_form (logical (same_status at sign a one b)) = 2
operator_form (logical (junction at both joined a b)) = 3
operator_form t = 0

-- Trees that are the same have one form.
forms_same : (t u : ValueTree) → same t u ≡ true → form t ≡ form u
forms_same (numeric (number at n)) (numeric (number at' n')) h = refl
forms_same (numeric (read at of p)) (numeric (read at' of' p')) h = refl
forms_same (numeric (element at of cells index)) (numeric (element at' of' cells' index')) h = refl
forms_same (numeric (link at sign op bits joined a b)) (numeric (link at' sign' op' bits' joined' a' b')) h = refl
forms_same (numeric (convert at sign bits a)) (numeric (convert at' sign' bits' a')) h = refl
forms_same (numeric (length_of at cells)) (numeric (length_of at' cells')) h = refl
forms_same (numeric (asked at question a)) (numeric (asked at' question' a')) h = refl
forms_same (elements (slice at bits p)) (elements (slice at' bits' p')) h = refl
forms_same (elements (array at of count p)) (elements (array at' of' count' p')) h = refl
forms_same (elements (cut at cells from to)) (elements (cut at' cells' from' to')) h = refl
forms_same (state (status at n)) (state (status at' n')) h = refl
forms_same (state (held at p)) (state (held at' p')) h = refl
forms_same (logical (truth at b)) (logical (truth at' b')) h = refl
forms_same (logical (flag at p)) (logical (flag at' p')) h = refl
forms_same (logical (compare at sign a op b)) (logical (compare at' sign' a' op' b')) h = refl
forms_same (logical (same_status at sign a one b)) (logical (same_status at' sign' a' one' b')) h = refl
forms_same (logical (junction at both joined a b)) (logical (junction at' both' joined' a' b')) h = refl
forms_same (logical (negation at a)) (logical (negation at' a')) h = refl
forms_same (logical (closed at a)) (logical (closed at' a')) h = refl
forms_same (logical (has_category at a category)) (logical (has_category at' a' category')) h = refl
forms_same (io at a) (io at' a') h = refl
forms_same (state no_status) (state u) h = absurd (cc (h))
forms_same t u h = absurd (cc (h))

-- And operators of one sort.
operator_forms_same : (t u : ValueTree) → same t u ≡ true → operator_form t ≡ operator_form u
operator_forms_same (numeric (number at n)) (numeric (number at' n')) h = refl
operator_forms_same (numeric (read at of p)) (numeric (read at' of' p')) h = refl
operator_forms_same (numeric (element at of cells index)) (numeric (element at' of' cells' index')) h = refl
operator_forms_same (numeric (link at sign op bits joined a b)) (numeric (link at' sign' op' bits' joined' a' b')) h = refl
operator_forms_same (numeric (convert at sign bits a)) (numeric (convert at' sign' bits' a')) h = refl
operator_forms_same (numeric (length_of at cells)) (numeric (length_of at' cells')) h = refl
operator_forms_same (numeric (asked at question a)) (numeric (asked at' question' a')) h = refl
operator_forms_same (elements (slice at bits p)) (elements (slice at' bits' p')) h = refl
operator_forms_same (elements (array at of count p)) (elements (array at' of' count' p')) h = refl
operator_forms_same (elements (cut at cells from to)) (elements (cut at' cells' from' to')) h = refl
operator_forms_same (state (status at n)) (state (status at' n')) h = refl
operator_forms_same (state (held at p)) (state (held at' p')) h = refl
operator_forms_same (logical (truth at b)) (logical (truth at' b')) h = refl
operator_forms_same (logical (flag at p)) (logical (flag at' p')) h = refl
operator_forms_same (logical (compare at sign a op b)) (logical (compare at' sign' a' op' b')) h = refl
operator_forms_same (logical (same_status at sign a one b)) (logical (same_status at' sign' a' one' b')) h = refl
operator_forms_same (logical (junction at both joined a b)) (logical (junction at' both' joined' a' b')) h = refl
operator_forms_same (logical (negation at a)) (logical (negation at' a')) h = refl
operator_forms_same (logical (closed at a)) (logical (closed at' a')) h = refl
operator_forms_same (logical (has_category at a category)) (logical (has_category at' a' category')) h = refl
operator_forms_same (io at a) (io at' a') h = refl
operator_forms_same (state no_status) (state u) h = absurd (cc (h))
operator_forms_same t u h = absurd (cc (h))

pub forms_differ : (t u : ValueTree) → nat_eq (form t) (form u) ≡ false → same t u ≡ false
forms_differ t u h = not_true (same t u) (λ s. let e = forms_same t u s in let k = eq_self (form u) in absurd (cc (h, e, k)))

pub operator_forms_differ : (t u : ValueTree) → nat_eq (operator_form t) (operator_form u) ≡ false → same t u ≡ false
operator_forms_differ t u h = not_true (same t u) (λ s. let e = operator_forms_same t u s in let k = eq_self (operator_form u) in absurd (cc (h, e, k)))

-- Variables.
pub variables_same : (at at' : Place) (ty ty' : Ty) (p q : Path) → is_tree_of ty (named at ty p) ≡ true → is_tree_of ty' (named at' ty' q) ≡ true
    → same (named at ty p) (named at' ty' q) ≡ (same_path p q && same_kind ty ty')
variables_same at at' (types.Num width lo hi) (types.Num width' lo' hi') p q h k = sym (with_true (same_path p q))
variables_same at at' (types.Num width lo hi) types.Flag p q h k = sym (with_false (same_path p q))
variables_same at at' (types.Num width lo hi) types.Status p q h k = sym (with_false (same_path p q))
variables_same at at' (types.Num width lo hi) types.Reader p (arg n) h k = sym (with_false (same_path p (arg n)))
variables_same at at' (types.Num width lo hi) types.Writer p (arg n) h k = sym (with_false (same_path p (arg n)))
variables_same at at' (types.Num width lo hi) (types.Slice width') p q h k = sym (with_false (same_path p q))
variables_same at at' (types.Num width lo hi) (types.Array width' lo' hi' count') p q h k = sym (with_false (same_path p q))
variables_same at at' types.Flag (types.Num width' lo' hi') p q h k = sym (with_false (same_path p q))
variables_same at at' types.Flag types.Flag p q h k = sym (with_true (same_path p q))
variables_same at at' types.Flag types.Status p q h k = sym (with_false (same_path p q))
variables_same at at' types.Flag types.Reader p (arg n) h k = sym (with_false (same_path p (arg n)))
variables_same at at' types.Flag types.Writer p (arg n) h k = sym (with_false (same_path p (arg n)))
variables_same at at' types.Flag (types.Slice width') p q h k = sym (with_false (same_path p q))
variables_same at at' types.Flag (types.Array width' lo' hi' count') p q h k = sym (with_false (same_path p q))
variables_same at at' types.Status (types.Num width' lo' hi') p q h k = sym (with_false (same_path p q))
variables_same at at' types.Status types.Flag p q h k = sym (with_false (same_path p q))
variables_same at at' types.Status types.Status p q h k = sym (with_true (same_path p q))
variables_same at at' types.Status types.Reader p (arg n) h k = sym (with_false (same_path p (arg n)))
variables_same at at' types.Status types.Writer p (arg n) h k = sym (with_false (same_path p (arg n)))
variables_same at at' types.Status (types.Slice width') p q h k = sym (with_false (same_path p q))
variables_same at at' types.Status (types.Array width' lo' hi' count') p q h k = sym (with_false (same_path p q))
variables_same at at' types.Reader (types.Num width' lo' hi') (arg m) q h k = sym (with_false (same_path (arg m) q))
variables_same at at' types.Reader types.Flag (arg m) q h k = sym (with_false (same_path (arg m) q))
variables_same at at' types.Reader types.Status (arg m) q h k = sym (with_false (same_path (arg m) q))
variables_same at at' types.Reader types.Reader (arg m) (arg n) h k = sym (with_true (nat_eq m n))
variables_same at at' types.Reader types.Writer (arg m) (arg n) h k = sym (with_true (nat_eq m n))
variables_same at at' types.Reader (types.Slice width') (arg m) q h k = sym (with_false (same_path (arg m) q))
variables_same at at' types.Reader (types.Array width' lo' hi' count') (arg m) q h k = sym (with_false (same_path (arg m) q))
variables_same at at' types.Writer (types.Num width' lo' hi') (arg m) q h k = sym (with_false (same_path (arg m) q))
variables_same at at' types.Writer types.Flag (arg m) q h k = sym (with_false (same_path (arg m) q))
variables_same at at' types.Writer types.Status (arg m) q h k = sym (with_false (same_path (arg m) q))
variables_same at at' types.Writer types.Reader (arg m) (arg n) h k = sym (with_true (nat_eq m n))
variables_same at at' types.Writer types.Writer (arg m) (arg n) h k = sym (with_true (nat_eq m n))
variables_same at at' types.Writer (types.Slice width') (arg m) q h k = sym (with_false (same_path (arg m) q))
variables_same at at' types.Writer (types.Array width' lo' hi' count') (arg m) q h k = sym (with_false (same_path (arg m) q))
variables_same at at' (types.Slice width) (types.Num width' lo' hi') p q h k = sym (with_false (same_path p q))
variables_same at at' (types.Slice width) types.Flag p q h k = sym (with_false (same_path p q))
variables_same at at' (types.Slice width) types.Status p q h k = sym (with_false (same_path p q))
variables_same at at' (types.Slice width) types.Reader p (arg n) h k = sym (with_false (same_path p (arg n)))
variables_same at at' (types.Slice width) types.Writer p (arg n) h k = sym (with_false (same_path p (arg n)))
variables_same at at' (types.Slice width) (types.Slice width') p q h k = sym (with_true (same_path p q))
variables_same at at' (types.Slice width) (types.Array width' lo' hi' count') p q h k = sym (with_false (same_path p q))
variables_same at at' (types.Array width lo hi count) (types.Num width' lo' hi') p q h k = sym (with_false (same_path p q))
variables_same at at' (types.Array width lo hi count) types.Flag p q h k = sym (with_false (same_path p q))
variables_same at at' (types.Array width lo hi count) types.Status p q h k = sym (with_false (same_path p q))
variables_same at at' (types.Array width lo hi count) types.Reader p (arg n) h k = sym (with_false (same_path p (arg n)))
variables_same at at' (types.Array width lo hi count) types.Writer p (arg n) h k = sym (with_false (same_path p (arg n)))
variables_same at at' (types.Array width lo hi count) (types.Slice width') p q h k = sym (with_false (same_path p q))
variables_same at at' (types.Array width lo hi count) (types.Array width' lo' hi' count') p q h k = sym (with_true (same_path p q))
variables_same at at' ty ty' p q h k = absurd (cc (h, k))

pub variable_form : (at : Place) (ty : Ty) (p : Path) → is_tree_of ty (named at ty p) ≡ true → form (named at ty p) ≡ 0
variable_form at (types.Num width lo hi) p h = refl
variable_form at types.Flag p h = refl
variable_form at types.Status p h = refl
variable_form at (types.Slice width) p h = refl
variable_form at (types.Array width lo hi count) p h = refl
variable_form at types.Reader (arg n) h = refl
variable_form at types.Writer (arg n) h = refl
variable_form at ty p h = absurd (cc (h))

-- Operators by their sorts.
abbrev pub same_sort : (s s' : OperatorKind) → (bits bits' : ℕ) → Bool
same_sort (arithmetic f) (arithmetic g) bits bits' = same_arith f g && same_width f bits bits'
same_sort (ordering f) (ordering g) bits bits' = same_order f g
same_sort (joining b) (joining c) bits bits' = same_truth b c
same_sort s s' bits bits' = false

pub sorts_same : (op op' : Op) (ty ty' : Ty) → same_operator op op' ty ty' ≡ same_sort (operator_kind op) (operator_kind op') (num_type ty).bits (num_type ty').bits
sorts_same ops.Add ops.Add ty ty' = refl
sorts_same ops.Mul ops.Add ty ty' = refl
sorts_same ops.BitAnd ops.Add ty ty' = refl
sorts_same ops.BitOr ops.Add ty ty' = refl
sorts_same ops.BitXor ops.Add ty ty' = refl
sorts_same ops.And ops.Add ty ty' = refl
sorts_same ops.Or ops.Add ty ty' = refl
sorts_same ops.Sub ops.Add ty ty' = refl
sorts_same ops.Div ops.Add ty ty' = refl
sorts_same ops.Rem ops.Add ty ty' = refl
sorts_same ops.Shl ops.Add ty ty' = refl
sorts_same ops.Shr ops.Add ty ty' = refl
sorts_same ops.Same ops.Add ty ty' = refl
sorts_same ops.Differs ops.Add ty ty' = refl
sorts_same ops.Less ops.Add ty ty' = refl
sorts_same ops.LessOrSame ops.Add ty ty' = refl
sorts_same ops.Greater ops.Add ty ty' = refl
sorts_same ops.GreaterOrSame ops.Add ty ty' = refl
sorts_same ops.ModAdd ops.Add ty ty' = refl
sorts_same ops.ModSub ops.Add ty ty' = refl
sorts_same ops.ModMul ops.Add ty ty' = refl
sorts_same ops.ModShl ops.Add ty ty' = refl
sorts_same ops.SatAdd ops.Add ty ty' = refl
sorts_same ops.SatSub ops.Add ty ty' = refl
sorts_same op op' ty ty' = refl

-- Chains of numbers.
pack5 : (a b c d e : Bool) → (a && (b && (c && (d && e)))) ≡ ((a && b) && ((c && d) && (e && true)))
pack5 true true true true true = refl
pack5 true true true true false = refl
pack5 true true true false e = refl
pack5 true true false d e = refl
pack5 true false c d e = refl
pack5 false b c d e = refl

repack5 : (a b c d e f : Bool) → ((a && b) && ((true && (a && (b && (c && (d && e))))) && f)) ≡ ((a && b) && ((c && d) && (e && f)))
repack5 true true true true true f = refl
repack5 true true true true false f = refl
repack5 true true true false e f = refl
repack5 true true false d e f = refl
repack5 true false c d e f = refl
repack5 false b c d e f = refl

abbrev pub all_num : (ts us : List ValueTree) → Bool
all_num [] [] = true
all_num (t ∷ ts) (u ∷ us) = same_num (num_in t) (num_in u) && all_num ts us
all_num ts us = false

module _ (at at' : Place) (op op' : Arith) (bits bits' : ℕ) where
  abbrev heads : Bool
  heads = same_arith op op' && same_width op bits bits'

  num_chains : (joined joined' : Bool) (s s' : NumTree) (t u : ValueTree) (ts us : List ValueTree) (signs signs' : List Place) → length ts ≡ length us
      → same_num (num_chain at op bits joined s (t ∷ ts) signs) (num_chain at' op' bits' joined' s' (u ∷ us) signs')
      ≡ (heads && ((same_truth joined joined' && same_num s s') && all_num (t ∷ ts) (u ∷ us)))
  num_chains joined joined' s s' t u [] [] [] [] h = pack5 (same_arith op op') (same_width op bits bits') (same_truth joined joined') (same_num s s') (same_num (num_in t) (num_in u))
  num_chains joined joined' s s' t u [] [] [] (sign' ∷ signs') h = pack5 (same_arith op op') (same_width op bits bits') (same_truth joined joined') (same_num s s') (same_num (num_in t) (num_in u))
  num_chains joined joined' s s' t u [] [] (sign ∷ signs) [] h = pack5 (same_arith op op') (same_width op bits bits') (same_truth joined joined') (same_num s s') (same_num (num_in t) (num_in u))
  num_chains joined joined' s s' t u [] [] (sign ∷ signs) (sign' ∷ signs') h = pack5 (same_arith op op') (same_width op bits bits') (same_truth joined joined') (same_num s s') (same_num (num_in t) (num_in u))
  num_chains joined joined' s s' t u (t2 ∷ ts) (u2 ∷ us) [] [] h =
      num_chains true true (link at at op bits joined s (num_in t)) (link at' at' op' bits' joined' s' (num_in u)) t2 u2 ts us [] [] (omega (arith, h))
      ∙ repack5 (same_arith op op') (same_width op bits bits') (same_truth joined joined') (same_num s s') (same_num (num_in t) (num_in u)) (all_num (t2 ∷ ts) (u2 ∷ us))
  num_chains joined joined' s s' t u (t2 ∷ ts) (u2 ∷ us) [] (sign' ∷ signs') h =
      num_chains true true (link at at op bits joined s (num_in t)) (link at' sign' op' bits' joined' s' (num_in u)) t2 u2 ts us [] signs' (omega (arith, h))
      ∙ repack5 (same_arith op op') (same_width op bits bits') (same_truth joined joined') (same_num s s') (same_num (num_in t) (num_in u)) (all_num (t2 ∷ ts) (u2 ∷ us))
  num_chains joined joined' s s' t u (t2 ∷ ts) (u2 ∷ us) (sign ∷ signs) [] h =
      num_chains true true (link at sign op bits joined s (num_in t)) (link at' at' op' bits' joined' s' (num_in u)) t2 u2 ts us signs [] (omega (arith, h))
      ∙ repack5 (same_arith op op') (same_width op bits bits') (same_truth joined joined') (same_num s s') (same_num (num_in t) (num_in u)) (all_num (t2 ∷ ts) (u2 ∷ us))
  num_chains joined joined' s s' t u (t2 ∷ ts) (u2 ∷ us) (sign ∷ signs) (sign' ∷ signs') h =
      num_chains true true (link at sign op bits joined s (num_in t)) (link at' sign' op' bits' joined' s' (num_in u)) t2 u2 ts us signs signs' (omega (arith, h))
      ∙ repack5 (same_arith op op') (same_width op bits bits') (same_truth joined joined') (same_num s s') (same_num (num_in t) (num_in u)) (all_num (t2 ∷ ts) (u2 ∷ us))
  num_chains joined joined' s s' t u [] (u2 ∷ us) signs signs' h = absurd (omega (arith, h))
  num_chains joined joined' s s' t u (t2 ∷ ts) [] signs signs' h = absurd (omega (arith, h))

-- How many operators a chain has.
abbrev links : NumTree → ℕ
links (link at sign op bits true a b) = suc (links a)
links (link at sign op bits false a b) = 1
links t = 0

links_same : (t u : NumTree) → same_num t u ≡ true → links t ≡ links u
links_same (link at sign op bits true a b) (link at' sign' op' bits' true a' b') h =
    let p = both_true (same_arith op op') _ h in
    let q = both_true (same_width op bits bits') _ p.1 in
    ap suc (links_same a a' (both_true (same_num a a') _ q.1).0)
links_same (link at sign op bits false a b) (link at' sign' op' bits' false a' b') h = refl
links_same (link at sign op bits true a b) (link at' sign' op' bits' false a' b') h =
    let p = both_true (same_arith op op') _ h in
    let q = both_true (same_width op bits bits') _ p.1 in
    let k = q.1 in absurd (cc (k))
links_same (link at sign op bits false a b) (link at' sign' op' bits' true a' b') h =
    let p = both_true (same_arith op op') _ h in
    let q = both_true (same_width op bits bits') _ p.1 in
    let k = q.1 in absurd (cc (k))
links_same (link at sign op bits joined a b) u h = absurd (cc (h))
links_same t (link at' sign' op' bits' joined' a' b') h = absurd (cc (h))
links_same t u h = refl

chain_links : (at : Place) (op : Arith) (bits : ℕ) (s : NumTree) (ts : List ValueTree) (signs : List Place) → links (num_chain at op bits true s ts signs) ≡ links s + length ts
chain_links at op bits s [] signs = omega arith
chain_links at op bits s (t ∷ ts) [] = let k = chain_links at op bits (link at at op bits true s (num_in t)) ts [] in omega (arith, k)
chain_links at op bits s (t ∷ ts) (sign ∷ signs) = let k = chain_links at op bits (link at sign op bits true s (num_in t)) ts signs in omega (arith, k)

whole_links : (at : Place) (op : Arith) (bits : ℕ) (s : NumTree) (t : ValueTree) (ts : List ValueTree) (signs : List Place) → links (num_chain at op bits false s (t ∷ ts) signs) ≡ 1 + length ts
whole_links at op bits s t ts [] = chain_links at op bits (link at at op bits false s (num_in t)) ts []
whole_links at op bits s t ts (sign ∷ signs) = chain_links at op bits (link at sign op bits false s (num_in t)) ts signs

all_num-lengths : (ts us : List ValueTree) → (length ts ≡ length us → ⊥) → all_num ts us ≡ false
all_num-lengths [] [] h = absurd (h refl)
all_num-lengths [] (u ∷ us) h = refl
all_num-lengths (t ∷ ts) [] h = refl
all_num-lengths (t ∷ ts) (u ∷ us) h = rw (all_num-lengths ts us (λ e. h (ap suc e))) (with_false (same_num (num_in t) (num_in u)))

pub false_last : (a b : Bool) → false ≡ (a && (b && false))
false_last true true = refl
false_last true false = refl
false_last false b = refl

-- Whole chains, of two or more operands.
pub num_wholes : (at at' : Place) (op op' : Arith) (bits bits' : ℕ) (s s' : NumTree) (t u : ValueTree) (ts us : List ValueTree) (signs signs' : List Place)
    → same_num (num_chain at op bits false s (t ∷ ts) signs) (num_chain at' op' bits' false s' (u ∷ us) signs')
    ≡ ((same_arith op op' && same_width op bits bits') && (same_num s s' && all_num (t ∷ ts) (u ∷ us)))
num_wholes at at' op op' bits bits' s s' t u ts us signs signs' = by (nat_eq (length ts) (length us)) refl
  where
    by : (b : Bool) → nat_eq (length ts) (length us) ≡ b
        → same_num (num_chain at op bits false s (t ∷ ts) signs) (num_chain at' op' bits' false s' (u ∷ us) signs')
        ≡ ((same_arith op op' && same_width op bits bits') && (same_num s s' && all_num (t ∷ ts) (u ∷ us)))
    by true h = num_chains at at' op op' bits bits' false false s s' t u ts us signs signs' (grind (arith, nat_tests, h))
    by false h =
        let apart : length (t ∷ ts) ≡ length (u ∷ us) → ⊥ = λ e. absurd (grind (arith, nat_tests, h, e)) in
        let a = num_chain at op bits false s (t ∷ ts) signs in
        let b = num_chain at' op' bits' false s' (u ∷ us) signs' in
        not_true (same_num a b) (λ e.
        let k = links_same a b e in
        let m = whole_links at op bits s t ts signs in
        let n = whole_links at' op' bits' s' u us signs' in
        apart (omega (arith, k, m, n)))
        ∙ rw (all_num-lengths (t ∷ ts) (u ∷ us) apart) (false_last (same_arith op op' && same_width op bits bits') (same_num s s'))

-- Chains of conditions.
pack4 : (a c d e : Bool) → (a && (c && (d && e))) ≡ (a && ((c && d) && (e && true)))
pack4 true true true true = refl
pack4 true true true false = refl
pack4 true true false e = refl
pack4 true false d e = refl
pack4 false c d e = refl

repack4 : (a c d e f : Bool) → (a && ((true && (a && (c && (d && e)))) && f)) ≡ (a && ((c && d) && (e && f)))
repack4 true true true true f = refl
repack4 true true true false f = refl
repack4 true true false e f = refl
repack4 true false d e f = refl
repack4 false c d e f = refl

abbrev pub all_cond : (ts us : List ValueTree) → Bool
all_cond [] [] = true
all_cond (t ∷ ts) (u ∷ us) = same_cond (cond_in t) (cond_in u) && all_cond ts us
all_cond ts us = false

cond_chains : (at at' : Place) (both both' joined joined' : Bool) (s s' : CondTree) (t u : ValueTree) (ts us : List ValueTree) → length ts ≡ length us
    → same_cond (cond_chain at both joined s (t ∷ ts)) (cond_chain at' both' joined' s' (u ∷ us))
    ≡ (same_truth both both' && ((same_truth joined joined' && same_cond s s') && all_cond (t ∷ ts) (u ∷ us)))
cond_chains at at' both both' joined joined' s s' t u [] [] h = pack4 (same_truth both both') (same_truth joined joined') (same_cond s s') (same_cond (cond_in t) (cond_in u))
cond_chains at at' both both' joined joined' s s' t u (t2 ∷ ts) (u2 ∷ us) h =
    cond_chains at at' both both' true true (junction at both joined s (cond_in t)) (junction at' both' joined' s' (cond_in u)) t2 u2 ts us (omega (arith, h))
    ∙ repack4 (same_truth both both') (same_truth joined joined') (same_cond s s') (same_cond (cond_in t) (cond_in u)) (all_cond (t2 ∷ ts) (u2 ∷ us))
cond_chains at at' both both' joined joined' s s' t u [] (u2 ∷ us) h = absurd (omega (arith, h))
cond_chains at at' both both' joined joined' s s' t u (t2 ∷ ts) [] h = absurd (omega (arith, h))

abbrev joints : CondTree → ℕ
joints (junction at both true a b) = suc (joints a)
joints (junction at both false a b) = 1
joints t = 0

joints_same : (t u : CondTree) → same_cond t u ≡ true → joints t ≡ joints u
joints_same (junction at both true a b) (junction at' both' true a' b') h =
    let p = both_true (same_truth both both') _ h in
    ap suc (joints_same a a' (both_true (same_cond a a') _ p.1).0)
joints_same (junction at both false a b) (junction at' both' false a' b') h = refl
joints_same (junction at both true a b) (junction at' both' false a' b') h =
    let p = both_true (same_truth both both') _ h in let k = p.1 in absurd (cc (k))
joints_same (junction at both false a b) (junction at' both' true a' b') h =
    let p = both_true (same_truth both both') _ h in let k = p.1 in absurd (cc (k))
joints_same (junction at both joined a b) u h = absurd (cc (h))
joints_same t (junction at' both' joined' a' b') h = absurd (cc (h))
joints_same t u h = refl

chain_joints : (at : Place) (both : Bool) (s : CondTree) (ts : List ValueTree) → joints (cond_chain at both true s ts) ≡ joints s + length ts
chain_joints at both s [] = omega arith
chain_joints at both s (t ∷ ts) = let k = chain_joints at both (junction at both true s (cond_in t)) ts in omega (arith, k)

all_cond-lengths : (ts us : List ValueTree) → (length ts ≡ length us → ⊥) → all_cond ts us ≡ false
all_cond-lengths [] [] h = absurd (h refl)
all_cond-lengths [] (u ∷ us) h = refl
all_cond-lengths (t ∷ ts) [] h = refl
all_cond-lengths (t ∷ ts) (u ∷ us) h = rw (all_cond-lengths ts us (λ e. h (ap suc e))) (with_false (same_cond (cond_in t) (cond_in u)))

pub cond_wholes : (at at' : Place) (both both' : Bool) (s s' : CondTree) (t u : ValueTree) (ts us : List ValueTree)
    → same_cond (cond_chain at both false s (t ∷ ts)) (cond_chain at' both' false s' (u ∷ us))
    ≡ (same_truth both both' && (same_cond s s' && all_cond (t ∷ ts) (u ∷ us)))
cond_wholes at at' both both' s s' t u ts us = by (nat_eq (length ts) (length us)) refl
  where
    by : (b : Bool) → nat_eq (length ts) (length us) ≡ b
        → same_cond (cond_chain at both false s (t ∷ ts)) (cond_chain at' both' false s' (u ∷ us))
        ≡ (same_truth both both' && (same_cond s s' && all_cond (t ∷ ts) (u ∷ us)))
    by true h = cond_chains at at' both both' false false s s' t u ts us (grind (arith, nat_tests, h))
    by false h =
        let apart : length (t ∷ ts) ≡ length (u ∷ us) → ⊥ = λ e. absurd (grind (arith, nat_tests, h, e)) in
        let a = cond_chain at both false s (t ∷ ts) in
        let b = cond_chain at' both' false s' (u ∷ us) in
        not_true (same_cond a b) (λ e.
        let k = joints_same a b e in
        let m = chain_joints at both (junction at both false s (cond_in t)) ts in
        let n = chain_joints at' both' (junction at' both' false s' (cond_in u)) us in
        apart (omega (arith, k, m, n)))
        ∙ rw (all_cond-lengths (t ∷ ts) (u ∷ us) apart) (false_last (same_truth both both') (same_cond s s'))
