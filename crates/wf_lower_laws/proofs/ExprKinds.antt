-- What kind of value the expressions of a text have: numbers, pointers to cells, and pointers to strings.
use Rattle.std.proofs.Common.{◌≡◌, ◌⊎◌, inl, inr, ℕ, zero, suc, ◌+◌, ◌-◌, ◌*◌, ◌/◌, Bool, true, false, not, ◌&&◌, ◌||◌, List, [], ◌∷◌, ◌++◌, Option, Some, None, nat_eq, refl, sym, ap, ◌∙◌, subst, arith}
use Rattle.std.specs.Prelude.{if◌then◌else◌, nat_le, nat_lt, option_and_then, codes}
use Rattle.std.proofs.lemmas.Bool.Decides.{nat_tests}
use Rattle.wf_num.specs.declared.c_arithmetic.CTy.{CTy}
use Rattle.wf_num.specs.declared.c_arithmetic.CTy.TheVariants.{Int, U32, U64}
use Rattle.wf_num.specs.CArithmetic.{c_width}
use Rattle.wf_base.specs.declared.base_methods.PeekForm.{PeekForm}
use Rattle.wf_base.specs.declared.base_methods.PeekForm.TheVariants.{PeekU8, PeekU16Le, PeekU32Le}
use Rattle.wf_text.specs.declared.categories.Category.{Category}
use Rattle.wf_text.specs.declared.categories.Category.TheVariants.{Fine, Note, Suspension, Fault}
use Rattle.wf_ast.specs.TypedTree.{arg, Arith, plus, minus, times, divided, remainder, shift_left, shift_right, bits_and, bits_or, bits_xor, mod_plus, mod_minus, mod_times, mod_shift_left, sat_plus, sat_minus, Order, less, at_most, equal, differs, at_least, greater, Question, reader_length, reader_position, peek, writer_length, writer_position, NumType, NumTree, number, read, element, link, convert, length_of, asked, SliceTree, slice, array, cut, EndTree, absent, present, StatusTree, status, held, no_status, CondTree, truth, flag, compare, same_status, junction, negation, closed, has_category}
use Rattle.wf_ast.specs.Value.{same_truth}
use Rattle.wf_ast.specs.WellTyped.{Context, type_at, is_width, is_range, is_number, is_array, may_ask, is_shift, fits, continues, is_whole_number, same_num_type, element_type, is_unrefined, well_num, well_part, well_slice, well_end, well_status, well_cond}
use Rattle.wf_ast.specs.Same.{same_state}
use Rattle.wf_ast.proofs.Arena.{both_true}
use Rattle.c_text.specs.declared.kinds.CNumber.{CNumber}
use Rattle.c_text.specs.declared.kinds.CNumber.TheVariants as literals
use Rattle.c_text.specs.declared.kinds.COp.{COp}
use Rattle.c_text.specs.declared.kinds.COp.TheVariants.{Add, Sub, Mul, Div, Rem, Shl, Shr, BitAnd, BitOr, BitXor, Lt, Le, Gt, Ge, Eq, Ne, Both, Either}
use Rattle.c_text.specs.declared.kinds.CUnary.TheVariants.{Not}
use Rattle.c_text.specs.CTree.{uint, ExprTree, variable, member, operation, unary, cast, choice, called, Operands, no_operand, operand}
use Rattle.c_text.specs.CTree as c
use Rattle.c_text.specs.declared.kinds.CUint.{CUint}
use Rattle.c_meaning.specs.CValues.{common}
use Rattle.c_meaning.specs.CTypes.{CScope, promoted, ExprType, numbers, points_to, zero_literal, byte, as_number, arithmetic_type, sum_type, one_type, test_type, operation_type, operations_type, type_of, operand_types, cast_from, literal_type}
use Rattle.wf_exprs.specs.Names.{Names}
use Rattle.wf_exprs.specs.Words.{literal, num, uint_of, width_of, two}
use Rattle.wf_exprs.specs.Exprs.{calculated, rank, Rated, rated, recast, firm, balanced, with_operand, same_op, chained, cut_off, taken, is_filled, factor, linked, converted, widened, is_held, is_array as is_whole, moved, part_pointer, part_length, io_code, place_code, end_code, bytes_code, peeked, byte_at, byte_ahead, bytes_ahead, number_ahead, peek_code, asked_code, same_code, compared, is_literal, is_constant, constant_number, constants_compared, held_compared, variables_compared, statuses_compared, begins_with, category_code, lowered, lowered_slice, lowered_end, is_ones, is_short_ones, is_converted, apart, with_zero, xor_operand, pair_compared, comparand, beside, is_decided, unmoved, unmoved_in, compared_with, is_itself, left_compared, settled, settled_or, lowered_status, decides, begun, joint_of, lowered_cond}
use Rattle.wf_exprs.proofs.ByteLaws.{more_bytes}
use Rattle.wf_lower_laws.proofs.Surfaces.{same_width}
use Rattle.wf_lower_laws.specs.KindLaw.{IsNum, IsPointer, IsText, IsBuffer, Declares, has_op, has_question, num_served, slice_served, end_served, status_served, cond_served, ExpressionsKeepKinds}

module _ (S : CScope) where
  of_literal : (n : CNumber) → IsNum S (c.number n)
  of_literal (literals.Int n) = record { type = literal_type (literals.Int n); is = refl; ty = Int; counts = by (nat_eq n 0) }
    where
      by : (b : Bool) → as_number (if b then zero_literal else numbers Int) ≡ Some Int
      by true = refl
      by false = refl
  of_literal (literals.Unsigned n) = record { type = numbers U32; is = refl; ty = U32; counts = refl }
  of_literal (literals.Long n) = record { type = numbers U64; is = refl; ty = U64; counts = refl }

  pub num_kind : (n : ℕ) → IsNum S (num n)
  num_kind n = of_literal (literal n)

  -- Numbers are no pointers.
  sum_of : (a b : ExprType) (t u : CTy) → as_number a ≡ Some t → as_number b ≡ Some u → sum_type a b ≡ Some (numbers (common t u))
  sum_of (numbers x) b t u h j = rw (h, j) refl
  sum_of zero_literal b t u h j = rw (h, j) refl
  sum_of (points_to x) b t u h j = absurd (cc h)

  both_of : (a b : ExprType) (t u : CTy) → as_number a ≡ Some t → as_number b ≡ Some u → arithmetic_type (as_number a) (as_number b) ≡ Some (numbers (common t u))
  both_of a b t u h j = rw (h, j) refl

  one_of : (z : Bool) (a b : ExprType) (t u : CTy) → as_number a ≡ Some t → as_number b ≡ Some u → test_type (one_type z a b) ≡ Some (numbers Int)
  one_of z (numbers x) (numbers y) t u h j = refl
  one_of z (numbers x) zero_literal t u h j = refl
  one_of z zero_literal (numbers y) t u h j = refl
  one_of z zero_literal zero_literal t u h j = refl
  one_of z (points_to x) b t u h j = absurd (cc h)
  one_of z (numbers x) (points_to y) t u h j = absurd (cc j)
  one_of z zero_literal (points_to y) t u h j = absurd (cc j)

  -- Any operator gives a number of two.
  record Gives (op : COp) (a b : ExprType) : Type 0 where
    ty : CTy
    is : operation_type op a b ≡ Some (numbers ty)

  gives : (op : COp) (a b : ExprType) (t u : CTy) → as_number a ≡ Some t → as_number b ≡ Some u → Gives op a b
  gives Add a b t u h j = record { ty = common t u; is = sum_of a b t u h j }
  gives Sub a b t u h j = record { ty = common t u; is = both_of a b t u h j }
  gives Mul a b t u h j = record { ty = common t u; is = both_of a b t u h j }
  gives Div a b t u h j = record { ty = common t u; is = both_of a b t u h j }
  gives Rem a b t u h j = record { ty = common t u; is = both_of a b t u h j }
  gives Shl a b t u h j = record { ty = t; is = rw (h, j) refl }
  gives Shr a b t u h j = record { ty = t; is = rw (h, j) refl }
  gives BitAnd a b t u h j = record { ty = common t u; is = both_of a b t u h j }
  gives BitOr a b t u h j = record { ty = common t u; is = both_of a b t u h j }
  gives BitXor a b t u h j = record { ty = common t u; is = both_of a b t u h j }
  gives Lt a b t u h j = record { ty = Int; is = one_of false a b t u h j }
  gives Le a b t u h j = record { ty = Int; is = one_of false a b t u h j }
  gives Gt a b t u h j = record { ty = Int; is = one_of false a b t u h j }
  gives Ge a b t u h j = record { ty = Int; is = one_of false a b t u h j }
  gives Eq a b t u h j = record { ty = Int; is = one_of true a b t u h j }
  gives Ne a b t u h j = record { ty = Int; is = one_of true a b t u h j }
  gives Both a b t u h j = record { ty = Int; is = refl }
  gives Either a b t u h j = record { ty = Int; is = refl }

  pub two_kind : (op : COp) (x y : ExprTree) → IsNum S x → IsNum S y → IsNum S (two op x y)
  two_kind op x y h j =
      let g = gives op h.type j.type h.ty j.ty h.counts j.counts in
      record { type = numbers g.ty; is = rw (h.is, j.is) g.is; ty = g.ty; counts = refl }

  cast_num : (u : CUint) (t : ExprType) (ty : CTy) → as_number t ≡ Some ty → cast_from S.structs (uint u) t ≡ Some (numbers (promoted u))
  cast_num u (numbers x) ty h = refl
  cast_num u zero_literal ty h = refl
  cast_num u (points_to x) ty h = absurd (cc h)

  pub cast_kind : (bits : ℕ) (x : ExprTree) → IsNum S x → IsNum S (cast (uint_of bits) x)
  cast_kind bits x h = record { type = numbers (promoted (width_of bits)); is = rw h.is (cast_num (width_of bits) h.type h.ty h.counts); ty = promoted (width_of bits); counts = refl }

  kind_if : (b : Bool) (x y : ExprTree) → IsNum S x → IsNum S y → IsNum S (if b then x else y)
  kind_if true x y h j = h
  kind_if false x y h j = j

  recast_kind : (bits : ℕ) (x : ExprTree) → IsNum S x → IsNum S (recast bits x)
  recast_kind bits (c.number (literals.Int v)) h = of_literal _
  recast_kind bits (c.number (literals.Unsigned v)) h = of_literal _
  recast_kind bits (c.number (literals.Long v)) h = cast_kind bits _ h
  recast_kind bits (variable name) h = cast_kind bits _ h
  recast_kind bits (member p x) h = cast_kind bits _ h
  recast_kind bits (c.element p i) h = cast_kind bits _ h
  recast_kind bits (c.pointed p) h = cast_kind bits _ h
  recast_kind bits (operation op a b es) h = cast_kind bits _ h
  recast_kind bits (unary op a) h = cast_kind bits _ h
  recast_kind bits (cast t a) h = cast_kind bits _ h
  recast_kind bits (choice a b x) h = cast_kind bits _ h
  recast_kind bits (called name es) h = cast_kind bits _ h

  firm_kind : (bits : ℕ) (a : Rated) → IsNum S a.code → IsNum S (firm bits a)
  firm_kind bits a h = kind_if (nat_eq (rank a.ty) (rank (calculated bits))) a.code (recast bits a.code) h (recast_kind bits a.code h)

  balanced_kind : (bits : ℕ) (a b : Rated) → IsNum S a.code → IsNum S (balanced bits a b)
  balanced_kind bits a b h = kind_if (nat_eq (rank b.ty) (rank (calculated bits))) a.code (firm bits a) h (firm_kind bits a h)

  cut_off_kind : (bits : ℕ) (x : ExprTree) → IsNum S x → IsNum S (cut_off bits x)
  cut_off_kind bits x h = kind_if (nat_le bits 16) (cast (uint_of bits) x) x (cast_kind bits x h) h

  pub taken_kind : (bits : ℕ) (x : ExprTree) → IsNum S x → IsNum S (taken bits x)
  taken_kind bits x h = kind_if (is_filled x) (cut_off bits x) x (cut_off_kind bits x h) h

  factor_kind : (bits : ℕ) (a b : Rated) → IsNum S a.code → IsNum S (factor bits a b)
  factor_kind bits a b h = kind_if (nat_eq bits 16) (recast 32 a.code) (balanced bits a b) (recast_kind 32 a.code h) (balanced_kind bits a b h)

  -- A chain with one operand more.
  operations_more : (op : COp) (first : Option ExprType) (ts : List (Option ExprType)) (t : Option ExprType)
      → operations_type op first (ts ++ t ∷ []) ≡ option_and_then (λ a. option_and_then (operation_type op a) t) (operations_type op first ts)
  operations_more op first [] t = refl
  operations_more op first (x ∷ ts) t = operations_more op (option_and_then (λ a. option_and_then (operation_type op a) x) first) ts t

  operands_more : (es : Operands) (e : ExprTree) → operand_types S (with_operand es e) ≡ operand_types S es ++ type_of S e ∷ []
  operands_more no_operand e = refl
  operands_more (operand x es) e = ap (λ ts. type_of S x ∷ ts) (operands_more es e)

  longer_kind : (own : COp) (x y : ExprTree) (es : Operands) (e : ExprTree) → IsNum S (operation own x y es) → IsNum S e → IsNum S (operation own x y (with_operand es e))
  longer_kind own x y es e h j =
      let g = gives own h.type j.type h.ty j.ty h.counts j.counts in
      let P : List (Option ExprType) → Type 0 = λ ts. operations_type own (type_of S x) (type_of S y ∷ ts) ≡ Some (numbers g.ty) in
      let more : operations_type own (type_of S x) ((type_of S y ∷ operand_types S es) ++ type_of S e ∷ []) ≡ Some (numbers g.ty) =
      operations_more own (type_of S x) (type_of S y ∷ operand_types S es) (type_of S e) ∙ rw (h.is, j.is) g.is in
      record { type = numbers g.ty; is = subst P (sym (operands_more es e)) more; ty = g.ty; counts = refl }

  chained_if : (b : Bool) (op own : COp) (x y : ExprTree) (es : Operands) (e : ExprTree) → IsNum S (operation own x y es) → IsNum S e → IsNum S (if b then operation own x y (with_operand es e) else two op (operation own x y es) e)
  chained_if true op own x y es e h j = longer_kind own x y es e h j
  chained_if false op own x y es e h j = two_kind op (operation own x y es) e h j

  pub chained_kind : (joined : Bool) (op : COp) (a e : ExprTree) → IsNum S a → IsNum S e → IsNum S (chained joined op a e)
  chained_kind false op a e h j = two_kind op a e h j
  chained_kind true op (operation own x y es) e h j = chained_if (same_op op own) op own x y es e h j
  chained_kind true op (c.number v) e h j = two_kind op _ e h j
  chained_kind true op (variable name) e h j = two_kind op _ e h j
  chained_kind true op (member p x) e h j = two_kind op _ e h j
  chained_kind true op (c.element p i) e h j = two_kind op _ e h j
  chained_kind true op (c.pointed p) e h j = two_kind op _ e h j
  chained_kind true op (unary o a) e h j = two_kind op _ e h j
  chained_kind true op (cast t a) e h j = two_kind op _ e h j
  chained_kind true op (choice a b x) e h j = two_kind op _ e h j
  chained_kind true op (called name es) e h j = two_kind op _ e h j

  rated_if : (b : Bool) (x y : Rated) → IsNum S x.code → IsNum S y.code → IsNum S (if b then x else y).code
  rated_if true x y h j = h
  rated_if false x y h j = j

  pub converted_kind : (bits : ℕ) (a : Rated) → IsNum S a.code → IsNum S (converted bits a).code
  converted_kind bits a h =
      rated_if (nat_lt (rank (calculated bits)) (rank a.ty)) (rated (cast (uint_of bits) a.code) (calculated bits)) a (cast_kind bits a.code h) h

  pub widened_kind : (bits : ℕ) (a : Rated) → IsNum S a.code → IsNum S (widened bits a).code
  widened_kind bits a h =
      rated_if (nat_eq (rank a.ty) 0 && not (is_held a.code)) (rated (cast (uint_of bits) a.code) (calculated bits)) a (cast_kind bits a.code h) h

  -- ---- trees

  element_kind : (bits : ℕ) (p i : ExprTree) → IsPointer S bits p → IsNum S i → IsNum S (c.element p i)
  element_kind bits p i h j = record { type = numbers (promoted (width_of bits)); is = rw (h, j.is, j.counts) refl; ty = promoted (width_of bits); counts = refl }

  pub plus_kind : (bits : ℕ) (p i : ExprTree) → IsPointer S bits p → IsNum S i → IsPointer S bits (two Add p i)
  plus_kind bits p i h j = rw (h, j.is, j.counts) refl

  choice_kind : (bits : ℕ) (p i : ExprTree) → IsPointer S bits p → IsNum S i → IsPointer S bits (choice p (two Add p i) p)
  choice_kind bits p i h j = rw (h, j.is, j.counts, same_width (width_of bits)) refl

  moved_kind : (never_null : Bool) (bits : ℕ) (p i : ExprTree) → IsPointer S bits p → IsNum S i → IsPointer S bits (moved never_null p i)
  moved_kind true bits p i h j = plus_kind bits p i h j
  moved_kind false bits p i h j = choice_kind bits p i h j

  abbrev EndKind : Option Rated → Type 0
  EndKind None = Unit {0}
  EndKind (Some a) = IsNum S a.code

  part_pointer_kind : (never_null : Bool) (bits : ℕ) (p : ExprTree) (from : Option Rated) → IsPointer S bits p → EndKind from → IsPointer S bits (part_pointer never_null p from)
  part_pointer_kind never_null bits p None h j = h
  part_pointer_kind never_null bits p (Some f) h j = moved_kind never_null bits p f.code h j

  part_length_kind : (whole : Rated) (from to : Option Rated) → IsNum S whole.code → EndKind from → EndKind to → IsNum S (part_length whole from to).code
  part_length_kind whole None None h j i = h
  part_length_kind whole None (Some t) h j i = i
  part_length_kind whole (Some f) None h j i = two_kind Sub whole.code f.code h j
  part_length_kind whole (Some f) (Some t) h j i = two_kind Sub t.code f.code i j

  not_kind : (e : ExprTree) → IsNum S e → IsNum S (unary Not e)
  not_kind e h = record { type = numbers Int; is = rw h.is refl; ty = Int; counts = refl }

  same_code_kind : (a b : ExprTree) (fixed : Bool) → IsNum S (two Eq b a) → IsNum S (two Ne a b) → IsNum S (two Eq a b) → IsNum S (same_code a b fixed)
  same_code_kind a b fixed h j i = kind_if fixed (two Eq b a) _ h (kind_if (is_held a) (unary Not (two Ne a b)) (two Eq a b) (not_kind (two Ne a b) j) i)

  compared_kind : (op : Order) (a b : ExprTree) → IsNum S a → IsNum S b → IsNum S (compared op a b)
  compared_kind equal a b h j = kind_if (is_literal a) (two Eq a b) _ (two_kind Eq a b h j) (same_code_kind a b (is_literal b) (two_kind Eq b a j h) (two_kind Ne a b h j) (two_kind Eq a b h j))
  compared_kind less a b h j = two_kind Lt a b h j
  compared_kind at_most a b h j = two_kind Le a b h j
  compared_kind differs a b h j = two_kind Ne a b h j
  compared_kind at_least a b h j = two_kind Ge a b h j
  compared_kind greater a b h j = two_kind Gt a b h j

  -- Statuses are compared, and asked for their first bytes.
  text_type : (e : ExprTree) → IsText S e → (type_of S e ≡ Some zero_literal) ⊎ (type_of S e ≡ Some (points_to byte))
  text_type e (inl h) = inl (rw h refl)
  text_type e (inr h) = inr h

  texts_type : (op : COp) (a b : ExprTree) → (op ≡ Eq) ⊎ (op ≡ Ne) → (type_of S a ≡ Some zero_literal) ⊎ (type_of S a ≡ Some (points_to byte)) → (type_of S b ≡ Some zero_literal) ⊎ (type_of S b ≡ Some (points_to byte)) → IsNum S (two op a b)
  texts_type op a b (inl o) (inl h) (inl j) = record { type = numbers Int; is = rw (o, h, j) refl; ty = Int; counts = refl }
  texts_type op a b (inl o) (inl h) (inr j) = record { type = numbers Int; is = rw (o, h, j) refl; ty = Int; counts = refl }
  texts_type op a b (inl o) (inr h) (inl j) = record { type = numbers Int; is = rw (o, h, j) refl; ty = Int; counts = refl }
  texts_type op a b (inl o) (inr h) (inr j) = record { type = numbers Int; is = rw (o, h, j) refl; ty = Int; counts = refl }
  texts_type op a b (inr o) (inl h) (inl j) = record { type = numbers Int; is = rw (o, h, j) refl; ty = Int; counts = refl }
  texts_type op a b (inr o) (inl h) (inr j) = record { type = numbers Int; is = rw (o, h, j) refl; ty = Int; counts = refl }
  texts_type op a b (inr o) (inr h) (inl j) = record { type = numbers Int; is = rw (o, h, j) refl; ty = Int; counts = refl }
  texts_type op a b (inr o) (inr h) (inr j) = record { type = numbers Int; is = rw (o, h, j) refl; ty = Int; counts = refl }

  eq_kind : (a b : ExprTree) → IsText S a → IsText S b → IsNum S (two Eq a b)
  eq_kind a b h j = texts_type Eq a b (inl refl) (text_type a h) (text_type b j)

  ne_kind : (a b : ExprTree) → IsText S a → IsText S b → IsNum S (two Ne a b)
  ne_kind a b h j = texts_type Ne a b (inr refl) (text_type a h) (text_type b j)

  either_kind : (x y : ExprTree) (t u : ExprType) → type_of S x ≡ Some t → type_of S y ≡ Some u → IsNum S (two Both x y)
  either_kind x y t u h j = record { type = numbers Int; is = rw (h, j) refl; ty = Int; counts = refl }

  first_byte : (k : ℕ) (e : ExprTree) → type_of S e ≡ Some (points_to byte) → IsNum S (two Both e (two Eq (num k) (c.element e (num 0))))
  first_byte k e h =
      let n = num_kind k in
      let first : IsNum S (c.element e (num 0)) = record { type = numbers Int; is = rw h refl; ty = Int; counts = refl } in
      let same = two_kind Eq (num k) (c.element e (num 0)) n first in
      either_kind e (two Eq (num k) (c.element e (num 0))) (points_to byte) same.type h same.is

  pub begins_at : (k : ℕ) (e : ExprTree) → type_of S e ≡ Some (points_to byte) → IsNum S (begins_with k e)
  begins_at k (c.number v) h = num_kind 0
  begins_at k (variable name) h = first_byte k _ h
  begins_at k (member p x) h = first_byte k _ h
  begins_at k (c.element p i) h = first_byte k _ h
  begins_at k (c.pointed p) h = first_byte k _ h
  begins_at k (operation op a b es) h = first_byte k _ h
  begins_at k (unary o a) h = first_byte k _ h
  begins_at k (cast t a) h = first_byte k _ h
  begins_at k (choice a b x) h = first_byte k _ h
  begins_at k (called name es) h = first_byte k _ h

  pub begins_kind : (k : ℕ) (e : ExprTree) → IsText S e → IsNum S (begins_with k e)
  begins_kind k e (inl h) =
      let P : ExprTree → Type 0 = λ e. IsNum S (begins_with k e) in
      subst P (sym h) (num_kind 0)
  begins_kind k e (inr h) = begins_at k e h

  category_kind : (category : Category) (e : ExprTree) → IsText S e → IsNum S (category_code category e)
  category_kind Fine e h = eq_kind (num 0) e (inl refl) h
  category_kind Note e h = begins_kind 64 e h
  category_kind Suspension e h = begins_kind 36 e h
  category_kind Fault e h = begins_kind 35 e h

  -- The number that the next bytes of a reader spell.
  module _ (names : Names) (a : ℕ) (place : IsNum S (place_code names a)) (bytes : IsPointer S 8 (bytes_code names a)) where
    byte_kind : (k : ℕ) → IsNum S (peeked names a k)
    byte_kind k = element_kind 8 _ _ bytes (kind_if (nat_eq k 0) (place_code names a) (two Add (place_code names a) (num k)) place (two_kind Add (place_code names a) (num k) place (num_kind k)))

    byte_ahead_kind : (bits : ℕ) (big : Bool) (k : ℕ) → IsNum S (byte_ahead names a bits big k)
    byte_ahead_kind bits big k =
        let byte = byte_kind (byte_at bits big k) in
        two_kind Shl _ (num (8 * k)) (kind_if (nat_le bits 16) (peeked names a (byte_at bits big k)) (cast (uint_of bits) (peeked names a (byte_at bits big k))) byte (cast_kind bits _ byte)) (num_kind (8 * k))

    bytes_kind : (bits : ℕ) (big : Bool) (first second : ExprTree) (k n : ℕ) → IsNum S (two Add first second) → IsNum S (operation Add first second (bytes_ahead names a bits big k n))
    bytes_kind bits big first second k zero h = h
    bytes_kind bits big first second k (suc n) h =
        let P : Operands → Type 0 = λ es. IsNum S (operation Add first second es) in
        subst P (more_bytes names a bits big k n (k + n) refl)
        (longer_kind Add first second (bytes_ahead names a bits big k n) (byte_ahead names a bits big (k + n)) (bytes_kind bits big first second k n h) (byte_ahead_kind bits big (k + n)))

    pub number_ahead_kind : (bits : ℕ) (big : Bool) → IsNum S (number_ahead names a bits big)
    number_ahead_kind bits big =
        let lowest = peeked names a (byte_at bits big 0) in
        let second = byte_ahead names a bits big 1 in
        bytes_kind bits big lowest second 2 (bits / 8 - 2) (two_kind Add lowest second (byte_kind (byte_at bits big 0)) (byte_ahead_kind bits big 1))

  module _ (x : Context) (names : Names) (has : Bool → ℕ → Bool) (knows reads : ℕ → Bool) (d : Declares S x names has knows reads) where
    linked_kind : (op : Arith) (bits : ℕ) (joined : Bool) (a b : Rated) → has_op has op bits ≡ true → IsNum S a.code → IsNum S b.code → IsNum S (linked op bits joined a b)
    linked_kind plus bits joined a b g h j = chained_kind joined Add (balanced bits a b) b.code (balanced_kind bits a b h) j
    linked_kind minus bits joined a b g h j = two_kind Sub (balanced bits a b) b.code (balanced_kind bits a b h) j
    linked_kind times bits joined a b g h j = chained_kind joined Mul (balanced bits a b) b.code (balanced_kind bits a b h) j
    linked_kind divided bits joined a b g h j = two_kind Div (balanced bits a b) b.code (balanced_kind bits a b h) j
    linked_kind remainder bits joined a b g h j = two_kind Rem (balanced bits a b) b.code (balanced_kind bits a b h) j
    linked_kind shift_left bits joined a b g h j = two_kind Shl (firm bits a) b.code (firm_kind bits a h) j
    linked_kind shift_right bits joined a b g h j = two_kind Shr (firm bits a) b.code (firm_kind bits a h) j
    linked_kind bits_and bits joined a b g h j = chained_kind joined BitAnd (balanced bits a b) b.code (balanced_kind bits a b h) j
    linked_kind bits_or bits joined a b g h j = chained_kind joined BitOr (balanced bits a b) b.code (balanced_kind bits a b h) j
    linked_kind bits_xor bits joined a b g h j = chained_kind joined BitXor (balanced bits a b) b.code (balanced_kind bits a b h) j
    linked_kind mod_plus bits joined a b g h j = cut_off_kind bits _ (two_kind Add (balanced bits a b) b.code (balanced_kind bits a b h) j)
    linked_kind mod_minus bits joined a b g h j = cut_off_kind bits _ (two_kind Sub (balanced bits a b) b.code (balanced_kind bits a b h) j)
    linked_kind mod_times bits joined a b g h j = cut_off_kind bits _ (two_kind Mul (factor bits a b) b.code (factor_kind bits a b h) j)
    linked_kind mod_shift_left bits joined a b g h j = cut_off_kind bits _ (two_kind Shl (firm bits a) b.code (firm_kind bits a h) j)
    linked_kind sat_plus bits joined a b g h j = d.calls true bits (taken bits a.code) (taken bits b.code) g (taken_kind bits a.code h) (taken_kind bits b.code j)
    linked_kind sat_minus bits joined a b g h j = d.calls false bits (taken bits a.code) (taken bits b.code) g (taken_kind bits a.code h) (taken_kind bits b.code j)

    peek_kind : (a : ℕ) (form : PeekForm) → IsBuffer S names a → IsPointer S 8 (bytes_code names a) → IsNum S (peek_code names a form).code
    peek_kind a PeekU8 b p = byte_kind names a b.place p 0
    peek_kind a PeekU16Le b p = number_ahead_kind names a b.place p 16 false
    peek_kind a PeekU32Le b p = number_ahead_kind names a b.place p 32 false

    asked_kind : (a : ℕ) (question : Question) → may_ask question (type_at x (arg a)) ≡ true → has_question has reads question a ≡ true → IsNum S (asked_code names a question).code
    asked_kind a reader_length h g = let b = d.readers a h in two_kind Sub (end_code names a) (place_code names a) b.end b.place
    asked_kind a reader_position h g = let b = d.readers a h in d.calls true 64 (member (io_code names a) (codes "pos")) (place_code names a) g b.position b.place
    asked_kind a (peek form) h g = peek_kind a form (d.readers a h) (d.bytes a h g)
    asked_kind a writer_length h g = let b = d.writers a h in two_kind Sub (end_code names a) (place_code names a) b.end b.place
    asked_kind a writer_position h g = let b = d.writers a h in d.calls true 64 (member (io_code names a) (codes "pos")) (place_code names a) g b.position b.place

    same_bits : (of own : NumType) → same_num_type of own ≡ true → of.bits ≡ own.bits
    same_bits of own h = grind (arith, nat_tests, (both_true (nat_eq of.bits own.bits) _ h).0)

    mutual
      number_kind : (t : NumTree) → well_part x t ≡ true → num_served has reads t ≡ true → IsNum S (lowered names t).code
      number_kind (number at n) w s = num_kind n
      number_kind (read at of path) w s = d.numbers of path (both_true (is_range of) (is_number of (type_at x path)) w).1
      number_kind (element at of cells index) w s =
          let p = both_true (same_num_type of (element_type cells)) _ w in
          let q = both_true (well_slice x cells) _ p.1 in
          let r = both_true (is_whole_number index) (well_part x index) q.1 in
          let u = both_true (slice_served has reads cells) (num_served has reads index) s in
          element_kind (element_type cells).bits _ _ (slice_kind cells q.0 u.0).0 (number_kind index r.1 u.1)
      number_kind (link at sign op bits joined a b) w s =
          let p = (both_true (is_width bits) _ w).1 in
          let q = (both_true (fits bits a) _ p).1 in
          let r = (both_true (is_shift op || fits bits b) _ q).1 in
          let u = (both_true (not joined || continues op bits a) _ r).1 in
          let v = (both_true (joined || is_whole_number a) _ u).1 in
          let y = both_true (well_part x a) _ v in
          let z = both_true (is_whole_number b) (well_part x b) y.1 in
          let m = both_true (has_op has op bits) (num_served has reads a && num_served has reads b) s in
          let n = both_true (num_served has reads a) (num_served has reads b) m.1 in
          linked_kind op bits joined (lowered names a) (lowered names b) m.0 (number_kind a y.0 n.0) (number_kind b z.1 n.1)
      number_kind (convert at sign bits a) w s =
          let p = (both_true (is_width bits) _ w).1 in
          converted_kind bits (lowered names a) (number_kind a (both_true (is_whole_number a) (well_part x a) p).1 s)
      number_kind (length_of at cells) w s = (slice_kind cells w s).1
      number_kind (asked at question a) w s = asked_kind a question w s

      slice_kind : (t : SliceTree) → well_slice x t ≡ true → slice_served has reads t ≡ true → IsPointer S (element_type t).bits (lowered_slice names t).pointer × IsNum S (lowered_slice names t).length.code
      slice_kind (slice at bits path) w s = d.slices bits path w
      slice_kind (array at of count path) w s = (d.arrays of count path (both_true (is_range of) (is_array of count (type_at x path)) w).1, num_kind count)
      slice_kind (cut at cells from to) w s =
          let p = (both_true (is_unrefined (element_type cells)) _ w).1 in
          let q = both_true (well_slice x cells) _ p in
          let r = both_true (well_end x from) (well_end x to) q.1 in
          let u = both_true (slice_served has reads cells) _ s in
          let v = both_true (end_served has reads from) (end_served has reads to) u.1 in
          let it = slice_kind cells q.0 u.0 in
          let f = end_kind from r.0 v.0 in
          let t = end_kind to r.1 v.1 in
          (part_pointer_kind (is_whole cells) (element_type cells).bits _ (lowered_end names from) it.0 f, part_length_kind _ (lowered_end names from) (lowered_end names to) it.1 f t)

      end_kind : (e : EndTree) → well_end x e ≡ true → end_served has reads e ≡ true → EndKind (lowered_end names e)
      end_kind absent w s = tt
      end_kind (present e) w s = number_kind e (both_true (is_whole_number e) (well_part x e) w).1 s

    -- Two numbers that are compared as one.
    apart_kind : (op : Arith) (bits : ℕ) (a b : Rated) → has_op has op bits ≡ true → IsNum S a.code → IsNum S b.code → IsNum S (apart op bits a b).code
    apart_kind op bits a b g h j = linked_kind op bits false a b g h j

    operand_kind : (bits : ℕ) (t : NumTree) (a : Rated) (other : NumTree) → IsNum S a.code → IsNum S (xor_operand bits t a other).code
    operand_kind bits t a other h = rated_if (is_short_ones bits other && is_converted t) (with_zero bits a) a (apart_kind plus bits a (rated (num 0) Int) refl h (num_kind 0)) h

    pair_kind : (op : Arith) (bits : ℕ) (a b : NumTree) → has_op has op bits ≡ true → IsNum S (lowered names a).code → IsNum S (lowered names b).code → IsNum S (pair_compared names op bits a b).code
    pair_kind bits_xor bits a b g h j =
        let left = apart minus bits (lowered names b) (lowered names a) in
        let right = apart minus bits (lowered names a) (lowered names b) in
        let other = apart bits_xor bits (xor_operand bits a (lowered names a) b) (xor_operand bits b (lowered names b) a) in
        rated_if (is_ones bits b) left (if is_ones bits a then right else other) (apart_kind minus bits (lowered names b) (lowered names a) refl j h)
        (rated_if (is_ones bits a) right other (apart_kind minus bits (lowered names a) (lowered names b) refl h j)
        (apart_kind bits_xor bits (xor_operand bits a (lowered names a) b) (xor_operand bits b (lowered names b) a) refl (operand_kind bits a (lowered names a) b h) (operand_kind bits b (lowered names b) a j)))
    pair_kind mod_minus bits a b g h j =
        rated_if (is_ones bits a) (apart minus bits (lowered names a) (lowered names b)) (apart mod_minus bits (lowered names a) (lowered names b))
        (apart_kind minus bits (lowered names a) (lowered names b) refl h j) (apart_kind mod_minus bits (lowered names a) (lowered names b) g h j)
    pair_kind op bits a b g h j = apart_kind op bits (lowered names a) (lowered names b) g h j

    comparand_kind : (t : NumTree) → well_part x t ≡ true → num_served has reads t ≡ true → IsNum S (comparand names t).code
    comparand_kind (link at sign op bits true a b) w s = number_kind (link at sign op bits true a b) w s
    comparand_kind (link at sign op bits false a b) w s =
        let p = (both_true (is_width bits) _ w).1 in
        let q = (both_true (fits bits a) _ p).1 in
        let r = (both_true (is_shift op || fits bits b) _ q).1 in
        let u = (both_true (not false || continues op bits a) _ r).1 in
        let v = (both_true (false || is_whole_number a) _ u).1 in
        let y = both_true (well_part x a) _ v in
        let z = both_true (is_whole_number b) (well_part x b) y.1 in
        let m = both_true (has_op has op bits) (num_served has reads a && num_served has reads b) s in
        let n = both_true (num_served has reads a) (num_served has reads b) m.1 in
        pair_kind op bits a b m.0 (number_kind a y.0 n.0) (number_kind b z.1 n.1)
    comparand_kind (convert at sign bits a) w s =
        let p = (both_true (is_width bits) _ w).1 in
        comparand_kind a (both_true (is_whole_number a) (well_part x a) p).1 s
    comparand_kind (number at n) w s = number_kind (number at n) w s
    comparand_kind (read at of path) w s = number_kind (read at of path) w s
    comparand_kind (element at of cells index) w s = number_kind (element at of cells index) w s
    comparand_kind (length_of at cells) w s = number_kind (length_of at cells) w s
    comparand_kind (asked at question a) w s = number_kind (asked at question a) w s

    beside_kind : (a : Rated) (ty : CTy) → IsNum S a.code → IsNum S (beside a ty).code
    beside_kind a ty h = rated_if (nat_lt (rank a.ty) (rank ty)) (widened (c_width ty) a) a (widened_kind (c_width ty) a h) h

    unmoved_kind : (sign : COp) (e : ExprTree) (ty : CTy) → IsNum S e → IsNum S (unmoved sign e ty).code
    unmoved_kind sign e ty h = two_kind sign e (num 0) h (num_kind 0)

    unmoved_in_kind : (sign : COp) (a : Rated) (ty : CTy) → IsNum S a.code → IsNum S (unmoved_in sign a ty).code
    unmoved_in_kind sign a ty h =
        let it : ExprTree = cast (uint_of (c_width ty)) a.code in
        rated_if (nat_lt (rank a.ty) (rank ty)) (unmoved sign it (calculated (c_width ty))) (unmoved sign a.code a.ty)
        (unmoved_kind sign it (calculated (c_width ty)) (cast_kind (c_width ty) a.code h)) (unmoved_kind sign a.code a.ty h)

    compared_with_kind : (sign : COp) (a b : Rated) → IsNum S a.code → IsNum S (compared_with sign a b).code
    compared_with_kind sign a b h = rated_if (is_decided a b) (unmoved_in sign a b.ty) (beside a b.ty) (unmoved_in_kind sign a b.ty h) (beside_kind a b.ty h)

    left_compared_kind : (a b : Rated) → IsNum S a.code → IsNum S (left_compared a b).code
    left_compared_kind a b h = rated_if (is_itself a.code b.code) (unmoved_in Add a b.ty) (compared_with Add a b) (unmoved_in_kind Add a b.ty h) (compared_with_kind Add a b h)

    settled_kind : (o : Option Bool) (e : ExprTree) → IsNum S e → IsNum S (settled_or o e)
    settled_kind None e h = h
    settled_kind (Some met) e h = num_kind (if met then 1 else 0)

    status_kind : (t : StatusTree) → well_status x t ≡ true → status_served knows t ≡ true → IsText S (lowered_status names t)
    status_kind (status at n) w s = d.constants n s
    status_kind (held at path) w s = inr (d.statuses path w)
    status_kind no_status w s = inl refl

    held_kind : (one : Bool) (a b : StatusTree) → IsText S (lowered_status names a) → IsText S (lowered_status names b) → IsNum S (held_compared one names a b)
    held_kind true a b h j =
        kind_if (is_constant a) (two Eq (lowered_status names a) (lowered_status names b)) _ (eq_kind (lowered_status names a) (lowered_status names b) h j)
        (same_code_kind (lowered_status names a) (lowered_status names b) (is_constant b) (eq_kind (lowered_status names b) (lowered_status names a) j h) (ne_kind (lowered_status names a) (lowered_status names b) h j) (eq_kind (lowered_status names a) (lowered_status names b) h j))
    held_kind false a b h j = ne_kind (lowered_status names a) (lowered_status names b) h j

    statuses_kind : (one : Bool) (a b : StatusTree) → IsText S (lowered_status names a) → IsText S (lowered_status names b) → IsNum S (statuses_compared one names a b)
    statuses_kind one a b h j =
        kind_if (is_constant a && is_constant b) (constants_compared one (constant_number a) (constant_number b)) (variables_compared one names a b)
        (num_kind (if same_truth one (nat_eq (constant_number a) (constant_number b)) then 1 else 0))
        (kind_if (same_state a b) (num (if one then 1 else 0)) (held_compared one names a b) (num_kind (if one then 1 else 0)) (held_kind one a b h j))

    begun_kind : (joined : Bool) (joint : COp) (e f : ExprTree) → IsNum S e → IsNum S (begun joined joint e f)
    begun_kind true joint e f h = h
    begun_kind false joint e f h = kind_if (decides joint e f) (unary Not (unary Not e)) e (not_kind _ (not_kind e h)) h

    condition_kind : (t : CondTree) → well_cond x t ≡ true → cond_served has knows reads t ≡ true → IsNum S (lowered_cond names t)
    condition_kind (truth at b) w s = num_kind (if b then 1 else 0)
    condition_kind (flag at path) w s = d.flags path w
    condition_kind (compare at sign a op b) w s =
        let p = (both_true _ (well_num x a && well_num x b) w).1 in
        let q = both_true (well_num x a) (well_num x b) p in
        let u = both_true (num_served has reads a) (num_served has reads b) s in
        let left = comparand_kind a (both_true (is_whole_number a) (well_part x a) q.0).1 u.0 in
        let right = comparand_kind b (both_true (is_whole_number b) (well_part x b) q.1).1 u.1 in
        settled_kind (settled op (comparand names a).code (comparand names b).code) _
        (compared_kind op _ _ (left_compared_kind (comparand names a) (comparand names b) left) (compared_with_kind Sub (comparand names b) (comparand names a) right))
    condition_kind (same_status at sign a one b) w s =
        let p = both_true (well_status x a) (well_status x b) w in
        let u = both_true (status_served knows a) (status_served knows b) s in
        statuses_kind one a b (status_kind a p.0 u.0) (status_kind b p.1 u.1)
    condition_kind (junction at both joined a b) w s =
        let p = both_true (well_cond x a) (well_cond x b) w in
        let u = both_true (cond_served has knows reads a) (cond_served has knows reads b) s in
        let left = lowered_cond names a in
        let right = lowered_cond names b in
        chained_kind joined (joint_of both) _ _ (begun_kind joined (joint_of both) left right (condition_kind a p.0 u.0)) (condition_kind b p.1 u.1)
    condition_kind (negation at a) w s = not_kind _ (condition_kind a w s)
    condition_kind (closed at a) w s = (d.readers a w).closed
    condition_kind (has_category at t category) w s = category_kind category _ (status_kind t w s)

pub expressions_keep_kinds : ExpressionsKeepKinds
expressions_keep_kinds s x names has knows reads d =
    record { numbers = number_kind s x names has knows reads d; slices = slice_kind s x names has knows reads d; statuses = status_kind s x names has knows reads d; conditions = condition_kind s x names has knows reads d }
