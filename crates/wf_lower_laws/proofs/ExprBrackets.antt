-- How many brackets an expression opens: no more than five for each that stands inside another.
use Rattle.std.proofs.Common.{◌≡◌, ℕ, zero, suc, ◌+◌, ◌-◌, ◌*◌, ◌/◌, ◌≤◌, Bool, true, false, not, ◌&&◌, List, Option, Some, None, nat_eq, refl, sym, subst, arith}
use Rattle.std.specs.Prelude.{if◌then◌else◌, nat_le, nat_lt}
use Rattle.std.proofs.lemmas.Bool.Decides.{nat_tests}
use Rattle.std.proofs.lemmas.Slice.Eq.{bytes_eq-Decides}
use Rattle.wf_text.specs.declared.place.Place.{Place}
use Rattle.wf_num.specs.declared.c_arithmetic.CTy.{CTy}
use Rattle.wf_num.specs.declared.c_arithmetic.CTy.TheVariants.{Int}
use Rattle.wf_num.specs.CArithmetic.{c_width}
use Rattle.wf_base.specs.declared.base_methods.PeekForm.{PeekForm}
use Rattle.wf_base.specs.declared.base_methods.PeekForm.TheVariants.{PeekU8, PeekU16Le, PeekU32Le}
use Rattle.wf_text.specs.declared.categories.Category.{Category}
use Rattle.wf_text.specs.declared.categories.Category.TheVariants.{Fine, Note, Suspension, Fault}
use Rattle.wf_ast.specs.TypedTree.{Path, local, field, arg, Arith, plus, minus, times, divided, remainder, shift_left, shift_right, bits_and, bits_or, bits_xor, mod_plus, mod_minus, mod_times, mod_shift_left, sat_plus, sat_minus, Order, less, at_most, equal, differs, at_least, greater, Question, reader_length, reader_position, peek, writer_length, writer_position, NumTree, number, read, element, link, convert, length_of, asked, SliceTree, slice, array, cut, EndTree, absent, present, StatusTree, status, held, no_status, CondTree, truth, flag, compare, same_status, junction, negation, closed, has_category}
use Rattle.wf_ast.specs.Same.{same_arith, same_state}
use Rattle.wf_ast.proofs.Arena.{both_true}
use Rattle.c_text.specs.declared.kinds.CNumber.TheVariants as literals
use Rattle.c_text.specs.declared.kinds.COp.{COp}
use Rattle.c_text.specs.declared.kinds.COp.TheVariants.{Add, Sub, Mul, Div, Rem, Shl, Shr, BitAnd, BitOr, BitXor, Lt, Le, Gt, Ge, Eq, Ne, Both, Either}
use Rattle.c_text.specs.declared.kinds.CUnary.{CUnary}
use Rattle.c_text.specs.declared.kinds.CUnary.TheVariants.{Not}
use Rattle.c_text.specs.CSpelling.{op_bytes}
use Rattle.c_text.specs.CTree.{TypeTree, ExprTree, variable, member, operation, unary, cast, choice, called, Operands, no_operand, operand}
use Rattle.c_text.specs.CTree as c
use Rattle.wf_exprs.specs.Names.{Names}
use Rattle.wf_exprs.specs.Words.{num, uint_of, two}
use Rattle.wf_ast.specs.Value.{same_truth}
use Rattle.wf_exprs.specs.Exprs.{calculated, rank, Rated, rated, recast, firm, balanced, op_of, with_operand, same_op, chained, saturated, cut_off, taken, is_filled, factor, linked, converted, widened, path_code, Pair, path_pair, is_array, moved, part_pointer, part_length, place_code, bytes_code, peeked, raised, byte_at, byte_ahead, bytes_ahead, number_ahead, peek_code, asked_code, lowered, lowered_slice, lowered_end, bare, is_ones, is_short_ones, is_converted, apart, with_zero, xor_operand, pair_compared, comparand, beside, is_decided, unmoved, unmoved_in, compared_with, is_itself, left_compared, settled, settled_or, given, status_constant, lowered_status, same_code, is_literal, is_held, compared, is_constant, constant_number, constants_compared, held_compared, variables_compared, statuses_compared, begins_with, category_code, decides, begun, joint_of, lowered_cond}
use Rattle.wf_lower_laws.specs.BracketLaw.{repeats, goes_on, cond_goes_on, num_within, slice_within, end_within, cond_within}
use Rattle.wf_lower_laws.proofs.Apart.{same_number}
use Rattle.wf_lower_laws.proofs.OpenBrackets.{ExprOpens, OperandsOpen}

-- No more than so many inside one another.
pub record ExprBy (d : ℕ) (e : ExprTree) : Type 0 where
  pub by : (n : ℕ) → n + d ≤ 512 → ExprOpens n e

pub by_more : (d k : ℕ) (e : ExprTree) → d ≤ k → ExprBy d e → ExprBy k e
by_more d k e l h = record { by = λ n m. h.by n (omega (arith, l, m)) }

pub by_if : (k : ℕ) (b : Bool) (x y : ExprTree) → ExprBy k x → ExprBy k y → ExprBy k (if b then x else y)
by_if k true x y h j = h
by_if k false x y h j = j

pub by_two : (d k : ℕ) (op : COp) (x y : ExprTree) → d + 1 ≤ k → ExprBy d x → ExprBy d y → ExprBy k (two op x y)
by_two d k op x y l h j = record { by = λ n m. (omega (arith, l, m), (h.by (n + 1) (omega (arith, l, m)), (j.by (n + 1) (omega (arith, l, m)), tt))) }

pub by_unary : (d k : ℕ) (op : CUnary) (x : ExprTree) → d + 1 ≤ k → ExprBy d x → ExprBy k (unary op x)
by_unary d k op x l h = record { by = λ n m. (omega (arith, l, m), h.by (n + 1) (omega (arith, l, m))) }

pub by_cast : (d k : ℕ) (t : TypeTree) (x : ExprTree) → d + 1 ≤ k → 2 ≤ k → ExprBy d x → ExprBy k (cast t x)
by_cast d k t x l two_more h = record { by = λ n m. (omega (arith, two_more, m), h.by (n + 1) (omega (arith, l, m))) }

pub by_element : (d k : ℕ) (p i : ExprTree) → d + 1 ≤ k → ExprBy k p → ExprBy d i → ExprBy k (c.element p i)
by_element d k p i l h j = record { by = λ n m. (h.by n m, (omega (arith, l, m), j.by (n + 1) (omega (arith, l, m)))) }

pub by_choice : (d k : ℕ) (a b e : ExprTree) → d + 1 ≤ k → ExprBy d a → ExprBy d b → ExprBy d e → ExprBy k (choice a b e)
by_choice d k a b e l h j i = record { by = λ n m. (omega (arith, l, m), (h.by (n + 1) (omega (arith, l, m)), (j.by (n + 1) (omega (arith, l, m)), i.by (n + 1) (omega (arith, l, m))))) }

by_saturated : (d k : ℕ) (sum : Bool) (bits : ℕ) (x y : ExprTree) → d + 2 ≤ k → ExprBy d x → ExprBy d y → ExprBy k (saturated sum bits x y)
by_saturated d k sum bits x y l h j = record { by = λ n m. (omega (arith, l, m), (h.by (n + 2) (omega (arith, l, m)), (j.by (n + 2) (omega (arith, l, m)), tt))) }

pub by_num : (k n : ℕ) → ExprBy k (num n)
by_num k n = record { by = λ i m. tt }

pub by_variable : (k : ℕ) (name : List ℕ) → ExprBy k (variable name)
by_variable k name = record { by = λ n m. tt }

by_recast : (d k bits : ℕ) (x : ExprTree) → d + 1 ≤ k → 2 ≤ k → ExprBy d x → ExprBy k (recast bits x)
by_recast d k bits (c.number (literals.Int v)) l m h = record { by = λ n o. tt }
by_recast d k bits (c.number (literals.Unsigned v)) l m h = record { by = λ n o. tt }
by_recast d k bits (c.number (literals.Long v)) l m h = by_cast d k (uint_of bits) _ l m h
by_recast d k bits (variable name) l m h = by_cast d k (uint_of bits) _ l m h
by_recast d k bits (member p x) l m h = by_cast d k (uint_of bits) _ l m h
by_recast d k bits (c.element p i) l m h = by_cast d k (uint_of bits) _ l m h
by_recast d k bits (c.pointed p) l m h = by_cast d k (uint_of bits) _ l m h
by_recast d k bits (operation op a b es) l m h = by_cast d k (uint_of bits) _ l m h
by_recast d k bits (unary op a) l m h = by_cast d k (uint_of bits) _ l m h
by_recast d k bits (cast t a) l m h = by_cast d k (uint_of bits) _ l m h
by_recast d k bits (choice a b e) l m h = by_cast d k (uint_of bits) _ l m h
by_recast d k bits (called name es) l m h = by_cast d k (uint_of bits) _ l m h

by_firm : (d k bits : ℕ) (a : Rated) → d + 2 ≤ k → ExprBy d a.code → ExprBy k (firm bits a)
by_firm d k bits a l h = by_if k (nat_eq (rank a.ty) (rank (calculated bits))) a.code (recast bits a.code) (by_more d k a.code (omega (arith, l)) h) (by_recast d k bits a.code (omega (arith, l)) (omega (arith, l)) h)

by_balanced : (d k bits : ℕ) (a b : Rated) → d + 2 ≤ k → ExprBy d a.code → ExprBy k (balanced bits a b)
by_balanced d k bits a b l h = by_if k (nat_eq (rank b.ty) (rank (calculated bits))) a.code (firm bits a) (by_more d k a.code (omega (arith, l)) h) (by_firm d k bits a l h)

by_cut_off : (d k bits : ℕ) (x : ExprTree) → d + 2 ≤ k → ExprBy d x → ExprBy k (cut_off bits x)
by_cut_off d k bits x l h = by_if k (nat_le bits 16) (cast (uint_of bits) x) x (by_cast d k (uint_of bits) x (omega (arith, l)) (omega (arith, l)) h) (by_more d k x (omega (arith, l)) h)

by_taken : (d k bits : ℕ) (x : ExprTree) → d + 2 ≤ k → ExprBy d x → ExprBy k (taken bits x)
by_taken d k bits x l h = by_if k (is_filled x) (cut_off bits x) x (by_cut_off d k bits x l h) (by_more d k x (omega (arith, l)) h)

by_factor : (d k bits : ℕ) (a b : Rated) → d + 2 ≤ k → ExprBy d a.code → ExprBy k (factor bits a b)
by_factor d k bits a b l h = by_if k (nat_eq bits 16) (recast 32 a.code) (balanced bits a b) (by_recast d k 32 a.code (omega (arith, l)) (omega (arith, l)) h) (by_balanced d k bits a b l h)

-- Chains.
more_operands : (n : ℕ) (es : Operands) (e : ExprTree) → OperandsOpen n es → ExprOpens n e → OperandsOpen n (with_operand es e)
more_operands n no_operand e h j = (j, tt)
more_operands n (operand first es) e h j = (h.0, more_operands n es e h.1 j)

goes_by : (b : Bool) (d k : ℕ) (op own : COp) (x y : ExprTree) (es : Operands) (e : ExprTree) → d + 1 ≤ k → ExprBy k (operation own x y es) → ExprBy d e → (b ≡ false → ExprBy d (operation own x y es))
    → ExprBy k (if b then operation own x y (with_operand es e) else two op (operation own x y es) e)
goes_by true d k op own x y es e l h j g = record {
  by = λ n m.
      let it = h.by n m in
      (it.0, (it.1.0, (it.1.1.0, more_operands (n + 1) es e it.1.1.1 (j.by (n + 1) (omega (arith, l, m))))));
}
goes_by false d k op own x y es e l h j g = by_two d k op (operation own x y es) e l (g refl) j

pub by_chained : (d k : ℕ) (joined : Bool) (op : COp) (a e : ExprTree) → d + 1 ≤ k → ExprBy d a → ExprBy d e → ExprBy k (chained joined op a e)
by_chained d k false op a e l h j = by_two d k op a e l h j
by_chained d k true op (operation own x y es) e l h j =
    goes_by (same_op op own) d k op own x y es e l (by_more d k (operation own x y es) (omega (arith, l)) h) j (λ g. h)
by_chained d k true op (c.number v) e l h j = by_two d k op _ e l h j
by_chained d k true op (variable name) e l h j = by_two d k op _ e l h j
by_chained d k true op (member p x) e l h j = by_two d k op _ e l h j
by_chained d k true op (c.element p i) e l h j = by_two d k op _ e l h j
by_chained d k true op (c.pointed p) e l h j = by_two d k op _ e l h j
by_chained d k true op (unary o a) e l h j = by_two d k op _ e l h j
by_chained d k true op (cast t a) e l h j = by_two d k op _ e l h j
by_chained d k true op (choice a b x) e l h j = by_two d k op _ e l h j
by_chained d k true op (called name es) e l h j = by_two d k op _ e l h j

-- What is an operation of an operator, and goes on with it.
pub record Operates (op : COp) (e : ExprTree) : Type 0 where
  pub own : COp
  pub first : ExprTree
  pub second : ExprTree
  pub others : Operands
  pub same : same_op op own ≡ true
  pub is : e ≡ operation own first second others

same_self : (op : COp) → same_op op op ≡ true
same_self op = (bytes_eq-Decides (op_bytes op) (op_bytes op)).1 refl

two_operates : (op : COp) (x y : ExprTree) → Operates op (two op x y)
two_operates op x y = record { own = op; first = x; second = y; others = no_operand; same = same_self op; is = refl }

if_operates : (b : Bool) (op own : COp) (x y : ExprTree) (es : Operands) (e : ExprTree) → same_op op own ≡ b → Operates op (if b then operation own x y (with_operand es e) else two op (operation own x y es) e)
if_operates true op own x y es e h = record { own = own; first = x; second = y; others = with_operand es e; same = h; is = refl }
if_operates false op own x y es e h = two_operates op (operation own x y es) e

pub chained_operates : (joined : Bool) (op : COp) (a e : ExprTree) → Operates op (chained joined op a e)
chained_operates false op a e = two_operates op a e
chained_operates true op (operation own x y es) e = if_operates (same_op op own) op own x y es e refl
chained_operates true op (c.number v) e = two_operates op _ e
chained_operates true op (variable name) e = two_operates op _ e
chained_operates true op (member p x) e = two_operates op _ e
chained_operates true op (c.element p i) e = two_operates op _ e
chained_operates true op (c.pointed p) e = two_operates op _ e
chained_operates true op (unary o a) e = two_operates op _ e
chained_operates true op (cast t a) e = two_operates op _ e
chained_operates true op (choice a b x) e = two_operates op _ e
chained_operates true op (called name es) e = two_operates op _ e

pub by_going : (d k : ℕ) (op : COp) (a e : ExprTree) → d + 1 ≤ k → Operates op a → ExprBy k a → ExprBy d e → ExprBy k (chained true op a e)
by_going d k op a e l o h j =
    let P : ExprTree → Type 0 = λ a. ExprBy k a → ExprBy k (chained true op a e) in
    subst P (sym o.is) (λ g. goes_by (same_op op o.own) d k op o.own o.first o.second o.others e l g j (λ f. absurd (cc (f, o.same)))) h

-- Operators.
by_balanced_two : (d k bits : ℕ) (op : COp) (a b : Rated) → d + 3 ≤ k → ExprBy d a.code → ExprBy d b.code → ExprBy k (two op (balanced bits a b) b.code)
by_balanced_two d k bits op a b l h j =
    by_two (d + 2) k op (balanced bits a b) b.code (omega (arith, l)) (by_balanced d (d + 2) bits a b (omega arith) h) (by_more d (d + 2) b.code (omega arith) j)

by_firm_two : (d k bits : ℕ) (op : COp) (a b : Rated) → d + 3 ≤ k → ExprBy d a.code → ExprBy d b.code → ExprBy k (two op (firm bits a) b.code)
by_firm_two d k bits op a b l h j =
    by_two (d + 2) k op (firm bits a) b.code (omega (arith, l)) (by_firm d (d + 2) bits a (omega arith) h) (by_more d (d + 2) b.code (omega arith) j)

by_balanced_chain : (d k bits : ℕ) (joined : Bool) (op : COp) (a b : Rated) → d + 3 ≤ k → ExprBy d a.code → ExprBy d b.code → ExprBy k (chained joined op (balanced bits a b) b.code)
by_balanced_chain d k bits joined op a b l h j =
    by_chained (d + 2) k joined op (balanced bits a b) b.code (omega (arith, l)) (by_balanced d (d + 2) bits a b (omega arith) h) (by_more d (d + 2) b.code (omega arith) j)

by_linked : (d k : ℕ) (op : Arith) (bits : ℕ) (joined : Bool) (a b : Rated) → d + 5 ≤ k → ExprBy d a.code → ExprBy d b.code → ExprBy k (linked op bits joined a b)
by_linked d k plus bits joined a b l h j = by_balanced_chain d k bits joined Add a b (omega (arith, l)) h j
by_linked d k minus bits joined a b l h j = by_balanced_two d k bits Sub a b (omega (arith, l)) h j
by_linked d k times bits joined a b l h j = by_balanced_chain d k bits joined Mul a b (omega (arith, l)) h j
by_linked d k divided bits joined a b l h j = by_balanced_two d k bits Div a b (omega (arith, l)) h j
by_linked d k remainder bits joined a b l h j = by_balanced_two d k bits Rem a b (omega (arith, l)) h j
by_linked d k shift_left bits joined a b l h j = by_firm_two d k bits Shl a b (omega (arith, l)) h j
by_linked d k shift_right bits joined a b l h j = by_firm_two d k bits Shr a b (omega (arith, l)) h j
by_linked d k bits_and bits joined a b l h j = by_balanced_chain d k bits joined BitAnd a b (omega (arith, l)) h j
by_linked d k bits_or bits joined a b l h j = by_balanced_chain d k bits joined BitOr a b (omega (arith, l)) h j
by_linked d k bits_xor bits joined a b l h j = by_balanced_chain d k bits joined BitXor a b (omega (arith, l)) h j
by_linked d k mod_plus bits joined a b l h j = by_cut_off (d + 3) k bits _ (omega (arith, l)) (by_balanced_two d (d + 3) bits Add a b (omega arith) h j)
by_linked d k mod_minus bits joined a b l h j = by_cut_off (d + 3) k bits _ (omega (arith, l)) (by_balanced_two d (d + 3) bits Sub a b (omega arith) h j)
by_linked d k mod_times bits joined a b l h j =
    by_cut_off (d + 3) k bits _ (omega (arith, l)) (by_two (d + 2) (d + 3) Mul (factor bits a b) b.code (omega arith) (by_factor d (d + 2) bits a b (omega arith) h) (by_more d (d + 2) b.code (omega arith) j))
by_linked d k mod_shift_left bits joined a b l h j = by_cut_off (d + 3) k bits _ (omega (arith, l)) (by_firm_two d (d + 3) bits Shl a b (omega arith) h j)
by_linked d k sat_plus bits joined a b l h j =
    by_saturated (d + 2) k true bits (taken bits a.code) (taken bits b.code) (omega (arith, l)) (by_taken d (d + 2) bits a.code (omega arith) h) (by_taken d (d + 2) bits b.code (omega arith) j)
by_linked d k sat_minus bits joined a b l h j =
    by_saturated (d + 2) k false bits (taken bits a.code) (taken bits b.code) (omega (arith, l)) (by_taken d (d + 2) bits a.code (omega arith) h) (by_taken d (d + 2) bits b.code (omega arith) j)

-- The C operator of one that repeats, and what such a link is.
goes_plus : (own : Arith) (bits : ℕ) (joined : Bool) (a b : Rated) → same_arith plus own ≡ true → Operates Add (linked own bits joined a b)
goes_plus plus bits joined a b e = chained_operates joined Add (balanced bits a b) b.code
goes_plus minus bits joined a b e = absurd (cc e)
goes_plus times bits joined a b e = absurd (cc e)
goes_plus divided bits joined a b e = absurd (cc e)
goes_plus remainder bits joined a b e = absurd (cc e)
goes_plus shift_left bits joined a b e = absurd (cc e)
goes_plus shift_right bits joined a b e = absurd (cc e)
goes_plus bits_and bits joined a b e = absurd (cc e)
goes_plus bits_or bits joined a b e = absurd (cc e)
goes_plus bits_xor bits joined a b e = absurd (cc e)
goes_plus mod_plus bits joined a b e = absurd (cc e)
goes_plus mod_minus bits joined a b e = absurd (cc e)
goes_plus mod_times bits joined a b e = absurd (cc e)
goes_plus mod_shift_left bits joined a b e = absurd (cc e)
goes_plus sat_plus bits joined a b e = absurd (cc e)
goes_plus sat_minus bits joined a b e = absurd (cc e)

goes_times : (own : Arith) (bits : ℕ) (joined : Bool) (a b : Rated) → same_arith times own ≡ true → Operates Mul (linked own bits joined a b)
goes_times plus bits joined a b e = absurd (cc e)
goes_times minus bits joined a b e = absurd (cc e)
goes_times times bits joined a b e = chained_operates joined Mul (balanced bits a b) b.code
goes_times divided bits joined a b e = absurd (cc e)
goes_times remainder bits joined a b e = absurd (cc e)
goes_times shift_left bits joined a b e = absurd (cc e)
goes_times shift_right bits joined a b e = absurd (cc e)
goes_times bits_and bits joined a b e = absurd (cc e)
goes_times bits_or bits joined a b e = absurd (cc e)
goes_times bits_xor bits joined a b e = absurd (cc e)
goes_times mod_plus bits joined a b e = absurd (cc e)
goes_times mod_minus bits joined a b e = absurd (cc e)
goes_times mod_times bits joined a b e = absurd (cc e)
goes_times mod_shift_left bits joined a b e = absurd (cc e)
goes_times sat_plus bits joined a b e = absurd (cc e)
goes_times sat_minus bits joined a b e = absurd (cc e)

goes_bits_and : (own : Arith) (bits : ℕ) (joined : Bool) (a b : Rated) → same_arith bits_and own ≡ true → Operates BitAnd (linked own bits joined a b)
goes_bits_and plus bits joined a b e = absurd (cc e)
goes_bits_and minus bits joined a b e = absurd (cc e)
goes_bits_and times bits joined a b e = absurd (cc e)
goes_bits_and divided bits joined a b e = absurd (cc e)
goes_bits_and remainder bits joined a b e = absurd (cc e)
goes_bits_and shift_left bits joined a b e = absurd (cc e)
goes_bits_and shift_right bits joined a b e = absurd (cc e)
goes_bits_and bits_and bits joined a b e = chained_operates joined BitAnd (balanced bits a b) b.code
goes_bits_and bits_or bits joined a b e = absurd (cc e)
goes_bits_and bits_xor bits joined a b e = absurd (cc e)
goes_bits_and mod_plus bits joined a b e = absurd (cc e)
goes_bits_and mod_minus bits joined a b e = absurd (cc e)
goes_bits_and mod_times bits joined a b e = absurd (cc e)
goes_bits_and mod_shift_left bits joined a b e = absurd (cc e)
goes_bits_and sat_plus bits joined a b e = absurd (cc e)
goes_bits_and sat_minus bits joined a b e = absurd (cc e)

goes_bits_or : (own : Arith) (bits : ℕ) (joined : Bool) (a b : Rated) → same_arith bits_or own ≡ true → Operates BitOr (linked own bits joined a b)
goes_bits_or plus bits joined a b e = absurd (cc e)
goes_bits_or minus bits joined a b e = absurd (cc e)
goes_bits_or times bits joined a b e = absurd (cc e)
goes_bits_or divided bits joined a b e = absurd (cc e)
goes_bits_or remainder bits joined a b e = absurd (cc e)
goes_bits_or shift_left bits joined a b e = absurd (cc e)
goes_bits_or shift_right bits joined a b e = absurd (cc e)
goes_bits_or bits_and bits joined a b e = absurd (cc e)
goes_bits_or bits_or bits joined a b e = chained_operates joined BitOr (balanced bits a b) b.code
goes_bits_or bits_xor bits joined a b e = absurd (cc e)
goes_bits_or mod_plus bits joined a b e = absurd (cc e)
goes_bits_or mod_minus bits joined a b e = absurd (cc e)
goes_bits_or mod_times bits joined a b e = absurd (cc e)
goes_bits_or mod_shift_left bits joined a b e = absurd (cc e)
goes_bits_or sat_plus bits joined a b e = absurd (cc e)
goes_bits_or sat_minus bits joined a b e = absurd (cc e)

goes_bits_xor : (own : Arith) (bits : ℕ) (joined : Bool) (a b : Rated) → same_arith bits_xor own ≡ true → Operates BitXor (linked own bits joined a b)
goes_bits_xor plus bits joined a b e = absurd (cc e)
goes_bits_xor minus bits joined a b e = absurd (cc e)
goes_bits_xor times bits joined a b e = absurd (cc e)
goes_bits_xor divided bits joined a b e = absurd (cc e)
goes_bits_xor remainder bits joined a b e = absurd (cc e)
goes_bits_xor shift_left bits joined a b e = absurd (cc e)
goes_bits_xor shift_right bits joined a b e = absurd (cc e)
goes_bits_xor bits_and bits joined a b e = absurd (cc e)
goes_bits_xor bits_or bits joined a b e = absurd (cc e)
goes_bits_xor bits_xor bits joined a b e = chained_operates joined BitXor (balanced bits a b) b.code
goes_bits_xor mod_plus bits joined a b e = absurd (cc e)
goes_bits_xor mod_minus bits joined a b e = absurd (cc e)
goes_bits_xor mod_times bits joined a b e = absurd (cc e)
goes_bits_xor mod_shift_left bits joined a b e = absurd (cc e)
goes_bits_xor sat_plus bits joined a b e = absurd (cc e)
goes_bits_xor sat_minus bits joined a b e = absurd (cc e)

linked_operates : (op own : Arith) (bits : ℕ) (joined : Bool) (a b : Rated) → repeats op ≡ true → same_arith op own ≡ true → Operates (op_of op) (linked own bits joined a b)
linked_operates plus own bits joined a b r e = goes_plus own bits joined a b e
linked_operates minus own bits joined a b r e = absurd (cc r)
linked_operates times own bits joined a b r e = goes_times own bits joined a b e
linked_operates divided own bits joined a b r e = absurd (cc r)
linked_operates remainder own bits joined a b r e = absurd (cc r)
linked_operates shift_left own bits joined a b r e = absurd (cc r)
linked_operates shift_right own bits joined a b r e = absurd (cc r)
linked_operates bits_and own bits joined a b r e = goes_bits_and own bits joined a b e
linked_operates bits_or own bits joined a b r e = goes_bits_or own bits joined a b e
linked_operates bits_xor own bits joined a b r e = goes_bits_xor own bits joined a b e
linked_operates mod_plus own bits joined a b r e = absurd (cc r)
linked_operates mod_minus own bits joined a b r e = absurd (cc r)
linked_operates mod_times own bits joined a b r e = absurd (cc r)
linked_operates mod_shift_left own bits joined a b r e = absurd (cc r)
linked_operates sat_plus own bits joined a b r e = absurd (cc r)
linked_operates sat_minus own bits joined a b r e = absurd (cc r)

balanced_same : (bits : ℕ) (a b : Rated) → nat_eq (rank a.ty) (rank (calculated bits)) ≡ true → balanced bits a b ≡ a.code
balanced_same bits a b e = by (nat_eq (rank b.ty) (rank (calculated bits)))
  where
    by : (t : Bool) → (if t then a.code else firm bits a) ≡ a.code
    by true = refl
    by false = rw e refl

chain_by : (d k : ℕ) (op : COp) (bits : ℕ) (a b : Rated) → d + 1 ≤ k → Operates op a.code → nat_eq (rank a.ty) (rank (calculated bits)) ≡ true → ExprBy k a.code → ExprBy d b.code
    → ExprBy k (chained true op (balanced bits a b) b.code)
chain_by d k op bits a b l o e h j =
    let P : ExprTree → Type 0 = λ x. ExprBy k (chained true op x b.code) in
    subst P (sym (balanced_same bits a b e)) (by_going d k op a.code b.code l o h j)

going_by : (d k : ℕ) (op : Arith) (bits : ℕ) (a b : Rated) → d + 1 ≤ k → repeats op ≡ true → Operates (op_of op) a.code → nat_eq (rank a.ty) (rank (calculated bits)) ≡ true → ExprBy k a.code → ExprBy d b.code
    → ExprBy k (linked op bits true a b)
going_by d k plus bits a b l r o e h j = chain_by d k Add bits a b l o e h j
going_by d k minus bits a b l r o e h j = absurd (cc r)
going_by d k times bits a b l r o e h j = chain_by d k Mul bits a b l o e h j
going_by d k divided bits a b l r o e h j = absurd (cc r)
going_by d k remainder bits a b l r o e h j = absurd (cc r)
going_by d k shift_left bits a b l r o e h j = absurd (cc r)
going_by d k shift_right bits a b l r o e h j = absurd (cc r)
going_by d k bits_and bits a b l r o e h j = chain_by d k BitAnd bits a b l o e h j
going_by d k bits_or bits a b l r o e h j = chain_by d k BitOr bits a b l o e h j
going_by d k bits_xor bits a b l r o e h j = chain_by d k BitXor bits a b l o e h j
going_by d k mod_plus bits a b l r o e h j = absurd (cc r)
going_by d k mod_minus bits a b l r o e h j = absurd (cc r)
going_by d k mod_times bits a b l r o e h j = absurd (cc r)
going_by d k mod_shift_left bits a b l r o e h j = absurd (cc r)
going_by d k sat_plus bits a b l r o e h j = absurd (cc r)
going_by d k sat_minus bits a b l r o e h j = absurd (cc r)

-- ---- numbers and slices

by_rated_if : (k : ℕ) (b : Bool) (x y : Rated) → ExprBy k x.code → ExprBy k y.code → ExprBy k (if b then x else y).code
by_rated_if k true x y h j = h
by_rated_if k false x y h j = j

pub by_converted : (d k bits : ℕ) (a : Rated) → d + 1 ≤ k → 2 ≤ k → ExprBy d a.code → ExprBy k (converted bits a).code
by_converted d k bits a l m h =
    by_rated_if k (nat_lt (rank (calculated bits)) (rank a.ty)) (rated (cast (uint_of bits) a.code) (calculated bits)) a (by_cast d k (uint_of bits) a.code l m h) (by_more d k a.code (omega (arith, l)) h)

pub by_widened : (d k bits : ℕ) (a : Rated) → d + 1 ≤ k → 2 ≤ k → ExprBy d a.code → ExprBy k (widened bits a).code
by_widened d k bits a l m h =
    by_rated_if k (nat_eq (rank a.ty) 0 && not (is_held a.code)) (rated (cast (uint_of bits) a.code) (calculated bits)) a (by_cast d k (uint_of bits) a.code l m h) (by_more d k a.code (omega (arith, l)) h)

abbrev EndBy : ℕ → Option Rated → Type 0
EndBy k None = Unit {0}
EndBy k (Some a) = ExprBy k a.code

by_moved : (d k : ℕ) (never_null : Bool) (p f : ExprTree) → d + 2 ≤ k → ExprBy d p → ExprBy d f → ExprBy k (moved never_null p f)
by_moved d k true p f l h j = by_two d k Add p f (omega (arith, l)) h j
by_moved d k false p f l h j =
    let more : ExprBy (d + 1) p = by_more d (d + 1) p (omega arith) h in
    by_choice (d + 1) k p (two Add p f) p (omega (arith, l)) more (by_two d (d + 1) Add p f (omega arith) h j) more

by_part_pointer : (d k : ℕ) (never_null : Bool) (p : ExprTree) (from : Option Rated) → d + 2 ≤ k → ExprBy d p → EndBy d from → ExprBy k (part_pointer never_null p from)
by_part_pointer d k never_null p None l h j = by_more d k p (omega (arith, l)) h
by_part_pointer d k never_null p (Some f) l h j = by_moved d k never_null p f.code l h j

by_part_length : (d k : ℕ) (whole : Rated) (from to : Option Rated) → d + 1 ≤ k → ExprBy d whole.code → EndBy d from → EndBy d to → ExprBy k (part_length whole from to).code
by_part_length d k whole None None l h j i = by_more d k whole.code (omega (arith, l)) h
by_part_length d k whole None (Some t) l h j i = by_more d k t.code (omega (arith, l)) i
by_part_length d k whole (Some f) None l h j i = by_two d k Sub whole.code f.code l h j
by_part_length d k whole (Some f) (Some t) l h j i = by_two d k Sub t.code f.code l i j

abbrev pub PairBy : ℕ → Pair → Type 0
PairBy k it = ExprBy k it.pointer × ExprBy k it.length.code

pub at_least_one : (d : ℕ) → nat_le 1 d ≡ true → 1 ≤ d
at_least_one d h = grind (arith, nat_tests, h)

module _ (names : Names) where
  pub by_path : (k : ℕ) (path : Path) → ExprBy k (path_code names path)
  by_path k (local n) = record { by = λ m o. tt }
  by_path k (arg n) = record { by = λ m o. tt }
  by_path k (field n) = record { by = λ m o. tt }

  by_path_pair : (k : ℕ) (path : Path) → PairBy k (path_pair names path)
  by_path_pair k (local n) = (record { by = λ m o. tt }, record { by = λ m o. tt })
  by_path_pair k (arg n) = (record { by = λ m o. tt }, record { by = λ m o. tt })
  by_path_pair k (field n) = (record { by = λ m o. tt }, record { by = λ m o. tt })

  -- A byte but so many, raised or not.
  pub by_byte : (a j : ℕ) → ExprBy 2 (peeked names a j)
  by_byte a j =
      by_element 1 2 (bytes_code names a) _ (omega arith) (record { by = λ m o. tt })
      (by_if 1 (nat_eq j 0) (place_code names a) (two Add (place_code names a) (num j)) (record { by = λ m o. tt }) (by_two 0 1 Add _ _ (omega arith) (record { by = λ m o. tt }) (record { by = λ m o. tt })))

  by_raised : (bits j : ℕ) (e : ExprTree) → ExprBy 2 e → ExprBy 4 (raised bits j e)
  by_raised bits j e h =
      by_two 3 4 Shl _ (num (8 * j)) (omega arith) (by_if 3 (nat_le bits 16) e (cast (uint_of bits) e) (by_more 2 3 e (omega arith) h) (by_cast 2 3 (uint_of bits) e (omega arith) (omega arith) h)) (by_num 3 (8 * j))

  by_byte_ahead : (a bits : ℕ) (big : Bool) (k : ℕ) → ExprBy 4 (byte_ahead names a bits big k)
  by_byte_ahead a bits big k = by_raised bits k _ (by_byte a (byte_at bits big k))

  by_bytes_ahead : (a bits : ℕ) (big : Bool) (k so_many n : ℕ) → n + 4 ≤ 512 → OperandsOpen n (bytes_ahead names a bits big k so_many)
  by_bytes_ahead a bits big k zero n m = tt
  by_bytes_ahead a bits big k (suc so_many) n m = ((by_byte_ahead a bits big k).by n m, by_bytes_ahead a bits big (suc k) so_many n m)

  pub by_number_ahead : (a bits : ℕ) (big : Bool) → ExprBy 5 (number_ahead names a bits big)
  by_number_ahead a bits big = record {
    by = λ n m. (
      omega (arith, m),
      (
        (by_byte a (byte_at bits big 0)).by (n + 1) (omega (arith, m)),
        ((by_byte_ahead a bits big 1).by (n + 1) (omega (arith, m)), by_bytes_ahead a bits big 2 (bits / 8 - 2) (n + 1) (omega (arith, m))),
      ),
    );
  }

  by_peek : (a : ℕ) (form : PeekForm) → ExprBy 5 (peek_code names a form).code
  by_peek a PeekU8 = by_more 2 5 _ (omega arith) (by_byte a 0)
  by_peek a PeekU16Le = by_number_ahead a 16 false
  by_peek a PeekU32Le = by_number_ahead a 32 false

  by_asked : (a : ℕ) (question : Question) → ExprBy 5 (asked_code names a question).code
  by_asked a reader_length = by_two 0 5 Sub _ _ (omega arith) (record { by = λ m o. tt }) (record { by = λ m o. tt })
  by_asked a writer_length = by_two 0 5 Sub _ _ (omega arith) (record { by = λ m o. tt }) (record { by = λ m o. tt })
  by_asked a reader_position = by_saturated 0 5 true 64 _ _ (omega arith) (record { by = λ m o. tt }) (record { by = λ m o. tt })
  by_asked a writer_position = by_saturated 0 5 true 64 _ _ (omega arith) (record { by = λ m o. tt }) (record { by = λ m o. tt })
  by_asked a (peek form) = by_peek a form

  record Going (op : Arith) (bits : ℕ) (a : NumTree) : Type 0 where
    repeating : repeats op ≡ true
    operates : Operates (op_of op) (lowered names a).code
    typed : nat_eq (rank (lowered names a).ty) (rank (calculated bits)) ≡ true

  going_link : (op : Arith) (bits : ℕ) (at sign : Place) (own : Arith) (own_bits : ℕ) (joined : Bool) (a b : NumTree) → goes_on op bits (link at sign own own_bits joined a b) ≡ true → Going op bits (link at sign own own_bits joined a b)
  going_link op bits at sign own own_bits joined a b h =
      let p = both_true (repeats op) (same_arith op own && nat_eq bits own_bits) h in
      let q = both_true (same_arith op own) (nat_eq bits own_bits) p.1 in
      let same : bits ≡ own_bits = grind (arith, nat_tests, q.1) in
      let P : ℕ → Type 0 = λ x. nat_eq (rank (calculated own_bits)) (rank (calculated x)) ≡ true in
      record {
        repeating = p.0;
        operates = linked_operates op own own_bits joined (lowered names a) (lowered names b) p.0 q.0;
        typed = subst P (sym same) (same_number (rank (calculated own_bits)));
      }

  going : (op : Arith) (bits : ℕ) (a : NumTree) → goes_on op bits a ≡ true → Going op bits a
  going op bits (number at n) h = absurd (cc h)
  going op bits (read at of path) h = absurd (cc h)
  going op bits (element at of cells index) h = absurd (cc h)
  going op bits (convert at sign own a) h = absurd (cc h)
  going op bits (length_of at cells) h = absurd (cc h)
  going op bits (asked at question a) h = absurd (cc h)
  going op bits (link at sign own own_bits joined a b) h = going_link op bits at sign own own_bits joined a b h

  link_by : (d : ℕ) (op : Arith) (bits : ℕ) (joined : Bool) (a b : NumTree) (g : Bool) → 1 ≤ d → (joined && goes_on op bits a) ≡ g → ExprBy (5 * (if g then d else d - 1) + 5) (lowered names a).code → ExprBy (5 * (d - 1) + 5) (lowered names b).code
      → ExprBy (5 * d + 5) (linked op bits joined (lowered names a) (lowered names b))
  link_by d op bits joined a b false l e h j = by_linked (5 * (d - 1) + 5) (5 * d + 5) op bits joined (lowered names a) (lowered names b) (omega (arith, l)) h j
  link_by d op bits true a b true l e h j =
      let it = going op bits a e in
      going_by (5 * (d - 1) + 5) (5 * d + 5) op bits (lowered names a) (lowered names b) (omega (arith, l)) it.repeating it.operates it.typed h j
  link_by d op bits false a b true l e h j = absurd (cc e)

  mutual
    pub num_by : (d : ℕ) (t : NumTree) → num_within d t ≡ true → ExprBy (5 * d + 5) (lowered names t).code
    num_by d (number at n) h = by_num (5 * d + 5) n
    num_by d (read at of path) h = by_path (5 * d + 5) path
    num_by d (element at of cells index) h =
        let p = both_true (nat_le 1 d) (slice_within (d - 1) cells && num_within (d - 1) index) h in
        let q = both_true (slice_within (d - 1) cells) (num_within (d - 1) index) p.1 in
        let l = at_least_one d p.0 in
        by_element (5 * (d - 1) + 5) (5 * d + 5) _ _ (omega (arith, l)) (by_more (5 * (d - 1) + 5) (5 * d + 5) _ (omega (arith, l)) (slice_by (d - 1) cells q.0).0) (num_by (d - 1) index q.1)
    num_by d (link at sign op bits joined a b) h =
        let p = both_true (nat_le 1 d) (num_within (if joined && goes_on op bits a then d else d - 1) a && num_within (d - 1) b) h in
        let q = both_true (num_within (if joined && goes_on op bits a then d else d - 1) a) (num_within (d - 1) b) p.1 in
        link_by d op bits joined a b (joined && goes_on op bits a) (at_least_one d p.0) refl (num_by (if joined && goes_on op bits a then d else d - 1) a q.0) (num_by (d - 1) b q.1)
    num_by d (convert at sign bits a) h =
        let p = both_true (nat_le 1 d) (num_within (d - 1) a) h in
        let l = at_least_one d p.0 in
        by_converted (5 * (d - 1) + 5) (5 * d + 5) bits (lowered names a) (omega (arith, l)) (omega arith) (num_by (d - 1) a p.1)
    num_by d (length_of at cells) h = (slice_by d cells h).1
    num_by d (asked at question a) h = by_more 5 (5 * d + 5) _ (omega arith) (by_asked a question)

    pub slice_by : (d : ℕ) (t : SliceTree) → slice_within d t ≡ true → PairBy (5 * d + 5) (lowered_slice names t)
    slice_by d (slice at bits path) h = by_path_pair (5 * d + 5) path
    slice_by d (array at of count path) h = (by_path (5 * d + 5) path, by_num (5 * d + 5) count)
    slice_by d (cut at cells from to) h =
        let p = both_true (nat_le 1 d) (slice_within (d - 1) cells && (end_within (d - 1) from && end_within (d - 1) to)) h in
        let q = both_true (slice_within (d - 1) cells) (end_within (d - 1) from && end_within (d - 1) to) p.1 in
        let r = both_true (end_within (d - 1) from) (end_within (d - 1) to) q.1 in
        let l = at_least_one d p.0 in
        let it = slice_by (d - 1) cells q.0 in
        let f = end_by (d - 1) from r.0 in
        let t = end_by (d - 1) to r.1 in (
          by_part_pointer (5 * (d - 1) + 5) (5 * d + 5) (is_array cells) _ (lowered_end names from) (omega (arith, l)) it.0 f,
          by_part_length (5 * (d - 1) + 5) (5 * d + 5) _ (lowered_end names from) (lowered_end names to) (omega (arith, l)) it.1 f t,
        )

    end_by : (d : ℕ) (e : EndTree) → end_within d e ≡ true → EndBy (5 * d + 5) (lowered_end names e)
    end_by d absent h = tt
    end_by d (present e) h = num_by d e h

  -- Two numbers that are compared as one open one bracket more at most.
  by_with_zero : (d k bits : ℕ) (a : Rated) → d + 3 ≤ k → ExprBy d a.code → ExprBy k (with_zero bits a).code
  by_with_zero d k bits a l h = by_balanced_chain d k bits false Add a (rated (num 0) Int) l h (by_num d 0)

  by_xor_operand : (d k bits : ℕ) (t : NumTree) (a : Rated) (other : NumTree) → d + 3 ≤ k → ExprBy d a.code → ExprBy k (xor_operand bits t a other).code
  by_xor_operand d k bits t a other l h = by_rated_if k (is_short_ones bits other && is_converted t) (with_zero bits a) a (by_with_zero d k bits a l h) (by_more d k a.code (omega (arith, l)) h)

  by_pair : (d k : ℕ) (op : Arith) (bits : ℕ) (a b : NumTree) → d + 6 ≤ k → ExprBy d (lowered names a).code → ExprBy d (lowered names b).code → ExprBy k (pair_compared names op bits a b).code
  by_pair d k bits_xor bits a b l h j =
      let left = apart minus bits (lowered names b) (lowered names a) in
      let right = apart minus bits (lowered names a) (lowered names b) in
      let one = xor_operand bits a (lowered names a) b in
      let other = xor_operand bits b (lowered names b) a in
      by_rated_if k (is_ones bits b) left (if is_ones bits a then right else apart bits_xor bits one other)
      (by_balanced_two d k bits Sub (lowered names b) (lowered names a) (omega (arith, l)) j h)
      (by_rated_if k (is_ones bits a) right (apart bits_xor bits one other)
      (by_balanced_two d k bits Sub (lowered names a) (lowered names b) (omega (arith, l)) h j)
      (by_balanced_chain (d + 3) k bits false BitXor one other (omega (arith, l)) (by_xor_operand d (d + 3) bits a (lowered names a) b (omega arith) h) (by_xor_operand d (d + 3) bits b (lowered names b) a (omega arith) j)))
  by_pair d k mod_minus bits a b l h j =
      let right = apart minus bits (lowered names a) (lowered names b) in
      by_rated_if k (is_ones bits a) right (apart mod_minus bits (lowered names a) (lowered names b)) (by_balanced_two d k bits Sub (lowered names a) (lowered names b) (omega (arith, l)) h j)
      (by_linked d k mod_minus bits false (lowered names a) (lowered names b) (omega (arith, l)) h j)
  by_pair d k op bits a b l h j = by_linked d k op bits false (lowered names a) (lowered names b) (omega (arith, l)) h j

  pub comparand_by : (d : ℕ) (t : NumTree) → num_within d t ≡ true → ExprBy (5 * d + 6) (comparand names t).code
  comparand_by d (number at n) h = by_more (5 * d + 5) (5 * d + 6) _ (omega arith) (num_by d (number at n) h)
  comparand_by d (read at of path) h = by_more (5 * d + 5) (5 * d + 6) _ (omega arith) (num_by d (read at of path) h)
  comparand_by d (element at of cells index) h = by_more (5 * d + 5) (5 * d + 6) _ (omega arith) (num_by d (element at of cells index) h)
  comparand_by d (link at sign op bits true a b) h = by_more (5 * d + 5) (5 * d + 6) _ (omega arith) (num_by d (link at sign op bits true a b) h)
  comparand_by d (link at sign op bits false a b) h =
      let p = both_true (nat_le 1 d) (num_within (d - 1) a && num_within (d - 1) b) h in
      let q = both_true (num_within (d - 1) a) (num_within (d - 1) b) p.1 in
      by_pair (5 * (d - 1) + 5) (5 * d + 6) op bits a b (omega (arith, at_least_one d p.0)) (num_by (d - 1) a q.0) (num_by (d - 1) b q.1)
  comparand_by d (convert at sign bits a) h =
      by_more (5 * (d - 1) + 6) (5 * d + 6) _ (omega arith) (comparand_by (d - 1) a (both_true (nat_le 1 d) (num_within (d - 1) a) h).1)
  comparand_by d (length_of at cells) h = by_more (5 * d + 5) (5 * d + 6) _ (omega arith) (num_by d (length_of at cells) h)
  comparand_by d (asked at question a) h = by_more (5 * d + 5) (5 * d + 6) _ (omega arith) (num_by d (asked at question a) h)

  by_beside : (d k : ℕ) (a : Rated) (ty : CTy) → d + 2 ≤ k → ExprBy d a.code → ExprBy k (beside a ty).code
  by_beside d k a ty l h = by_rated_if k (nat_lt (rank a.ty) (rank ty)) (widened (c_width ty) a) a (by_widened d k (c_width ty) a (omega (arith, l)) (omega (arith, l)) h) (by_more d k a.code (omega (arith, l)) h)

  by_unmoved : (d k : ℕ) (sign : COp) (e : ExprTree) (ty : CTy) → d + 1 ≤ k → ExprBy d e → ExprBy k (unmoved sign e ty).code
  by_unmoved d k sign e ty l h = by_two d k sign e (num 0) l h (by_num d 0)

  by_unmoved_in : (d k : ℕ) (sign : COp) (a : Rated) (ty : CTy) → 1 ≤ d → d + 2 ≤ k → ExprBy d a.code → ExprBy k (unmoved_in sign a ty).code
  by_unmoved_in d k sign a ty m l h =
      let it : ExprTree = cast (uint_of (c_width ty)) a.code in
      by_rated_if k (nat_lt (rank a.ty) (rank ty)) (unmoved sign it (calculated (c_width ty))) (unmoved sign a.code a.ty)
      (by_unmoved (d + 1) k sign it (calculated (c_width ty)) (omega (arith, l)) (by_cast d (d + 1) (uint_of (c_width ty)) a.code (omega arith) (omega (arith, m)) h))
      (by_unmoved d k sign a.code a.ty (omega (arith, l)) h)

  by_compared_with : (d k : ℕ) (sign : COp) (a b : Rated) → 1 ≤ d → d + 2 ≤ k → ExprBy d a.code → ExprBy k (compared_with sign a b).code
  by_compared_with d k sign a b m l h = by_rated_if k (is_decided a b) (unmoved_in sign a b.ty) (beside a b.ty) (by_unmoved_in d k sign a b.ty m l h) (by_beside d k a b.ty l h)

  by_left_compared : (d k : ℕ) (a b : Rated) → 1 ≤ d → d + 2 ≤ k → ExprBy d a.code → ExprBy k (left_compared a b).code
  by_left_compared d k a b m l h =
      by_rated_if k (is_itself a.code b.code) (unmoved_in Add a b.ty) (compared_with Add a b) (by_unmoved_in d k Add a b.ty m l h) (by_compared_with d k Add a b m l h)

  by_settled : (k : ℕ) (o : Option Bool) (e : ExprTree) → ExprBy k e → ExprBy k (settled_or o e)
  by_settled k None e h = h
  by_settled k (Some met) e h = by_num k (if met then 1 else 0)

  bare_by : (d : ℕ) (t : NumTree) → num_within d t ≡ true → ExprBy (5 * d + 5) (lowered names (bare t)).code
  bare_by d (number at n) h = num_by d (number at n) h
  bare_by d (read at of path) h = num_by d (read at of path) h
  bare_by d (element at of cells index) h = num_by d (element at of cells index) h
  bare_by d (link at sign op bits joined a b) h = num_by d (link at sign op bits joined a b) h
  bare_by d (convert at sign bits a) h = by_more (5 * (d - 1) + 5) (5 * d + 5) _ (omega arith) (bare_by (d - 1) a (both_true (nat_le 1 d) (num_within (d - 1) a) h).1)
  bare_by d (length_of at cells) h = num_by d (length_of at cells) h
  bare_by d (asked at question a) h = num_by d (asked at question a) h

  -- What is given opens two more at most.
  plain_by : (d : ℕ) (e : ExprTree) → ExprBy (5 * d + 5) e → ExprBy (5 * d + 7) e
  plain_by d e h = by_more (5 * d + 5) (5 * d + 7) e (omega arith) h

  pub given_by : (d : ℕ) (t : NumTree) → num_within d t ≡ true → ExprBy (5 * d + 7) (given names t)
  given_by d (number at n) h = plain_by d _ (num_by d (number at n) h)
  given_by d (read at of path) h = plain_by d _ (num_by d (read at of path) h)
  given_by d (element at of cells index) h = plain_by d _ (num_by d (element at of cells index) h)
  given_by d (link at sign op bits joined a b) h = by_taken (5 * d + 5) (5 * d + 7) bits _ (omega arith) (num_by d (link at sign op bits joined a b) h)
  given_by d (convert at sign bits a) h = by_taken (5 * (d - 1) + 5) (5 * d + 7) bits _ (omega arith) (bare_by (d - 1) a (both_true (nat_le 1 d) (num_within (d - 1) a) h).1)
  given_by d (length_of at cells) h = plain_by d _ (num_by d (length_of at cells) h)
  given_by d (asked at question a) h = plain_by d _ (num_by d (asked at question a) h)

  -- ---- conditions

  pub by_constant : (k n : ℕ) → ExprBy k (status_constant n)
  by_constant k n = by_if k (nat_eq n 0) (num 0) _ (by_num k 0) (record { by = λ m o. tt })

  pub by_status : (k : ℕ) (t : StatusTree) → ExprBy k (lowered_status names t)
  by_status k (status at n) = by_constant k n
  by_status k (held at path) = by_path k path
  by_status k no_status = by_num k 0

  by_same_code : (d k : ℕ) (a b : ExprTree) (fixed : Bool) → d + 2 ≤ k → ExprBy d a → ExprBy d b → ExprBy k (same_code a b fixed)
  by_same_code d k a b fixed l h j =
      by_if k fixed (two Eq b a) _ (by_two d k Eq b a (omega (arith, l)) j h)
      (by_if k (is_held a) (unary Not (two Ne a b)) (two Eq a b) (by_unary (d + 1) k Not (two Ne a b) (omega (arith, l)) (by_two d (d + 1) Ne a b (omega arith) h j)) (by_two d k Eq a b (omega (arith, l)) h j))

  by_compared : (d k : ℕ) (op : Order) (a b : ExprTree) → d + 2 ≤ k → ExprBy d a → ExprBy d b → ExprBy k (compared op a b)
  by_compared d k equal a b l h j = by_if k (is_literal a) (two Eq a b) _ (by_two d k Eq a b (omega (arith, l)) h j) (by_same_code d k a b (is_literal b) l h j)
  by_compared d k less a b l h j = by_two d k Lt a b (omega (arith, l)) h j
  by_compared d k at_most a b l h j = by_two d k Le a b (omega (arith, l)) h j
  by_compared d k differs a b l h j = by_two d k Ne a b (omega (arith, l)) h j
  by_compared d k at_least a b l h j = by_two d k Ge a b (omega (arith, l)) h j
  by_compared d k greater a b l h j = by_two d k Gt a b (omega (arith, l)) h j

  by_held : (k : ℕ) (one : Bool) (a b : StatusTree) → 2 ≤ k → ExprBy k (held_compared one names a b)
  by_held k true a b l =
      by_if k (is_constant a) (two Eq (lowered_status names a) (lowered_status names b)) _ (by_two 0 k Eq _ _ (omega (arith, l)) (by_status 0 a) (by_status 0 b))
      (by_same_code 0 k (lowered_status names a) (lowered_status names b) (is_constant b) (omega (arith, l)) (by_status 0 a) (by_status 0 b))
  by_held k false a b l = by_two 0 k Ne _ _ (omega (arith, l)) (by_status 0 a) (by_status 0 b)

  by_statuses : (k : ℕ) (one : Bool) (a b : StatusTree) → 2 ≤ k → ExprBy k (statuses_compared one names a b)
  by_statuses k one a b l =
      by_if k (is_constant a && is_constant b) (constants_compared one (constant_number a) (constant_number b)) (variables_compared one names a b)
      (by_num k (if same_truth one (nat_eq (constant_number a) (constant_number b)) then 1 else 0))
      (by_if k (same_state a b) (num (if one then 1 else 0)) (held_compared one names a b) (by_num k (if one then 1 else 0)) (by_held k one a b l))

  begins_two : (d k byte : ℕ) (e : ExprTree) → d + 3 ≤ k → ExprBy d e → ExprBy k (two Both e (two Eq (num byte) (c.element e (num 0))))
  begins_two d k byte e l h =
      by_two (d + 2) k Both e _ (omega (arith, l)) (by_more d (d + 2) e (omega arith) h)
      (by_two (d + 1) (d + 2) Eq (num byte) _ (omega arith) (by_num (d + 1) byte) (by_element d (d + 1) e (num 0) (omega arith) (by_more d (d + 1) e (omega arith) h) (by_num d 0)))

  pub by_begins : (d k byte : ℕ) (e : ExprTree) → d + 3 ≤ k → ExprBy d e → ExprBy k (begins_with byte e)
  by_begins d k byte (c.number v) l h = by_num k 0
  by_begins d k byte (variable name) l h = begins_two d k byte _ l h
  by_begins d k byte (member p x) l h = begins_two d k byte _ l h
  by_begins d k byte (c.element p i) l h = begins_two d k byte _ l h
  by_begins d k byte (c.pointed p) l h = begins_two d k byte _ l h
  by_begins d k byte (operation op a b es) l h = begins_two d k byte _ l h
  by_begins d k byte (unary o a) l h = begins_two d k byte _ l h
  by_begins d k byte (cast t a) l h = begins_two d k byte _ l h
  by_begins d k byte (choice a b x) l h = begins_two d k byte _ l h
  by_begins d k byte (called name es) l h = begins_two d k byte _ l h

  by_category : (k : ℕ) (category : Category) (e : ExprTree) → 3 ≤ k → ExprBy 0 e → ExprBy k (category_code category e)
  by_category k Fine e l h = by_two 0 k Eq (num 0) e (omega (arith, l)) (by_num 0 0) h
  by_category k Note e l h = by_begins 0 k 64 e (omega (arith, l)) h
  by_category k Suspension e l h = by_begins 0 k 36 e (omega (arith, l)) h
  by_category k Fault e l h = by_begins 0 k 35 e (omega (arith, l)) h

  cond_operates : (both : Bool) (c : CondTree) → cond_goes_on both c ≡ true → Operates (joint_of both) (lowered_cond names c)
  cond_operates true (junction at true joined a b) h = chained_operates joined Both (begun joined Both (lowered_cond names a) (lowered_cond names b)) (lowered_cond names b)
  cond_operates false (junction at false joined a b) h = chained_operates joined Either (begun joined Either (lowered_cond names a) (lowered_cond names b)) (lowered_cond names b)
  cond_operates true (junction at false joined a b) h = absurd (cc h)
  cond_operates false (junction at true joined a b) h = absurd (cc h)
  cond_operates true (truth at t) h = absurd (cc h)
  cond_operates true (flag at path) h = absurd (cc h)
  cond_operates true (compare at sign a op b) h = absurd (cc h)
  cond_operates true (same_status at sign a one b) h = absurd (cc h)
  cond_operates true (negation at a) h = absurd (cc h)
  cond_operates true (closed at a) h = absurd (cc h)
  cond_operates true (has_category at t category) h = absurd (cc h)
  cond_operates false (truth at t) h = absurd (cc h)
  cond_operates false (flag at path) h = absurd (cc h)
  cond_operates false (compare at sign a op b) h = absurd (cc h)
  cond_operates false (same_status at sign a one b) h = absurd (cc h)
  cond_operates false (negation at a) h = absurd (cc h)
  cond_operates false (closed at a) h = absurd (cc h)
  cond_operates false (has_category at t category) h = absurd (cc h)

  -- The first operand of a chain may be negated twice.
  by_begun : (d : ℕ) (joint : COp) (e f : ExprTree) → ExprBy d e → ExprBy (d + 2) (begun false joint e f)
  by_begun d joint e f h =
      by_if (d + 2) (decides joint e f) (unary Not (unary Not e)) e (by_unary (d + 1) (d + 2) Not (unary Not e) (omega arith) (by_unary d (d + 1) Not e (omega arith) h)) (by_more d (d + 2) e (omega arith) h)

  junction_by : (d : ℕ) (both joined : Bool) (a b : CondTree) (g : Bool) → 1 ≤ d → (joined && cond_goes_on both a) ≡ g → ExprBy (5 * (if g then d else d - 1) + 5) (lowered_cond names a) → ExprBy (5 * (d - 1) + 5) (lowered_cond names b)
      → ExprBy (5 * d + 5) (chained joined (joint_of both) (begun joined (joint_of both) (lowered_cond names a) (lowered_cond names b)) (lowered_cond names b))
  junction_by d both true a b false l e h j = by_chained (5 * (d - 1) + 5) (5 * d + 5) true (joint_of both) _ _ (omega (arith, l)) h j
  junction_by d both false a b false l e h j =
      by_chained (5 * (d - 1) + 7) (5 * d + 5) false (joint_of both) _ _ (omega (arith, l)) (by_more (5 * (d - 1) + 5 + 2) (5 * (d - 1) + 7) _ (omega arith) (by_begun (5 * (d - 1) + 5) (joint_of both) _ _ h))
      (by_more (5 * (d - 1) + 5) (5 * (d - 1) + 7) _ (omega arith) j)
  junction_by d both true a b true l e h j = by_going (5 * (d - 1) + 5) (5 * d + 5) (joint_of both) _ _ (omega (arith, l)) (cond_operates both a e) h j
  junction_by d both false a b true l e h j = absurd (cc e)

  pub cond_by : (d : ℕ) (t : CondTree) → cond_within d t ≡ true → ExprBy (5 * d + 5) (lowered_cond names t)
  cond_by d (truth at b) h = by_num (5 * d + 5) (if b then 1 else 0)
  cond_by d (flag at path) h = by_path (5 * d + 5) path
  cond_by d (compare at sign a op b) h =
      let p = both_true (nat_le 1 d) (num_within (d - 1) a && num_within (d - 1) b) h in
      let q = both_true (num_within (d - 1) a) (num_within (d - 1) b) p.1 in
      let l = at_least_one d p.0 in
      by_settled (5 * d + 5) (settled op (comparand names a).code (comparand names b).code) _
      (by_compared (5 * (d - 1) + 8) (5 * d + 5) op _ _ (omega (arith, l))
      (by_left_compared (5 * (d - 1) + 6) (5 * (d - 1) + 8) (comparand names a) (comparand names b) (omega arith) (omega arith) (comparand_by (d - 1) a q.0))
      (by_compared_with (5 * (d - 1) + 6) (5 * (d - 1) + 8) Sub (comparand names b) (comparand names a) (omega arith) (omega arith) (comparand_by (d - 1) b q.1)))
  cond_by d (same_status at sign a one b) h = by_statuses (5 * d + 5) one a b (omega arith)
  cond_by d (junction at both joined a b) h =
      let p = both_true (nat_le 1 d) (cond_within (if joined && cond_goes_on both a then d else d - 1) a && cond_within (d - 1) b) h in
      let q = both_true (cond_within (if joined && cond_goes_on both a then d else d - 1) a) (cond_within (d - 1) b) p.1 in
      junction_by d both joined a b (joined && cond_goes_on both a) (at_least_one d p.0) refl (cond_by (if joined && cond_goes_on both a then d else d - 1) a q.0) (cond_by (d - 1) b q.1)
  cond_by d (negation at a) h =
      let p = both_true (nat_le 1 d) (cond_within (d - 1) a) h in
      by_unary (5 * (d - 1) + 5) (5 * d + 5) Not _ (omega (arith, at_least_one d p.0)) (cond_by (d - 1) a p.1)
  cond_by d (closed at a) h = record { by = λ n m. tt }
  cond_by d (has_category at t category) h = by_category (5 * d + 5) category (lowered_status names t) (omega arith) (by_status 0 t)
