-- What an expression of the source is in C. Its value is the same wherever the source's isn't stuck. A cast stands where C
-- would calculate in another type than the source: a byte beside a word is converted by C itself. Beyond that one stands round an
-- or that may fill its width, where it is converted.
use Rattle.std.specs.Prelude.{ℕ, zero, suc, ◌-◌, ◌*◌, ◌/◌, ◌^◌, Bool, true, false, not, ◌&&◌, ◌||◌, if◌then◌else◌, nat_eq, nat_le, nat_lt, List, [], ◌∷◌, ◌++◌, Option, None, Some, bytes_eq, codes, decimal}
use Rattle.wf_text.specs.declared.categories.Category.{Category}
use Rattle.wf_text.specs.declared.categories.Category.TheVariants.{Fine, Note, Suspension, Fault}
use Rattle.wf_num.specs.declared.c_arithmetic.CTy.{CTy}
use Rattle.wf_num.specs.declared.c_arithmetic.CTy.TheVariants.{Int, U32, U64}
use Rattle.wf_num.specs.CArithmetic.{c_width}
use Rattle.wf_base.specs.declared.base_methods.PeekForm.{PeekForm}
use Rattle.wf_base.specs.declared.base_methods.PeekForm.TheVariants.{PeekU8, PeekU16Le, PeekU32Le}
use Rattle.wf_ast.specs.TypedTree.{Path, local, field, arg, Arith, plus, minus, times, divided, remainder, shift_left, shift_right, bits_and, bits_or, bits_xor, mod_plus, mod_minus, mod_times, mod_shift_left, sat_plus, sat_minus, Order, less, at_most, equal, differs, at_least, greater, Question, reader_length, reader_position, peek, writer_length, writer_position, NumTree, number, read, element, link, convert, length_of, asked, SliceTree, slice, array, cut, EndTree, absent, present, StatusTree, status, held, no_status, CondTree, truth, flag, compare, same_status, junction, negation, closed, has_category}
use Rattle.wf_ast.specs.Value.{same_truth}
use Rattle.wf_ast.specs.Same.{same_state}
use Rattle.c_text.specs.declared.kinds.CNumber.{CNumber}
use Rattle.c_text.specs.declared.kinds.CNumber.TheVariants as literals
use Rattle.c_text.specs.declared.kinds.COp.{COp}
use Rattle.c_text.specs.declared.kinds.COp.TheVariants.{Add, Sub, Mul, Div, Rem, Shl, Shr, BitAnd, BitOr, BitXor, Lt, Le, Gt, Ge, Eq, Ne, Both, Either}
use Rattle.c_text.specs.declared.kinds.CUnary.TheVariants.{Not}
use Rattle.c_text.specs.CSpelling.{op_bytes}
use Rattle.c_text.specs.CTree.{ExprTree, variable, member, operation, unary, cast, choice, called, Operands, no_operand, operand}
use Rattle.c_text.specs.CTree as c
use Rattle.wf_exprs.specs.Names.{Names, local_name, local_pointer, local_length, arg_name, arg_pointer, arg_length, io_place, io_end, io_bytes, field_name, status_name}
use Rattle.wf_exprs.specs.Words.{literal, num, uint_of, two, of_self, args}

-- The type in which C calculates with numbers of so many bits: small ones are promoted to `int`.
abbrev pub calculated : (bits : ℕ) → CTy
calculated bits = if nat_le bits 16 then Int else if nat_eq bits 32 then U32 else U64

-- How wide a type is, and the wider one of two.
abbrev pub rank : CTy → ℕ
rank Int = 0
rank U32 = 1
rank U64 = 2

abbrev pub wider : CTy → CTy → CTy
wider a b = if nat_lt (rank a) (rank b) then b else a

-- An expression of C that is a number, with its type. The type is never wider than that in which C calculates with
-- numbers of the source's width; where it is narrower, the value is the same.
pub record Rated : Type 0 where
  pub code : ExprTree
  pub ty : CTy

abbrev pub rated : ExprTree → CTy → Rated
rated code ty = record { code = code; ty = ty }

abbrev pub literal_type : CNumber → CTy
literal_type (literals.Int n) = Int
literal_type (literals.Unsigned n) = U32
literal_type (literals.Long n) = U64

-- A literal with the suffix of a type; every other expression is cast to it. No literal is spelt as an `int` that isn't one.
abbrev pub suffixed : CTy → ℕ → CNumber
suffixed Int n = literal n
suffixed U32 n = literals.Unsigned n
suffixed U64 n = literals.Long n

abbrev pub recast : (bits : ℕ) → ExprTree → ExprTree
recast bits (c.number (literals.Int n)) = c.number (suffixed (calculated bits) n)
recast bits (c.number (literals.Unsigned n)) = c.number (suffixed (calculated bits) n)
recast bits e = cast (uint_of bits) e

-- The same expression in the type in which C calculates with so many bits.
abbrev pub firm : (bits : ℕ) → Rated → ExprTree
firm bits a = if nat_eq (rank a.ty) (rank (calculated bits)) then a.code else recast bits a.code

-- The left operand of two, of which one at least has to have that type: C converts the other.
abbrev pub balanced : (bits : ℕ) → (left right : Rated) → ExprTree
balanced bits a b = if nat_eq (rank b.ty) (rank (calculated bits)) then a.code else firm bits a

-- An operator of the source as one of C.
abbrev pub op_of : Arith → COp
op_of plus = Add
op_of minus = Sub
op_of times = Mul
op_of divided = Div
op_of remainder = Rem
op_of shift_left = Shl
op_of shift_right = Shr
op_of bits_and = BitAnd
op_of bits_or = BitOr
op_of bits_xor = BitXor
op_of mod_plus = Add
op_of mod_minus = Sub
op_of mod_times = Mul
op_of mod_shift_left = Shl
op_of sat_plus = Add
op_of sat_minus = Sub

-- A chain goes on with one more operand; so a chain of the source opens no more parentheses than it has itself.
abbrev pub with_operand : Operands → ExprTree → Operands
with_operand no_operand e = operand e no_operand
with_operand (operand first others) e = operand first (with_operand others e)

abbrev pub same_op : COp → COp → Bool
same_op a b = bytes_eq (op_bytes a) (op_bytes b)

abbrev pub chained : (joined : Bool) → COp → (left right : ExprTree) → ExprTree
chained true op (operation other first second others) e =
    if same_op op other then operation other first second (with_operand others e) else two op (operation other first second others) e
chained joined op a e = two op a e

-- The function of a saturating operator.
abbrev pub saturating_name : (sum : Bool) → (bits : ℕ) → List ℕ
saturating_name sum bits = (if sum then codes "sat_plus_u" else codes "sat_minus_u") ++ decimal bits

abbrev pub saturated : (sum : Bool) → (bits : ℕ) → ExprTree → ExprTree → ExprTree
saturated sum bits a b = called (saturating_name sum bits) (args (a ∷ b ∷ []))

-- A result modulo 2^bits: C's own where it calculates in that width, else by a cast.
abbrev pub cut_off : (bits : ℕ) → ExprTree → ExprTree
cut_off bits e = if nat_le bits 16 then cast (uint_of bits) e else e

-- What C keeps apart anyway: a variable, a field or an element.
abbrev pub is_held : ExprTree → Bool
is_held (variable name) = true
is_held (member of name) = true
is_held (c.element of index) = true
is_held (c.number n) = true
is_held e = false

abbrev pub is_literal : ExprTree → Bool
is_literal (c.number n) = true
is_literal e = false

-- gcc remarks where an or in `int` becomes a constant as it is converted to fewer bits, unless a cast says that it is: an or of a constant
-- with what is calculated, or with all ones of 8 or 16 bits, one of three operands or more, and one inside of what is calculated.
abbrev pub is_full : ExprTree → Bool
is_full (c.number (literals.Int n)) = nat_eq n 255 || nat_eq n 65535
is_full e = false

abbrev pub fills : ExprTree → ExprTree → Bool
fills a b = is_literal a && (is_full a || not (is_held b))

abbrev pub is_or : COp → Bool
is_or BitOr = true
is_or op = false

abbrev mutual
  -- Not in what a call is given, nor in an index.
  pub has_or : ExprTree → Bool
  has_or (operation op a b others) = is_or op || (has_or a || (has_or b || any_or others))
  has_or (cast to e) = has_or e
  has_or e = false

  pub any_or : Operands → Bool
  any_or no_operand = false
  any_or (operand e es) = has_or e || any_or es

abbrev pub has_no_more : Operands → Bool
has_no_more no_operand = true
has_no_more (operand e es) = false

abbrev pub is_filled : ExprTree → Bool
is_filled (operation op a b others) =
    (is_or op && (not (has_no_more others) || (fills a b || fills b a))) || (has_or a || (has_or b || any_or others))
is_filled e = false

-- What C converts to a width: where it is assigned, passed or returned.
abbrev pub taken : (bits : ℕ) → ExprTree → ExprTree
taken bits e = if is_filled e then cut_off bits e else e

-- The left factor of a product modulo 2^bits: two numbers of 16 bits would leave `int`.
abbrev pub factor : (bits : ℕ) → (left right : Rated) → ExprTree
factor bits a b = if nat_eq bits 16 then recast 32 a.code else balanced bits a b

-- Only the operators that repeat in C make one operation of a chain.
abbrev pub linked : Arith → (bits : ℕ) → (joined : Bool) → Rated → Rated → ExprTree
linked shift_left bits joined a b = two Shl (firm bits a) b.code
linked shift_right bits joined a b = two Shr (firm bits a) b.code
linked mod_plus bits joined a b = cut_off bits (two Add (balanced bits a b) b.code)
linked mod_minus bits joined a b = cut_off bits (two Sub (balanced bits a b) b.code)
linked mod_times bits joined a b = cut_off bits (two Mul (factor bits a b) b.code)
linked mod_shift_left bits joined a b = cut_off bits (two Shl (firm bits a) b.code)
linked minus bits joined a b = two Sub (balanced bits a b) b.code
linked divided bits joined a b = two Div (balanced bits a b) b.code
linked remainder bits joined a b = two Rem (balanced bits a b) b.code
linked sat_plus bits joined a b = saturated true bits (taken bits a.code) (taken bits b.code)
linked sat_minus bits joined a b = saturated false bits (taken bits a.code) (taken bits b.code)
linked op bits joined a b = chained joined (op_of op) (balanced bits a b) b.code

-- `as`: a cast where C calculates with so many bits in a narrower type. To a wider one C converts by itself.
abbrev pub converted : (bits : ℕ) → Rated → Rated
converted bits a = if nat_lt (rank (calculated bits)) (rank a.ty) then rated (cast (uint_of bits) a.code) (calculated bits) else a

-- Where it is compared, what was calculated in `int` is cast to a wider type: beside an unsigned number its sign is remarked.
abbrev pub widened : (bits : ℕ) → Rated → Rated
widened bits a = if nat_eq (rank a.ty) 0 && not (is_held a.code) then rated (cast (uint_of bits) a.code) (calculated bits) else a

-- What a path that is no slice stands for.
abbrev pub path_code : Names → Path → ExprTree
path_code names (local n) = variable (local_name names n)
path_code names (arg n) = variable (arg_name names n)
path_code names (field n) = of_self (field_name names n)

-- A slice as its pointer and its length.
pub record Pair : Type 0 where
  pub pointer : ExprTree
  pub length : Rated

abbrev pub path_pair : Names → Path → Pair
path_pair names (local n) = record { pointer = variable (local_pointer names n); length = rated (variable (local_length names n)) U64 }
path_pair names (arg n) = record { pointer = variable (arg_pointer names n); length = rated (variable (arg_length names n)) U64 }
path_pair names (field n) = record { pointer = of_self (field_name names n); length = rated (num 0) Int }

-- A whole array is never null; a slice may be, and then nothing may be added to its pointer, which stays as it is. It isn't 0 that
-- stands there: gcc remarks on a 0 that is passed to `memmove`, though it is never passed.
abbrev pub is_array : SliceTree → Bool
is_array (array at of count path) = true
is_array (slice at bits path) = false
is_array (cut at cells from to) = is_array cells

abbrev pub moved : (never_null : Bool) → (pointer from : ExprTree) → ExprTree
moved true pointer from = two Add pointer from
moved false pointer from = choice pointer (two Add pointer from) pointer

-- From one number up to another.
abbrev pub from_to : Rated → Rated → Rated
from_to from to = rated (two Sub to.code from.code) (wider from.ty to.ty)

-- A part of a slice: its pointer is moved by its first end, where it has one.
abbrev pub part_pointer : (never_null : Bool) → ExprTree → Option Rated → ExprTree
part_pointer never_null pointer None = pointer
part_pointer never_null pointer (Some from) = moved never_null pointer from.code

abbrev pub part_length : (whole : Rated) → (from to : Option Rated) → Rated
part_length whole None None = whole
part_length whole None (Some to) = to
part_length whole (Some from) None = from_to from whole
part_length whole (Some from) (Some to) = from_to from to

abbrev pub part_pair : (never_null : Bool) → Pair → (from to : Option Rated) → Pair
part_pair never_null cells from to = record { pointer = part_pointer never_null cells.pointer from; length = part_length cells.length from to }

-- What a reader or a writer is asked for.
abbrev pub io_code : Names → ℕ → ExprTree
io_code names a = variable (arg_name names a)

abbrev pub place_code : Names → ℕ → ExprTree
place_code names a = variable (io_place names a)

abbrev pub end_code : Names → ℕ → ExprTree
end_code names a = variable (io_end names a)

abbrev pub bytes_code : Names → ℕ → ExprTree
bytes_code names a = variable (io_bytes names a)

abbrev pub there : Names → ℕ → ExprTree
there names a = two Sub (end_code names a) (place_code names a)

-- The next byte but k, and a byte moved up by k bytes within a number of so many bits: C shifts what is calculated in `int` to at
-- most 16.
abbrev pub peeked : Names → ℕ → (k : ℕ) → ExprTree
peeked names a k = c.element (bytes_code names a) (if nat_eq k 0 then place_code names a else two Add (place_code names a) (num k))

abbrev pub raised : (bits k : ℕ) → ExprTree → ExprTree
raised bits k e = two Shl (if nat_le bits 16 then e else cast (uint_of bits) e) (num (8 * k))

-- The number of 16 bits or more that the next bytes spell, the lowest first or, in big endian, the highest: the sum of the bytes from
-- the lowest up, each moved up by as many bytes as are below it.
abbrev pub byte_at : (bits : ℕ) → (big : Bool) → (below : ℕ) → ℕ
byte_at bits big k = if big then bits / 8 - 1 - k else k

abbrev pub byte_ahead : Names → (io_arg bits : ℕ) → (big : Bool) → (below : ℕ) → ExprTree
byte_ahead names a bits big k = raised bits k (peeked names a (byte_at bits big k))

abbrev pub bytes_ahead : Names → (io_arg bits : ℕ) → (big : Bool) → (below so_many : ℕ) → Operands
bytes_ahead names a bits big k zero = no_operand
bytes_ahead names a bits big k (suc n) = operand (byte_ahead names a bits big k) (bytes_ahead names a bits big (suc k) n)

abbrev pub number_ahead : Names → (io_arg bits : ℕ) → (big : Bool) → ExprTree
number_ahead names a bits big =
    operation Add (peeked names a (byte_at bits big 0)) (byte_ahead names a bits big 1) (bytes_ahead names a bits big 2 (bits / 8 - 2))

abbrev pub peek_code : Names → ℕ → PeekForm → Rated
peek_code names a PeekU8 = rated (peeked names a 0) Int
peek_code names a PeekU16Le = rated (number_ahead names a 16 false) Int
peek_code names a PeekU32Le = rated (number_ahead names a 32 false) U32

abbrev pub position_code : Names → ℕ → ExprTree
position_code names a = saturated true 64 (member (io_code names a) (codes "pos")) (place_code names a)

abbrev pub asked_code : Names → ℕ → Question → Rated
asked_code names a reader_length = rated (there names a) U64
asked_code names a reader_position = rated (position_code names a) U64
asked_code names a (peek form) = peek_code names a form
asked_code names a writer_length = rated (there names a) U64
asked_code names a writer_position = rated (position_code names a) U64

abbrev mutual
  -- A number.
  pub lowered : Names → NumTree → Rated
  lowered names (number at n) = rated (num n) (literal_type (literal n))
  lowered names (read at of path) = rated (path_code names path) (calculated of.bits)
  lowered names (element at of cells index) = rated (c.element (lowered_slice names cells).pointer (lowered names index).code) (calculated of.bits)
  lowered names (link at sign op bits joined a b) = rated (linked op bits joined (lowered names a) (lowered names b)) (calculated bits)
  lowered names (convert at sign bits a) = converted bits (lowered names a)
  lowered names (length_of at cells) = (lowered_slice names cells).length
  lowered names (asked at question a) = asked_code names a question

  -- A slice or a whole array.
  pub lowered_slice : Names → SliceTree → Pair
  lowered_slice names (slice at bits path) = path_pair names path
  lowered_slice names (array at of count path) = record { pointer = path_code names path; length = rated (num count) Int }
  lowered_slice names (cut at cells from to) = part_pair (is_array cells) (lowered_slice names cells) (lowered_end names from) (lowered_end names to)

  pub lowered_end : Names → EndTree → Option Rated
  lowered_end names absent = None
  lowered_end names (present e) = Some (lowered names e)

abbrev pub lowered_expr : Names → NumTree → ExprTree
lowered_expr names t = (lowered names t).code

-- What is converted, however often.
abbrev pub bare : NumTree → NumTree
bare (convert at sign bits a) = bare a
bare t = t

-- The same where it is assigned, passed or returned: C converts it to the type of what takes it.
abbrev pub given : Names → NumTree → ExprTree
given names (convert at sign bits a) = taken bits (lowered_expr names (bare a))
given names (link at sign op bits joined a b) = taken bits (lowered_expr names (link at sign op bits joined a b))
given names t = lowered_expr names t

-- All ones of the width of 8 or 16 bits, and those of fewer bits than a width.
abbrev pub is_ones : (bits : ℕ) → NumTree → Bool
is_ones bits (number at n) = nat_le bits 16 && nat_eq n (2 ^ bits - 1)
is_ones bits t = false

abbrev pub is_short_ones : (bits : ℕ) → NumTree → Bool
is_short_ones bits (number at n) = nat_eq n 255 || (nat_eq n 65535 || (nat_eq bits 64 && nat_eq n 4294967295))
is_short_ones bits t = false

abbrev pub is_converted : NumTree → Bool
is_converted (convert at sign bits a) = true
is_converted t = false

-- One operation by itself.
abbrev pub apart : Arith → (bits : ℕ) → (left right : Rated) → Rated
apart op bits a b = rated (linked op bits false a b) (calculated bits)

abbrev pub with_zero : (bits : ℕ) → Rated → Rated
with_zero bits a = apart plus bits a (rated (num 0) Int)

-- An operand of an xor that is compared, with the other operand. gcc takes a widened byte xor-ed with 255 for its complement, but
-- not one that 0 is added to.
abbrev pub xor_operand : (bits : ℕ) → NumTree → Rated → (other : NumTree) → Rated
xor_operand bits t a other = if is_short_ones bits other && is_converted t then with_zero bits a else a

-- Two operands that are compared as one number. gcc takes `x ^ 255` and `(uint8_t)(255 - x)` for the complement `~x`, and remarks on
-- its being compared; so a complement of 8 or 16 bits stands there as the difference to all ones that it is.
abbrev pub pair_compared : Names → Arith → (bits : ℕ) → (left right : NumTree) → Rated
pair_compared names bits_xor bits a b =
    if is_ones bits b then apart minus bits (lowered names b) (lowered names a)
    else if is_ones bits a then apart minus bits (lowered names a) (lowered names b)
    else apart bits_xor bits (xor_operand bits a (lowered names a) b) (xor_operand bits b (lowered names b) a)
pair_compared names mod_minus bits a b =
    if is_ones bits a then apart minus bits (lowered names a) (lowered names b) else apart mod_minus bits (lowered names a) (lowered names b)
pair_compared names op bits a b = apart op bits (lowered names a) (lowered names b)

abbrev pub compared_as : Names → NumTree → Rated
compared_as names (link at sign op bits false a b) = pair_compared names op bits a b
compared_as names t = lowered names t

-- A number where it is compared: conversions stand for nothing there, since C compares in the wider of two types.
abbrev pub comparand : Names → NumTree → Rated
comparand names t = compared_as names (bare t)

-- Beside a number of a wider type, what was calculated in `int` is cast.
abbrev pub beside : Rated → CTy → Rated
beside a ty = if nat_lt (rank a.ty) (rank ty) then widened (c_width ty) a else a

-- Statuses.
abbrev pub status_constant : ℕ → ExprTree
status_constant n = if nat_eq n 0 then num 0 else variable (status_name n)

abbrev pub lowered_status : Names → StatusTree → ExprTree
lowered_status names (status at n) = status_constant n
lowered_status names (held at path) = path_code names path
lowered_status names no_status = num 0

-- Conditions.
abbrev pub order_op : Order → COp
order_op less = Lt
order_op at_most = Le
order_op equal = Eq
order_op differs = Ne
order_op at_least = Ge
order_op greater = Gt

-- `==`. With a variable at its left it reads like a slip for `=`, and compilers say so: a constant stands at the left,
-- and two variables are compared by what differs.
abbrev pub same_code : (left right : ExprTree) → (fixed : Bool) → ExprTree
same_code a b fixed = if fixed then two Eq b a else if is_held a then unary Not (two Ne a b) else two Eq a b

abbrev pub compared : Order → ExprTree → ExprTree → ExprTree
compared equal a b = if is_literal a then two Eq a b else same_code a b (is_literal b)
compared op a b = two (order_op op) a b

-- Compilers say of what is compared with itself that it is: gcc of any two expressions that are alike node by node, or whose two
-- operands stand the other way round. No compiler takes two calls for one.
abbrev pub literal_value : CNumber → ℕ
literal_value (literals.Int n) = n
literal_value (literals.Unsigned n) = n
literal_value (literals.Long n) = n

abbrev mutual
  pub alike : (e other : ExprTree) → Bool
  alike (c.number n) (c.number k) = nat_eq (literal_value n) (literal_value k)
  alike (variable name) (variable name') = bytes_eq name name'
  alike (member e name) (member e' name') = bytes_eq name name' && alike e e'
  alike (c.element e at) (c.element e' at') = alike e e' && alike at at'
  alike (operation op a b others) (operation op' a' b' others') =
      same_op op op' && (alike a a' && (alike b b' && all_alike others others'))
  alike (cast to e) (cast to' e') = alike e e'
  alike (choice test met unmet) (choice test' met' unmet') = alike met met'
  alike e other = false

  pub all_alike : (es others : Operands) → Bool
  all_alike no_operand no_operand = true
  all_alike (operand e es) (operand e' es') = alike e e' && all_alike es es'
  all_alike es others = false

abbrev pub is_turned : (e other : ExprTree) → Bool
is_turned (operation op a b others) (operation op' a' b' others') = same_op op op' && (alike a b' && (alike b a' && all_alike others others'))
is_turned e other = false

abbrev pub is_itself : (e other : ExprTree) → Bool
is_itself e other = alike e other || is_turned e other

-- They say of a comparison that the types of its operands decide it, too: of one with a constant that is the greatest number of a
-- cell, or greater.
--
-- The greatest number of the narrowest cells with which C calculates in a type.
abbrev pub greatest_of : CTy → ℕ
greatest_of Int = 255
greatest_of U32 = 4294967295
greatest_of U64 = 18446744073709551615

abbrev pub is_beyond : ExprTree → CTy → Bool
is_beyond (c.number n) ty = nat_le (greatest_of ty) (literal_value n)
is_beyond e ty = false

-- And they follow what is calculated: they know that `(x & 0)` is 0, that `(c >> 2)` of a byte is below 64, and that `((a & b) & c)` is
-- `(a & b & c)`. Of a sum or a difference of two that are held they know nothing, unless it is a number less itself.
abbrev pub is_step : COp → (left right : ExprTree) → Bool
is_step Add a b = is_held a && is_held b
is_step Sub a b = is_held a && (is_held b && not (alike a b))
is_step op a b = false

abbrev pub is_calculated : ExprTree → Bool
is_calculated (operation op a b others) = not (has_no_more others && is_step op a b)
is_calculated (cast to e) = true
is_calculated e = false

abbrev pub is_decided : (a b : Rated) → Bool
is_decided a b = is_beyond b.code a.ty || is_calculated a.code

-- They don't follow it through a 0 that is added or subtracted: so that is done to what may decide a comparison. At the left 0 is added
-- and at the right it is subtracted, since two sums may be alike.
abbrev pub unmoved : (sign : COp) → ExprTree → CTy → Rated
unmoved sign e ty = rated (two sign e (num 0)) ty

-- In the wider of two types.
abbrev pub unmoved_in : (sign : COp) → Rated → CTy → Rated
unmoved_in sign a ty =
    if nat_lt (rank a.ty) (rank ty) then unmoved sign (cast (uint_of (c_width ty)) a.code) (calculated (c_width ty)) else unmoved sign a.code a.ty

-- An operand of a comparison, with the other one.
abbrev pub compared_with : (sign : COp) → (a b : Rated) → Rated
compared_with sign a b = if is_decided a b then unmoved_in sign a b.ty else beside a b.ty

abbrev pub left_compared : (a b : Rated) → Rated
left_compared a b = if is_itself a.code b.code then unmoved_in Add a b.ty else compared_with Add a b

abbrev pub right_compared : (b a : Rated) → Rated
right_compared b a = compared_with Sub b a

-- No number is below 0. A comparison that asks for that is 1 or 0 itself.
abbrev pub is_literal_zero : ExprTree → Bool
is_literal_zero (c.number (literals.Int n)) = nat_eq n 0
is_literal_zero e = false

abbrev pub known_if : (is met : Bool) → Option Bool
known_if true met = Some met
known_if false met = None

abbrev pub settled : Order → (left right : ExprTree) → Option Bool
settled less a b = known_if (is_literal_zero b) false
settled at_most a b = known_if (is_literal_zero a) true
settled at_least a b = known_if (is_literal_zero b) true
settled greater a b = known_if (is_literal_zero a) false
settled op a b = None

abbrev pub settled_or : Option Bool → ExprTree → ExprTree
settled_or (Some met) e = num (if met then 1 else 0)
settled_or None e = e

abbrev pub numbers_compared : Order → Rated → Rated → ExprTree
numbers_compared op a b = settled_or (settled op a.code b.code) (compared op (left_compared a b).code (right_compared b a).code)

abbrev pub is_constant : StatusTree → Bool
is_constant (status at n) = true
is_constant t = false

abbrev pub constant_number : StatusTree → ℕ
constant_number (status at n) = n
constant_number t = 0

-- Of two constants it is known whether they are one.
abbrev pub constants_compared : (one : Bool) → (n k : ℕ) → ExprTree
constants_compared one n k = num (if same_truth one (nat_eq n k) then 1 else 0)

abbrev pub held_compared : (one : Bool) → Names → StatusTree → StatusTree → ExprTree
held_compared true names a b =
    if is_constant a then two Eq (lowered_status names a) (lowered_status names b) else same_code (lowered_status names a) (lowered_status names b) (is_constant b)
held_compared false names a b = two Ne (lowered_status names a) (lowered_status names b)

-- A variable is one with itself.
abbrev pub variables_compared : (one : Bool) → Names → StatusTree → StatusTree → ExprTree
variables_compared one names a b = if same_state a b then num (if one then 1 else 0) else held_compared one names a b

abbrev pub statuses_compared : (one : Bool) → Names → StatusTree → StatusTree → ExprTree
statuses_compared one names a b =
    if is_constant a && is_constant b then constants_compared one (constant_number a) (constant_number b) else variables_compared one names a b

-- A status is ok, or its text begins with a byte. The constant ok has no text.
abbrev pub begins_with : ℕ → ExprTree → ExprTree
begins_with byte (c.number n) = num 0
begins_with byte e = two Both e (two Eq (num byte) (c.element e (num 0)))

abbrev pub category_code : Category → ExprTree → ExprTree
category_code Fine e = two Eq (num 0) e
category_code Note e = begins_with 64 e
category_code Suspension e = begins_with 36 e
category_code Fault e = begins_with 35 e

-- clang says of two comparisons of one number with constants that they decide what joins them, as in `((c < 5) || (c > 3))`, where they
-- are the first two operands of an operation. It looks at comparisons alone: so the first one is negated twice there.
--
-- A comparison with a constant, of any number; and whether it is met by all numbers that are great enough.
abbrev pub meets : COp → (n bound : ℕ) → Bool
meets Lt n bound = nat_lt n bound
meets Le n bound = nat_le n bound
meets Gt n bound = nat_lt bound n
meets Ge n bound = nat_le bound n
meets Eq n bound = nat_eq n bound
meets Ne n bound = not (nat_eq n bound)
meets op n bound = false

abbrev pub is_open : COp → Bool
is_open Gt = true
is_open Ge = true
is_open Ne = true
is_open op = false

-- Two exclude each other where no number meets both: neither one of the two constants, nor the number below one of them, nor any number
-- above both.
abbrev pub meets_both : (op : COp) → (bound : ℕ) → (other : COp) → (limit n : ℕ) → Bool
meets_both op bound other limit n = meets op n bound && meets other n limit

abbrev pub excludes : (op : COp) → (bound : ℕ) → (other : COp) → (limit : ℕ) → Bool
excludes op bound other limit =
    not ((is_open op && is_open other)
    || ((meets_both op bound other limit bound || meets_both op bound other limit (bound - 1))
    || (meets_both op bound other limit limit || meets_both op bound other limit (limit - 1))))

-- `and` is never met where its operands exclude each other, and `or` always where what is not met does.
abbrev pub opposite : COp → COp
opposite Lt = Ge
opposite Le = Gt
opposite Gt = Le
opposite Ge = Lt
opposite Eq = Ne
opposite Ne = Eq
opposite op = op

abbrev pub asked_of : (joint : COp) → COp → COp
asked_of Either op = opposite op
asked_of joint op = op

-- A comparison of what is held with a constant, read from what is held.
abbrev pub is_order : COp → Bool
is_order Lt = true
is_order Le = true
is_order Gt = true
is_order Ge = true
is_order Eq = true
is_order Ne = true
is_order op = false

abbrev pub turned : COp → COp
turned Lt = Gt
turned Le = Ge
turned Gt = Lt
turned Ge = Le
turned op = op

abbrev pub is_bounded : COp → (a b : ExprTree) → Bool
is_bounded op a b = is_order op && (if is_literal a then is_held b && not (is_literal b) else is_held a && is_literal b)

abbrev pub bounded : (a b : ExprTree) → ExprTree
bounded a b = if is_literal a then b else a

abbrev pub order_of : COp → (a : ExprTree) → COp
order_of op a = if is_literal a then turned op else op

abbrev pub constant_of : ExprTree → ℕ
constant_of (c.number n) = literal_value n
constant_of e = 0

abbrev pub bound_of : (a b : ExprTree) → ℕ
bound_of a b = if is_literal a then constant_of a else constant_of b

abbrev pub decides : (joint : COp) → (e other : ExprTree) → Bool
decides joint (operation op a b others) (operation op' a' b' others') =
    is_bounded op a b && (is_bounded op' a' b' && (alike (bounded a b) (bounded a' b')
    && excludes (asked_of joint (order_of op a)) (bound_of a b) (asked_of joint (order_of op' a')) (bound_of a' b')))
decides joint e other = false

-- The first operand of a chain of conditions, beside the second one; a chain that goes on has begun so.
abbrev pub begun : (joined : Bool) → (joint : COp) → (e second : ExprTree) → ExprTree
begun true joint e second = e
begun false joint e second = if decides joint e second then unary Not (unary Not e) else e

abbrev pub joint_of : (both : Bool) → COp
joint_of both = if both then Both else Either

abbrev pub lowered_cond : Names → CondTree → ExprTree
lowered_cond names (truth at b) = num (if b then 1 else 0)
lowered_cond names (flag at path) = path_code names path
lowered_cond names (compare at sign a op b) = numbers_compared op (comparand names a) (comparand names b)
lowered_cond names (same_status at sign a one b) = statuses_compared one names a b
lowered_cond names (junction at both joined a b) =
    chained joined (joint_of both) (begun joined (joint_of both) (lowered_cond names a) (lowered_cond names b)) (lowered_cond names b)
lowered_cond names (negation at a) = unary Not (lowered_cond names a)
lowered_cond names (closed at a) = member (io_code names a) (codes "closed")
lowered_cond names (has_category at t category) = category_code category (lowered_status names t)
