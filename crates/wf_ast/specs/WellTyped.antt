-- The rules of types and effects that a typed package keeps, over its trees. Each is a test that computes.
use Rattle.std.specs.Prelude.{ℕ, zero, suc, ◌-◌, ◌^◌, Bool, true, false, not, ◌&&◌, ◌||◌, List, [], ◌∷◌, length, Option, None, Some, option_map, option_and_then, if◌then◌else◌, nat_eq, nat_lt, nat_le, slice_get, is_some}
use Rattle.std.specs.List.{list_all, list_any}
use Rattle.wf_text.specs.StatusText.{category_of}
use Rattle.wf_text.specs.declared.categories.Category.TheVariants.{Suspension}
use Rattle.wf_base.specs.declared.marks.Mark.{Mark}
use Rattle.wf_base.specs.declared.marks.Mark.TheVariants.{Pure, Impure, Coroutine}
use Rattle.wf_base.specs.Effects.{allows}
use Rattle.wf_base.specs.BaseTable.{bits_of, read_width, peek_width}
use Rattle.wf_ast.specs.declared.types.Ty.{Ty}
use Rattle.wf_ast.specs.declared.types.Ty.TheVariants as types
use Rattle.wf_ast.specs.TypedTree.{Path, local, field, arg, NumType, Arith, shift_left, shift_right, mod_shift_left, Question, reader_length, reader_position, peek, writer_length, writer_position, NumTree, number, read, element, link, convert, length_of, asked, SliceTree, slice, array, cut, EndTree, absent, present, StatusTree, status, held, no_status, CondTree, truth, flag, compare, same_status, junction, negation, closed, has_category, ValueTree, numeric, logical, state, elements, io, Target, to_number, to_element, to_flag, to_status, to_slice, to_nothing, Awaited, take_number, skip, write, Written, skip_fast, write_fast, copy_to_writer, copy_to_slice, Called, own, sub, Axiom, Simple, assign, await, perform, invoke, break_from, continue_in, give_back, yield, claim, Block, end, plain, choose, loop}
use Rattle.wf_ast.specs.TypedPackage.{Variable, StructTree, MethodTree, PackageTree}
use Rattle.wf_ast.specs.Value.{same_category, same_truth}
use Rattle.wf_ast.specs.Same.{same_arith}

-- What stands round an expression: its package and its method.
pub record Context : Type 0 where
  pub within : PackageTree
  pub method : MethodTree

abbrev pub variable_at : List Variable → ℕ → Option Ty
variable_at xs n = option_map (λ x. x.ty) (slice_get xs n)

abbrev pub field_at : PackageTree → (s n : ℕ) → Option Ty
field_at p s n = option_and_then (λ it. variable_at it.fields n) (slice_get p.structs s)

-- The declared type of a path.
abbrev pub type_at : Context → Path → Option Ty
type_at c (local n) = variable_at c.method.locals n
type_at c (arg n) = variable_at c.method.args n
type_at c (field n) = field_at c.within c.method.of n

abbrev pub is_width : (bits : ℕ) → Bool
is_width bits = nat_eq bits 8 || (nat_eq bits 16 || (nat_eq bits 32 || nat_eq bits 64))

-- The numbers of a type are in its width, and there is one.
abbrev pub is_range : NumType → Bool
is_range of = is_width of.bits && (nat_le of.low of.high && nat_lt of.high (2 ^ of.bits))

abbrev pub same_num_type : (a b : NumType) → Bool
same_num_type a b = nat_eq a.bits b.bits && (nat_eq a.low b.low && nat_eq a.high b.high)

abbrev pub is_unrefined : NumType → Bool
is_unrefined of = nat_eq of.low 0 && nat_eq of.high (2 ^ of.bits - 1)

abbrev pub is_number : NumType → Option Ty → Bool
is_number of (Some (types.Num width lo hi)) = same_num_type of (record { bits = bits_of width; low = lo; high = hi })
is_number of ty = false

abbrev pub is_array : NumType → (count : ℕ) → Option Ty → Bool
is_array of count (Some (types.Array width lo hi n)) = nat_eq count n && same_num_type of (record { bits = bits_of width; low = lo; high = hi })
is_array of count ty = false

abbrev pub is_slice : (bits : ℕ) → Option Ty → Bool
is_slice bits (Some (types.Slice width)) = nat_eq bits (bits_of width)
is_slice bits ty = false

abbrev pub is_flag : Option Ty → Bool
is_flag (Some types.Flag) = true
is_flag ty = false

abbrev pub is_status : Option Ty → Bool
is_status (Some types.Status) = true
is_status ty = false

abbrev pub is_reader : Option Ty → Bool
is_reader (Some types.Reader) = true
is_reader ty = false

abbrev pub is_writer : Option Ty → Bool
is_writer (Some types.Writer) = true
is_writer ty = false

abbrev pub question_width : Question → ℕ
question_width (peek form) = bits_of (peek_width form)
question_width q = 64

abbrev pub may_ask : Question → Option Ty → Bool
may_ask reader_length ty = is_reader ty
may_ask reader_position ty = is_reader ty
may_ask (peek form) ty = is_reader ty
may_ask writer_length ty = is_writer ty
may_ask writer_position ty = is_writer ty

-- The number fits a width: a constant lies in it, and everything else has it.
abbrev pub fits : (bits : ℕ) → NumTree → Bool
fits bits (number at n) = nat_lt n (2 ^ bits)
fits bits (read at of path) = nat_eq bits of.bits
fits bits (element at of cells index) = nat_eq bits of.bits
fits bits (link at sign op own_bits joined a b) = nat_eq bits own_bits
fits bits (convert at sign own_bits a) = nat_eq bits own_bits
fits bits (length_of at cells) = nat_eq bits 64
fits bits (asked at question a) = nat_eq bits (question_width question)

-- Where numbers of a width are wanted, everything else has this width, and a constant may be any number: whether it lies in the
-- type that takes it is for the rules of bounds.
abbrev pub may_go_into : (bits : ℕ) → NumTree → Bool
may_go_into bits (number at n) = true
may_go_into bits t = fits bits t

-- A shift takes any right side.
abbrev pub is_shift : Arith → Bool
is_shift shift_left = true
is_shift shift_right = true
is_shift mod_shift_left = true
is_shift op = false

-- What stands left of a joined operator is the part of its chain so far.
abbrev pub continues : Arith → (bits : ℕ) → NumTree → Bool
continues op bits (link at sign own_op own_bits joined a b) = same_arith op own_op && nat_eq bits own_bits
continues op bits t = false

-- The elements of a slice.
abbrev pub element_type : SliceTree → NumType
element_type (slice at bits path) = record { bits = bits; low = 0; high = 2 ^ bits - 1 }
element_type (array at of count path) = of
element_type (cut at cells from to) = element_type cells

abbrev pub is_constant : NumTree → Bool
is_constant (number at n) = true
is_constant t = false

-- A chain has an operand that isn't constant: else it stands as its number.
abbrev pub varies : NumTree → Bool
varies (number at n) = false
varies (link at sign op bits joined a b) = (if joined then varies a else not (is_constant a)) || not (is_constant b)
varies t = true

abbrev pub is_whole_number : NumTree → Bool
is_whole_number t = is_constant t || varies t

-- `well_part` is asked of the part of a chain so far, which may be constant, and `is_whole_number` besides of every other
-- operand.
abbrev mutual
  pub well_part : Context → NumTree → Bool
  well_part c (number at n) = nat_lt n (2 ^ 64)
  well_part c (read at of path) = is_range of && is_number of (type_at c path)
  well_part c (element at of cells index) = same_num_type of (element_type cells) && (well_slice c cells && (is_whole_number index && well_part c index))
  well_part c (link at sign op bits joined a b) =
      is_width bits && (fits bits a && ((is_shift op || fits bits b) && ((not joined || continues op bits a) && ((joined || is_whole_number a) && (well_part c a && (is_whole_number b && well_part c b))))))
  well_part c (convert at sign bits a) = is_width bits && (is_whole_number a && well_part c a)
  well_part c (length_of at cells) = well_slice c cells
  well_part c (asked at question a) = may_ask question (type_at c (arg a))

  pub well_slice : Context → SliceTree → Bool
  well_slice c (slice at bits path) = is_slice bits (type_at c path)
  well_slice c (array at of count path) = is_range of && is_array of count (type_at c path)
  well_slice c (cut at cells from to) = is_unrefined (element_type cells) && (well_slice c cells && (well_end c from && well_end c to))

  pub well_end : Context → EndTree → Bool
  well_end c absent = true
  well_end c (present t) = is_whole_number t && well_part c t

-- A number that keeps the rules.
abbrev pub well_num : Context → NumTree → Bool
well_num c t = is_whole_number t && well_part c t

abbrev pub well_status : Context → StatusTree → Bool
well_status c (status at n) = is_some (slice_get c.within.statuses n)
well_status c (held at path) = is_status (type_at c path)
well_status c no_status = false

-- Two numbers of one width: one fits the other's.
abbrev pub width_of : NumTree → Option ℕ
width_of (number at n) = None
width_of (read at of path) = Some of.bits
width_of (element at of cells index) = Some of.bits
width_of (link at sign op bits joined a b) = Some bits
width_of (convert at sign bits a) = Some bits
width_of (length_of at cells) = Some 64
width_of (asked at question a) = Some (question_width question)

abbrev pub fit_together : (a b : NumTree) → (width_a width_b : Option ℕ) → Bool
fit_together a b None None = true
fit_together a b None (Some bits) = fits bits a
fit_together a b (Some bits) width_b = fits bits b

abbrev pub well_cond : Context → CondTree → Bool
well_cond c (truth at b) = true
well_cond c (flag at path) = is_flag (type_at c path)
well_cond c (compare at sign a op b) = fit_together a b (width_of a) (width_of b) && (well_num c a && well_num c b)
well_cond c (same_status at sign a one b) = well_status c a && well_status c b
well_cond c (junction at both joined a b) = well_cond c a && well_cond c b
well_cond c (negation at a) = well_cond c a
well_cond c (closed at a) = is_reader (type_at c (arg a))
well_cond c (has_category at a category) = well_status c a

-- A slice of bytes, or of elements of so many bits.
abbrev pub slice_of : Context → (bits : ℕ) → SliceTree → Bool
slice_of c bits t = well_slice c t && nat_eq (element_type t).bits bits

-- The value is one of a type: a number of its width, whatever its refinement, or any constant.
abbrev pub fits_type : Context → Ty → ValueTree → Bool
fits_type c (types.Num width lo hi) (numeric t) = may_go_into (bits_of width) t && well_num c t
fits_type c types.Flag (logical t) = well_cond c t
fits_type c types.Status (state t) = well_status c t
fits_type c (types.Slice width) (elements t) = slice_of c (bits_of width) t
fits_type c types.Reader (io at a) = is_reader (type_at c (arg a))
fits_type c types.Writer (io at a) = is_writer (type_at c (arg a))
fits_type c ty t = false

abbrev pub fit_types : Context → List Variable → List ValueTree → Bool
fit_types c [] [] = true
fit_types c (x ∷ xs) (t ∷ ts) = fits_type c x.ty t && fit_types c xs ts
fit_types c xs ts = false

abbrev pub is_coroutine : Mark → Bool
is_coroutine Coroutine = true
is_coroutine mark = false

abbrev pub is_pure : Mark → Bool
is_pure Pure = true
is_pure mark = false

-- A local, or in a method that isn't pure a field.
abbrev pub may_write : Mark → Path → Bool
may_write mark (local n) = true
may_write mark (field n) = not (is_pure mark)
may_write mark (arg n) = false

-- The target takes values of this type.
abbrev pub takes : Context → Target → Ty → Bool
takes c (to_number at of path) (types.Num width lo hi) = may_write c.method.mark path && (nat_eq of.bits (bits_of width) && well_num c (read at of path))
takes c (to_element at of cells index) (types.Num width lo hi) = not (is_pure c.method.mark) && (nat_eq of.bits (bits_of width) && well_num c (element at of cells index))
takes c (to_flag at path) types.Flag = may_write c.method.mark path && is_flag (type_at c path)
takes c (to_status at path) types.Status = may_write c.method.mark path && is_status (type_at c path)
takes c (to_slice at bits path) (types.Slice width) = may_write c.method.mark path && (nat_eq bits (bits_of width) && is_slice bits (type_at c path))
takes c to_nothing ty = true
takes c target ty = false

-- The target takes this very value.
abbrev pub well_assigned : Context → Target → ValueTree → Bool
well_assigned c (to_number at of path) (numeric t) = may_write c.method.mark path && (well_num c (read at of path) && (may_go_into of.bits t && well_num c t))
well_assigned c (to_element at of cells index) (numeric t) = not (is_pure c.method.mark) && (well_num c (element at of cells index) && (may_go_into of.bits t && well_num c t))
well_assigned c (to_flag at path) (logical t) = may_write c.method.mark path && (is_flag (type_at c path) && well_cond c t)
well_assigned c (to_status at path) (state t) = may_write c.method.mark path && (is_status (type_at c path) && well_status c t)
well_assigned c (to_slice at bits path) (elements t) = may_write c.method.mark path && (is_slice bits (type_at c path) && slice_of c bits t)
well_assigned c target t = false

abbrev pub is_operator : Arith → ValueTree → Bool
is_operator op (numeric (link at sign own_op bits joined a b)) = same_arith op own_op
is_operator op (numeric (number at n)) = true
is_operator op t = false

-- No target takes the answer of a method that gives nothing, or of a coroutine.
abbrev pub has_none : Target → Bool
has_none to_nothing = true
has_none target = false

abbrev pub is_status_target : Target → Bool
is_status_target (to_status at path) = true
is_status_target target = false

-- A number of so many bits goes to the target.
abbrev pub takes_bits : Context → Target → ℕ → Bool
takes_bits c (to_number at of path) bits = may_write c.method.mark path && (nat_eq of.bits bits && well_num c (read at of path))
takes_bits c (to_element at of cells index) bits = not (is_pure c.method.mark) && (nat_eq of.bits bits && well_num c (element at of cells index))
takes_bits c to_nothing bits = true
takes_bits c target bits = false

abbrev pub well_awaited : Context → Target → (io_arg : ℕ) → Awaited → Bool
well_awaited c target a (take_number form) = is_reader (type_at c (arg a)) && takes_bits c target (bits_of (read_width form))
well_awaited c target a (skip n) = is_reader (type_at c (arg a)) && (has_none target && (may_go_into 32 n && well_num c n))
well_awaited c target a (write b) = is_writer (type_at c (arg a)) && (has_none target && (may_go_into 8 b && well_num c b))

abbrev pub well_written : Context → Target → Written → Bool
well_written c target (skip_fast a actual worst_case) =
    is_reader (type_at c (arg a)) && (has_none target && ((may_go_into 32 actual && well_num c actual) && (may_go_into 32 worst_case && well_num c worst_case)))
well_written c target (write_fast a b) = is_writer (type_at c (arg a)) && (has_none target && (may_go_into 8 b && well_num c b))
well_written c target (copy_to_writer a source) = is_writer (type_at c (arg a)) && (takes_bits c target 64 && slice_of c 8 source)
well_written c target (copy_to_slice to source) = takes_bits c target 64 && (well_slice c to && slice_of c (element_type to).bits source)

-- What becomes of a call's answer: `=?` keeps the status of a coroutine, and another target takes the declared result.
abbrev pub takes_answer : Context → Target → (keep : Bool) → Mark → Option Ty → Bool
takes_answer c target true Coroutine gives = is_status_target target && takes c target types.Status
takes_answer c target true mark gives = false
takes_answer c target false Coroutine gives = has_none target
takes_answer c target false mark None = has_none target
takes_answer c target false mark (Some ty) = takes c target ty

abbrev pub same_mark : (a b : Mark) → Bool
same_mark Pure Pure = true
same_mark Impure Impure = true
same_mark Coroutine Coroutine = true
same_mark a b = false

-- The struct whose method is called, and whether only its public methods may be.
abbrev pub struct_of_field : Option Ty → Option ℕ
struct_of_field (Some (types.Part s)) = Some s.0
struct_of_field ty = None

abbrev pub calls_method : Context → Called → MethodTree → Bool
calls_method c (own m) callee = nat_eq callee.of c.method.of
calls_method c (sub x m) callee = callee.public && is_some (option_and_then (λ s. if nat_eq s callee.of then Some s else None) (struct_of_field (field_at c.within c.method.of x)))

abbrev pub number_of : Called → ℕ
number_of (own m) = m
number_of (sub x m) = m

-- The reader or writer that is handed on, by its number among the arguments of the calling method.
abbrev pub io_handed : ValueTree → Option ℕ
io_handed (io at a) = Some a
io_handed t = None

abbrev pub is_that : ℕ → Option ℕ → Bool
is_that a None = false
is_that a (Some b) = nat_eq a b

abbrev pub hands_on : (a : ℕ) → List ValueTree → Bool
hands_on a ts = list_any (λ t. is_that a (io_handed t)) ts

-- It isn't handed on again by the arguments after it.
abbrev pub never_again : Option ℕ → List ValueTree → Bool
never_again None ts = true
never_again (Some a) ts = not (hands_on a ts)

-- No reader and no writer is handed on twice.
abbrev pub hands_on_once : List ValueTree → Bool
hands_on_once [] = true
hands_on_once (t ∷ ts) = never_again (io_handed t) ts && hands_on_once ts

abbrev pub well_invoked : Context → Target → (keep : Bool) → Mark → Called → List ValueTree → Option MethodTree → Bool
well_invoked c target keep mark called args None = false
well_invoked c target keep mark called args (Some callee) =
    same_mark mark callee.mark && (allows c.method.mark mark && (calls_method c called callee && (fit_types c callee.args args
    && (takes_answer c target keep mark callee.gives && hands_on_once args))))

abbrev pub well_returned : Context → Mark → Option Ty → Option ValueTree → Bool
well_returned c Coroutine gives (Some (state t)) = well_status c t
well_returned c Coroutine gives value = false
well_returned c mark None None = true
well_returned c mark (Some ty) (Some value) = fits_type c ty value
well_returned c mark gives value = false

abbrev pub is_suspension : Option (List ℕ) → Bool
is_suspension (Some text) = same_category Suspension (category_of text)
is_suspension None = false

abbrev pub well_axiom : Context → Option Axiom → Bool
well_axiom c None = true
well_axiom c (Some a) = list_all (λ g. well_num c g.1) a.given

-- `loops` are the numbers of the loops round the statement.
abbrev pub well_simple : Context → (loops : List ℕ) → Simple → Bool
well_simple c loops (assign target None value) = well_assigned c target value
well_simple c loops (assign target (Some op) value) = well_assigned c target value && is_operator op value
well_simple c loops (await at target a call) = is_coroutine c.method.mark && well_awaited c target a call
well_simple c loops (perform at target call) = not (is_pure c.method.mark) && well_written c target call
well_simple c loops (invoke at target keep mark called args) = well_invoked c target keep mark called args (slice_get c.within.methods (number_of called))
well_simple c loops (break_from w) = list_any (nat_eq w) loops
well_simple c loops (continue_in w) = list_any (nat_eq w) loops
well_simple c loops (give_back value) = well_returned c c.method.mark c.method.gives value
well_simple c loops (yield n) = is_coroutine c.method.mark && is_suspension (slice_get c.within.statuses n)
well_simple c loops (claim goal ax) = well_cond c goal && well_axiom c ax

-- A `break` of the loop with this number stands in the block.
abbrev pub breaks : (w : ℕ) → Block → Bool
breaks w end = false
breaks w (plain site (break_from v) rest) = nat_eq v w || breaks w rest
breaks w (plain site s rest) = breaks w rest
breaks w (choose site chained c a b rest) = breaks w a || (breaks w b || breaks w rest)
breaks w (loop site head body rest) = breaks w body || breaks w rest

abbrev pub well_block : Context → (loops : List ℕ) → Block → Bool
well_block c loops end = true
well_block c loops (plain site s rest) = well_simple c loops s && well_block c loops rest
well_block c loops (choose site chained cond a b rest) = well_cond c cond && (well_block c loops a && (well_block c loops b && well_block c loops rest))
well_block c loops (loop site head body rest) =
    well_cond c head.cond && (list_all (λ p. well_cond c p.1) head.clauses && (same_truth head.is_left (breaks site.number body)
    && (well_block c (site.number ∷ loops) body && well_block c loops rest)))

-- A statement that never goes on.
abbrev pub is_word_true : CondTree → Bool
is_word_true (truth at b) = b
is_word_true c = false

abbrev pub leaves : Simple → Bool
leaves (give_back value) = true
leaves (break_from w) = true
leaves (continue_in w) = true
leaves s = false

-- A block that never goes on: one of its statements doesn't.
abbrev pub never_goes_on : Block → Bool
never_goes_on end = false
never_goes_on (plain site s rest) = leaves s || never_goes_on rest
never_goes_on (choose site chained c a b rest) = (never_goes_on a && never_goes_on b) || never_goes_on rest
never_goes_on (loop site head body rest) = (is_word_true head.cond && not head.is_left) || never_goes_on rest

-- Types that hold 0, and the kinds of types that each kind of variable may have.
abbrev pub holds_zero : NumType → Bool
holds_zero of = is_range of && nat_eq of.low 0

abbrev pub may_be_field : PackageTree → Ty → Bool
may_be_field p (types.Num width lo hi) = holds_zero (record { bits = bits_of width; low = lo; high = hi })
may_be_field p types.Flag = true
may_be_field p types.Status = true
may_be_field p (types.Array width lo hi count) = nat_lt 0 count && holds_zero (record { bits = bits_of width; low = lo; high = hi })
may_be_field p (types.Part s) = nat_lt s.0 (length p.structs)
may_be_field p ty = false

abbrev pub may_be_local : Ty → Bool
may_be_local (types.Num width lo hi) = holds_zero (record { bits = bits_of width; low = lo; high = hi })
may_be_local types.Flag = true
may_be_local types.Status = true
may_be_local (types.Slice width) = true
may_be_local ty = false

abbrev pub may_be_arg : Ty → Bool
may_be_arg (types.Num width lo hi) = is_range (record { bits = bits_of width; low = lo; high = hi })
may_be_arg types.Flag = true
may_be_arg types.Reader = true
may_be_arg types.Writer = true
may_be_arg (types.Slice width) = true
may_be_arg ty = false

abbrev pub may_be_result : Mark → Option Ty → Bool
may_be_result mark None = true
may_be_result Coroutine (Some ty) = false
may_be_result mark (Some (types.Num width lo hi)) = holds_zero (record { bits = bits_of width; low = lo; high = hi })
may_be_result mark (Some types.Flag) = true
may_be_result mark (Some types.Status) = true
may_be_result mark (Some ty) = false

-- A method with a result never reaches its end.
abbrev pub answers_always : Mark → Option Ty → Block → Bool
answers_always mark None body = true
answers_always mark (Some ty) body = never_goes_on body

abbrev pub well_method : PackageTree → MethodTree → Bool
well_method p m =
    nat_lt m.of (length p.structs) && (list_all (λ x. may_be_arg x.ty) m.args && (list_all (λ x. may_be_local x.ty) m.locals
    && (may_be_result m.mark m.gives && (answers_always m.mark m.gives m.body && well_block (record { within = p; method = m }) [] m.body))))

-- The methods that a block calls.
abbrev pub calls_only : (ℕ → Bool) → Block → Bool
calls_only known end = true
calls_only known (plain site (invoke at target keep mark called args) rest) = known (number_of called) && calls_only known rest
calls_only known (plain site s rest) = calls_only known rest
calls_only known (choose site chained c a b rest) = calls_only known a && (calls_only known b && calls_only known rest)
calls_only known (loop site head body rest) = calls_only known body && calls_only known rest

abbrev pub is_among : List ℕ → ℕ → Bool
is_among ms m = list_any (nat_eq m) ms

abbrev pub calls_known : (ℕ → Bool) → Option MethodTree → Bool
calls_known known None = false
calls_known known (Some method) = calls_only known method.body

-- Each method of the list calls only those that stand before it.
abbrev pub calls_in_front : PackageTree → (front rest : List ℕ) → Bool
calls_in_front p front [] = true
calls_in_front p front (m ∷ ms) = calls_known (is_among front) (slice_get p.methods m) && (not (is_among front m) && calls_in_front p (m ∷ front) ms)

-- No struct holds itself: with so many levels of fields every struct is whole.
abbrev pub is_whole_type : (ℕ → Bool) → Ty → Bool
is_whole_type whole (types.Part s) = whole s.0
is_whole_type whole ty = true

abbrev pub is_whole_struct : (ℕ → Bool) → Option StructTree → Bool
is_whole_struct whole None = false
is_whole_struct whole (Some it) = list_all (λ x. is_whole_type whole x.ty) it.fields

abbrev pub is_whole : PackageTree → (levels s : ℕ) → Bool
is_whole p zero s = false
is_whole p (suc levels) s = is_whole_struct (is_whole p levels) (slice_get p.structs s)

abbrev pub all_structs_whole : PackageTree → (n : ℕ) → List StructTree → Bool
all_structs_whole p n [] = true
all_structs_whole p n (s ∷ ss) = is_whole p (length p.structs) n && (list_all (λ x. may_be_field p x.ty) s.fields && all_structs_whole p (suc n) ss)

-- Each struct of the list holds only those that stand before it.
abbrev pub structs_in_front : PackageTree → (front rest : List ℕ) → Bool
structs_in_front p front [] = true
structs_in_front p front (s ∷ ss) = is_whole_struct (is_among front) (slice_get p.structs s) && (not (is_among front s) && structs_in_front p (s ∷ front) ss)

-- The order of the structs has them all, each after those that its fields hold.
abbrev pub has_struct_order : PackageTree → Bool
has_struct_order p = nat_eq (length p.struct_order) (length p.structs) && structs_in_front p [] p.struct_order

-- A package that keeps the rules.
unfoldable pub well_typed : PackageTree → Bool
well_typed p = all_structs_whole p 0 p.structs && (list_all (well_method p) p.methods && (nat_eq (length p.order) (length p.methods) && (calls_in_front p [] p.order && has_struct_order p)))
