-- A statement without blocks of its own, before the code that follows it.
use Rattle.std.specs.Prelude.{ℕ, zero, suc, ◌/◌, Bool, true, false, ◌&&◌, ◌||◌, if◌then◌else◌, nat_eq, List, [], ◌∷◌, ◌++◌, Option, None, Some, slice_get, bytes_eq, codes}
use Rattle.wf_text.specs.declared.categories.Category.TheVariants.{Suspension}
use Rattle.wf_base.specs.declared.marks.Mark.{Mark}
use Rattle.wf_base.specs.declared.base_methods.ReadForm.{ReadForm}
use Rattle.wf_base.specs.declared.base_methods.ReadForm.TheVariants.{ReadU8, ReadU16Be, ReadU32Be, ReadU64Be}
use Rattle.wf_base.specs.BaseTable.{bits_of, bytes_of, read_width}
use Rattle.wf_ast.specs.declared.types.Ty.{Ty}
use Rattle.wf_ast.specs.declared.types.Ty.TheVariants as types
use Rattle.wf_ast.specs.TypedTree.{local, NumTree, SliceTree, slice, array, cut, StatusTree, status, ValueTree, numeric, logical, state, elements, io, lost, Target, to_number, to_element, to_flag, to_status, to_slice, to_nothing, Awaited, take_number, skip, write, Written, skip_fast, write_fast, copy_to_writer, copy_to_slice, Called, own, sub, Simple, assign, await, perform, invoke, break_from, continue_in, give_back, yield}
use Rattle.wf_ast.specs.TypedPackage.{MethodTree, PackageTree}
use Rattle.wf_ast.specs.WellTyped.{is_coroutine, number_of}
use Rattle.wf_meaning.specs.Entry.{has_kind, short_read, short_write, cannot_suspend}
use Rattle.wf_meaning.specs.Remaining.{is_point}
use Rattle.c_text.specs.declared.kinds.COp.TheVariants.{Add, Sub, Mul, Shl, Lt, Gt, Ge, Eq, Both}
use Rattle.c_text.specs.declared.kinds.CUnary.TheVariants.{Address}
use Rattle.c_text.specs.CTree.{ExprTree, variable, element, unary, cast, Code, finish, jump}
use Rattle.c_text.specs.CTree as c
use Rattle.wf_exprs.specs.Names.{Names, local_pointer, local_length, field_name, body_name, entry_name, again_label, behind_label}
use Rattle.wf_exprs.specs.Words.{num, uint_of, two, self, of_self, args}
use Rattle.wf_exprs.specs.Exprs.{Pair, path_code, lowered_expr, lowered_slice, given, lowered_status, lowered_cond, status_constant, widened, begins_with, io_code, place_code, end_code, bytes_code, there, number_ahead}
use Rattle.wf_lower_stmts.specs.Forms.{Form, status_local, got_local, size_local, held_local, count_local, stays, when, put, get, give, suspend, resume_here}

-- Targets. What stands in C for one that takes a single value.
abbrev pub target_code : Names → Target → Option ExprTree
target_code names (to_number at of path) = Some (path_code names path)
target_code names (to_element at of cells index) = Some (element (lowered_slice names cells).pointer (lowered_expr names index))
target_code names (to_flag at path) = Some (path_code names path)
target_code names (to_status at path) = Some (path_code names path)
target_code names (to_slice at bits path) = None
target_code names to_nothing = None

-- Whether both are one variable of C: a local or an argument, by its name. Elements and fields aren't asked for.
abbrev pub is_same_variable : (e other : ExprTree) → Bool
is_same_variable (variable name) (variable name') = bytes_eq name name'
is_same_variable e other = false

-- A variable isn't assigned to itself, since compilers remark on it: nothing stands for `x = x`, and a slice that is made shorter
-- keeps its pointer.
abbrev pub set_place : (place value : ExprTree) → (rest : Code) → Code
set_place place value rest = if is_same_variable place value then rest else c.assign place value rest

abbrev pub put_into : Names → Target → (value : ExprTree) → (rest : Code) → Code
put_into names target value rest = by_target (target_code names target)
  where
    by_target : Option ExprTree → Code
    by_target None = rest
    by_target (Some place) = set_place place value rest

-- A slice is assigned as two values. Its length is put aside first, since the new pointer may ask for the old length.
abbrev pub set_slice : Names → Target → Pair → (rest : Code) → Code
set_slice names (to_slice at bits (local n)) it rest =
    c.assign size_local it.length.code (set_place (variable (local_pointer names n)) it.pointer (c.assign (variable (local_length names n)) size_local rest))
set_slice names target it rest = rest

abbrev pub set_value : Names → Target → ValueTree → (rest : Code) → Code
set_value names target (numeric t) rest = put_into names target (given names t) rest
set_value names target (logical t) rest = put_into names target (lowered_cond names t) rest
set_value names target (state t) rest = put_into names target (lowered_status names t) rest
set_value names target (elements t) rest = set_slice names target (lowered_slice names t) rest
set_value names target value rest = rest

-- Base calls that suspend. `begun` stands before the point's label, and `awoken` after it: a resumed call goes on
-- with what it has. A target is found once its byte is taken, since its index may ask how many are left.
abbrev pub step_on : Names → (io_arg : ℕ) → (bytes : ExprTree) → (rest : Code) → Code
step_on names a bytes rest = c.assign (place_code names a) (two Add (place_code names a) bytes) rest

abbrev pub next_byte : Names → (io_arg : ℕ) → ExprTree
next_byte names a = element (bytes_code names a) (place_code names a)

-- The byte that was taken last.
abbrev pub taken_byte : Names → (io_arg : ℕ) → ExprTree
taken_byte names a = element (bytes_code names a) (two Sub (place_code names a) (num 1))

abbrev pub is_used_up : Names → (io_arg : ℕ) → ExprTree
is_used_up names a = two Ge (place_code names a) (end_code names a)

abbrev pub is_big_endian : ReadForm → Bool
is_big_endian ReadU16Be = true
is_big_endian ReadU32Be = true
is_big_endian ReadU64Be = true
is_big_endian form = false

-- One more byte of a number: after those that are there, or before them.
abbrev pub with_byte : (big : Bool) → (byte : ExprTree) → ExprTree
with_byte true byte = two Add (two Shl held_local (num 8)) byte
with_byte false byte = two Add held_local (two Shl (cast (uint_of 64) byte) (two Mul (num 8) count_local))

abbrev pub take_byte : Names → (io_arg : ℕ) → ReadForm → (rest : Code) → Code
take_byte names a form rest =
    when (two Both (two Lt count_local (num (bytes_of (read_width form)))) (two Lt (place_code names a) (end_code names a)))
    (c.assign held_local (with_byte (is_big_endian form) (next_byte names a)) (step_on names a (num 1) (c.assign count_local (two Add count_local (num 1)) finish))) rest

abbrev pub take_bytes : Names → (io_arg : ℕ) → ReadForm → (so_many : ℕ) → (rest : Code) → Code
take_bytes names a form zero rest = rest
take_bytes names a form (suc n) rest = take_byte names a form (take_bytes names a form n rest)

-- The byte of a write: the constant or the local itself, else what was kept of it.
abbrev pub written_byte : Names → NumTree → ExprTree
written_byte names byte = if stays byte then given names byte else held_local

-- A number whose bytes are all there is taken at once.
abbrev pub are_all_there : Names → (io_arg : ℕ) → ReadForm → ExprTree
are_all_there names a form = two Ge (there names a) (num (bytes_of (read_width form)))

abbrev pub take_all : Names → (io_arg : ℕ) → ReadForm → Code
take_all names a form =
    c.assign held_local (number_ahead names a (bits_of (read_width form)) (is_big_endian form))
    (step_on names a (num (bytes_of (read_width form))) (c.assign count_local (num (bytes_of (read_width form))) finish))

abbrev pub begun_call : Names → (io_arg : ℕ) → Awaited → (rest : Code) → Code
begun_call names a (take_number ReadU8) rest = rest
begun_call names a (take_number form) rest =
    c.assign held_local (num 0) (c.assign count_local (num 0) (when (are_all_there names a form) (take_all names a form) rest))
begun_call names a (skip count) rest = c.assign held_local (given names count) rest
begun_call names a (write byte) rest = if stays byte then rest else c.assign held_local (given names byte) rest

abbrev pub awoken_call : Form → (k : ℕ) → Target → (io_arg : ℕ) → Awaited → (rest : Code) → Code
awoken_call f k target a (take_number ReadU8) rest =
    when (is_used_up f.names a) (suspend f k (status_constant short_read) finish)
    (step_on f.names a (num 1) (put_into f.names target (taken_byte f.names a) rest))
awoken_call f k target a (take_number form) rest =
    take_bytes f.names a form (bytes_of (read_width form))
    (when (two Lt count_local (num (bytes_of (read_width form)))) (suspend f k (status_constant short_read) finish)
    (put_into f.names target held_local rest))
awoken_call f k target a (skip count) rest =
    when (two Gt held_local (there f.names a))
    (c.assign held_local (two Sub held_local (there f.names a)) (c.assign (place_code f.names a) (end_code f.names a) (suspend f k (status_constant short_read) finish)))
    (step_on f.names a held_local rest)
awoken_call f k target a (write byte) rest =
    when (is_used_up f.names a) (suspend f k (status_constant short_write) finish)
    (c.assign (next_byte f.names a) (written_byte f.names byte) (step_on f.names a (num 1) rest))

-- Base calls that don't suspend. Nothing is moved where there is nothing to move, since a pointer may then be null.
abbrev pub slice_bits : SliceTree → ℕ
slice_bits (slice at bits path) = bits
slice_bits (array at of count path) = of.bits
slice_bits (cut at cells from to) = slice_bits cells

abbrev pub bytes_for : (bits : ℕ) → ExprTree
bytes_for bits = if nat_eq bits 8 then size_local else two Mul size_local (num (bits / 8))

-- The second length stands beside `size` in a comparison: one that is calculated in `int` comes with a cast.
abbrev pub least_size : (one other : ExprTree) → (rest : Code) → Code
least_size one other rest = c.assign size_local one (when (two Gt size_local other) (c.assign size_local other finish) rest)

abbrev pub move : (bits : ℕ) → (to from : ExprTree) → (rest : Code) → Code
move bits to from rest = when size_local (c.call None (codes "memmove") (args (to ∷ from ∷ bytes_for bits ∷ [])) finish) rest

abbrev pub lower_written : Names → Target → Written → (rest : Code) → Code
lower_written names target (skip_fast a actual worst_case) rest = step_on names a (lowered_expr names actual) rest
lower_written names target (write_fast a byte) rest = c.assign (next_byte names a) (given names byte) (step_on names a (num 1) rest)
lower_written names target (copy_to_writer a source) rest =
    least_size (lowered_slice names source).length.code (there names a)
    (move 8 (two Add (bytes_code names a) (place_code names a)) (lowered_slice names source).pointer
    (step_on names a size_local (put_into names target size_local rest)))
lower_written names target (copy_to_slice to source) rest =
    least_size (lowered_slice names to).length.code (widened 64 (lowered_slice names source).length).code
    (move (slice_bits to) (lowered_slice names to).pointer (lowered_slice names source).pointer (put_into names target size_local rest))

-- Calls of methods.
abbrev pub value_codes : Names → ValueTree → List ExprTree
value_codes names (numeric t) = given names t ∷ []
value_codes names (logical t) = lowered_cond names t ∷ []
value_codes names (state t) = lowered_status names t ∷ []
value_codes names (elements t) = (lowered_slice names t).pointer ∷ (lowered_slice names t).length.code ∷ []
value_codes names (io at a) = io_code names a ∷ []
value_codes names lost = []

abbrev pub values_codes : Names → List ValueTree → List ExprTree
values_codes names [] = []
values_codes names (t ∷ ts) = value_codes names t ++ values_codes names ts

-- The buffers that a call is passed.
abbrev pub is_passed : List ValueTree → (io_arg : ℕ) → Bool
is_passed [] n = false
is_passed (io at a ∷ ts) n = nat_eq a n || is_passed ts n
is_passed (t ∷ ts) n = is_passed ts n

-- An own method's body is called as it is; one through a field by its entry.
abbrev pub receiver_code : Names → Called → ExprTree
receiver_code names (own m) = self
receiver_code names (sub x m) = unary Address (of_self (field_name names x))

abbrev pub callee_name : PackageTree → Called → MethodTree → List ℕ
callee_name p (own n) m = body_name p m
callee_name p (sub x n) m = entry_name p m

-- The local that takes what a call gives.
abbrev pub answer_local : Mark → Option Ty → Option ExprTree
answer_local mark gives = if is_coroutine mark then Some status_local else by_type gives
  where
    by_type : Option Ty → Option ExprTree
    by_type None = None
    by_type (Some types.Status) = Some status_local
    by_type (Some ty) = Some got_local

abbrev pub is_wanted : Target → Bool
is_wanted to_nothing = false
is_wanted target = true

abbrev pub call_into : Form → (into : Option ExprTree) → Called → MethodTree → List ValueTree → (rest : Code) → Code
call_into f into called callee given_args rest =
    put f.names (is_passed given_args) 0 f.method.args
    (c.call into (callee_name f.within called callee) (args (receiver_code f.names called ∷ values_codes f.names given_args))
    (get f.names (is_passed given_args) 0 f.method.args rest))

-- Any status but ok ends the caller's call too: a suspension suspends it, and every other is returned.
abbrev pub hand_on : Form → (k : ℕ) → (rest : Code) → Code
hand_on f k rest =
    when status_local (when (two Eq (num 36) (element status_local (num 0))) (suspend f k status_local finish) (give f (Some status_local) finish)) rest

abbrev pub put_result : Names → Target → (into : Option ExprTree) → (rest : Code) → Code
put_result names target None rest = rest
put_result names target (Some result) rest = put_into names target result rest

abbrev pub lower_call : Form → Target → Called → MethodTree → List ValueTree → (rest : Code) → Code
lower_call f target called callee given_args rest =
    call_into f (if is_wanted target then answer_local callee.mark callee.gives else None) called callee given_args
    (put_result f.names target (answer_local callee.mark callee.gives) rest)

abbrev pub handed_call : Form → (k : ℕ) → Called → Option MethodTree → List ValueTree → (rest : Code) → Code
handed_call f k called None given_args rest = rest
handed_call f k called (Some callee) given_args rest = call_into f (Some status_local) called callee given_args (hand_on f k rest)

abbrev pub plain_call : Form → Target → Called → Option MethodTree → List ValueTree → (rest : Code) → Code
plain_call f target called None given_args rest = rest
plain_call f target called (Some callee) given_args rest = lower_call f target called callee given_args rest

-- Returns. A coroutine can't return a suspension: one that is known is the error at once, and a variable is asked.
abbrev pub is_suspension : Form → ℕ → Bool
is_suspension f n = has_kind f.within Suspension n

abbrev pub give_status : Form → StatusTree → (rest : Code) → Code
give_status f (status at n) rest = give f (Some (status_constant (if is_coroutine f.method.mark && is_suspension f n then cannot_suspend else n))) rest
give_status f t rest =
    if is_coroutine f.method.mark
    then c.assign status_local (lowered_status f.names t) (when (begins_with 36 status_local) (c.assign status_local (status_constant cannot_suspend) finish) (give f (Some status_local) rest))
    else give f (Some (lowered_status f.names t)) rest

abbrev pub give_value : Form → Option ValueTree → (rest : Code) → Code
give_value f None rest = give f None rest
give_value f (Some (numeric t)) rest = give f (Some (given f.names t)) rest
give_value f (Some (logical t)) rest = give f (Some (lowered_cond f.names t)) rest
give_value f (Some (state t)) rest = give_status f t rest
give_value f (Some value) rest = rest

-- What stands before a point's label, and what after it.
abbrev pub begun : Form → (k : ℕ) → Simple → (rest : Code) → Code
begun f k (await at target a call) rest = begun_call f.names a call rest
begun f k (yield n) rest = suspend f k (status_constant n) rest
begun f k s rest = rest

abbrev pub awoken : Form → (k : ℕ) → Simple → (rest : Code) → Code
awoken f k (await at target a call) rest = awoken_call f k target a call rest
awoken f k (invoke at target keep mark called given_args) rest = handed_call f k called (slice_get f.within.methods (number_of called)) given_args rest
awoken f k s rest = rest

abbrev pub lower_point : Form → (k : ℕ) → Simple → (rest : Code) → Code
lower_point f k s rest = begun f k s (resume_here k (awoken f k s rest))

-- A statement that is no point. An assertion was checked, and leaves nothing.
abbrev pub lower_plain : Form → Simple → (rest : Code) → Code
lower_plain f (assign target op value) rest = set_value f.names target value rest
lower_plain f (perform at target call) rest = lower_written f.names target call rest
lower_plain f (invoke at target keep mark called given_args) rest = plain_call f target called (slice_get f.within.methods (number_of called)) given_args rest
lower_plain f (break_from w) rest = jump (behind_label w) rest
lower_plain f (continue_in w) rest = jump (again_label w) rest
lower_plain f (give_back value) rest = give_value f value rest
lower_plain f s rest = rest

abbrev pub lower_simple : Form → (k : ℕ) → Simple → (rest : Code) → Code
lower_simple f k s rest = if is_point s then lower_point f k s rest else lower_plain f s rest
