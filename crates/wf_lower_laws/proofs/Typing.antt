-- What statements of a method are lowered to has the types that C asks, in a scope that has all that they name.
use Rattle.std.proofs.Common.{◌≡◌, ◌⊎◌, inl, inr, ℕ, zero, suc, ◌+◌, ◌/◌, Bool, true, false, not, ◌&&◌, ◌||◌, List, [], ◌∷◌, ◌++◌, Option, Some, None, nat_eq, refl, sym, ap, ◌∙◌, subst, arith}
use Rattle.std.specs.Prelude.{map, if◌then◌else◌, is_some, slice_get, codes, bytes_eq, option_and_then, option_map}
use Rattle.std.specs.List.{list_all, AllByRecursion}
use Rattle.std.proofs.lemmas.Bool.Decides.{nat_tests}
use Rattle.std.proofs.lemmas.Slice.Eq.{bytes_eq-Decides}
use Rattle.wf_text.specs.declared.place.Place.{Place}
use Rattle.wf_base.specs.declared.base_methods.ReadForm.{ReadForm}
use Rattle.wf_base.specs.declared.base_methods.ReadForm.TheVariants.{ReadU8, ReadU16Be, ReadU16Le, ReadU32Be, ReadU32Le, ReadU64Be, ReadU64Le}
use Rattle.wf_base.specs.BaseTable.{bits_of, bytes_of, read_width}
use Rattle.wf_base.specs.Effects.{allows}
use Rattle.wf_base.specs.declared.marks.Mark.{Mark}
use Rattle.wf_base.specs.declared.marks.Mark.TheVariants.{Pure, Impure, Coroutine}
use Rattle.wf_ast.specs.declared.types.Ty.{Ty}
use Rattle.wf_ast.specs.declared.types.Ty.TheVariants as types
use Rattle.wf_ast.specs.TypedPackage.{Variable, MethodTree, kind_of, answers_of, answer_kind}
use Rattle.wf_ast.specs.TypedTree.{Path, local, field, arg, NumType, Arith, plus, minus, times, divided, remainder, shift_left, shift_right, bits_and, bits_or, bits_xor, mod_plus, mod_minus, mod_times, mod_shift_left, sat_plus, sat_minus, Question, reader_length, reader_position, peek, writer_length, writer_position, NumTree, number, read, element, link, convert, length_of, asked, SliceTree, slice, array, cut, EndTree, absent, present, CondTree, truth, flag, compare, same_status, junction, negation, closed, has_category, ValueTree, numeric, logical, state, elements, io, lost, StatusTree, status, held, no_status, Target, to_number, to_element, to_flag, to_status, to_slice, to_nothing, Awaited, take_number, skip, write, Written, skip_fast, write_fast, copy_to_writer, copy_to_slice, Called, Simple, assign, await, perform, invoke, break_from, continue_in, give_back, yield, claim, Site, Block, end, plain, choose, loop}
use Rattle.wf_ast.specs.WellTyped.{Context, type_at, is_width, is_range, is_number, is_slice, is_flag, is_status, is_reader, is_writer, may_go_into, fits, is_shift, continues, same_num_type, is_unrefined, is_whole_number, element_type, well_num, well_part, well_slice, well_end, well_status, well_cond, slice_of, fits_type, fit_types, is_coroutine, is_pure, may_write, takes, well_assigned, is_operator, has_none, is_status_target, takes_bits, well_awaited, well_written, takes_answer, same_mark, calls_method, number_of, well_invoked, well_returned, well_simple, breaks, well_block, calls_only, is_suspension, may_be_arg, may_be_result}
use Rattle.wf_ast.proofs.Arena.{both_true}
use Rattle.wf_meaning.specs.Entry.{short_read, short_write, cannot_suspend}
use Rattle.wf_meaning.specs.Remaining.{is_point, hands_on}
use Rattle.c_text.specs.declared.kinds.CUint.TheVariants.{U8, U64}
use Rattle.c_text.specs.declared.kinds.COp.TheVariants.{Add, Sub, Mul, Shl, Lt, Gt, Ge, Eq, Both}
use Rattle.c_text.specs.declared.kinds.CNumber.TheVariants.{Int}
use Rattle.c_text.specs.CTree.{TypeTree, uint, size, boolean, uint_pointer, struct_pointer, text, ExprTree, variable, member, Code, finish, empty, leave, name_label, ParamTree}
use Rattle.c_text.specs.CTree as c_tree
use Rattle.c_meaning.specs.CTypes.{CScope, Function, points_to, object, byte, one, assignable, passable, type_of, held_of, arg_types, function_named, io_buffer, held_type, value_type, promoted, numbers}
use Rattle.wf_num.specs.declared.c_arithmetic.CTy.TheVariants as ctys
use Rattle.c_meaning.specs.CStep.{Callee, callee_of, own as own_function}
use Rattle.c_meaning.specs.UnitForm.{uint_of as form_uint, Checked, has_type, formed_return, formed_call, is_called, may_keep, answer_type, arg_params, args_params}
use Rattle.wf_exprs.specs.Names.{local_pointer, local_length, point_field, held_field, count_field, struct_type, again_label, behind_label}
use Rattle.wf_exprs.specs.Words.{num, uint_of, width_of, two, of_self, args}
use Rattle.wf_exprs.specs.Exprs.{bare, path_code, lowered_expr, lowered_slice, given, lowered_status, lowered_cond, status_constant, begins_with, io_code, place_code, end_code, bytes_code, there}
use Rattle.wf_exprs.specs.Reads.{expr_reads, code_reads}
use Rattle.wf_lower_stmts.specs.Forms.{Form, status_local, got_local, size_local, held_local, count_local, is_io, is_kept, local_code, saved_code, stays, holds_something, counts_bytes, keeps, place_in, end_of, when, put, get, save_locals, restore_locals, save_count, save_started, give, suspend, resume_here}
use Rattle.wf_lower_stmts.specs.Lower.{lower, continues as continues_in, again_here, behind_here, other_kind, returns, ending, ending_of, has_result, tail_of, top}
use Rattle.wf_lower_stmts.specs.Statements.{put_into, is_same_variable, set_place, set_slice, set_value, step_on, next_byte, taken_byte, is_used_up, is_big_endian, with_byte, take_byte, take_bytes, written_byte, are_all_there, take_all, begun_call, awoken_call, slice_bits, bytes_for, least_size, move, lower_written, value_codes, values_codes, is_passed, receiver_code, callee_name, answer_local, is_wanted, call_into, hand_on, put_result, handed_call, plain_call, give_status, give_value, lower_point, lower_plain, lower_simple, is_suspension as is_held_back}
use Rattle.wf_lower.specs.Bodies.{params_of, result_of}
use Rattle.wf_lower_laws.specs.KindLaw.{IsNum, IsPointer, IsText, Declares, KeepKinds, has_op, has_question, num_served, slice_served, end_served, status_served, cond_served}
use Rattle.wf_lower_laws.proofs.Apart.{left_or, right_or}
use Rattle.wf_lower_laws.proofs.Names.{both_hold}
use Rattle.wf_lower_laws.proofs.ExprKinds.{expressions_keep_kinds, number_ahead_kind, num_kind, taken_kind, two_kind, cast_kind, widened_kind, plus_kind, begins_kind}
use Rattle.wf_lower_laws.proofs.Frames.{same_bytes, is_variable, is_result_of}
use Rattle.wf_lower_laws.proofs.Straight.{over, straight_reads, gets, sets}
use Rattle.wf_lower_laws.proofs.CodeTypes.{Fits, num_fits, text_fits, pointer_fits, Cell, NumCell, variable_num, CodeOk, ok_finish, ok_if, ok_assign, ok_number, ok_read, ok_leave, ok_branch, ok_when, ok_repeat, ok_jump, ok_empty, ok_case, ok_label, ok_call, ok_when_assigned, Or, absorb, widen, num_typed, num_counts, fits_typed}

-- ---- all that an expression uses is there

abbrev pub all_helpers : (sum : Bool) → (bits : ℕ) → Bool
all_helpers sum bits = is_width bits

abbrev pub all_bytes : (io_arg : ℕ) → Bool
all_bytes a = true

module _ (x : Context) where
  op_served : (op : Arith) (bits : ℕ) → is_width bits ≡ true → has_op all_helpers op bits ≡ true
  op_served sat_plus bits w = w
  op_served sat_minus bits w = w
  op_served plus bits w = refl
  op_served minus bits w = refl
  op_served times bits w = refl
  op_served divided bits w = refl
  op_served remainder bits w = refl
  op_served shift_left bits w = refl
  op_served shift_right bits w = refl
  op_served bits_and bits w = refl
  op_served bits_or bits w = refl
  op_served bits_xor bits w = refl
  op_served mod_plus bits w = refl
  op_served mod_minus bits w = refl
  op_served mod_times bits w = refl
  op_served mod_shift_left bits w = refl

  question_served : (q : Question) (a : ℕ) → has_question all_helpers all_bytes q a ≡ true
  question_served reader_length a = refl
  question_served reader_position a = refl
  question_served (peek form) a = refl
  question_served writer_length a = refl
  question_served writer_position a = refl

  mutual
    served_num : (t : NumTree) → well_part x t ≡ true → num_served all_helpers all_bytes t ≡ true
    served_num (number at n) w = refl
    served_num (read at of path) w = refl
    served_num (element at of cells index) w =
        let p = both_true (same_num_type of (element_type cells)) _ w in
        let q = both_true (well_slice x cells) _ p.1 in
        let r = both_true (is_whole_number index) (well_part x index) q.1 in
        both_hold (slice_served all_helpers all_bytes cells) (num_served all_helpers all_bytes index) (served_slice cells q.0) (served_num index r.1)
    served_num (link at sign op bits joined a b) w =
        let o = both_true (is_width bits) _ w in
        let q = (both_true (fits bits a) _ o.1).1 in
        let r = (both_true (is_shift op || fits bits b) _ q).1 in
        let u = (both_true (not joined || continues op bits a) _ r).1 in
        let v = (both_true (joined || is_whole_number a) _ u).1 in
        let y = both_true (well_part x a) _ v in
        let z = both_true (is_whole_number b) (well_part x b) y.1 in
        both_hold (has_op all_helpers op bits) _ (op_served op bits o.0) (both_hold (num_served all_helpers all_bytes a) (num_served all_helpers all_bytes b) (served_num a y.0) (served_num b z.1))
    served_num (convert at sign bits a) w =
        let p = (both_true (is_width bits) _ w).1 in
        served_num a (both_true (is_whole_number a) (well_part x a) p).1
    served_num (length_of at cells) w = served_slice cells w
    served_num (asked at question a) w = question_served question a

    served_slice : (t : SliceTree) → well_slice x t ≡ true → slice_served all_helpers all_bytes t ≡ true
    served_slice (slice at bits path) w = refl
    served_slice (array at of count path) w = refl
    served_slice (cut at cells from to) w =
        let p = (both_true (is_unrefined (element_type cells)) _ w).1 in
        let q = both_true (well_slice x cells) _ p in
        let r = both_true (well_end x from) (well_end x to) q.1 in
        both_hold (slice_served all_helpers all_bytes cells) _ (served_slice cells q.0) (both_hold (end_served all_helpers all_bytes from) (end_served all_helpers all_bytes to) (served_end from r.0) (served_end to r.1))

    served_end : (e : EndTree) → well_end x e ≡ true → end_served all_helpers all_bytes e ≡ true
    served_end absent w = refl
    served_end (present e) w = served_num e (both_true (is_whole_number e) (well_part x e) w).1

  abbrev pub known_status : ℕ → Bool
  known_status n = is_some (slice_get x.within.statuses n)

  served_status : (t : StatusTree) → well_status x t ≡ true → status_served known_status t ≡ true
  served_status (status at n) w = w
  served_status (held at path) w = refl
  served_status no_status w = refl

  served_cond : (t : CondTree) → well_cond x t ≡ true → cond_served all_helpers known_status all_bytes t ≡ true
  served_cond (truth at b) w = refl
  served_cond (flag at path) w = refl
  served_cond (compare at sign a op b) w =
      let p = (both_true _ (well_num x a && well_num x b) w).1 in
      let q = both_true (well_num x a) (well_num x b) p in
      both_hold (num_served all_helpers all_bytes a) (num_served all_helpers all_bytes b) (served_num a (both_true (is_whole_number a) (well_part x a) q.0).1) (served_num b (both_true (is_whole_number b) (well_part x b) q.1).1)
  served_cond (same_status at sign a same b) w =
      let p = both_true (well_status x a) (well_status x b) w in
      both_hold (status_served known_status a) (status_served known_status b) (served_status a p.0) (served_status b p.1)
  served_cond (junction at both joined a b) w =
      let p = both_true (well_cond x a) (well_cond x b) w in
      both_hold (cond_served all_helpers known_status all_bytes a) (cond_served all_helpers known_status all_bytes b) (served_cond a p.0) (served_cond b p.1)
  served_cond (negation at a) w = served_cond a w
  served_cond (closed at a) w = refl
  served_cond (has_category at t category) w = served_status t w

-- ---- a scope that serves a method

pub reader_is_io : (ty : Ty) → is_reader (Some ty) ≡ true → is_io ty ≡ true
reader_is_io types.Reader e = refl
reader_is_io types.Writer e = refl
reader_is_io types.Flag e = absurd (cc e)
reader_is_io types.Status e = absurd (cc e)
reader_is_io (types.Num width lo hi) e = absurd (cc e)
reader_is_io (types.Slice width) e = absurd (cc e)
reader_is_io (types.Array width lo hi count) e = absurd (cc e)
reader_is_io (types.Part t) e = absurd (cc e)

pub writer_is_io : (ty : Ty) → is_writer (Some ty) ≡ true → is_io ty ≡ true
writer_is_io types.Writer e = refl
writer_is_io types.Reader e = refl
writer_is_io types.Flag e = absurd (cc e)
writer_is_io types.Status e = absurd (cc e)
writer_is_io (types.Num width lo hi) e = absurd (cc e)
writer_is_io (types.Slice width) e = absurd (cc e)
writer_is_io (types.Array width lo hi count) e = absurd (cc e)
writer_is_io (types.Part t) e = absurd (cc e)

abbrev pub around : Form → Context
around f = record { within = f.within; method = f.method }

module _ (c : Checked) (f : Form) (Settled : List ℕ → Type 0) (CallOk : List ℕ → Type 0) where
  abbrev S : CScope
  S = c.scope

  abbrev x : Context
  x = around f

  abbrev m : MethodTree
  m = f.method

  -- A reader or writer, the argument with this number, with the pointer to its bytes.
  pub record IoCells (n : ℕ) (ty : Ty) : Type 0 where
    pub place : NumCell Settled S (place_code f.names n)
    pub end : NumCell Settled S (end_code f.names n)
    pub field : NumCell Settled S (place_in (io_code f.names n) ty)
    pub field_num : IsNum S (place_in (io_code f.names n) ty)
    pub limit : IsNum S (end_of (io_code f.names n) ty)
    pub pointer : type_of S (io_code f.names n) ≡ Some (points_to (object io_buffer))
    pub bytes : IsPointer S 8 (bytes_code f.names n)

  -- A local that is kept, and the field that keeps it.
  pub record KeptCells (v : Variable) : Type 0 where
    pub type : TypeTree
    pub saved : Cell Settled S type (saved_code m.name v)
    pub own : Cell Settled S type (local_code v)
    pub saved_fits : Fits S type (saved_code m.name v)
    pub own_fits : Fits S type (local_code v)

  abbrev pub Kept : Variable → Type 0
  Kept v = is_kept v.ty ≡ true → is_coroutine m.mark ≡ true → KeptCells v

  -- A function that is called.
  pub record Callable (called : Called) (callee : MethodTree) : Type 0 where
    pub function : Function
    pub found : function_named S.functions (callee_name f.within called callee) ≡ Some function
    pub params : function.params ≡ params_of f.within callee
    pub result : function.result_type ≡ result_of callee
    pub args_are : list_all (λ v. may_be_arg v.ty) callee.args ≡ true
    pub result_is : may_be_result callee.mark callee.gives ≡ true
    pub is_own : callee_of (callee_name f.within called callee) ≡ own_function
    pub receiver : type_of S (receiver_code f.names called) ≡ Some (points_to (object (struct_type f.within callee.of)))
    pub ok : CallOk (callee_name f.within called callee)

  pub record Serves (known : ℕ → Bool) : Type 0 where
    pub declares : Declares S x f.names all_helpers (known_status x) all_bytes
    pub base : (n : ℕ) → n ≡ short_read ⊎ ((n ≡ short_write) ⊎ (n ≡ cannot_suspend)) → known_status x n ≡ true
    pub numbers : (of : NumType) (path : Path) → may_write m.mark path ≡ true → is_number of (type_at x path) ≡ true → NumCell Settled S (path_code f.names path)
    pub flags : (path : Path) → may_write m.mark path ≡ true → is_flag (type_at x path) ≡ true → NumCell Settled S (path_code f.names path)
    pub statuses : (path : Path) → may_write m.mark path ≡ true → is_status (type_at x path) ≡ true → Cell Settled S text (path_code f.names path)
    pub pointers : (bits n : ℕ) → is_slice bits (type_at x (local n)) ≡ true → Cell Settled S (uint_pointer (width_of bits)) (variable (local_pointer f.names n))
    pub lengths : (bits n : ℕ) → is_slice bits (type_at x (local n)) ≡ true → NumCell Settled S (variable (local_length f.names n))
    pub buffers : (n : ℕ) (v : Variable) → slice_get m.args n ≡ Some v → is_io v.ty ≡ true → IoCells n v.ty
    pub kept : AllByRecursion Kept m.locals
    pub point : is_coroutine m.mark ≡ true → NumCell Settled S (of_self (point_field m.name))
    pub held_kept : is_coroutine m.mark ≡ true → keeps holds_something m.body ≡ true → NumCell Settled S (of_self (held_field m.name))
    pub count_kept : is_coroutine m.mark ≡ true → keeps counts_bytes m.body ≡ true → NumCell Settled S (of_self (count_field m.name))
    pub status_held : held_of S status_local ≡ Some (one text)
    pub got_held : held_of S got_local ≡ Some (one (uint U64))
    pub size_held : held_of S size_local ≡ Some (one size)
    pub held_held : held_of S held_local ≡ Some (one (uint U64))
    pub count_held : held_of S count_local ≡ Some (one (uint U8))
    pub held_settled : is_coroutine m.mark ≡ true → keeps holds_something m.body ≡ true → Settled (codes "held")
    pub count_settled : is_coroutine m.mark ≡ true → keeps counts_bytes m.body ≡ true → Settled (codes "count")
    pub callable : (called : Called) (callee : MethodTree) → slice_get f.within.methods (number_of called) ≡ Some callee → calls_method x called callee ≡ true → known (number_of called) ≡ true → Callable called callee
    pub result : c.result_type ≡ result_of m
    pub moves : CallOk (codes "memmove")

  module _ (known : ℕ → Bool) (s : Serves known) where
    abbrev Ok : Code → Type 0
    Ok code = CodeOk c Settled CallOk code

    done : Ok finish
    done = ok_finish c Settled CallOk

    kinds : KeepKinds S x f.names all_helpers (known_status x) all_bytes
    kinds = expressions_keep_kinds S x f.names all_helpers (known_status x) all_bytes s.declares

    -- ---- expressions

    number_ok : (t : NumTree) → well_part x t ≡ true → IsNum S (lowered_expr f.names t)
    number_ok t w = kinds.numbers t w (served_num x t w)

    whole_ok : (t : NumTree) → well_num x t ≡ true → IsNum S (lowered_expr f.names t)
    whole_ok t w = number_ok t (both_true (is_whole_number t) (well_part x t) w).1

    bare_part : (t : NumTree) → well_part x t ≡ true → IsNum S (lowered_expr f.names (bare t))
    bare_part (convert at sign bits a) w = bare_part a (both_true (is_whole_number a) (well_part x a) (both_true (is_width bits) _ w).1).1
    bare_part (number at n) w = number_ok (number at n) w
    bare_part (read at of path) w = number_ok (read at of path) w
    bare_part (element at of cells index) w = number_ok (element at of cells index) w
    bare_part (link at sign op bits joined a b) w = number_ok (link at sign op bits joined a b) w
    bare_part (length_of at cells) w = number_ok (length_of at cells) w
    bare_part (asked at question a) w = number_ok (asked at question a) w

    given_part : (t : NumTree) → well_part x t ≡ true → IsNum S (given f.names t)
    given_part (convert at sign bits a) w = taken_kind S bits _ (bare_part a (both_true (is_whole_number a) (well_part x a) (both_true (is_width bits) _ w).1).1)
    given_part (number at n) w = number_ok (number at n) w
    given_part (read at of path) w = number_ok (read at of path) w
    given_part (element at of cells index) w = number_ok (element at of cells index) w
    given_part (link at sign op bits joined a b) w = taken_kind S bits _ (number_ok (link at sign op bits joined a b) w)
    given_part (length_of at cells) w = number_ok (length_of at cells) w
    given_part (asked at question a) w = number_ok (asked at question a) w

    given_ok : (t : NumTree) → well_num x t ≡ true → IsNum S (given f.names t)
    given_ok t w = given_part t (both_true (is_whole_number t) (well_part x t) w).1

    cond_ok : (t : CondTree) → well_cond x t ≡ true → IsNum S (lowered_cond f.names t)
    cond_ok t w = kinds.conditions t w (served_cond x t w)

    status_ok : (t : StatusTree) → well_status x t ≡ true → IsText S (lowered_status f.names t)
    status_ok t w = kinds.statuses t w (served_status x t w)

    slice_ok : (t : SliceTree) → well_slice x t ≡ true → IsPointer S (element_type t).bits (lowered_slice f.names t).pointer × IsNum S (lowered_slice f.names t).length.code
    slice_ok t w = kinds.slices t w (served_slice x t w)

    constant_ok : (n : ℕ) → known_status x n ≡ true → IsText S (status_constant n)
    constant_ok n k = s.declares.constants n k

    size_num : IsNum S size_local
    size_num = variable_num S size (codes "size") refl s.size_held

    held_num : IsNum S held_local
    held_num = variable_num S (uint U64) (codes "held") refl s.held_held

    count_num : IsNum S count_local
    count_num = variable_num S (uint U8) (codes "count") refl s.count_held

    got_num : IsNum S got_local
    got_num = variable_num S (uint U64) (codes "got") refl s.got_held

    status_text : IsText S status_local
    status_text = inr (ap (option_and_then held_type) s.status_held)

    element_cell : (bits : ℕ) (p i : ExprTree) → IsPointer S bits p → IsNum S i → NumCell Settled S (c_tree.element p i)
    element_cell bits p i h j = record { type = uint (width_of bits); numeric = refl; cell = record { held = rw (h, j.is, j.counts) refl; settled = λ name e. absurd (cc e) } }

    element_num : (bits : ℕ) (p i : ExprTree) → IsPointer S bits p → IsNum S i → IsNum S (c_tree.element p i)
    element_num bits p i h j = record { type = value_type (uint (width_of bits)); is = rw (h, j.is, j.counts) refl; ty = promoted (width_of bits); counts = refl }

    -- ---- places of buffers

    abbrev Args : (n : ℕ) → List Variable → Type 0
    Args n xs = (i : ℕ) (v : Variable) → slice_get xs i ≡ Some v → slice_get m.args (n + i) ≡ Some v

    args_next : (n : ℕ) (v : Variable) (xs : List Variable) → Args n (v ∷ xs) → Args (suc n) xs
    args_next n v xs h i y e =
        let same : n + suc i ≡ suc n + i = omega arith in
        let P : ℕ → Type 0 = λ k. slice_get m.args k ≡ Some y in
        subst P same (h (suc i) y e)

    args_first : (n : ℕ) (v : Variable) (xs : List Variable) → Args n (v ∷ xs) → slice_get m.args n ≡ Some v
    args_first n v xs h =
        let same : n + 0 ≡ n = omega arith in
        let P : ℕ → Type 0 = λ k. slice_get m.args k ≡ Some v in
        subst P same (h 0 v refl)

    args_all : Args 0 m.args
    args_all i v e =
        let same : i ≡ 0 + i = omega arith in
        let P : ℕ → Type 0 = λ k. slice_get m.args k ≡ Some v in
        subst P same e

    place_num : (n : ℕ) (ty : Ty) → IoCells n ty → IsNum S (place_code f.names n)
    place_num n ty b = variable_num S b.place.type _ b.place.numeric b.place.cell.held

    end_num : (n : ℕ) (ty : Ty) → IoCells n ty → IsNum S (end_code f.names n)
    end_num n ty b = variable_num S b.end.type _ b.end.numeric b.end.cell.held

    puts_ok : (picks : ℕ → Bool) (n : ℕ) (xs : List Variable) (rest : Code) → Args n xs → Ok rest → Ok (put f.names picks n xs rest)
    puts_ok picks n [] rest h ok = ok
    puts_ok picks n (v ∷ xs) rest h ok = by (is_io v.ty) refl (puts_ok picks (suc n) xs rest (args_next n v xs h) ok)
      where
        more : Code
        more = put f.names picks (suc n) xs rest

        by : (b : Bool) → is_io v.ty ≡ b → Ok more → Ok (if b then (if picks n then c_tree.assign (place_in (io_code f.names n) v.ty) (place_code f.names n) more else more) else more)
        by false e k = k
        by true e k =
            let it = s.buffers n v (args_first n v xs h) e in
            ok_if c Settled CallOk (picks n) _ more (ok_number c Settled CallOk (place_in (io_code f.names n) v.ty) (place_code f.names n) more it.field (place_num n v.ty it) k) k

    gets_ok : (picks : ℕ → Bool) (n : ℕ) (xs : List Variable) (rest : Code) → Args n xs → Ok rest → Ok (get f.names picks n xs rest)
    gets_ok picks n [] rest h ok = ok
    gets_ok picks n (v ∷ xs) rest h ok = by (is_io v.ty) refl (gets_ok picks (suc n) xs rest (args_next n v xs h) ok)
      where
        more : Code
        more = get f.names picks (suc n) xs rest

        by : (b : Bool) → is_io v.ty ≡ b → Ok more
            → Ok (if b then (if picks n then c_tree.assign (place_code f.names n) (place_in (io_code f.names n) v.ty) (c_tree.assign (end_code f.names n) (end_of (io_code f.names n) v.ty) more) else more) else more)
        by false e k = k
        by true e k =
            let it = s.buffers n v (args_first n v xs h) e in
            ok_if c Settled CallOk (picks n) _ more
            (ok_number c Settled CallOk (place_code f.names n) (place_in (io_code f.names n) v.ty) _ it.place it.field_num (ok_number c Settled CallOk (end_code f.names n) (end_of (io_code f.names n) v.ty) more it.end it.limit k)) k

    -- A reader or writer that a statement names.
    record Buffer (a : ℕ) : Type 0 where
      ty : Ty
      cells : IoCells a ty

    found_buffer : (a : ℕ) (test : Option Ty → Bool) → test (type_at x (arg a)) ≡ true → (test None ≡ true → ⊥) → ((ty : Ty) → test (Some ty) ≡ true → is_io ty ≡ true) → Buffer a
    found_buffer a test h none every = by (slice_get m.args a) refl h
      where
        by : (o : Option Variable) → slice_get m.args a ≡ o → test (option_map (λ v. v.ty) o) ≡ true → Buffer a
        by None e k = absurd (none k)
        by (Some v) e k = record { ty = v.ty; cells = s.buffers a v e (every v.ty k) }

    reader_ok : (a : ℕ) → is_reader (type_at x (arg a)) ≡ true → Buffer a
    reader_ok a h = found_buffer a is_reader h (λ e. absurd (cc e)) reader_is_io

    writer_ok : (a : ℕ) → is_writer (type_at x (arg a)) ≡ true → Buffer a
    writer_ok a h = found_buffer a is_writer h (λ e. absurd (cc e)) writer_is_io

    -- ---- ends of calls

    saves_ok : (xs : List Variable) (rest : Code) → AllByRecursion Kept xs → is_coroutine m.mark ≡ true → Ok rest → Ok (save_locals m.name xs rest)
    saves_ok [] rest k e ok = ok
    saves_ok (v ∷ xs) rest k e ok = by (is_kept v.ty) refl (saves_ok xs rest k.1 e ok)
      where
        by : (b : Bool) → is_kept v.ty ≡ b → Ok (save_locals m.name xs rest) → Ok (if b then c_tree.assign (saved_code m.name v) (local_code v) (save_locals m.name xs rest) else save_locals m.name xs rest)
        by false g more = more
        by true g more = let it = k.0 g e in ok_assign c Settled CallOk it.type (saved_code m.name v) (local_code v) (save_locals m.name xs rest) it.saved it.own_fits more

    pub restores_ok : (xs : List Variable) (rest : Code) → AllByRecursion Kept xs → is_coroutine m.mark ≡ true → Ok rest → Ok (restore_locals m.name xs rest)
    restores_ok [] rest k e ok = ok
    restores_ok (v ∷ xs) rest k e ok = by (is_kept v.ty) refl (restores_ok xs rest k.1 e ok)
      where
        by : (b : Bool) → is_kept v.ty ≡ b → Ok (restore_locals m.name xs rest) → Ok (if b then c_tree.assign (local_code v) (saved_code m.name v) (restore_locals m.name xs rest) else restore_locals m.name xs rest)
        by false g more = more
        by true g more = let it = k.0 g e in ok_assign c Settled CallOk it.type (local_code v) (saved_code m.name v) (restore_locals m.name xs rest) it.own it.saved_fits more

    started_ok : (rest : Code) → is_coroutine m.mark ≡ true → Ok rest → Ok (save_started m rest)
    started_ok rest e ok = by (keeps holds_something m.body) refl (counted (keeps counts_bytes m.body) refl)
      where
        counted : (b : Bool) → keeps counts_bytes m.body ≡ b → Ok (if b then c_tree.assign (of_self (count_field m.name)) count_local rest else rest)
        counted false g = ok
        counted true g = ok_number c Settled CallOk (of_self (count_field m.name)) count_local rest (s.count_kept e g) count_num ok

        by : (b : Bool) → keeps holds_something m.body ≡ b → Ok (save_count m rest) → Ok (if b then c_tree.assign (of_self (held_field m.name)) held_local (save_count m rest) else save_count m rest)
        by false g k = k
        by true g k = ok_number c Settled CallOk (of_self (held_field m.name)) held_local (save_count m rest) (s.held_kept e g) held_num k

    returned : (t : TypeTree) (e : ExprTree) → result_of m ≡ Some t → Fits S t e → formed_return c (Some e) c.result_type ≡ true
    returned t e r h =
        let P : Option TypeTree → Type 0 = λ o. formed_return c (Some e) o ≡ true in
        subst P (sym (s.result ∙ r)) (rw h.is h.fits)

    coroutine_result : is_coroutine m.mark ≡ true → result_of m ≡ Some text
    coroutine_result e = by m.mark e
      where
        by : (mark : Mark) → is_coroutine mark ≡ true → answer_type (answers_of mark m.gives) ≡ Some text
        by Coroutine k = refl
        by Pure k = absurd (cc k)
        by Impure k = absurd (cc k)

    gives_ok : (value : Option ExprTree) (rest : Code) → formed_return c value c.result_type ≡ true → Ok rest → Ok (give f value rest)
    gives_ok value rest r ok = puts_ok (λ n. true) 0 m.args (leave value rest) args_all (ok_leave c Settled CallOk value rest r ok)

    suspends_ok : (k : ℕ) (e : ExprTree) (rest : Code) → is_coroutine m.mark ≡ true → IsText S e → Ok rest → Ok (suspend f k e rest)
    suspends_ok k e rest co h ok =
        saves_ok m.locals _ s.kept co (started_ok _ co (ok_number c Settled CallOk (of_self (point_field m.name)) (num k) _ (s.point co) (num_kind S k)
        (gives_ok (Some e) rest (returned text e (coroutine_result co) (text_fits S e h)) ok)))

    -- ---- targets

    abbrev Takes : Target → ExprTree → Type 0
    Takes (to_number at of path) v = NumCell Settled S (path_code f.names path) × IsNum S v
    Takes (to_element at of cells index) v = NumCell Settled S (c_tree.element (lowered_slice f.names cells).pointer (lowered_expr f.names index)) × IsNum S v
    Takes (to_flag at path) v = NumCell Settled S (path_code f.names path) × IsNum S v
    Takes (to_status at path) v = Cell Settled S text (path_code f.names path) × IsText S v
    Takes (to_slice at bits path) v = Unit {0}
    Takes to_nothing v = Unit {0}

    set_ok : (place v : ExprTree) (rest : Code) → Ok rest → Ok (c_tree.assign place v rest) → Ok (set_place place v rest)
    set_ok place v rest ok assigned_ok = by (is_same_variable place v)
      where
        by : (same : Bool) → Ok (if same then rest else c_tree.assign place v rest)
        by true = ok
        by false = assigned_ok

    into_ok : (t : Target) (v : ExprTree) (rest : Code) → Takes t v → Ok rest → Ok (put_into f.names t v rest)
    into_ok (to_number at of path) v rest h ok = set_ok (path_code f.names path) v rest ok (ok_number c Settled CallOk (path_code f.names path) v rest h.0 h.1 ok)
    into_ok (to_element at of cells index) v rest h ok =
        let place = c_tree.element (lowered_slice f.names cells).pointer (lowered_expr f.names index) in
        set_ok place v rest ok (ok_number c Settled CallOk place v rest h.0 h.1 ok)
    into_ok (to_flag at path) v rest h ok = set_ok (path_code f.names path) v rest ok (ok_number c Settled CallOk (path_code f.names path) v rest h.0 h.1 ok)
    into_ok (to_status at path) v rest h ok = set_ok (path_code f.names path) v rest ok (ok_assign c Settled CallOk text (path_code f.names path) v rest h.0 (text_fits S v h.1) ok)
    into_ok (to_slice at bits path) v rest h ok = ok
    into_ok to_nothing v rest h ok = ok

    read_number : (at : Place) (of : NumType) (path : Path) → well_num x (read at of path) ≡ true → is_number of (type_at x path) ≡ true
    read_number at of path w = (both_true (is_range of) (is_number of (type_at x path)) (both_true (is_whole_number (read at of path)) (well_part x (read at of path)) w).1).1

    element_parts : (at : Place) (of : NumType) (cells : SliceTree) (index : NumTree) → well_num x (element at of cells index) ≡ true → NumCell Settled S (c_tree.element (lowered_slice f.names cells).pointer (lowered_expr f.names index))
    element_parts at of cells index w =
        let p = both_true (same_num_type of (element_type cells)) _ (both_true (is_whole_number (element at of cells index)) (well_part x (element at of cells index)) w).1 in
        let q = both_true (well_slice x cells) _ p.1 in
        let r = both_true (is_whole_number index) (well_part x index) q.1 in
        element_cell (element_type cells).bits _ _ (slice_ok cells q.0).0 (number_ok index r.1)

    bits_taken : (t : Target) (bits : ℕ) (v : ExprTree) → takes_bits x t bits ≡ true → IsNum S v → Takes t v
    bits_taken (to_number at of path) bits v w h =
        let p = both_true (may_write m.mark path) _ w in
        let q = both_true (nat_eq of.bits bits) _ p.1 in
        (s.numbers of path p.0 (read_number at of path q.1), h)
    bits_taken (to_element at of cells index) bits v w h =
        let p = both_true (not (is_pure m.mark)) _ w in
        let q = both_true (nat_eq of.bits bits) _ p.1 in
        (element_parts at of cells index q.1, h)
    bits_taken (to_flag at path) bits v w h = absurd (cc w)
    bits_taken (to_status at path) bits v w h = absurd (cc w)
    bits_taken (to_slice at width path) bits v w h = tt
    bits_taken to_nothing bits v w h = tt

    element_num8 : (a : ℕ) → Buffer a → IsNum S (next_byte f.names a)
    element_num8 a b = element_num 8 _ _ b.cells.bytes (place_num a b.ty b.cells)

    taken_num8 : (a : ℕ) → Buffer a → IsNum S (taken_byte f.names a)
    taken_num8 a b = element_num 8 _ _ b.cells.bytes (two_kind S Sub (place_code f.names a) (num 1) (place_num a b.ty b.cells) (num_kind S 1))

    step_ok : (a : ℕ) (e : ExprTree) (rest : Code) → Buffer a → IsNum S e → Ok rest → Ok (step_on f.names a e rest)
    step_ok a e rest b h ok =
        ok_number c Settled CallOk (place_code f.names a) (two Add (place_code f.names a) e) rest b.cells.place (two_kind S Add (place_code f.names a) e (place_num a b.ty b.cells) h) ok

    -- ---- assignments

    slices_ok : (t : Target) (v : SliceTree) (rest : Code) → well_assigned x t (elements v) ≡ true → Ok rest → Ok (set_slice f.names t (lowered_slice f.names v) rest)
    slices_ok (to_slice at bits (local n)) v rest w ok =
        let p = both_true (is_slice bits (type_at x (local n))) (slice_of x bits v) w in
        let q = both_true (well_slice x v) (nat_eq (element_type v).bits bits) p.1 in
        let it = slice_ok v q.0 in
        let same : (element_type v).bits ≡ bits = grind (arith, nat_tests, q.1) in
        let P : ℕ → Type 0 = λ b. IsPointer S b (lowered_slice f.names v).pointer in
        let length_set = c_tree.assign (variable (local_length f.names n)) size_local rest in
        let length_ok : Ok length_set = ok_number c Settled CallOk (variable (local_length f.names n)) size_local rest (s.lengths bits n p.0) size_num ok in
        ok_read c Settled CallOk size (codes "size") _ _ s.size_held (num_fits S size _ refl it.1) (right_or (expr_reads (codes "size") (lowered_slice f.names v).length.code) _ (straight_reads (codes "size") length_set (set_place (variable (local_pointer f.names n)) (lowered_slice f.names v).pointer length_set) (sets (variable (local_pointer f.names n)) (lowered_slice f.names v).pointer length_set length_set over) refl))
        (set_ok (variable (local_pointer f.names n)) (lowered_slice f.names v).pointer length_set length_ok (ok_assign c Settled CallOk (uint_pointer (width_of bits)) (variable (local_pointer f.names n)) (lowered_slice f.names v).pointer length_set (s.pointers bits n p.0) (pointer_fits S bits _ (subst P same it.0)) length_ok))
    slices_ok (to_slice at bits (field n)) v rest w ok = ok
    slices_ok (to_slice at bits (arg n)) v rest w ok = ok
    slices_ok (to_number at of path) v rest w ok = ok
    slices_ok (to_element at of cells index) v rest w ok = ok
    slices_ok (to_flag at path) v rest w ok = ok
    slices_ok (to_status at path) v rest w ok = ok
    slices_ok to_nothing v rest w ok = ok

    number_taken : (t : Target) (v : NumTree) → well_assigned x t (numeric v) ≡ true → Takes t (given f.names v)
    number_taken (to_number at of path) v w =
        let p = both_true (may_write m.mark path) _ w in
        let q = both_true (well_num x (read at of path)) _ p.1 in
        (s.numbers of path p.0 (read_number at of path q.0), given_ok v (both_true (may_go_into of.bits v) (well_num x v) q.1).1)
    number_taken (to_element at of cells index) v w =
        let p = both_true (not (is_pure m.mark)) _ w in
        let q = both_true (well_num x (element at of cells index)) _ p.1 in
        (element_parts at of cells index q.0, given_ok v (both_true (may_go_into of.bits v) (well_num x v) q.1).1)
    number_taken (to_flag at path) v w = absurd (cc w)
    number_taken (to_status at path) v w = absurd (cc w)
    number_taken (to_slice at bits path) v w = tt
    number_taken to_nothing v w = tt

    flag_taken : (t : Target) (v : CondTree) → well_assigned x t (logical v) ≡ true → Takes t (lowered_cond f.names v)
    flag_taken (to_flag at path) v w =
        let p = both_true (may_write m.mark path) _ w in
        let q = both_true (is_flag (type_at x path)) (well_cond x v) p.1 in
        (s.flags path p.0 q.0, cond_ok v q.1)
    flag_taken (to_number at of path) v w = absurd (cc w)
    flag_taken (to_element at of cells index) v w = absurd (cc w)
    flag_taken (to_status at path) v w = absurd (cc w)
    flag_taken (to_slice at bits path) v w = tt
    flag_taken to_nothing v w = tt

    state_taken : (t : Target) (v : StatusTree) → well_assigned x t (state v) ≡ true → Takes t (lowered_status f.names v)
    state_taken (to_status at path) v w =
        let p = both_true (may_write m.mark path) _ w in
        let q = both_true (is_status (type_at x path)) (well_status x v) p.1 in
        (s.statuses path p.0 q.0, status_ok v q.1)
    state_taken (to_number at of path) v w = absurd (cc w)
    state_taken (to_element at of cells index) v w = absurd (cc w)
    state_taken (to_flag at path) v w = absurd (cc w)
    state_taken (to_slice at bits path) v w = tt
    state_taken to_nothing v w = tt

    values_ok : (t : Target) (v : ValueTree) (rest : Code) → well_assigned x t v ≡ true → Ok rest → Ok (set_value f.names t v rest)
    values_ok t (numeric v) rest w ok = into_ok t _ rest (number_taken t v w) ok
    values_ok t (logical v) rest w ok = into_ok t _ rest (flag_taken t v w) ok
    values_ok t (state v) rest w ok = into_ok t _ rest (state_taken t v w) ok
    values_ok t (elements v) rest w ok = slices_ok t v rest w ok
    values_ok t (io at a) rest w ok = ok
    values_ok t lost rest w ok = ok

    -- ---- base calls that suspend

    with_ok : (big : Bool) (e : ExprTree) → IsNum S e → IsNum S (with_byte big e)
    with_ok true e h = two_kind S Add (two Shl held_local (num 8)) e (two_kind S Shl held_local (num 8) held_num (num_kind S 8)) h
    with_ok false e h =
        two_kind S Add held_local _ held_num (two_kind S Shl (c_tree.cast (uint_of 64) e) (two Mul (num 8) count_local) (cast_kind S 64 e h) (two_kind S Mul (num 8) count_local (num_kind S 8) count_num))

    with_reads : (big : Bool) (e : ExprTree) → expr_reads (codes "held") (with_byte big e) ≡ true
    with_reads true e = refl
    with_reads false e = refl

    used_ok : (a : ℕ) → Buffer a → has_type c (is_used_up f.names a) ≡ true
    used_ok a b = num_typed c Settled CallOk _ (two_kind S Ge (place_code f.names a) (end_code f.names a) (place_num a b.ty b.cells) (end_num a b.ty b.cells))

    there_ok : (a : ℕ) → Buffer a → IsNum S (there f.names a)
    there_ok a b = two_kind S Sub (end_code f.names a) (place_code f.names a) (end_num a b.ty b.cells) (place_num a b.ty b.cells)

    take_ok : (a : ℕ) (form : ReadForm) (rest : Code) → Buffer a → Ok rest → Ok (take_byte f.names a form rest)
    take_ok a form rest b ok =
        ok_when c Settled CallOk _ _ rest
        (num_typed c Settled CallOk _ (two_kind S Both _ _ (two_kind S Lt count_local (num (bytes_of (read_width form))) count_num (num_kind S (bytes_of (read_width form)))) (two_kind S Lt (place_code f.names a) (end_code f.names a) (place_num a b.ty b.cells) (end_num a b.ty b.cells))))
        (ok_read c Settled CallOk (uint U64) (codes "held") _ _ s.held_held (num_fits S (uint U64) _ refl (with_ok (is_big_endian form) _ (element_num8 a b))) (left_or _ _ (with_reads (is_big_endian form) (next_byte f.names a)))
        (step_ok a (num 1) _ b (num_kind S 1) (ok_read c Settled CallOk (uint U8) (codes "count") _ finish s.count_held (num_fits S (uint U8) _ refl (two_kind S Add count_local (num 1) count_num (num_kind S 1))) refl done))) ok

    takes_ok : (a : ℕ) (form : ReadForm) (n : ℕ) (rest : Code) → Buffer a → Ok rest → Ok (take_bytes f.names a form n rest)
    takes_ok a form zero rest b ok = ok
    takes_ok a form (suc n) rest b ok = take_ok a form (take_bytes f.names a form n rest) b (takes_ok a form n rest b ok)

    taken_ok : (k : ℕ) (t : Target) (a : ℕ) (form : ReadForm) (rest : Code) → is_coroutine m.mark ≡ true → Buffer a → Takes t held_local → Ok rest
        → Ok (take_bytes f.names a form (bytes_of (read_width form)) (when (two Lt count_local (num (bytes_of (read_width form)))) (suspend f k (status_constant short_read) finish) (put_into f.names t held_local rest)))
    taken_ok k t a form rest co b h ok =
        takes_ok a form (bytes_of (read_width form)) _ b
        (ok_when c Settled CallOk _ _ _ (num_typed c Settled CallOk _ (two_kind S Lt count_local (num (bytes_of (read_width form))) count_num (num_kind S (bytes_of (read_width form)))))
        (suspends_ok k (status_constant short_read) finish co (constant_ok short_read (s.base short_read (inl refl))) done) (into_ok t held_local rest h ok))

    well_taken : (t : Target) (a : ℕ) (form : ReadForm) (v : ExprTree) → well_awaited x t a (take_number form) ≡ true → IsNum S v → Buffer a × Takes t v
    well_taken t a form v w h = let p = both_true (is_reader (type_at x (arg a))) _ w in (reader_ok a p.0, bits_taken t (bits_of (read_width form)) v p.1 h)

    stays_same : (b : NumTree) → well_num x b ≡ true → IsNum S (written_byte f.names b)
    stays_same b w = by (stays b)
      where
        by : (test : Bool) → IsNum S (if test then given f.names b else held_local)
        by true = given_ok b w
        by false = held_num

    awoken_call_ok : (k : ℕ) (t : Target) (a : ℕ) (call : Awaited) (rest : Code) → is_coroutine m.mark ≡ true → well_awaited x t a call ≡ true → Ok rest → Ok (awoken_call f k t a call rest)
    awoken_call_ok k t a (take_number ReadU8) rest co w ok =
        let b = (well_taken t a ReadU8 held_local w held_num).0 in
        ok_when c Settled CallOk _ _ _ (used_ok a b) (suspends_ok k (status_constant short_read) finish co (constant_ok short_read (s.base short_read (inl refl))) done)
        (step_ok a (num 1) _ b (num_kind S 1) (into_ok t (taken_byte f.names a) rest (well_taken t a ReadU8 (taken_byte f.names a) w (taken_num8 a b)).1 ok))
    awoken_call_ok k t a (take_number ReadU16Be) rest co w ok = let p = well_taken t a ReadU16Be held_local w held_num in taken_ok k t a ReadU16Be rest co p.0 p.1 ok
    awoken_call_ok k t a (take_number ReadU16Le) rest co w ok = let p = well_taken t a ReadU16Le held_local w held_num in taken_ok k t a ReadU16Le rest co p.0 p.1 ok
    awoken_call_ok k t a (take_number ReadU32Be) rest co w ok = let p = well_taken t a ReadU32Be held_local w held_num in taken_ok k t a ReadU32Be rest co p.0 p.1 ok
    awoken_call_ok k t a (take_number ReadU32Le) rest co w ok = let p = well_taken t a ReadU32Le held_local w held_num in taken_ok k t a ReadU32Le rest co p.0 p.1 ok
    awoken_call_ok k t a (take_number ReadU64Be) rest co w ok = let p = well_taken t a ReadU64Be held_local w held_num in taken_ok k t a ReadU64Be rest co p.0 p.1 ok
    awoken_call_ok k t a (take_number ReadU64Le) rest co w ok = let p = well_taken t a ReadU64Le held_local w held_num in taken_ok k t a ReadU64Le rest co p.0 p.1 ok
    awoken_call_ok k t a (skip n) rest co w ok =
        let b = reader_ok a (both_true (is_reader (type_at x (arg a))) _ w).0 in
        let left = two_kind S Sub held_local (there f.names a) held_num (there_ok a b) in
        ok_when c Settled CallOk _ _ _ (num_typed c Settled CallOk _ (two_kind S Gt held_local (there f.names a) held_num (there_ok a b)))
        (ok_read c Settled CallOk (uint U64) (codes "held") _ _ s.held_held (num_fits S (uint U64) _ refl left) refl
        (ok_number c Settled CallOk (place_code f.names a) (end_code f.names a) _ b.cells.place (end_num a b.ty b.cells) (suspends_ok k (status_constant short_read) finish co (constant_ok short_read (s.base short_read (inl refl))) done)))
        (step_ok a held_local rest b held_num ok)
    awoken_call_ok k t a (write n) rest co w ok =
        let p = both_true (is_writer (type_at x (arg a))) _ w in
        let b = writer_ok a p.0 in
        let q = both_true (has_none t) _ p.1 in
        let r = both_true (may_go_into 8 n) (well_num x n) q.1 in
        ok_when c Settled CallOk _ _ _ (used_ok a b) (suspends_ok k (status_constant short_write) finish co (constant_ok short_write (s.base short_write (inr (inl refl)))) done)
        (ok_number c Settled CallOk (next_byte f.names a) (written_byte f.names n) _ (element_cell 8 _ _ b.cells.bytes (place_num a b.ty b.cells)) (stays_same n r.1) (step_ok a (num 1) rest b (num_kind S 1) ok))

    -- What has begun is read where it goes on.
    reads_behind : (name : List ℕ) (k : ℕ) (rest : Code) → code_reads name rest ≡ true → code_reads name (resume_here k rest) ≡ true
    reads_behind name k rest h = h

    -- A number whose bytes are all there. What is held and counted so is read behind it.
    abbrev Holding : List ℕ → Type 0
    Holding = Or (Or Settled (codes "held")) (codes "count")

    all_ok : (a : ℕ) (form : ReadForm) → Buffer a → CodeOk c Holding CallOk (take_all f.names a form)
    all_ok a form b =
        let all = num (bytes_of (read_width form)) in
        let place = place_num a b.ty b.cells in
        let holds : Cell Holding S (uint U64) held_local = record { held = s.held_held; settled = λ name e. inl (inr ((bytes_eq-Decides name (codes "held")).0 e)) } in
        let counts : Cell Holding S (uint U8) count_local = record { held = s.count_held; settled = λ name e. inr ((bytes_eq-Decides name (codes "count")).0 e) } in
        let stands : NumCell Holding S (place_code f.names a) = record { type = b.cells.place.type; numeric = b.cells.place.numeric; cell = record { held = b.cells.place.cell.held; settled = λ name e. inl (inl (b.cells.place.cell.settled name e)) } } in
        ok_assign c Holding CallOk (uint U64) held_local _ _ holds (num_fits S (uint U64) _ refl (number_ahead_kind S f.names a place b.cells.bytes (bits_of (read_width form)) (is_big_endian form)))
        (ok_number c Holding CallOk (place_code f.names a) (two Add (place_code f.names a) all) _ stands (two_kind S Add (place_code f.names a) all place (num_kind S (bytes_of (read_width form))))
        (ok_assign c Holding CallOk (uint U8) count_local all finish counts (num_fits S (uint U8) all refl (num_kind S (bytes_of (read_width form)))) (ok_finish c Holding CallOk)))

    reads_after : (name : List ℕ) (test : ExprTree) (body rest : Code) → code_reads name rest ≡ true → code_reads name (when test body rest) ≡ true
    reads_after name test body rest h = right_or (expr_reads name test) _ (right_or (code_reads name body) _ h)

    all_when_ok : (a : ℕ) (form : ReadForm) (rest : Code) → Buffer a → code_reads (codes "held") rest ≡ true → code_reads (codes "count") rest ≡ true → Ok rest → Ok (when (are_all_there f.names a form) (take_all f.names a form) rest)
    all_when_ok a form rest b h g ok =
        let test = are_all_there f.names a form in
        let body = take_all f.names a form in
        absorb c Settled CallOk (codes "held") (when test body rest)
        (absorb c (Or Settled (codes "held")) CallOk (codes "count") (when test body rest)
        (ok_when c Holding CallOk test body rest
        (num_typed c Settled CallOk test (two_kind S Ge (there f.names a) (num (bytes_of (read_width form))) (there_ok a b) (num_kind S (bytes_of (read_width form))))) (all_ok a form b)
        (widen c (Or Settled (codes "held")) CallOk (codes "count") rest (widen c Settled CallOk (codes "held") rest ok))) (reads_after (codes "count") test body rest g)) (reads_after (codes "held") test body rest h)

    begun_taken : (a : ℕ) (form : ReadForm) (rest : Code) → Buffer a → code_reads (codes "held") rest ≡ true → code_reads (codes "count") rest ≡ true → Ok rest
        → Ok (c_tree.assign held_local (num 0) (c_tree.assign count_local (num 0) (when (are_all_there f.names a form) (take_all f.names a form) rest)))
    begun_taken a form rest b h g ok =
        ok_read c Settled CallOk (uint U64) (codes "held") (num 0) _ s.held_held (num_fits S (uint U64) (num 0) refl (num_kind S 0)) (reads_after (codes "held") (are_all_there f.names a form) (take_all f.names a form) rest h)
        (ok_read c Settled CallOk (uint U8) (codes "count") (num 0) _ s.count_held (num_fits S (uint U8) (num 0) refl (num_kind S 0)) (reads_after (codes "count") (are_all_there f.names a form) (take_all f.names a form) rest g)
        (all_when_ok a form rest b h g ok))

    resume_ok : (k : ℕ) (rest : Code) → Ok rest → Ok (resume_here k rest)
    resume_ok k rest ok = ok_when c Settled CallOk (num 0) _ rest (num_typed c Settled CallOk (num 0) (num_kind S 0)) (ok_case c Settled CallOk (Int k) _ (ok_empty c Settled CallOk finish done)) ok

    point_number_ok : (k : ℕ) (t : Target) (a : ℕ) (form : ReadForm) (rest : Code) → is_coroutine m.mark ≡ true → well_awaited x t a (take_number form) ≡ true → Ok rest
        → code_reads (codes "held") (awoken_call f k t a (take_number form) rest) ≡ true → code_reads (codes "count") (awoken_call f k t a (take_number form) rest) ≡ true
        → Ok (c_tree.assign held_local (num 0) (c_tree.assign count_local (num 0) (when (are_all_there f.names a form) (take_all f.names a form) (resume_here k (awoken_call f k t a (take_number form) rest)))))
    point_number_ok k t a form rest co w ok h g =
        let behind = awoken_call f k t a (take_number form) rest in
        begun_taken a form (resume_here k behind) (well_taken t a form held_local w held_num).0 (reads_behind (codes "held") k behind h) (reads_behind (codes "count") k behind g)
        (resume_ok k behind (awoken_call_ok k t a (take_number form) rest co w ok))

    point_call_ok : (k : ℕ) (t : Target) (a : ℕ) (call : Awaited) (rest : Code) → is_coroutine m.mark ≡ true → well_awaited x t a call ≡ true → Ok rest → Ok (begun_call f.names a call (resume_here k (awoken_call f k t a call rest)))
    point_call_ok k t a (take_number ReadU8) rest co w ok = resume_ok k _ (awoken_call_ok k t a (take_number ReadU8) rest co w ok)
    point_call_ok k t a (take_number ReadU16Be) rest co w ok = point_number_ok k t a ReadU16Be rest co w ok refl refl
    point_call_ok k t a (take_number ReadU16Le) rest co w ok = point_number_ok k t a ReadU16Le rest co w ok refl refl
    point_call_ok k t a (take_number ReadU32Be) rest co w ok = point_number_ok k t a ReadU32Be rest co w ok refl refl
    point_call_ok k t a (take_number ReadU32Le) rest co w ok = point_number_ok k t a ReadU32Le rest co w ok refl refl
    point_call_ok k t a (take_number ReadU64Be) rest co w ok = point_number_ok k t a ReadU64Be rest co w ok refl refl
    point_call_ok k t a (take_number ReadU64Le) rest co w ok = point_number_ok k t a ReadU64Le rest co w ok refl refl
    point_call_ok k t a (skip n) rest co w ok =
        let p = both_true (is_reader (type_at x (arg a))) _ w in
        let q = both_true (has_none t) _ p.1 in
        let r = both_true (may_go_into 32 n) (well_num x n) q.1 in
        ok_read c Settled CallOk (uint U64) (codes "held") (given f.names n) _ s.held_held (num_fits S (uint U64) _ refl (given_ok n r.1)) (right_or (expr_reads (codes "held") (given f.names n)) _ refl) (resume_ok k _ (awoken_call_ok k t a (skip n) rest co w ok))
    point_call_ok k t a (write n) rest co w ok = by (stays n) refl (resume_ok k _ (awoken_call_ok k t a (write n) rest co w ok))
      where
        reads_byte : stays n ≡ false → expr_reads (codes "held") (written_byte f.names n) ≡ true
        reads_byte e = rw e refl

        reads_it : stays n ≡ false → code_reads (codes "held") (awoken_call f k t a (write n) rest) ≡ true
        reads_it e = right_or (code_reads (codes "held") (suspend f k (status_constant short_write) finish)) _ (left_or _ _ (reads_byte e))

        by : (b : Bool) → stays n ≡ b → Ok (resume_here k (awoken_call f k t a (write n) rest))
            → Ok (if b then resume_here k (awoken_call f k t a (write n) rest) else c_tree.assign held_local (given f.names n) (resume_here k (awoken_call f k t a (write n) rest)))
        by true e more = more
        by false e more =
            let p = both_true (is_writer (type_at x (arg a))) _ w in
            let q = both_true (has_none t) _ p.1 in
            let r = both_true (may_go_into 8 n) (well_num x n) q.1 in
            ok_read c Settled CallOk (uint U64) (codes "held") (given f.names n) (resume_here k (awoken_call f k t a (write n) rest)) s.held_held (num_fits S (uint U64) (given f.names n) refl (given_ok n r.1))
            (right_or (expr_reads (codes "held") (given f.names n)) (code_reads (codes "held") (resume_here k (awoken_call f k t a (write n) rest))) (reads_behind (codes "held") k (awoken_call f k t a (write n) rest) (reads_it e))) more

    -- ---- base calls that don't suspend

    bits_same : (t : SliceTree) → slice_bits t ≡ (element_type t).bits
    bits_same (slice at bits path) = refl
    bits_same (array at of count path) = refl
    bits_same (cut at cells from to) = bits_same cells

    least_ok : (one_size other : ExprTree) (rest : Code) → IsNum S one_size → IsNum S other → Ok rest → Ok (least_size one_size other rest)
    least_ok one_size other rest h j ok =
        ok_read c Settled CallOk size (codes "size") one_size _ s.size_held (num_fits S size _ refl h) (right_or (expr_reads (codes "size") one_size) _ refl)
        (ok_when_assigned c Settled CallOk size (codes "size") (two Gt size_local other) other rest s.size_held (num_typed c Settled CallOk _ (two_kind S Gt size_local other size_num j)) (num_fits S size other refl j) refl ok)

    bytes_num : (bits : ℕ) → IsNum S (bytes_for bits)
    bytes_num bits = by (nat_eq bits 8)
      where
        by : (b : Bool) → IsNum S (if b then size_local else two Mul size_local (num (bits / 8)))
        by true = size_num
        by false = two_kind S Mul size_local (num (bits / 8)) size_num (num_kind S (bits / 8))

    move_ok : (bits own_bits : ℕ) (to from : ExprTree) (rest : Code) → IsPointer S own_bits to → IsPointer S own_bits from → Ok rest → Ok (move bits to from rest)
    move_ok bits own_bits to from rest h j ok =
        ok_when c Settled CallOk size_local _ rest (num_typed c Settled CallOk size_local size_num)
        (ok_call c Settled CallOk None (codes "memmove") (args (to ∷ from ∷ bytes_for bits ∷ [])) finish (rw (h, j) (num_counts c Settled CallOk (bytes_for bits) (bytes_num bits))) s.moves (λ name e. absurd (cc e)) done) ok

    written_ok : (t : Target) (call : Written) (rest : Code) → well_written x t call ≡ true → Ok rest → Ok (lower_written f.names t call rest)
    written_ok t (skip_fast a actual worst_case) rest w ok =
        let p = both_true (is_reader (type_at x (arg a))) _ w in
        let q = both_true (has_none t) _ p.1 in
        let r = both_true (may_go_into 32 actual && well_num x actual) _ q.1 in
        step_ok a _ rest (reader_ok a p.0) (whole_ok actual (both_true (may_go_into 32 actual) (well_num x actual) r.0).1) ok
    written_ok t (write_fast a n) rest w ok =
        let p = both_true (is_writer (type_at x (arg a))) _ w in
        let q = both_true (has_none t) _ p.1 in
        let r = both_true (may_go_into 8 n) (well_num x n) q.1 in
        let b = writer_ok a p.0 in
        ok_number c Settled CallOk (next_byte f.names a) (given f.names n) _ (element_cell 8 _ _ b.cells.bytes (place_num a b.ty b.cells)) (given_ok n r.1) (step_ok a (num 1) rest b (num_kind S 1) ok)
    written_ok t (copy_to_writer a source) rest w ok =
        let p = both_true (is_writer (type_at x (arg a))) _ w in
        let q = both_true (takes_bits x t 64) _ p.1 in
        let r = both_true (well_slice x source) (nat_eq (element_type source).bits 8) q.1 in
        let b = writer_ok a p.0 in
        let it = slice_ok source r.0 in
        let same : (element_type source).bits ≡ 8 = grind (arith, nat_tests, r.1) in
        let P : ℕ → Type 0 = λ bits. IsPointer S bits (lowered_slice f.names source).pointer in
        least_ok _ (there f.names a) _ it.1 (there_ok a b)
        (move_ok 8 8 (two Add (bytes_code f.names a) (place_code f.names a)) _ _ (plus_kind S 8 (bytes_code f.names a) (place_code f.names a) b.cells.bytes (place_num a b.ty b.cells)) (subst P same it.0)
        (step_ok a size_local _ b size_num (into_ok t size_local rest (bits_taken t 64 size_local q.0 size_num) ok)))
    written_ok t (copy_to_slice to source) rest w ok =
        let p = both_true (takes_bits x t 64) _ w in
        let q = both_true (well_slice x to) _ p.1 in
        let r = both_true (well_slice x source) (nat_eq (element_type source).bits (element_type to).bits) q.1 in
        let one_part = slice_ok to q.0 in
        let other = slice_ok source r.0 in
        let same : (element_type source).bits ≡ (element_type to).bits = grind (arith, nat_tests, r.1) in
        let P : ℕ → Type 0 = λ bits. IsPointer S bits (lowered_slice f.names source).pointer in
        least_ok _ _ _ one_part.1 (widened_kind S 64 (lowered_slice f.names source).length other.1)
        (move_ok (slice_bits to) (element_type to).bits _ _ _ one_part.0 (subst P same other.0) (into_ok t size_local rest (bits_taken t 64 size_local p.0 size_num) ok))

    -- ---- calls of methods

    abbrev given_codes : List ValueTree → List ExprTree
    given_codes ts = values_codes f.names ts

    abbrev Passes : List ParamTree → List ExprTree → Type 0
    Passes ps es = passable ps (arg_types S (args es)) ≡ true

    pass_one : (p : ParamTree) (ps : List ParamTree) (e : ExprTree) (es : List ExprTree) → Fits S p.kind e → Passes ps es → Passes (p ∷ ps) (e ∷ es)
    pass_one p ps e es h more = rw h.is (both_hold (assignable p.kind h.type) _ h.fits more)

    io_code_type : (a : ℕ) (test : Option Ty → Bool) → test (type_at x (arg a)) ≡ true → (test None ≡ true → ⊥) → ((ty : Ty) → test (Some ty) ≡ true → is_io ty ≡ true) → type_of S (io_code f.names a) ≡ Some (points_to (object io_buffer))
    io_code_type a test h none every = by (slice_get m.args a) refl h
      where
        by : (o : Option Variable) → slice_get m.args a ≡ o → test (option_map (λ v. v.ty) o) ≡ true → type_of S (io_code f.names a) ≡ Some (points_to (object io_buffer))
        by None e k = absurd (none k)
        by (Some v) e k = (s.buffers a v e (every v.ty k)).pointer

    io_fits : (a : ℕ) → type_of S (io_code f.names a) ≡ Some (points_to (object io_buffer)) → Fits S (struct_pointer io_buffer) (io_code f.names a)
    io_fits a h = record { type = points_to (object io_buffer); is = h; fits = refl }

    -- One argument's values go to its parameters.
    pass_value : (name : List ℕ) (ty : Ty) (t : ValueTree) (ps : List ParamTree) (es : List ExprTree) → may_be_arg ty ≡ true → fits_type x ty t ≡ true → Passes ps es
        → Passes (arg_params (record { name = name; kind = kind_of ty }) ++ ps) (value_codes f.names t ++ es)
    pass_value name (types.Num width lo hi) (numeric t) ps es a w more =
        pass_one (record { kind = uint (form_uint (bits_of width)); name = codes "a_" ++ name }) ps (given f.names t) es (num_fits S (uint (form_uint (bits_of width))) (given f.names t) refl (given_ok t (both_true (may_go_into (bits_of width) t) (well_num x t) w).1)) more
    pass_value name types.Flag (logical t) ps es a w more = pass_one (record { kind = boolean; name = codes "a_" ++ name }) ps (lowered_cond f.names t) es (num_fits S boolean (lowered_cond f.names t) refl (cond_ok t w)) more
    pass_value name (types.Slice width) (elements t) ps es a w more =
        let p = both_true (well_slice x t) (nat_eq (element_type t).bits (bits_of width)) w in
        let it = slice_ok t p.0 in
        let same : (element_type t).bits ≡ bits_of width = grind (arith, nat_tests, p.1) in
        let P : ℕ → Type 0 = λ bits. IsPointer S bits (lowered_slice f.names t).pointer in
        pass_one (record { kind = uint_pointer (width_of (bits_of width)); name = codes "ap_" ++ name }) (record { kind = size; name = codes "al_" ++ name } ∷ ps) (lowered_slice f.names t).pointer ((lowered_slice f.names t).length.code ∷ es)
        (pointer_fits S (bits_of width) (lowered_slice f.names t).pointer (subst P same it.0))
        (pass_one (record { kind = size; name = codes "al_" ++ name }) ps (lowered_slice f.names t).length.code es (num_fits S size (lowered_slice f.names t).length.code refl it.1) more)
    pass_value name types.Reader (io at b) ps es a w more =
        pass_one (record { kind = struct_pointer io_buffer; name = codes "a_" ++ name }) ps (io_code f.names b) es (io_fits b (io_code_type b is_reader w (λ e. absurd (cc e)) reader_is_io)) more
    pass_value name types.Writer (io at b) ps es a w more =
        pass_one (record { kind = struct_pointer io_buffer; name = codes "a_" ++ name }) ps (io_code f.names b) es (io_fits b (io_code_type b is_writer w (λ e. absurd (cc e)) writer_is_io)) more
    pass_value name types.Status t ps es a w more = absurd (cc a)
    pass_value name (types.Array width lo hi count) t ps es a w more = absurd (cc a)
    pass_value name (types.Part part) t ps es a w more = absurd (cc a)
    pass_value name (types.Num width lo hi) (logical t) ps es a w more = absurd (cc w)
    pass_value name (types.Num width lo hi) (state t) ps es a w more = absurd (cc w)
    pass_value name (types.Num width lo hi) (elements t) ps es a w more = absurd (cc w)
    pass_value name (types.Num width lo hi) (io at b) ps es a w more = absurd (cc w)
    pass_value name (types.Num width lo hi) lost ps es a w more = absurd (cc w)
    pass_value name types.Flag (numeric t) ps es a w more = absurd (cc w)
    pass_value name types.Flag (state t) ps es a w more = absurd (cc w)
    pass_value name types.Flag (elements t) ps es a w more = absurd (cc w)
    pass_value name types.Flag (io at b) ps es a w more = absurd (cc w)
    pass_value name types.Flag lost ps es a w more = absurd (cc w)
    pass_value name (types.Slice width) (numeric t) ps es a w more = absurd (cc w)
    pass_value name (types.Slice width) (logical t) ps es a w more = absurd (cc w)
    pass_value name (types.Slice width) (state t) ps es a w more = absurd (cc w)
    pass_value name (types.Slice width) (io at b) ps es a w more = absurd (cc w)
    pass_value name (types.Slice width) lost ps es a w more = absurd (cc w)
    pass_value name types.Reader (numeric t) ps es a w more = absurd (cc w)
    pass_value name types.Reader (logical t) ps es a w more = absurd (cc w)
    pass_value name types.Reader (state t) ps es a w more = absurd (cc w)
    pass_value name types.Reader (elements t) ps es a w more = absurd (cc w)
    pass_value name types.Reader lost ps es a w more = absurd (cc w)
    pass_value name types.Writer (numeric t) ps es a w more = absurd (cc w)
    pass_value name types.Writer (logical t) ps es a w more = absurd (cc w)
    pass_value name types.Writer (state t) ps es a w more = absurd (cc w)
    pass_value name types.Writer (elements t) ps es a w more = absurd (cc w)
    pass_value name types.Writer lost ps es a w more = absurd (cc w)

    pass_all : (vs : List Variable) (ts : List ValueTree) → list_all (λ v. may_be_arg v.ty) vs ≡ true → fit_types x vs ts ≡ true → Passes (args_params (map (λ v. record { name = v.name; kind = kind_of v.ty }) vs)) (given_codes ts)
    pass_all [] [] a w = refl
    pass_all [] (t ∷ ts) a w = absurd (cc w)
    pass_all (v ∷ vs) [] a w = absurd (cc w)
    pass_all (v ∷ vs) (t ∷ ts) a w =
        let p = both_true (may_be_arg v.ty) (list_all (λ v. may_be_arg v.ty) vs) a in
        let q = both_true (fits_type x v.ty t) (fit_types x vs ts) w in
        pass_value v.name v.ty t _ (given_codes ts) p.0 q.0 (pass_all vs ts p.1 q.1)

    -- What takes a result.
    abbrev Keeps : Option ExprTree → Option TypeTree → Type 0
    Keeps into result_type = may_keep c into result_type ≡ true

    text_kept : (gives : Option Ty) → Keeps (Some status_local) (Some text)
    text_kept gives = rw s.status_held refl

    answer_kept : (mark : Mark) (gives : Option Ty) → may_be_result mark gives ≡ true → Keeps (answer_local mark gives) (answer_type (answers_of mark gives))
    answer_kept Coroutine gives r = text_kept gives
    answer_kept Pure None r = refl
    answer_kept Pure (Some (types.Num width lo hi)) r = rw s.got_held refl
    answer_kept Pure (Some types.Flag) r = rw s.got_held refl
    answer_kept Pure (Some types.Status) r = text_kept None
    answer_kept Pure (Some types.Reader) r = absurd (cc r)
    answer_kept Pure (Some types.Writer) r = absurd (cc r)
    answer_kept Pure (Some (types.Slice width)) r = absurd (cc r)
    answer_kept Pure (Some (types.Array width lo hi count)) r = absurd (cc r)
    answer_kept Pure (Some (types.Part part)) r = absurd (cc r)
    answer_kept Impure None r = refl
    answer_kept Impure (Some (types.Num width lo hi)) r = rw s.got_held refl
    answer_kept Impure (Some types.Flag) r = rw s.got_held refl
    answer_kept Impure (Some types.Status) r = text_kept None
    answer_kept Impure (Some types.Reader) r = absurd (cc r)
    answer_kept Impure (Some types.Writer) r = absurd (cc r)
    answer_kept Impure (Some (types.Slice width)) r = absurd (cc r)
    answer_kept Impure (Some (types.Array width lo hi count)) r = absurd (cc r)
    answer_kept Impure (Some (types.Part part)) r = absurd (cc r)

    call_formed : (into : Option ExprTree) (called : Called) (callee : MethodTree) (ts : List ValueTree) → Callable called callee → fit_types x callee.args ts ≡ true → Keeps into (result_of callee)
        → formed_call (callee_of (callee_name f.within called callee)) c into (callee_name f.within called callee) (args (receiver_code f.names called ∷ given_codes ts)) ≡ true
    call_formed into called callee ts k w r =
        let name = callee_name f.within called callee in
        let es = args (receiver_code f.names called ∷ given_codes ts) in
        let P : Callee → Type 0 = λ z. formed_call z c into name es ≡ true in
        let Q : Option Function → Type 0 = λ o. is_called c into (arg_types S es) o ≡ true in
        let R : List ParamTree → Type 0 = λ ps. passable ps (arg_types S es) ≡ true in
        let T : Option TypeTree → Type 0 = λ t. may_keep c into t ≡ true in
        let receiver : Fits S (struct_pointer (struct_type f.within callee.of)) (receiver_code f.names called) = record { type = points_to (object (struct_type f.within callee.of)); is = k.receiver; fits = same_bytes (struct_type f.within callee.of) } in
        let passed = pass_one (record { kind = struct_pointer (struct_type f.within callee.of); name = codes "self" }) _ (receiver_code f.names called) (given_codes ts) receiver (pass_all callee.args ts k.args_are w) in
        subst P (sym k.is_own) (subst Q (sym k.found) (both_hold (passable k.function.params (arg_types S es)) (may_keep c into k.function.result_type) (subst R (sym k.params) passed) (subst T (sym k.result) r)))

    into_call_ok : (into : Option ExprTree) (called : Called) (callee : MethodTree) (ts : List ValueTree) (rest : Code) → Callable called callee → fit_types x callee.args ts ≡ true → Keeps into (result_of callee)
        → ((name : List ℕ) → is_result_of name into ≡ true → code_reads name rest ≡ true) → Ok rest → Ok (call_into f into called callee ts rest)
    into_call_ok into called callee ts rest k w r reads ok =
        puts_ok (is_passed ts) 0 m.args _ args_all
        (ok_call c Settled CallOk into (callee_name f.within called callee) (args (receiver_code f.names called ∷ given_codes ts)) _ (call_formed into called callee ts k w r) k.ok
        (λ name e. straight_reads name rest _ (gets f.names (is_passed ts) 0 m.args rest) (reads name e)) (gets_ok (is_passed ts) 0 m.args rest args_all ok))

    hand_on_ok : (k : ℕ) (rest : Code) → is_coroutine m.mark ≡ true → Ok rest → Ok (hand_on f k rest)
    hand_on_ok k rest co ok =
        ok_when c Settled CallOk status_local _ rest (fits_typed c Settled CallOk text status_local (text_fits S status_local status_text))
        (ok_when c Settled CallOk _ _ _ (num_typed c Settled CallOk _ (two_kind S Eq (num 36) (c_tree.element status_local (num 0)) (num_kind S 36) first_num))
        (suspends_ok k status_local finish co status_text done) (gives_ok (Some status_local) finish (returned text status_local (coroutine_result co) (text_fits S status_local status_text)) done)) ok
      where
        status_text_type : type_of S status_local ≡ Some (points_to byte)
        status_text_type = ap (option_and_then held_type) s.status_held

        first_num : IsNum S (c_tree.element status_local (num 0))
        first_num = record { type = numbers ctys.Int; is = rw status_text_type refl; ty = ctys.Int; counts = refl }

    handed_ok : (k : ℕ) (t : Target) (keep : Bool) (mark : Mark) (called : Called) (callee : Option MethodTree) (ts : List ValueTree) (rest : Code) → is_coroutine m.mark ≡ true → hands_on keep mark ≡ true → slice_get f.within.methods (number_of called) ≡ callee
        → well_invoked x t keep mark called ts callee ≡ true → known (number_of called) ≡ true → Ok rest → Ok (handed_call f k called callee ts rest)
    handed_ok k t keep mark called None ts rest co h e w n ok = ok
    handed_ok k t keep mark called (Some callee) ts rest co h e w n ok =
        let p = both_true (same_mark mark callee.mark) _ w in
        let q = both_true (allows m.mark mark) _ p.1 in
        let r = both_true (calls_method x called callee) _ q.1 in
        let u = both_true (fit_types x callee.args ts) _ r.1 in
        let result : Keeps (Some status_local) (result_of callee) = coroutine_keeps callee.mark (marks mark callee.mark p.0 h) in
        into_call_ok (Some status_local) called callee ts _ (s.callable called callee e r.0 n) u.0 result (λ name g. status_read name g) (hand_on_ok k rest co ok)
      where
        marks : (a b : Mark) → same_mark a b ≡ true → hands_on keep a ≡ true → is_coroutine b ≡ true
        marks Coroutine Coroutine g j = refl
        marks Coroutine Pure g j = absurd (cc g)
        marks Coroutine Impure g j = absurd (cc g)
        marks Pure b g j = absurd (none keep j)
          where
            none : (t : Bool) → (not t && false) ≡ true → ⊥
            none true i = cc i
            none false i = cc i
        marks Impure b g j = absurd (none keep j)
          where
            none : (t : Bool) → (not t && false) ≡ true → ⊥
            none true i = cc i
            none false i = cc i

        coroutine_keeps : (b : Mark) → is_coroutine b ≡ true → Keeps (Some status_local) (answer_type (answers_of b callee.gives))
        coroutine_keeps Coroutine g = text_kept None
        coroutine_keeps Pure g = absurd (cc g)
        coroutine_keeps Impure g = absurd (cc g)

        status_read : (name : List ℕ) → bytes_eq name (codes "status") ≡ true → code_reads name (hand_on f k rest) ≡ true
        status_read name g = left_or (bytes_eq name (codes "status")) _ g

    -- The answer goes to the target.
    abbrev AnswerTaken : Target → Option ExprTree → Type 0
    AnswerTaken t None = Unit {0}
    AnswerTaken t (Some e) = Takes t e

    abbrev answer_of : Ty → ExprTree
    answer_of types.Status = status_local
    answer_of ty = got_local

    type_taken : (t : Target) (ty : Ty) → takes x t ty ≡ true → Takes t (answer_of ty)
    type_taken to_nothing ty w = tt
    type_taken (to_slice at bits path) ty w = tt
    type_taken (to_number at of path) (types.Num width lo hi) w =
        let p = both_true (may_write m.mark path) _ w in
        let q = both_true (nat_eq of.bits (bits_of width)) _ p.1 in
        (s.numbers of path p.0 (read_number at of path q.1), got_num)
    type_taken (to_number at of path) types.Flag w = absurd (cc w)
    type_taken (to_number at of path) types.Status w = absurd (cc w)
    type_taken (to_number at of path) types.Reader w = absurd (cc w)
    type_taken (to_number at of path) types.Writer w = absurd (cc w)
    type_taken (to_number at of path) (types.Slice width) w = absurd (cc w)
    type_taken (to_number at of path) (types.Array width lo hi count) w = absurd (cc w)
    type_taken (to_number at of path) (types.Part part) w = absurd (cc w)
    type_taken (to_element at of cells index) (types.Num width lo hi) w =
        let p = both_true (not (is_pure m.mark)) _ w in
        let q = both_true (nat_eq of.bits (bits_of width)) _ p.1 in
        (element_parts at of cells index q.1, got_num)
    type_taken (to_element at of cells index) types.Flag w = absurd (cc w)
    type_taken (to_element at of cells index) types.Status w = absurd (cc w)
    type_taken (to_element at of cells index) types.Reader w = absurd (cc w)
    type_taken (to_element at of cells index) types.Writer w = absurd (cc w)
    type_taken (to_element at of cells index) (types.Slice width) w = absurd (cc w)
    type_taken (to_element at of cells index) (types.Array width lo hi count) w = absurd (cc w)
    type_taken (to_element at of cells index) (types.Part part) w = absurd (cc w)
    type_taken (to_flag at path) types.Flag w = let p = both_true (may_write m.mark path) _ w in (s.flags path p.0 p.1, got_num)
    type_taken (to_flag at path) (types.Num width lo hi) w = absurd (cc w)
    type_taken (to_flag at path) types.Status w = absurd (cc w)
    type_taken (to_flag at path) types.Reader w = absurd (cc w)
    type_taken (to_flag at path) types.Writer w = absurd (cc w)
    type_taken (to_flag at path) (types.Slice width) w = absurd (cc w)
    type_taken (to_flag at path) (types.Array width lo hi count) w = absurd (cc w)
    type_taken (to_flag at path) (types.Part part) w = absurd (cc w)
    type_taken (to_status at path) types.Status w = let p = both_true (may_write m.mark path) _ w in (s.statuses path p.0 p.1, status_text)
    type_taken (to_status at path) (types.Num width lo hi) w = absurd (cc w)
    type_taken (to_status at path) types.Flag w = absurd (cc w)
    type_taken (to_status at path) types.Reader w = absurd (cc w)
    type_taken (to_status at path) types.Writer w = absurd (cc w)
    type_taken (to_status at path) (types.Slice width) w = absurd (cc w)
    type_taken (to_status at path) (types.Array width lo hi count) w = absurd (cc w)
    type_taken (to_status at path) (types.Part part) w = absurd (cc w)

    none_taken : (t : Target) (e : Option ExprTree) → has_none t ≡ true → AnswerTaken t e
    none_taken to_nothing None w = tt
    none_taken to_nothing (Some e) w = tt
    none_taken (to_number at of path) e w = absurd (cc w)
    none_taken (to_element at of cells index) e w = absurd (cc w)
    none_taken (to_flag at path) e w = absurd (cc w)
    none_taken (to_status at path) e w = absurd (cc w)
    none_taken (to_slice at bits path) e w = absurd (cc w)

    variable_reads : (name : List ℕ) (e : ExprTree) → is_variable name e ≡ true → expr_reads name e ≡ true
    variable_reads name (variable n) h = h
    variable_reads name (c_tree.number n) h = absurd (cc h)
    variable_reads name (member of n) h = absurd (cc h)
    variable_reads name (c_tree.element of i) h = absurd (cc h)
    variable_reads name (c_tree.pointed of) h = absurd (cc h)
    variable_reads name (c_tree.operation op a b es) h = absurd (cc h)
    variable_reads name (c_tree.unary op of) h = absurd (cc h)
    variable_reads name (c_tree.cast to of) h = absurd (cc h)
    variable_reads name (c_tree.choice a b e) h = absurd (cc h)
    variable_reads name (c_tree.called n es) h = absurd (cc h)

    -- What is wanted of a result is read where it goes.
    assigned_reads : (name : List ℕ) (place e : ExprTree) (rest : Code) → is_variable name e ≡ true → code_reads name (c_tree.assign place e rest) ≡ true
    assigned_reads name place e rest h = right_or _ _ (left_or (expr_reads name e) _ (variable_reads name e h))

    abbrev is_single : Target → Bool
    is_single (to_slice at bits path) = false
    is_single t = true

    -- What a call gives comes from a local that no variable of the source is.
    abbrev IsApart : Option ExprTree → Type 0
    IsApart None = Unit {0}
    IsApart (Some e) = (path : Path) → is_same_variable (path_code f.names path) e ≡ false

    apart_status : IsApart (Some status_local)
    apart_status (local n) = refl
    apart_status (arg n) = refl
    apart_status (field n) = refl

    apart_got : IsApart (Some got_local)
    apart_got (local n) = refl
    apart_got (arg n) = refl
    apart_got (field n) = refl

    apart_answer : (mark : Mark) (gives : Option Ty) → IsApart (answer_local mark gives)
    apart_answer Coroutine gives = apart_status
    apart_answer Pure None = tt
    apart_answer Pure (Some types.Status) = apart_status
    apart_answer Pure (Some types.Flag) = apart_got
    apart_answer Pure (Some (types.Num width lo hi)) = apart_got
    apart_answer Pure (Some types.Reader) = apart_got
    apart_answer Pure (Some types.Writer) = apart_got
    apart_answer Pure (Some (types.Slice width)) = apart_got
    apart_answer Pure (Some (types.Array width lo hi count)) = apart_got
    apart_answer Pure (Some (types.Part part)) = apart_got
    apart_answer Impure None = tt
    apart_answer Impure (Some types.Status) = apart_status
    apart_answer Impure (Some types.Flag) = apart_got
    apart_answer Impure (Some (types.Num width lo hi)) = apart_got
    apart_answer Impure (Some types.Reader) = apart_got
    apart_answer Impure (Some types.Writer) = apart_got
    apart_answer Impure (Some (types.Slice width)) = apart_got
    apart_answer Impure (Some (types.Array width lo hi count)) = apart_got
    apart_answer Impure (Some (types.Part part)) = apart_got

    set_reads : (name : List ℕ) (place e : ExprTree) (rest : Code) → is_same_variable place e ≡ false → is_variable name e ≡ true → code_reads name (set_place place e rest) ≡ true
    set_reads name place e rest a h = by (is_same_variable place e) a
      where
        by : (same : Bool) → same ≡ false → code_reads name (if same then rest else c_tree.assign place e rest) ≡ true
        by true g = absurd (cc g)
        by false g = assigned_reads name place e rest h

    result_reads_so : (t : Target) (e : Option ExprTree) (rest : Code) → is_single t ≡ true → IsApart e
        → (name : List ℕ) → is_result_of name (if is_wanted t then e else None) ≡ true → code_reads name (put_result f.names t e rest) ≡ true
    result_reads_so to_nothing e rest k a name h = absurd (cc h)
    result_reads_so (to_slice at bits path) e rest k a name h = absurd (cc k)
    result_reads_so (to_number at of path) None rest k a name h = absurd (cc h)
    result_reads_so (to_number at of path) (Some e) rest k a name h = set_reads name (path_code f.names path) e rest (a path) h
    result_reads_so (to_element at of cells index) None rest k a name h = absurd (cc h)
    result_reads_so (to_element at of cells index) (Some e) rest k a name h =
        set_reads name (c_tree.element (lowered_slice f.names cells).pointer (lowered_expr f.names index)) e rest refl h
    result_reads_so (to_flag at path) None rest k a name h = absurd (cc h)
    result_reads_so (to_flag at path) (Some e) rest k a name h = set_reads name (path_code f.names path) e rest (a path) h
    result_reads_so (to_status at path) None rest k a name h = absurd (cc h)
    result_reads_so (to_status at path) (Some e) rest k a name h = set_reads name (path_code f.names path) e rest (a path) h

    none_single : (t : Target) → has_none t ≡ true → is_single t ≡ true
    none_single to_nothing w = refl
    none_single (to_slice at bits path) w = absurd (cc w)
    none_single (to_number at of path) w = refl
    none_single (to_element at of cells index) w = refl
    none_single (to_flag at path) w = refl
    none_single (to_status at path) w = refl

    status_single : (t : Target) → is_status_target t ≡ true → is_single t ≡ true
    status_single to_nothing w = refl
    status_single (to_slice at bits path) w = absurd (cc w)
    status_single (to_number at of path) w = refl
    status_single (to_element at of cells index) w = refl
    status_single (to_flag at path) w = refl
    status_single (to_status at path) w = refl

    type_single : (t : Target) (ty : Ty) → takes x t ty ≡ true → may_be_result Pure (Some ty) ≡ true → is_single t ≡ true
    type_single to_nothing ty w r = refl
    type_single (to_number at of path) ty w r = refl
    type_single (to_element at of cells index) ty w r = refl
    type_single (to_flag at path) ty w r = refl
    type_single (to_status at path) ty w r = refl
    type_single (to_slice at bits path) (types.Slice width) w r = absurd (cc r)
    type_single (to_slice at bits path) (types.Num width lo hi) w r = absurd (cc w)
    type_single (to_slice at bits path) types.Flag w r = absurd (cc w)
    type_single (to_slice at bits path) types.Status w r = absurd (cc w)
    type_single (to_slice at bits path) types.Reader w r = absurd (cc w)
    type_single (to_slice at bits path) types.Writer w r = absurd (cc w)
    type_single (to_slice at bits path) (types.Array width lo hi count) w r = absurd (cc w)
    type_single (to_slice at bits path) (types.Part part) w r = absurd (cc w)

    answer_by_type : (t : Target) (ty : Ty) → Takes t (answer_of ty) → AnswerTaken t (answer_local Pure (Some ty))
    answer_by_type t (types.Num width lo hi) h = h
    answer_by_type t types.Flag h = h
    answer_by_type t types.Status h = h
    answer_by_type t types.Reader h = h
    answer_by_type t types.Writer h = h
    answer_by_type t (types.Slice width) h = h
    answer_by_type t (types.Array width lo hi count) h = h
    answer_by_type t (types.Part part) h = h

    status_result : (ty : Ty) → may_be_result Impure (Some ty) ≡ true → may_be_result Pure (Some ty) ≡ true
    status_result (types.Num width lo hi) h = h
    status_result types.Flag h = refl
    status_result types.Status h = refl
    status_result types.Reader h = absurd (cc h)
    status_result types.Writer h = absurd (cc h)
    status_result (types.Slice width) h = absurd (cc h)
    status_result (types.Array width lo hi count) h = absurd (cc h)
    status_result (types.Part part) h = absurd (cc h)

    record Answered (t : Target) (mark : Mark) (gives : Option Ty) : Type 0 where
      taken : AnswerTaken t (answer_local mark gives)
      single : is_single t ≡ true

    answer_taken : (t : Target) (keep : Bool) (mark : Mark) (gives : Option Ty) → takes_answer x t keep mark gives ≡ true → may_be_result mark gives ≡ true → Answered t mark gives
    answer_taken t true Coroutine gives w r =
        let p = both_true (is_status_target t) (takes x t types.Status) w in
        record { taken = type_taken t types.Status p.1; single = status_single t p.0 }
    answer_taken t true Pure gives w r = absurd (cc w)
    answer_taken t true Impure gives w r = absurd (cc w)
    answer_taken t false Coroutine gives w r = record { taken = none_taken t (Some status_local) w; single = none_single t w }
    answer_taken t false Pure None w r = record { taken = none_taken t None w; single = none_single t w }
    answer_taken t false Impure None w r = record { taken = none_taken t None w; single = none_single t w }
    answer_taken t false Pure (Some ty) w r = record { taken = answer_by_type t ty (type_taken t ty w); single = type_single t ty w r }
    answer_taken t false Impure (Some ty) w r = record { taken = answer_by_type t ty (type_taken t ty w); single = type_single t ty w (status_result ty r) }

    results_ok : (t : Target) (e : Option ExprTree) (rest : Code) → AnswerTaken t e → Ok rest → Ok (put_result f.names t e rest)
    results_ok t None rest h ok = ok
    results_ok t (Some e) rest h ok = into_ok t e rest h ok

    plain_call_ok : (t : Target) (keep : Bool) (mark : Mark) (called : Called) (callee : Option MethodTree) (ts : List ValueTree) (rest : Code) → slice_get f.within.methods (number_of called) ≡ callee
        → well_invoked x t keep mark called ts callee ≡ true → known (number_of called) ≡ true → Ok rest → Ok (plain_call f t called callee ts rest)
    plain_call_ok t keep mark called None ts rest e w n ok = ok
    plain_call_ok t keep mark called (Some callee) ts rest e w n ok =
        let p = both_true (same_mark mark callee.mark) _ w in
        let q = both_true (allows m.mark mark) _ p.1 in
        let r = both_true (calls_method x called callee) _ q.1 in
        let u = both_true (fit_types x callee.args ts) _ r.1 in
        let v = both_true (takes_answer x t keep mark callee.gives) _ u.1 in
        let k = s.callable called callee e r.0 n in
        let P : Mark → Type 0 = λ z. takes_answer x t keep z callee.gives ≡ true in
        let a = answer_taken t keep callee.mark callee.gives (subst P (marks mark callee.mark p.0) v.0) k.result_is in
        into_call_ok (if is_wanted t then answer_local callee.mark callee.gives else None) called callee ts _ k u.0 (wanted (is_wanted t) (answer_local callee.mark callee.gives) (answer_kept callee.mark callee.gives k.result_is))
        (result_reads_so t (answer_local callee.mark callee.gives) rest a.single (apart_answer callee.mark callee.gives)) (results_ok t (answer_local callee.mark callee.gives) rest a.taken ok)
      where
        marks : (a b : Mark) → same_mark a b ≡ true → a ≡ b
        marks Pure Pure g = refl
        marks Impure Impure g = refl
        marks Coroutine Coroutine g = refl
        marks Pure Impure g = absurd (cc g)
        marks Pure Coroutine g = absurd (cc g)
        marks Impure Pure g = absurd (cc g)
        marks Impure Coroutine g = absurd (cc g)
        marks Coroutine Pure g = absurd (cc g)
        marks Coroutine Impure g = absurd (cc g)

        wanted : (b : Bool) (e : Option ExprTree) → Keeps e (result_of callee) → Keeps (if b then e else None) (result_of callee)
        wanted true e h = h
        wanted false e h = refl

    -- ---- returns

    asked_ok : (e : ExprTree) (rest : Code) → IsText S e → result_of m ≡ Some text → Ok rest
        → Ok (if is_coroutine m.mark then c_tree.assign status_local e (when (begins_with 36 status_local) (c_tree.assign status_local (status_constant cannot_suspend) finish) (give f (Some status_local) rest)) else give f (Some e) rest)
    asked_ok e rest h r ok =
        ok_if c Settled CallOk (is_coroutine m.mark) _ _
        (ok_read c Settled CallOk text (codes "status") e _ s.status_held (text_fits S e h) (right_or (expr_reads (codes "status") e) _ refl)
        (ok_when_assigned c Settled CallOk text (codes "status") (begins_with 36 status_local) (status_constant cannot_suspend) (give f (Some status_local) rest) s.status_held
        (num_typed c Settled CallOk _ (begins_kind S 36 status_local status_text)) (text_fits S _ (constant_ok cannot_suspend (s.base cannot_suspend (inr (inr refl))))) refl
        (gives_ok (Some status_local) rest (returned text status_local r (text_fits S status_local status_text)) ok)))
        (gives_ok (Some e) rest (returned text e r (text_fits S e h)) ok)

    give_status_ok : (t : StatusTree) (rest : Code) → well_status x t ≡ true → result_of m ≡ Some text → Ok rest → Ok (give_status f t rest)
    give_status_ok (status at n) rest w r ok =
        gives_ok _ rest (returned text _ r (text_fits S _ (by (is_coroutine m.mark && is_held_back f n)))) ok
      where
        by : (b : Bool) → IsText S (status_constant (if b then cannot_suspend else n))
        by true = constant_ok cannot_suspend (s.base cannot_suspend (inr (inr refl)))
        by false = constant_ok n w
    give_status_ok (held at path) rest w r ok = asked_ok (lowered_status f.names (held at path)) rest (status_ok (held at path) w) r ok
    give_status_ok no_status rest w r ok = absurd (cc w)

    nothing_given : (rest : Code) → result_of m ≡ None → Ok rest → Ok (give f None rest)
    nothing_given rest r ok = gives_ok None rest (let P : Option TypeTree → Type 0 = λ o. formed_return c None o ≡ true in subst P (sym (s.result ∙ r)) refl) ok

    plain_value_ok : (gives : Option Ty) (value : Option ValueTree) (rest : Code) → result_of m ≡ answer_type (answer_kind gives) → may_be_result Pure gives ≡ true → well_returned x Pure gives value ≡ true → Ok rest → Ok (give_value f value rest)
    plain_value_ok None None rest r q w ok = nothing_given rest r ok
    plain_value_ok None (Some v) rest r q w ok = absurd (cc w)
    plain_value_ok (Some ty) None rest r q w ok = absurd (cc w)
    plain_value_ok (Some (types.Num width lo hi)) (Some (numeric t)) rest r q w ok =
        gives_ok _ rest (returned _ (given f.names t) r (num_fits S _ (given f.names t) refl (given_ok t (both_true (may_go_into (bits_of width) t) (well_num x t) w).1))) ok
    plain_value_ok (Some types.Flag) (Some (logical t)) rest r q w ok = gives_ok _ rest (returned boolean (lowered_cond f.names t) r (num_fits S boolean _ refl (cond_ok t w))) ok
    plain_value_ok (Some types.Status) (Some (state t)) rest r q w ok = give_status_ok t rest w r ok
    plain_value_ok (Some ty) (Some (elements t)) rest r q w ok = ok
    plain_value_ok (Some ty) (Some (io at a)) rest r q w ok = ok
    plain_value_ok (Some ty) (Some lost) rest r q w ok = ok
    plain_value_ok (Some (types.Num width lo hi)) (Some (logical t)) rest r q w ok = absurd (cc w)
    plain_value_ok (Some (types.Num width lo hi)) (Some (state t)) rest r q w ok = absurd (cc w)
    plain_value_ok (Some types.Flag) (Some (numeric t)) rest r q w ok = absurd (cc w)
    plain_value_ok (Some types.Flag) (Some (state t)) rest r q w ok = absurd (cc w)
    plain_value_ok (Some types.Status) (Some (numeric t)) rest r q w ok = absurd (cc w)
    plain_value_ok (Some types.Status) (Some (logical t)) rest r q w ok = absurd (cc w)
    plain_value_ok (Some types.Reader) (Some (numeric t)) rest r q w ok = absurd (cc q)
    plain_value_ok (Some types.Reader) (Some (logical t)) rest r q w ok = absurd (cc q)
    plain_value_ok (Some types.Reader) (Some (state t)) rest r q w ok = absurd (cc q)
    plain_value_ok (Some types.Writer) (Some (numeric t)) rest r q w ok = absurd (cc q)
    plain_value_ok (Some types.Writer) (Some (logical t)) rest r q w ok = absurd (cc q)
    plain_value_ok (Some types.Writer) (Some (state t)) rest r q w ok = absurd (cc q)
    plain_value_ok (Some (types.Slice width)) (Some (numeric t)) rest r q w ok = absurd (cc q)
    plain_value_ok (Some (types.Slice width)) (Some (logical t)) rest r q w ok = absurd (cc q)
    plain_value_ok (Some (types.Slice width)) (Some (state t)) rest r q w ok = absurd (cc q)
    plain_value_ok (Some (types.Array width lo hi count)) (Some (numeric t)) rest r q w ok = absurd (cc q)
    plain_value_ok (Some (types.Array width lo hi count)) (Some (logical t)) rest r q w ok = absurd (cc q)
    plain_value_ok (Some (types.Array width lo hi count)) (Some (state t)) rest r q w ok = absurd (cc q)
    plain_value_ok (Some (types.Part part)) (Some (numeric t)) rest r q w ok = absurd (cc q)
    plain_value_ok (Some (types.Part part)) (Some (logical t)) rest r q w ok = absurd (cc q)
    plain_value_ok (Some (types.Part part)) (Some (state t)) rest r q w ok = absurd (cc q)

    impure_result : (gives : Option Ty) → may_be_result Impure gives ≡ true → may_be_result Pure gives ≡ true
    impure_result None h = refl
    impure_result (Some ty) h = status_result ty h

    impure_returned : (gives : Option Ty) (value : Option ValueTree) → well_returned x Impure gives value ≡ true → well_returned x Pure gives value ≡ true
    impure_returned None None h = h
    impure_returned None (Some v) h = absurd (cc h)
    impure_returned (Some ty) None h = absurd (cc h)
    impure_returned (Some ty) (Some v) h = h

    -- A value of the declared type is given back.
    value_ok : (mark : Mark) (gives : Option Ty) (value : Option ValueTree) (rest : Code) → result_of m ≡ answer_type (answers_of mark gives) → may_be_result mark gives ≡ true → well_returned x mark gives value ≡ true → Ok rest → Ok (give_value f value rest)
    value_ok Coroutine gives None rest r q w ok = absurd (cc w)
    value_ok Coroutine gives (Some (numeric t)) rest r q w ok = absurd (cc w)
    value_ok Coroutine gives (Some (logical t)) rest r q w ok = absurd (cc w)
    value_ok Coroutine gives (Some (state t)) rest r q w ok = give_status_ok t rest w r ok
    value_ok Coroutine gives (Some (elements t)) rest r q w ok = ok
    value_ok Coroutine gives (Some (io at a)) rest r q w ok = ok
    value_ok Coroutine gives (Some lost) rest r q w ok = ok
    value_ok Pure gives value rest r q w ok = plain_value_ok gives value rest r q w ok
    value_ok Impure gives value rest r q w ok = plain_value_ok gives value rest r (impure_result gives q) (impure_returned gives value w) ok

    -- ---- statements and blocks

    module _ (result_is : may_be_result m.mark m.gives ≡ true) where
      abbrev IsKnown : Simple → Type 0
      IsKnown (invoke at t keep mark called ts) = known (number_of called) ≡ true
      IsKnown simple = Unit {0}

      plain_ok : (loops : List ℕ) (simple : Simple) (rest : Code) → well_simple x loops simple ≡ true → IsKnown simple → Ok rest → Ok (lower_plain f simple rest)
      plain_ok loops (assign t None v) rest w n ok = values_ok t v rest w ok
      plain_ok loops (assign t (Some op) v) rest w n ok = values_ok t v rest (both_true (well_assigned x t v) (is_operator op v) w).0 ok
      plain_ok loops (await at t a call) rest w n ok = ok
      plain_ok loops (perform at t call) rest w n ok = written_ok t call rest (both_true (not (is_pure m.mark)) (well_written x t call) w).1 ok
      plain_ok loops (invoke at t keep mark called ts) rest w n ok = plain_call_ok t keep mark called (slice_get f.within.methods (number_of called)) ts rest refl w n ok
      plain_ok loops (break_from v) rest w n ok = ok_jump c Settled CallOk (behind_label v) rest ok
      plain_ok loops (continue_in v) rest w n ok = ok_jump c Settled CallOk (again_label v) rest ok
      plain_ok loops (give_back value) rest w n ok = value_ok m.mark m.gives value rest refl result_is w ok
      plain_ok loops (yield k) rest w n ok = ok
      plain_ok loops (claim goal ax) rest w n ok = ok

      suspension_known : (n : ℕ) → is_suspension (slice_get f.within.statuses n) ≡ true → known_status x n ≡ true
      suspension_known n h = by (slice_get f.within.statuses n) h
        where
          by : (o : Option (List ℕ)) → is_suspension o ≡ true → is_some o ≡ true
          by None k = absurd (cc k)
          by (Some t) k = refl

      caller_is : (caller mark : Mark) (keep : Bool) → hands_on keep mark ≡ true → allows caller mark ≡ true → is_coroutine caller ≡ true
      caller_is Coroutine mark keep h a = refl
      caller_is Pure Coroutine keep h a = absurd (cc a)
      caller_is Impure Coroutine keep h a = absurd (cc a)
      caller_is Pure Pure true h a = absurd (cc h)
      caller_is Pure Pure false h a = absurd (cc h)
      caller_is Pure Impure true h a = absurd (cc h)
      caller_is Pure Impure false h a = absurd (cc h)
      caller_is Impure Pure true h a = absurd (cc h)
      caller_is Impure Pure false h a = absurd (cc h)
      caller_is Impure Impure true h a = absurd (cc h)
      caller_is Impure Impure false h a = absurd (cc h)

      allowed : (t : Target) (keep : Bool) (mark : Mark) (called : Called) (ts : List ValueTree) (callee : Option MethodTree) → well_invoked x t keep mark called ts callee ≡ true → allows m.mark mark ≡ true
      allowed t keep mark called ts None w = absurd (cc w)
      allowed t keep mark called ts (Some callee) w = (both_true (allows m.mark mark) _ (both_true (same_mark mark callee.mark) _ w).1).0

      point_ok : (loops : List ℕ) (k : ℕ) (simple : Simple) (rest : Code) → is_point simple ≡ true → well_simple x loops simple ≡ true → IsKnown simple → Ok rest → Ok (lower_point f k simple rest)
      point_ok loops k (assign t op v) rest h w n ok = absurd (cc h)
      point_ok loops k (await at t a call) rest h w n ok =
          let p = both_true (is_coroutine m.mark) (well_awaited x t a call) w in
          point_call_ok k t a call rest p.0 p.1 ok
      point_ok loops k (perform at t call) rest h w n ok = absurd (cc h)
      point_ok loops k (invoke at t keep mark called ts) rest h w n ok =
          let co = caller_is m.mark mark keep h (allowed t keep mark called ts (slice_get f.within.methods (number_of called)) w) in
          resume_ok k _ (handed_ok k t keep mark called (slice_get f.within.methods (number_of called)) ts rest co h refl w n ok)
      point_ok loops k (break_from v) rest h w n ok = absurd (cc h)
      point_ok loops k (continue_in v) rest h w n ok = absurd (cc h)
      point_ok loops k (give_back value) rest h w n ok = absurd (cc h)
      point_ok loops k (yield v) rest h w n ok =
          let p = both_true (is_coroutine m.mark) (is_suspension (slice_get f.within.statuses v)) w in
          suspends_ok k (status_constant v) _ p.0 (constant_ok v (suspension_known v p.1)) (resume_ok k rest ok)
      point_ok loops k (claim goal ax) rest h w n ok = absurd (cc h)

      simple_ok : (loops : List ℕ) (k : ℕ) (simple : Simple) (rest : Code) → well_simple x loops simple ≡ true → IsKnown simple → Ok rest → Ok (lower_simple f k simple rest)
      simple_ok loops k simple rest w n ok = by (is_point simple) refl
        where
          by : (b : Bool) → is_point simple ≡ b → Ok (if b then lower_point f k simple rest else lower_plain f simple rest)
          by true e = point_ok loops k simple rest e w n ok
          by false e = plain_ok loops simple rest w n ok

      known_parts : (site : Site) (simple : Simple) (rest : Block) → calls_only known (plain site simple rest) ≡ true → IsKnown simple × (calls_only known rest ≡ true)
      known_parts site (invoke at t keep mark called ts) rest h = both_true (known (number_of called)) (calls_only known rest) h
      known_parts site (assign t op v) rest h = (tt, h)
      known_parts site (await at t a call) rest h = (tt, h)
      known_parts site (perform at t call) rest h = (tt, h)
      known_parts site (break_from v) rest h = (tt, h)
      known_parts site (continue_in v) rest h = (tt, h)
      known_parts site (give_back value) rest h = (tt, h)
      known_parts site (yield v) rest h = (tt, h)
      known_parts site (claim goal ax) rest h = (tt, h)

      label_if : (b : Bool) (name : List ℕ) (rest : Code) → Ok rest → Ok (if b then name_label name (empty rest) else rest)
      label_if true name rest ok = ok_label c Settled CallOk name (empty rest) (ok_empty c Settled CallOk rest ok)
      label_if false name rest ok = ok

      pub block_ok : (numbered : Site → ℕ) (loops : List ℕ) (b : Block) (tail : Code) → well_block x loops b ≡ true → calls_only known b ≡ true → Ok tail → Ok (lower f numbered b tail)
      block_ok numbered loops end tail w k ok = ok
      block_ok numbered loops (plain site simple rest) tail w k ok =
          let p = both_true (well_simple x loops simple) (well_block x loops rest) w in
          let q = known_parts site simple rest k in
          simple_ok loops (numbered site) simple (lower f numbered rest tail) p.0 q.0 (block_ok numbered loops rest tail p.1 q.1 ok)
      block_ok numbered loops (choose site chained t a b rest) tail w k ok =
          let p = both_true (well_cond x t) (well_block x loops a && (well_block x loops b && well_block x loops rest)) w in
          let q = both_true (well_block x loops a) (well_block x loops b && well_block x loops rest) p.1 in
          let r = both_true (well_block x loops b) (well_block x loops rest) q.1 in
          let u = both_true (calls_only known a) (calls_only known b && calls_only known rest) k in
          let v = both_true (calls_only known b) (calls_only known rest) u.1 in
          ok_branch c Settled CallOk (lowered_cond f.names t) (lower f numbered a finish) (other_kind b) (lower f numbered b finish) (lower f numbered rest tail) (num_typed c Settled CallOk _ (cond_ok t p.0))
          (block_ok numbered loops a finish q.0 u.0 done) (block_ok numbered loops b finish r.0 v.0 done) (block_ok numbered loops rest tail r.1 v.1 ok)
      block_ok numbered loops (loop site head body rest) tail w k ok =
          let p = both_true (well_cond x head.cond) _ w in
          let q = (both_true _ _ p.1).1 in
          let r = (both_true _ _ q).1 in
          let u = both_true (well_block x (site.number ∷ loops) body) (well_block x loops rest) r in
          let v = both_true (calls_only known body) (calls_only known rest) k in
          ok_repeat c Settled CallOk (lowered_cond f.names head.cond) (lower f numbered body (again_here site body)) (behind_here site body (lower f numbered rest tail)) (num_typed c Settled CallOk _ (cond_ok head.cond p.0))
          (block_ok numbered (site.number ∷ loops) body (again_here site body) u.0 v.0 (label_if (continues_in site.number body) (again_label site.number) finish done))
          (label_if (breaks site.number body) (behind_label site.number) (lower f numbered rest tail) (block_ok numbered loops rest tail u.1 v.1 ok))

      pub ending_ok : Ok (ending f)
      ending_ok = by (is_coroutine m.mark) refl
        where
          -- 0 is a number, a truth value and a status.
          zero_ok : (gives : Option Ty) → result_of m ≡ answer_type (answer_kind gives) → may_be_result Pure gives ≡ true → has_result gives ≡ true → Ok (give f (Some (num 0)) finish)
          zero_ok None r q h = absurd (cc h)
          zero_ok (Some (types.Num width lo hi)) r q h = gives_ok (Some (num 0)) finish (returned _ (num 0) r (num_fits S _ (num 0) refl (num_kind S 0))) done
          zero_ok (Some types.Flag) r q h = gives_ok (Some (num 0)) finish (returned boolean (num 0) r (num_fits S boolean _ refl (num_kind S 0))) done
          zero_ok (Some types.Status) r q h = gives_ok (Some (num 0)) finish (returned text (num 0) r (text_fits S (num 0) (inl refl))) done
          zero_ok (Some types.Reader) r q h = absurd (cc q)
          zero_ok (Some types.Writer) r q h = absurd (cc q)
          zero_ok (Some (types.Slice width)) r q h = absurd (cc q)
          zero_ok (Some (types.Array width lo hi count)) r q h = absurd (cc q)
          zero_ok (Some (types.Part part)) r q h = absurd (cc q)

          plain_end : (mark : Mark) → is_coroutine mark ≡ false → result_of m ≡ answer_type (answers_of mark m.gives) → may_be_result mark m.gives ≡ true → (b : Bool) → has_result m.gives ≡ b → Ok (ending_of f b)
          plain_end mark e r q false h = puts_ok (λ n. true) 0 m.args finish args_all done
          plain_end Pure e r q true h = ok_if c Settled CallOk (returns m.body) finish (give f (Some (num 0)) finish) done (zero_ok m.gives r q h)
          plain_end Impure e r q true h = ok_if c Settled CallOk (returns m.body) finish (give f (Some (num 0)) finish) done (zero_ok m.gives r (impure_result m.gives q) h)
          plain_end Coroutine e r q true h = absurd (cc e)

          by : (b : Bool) → is_coroutine m.mark ≡ b → Ok (if b then give f (Some (num 0)) finish else ending_of f (has_result m.gives))
          by true e = gives_ok (Some (num 0)) finish (returned text (num 0) (coroutine_result e) (text_fits S (num 0) (inl refl))) done
          by false e = plain_end m.mark e refl result_is (has_result m.gives) refl

      pub statements_ok : (numbered : Site → ℕ) → well_block x [] m.body ≡ true → calls_only known m.body ≡ true → Ok (lower f numbered m.body (tail_of f top))
      statements_ok numbered w k = block_ok numbered [] m.body (tail_of f top) w k (ok_if c Settled CallOk (is_coroutine m.mark) finish (ending f) done ending_ok)
