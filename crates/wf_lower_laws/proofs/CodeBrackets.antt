-- How many brackets the statements of a text open.
use Rattle.std.proofs.Common.{◌≡◌, ℕ, zero, suc, ◌+◌, ◌-◌, ◌*◌, ◌/◌, ◌≤◌, Bool, true, false, ◌&&◌, List, [], ◌∷◌, ◌++◌, Option, Some, None, refl, arith}
use Rattle.std.specs.Prelude.{if◌then◌else◌, nat_eq, nat_le, slice_get, codes}
use Rattle.std.specs.List.{list_all}
use Rattle.wf_base.specs.declared.base_methods.ReadForm.{ReadForm}
use Rattle.wf_base.specs.declared.base_methods.ReadForm.TheVariants.{ReadU8, ReadU16Be, ReadU16Le, ReadU32Be, ReadU32Le, ReadU64Be, ReadU64Le}
use Rattle.wf_base.specs.BaseTable.{bits_of, bytes_of, read_width}
use Rattle.wf_base.specs.declared.marks.Mark.{Mark}
use Rattle.wf_base.specs.declared.marks.Mark.TheVariants.{Pure, Impure, Coroutine}
use Rattle.wf_ast.specs.declared.types.Ty.{Ty}
use Rattle.wf_ast.specs.declared.types.Ty.TheVariants as types
use Rattle.wf_ast.specs.TypedPackage.{Variable, MethodTree}
use Rattle.wf_ast.specs.TypedTree.{local, field, arg, NumTree, SliceTree, number, read, element, link, convert, length_of, asked, ValueTree, numeric, logical, state, elements, io, lost, StatusTree, status, held, no_status, Target, to_number, to_element, to_flag, to_status, to_slice, to_nothing, Awaited, take_number, skip, write, Written, skip_fast, write_fast, copy_to_writer, copy_to_slice, Called, own, sub, Simple, assign, await, perform, invoke, break_from, continue_in, give_back, yield, claim, Site, Block, end, plain, choose, loop}
use Rattle.wf_ast.specs.WellTyped.{is_coroutine, breaks, number_of}
use Rattle.wf_ast.proofs.Arena.{both_true}
use Rattle.wf_meaning.specs.Entry.{short_read, short_write, cannot_suspend}
use Rattle.wf_meaning.specs.Remaining.{is_point}
use Rattle.c_text.specs.declared.kinds.COp.TheVariants.{Add, Sub, Mul, Shl, Lt, Gt, Ge, Eq, Both}
use Rattle.c_text.specs.declared.kinds.CUnary.TheVariants.{Address}
use Rattle.c_text.specs.declared.kinds.CNumber.TheVariants.{Int}
use Rattle.c_text.specs.declared.kinds.Otherwise.TheVariants as else_is
use Rattle.c_text.specs.CTree.{ExprTree, Code, finish, empty, leave, case_label, name_label}
use Rattle.c_text.specs.CTree as c
use Rattle.wf_exprs.specs.Names.{Names, local_pointer, local_length, again_label, behind_label}
use Rattle.wf_exprs.specs.Words.{num, two, args}
use Rattle.wf_exprs.specs.Exprs.{Pair, path_code, taken, bare, lowered_expr, given, lowered_slice, lowered_status, lowered_cond, status_constant, begins_with, io_code, place_code, end_code, there}
use Rattle.wf_lower_stmts.specs.Forms.{Form, status_local, held_local, size_local, count_local, is_io, is_kept, stays, holds_something, counts_bytes, keeps, place_in, end_of, when, put, get, save_locals, restore_locals, save_count, restore_count, save_started, restore_started, give, suspend, resume_here}
use Rattle.wf_lower_stmts.specs.Lower.{lower, continues, again_here, other_kind, returns, ending, ending_of, has_result, tail_of, top}
use Rattle.wf_lower_stmts.specs.Statements.{next_byte, taken_byte, step_on, is_big_endian, with_byte, slice_bits, bytes_for, answer_local, is_wanted, put_into, is_same_variable, set_place, set_slice, set_value, take_byte, take_bytes, written_byte, are_all_there, take_all, begun_call, awoken_call, lower_written, value_codes, values_codes, receiver_code, is_passed, call_into, hand_on, put_result, handed_call, plain_call, give_status, give_value, begun, awoken, lower_point, lower_plain, lower_simple}
use Rattle.wf_lower_laws.specs.BracketLaw.{num_within, slice_within, cond_within, value_within, target_within, awaited_within, written_within, simple_within, is_chained, block_within}
use Rattle.wf_lower_laws.proofs.OpenBrackets.{ExprOpens, ArgsOpen, ValueOpens, CodeOpens}
use Rattle.wf_lower_laws.proofs.ExprBrackets.{ExprBy, by_more, by_if, by_two, by_unary, by_cast, by_element, by_choice, by_num, by_path, by_constant, by_status, by_begins, by_number_ahead, at_least_one, PairBy, by_widened, num_by, slice_by, given_by, cond_by}

pub record CodeBy (k : ℕ) (code : Code) : Type 0 where
  pub by : (n : ℕ) → n + k ≤ 512 → CodeOpens n code

pub code_more : (d k : ℕ) (code : Code) → d ≤ k → CodeBy d code → CodeBy k code
code_more d k code l h = record { by = λ n m. h.by n (omega (arith, l, m)) }

pub code_finish : (k : ℕ) → CodeBy k finish
code_finish k = record { by = λ n m. tt }

pub code_if : (k : ℕ) (b : Bool) (x y : Code) → CodeBy k x → CodeBy k y → CodeBy k (if b then x else y)
code_if k true x y h j = h
code_if k false x y h j = j

pub code_assign : (k : ℕ) (t v : ExprTree) (rest : Code) → ExprBy k t → ExprBy k v → CodeBy k rest → CodeBy k (c.assign t v rest)
code_assign k t v rest h j i = record { by = λ n m. (h.by n m, (j.by n m, i.by n m)) }

pub code_when : (d k : ℕ) (test : ExprTree) (body rest : Code) → d + 1 ≤ k → ExprBy d test → CodeBy d body → CodeBy k rest → CodeBy k (when test body rest)
code_when d k test body rest l h j i = record { by = λ n m. (omega (arith, l, m), (h.by (n + 1) (omega (arith, l, m)), (j.by (n + 1) (omega (arith, l, m)), (tt, i.by n m)))) }

abbrev pub OptionBy : ℕ → Option ExprTree → Type 0
OptionBy k None = Unit {0}
OptionBy k (Some e) = ExprBy k e

value_opens : (k n : ℕ) (v : Option ExprTree) → n + k ≤ 512 → OptionBy k v → ValueOpens n v
value_opens k n None m h = tt
value_opens k n (Some e) m h = h.by n m

pub code_leave : (k : ℕ) (v : Option ExprTree) (rest : Code) → OptionBy k v → CodeBy k rest → CodeBy k (leave v rest)
code_leave k v rest h i = record { by = λ n m. (value_opens k n v m h, i.by n m) }

abbrev pub EachBy : ℕ → List ExprTree → Type 0
EachBy k [] = Unit {0}
EachBy k (e ∷ es) = ExprBy k e × EachBy k es

args_open : (k n : ℕ) (es : List ExprTree) → n + k ≤ 512 → EachBy k es → ArgsOpen n (args es)
args_open k n [] m h = tt
args_open k n (e ∷ es) m h = (h.0.by n m, args_open k n es m h.1)

pub each_both : (k : ℕ) (es fs : List ExprTree) → EachBy k es → EachBy k fs → EachBy k (es ++ fs)
each_both k [] fs h j = j
each_both k (e ∷ es) fs h j = (h.0, each_both k es fs h.1 j)

pub code_call : (d k : ℕ) (into : Option ExprTree) (name : List ℕ) (es : List ExprTree) (rest : Code) → d + 1 ≤ k → OptionBy k into → EachBy d es → CodeBy k rest → CodeBy k (c.call into name (args es) rest)
code_call d k into name es rest l h j i = record { by = λ n m. (value_opens k n into m h, (omega (arith, l, m), (args_open d (n + 1) es (omega (arith, l, m)) j, i.by n m))) }

pub easy : (k : ℕ) (e : ExprTree) → ((n : ℕ) → ExprOpens n e) → ExprBy k e
easy k e h = record { by = λ n m. h n }

-- Places of buffers.
pub place_by : (k : ℕ) (names : Names) (n : ℕ) (ty : Ty) → ExprBy k (place_in (io_code names n) ty)
place_by k names n types.Writer = easy k _ (λ m. tt {0})
place_by k names n types.Reader = easy k _ (λ m. tt {0})
place_by k names n types.Flag = easy k _ (λ m. tt {0})
place_by k names n types.Status = easy k _ (λ m. tt {0})
place_by k names n (types.Num width lo hi) = easy k _ (λ m. tt {0})
place_by k names n (types.Slice width) = easy k _ (λ m. tt {0})
place_by k names n (types.Array width lo hi count) = easy k _ (λ m. tt {0})
place_by k names n (types.Part s) = easy k _ (λ m. tt {0})

pub end_by : (k : ℕ) (names : Names) (n : ℕ) (ty : Ty) → 1 ≤ k → ExprBy k (end_of (io_code names n) ty)
end_by k names n types.Writer l = by_choice 0 k _ _ _ l (easy 0 _ (λ m. tt {0})) (easy 0 _ (λ m. tt {0})) (easy 0 _ (λ m. tt {0}))
end_by k names n types.Reader l = easy k _ (λ m. tt {0})
end_by k names n types.Flag l = easy k _ (λ m. tt {0})
end_by k names n types.Status l = easy k _ (λ m. tt {0})
end_by k names n (types.Num width lo hi) l = easy k _ (λ m. tt {0})
end_by k names n (types.Slice width) l = easy k _ (λ m. tt {0})
end_by k names n (types.Array width lo hi count) l = easy k _ (λ m. tt {0})
end_by k names n (types.Part s) l = easy k _ (λ m. tt {0})

pub puts_by : (k : ℕ) (names : Names) (picks : ℕ → Bool) (n : ℕ) (xs : List Variable) (rest : Code) → CodeBy k rest → CodeBy k (put names picks n xs rest)
puts_by k names picks n [] rest h = h
puts_by k names picks n (x ∷ xs) rest h =
    let more = puts_by k names picks (suc n) xs rest h in
    code_if k (is_io x.ty) _ _ (code_if k (picks n) _ _ (code_assign k _ _ _ (place_by k names n x.ty) (easy k _ (λ m. tt {0})) more) more) more

gets_by : (k : ℕ) (names : Names) (picks : ℕ → Bool) (n : ℕ) (xs : List Variable) (rest : Code) → 1 ≤ k → CodeBy k rest → CodeBy k (get names picks n xs rest)
gets_by k names picks n [] rest l h = h
gets_by k names picks n (x ∷ xs) rest l h =
    let more = gets_by k names picks (suc n) xs rest l h in
    code_if k (is_io x.ty) _ _ (code_if k (picks n) _ _ (code_assign k _ _ _ (easy k _ (λ m. tt {0})) (place_by k names n x.ty) (code_assign k _ _ _ (easy k _ (λ m. tt {0})) (end_by k names n x.ty l) more)) more) more

saves_by : (k : ℕ) (method : List ℕ) (xs : List Variable) (rest : Code) → CodeBy k rest → CodeBy k (save_locals method xs rest)
saves_by k method [] rest h = h
saves_by k method (x ∷ xs) rest h =
    let more = saves_by k method xs rest h in
    code_if k (is_kept x.ty) _ _ (code_assign k _ _ _ (easy k _ (λ m. tt {0})) (easy k _ (λ m. tt {0})) more) more

restores_by : (k : ℕ) (method : List ℕ) (xs : List Variable) (rest : Code) → CodeBy k rest → CodeBy k (restore_locals method xs rest)
restores_by k method [] rest h = h
restores_by k method (x ∷ xs) rest h =
    let more = restores_by k method xs rest h in
    code_if k (is_kept x.ty) _ _ (code_assign k _ _ _ (easy k _ (λ m. tt {0})) (easy k _ (λ m. tt {0})) more) more

saves_started_by : (k : ℕ) (it : MethodTree) (rest : Code) → CodeBy k rest → CodeBy k (save_started it rest)
saves_started_by k it rest h =
    code_if k (keeps holds_something it.body) _ _ (code_assign k _ _ _ (easy k _ (λ m. tt {0})) (easy k _ (λ m. tt {0})) saved) saved
  where
    saved : CodeBy k (save_count it rest)
    saved = code_if k (keeps counts_bytes it.body) _ _ (code_assign k _ _ _ (easy k _ (λ m. tt {0})) (easy k _ (λ m. tt {0})) h) h

pub restores_all_by : (k : ℕ) (it : MethodTree) (rest : Code) → CodeBy k rest → CodeBy k (restore_locals it.name it.locals (restore_started it rest))
restores_all_by k it rest h =
    restores_by k it.name it.locals _
    (code_if k (keeps holds_something it.body) _ _ (code_assign k _ _ _ (easy k _ (λ m. tt {0})) (easy k _ (λ m. tt {0})) restored) restored)
  where
    restored : CodeBy k (restore_count it rest)
    restored = code_if k (keeps counts_bytes it.body) _ _ (code_assign k _ _ _ (easy k _ (λ m. tt {0})) (easy k _ (λ m. tt {0})) h) h

pub gives_by : (k : ℕ) (f : Form) (v : Option ExprTree) (rest : Code) → OptionBy k v → CodeBy k rest → CodeBy k (give f v rest)
gives_by k f v rest h i = puts_by k f.names (λ n. true) 0 f.method.args (leave v rest) (code_leave k v rest h i)

pub suspends_by : (k : ℕ) (f : Form) (j : ℕ) (e : ExprTree) (rest : Code) → ExprBy k e → CodeBy k rest → CodeBy k (suspend f j e rest)
suspends_by k f j e rest h i =
    saves_by k f.method.name f.method.locals _ (saves_started_by k f.method _ (code_assign k _ _ _ (easy k _ (λ m. tt {0})) (by_num k j) (gives_by k f (Some e) rest h i)))

-- Statements of a depth: k is the greatest number of brackets for it, and e that for its expressions.
module _ (d : ℕ) where
  abbrev e_max : ℕ
  e_max = 5 * d + 5

  abbrev k_max : ℕ
  k_max = 5 * d + 12

  -- what is given opens two more
  abbrev g_max : ℕ
  g_max = 5 * d + 7

  deep : (e : ExprTree) → ExprBy e_max e → ExprBy k_max e
  deep e h = by_more e_max k_max e (omega arith) h

  deep_given : (e : ExprTree) → ExprBy g_max e → ExprBy k_max e
  deep_given e h = by_more g_max k_max e (omega arith) h

  two_more : (e : ExprTree) → ExprBy e_max e → ExprBy g_max e
  two_more e h = by_more e_max g_max e (omega arith) h

  element_by : (names : Names) (cells : SliceTree) (index : NumTree) → (nat_le 1 d && (slice_within (d - 1) cells && num_within (d - 1) index)) ≡ true
      → ExprBy k_max (c.element (lowered_slice names cells).pointer (lowered_expr names index))
  element_by names cells index w =
      let p = both_true (nat_le 1 d) (slice_within (d - 1) cells && num_within (d - 1) index) w in
      let q = both_true (slice_within (d - 1) cells) (num_within (d - 1) index) p.1 in
      let l = at_least_one d p.0 in
      by_element (5 * (d - 1) + 5) k_max _ _ (omega (arith, l)) (by_more (5 * (d - 1) + 5) k_max _ (omega (arith, l)) (slice_by names (d - 1) cells q.0).0) (num_by names (d - 1) index q.1)

  sets_by : (place v : ExprTree) (rest : Code) → ExprBy k_max place → ExprBy k_max v → CodeBy k_max rest → CodeBy k_max (set_place place v rest)
  sets_by place v rest h i j = code_if k_max (is_same_variable place v) rest (c.assign place v rest) j (code_assign k_max place v rest h i j)

  intos_by : (names : Names) (t : Target) (v : ExprTree) (rest : Code) → target_within d t ≡ true → ExprBy k_max v → CodeBy k_max rest → CodeBy k_max (put_into names t v rest)
  intos_by names (to_number at of path) v rest w h i = sets_by (path_code names path) v rest (by_path names k_max path) h i
  intos_by names (to_element at of cells index) v rest w h i = sets_by (c.element (lowered_slice names cells).pointer (lowered_expr names index)) v rest (element_by names cells index w) h i
  intos_by names (to_flag at path) v rest w h i = sets_by (path_code names path) v rest (by_path names k_max path) h i
  intos_by names (to_status at path) v rest w h i = sets_by (path_code names path) v rest (by_path names k_max path) h i
  intos_by names (to_slice at bits path) v rest w h i = i
  intos_by names to_nothing v rest w h i = i

  slices_by : (names : Names) (t : Target) (it : Pair) (rest : Code) → PairBy e_max it → CodeBy k_max rest → CodeBy k_max (set_slice names t it rest)
  slices_by names (to_slice at bits (local n)) it rest h i =
      let pointer = c.variable (local_pointer names n) in
      let length = c.variable (local_length names n) in
      let set_length = code_assign k_max length size_local rest (easy k_max length (λ m. tt {0})) (easy k_max size_local (λ m. tt {0})) i in
      code_assign k_max size_local it.length.code (set_place pointer it.pointer (c.assign length size_local rest)) (easy k_max size_local (λ m. tt {0})) (deep it.length.code h.1)
      (sets_by pointer it.pointer (c.assign length size_local rest) (easy k_max pointer (λ m. tt {0})) (deep it.pointer h.0) set_length)
  slices_by names (to_slice at bits (field n)) it rest h i = i
  slices_by names (to_slice at bits (arg n)) it rest h i = i
  slices_by names (to_number at of path) it rest h i = i
  slices_by names (to_element at of cells index) it rest h i = i
  slices_by names (to_flag at path) it rest h i = i
  slices_by names (to_status at path) it rest h i = i
  slices_by names to_nothing it rest h i = i

  values_by : (names : Names) (t : Target) (v : ValueTree) (rest : Code) → target_within d t ≡ true → value_within d v ≡ true → CodeBy k_max rest → CodeBy k_max (set_value names t v rest)
  values_by names t (numeric v) rest w u i = intos_by names t (given names v) rest w (deep_given _ (given_by names d v u)) i
  values_by names t (logical v) rest w u i = intos_by names t (lowered_cond names v) rest w (deep _ (cond_by names d v u)) i
  values_by names t (state v) rest w u i = intos_by names t (lowered_status names v) rest w (by_status names k_max v) i
  values_by names t (elements v) rest w u i = slices_by names t (lowered_slice names v) rest (slice_by names d v u) i
  values_by names t (io at a) rest w u i = i
  values_by names t lost rest w u i = i

  step_by : (names : Names) (a : ℕ) (e : ExprTree) (rest : Code) → ExprBy (e_max + 1) e → CodeBy k_max rest → CodeBy k_max (step_on names a e rest)
  step_by names a e rest h i = code_assign k_max _ _ rest (easy k_max _ (λ m. tt {0})) (by_two (e_max + 1) k_max Add _ e (omega arith) (easy (e_max + 1) _ (λ m. tt {0})) h) i

  next_by : (names : Names) (a : ℕ) → ExprBy 1 (next_byte names a)
  next_by names a = by_element 0 1 _ _ (omega arith) (easy 1 _ (λ m. tt {0})) (easy 0 _ (λ m. tt {0}))

  last_by : (names : Names) (a : ℕ) → ExprBy 2 (taken_byte names a)
  last_by names a = by_element 1 2 _ _ (omega arith) (easy 2 _ (λ m. tt {0})) (by_two 0 1 Sub (place_code names a) (num 1) (omega arith) (easy 0 (place_code names a) (λ m. tt {0})) (by_num 0 1))

  with_by : (big : Bool) (names : Names) (a : ℕ) → ExprBy 4 (with_byte big (next_byte names a))
  with_by true names a =
      by_two 3 4 Add _ _ (omega arith) (by_two 0 3 Shl _ _ (omega arith) (easy 0 _ (λ m. tt {0})) (by_num 0 8)) (by_more 1 3 _ (omega arith) (next_by names a))
  with_by false names a =
      by_two 3 4 Add _ _ (omega arith) (easy 3 _ (λ m. tt {0}))
      (by_two 2 3 Shl _ _ (omega arith) (by_cast 1 2 _ _ (omega arith) (omega arith) (next_by names a)) (by_two 0 2 Mul _ _ (omega arith) (by_num 0 8) (easy 0 _ (λ m. tt {0}))))

  take_by : (names : Names) (a : ℕ) (form : ReadForm) (rest : Code) → CodeBy k_max rest → CodeBy k_max (take_byte names a form rest)
  take_by names a form rest i =
      code_when 4 k_max (two Both (two Lt count_local (num (bytes_of (read_width form)))) (two Lt (place_code names a) (end_code names a)))
      (c.assign held_local (with_byte (is_big_endian form) (next_byte names a)) (step_on names a (num 1) (c.assign count_local (two Add count_local (num 1)) finish))) rest (omega arith)
      (by_two 1 4 Both _ _ (omega arith) (by_two 0 1 Lt count_local (num (bytes_of (read_width form))) (omega arith) (easy 0 count_local (λ m. tt {0})) (by_num 0 (bytes_of (read_width form))))
      (by_two 0 1 Lt (place_code names a) (end_code names a) (omega arith) (easy 0 (place_code names a) (λ m. tt {0})) (easy 0 (end_code names a) (λ m. tt {0}))))
      (code_assign 4 held_local _ _ (easy 4 held_local (λ m. tt {0})) (with_by (is_big_endian form) names a)
      (code_assign 4 (place_code names a) (two Add (place_code names a) (num 1)) _ (easy 4 (place_code names a) (λ m. tt {0})) (by_two 0 4 Add (place_code names a) (num 1) (omega arith) (easy 0 (place_code names a) (λ m. tt {0})) (by_num 0 1))
      (code_assign 4 count_local (two Add count_local (num 1)) finish (easy 4 count_local (λ m. tt {0})) (by_two 0 4 Add count_local (num 1) (omega arith) (easy 0 count_local (λ m. tt {0})) (by_num 0 1)) (code_finish 4))))
      i

  takes_by : (names : Names) (a : ℕ) (form : ReadForm) (n : ℕ) (rest : Code) → CodeBy k_max rest → CodeBy k_max (take_bytes names a form n rest)
  takes_by names a form zero rest i = i
  takes_by names a form (suc n) rest i = take_by names a form (take_bytes names a form n rest) (takes_by names a form n rest i)

  held_by : (rest : Code) → CodeBy k_max rest → CodeBy k_max (c.assign held_local (num 0) (c.assign count_local (num 0) rest))
  held_by rest i = code_assign k_max _ _ _ (easy k_max _ (λ m. tt {0})) (by_num k_max 0) (code_assign k_max _ _ _ (easy k_max _ (λ m. tt {0})) (by_num k_max 0) i)

  all_by : (names : Names) (a : ℕ) (form : ReadForm) → CodeBy 5 (take_all names a form)
  all_by names a form =
      let all = num (bytes_of (read_width form)) in
      code_assign 5 held_local _ _ (easy 5 held_local (λ m. tt {0})) (by_number_ahead names a (bits_of (read_width form)) (is_big_endian form))
      (code_assign 5 (place_code names a) (two Add (place_code names a) all) _ (easy 5 (place_code names a) (λ m. tt {0})) (by_two 0 5 Add (place_code names a) all (omega arith) (easy 0 (place_code names a) (λ m. tt {0})) (by_num 0 (bytes_of (read_width form))))
      (code_assign 5 count_local all finish (easy 5 count_local (λ m. tt {0})) (by_num 5 (bytes_of (read_width form))) (code_finish 5)))

  begun_more_by : (names : Names) (a : ℕ) (form : ReadForm) (rest : Code) → CodeBy k_max rest
      → CodeBy k_max (c.assign held_local (num 0) (c.assign count_local (num 0) (when (are_all_there names a form) (take_all names a form) rest)))
  begun_more_by names a form rest i =
      held_by _
      (code_when 5 k_max (are_all_there names a form) (take_all names a form) rest (omega arith)
      (by_two 1 5 Ge (there names a) (num (bytes_of (read_width form))) (omega arith) (by_two 0 1 Sub (end_code names a) (place_code names a) (omega arith) (easy 0 (end_code names a) (λ m. tt {0})) (easy 0 (place_code names a) (λ m. tt {0}))) (by_num 1 (bytes_of (read_width form))))
      (all_by names a form) i)

  begun_calls_by : (names : Names) (a : ℕ) (call : Awaited) (rest : Code) → awaited_within d call ≡ true → CodeBy k_max rest → CodeBy k_max (begun_call names a call rest)
  begun_calls_by names a (take_number ReadU8) rest w i = i
  begun_calls_by names a (take_number ReadU16Be) rest w i = begun_more_by names a ReadU16Be rest i
  begun_calls_by names a (take_number ReadU16Le) rest w i = begun_more_by names a ReadU16Le rest i
  begun_calls_by names a (take_number ReadU32Be) rest w i = begun_more_by names a ReadU32Be rest i
  begun_calls_by names a (take_number ReadU32Le) rest w i = begun_more_by names a ReadU32Le rest i
  begun_calls_by names a (take_number ReadU64Be) rest w i = begun_more_by names a ReadU64Be rest i
  begun_calls_by names a (take_number ReadU64Le) rest w i = begun_more_by names a ReadU64Le rest i
  begun_calls_by names a (skip n) rest w i = code_assign k_max _ _ _ (easy k_max _ (λ m. tt {0})) (deep_given _ (given_by names d n w)) i
  begun_calls_by names a (write b) rest w i = code_if k_max (stays b) _ _ i (code_assign k_max _ _ _ (easy k_max _ (λ m. tt {0})) (deep_given _ (given_by names d b w)) i)

  taken_by : (f : Form) (j : ℕ) (t : Target) (a : ℕ) (form : ReadForm) (n : ℕ) (rest : Code) → target_within d t ≡ true → CodeBy k_max rest
      → CodeBy k_max (take_bytes f.names a form (bytes_of (read_width form)) (when (two Lt count_local (num (bytes_of (read_width form)))) (suspend f j (status_constant n) finish) (put_into f.names t held_local rest)))
  taken_by f j t a form n rest w i =
      takes_by f.names a form (bytes_of (read_width form)) _
      (code_when 1 k_max _ _ _ (omega arith) (by_two 0 1 Lt count_local (num (bytes_of (read_width form))) (omega arith) (easy 0 count_local (λ m. tt {0})) (by_num 0 (bytes_of (read_width form)))) (suspends_by 1 f j (status_constant n) finish (by_constant f.names 1 n) (code_finish 1))
      (intos_by f.names t held_local rest w (easy k_max _ (λ m. tt {0})) i))

  used_by : (k : ℕ) (names : Names) (a : ℕ) → 1 ≤ k → ExprBy k (two Ge (place_code names a) (end_code names a))
  used_by k names a l = by_two 0 k Ge _ _ l (easy 0 _ (λ m. tt {0})) (easy 0 _ (λ m. tt {0}))

  there_by : (k : ℕ) (names : Names) (a : ℕ) → 1 ≤ k → ExprBy k (there names a)
  there_by k names a l = by_two 0 k Sub _ _ l (easy 0 _ (λ m. tt {0})) (easy 0 _ (λ m. tt {0}))

  bare_stays_by : (k bits : ℕ) (names : Names) (b : NumTree) → stays b ≡ true → ExprBy k (taken bits (lowered_expr names (bare b)))
  bare_stays_by k bits names (number at n) h = by_num k n
  bare_stays_by k bits names (read at of (local n)) h = easy k _ (λ m. tt {0})
  bare_stays_by k bits names (read at of (field n)) h = absurd (cc h)
  bare_stays_by k bits names (read at of (arg n)) h = absurd (cc h)
  bare_stays_by k bits names (convert at sign own_bits a) h = bare_stays_by k bits names a h
  bare_stays_by k bits names (element at of cells index) h = absurd (cc h)
  bare_stays_by k bits names (link at sign op own_bits joined a b) h = absurd (cc h)
  bare_stays_by k bits names (length_of at cells) h = absurd (cc h)
  bare_stays_by k bits names (asked at question a) h = absurd (cc h)

  stays_by : (k : ℕ) (names : Names) (b : NumTree) → stays b ≡ true → ExprBy k (given names b)
  stays_by k names (number at n) h = by_num k n
  stays_by k names (read at of (local n)) h = easy k _ (λ m. tt {0})
  stays_by k names (read at of (field n)) h = absurd (cc h)
  stays_by k names (read at of (arg n)) h = absurd (cc h)
  stays_by k names (convert at sign bits a) h = bare_stays_by k bits names a h
  stays_by k names (element at of cells index) h = absurd (cc h)
  stays_by k names (link at sign op bits joined a b) h = absurd (cc h)
  stays_by k names (length_of at cells) h = absurd (cc h)
  stays_by k names (asked at question a) h = absurd (cc h)

  written_by : (k : ℕ) (names : Names) (b : NumTree) → ExprBy k (written_byte names b)
  written_by k names b = by (stays b) refl
    where
      by : (test : Bool) → stays b ≡ test → ExprBy k (if test then given names b else held_local)
      by true e = stays_by k names b e
      by false e = easy k held_local (λ m. tt {0})

  awoken_calls_by : (f : Form) (j : ℕ) (t : Target) (a : ℕ) (call : Awaited) (rest : Code) → target_within d t ≡ true → CodeBy k_max rest → CodeBy k_max (awoken_call f j t a call rest)
  awoken_calls_by f j t a (take_number ReadU8) rest w i =
      code_when 1 k_max _ _ _ (omega arith) (used_by 1 f.names a (omega arith)) (suspends_by 1 f j _ finish (by_constant f.names 1 short_read) (code_finish 1))
      (step_by f.names a (num 1) _ (by_num (e_max + 1) 1) (intos_by f.names t (taken_byte f.names a) rest w (by_more 2 k_max _ (omega arith) (last_by f.names a)) i))
  awoken_calls_by f j t a (take_number ReadU16Be) rest w i = taken_by f j t a ReadU16Be short_read rest w i
  awoken_calls_by f j t a (take_number ReadU16Le) rest w i = taken_by f j t a ReadU16Le short_read rest w i
  awoken_calls_by f j t a (take_number ReadU32Be) rest w i = taken_by f j t a ReadU32Be short_read rest w i
  awoken_calls_by f j t a (take_number ReadU32Le) rest w i = taken_by f j t a ReadU32Le short_read rest w i
  awoken_calls_by f j t a (take_number ReadU64Be) rest w i = taken_by f j t a ReadU64Be short_read rest w i
  awoken_calls_by f j t a (take_number ReadU64Le) rest w i = taken_by f j t a ReadU64Le short_read rest w i
  awoken_calls_by f j t a (skip n) rest w i =
      code_when 2 k_max _ _ _ (omega arith) (by_two 1 2 Gt _ _ (omega arith) (easy 1 _ (λ m. tt {0})) (there_by 1 f.names a (omega arith)))
      (code_assign 2 _ _ _ (easy 2 _ (λ m. tt {0})) (by_two 1 2 Sub _ _ (omega arith) (easy 1 _ (λ m. tt {0})) (there_by 1 f.names a (omega arith)))
      (code_assign 2 _ _ _ (easy 2 _ (λ m. tt {0})) (easy 2 _ (λ m. tt {0})) (suspends_by 2 f j _ finish (by_constant f.names 2 short_read) (code_finish 2))))
      (step_by f.names a held_local rest (easy (e_max + 1) _ (λ m. tt {0})) i)
  awoken_calls_by f j t a (write b) rest w i =
      code_when 1 k_max _ _ _ (omega arith) (used_by 1 f.names a (omega arith)) (suspends_by 1 f j _ finish (by_constant f.names 1 short_write) (code_finish 1))
      (code_assign k_max _ _ _ (by_more 1 k_max _ (omega arith) (next_by f.names a)) (written_by k_max f.names b) (step_by f.names a (num 1) rest (by_num (e_max + 1) 1) i))

  size_by : (one other : ExprTree) (rest : Code) → ExprBy (e_max + 1) one → ExprBy (e_max + 1) other → CodeBy k_max rest
      → CodeBy k_max (c.assign size_local one (when (two Gt size_local other) (c.assign size_local other finish) rest))
  size_by one other rest h j i =
      code_assign k_max _ _ _ (easy k_max _ (λ m. tt {0})) (by_more (e_max + 1) k_max one (omega arith) h)
      (code_when (e_max + 2) k_max _ _ _ (omega arith) (by_two (e_max + 1) (e_max + 2) Gt _ other (omega arith) (easy (e_max + 1) _ (λ m. tt {0})) j)
      (code_assign (e_max + 2) _ _ _ (easy (e_max + 2) _ (λ m. tt {0})) (by_more (e_max + 1) (e_max + 2) other (omega arith) j) (code_finish (e_max + 2))) i)

  bytes_by : (k bits : ℕ) → 1 ≤ k → ExprBy k (bytes_for bits)
  bytes_by k bits l = by_if k (nat_eq bits 8) _ _ (easy k _ (λ m. tt {0})) (by_two 0 k Mul size_local (num (bits / 8)) l (easy 0 _ (λ m. tt {0})) (by_num 0 (bits / 8)))

  move_by : (bits : ℕ) (to from : ExprTree) (rest : Code) → ExprBy (e_max + 1) to → ExprBy (e_max + 1) from → CodeBy k_max rest
      → CodeBy k_max (when size_local (c.call None (codes "memmove") (args (to ∷ from ∷ bytes_for bits ∷ [])) finish) rest)
  move_by bits to from rest h j i =
      code_when (e_max + 2) k_max _ _ _ (omega arith) (easy (e_max + 2) _ (λ m. tt {0}))
      (code_call (e_max + 1) (e_max + 2) None _ (to ∷ from ∷ bytes_for bits ∷ []) finish (omega arith) tt (h, (j, (bytes_by (e_max + 1) bits (omega arith), tt))) (code_finish (e_max + 2))) i

  one_more : (e : ExprTree) → ExprBy e_max e → ExprBy (e_max + 1) e
  one_more e h = by_more e_max (e_max + 1) e (omega arith) h

  writtens_by : (names : Names) (t : Target) (w : Written) (rest : Code) → target_within d t ≡ true → written_within d w ≡ true → CodeBy k_max rest → CodeBy k_max (lower_written names t w rest)
  writtens_by names t (skip_fast a actual worst) rest w u i = step_by names a _ rest (one_more _ (num_by names d actual u)) i
  writtens_by names t (write_fast a b) rest w u i =
      code_assign k_max _ _ _ (by_more 1 k_max _ (omega arith) (next_by names a)) (deep_given _ (given_by names d b u)) (step_by names a (num 1) rest (by_num (e_max + 1) 1) i)
  writtens_by names t (copy_to_writer a s) rest w u i =
      let it = slice_by names d s u in
      size_by _ _ _ (one_more _ it.1) (there_by (e_max + 1) names a (omega arith))
      (move_by 8 _ _ _ (by_two 0 (e_max + 1) Add _ _ (omega arith) (easy 0 _ (λ m. tt {0})) (easy 0 _ (λ m. tt {0}))) (one_more _ it.0)
      (step_by names a size_local _ (easy (e_max + 1) _ (λ m. tt {0})) (intos_by names t size_local rest w (easy k_max _ (λ m. tt {0})) i)))
  writtens_by names t (copy_to_slice to s) rest w u i =
      let p = both_true (slice_within d to) (slice_within d s) u in
      let one = slice_by names d to p.0 in
      let other = slice_by names d s p.1 in
      size_by _ _ _ (one_more _ one.1) (by_widened e_max (e_max + 1) 64 (lowered_slice names s).length (omega arith) (omega arith) other.1)
      (move_by (slice_bits to) _ _ _ (one_more _ one.0) (one_more _ other.0) (intos_by names t size_local rest w (easy k_max _ (λ m. tt {0})) i))

  codes_by : (names : Names) (v : ValueTree) → value_within d v ≡ true → EachBy g_max (value_codes names v)
  codes_by names (numeric t) u = (given_by names d t u, tt)
  codes_by names (logical t) u = (two_more _ (cond_by names d t u), tt)
  codes_by names (state t) u = (by_status names g_max t, tt)
  codes_by names (elements t) u = let it = slice_by names d t u in (two_more _ it.0, (two_more _ it.1, tt))
  codes_by names (io at a) u = (easy g_max _ (λ m. tt {0}), tt)
  codes_by names lost u = tt

  all_codes_by : (names : Names) (vs : List ValueTree) → list_all (value_within d) vs ≡ true → EachBy g_max (values_codes names vs)
  all_codes_by names [] u = tt
  all_codes_by names (v ∷ vs) u =
      let p = both_true (value_within d v) (list_all (value_within d) vs) u in
      each_both g_max (value_codes names v) (values_codes names vs) (codes_by names v p.0) (all_codes_by names vs p.1)

  receiver_by : (names : Names) (called : Called) → ExprBy g_max (receiver_code names called)
  receiver_by names (own m) = easy g_max _ (λ m. tt {0})
  receiver_by names (sub x m) = by_unary 0 g_max Address _ (omega arith) (easy 0 _ (λ m. tt {0}))

  calls_by : (f : Form) (into : Option ExprTree) (called : Called) (callee : MethodTree) (given_args : List ValueTree) (rest : Code) → OptionBy k_max into → list_all (value_within d) given_args ≡ true → CodeBy k_max rest
      → CodeBy k_max (call_into f into called callee given_args rest)
  calls_by f into called callee given_args rest h u i =
      puts_by k_max f.names (is_passed given_args) 0 f.method.args _
      (code_call g_max k_max into _ (receiver_code f.names called ∷ values_codes f.names given_args) _ (omega arith) h (receiver_by f.names called, all_codes_by f.names given_args u)
      (gets_by k_max f.names (is_passed given_args) 0 f.method.args rest (omega arith) i))

  hands_by : (f : Form) (j : ℕ) (rest : Code) → CodeBy k_max rest → CodeBy k_max (hand_on f j rest)
  hands_by f j rest i =
      code_when 4 k_max _ _ _ (omega arith) (easy 4 _ (λ m. tt {0}))
      (code_when 3 4 _ _ _ (omega arith) (by_two 1 3 Eq _ _ (omega arith) (by_num 1 36) (by_element 0 1 _ _ (omega arith) (easy 1 _ (λ m. tt {0})) (by_num 0 0)))
      (suspends_by 3 f j status_local finish (easy 3 _ (λ m. tt {0})) (code_finish 3)) (gives_by 4 f (Some status_local) finish (easy 4 _ (λ m. tt {0})) (code_finish 4))) i

  results_by : (names : Names) (t : Target) (into : Option ExprTree) (rest : Code) → target_within d t ≡ true → OptionBy k_max into → CodeBy k_max rest → CodeBy k_max (put_result names t into rest)
  results_by names t None rest w h i = i
  results_by names t (Some e) rest w h i = intos_by names t e rest w h i

  handeds_by : (f : Form) (j : ℕ) (called : Called) (callee : Option MethodTree) (given_args : List ValueTree) (rest : Code) → list_all (value_within d) given_args ≡ true → CodeBy k_max rest
      → CodeBy k_max (handed_call f j called callee given_args rest)
  handeds_by f j called None given_args rest u i = i
  handeds_by f j called (Some callee) given_args rest u i = calls_by f (Some status_local) called callee given_args _ (easy k_max _ (λ m. tt {0})) u (hands_by f j rest i)

  plains_by : (f : Form) (t : Target) (called : Called) (callee : Option MethodTree) (given_args : List ValueTree) (rest : Code) → target_within d t ≡ true → list_all (value_within d) given_args ≡ true → CodeBy k_max rest
      → CodeBy k_max (plain_call f t called callee given_args rest)
  plains_by f t called None given_args rest w u i = i
  plains_by f t called (Some callee) given_args rest w u i =
      calls_by f _ called callee given_args _ (wanted (is_wanted t) (answer_local callee.mark callee.gives) (answered callee.mark callee.gives)) u
      (results_by f.names t (answer_local callee.mark callee.gives) rest w (answered callee.mark callee.gives) i)
    where
      wanted : (b : Bool) (e : Option ExprTree) → OptionBy k_max e → OptionBy k_max (if b then e else None)
      wanted true e h = h
      wanted false e h = tt

      by_type : (gives : Option Ty) → OptionBy k_max (answer_local Pure gives)
      by_type None = tt
      by_type (Some types.Status) = easy k_max _ (λ m. tt {0})
      by_type (Some types.Flag) = easy k_max _ (λ m. tt {0})
      by_type (Some types.Reader) = easy k_max _ (λ m. tt {0})
      by_type (Some types.Writer) = easy k_max _ (λ m. tt {0})
      by_type (Some (types.Num width lo hi)) = easy k_max _ (λ m. tt {0})
      by_type (Some (types.Slice width)) = easy k_max _ (λ m. tt {0})
      by_type (Some (types.Array width lo hi count)) = easy k_max _ (λ m. tt {0})
      by_type (Some (types.Part s)) = easy k_max _ (λ m. tt {0})

      answered : (mark : Mark) (gives : Option Ty) → OptionBy k_max (answer_local mark gives)
      answered Coroutine gives = easy k_max _ (λ m. tt {0})
      answered Pure gives = by_type gives
      answered Impure gives = by_type gives

  asks_by : (f : Form) (e cannot : ExprTree) (rest : Code) → ExprBy k_max e → ExprBy 3 cannot → CodeBy k_max rest
      → CodeBy k_max (if is_coroutine f.method.mark
      then c.assign status_local e (when (begins_with 36 status_local) (c.assign status_local cannot finish) (give f (Some status_local) rest))
      else give f (Some e) rest)
  asks_by f e cannot rest h j i =
      code_if k_max (is_coroutine f.method.mark) _ _
      (code_assign k_max status_local e _ (easy k_max status_local (λ m. tt {0})) h
      (code_when 3 k_max (begins_with 36 status_local) (c.assign status_local cannot finish) _ (omega arith) (by_begins f.names 0 3 36 status_local (omega arith) (easy 0 status_local (λ m. tt {0})))
      (code_assign 3 status_local cannot finish (easy 3 status_local (λ m. tt {0})) j (code_finish 3)) (gives_by k_max f (Some status_local) rest (easy k_max status_local (λ m. tt {0})) i)))
      (gives_by k_max f (Some e) rest h i)

  statuses_by : (f : Form) (s : StatusTree) (rest : Code) → CodeBy k_max rest → CodeBy k_max (give_status f s rest)
  statuses_by f (status at n) rest i = gives_by k_max f _ rest (by_constant f.names k_max _) i
  statuses_by f (held at path) rest i = asks_by f _ _ rest (by_status f.names k_max (held at path)) (by_constant f.names 3 cannot_suspend) i
  statuses_by f no_status rest i = asks_by f _ _ rest (by_status f.names k_max no_status) (by_constant f.names 3 cannot_suspend) i

  given_values_by : (f : Form) (v : Option ValueTree) (rest : Code) → simple_within d (give_back v) ≡ true → CodeBy k_max rest → CodeBy k_max (give_value f v rest)
  given_values_by f None rest u i = gives_by k_max f None rest tt i
  given_values_by f (Some (numeric t)) rest u i = gives_by k_max f (Some (given f.names t)) rest (deep_given _ (given_by f.names d t u)) i
  given_values_by f (Some (logical t)) rest u i = gives_by k_max f (Some (lowered_cond f.names t)) rest (deep _ (cond_by f.names d t u)) i
  given_values_by f (Some (state t)) rest u i = statuses_by f t rest i
  given_values_by f (Some (elements t)) rest u i = i
  given_values_by f (Some (io at a)) rest u i = i
  given_values_by f (Some lost) rest u i = i

  plain_by : (f : Form) (s : Simple) (rest : Code) → simple_within d s ≡ true → CodeBy k_max rest → CodeBy k_max (lower_plain f s rest)
  plain_by f (assign t op v) rest u i = let p = both_true (target_within d t) (value_within d v) u in values_by f.names t v rest p.0 p.1 i
  plain_by f (await at t a call) rest u i = i
  plain_by f (perform at t call) rest u i = let p = both_true (target_within d t) (written_within d call) u in writtens_by f.names t call rest p.0 p.1 i
  plain_by f (invoke at t keep mark called given_args) rest u i =
      let p = both_true (target_within d t) (list_all (value_within d) given_args) u in
      plains_by f t called (slice_get f.within.methods (number_of called)) given_args rest p.0 p.1 i
  plain_by f (break_from w) rest u i = record { by = λ n m. i.by n m }
  plain_by f (continue_in w) rest u i = record { by = λ n m. i.by n m }
  plain_by f (give_back v) rest u i = given_values_by f v rest u i
  plain_by f (yield n) rest u i = i
  plain_by f (claim goal ax) rest u i = i

  begun_by : (f : Form) (j : ℕ) (s : Simple) (rest : Code) → simple_within d s ≡ true → CodeBy k_max rest → CodeBy k_max (begun f j s rest)
  begun_by f j (assign t op v) rest u i = i
  begun_by f j (await at t a call) rest u i = begun_calls_by f.names a call rest (both_true (target_within d t) (awaited_within d call) u).1 i
  begun_by f j (perform at t call) rest u i = i
  begun_by f j (invoke at t keep mark called given_args) rest u i = i
  begun_by f j (break_from w) rest u i = i
  begun_by f j (continue_in w) rest u i = i
  begun_by f j (give_back v) rest u i = i
  begun_by f j (yield n) rest u i = suspends_by k_max f j (status_constant n) rest (by_constant f.names k_max n) i
  begun_by f j (claim goal ax) rest u i = i

  awoken_by : (f : Form) (j : ℕ) (s : Simple) (rest : Code) → simple_within d s ≡ true → CodeBy k_max rest → CodeBy k_max (awoken f j s rest)
  awoken_by f j (assign t op v) rest u i = i
  awoken_by f j (await at t a call) rest u i = awoken_calls_by f j t a call rest (both_true (target_within d t) (awaited_within d call) u).0 i
  awoken_by f j (perform at t call) rest u i = i
  awoken_by f j (invoke at t keep mark called given_args) rest u i =
      handeds_by f j called (slice_get f.within.methods (number_of called)) given_args rest (both_true (target_within d t) (list_all (value_within d) given_args) u).1 i
  awoken_by f j (break_from w) rest u i = i
  awoken_by f j (continue_in w) rest u i = i
  awoken_by f j (give_back v) rest u i = i
  awoken_by f j (yield n) rest u i = i
  awoken_by f j (claim goal ax) rest u i = i

  resume_by : (j : ℕ) (rest : Code) → CodeBy k_max rest → CodeBy k_max (resume_here j rest)
  resume_by j rest i = code_when 0 k_max (num 0) (case_label (Int j) (empty finish)) rest (omega arith) (by_num 0 0) (record { by = λ n m. tt }) i

  pub simple_by : (f : Form) (j : ℕ) (s : Simple) (rest : Code) → simple_within d s ≡ true → CodeBy k_max rest → CodeBy k_max (lower_simple f j s rest)
  simple_by f j s rest u i =
      code_if k_max (is_point s) (lower_point f j s rest) (lower_plain f s rest) (begun_by f j s _ u (resume_by j _ (awoken_by f j s rest u i))) (plain_by f s rest u i)

-- Blocks.
label_by : (k : ℕ) (b : Bool) (name : List ℕ) (rest : Code) → CodeBy k rest → CodeBy k (if b then name_label name (empty rest) else rest)
label_by k true name rest h = record { by = λ n m. h.by n m }
label_by k false name rest h = h

code_repeat : (d k : ℕ) (test : ExprTree) (body rest : Code) → d + 1 ≤ k → ExprBy d test → CodeBy d body → CodeBy k rest → CodeBy k (c.repeat test body rest)
code_repeat d k test body rest l h j i = record { by = λ n m. (omega (arith, l, m), (h.by (n + 1) (omega (arith, l, m)), (j.by (n + 1) (omega (arith, l, m)), i.by n m))) }

code_flat : (d k : ℕ) (test : ExprTree) (body other rest : Code) → d + 1 ≤ k → ExprBy d test → CodeBy d body → CodeBy k other → CodeBy k rest → CodeBy k (c.branch test body else_is.If other rest)
code_flat d k test body other rest l h j o i = record { by = λ n m. (omega (arith, l, m), (h.by (n + 1) (omega (arith, l, m)), (j.by (n + 1) (omega (arith, l, m)), (o.by n m, i.by n m)))) }

code_block : (d k : ℕ) (test : ExprTree) (body other rest : Code) → d + 1 ≤ k → ExprBy d test → CodeBy d body → CodeBy d other → CodeBy k rest → CodeBy k (c.branch test body else_is.Block other rest)
code_block d k test body other rest l h j o i =
    record { by = λ n m. (omega (arith, l, m), (h.by (n + 1) (omega (arith, l, m)), (j.by (n + 1) (omega (arith, l, m)), ((omega (arith, l, m), o.by (n + 1) (omega (arith, l, m))), i.by n m)))) }

-- What stands after an `else`, of a block of the source: nothing, an `else if`, or a block.
else_by : (d k : ℕ) (f : Form) (n : Site → ℕ) (test : ExprTree) (body rest : Code) (b : Block) → d + 1 ≤ k → ExprBy d test → CodeBy d body → CodeBy (if is_chained b then k else d) (lower f n b finish) → CodeBy k rest
    → CodeBy k (c.branch test body (other_kind b) (lower f n b finish) rest)
else_by d k f n test body rest end l h j o i = code_when d k test body rest l h j i
else_by d k f n test body rest (plain site s r) l h j o i = code_block d k test body (lower f n (plain site s r) finish) rest l h j o i
else_by d k f n test body rest (choose site true t x y r) l h j o i = code_flat d k test body (lower f n (choose site true t x y r) finish) rest l h j o i
else_by d k f n test body rest (choose site false t x y r) l h j o i = code_block d k test body (lower f n (choose site false t x y r) finish) rest l h j o i
else_by d k f n test body rest (loop site head x r) l h j o i = code_block d k test body (lower f n (loop site head x r) finish) rest l h j o i

deeper : (b : Bool) (d : ℕ) (code : Code) → 1 ≤ d → CodeBy (5 * (if b then d else d - 1) + 12) code → CodeBy (if b then 5 * d + 12 else 5 * d + 11) code
deeper true d code l h = h
deeper false d code l h = code_more (5 * (d - 1) + 12) (5 * d + 11) code (omega (arith, l)) h

pub block_by : (f : Form) (n : Site → ℕ) (d : ℕ) (b : Block) (tail : Code) → block_within d b ≡ true → CodeBy (5 * d + 12) tail → CodeBy (5 * d + 12) (lower f n b tail)
block_by f n d end tail h i = i
block_by f n d (plain site s rest) tail h i =
    let p = both_true (simple_within d s) (block_within d rest) h in
    simple_by d f (n site) s (lower f n rest tail) p.0 (block_by f n d rest tail p.1 i)
block_by f n d (choose site chained t a b rest) tail h i =
    let p = both_true (nat_le 1 d) (cond_within d t && (block_within (d - 1) a && (block_within (if is_chained b then d else d - 1) b && block_within d rest))) h in
    let q = both_true (cond_within d t) (block_within (d - 1) a && (block_within (if is_chained b then d else d - 1) b && block_within d rest)) p.1 in
    let r = both_true (block_within (d - 1) a) (block_within (if is_chained b then d else d - 1) b && block_within d rest) q.1 in
    let u = both_true (block_within (if is_chained b then d else d - 1) b) (block_within d rest) r.1 in
    let l = at_least_one d p.0 in
    else_by (5 * d + 11) (5 * d + 12) f n (lowered_cond f.names t) (lower f n a finish) (lower f n rest tail) b (omega arith) (by_more (5 * d + 5) (5 * d + 11) _ (omega arith) (cond_by f.names d t q.0))
    (code_more (5 * (d - 1) + 12) (5 * d + 11) _ (omega (arith, l)) (block_by f n (d - 1) a finish r.0 (code_finish (5 * (d - 1) + 12))))
    (deeper (is_chained b) d (lower f n b finish) l (block_by f n (if is_chained b then d else d - 1) b finish u.0 (code_finish (5 * (if is_chained b then d else d - 1) + 12))))
    (block_by f n d rest tail u.1 i)
block_by f n d (loop site head body rest) tail h i =
    let p = both_true (nat_le 1 d) (cond_within d head.cond && (block_within (d - 1) body && block_within d rest)) h in
    let q = both_true (cond_within d head.cond) (block_within (d - 1) body && block_within d rest) p.1 in
    let r = both_true (block_within (d - 1) body) (block_within d rest) q.1 in
    let l = at_least_one d p.0 in
    code_repeat (5 * d + 11) (5 * d + 12) (lowered_cond f.names head.cond) _ _ (omega arith) (by_more (5 * d + 5) (5 * d + 11) _ (omega arith) (cond_by f.names d head.cond q.0))
    (code_more (5 * (d - 1) + 12) (5 * d + 11) _ (omega (arith, l)) (block_by f n (d - 1) body (again_here site body) r.0 (label_by (5 * (d - 1) + 12) (continues site.number body) (again_label site.number) finish (code_finish (5 * (d - 1) + 12)))))
    (label_by (5 * d + 12) (breaks site.number body) (behind_label site.number) (lower f n rest tail) (block_by f n d rest tail r.1 i))

-- The end of a body.
endings_by : (k : ℕ) (f : Form) (b : Bool) → CodeBy k (ending_of f b)
endings_by k f true = code_if k (returns f.method.body) _ _ (code_finish k) (gives_by k f (Some (num 0)) finish (by_num k 0) (code_finish k))
endings_by k f false = puts_by k f.names (λ n. true) 0 f.method.args finish (code_finish k)

pub ending_by : (k : ℕ) (f : Form) → CodeBy k (ending f)
ending_by k f = code_if k (is_coroutine f.method.mark) _ _ (gives_by k f (Some (num 0)) finish (by_num k 0) (code_finish k)) (endings_by k f (has_result f.method.gives))

pub top_by : (k : ℕ) (f : Form) → CodeBy k (tail_of f top)
top_by k f = code_if k (is_coroutine f.method.mark) _ _ (code_finish k) (ending_by k f)
