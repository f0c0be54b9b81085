-- What a statement that is no jump is lowered to: statements before the code that follows it, with no loop, no label and no
-- `goto` among them, but for the `case` of a point.
use Rattle.std.proofs.Common.{◌≡◌, ℕ, zero, suc, Bool, true, false, List, [], ◌∷◌, Option, Some, None}
use Rattle.std.specs.Prelude.{if◌then◌else◌, slice_get}
use Rattle.wf_base.specs.declared.base_methods.ReadForm.{ReadForm}
use Rattle.wf_base.specs.declared.base_methods.ReadForm.TheVariants.{ReadU8, ReadU16Be, ReadU16Le, ReadU32Be, ReadU32Le, ReadU64Be, ReadU64Le}
use Rattle.wf_base.specs.BaseTable.{bytes_of, read_width}
use Rattle.wf_ast.specs.TypedPackage.{Variable, MethodTree}
use Rattle.wf_ast.specs.TypedTree.{local, field, arg, ValueTree, numeric, logical, state, elements, io, lost, StatusTree, status, held, no_status, Target, to_number, to_element, to_flag, to_status, to_slice, to_nothing, Awaited, take_number, skip, write, Written, skip_fast, write_fast, copy_to_writer, copy_to_slice, Called, Simple, assign, await, perform, invoke, break_from, continue_in, give_back, yield, claim}
use Rattle.wf_ast.specs.WellTyped.{is_coroutine, number_of}
use Rattle.c_text.specs.declared.kinds.Otherwise.TheVariants.{Nothing}
use Rattle.c_text.specs.CTree.{ExprTree, Args, Code, finish, leave}
use Rattle.c_text.specs.CTree as c
use Rattle.wf_exprs.specs.Names.{Names, local_pointer, local_length, point_field}
use Rattle.wf_exprs.specs.Words.{num, of_self}
use Rattle.wf_exprs.specs.Reads.{expr_reads, args_read, target_reads, result_reads, value_reads, code_reads}
use Rattle.wf_lower_laws.proofs.Apart.{right_or}
use Rattle.wf_exprs.specs.Exprs.{Pair, path_code, lowered_expr, given, lowered_slice, lowered_status, lowered_cond, status_constant}
use Rattle.wf_lower_stmts.specs.Forms.{Form, status_local, size_local, held_local, count_local, is_io, is_kept, stays, holds_something, counts_bytes, keeps, when, put, get, save_locals, restore_locals, save_count, restore_count, save_started, restore_started, give, suspend}
use Rattle.wf_lower_stmts.specs.Lower.{returns, ending, ending_of, has_result, tail_of, top}
use Rattle.wf_lower_stmts.specs.Statements.{taken_byte, step_on, answer_local, put_into, is_same_variable, set_place, set_slice, set_value, take_bytes, are_all_there, take_all, begun_call, awoken_call, lower_written, is_passed, call_into, hand_on, put_result, handed_call, plain_call, give_status, give_value, begun, awoken, lower_plain}

pub data Straight : (rest code : Code) → Type 0 where
  over : {rest : Code} → Straight rest rest
  assigned : {rest : Code} → (target value : ExprTree) (code : Code) → Straight rest code → Straight rest (c.assign target value code)
  calling : {rest : Code} → (target : Option ExprTree) (function : List ℕ) (given_args : Args) (code : Code) → Straight rest code → Straight rest (c.call target function given_args code)
  leaving : {rest : Code} → (value : Option ExprTree) (code : Code) → Straight rest code → Straight rest (leave value code)
  guarded : {rest : Code} → (test : ExprTree) (body code : Code) → Straight finish body → Straight rest code → Straight rest (c.branch test body Nothing finish code)

pub follows : (first middle rest : Code) → Straight middle first → Straight rest middle → Straight rest first
follows _ middle rest over h = h
follows _ middle rest (assigned target value code s) h = assigned target value code (follows code middle rest s h)
follows _ middle rest (calling target function given_args code s) h = calling target function given_args code (follows code middle rest s h)
follows _ middle rest (leaving value code s) h = leaving value code (follows code middle rest s h)
follows _ middle rest (guarded test body code t s) h = guarded test body code t (follows code middle rest s h)

-- Code that follows is read as it is.
pub straight_reads : (name : List ℕ) (rest code : Code) → Straight rest code → code_reads name rest ≡ true → code_reads name code ≡ true
straight_reads name rest _ over h = h
straight_reads name rest _ (assigned target value code t) h = right_or (target_reads name target) _ (right_or (expr_reads name value) _ (straight_reads name rest code t h))
straight_reads name rest _ (calling target function given_args code t) h = right_or (result_reads name target) _ (right_or (args_read name given_args) _ (straight_reads name rest code t h))
straight_reads name rest _ (leaving value code t) h = right_or (value_reads name value) _ (straight_reads name rest code t h)
straight_reads name rest _ (guarded test body code b t) h = right_or (expr_reads name test) _ (right_or (code_reads name body) _ (straight_reads name rest code t h))

pub ifs : (b : Bool) (first other rest : Code) → Straight rest first → Straight rest other → Straight rest (if b then first else other)
ifs true first other rest h j = h
ifs false first other rest h j = j

pub puts : (names : Names) (picks : ℕ → Bool) (n : ℕ) (xs : List Variable) (rest : Code) → Straight rest (put names picks n xs rest)
puts names picks n [] rest = over
puts names picks n (x ∷ xs) rest =
    ifs (is_io x.ty) _ _ rest (ifs (picks n) _ _ rest (assigned _ _ _ (puts names picks (suc n) xs rest)) (puts names picks (suc n) xs rest)) (puts names picks (suc n) xs rest)

pub gets : (names : Names) (picks : ℕ → Bool) (n : ℕ) (xs : List Variable) (rest : Code) → Straight rest (get names picks n xs rest)
gets names picks n [] rest = over
gets names picks n (x ∷ xs) rest =
    ifs (is_io x.ty) _ _ rest (ifs (picks n) _ _ rest (assigned _ _ _ (assigned _ _ _ (gets names picks (suc n) xs rest))) (gets names picks (suc n) xs rest)) (gets names picks (suc n) xs rest)

pub saves : (method : List ℕ) (xs : List Variable) (rest : Code) → Straight rest (save_locals method xs rest)
saves method [] rest = over
saves method (x ∷ xs) rest = ifs (is_kept x.ty) _ _ rest (assigned _ _ _ (saves method xs rest)) (saves method xs rest)

pub restores : (method : List ℕ) (xs : List Variable) (rest : Code) → Straight rest (restore_locals method xs rest)
restores method [] rest = over
restores method (x ∷ xs) rest = ifs (is_kept x.ty) _ _ rest (assigned _ _ _ (restores method xs rest)) (restores method xs rest)

saves_started : (it : MethodTree) (rest : Code) → Straight rest (save_started it rest)
saves_started it rest = ifs (keeps holds_something it.body) _ _ rest (assigned _ _ _ saved) saved
  where
    saved : Straight rest (save_count it rest)
    saved = ifs (keeps counts_bytes it.body) _ _ rest (assigned _ _ _ over) over

pub restores_started : (it : MethodTree) (rest : Code) → Straight rest (restore_started it rest)
restores_started it rest = ifs (keeps holds_something it.body) _ _ rest (assigned _ _ _ restored) restored
  where
    restored : Straight rest (restore_count it rest)
    restored = ifs (keeps counts_bytes it.body) _ _ rest (assigned _ _ _ over) over

pub gives : (f : Form) (v : Option ExprTree) (rest : Code) → Straight rest (give f v rest)
gives f v rest = follows _ (leave v rest) rest (puts f.names (λ n. true) 0 f.method.args (leave v rest)) (leaving v rest over)

pub suspends : (f : Form) (j : ℕ) (e : ExprTree) (rest : Code) → Straight rest (suspend f j e rest)
suspends f j e rest =
    follows _ (save_started f.method (c.assign (of_self (point_field f.method.name)) (num j) (give f (Some e) rest))) rest (saves f.method.name f.method.locals _)
    (follows _ (c.assign (of_self (point_field f.method.name)) (num j) (give f (Some e) rest)) rest (saves_started f.method _) (assigned _ _ _ (gives f (Some e) rest)))

pub sets : (place v : ExprTree) (middle rest : Code) → Straight rest middle → Straight rest (set_place place v middle)
sets place v middle rest h = ifs (is_same_variable place v) middle (c.assign place v middle) rest h (assigned _ _ _ h)

intos : (names : Names) (t : Target) (v : ExprTree) (rest : Code) → Straight rest (put_into names t v rest)
intos names (to_number at of path) v rest = sets (path_code names path) v rest rest over
intos names (to_element at of cells index) v rest = sets (c.element (lowered_slice names cells).pointer (lowered_expr names index)) v rest rest over
intos names (to_flag at path) v rest = sets (path_code names path) v rest rest over
intos names (to_status at path) v rest = sets (path_code names path) v rest rest over
intos names (to_slice at bits path) v rest = over
intos names to_nothing v rest = over

slices : (names : Names) (t : Target) (it : Pair) (rest : Code) → Straight rest (set_slice names t it rest)
slices names (to_slice at bits (local n)) it rest =
    assigned _ _ _ (sets (c.variable (local_pointer names n)) it.pointer (c.assign (c.variable (local_length names n)) size_local rest) rest (assigned _ _ _ over))
slices names (to_slice at bits (field n)) it rest = over
slices names (to_slice at bits (arg n)) it rest = over
slices names (to_number at of path) it rest = over
slices names (to_element at of cells index) it rest = over
slices names (to_flag at path) it rest = over
slices names (to_status at path) it rest = over
slices names to_nothing it rest = over

values : (names : Names) (t : Target) (v : ValueTree) (rest : Code) → Straight rest (set_value names t v rest)
values names t (numeric v) rest = intos names t (given names v) rest
values names t (logical v) rest = intos names t (lowered_cond names v) rest
values names t (state v) rest = intos names t (lowered_status names v) rest
values names t (elements v) rest = slices names t (lowered_slice names v) rest
values names t (io at a) rest = over
values names t lost rest = over

takes : (names : Names) (a : ℕ) (form : ReadForm) (n : ℕ) (rest : Code) → Straight rest (take_bytes names a form n rest)
takes names a form zero rest = over
takes names a form (suc n) rest = guarded _ _ _ (assigned _ _ _ (assigned _ _ _ (assigned _ _ _ over))) (takes names a form n rest)

begun_more : (names : Names) (a : ℕ) (form : ReadForm) (rest : Code)
    → Straight rest (c.assign held_local (num 0) (c.assign count_local (num 0) (when (are_all_there names a form) (take_all names a form) rest)))
begun_more names a form rest = assigned _ _ _ (assigned _ _ _ (guarded _ _ _ (assigned _ _ _ (assigned _ _ _ (assigned _ _ _ over))) over))

begun_calls : (names : Names) (a : ℕ) (call : Awaited) (rest : Code) → Straight rest (begun_call names a call rest)
begun_calls names a (take_number ReadU8) rest = over
begun_calls names a (take_number ReadU16Be) rest = begun_more names a ReadU16Be rest
begun_calls names a (take_number ReadU16Le) rest = begun_more names a ReadU16Le rest
begun_calls names a (take_number ReadU32Be) rest = begun_more names a ReadU32Be rest
begun_calls names a (take_number ReadU32Le) rest = begun_more names a ReadU32Le rest
begun_calls names a (take_number ReadU64Be) rest = begun_more names a ReadU64Be rest
begun_calls names a (take_number ReadU64Le) rest = begun_more names a ReadU64Le rest
begun_calls names a (skip e) rest = assigned _ _ _ over
begun_calls names a (write e) rest = ifs (stays e) _ _ rest over (assigned _ _ _ over)

taken : (f : Form) (j : ℕ) (t : Target) (a : ℕ) (form : ReadForm) (test status_code value : ExprTree) (rest : Code)
    → Straight rest (take_bytes f.names a form (bytes_of (read_width form)) (when test (suspend f j status_code finish) (put_into f.names t value rest)))
taken f j t a form test status_code value rest =
    follows _ (when test (suspend f j status_code finish) (put_into f.names t value rest)) rest (takes f.names a form (bytes_of (read_width form)) _)
    (guarded _ _ _ (suspends f j status_code finish) (intos f.names t value rest))

awoken_calls : (f : Form) (j : ℕ) (t : Target) (a : ℕ) (call : Awaited) (rest : Code) → Straight rest (awoken_call f j t a call rest)
awoken_calls f j t a (take_number ReadU8) rest =
    guarded _ _ _ (suspends f j _ finish) (assigned _ _ _ (intos f.names t (taken_byte f.names a) rest))
awoken_calls f j t a (take_number ReadU16Be) rest = taken f j t a ReadU16Be _ _ _ rest
awoken_calls f j t a (take_number ReadU16Le) rest = taken f j t a ReadU16Le _ _ _ rest
awoken_calls f j t a (take_number ReadU32Be) rest = taken f j t a ReadU32Be _ _ _ rest
awoken_calls f j t a (take_number ReadU32Le) rest = taken f j t a ReadU32Le _ _ _ rest
awoken_calls f j t a (take_number ReadU64Be) rest = taken f j t a ReadU64Be _ _ _ rest
awoken_calls f j t a (take_number ReadU64Le) rest = taken f j t a ReadU64Le _ _ _ rest
awoken_calls f j t a (skip e) rest = guarded _ _ _ (assigned _ _ _ (assigned _ _ _ (suspends f j _ finish))) (assigned _ _ _ over)
awoken_calls f j t a (write e) rest = guarded _ _ _ (suspends f j _ finish) (assigned _ _ _ (assigned _ _ _ over))

writtens : (names : Names) (t : Target) (w : Written) (rest : Code) → Straight rest (lower_written names t w rest)
writtens names t (skip_fast a e g) rest = assigned _ _ _ over
writtens names t (write_fast a e) rest = assigned _ _ _ (assigned _ _ _ over)
writtens names t (copy_to_writer a s) rest =
    assigned _ _ _ (guarded _ _ _ (assigned _ _ _ over) (guarded _ _ _ (calling _ _ _ _ over) (assigned _ _ _ (intos names t size_local rest))))
writtens names t (copy_to_slice s u) rest =
    assigned _ _ _ (guarded _ _ _ (assigned _ _ _ over) (guarded _ _ _ (calling _ _ _ _ over) (intos names t size_local rest)))

hands : (f : Form) (j : ℕ) (rest : Code) → Straight rest (hand_on f j rest)
hands f j rest = guarded _ _ _ (guarded _ _ _ (suspends f j status_local finish) (gives f (Some status_local) finish)) over

calls : (f : Form) (into : Option ExprTree) (called : Called) (callee : MethodTree) (given_args : List ValueTree) (rest : Code)
    → Straight rest (call_into f into called callee given_args rest)
calls f into called callee given_args rest =
    follows _ (c.call into _ _ (get f.names (is_passed given_args) 0 f.method.args rest)) rest (puts f.names (is_passed given_args) 0 f.method.args _)
    (calling _ _ _ _ (gets f.names (is_passed given_args) 0 f.method.args rest))

results : (names : Names) (t : Target) (into : Option ExprTree) (rest : Code) → Straight rest (put_result names t into rest)
results names t None rest = over
results names t (Some e) rest = intos names t e rest

handeds : (f : Form) (j : ℕ) (called : Called) (callee : Option MethodTree) (given_args : List ValueTree) (rest : Code)
    → Straight rest (handed_call f j called callee given_args rest)
handeds f j called None given_args rest = over
handeds f j called (Some callee) given_args rest = follows _ (hand_on f j rest) rest (calls f (Some status_local) called callee given_args _) (hands f j rest)

plains : (f : Form) (t : Target) (called : Called) (callee : Option MethodTree) (given_args : List ValueTree) (rest : Code)
    → Straight rest (plain_call f t called callee given_args rest)
plains f t called None given_args rest = over
plains f t called (Some callee) given_args rest =
    follows _ (put_result f.names t (answer_local callee.mark callee.gives) rest) rest (calls f _ called callee given_args _) (results f.names t (answer_local callee.mark callee.gives) rest)

asks : (f : Form) (e test : ExprTree) (cannot : ExprTree) (rest : Code)
    → Straight rest (if is_coroutine f.method.mark
    then c.assign status_local e (when test (c.assign status_local cannot finish) (give f (Some status_local) rest))
    else give f (Some e) rest)
asks f e test cannot rest =
    ifs (is_coroutine f.method.mark) _ _ rest (assigned _ _ _ (guarded _ _ _ (assigned _ _ _ over) (gives f (Some status_local) rest))) (gives f (Some e) rest)

statuses : (f : Form) (s : StatusTree) (rest : Code) → Straight rest (give_status f s rest)
statuses f (status at n) rest = gives f _ rest
statuses f (held at path) rest = asks f _ _ _ rest
statuses f no_status rest = asks f _ _ _ rest

given_values : (f : Form) (v : Option ValueTree) (rest : Code) → Straight rest (give_value f v rest)
given_values f None rest = gives f None rest
given_values f (Some (numeric t)) rest = gives f (Some (given f.names t)) rest
given_values f (Some (logical t)) rest = gives f (Some (lowered_cond f.names t)) rest
given_values f (Some (state t)) rest = statuses f t rest
given_values f (Some (elements t)) rest = over
given_values f (Some (io at a)) rest = over
given_values f (Some lost) rest = over

-- The statement is a `break` or a `continue`.
abbrev pub is_jump : Simple → Bool
is_jump (break_from w) = true
is_jump (continue_in w) = true
is_jump s = false

pub plain_straight : (f : Form) (s : Simple) (rest : Code) → is_jump s ≡ false → Straight rest (lower_plain f s rest)
plain_straight f (assign t op v) rest e = values f.names t v rest
plain_straight f (await at t a call) rest e = over
plain_straight f (perform at t call) rest e = writtens f.names t call rest
plain_straight f (invoke at t keep mark called given_args) rest e = plains f t called (slice_get f.within.methods (number_of called)) given_args rest
plain_straight f (break_from w) rest e = absurd (cc (e))
plain_straight f (continue_in w) rest e = absurd (cc (e))
plain_straight f (give_back v) rest e = given_values f v rest
plain_straight f (yield n) rest e = over
plain_straight f (claim goal ax) rest e = over

pub begun_straight : (f : Form) (j : ℕ) (s : Simple) (rest : Code) → Straight rest (begun f j s rest)
begun_straight f j (assign t op v) rest = over
begun_straight f j (await at t a call) rest = begun_calls f.names a call rest
begun_straight f j (perform at t call) rest = over
begun_straight f j (invoke at t keep mark called given_args) rest = over
begun_straight f j (break_from w) rest = over
begun_straight f j (continue_in w) rest = over
begun_straight f j (give_back v) rest = over
begun_straight f j (yield n) rest = suspends f j (status_constant n) rest
begun_straight f j (claim goal ax) rest = over

pub awoken_straight : (f : Form) (j : ℕ) (s : Simple) (rest : Code) → Straight rest (awoken f j s rest)
awoken_straight f j (assign t op v) rest = over
awoken_straight f j (await at t a call) rest = awoken_calls f j t a call rest
awoken_straight f j (perform at t call) rest = over
awoken_straight f j (invoke at t keep mark called given_args) rest = handeds f j called (slice_get f.within.methods (number_of called)) given_args rest
awoken_straight f j (break_from w) rest = over
awoken_straight f j (continue_in w) rest = over
awoken_straight f j (give_back v) rest = over
awoken_straight f j (yield n) rest = over
awoken_straight f j (claim goal ax) rest = over

-- The end of a body.
endings : (f : Form) (b : Bool) → Straight finish (ending_of f b)
endings f true = ifs (returns f.method.body) finish (give f (Some (num 0)) finish) finish over (gives f (Some (num 0)) finish)
endings f false = puts f.names (λ n. true) 0 f.method.args finish

pub ending_straight : (f : Form) → Straight finish (ending f)
ending_straight f = ifs (is_coroutine f.method.mark) (give f (Some (num 0)) finish) (ending_of f (has_result f.method.gives)) finish (gives f (Some (num 0)) finish) (endings f (has_result f.method.gives))

pub top_straight : (f : Form) → Straight finish (tail_of f top)
top_straight f = ifs (is_coroutine f.method.mark) finish (ending f) finish over (ending_straight f)
