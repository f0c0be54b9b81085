-- What a statement is lowered to has no label but the `case` of a point's own, so a label is looked for after it.
use Rattle.std.proofs.Common.{◌≡◌, ℕ, zero, suc, Bool, true, false, List, [], ◌∷◌, ◌&&◌, Option, Some, None, refl, ◌∙◌}
use Rattle.std.specs.Prelude.{if◌then◌else◌, slice_get}
use Rattle.wf_base.specs.declared.base_methods.ReadForm.{ReadForm}
use Rattle.wf_base.specs.declared.base_methods.ReadForm.TheVariants.{ReadU8, ReadU16Be, ReadU16Le, ReadU32Be, ReadU32Le, ReadU64Be, ReadU64Le}
use Rattle.wf_base.specs.BaseTable.{bytes_of, read_width}
use Rattle.wf_ast.specs.TypedPackage.{Variable, MethodTree}
use Rattle.wf_ast.specs.TypedTree.{local, field, arg, ValueTree, numeric, logical, state, elements, io, lost, StatusTree, status, held, no_status, Target, to_number, to_element, to_flag, to_status, to_slice, to_nothing, Awaited, take_number, skip, write, Written, skip_fast, write_fast, copy_to_writer, copy_to_slice, Called, Simple, assign, await, perform, invoke, break_from, continue_in, give_back, yield, claim}
use Rattle.wf_ast.specs.WellTyped.{is_coroutine, number_of}
use Rattle.c_text.specs.CTree.{ExprTree, Code, finish, leave}
use Rattle.c_text.specs.CTree as c
use Rattle.c_text.specs.declared.kinds.COp.TheVariants.{Lt}
use Rattle.wf_meaning.specs.Entry.{short_read, short_write, cannot_suspend}
use Rattle.c_meaning.specs.CStep.{Continuation, behind, Place, Label, find, first_of}
use Rattle.wf_exprs.specs.Names.{Names, local_pointer, local_length, point_field}
use Rattle.wf_exprs.specs.Words.{num, two, of_self, args}
use Rattle.wf_exprs.specs.Exprs.{Pair, path_code, lowered_expr, given, lowered_slice, lowered_status, lowered_cond, status_constant, begins_with}
use Rattle.wf_lower_stmts.specs.Forms.{Form, status_local, size_local, held_local, count_local, is_io, is_kept, stays, holds_something, counts_bytes, keeps, when, put, get, save_locals, save_count, save_started, give, suspend}
use Rattle.wf_lower_stmts.specs.Lower.{returns, ending, ending_of, has_result, tail_of, top}
use Rattle.wf_lower_stmts.specs.Statements.{next_byte, taken_byte, step_on, callee_name, receiver_code, values_codes, answer_local, is_wanted, is_suspension, put_into, is_same_variable, set_place, set_slice, set_value, take_bytes, written_byte, begun_call, awoken_call, lower_written, is_passed, call_into, hand_on, put_result, handed_call, plain_call, give_status, give_value, begun, awoken, lower_plain}

over : (p q : Option Place) → p ≡ None → first_of p q ≡ q
over None q e = refl
over (Some p) q e = absurd (cc (e))

module _ (l : Label) where
  -- A label is looked for in the rest.
  abbrev pub Passes : (code rest : Code) → Type 0
  Passes code rest = (k : Continuation) → find l code k ≡ find l rest k

  pub ifs : (b : Bool) (c d rest : Code) → Passes c rest → Passes d rest → Passes (if b then c else d) rest
  ifs true c d rest h j = h
  ifs false c d rest h j = j

  pub puts : (names : Names) (picks : ℕ → Bool) (n : ℕ) (xs : List Variable) (rest : Code) → Passes (put names picks n xs rest) rest
  puts names picks n [] rest k = refl
  puts names picks n (x ∷ xs) rest k =
      ifs (is_io x.ty) _ _ rest (ifs (picks n) _ _ rest (puts names picks (suc n) xs rest) (puts names picks (suc n) xs rest)) (puts names picks (suc n) xs rest) k

  gets : (names : Names) (picks : ℕ → Bool) (n : ℕ) (xs : List Variable) (rest : Code) → Passes (get names picks n xs rest) rest
  gets names picks n [] rest k = refl
  gets names picks n (x ∷ xs) rest k =
      ifs (is_io x.ty) _ _ rest (ifs (picks n) _ _ rest (gets names picks (suc n) xs rest) (gets names picks (suc n) xs rest)) (gets names picks (suc n) xs rest) k

  saves : (method : List ℕ) (xs : List Variable) (rest : Code) → Passes (save_locals method xs rest) rest
  saves method [] rest k = refl
  saves method (x ∷ xs) rest k = ifs (is_kept x.ty) _ _ rest (saves method xs rest) (saves method xs rest) k

  started : (it : MethodTree) (rest : Code) → Passes (save_started it rest) rest
  started it rest k =
      ifs (keeps holds_something it.body) _ _ (save_count it rest) (λ k. refl) (λ k. refl) k ∙ ifs (keeps counts_bytes it.body) _ _ rest (λ k. refl) (λ k. refl) k

  pub gives : (f : Form) (v : Option ExprTree) (rest : Code) → Passes (give f v rest) rest
  gives f v rest k = puts f.names (λ n. true) 0 f.method.args (leave v rest) k

  suspends : (f : Form) (j : ℕ) (e : ExprTree) (rest : Code) → Passes (suspend f j e rest) rest
  suspends f j e rest k =
      saves f.method.name f.method.locals (save_started f.method (c.assign (of_self (point_field f.method.name)) (num j) (give f (Some e) rest))) k
      ∙ (started f.method (c.assign (of_self (point_field f.method.name)) (num j) (give f (Some e) rest)) k ∙ gives f (Some e) rest k)

  sets : (place v : ExprTree) (rest : Code) → Passes (set_place place v rest) rest
  sets place v rest = ifs (is_same_variable place v) rest (c.assign place v rest) rest (λ k. refl) (λ k. refl)

  intos : (names : Names) (t : Target) (v : ExprTree) (rest : Code) → Passes (put_into names t v rest) rest
  intos names (to_number at of path) v rest k = sets (path_code names path) v rest k
  intos names (to_element at of cells index) v rest k = sets (c.element (lowered_slice names cells).pointer (lowered_expr names index)) v rest k
  intos names (to_flag at path) v rest k = sets (path_code names path) v rest k
  intos names (to_status at path) v rest k = sets (path_code names path) v rest k
  intos names (to_slice at bits path) v rest k = refl
  intos names to_nothing v rest k = refl

  slices : (names : Names) (t : Target) (it : Pair) (rest : Code) → Passes (set_slice names t it rest) rest
  slices names (to_slice at bits (local n)) it rest k = sets (c.variable (local_pointer names n)) it.pointer (c.assign (c.variable (local_length names n)) size_local rest) k
  slices names (to_slice at bits (field n)) it rest k = refl
  slices names (to_slice at bits (arg n)) it rest k = refl
  slices names (to_number at of path) it rest k = refl
  slices names (to_element at of cells index) it rest k = refl
  slices names (to_flag at path) it rest k = refl
  slices names (to_status at path) it rest k = refl
  slices names to_nothing it rest k = refl

  values : (names : Names) (t : Target) (v : ValueTree) (rest : Code) → Passes (set_value names t v rest) rest
  values names t (numeric v) rest k = intos names t (given names v) rest k
  values names t (logical v) rest k = intos names t (lowered_cond names v) rest k
  values names t (state v) rest k = intos names t (lowered_status names v) rest k
  values names t (elements v) rest k = slices names t (lowered_slice names v) rest k
  values names t (io at a) rest k = refl
  values names t lost rest k = refl

  takes : (names : Names) (a : ℕ) (form : ReadForm) (n : ℕ) (rest : Code) → Passes (take_bytes names a form n rest) rest
  takes names a form zero rest k = refl
  takes names a form (suc n) rest k = takes names a form n rest k

  begun_calls : (names : Names) (a : ℕ) (call : Awaited) (rest : Code) → Passes (begun_call names a call rest) rest
  begun_calls names a (take_number ReadU8) rest k = refl
  begun_calls names a (take_number ReadU16Be) rest k = refl
  begun_calls names a (take_number ReadU16Le) rest k = refl
  begun_calls names a (take_number ReadU32Be) rest k = refl
  begun_calls names a (take_number ReadU32Le) rest k = refl
  begun_calls names a (take_number ReadU64Be) rest k = refl
  begun_calls names a (take_number ReadU64Le) rest k = refl
  begun_calls names a (skip e) rest k = refl
  begun_calls names a (write e) rest k = ifs (stays e) _ _ rest (λ k. refl) (λ k. refl) k

  waits : (f : Form) (j n : ℕ) (rest : Code) (k k1 : Continuation)
      → first_of (find l (suspend f j (status_constant n) finish) k1) (find l rest k) ≡ find l rest k
  waits f j n rest k k1 = over (find l (suspend f j (status_constant n) finish) k1) (find l rest k) (suspends f j (status_constant n) finish k1)

  taken : (f : Form) (j : ℕ) (t : Target) (a : ℕ) (form : ReadForm) (rest : Code)
      → Passes (take_bytes f.names a form (bytes_of (read_width form)) (when (two Lt count_local (num (bytes_of (read_width form)))) (suspend f j (status_constant short_read) finish) (put_into f.names t held_local rest))) rest
  taken f j t a form rest k =
      takes f.names a form (bytes_of (read_width form)) (when (two Lt count_local (num (bytes_of (read_width form)))) (suspend f j (status_constant short_read) finish) (put_into f.names t held_local rest)) k
      ∙ (waits f j short_read (put_into f.names t held_local rest) k (behind finish (put_into f.names t held_local rest) k) ∙ intos f.names t held_local rest k)

  awoken_calls : (f : Form) (j : ℕ) (t : Target) (a : ℕ) (call : Awaited) (rest : Code) → Passes (awoken_call f j t a call rest) rest
  awoken_calls f j t a (take_number ReadU8) rest k =
      waits f j short_read (step_on f.names a (num 1) (put_into f.names t (taken_byte f.names a) rest)) k (behind finish (step_on f.names a (num 1) (put_into f.names t (taken_byte f.names a) rest)) k)
      ∙ intos f.names t (taken_byte f.names a) rest k
  awoken_calls f j t a (take_number ReadU16Be) rest k = taken f j t a ReadU16Be rest k
  awoken_calls f j t a (take_number ReadU16Le) rest k = taken f j t a ReadU16Le rest k
  awoken_calls f j t a (take_number ReadU32Be) rest k = taken f j t a ReadU32Be rest k
  awoken_calls f j t a (take_number ReadU32Le) rest k = taken f j t a ReadU32Le rest k
  awoken_calls f j t a (take_number ReadU64Be) rest k = taken f j t a ReadU64Be rest k
  awoken_calls f j t a (take_number ReadU64Le) rest k = taken f j t a ReadU64Le rest k
  awoken_calls f j t a (skip e) rest k = waits f j short_read (step_on f.names a held_local rest) k (behind finish (step_on f.names a held_local rest) k)
  awoken_calls f j t a (write e) rest k =
      waits f j short_write (c.assign (next_byte f.names a) (written_byte f.names e) (step_on f.names a (num 1) rest)) k (behind finish (c.assign (next_byte f.names a) (written_byte f.names e) (step_on f.names a (num 1) rest)) k)

  writtens : (names : Names) (t : Target) (w : Written) (rest : Code) → Passes (lower_written names t w rest) rest
  writtens names t (skip_fast a e g) rest k = refl
  writtens names t (write_fast a e) rest k = refl
  writtens names t (copy_to_writer a s) rest k = intos names t size_local rest k
  writtens names t (copy_to_slice s u) rest k = intos names t size_local rest k

  both_over : (p q r : Option Place) → p ≡ None → q ≡ None → first_of (first_of p q) r ≡ r
  both_over None None r e g = refl
  both_over None (Some q) r e g = absurd (cc (g))
  both_over (Some p) q r e g = absurd (cc (e))

  hands : (f : Form) (j : ℕ) (rest : Code) → Passes (hand_on f j rest) rest
  hands f j rest k =
      both_over (find l (suspend f j status_local finish) (behind finish (give f (Some status_local) finish) (behind finish rest k)))
      (find l (give f (Some status_local) finish) (behind finish rest k)) (find l rest k)
      (suspends f j status_local finish (behind finish (give f (Some status_local) finish) (behind finish rest k))) (gives f (Some status_local) finish (behind finish rest k))

  calls : (f : Form) (into : Option ExprTree) (called : Called) (callee : MethodTree) (given_args : List ValueTree) (rest : Code)
      → Passes (call_into f into called callee given_args rest) rest
  calls f into called callee given_args rest k =
      puts f.names (is_passed given_args) 0 f.method.args
      (c.call into (callee_name f.within called callee) (args (receiver_code f.names called ∷ values_codes f.names given_args)) (get f.names (is_passed given_args) 0 f.method.args rest)) k
      ∙ gets f.names (is_passed given_args) 0 f.method.args rest k

  results : (names : Names) (t : Target) (into : Option ExprTree) (rest : Code) → Passes (put_result names t into rest) rest
  results names t None rest k = refl
  results names t (Some e) rest k = intos names t e rest k

  handeds : (f : Form) (j : ℕ) (called : Called) (callee : Option MethodTree) (given_args : List ValueTree) (rest : Code)
      → Passes (handed_call f j called callee given_args rest) rest
  handeds f j called None given_args rest k = refl
  handeds f j called (Some callee) given_args rest k = calls f (Some status_local) called callee given_args (hand_on f j rest) k ∙ hands f j rest k

  plains : (f : Form) (t : Target) (called : Called) (callee : Option MethodTree) (given_args : List ValueTree) (rest : Code)
      → Passes (plain_call f t called callee given_args rest) rest
  plains f t called None given_args rest k = refl
  plains f t called (Some callee) given_args rest k =
      calls f (if is_wanted t then answer_local callee.mark callee.gives else None) called callee given_args (put_result f.names t (answer_local callee.mark callee.gives) rest) k
      ∙ results f.names t (answer_local callee.mark callee.gives) rest k

  asks : (f : Form) (e : ExprTree) (rest : Code)
      → Passes (if is_coroutine f.method.mark
      then c.assign status_local e (when (begins_with 36 status_local) (c.assign status_local (status_constant cannot_suspend) finish) (give f (Some status_local) rest))
      else give f (Some e) rest) rest
  asks f e rest k = ifs (is_coroutine f.method.mark) _ _ rest (gives f (Some status_local) rest) (gives f (Some e) rest) k

  statuses : (f : Form) (s : StatusTree) (rest : Code) → Passes (give_status f s rest) rest
  statuses f (status at n) rest k = gives f (Some (status_constant (if is_coroutine f.method.mark && is_suspension f n then cannot_suspend else n))) rest k
  statuses f (held at path) rest k = asks f (lowered_status f.names (held at path)) rest k
  statuses f no_status rest k = asks f (lowered_status f.names no_status) rest k

  given_values : (f : Form) (v : Option ValueTree) (rest : Code) → Passes (give_value f v rest) rest
  given_values f None rest k = gives f None rest k
  given_values f (Some (numeric t)) rest k = gives f (Some (given f.names t)) rest k
  given_values f (Some (logical t)) rest k = gives f (Some (lowered_cond f.names t)) rest k
  given_values f (Some (state t)) rest k = statuses f t rest k
  given_values f (Some (elements t)) rest k = refl
  given_values f (Some (io at a)) rest k = refl
  given_values f (Some lost) rest k = refl

  pub plain_passes : (f : Form) (s : Simple) (rest : Code) → Passes (lower_plain f s rest) rest
  plain_passes f (assign t op v) rest k = values f.names t v rest k
  plain_passes f (await at t a call) rest k = refl
  plain_passes f (perform at t call) rest k = writtens f.names t call rest k
  plain_passes f (invoke at t keep mark called given_args) rest k = plains f t called (slice_get f.within.methods (number_of called)) given_args rest k
  plain_passes f (break_from w) rest k = refl
  plain_passes f (continue_in w) rest k = refl
  plain_passes f (give_back v) rest k = given_values f v rest k
  plain_passes f (yield n) rest k = refl
  plain_passes f (claim goal ax) rest k = refl

  pub begun_passes : (f : Form) (j : ℕ) (s : Simple) (rest : Code) → Passes (begun f j s rest) rest
  begun_passes f j (assign t op v) rest k = refl
  begun_passes f j (await at t a call) rest k = begun_calls f.names a call rest k
  begun_passes f j (perform at t call) rest k = refl
  begun_passes f j (invoke at t keep mark called given_args) rest k = refl
  begun_passes f j (break_from w) rest k = refl
  begun_passes f j (continue_in w) rest k = refl
  begun_passes f j (give_back v) rest k = refl
  begun_passes f j (yield n) rest k = suspends f j (status_constant n) rest k
  begun_passes f j (claim goal ax) rest k = refl

  pub awoken_passes : (f : Form) (j : ℕ) (s : Simple) (rest : Code) → Passes (awoken f j s rest) rest
  awoken_passes f j (assign t op v) rest k = refl
  awoken_passes f j (await at t a call) rest k = awoken_calls f j t a call rest k
  awoken_passes f j (perform at t call) rest k = refl
  awoken_passes f j (invoke at t keep mark called given_args) rest k = handeds f j called (slice_get f.within.methods (number_of called)) given_args rest k
  awoken_passes f j (break_from w) rest k = refl
  awoken_passes f j (continue_in w) rest k = refl
  awoken_passes f j (give_back v) rest k = refl
  awoken_passes f j (yield n) rest k = refl
  awoken_passes f j (claim goal ax) rest k = refl

  -- The end of a body has no label.
  endings : (f : Form) (b : Bool) (k : Continuation) → find l (ending_of f b) k ≡ None
  endings f true k = ifs (returns f.method.body) finish (give f (Some (num 0)) finish) finish (λ k. refl) (gives f (Some (num 0)) finish) k
  endings f false k = puts f.names (λ n. true) 0 f.method.args finish k

  pub top_has_none : (f : Form) (k : Continuation) → find l (tail_of f top) k ≡ None
  top_has_none f k =
      ifs (is_coroutine f.method.mark) finish (ending f) finish (λ k. refl)
      (ifs (is_coroutine f.method.mark) (give f (Some (num 0)) finish) (ending_of f (has_result f.method.gives)) finish (gives f (Some (num 0)) finish) (endings f (has_result f.method.gives))) k
