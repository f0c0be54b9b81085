-- Code whose expressions have the types that its statements ask. What it assigns to is settled, or read in it; and what it calls
-- may be called.
use Rattle.std.proofs.Common.{◌≡◌, ◌⊎◌, inl, inr, ℕ, Bool, true, false, ◌||◌, List, Option, Some, refl, sym, ap, subst}
use Rattle.std.specs.Prelude.{if◌then◌else◌, option_and_then, bytes_eq}
use Rattle.wf_num.specs.declared.c_arithmetic.CTy.{CTy}
use Rattle.wf_num.specs.declared.c_arithmetic.CTy.TheVariants.{Int}
use Rattle.wf_num.specs.declared.c_arithmetic.CTy.TheVariants as ctys
use Rattle.std.proofs.lemmas.Slice.Eq.{bytes_eq-Decides}
use Rattle.c_text.specs.declared.kinds.CNumber.{CNumber}
use Rattle.c_text.specs.declared.kinds.Otherwise.{Otherwise}
use Rattle.c_text.specs.declared.kinds.Otherwise.TheVariants.{Nothing}
use Rattle.c_text.specs.declared.kinds.CUint.{CUint}
use Rattle.c_text.specs.declared.kinds.CUint.TheVariants.{U8, U16, U32, U64}
use Rattle.c_text.specs.CTree.{TypeTree, uint, size, boolean, uint_pointer, struct_pointer, text, ExprTree, variable, member, Args, Code, finish, empty, assign, call, jump, branch, repeat, select, leave, case_label, name_label}
use Rattle.c_meaning.specs.CTypes.{CScope, ExprType, numbers, points_to, zero_literal, cell, byte, one, held_type, same_uint, is_numeric, as_number, assignable, value_type, type_of, held_of, promoted}
use Rattle.c_meaning.specs.CStep.{callee_of}
use Rattle.c_meaning.specs.UnitForm.{Checked, has_type, is_number, may_assign, formed_call, formed_return}
use Rattle.wf_exprs.specs.Words.{uint_of, width_of}
use Rattle.wf_exprs.specs.Reads.{expr_reads, args_read, target_reads, result_reads, value_reads, code_reads}
use Rattle.wf_lower_stmts.specs.Forms.{when}
use Rattle.wf_lower_laws.specs.FormLaw.{typed_code}
use Rattle.wf_lower_laws.specs.KindLaw.{IsNum, IsPointer, IsText}
use Rattle.wf_lower_laws.proofs.Apart.{left_or, right_or}
use Rattle.wf_lower_laws.proofs.Names.{either_true, both_hold}
use Rattle.wf_lower_laws.proofs.Frames.{is_variable, is_result_of, assigns, calls}

-- A value that may be assigned to a cell of a type.
pub record Fits (S : CScope) (t : TypeTree) (e : ExprTree) : Type 0 where
  pub type : ExprType
  pub is : type_of S e ≡ Some type
  pub fits : assignable t type ≡ true

pub num_fits : (S : CScope) (t : TypeTree) (e : ExprTree) → is_numeric t ≡ true → IsNum S e → Fits S t e
num_fits S t e h n = record { type = n.type; is = n.is; fits = by n.type n.ty n.counts }
  where
    by : (type : ExprType) (ty : CTy) → as_number type ≡ Some ty → assignable t type ≡ true
    by (numbers c) ty k = h
    by zero_literal ty k = refl
    by (points_to p) ty k = absurd (cc k)

pub text_fits : (S : CScope) (e : ExprTree) → IsText S e → Fits S text e
text_fits S e (inl h) =
    let P : ExprTree → Type 0 = λ e. Fits S text e in
    subst P (sym h) (record { type = zero_literal; is = refl; fits = refl })
text_fits S e (inr h) = record { type = points_to byte; is = h; fits = refl }

pub same_width : (u : CUint) → same_uint u u ≡ true
same_width U8 = refl
same_width U16 = refl
same_width U32 = refl
same_width U64 = refl

pub pointer_fits : (S : CScope) (bits : ℕ) (e : ExprTree) → IsPointer S bits e → Fits S (uint_pointer (width_of bits)) e
pointer_fits S bits e h = record { type = points_to (cell (uint_of bits)); is = h; fits = same_width (width_of bits) }

-- The same value where it is held in a cell.
pub held_fits : (S : CScope) (t : TypeTree) (e : ExprTree) → type_of S e ≡ Some (value_type t) → assignable t (value_type t) ≡ true → Fits S t e
held_fits S t e h k = record { type = value_type t; is = h; fits = k }

-- Cells: what may be assigned to.
module _ (Settled : List ℕ → Type 0) where
  pub record Cell (S : CScope) (t : TypeTree) (e : ExprTree) : Type 0 where
    pub held : held_of S e ≡ Some (one t)
    pub settled : (name : List ℕ) → is_variable name e ≡ true → Settled name

  pub record NumCell (S : CScope) (e : ExprTree) : Type 0 where
    pub type : TypeTree
    pub numeric : is_numeric type ≡ true
    pub cell : Cell S type e

pub number_value : (t : TypeTree) → is_numeric t ≡ true → (ty : CTy) × (as_number (value_type t) ≡ Some ty)
number_value (uint u) h = (promoted u, refl)
number_value size h = (ctys.U64, refl)
number_value boolean h = (Int, refl)
number_value (uint_pointer u) h = absurd (cc h)
number_value (struct_pointer name) h = absurd (cc h)
number_value text h = absurd (cc h)

-- What a cell of numbers holds is a number.
pub variable_num : (S : CScope) (t : TypeTree) (name : List ℕ) → is_numeric t ≡ true → held_of S (variable name) ≡ Some (one t) → IsNum S (variable name)
variable_num S t name h k = let v = number_value t h in record { type = value_type t; is = ap (option_and_then held_type) k; ty = v.0; counts = v.1 }

pub member_num : (S : CScope) (t : TypeTree) (of : ExprTree) (name : List ℕ) → is_numeric t ≡ true → held_of S (member of name) ≡ Some (one t) → IsNum S (member of name)
member_num S t of name h k = let v = number_value t h in record { type = value_type t; is = ap (option_and_then held_type) k; ty = v.0; counts = v.1 }

module _ (c : Checked) (Settled : List ℕ → Type 0) (CallOk : List ℕ → Type 0) where
  abbrev S : CScope
  S = c.scope

  pub record CodeOk (code : Code) : Type 0 where
    pub typed : typed_code c code ≡ true
    pub fair : (name : List ℕ) → assigns name code ≡ true → Settled name ⊎ (code_reads name code ≡ true)
    pub called : (name : List ℕ) → calls name code ≡ true → CallOk name

  abbrev Fair : (assigned read : List ℕ → Bool) → Type 0
  Fair assigned read = (name : List ℕ) → assigned name ≡ true → Settled name ⊎ (read name ≡ true)

  wider_fair : (assigned read more : List ℕ → Bool) → Fair assigned read → ((name : List ℕ) → read name ≡ true → more name ≡ true) → Fair assigned more
  wider_fair assigned read more f h name a = by (f name a)
    where
      by : Settled name ⊎ (read name ≡ true) → Settled name ⊎ (more name ≡ true)
      by (inl s) = inl s
      by (inr r) = inr (h name r)

  either_fair : (a b read : List ℕ → Bool) → Fair a read → Fair b read → Fair (λ name. a name || b name) read
  either_fair a b read f g name h = by (either_true (a name) (b name) h)
    where
      by : (a name ≡ true) ⊎ (b name ≡ true) → Settled name ⊎ (read name ≡ true)
      by (inl k) = f name k
      by (inr k) = g name k

  either_call : (a b : List ℕ → Bool) → ((name : List ℕ) → a name ≡ true → CallOk name) → ((name : List ℕ) → b name ≡ true → CallOk name) → (name : List ℕ) → (a name || b name) ≡ true → CallOk name
  either_call a b f g name h = by (either_true (a name) (b name) h)
    where
      by : (a name ≡ true) ⊎ (b name ≡ true) → CallOk name
      by (inl k) = f name k
      by (inr k) = g name k

  pub ok_finish : CodeOk finish
  ok_finish = record { typed = refl; fair = λ name h. absurd (cc h); called = λ name h. absurd (cc h) }

  pub ok_if : (b : Bool) (x y : Code) → CodeOk x → CodeOk y → CodeOk (if b then x else y)
  ok_if true x y h j = h
  ok_if false x y h j = j

  assigned_so : (t : TypeTree) (target value : ExprTree) → held_of S target ≡ Some (one t) → Fits S t value → may_assign (held_of S target) (type_of S value) ≡ true
  assigned_so t target value h v = rw (h, v.is) v.fits

  -- An assignment to what is settled or read.
  assign_by : (t : TypeTree) (target value : ExprTree) (rest : Code) → held_of S target ≡ Some (one t) → Fits S t value → CodeOk rest
      → Fair (λ name. is_variable name target) (λ name. code_reads name (assign target value rest)) → CodeOk (assign target value rest)
  assign_by t target value rest h v ok f =
      record {
        typed = both_hold (may_assign (held_of S target) (type_of S value)) (typed_code c rest) (assigned_so t target value h v) ok.typed;
        fair = either_fair (λ name. is_variable name target) (λ name. assigns name rest) (λ name. code_reads name (assign target value rest)) f
            (wider_fair (λ name. assigns name rest) (λ name. code_reads name rest) (λ name. code_reads name (assign target value rest)) ok.fair (λ name r. right_or (target_reads name target) _ (right_or (expr_reads name value) _ r)));
        called = ok.called;
      }

  pub ok_assign : (t : TypeTree) (target value : ExprTree) (rest : Code) → Cell Settled S t target → Fits S t value → CodeOk rest → CodeOk (assign target value rest)
  ok_assign t target value rest h v ok = assign_by t target value rest h.held v ok (λ name e. inl (h.settled name e))

  pub ok_number : (target value : ExprTree) (rest : Code) → NumCell Settled S target → IsNum S value → CodeOk rest → CodeOk (assign target value rest)
  ok_number target value rest h v ok = ok_assign h.type target value rest h.cell (num_fits S h.type value h.numeric v) ok

  same_name : (name l : List ℕ) → bytes_eq l name ≡ true → l ≡ name
  same_name name l e = (bytes_eq-Decides l name).0 e

  -- An assignment to a variable that is read in the value or after it.
  pub ok_read : (t : TypeTree) (name : List ℕ) (value : ExprTree) (rest : Code) → held_of S (variable name) ≡ Some (one t) → Fits S t value → (expr_reads name value || code_reads name rest) ≡ true → CodeOk rest
      → CodeOk (assign (variable name) value rest)
  ok_read t name value rest h v r ok =
      assign_by t (variable name) value rest h v ok
      (λ l e. let P : List ℕ → Type 0 = λ z. (expr_reads z value || code_reads z rest) ≡ true in inr (subst P (sym (same_name name l e)) r))

  pub ok_leave : (value : Option ExprTree) (rest : Code) → formed_return c value c.result_type ≡ true → CodeOk rest → CodeOk (leave value rest)
  ok_leave value rest h ok =
      record {
        typed = both_hold (formed_return c value c.result_type) (typed_code c rest) h ok.typed;
        fair = wider_fair (λ name. assigns name rest) (λ name. code_reads name rest) (λ name. code_reads name (leave value rest)) ok.fair (λ name r. right_or (value_reads name value) _ r);
        called = ok.called;
      }

  pub ok_branch : (test : ExprTree) (body : Code) (o : Otherwise) (other rest : Code) → has_type c test ≡ true → CodeOk body → CodeOk other → CodeOk rest → CodeOk (branch test body o other rest)
  ok_branch test body o other rest h b x r =
      record {
        typed = both_hold (has_type c test) _ h (both_hold (typed_code c body) _ b.typed (both_hold (typed_code c other) (typed_code c rest) x.typed r.typed));
        fair = either_fair (λ name. assigns name body) (λ name. assigns name other || assigns name rest) reads
            (wider_fair (λ name. assigns name body) (λ name. code_reads name body) reads b.fair (λ name e. right_or (expr_reads name test) _ (left_or (code_reads name body) _ e)))
            (either_fair (λ name. assigns name other) (λ name. assigns name rest) reads
            (wider_fair (λ name. assigns name other) (λ name. code_reads name other) reads x.fair (λ name e. right_or (expr_reads name test) _ (right_or (code_reads name body) _ (left_or (code_reads name other) _ e))))
            (wider_fair (λ name. assigns name rest) (λ name. code_reads name rest) reads r.fair (λ name e. right_or (expr_reads name test) _ (right_or (code_reads name body) _ (right_or (code_reads name other) _ e)))));
        called = either_call (λ name. calls name body) (λ name. calls name other || calls name rest) b.called (either_call (λ name. calls name other) (λ name. calls name rest) x.called r.called);
      }
    where
      reads : List ℕ → Bool
      reads name = code_reads name (branch test body o other rest)

  pub ok_when : (test : ExprTree) (body rest : Code) → has_type c test ≡ true → CodeOk body → CodeOk rest → CodeOk (when test body rest)
  ok_when test body rest h b r = ok_branch test body Nothing finish rest h b ok_finish r

  pub ok_repeat : (test : ExprTree) (body rest : Code) → has_type c test ≡ true → CodeOk body → CodeOk rest → CodeOk (repeat test body rest)
  ok_repeat test body rest h b r =
      record {
        typed = both_hold (has_type c test) _ h (both_hold (typed_code c body) (typed_code c rest) b.typed r.typed);
        fair = either_fair (λ name. assigns name body) (λ name. assigns name rest) reads
            (wider_fair (λ name. assigns name body) (λ name. code_reads name body) reads b.fair (λ name e. right_or (expr_reads name test) _ (left_or (code_reads name body) _ e)))
            (wider_fair (λ name. assigns name rest) (λ name. code_reads name rest) reads r.fair (λ name e. right_or (expr_reads name test) _ (right_or (code_reads name body) _ e)));
        called = either_call (λ name. calls name body) (λ name. calls name rest) b.called r.called;
      }
    where
      reads : List ℕ → Bool
      reads name = code_reads name (repeat test body rest)

  pub ok_select : (on : ExprTree) (body rest : Code) → is_number (type_of S on) ≡ true → CodeOk body → CodeOk rest → CodeOk (select on body rest)
  ok_select on body rest h b r =
      record {
        typed = both_hold (is_number (type_of S on)) _ h (both_hold (typed_code c body) (typed_code c rest) b.typed r.typed);
        fair = either_fair (λ name. assigns name body) (λ name. assigns name rest) reads
            (wider_fair (λ name. assigns name body) (λ name. code_reads name body) reads b.fair (λ name e. right_or (expr_reads name on) _ (left_or (code_reads name body) _ e)))
            (wider_fair (λ name. assigns name rest) (λ name. code_reads name rest) reads r.fair (λ name e. right_or (expr_reads name on) _ (right_or (code_reads name body) _ e)));
        called = either_call (λ name. calls name body) (λ name. calls name rest) b.called r.called;
      }
    where
      reads : List ℕ → Bool
      reads name = code_reads name (select on body rest)

  pub ok_jump : (label : List ℕ) (rest : Code) → CodeOk rest → CodeOk (jump label rest)
  ok_jump label rest r = record { typed = r.typed; fair = r.fair; called = r.called }

  pub ok_empty : (rest : Code) → CodeOk rest → CodeOk (empty rest)
  ok_empty rest r = record { typed = r.typed; fair = r.fair; called = r.called }

  pub ok_case : (n : CNumber) (rest : Code) → CodeOk rest → CodeOk (case_label n rest)
  ok_case n rest r = record { typed = r.typed; fair = r.fair; called = r.called }

  pub ok_label : (name : List ℕ) (rest : Code) → CodeOk rest → CodeOk (name_label name rest)
  ok_label name rest r = record { typed = r.typed; fair = r.fair; called = r.called }

  -- A call. Its result goes to a variable that is read after it.
  pub ok_call : (target : Option ExprTree) (function : List ℕ) (given : Args) (rest : Code) → formed_call (callee_of function) c target function given ≡ true → CallOk function
      → ((name : List ℕ) → is_result_of name target ≡ true → code_reads name rest ≡ true) → CodeOk rest → CodeOk (call target function given rest)
  ok_call target function given rest h k r ok =
      record {
        typed = both_hold (formed_call (callee_of function) c target function given) (typed_code c rest) h ok.typed;
        fair = either_fair (λ name. is_result_of name target) (λ name. assigns name rest) reads
            (λ name e. inr (right_or (result_reads name target) _ (right_or (args_read name given) _ (r name e))))
            (wider_fair (λ name. assigns name rest) (λ name. code_reads name rest) reads ok.fair (λ name e. right_or (result_reads name target) _ (right_or (args_read name given) _ e)));
        called = either_call (λ name. bytes_eq name function) (λ name. calls name rest) (λ name e. let P : List ℕ → Type 0 = CallOk in subst P (sym (same_name function name e)) k) ok.called;
      }
    where
      reads : List ℕ → Bool
      reads name = code_reads name (call target function given rest)

  pub num_typed : (e : ExprTree) → IsNum S e → has_type c e ≡ true
  num_typed e h = rw h.is refl

  pub num_counts : (e : ExprTree) → IsNum S e → is_number (type_of S e) ≡ true
  num_counts e h = rw (h.is, h.counts) refl

  pub fits_typed : (t : TypeTree) (e : ExprTree) → Fits S t e → has_type c e ≡ true
  fits_typed t e h = rw h.is refl

-- A variable that the code reads may be taken as settled in it.
abbrev pub Or : (List ℕ → Type 0) → (read_one : List ℕ) → List ℕ → Type 0
Or Settled read_one name = Settled name ⊎ (name ≡ read_one)

pub absorb : (c : Checked) (Settled CallOk : List ℕ → Type 0) (read_one : List ℕ) (code : Code) → CodeOk c (Or Settled read_one) CallOk code → code_reads read_one code ≡ true → CodeOk c Settled CallOk code
absorb c Settled CallOk read_one code ok r = record { typed = ok.typed; fair = λ name a. by name (ok.fair name a); called = ok.called }
  where
    by : (name : List ℕ) → Or Settled read_one name ⊎ (code_reads name code ≡ true) → Settled name ⊎ (code_reads name code ≡ true)
    by name (inl (inl s)) = inl s
    by name (inl (inr e)) = let P : List ℕ → Type 0 = λ z. code_reads z code ≡ true in inr (subst P (sym e) r)
    by name (inr g) = inr g

pub widen : (c : Checked) (Settled CallOk : List ℕ → Type 0) (read_one : List ℕ) (code : Code) → CodeOk c Settled CallOk code → CodeOk c (Or Settled read_one) CallOk code
widen c Settled CallOk read_one code ok = record { typed = ok.typed; fair = λ name a. by name (ok.fair name a); called = ok.called }
  where
    by : (name : List ℕ) → Settled name ⊎ (code_reads name code ≡ true) → Or Settled read_one name ⊎ (code_reads name code ≡ true)
    by name (inl s) = inl (inl s)
    by name (inr g) = inr g

-- `if (test) { read_one = value; }`, where the test reads the variable.
pub ok_when_assigned : (c : Checked) (Settled CallOk : List ℕ → Type 0) (t : TypeTree) (read_one : List ℕ) (test value : ExprTree) (rest : Code) → held_of c.scope (variable read_one) ≡ Some (one t) → has_type c test ≡ true → Fits c.scope t value
    → expr_reads read_one test ≡ true → CodeOk c Settled CallOk rest → CodeOk c Settled CallOk (when test (assign (variable read_one) value finish) rest)
ok_when_assigned c Settled CallOk t read_one test value rest h typed v r ok =
    absorb c Settled CallOk read_one _
    (ok_when c (Or Settled read_one) CallOk test _ rest typed
    (ok_assign c (Or Settled read_one) CallOk t (variable read_one) value finish (record { held = h; settled = λ name e. inr ((bytes_eq-Decides name read_one).0 e) }) v (ok_finish c (Or Settled read_one) CallOk))
    (widen c Settled CallOk read_one rest ok)) (left_or (expr_reads read_one test) _ r)
