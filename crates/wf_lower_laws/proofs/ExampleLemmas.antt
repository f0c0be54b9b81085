-- The worked example of the laws of expressions: everything computes, but for which number of a status has which name.
use Rattle.std.proofs.Common.{◌≡◌, inr, ℕ, zero, suc, ◌<◌, Bool, true, false, List, [], ◌∷◌, length, Option, Some, None, refl, sym, subst, arith, rules, ◌^◌, ◌∙◌}
use Rattle.std.specs.Prelude.{if◌then◌else◌, find, slice_get, bytes_eq, codes, is_some, option_and_then, map, nat_eq, ◌++◌}
use Rattle.std.specs.Fmt.{decimal, digits}
use Rattle.std.proofs.lemmas.Bool.Decides.{nat_tests}
use Rattle.std.proofs.lemmas.Fmt.{decimal_digit}
use Rattle.std.proofs.lemmas.List.Elements.{All-from_recursion}
use Rattle.std.proofs.lemmas.Slice.Eq.{bytes_eq-Decides}
use Rattle.wf_num.specs.declared.c_arithmetic.CTy.TheVariants.{Int, U64}
use Rattle.wf_base.specs.BaseOps.{Buffer, IsLawful}
use Rattle.wf_ast.specs.declared.types.Ty.{Ty}
use Rattle.wf_ast.specs.declared.types.Ty.TheVariants as types
use Rattle.wf_ast.specs.TypedTree.{Path, local, field, arg}
use Rattle.wf_ast.specs.WellTyped.{variable_at, type_at, is_number, is_array, is_slice, is_flag, is_status, is_reader, is_writer, well_method}
use Rattle.c_meaning.specs.declared.values.CValue.{CValue}
use Rattle.c_meaning.specs.declared.values.CValue.TheVariants.{Numeric as numeric, Address as address}
use Rattle.c_meaning.specs.CValues.{to_object, number}
use Rattle.c_meaning.specs.CTypes.{TextDecl, functions_of, function_named, names_of, numbers}
use Rattle.c_meaning.specs.CExprs.{Surroundings, value}
use Rattle.c_meaning.specs.CCall.{frame_object, initialized}
use Rattle.c_text.specs.CTree.{ExprTree, variable}
use Rattle.wf_exprs.specs.Names.{status_name}
use Rattle.wf_exprs.specs.Words.{num}
use Rattle.wf_exprs.specs.Exprs.{lowered, status_constant}
use Rattle.wf_exprs_laws.specs.ExprLaw.{TextStands, BufferStands, Stands, IsTheNumber, cell_behind}
use Rattle.wf_exprs_laws.proofs.Law.{expr_law}
use Rattle.wf_lower.specs.Unit.{lowered_unit}
use Rattle.wf_lower_laws.specs.KindLaw.{IsText, IsBuffer, Declares}
use Rattle.wf_lower_laws.specs.Examples.{length_asked, left, gauge, in_left, names, four_bytes, seen, left_body, before_call, handed, in_body, running_left, inside, no_helpers, bad_receiver_alone, no_bytes}
use Rattle.wf_lower_laws.proofs.Digits.{only_digit}
use Rattle.wf_lower_laws.proofs.Names.{after_prefix}

pub typed : well_method gauge left ≡ true
typed = refl

pub no_pointer : map (λ it. it.name) (names_of left_body) ≡ codes "self" ∷ codes "a_src" ∷ codes "p_src" ∷ codes "e_src" ∷ []
no_pointer = refl

pub body_there : function_named (functions_of (lowered_unit gauge)) left_body.name ≡ Some left_body
unfolding lowered_unit digits
body_there = refl

pub begins : option_and_then (λ fields. initialized running_left (length left_body.params) left_body.locals (before_call ++ fields ∷ [])) (frame_object left_body handed) ≡ Some in_body
unfolding lowered_unit digits
begins = refl

-- ---- statuses

abbrev only_text : TextDecl
only_text = record { name = status_name 4; bytes = codes "#base: bad receiver" }

texts_are : inside.scope.texts ≡ only_text ∷ []
unfolding lowered_unit digits
texts_are = refl

no_local : (n : ℕ) → find (λ it. bytes_eq it.name (status_name n)) inside.scope.names ≡ None
no_local n = refl

no_text : (n : ℕ) → bytes_eq (status_name 4) (status_name n) ≡ false → find (λ it. bytes_eq it.name (status_name n)) (only_text ∷ []) ≡ None
no_text n e = rw e refl

no_value : (x : Surroundings) (n : ℕ) → find (λ it. bytes_eq it.name (status_name n)) x.scope.names ≡ None → find (λ it. bytes_eq it.name (status_name n)) x.scope.texts ≡ None
    → value x (variable (status_name n)) ≡ None
no_value x n own text = rw (own, text) refl

not_some : (o : Option CValue) → o ≡ None → is_some o ≡ true → ⊥
not_some None e h = cc h
not_some (Some v) e h = cc e

is_four : (n : ℕ) → is_some (value inside (variable (status_name n))) ≡ true → n ≡ 4
is_four n h = by (bytes_eq (status_name 4) (status_name n)) refl
  where
    by : (b : Bool) → bytes_eq (status_name 4) (status_name n) ≡ b → n ≡ 4
    by true e = only_digit 4 n (omega arith) (sym (after_prefix (codes "status_") (decimal 4) (decimal n) ((bytes_eq-Decides (status_name 4) (status_name n)).0 e)) ∙ decimal_digit 4 (omega arith))
    by false e =
        let P : List TextDecl → Type 0 = λ ts. find (λ it. bytes_eq it.name (status_name n)) ts ≡ None in
        absurd (not_some (value inside (variable (status_name n))) (no_value inside n (no_local n) (subst P (sym texts_are) (no_text n e))) h)

four_stands : TextStands inside 4 (seen.status_text 4)
unfolding lowered_unit digits
four_stands = record { at = to_object 0; typed = refl; value = refl; first = first_byte; told = refl }
  where
    first_byte : (b : ℕ) → slice_get (seen.status_text 4) 0 ≡ Some b → (b < 2 ^ 8) × (cell_behind inside.memory (address (to_object 0)) 0 ≡ Some (numeric (number Int b)))
    first_byte b h =
        let same : 35 ≡ b = cc h in
        let P : ℕ → Type 0 = λ b. (b < 2 ^ 8) × (cell_behind inside.memory (address (to_object 0)) 0 ≡ Some (numeric (number Int b))) in
        subst P same (omega arith, refl)

constant_is : (n : ℕ) → 0 < n → status_constant n ≡ variable (status_name n)
constant_is n h = by (nat_eq n 0) refl
  where
    by : (b : Bool) → nat_eq n 0 ≡ b → (if b then num 0 else variable (status_name n)) ≡ variable (status_name n)
    by true e = let none : n ≡ 0 = grind (arith, nat_tests, e) in absurd (omega (arith, h, none))
    by false e = refl

-- The text has one status.
alone : (n : ℕ) → 0 < n → is_some (value inside (status_constant n)) ≡ true → n ≡ 4
alone n h k = let P : ExprTree → Type 0 = λ e. is_some (value inside e) ≡ true in is_four n (subst P (constant_is n h) k)

texts : (n : ℕ) → 0 < n → is_some (value inside (status_constant n)) ≡ true → TextStands inside n (seen.status_text n)
texts n h k = let P : ℕ → Type 0 = λ z. TextStands inside z (seen.status_text z) in subst P (sym (alone n h k)) four_stands

ok_differs : value inside (status_constant 0) ≡ value inside (status_constant 4) → ⊥
unfolding lowered_unit digits
ok_differs e = absurd (cc e)

apart : (n k : ℕ) → is_some (value inside (status_constant n)) ≡ true → is_some (value inside (status_constant k)) ≡ true → value inside (status_constant n) ≡ value inside (status_constant k) → n ≡ k
apart zero zero a b e = refl
apart zero (suc k) a b e = let P : ℕ → Type 0 = λ z. value inside (status_constant 0) ≡ value inside (status_constant z) in absurd (ok_differs (subst P (alone (suc k) (omega arith) b) e))
apart (suc n) zero a b e = let P : ℕ → Type 0 = λ z. value inside (status_constant 0) ≡ value inside (status_constant z) in absurd (ok_differs (subst P (alone (suc n) (omega arith) a) (sym e)))
apart (suc n) (suc k) a b e = alone (suc n) (omega arith) a ∙ sym (alone (suc k) (omega arith) b)

-- ---- what paths name

-- The only path is that of the reader.
no_path : (test : Option Ty → Bool) → test None ≡ false → test (Some types.Reader) ≡ false → (path : Path) → test (type_at in_left path) ≡ true → ⊥
no_path test n r (local k) h = cc (n, h)
no_path test n r (arg zero) h = cc (r, h)
no_path test n r (arg (suc k)) h = cc (n, h)
no_path test n r (field k) h = cc (n, h)

lawful : IsLawful four_bytes
lawful = record { read = omega arith; written = omega arith; bytes = All-from_recursion (λ cell. cell < 2 ^ 8) (7 ∷ 8 ∷ 9 ∷ 0 ∷ []) (search rules); size = omega arith; counted = omega arith }

reader_stands : BufferStands names inside 0 types.Reader four_bytes
unfolding lowered_unit digits
reader_stands = record { place = record { type = refl; value = refl }; end = record { type = refl; value = refl }; position = record { type = refl; value = refl }; closed = record { type = refl; value = refl } }

some_same : {X : Type 0} (x y : X) → Some x ≡ Some y → x ≡ y
some_same x y h = cc (h)

buffers : (a k : ℕ) (ty : Ty) (b : Buffer) → variable_at left.args a ≡ Some ty → seen.buffer_number a ≡ Some k → seen.buffer_at k ≡ Some b → IsLawful b × BufferStands names inside a ty b
buffers zero zero ty b h g e =
    let P : Ty → Type 0 = λ ty. IsLawful four_bytes × BufferStands names inside 0 ty four_bytes in
    let Q : Buffer → Type 0 = λ b. IsLawful b × BufferStands names inside 0 ty b in
    subst Q (some_same four_bytes b e) (subst P (some_same types.Reader ty h) (lawful, reader_stands))
buffers zero (suc k) ty b h g e = absurd (cc e)
buffers (suc a) k ty b h g e = absurd (cc (h))

pub stands : Stands gauge left seen inside
stands = record {
  numbers = λ path of n h e. absurd (no_path (is_number of) refl refl path h);
  flags = λ path b h e. absurd (no_path is_flag refl refl path h);
  statuses = λ path n h e. absurd (no_path is_status refl refl path h);
  slices = λ path bits cells h e. absurd (no_path (is_slice bits) refl refl path h);
  arrays = λ path of count cells h e. absurd (no_path (is_array of count) refl refl path h);
  buffers = buffers;
  ok = refl;
  texts = texts;
  apart = apart;
}

-- By the law itself.
pub gives : IsTheNumber inside (lowered names length_asked).code U64 2
gives = expr_law.numbers gauge left seen inside stands length_asked 2 tt refl refl

-- ---- the kinds

reader_kinds : IsBuffer inside.scope names 0
unfolding lowered_unit digits
reader_kinds = record {
  place = record { type = numbers U64; is = refl; ty = U64; counts = refl };
  end = record { type = numbers U64; is = refl; ty = U64; counts = refl };
  position = record { type = numbers U64; is = refl; ty = U64; counts = refl };
  closed = record { type = numbers Int; is = refl; ty = Int; counts = refl };
}

readers : (a : ℕ) → is_reader (type_at in_left (arg a)) ≡ true → IsBuffer inside.scope names a
readers zero h = reader_kinds
readers (suc a) h = absurd (cc (h))

four_kind : IsText inside.scope (status_constant 4)
unfolding lowered_unit digits
four_kind = inr refl

pub kinds : Declares inside.scope in_left names no_helpers bad_receiver_alone no_bytes
kinds = record {
  numbers = λ of path h. absurd (no_path (is_number of) refl refl path h);
  flags = λ path h. absurd (no_path is_flag refl refl path h);
  statuses = λ path h. absurd (no_path is_status refl refl path h);
  slices = λ bits path h. absurd (no_path (is_slice bits) refl refl path h);
  arrays = λ of count path h. absurd (no_path (is_array of count) refl refl path h);
  readers = readers;
  writers = λ a h. absurd (no_path is_writer refl refl (arg a) h);
  bytes = λ a h r. absurd (cc (r));
  constants = λ n h. (let same : n ≡ 4 = grind (arith, nat_tests, h) in let P : ℕ → Type 0 = λ z. IsText inside.scope (status_constant z) in subst P (sym same) four_kind);
  calls = λ sum bits x y h i j. absurd (cc (h));
}
