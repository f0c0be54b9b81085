-- What the law of expressions supposes, in the body of the mixer's method: all computes, but for which number of a status has which
-- name, and which types a variable may have.
use Rattle.std.proofs.Common.{◌≡◌, ◌⊎◌, inl, inr, ℕ, zero, suc, ◌+◌, ◌<◌, ◌≤◌, ◌^◌, Bool, true, false, [], ◌∷◌, ◌++◌, length, Option, Some, None, refl, sym, ap, subst, arith, ◌∙◌}
use Rattle.std.specs.Prelude.{find, bytes_eq, codes, is_some, option_and_then, map, nat_eq, nat_lt, if◌then◌else◌}
use Rattle.std.specs.Fmt.{decimal, digits}
use Rattle.std.proofs.lemmas.Bool.{and_parts}
use Rattle.std.proofs.lemmas.Bool.Decides.{nat_tests}
use Rattle.std.proofs.lemmas.Fmt.{decimal_digit}
use Rattle.std.proofs.lemmas.Slice.Eq.{bytes_eq-Decides}
use Rattle.wf_num.specs.declared.c_arithmetic.CTy.TheVariants.{Int, U64}
use Rattle.wf_base.specs.declared.widths.Width.TheVariants.{W8, W16}
use Rattle.wf_base.specs.BaseOps.{Buffer, IsLawful}
use Rattle.wf_ast.specs.declared.types.Ty.{Ty}
use Rattle.wf_ast.specs.declared.types.Ty.TheVariants as types
use Rattle.wf_ast.specs.TypedTree.{Path, NumType, local, field, arg}
use Rattle.wf_ast.specs.Value.{Span, field_array, num, only_if, element_of}
use Rattle.wf_ast.specs.WellTyped.{variable_at, type_at, same_num_type, is_number, is_array, is_slice, is_flag, is_status, well_method}
use Rattle.wf_meaning.specs.Examples.{byte_ty, word_ty}
use Rattle.wf_meaning.specs.SourceCall.{host_values, fresh_local}
use Rattle.wf_meaning.specs.World.{empty_span, set_path}
use Rattle.c_meaning.specs.declared.values.Pointer.{Pointer}
use Rattle.c_meaning.specs.declared.values.CValue.{CValue}
use Rattle.c_meaning.specs.declared.values.CValue.TheVariants.{Numeric as numeric, Address as address, NullPointer as null_pointer}
use Rattle.c_meaning.specs.CValues.{to_object}
use Rattle.c_meaning.specs.CValues as c_values
use Rattle.c_meaning.specs.CMemory.{Memory}
use Rattle.c_meaning.specs.CTypes.{TextDecl, byte, points_to, function_named}
use Rattle.c_meaning.specs.CExprs.{Surroundings, value, place}
use Rattle.c_meaning.specs.CStep.{assigned}
use Rattle.c_meaning.specs.CCall.{frame_object, initialized}
use Rattle.c_text.specs.CTree.{ExprTree, variable}
use Rattle.wf_exprs.specs.Names.{status_name}
use Rattle.wf_exprs.specs.Words as words
use Rattle.wf_exprs.specs.Exprs.{calculated, path_code, path_pair, status_constant}
use Rattle.wf_exprs_laws.specs.ExprLaw.{GivesNumber, GivesStatus, TextStands, PairStands, ArrayStands, BufferStands, Stands, IsInside, cell_behind}
use Rattle.wf_lower.specs.Unit.{lowered_unit}
use Rattle.wf_lower_laws.specs.MixerExample.{mix, mixer, in_mix, names, of_host, passed, all_bytes, mixing, with_c, seen, items, program, mix_body, before_call, handed, in_body, running_mix, inside_with, inside}
use Rattle.wf_lower_laws.proofs.Digits.{only_digit}
use Rattle.wf_lower_laws.proofs.Names.{after_prefix}

pub typed : well_method mixer mix ≡ true
typed = refl

pub text : lowered_unit mixer ≡ items
unfolding lowered_unit digits
text = refl

pub body_there : function_named program.functions mix_body.name ≡ Some mix_body
unfolding digits
body_there = refl

-- ---- where the body begins, and its first statement

pub arguments : host_values of_host.arrays mix.args passed ≡ Some mixing.args
arguments = refl

pub fresh : map (λ x. fresh_local x.ty) mix.locals ≡ (with_c 0).locals
fresh = refl

pub begins : option_and_then (λ fields. initialized running_mix (length mix_body.params) mix_body.locals (before_call ++ fields ∷ [])) (frame_object mix_body handed) ≡ Some (in_body 0)
unfolding digits
begins = refl

pub source_goes_on : set_path mixing (local 0) (num 200) (with_c 0) ≡ with_c 200
source_goes_on = refl

pub c_goes_on : assigned (in_body 0) (place (inside_with 0) (path_code names (local 0))) (value (inside_with 0) (words.num 200)) ≡ Some (in_body 200)
unfolding digits
c_goes_on = refl

-- ---- statuses

abbrev text_four : TextDecl
text_four = record { name = status_name 4; bytes = codes "#base: bad receiver" }

abbrev text_five : TextDecl
text_five = record { name = status_name 5; bytes = codes "#base: bad argument" }

no_local : (n : ℕ) → find (λ it. bytes_eq it.name (status_name n)) inside.scope.names ≡ None
no_local n = refl

no_text : (n : ℕ) → bytes_eq (status_name 4) (status_name n) ≡ false → bytes_eq (status_name 5) (status_name n) ≡ false → find (λ it. bytes_eq it.name (status_name n)) (text_four ∷ text_five ∷ []) ≡ None
no_text n d e = rw (d, e) refl

no_value : (x : Surroundings) (n : ℕ) → find (λ it. bytes_eq it.name (status_name n)) x.scope.names ≡ None → find (λ it. bytes_eq it.name (status_name n)) x.scope.texts ≡ None
    → value x (variable (status_name n)) ≡ None
no_value x n own texts = rw (own, texts) refl

not_some : (o : Option CValue) → o ≡ None → is_some o ≡ true → ⊥
not_some None e h = cc h
not_some (Some v) e h = cc e

named_as : (d n : ℕ) → d < 10 → bytes_eq (status_name d) (status_name n) ≡ true → n ≡ d
named_as d n few h = only_digit d n few (sym (after_prefix (codes "status_") (decimal d) (decimal n) ((bytes_eq-Decides (status_name d) (status_name n)).0 h)) ∙ decimal_digit d few)

declared : (n : ℕ) → is_some (value inside (variable (status_name n))) ≡ true → (n ≡ 4) ⊎ (n ≡ 5)
declared n h = by (bytes_eq (status_name 4) (status_name n)) (bytes_eq (status_name 5) (status_name n)) refl refl
  where
    by : (b c : Bool) → bytes_eq (status_name 4) (status_name n) ≡ b → bytes_eq (status_name 5) (status_name n) ≡ c → (n ≡ 4) ⊎ (n ≡ 5)
    by true c d e = inl (named_as 4 n (omega arith) d)
    by false true d e = inr (named_as 5 n (omega arith) e)
    by false false d e = absurd (not_some (value inside (variable (status_name n))) (no_value inside n (no_local n) (no_text n d e)) h)

constant_is : (n : ℕ) → 0 < n → status_constant n ≡ variable (status_name n)
constant_is n h = by (nat_eq n 0) refl
  where
    by : (b : Bool) → nat_eq n 0 ≡ b → (if b then words.num 0 else variable (status_name n)) ≡ variable (status_name n)
    by true e = let none : n ≡ 0 = grind (arith, nat_tests, e) in absurd (omega (arith, h, none))
    by false e = refl

-- The text has two statuses.
two_alone : (n : ℕ) → 0 < n → is_some (value inside (status_constant n)) ≡ true → (n ≡ 4) ⊎ (n ≡ 5)
two_alone n h k = let P : ExprTree → Type 0 = λ e. is_some (value inside e) ≡ true in declared n (subst P (constant_is n h) k)

first_is : (memory : Memory) (v : CValue) (m b : ℕ) → m < 2 ^ 8 → cell_behind memory v 0 ≡ Some (numeric (c_values.number Int m)) → Some m ≡ Some b
    → (b < 2 ^ 8) × (cell_behind memory v 0 ≡ Some (numeric (c_values.number Int b)))
first_is memory v m b small h e =
    let same : m ≡ b = cc e in
    let P : ℕ → Type 0 = λ z. (z < 2 ^ 8) × (cell_behind memory v 0 ≡ Some (numeric (c_values.number Int z))) in
    subst P same (small, h)

four_stands : TextStands inside 4 (seen.status_text 4)
unfolding digits
four_stands = record { at = to_object 0; typed = refl; value = refl; first = λ b h. first_is inside.memory (address (to_object 0)) 35 b (omega arith) refl h; told = refl }

five_stands : TextStands inside 5 (seen.status_text 5)
unfolding digits
five_stands = record { at = to_object 1; typed = refl; value = refl; first = λ b h. first_is inside.memory (address (to_object 1)) 35 b (omega arith) refl h; told = refl }

texts : (n : ℕ) → 0 < n → is_some (value inside (status_constant n)) ≡ true → TextStands inside n (seen.status_text n)
texts n h k =
    let P : ℕ → Type 0 = λ z. TextStands inside z (seen.status_text z) in
    elim (two_alone n h k) [ inl four ↦ subst P (sym four) four_stands | inr five ↦ subst P (sym five) five_stands ]

-- The strings stand first in memory, so a pointer to one tells its status.
abbrev status_of : Option CValue → ℕ
status_of (Some (address p)) = p.object + 4
status_of v = 0

four_told : status_of (value inside (status_constant 4)) ≡ 4
unfolding digits
four_told = refl

five_told : status_of (value inside (status_constant 5)) ≡ 5
unfolding digits
five_told = refl

told : (n : ℕ) → is_some (value inside (status_constant n)) ≡ true → status_of (value inside (status_constant n)) ≡ n
told zero h = refl
told (suc n) h =
    let P : ℕ → Type 0 = λ z. status_of (value inside (status_constant z)) ≡ z in
    elim (two_alone (suc n) (omega arith) h) [ inl four ↦ subst P (sym four) four_told | inr five ↦ subst P (sym five) five_told ]

apart : (n k : ℕ) → is_some (value inside (status_constant n)) ≡ true → is_some (value inside (status_constant k)) ≡ true → value inside (status_constant n) ≡ value inside (status_constant k) → n ≡ k
apart n k a b e = sym (told n a) ∙ (ap status_of e ∙ told k b)

-- ---- what paths name

-- What holds of each variable whose type passes a test.
record AtEach (test : Option Ty → Bool) (P : Path → Type 0) : Type 0 where
  pub c : test (Some byte_ty) ≡ true → P (local 0)
  pub part : test (Some (types.Slice W8)) ≡ true → P (local 1)
  pub gain : test (Some (types.Num W16 0 65535)) ≡ true → P (arg 0)
  pub src : test (Some (types.Slice W8)) ≡ true → P (arg 1)
  pub level : test (Some word_ty) ≡ true → P (field 0)
  pub loud : test (Some types.Flag) ≡ true → P (field 1)
  pub last : test (Some types.Status) ≡ true → P (field 2)
  pub table : test (Some (types.Array W8 0 255 3)) ≡ true → P (field 3)

by_path : (test : Option Ty → Bool) (P : Path → Type 0) → test None ≡ false → AtEach test P → (path : Path) → test (type_at in_mix path) ≡ true → P path
by_path test P none each (local zero) h = each.c h
by_path test P none each (local (suc zero)) h = each.part h
by_path test P none each (local (suc (suc k))) h = absurd (cc (none, h))
by_path test P none each (arg zero) h = each.gain h
by_path test P none each (arg (suc zero)) h = each.src h
by_path test P none each (arg (suc (suc k))) h = absurd (cc (none, h))
by_path test P none each (field zero) h = each.level h
by_path test P none each (field (suc zero)) h = each.loud h
by_path test P none each (field (suc (suc zero))) h = each.last h
by_path test P none each (field (suc (suc (suc zero)))) h = each.table h
by_path test P none each (field (suc (suc (suc (suc k))))) h = absurd (cc (none, h))

some_same : {X : Type 0} (x y : X) → Some x ≡ Some y → x ≡ y
some_same x y h = cc h

-- A number has its width by its type.
abbrev Number : NumType → Path → Type 0
Number of path = (n : ℕ) → seen.number_at path ≡ Some n → (n < 2 ^ of.bits) × GivesNumber inside (path_code names path) (calculated of.bits) n

number_is : (e : ExprTree) (bits low high k : ℕ) → k < 2 ^ bits → GivesNumber inside e (calculated bits) k
    → (of : NumType) → same_num_type of (record { bits = bits; low = low; high = high }) ≡ true → (n : ℕ) → Some k ≡ Some n → (n < 2 ^ of.bits) × GivesNumber inside e (calculated of.bits) n
number_is e bits low high k small g of h n same =
    let wide : bits ≡ of.bits = grind (arith, nat_tests, (and_parts (nat_eq of.bits bits) _ h).0) in
    let P : ℕ → Type 0 = λ z. (k < 2 ^ z) × GivesNumber inside e (calculated z) k in
    let Q : ℕ → Type 0 = λ z. (z < 2 ^ of.bits) × GivesNumber inside e (calculated of.bits) z in
    subst Q (some_same k n same) (subst P wide (small, g))

numbers : (path : Path) (of : NumType) (n : ℕ) → is_number of (type_at in_mix path) ≡ true → seen.number_at path ≡ Some n → (n < 2 ^ of.bits) × GivesNumber inside (path_code names path) (calculated of.bits) n
numbers path of n h e = by_path (is_number of) (Number of) refl each path h n e
  where
    each : AtEach (is_number of) (Number of)
    each = record {
      c = λ h n e. number_is (path_code names (local 0)) 8 0 255 200 (omega arith) (record { type = refl; value = refl }) of h n e;
      part = λ h. absurd (cc h);
      gain = λ h n e. number_is (path_code names (arg 0)) 16 0 65535 65535 (omega arith) (record { type = refl; value = refl }) of h n e;
      src = λ h. absurd (cc h);
      level = λ h n e. number_is (path_code names (field 0)) 32 0 4294967295 7 (omega arith) (record { type = refl; value = refl }) of h n e;
      loud = λ h. absurd (cc h);
      last = λ h. absurd (cc h);
      table = λ h. absurd (cc h);
    }

abbrev Truth : Path → Type 0
Truth path = (b : Bool) → seen.flag_at path ≡ Some b → GivesNumber inside (path_code names path) Int (if b then 1 else 0)

flags : (path : Path) (b : Bool) → is_flag (type_at in_mix path) ≡ true → seen.flag_at path ≡ Some b → GivesNumber inside (path_code names path) Int (if b then 1 else 0)
flags path b h e = by_path is_flag Truth refl each path h b e
  where
    loud_is : GivesNumber inside (path_code names (field 1)) Int 1
    loud_is = record { type = refl; value = refl }

    each : AtEach is_flag Truth
    each = record {
      c = λ h. absurd (cc h);
      part = λ h. absurd (cc h);
      gain = λ h. absurd (cc h);
      src = λ h. absurd (cc h);
      level = λ h. absurd (cc h);
      loud = λ h b e. (let P : Bool → Type 0 = λ b. GivesNumber inside (path_code names (field 1)) Int (if b then 1 else 0) in subst P (some_same true b e) loud_is);
      last = λ h. absurd (cc h);
      table = λ h. absurd (cc h);
    }

abbrev Status : Path → Type 0
Status path = (n : ℕ) → seen.status_at path ≡ Some n → GivesStatus inside (path_code names path) n

last_is : GivesStatus inside (path_code names (field 2)) 5
unfolding digits
last_is = record { type = points_to byte; typed = refl; goes = refl; at = address (to_object 1); value = refl; same = refl }

statuses : (path : Path) (n : ℕ) → is_status (type_at in_mix path) ≡ true → seen.status_at path ≡ Some n → GivesStatus inside (path_code names path) n
statuses path n h e = by_path is_status Status refl each path h n e
  where
    each : AtEach is_status Status
    each = record {
      c = λ h. absurd (cc h);
      part = λ h. absurd (cc h);
      gain = λ h. absurd (cc h);
      src = λ h. absurd (cc h);
      level = λ h. absurd (cc h);
      loud = λ h. absurd (cc h);
      last = λ h n e. (let P : ℕ → Type 0 = λ n. GivesStatus inside (path_code names (field 2)) n in subst P (some_same 5 n e) last_is);
      table = λ h. absurd (cc h);
    }

-- ---- slices and arrays

-- One element of bytes, and no more than there are.
element_is : (v : CValue) (k m n : ℕ) → m < 2 ^ 8 → cell_behind inside.memory v k ≡ Some (numeric (c_values.number Int m)) → Some m ≡ Some n
    → (n < 2 ^ 8) × (cell_behind inside.memory v k ≡ Some (numeric (c_values.number Int n)))
element_is v k m n small h e =
    let P : ℕ → Type 0 = λ z. (z < 2 ^ 8) × (cell_behind inside.memory v k ≡ Some (numeric (c_values.number Int z))) in
    subst P (some_same m n e) (small, h)

none_behind : (test : Bool) (x : Option ℕ) (n : ℕ) → test ≡ false → only_if test x ≡ Some n → ⊥
none_behind true x n t e = cc t
none_behind false x n t e = cc e

src_elements : (k n : ℕ) → element_of seen all_bytes k ≡ Some n → (n < 2 ^ 8) × (cell_behind inside.memory (address (to_object 6)) k ≡ Some (numeric (c_values.number Int n)))
src_elements zero n e = element_is (address (to_object 6)) 0 9 n (omega arith) refl e
src_elements (suc zero) n e = element_is (address (to_object 6)) 1 8 n (omega arith) refl e
src_elements (suc (suc zero)) n e = element_is (address (to_object 6)) 2 7 n (omega arith) refl e
src_elements (suc (suc (suc zero))) n e = element_is (address (to_object 6)) 3 6 n (omega arith) refl e
src_elements (suc (suc (suc (suc k)))) n e =
    let out : nat_lt (suc (suc (suc (suc k)))) 4 ≡ false = grind (arith, nat_tests) in
    absurd (none_behind (nat_lt (suc (suc (suc (suc k)))) 4) _ n out e)

src_inside : (k : ℕ) → k ≤ 4 → IsInside inside.memory (address (to_object 6)) k
src_inside zero h = refl
src_inside (suc zero) h = refl
src_inside (suc (suc zero)) h = refl
src_inside (suc (suc (suc zero))) h = refl
src_inside (suc (suc (suc (suc zero)))) h = refl
src_inside (suc (suc (suc (suc (suc k))))) h = absurd (omega (arith, h))

src_stands : PairStands seen inside 8 all_bytes (path_pair names (arg 1)).pointer (path_pair names (arg 1)).length.code U64
src_stands = record {
  at = address (to_object 6);
  is_pointer = record { type = refl; value = refl };
  counts = record { type = refl; value = refl };
  stands = record { elements = src_elements; fits = omega arith; empty = λ h. absurd (cc h); inside = λ k h some. src_inside k h };
}

-- The slice that has no elements yet is null.
part_elements : (k n : ℕ) → element_of seen empty_span k ≡ Some n → (n < 2 ^ 8) × (cell_behind inside.memory null_pointer k ≡ Some (numeric (c_values.number Int n)))
part_elements k n e =
    let out : nat_lt k 0 ≡ false = grind (arith, nat_tests) in
    absurd (none_behind (nat_lt k 0) _ n out e)

part_stands : PairStands seen inside 8 empty_span (path_pair names (local 1)).pointer (path_pair names (local 1)).length.code U64
part_stands = record {
  at = null_pointer;
  is_pointer = record { type = refl; value = refl };
  counts = record { type = refl; value = refl };
  stands = record { elements = part_elements; fits = omega arith; empty = λ h. refl; inside = λ k h some. absurd (some refl) };
}

abbrev Slice : ℕ → Path → Type 0
Slice bits path = (cells : Span) → seen.span_at path ≡ Some cells → PairStands seen inside bits cells (path_pair names path).pointer (path_pair names path).length.code U64

slice_is : (path : Path) (cells : Span) → PairStands seen inside 8 cells (path_pair names path).pointer (path_pair names path).length.code U64
    → (bits : ℕ) → nat_eq bits 8 ≡ true → (others : Span) → Some cells ≡ Some others → PairStands seen inside bits others (path_pair names path).pointer (path_pair names path).length.code U64
slice_is path cells g bits h others e =
    let wide : 8 ≡ bits = grind (arith, nat_tests, h) in
    let P : ℕ → Type 0 = λ z. PairStands seen inside z cells (path_pair names path).pointer (path_pair names path).length.code U64 in
    let Q : Span → Type 0 = λ z. PairStands seen inside bits z (path_pair names path).pointer (path_pair names path).length.code U64 in
    subst Q (some_same cells others e) (subst P wide g)

slices : (path : Path) (bits : ℕ) (cells : Span) → is_slice bits (type_at in_mix path) ≡ true → seen.span_at path ≡ Some cells
    → PairStands seen inside bits cells (path_pair names path).pointer (path_pair names path).length.code U64
slices path bits cells h e = by_path (is_slice bits) (Slice bits) refl each path h cells e
  where
    each : AtEach (is_slice bits) (Slice bits)
    each = record {
      c = λ h. absurd (cc h);
      part = λ h cells e. slice_is (local 1) empty_span part_stands bits h cells e;
      gain = λ h. absurd (cc h);
      src = λ h cells e. slice_is (arg 1) all_bytes src_stands bits h cells e;
      level = λ h. absurd (cc h);
      loud = λ h. absurd (cc h);
      last = λ h. absurd (cc h);
      table = λ h. absurd (cc h);
    }

abbrev in_table : Span
in_table = record { store = field_array 0 3; from = 0; count = 3 }

abbrev table_at : Pointer
table_at = record { object = 2; field = 5; index = 0 }

table_elements : (k n : ℕ) → element_of seen in_table k ≡ Some n → (n < 2 ^ 8) × (cell_behind inside.memory (address table_at) k ≡ Some (numeric (c_values.number Int n)))
table_elements zero n e = element_is (address table_at) 0 10 n (omega arith) refl e
table_elements (suc zero) n e = element_is (address table_at) 1 100 n (omega arith) refl e
table_elements (suc (suc zero)) n e = element_is (address table_at) 2 30 n (omega arith) refl e
table_elements (suc (suc (suc k))) n e =
    let out : nat_lt (suc (suc (suc k))) 3 ≡ false = grind (arith, nat_tests) in
    absurd (none_behind (nat_lt (suc (suc (suc k))) 3) _ n out e)

table_inside : (k : ℕ) → k ≤ 3 → IsInside inside.memory (address table_at) k
table_inside zero h = refl
table_inside (suc zero) h = refl
table_inside (suc (suc zero)) h = refl
table_inside (suc (suc (suc zero))) h = refl
table_inside (suc (suc (suc (suc k)))) h = absurd (omega (arith, h))

table_stands : ArrayStands seen inside 8 3 in_table (path_code names (field 3))
table_stands = record {
  at = address table_at;
  is_pointer = record { type = refl; value = refl };
  counts = refl;
  few = omega arith;
  stands = record { elements = table_elements; fits = omega arith; empty = λ h. absurd (cc h); inside = λ k h some. table_inside k h };
  some = λ h. absurd (cc h);
}

abbrev Array : NumType → ℕ → Path → Type 0
Array of count path = (cells : Span) → seen.span_at path ≡ Some cells → ArrayStands seen inside of.bits count cells (path_code names path)

array_is : (of : NumType) (count : ℕ) → is_array of count (Some (types.Array W8 0 255 3)) ≡ true → (cells : Span) → Some in_table ≡ Some cells → ArrayStands seen inside of.bits count cells (path_code names (field 3))
array_is of count h cells e =
    let q = and_parts (nat_eq count 3) _ h in
    let many : 3 ≡ count = grind (arith, nat_tests, q.0) in
    let wide : 8 ≡ of.bits = grind (arith, nat_tests, (and_parts (nat_eq of.bits 8) _ q.1).0) in
    let P : ℕ → Type 0 = λ z. ArrayStands seen inside 8 z in_table (path_code names (field 3)) in
    let Q : ℕ → Type 0 = λ z. ArrayStands seen inside z count in_table (path_code names (field 3)) in
    let R : Span → Type 0 = λ z. ArrayStands seen inside of.bits count z (path_code names (field 3)) in
    subst R (some_same in_table cells e) (subst Q wide (subst P many table_stands))

arrays : (path : Path) (of : NumType) (count : ℕ) (cells : Span) → is_array of count (type_at in_mix path) ≡ true → seen.span_at path ≡ Some cells
    → ArrayStands seen inside of.bits count cells (path_code names path)
arrays path of count cells h e = by_path (is_array of count) (Array of count) refl each path h cells e
  where
    each : AtEach (is_array of count) (Array of count)
    each = record {
      c = λ h. absurd (cc h);
      part = λ h. absurd (cc h);
      gain = λ h. absurd (cc h);
      src = λ h. absurd (cc h);
      level = λ h. absurd (cc h);
      loud = λ h. absurd (cc h);
      last = λ h. absurd (cc h);
      table = λ h cells e. array_is of count h cells e;
    }

buffers : (a k : ℕ) (ty : Ty) (b : Buffer) → variable_at mix.args a ≡ Some ty → seen.buffer_number a ≡ Some k → seen.buffer_at k ≡ Some b → IsLawful b × BufferStands names inside a ty b
buffers zero k ty b h g e = absurd (cc g)
buffers (suc zero) k ty b h g e = absurd (cc g)
buffers (suc (suc a)) k ty b h g e = absurd (cc g)

pub stands : Stands mixer mix seen inside
stands = record {
  numbers = numbers;
  flags = flags;
  statuses = statuses;
  slices = slices;
  arrays = arrays;
  buffers = buffers;
  ok = refl;
  texts = texts;
  apart = apart;
}
