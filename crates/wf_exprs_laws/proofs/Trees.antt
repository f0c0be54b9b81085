-- The law for numbers and slices, by their trees.
use Rattle.std.proofs.Common.{◌≡◌, ℕ, ◌+◌, ◌-◌, ◌%◌, ◌^◌, ◌<◌, ◌≤◌, Bool, true, false, not, ◌&&◌, ◌||◌, Option, Some, None, refl, ap, ◌∙◌, sym, subst, arith, inl, inr}
use Rattle.std.specs.Prelude.{if◌then◌else◌, nat_eq, nat_le, nat_lt, bit_xor, option_map, option_and_then, ⊤}
use Rattle.std.proofs.lemmas.Bool.{and_parts, or_cases}
use Rattle.std.proofs.lemmas.Bool.Decides.{nat_tests}
use Rattle.wf_num.specs.declared.c_arithmetic.CTy.{CTy}
use Rattle.wf_num.specs.declared.c_arithmetic.CTy.TheVariants.{Int, U32, U64}
use Rattle.wf_num.specs.CArithmetic.{c_width, c_sum, c_difference}
use Rattle.wf_num.proofs.CLaws.{c_limit, c_sum-whole, c_difference-whole}
use Rattle.wf_base.specs.declared.widths.Width.{Width}
use Rattle.wf_base.specs.declared.widths.Width.TheVariants.{W8, W16, W32, W64}
use Rattle.wf_base.specs.BaseTable.{bits_of}
use Rattle.wf_ast.specs.declared.types.Ty.{Ty}
use Rattle.wf_ast.specs.declared.types.Ty.TheVariants as types
use Rattle.wf_text.specs.declared.place.Place.{Place}
use Rattle.wf_ast.specs.TypedTree.{Path, local, field, arg, NumType, Arith, plus, minus, bits_xor, mod_minus, Question, reader_length, reader_position, peek, writer_length, writer_position, NumTree, number, read, element, link, convert, length_of, asked, SliceTree, slice, array, cut, EndTree, absent, present}
use Rattle.wf_ast.specs.TypedPackage.{MethodTree, PackageTree}
use Rattle.wf_ast.specs.Value.{Span, State, element_of, part_of, fitted, applied, told, io_buffer, value, span_of, end_value}
use Rattle.wf_ast.specs.WellTyped as well
use Rattle.wf_ast.specs.WellTyped.{Context, type_at, variable_at, is_width, is_range, same_num_type, is_number, is_slice, is_unrefined, is_reader, is_writer, question_width, may_ask, fits, is_shift, continues, element_type, is_whole_number, well_part, well_slice, well_end}
use Rattle.c_text.specs.CTree as tree
use Rattle.c_meaning.specs.declared.values.CValue.{CValue}
use Rattle.c_meaning.specs.declared.values.CValue.TheVariants.{NullPointer as null_pointer}
use Rattle.c_meaning.specs.CExprs.{Surroundings}
use Rattle.wf_exprs.specs.Names.{Names, names_of}
use Rattle.wf_exprs.specs.Words.{num, uint_of, two}
use Rattle.wf_exprs.specs.Exprs.{calculated, rank, Rated, rated, is_held, converted, widened, beside, is_decided, unmoved, unmoved_in, compared_with, is_itself, left_compared, right_compared, bare, apart, with_zero, xor_operand, is_ones, is_short_ones, is_converted, pair_compared, comparand, is_array, asked_code, lowered, given, lowered_slice, lowered_end}
use Rattle.c_text.specs.declared.kinds.COp.{COp}
use Rattle.c_text.specs.declared.kinds.COp.TheVariants.{Add, Sub}
use Rattle.c_text.specs.CTree.{ExprTree, cast}
use Rattle.wf_exprs_laws.specs.ExprLaw.{DeclaresOperator, DeclaresQuestion, Declares, DeclaresSlice, DeclaresEnd, GivesPointer, SpanStands, Stands}
use Rattle.wf_exprs_laws.proofs.CNumbers.{by_width, width-limit}
use Rattle.wf_exprs_laws.proofs.Operands.{IsNumber, Calculates, suffixed-number, literal-number, literal-rank, cast-number, chained-number, calculated-number, taken-number}
use Rattle.wf_exprs_laws.proofs.Links.{fitted-some, applied-below, linked-number}
use Rattle.wf_exprs_laws.proofs.Ones.{xor-ones, ones-xor}
use Rattle.wf_exprs_laws.proofs.Pointers.{element-number, IsEnd, part_length-number, part_pointer-gives, part-some, part-stands}
use Rattle.wf_exprs_laws.proofs.Buffers.{IsBuffer, buffer-some, is_reader_question, reader-type, writer-type, IsAsked, reader-asked, writer-asked}

-- What is answered where two steps are.
pub record Came {X Y : Type 0} (f : X → Option Y) (o : Option X) (y : Y) : Type 0 where
  pub from : X
  pub is : o ≡ Some from
  pub gives : f from ≡ Some y

pub came : {X Y : Type 0} (f : X → Option Y) (o : Option X) (y : Y) → option_and_then f o ≡ Some y → Came f o y
came f None y h = absurd (cc h)
came f (Some x) y h = record { from = x; is = refl; gives = h }

pub record Mapped {X Y : Type 0} (f : X → Y) (o : Option X) (y : Y) : Type 0 where
  pub from : X
  pub is : o ≡ Some from
  pub gives : f from ≡ y

pub mapped : {X Y : Type 0} (f : X → Y) (o : Option X) (y : Y) → option_map f o ≡ Some y → Mapped f o y
mapped f None y h = absurd (cc h)
mapped f (Some x) y h = record { from = x; is = refl; gives = cc h }

-- A number of its own width fits that one.
own-fitting : (own n r : ℕ) → n < 2 ^ own → r ≤ rank (calculated own) → (bits : ℕ) → nat_eq bits own ≡ true → (n < 2 ^ bits) × (r ≤ rank (calculated bits))
own-fitting own n r k l bits h =
    let e : own ≡ bits = grind (arith, nat_tests, h) in (subst (λ b. n < 2 ^ b) e k, subst (λ b. r ≤ rank (calculated b)) e l)

rank-most : (ty : CTy) → rank ty ≤ 2
rank-most Int = omega arith
rank-most U32 = omega arith
rank-most U64 = omega arith

width-of : (w : Width) → is_width (bits_of w) ≡ true
width-of W8 = refl
width-of W16 = refl
width-of W32 = refl
width-of W64 = refl

slice-width : (bits : ℕ) (ty : Option Ty) → is_slice bits ty ≡ true → is_width bits ≡ true
slice-width bits (Some (types.Slice w)) h = let e : bits_of w ≡ bits = grind (arith, nat_tests, h) in subst (λ b. is_width b ≡ true) e (width-of w)
slice-width bits ty h = absurd (cc h)

same-bits : (a b : NumType) → same_num_type a b ≡ true → b.bits ≡ a.bits
same-bits a b h = let p = and_parts (nat_eq a.bits b.bits) _ h in grind (arith, nat_tests, p.0)

-- ---- conversions

pub record IsConverted (bits : ℕ) (x : Surroundings) (r : Rated) (n : ℕ) : Type 0 where
  pub is : IsNumber x r.code r.ty n
  pub narrow : rank r.ty ≤ rank (calculated bits)

pub converted-number : (bits : ℕ) → is_width bits ≡ true → (x : Surroundings) (a : Rated) (n : ℕ) → IsNumber x a.code a.ty n → n < 2 ^ bits → IsConverted bits x (converted bits a) n
converted-number bits w x a n h s = by (nat_lt (rank (calculated bits)) (rank a.ty)) refl
  where
    by : (wider : Bool) → nat_lt (rank (calculated bits)) (rank a.ty) ≡ wider
        → IsConverted bits x (if wider then rated (cast (uint_of bits) a.code) (calculated bits) else a) n
    by true e = record { is = cast-number bits w x a.code a.ty n h s; narrow = omega arith }
    by false e = record { is = h; narrow = grind (arith, nat_tests, e) }

pub widened-number : (bits : ℕ) → is_width bits ≡ true → (x : Surroundings) (a : Rated) (n : ℕ) → IsNumber x a.code a.ty n → n < 2 ^ bits → IsNumber x (widened bits a).code (widened bits a).ty n
widened-number bits w x a n h s = by (nat_eq (rank a.ty) 0 && not (is_held a.code))
  where
    by : (test : Bool)
        → IsNumber x (if test then rated (cast (uint_of bits) a.code) (calculated bits) else a).code (if test then rated (cast (uint_of bits) a.code) (calculated bits) else a).ty n
    by true = cast-number bits w x a.code a.ty n h s
    by false = h

-- ---- numbers side by side

width-of_type : (ty : CTy) → is_width (c_width ty) ≡ true
width-of_type Int = refl
width-of_type U32 = refl
width-of_type U64 = refl

in-wider : (own wider : CTy) (n : ℕ) → rank own < rank wider → n < c_limit own → n < 2 ^ c_width wider
in-wider Int Int n l h = absurd (omega (arith, l))
in-wider Int U32 n l h = omega (arith, h)
in-wider Int U64 n l h = omega (arith, h)
in-wider U32 Int n l h = absurd (omega (arith, l))
in-wider U32 U32 n l h = absurd (omega (arith, l))
in-wider U32 U64 n l h = omega (arith, h)
in-wider U64 Int n l h = absurd (omega (arith, l))
in-wider U64 U32 n l h = absurd (omega (arith, l))
in-wider U64 U64 n l h = absurd (omega (arith, l))

pub beside-number : (x : Surroundings) (a : Rated) (ty : CTy) (n : ℕ) → IsNumber x a.code a.ty n → IsNumber x (beside a ty).code (beside a ty).ty n
beside-number x a ty n h = by (nat_lt (rank a.ty) (rank ty)) refl
  where
    by : (test : Bool) → nat_lt (rank a.ty) (rank ty) ≡ test → IsNumber x (if test then widened (c_width ty) a else a).code (if test then widened (c_width ty) a else a).ty n
    by true e = widened-number (c_width ty) (width-of_type ty) x a n h (in-wider a.ty ty n (grind (arith, nat_tests, e)) h.small)
    by false e = h

-- With 0 added to it or subtracted from it a number is the same.
sum-zero : (x : Surroundings) (e : ExprTree) (ty : CTy) (n : ℕ) → IsNumber x e ty n → Calculates x (two Add e (num 0)) ty (c_sum ty n 0)
sum-zero x e Int n h = chained-number x false Add refl e (num 0) Int Int n 0 h (literal-number x 0 (omega arith))
sum-zero x e U32 n h = chained-number x false Add refl e (num 0) U32 Int n 0 h (literal-number x 0 (omega arith))
sum-zero x e U64 n h = chained-number x false Add refl e (num 0) U64 Int n 0 h (literal-number x 0 (omega arith))

difference-zero : (x : Surroundings) (e : ExprTree) (ty : CTy) (n : ℕ) → IsNumber x e ty n → Calculates x (two Sub e (num 0)) ty (c_difference ty n 0)
difference-zero x e Int n h = chained-number x false Sub refl e (num 0) Int Int n 0 h (literal-number x 0 (omega arith))
difference-zero x e U32 n h = chained-number x false Sub refl e (num 0) U32 Int n 0 h (literal-number x 0 (omega arith))
difference-zero x e U64 n h = chained-number x false Sub refl e (num 0) U64 Int n 0 h (literal-number x 0 (omega arith))

abbrev IsSign : COp → Type 0
IsSign Add = ⊤
IsSign Sub = ⊤
IsSign op = ⊥

unmoved-number : (x : Surroundings) (sign : COp) → IsSign sign → (e : ExprTree) (ty : CTy) (n : ℕ) → IsNumber x e ty n → IsNumber x (unmoved sign e ty).code (unmoved sign e ty).ty n
unmoved-number x Add s e ty n h =
    let same : n + 0 ≡ n = omega arith in
    calculated-number x (two Add e (num 0)) ty (c_sum ty n 0) n (sum-zero x e ty n h)
    (c_sum-whole ty n 0 h.small (omega (arith, h.small)) (omega (arith, h.small)) ∙ ap Some same) h.small
unmoved-number x Sub s e ty n h =
    let same : n - 0 ≡ n = omega arith in
    calculated-number x (two Sub e (num 0)) ty (c_difference ty n 0) n (difference-zero x e ty n h)
    (c_difference-whole ty n 0 h.small (omega arith) ∙ ap Some same) h.small
unmoved-number x op s e ty n h = absurd s

unmoved_in-number : (x : Surroundings) (sign : COp) → IsSign sign → (a : Rated) (ty : CTy) (n : ℕ) → IsNumber x a.code a.ty n → IsNumber x (unmoved_in sign a ty).code (unmoved_in sign a ty).ty n
unmoved_in-number x sign s a ty n h = by (nat_lt (rank a.ty) (rank ty)) refl
  where
    by : (test : Bool) → nat_lt (rank a.ty) (rank ty) ≡ test
        → IsNumber x (if test then unmoved sign (cast (uint_of (c_width ty)) a.code) (calculated (c_width ty)) else unmoved sign a.code a.ty).code
        (if test then unmoved sign (cast (uint_of (c_width ty)) a.code) (calculated (c_width ty)) else unmoved sign a.code a.ty).ty n
    by true e =
        unmoved-number x sign s (cast (uint_of (c_width ty)) a.code) (calculated (c_width ty)) n
        (cast-number (c_width ty) (width-of_type ty) x a.code a.ty n h (in-wider a.ty ty n (grind (arith, nat_tests, e)) h.small))
    by false e = unmoved-number x sign s a.code a.ty n h

compared_with-number : (x : Surroundings) (sign : COp) → IsSign sign → (a b : Rated) (n : ℕ) → IsNumber x a.code a.ty n → IsNumber x (compared_with sign a b).code (compared_with sign a b).ty n
compared_with-number x sign s a b n h = by (is_decided a b)
  where
    by : (test : Bool) → IsNumber x (if test then unmoved_in sign a b.ty else beside a b.ty).code (if test then unmoved_in sign a b.ty else beside a b.ty).ty n
    by true = unmoved_in-number x sign s a b.ty n h
    by false = beside-number x a b.ty n h

pub left_compared-number : (x : Surroundings) (a b : Rated) (n : ℕ) → IsNumber x a.code a.ty n → IsNumber x (left_compared a b).code (left_compared a b).ty n
left_compared-number x a b n h = by (is_itself a.code b.code)
  where
    by : (test : Bool) → IsNumber x (if test then unmoved_in Add a b.ty else compared_with Add a b).code (if test then unmoved_in Add a b.ty else compared_with Add a b).ty n
    by true = unmoved_in-number x Add tt a b.ty n h
    by false = compared_with-number x Add tt a b n h

pub right_compared-number : (x : Surroundings) (b a : Rated) (n : ℕ) → IsNumber x b.code b.ty n → IsNumber x (right_compared b a).code (right_compared b a).ty n
right_compared-number x b a n h = compared_with-number x Sub tt b a n h

-- ---- trees

module _ (p : PackageTree) (m : MethodTree) (s : State) (x : Surroundings) (st : Stands p m s x) where
  abbrev pub context : Context
  context = record { within = p; method = m }

  abbrev pub names : Names
  names = names_of p m

  -- A number is the same in C. Where it fits a width it is in it, and its type is no wider than that in which C calculates
  -- with this width.
  pub record NumGives (t : NumTree) (n : ℕ) : Type 0 where
    pub is : IsNumber x (lowered names t).code (lowered names t).ty n
    pub fitting : (bits : ℕ) → is_width bits ≡ true → fits bits t ≡ true → (n < 2 ^ bits) × (rank (lowered names t).ty ≤ rank (calculated bits))

  -- A slice is the same in C. The pointer of a part of an array is never null.
  pub record SliceGives (t : SliceTree) (cells : Span) : Type 0 where
    pub at : CValue
    pub is_pointer : GivesPointer x (lowered_slice names t).pointer (element_type t).bits at
    pub counts : IsNumber x (lowered_slice names t).length.code (lowered_slice names t).length.ty cells.count
    pub stands : SpanStands s x (element_type t).bits cells at
    pub some : is_array t ≡ true → at ≡ null_pointer → ⊥
    pub width : is_width (element_type t).bits ≡ true

  number-gives : (at : Place) (n : ℕ) → nat_lt n (2 ^ 64) ≡ true → NumGives (number at n) n
  number-gives at n h = record {
    is = literal-number x n (grind (arith, nat_tests, h));
    fitting = λ bits w f. let k : n < 2 ^ bits = grind (arith, nat_tests, f) in (k, literal-rank bits n w k);
  }

  read-gives : (at : Place) (of : NumType) (path : Path) (n : ℕ) → (is_range of && is_number of (type_at context path)) ≡ true → s.number_at path ≡ Some n → NumGives (read at of path) n
  read-gives at of path n h e =
      let q = and_parts (is_range of) _ h in
      let w = (and_parts (is_width of.bits) _ q.0).0 in
      let g = st.numbers path of n q.1 e in
      record {
        is = record { gives = g.1; small = width-limit of.bits n w g.0 };
        fitting = λ bits v f. own-fitting of.bits n (rank (calculated of.bits)) g.0 (omega arith) bits f;
      }

  element-gives : (at : Place) (of : NumType) (cells : SliceTree) (index : NumTree) (xs : Span) (k n : ℕ) → same_num_type of (element_type cells) ≡ true
      → SliceGives cells xs → NumGives index k → element_of s xs k ≡ Some n → NumGives (element at of cells index) n
  element-gives at of cells index xs k n h c i e =
      let same = same-bits of (element_type cells) h in
      let r = c.stands.elements k n e in
      let it = element-number x (lowered_slice names cells).pointer (lowered names index).code (element_type cells).bits c.width c.at (lowered names index).ty k n c.is_pointer i.is r.1 r.0 in
      record {
        is = subst (λ b. IsNumber x (tree.element (lowered_slice names cells).pointer (lowered names index).code) (calculated b) n) same it;
        fitting = λ bits v f. own-fitting of.bits n (rank (calculated of.bits)) (subst (λ b. n < 2 ^ b) same r.0) (omega arith) bits f;
      }

  link-gives : (at sign : Place) (op : Arith) (bits : ℕ) (joined : Bool) (a b : NumTree) (k l n : ℕ) → is_width bits ≡ true → fits bits a ≡ true → (is_shift op || fits bits b) ≡ true
      → DeclaresOperator x op bits → NumGives a k → NumGives b l → applied op bits k l ≡ Some n → NumGives (link at sign op bits joined a b) n
  link-gives at sign op bits joined a b k l n w fa fb d g h e =
      let small = g.fitting bits w fa in
      let right : is_shift op ≡ false → (l < 2 ^ bits) × (rank (lowered names b).ty ≤ rank (calculated bits)) =
      λ no. elim (or_cases (is_shift op) (fits bits b) fb) [ inl yes_ ↦ absurd (cc (no, yes_)) | inr f ↦ h.fitting bits w f ] in
      record {
        is = linked-number bits w x joined (lowered names a) (lowered names b) k l g.is h.is small.0 small.1 op d right n e;
        fitting = λ own v f. own-fitting bits n (rank (calculated bits)) (applied-below op bits k l n w small.0 e) (omega arith) own f;
      }

  convert-gives : (at sign : Place) (bits : ℕ) (a : NumTree) (k n : ℕ) → is_width bits ≡ true → NumGives a k → fitted bits k ≡ Some n → NumGives (convert at sign bits a) n
  convert-gives at sign bits a k n w g e =
      let f = fitted-some bits k n e in
      let it = converted-number bits w x (lowered names a) n (subst (λ n. IsNumber x (lowered names a).code (lowered names a).ty n) f.0 g.is) f.1 in
      record { is = it.is; fitting = λ own v t. own-fitting bits n (rank (converted bits (lowered names a)).ty) f.1 it.narrow own t }

  length-gives : (at : Place) (cells : SliceTree) (xs : Span) (n : ℕ) → SliceGives cells xs → xs.count ≡ n → NumGives (length_of at cells) n
  length-gives at cells xs n c e =
      let few : n < 2 ^ 64 = omega (arith, e, c.stands.fits) in
      record {
        is = subst (λ n. IsNumber x (lowered_slice names cells).length.code (lowered_slice names cells).length.ty n) e c.counts;
        fitting = λ bits v f. own-fitting 64 n (rank (lowered_slice names cells).length.ty) few (rank-most (lowered_slice names cells).length.ty) bits f;
      }

  asked-is : (question : Question) (a n : ℕ) → DeclaresQuestion names s x question a → may_ask question (variable_at m.args a) ≡ true → option_and_then (told question) (io_buffer s a) ≡ Some n
      → IsAsked x (asked_code names a question) (question_width question) n
  asked-is question a n d h e = by (is_reader_question question) refl
    where
      asks-reader : (question : Question) (ty : Option Ty) → is_reader_question question ≡ true → may_ask question ty ≡ true → is_reader ty ≡ true
      asks-reader reader_length ty q h = h
      asks-reader reader_position ty q h = h
      asks-reader (peek form) ty q h = h
      asks-reader writer_length ty q h = absurd (cc q)
      asks-reader writer_position ty q h = absurd (cc q)

      asks-writer : (question : Question) (ty : Option Ty) → is_reader_question question ≡ false → may_ask question ty ≡ true → is_writer ty ≡ true
      asks-writer writer_length ty q h = h
      asks-writer writer_position ty q h = h
      asks-writer question ty q h = absurd (cc q)

      c : Came (told question) (io_buffer s a) n
      c = came (told question) (io_buffer s a) n e

      it : IsBuffer s a c.from
      it = buffer-some s a c.from c.is

      by : (test : Bool) → is_reader_question question ≡ test → IsAsked x (asked_code names a question) (question_width question) n
      by true q =
          let bs = st.buffers a it.number types.Reader c.from (reader-type (variable_at m.args a) (asks-reader question (variable_at m.args a) q h)) it.named it.at in
          reader-asked names s x a c.from c.is bs.0 question d bs.1 q n c.gives
      by false q =
          let bs = st.buffers a it.number types.Writer c.from (writer-type (variable_at m.args a) (asks-writer question (variable_at m.args a) q h)) it.named it.at in
          writer-asked names s x a c.from c.is bs.0 question d bs.1 q n c.gives

  asked-gives : (at : Place) (question : Question) (a n : ℕ) → DeclaresQuestion names s x question a → may_ask question (type_at context (arg a)) ≡ true → option_and_then (told question) (io_buffer s a) ≡ Some n
      → NumGives (asked at question a) n
  asked-gives at question a n d h e =
      let it = asked-is question a n d h e in
      record { is = it.is; fitting = λ bits v f. own-fitting (question_width question) n (rank (asked_code names a question).ty) it.few it.narrow bits f }

  pair-gives : (at : Place) (bits : ℕ) (path : Path) (cells : Span) → is_slice bits (type_at context path) ≡ true → s.span_at path ≡ Some cells → SliceGives (slice at bits path) cells
  pair-gives at bits (local k) cells h e =
      let g = st.slices (local k) bits cells h e in
      record { at = g.at; is_pointer = g.is_pointer; counts = record { gives = g.counts; small = g.stands.fits }; stands = g.stands; some = λ no. absurd (cc no); width = slice-width bits (type_at context (local k)) h }
  pair-gives at bits (arg k) cells h e =
      let g = st.slices (arg k) bits cells h e in
      record { at = g.at; is_pointer = g.is_pointer; counts = record { gives = g.counts; small = g.stands.fits }; stands = g.stands; some = λ no. absurd (cc no); width = slice-width bits (type_at context (arg k)) h }
  pair-gives at bits (field k) cells h e = let g = st.slices (field k) bits cells h e in absurd (cc (g.counts.type))

  array-gives : (at : Place) (of : NumType) (count : ℕ) (path : Path) (cells : Span) → (is_range of && well.is_array of count (type_at context path)) ≡ true → s.span_at path ≡ Some cells
      → SliceGives (array at of count path) cells
  array-gives at of count path cells h e =
      let q = and_parts (is_range of) _ h in
      let w = (and_parts (is_width of.bits) _ q.0).0 in
      let g = st.arrays path of count cells q.1 e in
      let counted : IsNumber x (num count) Int count = suffixed-number x Int count g.few in
      record {
        at = g.at;
        is_pointer = g.is_pointer;
        counts = subst (λ n. IsNumber x (num count) Int n) (sym g.counts) counted;
        stands = g.stands;
        some = λ _. g.some;
        width = w;
      }

  part-gives : (at : Place) (cells : SliceTree) (from to : EndTree) (xs part : Span) (i j : ℕ) → SliceGives cells xs → IsEnd x (lowered_end names from) 0 i → IsEnd x (lowered_end names to) xs.count j
      → part_of xs i j ≡ Some part → SliceGives (cut at cells from to) part
  part-gives at cells from to xs part i j c f t e =
      let q = part-some xs part i j e in
      let le : i ≤ xs.count = omega (arith, q.0, q.1.0) in
      let pointer = part_pointer-gives s x (element_type cells).bits xs (is_array cells) (lowered_slice names cells).pointer (lowered_end names from) c.at i c.is_pointer c.stands c.some f le in
      subst (λ part. SliceGives (cut at cells from to) part) q.1.1 (record {
        at = pointer.at;
        is_pointer = pointer.gives;
        counts = part_length-number x (lowered_slice names cells).length (lowered_end names from) (lowered_end names to) xs.count i j c.counts f t q.0;
        stands = part-stands s x (element_type cells).bits xs c.at pointer.at i j c.stands q.0 q.1.0 pointer.moved;
        some = λ h n. c.some h (pointer.moved.null n);
        width = c.width;
      })

  mutual
    pub numbers : (t : NumTree) (n : ℕ) → Declares names s x t → well_part context t ≡ true → value s t ≡ Some n → NumGives t n
    numbers (number at k) n u h e = let same : k ≡ n = cc e in subst (λ n. NumGives (number at k) n) same (number-gives at k h)
    numbers (read at of path) n u h e = read-gives at of path n h e
    numbers (element at of cells index) n u h e =
        let q = and_parts (same_num_type of (element_type cells)) _ h in
        let q' = and_parts (well_slice context cells) _ q.1 in
        let c = came (λ xs. option_and_then (element_of s xs) (value s index)) (span_of s cells) n e in
        let d = came (element_of s c.from) (value s index) n c.gives in
        element-gives at of cells index c.from d.from n q.0 (slices cells c.from u.0 q'.0 c.is) (numbers index d.from u.1 (and_parts (is_whole_number index) _ q'.1).1 d.is) d.gives
    numbers (link at sign op bits joined a b) n u h e =
        let q = and_parts (is_width bits) _ h in
        let q_1 = and_parts (fits bits a) _ q.1 in
        let q_2 = and_parts (is_shift op || fits bits b) _ q_1.1 in
        let q_3 = and_parts (not joined || continues op bits a) _ q_2.1 in
        let q_4 = and_parts (joined || is_whole_number a) _ q_3.1 in
        let q_5 = and_parts (well_part context a) _ q_4.1 in
        let c = came (λ m. option_and_then (applied op bits m) (value s b)) (value s a) n e in
        let d = came (applied op bits c.from) (value s b) n c.gives in
        link-gives at sign op bits joined a b c.from d.from n q.0 q_1.0 q_2.0 u.0 (numbers a c.from u.1.0 q_5.0 c.is) (numbers b d.from u.1.1 (and_parts (is_whole_number b) _ q_5.1).1 d.is) d.gives
    numbers (convert at sign bits a) n u h e =
        let q = and_parts (is_width bits) _ h in
        let c = came (fitted bits) (value s a) n e in
        convert-gives at sign bits a c.from n q.0 (numbers a c.from u (and_parts (is_whole_number a) _ q.1).1 c.is) c.gives
    numbers (length_of at cells) n u h e =
        let c = mapped (λ xs. xs.count) (span_of s cells) n e in
        length-gives at cells c.from n (slices cells c.from u h c.is) c.gives
    numbers (asked at question a) n u h e = asked-gives at question a n u h e

    pub slices : (t : SliceTree) (cells : Span) → DeclaresSlice names s x t → well_slice context t ≡ true → span_of s t ≡ Some cells → SliceGives t cells
    slices (slice at bits path) xs u h e = pair-gives at bits path xs h e
    slices (array at of count path) xs u h e = array-gives at of count path xs h e
    slices (cut at cells from to) xs u h e =
        let q = and_parts (is_unrefined (element_type cells)) _ h in
        let q_1 = and_parts (well_slice context cells) _ q.1 in
        let q_2 = and_parts (well_end context from) _ q_1.1 in
        let c = came (λ xs. option_and_then (λ i. option_and_then (part_of xs i) (end_value s xs.count to)) (end_value s 0 from)) (span_of s cells) xs e in
        let d = came (λ i. option_and_then (part_of c.from i) (end_value s c.from.count to)) (end_value s 0 from) xs c.gives in
        let f = came (part_of c.from d.from) (end_value s c.from.count to) xs d.gives in
        part-gives at cells from to c.from xs d.from f.from (slices cells c.from u.0 q_1.0 c.is) (ends from 0 d.from u.1.0 q_2.0 d.is) (ends to c.from.count f.from u.1.1 q_2.1 f.is) f.gives

    pub ends : (t : EndTree) (default n : ℕ) → DeclaresEnd names s x t → well_end context t ≡ true → end_value s default t ≡ Some n → IsEnd x (lowered_end names t) default n
    ends absent default n u h e = cc e
    ends (present t) default n u h e = (numbers t n u (and_parts (is_whole_number t) _ h).1 e).is

  -- All ones.
  ones-value : (bits : ℕ) (t : NumTree) (n : ℕ) → is_ones bits t ≡ true → value s t ≡ Some n → (bits ≤ 16) × (n ≡ 2 ^ bits - 1)
  ones-value bits (number at k) n h e =
      let q = and_parts (nat_le bits 16) _ h in
      let same : k ≡ n = cc e in
      (grind (arith, nat_tests, q.0), grind (arith, nat_tests, q.1, same))
  ones-value bits (read at of path) n h e = absurd (cc h)
  ones-value bits (element at of cells index) n h e = absurd (cc h)
  ones-value bits (link at sign op own joined a b) n h e = absurd (cc h)
  ones-value bits (convert at sign own a) n h e = absurd (cc h)
  ones-value bits (length_of at cells) n h e = absurd (cc h)
  ones-value bits (asked at question a) n h e = absurd (cc h)

  minus-fits : (bits m n : ℕ) → n ≤ m → m < 2 ^ bits → applied minus bits m n ≡ Some (m - n)
  minus-fits bits m n l f =
      let below : nat_le n m ≡ true = grind (arith, nat_tests, l) in
      let few : nat_lt (m - n) (2 ^ bits) ≡ true = grind (arith, nat_tests, f) in
      rw (below, few) refl

  round-ones : (bits l : ℕ) → is_width bits ≡ true → l < 2 ^ bits → (2 ^ bits - 1 + (2 ^ bits - l)) % 2 ^ bits ≡ 2 ^ bits - 1 - l
  round-ones bits l w =
      by_width (λ bits. l < 2 ^ bits → (2 ^ bits - 1 + (2 ^ bits - l)) % 2 ^ bits ≡ 2 ^ bits - 1 - l) bits w (λ j. omega (arith, j)) (λ j. omega (arith, j)) (λ j. omega (arith, j)) (λ j. omega (arith, j))

  -- With 0 added a number is the same.
  plus-none : (bits k : ℕ) → k < 2 ^ bits → applied plus bits k 0 ≡ Some k
  plus-none bits k f =
      let few : nat_lt (k + 0) (2 ^ bits) ≡ true = grind (arith, nat_tests, f) in
      let same : k + 0 ≡ k = omega arith in
      rw few (ap Some same)

  some-number : (bits : ℕ) → is_width bits ≡ true → 0 < 2 ^ bits
  some-number bits w = by_width (λ bits. 0 < 2 ^ bits) bits w (omega arith) (omega arith) (omega arith) (omega arith)

  operand-number : (bits : ℕ) (a : NumTree) (k : ℕ) (test : Bool) → is_width bits ≡ true → fits bits a ≡ true → NumGives a k
      → IsNumber x (if test then with_zero bits (lowered names a) else lowered names a).code (if test then with_zero bits (lowered names a) else lowered names a).ty k
      × (rank (if test then with_zero bits (lowered names a) else lowered names a).ty ≤ rank (calculated bits))
  operand-number bits a k true w f g =
      let small = g.fitting bits w f in
      let none : IsNumber x (num 0) Int 0 = literal-number x 0 (omega arith) in (
        linked-number bits w x false (lowered names a) (rated (num 0) Int) k 0 g.is none small.0 small.1 plus tt (λ _. (some-number bits w, omega arith)) k (plus-none bits k small.0),
        omega arith,
      )
  operand-number bits a k false w f g = (g.is, (g.fitting bits w f).1)

  -- Two numbers that are compared as one.
  pair-number : (at sign : Place) (op : Arith) (bits : ℕ) (a b : NumTree) (k l n : ℕ) → is_width bits ≡ true → fits bits a ≡ true → (is_shift op || fits bits b) ≡ true
      → DeclaresOperator x op bits → NumGives a k → NumGives b l → value s a ≡ Some k → value s b ≡ Some l → applied op bits k l ≡ Some n
      → IsNumber x (pair_compared names op bits a b).code (pair_compared names op bits a b).ty n
  pair-number at sign bits_xor bits a b k l n w fa fb d g h p q e = by (is_ones bits b) (is_ones bits a) refl refl
    where
      f : (bit_xor k l ≡ n) × (n < 2 ^ bits)
      f = fitted-some bits (bit_xor k l) n e

      left : k < 2 ^ bits
      left = (g.fitting bits w fa).0

      right : l < 2 ^ bits
      right = (h.fitting bits w fb).0

      by : (other one : Bool) → is_ones bits b ≡ other → is_ones bits a ≡ one
          → IsNumber x (if other then apart minus bits (lowered names b) (lowered names a) else if one then apart minus bits (lowered names a) (lowered names b) else apart bits_xor bits (xor_operand bits a (lowered names a) b) (xor_operand bits b (lowered names b) a)).code
          (if other then apart minus bits (lowered names b) (lowered names a) else if one then apart minus bits (lowered names a) (lowered names b) else apart bits_xor bits (xor_operand bits a (lowered names a) b) (xor_operand bits b (lowered names b) a)).ty n
      by true one u v =
          let is = ones-value bits b l u q in
          let same : l - k ≡ n = ap (λ l. l - k) is.1 ∙ sym (xor-ones bits k left) ∙ ap (bit_xor k) (sym is.1) ∙ f.0 in
          (link-gives at sign minus bits false b a l k n w fb fa tt h g (minus-fits bits l k (omega (arith, is.1, left)) right ∙ ap Some same)).is
      by false true u v =
          let is = ones-value bits a k v p in
          let same : k - l ≡ n = ap (λ k. k - l) is.1 ∙ sym (ones-xor bits l right) ∙ ap (λ k. bit_xor k l) (sym is.1) ∙ f.0 in
          (link-gives at sign minus bits false a b k l n w fa fb tt g h (minus-fits bits k l (omega (arith, is.1, right)) left ∙ ap Some same)).is
      by false false u v =
          let one = operand-number bits a k (is_short_ones bits b && is_converted a) w fa g in
          let other = operand-number bits b l (is_short_ones bits a && is_converted b) w fb h in
          linked-number bits w x false (xor_operand bits a (lowered names a) b) (xor_operand bits b (lowered names b) a) k l one.0 other.0 left one.1 bits_xor tt (λ _. (right, other.1)) n e
  pair-number at sign mod_minus bits a b k l n w fa fb d g h p q e = by (is_ones bits a) refl
    where
      left : k < 2 ^ bits
      left = (g.fitting bits w fa).0

      right : l < 2 ^ bits
      right = (h.fitting bits w fb).0

      by : (one : Bool) → is_ones bits a ≡ one → IsNumber x (if one then apart minus bits (lowered names a) (lowered names b) else apart mod_minus bits (lowered names a) (lowered names b)).code
          (if one then apart minus bits (lowered names a) (lowered names b) else apart mod_minus bits (lowered names a) (lowered names b)).ty n
      by true v =
          let is = ones-value bits a k v p in
          let come : (k + (2 ^ bits - l)) % 2 ^ bits ≡ n = cc e in
          let same : k - l ≡ n = ap (λ k. k - l) is.1 ∙ sym (round-ones bits l w right) ∙ ap (λ k. (k + (2 ^ bits - l)) % 2 ^ bits) (sym is.1) ∙ come in
          (link-gives at sign minus bits false a b k l n w fa fb tt g h (minus-fits bits k l (omega (arith, is.1, right)) left ∙ ap Some same)).is
      by false v = (link-gives at sign mod_minus bits false a b k l n w fa fb tt g h e).is
  pair-number at sign op bits a b k l n w fa fb d g h p q e = (link-gives at sign op bits false a b k l n w fa fb d g h e).is

  -- A number that is compared: what is converted has the same value.
  pub comparand-number : (t : NumTree) (n : ℕ) → Declares names s x t → well_part context t ≡ true → value s t ≡ Some n → IsNumber x (comparand names t).code (comparand names t).ty n
  comparand-number (convert at sign bits a) n u h e =
      let q = and_parts (is_width bits) _ h in
      let c = came (fitted bits) (value s a) n e in
      comparand-number a n u (and_parts (is_whole_number a) _ q.1).1 (c.is ∙ ap Some (fitted-some bits c.from n c.gives).0)
  comparand-number (link at sign op bits true a b) n u h e = (numbers (link at sign op bits true a b) n u h e).is
  comparand-number (link at sign op bits false a b) n u h e =
      let q = and_parts (is_width bits) _ h in
      let q_1 = and_parts (fits bits a) _ q.1 in
      let q_2 = and_parts (is_shift op || fits bits b) _ q_1.1 in
      let q_3 = and_parts (not false || continues op bits a) _ q_2.1 in
      let q_4 = and_parts (false || is_whole_number a) _ q_3.1 in
      let q_5 = and_parts (well_part context a) _ q_4.1 in
      let c = came (λ m. option_and_then (applied op bits m) (value s b)) (value s a) n e in
      let d = came (applied op bits c.from) (value s b) n c.gives in
      pair-number at sign op bits a b c.from d.from n q.0 q_1.0 q_2.0 u.0 (numbers a c.from u.1.0 q_5.0 c.is) (numbers b d.from u.1.1 (and_parts (is_whole_number b) _ q_5.1).1 d.is) c.is d.is d.gives
  comparand-number t n u h e = (numbers t n u h e).is

  bare-number : (t : NumTree) (n : ℕ) → Declares names s x t → well_part context t ≡ true → value s t ≡ Some n → IsNumber x (lowered names (bare t)).code (lowered names (bare t)).ty n
  bare-number (convert at sign bits a) n u h e =
      let q = and_parts (is_width bits) _ h in
      let c = came (fitted bits) (value s a) n e in
      bare-number a n u (and_parts (is_whole_number a) _ q.1).1 (c.is ∙ ap Some (fitted-some bits c.from n c.gives).0)
  bare-number t n u h e = (numbers t n u h e).is

  -- A number that is assigned: a conversion that C makes by itself stands for nothing.
  pub given-number : (t : NumTree) (n : ℕ) → Declares names s x t → well_part context t ≡ true → value s t ≡ Some n → (ty : CTy) × IsNumber x (given names t) ty n
  given-number (convert at sign bits a) n u h e =
      let q = and_parts (is_width bits) _ h in
      let c = came (fitted bits) (value s a) n e in
      let f = fitted-some bits c.from n c.gives in
      let it = bare-number a n u (and_parts (is_whole_number a) _ q.1).1 (c.is ∙ ap Some f.0) in
      taken-number bits q.0 x (lowered names (bare a)).code (lowered names (bare a)).ty n it f.1
  given-number (link at sign op bits joined a b) n u h e =
      let w = (and_parts (is_width bits) _ h).0 in
      let it = numbers (link at sign op bits joined a b) n u h e in
      taken-number bits w x (lowered names (link at sign op bits joined a b)).code (calculated bits) n it.is (it.fitting bits w (grind (arith, nat_tests))).0
  given-number t n u h e = ((lowered names t).ty, (numbers t n u h e).is)
