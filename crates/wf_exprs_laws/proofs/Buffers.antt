-- What is asked of a reader or a writer.
use Rattle.std.proofs.Common.{◌≡◌, ℕ, zero, suc, ◌+◌, ◌-◌, ◌*◌, ◌/◌, ◌^◌, ◌<◌, ◌≤◌, Bool, true, false, nat_eq, List, [], ◌∷◌, Option, Some, None, refl, sym, ap, ◌∙◌, subst, arith, length, take, drop, get_or, min}
use Rattle.std.specs.Prelude.{if◌then◌else◌, option_and_then, codes}
use Rattle.std.proofs.Math.Pow.{pow_mono}
use Rattle.std.proofs.lemmas.Nat.{mul-le, pow-add, pow_pos}
use Rattle.std.proofs.lemmas.List.{drop_more, take-take}
use Rattle.std.proofs.lemmas.Option.{slice_get-get_or}
use Rattle.std.proofs.lemmas.Bool.Decides.{nat_tests}
use Rattle.wf_num.specs.declared.c_arithmetic.CTy.{CTy}
use Rattle.wf_num.specs.declared.c_arithmetic.CTy.TheVariants.{Int, U32, U64}
use Rattle.wf_num.specs.CArithmetic.{c_width}
use Rattle.wf_num.proofs.CLaws.{c_limit, c_sum-whole, c_difference-whole, c_shifted_left-whole}
use Rattle.wf_base.specs.declared.base_methods.PeekForm.TheVariants.{PeekU8, PeekU16Le, PeekU32Le}
use Rattle.wf_base.specs.declared.widths.Width.{Width}
use Rattle.wf_base.specs.declared.widths.Width.TheVariants.{W8, W16, W32, W64}
use Rattle.wf_base.specs.BaseOps.{Buffer, capacity, IsLawful, little_endian, big_endian, taken}
use Rattle.wf_base.specs.BaseTable.{bits_of, bytes_of, can_peek, peek_value}
use Rattle.wf_ast.specs.declared.types.Ty.{Ty}
use Rattle.wf_ast.specs.declared.types.Ty.TheVariants as types
use Rattle.wf_ast.specs.TypedTree.{Question, reader_length, reader_position, peek, writer_length, writer_position}
use Rattle.wf_ast.specs.Value.{State, told, io_buffer}
use Rattle.wf_ast.specs.WellTyped.{is_reader, is_writer, question_width}
use Rattle.c_text.specs.declared.kinds.COp.TheVariants.{Add, Sub, Shl}
use Rattle.c_text.specs.CTree.{ExprTree, member, element, operation, cast, no_operand}
use Rattle.c_meaning.specs.CValues.{common}
use Rattle.c_meaning.specs.CExprs.{Surroundings}
use Rattle.wf_exprs.specs.Names.{Names}
use Rattle.wf_exprs.specs.Words.{literal, num, uint_of, two}
use Rattle.wf_exprs.specs.Exprs.{calculated, rank, Rated, rated, literal_type, io_code, place_code, end_code, bytes_code, there, peeked, raised, byte_at, byte_ahead, bytes_ahead, number_ahead, position_code, chained, with_operand, asked_code}
use Rattle.wf_exprs.proofs.ByteLaws.{more_bytes}
use Rattle.wf_exprs_laws.specs.AheadLaw.{IsAheadLaw, spelt}
use Rattle.wf_exprs_laws.specs.ExprLaw.{IsSum, DeclaresQuestion, GivesNumber, BufferStands, BytesStand}
use Rattle.wf_exprs_laws.proofs.CNumbers.{limit-left, limit-right}
use Rattle.wf_exprs_laws.proofs.Operands.{the-number, IsNumber, literal-number, cast-number, chained-number, calculated-number}
use Rattle.wf_exprs_laws.proofs.Links.{only-some, shift_left-calculates}
use Rattle.wf_exprs_laws.proofs.Pointers.{element-number}

-- ---- which buffer

pub record IsBuffer (s : State) (a : ℕ) (b : Buffer) : Type 0 where
  pub number : ℕ
  pub named : s.buffer_number a ≡ Some number
  pub at : s.buffer_at number ≡ Some b

pub buffer-some : (s : State) (a : ℕ) (b : Buffer) → io_buffer s a ≡ Some b → IsBuffer s a b
buffer-some s a b h = by (s.buffer_number a) refl h
  where
    by : (o : Option ℕ) → s.buffer_number a ≡ o → option_and_then s.buffer_at o ≡ Some b → IsBuffer s a b
    by None e k = absurd (cc k)
    by (Some n) e k = record { number = n; named = e; at = k }

-- Whether a reader is asked.
abbrev pub is_reader_question : Question → Bool
is_reader_question writer_length = false
is_reader_question writer_position = false
is_reader_question question = true

pub reader-type : (ty : Option Ty) → is_reader ty ≡ true → ty ≡ Some types.Reader
reader-type (Some types.Reader) h = refl
reader-type ty h = absurd (cc h)

pub writer-type : (ty : Option Ty) → is_writer ty ≡ true → ty ≡ Some types.Writer
writer-type (Some types.Writer) h = refl
writer-type ty h = absurd (cc h)

-- ---- lengths

there-number : (names : Names) (x : Surroundings) (a place end : ℕ) → GivesNumber x (place_code names a) U64 place → GivesNumber x (end_code names a) U64 end → place ≤ end → end < 2 ^ 64
    → IsNumber x (there names a) U64 (end - place)
there-number names x a place end p e le small =
    calculated-number x (there names a) U64 _ (end - place)
    (chained-number x false Sub refl (end_code names a) (place_code names a) U64 U64 end place (record { gives = e; small = small }) (record { gives = p; small = omega (arith, le, small) }))
    (c_difference-whole U64 end place small le) (omega (arith, small))

-- ---- bytes that are peeked

-- The byte with this number of all bytes of a buffer.
abbrev byte_of : Buffer → ℕ → ℕ
byte_of b k = get_or b.cells k 0

dropped : (cells : List ℕ) (i j : ℕ) → i < length cells → i + 1 ≡ j → drop i cells ≡ get_or cells i 0 ∷ drop j cells
dropped cells i j h e = subst (λ j. drop i cells ≡ get_or cells i 0 ∷ drop j cells) e (drop_more cells i 0 h)

first-byte : (cells : List ℕ) (i count : ℕ) → i < length cells → 1 ≤ count → take 1 (take count (drop i cells)) ≡ get_or cells i 0 ∷ []
first-byte cells i count h le = take-take 1 count (drop i cells) le ∙ rw (dropped cells i (i + 1) h refl) refl

two-bytes : (cells : List ℕ) (i count : ℕ) → i + 1 < length cells → 2 ≤ count → take 2 (take count (drop i cells)) ≡ get_or cells i 0 ∷ get_or cells (i + 1) 0 ∷ []
two-bytes cells i count h le =
    take-take 2 count (drop i cells) le ∙ rw (dropped cells i (i + 1) (omega (arith, h)) refl, dropped cells (i + 1) (i + 2) h (omega arith)) refl

four-bytes : (cells : List ℕ) (i count : ℕ) → i + 3 < length cells → 4 ≤ count
    → take 4 (take count (drop i cells)) ≡ get_or cells i 0 ∷ get_or cells (i + 1) 0 ∷ get_or cells (i + 2) 0 ∷ get_or cells (i + 3) 0 ∷ []
four-bytes cells i count h le =
    take-take 4 count (drop i cells) le ∙ rw (
      dropped cells i (i + 1) (omega (arith, h)) refl,
      dropped cells (i + 1) (i + 2) (omega (arith, h)) (omega arith),
      dropped cells (i + 2) (i + 3) (omega (arith, h)) (omega arith),
      dropped cells (i + 3) (i + 4) h (omega arith),
    ) refl

eight-bytes : (cells : List ℕ) (i count : ℕ) → i + 7 < length cells → 8 ≤ count
    → take 8 (take count (drop i cells))
    ≡ get_or cells i 0 ∷ get_or cells (i + 1) 0 ∷ get_or cells (i + 2) 0 ∷ get_or cells (i + 3) 0 ∷ get_or cells (i + 4) 0 ∷ get_or cells (i + 5) 0 ∷ get_or cells (i + 6) 0 ∷ get_or cells (i + 7) 0 ∷ []
eight-bytes cells i count h le =
    take-take 8 count (drop i cells) le ∙ rw (
      dropped cells i (i + 1) (omega (arith, h)) refl,
      dropped cells (i + 1) (i + 2) (omega (arith, h)) (omega arith),
      dropped cells (i + 2) (i + 3) (omega (arith, h)) (omega arith),
      dropped cells (i + 3) (i + 4) (omega (arith, h)) (omega arith),
      dropped cells (i + 4) (i + 5) (omega (arith, h)) (omega arith),
      dropped cells (i + 5) (i + 6) (omega (arith, h)) (omega arith),
      dropped cells (i + 6) (i + 7) (omega (arith, h)) (omega arith),
      dropped cells (i + 7) (i + 8) h (omega arith),
    ) refl

sum-number : (x : Surroundings) (joined : Bool) (e f : ExprTree) (ta tb : CTy) (m n : ℕ) → IsNumber x e ta m → IsNumber x f tb n → m + n < c_limit (common ta tb)
    → IsNumber x (chained joined Add e f) (common ta tb) (m + n)
sum-number x joined e f ta tb m n h g small =
    calculated-number x (chained joined Add e f) (common ta tb) _ (m + n) (chained-number x joined Add refl e f ta tb m n h g)
    (c_sum-whole (common ta tb) m n (limit-left ta tb m h.small) (limit-right ta tb n g.small) small) small

moved_up-number : (x : Surroundings) (e : ExprTree) (ty : CTy) (n k : ℕ) → IsNumber x e ty n → k < 2 ^ 64 → k < c_width ty → n * 2 ^ k < c_limit ty → IsNumber x (two Shl e (num k)) ty (n * 2 ^ k)
moved_up-number x e ty n k h few narrow small =
    calculated-number x (two Shl e (num k)) ty _ (n * 2 ^ k) (shift_left-calculates x e (num k) ty (literal_type (literal k)) n k h (literal-number x k few))
    (c_shifted_left-whole ty n k narrow h.small small) small

-- What is asked: a number of its width, in a type that isn't wider.
pub record IsAsked (x : Surroundings) (r : Rated) (bits n : ℕ) : Type 0 where
  pub is : IsNumber x r.code r.ty n
  pub few : n < 2 ^ bits
  pub narrow : rank r.ty ≤ rank (calculated bits)

module _ (names : Names) (x : Surroundings) (a : ℕ) (b : Buffer) (lawful : IsLawful b) (bs : BufferStands names x a types.Reader b) (bytes : BytesStand names x a b) where
  place-number : IsNumber x (place_code names a) U64 b.ri
  place-number = record { gives = bs.place; small = omega (arith, lawful.read, lawful.written, lawful.size) }

  byte-small : (k : ℕ) → k < length b.cells → byte_of b k < 2 ^ 8
  byte-small k h = lawful.bytes k 0 h

  byte-number : (index : ExprTree) (k : ℕ) → IsNumber x index U64 k → k < length b.cells → IsNumber x (element (bytes_code names a) index) Int (byte_of b k)
  byte-number index k h lt =
      element-number x (bytes_code names a) index 8 refl bytes.at U64 k (byte_of b k) bytes.is_pointer h (bytes.each k (byte_of b k) (slice_get-get_or b.cells k 0 lt)) (byte-small k lt)

  first-number : b.ri < length b.cells → IsNumber x (element (bytes_code names a) (place_code names a)) Int (byte_of b b.ri)
  first-number lt = byte-number (place_code names a) b.ri place-number lt

  later-number : (k : ℕ) → b.ri + k < length b.cells → IsNumber x (element (bytes_code names a) (two Add (place_code names a) (num k))) Int (byte_of b (b.ri + k))
  later-number k lt =
      let few : b.ri + k < 2 ^ 64 = omega (arith, lt, lawful.size) in
      byte-number (two Add (place_code names a) (num k)) (b.ri + k)
      (sum-number x false (place_code names a) (num k) U64 (literal_type (literal k)) b.ri k place-number (literal-number x k (omega (arith, few))) few) lt

  peek_byte-asked : 1 ≤ b.wi - b.ri → (n : ℕ) → peek_value PeekU8 b ≡ n → IsAsked x (asked_code names a (peek PeekU8)) 8 n
  peek_byte-asked le n e =
      let lt : b.ri < length b.cells = omega (arith, le, lawful.written) in
      let v : byte_of b b.ri ≡ n = omega (arith, ap little_endian (first-byte b.cells b.ri (b.wi - b.ri) lt le), e) in
      record { is = subst (λ n. IsNumber x (peeked names a 0) Int n) v (first-number lt); few = omega (arith, v, byte-small b.ri lt); narrow = omega arith }

  peeked-number : (k : ℕ) → b.ri + k < length b.cells → IsNumber x (peeked names a k) Int (byte_of b (b.ri + k))
  peeked-number zero lt =
      let same : b.ri ≡ b.ri + 0 = omega arith in
      subst (λ k. IsNumber x (peeked names a 0) Int (byte_of b k)) same (first-number (omega (arith, lt)))
  peeked-number (suc k) lt =
      let later : nat_eq (suc k) 0 ≡ false = grind (arith, nat_tests) in
      rw later (later-number (suc k) lt)

  -- A byte moved up in the type in which C calculates.
  moved-limit : (n k most : ℕ) → n < 2 ^ 8 → k ≤ most → n * 2 ^ k < 2 ^ 8 * 2 ^ most
  moved-limit n k most small le =
      let p : 2 ^ k ≤ 2 ^ most = pow_mono le in
      let i : n ≤ 2 ^ 8 - 1 = omega (arith, small) in
      omega (arith, mul-le n (2 ^ k) (2 ^ 8 - 1) (2 ^ most) i p, pow_pos most)

  raised-number : (width : Width) (e : ExprTree) (n k : ℕ) → 8 * k + 8 ≤ bits_of width → IsNumber x e Int n → n < 2 ^ 8 → IsNumber x (raised (bits_of width) k e) (calculated (bits_of width)) (n * 2 ^ (8 * k))
  raised-number W8 e n k le h small = moved_up-number x e Int n (8 * k) h (omega (arith, le)) (omega (arith, le)) (omega (arith, moved-limit n (8 * k) 0 small (omega (arith, le))))
  raised-number W16 e n k le h small = moved_up-number x e Int n (8 * k) h (omega (arith, le)) (omega (arith, le)) (omega (arith, moved-limit n (8 * k) 8 small (omega (arith, le))))
  raised-number W32 e n k le h small =
      moved_up-number x (cast (uint_of 32) e) U32 n (8 * k) (cast-number 32 refl x e Int n h (omega (arith, small))) (omega (arith, le)) (omega (arith, le)) (omega (arith, moved-limit n (8 * k) 24 small (omega (arith, le))))
  raised-number W64 e n k le h small =
      moved_up-number x (cast (uint_of 64) e) U64 n (8 * k) (cast-number 64 refl x e Int n h (omega (arith, small))) (omega (arith, le)) (omega (arith, le)) (omega (arith, moved-limit n (8 * k) 56 small (omega (arith, le))))

  width-holds : (width : Width) → 2 ^ bits_of width ≤ c_limit (calculated (bits_of width))
  width-holds W8 = omega arith
  width-holds W16 = omega arith
  width-holds W32 = omega arith
  width-holds W64 = omega arith

  common-first : (ty : CTy) → common Int ty ≡ ty
  common-first Int = refl
  common-first U32 = refl
  common-first U64 = refl

  common-both : (ty : CTy) → common ty ty ≡ ty
  common-both Int = refl
  common-both U32 = refl
  common-both U64 = refl

  -- The number that the next bytes spell, byte by byte from the lowest up.
  module _ (width : Width) (big : Bool) (le : bits_of width / 8 ≤ b.wi - b.ri) where
    abbrev bits : ℕ
    bits = bits_of width

    abbrev ty : CTy
    ty = calculated bits

    abbrev place : ℕ → ℕ
    place k = byte_at bits big k

    abbrev lowest : ExprTree
    lowest = peeked names a (place 0)

    abbrev second : ExprTree
    second = byte_ahead names a bits big 1

    abbrev bytes_up_to : (k : ℕ) → ℕ
    bytes_up_to zero = 0
    bytes_up_to (suc k) = bytes_up_to k + byte_of b (b.ri + place k) * 2 ^ (8 * k)

    place-within : (k : ℕ) → k < bits / 8 → b.ri + place k < length b.cells
    place-within k lt = by big
      where
        by : (up : Bool) → b.ri + byte_at bits up k < length b.cells
        by true = omega (arith, lt, le, lawful.written)
        by false = omega (arith, lt, le, lawful.written)

    place-small : (k : ℕ) → k < bits / 8 → byte_of b (b.ri + place k) < 2 ^ 8
    place-small k lt = byte-small (b.ri + place k) (place-within k lt)

    byte-moved : (k : ℕ) → k < bits / 8 → IsNumber x (byte_ahead names a bits big k) ty (byte_of b (b.ri + place k) * 2 ^ (8 * k))
    byte-moved k lt = raised-number width (peeked names a (place k)) (byte_of b (b.ri + place k)) k (omega (arith, lt)) (peeked-number (place k) (place-within k lt)) (place-small k lt)

    up_to-small : (k : ℕ) → k ≤ bits / 8 → bytes_up_to k < 2 ^ (8 * k)
    up_to-small zero h = omega arith
    up_to-small (suc k) h =
        let byte : byte_of b (b.ri + place k) ≤ 2 ^ 8 - 1 = omega (arith, place-small k (omega (arith, h))) in
        let most = mul-le (byte_of b (b.ri + place k)) (2 ^ (8 * k)) (2 ^ 8 - 1) (2 ^ (8 * k)) byte (omega arith) in
        let next : 2 ^ (8 + 8 * k) ≡ 2 ^ 8 * 2 ^ (8 * k) = pow-add 2 8 (8 * k) in
        let same : 8 + 8 * k ≡ 8 * suc k = omega arith in
        subst (λ e. bytes_up_to (suc k) < 2 ^ e) same (omega (arith, up_to-small k (omega (arith, h)), most, next))

    up_to-fits : (k : ℕ) → k ≤ bits / 8 → bytes_up_to k < c_limit ty
    up_to-fits k h =
        let few : 2 ^ (8 * k) ≤ 2 ^ bits = pow_mono (omega (arith, h)) in
        omega (arith, up_to-small k h, few, width-holds width)

    bytes-number : (n k : ℕ) → k ≡ 2 + n → k ≤ bits / 8 → IsNumber x (operation Add lowest second (bytes_ahead names a bits big 2 n)) ty (bytes_up_to k)
    bytes-number zero k e h =
        let two_there : 2 ≤ bits / 8 = omega (arith, e, h) in
        let m = byte_of b (b.ri + place 0) in
        let n = byte_of b (b.ri + place 1) * 2 ^ 8 in
        let fits = up_to-fits 2 two_there in
        let type = common-first ty in
        let value : m + n ≡ bytes_up_to 2 = omega arith in
        let small : m + n < c_limit (common Int ty) = subst (λ t. m + n < c_limit t) (sym type) (omega (arith, fits, value)) in
        let both = sum-number x false lowest second Int ty m n (peeked-number (place 0) (place-within 0 (omega (arith, two_there)))) (byte-moved 1 (omega (arith, two_there))) small in
        let number : 2 ≡ k = omega (arith, e) in
        subst (λ k. IsNumber x (operation Add lowest second no_operand) ty (bytes_up_to k)) number
        (subst (λ v. IsNumber x (operation Add lowest second no_operand) ty v) value (subst (λ t. IsNumber x (operation Add lowest second no_operand) t (m + n)) type both))
    bytes-number (suc n) k e h =
        let j = 2 + n in
        let within : j < bits / 8 = omega (arith, e, h) in
        let fits = up_to-fits (suc j) (omega (arith, within)) in
        let type = common-both ty in
        let small : bytes_up_to j + byte_of b (b.ri + place j) * 2 ^ (8 * j) < c_limit (common ty ty) = subst (λ t. bytes_up_to (suc j) < c_limit t) (sym type) fits in
        let all = sum-number x true (operation Add lowest second (bytes_ahead names a bits big 2 n)) (byte_ahead names a bits big j) ty ty (bytes_up_to j) (byte_of b (b.ri + place j) * 2 ^ (8 * j))
        (bytes-number n j refl (omega (arith, within))) (byte-moved j within) small in
        let number : suc j ≡ k = omega (arith, e) in
        subst (λ k. IsNumber x (operation Add lowest second (bytes_ahead names a bits big 2 (suc n))) ty (bytes_up_to k)) number
        (subst (λ es. IsNumber x (operation Add lowest second es) ty (bytes_up_to (suc j))) (more_bytes names a bits big 2 n j refl)
        (subst (λ t. IsNumber x (operation Add lowest second (with_operand (bytes_ahead names a bits big 2 n) (byte_ahead names a bits big j))) t (bytes_up_to (suc j))) type all))

    ahead-number : 2 ≤ bits / 8 → IsNumber x (number_ahead names a bits big) ty (bytes_up_to (bits / 8))
    ahead-number h = bytes-number (bits / 8 - 2) (bits / 8) (omega (arith, h)) (omega arith)

    up_to-few : bytes_up_to (bits / 8) < 2 ^ bits
    up_to-few =
        let few : 2 ^ (8 * (bits / 8)) ≤ 2 ^ bits = pow_mono (omega arith) in
        omega (arith, up_to-small (bits / 8) (omega arith), few)

  first-place : byte_of b (b.ri + 0) ≡ byte_of b b.ri
  first-place = let same : b.ri + 0 ≡ b.ri = omega arith in ap (byte_of b) same

  ahead-spelt : (width : Width) (big : Bool) (le : bits_of width / 8 ≤ b.wi - b.ri) → 8 < bits_of width → bytes_up_to width big le (bits_of width / 8) ≡ spelt big (taken (bytes_of width) b)
  ahead-spelt W8 big le h = absurd (omega (arith, h))
  ahead-spelt W16 false le h = omega (arith, first-place, ap little_endian (two-bytes b.cells b.ri (b.wi - b.ri) (omega (arith, le, lawful.written)) le))
  ahead-spelt W16 true le h = omega (arith, first-place, ap big_endian (two-bytes b.cells b.ri (b.wi - b.ri) (omega (arith, le, lawful.written)) le))
  ahead-spelt W32 false le h = omega (arith, first-place, ap little_endian (four-bytes b.cells b.ri (b.wi - b.ri) (omega (arith, le, lawful.written)) le))
  ahead-spelt W32 true le h = omega (arith, first-place, ap big_endian (four-bytes b.cells b.ri (b.wi - b.ri) (omega (arith, le, lawful.written)) le))
  ahead-spelt W64 false le h = omega (arith, first-place, ap little_endian (eight-bytes b.cells b.ri (b.wi - b.ri) (omega (arith, le, lawful.written)) le))
  ahead-spelt W64 true le h = omega (arith, first-place, ap big_endian (eight-bytes b.cells b.ri (b.wi - b.ri) (omega (arith, le, lawful.written)) le))

  peek_half-asked : 2 ≤ b.wi - b.ri → (n : ℕ) → peek_value PeekU16Le b ≡ n → IsAsked x (asked_code names a (peek PeekU16Le)) 16 n
  peek_half-asked le n e =
      let v : bytes_up_to W16 false le 2 ≡ n = ahead-spelt W16 false le (omega arith) ∙ e in
      record { is = subst (λ n. IsNumber x (number_ahead names a 16 false) Int n) v (ahead-number W16 false le (omega arith)); few = omega (arith, v, up_to-few W16 false le); narrow = omega arith }

  peek_word-asked : 4 ≤ b.wi - b.ri → (n : ℕ) → peek_value PeekU32Le b ≡ n → IsAsked x (asked_code names a (peek PeekU32Le)) 32 n
  peek_word-asked le n e =
      let v : bytes_up_to W32 false le 4 ≡ n = ahead-spelt W32 false le (omega arith) ∙ e in
      record { is = subst (λ n. IsNumber x (number_ahead names a 32 false) U32 n) v (ahead-number W32 false le (omega arith)); few = omega (arith, v, up_to-few W32 false le); narrow = omega arith }

-- ---- all questions

module _ (names : Names) (s : State) (x : Surroundings) (a : ℕ) (b : Buffer) (here : io_buffer s a ≡ Some b) (lawful : IsLawful b) where
  position-asked : IsSum x 64 → (place : ℕ) → place < 2 ^ 64 → GivesNumber x (place_code names a) U64 place → GivesNumber x (member (io_code names a) (codes "pos")) U64 b.pos
      → IsAsked x (rated (position_code names a) U64) 64 (min (b.pos + place) (2 ^ 64 - 1))
  position-asked sums place small p e =
      let few : min (b.pos + place) (2 ^ 64 - 1) < 2 ^ 64 = omega arith in
      record {
        is = record {
          gives = sums (member (io_code names a) (codes "pos")) (place_code names a) U64 U64 b.pos place refl lawful.counted small
              (the-number x (member (io_code names a) (codes "pos")) U64 b.pos (record { gives = e; small = lawful.counted })) (the-number x (place_code names a) U64 place (record { gives = p; small = small }));
          small = few;
        };
        few = few;
        narrow = omega arith;
      }

  room : (closed : Bool) → GivesNumber x (place_code names a) U64 b.wi → GivesNumber x (end_code names a) U64 (if closed then b.wi else capacity b)
      → IsNumber x (there names a) U64 (if closed then 0 else capacity b - b.wi)
  room true p e =
      let zero : b.wi - b.wi ≡ 0 = omega arith in
      subst (λ n. IsNumber x (there names a) U64 n) zero (there-number names x a b.wi b.wi p e (omega arith) (omega (arith, lawful.written, lawful.size)))
  room false p e = there-number names x a b.wi (capacity b) p e lawful.written lawful.size

  room-few : (closed : Bool) → (if closed then 0 else capacity b - b.wi) < 2 ^ 64
  room-few true = omega arith
  room-few false = omega (arith, lawful.size)

  pub reader-asked : (question : Question) → DeclaresQuestion names s x question a → BufferStands names x a types.Reader b → is_reader_question question ≡ true → (n : ℕ) → told question b ≡ Some n
      → IsAsked x (asked_code names a question) (question_width question) n
  reader-asked reader_length d bs q n e =
      let v : b.wi - b.ri ≡ n = cc e in
      let few : b.wi < 2 ^ 64 = omega (arith, lawful.written, lawful.size) in
      record { is = subst (λ n. IsNumber x (there names a) U64 n) v (there-number names x a b.ri b.wi bs.place bs.end lawful.read few); few = omega (arith, v, few); narrow = omega arith }
  reader-asked reader_position d bs q n e =
      let v : min (b.pos + b.ri) (2 ^ 64 - 1) ≡ n = cc e in
      subst (λ n. IsAsked x (rated (position_code names a) U64) 64 n) v (position-asked d b.ri (omega (arith, lawful.read, lawful.written, lawful.size)) bs.place bs.position)
  reader-asked (peek PeekU8) d bs q n e =
      let o = only-some (can_peek PeekU8 b) (Some (peek_value PeekU8 b)) n e in
      let le : 1 ≤ b.wi - b.ri = grind (arith, nat_tests, o.0) in
      let v : peek_value PeekU8 b ≡ n = cc (o.1) in peek_byte-asked names x a b lawful bs (d b here) le n v
  reader-asked (peek PeekU16Le) d bs q n e =
      let o = only-some (can_peek PeekU16Le b) (Some (peek_value PeekU16Le b)) n e in
      let le : 2 ≤ b.wi - b.ri = grind (arith, nat_tests, o.0) in
      let v : peek_value PeekU16Le b ≡ n = cc (o.1) in peek_half-asked names x a b lawful bs (d b here) le n v
  reader-asked (peek PeekU32Le) d bs q n e =
      let o = only-some (can_peek PeekU32Le b) (Some (peek_value PeekU32Le b)) n e in
      let le : 4 ≤ b.wi - b.ri = grind (arith, nat_tests, o.0) in
      let v : peek_value PeekU32Le b ≡ n = cc (o.1) in peek_word-asked names x a b lawful bs (d b here) le n v
  reader-asked writer_length d bs q n e = absurd (cc q)
  reader-asked writer_position d bs q n e = absurd (cc q)

  pub writer-asked : (question : Question) → DeclaresQuestion names s x question a → BufferStands names x a types.Writer b → is_reader_question question ≡ false → (n : ℕ) → told question b ≡ Some n
      → IsAsked x (asked_code names a question) (question_width question) n
  writer-asked writer_length d bs q n e =
      let v : (if b.closed then 0 else capacity b - b.wi) ≡ n = cc e in
      record { is = subst (λ n. IsNumber x (there names a) U64 n) v (room b.closed bs.place bs.end); few = subst (λ n. n < 2 ^ 64) v (room-few b.closed); narrow = omega arith }
  writer-asked writer_position d bs q n e =
      let v : min (b.pos + b.wi) (2 ^ 64 - 1) ≡ n = cc e in
      subst (λ n. IsAsked x (rated (position_code names a) U64) 64 n) v (position-asked d b.wi (omega (arith, lawful.written, lawful.size)) bs.place bs.position)
  writer-asked reader_length d bs q n e = absurd (cc q)
  writer-asked reader_position d bs q n e = absurd (cc q)
  writer-asked (peek form) d bs q n e = absurd (cc q)

-- A number whose bytes are all there.
pub ahead_law : IsAheadLaw
ahead_law names x a b width big lawful bs bytes h le =
    let there : bits_of width / 8 ≤ b.wi - b.ri = all-there width le in
    let number = ahead-number names x a b lawful bs bytes width big there (two-at-least width h) in
    let few = up_to-few names x a b lawful bs bytes width big there in
    let P : ℕ → Type 0 = λ n. GivesNumber x (number_ahead names a (bits_of width) big) (calculated (bits_of width)) n × (n < 2 ^ bits_of width) in
    subst P (ahead-spelt names x a b lawful bs bytes width big there h) (number.gives, few)
  where
    all-there : (width : Width) → bytes_of width ≤ b.wi - b.ri → bits_of width / 8 ≤ b.wi - b.ri
    all-there W8 h = h
    all-there W16 h = h
    all-there W32 h = h
    all-there W64 h = h

    two-at-least : (width : Width) → 8 < bits_of width → 2 ≤ bits_of width / 8
    two-at-least W8 h = absurd (omega (arith, h))
    two-at-least W16 h = omega arith
    two-at-least W32 h = omega arith
    two-at-least W64 h = omega arith
