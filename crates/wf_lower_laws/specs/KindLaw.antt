-- What kind of value each expression of a text has in a scope: a number, a pointer to numbers, or a pointer to a string.
use Rattle.std.specs.Prelude.{◌≡◌, ◌⊎◌, ℕ, Bool, true, false, ◌&&◌, Some, codes}
use Rattle.wf_num.specs.declared.c_arithmetic.CTy.{CTy}
use Rattle.wf_ast.specs.TypedTree.{Path, arg, NumType, Arith, sat_plus, sat_minus, Question, reader_position, writer_position, peek, NumTree, number, read, element, link, convert, length_of, asked, SliceTree, slice, array, cut, EndTree, absent, present, StatusTree, status, CondTree, truth, flag, compare, same_status, junction, negation, closed, has_category}
use Rattle.wf_ast.specs.WellTyped.{Context, type_at, is_number, is_array, is_slice, is_flag, is_status, is_reader, is_writer, element_type, well_part, well_slice, well_status, well_cond}
use Rattle.c_text.specs.CTree.{ExprTree, member}
use Rattle.c_meaning.specs.CTypes.{CScope, ExprType, points_to, cell, byte, as_number, type_of}
use Rattle.wf_exprs.specs.Names.{Names}
use Rattle.wf_exprs.specs.Words.{num, uint_of}
use Rattle.wf_exprs.specs.Exprs.{path_code, path_pair, io_code, place_code, end_code, bytes_code, saturated, status_constant, lowered, lowered_slice, lowered_status, lowered_cond}

-- A number of C.
pub record IsNum (s : CScope) (e : ExprTree) : Type 0 where
  pub type : ExprType
  pub is : type_of s e ≡ Some type
  pub ty : CTy
  pub counts : as_number type ≡ Some ty

-- A pointer to numbers of so many bits.
abbrev pub IsPointer : CScope → (bits : ℕ) → ExprTree → Type 0
IsPointer s bits e = type_of s e ≡ Some (points_to (cell (uint_of bits)))

-- A status: the literal 0, or a pointer to its text.
abbrev pub IsText : CScope → ExprTree → Type 0
IsText s e = (e ≡ num 0) ⊎ (type_of s e ≡ Some (points_to byte))

-- A reader or writer, with its place and end.
pub record IsBuffer (s : CScope) (names : Names) (a : ℕ) : Type 0 where
  pub place : IsNum s (place_code names a)
  pub end : IsNum s (end_code names a)
  pub position : IsNum s (member (io_code names a) (codes "pos"))
  pub closed : IsNum s (member (io_code names a) (codes "closed"))

-- The scope declares what a method's paths name, each as its type is in C. `has` tells which functions of saturating operators it
-- has, `knows` which statuses, and `reads` for which readers it has the pointer to their bytes: a body has it only where its code
-- reads these.
pub record Declares (s : CScope) (c : Context) (names : Names) (has : (sum : Bool) → (bits : ℕ) → Bool) (knows : (status : ℕ) → Bool) (reads : (io_arg : ℕ) → Bool) : Type 0 where
  pub numbers : (of : NumType) (path : Path) → is_number of (type_at c path) ≡ true → IsNum s (path_code names path)
  pub flags : (path : Path) → is_flag (type_at c path) ≡ true → IsNum s (path_code names path)
  pub statuses : (path : Path) → is_status (type_at c path) ≡ true → type_of s (path_code names path) ≡ Some (points_to byte)
  pub slices : (bits : ℕ) (path : Path) → is_slice bits (type_at c path) ≡ true → IsPointer s bits (path_pair names path).pointer × IsNum s (path_pair names path).length.code
  pub arrays : (of : NumType) (count : ℕ) (path : Path) → is_array of count (type_at c path) ≡ true → IsPointer s of.bits (path_code names path)
  pub readers : (a : ℕ) → is_reader (type_at c (arg a)) ≡ true → IsBuffer s names a
  pub writers : (a : ℕ) → is_writer (type_at c (arg a)) ≡ true → IsBuffer s names a
  pub bytes : (a : ℕ) → is_reader (type_at c (arg a)) ≡ true → reads a ≡ true → IsPointer s 8 (bytes_code names a)
  pub constants : (n : ℕ) → knows n ≡ true → IsText s (status_constant n)
  pub calls : (sum : Bool) (bits : ℕ) (x y : ExprTree) → has sum bits ≡ true → IsNum s x → IsNum s y → IsNum s (saturated sum bits x y)

-- All that an expression uses of such functions, statuses and pointers is there.
abbrev pub has_op : (has : (sum : Bool) → (bits : ℕ) → Bool) → Arith → ℕ → Bool
has_op has sat_plus bits = has true bits
has_op has sat_minus bits = has false bits
has_op has op bits = true

abbrev pub has_question : (has : (sum : Bool) → (bits : ℕ) → Bool) → (reads : (io_arg : ℕ) → Bool) → Question → (a : ℕ) → Bool
has_question has reads reader_position a = has true 64
has_question has reads writer_position a = has true 64
has_question has reads (peek form) a = reads a
has_question has reads question a = true

abbrev mutual
  pub num_served : (has : (sum : Bool) → (bits : ℕ) → Bool) → (reads : (io_arg : ℕ) → Bool) → NumTree → Bool
  num_served has reads (number at n) = true
  num_served has reads (read at of path) = true
  num_served has reads (element at of cells index) = slice_served has reads cells && num_served has reads index
  num_served has reads (link at sign op bits joined a b) = has_op has op bits && (num_served has reads a && num_served has reads b)
  num_served has reads (convert at sign bits a) = num_served has reads a
  num_served has reads (length_of at cells) = slice_served has reads cells
  num_served has reads (asked at question a) = has_question has reads question a

  pub slice_served : (has : (sum : Bool) → (bits : ℕ) → Bool) → (reads : (io_arg : ℕ) → Bool) → SliceTree → Bool
  slice_served has reads (slice at bits path) = true
  slice_served has reads (array at of count path) = true
  slice_served has reads (cut at cells from to) = slice_served has reads cells && (end_served has reads from && end_served has reads to)

  pub end_served : (has : (sum : Bool) → (bits : ℕ) → Bool) → (reads : (io_arg : ℕ) → Bool) → EndTree → Bool
  end_served has reads absent = true
  end_served has reads (present e) = num_served has reads e

abbrev pub status_served : (knows : (status : ℕ) → Bool) → StatusTree → Bool
status_served knows (status at n) = knows n
status_served knows t = true

abbrev pub cond_served : (has : (sum : Bool) → (bits : ℕ) → Bool) → (knows : (status : ℕ) → Bool) → (reads : (io_arg : ℕ) → Bool) → CondTree → Bool
cond_served has knows reads (truth at b) = true
cond_served has knows reads (flag at path) = true
cond_served has knows reads (compare at sign a op b) = num_served has reads a && num_served has reads b
cond_served has knows reads (same_status at sign a one b) = status_served knows a && status_served knows b
cond_served has knows reads (junction at both joined a b) = cond_served has knows reads a && cond_served has knows reads b
cond_served has knows reads (negation at a) = cond_served has knows reads a
cond_served has knows reads (closed at a) = true
cond_served has knows reads (has_category at t category) = status_served knows t

-- Then each expression that keeps the rules of types has its kind.
pub record KeepKinds (s : CScope) (c : Context) (names : Names) (has : (sum : Bool) → (bits : ℕ) → Bool) (knows : (status : ℕ) → Bool) (reads : (io_arg : ℕ) → Bool) : Type 0 where
  pub numbers : (t : NumTree) → well_part c t ≡ true → num_served has reads t ≡ true → IsNum s (lowered names t).code
  pub slices : (t : SliceTree) → well_slice c t ≡ true → slice_served has reads t ≡ true → IsPointer s (element_type t).bits (lowered_slice names t).pointer × IsNum s (lowered_slice names t).length.code
  pub statuses : (t : StatusTree) → well_status c t ≡ true → status_served knows t ≡ true → IsText s (lowered_status names t)
  pub conditions : (t : CondTree) → well_cond c t ≡ true → cond_served has knows reads t ≡ true → IsNum s (lowered_cond names t)

abbrev pub ExpressionsKeepKinds : Type 0
ExpressionsKeepKinds =
    (s : CScope) (c : Context) (names : Names) (has : (sum : Bool) → (bits : ℕ) → Bool) (knows : (status : ℕ) → Bool) (reads : (io_arg : ℕ) → Bool) → Declares s c names has knows reads
    → KeepKinds s c names has knows reads
