-- The law of expressions: where locals, fields and arguments stand in C's memory for what the source has, and what an expression
-- uses is declared, an expression of the source that isn't stuck has the same value in C, and no undefined step is taken.
use Rattle.std.specs.Prelude.{ℕ, zero, suc, ◌≡◌, ◌<◌, ◌≤◌, ◌+◌, ◌-◌, ◌^◌, min, Bool, true, false, if◌then◌else◌, Option, None, Some, option_and_then, is_some, slice_get, List, [], codes, pos}
use Rattle.wf_text.specs.StatusText.{category_of}
use Rattle.wf_text.specs.declared.categories.Category.TheVariants.{Fine}
use Rattle.wf_num.specs.declared.c_arithmetic.CTy.{CTy}
use Rattle.wf_num.specs.declared.c_arithmetic.CTy.TheVariants.{Int, U64}
use Rattle.wf_num.specs.CArithmetic.{IsIn}
use Rattle.wf_base.specs.BaseOps.{Buffer, capacity, IsLawful}
use Rattle.wf_ast.specs.declared.types.Ty.{Ty}
use Rattle.wf_ast.specs.declared.types.Ty.TheVariants as types
use Rattle.wf_ast.specs.TypedTree.{Path, NumType, Arith, sat_plus, sat_minus, Question, reader_position, writer_position, peek, NumTree, SliceTree, EndTree, StatusTree, CondTree}
use Rattle.wf_ast.specs.TypedTree as tree
use Rattle.wf_ast.specs.TypedPackage.{MethodTree, PackageTree}
use Rattle.wf_ast.specs.Value.{Span, State, io_buffer, element_of, value, span_of, status_value, truth_of, same_category}
use Rattle.wf_ast.specs.WellTyped.{type_at, variable_at, is_width, is_number, is_array, is_slice, is_flag, is_status, well_part, well_slice, well_cond, well_status, element_type}
use Rattle.c_text.specs.CTree.{ExprTree, member, text}
use Rattle.c_meaning.specs.declared.cells.Cell.TheVariants.{Num as num}
use Rattle.c_meaning.specs.declared.cells.CellType.TheVariants.{Flag as flag_cell}
use Rattle.c_meaning.specs.declared.values.Pointer.{Pointer}
use Rattle.c_meaning.specs.declared.values.CValue.{CValue}
use Rattle.c_meaning.specs.declared.values.CValue.TheVariants.{Numeric as numeric, Address as address, NullPointer as null_pointer}
use Rattle.c_meaning.specs.CValues.{number, holds}
use Rattle.c_meaning.specs.CMemory.{Memory, cell_of, loaded, offset}
use Rattle.c_meaning.specs.CTypes.{cell, byte, ExprType, points_to, as_number, type_of, assignable}
use Rattle.c_meaning.specs.CExprs.{Surroundings, cell_type}
use Rattle.c_meaning.specs.CExprs as c
use Rattle.wf_exprs.specs.Names.{Names, names_of}
use Rattle.wf_exprs.specs.Words.{uint_of}
use Rattle.wf_exprs.specs.Exprs.{calculated, saturated, path_code, path_pair, io_code, place_code, end_code, bytes_code, lowered, given, lowered_slice, lowered_status, lowered_cond, status_constant}

-- An expression of C is a number of a type.
pub record GivesNumber (x : Surroundings) (e : ExprTree) (ty : CTy) (n : ℕ) : Type 0 where
  pub type : option_and_then as_number (type_of x.scope e) ≡ Some ty
  pub value : c.value x e ≡ Some (numeric (number ty n))

-- An expression of C is a number of a type, which represents it.
pub record IsTheNumber (x : Surroundings) (e : ExprTree) (ty : CTy) (n : ℕ) : Type 0 where
  pub gives : GivesNumber x e ty n
  pub fits : IsIn ty (pos n)

-- An expression is a pointer to numbers of so many bits.
pub record GivesPointer (x : Surroundings) (e : ExprTree) (bits : ℕ) (v : CValue) : Type 0 where
  pub type : type_of x.scope e ≡ Some (points_to (cell (uint_of bits)))
  pub value : c.value x e ≡ Some v

-- A null pointer, or the literal 0, which is assigned, passed and compared as one.
abbrev pub IsNull : CValue → Type 0
IsNull (numeric n) = n ≡ number Int 0
IsNull (address p) = ⊥
IsNull null_pointer = Unit {0}

-- The value of a status: ok is null, and another one is the value of its own constant.
abbrev pub IsStatusValue : Surroundings → (n : ℕ) → CValue → Type 0
IsStatusValue x zero v = IsNull v
IsStatusValue x (suc n) v = c.value x (status_constant (suc n)) ≡ Some v

-- An expression is a status: it may go where a status goes, and has its value.
pub record GivesStatus (x : Surroundings) (e : ExprTree) (n : ℕ) : Type 0 where
  pub type : ExprType
  pub typed : type_of x.scope e ≡ Some type
  pub goes : assignable text type ≡ true
  pub at : CValue
  pub value : c.value x e ≡ Some at
  pub same : IsStatusValue x n at

-- The cell that stands so many cells after a pointer.
abbrev pub cell_behind : Memory → CValue → (k : ℕ) → Option CValue
cell_behind memory (address p) k = option_and_then (loaded memory) (offset memory p (pos k))
cell_behind memory v k = None

abbrev pub IsInside : Memory → CValue → (k : ℕ) → Type 0
IsInside memory (address p) k = is_some (offset memory p (pos k)) ≡ true
IsInside memory v k = ⊥

-- A pointer stands for a slice: its elements follow it, and one may go as far as its end. It is null for the empty slice
-- alone.
pub record SpanStands (s : State) (x : Surroundings) (bits : ℕ) (cells : Span) (v : CValue) : Type 0 where
  pub elements : (k n : ℕ) → element_of s cells k ≡ Some n → (n < 2 ^ bits) × (cell_behind x.memory v k ≡ Some (numeric (number (calculated bits) n)))
  pub fits : cells.count < 2 ^ 64
  pub empty : v ≡ null_pointer → cells.count ≡ 0
  pub inside : (k : ℕ) → k ≤ cells.count → (v ≡ null_pointer → ⊥) → IsInside x.memory v k

-- The two expressions of a slice stand for it.
pub record PairStands (s : State) (x : Surroundings) (bits : ℕ) (cells : Span) (pointer length : ExprTree) (ty : CTy) : Type 0 where
  pub at : CValue
  pub is_pointer : GivesPointer x pointer bits at
  pub counts : GivesNumber x length ty cells.count
  pub stands : SpanStands s x bits cells at

-- The expression of an array stands for it: a pointer that is never null. C counts so many elements in an `int`.
pub record ArrayStands (s : State) (x : Surroundings) (bits count : ℕ) (cells : Span) (e : ExprTree) : Type 0 where
  pub at : CValue
  pub is_pointer : GivesPointer x e bits at
  pub counts : cells.count ≡ count
  pub few : count < 2 ^ 31
  pub stands : SpanStands s x bits cells at
  pub some : at ≡ null_pointer → ⊥

-- The place and the end of a reader or writer.
abbrev pub place_of : Ty → Buffer → ℕ
place_of types.Writer b = b.wi
place_of ty b = b.ri

abbrev pub end_of : Ty → Buffer → ℕ
end_of types.Writer b = if b.closed then b.wi else capacity b
end_of ty b = b.wi

-- An io argument stands for its buffer. What the body has moved stands in its locals, and not yet in the buffer's struct.
pub record BufferStands (names : Names) (x : Surroundings) (a : ℕ) (ty : Ty) (b : Buffer) : Type 0 where
  pub place : GivesNumber x (place_code names a) U64 (place_of ty b)
  pub end : GivesNumber x (end_code names a) U64 (end_of ty b)
  pub position : GivesNumber x (member (io_code names a) (codes "pos")) U64 b.pos
  pub closed : GivesNumber x (member (io_code names a) (codes "closed")) Int (if b.closed then 1 else 0)

-- The local that points to a buffer's bytes stands for them. A body has it only where its code reads these bytes, so it is asked
-- of an expression that peeks, and not of each reader and writer.
pub record BytesStand (names : Names) (x : Surroundings) (a : ℕ) (b : Buffer) : Type 0 where
  pub at : CValue
  pub is_pointer : GivesPointer x (bytes_code names a) 8 at
  pub each : (k n : ℕ) → slice_get b.cells k ≡ Some n → cell_behind x.memory at k ≡ Some (numeric (number Int n))

-- A status but ok stands for its text, which tells its category.
pub record TextStands (x : Surroundings) (n : ℕ) (bytes : List ℕ) : Type 0 where
  pub at : Pointer
  pub typed : type_of x.scope (status_constant n) ≡ Some (points_to byte)
  pub value : c.value x (status_constant n) ≡ Some (address at)
  pub first : (b : ℕ) → slice_get bytes 0 ≡ Some b → (b < 2 ^ 8) × (cell_behind x.memory (address at) 0 ≡ Some (numeric (number Int b)))
  pub told : same_category Fine (category_of bytes) ≡ false

-- What a body's expressions look at stands in C for what they look at in the source.
pub record Stands (p : PackageTree) (m : MethodTree) (s : State) (x : Surroundings) : Type 0 where
  pub numbers : (path : Path) (of : NumType) (n : ℕ) → is_number of (type_at (record { within = p; method = m }) path) ≡ true
      → s.number_at path ≡ Some n → (n < 2 ^ of.bits) × GivesNumber x (path_code (names_of p m) path) (calculated of.bits) n
  pub flags : (path : Path) (b : Bool) → is_flag (type_at (record { within = p; method = m }) path) ≡ true
      → s.flag_at path ≡ Some b → GivesNumber x (path_code (names_of p m) path) Int (if b then 1 else 0)
  pub statuses : (path : Path) (n : ℕ) → is_status (type_at (record { within = p; method = m }) path) ≡ true
      → s.status_at path ≡ Some n → GivesStatus x (path_code (names_of p m) path) n
  pub slices : (path : Path) (bits : ℕ) (cells : Span) → is_slice bits (type_at (record { within = p; method = m }) path) ≡ true
      → s.span_at path ≡ Some cells → PairStands s x bits cells (path_pair (names_of p m) path).pointer (path_pair (names_of p m) path).length.code U64
  pub arrays : (path : Path) (of : NumType) (count : ℕ) (cells : Span) → is_array of count (type_at (record { within = p; method = m }) path) ≡ true
      → s.span_at path ≡ Some cells → ArrayStands s x of.bits count cells (path_code (names_of p m) path)
  pub buffers : (a k : ℕ) (ty : Ty) (b : Buffer) → variable_at m.args a ≡ Some ty → s.buffer_number a ≡ Some k → s.buffer_at k ≡ Some b
      → IsLawful b × BufferStands (names_of p m) x a ty b
  -- ok has no text; every other status that is declared is a pointer to its text, and no two statuses are one
  pub ok : s.status_text 0 ≡ []
  pub texts : (n : ℕ) → 0 < n → is_some (c.value x (status_constant n)) ≡ true → TextStands x n (s.status_text n)
  pub apart : (n k : ℕ) → is_some (c.value x (status_constant n)) ≡ true → is_some (c.value x (status_constant k)) ≡ true
      → c.value x (status_constant n) ≡ c.value x (status_constant k) → n ≡ k

-- The function of a saturating operator is declared and does as it says.
abbrev pub IsSum : Surroundings → (bits : ℕ) → Type 0
IsSum x bits = (e f : ExprTree) (ty uy : CTy) (m n : ℕ) → is_width bits ≡ true → m < 2 ^ bits → n < 2 ^ bits
    → IsTheNumber x e ty m → IsTheNumber x f uy n → GivesNumber x (saturated true bits e f) (calculated bits) (min (m + n) (2 ^ bits - 1))

abbrev pub IsDifference : Surroundings → (bits : ℕ) → Type 0
IsDifference x bits = (e f : ExprTree) (ty uy : CTy) (m n : ℕ) → is_width bits ≡ true → m < 2 ^ bits → n < 2 ^ bits
    → IsTheNumber x e ty m → IsTheNumber x f uy n → GivesNumber x (saturated false bits e f) (calculated bits) (m - n)

-- What an expression uses is declared, and stands for what it is: the functions of saturating operators, the constants of
-- statuses, and the pointer to a reader's bytes where it peeks. What no function uses is left out of a text, and what no
-- statement of a body uses out of its locals.
abbrev pub DeclaresOperator : Surroundings → Arith → (bits : ℕ) → Type 0
DeclaresOperator x sat_plus bits = IsSum x bits
DeclaresOperator x sat_minus bits = IsDifference x bits
DeclaresOperator x op bits = Unit {0}

abbrev pub DeclaresQuestion : Names → State → Surroundings → Question → (a : ℕ) → Type 0
DeclaresQuestion names s x reader_position a = IsSum x 64
DeclaresQuestion names s x writer_position a = IsSum x 64
DeclaresQuestion names s x (peek form) a = (b : Buffer) → io_buffer s a ≡ Some b → BytesStand names x a b
DeclaresQuestion names s x question a = Unit {0}

abbrev mutual
  pub Declares : Names → State → Surroundings → NumTree → Type 0
  Declares names s x (tree.number at n) = Unit {0}
  Declares names s x (tree.read at of path) = Unit {0}
  Declares names s x (tree.element at of cells index) = DeclaresSlice names s x cells × Declares names s x index
  Declares names s x (tree.link at sign op bits joined a b) = DeclaresOperator x op bits × (Declares names s x a × Declares names s x b)
  Declares names s x (tree.convert at sign bits a) = Declares names s x a
  Declares names s x (tree.length_of at cells) = DeclaresSlice names s x cells
  Declares names s x (tree.asked at question a) = DeclaresQuestion names s x question a

  pub DeclaresSlice : Names → State → Surroundings → SliceTree → Type 0
  DeclaresSlice names s x (tree.slice at bits path) = Unit {0}
  DeclaresSlice names s x (tree.array at of count path) = Unit {0}
  DeclaresSlice names s x (tree.cut at cells from to) = DeclaresSlice names s x cells × (DeclaresEnd names s x from × DeclaresEnd names s x to)

  pub DeclaresEnd : Names → State → Surroundings → EndTree → Type 0
  DeclaresEnd names s x tree.absent = Unit {0}
  DeclaresEnd names s x (tree.present t) = Declares names s x t

abbrev pub HasConstant : Surroundings → (n : ℕ) → Type 0
HasConstant x n = is_some (c.value x (status_constant n)) ≡ true

abbrev pub DeclaresStatus : Surroundings → StatusTree → Type 0
DeclaresStatus x (tree.status at n) = HasConstant x n
DeclaresStatus x t = Unit {0}

abbrev pub DeclaresCond : Names → State → Surroundings → CondTree → Type 0
DeclaresCond names s x (tree.truth at b) = Unit {0}
DeclaresCond names s x (tree.flag at path) = Unit {0}
DeclaresCond names s x (tree.compare at sign a op b) = Declares names s x a × Declares names s x b
DeclaresCond names s x (tree.same_status at sign a one b) = DeclaresStatus x a × DeclaresStatus x b
DeclaresCond names s x (tree.junction at both joined a b) = DeclaresCond names s x a × DeclaresCond names s x b
DeclaresCond names s x (tree.negation at a) = DeclaresCond names s x a
DeclaresCond names s x (tree.closed at a) = Unit {0}
DeclaresCond names s x (tree.has_category at t category) = DeclaresStatus x t

-- The law, for all methods and memories, where what the expression uses is declared. A number that is assigned, passed or
-- returned may be of any type that represents it: C converts it.
pub record IsExprLaw : Type 0 where
  pub numbers : (p : PackageTree) (m : MethodTree) (s : State) (x : Surroundings) → Stands p m s x
      → (t : NumTree) (n : ℕ) → Declares (names_of p m) s x t → well_part (record { within = p; method = m }) t ≡ true → value s t ≡ Some n
      → IsTheNumber x (lowered (names_of p m) t).code (lowered (names_of p m) t).ty n
  pub assigned : (p : PackageTree) (m : MethodTree) (s : State) (x : Surroundings) → Stands p m s x
      → (t : NumTree) (n : ℕ) → Declares (names_of p m) s x t → well_part (record { within = p; method = m }) t ≡ true → value s t ≡ Some n
      → (ty : CTy) × IsTheNumber x (given (names_of p m) t) ty n
  pub slices : (p : PackageTree) (m : MethodTree) (s : State) (x : Surroundings) → Stands p m s x
      → (t : SliceTree) (cells : Span) → DeclaresSlice (names_of p m) s x t → well_slice (record { within = p; method = m }) t ≡ true → span_of s t ≡ Some cells
      → PairStands s x (element_type t).bits cells (lowered_slice (names_of p m) t).pointer (lowered_slice (names_of p m) t).length.code (lowered_slice (names_of p m) t).length.ty
      × IsIn (lowered_slice (names_of p m) t).length.ty (pos cells.count)
  pub statuses : (p : PackageTree) (m : MethodTree) (s : State) (x : Surroundings) → Stands p m s x
      → (t : StatusTree) (n : ℕ) → DeclaresStatus x t → well_status (record { within = p; method = m }) t ≡ true → status_value s t ≡ Some n
      → GivesStatus x (lowered_status (names_of p m) t) n
  pub conditions : (p : PackageTree) (m : MethodTree) (s : State) (x : Surroundings) → Stands p m s x
      → (t : CondTree) (b : Bool) → DeclaresCond (names_of p m) s x t → well_cond (record { within = p; method = m }) t ≡ true → truth_of s t ≡ Some b
      → (v : CValue) × ((c.value x (lowered_cond (names_of p m) t) ≡ Some v) × (holds v ≡ b))
  -- what is in a flag's cell once a condition was assigned to it
  pub flags : (p : PackageTree) (m : MethodTree) (s : State) (x : Surroundings) → Stands p m s x
      → (t : CondTree) (b : Bool) → DeclaresCond (names_of p m) s x t → well_cond (record { within = p; method = m }) t ≡ true → truth_of s t ≡ Some b
      → option_and_then (cell_of flag_cell) (c.value x (lowered_cond (names_of p m) t)) ≡ Some (num (if b then 1 else 0))

-- What is in a cell once a number was assigned to it: the number, where the cell's width holds it.
abbrev pub IsStored : Type 0
IsStored = (bits : ℕ) (ty : CTy) (n : ℕ) → is_width bits ≡ true → IsIn ty (pos n) → n < 2 ^ bits → cell_of (cell_type (uint_of bits)) (numeric (number ty n)) ≡ Some (num n)
