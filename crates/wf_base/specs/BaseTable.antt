-- The table of base methods.
use Rattle.std.specs.Prelude.{◌≡◌, ℕ, ◌-◌, nat_eq, nat_le, Bool, List, [], ◌∷◌, ◌++◌, length, Option, bytes_eq, find, codes}
use Rattle.wf_base.specs.declared.widths.Width.{Width}
use Rattle.wf_base.specs.declared.widths.Width.TheVariants.{W8, W16, W32, W64}
use Rattle.wf_base.specs.declared.marks.Mark.{Mark}
use Rattle.wf_base.specs.declared.marks.Mark.TheVariants.{Pure, Impure, Coroutine}
use Rattle.wf_base.specs.declared.base_methods.Kind.{Kind}
use Rattle.wf_base.specs.declared.base_methods.Kind.TheVariants.{Reader, Writer, Slice, Array, Status}
use Rattle.wf_base.specs.declared.base_methods.ArgTy.{ArgTy}
use Rattle.wf_base.specs.declared.base_methods.ArgTy.TheVariants.{U8, U32, SameSlice}
use Rattle.wf_base.specs.declared.base_methods.Gives.{Gives}
use Rattle.wf_base.specs.declared.base_methods.Gives.TheVariants.{Nothing, Num, Flag}
use Rattle.wf_base.specs.declared.base_methods.BaseSig.{BaseSig}
use Rattle.wf_base.specs.declared.base_methods.BaseSig.TheVariants.{ReaderLength, ReaderIsClosed, ReaderPosition, Read, Skip, Peek, SkipFast, WriterLength, WriterPosition, Write, WriteFast, WriterCopy, SliceCopy, SliceLength, ArrayLength, IsOk, IsNote, IsSuspension, IsError}
use Rattle.wf_base.specs.declared.base_methods.ReadForm.{ReadForm}
use Rattle.wf_base.specs.declared.base_methods.ReadForm.TheVariants.{ReadU8, ReadU16Be, ReadU16Le, ReadU32Be, ReadU32Le, ReadU64Be, ReadU64Le}
use Rattle.wf_base.specs.declared.base_methods.PeekForm.{PeekForm}
use Rattle.wf_base.specs.declared.base_methods.PeekForm.TheVariants.{PeekU8, PeekU16Le, PeekU32Le}
use Rattle.wf_base.specs.BaseOps.{Buffer, reader_length, taken, peeked, little_endian, big_endian}

abbrev pub bits_of : Width → ℕ
bits_of W8 = 8
bits_of W16 = 16
bits_of W32 = 32
bits_of W64 = 64

abbrev pub bytes_of : Width → ℕ
bytes_of W8 = 1
bytes_of W16 = 2
bytes_of W32 = 4
bytes_of W64 = 8

-- The width of the number that a read gives, and its value as its bytes spell it.
abbrev pub read_width : ReadForm → Width
read_width ReadU8 = W8
read_width ReadU16Be = W16
read_width ReadU16Le = W16
read_width ReadU32Be = W32
read_width ReadU32Le = W32
read_width ReadU64Be = W64
read_width ReadU64Le = W64

abbrev pub read_value : ReadForm → List ℕ → ℕ
read_value ReadU8 bytes = little_endian bytes
read_value ReadU16Be bytes = big_endian bytes
read_value ReadU16Le bytes = little_endian bytes
read_value ReadU32Be bytes = big_endian bytes
read_value ReadU32Le bytes = little_endian bytes
read_value ReadU64Be bytes = big_endian bytes
read_value ReadU64Le bytes = little_endian bytes

-- How many bytes of the number lack, after those that were kept.
abbrev pub lacking : ReadForm → (kept : List ℕ) → ℕ
lacking form kept = bytes_of (read_width form) - length kept

-- The bytes of the number that a read then has: what was kept, and what it takes of those that lack.
abbrev pub gathered : ReadForm → (kept : List ℕ) → Buffer → List ℕ
gathered form kept buffer = kept ++ taken (lacking form kept) buffer

-- All bytes of the number are there. Until they are, the read keeps them and suspends.
abbrev pub is_whole : ReadForm → (bytes : List ℕ) → Bool
is_whole form bytes = nat_eq (length bytes) (bytes_of (read_width form))

abbrev pub name_of_read : ReadForm → List ℕ
name_of_read ReadU8 = codes "read_u8"
name_of_read ReadU16Be = codes "read_u16be"
name_of_read ReadU16Le = codes "read_u16le"
name_of_read ReadU32Be = codes "read_u32be"
name_of_read ReadU32Le = codes "read_u32le"
name_of_read ReadU64Be = codes "read_u64be"
name_of_read ReadU64Le = codes "read_u64le"

abbrev pub peek_width : PeekForm → Width
peek_width PeekU8 = W8
peek_width PeekU16Le = W16
peek_width PeekU32Le = W32

-- All bytes of the number are unread, which a peek needs.
abbrev pub can_peek : PeekForm → Buffer → Bool
can_peek form buffer = nat_le (bytes_of (peek_width form)) (reader_length buffer)

-- The number that they spell, the lowest byte first.
abbrev pub peek_value : PeekForm → Buffer → ℕ
peek_value form buffer = peeked (bytes_of (peek_width form)) buffer

abbrev pub name_of_peek : PeekForm → List ℕ
name_of_peek PeekU8 = codes "peek_u8"
name_of_peek PeekU16Le = codes "peek_u16le"
name_of_peek PeekU32Le = codes "peek_u32le"

-- A row: what the method is called on, its name and its mark, its arguments in order with their types, and what it
-- gives. A coroutine gives its number when it doesn't suspend.
pub record Row : Type 0 where
  pub on : Kind
  pub name : List ℕ
  pub mark : Mark
  pub args : List (List ℕ × ArgTy)
  pub gives : Gives

abbrev pub row : Kind → List ℕ → Mark → List (List ℕ × ArgTy) → Gives → Row
row on name mark args gives = record { on = on; name = name; mark = mark; args = args; gives = gives }

-- The table.
abbrev pub row_of : BaseSig → Row
row_of ReaderLength = row Reader (codes "length") Pure [] (Num W64)
row_of ReaderIsClosed = row Reader (codes "is_closed") Pure [] Flag
row_of ReaderPosition = row Reader (codes "position") Pure [] (Num W64)
row_of (Read form) = row Reader (name_of_read form) Coroutine [] (Num (read_width form))
row_of Skip = row Reader (codes "skip_u32") Coroutine ((codes "n", U32) ∷ []) Nothing
row_of (Peek form) = row Reader (name_of_peek form) Pure [] (Num (peek_width form))
row_of SkipFast = row Reader (codes "skip_u32_fast") Impure ((codes "actual", U32) ∷ (codes "worst_case", U32) ∷ []) Nothing
row_of WriterLength = row Writer (codes "length") Pure [] (Num W64)
row_of WriterPosition = row Writer (codes "position") Pure [] (Num W64)
row_of Write = row Writer (codes "write_u8") Coroutine ((codes "a", U8) ∷ []) Nothing
row_of WriteFast = row Writer (codes "write_u8_fast") Impure ((codes "a", U8) ∷ []) Nothing
row_of WriterCopy = row Writer (codes "copy_from_slice") Impure ((codes "s", SameSlice) ∷ []) (Num W64)
row_of (SliceCopy width) = row (Slice width) (codes "copy_from_slice") Impure ((codes "s", SameSlice) ∷ []) (Num W64)
row_of (SliceLength width) = row (Slice width) (codes "length") Pure [] (Num W64)
row_of (ArrayLength width) = row (Array width) (codes "length") Pure [] (Num W64)
row_of IsOk = row Status (codes "is_ok") Pure [] Flag
row_of IsNote = row Status (codes "is_note") Pure [] Flag
row_of IsSuspension = row Status (codes "is_suspension") Pure [] Flag
row_of IsError = row Status (codes "is_error") Pure [] Flag

-- The rows of each kind, in the table's order.
abbrev pub methods_on : Kind → List BaseSig
methods_on Reader = ReaderLength ∷ ReaderIsClosed ∷ ReaderPosition ∷ Read ReadU8 ∷ Read ReadU16Be ∷ Read ReadU16Le ∷ Read ReadU32Be ∷ Read ReadU32Le ∷ Read ReadU64Be ∷ Read ReadU64Le ∷ Skip ∷ Peek PeekU8 ∷ Peek PeekU16Le ∷ Peek PeekU32Le ∷ SkipFast ∷ []
methods_on Writer = WriterLength ∷ WriterPosition ∷ Write ∷ WriteFast ∷ WriterCopy ∷ []
methods_on (Slice width) = SliceCopy width ∷ SliceLength width ∷ []
methods_on (Array width) = ArrayLength width ∷ []
methods_on Status = IsOk ∷ IsNote ∷ IsSuspension ∷ IsError ∷ []

-- The method has this name on values of this kind.
abbrev pub IsMethod : Kind → List ℕ → BaseSig → Type 0
IsMethod kind name method = ((row_of method).on ≡ kind) × ((row_of method).name ≡ name)

-- The method with this name on values of this kind, if the table has one.
abbrev pub method_named : Kind → List ℕ → Option BaseSig
method_named kind name = find (λ method. bytes_eq (row_of method).name name) (methods_on kind)
