-- Every row of the table of base methods is found by its name, on values of its kind and no other.
use Rattle.std.proofs.Common.{◌≡◌, ℕ, List, [], ◌∷◌, Option, Some, None, map, refl}
use Rattle.std.specs.Prelude.{codes}
use Rattle.wf_base.specs.declared.widths.Width.TheVariants.{W8, W16, W32, W64}
use Rattle.wf_base.specs.declared.marks.Mark.{Mark}
use Rattle.wf_base.specs.declared.marks.Mark.TheVariants.{Pure, Impure, Coroutine}
use Rattle.wf_base.specs.declared.base_methods.Kind.{Kind}
use Rattle.wf_base.specs.declared.base_methods.Kind.TheVariants.{Reader, Writer, Slice, Array, Status}
use Rattle.wf_base.specs.declared.base_methods.Gives.{Gives}
use Rattle.wf_base.specs.declared.base_methods.Gives.TheVariants.{Nothing, Num, Flag}
use Rattle.wf_base.specs.declared.base_methods.BaseSig.{BaseSig}
use Rattle.wf_base.specs.declared.base_methods.BaseSig.TheVariants.{ReaderLength, ReaderIsClosed, ReaderPosition, Read, Skip, Peek, SkipFast, WriterLength, WriterPosition, Write, WriteFast, WriterCopy, SliceCopy, SliceLength, ArrayLength, IsOk, IsNote, IsSuspension, IsError}
use Rattle.wf_base.specs.declared.base_methods.ReadForm.TheVariants.{ReadU8, ReadU16Be, ReadU16Le, ReadU32Be, ReadU32Le, ReadU64Be, ReadU64Le}
use Rattle.wf_base.specs.declared.base_methods.PeekForm.TheVariants.{PeekU8, PeekU16Le, PeekU32Le}
use Rattle.wf_base.specs.BaseTable.{row_of, methods_on, method_named}

abbrev found : Kind → List (List ℕ) → List (Option BaseSig)
found kind names = map (method_named kind) names

abbrev marks : Kind → List Mark
marks kind = map (λ method. (row_of method).mark) (methods_on kind)

abbrev answers : Kind → List Gives
answers kind = map (λ method. (row_of method).gives) (methods_on kind)

-- A reader.
reader_questions : found Reader (codes "length" ∷ codes "is_closed" ∷ codes "position" ∷ []) ≡ Some ReaderLength ∷ Some ReaderIsClosed ∷ Some ReaderPosition ∷ []
reader_questions = refl

reads : found Reader (codes "read_u8" ∷ codes "read_u16be" ∷ codes "read_u16le" ∷ codes "read_u32be" ∷ codes "read_u32le" ∷ codes "read_u64be" ∷ codes "read_u64le" ∷ [])
    ≡ Some (Read ReadU8) ∷ Some (Read ReadU16Be) ∷ Some (Read ReadU16Le) ∷ Some (Read ReadU32Be) ∷ Some (Read ReadU32Le) ∷ Some (Read ReadU64Be) ∷ Some (Read ReadU64Le) ∷ []
reads = refl

skips_and_peeks : found Reader (codes "skip_u32" ∷ codes "skip_u32_fast" ∷ codes "peek_u8" ∷ codes "peek_u16le" ∷ codes "peek_u32le" ∷ [])
    ≡ Some Skip ∷ Some SkipFast ∷ Some (Peek PeekU8) ∷ Some (Peek PeekU16Le) ∷ Some (Peek PeekU32Le) ∷ []
skips_and_peeks = refl

reader_marks : marks Reader ≡ Pure ∷ Pure ∷ Pure ∷ Coroutine ∷ Coroutine ∷ Coroutine ∷ Coroutine ∷ Coroutine ∷ Coroutine ∷ Coroutine ∷ Coroutine ∷ Pure ∷ Pure ∷ Pure ∷ Impure ∷ []
reader_marks = refl

reader_answers : answers Reader ≡ Num W64 ∷ Flag ∷ Num W64 ∷ Num W8 ∷ Num W16 ∷ Num W16 ∷ Num W32 ∷ Num W32 ∷ Num W64 ∷ Num W64 ∷ Nothing ∷ Num W8 ∷ Num W16 ∷ Num W32 ∷ Nothing ∷ []
reader_answers = refl

-- A writer.
writer_methods : found Writer (codes "length" ∷ codes "position" ∷ codes "write_u8" ∷ codes "write_u8_fast" ∷ codes "copy_from_slice" ∷ [])
    ≡ Some WriterLength ∷ Some WriterPosition ∷ Some Write ∷ Some WriteFast ∷ Some WriterCopy ∷ []
writer_methods = refl

writer_marks : marks Writer ≡ Pure ∷ Pure ∷ Coroutine ∷ Impure ∷ Impure ∷ []
writer_marks = refl

writer_answers : answers Writer ≡ Num W64 ∷ Num W64 ∷ Nothing ∷ Nothing ∷ Num W64 ∷ []
writer_answers = refl

-- A slice and an array.
slice_methods : found (Slice W16) (codes "copy_from_slice" ∷ codes "length" ∷ []) ≡ Some (SliceCopy W16) ∷ Some (SliceLength W16) ∷ []
slice_methods = refl

slice_marks : marks (Slice W8) ≡ Impure ∷ Pure ∷ []
slice_marks = refl

slice_answers : answers (Slice W8) ≡ Num W64 ∷ Num W64 ∷ []
slice_answers = refl

array_methods : found (Array W32) (codes "length" ∷ []) ≡ Some (ArrayLength W32) ∷ []
array_methods = refl

array_marks : marks (Array W64) ≡ Pure ∷ []
array_marks = refl

-- A status.
status_methods : found Status (codes "is_ok" ∷ codes "is_note" ∷ codes "is_suspension" ∷ codes "is_error" ∷ []) ≡ Some IsOk ∷ Some IsNote ∷ Some IsSuspension ∷ Some IsError ∷ []
status_methods = refl

status_marks : marks Status ≡ Pure ∷ Pure ∷ Pure ∷ Pure ∷ []
status_marks = refl

status_answers : answers Status ≡ Flag ∷ Flag ∷ Flag ∷ Flag ∷ []
status_answers = refl

-- Other names, and the names of other kinds, name nothing.
no_reader_methods : found Reader ([] ∷ codes "lengt" ∷ codes "length_" ∷ codes "read_u8be" ∷ codes "write_u8" ∷ codes "is_ok" ∷ []) ≡ None ∷ None ∷ None ∷ None ∷ None ∷ None ∷ []
no_reader_methods = refl

no_writer_methods : found Writer (codes "is_closed" ∷ codes "peek_u8" ∷ codes "write_u16le" ∷ []) ≡ None ∷ None ∷ None ∷ []
no_writer_methods = refl

no_array_methods : found (Array W8) (codes "copy_from_slice" ∷ codes "position" ∷ []) ≡ None ∷ None ∷ []
no_array_methods = refl

no_status_methods : found Status (codes "length" ∷ codes "is_closed" ∷ codes "ok" ∷ []) ≡ None ∷ None ∷ None ∷ []
no_status_methods = refl
