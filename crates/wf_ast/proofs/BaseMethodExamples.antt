-- The base methods that stand in an expression, at worked values: the value of each where what it needs is there, and
-- None where it isn't.
use Rattle.std.proofs.Common.{◌≡◌, ℕ, ◌-◌, ◌^◌, true, false, List, [], ◌∷◌, Option, Some, None, slice_get, refl}
use Rattle.std.specs.Prelude.{codes, unwrap_or}
use Rattle.wf_base.specs.declared.widths.Width.TheVariants.{W8, W64}
use Rattle.wf_base.specs.declared.base_methods.BaseSig.{BaseSig}
use Rattle.wf_base.specs.declared.base_methods.BaseSig.TheVariants.{ReaderLength, ReaderIsClosed, ReaderPosition, Peek, WriterLength, WriterPosition, SliceLength, ArrayLength, IsOk, IsNote, IsSuspension, IsError}
use Rattle.wf_base.specs.declared.base_methods.PeekForm.TheVariants.{PeekU8, PeekU16Le, PeekU32Le}
use Rattle.wf_base.specs.BaseOps.{Buffer, empty_buffer, put, close, skipped}
use Rattle.wf_ast.specs.TypedTree.{local, status, slice, array, SliceTree, state, elements, io}
use Rattle.wf_ast.specs.TypedTrees.{no_place, answer_of}
use Rattle.wf_ast.specs.Value.{Value, num, truth_value, Span, host_array, nowhere, State, value_of}

-- The statuses ok, a note, a suspension and an error, by number.
abbrev statuses : List (List ℕ)
statuses = [] ∷ codes "@base: end of data" ∷ codes "$base: short read" ∷ codes "#base: bad argument" ∷ []

-- One buffer, and one slice in the only local.
abbrev with_one : Buffer → Span → State
with_one it cells =
    record { number_at = λ path. None; flag_at = λ path. None; status_at = λ path. None; span_at = λ path. Some cells; cells_at = λ store. []; buffer_number = λ a. Some a; buffer_at = λ k. slice_get (it ∷ []) k; status_text = λ n. unwrap_or (slice_get statuses n) [] }

abbrev empty_slice : Span
empty_slice = record { store = nowhere; from = 0; count = 0 }

-- What a method answers on a buffer, on a slice and on a status.
abbrev asked_of : Buffer → BaseSig → Option Value
asked_of it method = value_of (with_one it empty_slice) (answer_of no_place method (io no_place 0))

abbrev of_slice : SliceTree → Span → BaseSig → Option Value
of_slice tree cells method = value_of (with_one (empty_buffer 0) cells) (answer_of no_place method (elements tree))

abbrev of_status : (number : ℕ) → BaseSig → Option Value
of_status number method = value_of (with_one (empty_buffer 0) empty_slice) (answer_of no_place method (state (status no_place number)))

abbrev three : Buffer
three = put (1 ∷ 2 ∷ 3 ∷ []) (empty_buffer 4)

abbrev four : Buffer
four = put (4 ∷ []) three

-- At the largest place.
abbrev far : Buffer
far = record { cells = 7 ∷ 8 ∷ []; ri = 1; wi = 2; pos = 2 ^ 64 - 1; closed = false }

-- A reader.
reader_length_of_three : asked_of (skipped 1 three) ReaderLength ≡ Some (num 2)
reader_length_of_three = refl

reader_length_of_none : asked_of (empty_buffer 0) ReaderLength ≡ Some (num 0)
reader_length_of_none = refl

open_reader : asked_of three ReaderIsClosed ≡ Some (truth_value false)
open_reader = refl

closed_reader : asked_of (close three) ReaderIsClosed ≡ Some (truth_value true)
closed_reader = refl

reader_position_of_three : asked_of (skipped 1 three) ReaderPosition ≡ Some (num 1)
reader_position_of_three = refl

reader_position_at_the_end : asked_of far ReaderPosition ≡ Some (num (2 ^ 64 - 1))
reader_position_at_the_end = refl

peeks_u8 : asked_of (skipped 2 three) (Peek PeekU8) ≡ Some (num 3)
peeks_u8 = refl

lacks_u8 : asked_of (skipped 3 three) (Peek PeekU8) ≡ None
lacks_u8 = refl

peeks_u16le : asked_of (skipped 1 three) (Peek PeekU16Le) ≡ Some (num 770)
peeks_u16le = refl

lacks_u16le : asked_of (skipped 2 three) (Peek PeekU16Le) ≡ None
lacks_u16le = refl

peeks_u32le : asked_of four (Peek PeekU32Le) ≡ Some (num 67305985)
peeks_u32le = refl

lacks_u32le : asked_of three (Peek PeekU32Le) ≡ None
lacks_u32le = refl

peeks_closed : asked_of (close four) (Peek PeekU32Le) ≡ Some (num 67305985)
peeks_closed = refl

-- A writer.
writer_length_of_three : asked_of three WriterLength ≡ Some (num 1)
writer_length_of_three = refl

writer_length_of_full : asked_of four WriterLength ≡ Some (num 0)
writer_length_of_full = refl

writer_length_of_closed : asked_of (close three) WriterLength ≡ Some (num 0)
writer_length_of_closed = refl

writer_position_of_three : asked_of (skipped 1 three) WriterPosition ≡ Some (num 3)
writer_position_of_three = refl

writer_position_at_the_end : asked_of far WriterPosition ≡ Some (num (2 ^ 64 - 1))
writer_position_at_the_end = refl

-- A slice and an array.
length_of_slice : of_slice (slice no_place 8 (local 0)) (record { store = host_array 0; from = 1; count = 3 }) (SliceLength W8) ≡ Some (num 3)
length_of_slice = refl

length_of_empty_slice : of_slice (slice no_place 64 (local 0)) empty_slice (SliceLength W64) ≡ Some (num 0)
length_of_empty_slice = refl

length_of_array : of_slice (array no_place (record { bits = 8; low = 0; high = 255 }) 5 (local 0)) (record { store = host_array 0; from = 0; count = 5 }) (ArrayLength W8) ≡ Some (num 5)
length_of_array = refl

-- Each status has the one kind that its first byte tells.
abbrev IsOnly : (number : ℕ) → (fine note suspension fault : Value) → Type 0
IsOnly number fine note suspension fault =
    (of_status number IsOk ≡ Some fine) × (of_status number IsNote ≡ Some note) × (of_status number IsSuspension ≡ Some suspension) × (of_status number IsError ≡ Some fault)

ok_is_fine : IsOnly 0 (truth_value true) (truth_value false) (truth_value false) (truth_value false)
ok_is_fine = (refl, refl, refl, refl)

note_is_a_note : IsOnly 1 (truth_value false) (truth_value true) (truth_value false) (truth_value false)
note_is_a_note = (refl, refl, refl, refl)

suspension_is_a_suspension : IsOnly 2 (truth_value false) (truth_value false) (truth_value true) (truth_value false)
suspension_is_a_suspension = (refl, refl, refl, refl)

error_is_an_error : IsOnly 3 (truth_value false) (truth_value false) (truth_value false) (truth_value true)
error_is_an_error = (refl, refl, refl, refl)
