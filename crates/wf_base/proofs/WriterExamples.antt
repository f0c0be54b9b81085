-- The methods of a writer at worked values: where there is room, and where there is none.
use Rattle.std.proofs.Common.{◌≡◌, ℕ, ◌-◌, ◌^◌, true, false, List, [], ◌∷◌, refl}
use Rattle.wf_base.specs.BaseOps.{Buffer, empty_buffer, appended, put, put_count, close, compact, skipped, has_room, writer_length, writer_position}

-- Three bytes of four, and all four.
abbrev three : Buffer
three = put (65 ∷ 66 ∷ 67 ∷ []) (empty_buffer 4)

abbrev full : Buffer
full = put (65 ∷ 66 ∷ 67 ∷ 68 ∷ []) (empty_buffer 4)

-- Bytes written in a buffer of four, of which none was read.
abbrev written : (cells : List ℕ) → (wi : ℕ) → Buffer
written cells wi = record { cells = cells; ri = 0; wi = wi; pos = 0; closed = false }

-- length()
length_free : writer_length three ≡ 1
length_free = refl

length_of_empty : writer_length (empty_buffer 4) ≡ 4
length_of_empty = refl

length_of_full : writer_length full ≡ 0
length_of_full = refl

length_of_closed : writer_length (close three) ≡ 0
length_of_closed = refl

length_of_closed_empty : writer_length (close (empty_buffer 4)) ≡ 0
length_of_closed_empty = refl

length_without_cells : writer_length (empty_buffer 0) ≡ 0
length_without_cells = refl

-- Reads make no room, and moving the unread bytes to the front does.
length_behind_reads : writer_length (skipped 2 full) ≡ 0
length_behind_reads = refl

length_of_compacted : writer_length (compact (skipped 2 full)) ≡ 2
length_of_compacted = refl

-- position()
position_at_first : writer_position (empty_buffer 4) ≡ 0
position_at_first = refl

position_behind_writes : writer_position three ≡ 3
position_behind_writes = refl

position_stays_in_the_stream : writer_position (compact (skipped 2 three)) ≡ 3
position_stays_in_the_stream = refl

position_without_cells : writer_position (empty_buffer 0) ≡ 0
position_without_cells = refl

-- The largest number of 64 bits is reached, and then stays.
abbrev far : (wi pos : ℕ) → Buffer
far wi pos = record { cells = 7 ∷ 8 ∷ 9 ∷ []; ri = 0; wi = wi; pos = pos; closed = false }

position_reaches_the_end : writer_position (far 1 (2 ^ 64 - 2)) ≡ 2 ^ 64 - 1
position_reaches_the_end = refl

position_stays_at_the_end : writer_position (far 2 (2 ^ 64 - 2)) ≡ 2 ^ 64 - 1
position_stays_at_the_end = refl

position_at_the_end : writer_position (far 3 (2 ^ 64 - 1)) ≡ 2 ^ 64 - 1
position_at_the_end = refl

-- write_u8?(a) and write_u8_fast!(a): the byte stands after the others, and the other cells stay.
writes : (has_room (empty_buffer 4) ≡ true) × (appended (65 ∷ []) (empty_buffer 4) ≡ written (65 ∷ 0 ∷ 0 ∷ 0 ∷ []) 1)
writes = (refl, refl)

writes_last : (has_room three ≡ true) × (appended (68 ∷ []) three ≡ full)
writes_last = (refl, refl)

-- A byte that was there is written over, and those after it stay.
writes_over : appended (1 ∷ []) (written (65 ∷ 66 ∷ 67 ∷ 68 ∷ []) 1) ≡ written (65 ∷ 1 ∷ 67 ∷ 68 ∷ []) 2
writes_over = refl

full_has_no_room : has_room full ≡ false
full_has_no_room = refl

read_has_no_room : has_room (skipped 4 full) ≡ false
read_has_no_room = refl

closed_has_no_room : has_room (close three) ≡ false
closed_has_no_room = refl

no_room_without_cells : has_room (empty_buffer 0) ≡ false
no_room_without_cells = refl

-- After a suspension it goes on where there is room again.
goes_on : (has_room (compact (skipped 1 full)) ≡ true)
    × (appended (69 ∷ []) (compact (skipped 1 full)) ≡ record { cells = 66 ∷ 67 ∷ 68 ∷ 69 ∷ []; ri = 0; wi = 4; pos = 1; closed = false })
goes_on = (refl, refl)

-- copy_from_slice!(s)
abbrev Copies : (bytes : List ℕ) → Buffer → (count : ℕ) → (left : Buffer) → Type 0
Copies bytes buffer count left = (put_count bytes buffer ≡ count) × (put bytes buffer ≡ left)

copies : Copies (1 ∷ 2 ∷ []) (empty_buffer 4) 2 (written (1 ∷ 2 ∷ 0 ∷ 0 ∷ []) 2)
copies = (refl, refl)

copies_what_fits : Copies (1 ∷ 2 ∷ 3 ∷ []) three 1 (written (65 ∷ 66 ∷ 67 ∷ 1 ∷ []) 4)
copies_what_fits = (refl, refl)

fills : Copies (1 ∷ 2 ∷ 3 ∷ 4 ∷ []) (empty_buffer 4) 4 (written (1 ∷ 2 ∷ 3 ∷ 4 ∷ []) 4)
fills = (refl, refl)

copies_empty : Copies [] three 0 three
copies_empty = (refl, refl)

copies_empty_to_full : Copies [] full 0 full
copies_empty_to_full = (refl, refl)

copies_nothing_to_full : Copies (1 ∷ []) full 0 full
copies_nothing_to_full = (refl, refl)

copies_nothing_to_closed : Copies (1 ∷ 2 ∷ []) (close three) 0 (close three)
copies_nothing_to_closed = (refl, refl)

copies_nothing_without_cells : Copies (1 ∷ []) (empty_buffer 0) 0 (empty_buffer 0)
copies_nothing_without_cells = (refl, refl)
