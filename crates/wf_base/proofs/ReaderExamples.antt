-- The methods of a reader at worked values: where bytes are there, and where they end.
use Rattle.std.proofs.Common.{◌≡◌, ℕ, ◌-◌, ◌^◌, true, false, List, [], ◌∷◌, Some, None, refl}
use Rattle.wf_base.specs.declared.base_methods.ReadForm.{ReadForm}
use Rattle.wf_base.specs.declared.base_methods.ReadForm.TheVariants.{ReadU8, ReadU16Be, ReadU16Le, ReadU32Be, ReadU32Le, ReadU64Be, ReadU64Le}
use Rattle.wf_base.specs.declared.base_methods.PeekForm.TheVariants.{PeekU8, PeekU16Le, PeekU32Le}
use Rattle.wf_base.specs.BaseTable.{read_value, lacking, gathered, is_whole, can_peek, peek_value}
use Rattle.wf_base.specs.BaseOps.{Buffer, empty_buffer, put, close, compact, unread, unread_at, taken, skipped, left_to_skip, can_skip_fast, reader_length, reader_position}

-- Bytes 1 to 8 and a free cell; three bytes of four; and four bytes of which two are unread.
abbrev eight : Buffer
eight = put (1 ∷ 2 ∷ 3 ∷ 4 ∷ 5 ∷ 6 ∷ 7 ∷ 8 ∷ []) (empty_buffer 9)

abbrev three : Buffer
three = put (65 ∷ 66 ∷ 67 ∷ []) (empty_buffer 4)

abbrev two_left : Buffer
two_left = put (68 ∷ []) (skipped 2 three)

-- A buffer of these bytes, none of which was read.
abbrev holding : List ℕ → Buffer
holding bytes = put bytes (empty_buffer 8)

-- length()
length_unread : reader_length three ≡ 3
length_unread = refl

length_behind_ri : reader_length two_left ≡ 2
length_behind_ri = refl

length_of_one : reader_length (put (65 ∷ []) (empty_buffer 4)) ≡ 1
length_of_one = refl

length_of_none : reader_length (empty_buffer 4) ≡ 0
length_of_none = refl

length_of_all_read : reader_length (skipped 3 three) ≡ 0
length_of_all_read = refl

length_of_full : reader_length (put (68 ∷ 69 ∷ []) three) ≡ 4
length_of_full = refl

length_of_closed : reader_length (close three) ≡ 3
length_of_closed = refl

length_without_cells : reader_length (empty_buffer 0) ≡ 0
length_without_cells = refl

-- is_closed()
open_at_first : (empty_buffer 4).closed ≡ false
open_at_first = refl

open_behind_reads : (skipped 3 three).closed ≡ false
open_behind_reads = refl

closed_behind_reads : (compact (skipped 3 (close three))).closed ≡ true
closed_behind_reads = refl

closed_without_cells : (close (empty_buffer 0)).closed ≡ true
closed_without_cells = refl

-- position()
position_at_first : reader_position three ≡ 0
position_at_first = refl

position_behind_reads : reader_position (skipped 2 three) ≡ 2
position_behind_reads = refl

position_stays_in_the_stream : reader_position (compact (skipped 2 three)) ≡ 2
position_stays_in_the_stream = refl

position_without_cells : reader_position (empty_buffer 0) ≡ 0
position_without_cells = refl

-- The largest number of 64 bits is reached, and then stays.
abbrev far : (ri pos : ℕ) → Buffer
far ri pos = record { cells = 7 ∷ 8 ∷ 9 ∷ []; ri = ri; wi = 3; pos = pos; closed = false }

position_reaches_the_end : reader_position (far 1 (2 ^ 64 - 2)) ≡ 2 ^ 64 - 1
position_reaches_the_end = refl

position_below_the_end : reader_position (far 1 (2 ^ 64 - 3)) ≡ 2 ^ 64 - 2
position_below_the_end = refl

position_stays_at_the_end : reader_position (far 2 (2 ^ 64 - 2)) ≡ 2 ^ 64 - 1
position_stays_at_the_end = refl

position_at_the_end : reader_position (far 3 (2 ^ 64 - 1)) ≡ 2 ^ 64 - 1
position_at_the_end = refl

-- Reads. With what it kept, a read has all of its bytes in the buffer, gives this number and leaves this buffer.
abbrev Gives : ReadForm → (kept : List ℕ) → Buffer → (number : ℕ) → (left : Buffer) → Type 0
Gives form kept buffer number left =
    (is_whole form (gathered form kept buffer) ≡ true) × (read_value form (gathered form kept buffer) ≡ number) × (skipped (lacking form kept) buffer ≡ left)

-- Or the bytes end first: it keeps these, and leaves this buffer.
abbrev Keeps : ReadForm → (kept : List ℕ) → Buffer → (bytes : List ℕ) → (left : Buffer) → Type 0
Keeps form kept buffer bytes left =
    (is_whole form (gathered form kept buffer) ≡ false) × (gathered form kept buffer ≡ bytes) × (skipped (lacking form kept) buffer ≡ left)

-- The same buffer with so many bytes read.
abbrev read_up_to : ℕ → Buffer → Buffer
read_up_to ri buffer = record { cells = buffer.cells; ri = ri; wi = buffer.wi; pos = buffer.pos; closed = buffer.closed }

-- read_u8?()
reads_u8 : Gives ReadU8 [] eight 1 (read_up_to 1 eight)
reads_u8 = (refl, refl, refl)

reads_last_u8 : Gives ReadU8 [] (read_up_to 7 eight) 8 (read_up_to 8 eight)
reads_last_u8 = (refl, refl, refl)

lacks_u8 : Keeps ReadU8 [] (read_up_to 8 eight) [] (read_up_to 8 eight)
lacks_u8 = (refl, refl, refl)

lacks_u8_at_first : Keeps ReadU8 [] (empty_buffer 4) [] (empty_buffer 4)
lacks_u8_at_first = (refl, refl, refl)

lacks_u8_without_cells : Keeps ReadU8 [] (empty_buffer 0) [] (empty_buffer 0)
lacks_u8_without_cells = (refl, refl, refl)

-- At the end of a closed buffer it lacks its byte just so.
lacks_u8_in_closed : Keeps ReadU8 [] (close (empty_buffer 4)) [] (close (empty_buffer 4))
lacks_u8_in_closed = (refl, refl, refl)

goes_on_with_u8 : Gives ReadU8 [] (put (9 ∷ []) (read_up_to 8 eight)) 9 (read_up_to 9 (put (9 ∷ []) eight))
goes_on_with_u8 = (refl, refl, refl)

-- read_u16be?()
reads_u16be : Gives ReadU16Be [] eight 258 (read_up_to 2 eight)
reads_u16be = (refl, refl, refl)

keeps_u16be : Keeps ReadU16Be [] (read_up_to 7 eight) (8 ∷ []) (read_up_to 8 eight)
keeps_u16be = (refl, refl, refl)

goes_on_with_u16be : Gives ReadU16Be (8 ∷ []) eight 2049 (read_up_to 1 eight)
goes_on_with_u16be = (refl, refl, refl)

-- read_u16le?()
reads_u16le : Gives ReadU16Le [] eight 513 (read_up_to 2 eight)
reads_u16le = (refl, refl, refl)

keeps_u16le : Keeps ReadU16Le [] (read_up_to 7 eight) (8 ∷ []) (read_up_to 8 eight)
keeps_u16le = (refl, refl, refl)

goes_on_with_u16le : Gives ReadU16Le (8 ∷ []) eight 264 (read_up_to 1 eight)
goes_on_with_u16le = (refl, refl, refl)

-- read_u32be?()
reads_u32be : Gives ReadU32Be [] eight 16909060 (read_up_to 4 eight)
reads_u32be = (refl, refl, refl)

keeps_u32be : Keeps ReadU32Be [] (read_up_to 5 eight) (6 ∷ 7 ∷ 8 ∷ []) (read_up_to 8 eight)
keeps_u32be = (refl, refl, refl)

goes_on_with_u32be : Gives ReadU32Be (6 ∷ 7 ∷ 8 ∷ []) eight 101124097 (read_up_to 1 eight)
goes_on_with_u32be = (refl, refl, refl)

-- read_u32le?(), whose bytes come in three pieces, and nothing in between.
reads_u32le : Gives ReadU32Le [] eight 67305985 (read_up_to 4 eight)
reads_u32le = (refl, refl, refl)

keeps_one : Keeps ReadU32Le [] (holding (1 ∷ [])) (1 ∷ []) (read_up_to 1 (holding (1 ∷ [])))
keeps_one = (refl, refl, refl)

keeps_one_still : Keeps ReadU32Le (1 ∷ []) (read_up_to 1 (holding (1 ∷ []))) (1 ∷ []) (read_up_to 1 (holding (1 ∷ [])))
keeps_one_still = (refl, refl, refl)

keeps_three : Keeps ReadU32Le (1 ∷ []) (holding (2 ∷ 3 ∷ [])) (1 ∷ 2 ∷ 3 ∷ []) (read_up_to 2 (holding (2 ∷ 3 ∷ [])))
keeps_three = (refl, refl, refl)

goes_on_with_u32le : Gives ReadU32Le (1 ∷ 2 ∷ 3 ∷ []) (holding (4 ∷ 5 ∷ [])) 67305985 (read_up_to 1 (holding (4 ∷ 5 ∷ [])))
goes_on_with_u32le = (refl, refl, refl)

keeps_three_in_closed : Keeps ReadU32Le [] (close three) (65 ∷ 66 ∷ 67 ∷ []) (read_up_to 3 (close three))
keeps_three_in_closed = (refl, refl, refl)

-- read_u64be?()
reads_u64be : Gives ReadU64Be [] eight 72623859790382856 (read_up_to 8 eight)
reads_u64be = (refl, refl, refl)

keeps_u64be : Keeps ReadU64Be [] (read_up_to 1 eight) (2 ∷ 3 ∷ 4 ∷ 5 ∷ 6 ∷ 7 ∷ 8 ∷ []) (read_up_to 8 eight)
keeps_u64be = (refl, refl, refl)

goes_on_with_u64be : Gives ReadU64Be (2 ∷ 3 ∷ 4 ∷ 5 ∷ 6 ∷ 7 ∷ 8 ∷ []) eight 144964032628459521 (read_up_to 1 eight)
goes_on_with_u64be = (refl, refl, refl)

-- read_u64le?()
reads_u64le : Gives ReadU64Le [] eight 578437695752307201 (read_up_to 8 eight)
reads_u64le = (refl, refl, refl)

keeps_u64le : Keeps ReadU64Le [] (read_up_to 1 eight) (2 ∷ 3 ∷ 4 ∷ 5 ∷ 6 ∷ 7 ∷ 8 ∷ []) (read_up_to 8 eight)
keeps_u64le = (refl, refl, refl)

goes_on_with_u64le : Gives ReadU64Le (2 ∷ 3 ∷ 4 ∷ 5 ∷ 6 ∷ 7 ∷ 8 ∷ []) eight 74317116286960386 (read_up_to 1 eight)
goes_on_with_u64le = (refl, refl, refl)

-- The largest numbers.
abbrev ones : Buffer
ones = holding (255 ∷ 255 ∷ 255 ∷ 255 ∷ 255 ∷ 255 ∷ 255 ∷ 255 ∷ [])

reads_largest_u64be : Gives ReadU64Be [] ones (2 ^ 64 - 1) (read_up_to 8 ones)
reads_largest_u64be = (refl, refl, refl)

reads_largest_u64le : Gives ReadU64Le [] ones (2 ^ 64 - 1) (read_up_to 8 ones)
reads_largest_u64le = (refl, refl, refl)

-- skip_u32?(n)
abbrev Skips : (count : ℕ) → Buffer → (rest : ℕ) → (left : Buffer) → Type 0
Skips count buffer rest left = (left_to_skip count buffer ≡ rest) × (skipped count buffer ≡ left)

skips_nothing : Skips 0 three 0 three
skips_nothing = (refl, refl)

skips_nothing_in_none : Skips 0 (empty_buffer 0) 0 (empty_buffer 0)
skips_nothing_in_none = (refl, refl)

skips_within : Skips 2 three 0 (read_up_to 2 three)
skips_within = (refl, refl)

skips_all : Skips 3 three 0 (read_up_to 3 three)
skips_all = (refl, refl)

skips_beyond : Skips 5 three 2 (read_up_to 3 three)
skips_beyond = (refl, refl)

skips_on : Skips 2 two_left 0 (read_up_to 4 two_left)
skips_on = (refl, refl)

skips_no_byte : Skips 2 (empty_buffer 4) 2 (empty_buffer 4)
skips_no_byte = (refl, refl)

skips_without_cells : Skips 2 (empty_buffer 0) 2 (empty_buffer 0)
skips_without_cells = (refl, refl)

skips_no_byte_in_closed : Skips 1 (close (empty_buffer 4)) 1 (close (empty_buffer 4))
skips_no_byte_in_closed = (refl, refl)

skips_largest : Skips (2 ^ 32 - 1) three 4294967292 (read_up_to 3 three)
skips_largest = (refl, refl)

-- peek_u8(), peek_u16le() and peek_u32le(), which take nothing.
peeks_u8 : (can_peek PeekU8 two_left ≡ true) × (peek_value PeekU8 two_left ≡ 67)
peeks_u8 = (refl, refl)

peeks_last_u8 : (can_peek PeekU8 (skipped 3 three) ≡ false) × (can_peek PeekU8 (skipped 2 three) ≡ true)
peeks_last_u8 = (refl, refl)

peeks_no_u8 : can_peek PeekU8 (empty_buffer 4) ≡ false
peeks_no_u8 = refl

peeks_u16le : (can_peek PeekU16Le two_left ≡ true) × (peek_value PeekU16Le two_left ≡ 17475)
peeks_u16le = (refl, refl)

lacks_one_of_u16le : can_peek PeekU16Le (skipped 1 two_left) ≡ false
lacks_one_of_u16le = refl

peeks_u32le : (can_peek PeekU32Le eight ≡ true) × (peek_value PeekU32Le eight ≡ 67305985)
peeks_u32le = (refl, refl)

peeks_last_u32le : (can_peek PeekU32Le (read_up_to 4 eight) ≡ true) × (peek_value PeekU32Le (read_up_to 4 eight) ≡ 134678021)
peeks_last_u32le = (refl, refl)

lacks_one_of_u32le : can_peek PeekU32Le three ≡ false
lacks_one_of_u32le = refl

peeks_closed : (can_peek PeekU16Le (close three) ≡ true) × (peek_value PeekU16Le (close three) ≡ 16961)
peeks_closed = (refl, refl)

-- skip_u32_fast!(actual, worst_case)
skips_fast : (can_skip_fast 1 3 three ≡ true) × (skipped 1 three ≡ read_up_to 1 three)
skips_fast = (refl, refl)

skips_fast_nothing : (can_skip_fast 0 3 three ≡ true) × (skipped 0 three ≡ three)
skips_fast_nothing = (refl, refl)

skips_fast_the_worst : (can_skip_fast 3 3 three ≡ true) × (skipped 3 three ≡ read_up_to 3 three)
skips_fast_the_worst = (refl, refl)

skips_fast_at_the_end : (can_skip_fast 0 0 (read_up_to 3 three) ≡ true) × (skipped 0 (read_up_to 3 three) ≡ read_up_to 3 three)
skips_fast_at_the_end = (refl, refl)

-- The bytes have to be there even where they aren't taken, and no more are taken than that.
cannot_skip_fast : can_skip_fast 0 4 three ≡ false
cannot_skip_fast = refl

cannot_skip_fast_at_the_end : can_skip_fast 0 1 (read_up_to 3 three) ≡ false
cannot_skip_fast_at_the_end = refl

skips_no_more_than_the_worst : can_skip_fast 2 1 three ≡ false
skips_no_more_than_the_worst = refl

-- The unread bytes, one by one and together.
sees_next : unread_at 1 two_left ≡ Some 68
sees_next = refl

sees_no_more : unread_at 2 two_left ≡ None
sees_no_more = refl

sees_nothing : unread_at 0 (empty_buffer 0) ≡ None
sees_nothing = refl

sees_all : unread two_left ≡ 67 ∷ 68 ∷ []
sees_all = refl

takes_what_is_there : taken 3 two_left ≡ 67 ∷ 68 ∷ []
takes_what_is_there = refl
