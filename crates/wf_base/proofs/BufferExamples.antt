-- What a host does with a buffer, at worked values.
use Rattle.std.proofs.Common.{◌≡◌, ℕ, ◌-◌, ◌^◌, true, false, List, [], ◌∷◌, refl}
use Rattle.wf_base.specs.BaseOps.{Buffer, empty_buffer, put, put_count, close, compact, skipped, with_cell, placed, seen_buffer}

abbrev buffer : (cells : List ℕ) → (ri wi pos : ℕ) → Buffer
buffer cells ri wi pos = record { cells = cells; ri = ri; wi = wi; pos = pos; closed = false }

-- A buffer as it is made.
made : empty_buffer 3 ≡ buffer (0 ∷ 0 ∷ 0 ∷ []) 0 0 0
made = refl

made_without_cells : empty_buffer 0 ≡ buffer [] 0 0 0
made_without_cells = refl

-- Five bytes go through a buffer of four: three are put, two taken, and of three more only one fits.
abbrev three : Buffer
three = put (65 ∷ 66 ∷ 67 ∷ []) (empty_buffer 4)

abbrev four : Buffer
four = put (68 ∷ 69 ∷ 70 ∷ []) (skipped 2 three)

puts : three ≡ buffer (65 ∷ 66 ∷ 67 ∷ 0 ∷ []) 0 3 0
puts = refl

puts_what_fits : (put_count (68 ∷ 69 ∷ 70 ∷ []) (skipped 2 three) ≡ 1) × (four ≡ buffer (65 ∷ 66 ∷ 67 ∷ 68 ∷ []) 2 4 0)
puts_what_fits = (refl, refl)

puts_nothing_into_full : (put_count (1 ∷ []) four ≡ 0) × (put (1 ∷ []) four ≡ four)
puts_nothing_into_full = (refl, refl)

puts_nothing_into_closed : (put_count (1 ∷ []) (close three) ≡ 0) × (put (1 ∷ []) (close three) ≡ close three)
puts_nothing_into_closed = (refl, refl)

puts_nothing_without_cells : (put_count (1 ∷ []) (empty_buffer 0) ≡ 0) × (put (1 ∷ []) (empty_buffer 0) ≡ empty_buffer 0)
puts_nothing_without_cells = (refl, refl)

puts_empty_piece : (put_count [] three ≡ 0) × (put [] three ≡ three)
puts_empty_piece = (refl, refl)

puts_one : put (1 ∷ []) (empty_buffer 1) ≡ buffer (1 ∷ []) 0 1 0
puts_one = refl

-- The bytes stay where a buffer is closed, and closing it again changes nothing.
closes : close three ≡ record { cells = 65 ∷ 66 ∷ 67 ∷ 0 ∷ []; ri = 0; wi = 3; pos = 0; closed = true }
closes = refl

closes_again : close (close three) ≡ close three
closes_again = refl

-- The unread bytes move to the front, and the cells after them stay as they were.
compacts : compact four ≡ buffer (67 ∷ 68 ∷ 67 ∷ 68 ∷ []) 0 2 2
compacts = refl

compacts_with_free_cells : compact (buffer (1 ∷ 2 ∷ 3 ∷ 4 ∷ 5 ∷ 6 ∷ []) 2 5 10) ≡ buffer (3 ∷ 4 ∷ 5 ∷ 4 ∷ 5 ∷ 6 ∷ []) 0 3 12
compacts_with_free_cells = refl

compacts_one : compact (buffer (1 ∷ 2 ∷ 3 ∷ 4 ∷ []) 3 4 0) ≡ buffer (4 ∷ 2 ∷ 3 ∷ 4 ∷ []) 0 1 3
compacts_one = refl

compacts_all_read : compact (buffer (1 ∷ 2 ∷ 3 ∷ 4 ∷ []) 4 4 0) ≡ buffer (1 ∷ 2 ∷ 3 ∷ 4 ∷ []) 0 0 4
compacts_all_read = refl

compacts_none_read : compact three ≡ three
compacts_none_read = refl

compacts_again : compact (compact four) ≡ compact four
compacts_again = refl

compacts_closed : compact (close four) ≡ close (compact four)
compacts_closed = refl

compacts_without_cells : compact (empty_buffer 0) ≡ empty_buffer 0
compacts_without_cells = refl

-- `pos` ends at the largest number of 64 bits.
compacts_up_to_the_end : compact (buffer (7 ∷ 8 ∷ []) 1 2 (2 ^ 64 - 2)) ≡ buffer (8 ∷ 8 ∷ []) 0 1 (2 ^ 64 - 1)
compacts_up_to_the_end = refl

compacts_past_the_end : compact (buffer (7 ∷ 8 ∷ []) 2 2 (2 ^ 64 - 2)) ≡ buffer (7 ∷ 8 ∷ []) 0 0 (2 ^ 64 - 1)
compacts_past_the_end = refl

compacts_at_the_end : compact (buffer (7 ∷ 8 ∷ []) 1 2 (2 ^ 64 - 1)) ≡ buffer (8 ∷ 8 ∷ []) 0 1 (2 ^ 64 - 1)
compacts_at_the_end = refl

-- One cell is set: the first, one after `wi`, and none where the buffer has no such cell.
sets_first : with_cell 0 9 three ≡ buffer (9 ∷ 66 ∷ 67 ∷ 0 ∷ []) 0 3 0
sets_first = refl

sets_last : with_cell 3 9 three ≡ buffer (65 ∷ 66 ∷ 67 ∷ 9 ∷ []) 0 3 0
sets_last = refl

sets_none_beyond : with_cell 4 9 three ≡ three
sets_none_beyond = refl

sets_none_without_cells : with_cell 0 9 (empty_buffer 0) ≡ empty_buffer 0
sets_none_without_cells = refl

-- The counts are set, and the cells stay.
places : placed 1 4 (2 ^ 64 - 1) true three ≡ record { cells = 65 ∷ 66 ∷ 67 ∷ 0 ∷ []; ri = 1; wi = 4; pos = 2 ^ 64 - 1; closed = true }
places = refl

opens_again : placed 0 3 0 false (close three) ≡ three
opens_again = refl

-- What is seen of a buffer: the bytes before `wi`, the read ones too, and none of the free cells.
sees_written : seen_buffer (skipped 2 three) ≡ record { written = 65 ∷ 66 ∷ 67 ∷ []; ri = 2; wi = 3; pos = 0; closed = false }
sees_written = refl

sees_none : seen_buffer (empty_buffer 4) ≡ record { written = []; ri = 0; wi = 0; pos = 0; closed = false }
sees_none = refl
