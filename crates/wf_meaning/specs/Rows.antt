-- The rows of the worked examples: what a host does, and what it sees.
use Rattle.std.specs.Prelude.{ℕ, true, false, List, [], ◌∷◌, None, Some, codes}
use Rattle.wf_text.specs.HostActions.{Receiver, num, io, bytes, HostAction, init, call, put, close, compact, replace}
use Rattle.wf_text.specs.Seen.{SeenBuffer, Seen, answered, turns}
use Rattle.wf_text.specs.Seen as seen
use Rattle.wf_base.specs.BaseOps.{Buffer, empty_buffer}

-- A receiver of a struct, by its number, and a null one.
abbrev pub receiver_of : ℕ → Receiver
receiver_of s = record { struct_number = s; null = false }

abbrev pub null_receiver_of : ℕ → Receiver
null_receiver_of s = record { struct_number = s; null = true }

-- What a host sees of a buffer: the bytes before `wi`, and where reading and writing stand.
abbrev pub open_buffer : (written : List ℕ) → (ri wi pos : ℕ) → SeenBuffer
open_buffer written ri wi pos = record { written = written; ri = ri; wi = wi; pos = pos; closed = false }

abbrev pub closed_buffer : (written : List ℕ) → (ri wi pos : ℕ) → SeenBuffer
closed_buffer written ri wi pos = record { written = written; ri = ri; wi = wi; pos = pos; closed = true }

-- A number in two pieces, in a buffer with room for it.
abbrev pub one_piece_receivers : List Receiver
one_piece_receivers = receiver_of 0 ∷ []

abbrev pub one_piece_actions : List (HostAction Buffer)
one_piece_actions =
    replace (empty_buffer 16 ∷ []) []
    ∷ init 0 1000000
    ∷ put 0 (49 ∷ 50 ∷ [])
    ∷ call 0 1 (io (Some 0) ∷ []) 1000000
    ∷ put 0 (51 ∷ 0 ∷ [])
    ∷ call 0 1 (io (Some 0) ∷ []) 1000000
    ∷ call 0 0 [] 1000000
    ∷ []

abbrev pub one_piece_seen : List Seen
one_piece_seen =
    answered seen.nothing (open_buffer [] 0 0 0 ∷ []) []
    ∷ answered (seen.status []) (open_buffer [] 0 0 0 ∷ []) []
    ∷ answered seen.nothing (open_buffer (49 ∷ 50 ∷ []) 0 2 0 ∷ []) []
    ∷ answered (seen.status (codes "$base: short read")) (open_buffer (49 ∷ 50 ∷ []) 2 2 0 ∷ []) []
    ∷ answered seen.nothing (open_buffer (49 ∷ 50 ∷ 51 ∷ 0 ∷ []) 2 4 0 ∷ []) []
    ∷ answered (seen.status []) (open_buffer (49 ∷ 50 ∷ 51 ∷ 0 ∷ []) 4 4 0 ∷ []) []
    ∷ answered (seen.num 123) (open_buffer (49 ∷ 50 ∷ 51 ∷ 0 ∷ []) 4 4 0 ∷ []) []
    ∷ []

-- The same number byte by byte, in a buffer of one byte.
abbrev pub byte_by_byte_receivers : List Receiver
byte_by_byte_receivers = receiver_of 0 ∷ []

abbrev pub byte_by_byte_actions : List (HostAction Buffer)
byte_by_byte_actions =
    replace (empty_buffer 1 ∷ []) []
    ∷ init 0 1000000
    ∷ put 0 (49 ∷ [])
    ∷ call 0 1 (io (Some 0) ∷ []) 1000000
    ∷ compact 0
    ∷ put 0 (50 ∷ [])
    ∷ call 0 1 (io (Some 0) ∷ []) 1000000
    ∷ compact 0
    ∷ put 0 (51 ∷ [])
    ∷ call 0 1 (io (Some 0) ∷ []) 1000000
    ∷ compact 0
    ∷ put 0 (0 ∷ [])
    ∷ call 0 1 (io (Some 0) ∷ []) 1000000
    ∷ compact 0
    ∷ call 0 0 [] 1000000
    ∷ []

abbrev pub byte_by_byte_seen : List Seen
byte_by_byte_seen =
    answered seen.nothing (open_buffer [] 0 0 0 ∷ []) []
    ∷ answered (seen.status []) (open_buffer [] 0 0 0 ∷ []) []
    ∷ answered seen.nothing (open_buffer (49 ∷ []) 0 1 0 ∷ []) []
    ∷ answered (seen.status (codes "$base: short read")) (open_buffer (49 ∷ []) 1 1 0 ∷ []) []
    ∷ answered seen.nothing (open_buffer [] 0 0 1 ∷ []) []
    ∷ answered seen.nothing (open_buffer (50 ∷ []) 0 1 1 ∷ []) []
    ∷ answered (seen.status (codes "$base: short read")) (open_buffer (50 ∷ []) 1 1 1 ∷ []) []
    ∷ answered seen.nothing (open_buffer [] 0 0 2 ∷ []) []
    ∷ answered seen.nothing (open_buffer (51 ∷ []) 0 1 2 ∷ []) []
    ∷ answered (seen.status (codes "$base: short read")) (open_buffer (51 ∷ []) 1 1 2 ∷ []) []
    ∷ answered seen.nothing (open_buffer [] 0 0 3 ∷ []) []
    ∷ answered seen.nothing (open_buffer (0 ∷ []) 0 1 3 ∷ []) []
    ∷ answered (seen.status []) (open_buffer (0 ∷ []) 1 1 3 ∷ []) []
    ∷ answered seen.nothing (open_buffer [] 0 0 4 ∷ []) []
    ∷ answered (seen.num 123) (open_buffer [] 0 0 4 ∷ []) []
    ∷ []

-- The largest number, and one more, which disables its receiver until it is made ready again.
abbrev pub too_large_receivers : List Receiver
too_large_receivers = receiver_of 0 ∷ receiver_of 0 ∷ []

abbrev pub too_large_actions : List (HostAction Buffer)
too_large_actions =
    replace (empty_buffer 16 ∷ empty_buffer 16 ∷ []) []
    ∷ init 0 1000000
    ∷ init 1 1000000
    ∷ put 0 (52 ∷ 50 ∷ 57 ∷ 52 ∷ 57 ∷ 54 ∷ 55 ∷ 50 ∷ 57 ∷ 53 ∷ 0 ∷ [])
    ∷ call 0 1 (io (Some 0) ∷ []) 1000000
    ∷ call 0 0 [] 1000000
    ∷ put 1 (52 ∷ 50 ∷ 57 ∷ 52 ∷ 57 ∷ 54 ∷ 55 ∷ 50 ∷ 57 ∷ 54 ∷ 0 ∷ [])
    ∷ call 1 1 (io (Some 1) ∷ []) 1000000
    ∷ call 1 1 (io (Some 1) ∷ []) 1000000
    ∷ call 1 0 [] 1000000
    ∷ init 1 1000000
    ∷ call 1 0 [] 1000000
    ∷ []

abbrev pub too_large_seen : List Seen
too_large_seen =
    answered seen.nothing (open_buffer [] 0 0 0 ∷ open_buffer [] 0 0 0 ∷ []) []
    ∷ answered (seen.status []) (open_buffer [] 0 0 0 ∷ open_buffer [] 0 0 0 ∷ []) []
    ∷ answered (seen.status []) (open_buffer [] 0 0 0 ∷ open_buffer [] 0 0 0 ∷ []) []
    ∷ answered seen.nothing (open_buffer (52 ∷ 50 ∷ 57 ∷ 52 ∷ 57 ∷ 54 ∷ 55 ∷ 50 ∷ 57 ∷ 53 ∷ 0 ∷ []) 0 11 0 ∷ open_buffer [] 0 0 0 ∷ []) []
    ∷ answered (seen.status []) (open_buffer (52 ∷ 50 ∷ 57 ∷ 52 ∷ 57 ∷ 54 ∷ 55 ∷ 50 ∷ 57 ∷ 53 ∷ 0 ∷ []) 11 11 0 ∷ open_buffer [] 0 0 0 ∷ []) []
    ∷ answered (seen.num 4294967295) (open_buffer (52 ∷ 50 ∷ 57 ∷ 52 ∷ 57 ∷ 54 ∷ 55 ∷ 50 ∷ 57 ∷ 53 ∷ 0 ∷ []) 11 11 0 ∷ open_buffer [] 0 0 0 ∷ []) []
    ∷ answered seen.nothing (open_buffer (52 ∷ 50 ∷ 57 ∷ 52 ∷ 57 ∷ 54 ∷ 55 ∷ 50 ∷ 57 ∷ 53 ∷ 0 ∷ []) 11 11 0 ∷ open_buffer (52 ∷ 50 ∷ 57 ∷ 52 ∷ 57 ∷ 54 ∷ 55 ∷ 50 ∷ 57 ∷ 54 ∷ 0 ∷ []) 0 11 0 ∷ []) []
    ∷ answered (seen.status (codes "#demo: too large")) (open_buffer (52 ∷ 50 ∷ 57 ∷ 52 ∷ 57 ∷ 54 ∷ 55 ∷ 50 ∷ 57 ∷ 53 ∷ 0 ∷ []) 11 11 0 ∷ open_buffer (52 ∷ 50 ∷ 57 ∷ 52 ∷ 57 ∷ 54 ∷ 55 ∷ 50 ∷ 57 ∷ 54 ∷ 0 ∷ []) 10 11 0 ∷ []) []
    ∷ answered (seen.status (codes "#base: disabled by previous error")) (open_buffer (52 ∷ 50 ∷ 57 ∷ 52 ∷ 57 ∷ 54 ∷ 55 ∷ 50 ∷ 57 ∷ 53 ∷ 0 ∷ []) 11 11 0 ∷ open_buffer (52 ∷ 50 ∷ 57 ∷ 52 ∷ 57 ∷ 54 ∷ 55 ∷ 50 ∷ 57 ∷ 54 ∷ 0 ∷ []) 10 11 0 ∷ []) []
    ∷ answered (seen.num 429496729) (open_buffer (52 ∷ 50 ∷ 57 ∷ 52 ∷ 57 ∷ 54 ∷ 55 ∷ 50 ∷ 57 ∷ 53 ∷ 0 ∷ []) 11 11 0 ∷ open_buffer (52 ∷ 50 ∷ 57 ∷ 52 ∷ 57 ∷ 54 ∷ 55 ∷ 50 ∷ 57 ∷ 54 ∷ 0 ∷ []) 10 11 0 ∷ []) []
    ∷ answered (seen.status []) (open_buffer (52 ∷ 50 ∷ 57 ∷ 52 ∷ 57 ∷ 54 ∷ 55 ∷ 50 ∷ 57 ∷ 53 ∷ 0 ∷ []) 11 11 0 ∷ open_buffer (52 ∷ 50 ∷ 57 ∷ 52 ∷ 57 ∷ 54 ∷ 55 ∷ 50 ∷ 57 ∷ 54 ∷ 0 ∷ []) 10 11 0 ∷ []) []
    ∷ answered (seen.num 0) (open_buffer (52 ∷ 50 ∷ 57 ∷ 52 ∷ 57 ∷ 54 ∷ 55 ∷ 50 ∷ 57 ∷ 53 ∷ 0 ∷ []) 11 11 0 ∷ open_buffer (52 ∷ 50 ∷ 57 ∷ 52 ∷ 57 ∷ 54 ∷ 55 ∷ 50 ∷ 57 ∷ 54 ∷ 0 ∷ []) 10 11 0 ∷ []) []
    ∷ []

-- A receiver that was never made ready, and a null one.
abbrev pub not_ready_receivers : List Receiver
not_ready_receivers = receiver_of 0 ∷ null_receiver_of 0 ∷ []

abbrev pub not_ready_actions : List (HostAction Buffer)
not_ready_actions =
    replace (empty_buffer 4 ∷ []) []
    ∷ call 0 1 (io (Some 0) ∷ []) 1000000
    ∷ call 0 0 [] 1000000
    ∷ call 1 1 (io (Some 0) ∷ []) 1000000
    ∷ call 1 0 [] 1000000
    ∷ init 1 1000000
    ∷ []

abbrev pub not_ready_seen : List Seen
not_ready_seen =
    answered seen.nothing (open_buffer [] 0 0 0 ∷ []) []
    ∷ answered (seen.status (codes "#base: initialize not called")) (open_buffer [] 0 0 0 ∷ []) []
    ∷ answered (seen.num 0) (open_buffer [] 0 0 0 ∷ []) []
    ∷ answered (seen.status (codes "#base: bad receiver")) (open_buffer [] 0 0 0 ∷ []) []
    ∷ answered (seen.num 0) (open_buffer [] 0 0 0 ∷ []) []
    ∷ answered (seen.status (codes "#base: bad receiver")) (open_buffer [] 0 0 0 ∷ []) []
    ∷ []

-- A coroutine that goes on with another buffer, and a null buffer, which disables the receiver.
abbrev pub null_buffer_receivers : List Receiver
null_buffer_receivers = receiver_of 0 ∷ []

abbrev pub null_buffer_actions : List (HostAction Buffer)
null_buffer_actions =
    replace (empty_buffer 4 ∷ empty_buffer 4 ∷ []) []
    ∷ init 0 1000000
    ∷ put 0 (49 ∷ [])
    ∷ call 0 1 (io (Some 0) ∷ []) 1000000
    ∷ put 1 (50 ∷ 0 ∷ [])
    ∷ call 0 1 (io (Some 1) ∷ []) 1000000
    ∷ call 0 0 [] 1000000
    ∷ put 0 (51 ∷ [])
    ∷ call 0 1 (io (Some 0) ∷ []) 1000000
    ∷ call 0 1 (io None ∷ []) 1000000
    ∷ call 0 1 (io (Some 0) ∷ []) 1000000
    ∷ []

abbrev pub null_buffer_seen : List Seen
null_buffer_seen =
    answered seen.nothing (open_buffer [] 0 0 0 ∷ open_buffer [] 0 0 0 ∷ []) []
    ∷ answered (seen.status []) (open_buffer [] 0 0 0 ∷ open_buffer [] 0 0 0 ∷ []) []
    ∷ answered seen.nothing (open_buffer (49 ∷ []) 0 1 0 ∷ open_buffer [] 0 0 0 ∷ []) []
    ∷ answered (seen.status (codes "$base: short read")) (open_buffer (49 ∷ []) 1 1 0 ∷ open_buffer [] 0 0 0 ∷ []) []
    ∷ answered seen.nothing (open_buffer (49 ∷ []) 1 1 0 ∷ open_buffer (50 ∷ 0 ∷ []) 0 2 0 ∷ []) []
    ∷ answered (seen.status []) (open_buffer (49 ∷ []) 1 1 0 ∷ open_buffer (50 ∷ 0 ∷ []) 2 2 0 ∷ []) []
    ∷ answered (seen.num 12) (open_buffer (49 ∷ []) 1 1 0 ∷ open_buffer (50 ∷ 0 ∷ []) 2 2 0 ∷ []) []
    ∷ answered seen.nothing (open_buffer (49 ∷ 51 ∷ []) 1 2 0 ∷ open_buffer (50 ∷ 0 ∷ []) 2 2 0 ∷ []) []
    ∷ answered (seen.status (codes "$base: short read")) (open_buffer (49 ∷ 51 ∷ []) 2 2 0 ∷ open_buffer (50 ∷ 0 ∷ []) 2 2 0 ∷ []) []
    ∷ answered (seen.status (codes "#base: bad argument")) (open_buffer (49 ∷ 51 ∷ []) 2 2 0 ∷ open_buffer (50 ∷ 0 ∷ []) 2 2 0 ∷ []) []
    ∷ answered (seen.status (codes "#base: disabled by previous error")) (open_buffer (49 ∷ 51 ∷ []) 2 2 0 ∷ open_buffer (50 ∷ 0 ∷ []) 2 2 0 ∷ []) []
    ∷ []

-- A call of one coroutine while another one is active disables its receiver, and no other.
abbrev pub interleaved_calls_receivers : List Receiver
interleaved_calls_receivers = receiver_of 0 ∷ receiver_of 0 ∷ []

abbrev pub interleaved_calls_actions : List (HostAction Buffer)
interleaved_calls_actions =
    replace (empty_buffer 4 ∷ []) []
    ∷ init 0 1000000
    ∷ init 1 1000000
    ∷ put 0 (0 ∷ [])
    ∷ call 0 0 (io (Some 0) ∷ []) 1000000
    ∷ call 1 0 (io (Some 0) ∷ []) 1000000
    ∷ call 0 1 (io (Some 0) ∷ []) 1000000
    ∷ call 0 0 (io (Some 0) ∷ []) 1000000
    ∷ put 0 (0 ∷ 0 ∷ [])
    ∷ call 1 0 (io (Some 0) ∷ []) 1000000
    ∷ []

abbrev pub interleaved_calls_seen : List Seen
interleaved_calls_seen =
    answered seen.nothing (open_buffer [] 0 0 0 ∷ []) []
    ∷ answered (seen.status []) (open_buffer [] 0 0 0 ∷ []) []
    ∷ answered (seen.status []) (open_buffer [] 0 0 0 ∷ []) []
    ∷ answered seen.nothing (open_buffer (0 ∷ []) 0 1 0 ∷ []) []
    ∷ answered (seen.status (codes "$base: short read")) (open_buffer (0 ∷ []) 1 1 0 ∷ []) []
    ∷ answered (seen.status (codes "$base: short read")) (open_buffer (0 ∷ []) 1 1 0 ∷ []) []
    ∷ answered (seen.status (codes "#base: interleaved coroutine calls")) (open_buffer (0 ∷ []) 1 1 0 ∷ []) []
    ∷ answered (seen.status (codes "#base: disabled by previous error")) (open_buffer (0 ∷ []) 1 1 0 ∷ []) []
    ∷ answered seen.nothing (open_buffer (0 ∷ 0 ∷ 0 ∷ []) 1 3 0 ∷ []) []
    ∷ answered (seen.status []) (open_buffer (0 ∷ 0 ∷ 0 ∷ []) 3 3 0 ∷ []) []
    ∷ []

-- A private coroutine outlives its caller, and goes on in a call of another method.
abbrev pub outliving_receivers : List Receiver
outliving_receivers = receiver_of 0 ∷ []

abbrev pub outliving_actions : List (HostAction Buffer)
outliving_actions =
    replace (empty_buffer 4 ∷ []) []
    ∷ init 0 1000000
    ∷ put 0 (5 ∷ [])
    ∷ call 0 1 (io (Some 0) ∷ []) 1000000
    ∷ call 0 3 [] 1000000
    ∷ put 0 (7 ∷ [])
    ∷ call 0 2 (io (Some 0) ∷ []) 1000000
    ∷ call 0 3 [] 1000000
    ∷ []

abbrev pub outliving_seen : List Seen
outliving_seen =
    answered seen.nothing (open_buffer [] 0 0 0 ∷ []) []
    ∷ answered (seen.status []) (open_buffer [] 0 0 0 ∷ []) []
    ∷ answered seen.nothing (open_buffer (5 ∷ []) 0 1 0 ∷ []) []
    ∷ answered (seen.status []) (open_buffer (5 ∷ []) 1 1 0 ∷ []) []
    ∷ answered (seen.num 5) (open_buffer (5 ∷ []) 1 1 0 ∷ []) []
    ∷ answered seen.nothing (open_buffer (5 ∷ 7 ∷ []) 1 2 0 ∷ []) []
    ∷ answered (seen.status []) (open_buffer (5 ∷ 7 ∷ []) 2 2 0 ∷ []) []
    ∷ answered (seen.num 12) (open_buffer (5 ∷ 7 ∷ []) 2 2 0 ∷ []) []
    ∷ []

-- A number of four bytes that come in pieces: it keeps those that it has.
abbrev pub word_in_pieces_receivers : List Receiver
word_in_pieces_receivers = receiver_of 0 ∷ []

abbrev pub word_in_pieces_actions : List (HostAction Buffer)
word_in_pieces_actions =
    replace (empty_buffer 4 ∷ []) []
    ∷ init 0 1000000
    ∷ put 0 (1 ∷ [])
    ∷ call 0 0 (io (Some 0) ∷ []) 1000000
    ∷ call 0 0 (io (Some 0) ∷ []) 1000000
    ∷ put 0 (2 ∷ 3 ∷ [])
    ∷ call 0 0 (io (Some 0) ∷ []) 1000000
    ∷ put 0 (4 ∷ [])
    ∷ call 0 0 (io (Some 0) ∷ []) 1000000
    ∷ call 0 1 [] 1000000
    ∷ []

abbrev pub word_in_pieces_seen : List Seen
word_in_pieces_seen =
    answered seen.nothing (open_buffer [] 0 0 0 ∷ []) []
    ∷ answered (seen.status []) (open_buffer [] 0 0 0 ∷ []) []
    ∷ answered seen.nothing (open_buffer (1 ∷ []) 0 1 0 ∷ []) []
    ∷ answered (seen.status (codes "$base: short read")) (open_buffer (1 ∷ []) 1 1 0 ∷ []) []
    ∷ answered (seen.status (codes "$base: short read")) (open_buffer (1 ∷ []) 1 1 0 ∷ []) []
    ∷ answered seen.nothing (open_buffer (1 ∷ 2 ∷ 3 ∷ []) 1 3 0 ∷ []) []
    ∷ answered (seen.status (codes "$base: short read")) (open_buffer (1 ∷ 2 ∷ 3 ∷ []) 3 3 0 ∷ []) []
    ∷ answered seen.nothing (open_buffer (1 ∷ 2 ∷ 3 ∷ 4 ∷ []) 3 4 0 ∷ []) []
    ∷ answered (seen.status []) (open_buffer (1 ∷ 2 ∷ 3 ∷ 4 ∷ []) 4 4 0 ∷ []) []
    ∷ answered (seen.num 67305985) (open_buffer (1 ∷ 2 ∷ 3 ∷ 4 ∷ []) 4 4 0 ∷ []) []
    ∷ []

-- The arguments of a call that goes on are those of the resuming call.
abbrev pub anew_receivers : List Receiver
anew_receivers = receiver_of 0 ∷ []

abbrev pub anew_actions : List (HostAction Buffer)
anew_actions =
    replace (empty_buffer 4 ∷ []) []
    ∷ init 0 1000000
    ∷ put 0 (0 ∷ [])
    ∷ call 0 1 (io (Some 0) ∷ num 3 ∷ []) 1000000
    ∷ put 0 (0 ∷ [])
    ∷ call 0 1 (io (Some 0) ∷ num 5 ∷ []) 1000000
    ∷ call 0 2 [] 1000000
    ∷ []

abbrev pub anew_seen : List Seen
anew_seen =
    answered seen.nothing (open_buffer [] 0 0 0 ∷ []) []
    ∷ answered (seen.status []) (open_buffer [] 0 0 0 ∷ []) []
    ∷ answered seen.nothing (open_buffer (0 ∷ []) 0 1 0 ∷ []) []
    ∷ answered (seen.status (codes "$base: short read")) (open_buffer (0 ∷ []) 1 1 0 ∷ []) []
    ∷ answered seen.nothing (open_buffer (0 ∷ 0 ∷ []) 1 2 0 ∷ []) []
    ∷ answered (seen.status []) (open_buffer (0 ∷ 0 ∷ []) 2 2 0 ∷ []) []
    ∷ answered (seen.num 6) (open_buffer (0 ∷ 0 ∷ []) 2 2 0 ∷ []) []
    ∷ []

-- A field of struct type: its calls pass the entry table, and an interleaved one disables the field alone.
abbrev pub inside_receivers : List Receiver
inside_receivers = receiver_of 1 ∷ receiver_of 1 ∷ []

abbrev pub inside_actions : List (HostAction Buffer)
inside_actions =
    replace (empty_buffer 4 ∷ empty_buffer 4 ∷ []) []
    ∷ init 0 1000000
    ∷ call 0 3 (io (Some 0) ∷ []) 1000000
    ∷ put 0 (9 ∷ [])
    ∷ call 0 3 (io (Some 0) ∷ []) 1000000
    ∷ call 0 5 [] 1000000
    ∷ init 1 1000000
    ∷ call 1 4 (io (Some 1) ∷ []) 1000000
    ∷ call 1 3 (io (Some 1) ∷ []) 1000000
    ∷ call 1 4 (io (Some 1) ∷ []) 1000000
    ∷ call 1 5 [] 1000000
    ∷ []

abbrev pub inside_seen : List Seen
inside_seen =
    answered seen.nothing (open_buffer [] 0 0 0 ∷ open_buffer [] 0 0 0 ∷ []) []
    ∷ answered (seen.status []) (open_buffer [] 0 0 0 ∷ open_buffer [] 0 0 0 ∷ []) []
    ∷ answered (seen.status (codes "$base: short read")) (open_buffer [] 0 0 0 ∷ open_buffer [] 0 0 0 ∷ []) []
    ∷ answered seen.nothing (open_buffer (9 ∷ []) 0 1 0 ∷ open_buffer [] 0 0 0 ∷ []) []
    ∷ answered (seen.status []) (open_buffer (9 ∷ []) 1 1 0 ∷ open_buffer [] 0 0 0 ∷ []) []
    ∷ answered (seen.num 9) (open_buffer (9 ∷ []) 1 1 0 ∷ open_buffer [] 0 0 0 ∷ []) []
    ∷ answered (seen.status []) (open_buffer (9 ∷ []) 1 1 0 ∷ open_buffer [] 0 0 0 ∷ []) []
    ∷ answered (seen.status []) (open_buffer (9 ∷ []) 1 1 0 ∷ open_buffer [] 0 0 0 ∷ []) []
    ∷ answered (seen.status (codes "#base: disabled by previous error")) (open_buffer (9 ∷ []) 1 1 0 ∷ open_buffer [] 0 0 0 ∷ []) []
    ∷ answered (seen.status (codes "#base: disabled by previous error")) (open_buffer (9 ∷ []) 1 1 0 ∷ open_buffer [] 0 0 0 ∷ []) []
    ∷ answered (seen.num 0) (open_buffer (9 ∷ []) 1 1 0 ∷ open_buffer [] 0 0 0 ∷ []) []
    ∷ []

-- Copies to an empty slice, and to a writer with room for one byte.
abbrev pub copying_receivers : List Receiver
copying_receivers = receiver_of 0 ∷ []

abbrev pub copying_actions : List (HostAction Buffer)
copying_actions =
    replace (empty_buffer 1 ∷ []) ((1 ∷ 2 ∷ []) ∷ [])
    ∷ init 0 1000000
    ∷ call 0 0 (bytes None ∷ []) 1000000
    ∷ call 0 0 (bytes (Some 0) ∷ []) 1000000
    ∷ call 0 1 (io (Some 0) ∷ bytes None ∷ []) 1000000
    ∷ call 0 1 (io (Some 0) ∷ bytes (Some 0) ∷ []) 1000000
    ∷ []

abbrev pub copying_seen : List Seen
copying_seen =
    answered seen.nothing (open_buffer [] 0 0 0 ∷ []) ((1 ∷ 2 ∷ []) ∷ [])
    ∷ answered (seen.status []) (open_buffer [] 0 0 0 ∷ []) ((1 ∷ 2 ∷ []) ∷ [])
    ∷ answered (seen.num 0) (open_buffer [] 0 0 0 ∷ []) ((1 ∷ 2 ∷ []) ∷ [])
    ∷ answered (seen.num 0) (open_buffer [] 0 0 0 ∷ []) ((1 ∷ 2 ∷ []) ∷ [])
    ∷ answered (seen.num 0) (open_buffer [] 0 0 0 ∷ []) ((1 ∷ 2 ∷ []) ∷ [])
    ∷ answered (seen.num 1) (open_buffer (1 ∷ []) 0 1 0 ∷ []) ((1 ∷ 2 ∷ []) ∷ [])
    ∷ []

-- A `break` that leaves two loops.
abbrev pub leaving_two_receivers : List Receiver
leaving_two_receivers = receiver_of 0 ∷ []

abbrev pub leaving_two_actions : List (HostAction Buffer)
leaving_two_actions =
    replace (empty_buffer 4 ∷ []) []
    ∷ init 0 1000000
    ∷ put 0 (1 ∷ [])
    ∷ call 0 0 (io (Some 0) ∷ []) 1000000
    ∷ put 0 (0 ∷ [])
    ∷ call 0 0 (io (Some 0) ∷ []) 1000000
    ∷ call 0 1 [] 1000000
    ∷ []

abbrev pub leaving_two_seen : List Seen
leaving_two_seen =
    answered seen.nothing (open_buffer [] 0 0 0 ∷ []) []
    ∷ answered (seen.status []) (open_buffer [] 0 0 0 ∷ []) []
    ∷ answered seen.nothing (open_buffer (1 ∷ []) 0 1 0 ∷ []) []
    ∷ answered (seen.status (codes "$base: short read")) (open_buffer (1 ∷ []) 1 1 0 ∷ []) []
    ∷ answered seen.nothing (open_buffer (1 ∷ 0 ∷ []) 1 2 0 ∷ []) []
    ∷ answered (seen.status []) (open_buffer (1 ∷ 0 ∷ []) 2 2 0 ∷ []) []
    ∷ answered (seen.num 7) (open_buffer (1 ∷ 0 ∷ []) 2 2 0 ∷ []) []
    ∷ []

-- A suspension that is returned is an error, and so is an argument outside its refinement.
abbrev pub no_suspension_receivers : List Receiver
no_suspension_receivers = receiver_of 0 ∷ receiver_of 0 ∷ []

abbrev pub no_suspension_actions : List (HostAction Buffer)
no_suspension_actions =
    replace (empty_buffer 4 ∷ empty_buffer 4 ∷ []) []
    ∷ init 0 1000000
    ∷ init 1 1000000
    ∷ close 0
    ∷ call 0 1 (io (Some 0) ∷ num 0 ∷ []) 1000000
    ∷ call 0 1 (io (Some 0) ∷ num 0 ∷ []) 1000000
    ∷ put 1 (0 ∷ [])
    ∷ call 1 1 (io (Some 1) ∷ num 9 ∷ []) 1000000
    ∷ call 1 1 (io (Some 1) ∷ num 10 ∷ []) 1000000
    ∷ call 1 1 (io (Some 1) ∷ num 9 ∷ []) 1000000
    ∷ []

abbrev pub no_suspension_seen : List Seen
no_suspension_seen =
    answered seen.nothing (open_buffer [] 0 0 0 ∷ open_buffer [] 0 0 0 ∷ []) []
    ∷ answered (seen.status []) (open_buffer [] 0 0 0 ∷ open_buffer [] 0 0 0 ∷ []) []
    ∷ answered (seen.status []) (open_buffer [] 0 0 0 ∷ open_buffer [] 0 0 0 ∷ []) []
    ∷ answered seen.nothing (closed_buffer [] 0 0 0 ∷ open_buffer [] 0 0 0 ∷ []) []
    ∷ answered (seen.status (codes "#base: cannot return a suspension")) (closed_buffer [] 0 0 0 ∷ open_buffer [] 0 0 0 ∷ []) []
    ∷ answered (seen.status (codes "#base: disabled by previous error")) (closed_buffer [] 0 0 0 ∷ open_buffer [] 0 0 0 ∷ []) []
    ∷ answered seen.nothing (closed_buffer [] 0 0 0 ∷ open_buffer (0 ∷ []) 0 1 0 ∷ []) []
    ∷ answered (seen.status (codes "@base: end of data")) (closed_buffer [] 0 0 0 ∷ open_buffer (0 ∷ []) 1 1 0 ∷ []) []
    ∷ answered (seen.status (codes "#base: bad argument")) (closed_buffer [] 0 0 0 ∷ open_buffer (0 ∷ []) 1 1 0 ∷ []) []
    ∷ answered (seen.status (codes "#base: disabled by previous error")) (closed_buffer [] 0 0 0 ∷ open_buffer (0 ∷ []) 1 1 0 ∷ []) []
    ∷ []

-- A loop of nine ways back takes ten turns with its entry, and one more is too many.
abbrev pub counting_receivers : List Receiver
counting_receivers = receiver_of 0 ∷ []

abbrev pub counting_actions : List (HostAction Buffer)
counting_actions =
    replace [] []
    ∷ init 0 1000000
    ∷ call 0 0 (num 9 ∷ []) 10
    ∷ call 0 0 (num 10 ∷ []) 10
    ∷ []

abbrev pub counting_seen : List Seen
counting_seen =
    answered seen.nothing [] []
    ∷ answered (seen.status []) [] []
    ∷ answered (seen.num 9) [] []
    ∷ turns
    ∷ []
