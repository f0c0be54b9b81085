-- The base operations: what the base methods and the host do with a buffer, and what copies do with lists.
use Rattle.std.specs.Prelude.{ℕ, ◌+◌, ◌-◌, ◌*◌, ◌^◌, ◌<◌, ◌≤◌, min, nat_lt, nat_le, ◌&&◌, Bool, true, false, List, [], ◌∷◌, ◌++◌, length, take, drop, reverse, replicate, slice_get, slice_range, slice_set, Option, All, if◌then◌else◌}
use Rattle.wf_text.specs.Seen.{SeenBuffer}

-- `cells` are all bytes of the buffer, as many as it can hold. Those before `ri` were read, those from `ri` to
-- `wi` were written and not yet read, and those from `wi` on are free. `pos` tells how many bytes stood before
-- the first cell in the stream that goes through the buffer. Nothing is written once it is `closed`.
pub record Buffer : Type 0 where
  pub cells : List ℕ
  pub ri : ℕ
  pub wi : ℕ
  pub pos : ℕ
  pub closed : Bool

abbrev pub capacity : Buffer → ℕ
capacity buffer = length buffer.cells

abbrev pub AreBytes : List ℕ → Type 0
AreBytes cells = All (λ cell. cell < 2 ^ 8) cells

-- What holds of every buffer. The two counts have 64 bits.
pub record IsLawful (buffer : Buffer) : Type 0 where
  pub read : buffer.ri ≤ buffer.wi
  pub written : buffer.wi ≤ capacity buffer
  pub bytes : AreBytes buffer.cells
  pub size : capacity buffer < 2 ^ 64
  pub counted : buffer.pos < 2 ^ 64

-- A buffer as it is made: every cell is 0 and nothing is written.
abbrev pub empty_buffer : (size : ℕ) → Buffer
empty_buffer size = record { cells = replicate size 0; ri = 0; wi = 0; pos = 0; closed = false }

-- Places in a stream end at the largest number of 64 bits.
abbrev pub capped : ℕ → ℕ
capped n = min n (2 ^ 64 - 1)

-- Reading.

abbrev pub unread : Buffer → List ℕ
unread buffer = slice_range buffer.cells buffer.ri buffer.wi

abbrev pub reader_length : Buffer → ℕ
reader_length buffer = buffer.wi - buffer.ri

abbrev pub reader_position : Buffer → ℕ
reader_position buffer = capped (buffer.pos + buffer.ri)

-- The unread byte with this number, from 0.
abbrev pub unread_at : ℕ → Buffer → Option ℕ
unread_at k buffer = slice_get (unread buffer) k

-- The bytes that are got where `count` are wanted: all unread ones where they are fewer.
abbrev pub taken : (count : ℕ) → Buffer → List ℕ
taken count buffer = take count (unread buffer)

-- And the buffer after that, with `ri` after all bytes taken.
abbrev pub skipped : (count : ℕ) → Buffer → Buffer
skipped count buffer = record buffer { ri = buffer.ri + min count (reader_length buffer) }

-- How many bytes a skip still has to take after those: 0 where it is done.
abbrev pub left_to_skip : (count : ℕ) → Buffer → ℕ
left_to_skip count buffer = count - reader_length buffer

-- `worst_case` bytes are unread, and no more than those are to be taken.
abbrev pub can_skip_fast : (actual worst_case : ℕ) → Buffer → Bool
can_skip_fast actual worst_case buffer = nat_le actual worst_case && nat_le worst_case (reader_length buffer)

-- The number that bytes spell, the lowest first.
abbrev pub little_endian : List ℕ → ℕ
little_endian [] = 0
little_endian (byte ∷ bytes) = byte + 2 ^ 8 * little_endian bytes

-- The number that bytes spell, the highest first.
abbrev pub big_endian : List ℕ → ℕ
big_endian bytes = little_endian (reverse bytes)

-- What a peek of `count` bytes sees; it takes nothing.
abbrev pub peeked : (count : ℕ) → Buffer → ℕ
peeked count buffer = little_endian (taken count buffer)

-- Writing.

-- The cells with `bytes` in place of those from `at` on.
abbrev pub overwritten : {X : Type 0} → (at : ℕ) → (bytes cells : List X) → List X
overwritten at bytes cells = take at cells ++ (bytes ++ drop (at + length bytes) cells)

-- How many bytes can be written: none where it is closed.
abbrev pub writer_length : Buffer → ℕ
writer_length buffer = if buffer.closed then 0 else capacity buffer - buffer.wi

-- A byte can be written.
abbrev pub has_room : Buffer → Bool
has_room buffer = nat_lt 0 (writer_length buffer)

abbrev pub writer_position : Buffer → ℕ
writer_position buffer = capped (buffer.pos + buffer.wi)

-- Bytes stand from `wi` on, which moves after them; for bytes that fit.
abbrev pub appended : List ℕ → Buffer → Buffer
appended bytes buffer = record buffer { cells = overwritten buffer.wi bytes buffer.cells; wi = buffer.wi + length bytes }

-- How many of the bytes fit.
abbrev pub put_count : List ℕ → Buffer → ℕ
put_count bytes buffer = min (length bytes) (writer_length buffer)

-- The first bytes are appended, as many as fit. This is the host's `put`, and a copy from a slice to a writer.
abbrev pub put : List ℕ → Buffer → Buffer
put bytes buffer = appended (take (writer_length buffer) bytes) buffer

-- Copies.

-- The `count` elements from number `from` on, which a slice is.
abbrev pub elements : {X : Type 0} → (from count : ℕ) → (cells : List X) → List X
elements from count cells = take count (drop from cells)

-- A copy to the `count` elements from number `from` on: the first elements of the source, as many as the shorter has.
-- They are those that the source has before, where it is a part of the same cells too.
abbrev pub copied : {X : Type 0} → (from count : ℕ) → (source cells : List X) → List X
copied from count source cells = overwritten from (take count source) cells

-- What a host does with a buffer besides.

abbrev pub close : Buffer → Buffer
close buffer = record buffer { closed = true }

-- The unread bytes move to the front, and every other cell stays.
abbrev pub compact : Buffer → Buffer
compact buffer = record buffer { cells = overwritten 0 (unread buffer) buffer.cells; ri = 0; wi = reader_length buffer; pos = capped (buffer.pos + buffer.ri) }

-- One cell, and the counts, are set.
abbrev pub with_cell : (k byte : ℕ) → Buffer → Buffer
with_cell k byte buffer = record buffer { cells = slice_set buffer.cells k byte }

abbrev pub placed : (ri wi pos : ℕ) → (closed : Bool) → Buffer → Buffer
placed ri wi pos closed buffer = record { cells = buffer.cells; ri = ri; wi = wi; pos = pos; closed = closed }

-- What a host sees of a buffer.
abbrev pub seen_buffer : Buffer → SeenBuffer
seen_buffer buffer = record { written = take buffer.wi buffer.cells; ri = buffer.ri; wi = buffer.wi; pos = buffer.pos; closed = buffer.closed }
