-- The base methods that are statements, at worked values: what each step comes to where there are bytes and room, and
-- where there are not.
use Rattle.std.proofs.Common.{◌≡◌, ℕ, ◌-◌, ◌^◌, false, List, [], ◌∷◌, Option, Some, None, refl}
use Rattle.turns.specs.Run.{Go, End}
use Rattle.wf_base.specs.declared.marks.Mark.TheVariants.{Coroutine}
use Rattle.wf_base.specs.declared.base_methods.ReadForm.{ReadForm}
use Rattle.wf_base.specs.declared.base_methods.ReadForm.TheVariants.{ReadU8, ReadU16Be, ReadU16Le, ReadU32Be, ReadU32Le, ReadU64Be, ReadU64Le}
use Rattle.wf_base.specs.BaseOps.{Buffer, empty_buffer, put, close, skipped}
use Rattle.wf_ast.specs.TypedTree.{local, number, SliceTree, slice, Target, to_number, to_nothing, Awaited, take_number, skip, write, Written, skip_fast, write_fast, copy_to_writer, copy_to_slice, give_back, Block, end, plain}
use Rattle.wf_ast.specs.Value.{Value, num, span, buffer, host_array}
use Rattle.wf_meaning.specs.Examples.{on, site}
use Rattle.wf_meaning.specs.Packages.{two}
use Rattle.wf_meaning.specs.SourceState.{stop, Done, untouched, has_bytes, to_skip, to_write}
use Rattle.wf_meaning.specs.Entry.{short_read, short_write}
use Rattle.wf_meaning.specs.World.{Body, World, Vars}
use Rattle.wf_meaning.specs.SourceStep.{Steps, suspends, with_some, either, at_block, awaited, performed}

-- A body whose only argument is a buffer. It has a local for numbers, and two slices of the byte array 1 to 5: one of
-- its first bytes, and one of as many from its second byte on.
abbrev body : Body
body =
    record { within = two; object = 0; method = record { name = []; of = 0; public = false; mark = Coroutine; args = []; locals = []; gives = None; body = end }; args = buffer 0 ∷ [] }

abbrev world_with : Buffer → (cells : List ℕ) → World
world_with it cells = record { objects = []; host = record { buffers = it ∷ []; arrays = cells ∷ [] } }

abbrev slices : (first second : ℕ) → List Value
slices first second = span (record { store = host_array 0; from = 0; count = first }) ∷ span (record { store = host_array 0; from = 1; count = second }) ∷ []

abbrev five : List ℕ
five = 1 ∷ 2 ∷ 3 ∷ 4 ∷ 5 ∷ []

abbrev to_the_local : Target
to_the_local = to_number (on 1 1) (record { bits = 64; low = 0; high = 2 ^ 64 - 1 }) (local 0)

-- The statement itself, which stays first where it suspends.
abbrev here : Block
here = plain (site 0 1 1) (give_back None) end

-- Buffers: bytes 1 to 8 and a free cell, and one byte of one.
abbrev eight : Buffer
eight = put (1 ∷ 2 ∷ 3 ∷ 4 ∷ 5 ∷ 6 ∷ 7 ∷ 8 ∷ []) (empty_buffer 9)

abbrev one : Buffer
one = put (1 ∷ []) (empty_buffer 1)

-- A base method that may suspend, called with this number left of an earlier turn.
abbrev awaits : Buffer → Target → Awaited → Done → Steps
awaits it target call done = awaited body 5 target 0 it call done here end stop (record { locals = num 0 ∷ []; world = world_with it [] })

-- What follows comes next, with this number in the local; or it suspends, with this done.
abbrev goes_on : (n : ℕ) → Buffer → Steps
goes_on n it = Go (at_block end stop (record { locals = num n ∷ []; world = world_with it [] }))

abbrev waits : (status : ℕ) → Done → Buffer → Steps
waits status done it = End 5 (suspends status (record { done = done; block = here; behind = stop; locals = num 0 ∷ [] }), world_with it [])

-- Reads: all of the number is there; its bytes end first; and it goes on with the others.
abbrev Reads : ReadForm → (n : ℕ) → (count : ℕ) → Type 0
Reads form n count = awaits eight to_the_local (take_number form) untouched ≡ goes_on n (skipped count eight)

abbrev Lacks : ReadForm → Type 0
Lacks form = awaits one to_the_local (take_number form) untouched ≡ waits short_read (has_bytes (1 ∷ [])) (skipped 1 one)

abbrev GoesOn : ReadForm → (kept : List ℕ) → (n : ℕ) → (count : ℕ) → Type 0
GoesOn form kept n count = awaits eight to_the_local (take_number form) (has_bytes kept) ≡ goes_on n (skipped count eight)

reads_u8 : Reads ReadU8 1 1
unfolding with_some either
reads_u8 = refl

lacks_u8 : awaits (empty_buffer 1) to_the_local (take_number ReadU8) untouched ≡ waits short_read (has_bytes []) (empty_buffer 1)
unfolding with_some either
lacks_u8 = refl

lacks_u8_in_closed : awaits (close (empty_buffer 0)) to_the_local (take_number ReadU8) untouched ≡ waits short_read (has_bytes []) (close (empty_buffer 0))
unfolding with_some either
lacks_u8_in_closed = refl

goes_on_with_u8 : GoesOn ReadU8 [] 1 1
unfolding with_some either
goes_on_with_u8 = refl

reads_u16be : Reads ReadU16Be 258 2
unfolding with_some either
reads_u16be = refl

lacks_u16be : Lacks ReadU16Be
unfolding with_some either
lacks_u16be = refl

goes_on_with_u16be : GoesOn ReadU16Be (9 ∷ []) 2305 1
unfolding with_some either
goes_on_with_u16be = refl

reads_u16le : Reads ReadU16Le 513 2
unfolding with_some either
reads_u16le = refl

lacks_u16le : Lacks ReadU16Le
unfolding with_some either
lacks_u16le = refl

goes_on_with_u16le : GoesOn ReadU16Le (9 ∷ []) 265 1
unfolding with_some either
goes_on_with_u16le = refl

reads_u32be : Reads ReadU32Be 16909060 4
unfolding with_some either
reads_u32be = refl

lacks_u32be : Lacks ReadU32Be
unfolding with_some either
lacks_u32be = refl

goes_on_with_u32be : GoesOn ReadU32Be (9 ∷ []) 151060995 3
unfolding with_some either
goes_on_with_u32be = refl

reads_u32le : Reads ReadU32Le 67305985 4
unfolding with_some either
reads_u32le = refl

lacks_u32le : Lacks ReadU32Le
unfolding with_some either
lacks_u32le = refl

goes_on_with_u32le : GoesOn ReadU32Le (9 ∷ []) 50462985 3
unfolding with_some either
goes_on_with_u32le = refl

reads_u64be : Reads ReadU64Be 72623859790382856 8
unfolding with_some either
reads_u64be = refl

lacks_u64be : Lacks ReadU64Be
unfolding with_some either
lacks_u64be = refl

goes_on_with_u64be : GoesOn ReadU64Be (9 ∷ []) 648802033293657607 7
unfolding with_some either
goes_on_with_u64be = refl

reads_u64le : Reads ReadU64Le 578437695752307201 8
unfolding with_some either
reads_u64le = refl

lacks_u64le : Lacks ReadU64Le
unfolding with_some either
lacks_u64le = refl

goes_on_with_u64le : GoesOn ReadU64Le (9 ∷ []) 506097522914230537 7
unfolding with_some either
goes_on_with_u64le = refl

-- Nothing comes in a turn: what was kept stays.
stays_short : awaits (skipped 1 one) to_the_local (take_number ReadU32Le) (has_bytes (1 ∷ 2 ∷ [])) ≡ waits short_read (has_bytes (1 ∷ 2 ∷ [])) (skipped 1 one)
unfolding with_some either
stays_short = refl

-- Skips.
abbrev skipping : ℕ → Awaited
skipping n = skip (number (on 1 1) n)

skips_nothing : awaits (empty_buffer 0) to_nothing (skipping 0) untouched ≡ goes_on 0 (empty_buffer 0)
unfolding with_some either
skips_nothing = refl

skips_within : awaits eight to_nothing (skipping 3) untouched ≡ goes_on 0 (skipped 3 eight)
unfolding with_some either
skips_within = refl

skips_all : awaits eight to_nothing (skipping 8) untouched ≡ goes_on 0 (skipped 8 eight)
unfolding with_some either
skips_all = refl

skips_beyond : awaits eight to_nothing (skipping 11) untouched ≡ waits short_read (to_skip 3) (skipped 8 eight)
unfolding with_some either
skips_beyond = refl

-- It goes on with the rest that it kept, whatever its argument then is.
skips_the_rest : awaits eight to_nothing (skipping 100) (to_skip 3) ≡ goes_on 0 (skipped 3 eight)
unfolding with_some either
skips_the_rest = refl

-- Writes.
abbrev writing : ℕ → Awaited
writing byte = write (number (on 1 1) byte)

writes : awaits (empty_buffer 1) to_nothing (writing 1) untouched ≡ goes_on 0 one
unfolding with_some either
writes = refl

waits_in_full : awaits one to_nothing (writing 255) untouched ≡ waits short_write (to_write 255) one
unfolding with_some either
waits_in_full = refl

waits_in_closed : awaits (close eight) to_nothing (writing 9) untouched ≡ waits short_write (to_write 9) (close eight)
unfolding with_some either
waits_in_closed = refl

waits_without_cells : awaits (empty_buffer 0) to_nothing (writing 0) untouched ≡ waits short_write (to_write 0) (empty_buffer 0)
unfolding with_some either
waits_without_cells = refl

-- The byte that it kept is written, whatever its argument then is.
writes_what_was_kept : awaits eight to_nothing (writing 100) (to_write 9) ≡ goes_on 0 (put (9 ∷ []) eight)
unfolding with_some either
writes_what_was_kept = refl

-- Base methods that don't suspend. Each leaves a local, a buffer and a byte array, or is stuck.
abbrev performs : Buffer → (first second : ℕ) → Target → Written → Option Vars
performs it first second target call = performed body target call (record { locals = num 0 ∷ slices first second; world = world_with it five })

abbrev leaves : Buffer → (first second : ℕ) → (n : ℕ) → (cells : List ℕ) → Option Vars
leaves it first second n cells = Some (record { locals = num n ∷ slices first second; world = world_with it cells })

abbrev skipping_fast : (actual worst_case : ℕ) → Written
skipping_fast actual worst_case = skip_fast 0 (number (on 1 1) actual) (number (on 1 2) worst_case)

skips_fast : performs eight 3 3 to_nothing (skipping_fast 2 5) ≡ leaves (skipped 2 eight) 3 3 0 five
skips_fast = refl

skips_fast_nothing : performs eight 3 3 to_nothing (skipping_fast 0 8) ≡ leaves eight 3 3 0 five
skips_fast_nothing = refl

skips_fast_the_worst : performs eight 3 3 to_nothing (skipping_fast 8 8) ≡ leaves (skipped 8 eight) 3 3 0 five
skips_fast_the_worst = refl

skips_fast_at_the_end : performs (skipped 8 eight) 3 3 to_nothing (skipping_fast 0 0) ≡ leaves (skipped 8 eight) 3 3 0 five
skips_fast_at_the_end = refl

is_stuck_beyond_the_worst : performs eight 3 3 to_nothing (skipping_fast 3 2) ≡ None
is_stuck_beyond_the_worst = refl

is_stuck_beyond_the_bytes : performs eight 3 3 to_nothing (skipping_fast 0 9) ≡ None
is_stuck_beyond_the_bytes = refl

writes_fast : performs eight 3 3 to_nothing (write_fast 0 (number (on 1 1) 9)) ≡ leaves (put (9 ∷ []) eight) 3 3 0 five
writes_fast = refl

is_stuck_in_full : performs one 3 3 to_nothing (write_fast 0 (number (on 1 1) 9)) ≡ None
is_stuck_in_full = refl

is_stuck_in_closed : performs (close eight) 3 3 to_nothing (write_fast 0 (number (on 1 1) 9)) ≡ None
is_stuck_in_closed = refl

-- Copies. The two slices are parts of one byte array.
abbrev first_slice : SliceTree
first_slice = slice (on 1 1) 8 (local 1)

abbrev second_slice : SliceTree
second_slice = slice (on 1 2) 8 (local 2)

copies_to_writer : performs (empty_buffer 4) 3 3 to_the_local (copy_to_writer 0 second_slice) ≡ leaves (put (2 ∷ 3 ∷ 4 ∷ []) (empty_buffer 4)) 3 3 3 five
copies_to_writer = refl

copies_what_fits : performs (empty_buffer 2) 3 3 to_the_local (copy_to_writer 0 second_slice) ≡ leaves (put (2 ∷ 3 ∷ []) (empty_buffer 2)) 3 3 2 five
copies_what_fits = refl

copies_empty : performs eight 0 3 to_the_local (copy_to_writer 0 first_slice) ≡ leaves eight 0 3 0 five
copies_empty = refl

copies_nothing_to_closed : performs (close eight) 3 3 to_the_local (copy_to_writer 0 first_slice) ≡ leaves (close eight) 3 3 0 five
copies_nothing_to_closed = refl

-- The elements are copied as they were, to the front and to the back.
copies_back : performs one 3 3 to_the_local (copy_to_slice second_slice first_slice) ≡ leaves one 3 3 3 (1 ∷ 1 ∷ 2 ∷ 3 ∷ 5 ∷ [])
copies_back = refl

copies_to_the_front : performs one 3 3 to_the_local (copy_to_slice first_slice second_slice) ≡ leaves one 3 3 3 (2 ∷ 3 ∷ 4 ∷ 4 ∷ 5 ∷ [])
copies_to_the_front = refl

copies_onto_itself : performs one 5 3 to_the_local (copy_to_slice first_slice first_slice) ≡ leaves one 5 3 5 five
copies_onto_itself = refl

copies_shorter_source : performs one 2 3 to_the_local (copy_to_slice second_slice first_slice) ≡ leaves one 2 3 2 (1 ∷ 1 ∷ 2 ∷ 4 ∷ 5 ∷ [])
copies_shorter_source = refl

copies_shorter_target : performs one 5 1 to_the_local (copy_to_slice second_slice first_slice) ≡ leaves one 5 1 1 (1 ∷ 1 ∷ 3 ∷ 4 ∷ 5 ∷ [])
copies_shorter_target = refl

copies_nothing_to_empty : performs one 5 0 to_the_local (copy_to_slice second_slice first_slice) ≡ leaves one 5 0 0 five
copies_nothing_to_empty = refl
