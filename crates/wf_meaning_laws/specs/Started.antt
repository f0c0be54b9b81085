-- What the first of the remaining statements of a suspended coroutine has done.
use Rattle.std.specs.Prelude.{◌≡◌, ℕ, ◌^◌, ◌<◌, true, List, length, Option, None, Some, slice_get}
use Rattle.std.specs.List.{AllByRecursion}
use Rattle.wf_base.specs.BaseTable.{bytes_of, read_width}
use Rattle.wf_ast.specs.TypedTree.{take_number, skip, write, Simple, await, invoke, yield, Block, plain}
use Rattle.wf_meaning.specs.SourceState.{Done, untouched, has_bytes, to_skip, to_write, has_yielded, Remaining, Object, SourceState}
use Rattle.wf_meaning.specs.Remaining.{hands_on}

-- What a statement may have done where its method was left at it. A read has fewer bytes than its number has; a skip has some
-- bytes still to take; a write has its byte; a `yield?` has yielded; and the call of a coroutine has nothing done of its own,
-- for what was done remains of the called one.
abbrev pub HasDone : Simple → Done → Type 0
HasDone (await at target io_arg (take_number form)) (has_bytes bytes) = length bytes < bytes_of (read_width form)
HasDone (await at target io_arg (skip count)) (to_skip left) = (0 < left) × (left < 2 ^ 32)
HasDone (await at target io_arg (write byte)) (to_write it) = it < 2 ^ 8
HasDone (invoke at target keep mark called args) untouched = hands_on keep mark ≡ true
HasDone (yield status) has_yielded = Unit {0}
HasDone s done = ⊥

-- The same of the first statement of a block; there is one, and it is none that holds blocks.
abbrev pub FirstHasDone : Block → Done → Type 0
FirstHasDone (plain site s rest) done = HasDone s done
FirstHasDone block done = ⊥

-- What remains of each method of a struct state begins with a statement that was started so.
pub record HasStarted (o : Object) : Type 0 where
  pub by : (method : ℕ) (left : Remaining) → slice_get o.remaining method ≡ Some (Some left) → FirstHasDone left.block left.done

-- The same in all struct states of a receiver.
abbrev pub AllStarted : Option (List Object) → Type 0
AllStarted None = Unit {0}
AllStarted (Some objects) = AllByRecursion HasStarted objects

-- The same in all receivers.
abbrev pub IsStarted : SourceState → Type 0
IsStarted state = AllByRecursion AllStarted state
