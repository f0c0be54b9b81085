-- One step of a body: what becomes of the first of the remaining statements. A step is stuck (`Fail`) where an expression
-- is, where a value leaves the type of a target, an argument or a result, where an assertion is false, and where a loop's
-- clause is false at a place that requires it.
-- In brackets stands the section of docs/SEMANTICS.md that a definition states, and with `note` the Wuffs document
-- wuffs/doc/note/NAME.md that it follows.
use Rattle.std.specs.Prelude.{ℕ, zero, suc, ◌+◌, ◌^◌, min, Bool, true, false, not, ◌&&◌, ◌||◌, List, [], ◌∷◌, length, Option, None, Some, slice_get, option_map, option_and_then, nat_lt, nat_le, if◌then◌else◌}
use Rattle.std.specs.List.{list_all}
use Rattle.turns.specs.Run.{Next, Go, Turn, End, Out, Fail, Outcome, Got, More, Lost, onward, holding}
use Rattle.wf_text.specs.declared.categories.Category.TheVariants.{Suspension}
use Rattle.wf_base.specs.declared.marks.Mark.{Mark}
use Rattle.wf_base.specs.BaseOps.{Buffer}
use Rattle.wf_base.specs.BaseOps as ops
use Rattle.wf_base.specs.BaseTable.{read_value, lacking, gathered, is_whole}
use Rattle.wf_base.specs.declared.base_methods.ReadForm.{ReadForm}
use Rattle.wf_ast.specs.declared.parsed.Clause.{Clause}
use Rattle.wf_ast.specs.declared.parsed.Clause.TheVariants.{Pre, Inv, Post}
use Rattle.wf_ast.specs.declared.types.Ty.{Ty}
use Rattle.wf_ast.specs.declared.types.Ty.TheVariants as types
use Rattle.wf_ast.specs.TypedTree.{CondTree, ValueTree, Target, to_nothing, Awaited, take_number, skip, write, Written, skip_fast, write_fast, copy_to_writer, copy_to_slice, Called, own, sub, Simple, assign, await, perform, invoke, break_from, continue_in, give_back, yield, claim, Site, Head, Block, end, plain, choose, loop}
use Rattle.wf_ast.specs.TypedPackage.{Variable, MethodTree, PackageTree}
use Rattle.wf_ast.specs.WellTyped.{is_coroutine, is_word_true, number_of}
use Rattle.wf_ast.specs.Value.{Span, Value, num, truth_value, status_number, State, value, span_of, truth_of, value_of, only_if}
use Rattle.wf_meaning.specs.SourceState.{Object, Behind, stop, behind_if, again, Done, untouched, has_bytes, to_skip, to_write, has_yielded, Remaining, held_part, Held}
use Rattle.wf_meaning.specs.Entry.{ok, short_read, short_write, cannot_suspend, has_kind, Admission, refused, admitted, admission, Answered, returned, suspended, refusal_of, ended}
use Rattle.wf_meaning.specs.Remaining.{hands_on, Marker, marker_of}
use Rattle.wf_meaning.specs.World.{World, Body, Vars, view, put_value, with_cells, with_buffer, with_object, held_at, cells_at, fits_store, kept_locals}

-- A body as it runs: what the first remaining statement has done, that statement and those that follow it in its block,
-- what follows the block, and the variables. [What remains]
pub record At : Type 0 where
  pub done : Done
  pub block : Block
  pub behind : Behind
  pub vars : Vars

-- How a run of a body ends. [Steps; note coroutines]
pub data Ending : Type 0 where
  gives : Option Value → Ending
  suspends : (status : ℕ) → Remaining → Ending

-- What a step comes to. [Steps]
abbrev pub Steps : Type 0
Steps = Next At (Ending × World)

-- A call of a method's body in a struct state. [Steps]
pub record Call : Type 0 where
  pub object : ℕ
  pub method : ℕ
  pub args : List Value

-- What runs the bodies that are called, with so many turns left. [Steps]
abbrev pub Callees : Type 0
Callees = Call → ℕ → World → Outcome (Answered × World)

-- What a body's expressions look at. [Values]
abbrev pub state_of : Body → Vars → State
state_of b vars = view b vars.locals vars.world

-- Goes on with a value, where there is one. [Steps]
unfoldable pub with_some : {X : Type 0} → Option X → (X → Steps) → Steps
with_some None go = Fail
with_some (Some x) go = go x

-- Goes on where the test holds. [Steps]
unfoldable pub where_true : Bool → Steps → Steps
where_true test steps = if test then steps else Fail

-- One step or another. [Steps]
unfoldable pub either : Bool → Steps → Steps → Steps
either test steps other = if test then steps else other

-- The statements of a block, with nothing done of the first. [Steps]
abbrev pub at_block : Block → Behind → Vars → At
at_block block behind vars = record { done = untouched; block = block; behind = behind; vars = vars }

-- Clauses of a loop.

-- What is required where a loop is entered and on each way back; and what where it is left. [Steps; note assertions]
abbrev pub at_head : Clause → Bool
at_head Pre = true
at_head Inv = true
at_head Post = false

-- What is required where a loop is left. [Steps; note assertions]
abbrev pub at_exit : Clause → Bool
at_exit Pre = false
at_exit Inv = true
at_exit Post = true

-- A condition that is true; one that is stuck isn't. [Steps]
abbrev pub is_true : Option Bool → Bool
is_true (Some true) = true
is_true truth = false

-- All required clauses of a loop are true. [Steps; note assertions]
abbrev pub all_hold : State → (Clause → Bool) → List (Clause × CondTree) → Bool
all_hold s required clauses = list_all (λ c. not (required c.0) || is_true (truth_of s c.1)) clauses

-- The test of a loop's condition: into the body, or after the loop. A loop whose condition is the word `true` has no
-- such exit. [Steps]
abbrev pub tested : Body → Site → Head → (body rest : Block) → Behind → Vars → Option Bool → Steps
tested b site head body rest behind vars None = Fail
tested b site head body rest behind vars (Some true) = Go (at_block body (again site head body rest behind) vars)
tested b site head body rest behind vars (Some false) =
    where_true (is_word_true head.cond || all_hold (state_of b vars) at_exit head.clauses) (Go (at_block rest behind vars))

-- A loop is entered. [Steps]
abbrev pub entered_loop : Body → Site → Head → (body rest : Block) → Behind → Vars → Steps
entered_loop b site head body rest behind vars =
    where_true (all_hold (state_of b vars) at_head head.clauses) (tested b site head body rest behind vars (truth_of (state_of b vars) head.cond))

-- A step that takes a turn. [Turns]
unfoldable pub taking_turn : ℕ → Steps → Steps
taking_turn zero steps = Out
taking_turn (suc left) (Go x) = Turn left x
taking_turn (suc left) steps = steps

-- The way back to a loop's head is a turn, and the loop tests its condition after it. [Turns]
abbrev pub went_back : Body → ℕ → Site → Head → (body rest : Block) → Behind → Vars → Steps
went_back b n site head body rest behind vars =
    where_true (all_hold (state_of b vars) at_head head.clauses) (taking_turn n (tested b site head body rest behind vars (truth_of (state_of b vars) head.cond)))

-- Returns.

-- A suspension that a coroutine returns is an error. [Steps; note statuses]
abbrev pub returned_status : Body → ℕ → ℕ
returned_status b status = if has_kind b.within Suspension status then cannot_suspend else status

-- The value is of the result's type. [Steps]
abbrev pub is_result : Option Ty → Value → Bool
is_result (Some (types.Num width lo hi)) (num n) = nat_le lo n && nat_le n hi
is_result (Some types.Flag) (truth_value t) = true
is_result (Some types.Status) (status_number n) = true
is_result ty v = false

-- What `return` with a value does: the value has to be of the method's result. [Steps]
abbrev pub given_back : Body → ℕ → World → Value → Steps
given_back b n w (status_number status) =
    either (is_coroutine b.method.mark) (End n (gives (Some (status_number (returned_status b status))), w))
    (where_true (is_result b.method.gives (status_number status)) (End n (gives (Some (status_number status)), w)))
given_back b n w v = where_true (is_result b.method.gives v) (End n (gives (Some v), w))

-- The body's end: a coroutine returns ok, and every other method nothing. [Steps; note coroutines]
abbrev pub body_end : Body → ℕ → World → Steps
body_end b n w = End n (gives (if is_coroutine b.method.mark then Some (status_number ok) else None), w)

-- Suspension.

-- The first statement stays first, with what it has done; slice locals become empty. [Steps; note coroutines]
abbrev pub suspending : ℕ → (status : ℕ) → Done → Block → Behind → Vars → Steps
suspending n status done block behind vars =
    End n (suspends status (record { done = done; block = block; behind = behind; locals = kept_locals vars.locals }), vars.world)

-- Base coroutine calls. `here` is the statement with those that follow it, and `rest` those.

-- The number of an argument's buffer. [Steps]
abbrev pub io_number : Body → (io_arg : ℕ) → Vars → Option ℕ
io_number b io_arg vars = (state_of b vars).buffer_number io_arg

-- A buffer is changed. [Steps]
abbrev pub change_buffer : ℕ → (Buffer → Buffer) → Vars → Vars
change_buffer k change vars = record vars { world = with_buffer k change vars.world }

-- The bytes that a read has. [Steps]
abbrev pub bytes_so_far : Done → List ℕ
bytes_so_far (has_bytes bytes) = bytes
bytes_so_far done = []

-- A read takes the bytes that are there, as many as it lacks. With all of its bytes its number goes to the target.
-- [Steps; note io-input-output]
abbrev pub read_on : Body → ℕ → Target → ReadForm → (bytes : List ℕ) → (here rest : Block) → Behind → Vars → Steps
read_on b n target form bytes here rest behind vars =
    either (is_whole form bytes)
    (with_some (put_value b target (num (read_value form bytes)) vars) (λ left. Go (at_block rest behind left)))
    (suspending n short_read (has_bytes bytes) here behind vars)

-- A skip takes up to so many bytes, and goes on when none is left to be taken. [Steps; note io-input-output]
abbrev pub skip_on : ℕ → (left : ℕ) → (here rest : Block) → Behind → Vars → Steps
skip_on n zero here rest behind vars = Go (at_block rest behind vars)
skip_on n (suc left) here rest behind vars = suspending n short_read (to_skip (suc left)) here behind vars

-- A write appends its byte where there is room. [Steps; note io-input-output]
abbrev pub write_on : ℕ → (k byte : ℕ) → Buffer → (here rest : Block) → Behind → Vars → Steps
write_on n k byte buffer here rest behind vars =
    either (ops.has_room buffer)
    (Go (at_block rest behind (change_buffer k (ops.appended (byte ∷ [])) vars)))
    (suspending n short_write (to_write byte) here behind vars)

-- The number that a skip has still to take, and a write's byte: evaluated once, and kept.
-- [What remains; note coroutines]
abbrev pub kept_count : Done → (fresh : Option ℕ) → Option ℕ
kept_count (to_skip count) fresh = Some count
kept_count done fresh = fresh

abbrev pub kept_byte : Done → (fresh : Option ℕ) → Option ℕ
kept_byte (to_write byte) fresh = Some byte
kept_byte done fresh = fresh

-- A number that fits so many bits. [Steps]
abbrev pub below : (bits : ℕ) → ℕ → Option ℕ
below bits n = if nat_lt n (2 ^ bits) then Some n else None

-- What a base coroutine call does. [Steps; note coroutines]
abbrev pub awaited : Body → ℕ → Target → (k : ℕ) → Buffer → Awaited → Done → (here rest : Block) → Behind → Vars → Steps
awaited b n target k buffer (take_number form) done here rest behind vars =
    read_on b n target form (gathered form (bytes_so_far done) buffer) here rest behind (change_buffer k (ops.skipped (lacking form (bytes_so_far done))) vars)
awaited b n target k buffer (skip count) done here rest behind vars =
    with_some (kept_count done (option_and_then (below 32) (value (state_of b vars) count)))
    (λ left. skip_on n (ops.left_to_skip left buffer) here rest behind (change_buffer k (ops.skipped left) vars))
awaited b n target k buffer (write byte) done here rest behind vars =
    with_some (kept_byte done (option_and_then (below 8) (value (state_of b vars) byte))) (λ it. write_on n k it buffer here rest behind vars)

-- Base calls that don't suspend. Each gives what goes to its target, if anything does.

-- The buffer with this number. [Steps]
abbrev pub buffer_of : Vars → ℕ → Option Buffer
buffer_of vars k = slice_get vars.world.host.buffers k

-- The elements of a span. [Values; note slices-arrays-and-tables]
abbrev pub elements_of : Vars → Span → List ℕ
elements_of vars s = ops.elements s.from s.count (cells_at vars.world s.store)

-- The elements are bytes. [Values]
abbrev pub are_bytes : List ℕ → Bool
are_bytes xs = list_all (λ x. nat_lt x (2 ^ 8)) xs

-- The slice lies in its store, and the elements may go there. [Values; note slices-arrays-and-tables]
abbrev pub takes_all : Vars → Span → List ℕ → Bool
takes_all vars s xs = nat_le (s.from + s.count) (length (cells_at vars.world s.store)) && list_all (fits_store s.store) xs

-- The first elements go to a writer, as many as there is room for. [Steps; note io-input-output]
abbrev pub copied_to_writer : ℕ → Buffer → Span → Vars → Value × Vars
copied_to_writer k buffer source vars =
    (num (ops.put_count (elements_of vars source) buffer), change_buffer k (ops.put (elements_of vars source)) vars)

-- The elements are written as they were before. [Steps; note slices-arrays-and-tables]
abbrev pub copied_to_slice : (target source : Span) → Vars → Value × Vars
copied_to_slice target source vars =
    (num (min target.count source.count), record vars { world = with_cells target.store (ops.copied target.from target.count (elements_of vars source)) vars.world })

-- So many bytes are taken, where the promised number of bytes is there. [Steps; note io-input-output]
abbrev pub skipped_fast : ℕ → Buffer → (actual worst_case : ℕ) → Vars → Option Vars
skipped_fast k buffer actual worst_case vars =
    only_if (nat_lt worst_case (2 ^ 32) && ops.can_skip_fast actual worst_case buffer) (Some (change_buffer k (ops.skipped actual) vars))

-- A byte is written, where there is room. [Steps; note io-input-output]
abbrev pub written_fast : ℕ → Buffer → (byte : ℕ) → Vars → Option Vars
written_fast k buffer byte vars = only_if (nat_lt byte (2 ^ 8) && ops.has_room buffer) (Some (change_buffer k (ops.appended (byte ∷ [])) vars))

-- The buffer of an io argument, with its number. [Steps]
abbrev pub io_of : Body → (io_arg : ℕ) → Vars → Option (ℕ × Buffer)
io_of b io_arg vars = option_and_then (λ k. option_map (λ buffer. (k, buffer)) (buffer_of vars k)) (io_number b io_arg vars)

-- What a call gives goes to its target. [Steps]
abbrev pub with_target : Body → Target → Value × Vars → Option Vars
with_target b target done = put_value b target done.0 done.1

-- What a base call that doesn't suspend does. [Steps]
abbrev pub performed : Body → Target → Written → Vars → Option Vars
performed b target (skip_fast io_arg actual worst_case) vars =
    option_and_then (λ io. option_and_then (λ m. option_and_then (λ n. skipped_fast io.0 io.1 m n vars) (value (state_of b vars) worst_case)) (value (state_of b vars) actual)) (io_of b io_arg vars)
performed b target (write_fast io_arg byte) vars =
    option_and_then (λ io. option_and_then (λ n. written_fast io.0 io.1 n vars) (value (state_of b vars) byte)) (io_of b io_arg vars)
performed b target (copy_to_writer io_arg source) vars =
    option_and_then (λ io. option_and_then (λ s. only_if (are_bytes (elements_of vars s)) (with_target b target (copied_to_writer io.0 io.1 s vars))) (span_of (state_of b vars) source)) (io_of b io_arg vars)
performed b target (copy_to_slice to source) vars =
    option_and_then (λ t. option_and_then (λ s. only_if (takes_all vars t (elements_of vars s)) (with_target b target (copied_to_slice t s vars))) (span_of (state_of b vars) source)) (span_of (state_of b vars) to)

-- Calls of methods.

-- A value lies in the type of an argument. [Steps]
abbrev pub fits_argument : Ty → Value → Bool
fits_argument (types.Num width lo hi) (num n) = nat_le lo n && nat_le n hi
fits_argument (types.Num width lo hi) v = false
fits_argument ty v = true

-- A value before others, where there are all. [Steps]
abbrev pub cons_some : Option Value → Option (List Value) → Option (List Value)
cons_some v vs = option_and_then (λ x. option_map (λ xs. x ∷ xs) vs) v

-- The arguments' values, each in the type of its argument. [Steps]
abbrev pub values_of : State → List Variable → List ValueTree → Option (List Value)
values_of s [] [] = Some []
values_of s (x ∷ xs) (t ∷ ts) = cons_some (option_and_then (λ v. only_if (fits_argument x.ty v) (Some v)) (value_of s t)) (values_of s xs ts)
values_of s xs ts = None

-- The struct state that a call means. [State]
abbrev pub part_in : Held → Option ℕ
part_in (held_part object) = Some object
part_in held = None

-- The number of the struct state that a call means. [State]
abbrev pub receiver_of : Body → Called → Vars → Option ℕ
receiver_of b (own m) vars = Some b.object
receiver_of b (sub x m) vars = option_and_then part_in (held_at vars.world b.object x)

-- What stands after a body that was entered through the entry table. [Entry]
abbrev pub settled : PackageTree → MethodTree → Call → Outcome (Answered × World) → Outcome (Answered × World)
settled p callee call (Got left done) = Got left (done.0, with_object call.object (ended p callee.mark call.method done.0) done.1)
settled p callee call More = More
settled p callee call Lost = Lost

-- What a call comes to, by the entry table's answer. [Entry]
abbrev pub on_admission : PackageTree → Callees → MethodTree → Call → ℕ → World → Admission → Outcome (Answered × World)
on_admission p calls callee call n w (refused status object) = Got n (refusal_of callee status, with_object call.object (λ _. object) w)
on_admission p calls callee call n w admitted = settled p callee call (calls call n w)

-- A call by the entry table, of the struct state that is given last. `fit` tells that its arguments fit. [Entry]
abbrev pub entered : PackageTree → Callees → MethodTree → Call → (fit : Bool) → ℕ → World → Option Object → Outcome (Answered × World)
entered p calls callee call fit n w None = Lost
entered p calls callee call fit n w (Some object) = on_admission p calls callee call n w (admission callee.mark call.method fit object)

-- A call through a field passes the entry table, and one of an own method doesn't. [Entry]
abbrev pub through : PackageTree → Callees → MethodTree → Called → Call → ℕ → World → Outcome (Answered × World)
through p calls callee (own m) call n w = calls call n w
through p calls callee (sub x m) call n w = entered p calls callee call true n w (slice_get w.objects call.object)

-- What an answer is to the caller. `=?` keeps whatever status comes. `f?()` goes on after ok; it hands a suspension on by
-- suspending itself, and a note or an error by returning it. Every other call's value goes to its target. [Steps]
abbrev pub put_answer : Body → Target → Option Value → Vars → Option Vars
put_answer b to_nothing v vars = Some vars
put_answer b target None vars = None
put_answer b target (Some v) vars = put_value b target v vars

-- The status that `=?` keeps. [Steps; note coroutines]
abbrev pub kept_status : Answered → Option Value
kept_status (suspended status) = Some (status_number status)
kept_status (returned value) = value

-- What becomes of a coroutine's answer without `=?`. [Steps; note coroutines]
abbrev pub handed_on : Body → (n left : ℕ) → Answered → (here rest : Block) → Behind → Vars → Steps
handed_on b n left (suspended status) here rest behind vars = suspending left status untouched here behind vars
handed_on b n left (returned (Some (status_number zero))) here rest behind vars = onward n left (at_block rest behind vars)
handed_on b n left (returned (Some (status_number (suc status)))) here rest behind vars = End left (gives (Some (status_number (suc status))), vars.world)
handed_on b n left (returned value) here rest behind vars = Fail

-- What a call gives that is no coroutine's. [Steps]
abbrev pub plain_answer : Answered → Option (Option Value)
plain_answer (suspended status) = None
plain_answer (returned value) = Some value

-- After the call of a method. [Steps]
abbrev pub after_call : Body → (n : ℕ) → (keep : Bool) → Mark → Target → (here rest : Block) → Behind → List Value → ℕ → Answered × World → Steps
after_call b n keep mark target here rest behind locals left done =
    either (hands_on keep mark) (handed_on b n left done.0 here rest behind vars)
    (either keep (with_some (put_answer b target (kept_status done.0) vars) (λ after. onward n left (at_block rest behind after)))
    (with_some (plain_answer done.0) (λ v. with_some (put_answer b target v vars) (λ after. onward n left (at_block rest behind after)))))
  where
    vars : Vars
    vars = record { locals = locals; world = done.1 }

-- The call of a method is one step, which holds the whole run of its body. [Steps]
abbrev pub invoked : Body → Callees → (n : ℕ) → (keep : Bool) → Mark → Target → Called → List ValueTree → (here rest : Block) → Behind → Vars → Steps
invoked b calls n keep mark target called args here rest behind vars =
    with_some (slice_get b.within.methods (number_of called)) (λ callee.
    with_some (values_of (state_of b vars) callee.args args) (λ values.
    with_some (receiver_of b called vars) (λ object.
    holding (through b.within calls callee called (record { object = object; method = number_of called; args = values }) n vars.world)
    (after_call b n keep mark target here rest behind vars.locals))))

-- Statements.

-- `yield?` suspends, and goes on when it is resumed. [Steps; note coroutines]
abbrev pub yielded : ℕ → (status : ℕ) → Done → (here rest : Block) → Behind → Vars → Steps
yielded n status has_yielded here rest behind vars = Go (at_block rest behind vars)
yielded n status done here rest behind vars = suspending n status has_yielded here behind vars

-- After a `continue` stands the loop's marker, and after a `break` what follows the loop. [Steps]
abbrev pub continued : Option Marker → Vars → Steps
continued None vars = Fail
continued (Some m) vars = Go (at_block end (again m.site m.head m.body m.rest m.behind) vars)

-- A `break` goes on after the marker of its loop. [Steps]
abbrev pub broken : Body → Option Marker → Vars → Steps
broken b None vars = Fail
broken b (Some m) vars = where_true (all_hold (state_of b vars) at_exit m.head.clauses) (Go (at_block m.rest m.behind vars))

-- What each statement does. [Steps]
abbrev pub simple_step : Body → Callees → ℕ → Done → Site → Simple → (rest : Block) → Behind → Vars → Steps
simple_step b calls n done site (assign target op value) rest behind vars =
    with_some (option_and_then (λ v. put_value b target v vars) (value_of (state_of b vars) value)) (λ after. Go (at_block rest behind after))
simple_step b calls n done site (await at target io_arg call) rest behind vars =
    with_some (io_of b io_arg vars) (λ io. awaited b n target io.0 io.1 call done (plain site (await at target io_arg call) rest) rest behind vars)
simple_step b calls n done site (perform at target call) rest behind vars =
    with_some (performed b target call vars) (λ after. Go (at_block rest behind after))
simple_step b calls n done site (invoke at target keep mark called args) rest behind vars =
    invoked b calls n keep mark target called args (plain site (invoke at target keep mark called args) rest) rest behind vars
simple_step b calls n done site (break_from w) rest behind vars = broken b (marker_of w behind) vars
simple_step b calls n done site (continue_in w) rest behind vars = continued (marker_of w behind) vars
simple_step b calls n done site (give_back None) rest behind vars = where_true (not (is_coroutine b.method.mark)) (End n (gives None, vars.world))
simple_step b calls n done site (give_back (Some value)) rest behind vars = with_some (value_of (state_of b vars) value) (given_back b n vars.world)
simple_step b calls n done site (yield status) rest behind vars = yielded n status done (plain site (yield status) rest) rest behind vars
simple_step b calls n done site (claim goal axiom_used) rest behind vars = where_true (is_true (truth_of (state_of b vars) goal)) (Go (at_block rest behind vars))

-- A block's end: what follows it comes next. [Steps]
abbrev pub end_step : Body → ℕ → Behind → Vars → Steps
end_step b n stop vars = body_end b n vars.world
end_step b n (behind_if rest behind) vars = Go (at_block rest behind vars)
end_step b n (again site head body rest behind) vars = went_back b n site head body rest behind vars

-- An `if` goes into one of its blocks. [Steps]
abbrev pub chosen : (then_block otherwise rest : Block) → Behind → Vars → Bool → Steps
chosen a c rest behind vars true = Go (at_block a (behind_if rest behind) vars)
chosen a c rest behind vars false = Go (at_block c (behind_if rest behind) vars)

-- What a body does next. [Steps]
abbrev pub block_step : Body → Callees → ℕ → Done → Block → Behind → Vars → Steps
block_step b calls n done end behind vars = end_step b n behind vars
block_step b calls n done (plain site s rest) behind vars = simple_step b calls n done site s rest behind vars
block_step b calls n done (choose site chained cond a c rest) behind vars = with_some (truth_of (state_of b vars) cond) (chosen a c rest behind vars)
block_step b calls n done (loop site head body rest) behind vars = entered_loop b site head body rest behind vars

-- One step of a body. [Steps]
unfoldable pub step : Body → Callees → ℕ → At → Steps
step b calls n x = block_step b calls n x.done x.block x.behind x.vars

-- How much is left to do before the next turn: each step to a next state lowers it. [Turns]
abbrev pub block_weight : Block → ℕ
block_weight end = 0
block_weight (plain site s rest) = 1 + block_weight rest
block_weight (choose site chained cond a c rest) = 2 + block_weight a + block_weight c + block_weight rest
block_weight (loop site head body rest) = 2 + block_weight body + block_weight rest

-- How much follows a block. [Turns]
abbrev pub behind_weight : Behind → ℕ
behind_weight stop = 0
behind_weight (behind_if rest behind) = 1 + block_weight rest + behind_weight behind
behind_weight (again site head body rest behind) = 1 + block_weight rest + behind_weight behind

-- How much a body has still to do without a way back. Each step that takes no turn makes it smaller. [Turns]
unfoldable pub weight : At → ℕ
weight x = block_weight x.block + behind_weight x.behind
