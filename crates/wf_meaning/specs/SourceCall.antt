-- The meaning of a call within a number of turns, and of an init.
-- In brackets stands the section of docs/SEMANTICS.md that a definition states, and with `note` the Wuffs document
-- wuffs/doc/note/NAME.md that it follows.
use Rattle.std.specs.Prelude.{ℕ, zero, suc, false, List, [], ◌∷◌, length, map, reverse, Option, None, Some, slice_get, option_map, option_and_then, is_some, unwrap_or, nat_eq, nat_le, ◌&&◌, if◌then◌else◌}
use Rattle.turns.specs.Run.{Outcome, Got, More, Lost, run}
use Rattle.wf_text.specs.HostActions.{HostArg, Receiver, HostAction}
use Rattle.wf_text.specs.HostActions as host
use Rattle.wf_text.specs.Seen.{Answer, Seen}
use Rattle.wf_text.specs.Seen as seen
use Rattle.wf_base.specs.BaseOps.{Buffer}
use Rattle.wf_base.specs.HostRun.{Host, HostCall, Response, answers, needs_more, not_defined, Steps, empty_host}
use Rattle.wf_base.specs.HostRun as host_run
use Rattle.wf_ast.specs.declared.types.Ty.{Ty}
use Rattle.wf_ast.specs.declared.types.Ty.TheVariants as types
use Rattle.wf_ast.specs.TypedPackage.{Variable, MethodTree, PackageTree}
use Rattle.wf_ast.specs.Value.{Value, num, truth_value, status_number, span, buffer, host_array}
use Rattle.wf_meaning.specs.SourceState.{stop, Remaining, Object, SourceState, cleared_object, fresh_state}
use Rattle.wf_meaning.specs.Entry.{ok, bad_receiver, text_of_status, Answered, returned, suspended, refusal_of}
use Rattle.wf_meaning.specs.World.{World, Body, updated, with_object, empty_span}
use Rattle.wf_meaning.specs.SourceStep.{At, Ending, gives, suspends, Call, Callees, at_block, entered, step, weight}

-- A method begins with its locals zero, false, ok and empty. [State]
abbrev pub fresh_local : Ty → Value
fresh_local (types.Num width lo hi) = num 0
fresh_local types.Flag = truth_value false
fresh_local types.Status = status_number 0
fresh_local ty = span empty_span

-- What remains of a method. [What remains; note coroutines]
abbrev pub set_remaining : (method : ℕ) → Option Remaining → Object → Object
set_remaining method left o = record o { remaining = updated (λ _. left) method o.remaining }

-- Where a body begins: with what remains of it, or at its first statement. [What remains; note coroutines]
abbrev pub begins : MethodTree → World → Option Remaining → At
begins m w None = at_block m.body stop (record { locals = map (λ x. fresh_local x.ty) m.locals; world = w })
begins m w (Some left) = record { done = left.done; block = left.block; behind = left.behind; vars = record { locals = left.locals; world = w } }

-- What remains of the called method. [What remains; note coroutines]
abbrev pub remaining_of : World → Call → Option Remaining
remaining_of w call = option_and_then (λ o. unwrap_or (slice_get o.remaining call.method) None) (slice_get w.objects call.object)

-- While a body runs, nothing remains of it; what it leaves at a suspension remains. [What remains; note coroutines]
abbrev pub taken_up : Call → World → World
taken_up call w = with_object call.object (set_remaining call.method None) w

-- After a body: what it leaves remains of it. [What remains; note coroutines]
abbrev pub left_over : Call → Outcome (Ending × World) → Outcome (Answered × World)
left_over call (Got left (gives v, w)) = Got left (returned v, w)
left_over call (Got left (suspends status items, w)) = Got left (suspended status, with_object call.object (set_remaining call.method (Some items)) w)
left_over call More = More
left_over call Lost = Lost

-- The body that a call runs. [Turns]
abbrev pub body_of : PackageTree → MethodTree → Call → Body
body_of p m call = record { within = p; object = call.object; method = m; args = call.args }

-- The run of a body. Its entry is a turn, also where the body goes on with what remains. [Turns]
abbrev pub body_run : PackageTree → Callees → MethodTree → Call → ℕ → World → Outcome (Answered × World)
body_run p calls m call zero w = More
body_run p calls m call (suc left) w =
    left_over call (run (step (body_of p m call) calls) weight left (begins m (taken_up call w) (remaining_of w call)))

-- What runs the body of a method, where there is one. [Turns]
abbrev pub run_if : PackageTree → Callees → Option MethodTree → Callees
run_if p calls None call n w = Lost
run_if p calls (Some m) call n w = body_run p calls m call n w

-- What runs the bodies of these methods, each of which calls only those that follow it. [Turns]
unfoldable pub bodies : PackageTree → List ℕ → Callees
bodies p [] call n w = Lost
bodies p (m ∷ ms) call n w = if nat_eq m call.method then run_if p (bodies p ms) (slice_get p.methods m) call n w else bodies p ms call n w

-- What runs the body of any method of the package. [Turns]
abbrev pub all_bodies : PackageTree → Callees
all_bodies p = bodies p (reverse p.order)

-- A host's arguments as values; None where an io argument is null or a number lies outside its refinement. [Entry]
abbrev pub host_value : List (List ℕ) → Ty → HostArg → Option Value
host_value arrays (types.Num width lo hi) (host.num n) = if nat_le lo n && nat_le n hi then Some (num n) else None
host_value arrays types.Flag (host.flag b) = Some (truth_value b)
host_value arrays types.Reader (host.io k) = option_map buffer k
host_value arrays types.Writer (host.io k) = option_map buffer k
host_value arrays (types.Slice width) (host.bytes None) = Some (span empty_span)
host_value arrays (types.Slice width) (host.bytes (Some a)) = Some (span (record { store = host_array a; from = 0; count = length (unwrap_or (slice_get arrays a) []) }))
host_value arrays ty arg = None

-- A value before others, where there are all. [Entry]
abbrev pub cons_value : Option Value → Option (List Value) → Option (List Value)
cons_value v vs = option_and_then (λ x. option_map (λ xs. x ∷ xs) vs) v

-- A host's arguments in order. [Entry]
abbrev pub host_values : List (List ℕ) → List Variable → List HostArg → Option (List Value)
host_values arrays [] [] = Some []
host_values arrays (x ∷ xs) (arg ∷ args) = cons_value (host_value arrays x.ty arg) (host_values arrays xs args)
host_values arrays xs args = None

-- What a caller sees of an answer. [Entry]
abbrev pub seen_value : PackageTree → Option Value → Answer
seen_value p None = seen.nothing
seen_value p (Some (num n)) = seen.num n
seen_value p (Some (truth_value b)) = seen.flag b
seen_value p (Some (status_number n)) = seen.status (text_of_status p n)
seen_value p (Some v) = seen.nothing

-- What a caller sees of a method's answer. [Entry]
abbrev pub seen_answer : PackageTree → Answered → Answer
seen_answer p (returned v) = seen_value p v
seen_answer p (suspended status) = seen.status (text_of_status p status)

-- After the call of a receiver. [Entry]
abbrev pub called : PackageTree → SourceState → (receiver : ℕ) → Outcome (Answered × World) → Response (SourceState × Host)
called p state receiver (Got left done) = answers (seen_answer p done.0) (updated (λ _. Some done.1.objects) receiver state, done.1.host)
called p state receiver More = needs_more
called p state receiver Lost = not_defined

-- A call of a receiver that isn't null, with its arguments as values where they fit. [Entry]
abbrev pub entry_of : PackageTree → MethodTree → (method : ℕ) → Option (List Value) → ℕ → World → Outcome (Answered × World)
entry_of p m method args n w =
    entered p (all_bodies p) m (record { object = 0; method = method; args = unwrap_or args [] }) (is_some args) n w (slice_get w.objects 0)

-- A call of a receiver, which may be null. [Entry]
abbrev pub call_receiver : PackageTree → MethodTree → SourceState → HostCall → Host → ℕ → Option (List Object) → Response (SourceState × Host)
call_receiver p m state call h n None = answers (seen_answer p (refusal_of m bad_receiver)) (state, h)
call_receiver p m state call h n (Some objects) =
    called p state call.receiver (entry_of p m call.method (host_values h.arrays m.args call.args) n (record { objects = objects; host = h }))

-- A call of a method of the package. [Entry]
abbrev pub call_method : PackageTree → SourceState → HostCall → Host → ℕ → Option MethodTree → Option (Option (List Object)) → Response (SourceState × Host)
call_method p state call h n None receiver = not_defined
call_method p state call h n m None = not_defined
call_method p state call h n (Some m) (Some receiver) = call_receiver p m state call h n receiver

-- A public call within `n` turns: its answer, the receivers after it and the host's buffers and byte arrays; or that it
-- needs more turns; or that it is stuck. [Turns]
unfoldable pub source_call : PackageTree → SourceState → HostCall → Host → (n : ℕ) → Response (SourceState × Host)
source_call p state call h n = call_method p state call h n (slice_get p.methods call.method) (slice_get state call.receiver)

-- An init of a receiver, which may be null. [Entry; note initialization]
abbrev pub init_receiver : PackageTree → SourceState → (receiver : ℕ) → Option (Option (List Object)) → Response SourceState
init_receiver p state receiver None = not_defined
init_receiver p state receiver (Some None) = answers (seen.status (text_of_status p bad_receiver)) state
init_receiver p state receiver (Some (Some objects)) = answers (seen.status (text_of_status p ok)) (updated (λ _. Some (map cleared_object objects)) receiver state)

-- An init makes a receiver and all struct states inside it ready, whatever they were. It takes no turn.
-- [Entry; note initialization]
unfoldable pub source_init : PackageTree → SourceState → (receiver turns : ℕ) → Response SourceState
source_init p state receiver turns = init_receiver p state receiver (slice_get state receiver)

-- What the package answers to inits and calls. [Entry]
abbrev pub source_steps : PackageTree → Steps SourceState
source_steps p = record { init = source_init p; call = source_call p }

-- What is seen of a list of host actions, from receivers that are raw or null. [Entry]
unfoldable pub source_run : PackageTree → List Receiver → List (HostAction Buffer) → List Seen
source_run p receivers actions = host_run.run (source_steps p) (fresh_state p receivers) empty_host actions
