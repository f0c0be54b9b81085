-- What is seen of a list of host actions, whatever it is that answers the inits and the calls.
use Rattle.std.specs.Prelude.{ℕ, List, [], ◌∷◌, map, slice_get, slice_set}
use Rattle.std.specs.Option.{option_map_or}
use Rattle.wf_text.specs.HostActions.{HostArg, HostAction, init, call, put, close, compact, replace}
use Rattle.wf_text.specs.Seen.{Answer, nothing, Seen, answered, turns, undefined}
use Rattle.wf_base.specs.BaseOps.{Buffer, seen_buffer}
use Rattle.wf_base.specs.BaseOps as ops

-- The buffers and byte arrays of a host. At first it has none.
pub record Host : Type 0 where
  pub buffers : List Buffer
  pub arrays : List (List ℕ)

abbrev pub empty_host : Host
empty_host = record { buffers = []; arrays = [] }

-- A public call: the receiver's and the method's number, and the arguments in declared order.
pub record HostCall : Type 0 where
  pub receiver : ℕ
  pub method : ℕ
  pub args : List HostArg

-- How an init or a call ends: it answers, and leaves what then stands; it needs more turns than it was given; or it
-- isn't defined within them.
pub data Response (After : Type 0) : Type 0 where
  answers : Answer → After → Response After
  needs_more : Response After
  not_defined : Response After

-- What answers inits and calls: both are functions of its state and of what they are given.
pub record Steps (State : Type 0) : Type 0 where
  pub init : State → (receiver turns : ℕ) → Response State
  pub call : State → HostCall → Host → (turns : ℕ) → Response (State × Host)

abbrev pub beside : {State : Type 0} → Host → Response State → Response (State × Host)
beside host (answers answer state) = answers answer (state, host)
beside host needs_more = needs_more
beside host not_defined = not_defined

-- The host with another buffer in place of the one with this number.
abbrev pub on_buffer : (number : ℕ) → (Buffer → Buffer) → Host → Host
on_buffer number change host = option_map_or (λ buffer. record host { buffers = slice_set host.buffers number (change buffer) }) (slice_get host.buffers number) host

-- One action. What the host does to its own buffers answers nothing.
abbrev pub act : {State : Type 0} → Steps State → State → Host → HostAction Buffer → Response (State × Host)
act steps state host (init receiver within) = beside host (steps.init state receiver within)
act steps state host (call receiver method args within) = steps.call state (record { receiver = receiver; method = method; args = args }) host within
act steps state host (put buffer more) = answers nothing (state, on_buffer buffer (ops.put more) host)
act steps state host (close buffer) = answers nothing (state, on_buffer buffer ops.close host)
act steps state host (compact buffer) = answers nothing (state, on_buffer buffer ops.compact host)
act steps state host (replace buffers arrays) = answers nothing (state, record { buffers = buffers; arrays = arrays })

abbrev pub seen_of : Answer → Host → Seen
seen_of answer host = answered answer (map seen_buffer host.buffers) host.arrays

-- What is seen after a response, and of what follows an answer.
abbrev pub followed : {State : Type 0} → Response (State × Host) → (State → Host → List Seen) → List Seen
followed (answers answer after) rest = seen_of answer after.1 ∷ rest after.0 after.1
followed needs_more rest = turns ∷ []
followed not_defined rest = undefined ∷ []

-- What is seen of a list of actions: one entry each, up to the first that needs more turns or isn't defined.
abbrev pub run : {State : Type 0} → Steps State → State → Host → List (HostAction Buffer) → List Seen
run steps state host [] = []
run steps state host (action ∷ actions) = followed (act steps state host action) (λ after left. run steps after left actions)
