-- The report of a script: a line for each command, from what is seen of its host actions.
use Rattle.std.specs.Prelude.{ℕ, ◌-◌, Bool, true, false, List, [], ◌∷◌, ◌++◌, length, Some, decimal, slice_get, if◌then◌else◌, codes}
use Rattle.std.specs.Option.{option_map_or, option_and_then}
use Rattle.hex.specs.Hex.{encode_lower}
use Rattle.wf_text.specs.HostActions.{HostArg, io, bytes, HostAction, init, call, put, close, compact, replace, Receiver}
use Rattle.wf_text.specs.Seen.{Answer, status, num as number, flag as truth, nothing, SeenBuffer, Seen, answered, turns, undefined}
use Rattle.wf_text.specs.Surface.{Surface}
use Rattle.wf_base.specs.BaseOps.{Buffer}
use Rattle.wf_base.specs.LawfulActions.{method_of}
use Rattle.wf_script_rules.specs.declared.rules.Thing.{Thing}
use Rattle.wf_script_rules.specs.declared.rules.Thing.TheVariants as thing
use Rattle.wf_script_rules.specs.Names.{Named, Declared, name_of}
use Rattle.wf_script_rules.specs.Lines.{Command, declares, acts, shows, sets_turns}
use Rattle.wf_script_rules.specs.Scripts.{Numbered, Script}

-- What a host last saw of its buffers and byte arrays.
pub record Sight : Type 0 where
  pub buffers : List SeenBuffer
  pub arrays : List (List ℕ)

-- 34 is a double quote.
abbrev pub quoted : List ℕ → List ℕ
quoted text = 34 ∷ [] ++ text ++ 34 ∷ []

abbrev pub status_text : List ℕ → List ℕ
status_text [] = codes "ok"
status_text (byte ∷ text) = quoted (byte ∷ text)

abbrev pub answer_text : Answer → List ℕ
answer_text (status text) = status_text text
answer_text (number n) = decimal n
answer_text (truth true) = codes "true"
answer_text (truth false) = codes "false"
answer_text nothing = codes "done"

-- No bytes are `-`, which is 45.
abbrev pub shown_bytes : List ℕ → List ℕ
shown_bytes [] = 45 ∷ []
shown_bytes (byte ∷ more) = encode_lower (byte ∷ more)

abbrev pub closed_text : Bool → List ℕ
closed_text true = codes " closed"
closed_text false = codes " open"

abbrev pub counts_text : SeenBuffer → List ℕ
counts_text it = codes " ri=" ++ decimal it.ri ++ codes " wi=" ++ decimal it.wi ++ codes " pos=" ++ decimal it.pos ++ closed_text it.closed

abbrev pub at_buffer : (SeenBuffer → List ℕ) → Sight → ℕ → List ℕ
at_buffer text sight k = option_map_or text (slice_get sight.buffers k) []

abbrev pub at_array : (List ℕ → List ℕ) → Sight → ℕ → List ℕ
at_array text sight k = option_map_or text (slice_get sight.arrays k) []

-- A buffer with its counts, after a call.
abbrev pub io_text : List Named → Sight → HostArg → List ℕ
io_text names sight (io (Some k)) = codes " " ++ name_of (thing.Buffer k) names ++ at_buffer counts_text sight k
io_text names sight arg = []

-- Each buffer that a call was given, in declared order.
abbrev pub io_texts : List Named → Sight → List HostArg → List ℕ
io_texts names sight [] = []
io_texts names sight (arg ∷ args) = io_text names sight arg ++ io_texts names sight args

abbrev pub method_name : Surface → Declared → (receiver method : ℕ) → List ℕ
method_name surface declared receiver method = option_map_or (λ it. it.name) (option_and_then (method_of surface method) (slice_get declared.receivers receiver)) []

-- A command's word with a name.
abbrev pub named_text : List Named → (verb : List ℕ) → Thing → List ℕ
named_text names verb it = verb ++ name_of it names

-- What is declared. Numbers and counts have no leading zeros.
abbrev pub receiver_text : List Named → ℕ → Receiver → List ℕ
receiver_text names k it = named_text names (if it.null then codes "null " else codes "new ") (thing.Receiver k)

abbrev pub size_text : List Named → ℕ → ℕ → List ℕ
size_text names k size = named_text names (codes "buf ") (thing.Buffer k) ++ codes " " ++ decimal size

abbrev pub length_text : List Named → ℕ → List ℕ → List ℕ
length_text names k array = named_text names (codes "bytes ") (thing.Array k) ++ codes " " ++ decimal (length array)

abbrev pub declares_text : Declared → Thing → List ℕ
declares_text declared (thing.Receiver k) = option_map_or (receiver_text declared.names k) (slice_get declared.receivers k) []
declares_text declared (thing.Buffer k) = option_map_or (size_text declared.names k) (slice_get declared.sizes k) []
declares_text declared (thing.Array k) = option_map_or (length_text declared.names k) (slice_get declared.arrays k) []

-- A buffer as it is shown.
abbrev pub buffer_text : SeenBuffer → List ℕ
buffer_text it = codes " " ++ shown_bytes it.written ++ counts_text it

abbrev pub array_text : List ℕ → List ℕ
array_text array = codes " " ++ shown_bytes array

abbrev pub shows_text : List Named → Sight → Thing → List ℕ
shows_text names sight (thing.Receiver k) = []
shows_text names sight (thing.Buffer k) = named_text names (codes "show ") (thing.Buffer k) ++ at_buffer buffer_text sight k
shows_text names sight (thing.Array k) = named_text names (codes "show ") (thing.Array k) ++ at_array array_text sight k

-- How many bytes a put appended: `wi` tells.
abbrev pub wi_in : Sight → ℕ → ℕ
wi_in sight k = option_map_or (λ it. it.wi) (slice_get sight.buffers k) 0

-- An action before its answer, and the answer with the buffers after it.
abbrev pub action_text : Surface → Declared → HostAction Buffer → List ℕ
action_text surface declared (init receiver within) = named_text declared.names (codes "init ") (thing.Receiver receiver) ++ codes " "
action_text surface declared (call receiver method args within) = named_text declared.names (codes "call ") (thing.Receiver receiver) ++ codes "." ++ method_name surface declared receiver method ++ codes " "
action_text surface declared (put buffer more) = named_text declared.names (codes "put ") (thing.Buffer buffer) ++ codes " "
action_text surface declared (close buffer) = named_text declared.names (codes "close ") (thing.Buffer buffer)
action_text surface declared (compact buffer) = named_text declared.names (codes "compact ") (thing.Buffer buffer)
action_text surface declared (replace buffers arrays) = []

abbrev pub outcome_text : Declared → Sight → Sight → HostAction Buffer → Answer → List ℕ
outcome_text declared before after (init receiver within) answer = answer_text answer
outcome_text declared before after (call receiver method args within) answer = answer_text answer ++ io_texts declared.names after args
outcome_text declared before after (put buffer more) answer = decimal (wi_in after buffer - wi_in before buffer)
outcome_text declared before after (close buffer) answer = []
outcome_text declared before after (compact buffer) answer = []
outcome_text declared before after (replace buffers arrays) answer = []

-- How a script ends: all its commands are done, or that of this line needs more turns, or isn't defined within them.
pub data End : Type 0 where
  finished : End
  out_of_turns : (line : ℕ) → End
  not_defined : (line : ℕ) → End

pub record Report : Type 0 where
  pub text : List ℕ
  pub end : End

-- A line before a report, and a line that ends it.
abbrev pub after_line : List ℕ → Report → Report
after_line text report = record { text = (text ++ 10 ∷ []) ++ report.text; end = report.end }

abbrev pub last_line : List ℕ → End → Report
last_line text end = record { text = text ++ 10 ∷ []; end = end }

-- An action's line. After an answer the report goes on, from what is seen then; else it stops here.
abbrev pub after_action : Surface → Declared → Sight → (line : ℕ) → HostAction Buffer → List Seen → (Sight → List Seen → Report) → Report
after_action surface declared sight line action [] rest = record { text = []; end = finished }
after_action surface declared sight line action (answered answer buffers arrays ∷ seen) rest = after_line (action_text surface declared action ++ outcome_text declared sight (record { buffers = buffers; arrays = arrays }) action answer) (rest (record { buffers = buffers; arrays = arrays }) seen)
after_action surface declared sight line action (turns ∷ seen) rest = last_line (action_text surface declared action ++ codes "turns") (out_of_turns line)
after_action surface declared sight line action (undefined ∷ seen) rest = last_line (action_text surface declared action ++ codes "undefined") (not_defined line)

abbrev pub after_command : Surface → Declared → Sight → (line : ℕ) → Command → List Seen → (Sight → List Seen → Report) → Report
after_command surface declared sight line (declares it) seen rest = after_line (declares_text declared it) (rest sight seen)
after_command surface declared sight line (shows it) seen rest = after_line (shows_text declared.names sight it) (rest sight seen)
after_command surface declared sight line (sets_turns n) seen rest = after_line (codes "turns " ++ decimal n) (rest sight seen)
after_command surface declared sight line (acts action) seen rest = after_action surface declared sight line action seen rest

-- The report of commands, from what is seen of their actions and of the buffers and byte arrays before.
unfoldable pub report_from : Surface → Declared → Sight → List Numbered → List Seen → Report
report_from surface declared sight [] seen = record { text = []; end = finished }
report_from surface declared sight (one ∷ others) seen = after_command surface declared sight one.line one.command seen (λ after more. report_from surface declared after others more)

-- The report of a script, from what is seen of all its actions: first of the replacement by what it declares.
abbrev pub report_of : Surface → Script → List Seen → Report
report_of surface script (answered answer buffers arrays ∷ seen) = report_from surface script.declared (record { buffers = buffers; arrays = arrays }) script.commands seen
report_of surface script seen = record { text = []; end = finished }
