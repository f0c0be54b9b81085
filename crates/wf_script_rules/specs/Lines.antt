-- What one line is: what it declares or sets, and its command, or the first rule that its words break.
use Rattle.std.specs.Prelude.{ℕ, ◌+◌, Bool, true, false, List, [], ◌∷◌, ◌++◌, length, map, Result, Ok, Err, nat_eq, nat_lt, nat_le}
use Rattle.std.specs.Option.{ok_or}
use Rattle.wf_text.specs.HostActions.{HostAction, init, call, put, close, compact, Receiver}
use Rattle.wf_text.specs.Surface.{Surface}
use Rattle.wf_base.specs.BaseOps.{Buffer}
use Rattle.wf_bufs.specs.HostViews.{arg_of}
use Rattle.wf_script_rules.specs.declared.rules.XRule.{XRule}
use Rattle.wf_script_rules.specs.declared.rules.XRule.TheVariants.{X1, X3, X4}
use Rattle.wf_script_rules.specs.declared.rules.Verb.{Verb}
use Rattle.wf_script_rules.specs.declared.rules.Verb.TheVariants as verb
use Rattle.wf_script_rules.specs.declared.rules.Thing.{Thing}
use Rattle.wf_script_rules.specs.declared.rules.Thing.TheVariants as thing
use Rattle.wf_script_rules.specs.Text.{begins}
use Rattle.wf_script_rules.specs.Words.{◌>>=◌, demand, number_up_to, bytes_spelt, verb_of}
use Rattle.wf_script_rules.specs.Names.{Declared, stores}
use Rattle.wf_script_rules.specs.Values.{next_word, at_end, new_name, known, known_receiver, known_buffer, known_struct, target_of, args_of}

-- What a line that isn't skipped does.
pub data Command : Type 0 where
  -- a receiver, a buffer or a byte array is declared
  declares : Thing → Command
  -- the host acts: an init, a call, a put, a close or a compact
  acts : HostAction Buffer → Command
  -- a buffer or a byte array is shown
  shows : Thing → Command
  -- later calls and inits get so many turns
  sets_turns : ℕ → Command

abbrev pub Line : Type 0
Line = Result (Declared × Command) XRule

-- The thing under a new name stands after those declared before.
abbrev pub with_name : List ℕ → Thing → Declared → Declared
with_name word it declared = record declared { names = declared.names ++ (record { name = word; thing = it }) ∷ [] }

abbrev pub with_receiver : List ℕ → Receiver → Declared → Declared
with_receiver word it declared = record (with_name word (thing.Receiver (length declared.receivers)) declared) { receivers = declared.receivers ++ it ∷ [] }

abbrev pub with_buffer : List ℕ → ℕ → Declared → Declared
with_buffer word size declared = record (with_name word (thing.Buffer (length declared.sizes)) declared) { sizes = declared.sizes ++ size ∷ []; stored = declared.stored + size }

abbrev pub with_array : List ℕ → List ℕ → Declared → Declared
with_array word array declared = record (with_name word (thing.Array (length declared.arrays)) declared) { arrays = declared.arrays ++ array ∷ []; stored = declared.stored + length array }

-- The name of a new receiver. There are at most 64 receivers.
unfoldable pub new_receiver : Declared → List (List ℕ) → Result (List ℕ × List (List ℕ)) XRule
new_receiver declared words = do
  name ← next_word words
  new ← new_name declared.names name.0
  room ← demand (nat_lt (length declared.receivers) 64) X4
  Ok name

unfoldable pub receiver_words : (null : Bool) → Surface → Declared → List (List ℕ) → Result (List ℕ × Receiver) XRule
receiver_words null surface declared words = do
  name ← new_receiver declared words
  type ← next_word name.1
  it ← known_struct surface type.0
  over ← at_end type.1
  Ok (name.0, record { struct_number = it.number; null = null })

-- `new NAME STRUCT` and `null NAME STRUCT`.
unfoldable pub receiver_line : (null : Bool) → Surface → Declared → List (List ℕ) → Line
receiver_line null surface declared words = do
  one ← receiver_words null surface declared words
  Ok (with_receiver one.0 one.1 declared, declares (thing.Receiver (length declared.receivers)))

-- The name of a new buffer or byte array, of which there are at most 64 together.
unfoldable pub new_store : Declared → List (List ℕ) → Result (List ℕ × List (List ℕ)) XRule
new_store declared words = do
  name ← next_word words
  new ← new_name declared.names name.0
  room ← demand (nat_lt (stores declared) 64) X4
  Ok name

-- So many bytes more fit the 67,108,864 that all buffers and byte arrays may have.
abbrev pub fits_store : Declared → ℕ → Result (Unit {0}) XRule
fits_store declared count = demand (nat_le (declared.stored + count) 67108864) X4

-- The size of a new buffer, which has at most 16,777,216 bytes.
unfoldable pub buffer_size : Declared → List ℕ → Result ℕ XRule
buffer_size declared word = do
  size ← number_up_to 16777216 word
  fits ← fits_store declared size
  Ok size

unfoldable pub buffer_words : Declared → List (List ℕ) → Result (List ℕ × ℕ) XRule
buffer_words declared words = do
  name ← new_store declared words
  digits ← next_word name.1
  size ← buffer_size declared digits.0
  over ← at_end digits.1
  Ok (name.0, size)

-- `buf NAME N`.
unfoldable pub buffer_line : Declared → List (List ℕ) → Line
buffer_line declared words = do
  one ← buffer_words declared words
  Ok (with_buffer one.0 one.1 declared, declares (thing.Buffer (length declared.sizes)))

-- The bytes of a new byte array.
unfoldable pub array_bytes : Declared → List ℕ → Result (List ℕ) XRule
array_bytes declared word = do
  bytes ← bytes_spelt word
  fits ← fits_store declared (length bytes)
  Ok bytes

unfoldable pub array_words : Declared → List (List ℕ) → Result (List ℕ × List ℕ) XRule
array_words declared words = do
  name ← new_store declared words
  digits ← next_word name.1
  bytes ← array_bytes declared digits.0
  over ← at_end digits.1
  Ok (name.0, bytes)

-- `bytes NAME HEX`.
unfoldable pub array_line : Declared → List (List ℕ) → Line
array_line declared words = do
  one ← array_words declared words
  Ok (with_array one.0 one.1 declared, declares (thing.Array (length declared.arrays)))

-- `init NAME`.
unfoldable pub init_line : Declared → List (List ℕ) → Line
init_line declared words = do
  name ← next_word words
  k ← known_receiver declared.names name.0
  over ← at_end name.1
  Ok (declared, acts (init k declared.turns))

unfoldable pub named_buffer : Declared → List (List ℕ) → Result (ℕ × List (List ℕ)) XRule
named_buffer declared words = do
  name ← next_word words
  k ← known_buffer declared.names name.0
  Ok (k, name.1)

-- `put NAME HEX`.
unfoldable pub put_line : Declared → List (List ℕ) → Line
put_line declared words = do
  buffer ← named_buffer declared words
  digits ← next_word buffer.1
  bytes ← bytes_spelt digits.0
  over ← at_end digits.1
  Ok (declared, acts (put buffer.0 bytes))

-- `close NAME` and `compact NAME`.
unfoldable pub only_buffer : Declared → List (List ℕ) → Result ℕ XRule
only_buffer declared words = do
  buffer ← named_buffer declared words
  over ← at_end buffer.1
  Ok buffer.0

-- A receiver can't be shown.
abbrev pub shown : Thing → Result Thing XRule
shown (thing.Receiver k) = Err X3
shown (thing.Buffer k) = Ok (thing.Buffer k)
shown (thing.Array k) = Ok (thing.Array k)

-- `show NAME`.
unfoldable pub show_line : Declared → List (List ℕ) → Line
show_line declared words = do
  name ← next_word words
  it ← known declared.names name.0
  seen ← shown it
  over ← at_end name.1
  Ok (declared, shows seen)

-- `turns N`, at most 10,000,000.
unfoldable pub turns_line : Declared → List (List ℕ) → Line
turns_line declared words = do
  digits ← next_word words
  n ← number_up_to 10000000 digits.0
  over ← at_end digits.1
  Ok (record declared { turns = n }, sets_turns n)

-- `call NAME.METHOD ARG=VALUE ..`.
unfoldable pub call_line : Surface → Declared → List (List ℕ) → Line
call_line surface declared words = do
  name ← next_word words
  target ← target_of surface declared name.0
  args ← args_of declared.names target.method.args name.1
  Ok (declared, acts (call target.receiver target.method.number (map arg_of args) declared.turns))

abbrev pub line_by : Verb → Surface → Declared → List (List ℕ) → Line
line_by verb.New surface declared words = receiver_line false surface declared words
line_by verb.Null surface declared words = receiver_line true surface declared words
line_by verb.Init surface declared words = init_line declared words
line_by verb.Buf surface declared words = buffer_line declared words
line_by verb.Bytes surface declared words = array_line declared words
line_by verb.Put surface declared words = put_line declared words
line_by verb.Close surface declared words = only_buffer declared words >>= (λ k. Ok (declared, acts (close k)))
line_by verb.Compact surface declared words = only_buffer declared words >>= (λ k. Ok (declared, acts (compact k)))
line_by verb.Show surface declared words = show_line declared words
line_by verb.Turns surface declared words = turns_line declared words
line_by verb.Call surface declared words = call_line surface declared words

-- A line is skipped that has no words, or whose first word begins with `#` (35).
abbrev pub is_skipped : List (List ℕ) → Bool
is_skipped [] = true
is_skipped (word ∷ words) = begins (λ byte. nat_eq byte 35) word

-- A line that isn't skipped.
unfoldable pub line_of : Surface → Declared → List (List ℕ) → Line
line_of surface declared words = do
  first ← next_word words
  verb ← ok_or (verb_of first.0) X1
  line_by verb surface declared first.1
