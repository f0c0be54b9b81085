-- The names and the arguments that a line gives, judged by what was declared.
use Rattle.std.specs.Prelude.{ℕ, ◌-◌, ◌^◌, Bool, true, false, not, ◌&&◌, List, [], ◌∷◌, length, replicate, slice_get, slice_set, Option, Some, None, Result, Ok, Err, nat_eq, if◌then◌else◌, codes, find}
use Rattle.std.specs.List.{list_any, position}
use Rattle.std.specs.Option.{is_some, is_none, ok_or}
use Rattle.std.specs.Str.{bytes_eq}
use Rattle.wf_text.specs.HostActions.{Receiver}
use Rattle.wf_text.specs.Surface.{Surface, PublicStruct, PublicMethod, PublicArg, ArgKind, number, flag, reader, writer, slice}
use Rattle.wf_base.specs.LawfulActions.{struct_numbered}
use Rattle.wf_bufs.specs.declared.calls.Arg.{Arg}
use Rattle.wf_bufs.specs.declared.calls.Arg.TheVariants as arg
use Rattle.wf_script_rules.specs.declared.rules.XRule.{XRule}
use Rattle.wf_script_rules.specs.declared.rules.XRule.TheVariants.{X2, X3, X5}
use Rattle.wf_script_rules.specs.declared.rules.Thing.{Thing}
use Rattle.wf_script_rules.specs.declared.rules.Thing.TheVariants as thing
use Rattle.wf_script_rules.specs.Words.{◌>>=◌, demand, is_name, number_up_to, cut_at}
use Rattle.wf_script_rules.specs.Names.{Named, Declared, thing_named}

-- The words of a line from left to right: the next one, which must not be missing, with those after it.
abbrev pub next_word : List (List ℕ) → Result (List ℕ × List (List ℕ)) XRule
next_word [] = Err X3
next_word (word ∷ words) = Ok (word, words)

-- No word is left.
abbrev pub at_end : List (List ℕ) → Result (Unit {0}) XRule
at_end [] = Ok tt
at_end (word ∷ words) = Err X3

-- A name that the line declares.
unfoldable pub new_name : List Named → List ℕ → Result (Unit {0}) XRule
new_name names word = demand (is_name word && is_none (thing_named word names)) X3

-- A name of any kind.
unfoldable pub known : List Named → List ℕ → Result Thing XRule
known names word = ok_or (thing_named word names) X2

-- A name of one kind, with its number.
abbrev pub receiver_in : Thing → Result ℕ XRule
receiver_in (thing.Receiver k) = Ok k
receiver_in _ = Err X3

abbrev pub buffer_in : Thing → Result ℕ XRule
buffer_in (thing.Buffer k) = Ok k
buffer_in _ = Err X3

abbrev pub array_in : Thing → Result ℕ XRule
array_in (thing.Array k) = Ok k
array_in _ = Err X3

abbrev pub known_receiver : List Named → List ℕ → Result ℕ XRule
known_receiver names word = known names word >>= receiver_in

abbrev pub known_buffer : List Named → List ℕ → Result ℕ XRule
known_buffer names word = known names word >>= buffer_in

abbrev pub known_array : List Named → List ℕ → Result ℕ XRule
known_array names word = known names word >>= array_in

-- A public struct.
unfoldable pub known_struct : Surface → List ℕ → Result PublicStruct XRule
known_struct surface word = ok_or (find (λ it. bytes_eq it.name word) surface.structs) X2

-- A public method of a receiver's struct.
unfoldable pub known_method : Surface → Receiver → List ℕ → Result PublicMethod XRule
known_method surface receiver word = do
  it ← ok_or (struct_numbered surface receiver.struct_number) X2
  ok_or (find (λ method. bytes_eq method.name word) it.methods) X2

-- What a call is of: RECEIVER.METHOD, the first dot (46) ending the receiver's name.
pub record Target : Type 0 where
  pub receiver : ℕ
  pub method : PublicMethod

unfoldable pub target_of : Surface → Declared → List ℕ → Result Target XRule
target_of surface declared word = do
  parts ← ok_or (cut_at 46 word) X3
  k ← known_receiver declared.names parts.0
  receiver ← ok_or (slice_get declared.receivers k) X2
  method ← known_method surface receiver parts.1
  Ok (record { receiver = k; method = method })

abbrev pub is_null : List ℕ → Bool
is_null word = bytes_eq word (codes "null")

-- The truth values.
unfoldable pub flag_value : List ℕ → Result Arg XRule
flag_value word =
    if bytes_eq word (codes "true") then Ok (arg.Flag true)
    else if bytes_eq word (codes "false") then Ok (arg.Flag false)
    else Err X3

unfoldable pub io_value : List Named → List ℕ → Result Arg XRule
io_value names word = if is_null word then Ok (arg.Io None) else known_buffer names word >>= (λ k. Ok (arg.Io (Some k)))

unfoldable pub bytes_value : List Named → List ℕ → Result Arg XRule
bytes_value names word = if is_null word then Ok (arg.Bytes None) else known_array names word >>= (λ k. Ok (arg.Bytes (Some k)))

unfoldable pub number_value : (bits : ℕ) → List ℕ → Result Arg XRule
number_value bits word = number_up_to (2 ^ bits - 1) word >>= (λ n. Ok (arg.Num n))

-- The value of an argument of this kind. Only slices of bytes can be given.
abbrev pub value_of : List Named → ArgKind → List ℕ → Result Arg XRule
value_of names (number bits) word = number_value bits word
value_of names flag word = flag_value word
value_of names reader word = io_value names word
value_of names writer word = io_value names word
value_of names (slice bits) word = if nat_eq bits 8 then bytes_value names word else Err X3

-- At one word an unknown name (X2) comes before an argument that is given twice (X3), and this before all else.
abbrev pub unless_given : Bool → Result Arg XRule → Result Arg XRule
unless_given false value = value
unless_given true (Err X2) = Err X2
unless_given true value = Err X3

-- Two values name one buffer, or one byte array.
abbrev pub names_same : Arg → Option Arg → Bool
names_same (arg.Io (Some j)) (Some (arg.Io (Some k))) = nat_eq j k
names_same (arg.Bytes (Some j)) (Some (arg.Bytes (Some k))) = nat_eq j k
names_same _ _ = false

-- ARG=VALUE, the first `=` (61) ending the name: which argument it is, of what kind, and the value's text.
pub record ArgWord : Type 0 where
  pub number : ℕ
  pub kind : ArgKind
  pub text : List ℕ

unfoldable pub arg_word : List PublicArg → List ℕ → Result ArgWord XRule
arg_word args word = do
  parts ← ok_or (cut_at 61 word) X3
  k ← ok_or (position (λ it. bytes_eq it.name parts.0) args) X3
  it ← ok_or (slice_get args k) X3
  Ok (record { number = k; kind = it.kind; text = parts.1 })

-- Its value, after the arguments given so far, which stand in declared order.
unfoldable pub arg_value : List Named → List (Option Arg) → ArgWord → Result Arg XRule
arg_value names given at = do
  before ← ok_or (slice_get given at.number) X3
  value ← unless_given (is_some before) (value_of names at.kind at.text)
  once ← demand (not (list_any (names_same value) given)) X5
  Ok value

-- The arguments given so far with one word more.
unfoldable pub with_arg : List Named → List PublicArg → List (Option Arg) → List ℕ → Result (List (Option Arg)) XRule
with_arg names args given word = do
  at ← arg_word args word
  value ← arg_value names given at
  Ok (slice_set given at.number (Some value))

-- And with all words of the line.
unfoldable pub with_args : List Named → List PublicArg → List (Option Arg) → List (List ℕ) → Result (List (Option Arg)) XRule
with_args names args given [] = Ok given
with_args names args given (word ∷ words) = with_arg names args given word >>= (λ more. with_args names args more words)

-- No argument is missing.
unfoldable pub all_given : List (Option Arg) → Result (List Arg) XRule
all_given [] = Ok []
all_given (one ∷ others) = do
  first ← ok_or one X3
  rest ← all_given others
  Ok (first ∷ rest)

-- The arguments of a call, in declared order.
unfoldable pub args_of : List Named → List PublicArg → List (List ℕ) → Result (List Arg) XRule
args_of names args words = with_args names args (replicate (length args) None) words >>= all_given
