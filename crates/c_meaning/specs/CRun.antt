-- What is seen of a C text when a host performs a list of actions. Objects have these numbers: the strings of the text,
-- the receivers with the objects inside them, and during a call, for each argument that a method can have, an io buffer,
-- and then for each of them its bytes.
-- What names no section of C here is said in docs/SEMANTICS.md under "What a host sees".
use Rattle.std.specs.Prelude.{ℕ, suc, ◌+◌, ◌-◌, Bool, true, false, not, ◌&&◌, if◌then◌else◌, nat_eq, nat_le, max, List, [], ◌∷◌, ◌++◌, map, length, take, drop, replicate, slice_get, slice_set, Option, Some, None, option_map, option_and_then, bytes_eq, codes}
use Rattle.std.specs.List.{list_any}
use Rattle.std.specs.Option.{option_map_or}
use Rattle.wf_num.specs.declared.c_arithmetic.CTy.TheVariants.{U64}
use Rattle.turns.specs.Run.{Outcome, Got, More, Lost}
use Rattle.wf_text.specs.Surface.{Surface, PublicStruct, PublicMethod, AnswerKind}
use Rattle.wf_text.specs.Surface as kind
use Rattle.wf_text.specs.HostActions.{HostArg, num, flag, io, bytes, HostAction, Receiver}
use Rattle.wf_text.specs.Seen.{Answer, Seen}
use Rattle.wf_text.specs.Seen as answer
use Rattle.wf_base.specs.BaseOps.{Buffer, capacity}
use Rattle.wf_base.specs.HostRun.{Host, empty_host, HostCall, Response, answers, needs_more, not_defined, Steps, run}
use Rattle.wf_base.specs.LawfulActions.{struct_numbered, called_method}
use Rattle.c_text.specs.declared.kinds.CNumber.{CNumber}
use Rattle.c_text.specs.CTree.{TypeTree, FieldKind, plain, inside, FieldTree, ItemTree}
use Rattle.c_meaning.specs.CValues.{number, truth, is_nonzero, literal_number, Pointer, to_object, same_pointer, CValue, numeric, address, null_pointer}
use Rattle.c_meaning.specs.CMemory.{CellType, u8, u64, pointer as a_pointer, flag as a_flag, Cell, num as holds_num, null, at, unset, Field, cells, part, Object, Memory, zero_cell, cell_at, cells_at}
use Rattle.c_meaning.specs.CTypes.{StructDecl, TextDecl}
use Rattle.c_meaning.specs.CExprs.{cell_type}
use Rattle.c_meaning.specs.CStep.{Returned}
use Rattle.c_meaning.specs.CCall.{Program, program_of, host_call}

-- Objects of the text. A string has its bytes and a zero byte (6.7.8p14); an object of a struct is all zero at first,
-- and the objects inside it follow it.
abbrev pub text_object : TextDecl → Object
text_object it = cells u8 (map holds_num (it.bytes ++ 0 ∷ [])) ∷ []

abbrev pub count_of : Option CNumber → ℕ
count_of None = 1
count_of (Some n) = (literal_number n).bits

pub record Laid : Type 0 where
  pub fields : List Field
  pub inside : List Object

abbrev pub with_cells : TypeTree → ℕ → Laid → Laid
with_cells t count rest = record rest { fields = cells (cell_type t) (replicate count (zero_cell (cell_type t))) ∷ rest.fields }

abbrev pub with_part : ℕ → List Object → Laid → Laid
with_part from objects rest = record { fields = part from ∷ rest.fields; inside = objects ++ rest.inside }

abbrev pub with_objects : ℕ → List Object → (ℕ → Laid) → Laid
with_objects from objects rest = with_part from objects (rest (from + length objects))

abbrev pub laid_kind : (List ℕ → ℕ → List Object) → FieldKind → Option CNumber → (from : ℕ) → (ℕ → Laid) → Laid
laid_kind objects (plain t) count from rest = with_cells t (count_of count) (rest from)
laid_kind objects (inside name) count from rest = with_objects from (objects name from) rest

abbrev pub laid_out : (List ℕ → ℕ → List Object) → List FieldTree → (from : ℕ) → Laid
laid_out objects [] from = record { fields = []; inside = [] }
laid_out objects (f ∷ fs) from = laid_kind objects f.kind f.count from (laid_out objects fs)

abbrev pub whole_object : Laid → List Object
whole_object it = it.fields ∷ it.inside

-- The objects of a struct of this name, from a number on. A struct holds only structs that stand after it in the list;
-- one that isn't there would have no fields.
abbrev pub no_fields : List Object
no_fields = [] ∷ []

abbrev pub struct_objects : List StructDecl → List ℕ → ℕ → List Object
struct_objects [] name = λ from. no_fields
struct_objects (s ∷ ss) name = if bytes_eq s.name name then (λ from. whole_object (laid_out (struct_objects ss) s.fields (from + 1))) else struct_objects ss name

-- The names of a package's functions and types.
abbrev pub struct_name : Surface → PublicStruct → List ℕ
struct_name surface it = codes "wuffs_" ++ (surface.package_name ++ (codes "__" ++ it.name))

abbrev pub function_name : Surface → PublicStruct → (method : List ℕ) → List ℕ
function_name surface it method = struct_name surface it ++ (codes "__" ++ method)

abbrev pub initialize_name : Surface → PublicStruct → List ℕ
initialize_name surface it = function_name surface it (codes "initialize")

-- What a host holds of a text: the package's public surface, and its receivers with the pointers to them.
pub record Loaded : Type 0 where
  pub program : Program
  pub surface : Surface
  pub receivers : List Receiver
  pub pointers : List CValue

pub record Made : Type 0 where
  pub pointers : List CValue
  pub memory : Memory

abbrev pub receiver_objects : Program → Surface → Receiver → ℕ → List Object
receiver_objects p surface receiver from = if receiver.null then [] else option_map_or (λ it. struct_objects p.structs (struct_name surface it) from) (struct_numbered surface receiver.struct_number) no_fields

abbrev pub receiver_pointer : Receiver → ℕ → CValue
receiver_pointer receiver from = if receiver.null then null_pointer else address (to_object from)

abbrev pub with_pointer : CValue → Made → Made
with_pointer v made = record made { pointers = v ∷ made.pointers }

abbrev pub make_receivers : Program → Surface → List Receiver → Memory → Made
make_receivers p surface [] memory = record { pointers = []; memory = memory }
make_receivers p surface (receiver ∷ receivers) memory =
    with_pointer (receiver_pointer receiver (length memory)) (make_receivers p surface receivers (memory ++ receiver_objects p surface receiver (length memory)))

abbrev pub made : Program → Surface → List Receiver → Made
made p surface receivers = make_receivers p surface receivers (map text_object p.texts)

abbrev pub loaded : Program → Surface → List Receiver → Loaded
loaded p surface receivers = record { program = p; surface = surface; receivers = receivers; pointers = (made p surface receivers).pointers }

-- How many arguments a method has at most.
abbrev pub most_in : List PublicMethod → ℕ
most_in [] = 0
most_in (m ∷ ms) = max (length m.args) (most_in ms)

abbrev pub most_args : List PublicStruct → ℕ
most_args [] = 0
most_args (it ∷ structs) = max (most_in it.methods) (most_args structs)

-- A buffer as C sees it: `ptr`, `len`, `wi`, `ri`, `pos` and `closed`. One of capacity 0 has a null `ptr`.
abbrev pub bytes_pointer : List ℕ → ℕ → Cell
bytes_pointer [] object = null
bytes_pointer (byte ∷ others) object = at (to_object object)

abbrev pub one_cell : CellType → Cell → Field
one_cell type cell = cells type (cell ∷ [])

abbrev pub buffer_object : Buffer → (bytes_object : ℕ) → Object
buffer_object b object = one_cell a_pointer (bytes_pointer b.cells object) ∷ one_cell u64 (holds_num (capacity b)) ∷ one_cell u64 (holds_num b.wi) ∷ one_cell u64 (holds_num b.ri) ∷ one_cell u64 (holds_num b.pos) ∷ one_cell a_flag (holds_num (if b.closed then 1 else 0)) ∷ []

abbrev pub no_buffer : Object
no_buffer = one_cell a_pointer unset ∷ one_cell u64 unset ∷ one_cell u64 unset ∷ one_cell u64 unset ∷ one_cell u64 unset ∷ one_cell a_flag unset ∷ []

abbrev pub bytes_object : List ℕ → Object
bytes_object them = cells u8 (map holds_num them) ∷ []

-- An argument's io buffer, where the buffer's bytes have this number, and an argument's bytes.
abbrev pub io_object : Host → ℕ → HostArg → Object
io_object host object (io (Some k)) = option_map_or (λ b. buffer_object b object) (slice_get host.buffers k) no_buffer
io_object host object arg = no_buffer

abbrev pub arg_bytes : Host → HostArg → List ℕ
arg_bytes host (io (Some k)) = option_map_or (λ b. b.cells) (slice_get host.buffers k) []
arg_bytes host (bytes (Some k)) = option_map_or (λ them. them) (slice_get host.arrays k) []
arg_bytes host arg = []

abbrev pub io_objects : Host → (object : ℕ) → List HostArg → List Object
io_objects host object [] = []
io_objects host object (arg ∷ args) = io_object host object arg ∷ io_objects host (object + 1) args

abbrev pub byte_objects : Host → List HostArg → List Object
byte_objects host args = map (λ arg. bytes_object (arg_bytes host arg)) args

-- The values that are passed for an argument; an empty slice is null and 0.
abbrev pub slice_values : List ℕ → (object : ℕ) → List CValue
slice_values [] object = null_pointer ∷ numeric (number U64 0) ∷ []
slice_values (byte ∷ others) object = address (to_object object) ∷ numeric (number U64 (suc (length others))) ∷ []

abbrev pub arg_values : Host → (buffer bytes_object : ℕ) → HostArg → List CValue
arg_values host buffer object (num n) = numeric (number U64 n) ∷ []
arg_values host buffer object (flag b) = numeric (truth b) ∷ []
arg_values host buffer object (io None) = null_pointer ∷ []
arg_values host buffer object (io (Some k)) = address (to_object buffer) ∷ []
arg_values host buffer object (bytes name) = slice_values (arg_bytes host (bytes name)) object

abbrev pub all_values : Host → (buffer bytes_object : ℕ) → List HostArg → List CValue
all_values host buffer object [] = []
all_values host buffer object (arg ∷ args) = arg_values host buffer object arg ++ all_values host (buffer + 1) (object + 1) args

-- Memory during a call: io buffers from `buffer` on, bytes from `object` on.
abbrev pub call_memory : Host → Memory → (most : ℕ) → List HostArg → Memory
call_memory host memory most args =
    memory ++ (io_objects host (length memory + most) args ++ (replicate (most - length args) no_buffer ++ byte_objects host args))

-- What C has left of a buffer: the same `ptr` and `len`, and `ri <= wi <= len`; else that is undefined.
abbrev pub number_in : Option (CellType × Cell) → Option ℕ
number_in None = None
number_in (Some found) = number_of found.1
  where
    number_of : Cell → Option ℕ
    number_of (holds_num n) = Some n
    number_of cell = None

abbrev pub is_same_cell : Cell → Cell → Bool
is_same_cell null null = true
is_same_cell (at p) (at q) = same_pointer p q
is_same_cell a b = false

abbrev pub keeps_pointer : Cell → Option (CellType × Cell) → Bool
keeps_pointer cell None = false
keeps_pointer cell (Some found) = is_same_cell cell found.1

abbrev pub numbers_in : List Cell → Option (List ℕ)
numbers_in [] = Some []
numbers_in (holds_num n ∷ others) = option_map (λ ns. n ∷ ns) (numbers_in others)
numbers_in (cell ∷ others) = None

abbrev pub bytes_in : Memory → (object : ℕ) → Option (List ℕ)
bytes_in memory object = option_and_then (λ found. numbers_in found.1) (cells_at memory object 0)

abbrev pub field_cell : Memory → (object field : ℕ) → Option (CellType × Cell)
field_cell memory object field = cell_at memory (record { object = object; field = field; index = 0 })

abbrev pub lawful_buffer : (capacity : ℕ) → Buffer → Option Buffer
lawful_buffer most b = if nat_le b.ri b.wi && nat_le b.wi most then Some b else None

abbrev pub buffer_left : Memory → (buffer object : ℕ) → Buffer → Option Buffer
buffer_left memory buffer object was = if keeps_pointer (bytes_pointer was.cells object) (field_cell memory buffer 0) && is_length (number_in (field_cell memory buffer 1))
    then option_and_then (lawful_buffer (capacity was)) (read (bytes_in memory object) (number_in (field_cell memory buffer 2)) (number_in (field_cell memory buffer 3)) (number_in (field_cell memory buffer 4)) (number_in (field_cell memory buffer 5)))
    else None
  where
    is_length : Option ℕ → Bool
    is_length None = false
    is_length (Some n) = nat_eq n (capacity was)

    read : Option (List ℕ) → (wi ri pos closed : Option ℕ) → Option Buffer
    read (Some them) (Some wi) (Some ri) (Some pos) (Some closed) = Some (record { cells = them; ri = ri; wi = wi; pos = pos; closed = not (nat_eq closed 0) })
    read them wi ri pos closed = None

-- The host's buffers and byte arrays after a call: those that were passed have what C left.
abbrev pub arg_left : Memory → (buffer object : ℕ) → HostArg → Host → Option Host
arg_left memory buffer object (io (Some k)) host = option_and_then (λ was. option_map (λ b. record host { buffers = slice_set host.buffers k b }) (buffer_left memory buffer object was)) (slice_get host.buffers k)
arg_left memory buffer object (bytes (Some k)) host = option_map (λ them. record host { arrays = slice_set host.arrays k them }) (bytes_in memory object)
arg_left memory buffer object arg host = Some host

abbrev pub args_left : Memory → (buffer object : ℕ) → List HostArg → Host → Option Host
args_left memory buffer object [] host = Some host
args_left memory buffer object (arg ∷ args) host = option_and_then (args_left memory (buffer + 1) (object + 1) args) (arg_left memory buffer object arg host)

-- What an action answers. A status is null for ok, or else a pointer to the first byte of a string that says what one of
-- the base statuses or the package's own says; every other pointer is undefined, and so is a value that wasn't returned.
abbrev pub status_text : Program → Surface → Pointer → Option (List ℕ)
status_text p surface q = if nat_eq q.field 0 && nat_eq q.index 0 then option_and_then (λ it. known it.bytes) (slice_get p.texts q.object) else None
  where
    known : List ℕ → Option (List ℕ)
    known them = if list_any (bytes_eq them) (drop 1 surface.statuses) then Some them else None

abbrev pub answer_of : Program → Surface → AnswerKind → Option CValue → Option Answer
answer_of p surface kind.status (Some null_pointer) = Some (answer.status [])
answer_of p surface kind.status (Some (address q)) = option_map answer.status (status_text p surface q)
answer_of p surface (kind.numeric bits) (Some (numeric n)) = Some (answer.num n.bits)
answer_of p surface kind.truth (Some (numeric n)) = Some (answer.flag (is_nonzero n))
answer_of p surface kind.nothing v = Some answer.nothing
answer_of p surface k v = None

abbrev pub answered_with : {A : Type 0} → Option Answer → Option A → Response A
answered_with (Some a) (Some after) = answers a after
answered_with a after = not_defined

abbrev pub response : {A : Type 0} → (Returned → Response A) → Outcome Returned → Response A
response ended (Got left done) = ended done
response ended More = needs_more
response ended Lost = not_defined

-- An init is the call of the struct's `initialize`.
abbrev pub init_ended : Loaded → (objects : ℕ) → Returned → Response Memory
init_ended it objects done = answered_with (answer_of it.program it.surface kind.status done.value) (Some (take objects done.memory))

abbrev pub init_of : Loaded → Memory → PublicStruct → CValue → ℕ → Response Memory
init_of it memory s receiver n = response (init_ended it (length memory)) (host_call it.program (initialize_name it.surface s) n (receiver ∷ []) memory)

abbrev pub defined : {A : Type 0} → Option (Response A) → Response A
defined None = not_defined
defined (Some r) = r

abbrev pub struct_of : Loaded → ℕ → Option PublicStruct
struct_of it k = option_and_then (λ receiver. struct_numbered it.surface receiver.struct_number) (slice_get it.receivers k)

abbrev pub c_init : Loaded → Memory → (receiver turns : ℕ) → Response Memory
c_init it memory k n = defined (option_and_then (λ s. option_map (λ receiver. init_of it memory s receiver n) (slice_get it.pointers k)) (struct_of it k))

-- A public call, with the receiver first.
abbrev pub call_ended : Loaded → Memory → PublicMethod → HostCall → Host → (most : ℕ) → Returned → Response (Memory × Host)
call_ended it memory method called host most done =
    answered_with (answer_of it.program it.surface method.answers done.value)
    (option_map (λ left. (take (length memory) done.memory, left)) (args_left done.memory (length memory) (length memory + most) called.args host))

abbrev pub call_of : Loaded → Memory → PublicStruct → PublicMethod → HostCall → Host → ℕ → CValue → Response (Memory × Host)
call_of it memory s method called host n receiver =
    response (call_ended it memory method called host (most_args it.surface.structs))
    (host_call it.program (function_name it.surface s method.name) n (receiver ∷ all_values host (length memory) (length memory + most_args it.surface.structs) called.args) (call_memory host memory (most_args it.surface.structs) called.args))

abbrev pub c_call : Loaded → Memory → HostCall → Host → (turns : ℕ) → Response (Memory × Host)
c_call it memory called host n =
    defined (option_and_then (λ s. option_and_then (λ method. option_map (call_of it memory s method called host n) (slice_get it.pointers called.receiver)) (called_method it.surface it.receivers called)) (struct_of it called.receiver))

abbrev pub c_steps : Loaded → Steps Memory
c_steps it = record { init = c_init it; call = c_call it }

-- What is seen of the text when these receivers, all zero at first, and no buffers are there.
abbrev pub c_run : List ItemTree → Surface → List Receiver → List (HostAction Buffer) → List Seen
c_run items surface receivers actions =
    run (c_steps (loaded (program_of items) surface receivers)) (made (program_of items) surface receivers).memory empty_host actions
