-- Which lists of actions a host may perform. Calls keep the numbers of buffers and of byte arrays, so these tell which
-- of them stand when an action comes.
use Rattle.std.specs.Prelude.{ℕ, ◌<◌, ◌^◌, ◌≡◌, ⊤, List, [], ◌∷◌, length, Option, Some, None, nat_eq, find, slice_get, option_and_then, All, IfSome, IsSomeAnd}
use Rattle.wf_text.specs.Surface.{Surface, PublicStruct, PublicMethod, PublicArg, ArgKind, number, flag as a_flag, reader, writer, slice}
use Rattle.wf_text.specs.HostActions.{HostArg, num, flag, io, bytes, HostAction, init, call, put, close, compact, replace, Receiver}
use Rattle.wf_base.specs.BaseOps.{Buffer, IsLawful, AreBytes}
use Rattle.wf_base.specs.HostRun.{HostCall}

abbrev pub struct_numbered : Surface → ℕ → Option PublicStruct
struct_numbered surface k = find (λ it. nat_eq it.number k) surface.structs

abbrev pub method_numbered : ℕ → PublicStruct → Option PublicMethod
method_numbered k it = find (λ method. nat_eq method.number k) it.methods

-- The method that a call means: a public one of the receiver's struct.
abbrev pub method_of : Surface → (k : ℕ) → Receiver → Option PublicMethod
method_of surface k receiver = option_and_then (method_numbered k) (struct_numbered surface receiver.struct_number)

abbrev pub called_method : Surface → List Receiver → HostCall → Option PublicMethod
called_method surface receivers called = option_and_then (method_of surface called.method) (slice_get receivers called.receiver)

-- The argument is of this kind, and a buffer or byte array that it names is one of so many.
abbrev pub FitsKind : (buffers arrays : ℕ) → ArgKind → HostArg → Type 0
FitsKind buffers arrays (number bits) (num n) = n < 2 ^ bits
FitsKind buffers arrays a_flag (flag truth) = ⊤
FitsKind buffers arrays reader (io name) = IfSome name (λ k. k < buffers)
FitsKind buffers arrays writer (io name) = IfSome name (λ k. k < buffers)
FitsKind buffers arrays (slice bits) (bytes name) = (bits ≡ 8) × IfSome name (λ k. k < arrays)
FitsKind buffers arrays kind arg = ⊥

-- For each of the method's there is one argument, of its kind.
abbrev pub FitKinds : (buffers arrays : ℕ) → List PublicArg → List HostArg → Type 0
FitKinds buffers arrays [] [] = ⊤
FitKinds buffers arrays (declared ∷ others) (arg ∷ args) = FitsKind buffers arrays declared.kind arg × FitKinds buffers arrays others args
FitKinds buffers arrays declared args = ⊥

abbrev pub consed : Option ℕ → List ℕ → List ℕ
consed None names = names
consed (Some name) names = name ∷ names

-- The buffers, and the byte arrays, that stand in a call.
abbrev pub named_buffers : List HostArg → List ℕ
named_buffers [] = []
named_buffers (io name ∷ args) = consed name (named_buffers args)
named_buffers (arg ∷ args) = named_buffers args

abbrev pub named_arrays : List HostArg → List ℕ
named_arrays [] = []
named_arrays (bytes name ∷ args) = consed name (named_arrays args)
named_arrays (arg ∷ args) = named_arrays args

-- No number stands twice.
abbrev pub AreDistinct : List ℕ → Type 0
AreDistinct [] = ⊤
AreDistinct (name ∷ names) = All (λ other. name ≡ other → ⊥) names × AreDistinct names

-- There is such a receiver, its struct has the method as a public one, and the arguments fit it.
pub record CanCall (surface : Surface) (receivers : List Receiver) (buffers arrays : ℕ) (called : HostCall) : Type 0 where
  pub fit : IsSomeAnd (called_method surface receivers called) (λ method. FitKinds buffers arrays method.args called.args)
  pub buffers_once : AreDistinct (named_buffers called.args)
  pub arrays_once : AreDistinct (named_arrays called.args)

-- Each receiver is of a public struct.
abbrev pub AreDeclared : Surface → List Receiver → Type 0
AreDeclared surface receivers = All (λ receiver. IsSomeAnd (struct_numbered surface receiver.struct_number) (λ _. ⊤)) receivers

-- A byte array's length has 64 bits.
abbrev pub IsByteArray : List ℕ → Type 0
IsByteArray array = AreBytes array × (length array < 2 ^ 64)

-- An action that a host may perform where it has so many buffers and byte arrays.
abbrev pub MayAct : Surface → List Receiver → (buffers arrays : ℕ) → HostAction Buffer → Type 0
MayAct surface receivers buffers arrays (init receiver within) = receiver < length receivers
MayAct surface receivers buffers arrays (call receiver method args within) = CanCall surface receivers buffers arrays (record { receiver = receiver; method = method; args = args })
MayAct surface receivers buffers arrays (put buffer more) = (buffer < buffers) × AreBytes more
MayAct surface receivers buffers arrays (close buffer) = buffer < buffers
MayAct surface receivers buffers arrays (compact buffer) = buffer < buffers
MayAct surface receivers buffers arrays (replace others strings) = All IsLawful others × All IsByteArray strings

-- How many buffers, and byte arrays, stand after an action.
abbrev pub buffers_behind : HostAction Buffer → ℕ → ℕ
buffers_behind (replace others strings) count = length others
buffers_behind action count = count

abbrev pub arrays_behind : HostAction Buffer → ℕ → ℕ
arrays_behind (replace others strings) count = length strings
arrays_behind action count = count

-- A list of actions that a host may perform, each where it stands.
abbrev pub AreLawful : Surface → List Receiver → (buffers arrays : ℕ) → List (HostAction Buffer) → Type 0
AreLawful surface receivers buffers arrays [] = ⊤
AreLawful surface receivers buffers arrays (action ∷ actions) = MayAct surface receivers buffers arrays action × AreLawful surface receivers (buffers_behind action buffers) (arrays_behind action arrays) actions
