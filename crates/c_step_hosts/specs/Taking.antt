-- What C has left of an io buffer's struct.
use Rattle.std.specs.Prelude.{◌≡◌, ℕ, ◌<◌, ◌≤◌, Bool, true, false, not, ◌&&◌, if◌then◌else◌, nat_eq, List, [], length, drop, Option, Some, None, slice_get, slice_set}
use Rattle.wf_base.specs.BaseOps.{Buffer}
use Rattle.wf_base.specs.HostRun.{Host}
use Rattle.wf_text.specs.HostActions.{HostArg, num, flag, io, bytes}
use Rattle.c_meaning.specs.CMemory.{Object, Memory}
use Rattle.c_meaning.specs.CRun.{bytes_object, bytes_pointer, byte_objects, number_in, keeps_pointer, field_cell}
use Rattle.c_meaning.specs.Typed.{object_shape, shape_of}
use Rattle.c_mem.specs.FieldParts.{has_bytes}
use Rattle.c_step_hosts.specs.declared.taking.Indices.{Indices}

abbrev pub indices_of : (wi ri pos closed : Option ℕ) → Option Indices
indices_of (Some wi) (Some ri) (Some pos) (Some closed) = Some (record { wi = wi; ri = ri; pos = pos; closed = closed })
indices_of (Some wi) (Some ri) (Some pos) None = None
indices_of (Some wi) (Some ri) None closed = None
indices_of (Some wi) None pos closed = None
indices_of None ri pos closed = None

abbrev pub has_length : Option ℕ → (size : ℕ) → Bool
has_length None size = false
has_length (Some n) size = nat_eq n size

-- It still leads to the bytes that it led to, of the same number, and its numbers are set.
abbrev pub indices_left : Memory → (buffer object : ℕ) → (them : List ℕ) → Option Indices
indices_left memory buffer object them =
    if keeps_pointer (bytes_pointer them object) (field_cell memory buffer 0) && has_length (number_in (field_cell memory buffer 1)) (length them)
    then indices_of (number_in (field_cell memory buffer 2)) (number_in (field_cell memory buffer 3)) (number_in (field_cell memory buffer 4)) (number_in (field_cell memory buffer 5))
    else None

abbrev pub buffer_with : List ℕ → Indices → Buffer
buffer_with them i = record { cells = them; ri = i.ri; wi = i.wi; pos = i.pos; closed = not (nat_eq i.closed 0) }

-- Something is given where it is true, and it has come to this; else nothing is.
abbrev pub Gives : {A : Type 0} → Option A → Bool → (A → Type 0) → Type 0
Gives {A = A} given true has = (x : A) × (given ≡ Some x) × has x
Gives given false has = given ≡ None

-- Memory when an argument's bytes have been taken back: the object that had them has none.
abbrev pub bytes_back : HostArg → Memory → (object : ℕ) → Memory
bytes_back (num n) memory object = memory
bytes_back (flag b) memory object = memory
bytes_back (io None) memory object = memory
bytes_back (io (Some k)) memory object = slice_set memory object (bytes_object [])
bytes_back (bytes None) memory object = memory
bytes_back (bytes (Some k)) memory object = slice_set memory object (bytes_object [])

-- An object that still has the shape of so many bytes.
abbrev pub HasShape : Memory → (object : ℕ) → (them : List ℕ) → Type 0
HasShape memory object them = (o : Object) × (slice_get memory object ≡ Some o) × (object_shape o ≡ object_shape (bytes_object them))

-- From this object on stand the bytes of the arguments, in their shapes.
abbrev pub HaveShapes : Memory → (object : ℕ) → Host → List HostArg → Type 0
HaveShapes memory object host args = drop object (shape_of memory) ≡ shape_of (byte_objects host args)

-- The objects from one number on and below another have bytes that are set.
abbrev pub HaveBytesBetween : (from to : ℕ) → Memory → Type 0
HaveBytesBetween from to memory = (k : ℕ) (o : Object) → from ≤ k → k < to → slice_get memory k ≡ Some o → has_bytes o ≡ true
