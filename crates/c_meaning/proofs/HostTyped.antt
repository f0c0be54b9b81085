-- Lawful buffers and byte arrays make a call's memory hold values of its cells' types.
use Rattle.std.proofs.Common.{ℕ, zero, suc, ◌+◌, ◌-◌, ◌<◌, ◌^◌, Bool, true, false, List, [], ◌∷◌, ◌++◌, map, replicate, Option, Some, None, arith, length}
use Rattle.std.specs.Prelude.{All, slice_get, if◌then◌else◌}
use Rattle.std.specs.Option.{option_map_or}
use Rattle.wf_text.specs.HostActions.{HostArg, num, flag, io, bytes}
use Rattle.wf_base.specs.BaseOps.{Buffer, IsLawful, AreBytes}
use Rattle.wf_base.specs.HostRun.{Host}
use Rattle.wf_base.specs.LawfulActions.{IsByteArray}
use Rattle.c_meaning.specs.CMemory.{u8, pointer, num as holds_num, Object, Memory}
use Rattle.c_meaning.specs.CRun.{bytes_pointer, buffer_object, no_buffer, io_object, arg_bytes, io_objects, byte_objects, call_memory}
use Rattle.c_meaning.specs.Typed.{CellsFit, ObjectFits, IsTyped}

-- What holds of each element holds of one that is found.
abbrev Found : {A : Type 0} → (A → Type 0) → Option A → Type 0
Found P None = Unit {0}
Found P (Some x) = P x

all_tail : {A : Type 0} (P : A → Type 0) (x : A) (xs : List A) → All P (x ∷ xs) → All P xs
all_tail P x xs h = λ k d l. h (suc k) d (omega (arith, l))

all_head : {A : Type 0} (P : A → Type 0) (x : A) (xs : List A) → All P (x ∷ xs) → P x
all_head P x xs h = h 0 x (omega arith)

all_found : {A : Type 0} (P : A → Type 0) (xs : List A) (k : ℕ) → All P xs → Found P (slice_get xs k)
all_found P [] k h = tt
all_found P (x ∷ xs) zero h = all_head P x xs h
all_found P (x ∷ xs) (suc k) h = all_found P xs k (all_tail P x xs h)

bytes_fit : (them : List ℕ) → AreBytes them → CellsFit u8 (map holds_num them)
bytes_fit [] h = tt
bytes_fit (x ∷ xs) h = (all_head (λ n. n < 2 ^ 8) x xs h, bytes_fit xs (all_tail (λ n. n < 2 ^ 8) x xs h))

truth_fits : (b : Bool) → (if b then 1 else 0) < 2
truth_fits true = omega arith
truth_fits false = omega arith

append_typed : (xs ys : List Object) → IsTyped xs → IsTyped ys → IsTyped (xs ++ ys)
append_typed [] ys h k = k
append_typed (x ∷ xs) ys h k = (h.0, append_typed xs ys h.1 k)

pointer_fits : (them : List ℕ) (object : ℕ) → CellsFit pointer (bytes_pointer them object ∷ [])
pointer_fits [] object = (tt, tt)
pointer_fits (x ∷ xs) object = (tt, tt)

buffer_fits : (b : Buffer) (object : ℕ) → IsLawful b → ObjectFits (buffer_object b object)
buffer_fits b object h =
    let w : b.wi < 2 ^ 64 = omega (arith, h.written, h.size) in
    let r : b.ri < 2 ^ 64 = omega (arith, h.read, w) in
    (pointer_fits b.cells object, ((h.size, tt), ((w, tt), ((r, tt), ((h.counted, tt), ((truth_fits b.closed, tt), tt))))))

none_fits : ObjectFits no_buffer
none_fits = ((tt, tt), ((tt, tt), ((tt, tt), ((tt, tt), ((tt, tt), ((tt, tt), tt))))))

found_buffer : (found : Option Buffer) (object : ℕ) → Found IsLawful found → ObjectFits (option_map_or (λ b. buffer_object b object) found no_buffer)
found_buffer None object h = none_fits
found_buffer (Some b) object h = buffer_fits b object h

module _ (host : Host) (buffers : All IsLawful host.buffers) (arrays : All IsByteArray host.arrays) where
  io_fits : (object : ℕ) (arg : HostArg) → ObjectFits (io_object host object arg)
  io_fits object (num n) = none_fits
  io_fits object (flag b) = none_fits
  io_fits object (io None) = none_fits
  io_fits object (io (Some k)) = found_buffer (slice_get host.buffers k) object (all_found IsLawful host.buffers k buffers)
  io_fits object (bytes name) = none_fits

  ios_fit : (object : ℕ) (args : List HostArg) → IsTyped (io_objects host object args)
  ios_fit object [] = tt
  ios_fit object (arg ∷ args) = (io_fits object arg, ios_fit (object + 1) args)

  nones_fit : (count : ℕ) → IsTyped (replicate count no_buffer)
  nones_fit zero = tt
  nones_fit (suc count) = (none_fits, nones_fit count)

  found_cells : (found : Option Buffer) → Found IsLawful found → AreBytes (option_map_or (λ b. b.cells) found [])
  found_cells None h = λ k d l. absurd (omega (arith, l))
  found_cells (Some b) h = h.bytes

  found_array : (found : Option (List ℕ)) → Found IsByteArray found → AreBytes (option_map_or (λ them. them) found [])
  found_array None h = λ k d l. absurd (omega (arith, l))
  found_array (Some them) h = h.0

  no_bytes : AreBytes []
  no_bytes = λ k d l. absurd (omega (arith, l))

  arg_bytes_are : (arg : HostArg) → AreBytes (arg_bytes host arg)
  arg_bytes_are (num n) = no_bytes
  arg_bytes_are (flag b) = no_bytes
  arg_bytes_are (io None) = no_bytes
  arg_bytes_are (io (Some k)) = found_cells (slice_get host.buffers k) (all_found IsLawful host.buffers k buffers)
  arg_bytes_are (bytes None) = no_bytes
  arg_bytes_are (bytes (Some k)) = found_array (slice_get host.arrays k) (all_found IsByteArray host.arrays k arrays)

  bytes_objects_fit : (args : List HostArg) → IsTyped (byte_objects host args)
  bytes_objects_fit [] = tt
  bytes_objects_fit (arg ∷ args) = ((bytes_fit (arg_bytes host arg) (arg_bytes_are arg), tt), bytes_objects_fit args)

  pub call_memory_typed : (memory : Memory) (most : ℕ) (args : List HostArg) → IsTyped memory → IsTyped (call_memory host memory most args)
  call_memory_typed memory most args h = append_typed memory _ h (append_typed (io_objects host (length memory + most) args) _ (ios_fit (length memory + most) args)
      (append_typed (replicate (most - length args) no_buffer) _ (nones_fit (most - length args)) (bytes_objects_fit args)))
