-- Memory while a function is called, by the shapes of its objects.
use Rattle.std.proofs.Common.{◌≡◌, ℕ, zero, suc, ◌+◌, ◌-◌, ◌<◌, ◌≤◌, List, [], ◌∷◌, ◌++◌, length, map, drop, replicate, Option, Some, None, refl, sym, subst, ap, ◌∙◌, arith, length-append}
use Rattle.std.specs.Prelude.{slice_get}
use Rattle.std.specs.Option.{option_map_or}
use Rattle.std.proofs.lemmas.List.{append_assoc}
use Rattle.wf_text.specs.HostActions.{HostArg, num, flag, io, bytes}
use Rattle.wf_base.specs.BaseOps.{Buffer}
use Rattle.wf_base.specs.HostRun.{Host}
use Rattle.wf_bufs.specs.declared.calls.Arg.{Arg}
use Rattle.wf_bufs.specs.HostViews.{arg_of}
use Rattle.c_meaning.specs.CMemory.{Object, Memory}
use Rattle.c_meaning.specs.CRun.{no_buffer, buffer_object, io_object, io_objects, arg_bytes, byte_objects, call_memory, slice_values, arg_values, all_values}
use Rattle.c_meaning.specs.Typed.{FieldShape, object_shape, shape_of}
use Rattle.c_step_hosts.specs.Spares.{IsIo, AreIos}
use Rattle.c_step_hosts.specs.Taking.{HaveShapes}
use Rattle.c_step_hosts.specs.Leaving.{AreIosBetween}

ios_length : (host : Host) (object : ℕ) (args : List HostArg) → length (io_objects host object args) ≡ length args
ios_length host object [] = refl
ios_length host object (arg ∷ args) = ap suc (ios_length host (object + 1) args)

nones_length : (n : ℕ) → length (replicate n no_buffer) ≡ n
nones_length zero = refl
nones_length (suc n) = ap suc (nones_length n)

bytes_length : (host : Host) (args : List HostArg) → length (byte_objects host args) ≡ length args
bytes_length host [] = refl
bytes_length host (arg ∷ args) = ap suc (bytes_length host args)

found_is_io : (found : Option Buffer) (object : ℕ) → IsIo (option_map_or (λ b. buffer_object b object) found no_buffer)
found_is_io None object = refl
found_is_io (Some b) object = refl

one_is_io : (host : Host) (object : ℕ) (arg : HostArg) → IsIo (io_object host object arg)
one_is_io host object (num n) = refl
one_is_io host object (flag b) = refl
one_is_io host object (io None) = refl
one_is_io host object (io (Some k)) = found_is_io (slice_get host.buffers k) object
one_is_io host object (bytes name) = refl

ios_are_ios : (host : Host) (object : ℕ) (args : List HostArg) → AreIos (io_objects host object args)
ios_are_ios host object [] = tt
ios_are_ios host object (arg ∷ args) = (one_is_io host object arg, ios_are_ios host (object + 1) args)

nones_are_ios : (n : ℕ) → AreIos (replicate n no_buffer)
nones_are_ios zero = tt
nones_are_ios (suc n) = (refl, nones_are_ios n)

both_ios : (xs ys : List Object) → AreIos xs → AreIos ys → AreIos (xs ++ ys)
both_ios [] ys h k = k
both_ios (x ∷ xs) ys h k = (h.0, both_ios xs ys h.1 k)

-- Objects with the shapes of others.
between_first : (mid back now : Memory) → shape_of now ≡ shape_of (mid ++ back) → AreIos mid → (k : ℕ) (o : Object) → k < length mid → slice_get now k ≡ Some o → IsIo o
between_first [] back now e h k o l g = absurd (omega (arith, l))
between_first (x ∷ mid) back [] e h k o l g = absurd (cc (e))
between_first (x ∷ mid) back (y ∷ now) e h zero o l g =
    let s : y ≡ o = cc (g) in
    let t : object_shape y ≡ object_shape x = cc (e) in
    sym (ap object_shape s) ∙ (t ∙ h.0)
between_first (x ∷ mid) back (y ∷ now) e h (suc k) o l g = between_first mid back now (cc (e)) h.1 k o (omega (arith, l)) g

between : (front mid back now : Memory) → shape_of now ≡ shape_of (front ++ (mid ++ back)) → AreIos mid → (k : ℕ) (o : Object) → length front ≤ k → k < length front + length mid → slice_get now k ≡ Some o → IsIo o
between [] mid back now e h k o f l g = between_first mid back now e h k o (omega (arith, l)) g
between (x ∷ front) mid back [] e h k o f l g = absurd (cc (e))
between (x ∷ front) mid back (y ∷ now) e h zero o f l g = absurd (omega (arith, f))
between (x ∷ front) mid back (y ∷ now) e h (suc k) o f l g = between front mid back now (cc (e)) h k o (omega (arith, f)) (omega (arith, l)) g

dropped : {A B : Type 0} (f : A → B) (front mid back : List A) (k : ℕ) → k ≡ length front + length mid → drop k (map f (front ++ (mid ++ back))) ≡ map f back
dropped f [] [] back zero e = refl
dropped f [] [] back (suc k) e = absurd (omega (arith, e))
dropped f [] (x ∷ mid) back zero e = absurd (omega (arith, e))
dropped f [] (x ∷ mid) back (suc k) e = dropped f [] mid back k (omega (arith, e))
dropped f (x ∷ front) mid back zero e = absurd (omega (arith, e))
dropped f (x ∷ front) mid back (suc k) e = dropped f front mid back k (omega (arith, e))

pub same_length : (xs ys : Memory) → shape_of xs ≡ shape_of ys → length xs ≡ length ys
same_length [] [] e = refl
same_length [] (y ∷ ys) e = absurd (cc (e))
same_length (x ∷ xs) [] e = absurd (cc (e))
same_length (x ∷ xs) (y ∷ ys) e = ap suc (same_length xs ys (cc (e)))

-- Memory as a call leaves it, which keeps all shapes.
module _ (host : Host) (m : Memory) (most : ℕ) (args : List HostArg) (few : length args ≤ most) (now : Memory) (same : shape_of now ≡ shape_of (call_memory host m most args)) where
  abbrev structs : Memory
  structs = io_objects host (length m + most) args ++ replicate (most - length args) no_buffer

  whole : call_memory host m most args ≡ m ++ (structs ++ byte_objects host args)
  whole = ap (λ (xs : Memory). m ++ xs) (sym (append_assoc (io_objects host (length m + most) args) (replicate (most - length args) no_buffer) (byte_objects host args)))

  structs_length : length structs ≡ most
  structs_length =
      let a : length structs ≡ length (io_objects host (length m + most) args) + length (replicate (most - length args) no_buffer) = length-append (io_objects host (length m + most) args) (replicate (most - length args) no_buffer) in
      omega (arith, a, few, ios_length host (length m + most) args, nones_length (most - length args))

  shaped : shape_of now ≡ shape_of (m ++ (structs ++ byte_objects host args))
  shaped = same ∙ ap shape_of whole

  pub lent_size : length now ≡ length m + most + length args
  lent_size =
      let a : length now ≡ length (m ++ (structs ++ byte_objects host args)) = same_length now (m ++ (structs ++ byte_objects host args)) shaped in
      omega (arith, a, length-append m (structs ++ byte_objects host args), length-append structs (byte_objects host args), structs_length, bytes_length host args)

  pub lent_ios : AreIosBetween (length m) (length m + most) now
  lent_ios = λ k o f l g.
      between m structs (byte_objects host args) now shaped (both_ios (io_objects host (length m + most) args) (replicate (most - length args) no_buffer) (ios_are_ios host (length m + most) args) (nones_are_ios (most - length args)))
      k o f (omega (arith, l, structs_length)) g

  pub lent_shapes : HaveShapes now (length m + most) host args
  lent_shapes = ap (λ (xs : List (List FieldShape)). drop (length m + most) xs) shaped ∙ dropped object_shape m structs (byte_objects host args) (length m + most) (omega (arith, structs_length))

  pub during : (n : ℕ) → length m ≡ n → (length now ≡ (n + most) + length args) × AreIosBetween n (n + most) now × HaveShapes now (n + most) host args
  during n e = subst (λ (k : ℕ). (length now ≡ (k + most) + length args) × AreIosBetween k (k + most) now × HaveShapes now (k + most) host args) e (lent_size, lent_ios, lent_shapes)

-- Each argument is passed by two values at most.
slice_length : (them : List ℕ) (object : ℕ) → length (slice_values them object) ≡ 2
slice_length [] object = refl
slice_length (x ∷ xs) object = refl

arg_length : (host : Host) (buffer object : ℕ) (arg : HostArg) → length (arg_values host buffer object arg) ≤ 2
arg_length host buffer object (num n) = omega arith
arg_length host buffer object (flag b) = omega arith
arg_length host buffer object (io None) = omega arith
arg_length host buffer object (io (Some k)) = omega arith
arg_length host buffer object (bytes name) = let e = slice_length (arg_bytes host (bytes name)) object in omega (arith, e)

pub values_length : (host : Host) (buffer object : ℕ) (args : List HostArg) → length (all_values host buffer object args) ≤ length args + length args
values_length host buffer object [] = omega arith
values_length host buffer object (arg ∷ args) =
    let h = values_length host (buffer + 1) (object + 1) args in
    let k = arg_length host buffer object arg in
    let a : length (all_values host buffer object (arg ∷ args)) ≡ length (arg_values host buffer object arg) + length (all_values host (buffer + 1) (object + 1) args) = length-append (arg_values host buffer object arg) (all_values host (buffer + 1) (object + 1) args) in
    omega (arith, a, h, k)

-- What is lent comes to stand after the structs of io buffers.
args_length : (args : List Arg) → length (map arg_of args) ≡ length args
args_length [] = refl
args_length (x ∷ xs) = ap suc (args_length xs)

pub lent_memory : (host : Host) (m mid new : Memory) (most place : ℕ) (args : List Arg) → place ≡ length m + most → mid ≡ m ++ (io_objects host place (map arg_of args) ++ replicate (most - length args) no_buffer)
    → new ≡ mid ++ byte_objects host (map arg_of args) → new ≡ call_memory host m most (map arg_of args)
lent_memory host m mid new most place args there first then_ =
    let ios = io_objects host (length m + most) (map arg_of args) in
    let others = replicate (most - length args) no_buffer in
    let them = byte_objects host (map arg_of args) in
    let start : mid ≡ m ++ (ios ++ others) = first ∙ ap (λ (n : ℕ). m ++ (io_objects host n (map arg_of args) ++ others)) there in
    then_
    ∙ (ap (λ (xs : Memory). xs ++ them) start
    ∙ (append_assoc m (ios ++ others) them
    ∙ (ap (λ (xs : Memory). m ++ xs) (append_assoc ios others them)
    ∙ ap (λ (n : ℕ). m ++ (ios ++ (replicate (most - n) no_buffer ++ them))) (sym (args_length args)))))

pub few_args : (args : List Arg) (most : ℕ) → length args ≤ most → length (map arg_of args) ≤ most
few_args args most h = let e = args_length args in omega (arith, e, h)

pub same_args : (args : List Arg) → length (map arg_of args) ≡ length args
same_args args = args_length args

-- Memory during a call, with the shapes that it had when the call began.
pub during_call : (host : Host) (m : Memory) (most : ℕ) (args : List Arg) (mem now : Memory) (n : ℕ) → length args ≤ most → mem ≡ call_memory host m most (map arg_of args) → shape_of now ≡ shape_of mem → length m ≡ n
    → (length now ≡ (n + most) + length args) × AreIosBetween n (n + most) now × HaveShapes now (n + most) host (map arg_of args)
during_call host m most args mem now n few lent kept e =
    let d = during host m most (map arg_of args) (few_args args most few) now (kept ∙ ap shape_of lent) n e in
    (d.0 ∙ ap (λ (k : ℕ). (n + most) + k) (same_args args), d.1, d.2)
