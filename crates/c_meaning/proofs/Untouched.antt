-- What a host's call doesn't name stays as it was.
use Rattle.std.proofs.Common.{◌≡◌, ℕ, zero, suc, ◌+◌, ◌-◌, ◌<◌, ◌≤◌, Bool, true, false, List, [], ◌∷◌, ◌++◌, map, replicate, Option, Some, None, refl, subst, ◌∙◌, arith, length, take, length-set, length-append}
use Rattle.std.specs.Prelude.{◌||◌, nat_eq, slice_get, slice_set, option_map, option_and_then}
use Rattle.std.specs.Option.{option_map_or}
use Rattle.std.proofs.lemmas.Bool.Decides.{nat_tests}
use Rattle.turns.specs.Run.{Outcome, Got, More, Lost}
use Rattle.wf_text.specs.HostActions.{HostArg, num, flag, io, bytes}
use Rattle.wf_text.specs.Seen.{Answer}
use Rattle.wf_base.specs.BaseOps.{Buffer}
use Rattle.wf_base.specs.HostRun.{Host, HostCall, Response, answers, needs_more, not_defined}
use Rattle.wf_base.specs.LawfulActions.{consed, named_buffers, named_arrays, called_method}
use Rattle.c_meaning.specs.CValues.{CValue}
use Rattle.c_meaning.specs.CMemory.{num as holds_num, Object, Memory}
use Rattle.c_meaning.specs.CStep.{Returned}
use Rattle.c_meaning.specs.CCall.{host_call}
use Rattle.wf_text.specs.Surface as kind
use Rattle.c_meaning.specs.CRun.{function_name, initialize_name, Loaded, bytes_pointer, buffer_object, no_buffer, io_object, arg_bytes, io_objects, byte_objects, slice_values, arg_values, all_values, call_memory, bytes_in, buffer_left, arg_left, args_left, answer_of, answered_with, response, init_ended, defined, struct_of, c_init, call_ended, c_call, most_args}
use Rattle.c_meaning.specs.Reach.{CellsIn, ObjectIn, FoundIn, ValueIn, ValuesIn, OptionIn, IsReady, Keeps}
use Rattle.c_meaning.specs.Untouched.{is_named, HostKeeps}
use Rattle.c_meaning.proofs.Stores.{get_set_other}
use Rattle.c_meaning.proofs.ReachSteps.{OutIn, call_in, get_take, found_take, length_take, below}

-- Buffers and byte arrays.
host_same : (args : List HostArg) (host : Host) → HostKeeps args host host
host_same args host = record { buffers = λ k e. refl; arrays = λ k e. refl; buffers_count = refl; arrays_count = refl }

abbrev Left : List HostArg → Host → Option Host → Type 0
Left args host None = Unit {0}
Left args host (Some now) = HostKeeps args host now

both_false : (a b : Bool) → (a || b) ≡ false → (a ≡ false) × (b ≡ false)
both_false true b e = absurd (cc (e))
both_false false b e = (refl, e)

not_same : (k j : ℕ) → nat_eq k j ≡ false → j ≡ k → ⊥
not_same k j e p = absurd (grind (arith, nat_tests, e, p))

more_named : (name : Option ℕ) (names : List ℕ) (k : ℕ) → is_named (consed name names) k ≡ false → is_named names k ≡ false
more_named None names k e = e
more_named (Some j) names k e = (both_false (nat_eq k j) (is_named names k) e).1

-- the arguments after the first one
behind : (arg : HostArg) (args : List HostArg) (a b : Host) → HostKeeps args a b → HostKeeps (arg ∷ args) a b
behind (num n) args a b h = record { buffers = h.buffers; arrays = h.arrays; buffers_count = h.buffers_count; arrays_count = h.arrays_count }
behind (flag t) args a b h = record { buffers = h.buffers; arrays = h.arrays; buffers_count = h.buffers_count; arrays_count = h.arrays_count }
behind (io name) args a b h = record { buffers = λ k e. h.buffers k (more_named name (named_buffers args) k e); arrays = h.arrays; buffers_count = h.buffers_count; arrays_count = h.arrays_count }
behind (bytes name) args a b h = record { buffers = h.buffers; arrays = λ k e. h.arrays k (more_named name (named_arrays args) k e); buffers_count = h.buffers_count; arrays_count = h.arrays_count }

host_then : (args : List HostArg) (a b c : Host) → HostKeeps args a b → HostKeeps args b c → HostKeeps args a c
host_then args a b c h g = record { buffers = λ k e. g.buffers k e ∙ h.buffers k e; arrays = λ k e. g.arrays k e ∙ h.arrays k e; buffers_count = g.buffers_count ∙ h.buffers_count; arrays_count = g.arrays_count ∙ h.arrays_count }

buffer_set : (j : ℕ) (args : List HostArg) (host : Host) (b : Buffer) → HostKeeps (io (Some j) ∷ args) host (record host { buffers = slice_set host.buffers j b })
buffer_set j args host b = record { buffers = λ k e. get_set_other host.buffers j k b (not_same k j (both_false (nat_eq k j) (is_named (named_buffers args) k) e).0); arrays = λ k e. refl; buffers_count = length-set host.buffers j b; arrays_count = refl }

array_set : (j : ℕ) (args : List HostArg) (host : Host) (them : List ℕ) → HostKeeps (bytes (Some j) ∷ args) host (record host { arrays = slice_set host.arrays j them })
array_set j args host them = record { buffers = λ k e. refl; arrays = λ k e. get_set_other host.arrays j k them (not_same k j (both_false (nat_eq k j) (is_named (named_arrays args) k) e).0); buffers_count = refl; arrays_count = length-set host.arrays j them }

arg_keeps : (memory : Memory) (buffer object : ℕ) (arg : HostArg) (args : List HostArg) (host : Host) → Left (arg ∷ args) host (arg_left memory buffer object arg host)
arg_keeps memory buffer object (num n) args host = host_same (num n ∷ args) host
arg_keeps memory buffer object (flag t) args host = host_same (flag t ∷ args) host
arg_keeps memory buffer object (io None) args host = host_same (io None ∷ args) host
arg_keeps memory buffer object (bytes None) args host = host_same (bytes None ∷ args) host
arg_keeps memory buffer object (io (Some j)) args host = by_buffer (slice_get host.buffers j)
  where
    by_left : (b : Option Buffer) → Left (io (Some j) ∷ args) host (option_map (λ now. record host { buffers = slice_set host.buffers j now }) b)
    by_left None = tt
    by_left (Some b) = buffer_set j args host b

    by_buffer : (was : Option Buffer) → Left (io (Some j) ∷ args) host (option_and_then (λ it. option_map (λ now. record host { buffers = slice_set host.buffers j now }) (buffer_left memory buffer object it)) was)
    by_buffer None = tt
    by_buffer (Some was) = by_left (buffer_left memory buffer object was)
arg_keeps memory buffer object (bytes (Some j)) args host = by_bytes (bytes_in memory object)
  where
    by_bytes : (them : Option (List ℕ)) → Left (bytes (Some j) ∷ args) host (option_map (λ now. record host { arrays = slice_set host.arrays j now }) them)
    by_bytes None = tt
    by_bytes (Some them) = array_set j args host them

left_then : (args : List HostArg) (host : Host) (o : Option Host) (f : Host → Option Host) → Left args host o → ((now : Host) → Left args now (f now)) → Left args host (option_and_then f o)
left_then args host None f h g = tt
left_then args host (Some now) f h g = by_last (f now) (g now)
  where
    by_last : (o : Option Host) → Left args now o → Left args host o
    by_last None k = tt
    by_last (Some last) k = host_then args host now last h k

left_behind : (arg : HostArg) (args : List HostArg) (host : Host) (o : Option Host) → Left args host o → Left (arg ∷ args) host o
left_behind arg args host None h = tt
left_behind arg args host (Some now) h = behind arg args host now h

args_keep : (memory : Memory) (args : List HostArg) (buffer object : ℕ) (host : Host) → Left args host (args_left memory buffer object args host)
args_keep memory [] buffer object host = host_same [] host
args_keep memory (arg ∷ args) buffer object host =
    left_then (arg ∷ args) host (arg_left memory buffer object arg host) (args_left memory (buffer + 1) (object + 1) args) (arg_keeps memory buffer object arg args host)
    (λ now. left_behind arg args now _ (args_keep memory args (buffer + 1) (object + 1) now))

-- Responses, by what they leave.
abbrev pub Leaves : {A : Type 0} → (A → Type 0) → Response A → Type 0
Leaves P (answers a after) = P after
Leaves P needs_more = Unit {0}
Leaves P not_defined = Unit {0}

abbrev pub IfThere : {A : Type 0} → (A → Type 0) → Option A → Type 0
IfThere P None = Unit {0}
IfThere P (Some a) = P a

pub answered_leaves : {A : Type 0} (P : A → Type 0) (a : Option Answer) (after : Option A) → IfThere P after → Leaves P (answered_with a after)
answered_leaves P None None h = tt
answered_leaves P None (Some x) h = tt
answered_leaves P (Some a) None h = tt
answered_leaves P (Some a) (Some x) h = h

pub and_then_leaves : {A B : Type 0} (P : B → Type 0) (o : Option A) (f : A → Option (Response B)) → ((a : A) → Leaves P (defined (f a))) → Leaves P (defined (option_and_then f o))
and_then_leaves P None f h = tt
and_then_leaves P (Some a) f h = h a

pub map_leaves : {A B : Type 0} (P : B → Type 0) (Q : A → Type 0) (o : Option A) (f : A → Response B) → IfThere Q o → ((a : A) → Q a → Leaves P (f a)) → Leaves P (defined (option_map f o))
map_leaves P Q None f q h = tt
map_leaves P Q (Some a) f q h = h a q

pub response_leaves : {A : Type 0} (P : A → Type 0) (Q : Returned → Type 0) (ended : Returned → Response A) (o : Outcome Returned) → ((left : ℕ) (done : Returned) → o ≡ Got left done → Q done) → ((done : Returned) → Q done → Leaves P (ended done)) → Leaves P (response ended o)
response_leaves P Q ended (Got left done) q h = h done (q left done refl)
response_leaves P Q ended More q h = tt
response_leaves P Q ended Lost q h = tt

pub any : {A : Type 0} (o : Option A) → IfThere (λ (_ : A). Unit {0}) o
any None = tt
any (Some a) = tt

host_left : (args : List HostArg) (host : Host) (memory : Memory) (o : Option Host) → Left args host o → IfThere (λ (after : Memory × Host). HostKeeps args host after.1) (option_map (λ left. (memory, left)) o)
host_left args host memory None h = tt
host_left args host memory (Some now) h = h

call_leaves_host : (it : Loaded) (memory : Memory) (called : HostCall) (host : Host) (n : ℕ) → Leaves (λ (after : Memory × Host). HostKeeps called.args host after.1) (c_call it memory called host n)
call_leaves_host it memory called host n =
    let P : Memory × Host → Type 0 = λ after. HostKeeps called.args host after.1 in
    let Q : Returned → Type 0 = λ _. Unit {0} in
    let R : CValue → Type 0 = λ _. Unit {0} in
    and_then_leaves P (struct_of it called.receiver) _ (λ s. and_then_leaves P (called_method it.surface it.receivers called) _ (λ method. map_leaves P R (slice_get it.pointers called.receiver) _ (any (slice_get it.pointers called.receiver))
    (λ receiver r. response_leaves P Q (call_ended it memory method called host (most_args it.surface.structs)) (host_call it.program (function_name it.surface s method.name) n (receiver ∷ all_values host (length memory) (length memory + most_args it.surface.structs) called.args) (call_memory host memory (most_args it.surface.structs) called.args)) (λ left done e. tt)
    (λ done q. answered_leaves P (answer_of it.program it.surface method.answers done.value) _ (host_left called.args host (take (length memory) done.memory) _ (args_keep done.memory called.args (length memory) (length memory + most_args it.surface.structs) host))))))

pub leaves_at : {A : Type 0} (P : A → Type 0) (r : Response A) (a : Answer) (after : A) → Leaves P r → r ≡ answers a after → P after
leaves_at P r a after h e = let F : Response _ → Type 0 = Leaves P in subst F e h

pub host_stays : (it : Loaded) (memory : Memory) (called : HostCall) (host : Host) (n : ℕ) (answer : Answer) (after : Memory × Host) → c_call it memory called host n ≡ answers answer after → HostKeeps called.args host after.1
host_stays it memory called host n answer after e = let P : Memory × Host → Type 0 = λ left. HostKeeps called.args host left.1 in leaves_at P _ answer after (call_leaves_host it memory called host n) e

-- Objects.
module _ (inside : ℕ → Bool) where
  abbrev ObjectsIn : List Object → Type 0
  ObjectsIn [] = Unit {0}
  ObjectsIn (object ∷ objects) = ObjectIn inside object × ObjectsIn objects

  found_appends : (memory : Memory) (objects : List Object) (k : ℕ) → ObjectsIn objects → FoundIn inside (slice_get memory k) → FoundIn inside (slice_get (memory ++ objects) k)
  found_appends (x ∷ xs) objects zero h g = g
  found_appends (x ∷ xs) objects (suc k) h g = found_appends xs objects k h g
  found_appends [] [] k h g = g
  found_appends [] (x ∷ xs) zero h g = h.0
  found_appends [] (x ∷ xs) (suc k) h g = found_appends [] xs k h.1 g

  ready_appends : (memory : Memory) (objects : List Object) → IsReady inside memory → ObjectsIn objects → IsReady inside (memory ++ objects)
  ready_appends memory objects ready h = record { closed = record { by = λ k e. found_appends memory objects k h (ready.closed.by k e) }; made = λ k l. ready.made k (omega (arith, l, length-append memory objects)) }

  append_objects : (xs ys : List Object) → ObjectsIn xs → ObjectsIn ys → ObjectsIn (xs ++ ys)
  append_objects [] ys h k = k
  append_objects (x ∷ xs) ys h k = (h.0, append_objects xs ys h.1 k)

  module _ (memory : Memory) (ready : IsReady inside memory) (host : Host) where
    bytes_pointer_in : (them : List ℕ) (object : ℕ) → length memory ≤ object → CellsIn inside (bytes_pointer them object ∷ [])
    bytes_pointer_in [] object h = (tt, tt)
    bytes_pointer_in (x ∷ xs) object h = (ready.made object h, tt)

    buffer_in : (found : Option Buffer) (object : ℕ) → length memory ≤ object → ObjectIn inside (option_map_or (λ b. buffer_object b object) found no_buffer)
    buffer_in None object h = ((tt, tt), ((tt, tt), ((tt, tt), ((tt, tt), ((tt, tt), ((tt, tt), tt))))))
    buffer_in (Some b) object h = (bytes_pointer_in b.cells object h, ((tt, tt), ((tt, tt), ((tt, tt), ((tt, tt), ((tt, tt), tt))))))

    io_object_in : (object : ℕ) (arg : HostArg) → length memory ≤ object → ObjectIn inside (io_object host object arg)
    io_object_in object (num n) h = buffer_in None object h
    io_object_in object (flag b) h = buffer_in None object h
    io_object_in object (io None) h = buffer_in None object h
    io_object_in object (io (Some k)) h = buffer_in (slice_get host.buffers k) object h
    io_object_in object (bytes name) h = buffer_in None object h

    io_objects_in : (object : ℕ) (args : List HostArg) → length memory ≤ object → ObjectsIn (io_objects host object args)
    io_objects_in object [] h = tt
    io_objects_in object (arg ∷ args) h = (io_object_in object arg h, io_objects_in (object + 1) args (omega (arith, h)))

    no_buffers_in : (count : ℕ) → ObjectsIn (replicate count no_buffer)
    no_buffers_in zero = tt
    no_buffers_in (suc count) = (((tt, tt), ((tt, tt), ((tt, tt), ((tt, tt), ((tt, tt), ((tt, tt), tt)))))), no_buffers_in count)

    numbers_in : (them : List ℕ) → CellsIn inside (map holds_num them)
    numbers_in [] = tt
    numbers_in (x ∷ xs) = (tt, numbers_in xs)

    byte_objects_in : (args : List HostArg) → ObjectsIn (byte_objects host args)
    byte_objects_in [] = tt
    byte_objects_in (arg ∷ args) = ((numbers_in (arg_bytes host arg), tt), byte_objects_in args)

    call_ready : (most : ℕ) (args : List HostArg) → IsReady inside (call_memory host memory most args)
    call_ready most args = ready_appends memory _ ready (append_objects (io_objects host (length memory + most) args) _ (io_objects_in (length memory + most) args (omega arith))
        (append_objects (replicate (most - length args) no_buffer) _ (no_buffers_in (most - length args)) (byte_objects_in args)))

    append_values : (xs ys : List CValue) → ValuesIn inside xs → ValuesIn inside ys → ValuesIn inside (xs ++ ys)
    append_values [] ys h k = k
    append_values (x ∷ xs) ys h k = (h.0, append_values xs ys h.1 k)

    slice_in : (them : List ℕ) (object : ℕ) → length memory ≤ object → ValuesIn inside (slice_values them object)
    slice_in [] object h = (tt, (tt, tt))
    slice_in (x ∷ xs) object h = (ready.made object h, (tt, tt))

    arg_in : (buffer object : ℕ) (arg : HostArg) → length memory ≤ buffer → length memory ≤ object → ValuesIn inside (arg_values host buffer object arg)
    arg_in buffer object (num n) h k = (tt, tt)
    arg_in buffer object (flag b) h k = (tt, tt)
    arg_in buffer object (io None) h k = (tt, tt)
    arg_in buffer object (io (Some j)) h k = (ready.made buffer h, tt)
    arg_in buffer object (bytes name) h k = slice_in (arg_bytes host (bytes name)) object k

    values_in : (buffer object : ℕ) (args : List HostArg) → length memory ≤ buffer → length memory ≤ object → ValuesIn inside (all_values host buffer object args)
    values_in buffer object [] h k = tt
    values_in buffer object (arg ∷ args) h k = append_values (arg_values host buffer object arg) _ (arg_in buffer object arg h k) (values_in (buffer + 1) (object + 1) args (omega (arith, h)) (omega (arith, k)))

    get_appends : (before : Memory) (objects : List Object) (k : ℕ) → k < length before → slice_get (before ++ objects) k ≡ slice_get before k
    get_appends [] objects k h = absurd (omega (arith, h))
    get_appends (x ∷ xs) objects zero h = refl
    get_appends (x ∷ xs) objects (suc k) h = get_appends xs objects k (omega (arith, h))

    back : (objects : List Object) (now : Memory) → Keeps inside (memory ++ objects) now → Keeps inside memory (take (length memory) now)
    back objects now keeps = record {
      outside = λ k e. let h : k < length memory = below inside memory ready k e in get_take inside now (length memory) k h ∙ (keeps.outside k e ∙ get_appends memory objects k h);
      size = length_take inside now (length memory) (omega (arith, keeps.size, length-append memory objects));
      closed = record { by = λ k e. found_take inside now (length memory) k (keeps.closed.by k e) };
    }

    out_keeps : (before : Memory) (o : Outcome Returned) → OutIn inside before o → (left : ℕ) (done : Returned) → o ≡ Got left done → Keeps inside before done.memory
    out_keeps before o h left done e = let F : Outcome Returned → Type 0 = OutIn inside before in (subst F e h).0

    memory_left : {A : Type 0} (now : Memory) (o : Option A) → Keeps inside memory now → IfThere (λ (after : Memory × A). Keeps inside memory after.0) (option_map (λ left. (now, left)) o)
    memory_left now None h = tt
    memory_left now (Some x) h = h

    receiver_there : (v : Option CValue) → OptionIn inside v → IfThere (λ (x : CValue). ValueIn inside x) v
    receiver_there None h = tt
    receiver_there (Some v) h = h

    call_leaves : (it : Loaded) (called : HostCall) (n : ℕ) → ((k : ℕ) → k < length it.program.texts → inside k ≡ true) → OptionIn inside (slice_get it.pointers called.receiver)
        → Leaves (λ (after : Memory × Host). Keeps inside memory after.0) (c_call it memory called host n)
    call_leaves it called n texts there =
        let P : Memory × Host → Type 0 = λ after. Keeps inside memory after.0 in
        let most : ℕ = most_args it.surface.structs in
        let Q : Returned → Type 0 = λ done. Keeps inside (call_memory host memory most called.args) done.memory in
        let R : CValue → Type 0 = λ v. ValueIn inside v in
        and_then_leaves P (struct_of it called.receiver) _ (λ s. and_then_leaves P (called_method it.surface it.receivers called) _ (λ method. map_leaves P R (slice_get it.pointers called.receiver) _ (receiver_there (slice_get it.pointers called.receiver) there)
        (λ receiver r. response_leaves P Q (call_ended it memory method called host most) (host_call it.program (function_name it.surface s method.name) n (receiver ∷ all_values host (length memory) (length memory + most_args it.surface.structs) called.args) (call_memory host memory (most_args it.surface.structs) called.args))
        (out_keeps (call_memory host memory most called.args) (host_call it.program (function_name it.surface s method.name) n (receiver ∷ all_values host (length memory) (length memory + most_args it.surface.structs) called.args) (call_memory host memory (most_args it.surface.structs) called.args)) ((call_in inside it.program texts it.program.functions _).by n _ (call_memory host memory most called.args) (call_ready most called.args) (r, values_in (length memory) (length memory + most) called.args (omega arith) (omega arith))))
        (λ done q. answered_leaves P (answer_of it.program it.surface method.answers done.value) _ (memory_left (take (length memory) done.memory) (args_left done.memory (length memory) (length memory + most) called.args host) (back (io_objects host (length memory + most) called.args ++ (replicate (most - length called.args) no_buffer ++ byte_objects host called.args)) done.memory q))))))

    pub objects_stay : (it : Loaded) (called : HostCall) (n : ℕ) (answer : Answer) (after : Memory × Host) → ((k : ℕ) → k < length it.program.texts → inside k ≡ true) → OptionIn inside (slice_get it.pointers called.receiver)
        → c_call it memory called host n ≡ answers answer after → Keeps inside memory after.0
    objects_stay it called n answer after texts there e = let P : Memory × Host → Type 0 = λ left. Keeps inside memory left.0 in leaves_at P _ answer after (call_leaves it called n texts there) e

    -- an init has the receiver alone as its argument
    init_back : (now : Memory) → Keeps inside memory now → Keeps inside memory (take (length memory) now)
    init_back now keeps = record {
      outside = λ k e. let h : k < length memory = below inside memory ready k e in get_take inside now (length memory) k h ∙ keeps.outside k e;
      size = length_take inside now (length memory) (omega (arith, keeps.size));
      closed = record { by = λ k e. found_take inside now (length memory) k (keeps.closed.by k e) };
    }

    init_leaves : (it : Loaded) (k n : ℕ) → ((j : ℕ) → j < length it.program.texts → inside j ≡ true) → OptionIn inside (slice_get it.pointers k) → Leaves (λ (after : Memory). Keeps inside memory after) (c_init it memory k n)
    init_leaves it k n texts there =
        let P : Memory → Type 0 = λ after. Keeps inside memory after in
        let Q : Returned → Type 0 = λ done. Keeps inside memory done.memory in
        let R : CValue → Type 0 = λ v. ValueIn inside v in
        and_then_leaves P (struct_of it k) _ (λ s. map_leaves P R (slice_get it.pointers k) _ (receiver_there (slice_get it.pointers k) there)
        (λ receiver r. response_leaves P Q (init_ended it (length memory)) (host_call it.program (initialize_name it.surface s) n (receiver ∷ []) memory)
        (out_keeps memory (host_call it.program (initialize_name it.surface s) n (receiver ∷ []) memory) ((call_in inside it.program texts it.program.functions (initialize_name it.surface s)).by n (receiver ∷ []) memory ready (r, tt)))
        (λ done q. answered_leaves P (answer_of it.program it.surface kind.status done.value) (Some (take (length memory) done.memory)) (init_back done.memory q))))

    pub objects_stay_init : (it : Loaded) (k n : ℕ) (answer : Answer) (after : Memory) → ((j : ℕ) → j < length it.program.texts → inside j ≡ true) → OptionIn inside (slice_get it.pointers k)
        → c_init it memory k n ≡ answers answer after → Keeps inside memory after
    objects_stay_init it k n answer after texts there e = let P : Memory → Type 0 = λ left. Keeps inside memory left in leaves_at P _ answer after (init_leaves it k n texts there) e
