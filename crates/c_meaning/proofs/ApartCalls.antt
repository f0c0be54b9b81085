-- An init or a call leaves the receivers apart, and all but its own as they were.
use Rattle.std.proofs.Common.{◌≡◌, ℕ, ◌+◌, ◌-◌, ◌<◌, Bool, true, false, List, [], ◌∷◌, ◌++◌, map, replicate, Option, Some, None, refl, subst, ap, ◌∙◌, length, take}
use Rattle.std.specs.Prelude.{◌||◌, nat_lt, nat_le, slice_get, option_map}
use Rattle.std.proofs.lemmas.Bool.{lt-ltb}
use Rattle.turns.specs.Run.{Outcome, Got}
use Rattle.wf_text.specs.Surface.{Surface}
use Rattle.wf_text.specs.Surface as kind
use Rattle.wf_text.specs.HostActions.{Receiver}
use Rattle.wf_text.specs.Seen.{Answer}
use Rattle.wf_base.specs.HostRun.{Host, empty_host, HostCall, answers}
use Rattle.wf_base.specs.LawfulActions.{called_method}
use Rattle.c_meaning.specs.CValues.{CValue}
use Rattle.c_meaning.specs.CMemory.{Object, Memory}
use Rattle.c_meaning.specs.CStep.{Returned}
use Rattle.c_meaning.specs.CCall.{Program, host_call}
use Rattle.c_meaning.specs.CRun.{text_object, function_name, initialize_name, Loaded, loaded, no_buffer, io_objects, byte_objects, all_values, call_memory, args_left, answer_of, init_ended, struct_of, c_init, call_ended, c_call, most_args}
use Rattle.c_meaning.specs.Reach.{OptionIn, Keeps}
use Rattle.c_meaning.specs.Typed.{IsTyped, object_shape, shape_of, StaysTyped}
use Rattle.c_meaning.specs.Apart.{Extent, extents_of, is_own, reached, StandApart, OthersStay}
use Rattle.c_meaning.proofs.KeptSteps.{OutBy}
use Rattle.c_meaning.proofs.TypedLaws.{call_typed, take_typed}
use Rattle.c_meaning.proofs.Untouched.{Leaves, IfThere, answered_leaves, and_then_leaves, map_leaves, response_leaves, any, leaves_at, objects_stay, objects_stay_init}
use Rattle.c_meaning.proofs.ApartFirst.{pointer_in}
use Rattle.c_meaning.proofs.ApartSteps.{others, still_apart}

-- The front of what a call leaves has the shape that it had.
front_shapes : (memory now : Memory) (objects : List Object) → shape_of now ≡ shape_of (memory ++ objects) → shape_of (take (length memory) now) ≡ shape_of memory
front_shapes [] now objects e = refl
front_shapes (x ∷ xs) [] objects e = absurd (cc (e))
front_shapes (x ∷ xs) (y ∷ ys) objects e =
    let a : object_shape y ≡ object_shape x = cc (e) in
    let b : shape_of ys ≡ shape_of (xs ++ objects) = cc (e) in
    ap (λ s. s ∷ shape_of (take (length xs) ys)) a ∙ ap (λ s. object_shape x ∷ s) (front_shapes xs ys objects b)

front_same : (memory now : Memory) → shape_of now ≡ shape_of memory → shape_of (take (length memory) now) ≡ shape_of memory
front_same [] now e = refl
front_same (x ∷ xs) [] e = absurd (cc (e))
front_same (x ∷ xs) (y ∷ ys) e =
    let a : object_shape y ≡ object_shape x = cc (e) in
    let b : shape_of ys ≡ shape_of xs = cc (e) in
    ap (λ s. s ∷ shape_of (take (length xs) ys)) a ∙ ap (λ s. object_shape x ∷ s) (front_same xs ys b)

out_typed : (before : Memory) (o : Outcome Returned) → OutBy StaysTyped before o → (left : ℕ) (done : Returned) → o ≡ Got left done → StaysTyped before done.memory
out_typed before o h left done e = let F : Outcome Returned → Type 0 = OutBy StaysTyped before in subst F e h

init_typed : (it : Loaded) (memory : Memory) (k n : ℕ) → IsTyped memory → Leaves (λ (after : Memory). StaysTyped memory after) (c_init it memory k n)
init_typed it memory k n typed =
    let P : Memory → Type 0 = λ after. StaysTyped memory after in
    let Q : Returned → Type 0 = λ done. StaysTyped memory done.memory in
    let R : CValue → Type 0 = λ _. Unit {0} in
    and_then_leaves P (struct_of it k) _ (λ s. map_leaves P R (slice_get it.pointers k) _ (any (slice_get it.pointers k))
    (λ receiver r. response_leaves P Q (init_ended it (length memory)) (host_call it.program (initialize_name it.surface s) n (receiver ∷ []) memory)
    (out_typed memory (host_call it.program (initialize_name it.surface s) n (receiver ∷ []) memory) ((call_typed it.program (initialize_name it.surface s)).by n (receiver ∷ []) memory typed))
    (λ done q. answered_leaves P (answer_of it.program it.surface kind.status done.value) (Some (take (length memory) done.memory)) (record { typed = take_typed (length memory) done.memory q.typed; shape = front_same memory done.memory q.shape }))))

memory_left : {A : Type 0} (memory now : Memory) (o : Option A) → StaysTyped memory now → IfThere (λ (after : Memory × A). StaysTyped memory after.0) (option_map (λ left. (now, left)) o)
memory_left memory now None h = tt
memory_left memory now (Some x) h = h

call_leaves_typed : (it : Loaded) (memory : Memory) (called : HostCall) (host : Host) (n : ℕ) → IsTyped (call_memory host memory (most_args it.surface.structs) called.args) → Leaves (λ (after : Memory × Host). StaysTyped memory after.0) (c_call it memory called host n)
call_leaves_typed it memory called host n typed =
    let P : Memory × Host → Type 0 = λ after. StaysTyped memory after.0 in
    let most : ℕ = most_args it.surface.structs in
    let Q : Returned → Type 0 = λ done. StaysTyped (call_memory host memory most called.args) done.memory in
    let R : CValue → Type 0 = λ _. Unit {0} in
    and_then_leaves P (struct_of it called.receiver) _ (λ s. and_then_leaves P (called_method it.surface it.receivers called) _ (λ method. map_leaves P R (slice_get it.pointers called.receiver) _ (any (slice_get it.pointers called.receiver))
    (λ receiver r. response_leaves P Q (call_ended it memory method called host most) (host_call it.program (function_name it.surface s method.name) n (receiver ∷ all_values host (length memory) (length memory + most) called.args) (call_memory host memory most called.args))
    (out_typed (call_memory host memory most called.args) (host_call it.program (function_name it.surface s method.name) n (receiver ∷ all_values host (length memory) (length memory + most) called.args) (call_memory host memory most called.args))
    ((call_typed it.program (function_name it.surface s method.name)).by n (receiver ∷ all_values host (length memory) (length memory + most) called.args) (call_memory host memory most called.args) typed))
    (λ done q. answered_leaves P (answer_of it.program it.surface method.answers done.value) _ (memory_left memory (take (length memory) done.memory) (args_left done.memory (length memory) (length memory + most) called.args host)
    (record { typed = take_typed (length memory) done.memory q.typed; shape = front_shapes memory done.memory (io_objects host (length memory + most) called.args ++ (replicate (most - length called.args) no_buffer ++ byte_objects host called.args)) q.shape }))))))

or_first : (a b : Bool) → a ≡ true → (a || b) ≡ true
or_first true b e = refl
or_first false b e = absurd (cc (e))

or_second : (a b c : Bool) → b ≡ true → (a || (b || c)) ≡ true
or_second true b c e = refl
or_second false b c e = rw e refl

module _ (p : Program) (surface : Surface) (receivers : List Receiver) (memory : Memory) (stand : StandApart (length p.texts) (extents_of p surface receivers) memory) (k : ℕ) where
  abbrev all : List Extent
  all = extents_of p surface receivers

  abbrev inside : ℕ → Bool
  inside n = reached (length p.texts) (length memory) (slice_get all k) n

  texts_in : (n : ℕ) → n < length p.texts → inside n ≡ true
  texts_in n h = or_first (nat_lt n (length p.texts)) _ (lt-ltb n (length p.texts) h)

  there : OptionIn inside (slice_get (loaded p surface receivers).pointers k)
  there = pointer_in p surface inside receivers (map text_object p.texts) k (λ x h. or_second (nat_lt x (length p.texts)) (is_own (slice_get all k) x) (nat_le (length memory) x) h)

  pub init_apart : (n : ℕ) (answer : Answer) (after : Memory) → c_init (loaded p surface receivers) memory k n ≡ answers answer after → StandApart (length p.texts) all after × OthersStay all k memory after
  init_apart n answer after e =
      let keeps : Keeps inside memory after = objects_stay_init inside memory (stand.ready k) empty_host (loaded p surface receivers) k n answer after texts_in there e in
      let P : Memory → Type 0 = λ left. StaysTyped memory left in
      let t : StaysTyped memory after = leaves_at P (c_init (loaded p surface receivers) memory k n) answer after (init_typed (loaded p surface receivers) memory k n stand.typed) e in
      (still_apart (length p.texts) all memory after stand k keeps t.typed t.shape, others (length p.texts) all memory after stand k keeps t.typed t.shape)

pub call_apart : (p : Program) (surface : Surface) (receivers : List Receiver) (memory : Memory) → StandApart (length p.texts) (extents_of p surface receivers) memory
    → (called : HostCall) (host : Host) (n : ℕ) (answer : Answer) (after : Memory × Host) → IsTyped (call_memory host memory (most_args surface.structs) called.args)
    → c_call (loaded p surface receivers) memory called host n ≡ answers answer after → StandApart (length p.texts) (extents_of p surface receivers) after.0 × OthersStay (extents_of p surface receivers) called.receiver memory after.0
call_apart p surface receivers memory stand called host n answer after typed e =
    let k : ℕ = called.receiver in
    let keeps : Keeps (inside p surface receivers memory stand k) memory after.0 = objects_stay (inside p surface receivers memory stand k) memory (stand.ready k) host (loaded p surface receivers) called n answer after (texts_in p surface receivers memory stand k) (there p surface receivers memory stand k) e in
    let P : Memory × Host → Type 0 = λ left. StaysTyped memory left.0 in
    let t : StaysTyped memory after.0 = leaves_at P (c_call (loaded p surface receivers) memory called host n) answer after (call_leaves_typed (loaded p surface receivers) memory called host n typed) e in
    (still_apart (length p.texts) (extents_of p surface receivers) memory after.0 stand k keeps t.typed t.shape, others (length p.texts) (extents_of p surface receivers) memory after.0 stand k keeps t.typed t.shape)
