-- What is seen of an engine is what is seen of the text.
use Rattle.std.proofs.Common.{◌≡◌, ℕ, ◌+◌, suc, Bool, true, false, List, [], ◌∷◌, length, drop, take, Option, Some, None, refl, sym, ap, ◌∙◌, subst}
use Rattle.std.specs.Prelude.{◌&&◌, ◌||◌, if◌then◌else◌, nat_eq, slice_get, get_or, option_map, option_and_then, bytes_eq}
use Rattle.std.specs.List.{list_any}
use Rattle.turns.specs.Run.{Outcome as RunOutcome, Got, More, Lost}
use Rattle.wf_text.specs.Surface.{Surface, PublicStruct, PublicMethod, AnswerKind}
use Rattle.wf_text.specs.Surface as kind
use Rattle.wf_text.specs.HostActions.{HostAction, init, call, put, close, compact, replace, Receiver}
use Rattle.wf_text.specs.Seen.{Answer, Seen}
use Rattle.wf_text.specs.Seen as answer
use Rattle.wf_base.specs.BaseOps.{Buffer}
use Rattle.wf_base.specs.HostRun.{Host, empty_host, HostCall, Response, answers, needs_more, not_defined, seen_of, beside, on_buffer, followed, run}
use Rattle.wf_base.specs.BaseOps as ops
use Rattle.wf_base.specs.LawfulActions.{called_method}
use Rattle.wf_bufs.specs.HostViews.{answer_of as answer_in}
use Rattle.wf_bufs.specs.EngineLaw.{response_of, steps_of}
use Rattle.c_text.specs.CTree.{ItemTree}
use Rattle.c_text.proofs.Names.{bytes_eq-true, bytes_eq-refl}
use Rattle.c_meaning.specs.declared.values.Pointer.{Pointer}
use Rattle.c_meaning.specs.declared.values.CValue.{CValue}
use Rattle.c_meaning.specs.declared.values.CValue.TheVariants.{Numeric as numeric, Address as address, NullPointer as null_pointer}
use Rattle.c_meaning.specs.CMemory.{Memory}
use Rattle.c_meaning.specs.CTypes.{TextDecl}
use Rattle.c_meaning.specs.CStep.{Returned}
use Rattle.c_meaning.specs.CCall.{Program, host_call}
use Rattle.c_meaning.specs.CRun.{Loaded, initialize_name, function_name, most_args, all_values, call_memory, args_left, status_text, answer_of, answered_with, response, init_ended, init_of, defined, struct_of, c_init, call_ended, call_of, c_call, c_steps, c_run}
use Rattle.c_step_engine.specs.Engines.{EngineState, surface_of, number_of, outcome_for, given, after_init, after_call, init_gives, call_gives, first_state}

-- The number of a status leads back to its text.
text_back : (xs : List (List ℕ)) (text : List ℕ) → list_any (bytes_eq text) xs ≡ true → get_or xs (number_of xs text) [] ≡ text
text_back [] text e = absurd (cc (e))
text_back (x ∷ xs) text e = by_test (text_back xs text) (bytes_eq x text) refl
  where
    not_here : bytes_eq x text ≡ false → bytes_eq text x ≡ false
    not_here h = other (bytes_eq text x) refl
      where
        other : (b : Bool) → bytes_eq text x ≡ b → bytes_eq text x ≡ false
        other false q = q
        other true q = let s : text ≡ x = bytes_eq-true text x q in absurd (cc (subst (λ (y : List ℕ). bytes_eq x y ≡ false) s h, bytes_eq-refl x))

    by_test : (list_any (bytes_eq text) xs ≡ true → get_or xs (number_of xs text) [] ≡ text) → (b : Bool) → bytes_eq x text ≡ b → get_or (x ∷ xs) (number_of (x ∷ xs) text) [] ≡ text
    by_test later true h = ap (λ (b : Bool). get_or (x ∷ xs) (if b then 0 else suc (number_of xs text)) []) h ∙ bytes_eq-true x text h
    by_test later false h =
        ap (λ (b : Bool). get_or (x ∷ xs) (if b then 0 else suc (number_of xs text)) []) h
        ∙ later (sym (ap (λ (b : Bool). b || list_any (bytes_eq text) xs) (not_here h)) ∙ e)

any_behind : (xs : List (List ℕ)) (text : List ℕ) → list_any (bytes_eq text) (drop 1 xs) ≡ true → list_any (bytes_eq text) xs ≡ true
any_behind [] text e = e
any_behind (x ∷ xs) text e = ap (λ (b : Bool). bytes_eq text x || b) e ∙ or_true (bytes_eq text x)
  where
    or_true : (b : Bool) → (b || true) ≡ true
    or_true true = refl
    or_true false = refl

empty_first : (xs : List (List ℕ)) → slice_get xs 0 ≡ Some [] → list_any (bytes_eq []) xs ≡ true
empty_first [] e = absurd (cc (e))
empty_first (x ∷ xs) e = let s : x ≡ [] = cc (e) in ap (λ (y : List ℕ). bytes_eq [] y || list_any (bytes_eq []) xs) s

module _ (s : Surface) (ok : slice_get s.statuses 0 ≡ Some []) where
  abbrev Known : Answer → Type 0
  Known a = answer_in s (outcome_for s a) ≡ a

  abbrev AllKnown : {A : Type 0} → Response A → Type 0
  AllKnown (answers a left) = Known a
  AllKnown needs_more = Unit {0}
  AllKnown not_defined = Unit {0}

  known_status : (text : List ℕ) → list_any (bytes_eq text) s.statuses ≡ true → Known (answer.status text)
  known_status text h = ap answer.status (text_back s.statuses text h)

  abbrev AnswerKnown : Option Answer → Type 0
  AnswerKnown None = Unit {0}
  AnswerKnown (Some a) = Known a

  known_text : (text : List ℕ) → AnswerKnown (option_map answer.status (if list_any (bytes_eq text) (drop 1 s.statuses) then Some text else None))
  known_text text = by_test (list_any (bytes_eq text) (drop 1 s.statuses)) refl
    where
      by_test : (b : Bool) → list_any (bytes_eq text) (drop 1 s.statuses) ≡ b → AnswerKnown (option_map answer.status (if b then Some text else None))
      by_test true e = known_status text (any_behind s.statuses text e)
      by_test false e = tt

  known_address : (p : Program) (q : Pointer) → AnswerKnown (option_map answer.status (status_text p s q))
  known_address p q = by_test (nat_eq q.field 0 && nat_eq q.index 0) (slice_get p.texts q.object)
    where
      by_text : (o : Option TextDecl) → AnswerKnown (option_map answer.status (option_and_then (λ it. if list_any (bytes_eq it.bytes) (drop 1 s.statuses) then Some it.bytes else None) o))
      by_text None = tt
      by_text (Some it) = known_text it.bytes

      by_test : (b : Bool) (o : Option TextDecl) → AnswerKnown (option_map answer.status (if b then option_and_then (λ it. if list_any (bytes_eq it.bytes) (drop 1 s.statuses) then Some it.bytes else None) o else None))
      by_test true o = by_text o
      by_test false o = tt

  known_answer : (p : Program) (k : AnswerKind) (v : Option CValue) → AnswerKnown (answer_of p s k v)
  known_answer p kind.status None = tt
  known_answer p kind.status (Some null_pointer) = known_status [] (empty_first s.statuses ok)
  known_answer p kind.status (Some (address q)) = known_address p q
  known_answer p kind.status (Some (numeric n)) = tt
  known_answer p (kind.numeric bits) None = tt
  known_answer p (kind.numeric bits) (Some null_pointer) = tt
  known_answer p (kind.numeric bits) (Some (address q)) = tt
  known_answer p (kind.numeric bits) (Some (numeric n)) = refl
  known_answer p kind.truth None = tt
  known_answer p kind.truth (Some null_pointer) = tt
  known_answer p kind.truth (Some (address q)) = tt
  known_answer p kind.truth (Some (numeric n)) = refl
  known_answer p kind.nothing v = refl

  known_with : {A : Type 0} (o : Option Answer) (after : Option A) → AnswerKnown o → AllKnown (answered_with o after)
  known_with None after h = tt
  known_with (Some a) None h = tt
  known_with (Some a) (Some left) h = h

  known_response : {A : Type 0} (ended : Returned → Response A) → ((d : Returned) → AllKnown (ended d)) → (o : RunOutcome Returned) → AllKnown (response ended o)
  known_response ended h (Got left d) = h d
  known_response ended h More = tt
  known_response ended h Lost = tt

  known_then : {X A : Type 0} (f : X → Option (Response A)) → ((x : X) → AllKnown (defined (f x))) → (o : Option X) → AllKnown (defined (option_and_then f o))
  known_then f h None = tt
  known_then f h (Some x) = h x

  known_map : {X A : Type 0} (g : X → Response A) → ((x : X) → AllKnown (g x)) → (o : Option X) → AllKnown (defined (option_map g o))
  known_map g h None = tt
  known_map g h (Some x) = h x

module _ (it : Loaded) (ok : slice_get it.surface.statuses 0 ≡ Some []) where
  init_known : (memory : Memory) (k n : ℕ) → AllKnown it.surface ok (c_init it memory k n)
  init_known memory k n =
      known_then it.surface ok (λ (x : PublicStruct). option_map (λ receiver. init_of it memory x receiver n) (slice_get it.pointers k))
      (λ x. known_map it.surface ok (λ receiver. init_of it memory x receiver n)
      (λ receiver. known_response it.surface ok (init_ended it (length memory))
      (λ d. known_with it.surface ok (answer_of it.program it.surface kind.status d.value) (Some (take (length memory) d.memory)) (known_answer it.surface ok it.program kind.status d.value))
      (host_call it.program (initialize_name it.surface x) n (receiver ∷ []) memory)) (slice_get it.pointers k)) (struct_of it k)

  call_known : (memory : Memory) (called : HostCall) (host : Host) (n : ℕ) → AllKnown it.surface ok (c_call it memory called host n)
  call_known memory called host n =
      known_then it.surface ok (λ (x : PublicStruct). option_and_then (λ method. option_map (call_of it memory x method called host n) (slice_get it.pointers called.receiver)) (called_method it.surface it.receivers called))
      (λ x. known_then it.surface ok (λ (method : PublicMethod). option_map (call_of it memory x method called host n) (slice_get it.pointers called.receiver))
      (λ method. known_map it.surface ok (call_of it memory x method called host n)
      (λ receiver. known_response it.surface ok (call_ended it memory method called host (most_args it.surface.structs))
      (λ d. known_with it.surface ok (answer_of it.program it.surface method.answers d.value)
      (option_map (λ left. (take (length memory) d.memory, left)) (args_left d.memory (length memory) (length memory + most_args it.surface.structs) called.args host))
      (known_answer it.surface ok it.program method.answers d.value))
      (host_call it.program (function_name it.surface x method.name) n (receiver ∷ all_values host (length memory) (length memory + most_args it.surface.structs) called.args) (call_memory host memory (most_args it.surface.structs) called.args)))
      (slice_get it.pointers called.receiver)) (called_method it.surface it.receivers called)) (struct_of it called.receiver)

module _ (st : EngineState) (ok : slice_get st.loaded.surface.statuses 0 ≡ Some []) (engine : EngineState → Host → List Seen) (machine : Memory → Host → List Seen)
    (same : (m : Memory) (h : Host) → engine (record st { memory = m }) h ≡ machine m h)
  where
    call_seen : (r : Response (Memory × Host)) → AllKnown st.loaded.surface ok r → followed (response_of st.loaded.surface (given st.loaded.surface (after_call st) r)) engine ≡ followed r machine
    call_seen (answers a left) h = ap (λ (b : Answer). seen_of b left.1 ∷ engine (record st { memory = left.0 }) left.1) h ∙ ap (λ (l : List Seen). seen_of a left.1 ∷ l) (same left.0 left.1)
    call_seen needs_more h = refl
    call_seen not_defined h = refl

    init_seen : (host : Host) (r : Response Memory) → AllKnown st.loaded.surface ok r → followed (beside host (response_of st.loaded.surface (given st.loaded.surface (after_init st) r))) engine ≡ followed (beside host r) machine
    init_seen host (answers a left) h = ap (λ (b : Answer). seen_of b host ∷ engine (record st { memory = left }) host) h ∙ ap (λ (l : List Seen). seen_of a host ∷ l) (same left host)
    init_seen host needs_more h = refl
    init_seen host not_defined h = refl

pub seen_same : (actions : List (HostAction Buffer)) (st : EngineState) (host : Host) → slice_get st.loaded.surface.statuses 0 ≡ Some []
    → run (steps_of surface_of init_gives call_gives) st host actions ≡ run (c_steps st.loaded) st.memory host actions
seen_same [] st host ok = refl
seen_same (init receiver within ∷ actions) st host ok =
    init_seen st ok (λ after left. run (steps_of surface_of init_gives call_gives) after left actions) (λ after left. run (c_steps st.loaded) after left actions)
    (λ m h. seen_same actions (record st { memory = m }) h ok) host (c_init st.loaded st.memory receiver within) (init_known st.loaded ok st.memory receiver within)
seen_same (call receiver method args within ∷ actions) st host ok =
    call_seen st ok (λ after left. run (steps_of surface_of init_gives call_gives) after left actions) (λ after left. run (c_steps st.loaded) after left actions)
    (λ m h. seen_same actions (record st { memory = m }) h ok) (c_call st.loaded st.memory (record { receiver = receiver; method = method; args = args }) host within)
    (call_known st.loaded ok st.memory (record { receiver = receiver; method = method; args = args }) host within)
seen_same (put buffer more ∷ actions) st host ok = ap (λ (l : List Seen). seen_of answer.nothing (on_buffer buffer (ops.put more) host) ∷ l) (seen_same actions st (on_buffer buffer (ops.put more) host) ok)
seen_same (close buffer ∷ actions) st host ok = ap (λ (l : List Seen). seen_of answer.nothing (on_buffer buffer ops.close host) ∷ l) (seen_same actions st (on_buffer buffer ops.close host) ok)
seen_same (compact buffer ∷ actions) st host ok = ap (λ (l : List Seen). seen_of answer.nothing (on_buffer buffer ops.compact host) ∷ l) (seen_same actions st (on_buffer buffer ops.compact host) ok)
seen_same (replace buffers arrays ∷ actions) st host ok = ap (λ (l : List Seen). seen_of answer.nothing (record { buffers = buffers; arrays = arrays }) ∷ l) (seen_same actions st (record { buffers = buffers; arrays = arrays }) ok)

pub engine_seen : (items : List ItemTree) (surface : Surface) (receivers : List Receiver) (actions : List (HostAction Buffer)) → slice_get surface.statuses 0 ≡ Some []
    → run (steps_of surface_of init_gives call_gives) (first_state items surface receivers) empty_host actions ≡ c_run items surface receivers actions
engine_seen items surface receivers actions ok = seen_same actions (first_state items surface receivers) empty_host ok
