-- What an init and a call mean, by a machine's tables; and what lawful arguments are.
use Rattle.std.proofs.Common.{◌≡◌, ℕ, zero, suc, ◌<◌, ◌≤◌, Bool, true, false, List, [], ◌∷◌, ◌++◌, length, map, Option, Some, None, refl, sym, subst, ap, ◌∙◌, ◌+◌, arith}
use Rattle.std.specs.Prelude.{slice_get, option_map, option_and_then, find, nat_eq, if◌then◌else◌, max, bytes_eq, IfSome, IsSomeAnd, All, ⊤}
use Rattle.wf_text.specs.Surface.{Surface, PublicStruct, PublicMethod, PublicArg, ArgKind, number, flag as a_flag, reader, writer, slice, status}
use Rattle.wf_text.specs.HostActions.{HostArg, num, flag, io, bytes, Receiver}
use Rattle.wf_base.specs.HostRun.{Host, HostCall, not_defined}
use Rattle.wf_base.specs.LawfulActions.{struct_numbered, method_numbered, method_of, called_method, FitsKind, FitKinds, CanCall}
use Rattle.wf_bufs.specs.declared.outcomes.Reply.{Reply}
use Rattle.wf_bufs.specs.declared.outcomes.Reply.TheVariants.{Done, Turns, Undefined}
use Rattle.wf_bufs.specs.declared.calls.ReceiverDecl.{ReceiverDecl}
use Rattle.wf_bufs.specs.SurfaceViews.{receiver_of, answer_kind_of}
use Rattle.wf_bufs.specs.EngineLaw.{Replies, DoneFits, FitsCalled, SameSizes, KeepsSizes}
use Rattle.c_meaning.specs.declared.values.CValue.{CValue}
use Rattle.c_meaning.specs.CMemory.{Memory}
use Rattle.c_meaning.specs.CTypes.{Function}
use Rattle.c_meaning.specs.CCall.{Program}
use Rattle.c_meaning.specs.CRun.{make_receivers, defined, response, call_ended, init_of, call_of, struct_of, c_init, c_call, most_in, most_args, function_name, initialize_name, all_values, call_memory, receiver_objects, text_object}
use Rattle.c_text.specs.CNodes.{unit_tree}
use Rattle.c_step_exprs.specs.Resolving.{function_number}
use Rattle.c_step_hosts.specs.Lending.{IsThere, AreThere}
use Rattle.c_step_engine.specs.Engines.{given, OnDone}
use Rattle.c_step_calls.proofs.Endings.{replies_so}
use Rattle.c_step_engine.proofs.InitCalls.{no_function}
use Rattle.c_step_calls.specs.declared.calling.Called.{Called}
use Rattle.c_step_calls.proofs.Answering.{call_fits, init_fits}
use Rattle.c_step.specs.declared.known.Known.{Known}
use Rattle.c_step_tables.specs.declared.tables.MethodEntry.{MethodEntry}
use Rattle.c_step_tables.specs.declared.tables.StructEntry.{StructEntry}
use Rattle.c_step_tables.specs.Tables.{IsMethod, IsStruct, FoundAlike}
use Rattle.c_step.specs.Machines.{loaded_of, IsKnown, Means, HasEntry, Calls, IsCallee, IsInited}

-- A function's number is below the number of functions.
pub number_below : (fs : List Function) (name : List ℕ) (k : ℕ) → function_number fs name ≡ Some k → k < length fs
number_below [] name k e = absurd (cc (e))
number_below (f ∷ fs) name k e = by (number_below fs name k) (bytes_eq f.name name) e
  where
    by : (function_number fs name ≡ Some k → k < length fs) → (b : Bool) → (if b then Some (length fs) else function_number fs name) ≡ Some k → k < suc (length fs)
    by later true h = let s : length fs ≡ k = cc (h) in omega (arith, s)
    by later false h = let l = later h in omega (arith, l)

-- Lawful arguments: as many as a method has at most, and what they name is there.
kinds_length : (buffers arrays : ℕ) (declared : List PublicArg) (args : List HostArg) → FitKinds buffers arrays declared args → length args ≡ length declared
kinds_length buffers arrays [] [] h = refl
kinds_length buffers arrays [] (arg ∷ args) h = absurd h
kinds_length buffers arrays (d ∷ ds) [] h = absurd h
kinds_length buffers arrays (d ∷ ds) (arg ∷ args) h = ap suc (kinds_length buffers arrays ds args h.1)

named_there : (buffers arrays : ℕ) (name : Option ℕ) → IfSome name (λ k. k < buffers) → IsThere buffers arrays (io name)
named_there buffers arrays None h = tt
named_there buffers arrays (Some k) h = h

array_there : (buffers arrays : ℕ) (name : Option ℕ) → IfSome name (λ k. k < arrays) → IsThere buffers arrays (bytes name)
array_there buffers arrays None h = tt
array_there buffers arrays (Some k) h = h

one_there : (buffers arrays : ℕ) (kind : ArgKind) (arg : HostArg) → FitsKind buffers arrays kind arg → IsThere buffers arrays arg
one_there buffers arrays kind (num n) h = tt
one_there buffers arrays kind (flag t) h = tt
one_there buffers arrays (number bits) (io name) h = absurd h
one_there buffers arrays a_flag (io name) h = absurd h
one_there buffers arrays reader (io name) h = named_there buffers arrays name h
one_there buffers arrays writer (io name) h = named_there buffers arrays name h
one_there buffers arrays (slice bits) (io name) h = absurd h
one_there buffers arrays (number bits) (bytes name) h = absurd h
one_there buffers arrays a_flag (bytes name) h = absurd h
one_there buffers arrays reader (bytes name) h = absurd h
one_there buffers arrays writer (bytes name) h = absurd h
one_there buffers arrays (slice bits) (bytes name) h = array_there buffers arrays name h.1

kinds_there : (buffers arrays : ℕ) (declared : List PublicArg) (args : List HostArg) → FitKinds buffers arrays declared args → AreThere buffers arrays args
kinds_there buffers arrays [] [] h = tt
kinds_there buffers arrays [] (arg ∷ args) h = absurd h
kinds_there buffers arrays (d ∷ ds) [] h = absurd h
kinds_there buffers arrays (d ∷ ds) (arg ∷ args) h = (one_there buffers arrays d.kind arg h.0, kinds_there buffers arrays ds args h.1)

most_method : (ms : List PublicMethod) (j : ℕ) (m : PublicMethod) → find (λ it. nat_eq it.number j) ms ≡ Some m → length m.args ≤ most_in ms
most_method [] j m e = absurd (cc (e))
most_method (x ∷ ms) j m e = by (most_method ms j m) (nat_eq x.number j) e
  where
    by : (find (λ it. nat_eq it.number j) ms ≡ Some m → length m.args ≤ most_in ms) → (b : Bool) → (if b then Some x else find (λ it. nat_eq it.number j) ms) ≡ Some m → length m.args ≤ max (length x.args) (most_in ms)
    by later true h = let s : x ≡ m = cc (h) in let e : length x.args ≡ length m.args = ap (λ (y : PublicMethod). length y.args) s in omega (arith, e)
    by later false h = let l = later h in omega (arith, l)

most_struct : (ss : List PublicStruct) (k : ℕ) (s : PublicStruct) → find (λ it. nat_eq it.number k) ss ≡ Some s → most_in s.methods ≤ most_args ss
most_struct [] k s e = absurd (cc (e))
most_struct (x ∷ ss) k s e = by (most_struct ss k s) (nat_eq x.number k) e
  where
    by : (find (λ it. nat_eq it.number k) ss ≡ Some s → most_in s.methods ≤ most_args ss) → (b : Bool) → (if b then Some x else find (λ it. nat_eq it.number k) ss) ≡ Some s → most_in s.methods ≤ max (most_in x.methods) (most_args ss)
    by later true h = let t : x ≡ s = cc (h) in let e : most_in x.methods ≡ most_in s.methods = ap (λ (y : PublicStruct). most_in y.methods) t in omega (arith, e)
    by later false h = let l = later h in omega (arith, l)

-- A call of a function that is known.
module _ (k : Known) (what : HostCall) (turns : ℕ) (c : Called) (calls : Calls k what turns c) where
  pub comes_to_call : (m : Memory) (host : Host) (n : ℕ) → c_call (loaded_of k) m what host n ≡ call_of (loaded_of k) m calls.means.of calls.means.method what host n c.receiver
  comes_to_call m host n =
      ap (λ (o : Option PublicStruct). defined (option_and_then (λ s. option_and_then (λ method. option_map (call_of (loaded_of k) m s method what host n) (slice_get (loaded_of k).pointers what.receiver)) (called_method k.surface.value (map receiver_of k.receivers.items) what)) o)) calls.means.struct_is
      ∙ (ap (λ (o : Option PublicMethod). defined (option_and_then (λ method. option_map (call_of (loaded_of k) m calls.means.of method what host n) (slice_get (loaded_of k).pointers what.receiver)) o)) calls.means.method_is
      ∙ ap (λ (o : Option CValue). defined (option_map (call_of (loaded_of k) m calls.means.of calls.means.method what host n) o)) calls.pointer)

  method_fits : (buffers arrays : ℕ) → CanCall k.surface.value (map receiver_of k.receivers.items) buffers arrays what → FitKinds buffers arrays calls.means.method.args what.args
  method_fits buffers arrays can = subst (λ (o : Option PublicMethod). IsSomeAnd o (λ method. FitKinds buffers arrays method.args what.args)) calls.means.method_is can.fit

  pub args_there : (buffers arrays : ℕ) → CanCall k.surface.value (map receiver_of k.receivers.items) buffers arrays what → AreThere buffers arrays what.args
  args_there buffers arrays can = kinds_there buffers arrays calls.means.method.args what.args (method_fits buffers arrays can)

  pub args_few : (buffers arrays : ℕ) → CanCall k.surface.value (map receiver_of k.receivers.items) buffers arrays what → length what.args ≤ most_args k.surface.value.structs
  args_few buffers arrays can =
      let a = kinds_length buffers arrays calls.means.method.args what.args (method_fits buffers arrays can) in
      let b = most_method calls.means.of.methods what.method calls.means.method calls.means.its_method in
      let d = most_struct k.surface.value.structs calls.means.structure calls.means.of calls.means.numbered in
      omega (arith, a, b, d)

  pub own_number : function_number (loaded_of k).program.functions (function_name k.surface.value calls.means.of calls.means.method.name) ≡ Some c.own
  own_number = sym calls.means.is.function ∙ calls.function

  pub own_kind : answer_kind_of c.kind ≡ calls.means.method.answers
  own_kind = ap answer_kind_of calls.kind ∙ calls.means.is.kind

  pub own_below : IsKnown k → c.own < length k.code.functions
  own_below known = let a = number_below (loaded_of k).program.functions (function_name k.surface.value calls.means.of calls.means.method.name) c.own own_number in omega (arith, a, known.functions)

  pub call_is_fit : IsKnown k → (m : Memory) (host : Host) (reply : Reply) (after : Memory × Host) → Replies (given k.surface.value (λ (x : Memory × Host). x) (c_call (loaded_of k) m what host turns)) reply after
      → FitsCalled k.surface.value (map receiver_of k.receivers.items) what reply
  call_is_fit known m host reply after h =
      subst (λ (o : Option PublicMethod). IsSomeAnd o (λ method. DoneFits k.surface.value method.answers reply)) (sym calls.means.method_is) (by reply h)
    where
      by : (reply : Reply) → Replies (given k.surface.value (λ (x : Memory × Host). x) (c_call (loaded_of k) m what host turns)) reply after → DoneFits k.surface.value calls.means.method.answers reply
      by (Done outcome) h =
          call_fits (unit_tree k.unit) (loaded_of k) known.form refl known.ok m calls.means.structure what.method calls.means.of calls.means.method c.kind what host turns c.receiver outcome after calls.means.numbered calls.means.its_method own_kind
          (sym (ap (given k.surface.value (λ (x : Memory × Host). x)) (comes_to_call m host turns)) ∙ h)
      by Turns h = tt
      by Undefined h = tt

pub within_turns : (k : Known) (what : HostCall) (turns : ℕ) (c : Called) (calls : Calls k what turns c) (m : Memory) (host : Host) (reply : Reply) (after : Memory × Host)
    → Replies (given k.surface.value (λ (x : Memory × Host). x) (call_of (loaded_of k) m calls.means.of calls.means.method what host c.turns c.receiver)) reply after → Replies (given k.surface.value (λ (x : Memory × Host). x) (c_call (loaded_of k) m what host turns)) reply after
within_turns k what turns c calls m host reply after h =
    replies_so k.surface.value (c_call (loaded_of k) m what host turns) (call_of (loaded_of k) m calls.means.of calls.means.method what host c.turns c.receiver) reply after
    (comes_to_call k what turns c calls m host turns ∙ ap (λ (n : ℕ). call_of (loaded_of k) m calls.means.of calls.means.method what host n c.receiver) (sym calls.within)) h

pub sizes_kept : (reply : Reply) (old new : Host) → OnDone reply (SameSizes old new) → KeepsSizes reply old new
sizes_kept (Done outcome) old new h = h
sizes_kept Turns old new h = tt
sizes_kept Undefined old new h = tt

pub undefined_fits : (k : Known) (what : HostCall) (buffers arrays : ℕ) → CanCall k.surface.value (map receiver_of k.receivers.items) buffers arrays what → FitsCalled k.surface.value (map receiver_of k.receivers.items) what Undefined
undefined_fits k what buffers arrays can = by (called_method k.surface.value (map receiver_of k.receivers.items) what) can.fit
  where
    by : (o : Option PublicMethod) → IsSomeAnd o (λ method. FitKinds buffers arrays method.args what.args) → IsSomeAnd o (λ method. DoneFits k.surface.value method.answers Undefined)
    by None h = absurd h
    by (Some m) h = tt

pub receiver_below : (k : Known) (what : HostCall) (buffers arrays : ℕ) → CanCall k.surface.value (map receiver_of k.receivers.items) buffers arrays what → what.receiver < length k.receivers.items
receiver_below k what buffers arrays can = by k.receivers.items what.receiver can.fit
  where
    by : (rs : List ReceiverDecl) (n : ℕ) → IsSomeAnd (option_and_then (method_of k.surface.value what.method) (slice_get (map receiver_of rs) n)) (λ method. FitKinds buffers arrays method.args what.args) → n < length rs
    by [] n h = absurd h
    by (r ∷ rs) zero h = omega arith
    by (r ∷ rs) (suc n) h = let l = by rs n h in omega (arith, l)

-- An init of a receiver.
module _ (k : Known) (receiver : ℕ) (function : Option ℕ) (inited : IsInited k receiver function) where
  pub comes_to_init : (v : CValue) → slice_get (loaded_of k).pointers receiver ≡ Some v → (m : Memory) (n : ℕ) → c_init (loaded_of k) m receiver n ≡ init_of (loaded_of k) m inited.of v n
  comes_to_init v is m n =
      ap (λ (o : Option PublicStruct). defined (option_and_then (λ s. option_map (λ receiver. init_of (loaded_of k) m s receiver n) (slice_get (loaded_of k).pointers receiver)) o)) inited.struct_is
      ∙ ap (λ (o : Option CValue). defined (option_map (λ receiver. init_of (loaded_of k) m inited.of receiver n) o)) is

  pub init_below : IsKnown k → IfSome function (λ own. own < length k.code.functions)
  init_below known = by function inited.function_is
    where
      by : (o : Option ℕ) → o ≡ function_number (loaded_of k).program.functions (initialize_name k.surface.value inited.of) → IfSome o (λ own. own < length k.code.functions)
      by None e = tt
      by (Some own) e = let a = number_below (loaded_of k).program.functions (initialize_name k.surface.value inited.of) own (sym e) in omega (arith, a, known.functions)

pub init_is_fit : (k : Known) → IsKnown k → (m : Memory) (s : PublicStruct) (v : CValue) (n : ℕ) (reply : Reply) (after : Memory) → Replies (given k.surface.value (λ (x : Memory). x) (init_of (loaded_of k) m s v n)) reply after → DoneFits k.surface.value status reply
init_is_fit k known m s v n (Done outcome) after h = init_fits (unit_tree k.unit) (loaded_of k) known.form refl known.ok m s n v outcome after h
init_is_fit k known m s v n Turns after h = tt
init_is_fit k known m s v n Undefined after h = tt

-- There is a pointer for each receiver.
pub pointers_length : (p : Program) (s : Surface) (rs : List Receiver) (m : Memory) → length (make_receivers p s rs m).pointers ≡ length rs
pointers_length p s [] m = refl
pointers_length p s (r ∷ rs) m = ap suc (pointers_length p s rs (m ++ receiver_objects p s r (length m)))

-- A receiver, and its struct.
struct_there : (s : Surface) (rs : List ReceiverDecl) (n : ℕ) (r : ReceiverDecl) → slice_get rs n ≡ Some r → option_and_then (λ (x : Receiver). struct_numbered s x.struct_number) (slice_get (map receiver_of rs) n) ≡ struct_numbered s r.of.0
struct_there s [] n r e = absurd (cc (e))
struct_there s (x ∷ rs) zero r e = let t : x ≡ r = cc (e) in ap (λ (y : ReceiverDecl). struct_numbered s y.of.0) t
struct_there s (x ∷ rs) (suc n) r e = struct_there s rs n r e

method_there : (s : Surface) (j : ℕ) (rs : List ReceiverDecl) (n : ℕ) (r : ReceiverDecl) → slice_get rs n ≡ Some r → option_and_then (method_of s j) (slice_get (map receiver_of rs) n) ≡ option_and_then (method_numbered j) (struct_numbered s r.of.0)
method_there s j [] n r e = absurd (cc (e))
method_there s j (x ∷ rs) zero r e = let t : x ≡ r = cc (e) in ap (λ (y : ReceiverDecl). option_and_then (method_numbered j) (struct_numbered s y.of.0)) t
method_there s j (x ∷ rs) (suc n) r e = method_there s j rs n r e

module _ (k : Known) (what : HostCall) (r : ReceiverDecl) (is : slice_get k.receivers.items what.receiver ≡ Some r) where
  pub entry_found : (e : StructEntry) (m : Option MethodEntry) → FoundAlike (IsStruct (loaded_of k).program k.surface.value) (struct_numbered k.surface.value r.of.0) (Some e)
      → ((of : PublicStruct) → IsStruct (loaded_of k).program k.surface.value of e → FoundAlike (IsMethod (loaded_of k).program k.surface.value of) (method_numbered what.method of) m) → HasEntry k what m
  entry_found e m f h = by (struct_numbered k.surface.value r.of.0) refl f
    where
      by_method : (of : PublicStruct) → struct_numbered k.surface.value r.of.0 ≡ Some of → (o : Option PublicMethod) → method_numbered what.method of ≡ o → (m : Option MethodEntry) → FoundAlike (IsMethod (loaded_of k).program k.surface.value of) o m → HasEntry k what m
      by_method of i None j (Some y) g = absurd g
      by_method of i None j None g = method_there k.surface.value what.method k.receivers.items what.receiver r is ∙ (ap (option_and_then (method_numbered what.method)) i ∙ j)
      by_method of i (Some x) j None g = absurd g
      by_method of i (Some x) j (Some y) g = record {
        structure = r.of.0;
        of = of;
        method = x;
        numbered = i;
        its_method = j;
        struct_is = struct_there k.surface.value k.receivers.items what.receiver r is ∙ i;
        method_is = method_there k.surface.value what.method k.receivers.items what.receiver r is ∙ (ap (option_and_then (method_numbered what.method)) i ∙ j);
        is = g;
      }

      by : (o : Option PublicStruct) → struct_numbered k.surface.value r.of.0 ≡ o → FoundAlike (IsStruct (loaded_of k).program k.surface.value) o (Some e) → HasEntry k what m
      by None i g = absurd g
      by (Some of) i g = by_method of i (method_numbered what.method of) refl m (h of g)

  pub no_entry : FoundAlike {B = StructEntry} (IsStruct (loaded_of k).program k.surface.value) (struct_numbered k.surface.value r.of.0) None → HasEntry k what None
  no_entry f = by (struct_numbered k.surface.value r.of.0) refl f
    where
      by : (o : Option PublicStruct) → struct_numbered k.surface.value r.of.0 ≡ o → FoundAlike {B = StructEntry} (IsStruct (loaded_of k).program k.surface.value) o None → HasEntry k what None
      by None i g = method_there k.surface.value what.method k.receivers.items what.receiver r is ∙ ap (option_and_then (method_numbered what.method)) i
      by (Some of) i g = absurd g

-- A call that means no method, or one without a function.
pub no_callee : (k : Known) (what : HostCall) (turns : ℕ) → HasEntry k what None → IsCallee k what turns None
no_callee k what turns e = λ m host n.
    ap (λ (o : Option PublicMethod). defined (option_and_then (λ s. option_and_then (λ method. option_map (call_of (loaded_of k) m s method what host n) (slice_get (loaded_of k).pointers what.receiver)) o) (struct_of (loaded_of k) what.receiver))) e
    ∙ by m host n (struct_of (loaded_of k) what.receiver)
  where
    by : (m : Memory) (host : Host) (n : ℕ) (o : Option PublicStruct)
        → defined (option_and_then (λ (s : PublicStruct). option_and_then (λ method. option_map (call_of (loaded_of k) m s method what host n) (slice_get (loaded_of k).pointers what.receiver)) None) o) ≡ not_defined
    by m host n None = refl
    by m host n (Some s) = refl

pub no_function_there : (k : Known) (what : HostCall) (turns : ℕ) (e : MethodEntry) → Means k what e → e.function ≡ None → IsCallee k what turns None
no_function_there k what turns e means i = λ m host n.
    ap (λ (o : Option PublicStruct). defined (option_and_then (λ s. option_and_then (λ method. option_map (call_of (loaded_of k) m s method what host n) (slice_get (loaded_of k).pointers what.receiver)) (called_method k.surface.value (map receiver_of k.receivers.items) what)) o)) means.struct_is
    ∙ (ap (λ (o : Option PublicMethod). defined (option_and_then (λ method. option_map (call_of (loaded_of k) m means.of method what host n) (slice_get (loaded_of k).pointers what.receiver)) o)) means.method_is
    ∙ by m host n (slice_get (loaded_of k).pointers what.receiver))
  where
    by : (m : Memory) (host : Host) (n : ℕ) (o : Option CValue) → defined (option_map (call_of (loaded_of k) m means.of means.method what host n) o) ≡ not_defined
    by m host n None = refl
    by m host n (Some v) =
        ap (response (call_ended (loaded_of k) m means.method what host (most_args k.surface.value.structs)))
        (no_function (loaded_of k).program (function_name k.surface.value means.of means.method.name) n (v ∷ all_values host (length m) (length m + most_args k.surface.value.structs) what.args) (call_memory host m (most_args k.surface.value.structs) what.args)
        (sym i ∙ means.is.function))

-- The function that initializes a receiver.
module _ (k : Known) (receiver : ℕ) (r : ReceiverDecl) (is : slice_get k.receivers.items receiver ≡ Some r) where
  pub initializer_found : (e : StructEntry) → FoundAlike (IsStruct (loaded_of k).program k.surface.value) (struct_numbered k.surface.value r.of.0) (Some e) → IsInited k receiver e.initialize
  initializer_found e f = by (struct_numbered k.surface.value r.of.0) refl f
    where
      by : (o : Option PublicStruct) → struct_numbered k.surface.value r.of.0 ≡ o → FoundAlike (IsStruct (loaded_of k).program k.surface.value) o (Some e) → IsInited k receiver e.initialize
      by None i g = absurd g
      by (Some of) i g = record { of = of; struct_is = struct_there k.surface.value k.receivers.items receiver r is ∙ i; function_is = g.initialize }

  pub is_declared : IsKnown k → FoundAlike {B = StructEntry} (IsStruct (loaded_of k).program k.surface.value) (struct_numbered k.surface.value r.of.0) None → ⊥
  is_declared known f = by (struct_numbered k.surface.value r.of.0) refl f
    where
      there : (rs : List ReceiverDecl) (n : ℕ) → slice_get rs n ≡ Some r → All (λ receiver. IsSomeAnd (struct_numbered k.surface.value receiver.struct_number) (λ _. ⊤)) (map receiver_of rs) → IsSomeAnd (struct_numbered k.surface.value r.of.0) (λ _. ⊤)
      there [] n e h = absurd (cc (e))
      there (x ∷ rs) zero e h = let t : x ≡ r = cc (e) in subst (λ (y : ReceiverDecl). IsSomeAnd (struct_numbered k.surface.value y.of.0) (λ _. ⊤)) t (h 0 (receiver_of x) (omega arith))
      there (x ∷ rs) (suc n) e h = there rs n e (λ i d l. h (suc i) d (omega (arith, l)))

      by : (o : Option PublicStruct) → struct_numbered k.surface.value r.of.0 ≡ o → FoundAlike {B = StructEntry} (IsStruct (loaded_of k).program k.surface.value) o None → ⊥
      by None i g = absurd (subst (λ (o : Option PublicStruct). IsSomeAnd o (λ _. ⊤)) i (there k.receivers.items receiver is known.declared))
      by (Some of) i g = absurd g

mapped_length : (rs : List ReceiverDecl) → length (map receiver_of rs) ≡ length rs
mapped_length [] = refl
mapped_length (x ∷ xs) = ap suc (mapped_length xs)

pub as_many_pointers : (k : Known) → IsKnown k → length k.pointers.items ≡ length k.receivers.items
as_many_pointers k known =
    ap (λ (xs : List CValue). length xs) known.pointers
    ∙ (pointers_length (loaded_of k).program k.surface.value (map receiver_of k.receivers.items) (map text_object (loaded_of k).program.texts) ∙ mapped_length k.receivers.items)

pub receiver_exists : (k : Known) (n : ℕ) → n < length (map receiver_of k.receivers.items) → n < length k.receivers.items
receiver_exists k n h = let e = mapped_length k.receivers.items in omega (arith, e, h)
