-- A call changes only what it names.
use Rattle.std.proofs.Common.{◌≡◌, ℕ, zero, suc, ◌+◌, Bool, true, false, List, [], ◌∷◌, ◌++◌, length, map, reverse, replicate, Option, Some, None, inl, inr, refl, subst}
use Rattle.std.specs.Prelude.{slice_get, option_map, if◌then◌else◌, unwrap_or, is_some}
use Rattle.std.specs.List.{AllByRecursion}
use Rattle.turns.specs.Run.{Outcome, Got, More, Lost}
use Rattle.turns.specs.Steps.{AnswersWith}
use Rattle.wf_text.specs.Seen.{Answer}
use Rattle.wf_text.specs.HostActions.{HostArg, Receiver}
use Rattle.wf_text.specs.HostActions as host
use Rattle.wf_base.specs.HostRun.{Host, HostCall, Response, answers, needs_more, not_defined}
use Rattle.wf_base.specs.LawfulActions.{named_buffers, named_arrays}
use Rattle.wf_ast.specs.declared.types.Ty.{Ty}
use Rattle.wf_ast.specs.declared.types.Ty.TheVariants as types
use Rattle.wf_ast.specs.TypedTree.{Block}
use Rattle.wf_ast.specs.TypedPackage.{Variable, MethodTree, PackageTree}
use Rattle.wf_ast.specs.Value.{Value, num, truth_value}
use Rattle.wf_ast.specs.Value as values
use Rattle.wf_meaning.specs.SourceState.{Remaining, Object, SourceState, cleared_object, raw_objects, inside_field, inside_fields, fields_of, fresh_receiver, fresh_state}
use Rattle.wf_meaning.specs.Entry.{Answered}
use Rattle.wf_meaning.specs.World.{World}
use Rattle.wf_meaning.specs.SourceStep.{Call}
use Rattle.wf_meaning.specs.SourceCall.{source_call, source_init, init_receiver, call_method, call_receiver, called, all_bodies, host_value, host_values, cons_value}
use Rattle.wf_meaning.specs.Laws.{Among, Anything, IsKept, Keeps, KeepsAll, IsSettled, ChangesOnlyNamed}
use Rattle.wf_meaning.proofs.Lists.{updated-other}
use Rattle.wf_meaning.proofs.Lists2.{all_at, all_updated, some_same}
use Rattle.wf_meaning.proofs.Frame.{ValueOk, WorldOk}
use Rattle.wf_meaning.proofs.Stays.{CalledOk, Places, bodies_fine, entered_fine}

module _ (B A : ℕ → Type 0) (h0 : Host) (R : ℕ → Remaining → Type 0) where
  abbrev NamesOk : HostArg → Type 0
  NamesOk (host.num n) = Unit {0}
  NamesOk (host.flag b) = Unit {0}
  NamesOk (host.io None) = Unit {0}
  NamesOk (host.io (Some k)) = B k
  NamesOk (host.bytes None) = Unit {0}
  NamesOk (host.bytes (Some a)) = A a

  names_fine : (args : List HostArg) → ((k : ℕ) → Among k (named_buffers args) → B k) → ((a : ℕ) → Among a (named_arrays args) → A a) → AllByRecursion NamesOk args
  names_fine [] f g = tt
  names_fine (host.num n ∷ args) f g = (tt, names_fine args f g)
  names_fine (host.flag b ∷ args) f g = (tt, names_fine args f g)
  names_fine (host.io None ∷ args) f g = (tt, names_fine args f g)
  names_fine (host.io (Some k) ∷ args) f g = (f k (inl refl), names_fine args (λ j h. f j (inr h)) g)
  names_fine (host.bytes None ∷ args) f g = (tt, names_fine args f g)
  names_fine (host.bytes (Some a) ∷ args) f g = (g a (inl refl), names_fine args f (λ j h. g j (inr h)))

  number_fine : (test : Bool) (n : ℕ) (v : Value) → (if test then Some (num n) else None) ≡ Some v → ValueOk B A h0 R v
  number_fine true n v e = subst (ValueOk B A h0 R) (some_same (num n) v e) tt
  number_fine false n v e = absurd (cc (e))

  io_fine : (name : Option ℕ) (v : Value) → NamesOk (host.io name) → option_map values.buffer name ≡ Some v → ValueOk B A h0 R v
  io_fine None v h e = absurd (cc (e))
  io_fine (Some k) v h e = subst (ValueOk B A h0 R) (some_same (values.buffer k) v e) h

  slice_fine : (arrays : List (List ℕ)) (width : _) (name : Option ℕ) (v : Value) → NamesOk (host.bytes name) → host_value arrays (types.Slice width) (host.bytes name) ≡ Some v → ValueOk B A h0 R v
  slice_fine arrays width None v h e = subst (ValueOk B A h0 R) (some_same _ v e) tt
  slice_fine arrays width (Some a) v h e = subst (ValueOk B A h0 R) (some_same _ v e) h

  value_fine : (arrays : List (List ℕ)) (ty : Ty) (arg : HostArg) (v : Value) → NamesOk arg → host_value arrays ty arg ≡ Some v → ValueOk B A h0 R v
  value_fine arrays (types.Num width lo hi) (host.num n) v h e = number_fine _ n v e
  value_fine arrays types.Flag (host.flag b) v h e = subst (ValueOk B A h0 R) (some_same (truth_value b) v e) tt
  value_fine arrays types.Reader (host.io name) v h e = io_fine name v h e
  value_fine arrays types.Writer (host.io name) v h e = io_fine name v h e
  value_fine arrays (types.Slice width) (host.bytes name) v h e = slice_fine arrays width name v h e
  value_fine arrays ty arg v h e = absurd (cc (e))

  cons_fine : (v : Option Value) (vs : Option (List Value)) (xs : List Value) → cons_value v vs ≡ Some xs → ((x : Value) → v ≡ Some x → ValueOk B A h0 R x) → ((ys : List Value) → vs ≡ Some ys → AllByRecursion (ValueOk B A h0 R) ys) → AllByRecursion (ValueOk B A h0 R) xs
  cons_fine None vs xs e f g = absurd (cc (e))
  cons_fine (Some x) None xs e f g = absurd (cc (e))
  cons_fine (Some x) (Some ys) xs e f g = subst (AllByRecursion (ValueOk B A h0 R)) (some_same (x ∷ ys) xs e) (f x refl, g ys refl)

  values_fine : (arrays : List (List ℕ)) (xs : List Variable) (args : List HostArg) (vs : List Value) → AllByRecursion NamesOk args → host_values arrays xs args ≡ Some vs → AllByRecursion (ValueOk B A h0 R) vs
  values_fine arrays [] [] vs h e = subst (AllByRecursion (ValueOk B A h0 R)) (some_same [] vs e) tt
  values_fine arrays [] (arg ∷ args) vs h e = absurd (cc (e))
  values_fine arrays (x ∷ xs) [] vs h e = absurd (cc (e))
  values_fine arrays (x ∷ xs) (arg ∷ args) vs h e =
      cons_fine _ (host_values arrays xs args) vs e (λ v k. value_fine arrays x.ty arg v h.0 k) (λ ys k. values_fine arrays xs args ys h.1 k)

  or_empty : (o : Option (List Value)) → ((vs : List Value) → o ≡ Some vs → AllByRecursion (ValueOk B A h0 R) vs) → AllByRecursion (ValueOk B A h0 R) (unwrap_or o [])
  or_empty None h = tt
  or_empty (Some vs) h = h vs refl

module _ (R : ℕ → Remaining → Type 0) (p : PackageTree) (places : (m : ℕ) (x : MethodTree) → slice_get p.methods m ≡ Some x → (B A : ℕ → Type 0) (h0 : Host) → Places B A h0 R m x.body) (state : SourceState) (call : HostCall) (h : Host) (settled : IsSettled R state) where
  abbrev B : ℕ → Type 0
  B k = Among k (named_buffers call.args)

  abbrev A : ℕ → Type 0
  A a = Among a (named_arrays call.args)

  abbrev Fine : Response (SourceState × Host) → Type 0
  Fine (answers a after) = ChangesOnlyNamed state call h after × IsSettled R after.0
  Fine needs_more = Unit {0}
  Fine not_defined = Unit {0}

  called_fine : (o : Outcome (Answered × World)) → AnswersWith (CalledOk B A h R) o → Fine (called p state call.receiver o)
  called_fine (Got left done) k =
      (record { receivers = λ r e. updated-other _ call.receiver r state e; buffers = k.1.buffers; arrays = k.1.arrays }, all_updated (KeepsAll R) _ call.receiver state (λ x j. k.1.objects) settled)
  called_fine More k = tt
  called_fine Lost k = tt

  receiver_fine : (m : MethodTree) (n : ℕ) (o : Option (List Object)) → KeepsAll R o → Fine (call_receiver p m state call h n o)
  receiver_fine m n None k = (record { receivers = λ r e. refl; buffers = λ k e. refl; arrays = λ a e. refl }, settled)
  receiver_fine m n (Some objects) k =
      let args = host_values h.arrays m.args call.args in
      let w : World = record { objects = objects; host = h } in
      let it : Call = record { object = 0; method = call.method; args = unwrap_or args [] } in
      let ok : WorldOk B A h R w = record { buffers = λ j e. refl; arrays = λ j e. refl; objects = k } in
      let named = names_fine B A h R call.args (λ j q. q) (λ j q. q) in
      called_fine _ (entered_fine B A h R p (all_bodies p) (bodies_fine B A h R p (λ m x e. places m x e B A h) (reverse p.order)) n m it (is_some args) w
      (or_empty B A h R args (λ vs e. values_fine B A h R h.arrays m.args call.args vs named e)) ok (slice_get objects 0) refl)

  method_fine : (n : ℕ) (m : Option MethodTree) (r : Option (Option (List Object))) → slice_get state call.receiver ≡ r → Fine (call_method p state call h n m r)
  method_fine n None r e = tt
  method_fine n (Some m) None e = tt
  method_fine n (Some m) (Some r) e = receiver_fine m n r (all_at (KeepsAll R) state call.receiver r settled e)

  pub call_fine : (n : ℕ) (a : Answer) (after : SourceState × Host) → source_call p state call h n ≡ answers a after → ChangesOnlyNamed state call h after × IsSettled R after.0
  unfolding source_call
  call_fine n a after e = let P : Response (SourceState × Host) → Type 0 = Fine in subst P e (method_fine n (slice_get p.methods call.method) (slice_get state call.receiver) refl)

-- Inits and fresh receivers keep nothing.
none_kept : (R : ℕ → Remaining → Type 0) (n : ℕ) (m : ℕ) (left : Remaining) → slice_get (replicate n None) m ≡ Some (Some left) → AllByRecursion IsKept left.locals × R m left
none_kept R zero m left e = absurd (cc (e))
none_kept R (suc n) zero left e = absurd (cc (e))
none_kept R (suc n) (suc m) left e = none_later R n m left e
  where
    none_later : (R : ℕ → Remaining → Type 0) (n m : ℕ) (left : Remaining) → slice_get (replicate n None) m ≡ Some (Some left) → AllByRecursion IsKept left.locals × R (suc m) left
    none_later R zero m left e = absurd (cc (e))
    none_later R (suc n) zero left e = absurd (cc (e))
    none_later R (suc n) (suc m) left e = none_later (λ j. R (suc j)) n m left e

module _ (R : ℕ → Remaining → Type 0) where
  cleared_keeps : (o : Object) → Keeps R (cleared_object o)
  cleared_keeps o = record { by = λ m left e. none_kept R (length o.remaining) m left e }

  all_cleared : (objects : List Object) → AllByRecursion (Keeps R) (map cleared_object objects)
  all_cleared [] = tt
  all_cleared (o ∷ objects) = (cleared_keeps o, all_cleared objects)

  abbrev FineInit : Response SourceState → Type 0
  FineInit (answers a after) = IsSettled R after
  FineInit needs_more = Unit {0}
  FineInit not_defined = Unit {0}

  init_fine : (p : PackageTree) (state : SourceState) (r : ℕ) (o : Option (Option (List Object))) → IsSettled R state → FineInit (init_receiver p state r o)
  init_fine p state r None h = tt
  init_fine p state r (Some None) h = h
  init_fine p state r (Some (Some objects)) h = all_updated (KeepsAll R) _ r state (λ x j. all_cleared objects) h

  pub init_settled : (p : PackageTree) (state : SourceState) (r turns : ℕ) (a : Answer) (after : SourceState) → IsSettled R state → source_init p state r turns ≡ answers a after → IsSettled R after
  unfolding source_init
  init_settled p state r turns a after h e = let P : Response SourceState → Type 0 = FineInit in subst P e (init_fine p state r (slice_get state r) h)

  all_joined : (xs ys : List Object) → AllByRecursion (Keeps R) xs → AllByRecursion (Keeps R) ys → AllByRecursion (Keeps R) (xs ++ ys)
  all_joined [] ys h k = k
  all_joined (x ∷ xs) ys h k = (h.0, all_joined xs ys h.1 k)

  inside_one : (inside : ℕ → ℕ → List Object) → ((s n : ℕ) → AllByRecursion (Keeps R) (inside s n)) → (next : ℕ) (ty : Ty) → AllByRecursion (Keeps R) (inside_field inside next ty)
  inside_one inside h next (types.Num width lo hi) = tt
  inside_one inside h next types.Flag = tt
  inside_one inside h next types.Status = tt
  inside_one inside h next types.Reader = tt
  inside_one inside h next types.Writer = tt
  inside_one inside h next (types.Slice width) = tt
  inside_one inside h next (types.Array width lo hi count) = tt
  inside_one inside h next (types.Part s) = h s.0 next

  inside_all : (inside : ℕ → ℕ → List Object) → ((s n : ℕ) → AllByRecursion (Keeps R) (inside s n)) → (next : ℕ) (xs : List Variable) → AllByRecursion (Keeps R) (inside_fields inside next xs)
  inside_all inside h next [] = tt
  inside_all inside h next (x ∷ xs) = all_joined _ _ (inside_one inside h next x.ty) (inside_all inside h (next + length (inside_field inside next x.ty)) xs)

  raw_keep : (p : PackageTree) (levels s n : ℕ) → AllByRecursion (Keeps R) (raw_objects p levels s n)
  raw_keep p zero s n = tt
  raw_keep p (suc levels) s n = (record { by = λ m left e. none_kept R (length p.methods) m left e }, inside_all (raw_objects p levels) (raw_keep p levels) (n + 1) (fields_of p s))

  fresh_keeps : (p : PackageTree) (null : Bool) (s : ℕ) → KeepsAll R (fresh_receiver p null s)
  fresh_keeps p true s = tt
  fresh_keeps p false s = raw_keep p (suc (length p.structs)) s 0

  pub fresh_settled : (p : PackageTree) (receivers : List Receiver) → IsSettled R (fresh_state p receivers)
  fresh_settled p [] = tt
  fresh_settled p (r ∷ receivers) = (fresh_keeps p r.null r.struct_number, fresh_settled p receivers)

-- Where nothing is said of what remains, every place will do.
pub any_place : (B A : ℕ → Type 0) (h0 : Host) (m : ℕ) (top : Block) → Places B A h0 Anything m top
any_place B A h0 m top =
    record { P = λ block behind. Unit {0}; starts = tt; goes_on = λ left k. tt; after = λ site s r k h. tt; to_then = λ site chained c a d r k h. tt; to_else = λ site chained c a d r k h. tt; joins = λ r k h. tt; into = λ site head body r k h. tt; past = λ site head body r k h. tt; back_into = λ site head body r k h. tt; back_past = λ site head body r k h. tt; marked = λ w block k m h e. tt; kept = λ site s r k done locals e h. tt }
