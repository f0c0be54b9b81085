-- Inits and calls of the machine's receivers.
use Rattle.std.proofs.Common.{◌≡◌, ℕ, zero, suc, ◌<◌, ◌≤◌, true, false, List, [], ◌∷◌, length, map, Option, Some, None, refl, sym, ap, ◌∙◌, subst, arith}
use Rattle.std.specs.Prelude.{slice_get, slice_set, option_map, unwrap_or}
use Rattle.std.proofs.lemmas.List.{length-map}
use Rattle.std.proofs.lemmas.Option.{slice_get-map}
use Rattle.wf_base.specs.HostRun.{Host, HostCall}
use Rattle.wf_ast.specs.declared.declarations.Method.{Method}
use Rattle.wf_ast.specs.declared.typed_nodes.TypedNodes.{TypedNodes}
use Rattle.wf_ast.specs.TypedPackage.{MethodTree, PackageTree, package_of}
use Rattle.wf_ast.specs.TypedInvariant.{IsTyped}
use Rattle.wf_bufs.specs.declared.bufs.Bufs.{Bufs}
use Rattle.wf_bufs.specs.HostSeen.{host_of}
use Rattle.wf_bufs.specs.declared.outcomes.Outcome.TheVariants.{Status}
use Rattle.wf_bufs.specs.declared.outcomes.Reply.{Reply}
use Rattle.wf_bufs.specs.EngineLaw.{Gives, done, undefined, Replies}
use Rattle.wf_meaning.specs.SourceState.{Object, cleared_object}
use Rattle.wf_meaning.specs.Entry.{Answered, bad_receiver, refusal_of}
use Rattle.wf_meaning.specs.World.{updated}
use Rattle.wf_meaning.specs.SourceCall.{entry_of, host_values}
use Rattle.wf_mean_exprs.specs.MachineState.{object_seen, world_seen}
use Rattle.wf_mean_runs.specs.declared.calls.Ran.{Ran}
use Rattle.wf_mean_runs.specs.Frames.{args_of}
use Rattle.wf_mean.specs.declared.receivers.ReceiverState.{ReceiverState}
use Rattle.wf_mean.specs.SourceEngines.{EngineState, call_gives, entry_gives, init_gives, init_of, kind_told, outcome_of, receiver_gives}
use Rattle.wf_mean.specs.Machines.{RanTo, objects_seen, receiver_seen, receivers_seen, reply_if}
use Rattle.wf_mean.proofs.CallLaws.{IsReplyOf, call-is, entry-replies, given-replies, map-updated, no-method-gives, updated-same}
use Rattle.wf_mean.proofs.FreshLaws.{methods-count, none-past}

-- A receiver that isn't null, and a null one.
pub live-seen : (p : PackageTree) (r : ReceiverState) → r.decl.null ≡ false → receiver_seen p r ≡ Some (map (object_seen p) r.objects.items)
live-seen p r e = ap (λ t. objects_seen p t r.objects.items) e

pub null-seen : (p : PackageTree) (r : ReceiverState) → r.decl.null ≡ true → receiver_seen p r ≡ None
null-seen p r e = ap (λ t. objects_seen p t r.objects.items) e

pub receiver-at : (p : PackageTree) (e : EngineState) (k : ℕ) (all : List ReceiverState) (r : ReceiverState) → e.objects ≡ receivers_seen p all → slice_get all k ≡ Some r → slice_get e.objects k ≡ Some (receiver_seen p r)
receiver-at p e k all r is at = ap (λ (os : List (Option (List Object))). slice_get os k) is ∙ slice_get-map (receiver_seen p) all k ∙ ap (option_map (receiver_seen p)) at

pub no-receiver-at : (p : PackageTree) (e : EngineState) (k : ℕ) (all : List ReceiverState) → e.objects ≡ receivers_seen p all → length all ≤ k → slice_get e.objects k ≡ None
no-receiver-at p e k all is h =
    let long : length (receivers_seen p all) ≡ length all = length-map all (receiver_seen p) in
    ap (λ (os : List (Option (List Object))). slice_get os k) is ∙ none-past (receivers_seen p all) k (omega (arith, h, long))

pub replaced : (p : PackageTree) (e : EngineState) (k : ℕ) (all : List ReceiverState) (new : ReceiverState) → e.objects ≡ receivers_seen p all
    → record e { objects = updated (λ _. receiver_seen p new) k e.objects } ≡ record e { objects = receivers_seen p (slice_set all k new) }
replaced p e k all new is =
    ap (λ (os : List (Option (List Object))). record e { objects = os }) (ap (λ (os : List (Option (List Object))). updated (λ _. receiver_seen p new) k os) is ∙ sym (map-updated (receiver_seen p) all k new))

-- An init.
pub init-makes : (p : PackageTree) (e : EngineState) (k turns : ℕ) (all : List ReceiverState) (old new : ReceiverState) → e.objects ≡ receivers_seen p all → slice_get all k ≡ Some old → old.decl.null ≡ false → new.decl ≡ old.decl
    → map (object_seen p) new.objects.items ≡ map cleared_object (map (object_seen p) old.objects.items)
    → init_gives e k turns ≡ done (Status (record { 0 = 0 })) (record e { objects = receivers_seen p (slice_set all k new) })
unfolding init_gives
init-makes p e k turns all old new is at live same made =
    let seen : receiver_seen p new ≡ Some (map cleared_object (map (object_seen p) old.objects.items)) = live-seen p new (ap (λ d. d.null) same ∙ live) ∙ ap (λ (os : List Object). Some os) made in
    ap (init_of e k) (receiver-at p e k all old is at ∙ ap (λ (o : Option (List Object)). Some o) (live-seen p old live))
    ∙ ap (λ (o : Option (List Object)). done (Status (record { 0 = 0 })) (record e { objects = updated (λ _. o) k e.objects })) (sym seen)
    ∙ ap (done (Status (record { 0 = 0 }))) (replaced p e k all new is)

-- The reply of a null receiver.
pub null-replies : (p : PackageTree) (e : EngineState) (m : MethodTree) (called : HostCall) (host : Host) (n : ℕ) (r : ReceiverState) (answer : Answered) (reply : Reply) → e.package_tree ≡ p → slice_get e.objects called.receiver ≡ Some (receiver_seen p r) → r.decl.null ≡ true
    → answer ≡ refusal_of m bad_receiver → reply ≡ reply_if (outcome_of p (kind_told m) answer)
    → Replies (receiver_gives e m called host n (receiver_seen p r)) reply (record e { objects = updated (λ _. receiver_seen p r) called.receiver e.objects }, host)
null-replies p e m called host n r answer reply of at null refused is =
    let P : Option (List Object) → Type 0 = λ o. Replies {After = EngineState × Host} (receiver_gives e m called host n o) reply (record e { objects = updated (λ _. receiver_seen p r) called.receiver e.objects }, host) in
    let Q : List (Option (List Object)) → Type 0 = λ os. Replies {After = EngineState × Host} (receiver_gives e m called host n None) reply (record e { objects = os }, host) in
    let R : Reply → Type 0 = λ reply. Replies {After = EngineState × Host} (receiver_gives e m called host n None) reply (e, host) in
    let told : reply ≡ reply_if (outcome_of e.package_tree (kind_told m) (refusal_of m bad_receiver)) = is ∙ ap (λ a. reply_if (outcome_of p (kind_told m) a)) refused ∙ ap (λ p. reply_if (outcome_of p (kind_told m) (refusal_of m bad_receiver))) (sym of) in
    subst P (sym (null-seen p r null)) (subst Q (sym (updated-same e.objects called.receiver (receiver_seen p r) at)) (subst R (sym told) (given-replies (outcome_of e.package_tree (kind_told m) (refusal_of m bad_receiver)) (e, host))))

-- The reply of one that isn't null.
pub live-replies : (nodes : TypedNodes) (e : EngineState) (m : MethodTree) (called : HostCall) (n : ℕ) (r s : ReceiverState) (old new : Bufs) (ran : Ran) (reply : Reply) → e.package_tree ≡ package_of nodes → r.decl.null ≡ false → s.decl ≡ r.decl → IsReplyOf (package_of nodes) m ran reply
    → RanTo nodes ran s.objects.items new (entry_of (package_of nodes) m called.method (host_values (host_of old).arrays m.args called.args) n (world_seen nodes r.objects.items old))
    → Replies (receiver_gives e m called (host_of old) n (receiver_seen (package_of nodes) r)) reply (record e { objects = updated (λ _. receiver_seen (package_of nodes) s) called.receiver e.objects }, host_of new)
live-replies nodes e m called n r s old new ran reply of live same is h =
    let p = package_of nodes in
    let P : Option (List Object) → Type 0 = λ o. Replies {After = EngineState × Host} (receiver_gives e m called (host_of old) n o) reply (record e { objects = updated (λ _. receiver_seen p s) called.receiver e.objects }, host_of new) in
    let Q : Option (List Object) → Type 0 = λ o. Replies {After = EngineState × Host} (entry_gives e m called (host_of old) n (map (object_seen p) r.objects.items)) reply (record e { objects = updated (λ _. o) called.receiver e.objects }, host_of new) in
    subst P (sym (live-seen p r live)) (subst Q (sym (live-seen p s (ap (λ d. d.null) same ∙ live))) (entry-replies nodes e m called n r.objects.items s.objects.items old new ran reply of is h))

-- A call of the machine.
there : {X : Type 0} (xs : List X) (i : ℕ) → i < length xs → (x : X) × (slice_get xs i ≡ Some x)
there [] i h = absurd (omega (arith, h))
there (x ∷ xs) zero h = (x, refl)
there (x ∷ xs) (suc i) h = there xs i (omega (arith, h))

pub call-replies : (nodes : TypedNodes) → IsTyped nodes → (e : EngineState) (called : HostCall) (host left : Host) (n : ℕ) (reply : Reply) (all : List ReceiverState) (old new : ReceiverState) → called.method < length nodes.methods → e.package_tree ≡ package_of nodes
    → e.objects ≡ receivers_seen (package_of nodes) all → slice_get all called.receiver ≡ Some old
    → ((callee : MethodTree) → slice_get (package_of nodes).methods called.method ≡ Some callee → slice_get e.objects called.receiver ≡ Some (receiver_seen (package_of nodes) old)
    → Replies (receiver_gives e callee called host n (receiver_seen (package_of nodes) old)) reply (record e { objects = updated (λ _. receiver_seen (package_of nodes) new) called.receiver e.objects }, left))
    → Replies (call_gives e called host n) reply (record e { objects = receivers_seen (package_of nodes) (slice_set all called.receiver new) }, left)
call-replies nodes typed e called host left n reply all old new known of is at h =
    let p = package_of nodes in
    let count = methods-count nodes typed in
    let own = there (package_of nodes).methods called.method (omega (arith, known, count)) in
    let mine : slice_get e.objects called.receiver ≡ Some (receiver_seen p old) = receiver-at p e called.receiver all old is at in
    let method : slice_get e.package_tree.methods called.method ≡ Some own.0 = ap (λ (p : PackageTree). slice_get p.methods called.method) of ∙ own.1 in
    let P : Gives (EngineState × Host) → Type 0 = λ g. Replies g reply (record e { objects = receivers_seen p (slice_set all called.receiver new) }, left) in
    let Q : EngineState → Type 0 = λ x. Replies {After = EngineState × Host} (receiver_gives e own.0 called host n (receiver_seen p old)) reply (x, left) in
    subst P (sym (call-is e called host n own.0 (receiver_seen p old) method mine)) (subst Q (replaced p e called.receiver all new is) (h own.0 own.1 mine))

pub no-method-replies : (nodes : TypedNodes) → IsTyped nodes → (e : EngineState) (called : HostCall) (host : Host) (n : ℕ) → length nodes.methods ≤ called.method → e.package_tree ≡ package_of nodes → call_gives e called host n ≡ undefined
no-method-replies nodes typed e called host n h of =
    let count = methods-count nodes typed in
    no-method-gives e called host n (ap (λ (p : PackageTree). slice_get p.methods called.method) of ∙ none-past (package_of nodes).methods called.method (omega (arith, h, count)))

pub args-told : (nodes : TypedNodes) (m : ℕ) (it : Method) → slice_get nodes.methods m ≡ Some it → args_of nodes m ≡ it.args
args-told nodes m it at = ap (λ o. unwrap_or (option_map (λ (x : Method). x.args) o) []) at
