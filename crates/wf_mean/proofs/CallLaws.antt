-- Calls from the host as the machine makes them.
use Rattle.std.proofs.Common.{◌≡◌, ℕ, zero, suc, ◌<◌, Bool, true, false, List, [], ◌∷◌, length, map, reverse, take, Option, Some, None, refl, sym, ap, ◌∙◌, subst, nat_eq, arith}
use Rattle.std.specs.Prelude.{slice_get, slice_set, option_map, unwrap_or, is_some, if◌then◌else◌}
use Rattle.std.proofs.lemmas.Bool.Decides.{nat_tests}
use Rattle.std.proofs.lemmas.List.{take_all}
use Rattle.std.proofs.lemmas.Option.{slice_get-map}
use Rattle.turns.specs.Run.{Outcome as Ended}
use Rattle.wf_text.specs.Surface.{AnswerKind}
use Rattle.wf_text.specs.HostActions.{HostArg}
use Rattle.wf_base.specs.HostRun.{Host, HostCall}
use Rattle.wf_ast.specs.declared.declarations.Method.{Method}
use Rattle.wf_ast.specs.declared.typed_nodes.TypedNodes.{TypedNodes}
use Rattle.wf_ast.specs.TypedPackage.{MethodTree, PackageTree, Variable, answers_of, package_of, variable_of, method_of}
use Rattle.wf_ast.specs.TypedInvariant.{IsTyped}
use Rattle.wf_ast.specs.Value.{Value}
use Rattle.wf_bufs.specs.declared.bufs.Bufs.{Bufs}
use Rattle.wf_bufs.specs.HostSeen.{host_of}
use Rattle.wf_bufs.specs.declared.outcomes.Outcome.{Outcome}
use Rattle.wf_bufs.specs.declared.outcomes.Reply.{Reply}
use Rattle.wf_bufs.specs.declared.outcomes.Reply.TheVariants.{Turns, Undefined}
use Rattle.wf_bufs.specs.EngineLaw.{undefined, Replies}
use Rattle.wf_meaning.specs.SourceState.{Object}
use Rattle.wf_meaning.specs.Entry.{Answered}
use Rattle.wf_meaning.specs.World.{World, updated}
use Rattle.wf_meaning.specs.SourceStep.{Callees, entered}
use Rattle.wf_meaning.specs.SourceCall.{all_bodies, bodies, entry_of, host_values}
use Rattle.wf_meaning.proofs.Lists2.{some_same}
use Rattle.wf_mean_exprs.specs.declared.objects.Frame.{Frame}
use Rattle.wf_mean_exprs.specs.declared.objects.ObjectState.{ObjectState}
use Rattle.wf_mean_exprs.specs.MachineState.{no_method, object_seen, slot_seen, world_seen}
use Rattle.wf_mean_stmts.specs.Arguments.{Fills}
use Rattle.wf_mean_stmts.specs.Entries.{answer_seen}
use Rattle.wf_mean_flows.specs.Flows.{calls_below}
use Rattle.wf_mean_flows.proofs.SimpleLaws.{own_method}
use Rattle.wf_mean_runs.specs.declared.calls.Ran.{Ran}
use Rattle.wf_mean_runs.specs.declared.calls.Ran.TheVariants.{Answers, Out, Stuck}
use Rattle.wf_mean_runs.specs.Calls.{HoldArgs, args_in, frame_of, is_number}
use Rattle.wf_mean_runs.specs.Frames.{args_of, sizes_for, sizes_of, Sizes}
use Rattle.wf_mean.specs.SourceEngines.{EngineState, call_gives, entry_gives, given, given_if, kind_told, method_gives, outcome_of, receiver_gives, with_receiver}
use Rattle.wf_mean.specs.Machines.{AreFrames, RanTo, reply_if}

-- The frame of a method.
pub frame-at : (nodes : TypedNodes) (level m at : ℕ) → frame_of nodes level m ≡ Some at → slice_get nodes.order at ≡ Some m
frame-at nodes zero m at e = absurd (cc (e))
frame-at nodes (suc level) m at e = by (slice_get nodes.order level) refl (λ k. frame-at nodes level m at k) e
  where
    pick : (n : ℕ) → slice_get nodes.order level ≡ Some n → (t : Bool) → nat_eq n m ≡ t → (frame_of nodes level m ≡ Some at → slice_get nodes.order at ≡ Some m) → (if t then Some level else frame_of nodes level m) ≡ Some at → slice_get nodes.order at ≡ Some m
    pick n i true k further e =
        let same : n ≡ m = grind (arith, nat_tests, k) in
        let there : level ≡ at = cc (e) in
        ap (slice_get nodes.order) (sym there) ∙ i ∙ ap (λ n. Some n) same
    pick n i false k further e = further e

    by : (o : Option ℕ) → slice_get nodes.order level ≡ o → (frame_of nodes level m ≡ Some at → slice_get nodes.order at ≡ Some m) → (if is_number o m then Some level else frame_of nodes level m) ≡ Some at → slice_get nodes.order at ≡ Some m
    by None i further e = further e
    by (Some n) i further e = pick n i (nat_eq n m) refl further e

pub args-fit : (nodes : TypedNodes) (frames : List Frame) (at m : ℕ) (frame : Frame) (declared : Method) → AreFrames nodes frames → slice_get frames at ≡ Some frame → slice_get nodes.order at ≡ Some m → slice_get nodes.methods m ≡ Some declared → length frame.args.items ≡ length declared.args
args-fit nodes frames at m frame declared are there order method =
    let mine : Some (sizes_of frame) ≡ slice_get (map sizes_of frames) at = sym (slice_get-map sizes_of frames at ∙ ap (option_map sizes_of) there) in
    let own : slice_get (map (sizes_for nodes) nodes.order) at ≡ Some (sizes_for nodes m) = slice_get-map (sizes_for nodes) nodes.order at ∙ ap (option_map (sizes_for nodes)) order in
    let same : sizes_of frame ≡ sizes_for nodes m = some_same _ _ (mine ∙ ap (λ (xs : List Sizes). slice_get xs at) are ∙ own) in
    ap (λ (s : Sizes). s.args) same ∙ ap (λ o. length (unwrap_or (option_map (λ (it : Method). it.args) o) [])) method

set-get : {X : Type 0} (xs : List X) (i : ℕ) (x y : X) → slice_get xs i ≡ Some y → slice_get (slice_set xs i x) i ≡ Some x
set-get [] i x y e = absurd (cc (e))
set-get (z ∷ zs) zero x y e = refl
set-get (z ∷ zs) (suc i) x y e = set-get zs i x y e

pub map-set : {X A : Type 0} (f : X → A) (xs : List X) (i : ℕ) (x y : X) → slice_get xs i ≡ Some y → f x ≡ f y → map f (slice_set xs i x) ≡ map f xs
map-set f [] i x y e h = absurd (cc (e))
map-set f (z ∷ zs) zero x y e h = let same : z ≡ y = cc (e) in ap (λ a. a ∷ map f zs) (h ∙ ap f (sym same))
map-set f (z ∷ zs) (suc i) x y e h = ap (λ more. f z ∷ more) (map-set f zs i x y e h)

pub map-updated : {X A : Type 0} (f : X → A) (xs : List X) (i : ℕ) (x : X) → map f (slice_set xs i x) ≡ updated (λ _. f x) i (map f xs)
map-updated f [] i x = refl
map-updated f (z ∷ zs) zero x = refl
map-updated f (z ∷ zs) (suc i) x = ap (λ more. f z ∷ more) (map-updated f zs i x)

-- The frame of a method is filled with arguments that fit.
filled : (o : Option (List Value)) (t : Bool) (slots : List Value) → Fills t o slots → t ≡ is_some o
filled (Some values) true slots h = refl
filled None false slots h = refl
filled (Some values) false slots h = absurd h
filled None true slots h = absurd h

filled-with : (o : Option (List Value)) (t : Bool) (slots : List Value) → Fills t o slots → t ≡ true → slots ≡ unwrap_or o []
filled-with (Some values) true slots h e = h
filled-with None true slots h e = absurd h
filled-with o false slots h e = absurd (cc (e))

pub holds-filled : (nodes : TypedNodes) (frames : List Frame) (level m at : ℕ) (old new : Frame) (o : Option (List Value)) (t : Bool) → length frames ≡ level → slice_get frames at ≡ Some old → frame_of nodes level m ≡ Some at → length (slice_set frames at new) ≡ length frames
    → Fills t o (map slot_seen new.args.items) → t ≡ true → HoldArgs nodes (slice_set frames at new) m (unwrap_or o [])
holds-filled nodes frames level m at old new o t count there frame same h e = λ at' f.
    let long : length (slice_set frames at new) ≡ level = same ∙ count in
    let one : Some at' ≡ Some at = sym f ∙ ap (λ n. frame_of nodes n m) long ∙ frame in
    let is : at' ≡ at = some_same at' at one in
    let P : ℕ → Type 0 = λ k. args_in (slice_set frames at new) k ≡ unwrap_or o [] in
    subst P (sym is) (ap (λ x. unwrap_or (option_map (λ (frame : Frame). map slot_seen frame.args.items) x) []) (set-get frames at new old there) ∙ filled-with o t (map slot_seen new.args.items) h e)

-- The methods before all frames are all methods.
take-all : {X : Type 0} (xs : List X) (n : ℕ) → n ≡ length xs → take n xs ≡ xs
take-all xs n e = take_all n xs (omega (arith, e))

pub frames-count : (nodes : TypedNodes) (frames : List Frame) → AreFrames nodes frames → length frames ≡ length nodes.order
frames-count nodes frames are = sym (map-long sizes_of frames) ∙ ap length are ∙ map-long (sizes_for nodes) nodes.order
  where
    map-long : {X A : Type 0} (f : X → A) (xs : List X) → length (map f xs) ≡ length xs
    map-long f [] = refl
    map-long f (x ∷ xs) = ap suc (map-long f xs)

pub frames-again : (nodes : TypedNodes) (frames : List Frame) (new : List Frame) → AreFrames nodes frames → map sizes_of new ≡ map sizes_of frames → AreFrames nodes new
frames-again nodes frames new are same = same ∙ are

calls-all : (nodes : TypedNodes) (level : ℕ) → level ≡ length nodes.order → calls_below nodes level ≡ all_bodies (package_of nodes)
unfolding calls_below package_of
calls-all nodes level e = ap (λ (ms : List ℕ). bodies (package_of nodes) (reverse ms)) (take-all nodes.order level e)

pub entry-ran : (nodes : TypedNodes) (level m n : ℕ) (callee : MethodTree) (hv : Option (List Value)) (w : World) (r : Ended (Answered × World)) → level ≡ length nodes.order
    → entered (package_of nodes) (calls_below nodes level) callee (record { object = 0; method = m; args = unwrap_or hv [] }) (is_some hv) n w (slice_get w.objects 0) ≡ r
    → entry_of (package_of nodes) callee m hv n w ≡ r
entry-ran nodes level m n callee hv w r e h =
    ap (λ (calls : Callees). entered (package_of nodes) calls callee (record { object = 0; method = m; args = unwrap_or hv [] }) (is_some hv) n w (slice_get w.objects 0)) (sym (calls-all nodes level e)) ∙ h

-- The arguments that a method declares.
pub callee-args : (nodes : TypedNodes) → IsTyped nodes → (m : ℕ) (declared : Method) (callee : MethodTree) → slice_get nodes.methods m ≡ Some declared → slice_get (package_of nodes).methods m ≡ Some callee
    → callee.args ≡ map (variable_of nodes) (args_of nodes m)
callee-args nodes typed m declared callee at is =
    let it = own_method nodes typed m declared at in
    let same : callee ≡ method_of nodes declared it.0 = ap (λ o. unwrap_or o no_method) (sym is) ∙ it.1 in
    ap (λ (x : MethodTree). x.args) same ∙ ap (λ o. map (variable_of nodes) (unwrap_or (option_map (λ (x : Method). x.args) o) [])) (sym at)

pub callee-told : (nodes : TypedNodes) → IsTyped nodes → (m : ℕ) (declared : Method) (callee : MethodTree) → slice_get nodes.methods m ≡ Some declared → slice_get (package_of nodes).methods m ≡ Some callee
    → (callee.mark ≡ declared.mark) × (callee.gives ≡ declared.gives)
callee-told nodes typed m declared callee at is =
    let it = own_method nodes typed m declared at in
    let same : callee ≡ method_of nodes declared it.0 = ap (λ o. unwrap_or o no_method) (sym is) ∙ it.1 in
    (ap (λ (x : MethodTree). x.mark) same, ap (λ (x : MethodTree). x.gives) same)

there : {X : Type 0} (xs : List X) (i : ℕ) → i < length xs → (x : X) × (slice_get xs i ≡ Some x)
there [] i h = absurd (omega (arith, h))
there (x ∷ xs) zero h = (x, refl)
there (x ∷ xs) (suc i) h = there xs i (omega (arith, h))

-- A call with a host's arguments.
pub run-told : (nodes : TypedNodes) → IsTyped nodes → (level m n : ℕ) → m < length nodes.methods → (callee : MethodTree) (arrays : List (List ℕ)) (args : List HostArg) (fit : Bool) (w : World) (r : Ended (Answered × World))
    → slice_get (package_of nodes).methods m ≡ Some callee → level ≡ length nodes.order → fit ≡ is_some (host_values arrays (map (variable_of nodes) (args_of nodes m)) args)
    → entered (package_of nodes) (calls_below nodes level) callee (record { object = 0; method = m; args = unwrap_or (host_values arrays (map (variable_of nodes) (args_of nodes m)) args) [] }) fit n w (slice_get w.objects 0) ≡ r
    → entry_of (package_of nodes) callee m (host_values arrays callee.args args) n w ≡ r
run-told nodes typed level m n known callee arrays args fit w r is count fits h =
    let d = there nodes.methods m known in
    let own : List Variable = map (variable_of nodes) (args_of nodes m) in
    let same : callee.args ≡ own = callee-args nodes typed m d.0 callee d.1 is in
    let P : List Variable → Type 0 = λ xs. entry_of (package_of nodes) callee m (host_values arrays xs args) n w ≡ r in
    let Q : Bool → Type 0 = λ t. entered (package_of nodes) (calls_below nodes level) callee (record { object = 0; method = m; args = unwrap_or (host_values arrays own args) [] }) t n w (slice_get w.objects 0) ≡ r in
    subst P (sym same) (entry-ran nodes level m n callee (host_values arrays own args) w r count (subst Q fits h))

-- The reply of a method, by the kind of its answers.
pub reply-told : (nodes : TypedNodes) → IsTyped nodes → (m : ℕ) (declared : Method) (callee : MethodTree) (kind : AnswerKind) (o : Option Outcome) (answer : Answered) → slice_get nodes.methods m ≡ Some declared → slice_get (package_of nodes).methods m ≡ Some callee
    → kind ≡ answers_of declared.mark declared.gives → o ≡ outcome_of (package_of nodes) kind answer → reply_if o ≡ reply_if (outcome_of (package_of nodes) (kind_told callee) answer)
reply-told nodes typed m declared callee kind o answer at is k e =
    let t = callee-told nodes typed m declared callee at is in
    let same : kind ≡ kind_told callee = k ∙ ap (λ mark. answers_of mark declared.gives) (sym t.0) ∙ ap (answers_of callee.mark) (sym t.1) in
    ap reply_if (e ∙ ap (λ kind. outcome_of (package_of nodes) kind answer) same)

-- Replies.
pub given-replies : {A : Type 0} (o : Option Outcome) (after : A) → Replies (given_if o after) (reply_if o) after
given-replies None after = refl
given-replies (Some outcome) after = refl

abbrev pub IsReplyOf : PackageTree → MethodTree → Ran → Reply → Type 0
IsReplyOf p m (Answers answer) reply = reply ≡ reply_if (outcome_of p (kind_told m) (answer_seen answer))
IsReplyOf p m Out reply = reply ≡ Turns
IsReplyOf p m Stuck reply = reply ≡ Undefined

pub entry-replies : (nodes : TypedNodes) (e : EngineState) (m : MethodTree) (called : HostCall) (n : ℕ) (objects after : List ObjectState) (old new : Bufs) (ran : Ran) (reply : Reply) → e.package_tree ≡ package_of nodes → IsReplyOf (package_of nodes) m ran reply
    → RanTo nodes ran after new (entry_of (package_of nodes) m called.method (host_values (host_of old).arrays m.args called.args) n (world_seen nodes objects old))
    → Replies (entry_gives e m called (host_of old) n (map (object_seen (package_of nodes)) objects)) reply (with_receiver called.receiver (map (object_seen (package_of nodes)) after) e, host_of new)
entry-replies nodes e m called n objects after old new ran reply of is h =
    let P : PackageTree → Type 0 = λ p. Replies (given e (kind_told m) called.receiver (entry_of p m called.method (host_values (host_of old).arrays m.args called.args) n (world_seen nodes objects old))) reply (with_receiver called.receiver (map (object_seen (package_of nodes)) after) e, host_of new) in
    subst P (sym of) (by ran is h)
  where
    it : Ended (Answered × World)
    it = entry_of (package_of nodes) m called.method (host_values (host_of old).arrays m.args called.args) n (world_seen nodes objects old)

    Goal : Reply → Ended (Answered × World) → Type 0
    Goal reply o = Replies (given e (kind_told m) called.receiver o) reply (with_receiver called.receiver (map (object_seen (package_of nodes)) after) e, host_of new)

    by : (ran : Ran) → IsReplyOf (package_of nodes) m ran reply → RanTo nodes ran after new it → Goal reply it
    by (Answers answer) i k =
        let Q : Reply → Type 0 = λ r. Goal r it in
        let R : Ended (Answered × World) → Type 0 = λ o. Goal (reply_if (outcome_of (package_of nodes) (kind_told m) (answer_seen answer))) o in
        let left : EngineState × Host = (with_receiver called.receiver (map (object_seen (package_of nodes)) after) e, host_of new) in
        let S : PackageTree → Type 0 = λ p. Replies (given_if (outcome_of p (kind_told m) (answer_seen answer)) left) (reply_if (outcome_of (package_of nodes) (kind_told m) (answer_seen answer))) left in
        subst Q (sym i) (subst R (sym k.1) (subst S (sym of) (given-replies (outcome_of (package_of nodes) (kind_told m) (answer_seen answer)) left)))
    by Out i k = let Q : Reply → Type 0 = λ r. Goal r it in let R : Ended (Answered × World) → Type 0 = λ o. Goal Turns o in subst Q (sym i) (subst R (sym k) refl)
    by Stuck i k = let Q : Reply → Type 0 = λ r. Goal r it in let R : Ended (Answered × World) → Type 0 = λ o. Goal Undefined o in subst Q (sym i) (subst R (sym k) refl)

-- A call of a null receiver.
pub updated-same : {X : Type 0} (xs : List X) (i : ℕ) (x : X) → slice_get xs i ≡ Some x → updated (λ _. x) i xs ≡ xs
updated-same [] i x e = refl
updated-same (y ∷ ys) zero x e = let same : y ≡ x = cc (e) in ap (λ z. z ∷ ys) (sym same)
updated-same (y ∷ ys) (suc i) x e = ap (λ more. y ∷ more) (updated-same ys i x e)

pub call-is : (e : EngineState) (called : HostCall) (host : Host) (n : ℕ) (m : MethodTree) (r : Option (List Object)) → slice_get e.package_tree.methods called.method ≡ Some m → slice_get e.objects called.receiver ≡ Some r → call_gives e called host n ≡ receiver_gives e m called host n r
unfolding call_gives
call-is e called host n m r at is = ap (λ o. method_gives e called host n o (slice_get e.objects called.receiver)) at ∙ ap (method_gives e called host n (Some m)) is

pub no-method-gives : (e : EngineState) (called : HostCall) (host : Host) (n : ℕ) → slice_get e.package_tree.methods called.method ≡ None → call_gives e called host n ≡ undefined
unfolding call_gives
no-method-gives e called host n none = ap (λ o. method_gives e called host n o (slice_get e.objects called.receiver)) none ∙ by (slice_get e.objects called.receiver)
  where
    by : (o : Option (Option (List Object))) → method_gives e called host n None o ≡ undefined
    by None = refl
    by (Some o) = refl

pub no-receiver-gives : (e : EngineState) (called : HostCall) (host : Host) (n : ℕ) → slice_get e.objects called.receiver ≡ None → call_gives e called host n ≡ undefined
unfolding call_gives
no-receiver-gives e called host n none = ap (method_gives e called host n (slice_get e.package_tree.methods called.method)) none ∙ by (slice_get e.package_tree.methods called.method)
  where
    by : (o : Option MethodTree) → method_gives e called host n o None ≡ undefined
    by None = refl
    by (Some o) = refl
