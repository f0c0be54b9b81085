-- What an engine of a package replies is what the meaning answers.
use Rattle.std.proofs.Common.{◌≡◌, ℕ, zero, suc, ◌^◌, Bool, true, false, List, [], ◌∷◌, length, map, get_or, Option, Some, None, refl, sym, ap, ◌∙◌, arith}
use Rattle.std.specs.Prelude.{slice_get, nat_lt, unwrap_or, if◌then◌else◌}
use Rattle.std.proofs.lemmas.Bool.Decides.{nat_tests}
use Rattle.turns.specs.Run.{Outcome as Ran, Got, More, Lost}
use Rattle.wf_text.specs.Surface.{AnswerKind, status, numeric, truth, nothing}
use Rattle.wf_text.specs.Seen.{Answer}
use Rattle.wf_text.specs.Seen as seen
use Rattle.wf_base.specs.HostRun.{Host, HostCall, answers}
use Rattle.wf_ast.specs.TypedPackage.{MethodTree, PackageTree, surface_of}
use Rattle.wf_ast.specs.Value.{Value, num, truth_value, status_number}
use Rattle.wf_bufs.specs.declared.outcomes.Outcome.{Outcome}
use Rattle.wf_bufs.specs.declared.outcomes.Outcome.TheVariants as outcomes
use Rattle.wf_bufs.specs.HostViews.{answer_of}
use Rattle.wf_meaning.specs.SourceState.{Object, SourceState, cleared_object}
use Rattle.wf_meaning.specs.Entry.{Answered, returned, suspended, bad_receiver, ok, refusal_of, text_of_status}
use Rattle.wf_meaning.specs.World.{World, updated}
use Rattle.wf_meaning.specs.SourceCall.{call_method, call_receiver, called, entry_of, host_values, init_receiver, seen_answer, seen_value, source_call, source_init}
use Rattle.wf_mean.specs.SourceEngines.{EngineState, call_gives, given, given_if, init_gives, init_of, kind_told, known_status, method_gives, outcome_of, outcome_of_value, receiver_gives}
use Rattle.wf_mean.specs.Told.{CallTold, InitTold}
use Rattle.wf_mean.proofs.FreshLaws.{none-past}

text-is : (xs : List (List ℕ)) (n : ℕ) → unwrap_or (slice_get xs n) [] ≡ get_or xs n []
text-is [] n = refl
text-is (x ∷ xs) zero = refl
text-is (x ∷ xs) (suc n) = text-is xs n

known-text : (p : PackageTree) (n : ℕ) → slice_get p.statuses 0 ≡ Some [] → text_of_status p n ≡ get_or p.statuses (known_status p n) []
known-text p n first = by (nat_lt n (length p.statuses)) refl
  where
    by : (t : Bool) → nat_lt n (length p.statuses) ≡ t → text_of_status p n ≡ get_or p.statuses (if t then n else ok) []
    by true k = text-is p.statuses n
    by false k =
        let none : slice_get p.statuses n ≡ None = none-past p.statuses n (grind (arith, nat_tests, k)) in
        ap (λ (o : Option (List ℕ)). unwrap_or o []) (none) ∙ sym (sym (text-is p.statuses 0) ∙ ap (λ (o : Option (List ℕ)). unwrap_or o []) first)

value-seen : (p : PackageTree) (kind : AnswerKind) (v : Option Value) (outcome : Outcome) → slice_get p.statuses 0 ≡ Some [] → outcome_of_value p kind v ≡ Some outcome → seen_value p v ≡ answer_of (surface_of p) outcome
unfolding surface_of
value-seen p status (Some (status_number n)) outcome first e =
    let same : outcomes.Status (record { 0 = known_status p n }) ≡ outcome = cc (e) in
    ap seen.status (known-text p n first) ∙ ap (answer_of (surface_of p)) same
value-seen p (numeric bits) (Some (num n)) outcome first e = by (nat_lt n (2 ^ bits)) e
  where
    by : (t : Bool) → (if t then Some (outcomes.Num n) else None) ≡ Some outcome → seen.num n ≡ answer_of (surface_of p) outcome
    by true i = let same : outcomes.Num n ≡ outcome = cc (i) in ap (answer_of (surface_of p)) same
    by false i = absurd (cc (i))
value-seen p truth (Some (truth_value b)) outcome first e = let same : outcomes.Flag b ≡ outcome = cc (e) in ap (answer_of (surface_of p)) same
value-seen p nothing None outcome first e = let same : outcomes.Nothing ≡ outcome = cc (e) in ap (answer_of (surface_of p)) same
value-seen p kind v outcome first e = absurd (cc (e))

answer-seen : (p : PackageTree) (kind : AnswerKind) (a : Answered) (outcome : Outcome) → slice_get p.statuses 0 ≡ Some [] → outcome_of p kind a ≡ Some outcome → seen_answer p a ≡ answer_of (surface_of p) outcome
answer-seen p kind (returned v) outcome first e = value-seen p kind v outcome first e
answer-seen p kind (suspended n) outcome first e = value-seen p kind (Some (status_number n)) outcome first e

given-told : (p : PackageTree) (o : Option Outcome) (after : EngineState) (left : Host) (a : Answer) → ((outcome : Outcome) → o ≡ Some outcome → a ≡ answer_of (surface_of p) outcome) → CallTold p (given_if o (after, left)) (answers a (after.objects, left))
given-told p None after left a h = tt
given-told p (Some outcome) after left a h =
    let it : SourceState × Host = (after.objects, left) in
    ap (λ (a : Answer). answers a it) (h outcome refl)

pub call-seen : (e : EngineState) (call : HostCall) (host : Host) (n : ℕ) → slice_get e.package_tree.statuses 0 ≡ Some [] → CallTold e.package_tree (call_gives e call host n) (source_call e.package_tree e.objects call host n)
unfolding call_gives source_call
call-seen e call host n first = by (slice_get e.package_tree.methods call.method) (slice_get e.objects call.receiver)
  where
    ran : (m : MethodTree) (o : Ran (Answered × World)) → CallTold e.package_tree (given e (kind_told m) call.receiver o) (called e.package_tree e.objects call.receiver o)
    ran m (Got left it) = given-told e.package_tree (outcome_of e.package_tree (kind_told m) it.0) _ it.1.host (seen_answer e.package_tree it.0) (λ outcome i. answer-seen e.package_tree (kind_told m) it.0 outcome first i)
    ran m More = refl
    ran m Lost = tt

    receiver : (m : MethodTree) (o : Option (List Object)) → CallTold e.package_tree (receiver_gives e m call host n o) (call_receiver e.package_tree m e.objects call host n o)
    receiver m None =
        given-told e.package_tree (outcome_of e.package_tree (kind_told m) (refusal_of m bad_receiver)) e host (seen_answer e.package_tree (refusal_of m bad_receiver)) (λ outcome i. answer-seen e.package_tree (kind_told m) (refusal_of m bad_receiver) outcome first i)
    receiver m (Some objects) = ran m (entry_of e.package_tree m call.method (host_values host.arrays m.args call.args) n (record { objects = objects; host = host }))

    by : (m : Option MethodTree) (o : Option (Option (List Object))) → CallTold e.package_tree (method_gives e call host n m o) (call_method e.package_tree e.objects call host n m o)
    by None None = tt
    by None (Some o) = tt
    by (Some m) None = tt
    by (Some m) (Some o) = receiver m o

pub init-seen : (e : EngineState) (k n : ℕ) → InitTold e.package_tree (init_gives e k n) (source_init e.package_tree e.objects k n)
unfolding init_gives source_init surface_of
init-seen e k n = by (slice_get e.objects k)
  where
    by : (o : Option (Option (List Object))) → InitTold e.package_tree (init_of e k o) (init_receiver e.package_tree e.objects k o)
    by None = tt
    by (Some None) = ap (λ (text : List ℕ). answers (seen.status text) e.objects) (text-is e.package_tree.statuses bad_receiver)
    by (Some (Some objects)) =
        let after : SourceState = updated (λ _. Some (map cleared_object objects)) k e.objects in
        ap (λ (text : List ℕ). answers (seen.status text) after) (text-is e.package_tree.statuses ok)
