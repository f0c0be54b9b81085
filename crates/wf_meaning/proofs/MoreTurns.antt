-- More turns change no call.
use Rattle.std.proofs.Common.{◌≡◌, ℕ, ◌+◌, List, [], Option, Some, None, refl, subst}
use Rattle.std.specs.Prelude.{slice_get, reverse, is_some, unwrap_or}
use Rattle.turns.specs.Run.{Outcome, Got, More, Lost}
use Rattle.turns.specs.Steps.{IsRaisedTo}
use Rattle.wf_text.specs.Seen.{Answer}
use Rattle.wf_base.specs.HostRun.{Host, HostCall, Response, answers, needs_more, not_defined}
use Rattle.wf_ast.specs.TypedTree.{end}
use Rattle.wf_ast.specs.TypedPackage.{MethodTree, PackageTree}
use Rattle.wf_meaning.specs.SourceState.{Object, SourceState, stop}
use Rattle.wf_meaning.specs.Entry.{Answered}
use Rattle.wf_meaning.specs.World.{World, Body}
use Rattle.wf_meaning.specs.SourceStep.{Call}
use Rattle.wf_meaning.specs.SourceCall.{source_call, call_method, call_receiver, called, all_bodies, host_values}
use Rattle.wf_meaning.proofs.Counting.{raised_entered}
use Rattle.wf_meaning.proofs.Bodies.{bodies_counting}

-- With more turns the response is the same; where turns were lacking nothing is said.
abbrev Same : Response (SourceState × Host) → Response (SourceState × Host) → Type 0
Same (answers a after) other = other ≡ answers a after
Same needs_more other = Unit {0}
Same not_defined other = other ≡ not_defined

called_same : (p : PackageTree) (state : SourceState) (r more : ℕ) (o o' : Outcome (Answered × World)) → IsRaisedTo more o o' → Same (called p state r o) (called p state r o')
called_same p state r more (Got left done) o' h = rw h refl
called_same p state r more More o' h = tt
called_same p state r more Lost o' h = rw h refl

receiver_same : (p : PackageTree) (m : MethodTree) (state : SourceState) (call : HostCall) (h : Host) (n more : ℕ) (o : Option (List Object)) → Same (call_receiver p m state call h n o) (call_receiver p m state call h (n + more) o)
receiver_same p m state call h n more None = refl
receiver_same p m state call h n more (Some objects) =
    let args = host_values h.arrays m.args call.args in
    let w : World = record { objects = objects; host = h } in
    let b : Body = record { within = p; object = 0; method = m; args = [] } in
    let it : Call = record { object = 0; method = call.method; args = unwrap_or args [] } in
    called_same p state call.receiver more _ _
    (raised_entered b (all_bodies p) (bodies_counting p (reverse p.order)) n more end end stop m it (is_some args) w (slice_get objects 0))

method_same : (p : PackageTree) (state : SourceState) (call : HostCall) (h : Host) (n more : ℕ) (m : Option MethodTree) (r : Option (Option (List Object))) → Same (call_method p state call h n m r) (call_method p state call h (n + more) m r)
method_same p state call h n more None r = refl
method_same p state call h n more (Some m) None = refl
method_same p state call h n more (Some m) (Some r) = receiver_same p m state call h n more r

call_same : (p : PackageTree) (state : SourceState) (call : HostCall) (h : Host) (n more : ℕ) → Same (source_call p state call h n) (source_call p state call h (n + more))
unfolding source_call
call_same p state call h n more = method_same p state call h n more (slice_get p.methods call.method) (slice_get state call.receiver)

module _ (p : PackageTree) (state : SourceState) (call : HostCall) (h : Host) (n more : ℕ) where
  pub same_answer : (a : Answer) (after : SourceState × Host) → source_call p state call h n ≡ answers a after → source_call p state call h (n + more) ≡ answers a after
  same_answer a after e = let P : Response (SourceState × Host) → Type 0 = λ r. Same r (source_call p state call h (n + more)) in subst P e (call_same p state call h n more)

  pub same_stuck : source_call p state call h n ≡ not_defined → source_call p state call h (n + more) ≡ not_defined
  same_stuck e = let P : Response (SourceState × Host) → Type 0 = λ r. Same r (source_call p state call h (n + more)) in subst P e (call_same p state call h n more)

  pub same_want : source_call p state call h (n + more) ≡ needs_more → source_call p state call h n ≡ needs_more
  same_want e = by_cases (source_call p state call h n) (call_same p state call h n more)
    where
      by_cases : (r : Response (SourceState × Host)) → Same r (source_call p state call h (n + more)) → r ≡ needs_more
      by_cases (answers a after) k = absurd (cc (k, e))
      by_cases needs_more k = refl
      by_cases not_defined k = absurd (cc (k, e))
