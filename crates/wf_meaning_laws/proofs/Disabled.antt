-- A pure method of a disabled receiver.
use Rattle.std.proofs.Common.{◌≡◌, ℕ, zero, suc, Bool, true, false, List, [], ◌∷◌, Some, None, refl, ap, ◌∙◌}
use Rattle.std.specs.Prelude.{slice_get, if◌then◌else◌}
use Rattle.turns.specs.Run.{Outcome, Got, More, Lost}
use Rattle.wf_base.specs.HostRun.{Host, HostCall, answers}
use Rattle.wf_base.specs.declared.marks.Mark.{Mark}
use Rattle.wf_base.specs.declared.marks.Mark.TheVariants.{Pure, Impure, Coroutine}
use Rattle.wf_ast.specs.TypedPackage.{MethodTree, PackageTree}
use Rattle.wf_ast.specs.WellTyped.{is_pure, is_coroutine}
use Rattle.wf_ast.specs.Value.{Value}
use Rattle.wf_meaning.specs.SourceState.{Object, SourceState, disabled}
use Rattle.wf_meaning.specs.Entry.{bad_argument, refusal_of, Answered, ended, coroutine_ended}
use Rattle.wf_meaning.specs.World.{World, updated}
use Rattle.wf_meaning.specs.SourceStep.{Call, settled}
use Rattle.wf_meaning.specs.SourceCall.{source_call, call_receiver, called, all_bodies, seen_answer, host_values}
use Rattle.wf_meaning.proofs.Lists.{updated-same}

pure_only : (mark : Mark) → is_pure mark ≡ true → is_coroutine mark ≡ false
pure_only Pure e = refl
pure_only Impure e = refl
pure_only Coroutine e = absurd (cc (e))

updated-kept : {X : Type 0} (f : X → X) → ((x : X) → f x ≡ x) → (i : ℕ) (xs : List X) → updated f i xs ≡ xs
updated-kept f h i [] = refl
updated-kept f h zero (x ∷ xs) = ap (λ y. y ∷ xs) (h x)
updated-kept f h (suc i) (x ∷ xs) = ap (λ ys. x ∷ ys) (updated-kept f h i xs)

-- A body that is no coroutine's leaves its struct state alone at its end.
settled-pure : (p : PackageTree) (m : MethodTree) (call : Call) (o : Outcome (Answered × World)) → is_coroutine m.mark ≡ false → settled p m call o ≡ o
settled-pure p m call (Got left done) e =
    ap (λ (objects : List Object). Got left (done.0, record { objects = objects; host = done.1.host }))
    (updated-kept (ended p m.mark call.method done.0) (λ o. ap (λ (test : Bool). if test then coroutine_ended p call.method done.0 o else o) e) call.object done.1.objects)
settled-pure p m call More e = refl
settled-pure p m call Lost e = refl

module _ (p : PackageTree) (state : SourceState) (call : HostCall) (h : Host) (n : ℕ) (m : MethodTree) (is_method : slice_get p.methods call.method ≡ Some m) (o : Object) (inside : List Object) (e : slice_get state call.receiver ≡ Some (Some (o ∷ inside))) (k : o.life ≡ disabled) (j : is_pure m.mark ≡ true) where
  found : source_call p state call h n ≡ call_receiver p m state call h n (Some (o ∷ inside))
  unfolding source_call
  found = rw (is_method, e) refl

  pub argument_row : host_values h.arrays m.args call.args ≡ None → source_call p state call h n ≡ answers (seen_answer p (refusal_of m bad_argument)) (state, h)
  argument_row i =
      let refused : source_call p state call h n ≡ answers (seen_answer p (refusal_of m bad_argument)) (updated (λ _. Some (o ∷ inside)) call.receiver state, h) = found ∙ rw (i, k, j) refl in
      refused ∙ ap (λ s. answers (seen_answer p (refusal_of m bad_argument)) (s, h)) (updated-same (Some (o ∷ inside)) call.receiver state e)

  pub body_row : (args : List Value) → host_values h.arrays m.args call.args ≡ Some args
      → source_call p state call h n ≡ called p state call.receiver (all_bodies p (record { object = 0; method = call.method; args = args }) n (record { objects = o ∷ inside; host = h }))
  body_row args i =
      let it : Call = record { object = 0; method = call.method; args = args } in
      let w : World = record { objects = o ∷ inside; host = h } in
      let enters : source_call p state call h n ≡ called p state call.receiver (settled p m it (all_bodies p it n w)) = found ∙ rw (i, k, j, pure_only m.mark j) refl in
      enters ∙ ap (called p state call.receiver) (settled-pure p m it (all_bodies p it n w) (pure_only m.mark j))
