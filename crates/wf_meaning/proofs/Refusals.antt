-- The entry table, row by row.
use Rattle.std.proofs.Common.{◌≡◌, ℕ, true, false, List, ◌∷◌, Option, Some, None, refl, ap, ◌∙◌, nat_eq}
use Rattle.std.specs.Prelude.{slice_get, is_some}
use Rattle.wf_base.specs.HostRun.{Host, HostCall, answers}
use Rattle.wf_ast.specs.TypedPackage.{MethodTree, PackageTree}
use Rattle.wf_ast.specs.WellTyped.{is_pure, is_coroutine}
use Rattle.wf_meaning.specs.SourceState.{Object, SourceState, raw, ready, disabled}
use Rattle.wf_meaning.specs.Entry.{bad_receiver, bad_argument, not_initialized, interleaved, was_disabled, refused, admission, disabled_by, made_disabled, refusal_of}
use Rattle.wf_meaning.specs.World.{updated}
use Rattle.wf_meaning.specs.SourceCall.{source_call, call_receiver, seen_answer, host_values}
use Rattle.wf_meaning.proofs.Lists.{updated-same}

module _ (p : PackageTree) (state : SourceState) (call : HostCall) (h : Host) (n : ℕ) (m : MethodTree) (is_method : slice_get p.methods call.method ≡ Some m) where
  -- The call, with its method and its receiver found.
  found : (receiver : Option (List Object)) → slice_get state call.receiver ≡ Some receiver → source_call p state call h n ≡ call_receiver p m state call h n receiver
  unfolding source_call
  found receiver e = rw (is_method, e) refl

  pub null_row : slice_get state call.receiver ≡ Some None → source_call p state call h n ≡ answers (seen_answer p (refusal_of m bad_receiver)) (state, h)
  null_row e = found None e

  module _ (o : Object) (inside : List Object) (e : slice_get state call.receiver ≡ Some (Some (o ∷ inside))) where
    -- A row that refuses.
    refusing : (status : ℕ) (left : Object) → admission m.mark call.method (is_some (host_values h.arrays m.args call.args)) o ≡ refused status left
        → source_call p state call h n ≡ answers (seen_answer p (refusal_of m status)) (updated (λ _. Some (left ∷ inside)) call.receiver state, h)
    refusing status left k = found (Some (o ∷ inside)) e ∙ rw k refl

    -- And that leaves the receiver as it was.
    keeping : (status : ℕ) → admission m.mark call.method (is_some (host_values h.arrays m.args call.args)) o ≡ refused status o
        → source_call p state call h n ≡ answers (seen_answer p (refusal_of m status)) (state, h)
    keeping status k = refusing status o k ∙ ap (λ s. answers (seen_answer p (refusal_of m status)) (s, h)) (updated-same (Some (o ∷ inside)) call.receiver state e)

    pub raw_row : o.life ≡ raw → source_call p state call h n ≡ answers (seen_answer p (refusal_of m not_initialized)) (state, h)
    raw_row k = keeping not_initialized (rw k refl)

    pub disabled_row : o.life ≡ disabled → is_pure m.mark ≡ false → source_call p state call h n ≡ answers (seen_answer p (refusal_of m was_disabled)) (state, h)
    disabled_row k j = keeping was_disabled (rw (k, j) refl)

    pub argument_row : o.life ≡ ready → host_values h.arrays m.args call.args ≡ None
        → source_call p state call h n ≡ answers (seen_answer p (refusal_of m bad_argument)) (updated (λ _. Some (disabled_by m.mark o ∷ inside)) call.receiver state, h)
    argument_row k j = refusing bad_argument (disabled_by m.mark o) (rw (k, j) refl)

    pub interleaved_row : (other : ℕ) → o.life ≡ ready → is_some (host_values h.arrays m.args call.args) ≡ true → is_coroutine m.mark ≡ true → o.active ≡ Some other → nat_eq other call.method ≡ false
        → source_call p state call h n ≡ answers (seen_answer p (refusal_of m interleaved)) (updated (λ _. Some (made_disabled o ∷ inside)) call.receiver state, h)
    interleaved_row other k j i a b = refusing interleaved (made_disabled o) (rw (k, j, i, a, b) refl)
