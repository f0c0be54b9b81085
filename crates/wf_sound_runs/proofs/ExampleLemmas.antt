-- The worked example: everything computes.
use Rattle.std.proofs.Common.{◌≡◌, zero, suc, true, None, refl}
use Rattle.wf_ast.specs.TypedTrees.{no_place}
use Rattle.wf_ast.specs.WellTyped.{well_typed}
use Rattle.wf_facts_exprs.specs.RangeOf.{met}
use Rattle.wf_meaning.specs.Demo.{demo}
use Rattle.wf_bounds_stmts.specs.MethodRules.{methods_refusal}
use Rattle.wf_sound_runs.specs.Accepted.{HasShortArrays, IsAccepted}

typed : well_typed demo ≡ true
unfolding well_typed
typed = refl

short : HasShortArrays demo
short zero zero width lo hi count e = absurd (cc (e))
short zero (suc n) width lo hi count e = absurd (cc (e))
short (suc s) n width lo hi count e = absurd (cc (e))

facts : methods_refusal (λ m n. no_place) demo 0 demo.methods ≡ None
unfolding met
facts = refl

pub demo-accepted : IsAccepted (λ m n. no_place) demo
demo-accepted = record { typed = typed; made = refl; short = short; facts = facts }
