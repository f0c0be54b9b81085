-- Each step of a body lowers its weight or the number of turns, where the bodies that are called leave no more turns than
-- they were given.
use Rattle.std.proofs.Common.{◌≡◌, ℕ, zero, suc, ◌+◌, ◌<◌, ◌≤◌, Bool, true, false, List, Option, Some, None, refl, subst, arith}
use Rattle.std.specs.Prelude.{nat_eq, if◌then◌else◌}
use Rattle.turns.specs.Run.{Go, Outcome, Got, More, Lost, onward}
use Rattle.turns.specs.Steps.{Falls, LeavesFewer}
use Rattle.wf_base.specs.declared.marks.Mark.{Mark}
use Rattle.wf_base.specs.BaseOps.{Buffer}
use Rattle.wf_base.specs.declared.base_methods.ReadForm.{ReadForm}
use Rattle.wf_ast.specs.TypedTree.{ValueTree, Target, Awaited, take_number, skip, write, Called, own, sub, Simple, assign, await, perform, invoke, break_from, continue_in, give_back, yield, claim, Site, Head, Block, end, plain, choose, loop}
use Rattle.wf_ast.specs.TypedPackage.{MethodTree, PackageTree}
use Rattle.wf_ast.specs.Value.{Value, num, truth_value, status_number, span}
use Rattle.wf_ast.specs.Value as values
use Rattle.wf_meaning.specs.SourceState.{Behind, stop, behind_if, again, Done, untouched, has_bytes, to_skip, to_write, has_yielded, Object}
use Rattle.wf_meaning.specs.Entry.{Admission, refused, admitted, Answered, returned, suspended}
use Rattle.wf_meaning.specs.Remaining.{hands_on, Marker, marker_of}
use Rattle.wf_meaning.specs.World.{World, Body, Vars}
use Rattle.wf_meaning.specs.SourceStep.{Call, Callees, at_block, tested, went_back, given_back, read_on, skip_on, write_on, awaited, settled, on_admission, entered, through, handed_on, after_call, invoked, yielded, continued, broken, simple_step, end_step, chosen, block_step, step, block_weight, behind_weight, weight}
use Rattle.wf_meaning.proofs.Combine.{Below, IsTurnless, turnless_true, below_some, below_true, below_either, below_onward, below_holding, below_ending, below_turn}

-- What runs called bodies leaves no more turns than it was given.
pub record IsThrifty (calls : Callees) : Type 0 where
  pub by : (call : Call) (n : ℕ) (w : World) → LeavesFewer n (calls call n w)

-- A loop's marker stands among what follows.
pub marker_below : (w : ℕ) (behind : Behind) (m : Marker) → marker_of w behind ≡ Some m
    → 1 + block_weight m.rest + behind_weight m.behind ≤ behind_weight behind
marker_below w stop m e = absurd (cc (e))
marker_below w (behind_if rest behind) m e = let h = marker_below w behind m e in omega (arith, h)
marker_below w (again site head body rest behind) m e =
    by_test (nat_eq site.number w) e (marker_below w behind m)
  where
    found : Marker
    found = record { site = site; head = head; body = body; rest = rest; behind = behind }

    by_test : (test : Bool) → (if test then Some found else marker_of w behind) ≡ Some m
        → (marker_of w behind ≡ Some m → 1 + block_weight m.rest + behind_weight m.behind ≤ behind_weight behind)
        → 1 + block_weight m.rest + behind_weight m.behind ≤ 1 + block_weight rest + behind_weight behind
    by_test true k inner =
        let P : Marker → Type 0 = λ it. 1 + block_weight it.rest + behind_weight it.behind ≤ 1 + block_weight rest + behind_weight behind in
        let j : found ≡ m = cc in
        subst P j (omega arith)
    by_test false k inner = let h = inner k in omega (arith, h)

weight_of : (block : Block) (behind : Behind) (vars : Vars) → weight (at_block block behind vars) ≡ block_weight block + behind_weight behind
unfolding weight
weight_of block behind vars = refl

-- The test of a loop's condition takes no turn itself.
pub tested_turnless : (b : Body) (site : Site) (head : Head) (body rest : Block) (behind : Behind) (vars : Vars) (o : Option Bool) → IsTurnless (tested b site head body rest behind vars o)
tested_turnless b site head body rest behind vars None = record { fact = tt }
tested_turnless b site head body rest behind vars (Some true) = record { fact = tt }
tested_turnless b site head body rest behind vars (Some false) = turnless_true _ _ (record { fact = tt })

module _ (b : Body) (calls : Callees) (thrifty : IsThrifty calls) (n top : ℕ) where
  below_at : (block : Block) (behind : Behind) (vars : Vars) → block_weight block + behind_weight behind < top → Below n top (Go (at_block block behind vars))
  below_at block behind vars h = record { fact = rw (weight_of block behind vars) h }

  below_tested : (site : Site) (head : Head) (body rest : Block) (behind : Behind) (vars : Vars) (o : Option Bool)
      → 1 + block_weight body + block_weight rest + behind_weight behind < top → Below n top (tested b site head body rest behind vars o)
  below_tested site head body rest behind vars None h = record { fact = tt }
  below_tested site head body rest behind vars (Some true) h = below_at body (again site head body rest behind) vars (omega (arith, h))
  below_tested site head body rest behind vars (Some false) h = below_true _ _ (below_at rest behind vars (omega (arith, h)))

  below_back : (site : Site) (head : Head) (body rest : Block) (behind : Behind) (vars : Vars) → Below n top (went_back b n site head body rest behind vars)
  below_back site head body rest behind vars = below_true _ _ (below_turn n top _ (tested_turnless b site head body rest behind vars _))

  below_end : (behind : Behind) (vars : Vars) → behind_weight behind ≤ top → Below n top (end_step b n behind vars)
  below_end stop vars h = below_ending _ _ (omega arith)
  below_end (behind_if rest behind) vars h = below_at rest behind vars (omega (arith, h))
  below_end (again site head body rest behind) vars h = below_back site head body rest behind vars

  below_given : (w : World) (v : Value) → Below n top (given_back b n w v)
  below_given w (num m) = below_true _ _ (below_ending _ _ (omega arith))
  below_given w (truth_value t) = below_true _ _ (below_ending _ _ (omega arith))
  below_given w (status_number m) = below_either _ _ _ (below_ending _ _ (omega arith)) (below_true _ _ (below_ending _ _ (omega arith)))
  below_given w (span s) = below_true _ _ (below_ending _ _ (omega arith))
  below_given w (values.buffer k) = below_true _ _ (below_ending _ _ (omega arith))

  module _ (here rest : Block) (behind : Behind) (fits : block_weight rest + behind_weight behind < top) where
    below_rest : (vars : Vars) → Below n top (Go (at_block rest behind vars))
    below_rest vars = below_at rest behind vars fits

    below_read : (target : Target) (form : ReadForm) (bytes : List ℕ) (vars : Vars) → Below n top (read_on b n target form bytes here rest behind vars)
    below_read target form bytes vars = below_either _ _ _ (below_some _ _ (λ left e. below_rest left)) (below_ending _ _ (omega arith))

    below_skip : (lacking : ℕ) (vars : Vars) → Below n top (skip_on n lacking here rest behind vars)
    below_skip zero vars = below_rest vars
    below_skip (suc lacking) vars = below_ending _ _ (omega arith)

    below_write : (k byte : ℕ) (b1 : Buffer) (vars : Vars) → Below n top (write_on n k byte b1 here rest behind vars)
    below_write k byte b1 vars = below_either _ _ _ (below_rest _) (below_ending _ _ (omega arith))

    below_awaited : (target : Target) (k : ℕ) (b1 : Buffer) (it : Awaited) (done : Done) (vars : Vars) → Below n top (awaited b n target k b1 it done here rest behind vars)
    below_awaited target k b1 (take_number form) done vars = below_read target form _ _
    below_awaited target k b1 (skip count) done vars = below_some _ _ (λ lacking e. below_skip _ _)
    below_awaited target k b1 (write byte) done vars = below_some _ _ (λ it e. below_write k it b1 vars)

    below_yielded : (status : ℕ) (done : Done) (vars : Vars) → Below n top (yielded n status done here rest behind vars)
    below_yielded status untouched vars = below_ending _ _ (omega arith)
    below_yielded status (has_bytes bytes) vars = below_ending _ _ (omega arith)
    below_yielded status (to_skip count) vars = below_ending _ _ (omega arith)
    below_yielded status (to_write byte) vars = below_ending _ _ (omega arith)
    below_yielded status has_yielded vars = below_rest vars

    below_onwards : (left : ℕ) (vars : Vars) → Below n top (onward n left (at_block rest behind vars))
    below_onwards left vars = below_onward left (at_block rest behind vars) (rw (weight_of rest behind vars) fits)

    below_handed : (left : ℕ) (answered : Answered) (vars : Vars) → left ≤ n → Below n top (handed_on b n left answered here rest behind vars)
    below_handed left (suspended status) vars h = below_ending _ _ h
    below_handed left (returned None) vars h = record { fact = tt }
    below_handed left (returned (Some (num m))) vars h = record { fact = tt }
    below_handed left (returned (Some (truth_value t))) vars h = record { fact = tt }
    below_handed left (returned (Some (status_number zero))) vars h = below_onwards left vars
    below_handed left (returned (Some (status_number (suc status)))) vars h = below_ending _ _ h
    below_handed left (returned (Some (span s))) vars h = record { fact = tt }
    below_handed left (returned (Some (values.buffer k))) vars h = record { fact = tt }

    below_after : (keep : Bool) (mark : Mark) (target : Target) (locals : List Value) (left : ℕ) (done : Answered × World) → left ≤ n → Below n top (after_call b n keep mark target here rest behind locals left done)
    below_after keep mark target locals left done h =
        below_either (hands_on keep mark) _ _ (below_handed left done.0 _ h)
        (below_either keep _ _ (below_some _ _ (λ after e. below_onwards left after)) (below_some _ _ (λ v e. below_some _ _ (λ after k. below_onwards left after))))

    fewer_settled : (p : PackageTree) (callee : MethodTree) (call : Call) (o : Outcome (Answered × World)) → LeavesFewer n o → LeavesFewer n (settled p callee call o)
    fewer_settled p callee call (Got left done) h = h
    fewer_settled p callee call More h = h
    fewer_settled p callee call Lost h = h

    fewer_admitted : (callee : MethodTree) (call : Call) (w : World) (a : Admission) → LeavesFewer n (on_admission b.within calls callee call n w a)
    fewer_admitted callee call w (refused status object) = omega arith
    fewer_admitted callee call w admitted = fewer_settled b.within callee call _ (thrifty.by call n w)

    fewer_entered : (callee : MethodTree) (call : Call) (fit : Bool) (w : World) (o : Option Object) → LeavesFewer n (entered b.within calls callee call fit n w o)
    fewer_entered callee call fit w None = tt
    fewer_entered callee call fit w (Some object) = fewer_admitted callee call w _

    fewer_through : (callee : MethodTree) (called : Called) (call : Call) (w : World) → LeavesFewer n (through b.within calls callee called call n w)
    fewer_through callee (own m) call w = thrifty.by call n w
    fewer_through callee (sub x m) call w = fewer_entered callee call true w _

    below_invoked : (keep : Bool) (mark : Mark) (target : Target) (called : Called) (args : List ValueTree) (vars : Vars) → Below n top (invoked b calls n keep mark target called args here rest behind vars)
    below_invoked keep mark target called args vars =
        below_some _ _ (λ callee e. below_some _ _ (λ values k. below_some _ _ (λ object j.
        below_holding _ _ (fewer_through callee called _ vars.world) (λ left done h. below_after keep mark target vars.locals left done h))))

  below_continued : (w : ℕ) (behind : Behind) (vars : Vars) → behind_weight behind < top → (o : Option Marker) → marker_of w behind ≡ o → Below n top (continued o vars)
  below_continued w behind vars h None e = record { fact = tt }
  below_continued w behind vars h (Some m) e =
      let k = marker_below w behind m e in below_at end (again m.site m.head m.body m.rest m.behind) vars (omega (arith, h, k))

  below_broken : (w : ℕ) (behind : Behind) (vars : Vars) → behind_weight behind < top → (o : Option Marker) → marker_of w behind ≡ o → Below n top (broken b o vars)
  below_broken w behind vars h None e = record { fact = tt }
  below_broken w behind vars h (Some m) e =
      let k = marker_below w behind m e in below_true _ _ (below_at m.rest m.behind vars (omega (arith, h, k)))

  below_simple : (done : Done) (site : Site) (s : Simple) (rest : Block) (behind : Behind) (vars : Vars) → block_weight rest + behind_weight behind < top → Below n top (simple_step b calls n done site s rest behind vars)
  below_simple done site (assign target op value) rest behind vars h = below_some _ _ (λ after e. below_at rest behind after h)
  below_simple done site (await at target io_arg call) rest behind vars h = below_some _ _ (λ io e. below_awaited _ rest behind h target io.0 io.1 call done vars)
  below_simple done site (perform at target call) rest behind vars h = below_some _ _ (λ after e. below_at rest behind after h)
  below_simple done site (invoke at target keep mark called args) rest behind vars h = below_invoked _ rest behind h keep mark target called args vars
  below_simple done site (break_from w) rest behind vars h = below_broken w behind vars (omega (arith, h)) (marker_of w behind) refl
  below_simple done site (continue_in w) rest behind vars h = below_continued w behind vars (omega (arith, h)) (marker_of w behind) refl
  below_simple done site (give_back None) rest behind vars h = below_true _ _ (below_ending _ _ (omega arith))
  below_simple done site (give_back (Some value)) rest behind vars h = below_some _ _ (λ v e. below_given vars.world v)
  below_simple done site (yield status) rest behind vars h = below_yielded _ rest behind h status done vars
  below_simple done site (claim goal axiom_used) rest behind vars h = below_true _ _ (below_at rest behind vars h)

  below_chosen : (a c rest : Block) (behind : Behind) (vars : Vars) (test : Bool) → 1 + block_weight a + block_weight c + block_weight rest + behind_weight behind < top → Below n top (chosen a c rest behind vars test)
  below_chosen a c rest behind vars true h = below_at a (behind_if rest behind) vars (omega (arith, h))
  below_chosen a c rest behind vars false h = below_at c (behind_if rest behind) vars (omega (arith, h))

below_block : (b : Body) (calls : Callees) → IsThrifty calls → (n : ℕ) (done : Done) (block : Block) (behind : Behind) (vars : Vars) → Below n (block_weight block + behind_weight behind) (block_step b calls n done block behind vars)
below_block b calls thrifty n done end behind vars = below_end b calls thrifty n _ behind vars (omega arith)
below_block b calls thrifty n done (plain site s rest) behind vars = below_simple b calls thrifty n _ done site s rest behind vars (omega arith)
below_block b calls thrifty n done (choose site chained cond a c rest) behind vars = below_some _ _ (λ test e. below_chosen b calls thrifty n _ a c rest behind vars test (omega arith))
below_block b calls thrifty n done (loop site head body rest) behind vars = below_true _ _ (below_tested b calls thrifty n _ site head body rest behind vars _ (omega arith))

-- The steps of a body fall.
pub step_falls : (b : Body) (calls : Callees) → IsThrifty calls → Falls (step b calls) weight
unfolding step weight
step_falls b calls thrifty = record { by = λ n x. (below_block b calls thrifty n x.done x.block x.behind x.vars).fact }
