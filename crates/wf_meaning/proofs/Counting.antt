-- Each step of a body only counts the turns, where the bodies that are called only count them too.
use Rattle.std.proofs.Common.{ℕ, zero, suc, ◌+◌, Bool, true, false, List, Option, Some, None, refl}
use Rattle.turns.specs.Run.{Outcome, Got, More, Lost}
use Rattle.turns.specs.Steps.{IsRaisedTo, Counts}
use Rattle.wf_base.specs.declared.marks.Mark.{Mark}
use Rattle.wf_base.specs.BaseOps.{Buffer}
use Rattle.wf_base.specs.declared.base_methods.ReadForm.{ReadForm}
use Rattle.wf_ast.specs.TypedTree.{ValueTree, Target, Awaited, take_number, skip, write, Called, own, sub, Simple, assign, await, perform, invoke, break_from, continue_in, give_back, yield, claim, Site, Block, end, plain, choose, loop}
use Rattle.wf_ast.specs.TypedPackage.{MethodTree, PackageTree}
use Rattle.wf_ast.specs.Value.{Value, num, truth_value, status_number, span}
use Rattle.wf_ast.specs.Value as values
use Rattle.wf_meaning.specs.SourceState.{Behind, stop, behind_if, again, Done, untouched, has_bytes, to_skip, to_write, has_yielded, Object}
use Rattle.wf_meaning.specs.Entry.{Admission, refused, admitted, Answered, returned, suspended}
use Rattle.wf_meaning.specs.Remaining.{hands_on, Marker, marker_of}
use Rattle.wf_meaning.specs.World.{World, Body, Vars}
use Rattle.wf_meaning.specs.SourceStep.{Call, Callees, given_back, read_on, skip_on, write_on, awaited, settled, on_admission, entered, through, handed_on, after_call, invoked, yielded, continued, broken, simple_step, end_step, chosen, block_step, step}
use Rattle.wf_meaning.proofs.Combine.{IsTurnless, turnless_true, turnless_some, Lifts, lifts_some, lifts_true, lifts_either, lifts_turnless, lifts_go, lifts_end, lifts_turn, lifts_onward, lifts_holding}
use Rattle.wf_meaning.proofs.Weights.{tested_turnless}

-- What runs called bodies only counts the turns.
pub record IsCounting (calls : Callees) : Type 0 where
  pub by : (call : Call) (n more : ℕ) (w : World) → IsRaisedTo more (calls call n w) (calls call (n + more) w)

module _ (b : Body) (calls : Callees) (counting : IsCounting calls) (n more : ℕ) where
  lifts_stop_or : (behind : Behind) (vars : Vars) → Lifts more (end_step b n behind vars) (end_step b (n + more) behind vars)
  lifts_stop_or stop vars = lifts_end n _
  lifts_stop_or (behind_if rest behind) vars = lifts_go _
  lifts_stop_or (again site head body rest behind) vars = lifts_true _ _ _ (lifts_turn n _ (tested_turnless b site head body rest behind vars _))

  lifts_given : (w : World) (v : Value) → Lifts more (given_back b n w v) (given_back b (n + more) w v)
  lifts_given w (num m) = lifts_true _ _ _ (lifts_end n _)
  lifts_given w (truth_value t) = lifts_true _ _ _ (lifts_end n _)
  lifts_given w (status_number m) = lifts_either _ _ _ _ _ (lifts_end n _) (lifts_true _ _ _ (lifts_end n _))
  lifts_given w (span s) = lifts_true _ _ _ (lifts_end n _)
  lifts_given w (values.buffer k) = lifts_true _ _ _ (lifts_end n _)

  module _ (here rest : Block) (behind : Behind) where
    lifts_read : (target : Target) (form : ReadForm) (bytes : List ℕ) (vars : Vars) → Lifts more (read_on b n target form bytes here rest behind vars) (read_on b (n + more) target form bytes here rest behind vars)
    lifts_read target form bytes vars = lifts_either _ _ _ _ _ (lifts_some _ _ _ (λ left. lifts_go _)) (lifts_end n _)

    lifts_skip : (lacking : ℕ) (vars : Vars) → Lifts more (skip_on n lacking here rest behind vars) (skip_on (n + more) lacking here rest behind vars)
    lifts_skip zero vars = lifts_go _
    lifts_skip (suc lacking) vars = lifts_end n _

    lifts_write : (k byte : ℕ) (b1 : Buffer) (vars : Vars) → Lifts more (write_on n k byte b1 here rest behind vars) (write_on (n + more) k byte b1 here rest behind vars)
    lifts_write k byte b1 vars = lifts_either _ _ _ _ _ (lifts_go _) (lifts_end n _)

    lifts_awaited : (target : Target) (k : ℕ) (b1 : Buffer) (it : Awaited) (done : Done) (vars : Vars) → Lifts more (awaited b n target k b1 it done here rest behind vars) (awaited b (n + more) target k b1 it done here rest behind vars)
    lifts_awaited target k b1 (take_number form) done vars = lifts_read target form _ _
    lifts_awaited target k b1 (skip count) done vars = lifts_some _ _ _ (λ lacking. lifts_skip _ _)
    lifts_awaited target k b1 (write byte) done vars = lifts_some _ _ _ (λ it. lifts_write k it b1 vars)

    lifts_yielded : (status : ℕ) (done : Done) (vars : Vars) → Lifts more (yielded n status done here rest behind vars) (yielded (n + more) status done here rest behind vars)
    lifts_yielded status untouched vars = lifts_end n _
    lifts_yielded status (has_bytes bytes) vars = lifts_end n _
    lifts_yielded status (to_skip count) vars = lifts_end n _
    lifts_yielded status (to_write byte) vars = lifts_end n _
    lifts_yielded status has_yielded vars = lifts_go _

    lifts_handed : (left : ℕ) (answered : Answered) (vars : Vars) → Lifts more (handed_on b n left answered here rest behind vars) (handed_on b (n + more) (left + more) answered here rest behind vars)
    lifts_handed left (suspended status) vars = lifts_end left _
    lifts_handed left (returned None) vars = record { fact = refl }
    lifts_handed left (returned (Some (num m))) vars = record { fact = refl }
    lifts_handed left (returned (Some (truth_value t))) vars = record { fact = refl }
    lifts_handed left (returned (Some (status_number zero))) vars = lifts_onward n left _
    lifts_handed left (returned (Some (status_number (suc status)))) vars = lifts_end left _
    lifts_handed left (returned (Some (span s))) vars = record { fact = refl }
    lifts_handed left (returned (Some (values.buffer k))) vars = record { fact = refl }

    lifts_after : (keep : Bool) (mark : Mark) (target : Target) (locals : List Value) (left : ℕ) (done : Answered × World) → Lifts more (after_call b n keep mark target here rest behind locals left done) (after_call b (n + more) keep mark target here rest behind locals (left + more) done)
    lifts_after keep mark target locals left done =
        lifts_either (hands_on keep mark) _ _ _ _ (lifts_handed left done.0 _)
        (lifts_either keep _ _ _ _ (lifts_some _ _ _ (λ after. lifts_onward n left _)) (lifts_some _ _ _ (λ v. lifts_some _ _ _ (λ after. lifts_onward n left _))))

    raised_settled : (p : PackageTree) (callee : MethodTree) (call : Call) (o o' : Outcome (Answered × World)) → IsRaisedTo more o o' → IsRaisedTo more (settled p callee call o) (settled p callee call o')
    raised_settled p callee call (Got left done) o' h = rw h refl
    raised_settled p callee call More o' h = tt
    raised_settled p callee call Lost o' h = rw h refl

    raised_admitted : (callee : MethodTree) (call : Call) (w : World) (a : Admission) → IsRaisedTo more (on_admission b.within calls callee call n w a) (on_admission b.within calls callee call (n + more) w a)
    raised_admitted callee call w (refused status object) = refl
    raised_admitted callee call w admitted = raised_settled b.within callee call _ _ (counting.by call n more w)

    pub raised_entered : (callee : MethodTree) (call : Call) (fit : Bool) (w : World) (o : Option Object) → IsRaisedTo more (entered b.within calls callee call fit n w o) (entered b.within calls callee call fit (n + more) w o)
    raised_entered callee call fit w None = refl
    raised_entered callee call fit w (Some object) = raised_admitted callee call w _

    raised_through : (callee : MethodTree) (called : Called) (call : Call) (w : World) → IsRaisedTo more (through b.within calls callee called call n w) (through b.within calls callee called call (n + more) w)
    raised_through callee (own m) call w = counting.by call n more w
    raised_through callee (sub x m) call w = raised_entered callee call true w _

    lifts_invoked : (keep : Bool) (mark : Mark) (target : Target) (called : Called) (args : List ValueTree) (vars : Vars) → Lifts more (invoked b calls n keep mark target called args here rest behind vars) (invoked b calls (n + more) keep mark target called args here rest behind vars)
    lifts_invoked keep mark target called args vars =
        lifts_some _ _ _ (λ callee. lifts_some _ _ _ (λ values. lifts_some _ _ _ (λ object.
        lifts_holding _ _ _ _ (raised_through callee called _ vars.world) (λ left done. lifts_after keep mark target vars.locals left done))))

  continued_turnless : (o : Option Marker) (vars : Vars) → IsTurnless (continued o vars)
  continued_turnless None vars = record { fact = tt }
  continued_turnless (Some m) vars = record { fact = tt }

  broken_turnless : (o : Option Marker) (vars : Vars) → IsTurnless (broken b o vars)
  broken_turnless None vars = record { fact = tt }
  broken_turnless (Some m) vars = turnless_true _ _ (record { fact = tt })

  lifts_simple : (done : Done) (site : Site) (s : Simple) (rest : Block) (behind : Behind) (vars : Vars) → Lifts more (simple_step b calls n done site s rest behind vars) (simple_step b calls (n + more) done site s rest behind vars)
  lifts_simple done site (assign target op value) rest behind vars = lifts_some _ _ _ (λ after. lifts_go _)
  lifts_simple done site (await at target io_arg call) rest behind vars = lifts_some _ _ _ (λ io. lifts_awaited _ rest behind target io.0 io.1 call done vars)
  lifts_simple done site (perform at target call) rest behind vars = lifts_some _ _ _ (λ after. lifts_go _)
  lifts_simple done site (invoke at target keep mark called args) rest behind vars = lifts_invoked _ rest behind keep mark target called args vars
  lifts_simple done site (break_from w) rest behind vars = lifts_turnless _ (broken_turnless (marker_of w behind) vars)
  lifts_simple done site (continue_in w) rest behind vars = lifts_turnless _ (continued_turnless (marker_of w behind) vars)
  lifts_simple done site (give_back None) rest behind vars = lifts_true _ _ _ (lifts_end n _)
  lifts_simple done site (give_back (Some value)) rest behind vars = lifts_some _ _ _ (λ v. lifts_given vars.world v)
  lifts_simple done site (yield status) rest behind vars = lifts_yielded _ rest behind status done vars
  lifts_simple done site (claim goal axiom_used) rest behind vars = lifts_true _ _ _ (lifts_go _)

  chosen_turnless : (a c rest : Block) (behind : Behind) (vars : Vars) (test : Bool) → IsTurnless (chosen a c rest behind vars test)
  chosen_turnless a c rest behind vars true = record { fact = tt }
  chosen_turnless a c rest behind vars false = record { fact = tt }

  lifts_block : (done : Done) (block : Block) (behind : Behind) (vars : Vars) → Lifts more (block_step b calls n done block behind vars) (block_step b calls (n + more) done block behind vars)
  lifts_block done end behind vars = lifts_stop_or behind vars
  lifts_block done (plain site s rest) behind vars = lifts_simple done site s rest behind vars
  lifts_block done (choose site chained cond a c rest) behind vars = lifts_turnless _ (turnless_some _ _ (λ test. chosen_turnless a c rest behind vars test))
  lifts_block done (loop site head body rest) behind vars = lifts_turnless _ (turnless_true _ _ (tested_turnless b site head body rest behind vars _))

-- The steps of a body only count the turns.
pub step_counts : (b : Body) (calls : Callees) → IsCounting calls → Counts (step b calls)
unfolding step
step_counts b calls counting = record { by = λ n more x. (lifts_block b calls counting n more x.done x.block x.behind x.vars).fact }
