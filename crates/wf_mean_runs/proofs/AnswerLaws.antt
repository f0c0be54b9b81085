-- What becomes of the answer of a call.
use Rattle.std.proofs.Common.{◌≡◌, ℕ, zero, suc, ◌≤◌, Bool, true, false, Option, Some, None, nat_lt, inl, refl, sym, ap, ◌∙◌, arith}
use Rattle.std.specs.Prelude.{option_map, if◌then◌else◌}
use Rattle.std.proofs.lemmas.Bool.Decides.{nat_tests}
use Rattle.turns.specs.Run.{Got, More, Lost, Go, Turn, holding, onward}
use Rattle.wf_base.specs.declared.marks.Mark.{Mark}
use Rattle.wf_text.specs.declared.place.Place.{Place}
use Rattle.wf_ast.specs.declared.numbers.ExprId.{ExprId}
use Rattle.wf_ast.specs.declared.numbers.StmtId.{StmtId}
use Rattle.wf_ast.specs.declared.typed_nodes.TypedNodes.{TypedNodes}
use Rattle.wf_ast.specs.TypedTree.{Block, Target, invoke, plain}
use Rattle.wf_ast.specs.TypedTrees.{optional_target, tree_of}
use Rattle.wf_ast.specs.Value.{Value}
use Rattle.wf_ast.specs.WellTyped.{is_coroutine}
use Rattle.wf_meaning.specs.SourceState.{Behind}
use Rattle.wf_meaning.specs.Entry.{Answered, returned, suspended}
use Rattle.wf_meaning.specs.World.{Body, Vars}
use Rattle.wf_meaning.specs.SourceStep.{At, Callees, at_block, either, kept_status, put_answer, with_some}
use Rattle.wf_mean_exprs.specs.declared.objects.Progress.TheVariants as progress
use Rattle.wf_mean_exprs.specs.declared.values.Slot.{Slot}
use Rattle.wf_mean_exprs.specs.declared.values.Slot.TheVariants as slots
use Rattle.wf_mean_exprs.specs.MachineState.{slot_seen}
use Rattle.wf_mean_stmts.specs.declared.stage.Stage.{Stage}
use Rattle.wf_mean_stmts.specs.Stages.{body_on, shape, vars_on}
use Rattle.wf_mean_stmts.proofs.BodyLemmas.{same_body}
use Rattle.wf_mean_flows.specs.declared.flows.Flow.{Flow}
use Rattle.wf_mean_flows.specs.declared.flows.Flow.TheVariants as flows
use Rattle.wf_mean_flows.specs.Flows.{Flows, calls_below, goes, site_of, went}
use Rattle.wf_mean_runs.specs.Answers.{Closes, TakesValue, handed}
use Rattle.wf_mean_runs.specs.Calls.{world_on}

-- A step that leaves fewer turns goes on with those.
pub went_onward : (b : Body) (calls : Callees) (n left : ℕ) (x : At) → left ≤ n → went b calls n (onward n left x) ≡ goes b calls left x
unfolding onward
went_onward b calls n left x h = by_test (nat_lt left n) refl
  where
    by_test : (t : Bool) → nat_lt left n ≡ t → went b calls n (if t then Turn left x else Go x) ≡ goes b calls left x
    by_test true e = refl
    by_test false e = let same : n ≡ left = grind (arith, nat_tests, e, h) in ap (λ k. goes b calls k x) same

module _ (nodes : TypedNodes) (s : StmtId) (target : Option ExprId) (old new : Stage) where
  abbrev to : Target
  to = optional_target (tree_of nodes) target

  -- A value that goes to a target, and then comes the next statement.
  taken_on : (level n : ℕ) (part rest : Block) (behind : Behind) (flow : Flow) (o : Option Vars) → old.turns ≤ n → shape new ≡ shape old → new.turns ≡ old.turns → TakesValue flow o (vars_on nodes new)
      → Flows nodes level part rest behind flow new (went (body_on nodes old) (calls_below nodes level) n (with_some o (λ after. onward n old.turns (at_block rest behind after))))
  unfolding with_some
  taken_on level n part rest behind flows.Falls (Some left) h same turns is =
      went_onward (body_on nodes old) (calls_below nodes level) n old.turns (at_block rest behind left) h
      ∙ ap (λ v. goes (body_on nodes old) (calls_below nodes level) old.turns (at_block rest behind v)) (sym is)
      ∙ ap (λ b. goes b (calls_below nodes level) old.turns (at_block rest behind (vars_on nodes new))) (sym (same_body nodes old new same))
      ∙ ap (λ k. goes (body_on nodes new) (calls_below nodes level) k (at_block rest behind (vars_on nodes new))) (sym turns)
  taken_on level n part rest behind flows.Stuck None h same turns is = refl
  taken_on level n part rest behind flows.Falls None h same turns is = absurd is
  taken_on level n part rest behind flows.Stuck (Some left) h same turns is = absurd is
  taken_on level n part rest behind (flows.Breaks w) o h same turns is = absurd is
  taken_on level n part rest behind (flows.Continues w) o h same turns is = absurd is
  taken_on level n part rest behind (flows.Returns v) o h same turns is = absurd is
  taken_on level n part rest behind (flows.Suspends status at done) o h same turns is = absurd is
  taken_on level n part rest behind flows.Out o h same turns is = absurd is

  -- `=?`.
  pub keeps_status : (mark : Mark) (flow : Flow) (answer : Answered) → shape new ≡ shape old → new.turns ≡ old.turns → TakesValue flow (put_answer (body_on nodes old) to (kept_status answer) (vars_on nodes old)) (vars_on nodes new)
      → Closes nodes s target true mark old new (Got old.turns (answer, world_on nodes old)) flow
  unfolding holding either
  keeps_status mark flow answer same turns is level n at called trees rest behind h =
      taken_on level n (plain (site_of nodes s) (invoke at to true mark called trees) rest) rest behind flow (put_answer (body_on nodes old) to (kept_status answer) (vars_on nodes old)) h same turns is

  -- A call that is no coroutine's.
  pub gives_value : (mark : Mark) (flow : Flow) (v : Option Value) → is_coroutine mark ≡ false → shape new ≡ shape old → new.turns ≡ old.turns → TakesValue flow (put_answer (body_on nodes old) to v (vars_on nodes old)) (vars_on nodes new)
      → Closes nodes s target false mark old new (Got old.turns (returned v, world_on nodes old)) flow
  unfolding holding either with_some
  gives_value mark flow v plain_mark same turns is level n at called trees rest behind h =
      rw plain_mark (taken_on level n (plain (site_of nodes s) (invoke at to false mark called trees) rest) rest behind flow (put_answer (body_on nodes old) to v (vars_on nodes old)) h same turns is)

module _ (nodes : TypedNodes) (s : StmtId) (target : Option ExprId) (mark : Mark) (old : Stage) where
  pub plain_suspends : (status : ℕ) → is_coroutine mark ≡ false → Closes nodes s target false mark old old (Got old.turns (suspended status, world_on nodes old)) flows.Stuck
  unfolding holding either with_some
  plain_suspends status plain_mark level n at called trees rest behind h = rw plain_mark refl

  -- A coroutine's answer is handed on.
  pub hands_value : is_coroutine mark ≡ true → (v : Option Slot) → Closes nodes s target false mark old old (Got old.turns (returned (option_map slot_seen v), world_on nodes old)) (handed v)
  unfolding holding either
  hands_value co None level n at called trees rest behind h = rw co refl
  hands_value co (Some (slots.Num m)) level n at called trees rest behind h = rw co refl
  hands_value co (Some (slots.Truth t)) level n at called trees rest behind h = rw co refl
  hands_value co (Some (slots.Elements e)) level n at called trees rest behind h = rw co refl
  hands_value co (Some (slots.Buffer k)) level n at called trees rest behind h = rw co refl
  hands_value co (Some (slots.Status zero)) level n at called trees rest behind h = rw co (went_onward (body_on nodes old) (calls_below nodes level) n old.turns (at_block rest behind (vars_on nodes old)) h)
  hands_value co (Some (slots.Status (suc status))) level n at called trees rest behind h = rw co refl

  pub hands_suspension : is_coroutine mark ≡ true → (status : ℕ) (place : Place) → (site_of nodes s).at ≡ place → Closes nodes s target false mark old old (Got old.turns (suspended status, world_on nodes old)) (flows.Suspends status place progress.Untouched)
  unfolding holding either
  hands_suspension co status place here level n at called trees rest behind h =
      (record { block = plain (site_of nodes s) (invoke at (optional_target (tree_of nodes) target) false mark called trees) rest; behind = behind }, inl (co, here, refl), rw co refl)

  pub calls_out : (keep : Bool) → Closes nodes s target keep mark old old More flows.Out
  unfolding holding
  calls_out keep level n at called trees rest behind h = refl

  pub calls_stuck : (keep : Bool) → Closes nodes s target keep mark old old Lost flows.Stuck
  unfolding holding
  calls_stuck keep level n at called trees rest behind h = refl
