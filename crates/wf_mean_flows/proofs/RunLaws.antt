-- Runs of bodies, step by step.
use Rattle.std.proofs.Common.{◌≡◌, ℕ, Bool, reverse, take, Some, None, inl, refl, sym, ap, ◌∙◌, subst}
use Rattle.turns.specs.Run.{Outcome, Lost}
use Rattle.turns.proofs.Unfolds.{unfolds}
use Rattle.wf_text.specs.declared.place.Place.{Place}
use Rattle.wf_ast.specs.declared.typed_nodes.TypedNodes.{TypedNodes}
use Rattle.wf_ast.specs.TypedTree.{CondTree, Simple, Site, Block, end, plain, choose}
use Rattle.wf_ast.specs.TypedPackage.{package_of}
use Rattle.wf_ast.specs.Value.{truth_of}
use Rattle.wf_meaning.specs.SourceState.{Behind, behind_if, Done, untouched}
use Rattle.wf_meaning.specs.Remaining.{Items, marker_of}
use Rattle.wf_meaning.specs.World.{Body, Vars, World}
use Rattle.wf_meaning.specs.SourceStep.{Ending, at_block, block_step, broken, chosen, continued, simple_step, step, weight, with_some}
use Rattle.wf_meaning.proofs.Bodies.{bodies_thrifty}
use Rattle.wf_meaning.proofs.Weights.{IsThrifty, step_falls}
use Rattle.wf_mean_exprs.specs.MachineState.{sight}
use Rattle.wf_mean_stmts.specs.declared.stage.Stage.{Stage}
use Rattle.wf_mean_stmts.specs.Stages.{body_on, sight_on, vars_on}
use Rattle.wf_mean_flows.specs.declared.flows.Flow.{Flow}
use Rattle.wf_mean_flows.specs.declared.flows.Flow.TheVariants.{Falls, Breaks, Continues, Returns, Suspends, Out, Stuck}
use Rattle.wf_mean_flows.specs.Flows.{Flows, IsAt, StandsIn, calls_below, flow_steps, goes, run_on, went}

module _ (nodes : TypedNodes) (level : ℕ) where
  thrifty : IsThrifty (calls_below nodes level)
  unfolding calls_below
  thrifty = bodies_thrifty (package_of nodes) (reverse (take level nodes.order))

  -- A run is its first step, and the run from there.
  pub stepped : (b : Body) (n : ℕ) (done : Done) (block : Block) (behind : Behind) (vars : Vars)
      → goes b (calls_below nodes level) n (record { done = done; block = block; behind = behind; vars = vars }) ≡ went b (calls_below nodes level) n (block_step b (calls_below nodes level) n done block behind vars)
  unfolding goes step
  stepped b n done block behind vars =
      unfolds (step b (calls_below nodes level)) weight (step_falls b (calls_below nodes level) thrifty) n (record { done = done; block = block; behind = behind; vars = vars })

  -- A statement by itself.
  pub by_step : (site : Site) (s : Simple) (rest : Block) (behind : Behind) (done : Done) (old new : Stage) (flow : Flow) → body_on nodes new ≡ body_on nodes old → new.turns ≡ old.turns → IsAt site s flow
      → simple_step (body_on nodes old) (calls_below nodes level) old.turns done site s rest behind (vars_on nodes old) ≡ flow_steps (body_on nodes old) old.turns flow (plain site s rest) rest behind (vars_on nodes new)
      → Flows nodes level (plain site s rest) rest behind flow new (run_on nodes level old done (plain site s rest) behind)
  by_step site s rest behind done old new flow body turns at h =
      by_flow flow at (stepped (body_on nodes old) old.turns done (plain site s rest) behind (vars_on nodes old) ∙ ap (went (body_on nodes old) (calls_below nodes level) old.turns) h)
    where
      by_flow : (flow : Flow) → IsAt site s flow
          → run_on nodes level old done (plain site s rest) behind ≡ went (body_on nodes old) (calls_below nodes level) old.turns (flow_steps (body_on nodes old) old.turns flow (plain site s rest) rest behind (vars_on nodes new))
          → Flows nodes level (plain site s rest) rest behind flow new (run_on nodes level old done (plain site s rest) behind)
      by_flow Falls at e =
          let P : Body → Type 0 = λ b. run_on nodes level old done (plain site s rest) behind ≡ goes b (calls_below nodes level) new.turns (at_block rest behind (vars_on nodes new)) in
          let Q : ℕ → Type 0 = λ n. run_on nodes level old done (plain site s rest) behind ≡ goes (body_on nodes old) (calls_below nodes level) n (at_block rest behind (vars_on nodes new)) in
          subst P (sym body) (subst Q (sym turns) e)
      by_flow (Breaks w) at e =
          let P : Body → Type 0 = λ b. run_on nodes level old done (plain site s rest) behind ≡ went b (calls_below nodes level) new.turns (broken b (marker_of w.0 behind) (vars_on nodes new)) in
          let Q : ℕ → Type 0 = λ n. run_on nodes level old done (plain site s rest) behind ≡ went (body_on nodes old) (calls_below nodes level) n (broken (body_on nodes old) (marker_of w.0 behind) (vars_on nodes new)) in
          subst P (sym body) (subst Q (sym turns) e)
      by_flow (Continues w) at e =
          let P : Body → Type 0 = λ b. run_on nodes level old done (plain site s rest) behind ≡ went b (calls_below nodes level) new.turns (continued (marker_of w.0 behind) (vars_on nodes new)) in
          let Q : ℕ → Type 0 = λ n. run_on nodes level old done (plain site s rest) behind ≡ went (body_on nodes old) (calls_below nodes level) n (continued (marker_of w.0 behind) (vars_on nodes new)) in
          subst P (sym body) (subst Q (sym turns) e)
      by_flow (Returns v) at e = rw turns e
      by_flow (Suspends status place done) at e = (record { block = plain site s rest; behind = behind }, inl (at.0, at.1, refl), rw turns e)
      by_flow Out at e = e
      by_flow Stuck at e = e

  -- A block inside an `if` that has run.
  pub out_of_if : (a part rest : Block) (behind : Behind) (flow : Flow) (stage : Stage) (o : Outcome (Ending × World))
      → ((at : Place) (items : Items) → StandsIn at items a (behind_if rest behind) → StandsIn at items part behind)
      → Flows nodes level a end (behind_if rest behind) flow stage o → Flows nodes level part rest behind flow stage o
  out_of_if a part rest behind Falls stage o stands h = h ∙ stepped (body_on nodes stage) stage.turns untouched end (behind_if rest behind) (vars_on nodes stage)
  out_of_if a part rest behind (Breaks w) stage o stands h = h
  out_of_if a part rest behind (Continues w) stage o stands h = h
  out_of_if a part rest behind (Returns v) stage o stands h = h
  out_of_if a part rest behind (Suspends status at done) stage o stands h = (h.0, stands at h.0 h.1, h.2)
  out_of_if a part rest behind Out stage o stands h = h
  out_of_if a part rest behind Stuck stage o stands h = h

  module _ (site : Site) (chained : Bool) (cond : CondTree) (a c rest : Block) (behind : Behind) (old : Stage) where
    -- An `if` goes into one of its blocks.
    pub chooses : (truth : Bool) → Some truth ≡ truth_of (sight_on nodes old) cond
        → run_on nodes level old untouched (choose site chained cond a c rest) behind ≡ went (body_on nodes old) (calls_below nodes level) old.turns (chosen a c rest behind (vars_on nodes old) truth)
    unfolding with_some sight
    chooses truth e = stepped (body_on nodes old) old.turns untouched (choose site chained cond a c rest) behind (vars_on nodes old) ∙ rw (sym e) refl

    pub stuck_choice : None ≡ truth_of (sight_on nodes old) cond → run_on nodes level old untouched (choose site chained cond a c rest) behind ≡ Lost
    unfolding with_some sight
    stuck_choice e = stepped (body_on nodes old) old.turns untouched (choose site chained cond a c rest) behind (vars_on nodes old) ∙ rw (sym e) refl
