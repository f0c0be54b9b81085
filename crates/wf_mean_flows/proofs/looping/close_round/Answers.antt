use Rattle.std.proofs.Common.{◌∙◌, refl, sym, ap, subst}
use Rattle.wf_ast.specs.TypedTree.{Site, end}
use Rattle.wf_ast.specs.TypedTrees.{head_made, tree_of}
use Rattle.wf_meaning.specs.SourceState.{again}
use Rattle.wf_meaning.specs.SourceStep.{all_hold, at_exit}
use Rattle.wf_mean_stmts.specs.Stages.{sight_on}
use Rattle.wf_mean_flows.specs.declared.flows.Flow.{Flow}
use Rattle.wf_mean_flows.specs.declared.looping.Round.{Round}
use Rattle.wf_mean_flows.specs.Flows.{Flows}
use Rattle.wf_mean_flows.specs.Loops.{Rounds, clauses_of, turned_on}
use Rattle.wf_mean_flows.proofs.LoopLaws.{breaks_out, by_turn, continues_back, falls_back, never_into}
use Rattle.wf_mean_flows.proofs.looping.close_round.Goals as goal

pub returns-in-Falls-clause-rounds : goal.returns-in-Falls-clause-rounds
returns-in-Falls-clause-rounds c = λ level at close body rest behind o h.
    let nodes = c.args.t.now in
    let head = (head_made (tree_of nodes) close c.args.head.now) in
    let here : Site = record { number = c.args.s.0; at = at } in
    let old = c.args.stage.now in
    let F : Flow → Type 0 = λ f. Flows nodes level body end (again here head body rest behind) f old o in
    let new = c.go_back.new.stage in
    let P : Round → Type 0 = λ r. Rounds nodes level here head body rest behind old new r o in
    subst P (sym c.turned_round.ensures)
    (by_turn nodes level c.args.s at head body rest behind old new o c.go_back.result (falls_back nodes level c.args.s at head body rest behind old new o c.go_back.result (c.go_back.ensures.runs level here close body rest behind) (subst F c.in-Falls.is h)) c.go_back.ensures.turn)

pub returns-then-w-s-clause-rounds : goal.returns-then-w-s-clause-rounds
returns-then-w-s-clause-rounds c = λ level at close body rest behind o h.
    let nodes = c.args.t.now in
    let head = (head_made (tree_of nodes) close c.args.head.now) in
    let here : Site = record { number = c.args.s.0; at = at } in
    let old = c.args.stage.now in
    let F : Flow → Type 0 = λ f. Flows nodes level body end (again here head body rest behind) f old o in
    let back = c.go_back-then-w-s in
    let new = back.new.stage in
    let P : Round → Type 0 = λ r. Rounds nodes level here head body rest behind old new r o in
    let f = continues_back nodes level c.args.s at head body rest behind old new o c.in-Continues.w c.if-w-s.true (subst F c.in-Continues.is h) in
    subst P (sym c.turned_round-then-w-s.ensures)
    (by_turn nodes level c.args.s at head body rest behind old new o back.result (falls_back nodes level c.args.s at head body rest behind old new o back.result (back.ensures.runs level here close body rest behind) f) back.ensures.turn)

pub returns-then-w-s-2-clause-rounds : goal.returns-then-w-s-2-clause-rounds
returns-then-w-s-2-clause-rounds c = λ level at close body rest behind o h.
    let nodes = c.args.t.now in
    let head = (head_made (tree_of nodes) close c.args.head.now) in
    let here : Site = record { number = c.args.s.0; at = at } in
    let old = c.args.stage.now in
    let F : Flow → Type 0 = λ f. Flows nodes level body end (again here head body rest behind) f old o in
    let P : Round → Type 0 = λ r. Rounds nodes level here head body rest behind old old r o in
    let hold = all_hold (sight_on nodes old) at_exit (clauses_of nodes c.args.head.now.clauses) in
    let e = breaks_out nodes level c.args.s at head body rest behind old old o c.in-Breaks.w hold c.if-w-s-2.true refl (subst F c.in-Breaks.is h) in
    subst P (sym c.turned_round-then-w-s-2.ensures)
    (by_turn nodes level c.args.s at head body rest behind old old o c.break_loop.result (e ∙ ap (turned_on nodes level old here head body rest behind) (sym c.break_loop.ensures)) (λ q. absurd (never_into hold (sym c.break_loop.ensures ∙ q))))
