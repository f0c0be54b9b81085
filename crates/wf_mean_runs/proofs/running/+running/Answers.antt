use Rattle.std.proofs.Common.{◌≡◌, ◌+◌, ◌-◌, ◌<◌, ◌≤◌, Option, slice_get, refl, sym, ap, ◌∙◌, subst, arith, drop, get_or, length, true, false, Some, None, map}
use Rattle.wf_ast.specs.TypedTree.{Block, break_from, continue_in, end, loop, choose}
use Rattle.wf_ast.specs.TypedTrees.{head_made, onto, stmt_makers, tree_of, cond_in, otherwise_made, call_made, optional_target}
use Rattle.wf_meaning.specs.SourceState.{untouched, stop}
use Rattle.wf_mean_flows.specs.declared.flows.Flow.{Flow}
use Rattle.wf_mean_flows.specs.declared.flows.Flow.TheVariants as flows
use Rattle.wf_mean_flows.specs.Flows.{RunsBlock, StandsIn, block_made_of, calls_below, inner_of, made_of, place_of, site_of}
use Rattle.wf_mean_flows.proofs.SimpleLaws.{still_runs}
use Rattle.wf_mean_runs.specs.Picking.{else_block}
use Rattle.wf_mean_runs.proofs.BlockLaws.{behind_one, by_node, first_in, goes_on, known_in, leaves}
use Rattle.wf_mean_runs.proofs.ChoiceLaws.{if_none, if_runs, if_stuck, loops_into, loops_out, loops_past, loops_stuck, picked_arm, picked_else, round_ends, runs_again, runs_like, some_there, takes_turn}
use Rattle.wf_mean_runs.proofs.FrameLaws.{ready_after, stays_on, stays_shaped}
use Rattle.wf_mean_runs.proofs.running.+running.Goals as goal
use Rattle.wf_ast.specs.declared.numbers.StmtId.{StmtId}
use Rattle.wf_ast.specs.TypedPackage.{package_of}
use Rattle.wf_meaning.specs.SourceCall.{run_if}
use Rattle.wf_mean_exprs.specs.declared.objects.Frame.{Frame}
use Rattle.wf_mean_exprs.specs.MachineState.{done_seen, slot_seen}
use Rattle.wf_mean_stmts.specs.declared.stage.Stage.{Stage}
use Rattle.wf_mean_runs.specs.Seeking.{SoughtBlock, SoughtIn}
use Rattle.wf_mean_runs.proofs.SeekLaws.{after_arm, block_moved, goes_on_there, if_first, in_arm, in_last, in_rest, in_then, inside_again, inside_ends, leaves_there, moved, no_else, not_in_one, not_inside, rounds_moved, run_moved, sought_like, is_here, no_point}
use Rattle.wf_points.proofs.PointLemmas.{call_points}
use Rattle.wf_mean_runs.specs.Calls.{ran_seen, world_on}
use Rattle.wf_mean_runs.specs.Frames.{Sizes, locals_of}
use Rattle.wf_mean_runs.proofs.BodyLaws.{method_there, none_left}
use Rattle.wf_mean_runs.proofs.KeepLaws.{has_room}
use Rattle.wf_mean_runs.proofs.MethodLaws.{body_begins, body_goes_on, body_inside, body_known, body_not_there, body_ran, call_closes, call_no_receiver, call_no_values, called_in, entry_enters, entry_fits, entry_refuses, frame_falls, frame_in, ready_part, ready_still, room_after, run_falls, seek_falls, sizes_there}
use Rattle.wf_mean_runs.proofs.OrderLaws.{no_frame}

pub run_block-returns-then-not-falls-clause-runs : goal.run_block-returns-then-not-falls-clause-runs
run_block-returns-then-not-falls-clause-runs t c =
    let l = c.loop-i in
    let nodes = c.args.t.now in
    let ss = c.args.block.now.items in
    let all = block_made_of nodes (drop c.args.from ss) in
    leaves nodes (length c.args.below.now) (length l.below) l.invariant.stays.count all ss l.i _ (first_in nodes ss c.as_slice-items.result.now c.as_slice-items.ensures l.i _ c.loop-i-test.true) c.args.stage.now l.stage c.run_stmt-flow.new.stage c.run_stmt-flow.result
    l.invariant.runs c.run_stmt-flow.ensures.runs (sym c.if-not-falls.ensures) l.invariant.stands

pub run_block-loop-i-preserved : goal.run_block-loop-i-preserved
run_block-loop-i-preserved t c =
    let l = c.loop-i in
    let nodes = c.args.t.now in
    let ss = c.args.block.now.items in
    let all = block_made_of nodes (drop c.args.from ss) in
    let first = first_in nodes ss c.as_slice-items.result.now c.as_slice-items.ensures l.i _ c.loop-i-test.true in
    record {
      runs = goes_on nodes (length c.args.below.now) (length l.below) l.invariant.stays.count all ss l.i _ first c.args.stage.now l.stage c.run_stmt-flow.new.stage c.run_stmt-flow.result
          l.invariant.runs c.run_stmt-flow.ensures.runs (sym c.if-not-falls.ensures);
      stands = λ at items behind h.
          let Q : Block → Type 0 = λ b. StandsIn at items b behind in
          l.invariant.stands at items behind (subst Q (sym first) (behind_one nodes c.requires.typed _ at items (block_made_of nodes (drop (l.i + 1) ss)) behind (known_in ss c.as_slice-items.result.now c.as_slice-items.ensures c.args.top (length nodes.stmts) l.i _ c.requires.known c.requires.inside c.loop-i-test.true) h));
      stays = stays_on c.args.below.now l.below c.run_stmt-flow.new.below c.args.stage.now l.stage c.run_stmt-flow.new.stage l.invariant.stays c.run_stmt-flow.ensures.stays;
      ready = ready_after nodes l.below c.run_stmt-flow.new.below l.stage c.run_stmt-flow.new.stage l.invariant.ready c.run_stmt-flow.ensures.stays;
    }

pub run_if-returns-then-is_empty-clause-runs : goal.run_if-returns-then-is_empty-clause-runs
run_if-returns-then-is_empty-clause-runs t c =
    if_none c.args.t.now (length c.args.below.now) c.args.s c.args.it.arms.now c.args.it.otherwise.now c.args.stage.now c.is_empty.result c.is_empty.ensures c.if-is_empty.true c.requires.made

pub run_if-returns-in-None-clause-runs : goal.run_if-returns-in-None-clause-runs
run_if-returns-in-None-clause-runs t c =
    let nodes = c.args.t.now in
    if_stuck nodes (length c.args.below.now) (site_of nodes c.args.s) c.args.it.otherwise.now c.args.stage.now c.args.it.arms.now (made_of nodes c.args.s) c.requires.made c.in-None.ensures.first

pub run_if-returns-then-i-it-clause-runs : goal.run_if-returns-then-i-it-clause-runs
run_if-returns-then-i-it-clause-runs t c =
    let nodes = c.args.t.now in
    let arms = c.args.it.arms.now in
    let other = c.args.it.otherwise.now in
    let arm = c.index-it-i.result in
    let P : Block → Type 0 = λ b. RunsBlock nodes (length c.args.below.now) b c.args.stage.now c.run_block.new.stage c.run_block.result in
    if_runs nodes (length c.args.below.now) (site_of nodes c.args.s) other c.args.stage.now c.run_block.new.stage c.run_block.result arms c.in-Some.i (made_of nodes c.args.s) (omega (arith, c.if-i-it.true)) c.requires.made c.in-Some.ensures.first
    (subst P (sym (picked_arm nodes arms other c.in-Some.i arm c.if-i-it.true)) c.run_block.ensures.runs)

pub run_if-returns-in-Some-otherwise-clause-runs : goal.run_if-returns-in-Some-otherwise-clause-runs
run_if-returns-in-Some-otherwise-clause-runs t c =
    let nodes = c.args.t.now in
    let arms = c.args.it.arms.now in
    let other = c.args.it.otherwise.now in
    let one = c.run_block-in-Some-otherwise in
    let P : Block → Type 0 = λ b. RunsBlock nodes (length c.args.below.now) b c.args.stage.now one.new.stage one.result in
    if_runs nodes (length c.args.below.now) (site_of nodes c.args.s) other c.args.stage.now one.new.stage one.result arms c.in-Some.i (made_of nodes c.args.s) (some_there arms c.is_empty.result c.is_empty.ensures c.if-is_empty.false) c.requires.made c.in-Some.ensures.first
    (subst P (sym (picked_else nodes arms other c.in-Some.i (omega (arith, c.if-i-it.false)) ∙ ap (else_block nodes) c.in-Some-otherwise.is)) one.ensures.runs)

pub run_if-returns-in-None-otherwise-clause-runs : goal.run_if-returns-in-None-otherwise-clause-runs
run_if-returns-in-None-otherwise-clause-runs t c =
    let nodes = c.args.t.now in
    let arms = c.args.it.arms.now in
    let other = c.args.it.otherwise.now in
    let P : Block → Type 0 = λ b. RunsBlock nodes (length c.args.below.now) b c.args.stage.now c.args.stage.now flows.Falls in
    if_runs nodes (length c.args.below.now) (site_of nodes c.args.s) other c.args.stage.now c.args.stage.now flows.Falls arms c.in-Some.i (made_of nodes c.args.s) (some_there arms c.is_empty.result c.is_empty.ensures c.if-is_empty.false) c.requires.made c.in-Some.ensures.first
    (subst P (sym (picked_else nodes arms other c.in-Some.i (omega (arith, c.if-i-it.false)) ∙ ap (else_block nodes) c.in-None-otherwise.is)) (λ behind. refl))

pub run_rounds-loop-flow-smaller : goal.run_rounds-loop-flow-smaller
run_rounds-loop-flow-smaller t c =
    let l = c.loop-flow in
    let nodes = c.args.t.now in
    let head = head_made (tree_of nodes) (inner_of nodes c.args.s.0) c.args.it.head.now in
    let body = block_made_of nodes c.args.it.body.now.items in
    let turn = takes_turn nodes (length c.args.below.now) (length l.below) l.invariant.stays.count (site_of nodes c.args.s) head body c.args.stage.now l.stage c.run_block-flow.new.stage c.close_round.new.stage c.run_block-flow.result c.close_round.result
    l.invariant.runs c.run_block-flow.ensures.runs (λ rest behind o h. c.close_round.ensures.rounds (length c.args.below.now) (place_of nodes c.args.s.0) (inner_of nodes c.args.s.0) body rest behind o h) c.in-Again.is in
    omega (arith, turn, c.run_block-flow.ensures.stays.fewer)

pub run_rounds-loop-flow-preserved : goal.run_rounds-loop-flow-preserved
run_rounds-loop-flow-preserved t c =
    let l = c.loop-flow in
    let nodes = c.args.t.now in
    let head = head_made (tree_of nodes) (inner_of nodes c.args.s.0) c.args.it.head.now in
    let body = block_made_of nodes c.args.it.body.now.items in
    let ended = c.run_block-flow.new.stage in
    let new = c.close_round.new.stage in
    let frames = c.run_block-flow.new.below in
    let one = stays_on l.below frames frames l.stage ended new c.run_block-flow.ensures.stays (stays_shaped frames ended new c.close_round.ensures.shape c.close_round.ensures.fewer) in
    record {
      runs = runs_again nodes (length c.args.below.now) (length l.below) l.invariant.stays.count (site_of nodes c.args.s) head body c.args.stage.now l.stage ended new c.run_block-flow.result c.close_round.result
          l.invariant.runs c.run_block-flow.ensures.runs (λ rest behind o h. c.close_round.ensures.rounds (length c.args.below.now) (place_of nodes c.args.s.0) (inner_of nodes c.args.s.0) body rest behind o h) c.in-Again.is;
      stays = stays_on c.args.below.now l.below frames c.args.stage.now l.stage new l.invariant.stays one;
      ready = ready_after nodes l.below frames l.stage new l.invariant.ready one;
    }

pub run_rounds-returns-in-Ends-clause-runs : goal.run_rounds-returns-in-Ends-clause-runs
run_rounds-returns-in-Ends-clause-runs t c =
    let l = c.loop-flow in
    let nodes = c.args.t.now in
    let head = head_made (tree_of nodes) (inner_of nodes c.args.s.0) c.args.it.head.now in
    let body = block_made_of nodes c.args.it.body.now.items in
    round_ends nodes (length c.args.below.now) (length l.below) l.invariant.stays.count (site_of nodes c.args.s) head body c.args.stage.now l.stage c.run_block-flow.new.stage c.close_round.new.stage c.run_block-flow.result c.close_round.result
    l.invariant.runs c.run_block-flow.ensures.runs (λ rest behind o h. c.close_round.ensures.rounds (length c.args.below.now) (place_of nodes c.args.s.0) (inner_of nodes c.args.s.0) body rest behind o h) _ c.in-Ends.is

pub run_stmt-returns-in-Break-clause-runs : goal.run_stmt-returns-in-Break-clause-runs
run_stmt-returns-in-Break-clause-runs t c =
    let nodes = c.args.t.now in
    still_runs nodes (length c.args.below.now) c.args.s (break_from c.in-Break.w.0) untouched c.args.stage.now (flows.Breaks c.in-Break.w) (by_node nodes c.args.s c.node.result.now (c.node.ensures.made) _ c.in-Break.is) tt (λ rest behind. refl)

pub run_stmt-returns-in-Continue-clause-runs : goal.run_stmt-returns-in-Continue-clause-runs
run_stmt-returns-in-Continue-clause-runs t c =
    let nodes = c.args.t.now in
    still_runs nodes (length c.args.below.now) c.args.s (continue_in c.in-Continue.w.0) untouched c.args.stage.now (flows.Continues c.in-Continue.w) (by_node nodes c.args.s c.node.result.now (c.node.ensures.made) _ c.in-Continue.is) tt (λ rest behind. refl)

pub run_while-returns-in-Into-clause-runs : goal.run_while-returns-in-Into-clause-runs
run_while-returns-in-Into-clause-runs t c =
    let nodes = c.args.t.now in
    let level = length c.args.below.now in
    let site = site_of nodes c.args.s in
    let head = head_made (tree_of nodes) (inner_of nodes c.args.s.0) c.args.it.head.now in
    let body = block_made_of nodes c.args.it.body.now.items in
    runs_like nodes level (made_of nodes c.args.s) (λ rest. loop site head body rest) c.args.stage.now c.run_rounds.new.stage c.run_rounds.result c.requires.made
    (loops_into nodes level site head body c.args.stage.now c.run_rounds.new.stage c.run_rounds.result (c.in-Into.ensures level site (inner_of nodes c.args.s.0) body) c.run_rounds.ensures.runs)

pub run_while-returns-in-Past-clause-runs : goal.run_while-returns-in-Past-clause-runs
run_while-returns-in-Past-clause-runs t c =
    let nodes = c.args.t.now in
    let level = length c.args.below.now in
    let site = site_of nodes c.args.s in
    let head = head_made (tree_of nodes) (inner_of nodes c.args.s.0) c.args.it.head.now in
    let body = block_made_of nodes c.args.it.body.now.items in
    runs_like nodes level (made_of nodes c.args.s) (λ rest. loop site head body rest) c.args.stage.now c.args.stage.now flows.Falls c.requires.made
    (loops_past nodes level site head body c.args.stage.now (c.in-Past.ensures level site (inner_of nodes c.args.s.0) body))

pub run_while-returns-in-Out-clause-runs : goal.run_while-returns-in-Out-clause-runs
run_while-returns-in-Out-clause-runs t c =
    let nodes = c.args.t.now in
    let level = length c.args.below.now in
    let site = site_of nodes c.args.s in
    let head = head_made (tree_of nodes) (inner_of nodes c.args.s.0) c.args.it.head.now in
    let body = block_made_of nodes c.args.it.body.now.items in
    runs_like nodes level (made_of nodes c.args.s) (λ rest. loop site head body rest) c.args.stage.now c.args.stage.now flows.Out c.requires.made
    (loops_out nodes level site head body c.args.stage.now (c.in-Out.ensures level site (inner_of nodes c.args.s.0) body))

pub run_while-returns-in-Stuck-clause-runs : goal.run_while-returns-in-Stuck-clause-runs
run_while-returns-in-Stuck-clause-runs t c =
    let nodes = c.args.t.now in
    let level = length c.args.below.now in
    let site = site_of nodes c.args.s in
    let head = head_made (tree_of nodes) (inner_of nodes c.args.s.0) c.args.it.head.now in
    let body = block_made_of nodes c.args.it.body.now.items in
    runs_like nodes level (made_of nodes c.args.s) (λ rest. loop site head body rest) c.args.stage.now c.args.stage.now flows.Stuck c.requires.made
    (loops_stuck nodes level site head body c.args.stage.now (c.in-Stuck.ensures level site (inner_of nodes c.args.s.0) body))

pub seek_block-loop-i-preserved : goal.seek_block-loop-i-preserved
seek_block-loop-i-preserved t c =
    let l = c.loop-i in
    let nodes = c.args.t.now in
    let level = length c.args.below.now in
    let ss = c.args.block.now.items in
    let done = done_seen c.args.point.done in
    let read = c.as_slice-items.result.now in
    let none : StmtId = record { 0 = 0 } in
    let s = get_or read l.i none in
    let first = first_in nodes ss read c.as_slice-items.ensures l.i none c.loop-i-test.true in
    let one = moved nodes level (length l.below) c.args.point.at done (made_of nodes s) c.args.stage.now l.stage None c.seek_stmt.new.stage l.invariant.stays.count l.invariant.same c.in-None.ensures.sought in
    record {
      so_far = not_in_one nodes level c.args.point.at done c.args.stage.now ss l.i s first l.invariant.so_far c.seek_stmt.new.stage one;
      stands = λ at items behind h.
          let Q : Block → Type 0 = λ b. StandsIn at items b behind in
          l.invariant.stands at items behind (subst Q (sym first) (behind_one nodes c.requires.typed s at items (block_made_of nodes (drop (l.i + 1) ss)) behind (known_in ss read c.as_slice-items.ensures c.args.top (length nodes.stmts) l.i none c.requires.known c.requires.inside c.loop-i-test.true) h));
      same = (one end stop).1;
      stays = stays_on c.args.below.now l.below c.seek_stmt.new.below c.args.stage.now l.stage c.seek_stmt.new.stage l.invariant.stays c.in-None.ensures.stays;
      ready = ready_after nodes l.below c.seek_stmt.new.below l.stage c.seek_stmt.new.stage l.invariant.ready c.in-None.ensures.stays;
    }

pub seek_block-returns-then-falls-clause-sought : goal.seek_block-returns-then-falls-clause-sought
seek_block-returns-then-falls-clause-sought t c =
    let l = c.loop-i in
    let nodes = c.args.t.now in
    let level = length c.args.below.now in
    let ss = c.args.block.now.items in
    let done = done_seen c.args.point.done in
    let read = c.as_slice-items.result.now in
    let mid = c.seek_stmt.new.stage in
    let first = first_in nodes ss read c.as_slice-items.ensures l.i _ c.loop-i-test.true in
    let one = moved nodes level (length l.below) c.args.point.at done _ c.args.stage.now l.stage (Some c.in-Some.flow) mid l.invariant.stays.count l.invariant.same c.in-Some.ensures.sought in
    goes_on_there nodes level c.args.point.at done c.args.stage.now ss l.i _ first l.invariant.so_far l.invariant.stands c.in-Some.flow mid one (sym c.if-falls.ensures) c.run_block.result c.run_block.new.stage
    (λ at items behind h.
    let Q : Block → Type 0 = λ b. StandsIn at items b behind in
    l.invariant.stands at items behind (subst Q (sym first) (behind_one nodes c.requires.typed _ at items (block_made_of nodes (drop (l.i + 1) ss)) behind (known_in ss read c.as_slice-items.ensures c.args.top (length nodes.stmts) l.i _ c.requires.known c.requires.inside c.loop-i-test.true) h)))
    (run_moved nodes level (length c.seek_stmt.new.below) (block_made_of nodes (drop (l.i + 1) ss)) mid c.run_block.new.stage c.run_block.result (c.in-Some.ensures.stays.count ∙ l.invariant.stays.count) c.run_block.ensures.runs)

pub seek_block-returns-in-Some-clause-sought : goal.seek_block-returns-in-Some-clause-sought
seek_block-returns-in-Some-clause-sought t c =
    let l = c.loop-i in
    let nodes = c.args.t.now in
    let level = length c.args.below.now in
    let ss = c.args.block.now.items in
    let done = done_seen c.args.point.done in
    let read = c.as_slice-items.result.now in
    let first = first_in nodes ss read c.as_slice-items.ensures l.i _ c.loop-i-test.true in
    let one = moved nodes level (length l.below) c.args.point.at done _ c.args.stage.now l.stage (Some c.in-Some.flow) c.seek_stmt.new.stage l.invariant.stays.count l.invariant.same c.in-Some.ensures.sought in
    leaves_there nodes level c.args.point.at done c.args.stage.now ss l.i _ first l.invariant.so_far l.invariant.stands c.in-Some.flow c.seek_stmt.new.stage one (sym c.if-falls.ensures)

pub seek_if-returns-in-Some-clause-sought : goal.seek_if-returns-in-Some-clause-sought
seek_if-returns-in-Some-clause-sought t c =
    let nodes = c.args.t.now in
    let level = length c.args.below.now in
    let site = site_of nodes c.args.s in
    let arms = c.args.it.arms.now in
    let other = c.args.it.otherwise.now in
    let some = some_there arms c.is_empty.result c.is_empty.ensures c.if-is_empty.false in
    let arm = get_or arms 0 c.index-it-0.result in
    let rest_of = otherwise_made (tree_of nodes) (onto (stmt_makers nodes)) site (drop 1 arms) other in
    sought_like nodes level c.args.point.at (done_seen c.args.point.done) (made_of nodes c.args.s) (λ rest. choose site false (cond_in (tree_of nodes arm.cond)) (block_made_of nodes arm.body.items) rest_of rest) c.args.stage.now c.seek_block.new.stage (Some c.in-Some.flow)
    (λ rest. c.requires.made rest ∙ if_first nodes site arms c.index-it-0.result other rest some)
    (in_then nodes level c.args.point.at (done_seen c.args.point.done) c.args.stage.now site false (cond_in (tree_of nodes arm.cond)) (block_made_of nodes arm.body.items) rest_of c.in-Some.flow c.seek_block.new.stage c.in-Some.ensures.sought)

pub seek_if-returns-in-None-clause-sought : goal.seek_if-returns-in-None-clause-sought
seek_if-returns-in-None-clause-sought t c =
    let nodes = c.args.t.now in
    let level = length c.args.below.now in
    let site = site_of nodes c.args.s in
    let arms = c.args.it.arms.now in
    let other = c.args.it.otherwise.now in
    let some = some_there arms c.is_empty.result c.is_empty.ensures c.if-is_empty.false in
    let arm = get_or arms 0 c.index-it-0.result in
    let mid = c.seek_block.new.stage in
    let rest_of = otherwise_made (tree_of nodes) (onto (stmt_makers nodes)) site (drop 1 arms) other in
    sought_like nodes level c.args.point.at (done_seen c.args.point.done) (made_of nodes c.args.s) (λ rest. choose site false (cond_in (tree_of nodes arm.cond)) (block_made_of nodes arm.body.items) rest_of rest) c.args.stage.now c.seek_arms.new.stage c.seek_arms.result
    (λ rest. c.requires.made rest ∙ if_first nodes site arms c.index-it-0.result other rest some)
    (in_rest nodes level (length c.seek_block.new.below) c.args.point.at (done_seen c.args.point.done) c.args.stage.now mid c.seek_arms.new.stage site false (cond_in (tree_of nodes arm.cond)) (block_made_of nodes arm.body.items) rest_of c.seek_arms.result c.in-None.ensures.stays.count c.in-None.ensures.sought c.seek_arms.ensures.sought)

pub seek_while-returns-in_err-flow-clause-sought : goal.seek_while-returns-in_err-flow-clause-sought
seek_while-returns-in_err-flow-clause-sought t c =
    let nodes = c.args.t.now in
    let level = length c.args.below.now in
    let site = site_of nodes c.args.s in
    let head = head_made (tree_of nodes) (inner_of nodes c.args.s.0) c.args.it.head.now in
    let body = block_made_of nodes c.args.it.body.now.items in
    let P : Option Flow → Type 0 = λ found. SoughtIn nodes level c.args.point.at (done_seen c.args.point.done) (made_of nodes c.args.s) c.args.stage.now found c.seek_block.new.stage in
    subst P (sym c.from_residual.ensures) (sought_like nodes level c.args.point.at (done_seen c.args.point.done) (made_of nodes c.args.s) (λ rest. loop site head body rest) c.args.stage.now c.seek_block.new.stage None c.requires.made
    (not_inside nodes level c.args.point.at (done_seen c.args.point.done) c.args.stage.now site head body c.seek_block.new.stage c.in_err-flow.ensures.sought))

pub seek_while-returns-in-Again-clause-sought : goal.seek_while-returns-in-Again-clause-sought
seek_while-returns-in-Again-clause-sought t c =
    let nodes = c.args.t.now in
    let level = length c.args.below.now in
    let site = site_of nodes c.args.s in
    let head = head_made (tree_of nodes) (inner_of nodes c.args.s.0) c.args.it.head.now in
    let body = block_made_of nodes c.args.it.body.now.items in
    let mid = c.seek_block.new.stage in
    let new = c.close_round.new.stage in
    sought_like nodes level c.args.point.at (done_seen c.args.point.done) (made_of nodes c.args.s) (λ rest. loop site head body rest) c.args.stage.now c.run_rounds.new.stage (Some c.run_rounds.result) c.requires.made
    (inside_again nodes level c.args.point.at (done_seen c.args.point.done) c.args.stage.now site head body c.in_ok-flow.flow mid new c.close_round.result c.in_ok-flow.ensures.sought
    (λ rest behind o h. c.close_round.ensures.rounds level (place_of nodes c.args.s.0) (inner_of nodes c.args.s.0) body rest behind o h) c.in-Again.is c.run_rounds.result c.run_rounds.new.stage
    (rounds_moved nodes level (length c.seek_block.new.below) site head body new c.run_rounds.new.stage c.run_rounds.result c.in_ok-flow.ensures.stays.count c.run_rounds.ensures.runs))

pub seek_while-returns-in-Ends-clause-sought : goal.seek_while-returns-in-Ends-clause-sought
seek_while-returns-in-Ends-clause-sought t c =
    let nodes = c.args.t.now in
    let level = length c.args.below.now in
    let site = site_of nodes c.args.s in
    let head = head_made (tree_of nodes) (inner_of nodes c.args.s.0) c.args.it.head.now in
    let body = block_made_of nodes c.args.it.body.now.items in
    let mid = c.seek_block.new.stage in
    let new = c.close_round.new.stage in
    sought_like nodes level c.args.point.at (done_seen c.args.point.done) (made_of nodes c.args.s) (λ rest. loop site head body rest) c.args.stage.now new (Some c.in-Ends.flow) c.requires.made
    (inside_ends nodes level c.args.point.at (done_seen c.args.point.done) c.args.stage.now site head body c.in_ok-flow.flow mid new c.close_round.result c.in_ok-flow.ensures.sought
    (λ rest behind o h. c.close_round.ensures.rounds level (place_of nodes c.args.s.0) (inner_of nodes c.args.s.0) body rest behind o h) _ c.in-Ends.is)

pub seek_arms-loop-i-preserved : goal.seek_arms-loop-i-preserved
seek_arms-loop-i-preserved t c =
    let l = c.loop-i in
    let nodes = c.args.t.now in
    let level = length c.args.below.now in
    let done = done_seen c.args.point.done in
    let mid = c.seek_block.new.stage in
    let less : l.i < length c.args.it.arms.now = omega (arith, c.loop-i-test.true) in
    let none = block_moved nodes level (length l.below) c.args.point.at done (block_made_of nodes (get_or c.args.it.arms.now l.i c.index-it-i.result).body.items) c.args.stage.now l.stage None mid l.invariant.stays.count l.invariant.same c.in_default.ensures.sought in
    record {
      so_far = λ found new one. l.invariant.so_far found new (after_arm nodes level c.args.point.at done c.args.stage.now (site_of nodes c.args.s) c.args.it.arms.now c.args.it.otherwise.now l.i c.index-it-i.result mid less none found new one);
      same = (none stop).1;
      stays = stays_on c.args.below.now l.below c.seek_block.new.below c.args.stage.now l.stage mid l.invariant.stays c.in_default.ensures.stays;
      ready = ready_after nodes l.below c.seek_block.new.below l.stage mid l.invariant.ready c.in_default.ensures.stays;
    }

pub seek_arms-returns-in-Some-clause-sought : goal.seek_arms-returns-in-Some-clause-sought
seek_arms-returns-in-Some-clause-sought t c =
    let l = c.loop-i in
    let nodes = c.args.t.now in
    let level = length c.args.below.now in
    let done = done_seen c.args.point.done in
    let new = c.seek_block.new.stage in
    let found = c.in-Some.flow in
    let less : l.i < length c.args.it.arms.now = omega (arith, c.loop-i-test.true) in
    let one = block_moved nodes level (length l.below) c.args.point.at done _ c.args.stage.now l.stage (Some found) new l.invariant.stays.count l.invariant.same c.in-Some.ensures.sought in
    l.invariant.so_far (Some found) new (in_arm nodes level c.args.point.at done c.args.stage.now (site_of nodes c.args.s) c.args.it.arms.now c.args.it.otherwise.now l.i c.index-it-i.result found new less one)

pub seek_arms-returns-in_err-block-clause-sought : goal.seek_arms-returns-in_err-block-clause-sought
seek_arms-returns-in_err-block-clause-sought t c =
    let l = c.loop-i in
    let nodes = c.args.t.now in
    let level = length c.args.below.now in
    let site = site_of nodes c.args.s in
    let arms = c.args.it.arms.now in
    let other = c.args.it.otherwise.now in
    let done = done_seen c.args.point.done in
    let past : length arms ≤ l.i = omega (arith, c.loop-i-test.false) in
    let P : Option Flow → Type 0 = λ found. SoughtBlock nodes level c.args.point.at done (otherwise_made (tree_of nodes) (onto (stmt_makers nodes)) site (drop 1 arms) other) c.args.stage.now found l.stage in
    subst P (sym c.from_residual.ensures) (l.invariant.so_far None l.stage (no_else nodes level c.args.point.at done c.args.stage.now site arms other l.i l.stage past (sym c.in_err-block.ensures.value) l.invariant.same))

pub seek_arms-returns-clause-sought : goal.seek_arms-returns-clause-sought
seek_arms-returns-clause-sought t c =
    let l = c.loop-i in
    let nodes = c.args.t.now in
    let level = length c.args.below.now in
    let done = done_seen c.args.point.done in
    let new = c.seek_block-2.new.stage in
    let found = c.seek_block-2.result in
    let past : length c.args.it.arms.now ≤ l.i = omega (arith, c.loop-i-test.false) in
    let one = block_moved nodes level (length l.below) c.args.point.at done (block_made_of nodes c.in_ok-block.block.now.items) c.args.stage.now l.stage found new l.invariant.stays.count l.invariant.same c.seek_block-2.ensures.sought in
    l.invariant.so_far found new (in_last nodes level c.args.point.at done c.args.stage.now (site_of nodes c.args.s) c.args.it.arms.now c.args.it.otherwise.now l.i c.in_ok-block.block.now found new past (sym c.in_ok-block.ensures.value) one)

pub seek_call-returns-then-not-suspends_at-clause-sought : goal.seek_call-returns-then-not-suspends_at-clause-sought
seek_call-returns-then-not-suspends_at-clause-sought t c =
    let nodes = c.args.t.now in
    let at = inner_of nodes c.args.s.0 in
    let target = optional_target (tree_of nodes) c.args.call.target in
    no_point nodes (length c.args.below.now) c.args.point.at (done_seen c.args.point.done) c.args.stage.now c.args.s (call_made nodes (tree_of nodes) at target c.args.call.keep c.args.call.callee (map (tree_of nodes) c.args.call.args.now)) c.requires.made
    _ c.if-not-suspends_at.ensures (call_points nodes at target c.args.call.keep c.args.call.callee c.args.call.args.now)

pub seek_call-returns-clause-sought : goal.seek_call-returns-clause-sought
seek_call-returns-clause-sought t c =
    let nodes = c.args.t.now in
    let at = inner_of nodes c.args.s.0 in
    let target = optional_target (tree_of nodes) c.args.call.target in
    is_here nodes (length c.args.below.now) c.args.point.at (done_seen c.args.point.done) c.args.stage.now (made_of nodes c.args.s) (site_of nodes c.args.s) (call_made nodes (tree_of nodes) at target c.args.call.keep c.args.call.callee (map (tree_of nodes) c.args.call.args.now))
    c.run_call.result c.run_call.new.stage c.requires.made
    (call_points nodes at target c.args.call.keep c.args.call.callee c.args.call.args.now ∙ sym c.if-not-suspends_at.ensures) (sym c.if-not-is_at.ensures) c.run_call.ensures.runs

-- Calls through the entry table.
pub enter_method-returns-in-Some-clause-runs : goal.enter_method-returns-in-Some-clause-runs
enter_method-returns-in-Some-clause-runs t c = λ callee args there hold.
    let nodes = c.args.t.now in
    entry_refuses nodes c.requires.typed (calls_below nodes (length c.args.below.now)) callee c.args.m.0 c.args.object c.method.result.now args c.args.fit c.args.stage.now c.admit.new.stage
    c.method.ensures there (omega (arith, c.if-object-len.false, c.len.ensures)) c.in-Some.ensures.host c.in-Some.ensures.turns
    c.in-Some.status c.refuse.result (c.in-Some.ensures.table nodes) (c.refuse.ensures callee there)

pub enter_method-returns-in-None-clause-runs : goal.enter_method-returns-in-None-clause-runs
enter_method-returns-in-None-clause-runs t c = λ callee args there hold.
    let nodes = c.args.t.now in
    let calls = calls_below nodes (length c.args.below.now) in
    let less : c.args.object < length c.args.stage.now.objects.items = omega (arith, c.if-object-len.false, c.len.ensures) in
    let table = c.in-None.ensures.table nodes in
    let fits = entry_fits nodes c.requires.typed calls callee c.args.m.0 c.args.object c.method.result.now args c.args.fit c.args.stage.now c.admit.new.stage c.method.ensures there less c.in-None.ensures.host c.in-None.ensures.turns table in
    entry_enters nodes c.requires.typed calls callee c.args.m.0 c.args.object c.method.result.now args c.args.fit c.args.stage.now c.admit.new.stage c.method.ensures there less c.in-None.ensures.host c.in-None.ensures.turns
    c.run_method-ran.result c.run_method-ran.new.stage c.settle_ran.new.stage table (c.run_method-ran.ensures.runs args (hold fits))
    (c.settle_ran.ensures.ran callee (record { object = c.args.object; method = c.args.m.0; args = args }) there refl refl)

-- Bodies.
pub run_body-take_up-requires : goal.run_body-take_up-requires
run_body-take_up-requires t c =
    let stage = c.args.stage.now in
    record { room = has_room c.args.t.now stage.objects.items stage.frame.object stage.frame.method.0 (length stage.frame.locals.items) c.requires.ready.kept c.requires.known c.requires.locals }

pub run_body-seek_block-requires : goal.run_body-seek_block-requires
run_body-seek_block-requires t c =
    let nodes = c.args.t.now in
    let top = c.past-top.result in
    let known = body_known nodes c.requires.typed c.args.stage.now.frame.method.0 c.body-body.result.now c.as_slice.result.now top c.body-body.ensures c.as_slice.ensures c.past-top.ensures.least in (
      omega (arith, seek_falls (length c.args.below.now) top (length nodes.stmts) known c.requires.typed.few_stmts, c.decreases),
      (c.requires.typed, (known, (body_inside c.body-body.result.now c.as_slice.result.now top c.as_slice.ensures c.past-top.ensures.above, ready_still nodes c.args.below.now c.args.stage.now c.take_up.new.stage c.requires.ready c.in-Some.ensures.shape))),
    )

pub run_body-run_block-requires : goal.run_body-run_block-requires
run_body-run_block-requires t c =
    let nodes = c.args.t.now in
    let top = c.past-top.result in
    let stays = c.in-None-seek_block.ensures.stays in
    let known = body_known nodes c.requires.typed c.args.stage.now.frame.method.0 c.body-body.result.now c.as_slice.result.now top c.body-body.ensures c.as_slice.ensures c.past-top.ensures.least in
    let ready = ready_still nodes c.args.below.now c.args.stage.now c.take_up.new.stage c.requires.ready c.in-Some.ensures.shape in
    let sought = ready_after nodes c.args.below.now c.seek_block.new.below c.take_up.new.stage c.seek_block.new.stage ready stays in (
      omega (arith, run_falls (length c.args.below.now) (length c.seek_block.new.below) top (length nodes.stmts) stays.count known c.requires.typed.few_stmts, c.decreases),
      (c.requires.typed, (known, (body_inside c.body-body.result.now c.as_slice.result.now top c.as_slice.ensures c.past-top.ensures.above, (omega arith, ready_still nodes c.seek_block.new.below c.seek_block.new.stage c.begin.new.stage sought c.begin.ensures.shape)))),
    )

pub run_body-run_block-requires-in-None : goal.run_body-run_block-requires-in-None
run_body-run_block-requires-in-None t c =
    let nodes = c.args.t.now in
    let top = c.past-top.result in
    let known = body_known nodes c.requires.typed c.args.stage.now.frame.method.0 c.body-body.result.now c.as_slice.result.now top c.body-body.ensures c.as_slice.ensures c.past-top.ensures.least in
    let ready = ready_still nodes c.args.below.now c.args.stage.now c.take_up.new.stage c.requires.ready c.in-None.ensures.shape in (
      omega (arith, run_falls (length c.args.below.now) (length c.args.below.now) top (length nodes.stmts) refl known c.requires.typed.few_stmts, c.decreases),
      (c.requires.typed, (known, (body_inside c.body-body.result.now c.as_slice.result.now top c.as_slice.ensures c.past-top.ensures.above, (omega arith, ready_still nodes c.args.below.now c.take_up.new.stage c.begin-in-None.new.stage ready c.begin-in-None.ensures.shape)))),
    )

pub run_body-returns-in-Some-seek_block-clause-runs : goal.run_body-returns-in-Some-seek_block-clause-runs
run_body-returns-in-Some-seek_block-clause-runs t c =
    let nodes = c.args.t.now in
    let h = c.in-Some.ensures in
    body_goes_on nodes (length c.args.below.now) c.args.stage.now c.body-body.result.now c.requires.known c.body-body.ensures c.take_up.new.stage c.in-Some.at c.in-Some.done h.kept h.shape h.turns (h.world nodes)
    c.seek_block.new.stage c.in-Some-seek_block.flow c.requires.typed c.in-Some-seek_block.ensures.sought

pub run_body-returns-in-None-seek_block-clause-runs : goal.run_body-returns-in-None-seek_block-clause-runs
run_body-returns-in-None-seek_block-clause-runs t c =
    let nodes = c.args.t.now in
    let level = length c.args.below.now in
    let old = c.args.stage.now in
    let mid = c.take_up.new.stage in
    let h = c.in-Some.ensures in
    let sought = c.in-None-seek_block.ensures.sought in
    body_begins nodes level old c.body-body.result.now c.requires.known c.body-body.ensures mid (Some (c.in-Some.at, c.in-Some.done)) h.kept h.shape h.turns (h.world nodes)
    (body_not_there nodes level old c.body-body.result.now c.requires.known c.body-body.ensures mid c.in-Some.at c.in-Some.done h.kept h.shape h.turns (h.world nodes) c.seek_block.new.stage sought)
    c.seek_block.new.stage c.begin.new.stage c.run_block.new.stage c.run_block.result (length c.seek_block.new.below) (sought stop).1 c.in-None-seek_block.ensures.stays.count
    c.begin.ensures.shape c.begin.ensures.turns c.begin.ensures.vars c.run_block.ensures.runs

pub run_body-returns-in-None-clause-runs : goal.run_body-returns-in-None-clause-runs
run_body-returns-in-None-clause-runs t c =
    let nodes = c.args.t.now in
    let level = length c.args.below.now in
    let mid = c.take_up.new.stage in
    let h = c.in-None.ensures in
    body_begins nodes level c.args.stage.now c.body-body.result.now c.requires.known c.body-body.ensures mid None h.kept h.shape h.turns (h.world nodes) refl
    mid c.begin-in-None.new.stage c.run_block-in-None.new.stage c.run_block-in-None.result level refl refl
    c.begin-in-None.ensures.shape c.begin-in-None.ensures.turns c.begin-in-None.ensures.vars c.run_block-in-None.ensures.runs

-- Methods in their frames.
pub run_in-returns-then-stage-eq0-clause-runs : goal.run_in-returns-then-stage-eq0-clause-runs
run_in-returns-then-stage-eq0-clause-runs t c =
    let nodes = c.args.t.now in
    let it = method_there nodes c.requires.typed c.args.m.0 c.requires.known in
    none_left nodes (calls_below nodes (length c.args.below.now)) it.0 (record { object = c.args.object; method = c.args.m.0; args = map slot_seen c.args.frame.now.args.items }) c.args.m.0 c.args.stage.now.turns (world_on nodes c.args.stage.now) it.1 c.if-stage-eq0.true

pub run_in-leave-ran-requires-clause-room : goal.run_in-leave-ran-requires-clause-room
run_in-leave-ran-requires-clause-room t c =
    let nodes = c.args.t.now in
    let K : Frame → Type 0 = λ f. f.method.0 < length nodes.methods in
    let L : Frame → Type 0 = λ f. length f.locals.items ≡ length (locals_of nodes f.method.0) in
    let ready = c.requires.ready in
    room_after nodes c.args.below.now c.run_body-flow.new.below _ c.run_body-flow.new.stage (record { frames = ready.frames; level = ready.level; kept = ready.kept }) c.run_body-flow.ensures.stays
    (subst K (sym c.swap.ensures.x_after) c.requires.known) (subst L (sym c.swap.ensures.x_after) (ap (λ (s : Sizes). s.locals) c.requires.sizes))

pub run_in-returns-clause-runs : goal.run_in-returns-clause-runs
run_in-returns-clause-runs t c =
    let nodes = c.args.t.now in
    let stage = c.args.stage.now in
    let level = length c.args.below.now in
    let left = c.leave-ran.new.stage in
    let entered : Stage = record { frame = c.swap.new.x; objects = stage.objects; host = stage.host; turns = stage.turns - 1 } in
    let last : Stage = record { frame = c.swap-2.new.x; objects = left.objects; host = left.host; turns = left.turns } in
    let K : Frame → Type 0 = λ f. f.method.0 < length nodes.methods in
    let G : Frame → Type 0 = λ f. run_if (package_of nodes) (calls_below nodes level) (slice_get (package_of nodes).methods f.method.0) (record { object = f.object; method = f.method.0; args = map slot_seen f.args.items }) stage.turns (world_on nodes stage) ≡ ran_seen nodes c.leave-ran.result last in
    subst G c.swap.ensures.x_after
    (body_ran nodes c.requires.typed level entered c.run_body-flow.new.stage left last c.run_body-flow.result c.leave-ran.result stage.turns (subst K (sym c.swap.ensures.x_after) c.requires.known) (omega (arith, c.if-stage-eq0.false))
    c.run_body-flow.ensures.runs c.run_body-flow.ensures.stays.shape (λ level o h. c.leave-ran.ensures.ran level o h) refl refl)

-- Calls of methods in bodies.
pub run_invoke-returns-then-not-give_args-clause-runs : goal.run_invoke-returns-then-not-give_args-clause-runs
run_invoke-returns-then-not-give_args-clause-runs t c =
    let nodes = c.args.t.now in
    call_no_values nodes c.requires.typed (length c.args.below.now) c.args.stage.now c.args.s (inner_of nodes c.args.s.0) c.args.call.target c.args.call.keep c.args.call.callee c.args.m (map (tree_of nodes) c.args.call.args.now) c.requires.method c.requires.callee c.requires.made
    c.give_args.new.below c.if-not-give_args.ensures.values

pub run_invoke-returns-in-Some-clause-runs : goal.run_invoke-returns-in-Some-clause-runs
run_invoke-returns-in-Some-clause-runs t c =
    let nodes = c.args.t.now in
    call_closes nodes c.requires.typed (length c.args.below.now) c.args.stage.now c.args.s (inner_of nodes c.args.s.0) c.args.call.target c.args.call.keep c.args.call.callee c.args.m (map (tree_of nodes) c.args.call.args.now) c.requires.method c.requires.callee c.requires.made
    c.give_args.new.below c.if-not-give_args.ensures.values c.in-Some.object c.run_through-ran.new.stage c.close_call.new.stage c.run_through-ran.result c.close_call.result c.method.result.now
    (sym (c.in-Some.ensures nodes)) c.if-not-give_args.ensures.count c.run_through-ran.ensures.runs c.run_through-ran.ensures.frame c.run_through-ran.ensures.stays.fewer c.method.ensures c.close_call.ensures.closes

pub run_invoke-returns-in-None-clause-runs : goal.run_invoke-returns-in-None-clause-runs
run_invoke-returns-in-None-clause-runs t c =
    let nodes = c.args.t.now in
    call_no_receiver nodes c.requires.typed (length c.args.below.now) c.args.stage.now c.args.s (inner_of nodes c.args.s.0) c.args.call.target c.args.call.keep c.args.call.callee c.args.m (map (tree_of nodes) c.args.call.args.now) c.requires.method c.requires.callee c.requires.made
    c.give_args.new.below c.if-not-give_args.ensures.values (sym (c.in-None.ensures nodes))

-- The frame of a called method.
pub run_method-run_in-requires : goal.run_method-run_in-requires
run_method-run_in-requires t c =
    let nodes = c.args.t.now in
    let below = c.args.below.now in
    let front = c.split_at_mut-front.result.0.now in
    let back = c.split_at_mut-front.result.1.now in
    let at = c.in-Some.at in
    let d = c.index-back-0.result in
    let split = c.split_at_mut-front.ensures in
    let less = c.in-Some.ensures.within at refl in (
      omega (arith, frame_falls (length below) at (length front) split.front_len less, c.decreases),
      (
        c.requires.typed,
        (
          c.requires.known,
          (
            ready_part nodes below front c.args.stage.now at c.requires.ready less split.front_len split.front,
            sizes_there nodes below c.args.stage.now c.args.m.0 at (get_or back 0 d) c.requires.ready (sym c.in-Some.ensures.frame) less (frame_in below back at d less split.back),
          ),
        ),
      ),
    )

pub run_method-returns-in-Some-clause-runs : goal.run_method-returns-in-Some-clause-runs
run_method-returns-in-Some-clause-runs t c = λ args hold.
    let nodes = c.args.t.now in
    let below = c.args.below.now in
    let back = c.split_at_mut-front.result.1.now in
    let at = c.in-Some.at in
    let d = c.index-back-0.result in
    let split = c.split_at_mut-front.ensures in
    let less = c.in-Some.ensures.within at refl in
    called_in nodes below c.args.m.0 c.args.object at (length c.split_at_mut-front.result.0.now) (get_or back 0 d) args c.args.stage.now.turns (world_on nodes c.args.stage.now) (ran_seen nodes c.run_in.result c.run_in.new.stage)
    c.requires.ready.level (sym c.in-Some.ensures.frame) (frame_in below back at d less split.back) hold split.front_len c.run_in.ensures.runs

pub run_method-returns-in-None-clause-runs : goal.run_method-returns-in-None-clause-runs
run_method-returns-in-None-clause-runs t c = λ args hold.
    let nodes = c.args.t.now in
    no_frame nodes c.args.m.0 c.args.object args c.args.stage.now.turns (world_on nodes c.args.stage.now) (length c.args.below.now) c.requires.ready.level (sym c.in-None.ensures.frame)
