use Rattle.std.proofs.lemmas.Result.{err_from_is_err_and}
use Rattle.wf_bounds.specs.WalkNodes.{all_round}
use Rattle.wf_bounds.proofs.ComingLemmas.{single_goes, single_stops, refused}
use Rattle.wf_bounds.proofs.StandingLemmas.{may_pass, few_at, receiver_at}
use Rattle.wf_bounds.proofs.passing.pass_stmt.Goals as goal

pub pass-requires-clause-placed : goal.pass-requires-clause-placed
pass-requires-clause-placed c =
    let walk = c.args.walk.now in
    (all_round walk.t.now walk.m.0, may_pass walk.t.now c.requires.ready.typed walk.m.0 c.requires.ready.known c.args.s c.requires.known c.requires.stands c.requires.single)

pub pass-requires-clause-few : goal.pass-requires-clause-few
pass-requires-clause-few c = few_at c.args.walk.now.t.now c.requires.ready.typed c.args.walk.now.m.0 c.requires.ready.known

pub pass-requires-clause-receiver : goal.pass-requires-clause-receiver
pass-requires-clause-receiver c = receiver_at c.args.walk.now.t.now c.requires.ready.typed c.args.s c.requires.known

pub returns-then-branch-clause-comes : goal.returns-then-branch-clause-comes
returns-then-branch-clause-comes c =
    let walk = c.args.walk.now in
    let it = may_pass walk.t.now c.requires.ready.typed walk.m.0 c.requires.ready.known c.args.s c.requires.known c.requires.stands c.requires.single in
    let p = rw c.if-branch.true at (c.in_ok-pass.ensures.passes (all_round walk.t.now walk.m.0) it) in
    single_goes _ _ _ _ p.0 p.1 p.2

pub returns-else-branch-clause-comes : goal.returns-else-branch-clause-comes
returns-else-branch-clause-comes c =
    let walk = c.args.walk.now in
    let it = may_pass walk.t.now c.requires.ready.typed walk.m.0 c.requires.ready.known c.args.s c.requires.known c.requires.stands c.requires.single in
    let p = rw c.if-branch.false at (c.in_ok-pass.ensures.passes (all_round walk.t.now walk.m.0) it) in
    single_stops _ _ _ p.0 p.1

pub returns-in_err-pass-clause-comes : goal.returns-in_err-pass-clause-comes
returns-in_err-pass-clause-comes c =
    let r = err_from_is_err_and c.from_residual.result c.from_residual.ensures.1 in
    let walk = c.args.walk.now in
    let it = may_pass walk.t.now c.requires.ready.typed walk.m.0 c.requires.ready.known c.args.s c.requires.known c.requires.stands c.requires.single in
    rw (r.1, r.2) (refused _ _ _ (c.in_err-pass.ensures.passes (all_round walk.t.now walk.m.0) it))
