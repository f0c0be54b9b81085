use Rattle.std.proofs.Common.{◌∙◌, ap, sym}
use Rattle.wf_facts_exprs.specs.Claims.{claims_in}
use Rattle.wf_bounds.specs.MethodWalks.{walked_method}
use Rattle.wf_bounds.specs.WalkNodes.{walked_at, walked_listed}
use Rattle.wf_bounds.proofs.ComingLemmas.{comes_same}
use Rattle.wf_bounds.proofs.MethodLemmas.{body_stands, body_walks}
use Rattle.wf_bounds.proofs.methods.walk_method.Goals as goal

pub walk_block-requires-clause-stands : goal.walk_block-requires-clause-stands
walk_block-requires-clause-stands c = body_stands c.args.walk.now.t.now c.args.walk.now.m.0 c.requires.ready c.body.result.now c.body.ensures

pub returns-clause-comes : goal.returns-clause-comes
returns-clause-comes c =
    let walk = c.args.walk.now in
    let nodes = walk.t.now in
    let items = c.body.result.now.items in
    comes_same nodes (walked_method nodes walk.m.0 walk.sought) (walked_listed (walked_at nodes walk.m.0 walk.sought) (claims_in nodes c.args.facts.now.list) items) _ _
    (body_walks nodes walk.m.0 c.requires.ready c.body.result.now c.body.ensures walk.sought ∙ ap (λ fs. walked_listed (walked_at nodes walk.m.0 walk.sought) fs items) (sym c.requires.starts))
    c.walk_block.ensures.comes
