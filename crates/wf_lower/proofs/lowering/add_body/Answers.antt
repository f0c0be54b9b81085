use Rattle.wf_lower_stmts.specs.BodyNodes.{started_of}
use Rattle.wf_lower.proofs.Functions.{body_push, is_body}
use Rattle.wf_lower.proofs.Known.{entry_is, entry_there}
use Rattle.wf_lower.proofs.lowering.add_body.Goals as goal

pub started-requires : goal.started-requires
started-requires c = entry_there c.args.p.now.t.now c.args.m.0 started_of c.args.p.now.started.now c.requires.ready.started c.requires.ready.typed c.requires.known

pub new-b-requires-clause-started : goal.new-b-requires-clause-started
new-b-requires-clause-started c = λ method known. entry_is c.args.p.now.t.now c.args.m.0 started_of c.args.p.now.started.now c.requires.ready.started c.started.result method c.started.ensures known

pub body_function-requires-clause-body : goal.body_function-requires-clause-body
body_function-requires-clause-body c = is_body c.args.p.now.t.now c.args.m.0 c.body.result.now c.requires.known c.body.ensures c.new-b.result c.args.p.now.points.now c.args.p.now.started.now c.requires.ready c.new-b.ensures.nodes c.new-b.ensures.numbers c.new-b.ensures.form

pub returns-clause-made : goal.returns-clause-made
returns-clause-made c = body_push _ _ c.args.p.now.t.now c.new-b.result c.args.m.0 _ _ _ c.put_into.result c.new-b.ensures.nodes c.new-b.ensures.form c.body_function.ensures.grows c.in_ok-item.ensures.made c.put_into.ensures
