use Rattle.wf_lower_blocks.proofs.CallLaws.{called_here, own_named, renamed, spelt_seen, sub_named}
use Rattle.wf_lower_blocks.proofs.calling.callee_name.Goals as goal

pub method-callee-requires : goal.method-callee-requires
method-callee-requires c = called_here _ c.args.b.now.nodes c.typed.ensures.same c.args.called _ c.method.ensures c.requires.called

pub body_name-requires-clause-spelt : goal.body_name-requires-clause-spelt
body_name-requires-clause-spelt c = spelt_seen _ _ c.args.b.now.nodes c.typed.ensures.same c.typed-in-Own.ensures.same c.typed.ensures.words _ _ c.method-callee.ensures

pub entry_name-requires-clause-spelt : goal.entry_name-requires-clause-spelt
entry_name-requires-clause-spelt c = spelt_seen _ _ c.args.b.now.nodes c.typed.ensures.same c.typed-in-Sub.ensures.same c.typed.ensures.words _ _ c.method-callee.ensures

pub returns-in-Own-clause-made : goal.returns-in-Own-clause-made
returns-in-Own-clause-made c =
    renamed _ _ _ c.body_name.result
    (own_named _ _ c.args.b.now.nodes c.typed.ensures.same c.typed-in-Own.ensures.same c.typed.ensures.kept c.args.called _ _ c.method.ensures c.method-callee.ensures c.in-Own.field-0 c.in-Own.is)
    c.body_name.ensures.made

pub returns-in-Sub-clause-made : goal.returns-in-Sub-clause-made
returns-in-Sub-clause-made c =
    renamed _ _ _ c.entry_name.result
    (sub_named _ _ c.args.b.now.nodes c.typed.ensures.same c.typed-in-Sub.ensures.same c.typed.ensures.kept c.args.called _ _ c.method.ensures c.method-callee.ensures c.in-Sub.field c.in-Sub.method c.in-Sub.is)
    c.entry_name.ensures.made
