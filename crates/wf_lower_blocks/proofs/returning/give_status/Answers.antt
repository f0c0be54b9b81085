use Rattle.c_text.specs.CNodes.{code_of}
use Rattle.wf_lower_stmts.specs.BodyNodes.{form_in}
use Rattle.wf_lower_stmts.proofs.HereLaws.{retell_code}
use Rattle.wf_lower_blocks.proofs.ReturnLaws.{known_is, known_there, unknown_seen}
use Rattle.wf_lower_blocks.proofs.returning.give_status.Goals as goal

pub give_constant-requires-clause-known : goal.give_constant-requires-clause-known
give_constant-requires-clause-known c = known_there _ _ _ c.typed.ensures.same c.in-Some.ensures.some.0

pub returns-in-Some-clause-made : goal.returns-in-Some-clause-made
returns-in-Some-clause-made c =
    retell_code _ _ _ c.give_constant.result
    (known_is (form_in c.args.b.now) _ c.args.b.now.nodes c.args.e _ _ (code_of c.args.u.now c.args.rest.0) c.typed.ensures.same c.in-Some.ensures.some.1)
    c.give_constant.ensures.made

pub give_variable-requires-clause-variable : goal.give_variable-requires-clause-variable
give_variable-requires-clause-variable c = unknown_seen _ c.args.b.now.nodes c.args.e c.typed.ensures.same c.in-None.ensures.none
