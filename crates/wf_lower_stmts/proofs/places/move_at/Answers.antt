use Rattle.std.proofs.Common.{sym, true, false}
use Rattle.c_text.specs.CNodes.{code_of}
use Rattle.wf_lower_stmts.specs.BodyNodes.{form_in, picks}
use Rattle.wf_lower_stmts.proofs.HereLaws.{place_done, retell_code, code_here}
use Rattle.wf_lower_stmts.proofs.places.move_at.Goals as goal

pub returns-then-is_done-clause-made : goal.returns-then-is_done-clause-made
returns-then-is_done-clause-made c =
    let b = c.args.b.now in
    retell_code _ _ _ c.move_one.result
    (sym (place_done b.nodes (form_in b).names (picks b.nodes c.args.picked) (code_of c.args.u.now c.args.rest.0) c.args.n c.args.way c.args.n b.method.args c.argument_type-ty.result true c.argument_type-ty.ensures.is (sym c.if-is_done.ensures)))
    c.move_one.ensures.made

pub returns-else-is_done-clause-made : goal.returns-else-is_done-clause-made
returns-else-is_done-clause-made c =
    let b = c.args.b.now in
    code_here _ _ c.args.rest.0 c.requires.rest
    (place_done b.nodes (form_in b).names (picks b.nodes c.args.picked) (code_of c.args.u.now c.args.rest.0) c.args.n c.args.way c.args.n b.method.args c.argument_type-ty.result false c.argument_type-ty.ensures.is (sym c.if-is_done.ensures))
