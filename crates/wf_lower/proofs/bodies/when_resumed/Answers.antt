use Rattle.std.proofs.Common.{◌∙◌, sym}
use Rattle.c_text.specs.CNodes.{code_of}
use Rattle.wf_lower_stmts.specs.Forms.{resume_local}
use Rattle.wf_lower_stmts.proofs.HereLaws.{code_here, retell_code}
use Rattle.wf_lower.proofs.BodyLaws.{when_empty, when_full, when_same}
use Rattle.wf_lower.proofs.bodies.when_resumed.Goals as goal

pub returns-then-is_empty-clause-made : goal.returns-then-is_empty-clause-made
returns-then-is_empty-clause-made c = code_here _ _ c.args.rest.0 c.requires.rest (when_empty resume_local (code_of c.args.u.now c.args.body.0) (code_of c.args.u.now c.args.rest.0) (sym c.if-is_empty.ensures))

pub returns-clause-made : goal.returns-clause-made
returns-clause-made c =
    retell_code _ _ _ c.when.result
    (when_same resume_local _ c.args.body.0 c.args.rest.0 c.variable.ensures.grows c.in_ok-test.ensures.made c.requires.body c.requires.rest ∙ sym (when_full resume_local (code_of c.args.u.now c.args.body.0) (code_of c.args.u.now c.args.rest.0) (sym c.if-is_empty.ensures)))
    c.when.ensures.made
