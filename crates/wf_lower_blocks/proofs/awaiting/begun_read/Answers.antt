use Rattle.std.proofs.Common.{sym}
use Rattle.c_text.specs.CNodes.{code_of}
use Rattle.wf_lower_stmts.specs.BodyNodes.{form_in}
use Rattle.wf_lower_stmts.proofs.HereLaws.{retell_code, code_here}
use Rattle.wf_lower_blocks.proofs.AwaitLaws.{begun_one, begun_more}
use Rattle.wf_lower_blocks.proofs.awaiting.begun_read.Goals as goal

pub returns-then-is_one_byte-clause-made : goal.returns-then-is_one_byte-clause-made
returns-then-is_one_byte-clause-made c =
    code_here _ _ c.args.rest.0 c.requires.rest (sym (begun_one (form_in c.args.b.now).names c.args.a c.args.form (code_of c.args.u.now c.args.rest.0) (sym c.if-is_one_byte.ensures)))

pub returns-else-is_one_byte-clause-made : goal.returns-else-is_one_byte-clause-made
returns-else-is_one_byte-clause-made c =
    retell_code _ _ _ c.begin_read.result (begun_more (form_in c.args.b.now).names c.args.a c.args.form (code_of c.args.u.now c.args.rest.0) (sym c.if-is_one_byte.ensures)) c.begin_read.ensures.made
