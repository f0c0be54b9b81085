use Rattle.std.proofs.Common.{◌∙◌, Bool, ap}
use Rattle.c_text.specs.CTree.{ExprTree}
use Rattle.wf_exprs.proofs.Growing.{grows_on}
use Rattle.wf_lower_stmts.specs.BodyNodes.{form_in}
use Rattle.wf_lower_stmts.specs.Statements.{next_byte, with_byte}
use Rattle.wf_lower_stmts.proofs.HereLaws.{retell_code}
use Rattle.wf_lower_blocks.proofs.awaiting.hold_next.Goals as goal

pub returns-clause-grows : goal.returns-clause-grows
returns-clause-grows c = grows_on (grows_on c.next_byte.ensures.grows c.with_byte.ensures.grows) c.set_held.ensures.grows

pub returns-clause-made : goal.returns-clause-made
returns-clause-made c =
    let value = c.in_ok-more.ensures.made.is
    ∙ ap (λ (e : ExprTree). with_byte c.is_big_endian.result e) c.in_ok-byte.ensures.made.is
    ∙ ap (λ (big : Bool). with_byte big (next_byte (form_in c.args.b.now).names c.args.a)) c.is_big_endian.ensures in
    let rest = (grows_on c.next_byte.ensures.grows c.with_byte.ensures.grows).stmts _ c.requires.rest in
    retell_code _ _ _ c.set_held.result (cc (value, rest)) c.set_held.ensures.made
