use Rattle.std.proofs.Common.{sym, ◌∙◌, ap}
use Rattle.wf_base.specs.BaseTable.{bits_of}
use Rattle.c_text.specs.CNodes.{expr_of}
use Rattle.c_text.specs.CTree.{number}
use Rattle.wf_exprs.specs.Exprs.{suffixed}
use Rattle.wf_exprs.proofs.Growing.{retell}
use Rattle.wf_exprs.proofs.RatedLaws.{recast_literal, recast_other}
use Rattle.wf_exprs.proofs.rated.recast.Goals as goal

pub returns-in-Some-clause-made : goal.returns-in-Some-clause-made
returns-in-Some-clause-made c =
    let literal = recast_literal (bits_of c.args.width) (expr_of c.args.u.now c.args.e.0) c.in-Some.n (sym c.small_literal.ensures ∙ c.in-Some.is) in
    retell _ _ _ c.put.result (ap number (c.suffixed.ensures.is ∙ ap (λ ty. suffixed ty c.in-Some.n) c.calculated.ensures) ∙ sym literal) c.put.ensures.made

pub returns-in-None-clause-made : goal.returns-in-None-clause-made
returns-in-None-clause-made c = retell _ _ _ c.cast.result (sym (recast_other (bits_of c.args.width) (expr_of c.args.u.now c.args.e.0) (sym c.small_literal.ensures ∙ c.in-None.is))) c.cast.ensures.made
