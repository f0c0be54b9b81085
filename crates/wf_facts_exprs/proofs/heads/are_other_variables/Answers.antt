use Rattle.wf_facts_exprs.proofs.HeadLemmas.{other_heads}
use Rattle.wf_facts_exprs.proofs.heads.are_other_variables.Goals as goal

pub returns : goal.returns
returns c told =
    other_heads c.args.t.now c.args.a c.args.b c.expr-one.result.now c.expr-other.result.now
    (record { tree = c.expr-one.ensures.made; kinds = c.expr-one.ensures.kinds; parts = c.expr-one.ensures.parts })
    (record { tree = c.expr-other.ensures.made; kinds = c.expr-other.ensures.kinds; parts = c.expr-other.ensures.parts })
    c.requires.left c.requires.right c.requires.plain (c.have_other_heads.ensures told)
