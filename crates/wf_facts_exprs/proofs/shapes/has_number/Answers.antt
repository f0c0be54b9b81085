use Rattle.std.proofs.Common.{sym, ◌∙◌}
use Rattle.wf_ast.specs.TypedTrees.{no_place, num_in, tree_of}
use Rattle.wf_facts_exprs.proofs.ShapeLemmas.{varies_seen, varies-apart}
use Rattle.wf_facts_exprs.proofs.shapes.has_number.Goals as goal

pub returns-in-None : goal.returns-in-None
returns-in-None c =
    varies-apart (num_in (tree_of c.args.t.now c.args.e)) no_place c.args.n
    (varies_seen c.args.t.now c.args.e c.expr-expr.result.now (record { tree = c.expr-expr.ensures.made; kinds = c.expr-expr.ensures.kinds; parts = c.expr-expr.ensures.parts }) (sym c.constant.ensures ∙ c.in-None.is))
