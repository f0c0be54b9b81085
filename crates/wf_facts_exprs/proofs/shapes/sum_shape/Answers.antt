use Rattle.std.proofs.Common.{sym, ◌∙◌}
use Rattle.wf_ast.specs.TypedTrees.{num_in, tree_of}
use Rattle.wf_facts_exprs.proofs.ShapeLemmas.{varies_seen, sum-alike-left, sum-alike-right}
use Rattle.wf_facts_exprs.proofs.shapes.sum_shape.Goals as goal

pub returns-in-Some-None-clause-alike : goal.returns-in-Some-None-clause-alike
returns-in-Some-None-clause-alike c =
    sum-alike-right (num_in (tree_of c.args.t.now c.args.a)) (num_in (tree_of c.args.t.now c.args.b))
    (varies_seen c.args.t.now c.args.b c.expr-right.result.now (record { tree = c.expr-right.ensures.made; kinds = c.expr-right.ensures.kinds; parts = c.expr-right.ensures.parts }) (sym c.constant-2.ensures ∙ c.in-Some-None.is-1))

pub returns-in-None-Some-clause-alike : goal.returns-in-None-Some-clause-alike
returns-in-None-Some-clause-alike c =
    sum-alike-left (num_in (tree_of c.args.t.now c.args.a)) (num_in (tree_of c.args.t.now c.args.b))
    (varies_seen c.args.t.now c.args.a c.expr-left.result.now (record { tree = c.expr-left.ensures.made; kinds = c.expr-left.ensures.kinds; parts = c.expr-left.ensures.parts }) (sym c.constant.ensures ∙ c.in-None-Some.is-0))

pub returns-in-None-None-clause-alike : goal.returns-in-None-None-clause-alike
returns-in-None-None-clause-alike c =
    sum-alike-left (num_in (tree_of c.args.t.now c.args.a)) (num_in (tree_of c.args.t.now c.args.b))
    (varies_seen c.args.t.now c.args.a c.expr-left.result.now (record { tree = c.expr-left.ensures.made; kinds = c.expr-left.ensures.kinds; parts = c.expr-left.ensures.parts }) (sym c.constant.ensures ∙ c.in-None-None.is-0))
