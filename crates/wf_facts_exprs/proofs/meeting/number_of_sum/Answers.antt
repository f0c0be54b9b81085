use Rattle.std.proofs.Common.{sym, ◌∙◌}
use Rattle.wf_ast.specs.TypedTrees.{num_in, tree_of}
use Rattle.wf_facts_exprs.proofs.ShapeLemmas.{varies_seen, sum-number-left, sum-number-right}
use Rattle.wf_facts_exprs.proofs.meeting.number_of_sum.Goals as goal

pub returns-in-Some-None-clause-number : goal.returns-in-Some-None-clause-number
returns-in-Some-None-clause-number c =
    sym (sum-number-right (num_in (tree_of c.args.t.now c.args.a)) (num_in (tree_of c.args.t.now c.args.b))
    (varies_seen c.args.t.now c.args.b c.expr-right.result.now (record { tree = c.expr-right.ensures.made; kinds = c.expr-right.ensures.kinds; parts = c.expr-right.ensures.parts }) (sym c.constant-2.ensures ∙ c.in-Some-None.is-1)))

pub returns-in-None-Some-clause-number : goal.returns-in-None-Some-clause-number
returns-in-None-Some-clause-number c =
    sym (sum-number-left (num_in (tree_of c.args.t.now c.args.a)) (num_in (tree_of c.args.t.now c.args.b))
    (varies_seen c.args.t.now c.args.a c.expr-left.result.now (record { tree = c.expr-left.ensures.made; kinds = c.expr-left.ensures.kinds; parts = c.expr-left.ensures.parts }) (sym c.constant.ensures ∙ c.in-None-Some.is-0)))

pub returns-in-None-None-clause-number : goal.returns-in-None-None-clause-number
returns-in-None-None-clause-number c =
    sym (sum-number-left (num_in (tree_of c.args.t.now c.args.a)) (num_in (tree_of c.args.t.now c.args.b))
    (varies_seen c.args.t.now c.args.a c.expr-left.result.now (record { tree = c.expr-left.ensures.made; kinds = c.expr-left.ensures.kinds; parts = c.expr-left.ensures.parts }) (sym c.constant.ensures ∙ c.in-None-None.is-0)))
