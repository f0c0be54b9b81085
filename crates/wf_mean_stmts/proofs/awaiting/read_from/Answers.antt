use Rattle.std.proofs.Common.{◌∙◌, sym}
use Rattle.wf_ast.specs.TypedTrees.{optional_target, tree_of}
use Rattle.wf_mean_stmts.proofs.AwaitLemmas.{read_put, read_short, read_stuck}
use Rattle.wf_mean_stmts.proofs.awaiting.read_from.Goals as goal

pub returns-then-not-are_all-clause-steps : goal.returns-then-not-are_all-clause-steps
returns-then-not-are_all-clause-steps c = λ n here rest behind buffer h.
    let nodes = c.args.t.now in
    let got = c.gather_from-got in
    read_short _ _ n (optional_target (tree_of nodes) c.args.target) c.args.form _ _ here rest behind _ _ (got.ensures.bytes buffer h) (got.ensures.body nodes) (got.ensures.vars nodes) (sym c.are_all.ensures ∙ c.if-not-are_all.true)

pub returns-then-put_if_any-clause-steps : goal.returns-then-put_if_any-clause-steps
returns-then-put_if_any-clause-steps c = λ n here rest behind buffer h.
    let nodes = c.args.t.now in
    let got = c.gather_from-got in
    read_put _ _ n (optional_target (tree_of nodes) c.args.target) c.args.form _ _ here rest behind _ _ (got.ensures.bytes buffer h) (got.ensures.body nodes) (got.ensures.vars nodes) c.spelled.result _ (sym c.are_all.ensures ∙ c.if-not-are_all.false) c.spelled.ensures c.if-put_if_any.ensures.vars

pub returns-else-put_if_any-clause-steps : goal.returns-else-put_if_any-clause-steps
returns-else-put_if_any-clause-steps c = λ n here rest behind buffer h.
    let nodes = c.args.t.now in
    let got = c.gather_from-got in
    read_stuck _ _ n (optional_target (tree_of nodes) c.args.target) c.args.form _ _ here rest behind _ _ (got.ensures.bytes buffer h) (got.ensures.body nodes) (got.ensures.vars nodes) c.spelled.result _ (sym c.are_all.ensures ∙ c.if-not-are_all.false) c.spelled.ensures c.if-put_if_any.ensures.vars
