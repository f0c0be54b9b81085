use Rattle.std.proofs.Common.{◌≡◌, ◌∙◌, [], drop, sym, ap, arith}
use Rattle.std.proofs.lemmas.List.{drop_all}
use Rattle.wf_named.specs.NamedTrees.{expr_trees, clauses_at}
use Rattle.wf_types_rules.specs.Parts.{clauses_parts}
use Rattle.wf_types_exprs.specs.Judged.{judged}
use Rattle.wf_types_exprs.proofs.JudgedLaws.{judged-none}
use Rattle.wf_types_stmts.proofs.StatementLemmas.{clause_next}
use Rattle.wf_types_stmts.proofs.results.judge_clauses.Goals as goal

pub loop-clause-preserved : goal.loop-clause-preserved
loop-clause-preserved c =
    let l = c.loop-clause in
    clause_next c.args.here.now.around.now (expr_trees c.args.here.now.nodes.now.exprs) c.args.clauses.now l.clause-index _ c.loop-clause-test.true l.found _ c.in_ok-judge_condition.ensures ∙ l.invariant

pub returns : goal.returns
returns c =
    let s = c.args.here.now.around.now in
    let es = expr_trees c.args.here.now.nodes.now.exprs in
    let l = c.loop-clause in
    let over : drop l.clause-index c.args.clauses.now ≡ [] = drop_all l.clause-index c.args.clauses.now (omega (arith, c.loop-clause-test.false)) in
    judged-none s l.found ∙ sym (ap (λ cs. judged s l.found (clauses_parts (clauses_at es cs))) over) ∙ l.invariant
