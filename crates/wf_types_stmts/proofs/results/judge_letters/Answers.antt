use Rattle.std.proofs.Common.{◌≡◌, ◌∙◌, [], drop, sym, ap, arith}
use Rattle.std.proofs.lemmas.List.{drop_all}
use Rattle.wf_named.specs.NamedTrees.{expr_trees, letters_at}
use Rattle.wf_types_rules.specs.Parts.{letters_parts}
use Rattle.wf_types_exprs.specs.Judged.{judged}
use Rattle.wf_types_exprs.proofs.JudgedLaws.{judged-none}
use Rattle.wf_types_stmts.proofs.StatementLemmas.{letter_next}
use Rattle.wf_types_stmts.proofs.results.judge_letters.Goals as goal

pub loop-one-preserved : goal.loop-one-preserved
loop-one-preserved c =
    let l = c.loop-one in
    letter_next c.args.here.now.around.now c.args.here.now.nodes.now.texts (expr_trees c.args.here.now.nodes.now.exprs) c.args.given.now l.one-index _ c.loop-one-test.true l.found _ c.in_ok-judge_letter.ensures ∙ l.invariant

pub returns : goal.returns
returns c =
    let s = c.args.here.now.around.now in
    let es = expr_trees c.args.here.now.nodes.now.exprs in
    let l = c.loop-one in
    let over : drop l.one-index c.args.given.now ≡ [] = drop_all l.one-index c.args.given.now (omega (arith, c.loop-one-test.false)) in
    judged-none s l.found ∙ sym (ap (λ gs. judged s l.found (letters_parts (letters_at c.args.here.now.nodes.now.texts es gs))) over) ∙ l.invariant
