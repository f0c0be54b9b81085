use Rattle.std.proofs.Common.{◌∙◌, ◌≤◌, refl, sym, ap, length, map, arith}
use Rattle.wf_named.specs.NamedTrees.{word_at}
use Rattle.wf_types_rules.specs.Parts.{status_declared}
use Rattle.wf_types_exprs.specs.Judged.{judged}
use Rattle.wf_types_exprs.proofs.JudgedLaws.{judged-none}
use Rattle.wf_types_decls.proofs.DeclarationLemmas.{all_passed, part_next}
use Rattle.wf_types_decls.proofs.declarations.judge_statuses.Goals as goal

pub loop-text-preserved : goal.loop-text-preserved
loop-text-preserved c =
    let l = c.loop-text in
    λ s.
    part_next (word_at c.args.nodes.now.texts) c.statuses-text-items.result.now c.args.nodes.now.statuses c.statuses-text-items.ensures.all l.text-index _ _ refl c.loop-text-test.true s status_declared l.found c.judge_status.new.found
    (c.judge_status.ensures s) ∙ l.invariant s

pub returns : goal.returns
returns c =
    let l = c.loop-text in
    let past : length c.statuses-text-items.result.now ≤ l.text-index = omega (arith, c.loop-text-test.false) in
    λ s.
    judged-none s l.found
    ∙ sym (ap (λ ns. judged s l.found (map status_declared (map (word_at c.args.nodes.now.texts) ns))) (all_passed c.statuses-text-items.result.now c.args.nodes.now.statuses l.text-index c.statuses-text-items.ensures.all past))
    ∙ l.invariant s
