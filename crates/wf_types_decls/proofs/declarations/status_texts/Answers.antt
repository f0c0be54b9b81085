use Rattle.std.proofs.Common.{◌∙◌, ◌∷◌, ◌++◌, [], ◌≤◌, refl, sym, ap, length, map, arith}
use Rattle.std.proofs.lemmas.List.{append-nil}
use Rattle.wf_named.specs.NamedTree.{Word}
use Rattle.wf_named.specs.NamedTrees.{word_at, text_or}
use Rattle.wf_types_decls.proofs.DeclarationLemmas.{all_passed, known_next}
use Rattle.wf_types_decls.proofs.declarations.status_texts.Goals as goal

pub loop-text-init : goal.loop-text-init
loop-text-init c = ap (λ b. b ++ map (λ (w : Word). w.text) (map (word_at c.args.nodes.now.texts) c.args.nodes.now.statuses)) c.in_ok-all.ensures

pub loop-text-preserved : goal.loop-text-preserved
loop-text-preserved c =
    let l = c.loop-text in
    known_next (word_at c.args.nodes.now.texts) c.statuses-text-items.result.now c.args.nodes.now.statuses c.statuses-text-items.ensures.all l.text-index _ _ refl c.loop-text-test.true (λ (w : Word). w.text) l.all c.in_ok-all-2.all
    (c.in_ok-all-2.ensures ∙ ap (λ b. l.all ++ b ∷ []) (sym (ap text_or c.text.ensures))) ∙ l.invariant

pub returns : goal.returns
returns c =
    let l = c.loop-text in
    let past : length c.statuses-text-items.result.now ≤ l.text-index = omega (arith, c.loop-text-test.false) in
    sym (append-nil l.all)
    ∙ sym (ap (λ ns. l.all ++ map (λ (w : Word). w.text) (map (word_at c.args.nodes.now.texts) ns)) (all_passed c.statuses-text-items.result.now c.args.nodes.now.statuses l.text-index c.statuses-text-items.ensures.all past))
    ∙ l.invariant
