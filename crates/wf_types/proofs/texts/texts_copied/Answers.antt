use Rattle.std.proofs.Common.{◌∙◌, ◌∷◌, ◌++◌, [], sym, ap}
use Rattle.wf_types.proofs.DeclaredLemmas.{take_next}
use Rattle.wf_types.proofs.texts.texts_copied.Goals as goal

pub loop-number-preserved : goal.loop-number-preserved
loop-number-preserved c =
    let text = c.text.result.now in
    c.in_ok-all.ensures ∙ ap (λ all. all ++ text ∷ []) c.loop-number.invariant ∙ sym (take_next c.args.nodes.now.texts c.loop-number.number text c.text.ensures)
