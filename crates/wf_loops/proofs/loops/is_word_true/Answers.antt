use Rattle.std.proofs.Common.{◌∙◌, sym}
use Rattle.wf_loops.proofs.LoopLemmas.{condition_word, not_word}
use Rattle.wf_loops.proofs.loops.is_word_true.Goals as goal

pub returns-in_default : goal.returns-in_default
returns-in_default c =
    sym (condition_word c.args.t.now c.args.e c.expr.result.now c.expr.ensures.made c.expr.ensures.kinds c.requires ∙ not_word c.expr.result.now c.in_default.not-Truth)
