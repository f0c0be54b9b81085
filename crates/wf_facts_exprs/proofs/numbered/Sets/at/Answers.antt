use Rattle.std.proofs.Common.{◌<◌, ◌≤◌, length, sym, ap, ◌∙◌, arith}
use Rattle.wf_facts_exprs.specs.NumberedSets.{words_at}
use Rattle.wf_facts_exprs.proofs.NumberedLemmas.{words_beyond, words_read}
use Rattle.wf_facts_exprs.proofs.numbered.Sets.at.Goals as goal

pub returns-then-k-len : goal.returns-then-k-len
returns-then-k-len c =
    let within : c.args.k < length c.self.inside.list.items = omega arith in
    sym (words_read c.self.inside.list.items c.args.k c.index.result.now within c.index.ensures) ∙ ap (λ sets. words_at sets c.args.k) c.self.view_is

pub returns-else-k-len : goal.returns-else-k-len
returns-else-k-len c =
    let past : length c.self.inside.list.items ≤ c.args.k = omega arith in
    words_beyond c.self.inside.list.items c.args.k c.self.inside.none.words c.self.invariant.empty past ∙ ap (λ sets. words_at sets c.args.k) c.self.view_is
