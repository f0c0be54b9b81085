use Rattle.std.proofs.Common.{◌≡◌, ◌<◌, ℕ, length, ap, ◌∙◌, arith}
use Rattle.std.specs.Prelude.{nat_eq}
use Rattle.wf_facts_exprs.specs.NumberedSets.{words_at}
use Rattle.wf_facts_exprs.proofs.NumberedLemmas.{words_read}
use Rattle.wf_facts_exprs.proofs.NumberedLemmas.{marks-from, marks-one}
use Rattle.wf_facts_exprs.proofs.numbered.Sets.insert.Goals as goal

pub returns : goal.returns
returns c =
    let used = c.use_up_to.new.list.items in
    let within : c.args.at < length used = omega (arith, c.use_up_to.ensures.many) in
    let same : (k : ℕ) → words_at used k ≡ words_at c.args.self.now k = λ k. c.use_up_to.ensures.same k ∙ ap (λ sets. words_at sets k) c.self.view_is in
    marks-from c.args.n (λ k. nat_eq k c.args.at) c.args.self.now used _ same
    (marks-one c.args.n used c.args.at _ c.insert.new.self within (words_read used c.args.at c.index_mut.result.now within c.index_mut.ensures.value) c.insert.ensures)
