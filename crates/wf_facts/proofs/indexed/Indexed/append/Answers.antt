use Rattle.std.proofs.Common.{◌≡◌, ◌++◌, [], ◌∷◌, length, ap, ◌∙◌, arith}
use Rattle.std.proofs.lemmas.Grind.{common_steps}
use Rattle.wf_facts.proofs.AddLemmas.{AreOver-pushed}
use Rattle.wf_facts.proofs.indexed.Indexed.append.Goals as goal

pub returns-clause-over : goal.returns-clause-over
returns-clause-over c =
    let p : c.self.inside.list.items ≡ c.args.self.now.list = ap (λ f. f.list) c.self.view_is in
    let count : c.len-n.result ≡ length c.args.self.now.list = grind (arith, common_steps, p) in
    AreOver-pushed c.args.t.now c.args.self.now _ c.args.f c.push_reserved.new.self.items c.mark.new.sets c.mark.new.fields c.insert.new.self c.len-n.result c.fact_head.result c.self.view_is
    count (c.push_reserved.ensures.items ∙ ap (λ fs. fs ++ c.args.f ∷ []) p) c.requires.fact c.mark.ensures c.insert.ensures c.fact_head.ensures.head c.requires.over
