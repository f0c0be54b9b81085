use Rattle.std.proofs.Common.{◌≡◌, length, sym, ap, arith}
use Rattle.std.proofs.lemmas.Grind.{common_steps}
use Rattle.wf_facts_exprs.specs.Sets.{members, unmarked}
use Rattle.wf_facts_exprs.proofs.SetLemmas.{all_stay}
use Rattle.wf_facts.proofs.DropLemmas.{AreOver-left}
use Rattle.wf_facts.proofs.indexed.Indexed.drop_set.Goals as goal

pub returns-clause-over : goal.returns-clause-over
returns-clause-over c nodes over =
    let p : c.self.inside.list.items ≡ c.args.self.now.list = ap (λ f. f.list) c.self.view_is in
    let left : c.truncate.new.self.items ≡ unmarked (members c.args.dropped.now.words (length c.args.self.now.list)) c.args.self.now.list = grind (arith, common_steps, p) in
    let count : c.len-n.result ≡ length c.args.self.now.list = grind (arith, common_steps, p) in
    AreOver-left nodes c.args.self.now _ c.args.dropped.now.words c.truncate.new.self.items c.move_places.new.self c.move_places-2.new.self c.move_places-3.new.self c.len-n.result c.self.view_is
    count left c.move_places.ensures c.move_places-2.ensures c.move_places-3.ensures over

pub returns-then-first-n-clause-list : goal.returns-then-first-n-clause-list
returns-then-first-n-clause-list c =
    let p : c.self.inside.list.items ≡ c.args.self.now.list = ap (λ f. f.list) c.self.view_is in
    let count : c.len-n.result ≡ length c.args.self.now.list = grind (arith, common_steps, p) in
    sym (all_stay c.args.dropped.now.words (length c.args.self.now.list) c.args.self.now.list (λ k h. c.first-first.ensures.before k (omega arith) (omega (arith, h, count, c.if-first-n.true))))
