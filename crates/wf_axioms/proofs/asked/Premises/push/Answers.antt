use Rattle.std.proofs.Common.{◌≡◌, true}
use Rattle.std.proofs.lemmas.List.Elements.{All-set}
use Rattle.wf_axioms.specs.Items.{is_item}
use Rattle.wf_axioms.proofs.asked.Premises.push.Goals as goal

pub returns-clause-sides : goal.returns-clause-sides
returns-clause-sides c = λ nodes h k. All-set (λ i. is_item nodes i ≡ true) c.args.self.now.items c.args.self.now.count c.args.item k h
