use Rattle.wf_axioms.proofs.binding.bind.Goals as goal

pub same_numbers-requires-clause-left : goal.same_numbers-requires-clause-left
same_numbers-requires-clause-left c = c.in-Some.ensures.number c.args.t.now c.requires.bound

pub returns-in-None-clause-numbers : goal.returns-in-None-clause-numbers
returns-in-None-clause-numbers c = c.with.ensures.numbers c.args.t.now c.requires.bound c.requires.node
