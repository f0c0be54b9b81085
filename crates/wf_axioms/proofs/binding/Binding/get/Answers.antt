use Rattle.wf_axioms.proofs.binding.Binding.get.Goals as goal

pub returns-in-A-clause-number : goal.returns-in-A-clause-number
returns-in-A-clause-number c = λ nodes h. h.a

pub returns-in-B-clause-number : goal.returns-in-B-clause-number
returns-in-B-clause-number c = λ nodes h. h.b

pub returns-in-C-clause-number : goal.returns-in-C-clause-number
returns-in-C-clause-number c = λ nodes h. h.c

pub returns-in-D-clause-number : goal.returns-in-D-clause-number
returns-in-D-clause-number c = λ nodes h. h.d

pub returns-in-B0-clause-number : goal.returns-in-B0-clause-number
returns-in-B0-clause-number c = λ nodes h. h.b0

pub returns-in-C0-clause-number : goal.returns-in-C0-clause-number
returns-in-C0-clause-number c = λ nodes h. h.c0
