use Rattle.wf_axioms.proofs.binding.Binding.with.Goals as goal

pub returns-in-A-clause-numbers : goal.returns-in-A-clause-numbers
returns-in-A-clause-numbers c = λ nodes h k. record { a = k; b = h.b; c = h.c; d = h.d; b0 = h.b0; c0 = h.c0 }

pub returns-in-B-clause-numbers : goal.returns-in-B-clause-numbers
returns-in-B-clause-numbers c = λ nodes h k. record { a = h.a; b = k; c = h.c; d = h.d; b0 = h.b0; c0 = h.c0 }

pub returns-in-C-clause-numbers : goal.returns-in-C-clause-numbers
returns-in-C-clause-numbers c = λ nodes h k. record { a = h.a; b = h.b; c = k; d = h.d; b0 = h.b0; c0 = h.c0 }

pub returns-in-D-clause-numbers : goal.returns-in-D-clause-numbers
returns-in-D-clause-numbers c = λ nodes h k. record { a = h.a; b = h.b; c = h.c; d = k; b0 = h.b0; c0 = h.c0 }

pub returns-in-B0-clause-numbers : goal.returns-in-B0-clause-numbers
returns-in-B0-clause-numbers c = λ nodes h k. record { a = h.a; b = h.b; c = h.c; d = h.d; b0 = k; c0 = h.c0 }

pub returns-in-C0-clause-numbers : goal.returns-in-C0-clause-numbers
returns-in-C0-clause-numbers c = λ nodes h k. record { a = h.a; b = h.b; c = h.c; d = h.d; b0 = h.b0; c0 = k }
