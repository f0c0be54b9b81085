use Rattle.wf_names_resolve.proofs.parts.named_callee.Goals as goal

pub returns-in_ok-m-in-Own : goal.returns-in_ok-m-in-Own
returns-in_ok-m-in-Own c = λ texts. rw c.in-Own.is (rw c.in_ok-m-in-Own.ensures at (c.method.ensures texts))

pub returns-in-Base : goal.returns-in-Base
returns-in-Base c = λ texts. rw c.in-Base.is (c.base_method.ensures texts)
