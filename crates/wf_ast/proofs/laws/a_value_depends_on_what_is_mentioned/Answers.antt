use Rattle.wf_ast.proofs.Depends.{value_depends, span_depends, cond_depends}
use Rattle.wf_ast.proofs.laws.a_value_depends_on_what_is_mentioned.Goals as goal

pub returns-clause-numbers : goal.returns-clause-numbers
returns-clause-numbers k x s s' t agree h = value_depends x s s' agree t h

pub returns-clause-slices : goal.returns-clause-slices
returns-clause-slices k x s s' t agree h = span_depends x s s' agree t h

pub returns-clause-conditions : goal.returns-clause-conditions
returns-clause-conditions k x s s' t agree h = cond_depends x s s' agree t h
