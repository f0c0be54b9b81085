use Rattle.wf_facts.proofs.marking.mark_side.Goals as goal

pub returns-in-Expr : goal.returns-in-Expr
returns-in-Expr c = rw c.in-Expr.is c.mark_number.ensures

pub returns-in-Sum : goal.returns-in-Sum
returns-in-Sum c = rw c.in-Sum.is c.mark_sum.ensures

pub returns-in-Length : goal.returns-in-Length
returns-in-Length c = rw c.in-Length.is c.mark_length.ensures
