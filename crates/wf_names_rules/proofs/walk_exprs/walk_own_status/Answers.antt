use Rattle.wf_names_rules.proofs.walk_exprs.walk_own_status.Goals as goal

pub returns : goal.returns
returns c = λ known scope. c.used.ensures _ _ (c.unknown_status.ensures known scope)
