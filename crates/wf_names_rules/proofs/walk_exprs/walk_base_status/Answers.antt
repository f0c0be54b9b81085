use Rattle.wf_names_rules.proofs.walk_exprs.walk_base_status.Goals as goal

pub returns : goal.returns
returns c = λ known scope. c.used.ensures _ _ (c.unknown_base_status.ensures known scope)
