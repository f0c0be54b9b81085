use Rattle.wf_names_rules.proofs.walk_exprs.walk_struct.Goals as goal

pub returns : goal.returns
returns c = λ known scope. c.used.ensures _ _ (c.unknown_struct.ensures known scope)
