use Rattle.wf_lower_stmts.proofs.walks.+number_stays.Given as goal

abbrev pub decreases-number_stays : goal.decreases-number_stays
decreases-number_stays l = l.e.0
