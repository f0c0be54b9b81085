use Rattle.wf_num.proofs.spans.+min_or.Given as goal

abbrev pub decreases-min_or : goal.decreases-min_or
decreases-min_or l = l.k
