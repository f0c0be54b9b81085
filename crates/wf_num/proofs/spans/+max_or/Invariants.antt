use Rattle.wf_num.proofs.spans.+max_or.Given as goal

abbrev pub decreases-max_or : goal.decreases-max_or
decreases-max_or l = l.k
