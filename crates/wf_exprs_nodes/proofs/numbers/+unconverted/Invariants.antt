use Rattle.wf_exprs_nodes.proofs.numbers.+unconverted.Given as goal

abbrev pub decreases-unconverted : goal.decreases-unconverted
decreases-unconverted l = l.e.0
