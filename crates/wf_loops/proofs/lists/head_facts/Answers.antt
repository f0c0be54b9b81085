use Rattle.wf_loops.proofs.lists.head_facts.Goals as goal

pub add_promises-requires-clause-over : goal.add_promises-requires-clause-over
add_promises-requires-clause-over c = c.in_ok-facts.ensures.over c.args.t.now
