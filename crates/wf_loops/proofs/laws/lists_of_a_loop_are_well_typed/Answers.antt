use Rattle.wf_loops.proofs.LawLemmas.{well-head_list, well-body_list, well-exit_list, well-after_list}
use Rattle.wf_loops.proofs.laws.lists_of_a_loop_are_well_typed.Goals as goal

pub returns-clause-at_head : goal.returns-clause-at_head
returns-clause-at_head k c head well = well-head_list c head well

pub returns-clause-in_body : goal.returns-clause-in_body
returns-clause-in_body k c head fs well h = well-body_list c head well fs h

pub returns-clause-at_exit : goal.returns-clause-at_exit
returns-clause-at_exit k c head fs well h = well-exit_list c head well fs h

pub returns-clause-after : goal.returns-clause-after
returns-clause-after k c head well = well-after_list c head well
