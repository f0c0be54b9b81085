use Rattle.std.proofs.Common.{◌≡◌, ◌+◌, ◌-◌, ◌*◌, ◌<◌, ◌≤◌, drop, map, nat_lt, length}
use Rattle.wf_num.specs.Ranges.{IsSmall}
use Rattle.wf_ast.specs.TypedTrees.{place_of_node, signs_of_node}
use Rattle.wf_facts_exprs.specs.Knowledge.{told}
use Rattle.wf_facts_exprs.specs.Claims.{claims_in}
use Rattle.wf_ast.specs.TypedTrees.{num_type, type_of_node}
use Rattle.wf_ast.specs.NodeKinds.{node_number}
use Rattle.wf_facts_exprs.specs.Operands.{arith_of, chain_on, part_number, ruled}
use Rattle.wf_facts_exprs.proofs.judging.+judging.Given as goal

abbrev pub decreases-judge : goal.decreases-judge
decreases-judge l = 8 * l.e.0 + 7

abbrev pub decreases-judge_rule : goal.decreases-judge_rule
decreases-judge_rule l = 8 * l.e.0 + 6

abbrev pub decreases-judge_element : goal.decreases-judge_element
decreases-judge_element l = 8 * l.e.0 + 5

abbrev pub decreases-judge_convert : goal.decreases-judge_convert
decreases-judge_convert l = 8 * l.e.0 + 5

abbrev pub decreases-judge_answer : goal.decreases-judge_answer
decreases-judge_answer l = 8 * l.e.0 + 5

abbrev pub decreases-judge_length : goal.decreases-judge_length
decreases-judge_length l = 8 * l.e.0 + 4

abbrev pub decreases-judge_slice : goal.decreases-judge_slice
decreases-judge_slice l = 8 * l.e.0 + 6

abbrev pub decreases-judge_cut : goal.decreases-judge_cut
decreases-judge_cut l = 8 * l.e.0 + 5

abbrev pub decreases-judge_from : goal.decreases-judge_from
decreases-judge_from l = 8 * l.e.0 + 4

abbrev pub decreases-judge_up_to : goal.decreases-judge_up_to
decreases-judge_up_to l = 8 * l.e.0 + 4

abbrev pub decreases-judge_between : goal.decreases-judge_between
decreases-judge_between l = 8 * l.e.0 + 4

abbrev pub decreases-judge_chain : goal.decreases-judge_chain
decreases-judge_chain l = 8 * l.e.0 + 5

abbrev pub decreases-judge_next : goal.decreases-judge_next
decreases-judge_next l = 8 * l.part.0 + 8

-- What is left of the chain, from the range of the part so far, is what the whole chain is.
abbrev pub invariant-judge_chain-loop-i : goal.invariant-judge_chain-loop-i
invariant-judge_chain-loop-i l = record {
  from : 1 ≤ l.i;
  left : chain_on (claims_in l.t (told l.facts)) (place_of_node l.t l.e.0) (arith_of l.op) (num_type (type_of_node l.t l.e.0)).bits (nat_lt 1 l.i) (part_number l.t l.parts 0) l.r (map (node_number l.t) (drop l.i l.parts)) (drop (l.i - 1) (signs_of_node l.t l.e.0)) ≡ ruled (claims_in l.t (told l.facts)) (node_number l.t l.e);
  small : l.i < length l.parts → IsSmall l.r;
}
