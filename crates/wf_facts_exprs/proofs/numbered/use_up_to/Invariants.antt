use Rattle.std.proofs.Common.{◌≡◌, ◌≤◌, ◌-◌, ℕ, length, vec_capacity}
use Rattle.wf_facts_exprs.specs.NumberedSets.{words_at}
use Rattle.wf_facts_exprs.proofs.numbered.use_up_to.Given as goal

abbrev pub invariant-loop-list : goal.invariant-loop-list
invariant-loop-list l = record {
  same : (k : ℕ) → words_at l.list.items k ≡ words_at l.fn.list.items k;
  few : length l.list.items ≤ 260;
  room : vec_capacity l.list ≡ vec_capacity l.fn.list;
}

abbrev pub decreases-loop-list : goal.decreases-loop-list
decreases-loop-list l = l.many - length l.list.items
