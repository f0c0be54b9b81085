use Rattle.std.proofs.Common.{◌≡◌, drop, Some}
use Rattle.wf_ast.specs.TypedTrees.{operator_kind}
use Rattle.wf_types_operators.specs.Working.{numbers, folded, capped_by}
use Rattle.wf_types_operators.proofs.values.joined.Given as goal

abbrev pub invariant-loop-o : goal.invariant-loop-o
invariant-loop-o l =
    folded (capped_by (operator_kind l.op)) l.so_far (numbers (drop l.o-index l.others)) ≡ folded (capped_by (operator_kind l.op)) (Some l.first) (numbers l.others)
