use Rattle.std.proofs.Common.{◌||◌, take}
use Rattle.wf_ast.specs.TypedTrees.{tree_of, type_of_node}
use Rattle.wf_ast.specs.TypedInvariant.{parts_of}
use Rattle.wf_ast.specs.SameNodes.{head_mentions, any_mentions}
use Rattle.wf_facts.specs.IndexedFacts.{MarksThings}
use Rattle.wf_facts.proofs.marking.+mark_expr.Given as goal

abbrev pub decreases-mark_expr : goal.decreases-mark_expr
decreases-mark_expr l = l.e.0

-- The place stands in the sets of what the node names, and of what the parts so far mention.
abbrev pub invariant-loop-i : goal.invariant-loop-i
invariant-loop-i l = MarksThings l.n (λ x. head_mentions x (type_of_node l.t l.fn.e.0) l.expr || any_mentions (tree_of l.t) x (take l.i (parts_of l.expr))) l.fn.sets l.fn.fields l.sets l.fields
