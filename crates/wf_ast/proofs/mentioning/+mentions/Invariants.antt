use Rattle.std.proofs.Common.{◌≡◌, drop}
use Rattle.wf_ast.specs.TypedTrees.{tree_of}
use Rattle.wf_ast.specs.TypedInvariant.{parts_of}
use Rattle.wf_ast.specs.SameNodes.{any_mentions}
use Rattle.wf_ast.proofs.mentioning.+mentions.Given as goal

abbrev pub decreases-mentions : goal.decreases-mentions
decreases-mentions l = l.e.0

-- What no part so far mentions, the parts that are left mention if any does.
abbrev pub invariant-loop-i : goal.invariant-loop-i
invariant-loop-i l = any_mentions (tree_of l.t) l.x (drop l.i (parts_of l.expr)) ≡ any_mentions (tree_of l.t) l.x (parts_of l.expr)
