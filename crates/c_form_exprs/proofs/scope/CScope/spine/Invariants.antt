use Rattle.std.proofs.Common.{◌<◌, ◌≤◌, length}
use Rattle.c_form_exprs.specs.Spines.{Spine}
use Rattle.c_form_exprs.proofs.scope.CScope.spine.Given as goal

abbrev pub invariant-loop-of : goal.invariant-loop-of
invariant-loop-of l =
    (l.at.0 < length l.self.front.nodes.exprs) × (l.at.0 ≤ l.fn.e.0) × Spine l.self.front.nodes l.fn.e l.links.items l.at

abbrev pub decreases-loop-of : goal.decreases-loop-of
decreases-loop-of l = l.at.0
