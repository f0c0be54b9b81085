use Rattle.std.proofs.Common.{◌≡◌, ◌≤◌, drop}
use Rattle.wf_names_resolve.specs.Resolved.{loops_behind}
use Rattle.wf_names_resolve.proofs.stmt_parts.count_behind.Given as goal

abbrev pub invariant-loop-label : goal.invariant-loop-label
invariant-loop-label l = (l.count ≤ l.label-index) × (loops_behind l.text l.count (drop l.label-index l.labels) ≡ loops_behind l.text 0 l.labels)
