use Rattle.std.proofs.Common.{◌≡◌, ℕ, ◌<◌, Some}
use Rattle.wf_mean_runs.specs.Calls.{frame_of}
use Rattle.wf_mean_runs.proofs.calls.frame_of.Given as goal

-- What is found so far is found among the first frames.
abbrev pub invariant-loop-i : goal.invariant-loop-i
invariant-loop-i l = record {
  found : l.found ≡ frame_of l.t l.i l.m.0;
  within : (at : ℕ) → l.found ≡ Some at → at < l.i;
}
