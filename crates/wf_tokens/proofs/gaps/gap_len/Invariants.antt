use Rattle.std.proofs.Common.{◌≡◌, ◌≤◌, ◌-◌, ◌+◌, length, drop, false}
use Rattle.wf_tokens.proofs.GapSizes.{gap_size}
use Rattle.wf_tokens.proofs.gaps.gap_len.Given as goal

abbrev pub invariant-loop-goes_on : goal.invariant-loop-goes_on
invariant-loop-goes_on l = record {
  within : l.len ≤ length l.bytes;
  size : l.len + gap_size l.due l.inside (drop l.len l.bytes) ≡ gap_size l.due false l.bytes;
}

abbrev pub decreases-loop-goes_on : goal.decreases-loop-goes_on
decreases-loop-goes_on l = length l.initial.bytes - l.len
