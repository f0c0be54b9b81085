use Rattle.std.proofs.Common.{◌≡◌, map, take}
use Rattle.wf_base.specs.BaseOps.{empty_buffer}
use Rattle.wf_script.proofs.script.empty_buffers.Given as goal

abbrev pub invariant-loop-size : goal.invariant-loop-size
invariant-loop-size l = l.list ≡ map empty_buffer (take l.size-index l.sizes)
