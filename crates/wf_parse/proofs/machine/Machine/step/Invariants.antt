use Rattle.std.proofs.Common.{◌≤◌, length}
use Rattle.wf_parse_nodes.specs.Makers.{IsSound, KeepsTexts}
use Rattle.wf_parse.specs.Machines.{size, state_of, GoesOn}
use Rattle.wf_parse.proofs.machine.Machine.step.Given as goal

abbrev pub invariant-loop-want : goal.invariant-loop-want
invariant-loop-want l = record {
  sound : IsSound l.self.maker;
  goes_on : GoesOn l.limited l.token (state_of l.fn.self) (state_of l.self);
  texts : KeepsTexts l.fn.self.maker.package l.self.maker.package;
  size : size l.self ≤ size l.fn.self;
}

abbrev pub decreases-loop-want : goal.decreases-loop-want
decreases-loop-want l = length l.self.wants
