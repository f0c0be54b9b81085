use Rattle.std.proofs.Common.{◌≡◌, ◌≤◌, length}
use Rattle.wf_parse_grammar.specs.Building.{ends}
use Rattle.wf_parse_nodes.specs.Makers.{made, IsSound, KeepsTexts}
use Rattle.wf_parse.specs.Machines.{size}
use Rattle.wf_parse.proofs.machine.Machine.finish.Given as goal

abbrev pub invariant-loop-want : goal.invariant-loop-want
invariant-loop-want l = record {
  sound : IsSound l.self.maker;
  goes_on : ends l.fn.self.wants (made l.fn.self.maker) ≡ ends l.self.wants (made l.self.maker);
  texts : KeepsTexts l.fn.self.maker.package l.self.maker.package;
  size : size l.self ≤ size l.fn.self;
}

abbrev pub decreases-loop-want : goal.decreases-loop-want
decreases-loop-want l = length l.self.wants
