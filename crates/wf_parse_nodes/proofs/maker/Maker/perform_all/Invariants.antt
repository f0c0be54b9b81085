use Rattle.std.proofs.Common.{◌≡◌, ◌≤◌, ◌+◌, drop}
use Rattle.wf_parse_grammar.specs.Building.{all_performed}
use Rattle.wf_parse_nodes.specs.Makers.{made, nodes, IsSound, KeepsTexts}
use Rattle.wf_parse_nodes.proofs.maker.Maker.perform_all.Given as goal

abbrev pub invariant-loop-action : goal.invariant-loop-action
invariant-loop-action l = record {
  sound : IsSound l.self;
  made : all_performed (drop l.action-index l.actions) (made l.self) ≡ all_performed l.fn.actions (made l.fn.self);
  grows : nodes l.self ≤ nodes l.fn.self + l.action-index;
  texts : KeepsTexts l.fn.self.package l.self.package;
}
