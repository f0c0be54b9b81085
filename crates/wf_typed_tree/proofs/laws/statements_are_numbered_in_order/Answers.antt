use Rattle.wf_typed_tree.proofs.NumberingLaws.{package-numbers}
use Rattle.wf_typed_tree.proofs.laws.statements_are_numbered_in_order.Goals as goal

pub returns : goal.returns
returns c = package-numbers
