use Rattle.wf_typed_tree.proofs.BlockLaws.{package-keeps}
use Rattle.wf_typed_tree.proofs.laws.typed_packages_keep_the_rules.Goals as goal

pub returns : goal.returns
returns c p none named g = package-keeps p none named g
