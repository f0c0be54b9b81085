use Rattle.std.proofs.Common.{[], refl}
use Rattle.wf_typed_tree.specs.ElaboratedPackage.{typed_package}
use Rattle.wf_typed_limit_laws.specs.StructBytes.{nothing, plain}
use Rattle.wf_typed_limit_laws.proofs.LargeExample.{none-breaks, one-more}
use Rattle.wf_typed_limit_laws.proofs.examples.the_largest_struct.Goals as goal

pub returns-clause-structs : goal.returns-clause-structs
unfolding typed_package
returns-clause-structs c = refl

pub returns-clause-bytes : goal.returns-clause-bytes
returns-clause-bytes c = plain _ _ 524288 524288 refl (plain _ [] 524288 0 refl nothing)

pub returns-clause-passes : goal.returns-clause-passes
returns-clause-passes c = none-breaks

pub returns-clause-one_byte_more : goal.returns-clause-one_byte_more
returns-clause-one_byte_more c = one-more
