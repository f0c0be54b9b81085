use Rattle.std.proofs.Common.{[], refl}
use Rattle.wf_typed_tree.specs.ElaboratedPackage.{typed_package}
use Rattle.wf_typed_limit_laws.specs.StructBytes.{nothing, plain, part}
use Rattle.wf_typed_limit_laws.specs.Examples.{inner}
use Rattle.wf_typed_limit_laws.proofs.examples.a_small_package.Goals as goal

pub returns-clause-structs : goal.returns-clause-structs
unfolding typed_package
returns-clause-structs c = refl

pub returns-clause-inner : goal.returns-clause-inner
returns-clause-inner c = plain _ _ 2 409 refl (plain _ _ 1 408 refl (plain _ _ 8 400 refl (plain _ [] 400 0 refl nothing)))

pub returns-clause-outer : goal.returns-clause-outer
returns-clause-outer c =
    plain _ _ 8 419 refl (part _ [] (record { 0 = 0 }) inner 411 0 refl refl (plain _ _ 2 409 refl (plain _ _ 1 408 refl (plain _ _ 8 400 refl (plain _ [] 400 0 refl nothing)))) nothing)
