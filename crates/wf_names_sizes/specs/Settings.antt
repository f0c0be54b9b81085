-- What is known along a walk over a package, and what its sizes are made of.
use Rattle.std.specs.Prelude.{◌≡◌, map}
use Rattle.wf_names_rules.specs.Declarations.{Declared, declared_in}
use Rattle.wf_names_rules.specs.ConstantValues.{known_constants}
use Rattle.wf_names_scopes.specs.Agreeing.{TellsPackage}
use Rattle.wf_names_sizes.specs.declared.setting.Setting.{Setting}
use Rattle.wf_names_sizes.specs.declared.tables.SizeTables.{SizeTables}
use Rattle.wf_names_sizes.specs.StructSizes.{row_of}
use Rattle.wf_names_sizes.specs.ValuesBy.{Knows}

-- The tables tell the package, and the values are those of its constants.
pub record TellsSetting (setting : Setting) : Type 0 where
  pub knows : Knows setting.constants.now (known_constants (declared_in setting.parsed.now))
  pub tables : TellsPackage (declared_in setting.parsed.now) setting.tables.now

-- These are the values of a package's constants, and the fields of its structs.
pub record TellsSizes (d : Declared) (sizes : SizeTables) : Type 0 where
  pub constants : Knows sizes.constants (known_constants d)
  pub structs : sizes.structs.items ≡ map (row_of d) d.structs
