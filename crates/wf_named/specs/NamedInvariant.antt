-- What holds of the nodes of every resolved package.
use Rattle.std.specs.Prelude.{◌≡◌, true}
use Rattle.wf_named.specs.NamedParts.{NamedParts, named_package}
use Rattle.wf_named.specs.WellNamed.{well_named}
use Rattle.wf_named.specs.Grammar.{package_by_grammar}
use Rattle.wf_named.specs.NamedStatementPlaces.{named_bodies_rise}

-- The package keeps what the rules of names leave true, is as the grammar gives, and the statements of each method stand in
-- order of place.
pub record IsNamed (nodes : NamedParts) : Type 0 where
  pub names : well_named (named_package nodes) ≡ true
  pub grammar : package_by_grammar (named_package nodes) ≡ true
  pub rises : named_bodies_rise (named_package nodes) ≡ true
