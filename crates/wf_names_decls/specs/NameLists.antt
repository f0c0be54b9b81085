-- The lists of names of a package.
use Rattle.std.specs.Prelude.{◌≡◌, ◌++◌}
use Rattle.wf_names_rules.specs.Declarations.{Declared}
use Rattle.wf_names_decls.specs.declared.gathering.NameLists.{NameLists}
use Rattle.wf_names_decls.specs.Gathering.{constant_names, struct_names, method_names, owner_names}

pub record AreNameLists (d : Declared) (lists : NameLists) : Type 0 where
  pub statuses : lists.statuses.items ≡ d.statuses
  pub constants : lists.constants.items ≡ constant_names d
  pub structs : lists.structs.items ≡ struct_names d
  pub methods : lists.methods.items ≡ method_names d
  pub owners : lists.owners.items ≡ owner_names d

-- Each list has the names of these declarations after what it had.
pub record GrowBy (d : Declared) (old new : NameLists) : Type 0 where
  pub statuses : new.statuses.items ≡ old.statuses.items ++ d.statuses
  pub constants : new.constants.items ≡ old.constants.items ++ constant_names d
  pub structs : new.structs.items ≡ old.structs.items ++ struct_names d
  pub methods : new.methods.items ≡ old.methods.items ++ method_names d
  pub owners : new.owners.items ≡ old.owners.items ++ owner_names d
