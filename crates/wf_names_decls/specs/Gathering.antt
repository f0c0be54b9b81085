-- Names gathered from the declarations of a package.
use Rattle.std.specs.Prelude.{List, [], ◌∷◌, map, Option, Some, None}
use Rattle.wf_ast.specs.declared.parsed.Field.{Field}
use Rattle.wf_ast.specs.declared.parsed.Name.{Name}
use Rattle.wf_names_rules.specs.Declarations.{Declared}

-- A name that may be absent, as a list.
abbrev pub listed : {X : Type 0} → Option X → List X
listed None = []
listed (Some x) = x ∷ []

abbrev pub constant_names : Declared → List Name
constant_names d = map (λ c. c.name) d.constants

abbrev pub struct_names : Declared → List Name
struct_names d = map (λ s. s.name) d.structs

abbrev pub method_names : Declared → List Name
method_names d = map (λ m. m.name) d.methods

-- Of each method the name of its struct.
abbrev pub owner_names : Declared → List Name
owner_names d = map (λ m. m.owner) d.methods

abbrev pub field_names : List Field → List Name
field_names fields = map (λ f. f.name) fields
