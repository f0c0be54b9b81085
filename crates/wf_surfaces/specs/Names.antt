-- That the names of a typed package are texts that it has.
use Rattle.std.specs.Prelude.{ℕ, ◌<◌, List, length, All}
use Rattle.wf_ast.specs.declared.declarations.Var.{Var}
use Rattle.wf_ast.specs.declared.declarations.Method.{Method}
use Rattle.wf_ast.specs.declared.declarations.Struct.{Struct}
use Rattle.wf_ast.specs.declared.typed_nodes.TypedNodes.{TypedNodes}

abbrev pub AreNamed : (texts : ℕ) → List Var → Type 0
AreNamed texts xs = All (λ x. x.name.0 < texts) xs

abbrev pub IsNamed : (texts : ℕ) → Method → Type 0
IsNamed texts m = (m.name.0 < texts) × AreNamed texts m.args

-- Each struct, each method and each argument of a method has a name.
pub record HasNames (nodes : TypedNodes) : Type 0 where
  pub structs : All (λ (s : Struct). s.name.0 < length nodes.texts) nodes.structs
  pub methods : All (IsNamed (length nodes.texts)) nodes.methods
