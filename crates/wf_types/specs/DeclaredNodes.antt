-- The nodes of what a package declares, before anything stands in a body.
use Rattle.std.specs.Prelude.{ℕ, List, [], ◌∷◌, ◌++◌, map, Option, option_map, unwrap_or}
use Rattle.wf_ast.specs.declared.declarations.Method.{Method}
use Rattle.wf_ast.specs.declared.declarations.Struct.{Struct}
use Rattle.wf_ast.specs.declared.declarations.Var.{Var}
use Rattle.wf_ast.specs.declared.typed_nodes.TypedNodes.{TypedNodes}
use Rattle.wf_ast.specs.declared.types.Ty.{Ty}
use Rattle.wf_ast.specs.declared.types.Ty.TheVariants as types
use Rattle.wf_ast.specs.BaseStatuses.{base_statuses}
use Rattle.wf_named.specs.declared.declarations.NamedMethod.{NamedMethod}
use Rattle.wf_named.specs.declared.declarations.NamedStruct.{NamedStruct}
use Rattle.wf_named.specs.declared.declarations.NamedVar.{NamedVar}
use Rattle.wf_named.specs.NamedParts.{NamedParts, exprs_of, stmts_of, named_package}
use Rattle.wf_named.specs.NamedTrees.{word_at, struct_made, method_made}
use Rattle.wf_types_rules.specs.declared.settings.Role.TheVariants as roles
use Rattle.wf_types_rules.specs.DeclaredTypes.{types_in, result_in}
use Rattle.wf_typed_tree.specs.ElaboratedPackage.{seen_text}

-- A type, and any where it breaks a rule.
abbrev pub type_or_flag : Option Ty → Ty
type_or_flag ty = unwrap_or ty types.Flag

-- Variables with their types, in order.
abbrev pub variable_with : NamedVar → Option Ty → Var
variable_with x ty = record { name = x.name.text; ty = type_or_flag ty; at = x.name.at }

abbrev pub variables_with : List NamedVar → List (Option Ty) → List Var
variables_with [] tys = []
variables_with (x ∷ xs) [] = []
variables_with (x ∷ xs) (ty ∷ tys) = variable_with x ty ∷ variables_with xs tys

-- A struct with the types of its fields.
abbrev pub struct_with : NamedStruct → List (Option Ty) → Struct
struct_with s tys = record { name = s.name.text; public = s.public; fields = variables_with s.fields tys; at = s.name.at }

-- A method with the types of what it declares.
abbrev pub method_with : NamedMethod → (args locals : List (Option Ty)) → (gives : Option (Option Ty)) → Method
method_with m args locals gives =
    record {
      name = m.name.text;
      of = m.of;
      public = m.public;
      mark = m.mark;
      args = variables_with m.args args;
      locals = variables_with m.locals locals;
      gives = option_map type_or_flag gives;
      at = m.name.at;
    }

-- A struct and a method of a package, with their declared types.
abbrev pub declared_struct : NamedParts → NamedStruct → Struct
declared_struct q s = struct_with s (types_in (named_package q) roles.Field (struct_made q.texts (exprs_of q) s).fields)

abbrev pub declared_method : NamedParts → NamedMethod → Method
declared_method q m =
    let it = method_made q.texts (exprs_of q) (stmts_of q) m in
    method_with m (types_in (named_package q) roles.Arg it.args) (types_in (named_package q) roles.Local it.locals) (result_in (named_package q) it)

-- The texts of all statuses, as a caller sees them.
abbrev pub seen_statuses : NamedParts → List (List ℕ)
seen_statuses q = base_statuses ++ map (λ w. seen_text q.package_name w.text) (map (word_at q.texts) q.statuses)

-- Nodes to which the name and the orders of their package aren't handed on yet.
abbrev pub without_name_and_orders : TypedNodes → TypedNodes
without_name_and_orders nodes = record nodes { «package» = []; order = []; struct_order = [] }

-- What a package declares: no expression, no statement and no body yet.
unfoldable pub declared_nodes : NamedParts → TypedNodes
declared_nodes q =
    record {
      «package» = q.package_name;
      statuses = seen_statuses q;
      texts = q.texts;
      exprs = [];
      types = [];
      constants = [];
      stmts = [];
      structs = map (declared_struct q) q.structs;
      methods = map (declared_method q) q.methods;
      bodies = [];
      first_locals = [];
      order = q.order;
      struct_order = q.struct_order;
    }
