-- The typed tree of a resolved package.
use Rattle.std.specs.Prelude.{ℕ, ◌+◌, List, [], ◌∷◌, ◌++◌, map, option_map, unwrap_or, codes}
use Rattle.wf_ast.specs.declared.types.Ty.{Ty}
use Rattle.wf_ast.specs.declared.types.Ty.TheVariants as types
use Rattle.wf_ast.specs.BaseStatuses.{base_statuses}
use Rattle.wf_ast.specs.TypedPackage.{Variable, StructTree, MethodTree, PackageTree}
use Rattle.wf_ast.specs.WellTyped.{Context}
use Rattle.wf_named.specs.NamedTree.{NamedTypeTree, VarTree, NamedStructTree, NamedMethodTree, NamedPackageTree}
use Rattle.wf_types_rules.specs.declared.settings.Role.{Role}
use Rattle.wf_types_rules.specs.declared.settings.Role.TheVariants as roles
use Rattle.wf_types_rules.specs.DeclaredTypes.{declared, for_types, in_method}
use Rattle.wf_typed_tree.specs.ElaboratedStmts.{count_block, block_tree}

-- A caller sees the first byte of a status text, the package's name, a colon and a space, and the rest.
abbrev pub seen_text : (package_name text : List ℕ) → List ℕ
seen_text package_name [] = []
seen_text package_name (byte ∷ rest) = byte ∷ (package_name ++ (codes ": " ++ rest))

-- A type as it is declared. One that breaks a rule stands as any.
abbrev pub type_declared : NamedPackageTree → Role → NamedTypeTree → Ty
type_declared p role t = unwrap_or (declared (for_types p) role t) types.Flag

abbrev pub typed_variable : NamedPackageTree → Role → VarTree → Variable
typed_variable p role x = record { name = x.name.text; ty = type_declared p role x.of }

abbrev pub typed_struct : NamedPackageTree → NamedStructTree → StructTree
typed_struct p it = record { name = it.name.text; public = it.public; fields = map (typed_variable p roles.Field) it.fields }

-- A method, `n` being the number of the first statement in its body.
abbrev pub typed_method : NamedPackageTree → (n : ℕ) → NamedMethodTree → MethodTree
typed_method p n m =
    record {
      name = m.name.text;
      of = m.of;
      public = m.public;
      mark = m.mark;
      args = map (typed_variable p roles.Arg) m.args;
      locals = map (typed_variable p roles.Local) m.locals;
      gives = option_map (type_declared p (roles.Result m.mark)) m.gives;
      body = block_tree (in_method p m) [] n m.body;
    }

-- Statements are numbered throughout the package.
abbrev pub typed_methods : NamedPackageTree → (n : ℕ) → List NamedMethodTree → List MethodTree
typed_methods p n [] = []
typed_methods p n (m ∷ ms) = typed_method p n m ∷ typed_methods p (n + count_block m.body) ms

-- How many statements stand in methods.
abbrev pub count_methods : List NamedMethodTree → ℕ
count_methods [] = 0
count_methods (m ∷ ms) = count_block m.body + count_methods ms

-- The typed tree of a package. Constants have gone: each stands as its number where it is named.
unfoldable pub typed_package : NamedPackageTree → PackageTree
typed_package p =
    record {
      package_name = p.package_name;
      statuses = base_statuses ++ map (λ w. seen_text p.package_name w.text) p.statuses;
      structs = map (typed_struct p) p.structs;
      methods = typed_methods p 0 p.methods;
      order = p.order;
      struct_order = p.struct_order;
    }

-- What stands round the typed body of a method.
abbrev pub context_of : NamedPackageTree → (n : ℕ) → NamedMethodTree → Context
context_of p n m = record { within = typed_package p; method = typed_method p n m }
