-- The laws of what resolving keeps, whatever the names of declarations stand for: the form that the grammar gives, and the order
-- of statements.
use Rattle.std.specs.Prelude.{◌≡◌, ℕ, true, List}
use Rattle.std.specs.List.{list_all}
use Rattle.wf_ast.specs.ParsedTree.{DeclTree}
use Rattle.wf_ast.specs.StatementPlaces.{bodies_rise}
use Rattle.wf_ast.specs.WellFormed.{well_formed}
use Rattle.wf_named.specs.Grammar.{package_by_grammar}
use Rattle.wf_named.specs.NamedStatementPlaces.{named_bodies_rise}
use Rattle.wf_names_rules.specs.Declarations.{Declared}
use Rattle.wf_names_resolve.specs.Package.{resolved_by, resolved_package}

-- Well formed declarations are resolved to a package as the grammar gives, whatever their names stand for.
abbrev pub ResolvingKeepsForm : Type 0
ResolvingKeepsForm = (d : Declared) (name : List ℕ) (decls : List DeclTree) (order struct_order : List ℕ) → list_all well_formed decls ≡ true → package_by_grammar (resolved_by d name decls order struct_order) ≡ true

-- What stands in order in a parsed tree does so in the resolved one.
abbrev pub ResolvingKeepsOrder : Type 0
ResolvingKeepsOrder = (name : List ℕ) (texts : List (List ℕ)) (decls : List DeclTree) (order struct_order : List ℕ) → bodies_rise decls ≡ true → named_bodies_rise (resolved_package name texts decls order struct_order) ≡ true
