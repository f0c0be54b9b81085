-- Declarations as they are added: what is declared, and a package with more of them after those that it has.
use Rattle.std.specs.Prelude.{◌≡◌, Bool, List, ◌++◌, map, Option}
use Rattle.wf_ast.specs.declared.parsed.Block.{Block}
use Rattle.wf_ast.specs.declared.parsed.Field.{Field}
use Rattle.wf_ast.specs.declared.parsed.Name.{Name}
use Rattle.wf_ast.specs.declared.parsed.TypeExpr.{TypeExpr}
use Rattle.wf_ast.specs.ParsedTree.{ExprTree, StmtTree, DeclTree}
use Rattle.wf_ast.specs.ParsedTrees.{fields_at, result_at, block_at}
use Rattle.wf_named.specs.NamedTree.{Word, ConstTree, NamedStructTree, NamedMethodTree, NamedPackageTree}
use Rattle.wf_names_rules.specs.declared.tables.Tables.{Tables}
use Rattle.wf_names_rules.specs.declared.tables.Scope.{Scope as ScopeTables}
use Rattle.wf_names_rules.specs.Declarations.{Method, Declared, variables, locals_of, statuses_of, text_of}
use Rattle.wf_names_rules.specs.Uses.{Scope}
use Rattle.wf_names_scopes.specs.Agreeing.{TellsPackage, TellsScope}
use Rattle.wf_names_resolve.specs.Standing.{standing_by, standing_at}
use Rattle.wf_names_resolve.specs.Resolved.{word_of}
use Rattle.wf_names_resolve.specs.Package.{resolved_structs, resolved_methods}

-- The method that these parts of a parsed package declare.
abbrev pub method_parsed : List ExprTree → List StmtTree → Bool → (owner name : Name) → List Field → Option TypeExpr → Block → Method
method_parsed es ts public owner name args gives body =
    record {
      public = public;
      owner = owner;
      name = name;
      args = variables (fields_at es args);
      result = result_at es gives;
      locals = locals_of (block_at ts body);
      body = block_at ts body;
    }

-- With more declarations of one kind.
abbrev pub with_consts : NamedPackageTree → List ConstTree → NamedPackageTree
with_consts t more = record t { consts = t.consts ++ more }

abbrev pub with_statuses : NamedPackageTree → List Word → NamedPackageTree
with_statuses t more = record t { statuses = t.statuses ++ more }

abbrev pub with_structs : NamedPackageTree → List NamedStructTree → NamedPackageTree
with_structs t more = record t { structs = t.structs ++ more }

abbrev pub with_methods : NamedPackageTree → List NamedMethodTree → NamedPackageTree
with_methods t more = record t { methods = t.methods ++ more }

-- With what these declarations declare besides constants, each in its own scope.
abbrev pub with_others : Declared → NamedPackageTree → List DeclTree → NamedPackageTree
with_others d t decls =
    with_methods (with_structs (with_statuses t (map (word_of (text_of d)) (statuses_of decls))) (resolved_structs d decls)) (resolved_methods d decls)

-- What is looked up in tables that tell a package and a scope is what its declarations say.
abbrev pub StandsByTables : Type 0
StandsByTables = (d : Declared) (scope : Scope) (t : Tables) (s : ScopeTables) → TellsPackage d t → TellsScope d scope s → standing_by d.texts t s ≡ standing_at d scope
