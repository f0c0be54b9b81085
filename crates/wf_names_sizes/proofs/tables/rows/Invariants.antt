use Rattle.std.proofs.Common.{◌≡◌, ◌++◌, drop, map}
use Rattle.wf_ast.specs.ParsedTrees.{decl_trees}
use Rattle.wf_names_rules.specs.Declarations.{structs_of, declared_in}
use Rattle.wf_names_sizes.specs.StructSizes.{row_of}
use Rattle.wf_names_sizes.proofs.tables.rows.Given as goal

abbrev pub invariant-loop-number : goal.invariant-loop-number
invariant-loop-number l =
    l.rows.items ++ map (row_of (declared_in l.setting.parsed.now)) (structs_of (drop l.number (decl_trees l.setting.parsed.now.exprs l.setting.parsed.now.stmts l.setting.parsed.now.decls)))
    ≡ map (row_of (declared_in l.setting.parsed.now)) (structs_of (decl_trees l.setting.parsed.now.exprs l.setting.parsed.now.stmts l.setting.parsed.now.decls))
