use Rattle.std.proofs.Common.{◌≡◌, drop}
use Rattle.std.specs.List.{flat_map}
use Rattle.wf_text.specs.Precedence.{soonest}
use Rattle.wf_ast.specs.ParsedTrees.{decl_trees}
use Rattle.wf_names_rules.specs.Declarations.{methods_of, declared_in}
use Rattle.wf_names_scopes.specs.Agreeing.{TellMethods}
use Rattle.wf_names_sizes.specs.LongArrays.{method_longs}
use Rattle.wf_names_sizes.proofs.arrays.long_in_methods.Given as goal

abbrev pub invariant-loop-number : goal.invariant-loop-number
invariant-loop-number l =
    TellMethods l.setting.parsed.now.texts (methods_of (drop l.number (decl_trees l.setting.parsed.now.exprs l.setting.parsed.now.stmts l.setting.parsed.now.decls))) l.left
    × (soonest l.found (flat_map (method_longs (declared_in l.setting.parsed.now)) (methods_of (drop l.number (decl_trees l.setting.parsed.now.exprs l.setting.parsed.now.stmts l.setting.parsed.now.decls))))
    ≡ soonest l.fn.found (flat_map (method_longs (declared_in l.setting.parsed.now)) (methods_of (decl_trees l.setting.parsed.now.exprs l.setting.parsed.now.stmts l.setting.parsed.now.decls))))
