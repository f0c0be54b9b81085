use Rattle.std.proofs.Common.{◌≡◌, drop}
use Rattle.std.specs.List.{flat_map}
use Rattle.wf_text.specs.Precedence.{soonest}
use Rattle.wf_ast.specs.ParsedTrees.{decl_trees}
use Rattle.wf_names_rules.specs.Declarations.{structs_of, declared_in}
use Rattle.wf_names_sizes.specs.LongArrays.{struct_longs}
use Rattle.wf_names_sizes.proofs.arrays.long_in_structs.Given as goal

abbrev pub invariant-loop-number : goal.invariant-loop-number
invariant-loop-number l =
    soonest l.found (flat_map (struct_longs (declared_in l.setting.parsed.now)) (structs_of (drop l.number (decl_trees l.setting.parsed.now.exprs l.setting.parsed.now.stmts l.setting.parsed.now.decls))))
    ≡ soonest l.fn.found (flat_map (struct_longs (declared_in l.setting.parsed.now)) (structs_of (decl_trees l.setting.parsed.now.exprs l.setting.parsed.now.stmts l.setting.parsed.now.decls)))
