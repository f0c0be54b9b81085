use Rattle.std.proofs.Common.{◌≡◌, drop, map}
use Rattle.wf_text.specs.Precedence.{soonest}
use Rattle.wf_ast.specs.ParsedTrees.{stmt_trees, items_at, block_at}
use Rattle.wf_names_rules.specs.Declarations.{locals_of}
use Rattle.wf_names_sizes.specs.ValuesBy.{value_in}
use Rattle.wf_names_sizes.specs.LongArrays.{too_long_array_by}
use Rattle.wf_names_sizes.proofs.arrays.long_locals.Given as goal

abbrev pub invariant-loop-s : goal.invariant-loop-s
invariant-loop-s l =
    soonest l.found (map (too_long_array_by (value_in l.env)) (locals_of (items_at (stmt_trees l.env.parsed.now.exprs l.env.parsed.now.stmts) (drop l.s-index l.body.items) l.body.close)))
    ≡ soonest l.fn.found (map (too_long_array_by (value_in l.env)) (locals_of (block_at (stmt_trees l.env.parsed.now.exprs l.env.parsed.now.stmts) l.body)))
