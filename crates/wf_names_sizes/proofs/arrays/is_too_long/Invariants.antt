use Rattle.std.proofs.Common.{◌≡◌, drop}
use Rattle.wf_ast.specs.ParsedTrees.{expr_trees, core_at, all_prefixed, type_at}
use Rattle.wf_names_sizes.specs.ValuesBy.{value_in}
use Rattle.wf_names_sizes.specs.LongArrays.{is_long_by}
use Rattle.wf_names_sizes.proofs.arrays.is_too_long.Given as goal

abbrev pub invariant-loop-prefix : goal.invariant-loop-prefix
invariant-loop-prefix l =
    is_long_by (value_in l.env) (all_prefixed (expr_trees l.env.parsed.now.exprs) (drop l.prefix-index l.of.prefixes) (core_at (expr_trees l.env.parsed.now.exprs) l.of.core l.of.bounds))
    ≡ is_long_by (value_in l.env) (type_at (expr_trees l.env.parsed.now.exprs) l.of)
