use Rattle.std.proofs.Common.{◌≡◌, List, drop}
use Rattle.wf_ast.specs.ParsedTrees.{decl_trees}
use Rattle.wf_names_rules.specs.Declarations.{constants_of, declared_in}
use Rattle.wf_names_rules.specs.ConstantValues.{Valued, known_from, known_constants}
use Rattle.wf_names_sizes.specs.ValuesBy.{Knows}
use Rattle.wf_names_sizes.proofs.constants.constants.Given as goal

abbrev pub invariant-loop-number : goal.invariant-loop-number
invariant-loop-number l =
    (known : List Valued) × (Knows l.constants known × (known_from (declared_in l.parsed) known (constants_of (drop l.number (decl_trees l.parsed.exprs l.parsed.stmts l.parsed.decls))) ≡ known_constants (declared_in l.parsed)))
