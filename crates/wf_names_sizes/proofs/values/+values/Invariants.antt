use Rattle.std.proofs.Common.{◌+◌, ◌*◌, take}
use Rattle.wf_ast.specs.ParsedTrees.{expr_trees, links_at}
use Rattle.wf_ast.specs.Above.{above_links}
use Rattle.wf_names_rules.specs.Declarations.{bytes_of}
use Rattle.wf_names_rules.specs.ConstantValues.{started}
use Rattle.wf_names_sizes.specs.Capped.{sized, ChainStays, Runs}
use Rattle.wf_names_sizes.specs.ValuesBy.{constant_by, links_by}
use Rattle.wf_names_sizes.proofs.values.+values.Given as goal

abbrev pub decreases-value : goal.decreases-value
decreases-value l = 2 * l.e.0 + 1

abbrev pub decreases-chain_value : goal.decreases-chain_value
decreases-chain_value l = 2 * above_links l.links.now

abbrev pub invariant-chain_value-loop-link : goal.invariant-chain_value-loop-link
invariant-chain_value-loop-link l =
    ChainStays l.op l.chain
    × Runs l.chain (links_by (bytes_of l.env.parsed.now.texts) (constant_by l.env) l.op (started (sized l.fn.first)) (links_at (expr_trees l.env.parsed.now.exprs) (take l.link-index l.links)))
