use Rattle.std.proofs.Common.{ap, sym}
use Rattle.wf_ast.specs.ParsedTrees.{expr_trees, core_at}
use Rattle.wf_names_sizes.specs.StructSizes.{capped}
use Rattle.wf_names_sizes.proofs.PartLemmas.{deep_bytes}
use Rattle.wf_names_sizes.proofs.parts.plain_bytes.Goals as goal
use Rattle.wf_names_rules.specs.Declarations.{declared_in}

pub returns-in_default : goal.returns-in_default
returns-in_default c =
    let es = expr_trees c.args.setting.now.parsed.now.exprs in
    ap capped (sym (deep_bytes (declared_in c.args.setting.now.parsed.now) es c.args.of.now.prefixes (core_at es c.args.of.now.core c.args.of.now.bounds) (rw c.as_slice.ensures at c.in_default.len_at_least)))
