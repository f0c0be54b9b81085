use Rattle.std.proofs.Common.{◌∙◌}
use Rattle.wf_named.specs.NamedTrees.{expr_trees, type_at}
use Rattle.wf_types_exprs.proofs.TypeLemmas.{declared_found}
use Rattle.wf_types_exprs.proofs.whole.judge_type.Goals as goal

pub returns-clause-found : goal.returns-clause-found
returns-clause-found c =
    c.tell_place.ensures ∙ declared_found c.args.here.now.around.now c.args.found.now c.judge_written.new.found c.args.role (type_at (expr_trees c.args.here.now.nodes.now.exprs) c.args.of.now) c.in_ok-written.written c.in_ok-written.ensures
