use Rattle.std.proofs.Common.{◌∙◌, sym}
use Rattle.wf_named.specs.NamedParts.{exprs_of, named_package}
use Rattle.wf_named.specs.NamedTrees.{expr_at, call_at}
use Rattle.wf_typed_stmts.specs.Right.{known_in}
use Rattle.wf_typed_stmts.proofs.SimpleLemmas.{plain_value, answer_value}
use Rattle.wf_typed_stmts.proofs.assignments.add_right.Goals as goal

pub add_assigned-requires-clause-right : goal.add_assigned-requires-clause-right
add_assigned-requires-clause-right c =
    let es = exprs_of c.args.here.now.nodes.now in
    answer_value c.args.here.now.around.now (known_in (named_package c.args.here.now.nodes.now)) (expr_at es c.args.e) (call_at es c.in-Some.call.now) c.in-Some.ensures.call (sym c.is_answer.ensures ∙ c.if-is_answer.true) c.requires.right

pub add_assigned-requires-in-None-clause-right : goal.add_assigned-requires-in-None-clause-right
add_assigned-requires-in-None-clause-right c =
    plain_value c.args.here.now.around.now (known_in (named_package c.args.here.now.nodes.now)) (expr_at (exprs_of c.args.here.now.nodes.now) c.args.e) c.in-None.ensures.none c.requires.right
