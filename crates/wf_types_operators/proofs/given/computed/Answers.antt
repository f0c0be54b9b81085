use Rattle.std.proofs.Common.{sym}
use Rattle.wf_ast.specs.TypedTrees.{operator_kind}
use Rattle.wf_types_operators.proofs.WorkingLemmas.{computed_is}
use Rattle.wf_types_operators.proofs.given.computed.Goals as goal

pub returns-then-are_constants : goal.returns-then-are_constants
returns-then-are_constants c =
    rw
    (computed_is (operator_kind c.args.op) c.args.os.now, sym c.are_constants.ensures, c.if-are_constants.true)
    (rw (c.constant_value.ensures, c.width_given-width.ensures) at c.constant_of.ensures)

pub returns-else-are_constants : goal.returns-else-are_constants
returns-else-are_constants c =
    rw
    (computed_is (operator_kind c.args.op) c.args.os.now, sym c.are_constants.ensures, c.if-are_constants.false)
    (rw c.width_given-width.ensures at c.number_in.ensures)
