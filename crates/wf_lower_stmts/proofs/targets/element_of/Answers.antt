use Rattle.wf_exprs.proofs.Growing.{grows_on}
use Rattle.std.proofs.Common.{ap, ◌∙◌}
use Rattle.wf_ast.specs.NodeKinds.{node_slice}
use Rattle.c_text.specs.CGrammar.{is_literal}
use Rattle.wf_lower_stmts.proofs.PointerLaws.{no_literal}
use Rattle.wf_lower_stmts.proofs.targets.element_of.Goals as goal

pub returns-clause-grows : goal.returns-clause-grows
returns-clause-grows c = grows_on (grows_on c.lower_slice.ensures.grows c.lower_number.ensures.grows) c.element.ensures.grows

pub element-requires-clause-pointer : goal.element-requires-clause-pointer
element-requires-clause-pointer c = ap is_literal (c.lower_number.ensures.grows.exprs c.in_ok-cells.cells.pointer.0 c.in_ok-cells.ensures.made.pointer.there ∙ c.in_ok-cells.ensures.made.pointer.is) ∙ no_literal c.scope.result.now.names (node_slice c.scope.result.now.nodes c.args.base)
