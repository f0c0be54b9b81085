use Rattle.std.proofs.Common.{◌∙◌}
use Rattle.wf_ast.specs.TypedTrees.{operator_kind, tree_of}
use Rattle.wf_ast.specs.NodeKinds.{node_number}
use Rattle.wf_bounds_stmts.proofs.StepLemmas.{chain-two, chain-more}
use Rattle.wf_bounds_stmts.proofs.stepping.step_by_chain.Goals as goal

pub returns-in-len2 : goal.returns-in-len2
returns-in-len2 c = λ at signs ty num fits.
    let t = c.args.t.now in
    c.step_by_two.ensures ∙ chain-two (node_number t c.args.target) t (tree_of t) at ty num signs (operator_kind c.args.op) c.args.parts.now _ fits c.in-len2.len_at_least c.in-len2.len_below

pub returns-in_default-2 : goal.returns-in_default-2
returns-in_default-2 c = λ at signs ty num fits.
    let t = c.args.t.now in
    chain-more (node_number t c.args.target) c.requires.variable t (tree_of t) at ty num signs (operator_kind c.args.op) c.args.parts.now fits c.in_default.len_at_least
