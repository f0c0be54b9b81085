use Rattle.std.proofs.Common.{◌≡◌, ◌∙◌, sym, ap}
use Rattle.wf_text.specs.declared.rules.Rule.TheVariants.{B1}
use Rattle.wf_num.specs.Ranges.{fits_width}
use Rattle.wf_ast.specs.TypedTree.{ValueTree}
use Rattle.wf_ast.specs.TypedTrees.{num_in, num_type, operator_kind, first_sign, tree_of, type_of_node, place_of_node, signs_of_node}
use Rattle.wf_ast.specs.TypedInvariant.{is_expr}
use Rattle.wf_ast.specs.NodeKinds.{node_number}
use Rattle.std.proofs.Common.{length, drop, ◌-◌}
use Rattle.wf_facts_exprs.specs.Demands.{demand}
use Rattle.wf_facts_exprs.specs.Operands.{width_demand}
use Rattle.wf_facts_exprs.proofs.PassLemmas.{both_of}
use Rattle.wf_facts_exprs.proofs.JudgeLemmas.{chain-closes, closed-ok, closed-err}
use Rattle.wf_facts_exprs.proofs.judging.close_chain.Goals as goal

pub returns-then-fits-clause-answer : goal.returns-then-fits-clause-answer
returns-then-fits-clause-answer c =
    let sign = first_sign (place_of_node c.args.t.now c.args.e.0) (drop (length c.args.parts.now - 2) (signs_of_node c.args.t.now c.args.e.0)) in
    let closes =
    chain-closes c.args.t.now (tree_of c.args.t.now) (place_of_node c.args.t.now c.args.e.0) (signs_of_node c.args.t.now c.args.e.0) (type_of_node c.args.t.now c.args.e.0) (operator_kind c.args.op) c.args.parts.now c.args.r
    (both_of (is_expr c.args.t.now c.args.e) _ c.requires.node).1 c.requires.fits in
    let here : width_demand (node_number c.args.t.now c.args.e) c.args.r ≡ demand (fits_width c.args.r (num_type (type_of_node c.args.t.now c.args.e.0)).bits) B1 sign = ap (λ (t : ValueTree). width_demand (num_in t) c.args.r) c.requires.tree ∙ closes in
    closed-ok (width_demand (node_number c.args.t.now c.args.e) c.args.r) (fits_width c.args.r (num_type (type_of_node c.args.t.now c.args.e.0)).bits) sign c.args.r here
    (ap (fits_width c.args.r) (sym c.width_of-bits.ensures.bits) ∙ sym c.fits.ensures.exact ∙ c.if-fits.true)

pub returns-else-fits-clause-answer : goal.returns-else-fits-clause-answer
returns-else-fits-clause-answer c =
    let sign = first_sign (place_of_node c.args.t.now c.args.e.0) (drop (length c.args.parts.now - 2) (signs_of_node c.args.t.now c.args.e.0)) in
    let closes =
    chain-closes c.args.t.now (tree_of c.args.t.now) (place_of_node c.args.t.now c.args.e.0) (signs_of_node c.args.t.now c.args.e.0) (type_of_node c.args.t.now c.args.e.0) (operator_kind c.args.op) c.args.parts.now c.args.r
    (both_of (is_expr c.args.t.now c.args.e) _ c.requires.node).1 c.requires.fits in
    let here : width_demand (node_number c.args.t.now c.args.e) c.args.r ≡ demand (fits_width c.args.r (num_type (type_of_node c.args.t.now c.args.e.0)).bits) B1 sign = ap (λ (t : ValueTree). width_demand (num_in t) c.args.r) c.requires.tree ∙ closes in
    closed-err (width_demand (node_number c.args.t.now c.args.e) c.args.r) (fits_width c.args.r (num_type (type_of_node c.args.t.now c.args.e.0)).bits) sign c.sign_of.result c.args.r here
    (ap (fits_width c.args.r) (sym c.width_of-bits.ensures.bits) ∙ sym c.fits.ensures.exact ∙ c.if-fits.false) c.sign_of.ensures
