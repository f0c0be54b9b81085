use Rattle.std.proofs.Common.{ap, sym, ◌∙◌, Some}
use Rattle.wf_facts_exprs.specs.Knowledge.{told}
use Rattle.wf_ast.specs.TypedTrees.{tree_of, type_of_node}
use Rattle.wf_facts_exprs.specs.Claims.{claims_in}
use Rattle.wf_bounds_stmts.proofs.LimitLemmas.{no-range, number-range}
use Rattle.wf_bounds_stmts.proofs.limits.range_where_number.Goals as goal

pub range_of-requires-clause-fine : goal.range_of-requires-clause-fine
range_of-requires-clause-fine c =
    let it = number-range (claims_in c.args.t.now (told c.args.facts.now)) c.type_of.result (type_of_node c.args.t.now c.args.e.0) (tree_of c.args.t.now c.args.e) c.type_of.ensures (sym c.is_number.ensures ∙ c.if-is_number.true) c.look_at.ensures in
    sym it.1 ∙ c.requires.fine

pub returns-then-is_number : goal.returns-then-is_number
returns-then-is_number c =
    let it = number-range (claims_in c.args.t.now (told c.args.facts.now)) c.type_of.result (type_of_node c.args.t.now c.args.e.0) (tree_of c.args.t.now c.args.e) c.type_of.ensures (sym c.is_number.ensures ∙ c.if-is_number.true) c.look_at.ensures in
    ap (λ r. Some r) c.range_of.ensures.range ∙ sym it.0

pub returns-else-is_number : goal.returns-else-is_number
returns-else-is_number c =
    sym (no-range (claims_in c.args.t.now (told c.args.facts.now)) c.type_of.result (type_of_node c.args.t.now c.args.e.0) (tree_of c.args.t.now c.args.e) c.type_of.ensures (sym c.is_number.ensures ∙ c.if-is_number.false) c.look_at.ensures)
