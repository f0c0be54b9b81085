use Rattle.std.proofs.Common.{◌≤◌, ◌||◌, length, take, sym, ap, ◌∙◌, arith, rules}
use Rattle.wf_ast.specs.Mentions.{mentions}
use Rattle.wf_ast.specs.TypedTrees.{tree_of, type_of_node}
use Rattle.wf_ast.specs.TypedInvariant.{parts_of}
use Rattle.wf_ast.specs.SameNodes.{head_mentions, any_mentions}
use Rattle.wf_ast.proofs.SameLaws.{part_below}
use Rattle.wf_ast.proofs.MentionLaws.{no_constant}
use Rattle.wf_facts.proofs.MarkLemmas.{any-all, any-more, none_more, things-both, things-same, node-seen, or-again}
use Rattle.wf_facts.proofs.marking.+mark_expr.Goals as goal

pub mark_expr-requires : goal.mark_expr-requires
mark_expr-requires t c =
    let p = part_below (parts_of c.expr-expr.result.now) c.args.e.0 c.loop-i.i c.part.result c.expr-expr.ensures.below c.part.ensures in
    (search (rules, p), (omega (arith, p, c.requires.node), c.requires.place))

pub loop-i-init : goal.loop-i-init
loop-i-init t c =
    let expr = c.expr-expr.result.now in
    things-same c.args.n (λ x. head_mentions x c.type_of.result expr) _ c.args.sets.now c.args.fields.now c.mark_named.new.sets c.mark_field.new.fields
    (λ x. ap (λ ty. head_mentions x ty expr) c.type_of.ensures ∙ none_more (head_mentions x (type_of_node c.args.t.now c.args.e.0) expr))
    (record { things = c.mark_named.ensures; shared = c.mark_field.ensures c.type_of.result })

pub loop-i-preserved : goal.loop-i-preserved
loop-i-preserved t c =
    let expr = c.expr-expr.result.now in
    let ty = type_of_node c.args.t.now c.args.e.0 in
    things-same c.args.n (λ x. (head_mentions x ty expr || any_mentions (tree_of c.args.t.now) x (take c.loop-i.i (parts_of expr))) || mentions (tree_of c.args.t.now c.part.result) x) _
    c.args.sets.now c.args.fields.now c.mark_expr.new.sets c.mark_expr.new.fields
    (λ x. or-again (head_mentions x ty expr) (any_mentions (tree_of c.args.t.now) x (take c.loop-i.i (parts_of expr))) (mentions (tree_of c.args.t.now c.part.result) x)
    ∙ ap (λ b. head_mentions x ty expr || b) (sym (any-more (tree_of c.args.t.now) x (parts_of expr) c.loop-i.i c.part.result c.part.ensures)))
    (things-both c.args.n _ _ c.args.sets.now c.args.fields.now c.loop-i.sets c.loop-i.fields c.mark_expr.new.sets c.mark_expr.new.fields c.loop-i.invariant c.mark_expr.ensures)

pub returns : goal.returns
returns t c =
    let expr = c.expr-expr.result.now in
    let ty = type_of_node c.args.t.now c.args.e.0 in
    let d = c.parts-i-end.ensures in
    let b = c.loop-i-test.false in
    let long : length (parts_of expr) ≤ c.loop-i.i = omega (arith, b, d) in
    things-same c.args.n (λ x. head_mentions x ty expr || any_mentions (tree_of c.args.t.now) x (take c.loop-i.i (parts_of expr))) _
    c.args.sets.now c.args.fields.now c.loop-i.sets c.loop-i.fields
    (λ x. ap (λ b. head_mentions x ty expr || b) (any-all (tree_of c.args.t.now) x (parts_of expr) c.loop-i.i long)
    ∙ sym (node-seen c.args.t.now c.args.e expr (record { tree = c.expr-expr.ensures.made; kinds = c.expr-expr.ensures.kinds; parts = c.expr-expr.ensures.parts }) x
    (no_constant c.args.t.now c.args.e c.constant.result c.constant.ensures (sym c.if-is_some.ensures))))
    c.loop-i.invariant
