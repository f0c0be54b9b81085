use Rattle.std.proofs.Common.{◌≤◌, length, sym, ◌∙◌, arith, rules}
use Rattle.wf_ast.specs.TypedInvariant.{parts_of}
use Rattle.wf_ast.proofs.SameLaws.{number_first, number_second, heads_differ, counts_differ, part_differs, part_same, all_parts_same, part_below}
use Rattle.wf_ast.proofs.sameness.+same.Goals as goal

-- One of the two is a constant number.
pub returns-in_default : goal.returns-in_default
returns-in_default t c =
    number_first c.args.t.now c.args.a c.args.b c.expr-one.result.now c.expr-other.result.now
    (record { tree = c.expr-one.ensures.made; kinds = c.expr-one.ensures.kinds; parts = c.expr-one.ensures.parts })
    (record { tree = c.expr-other.ensures.made; kinds = c.expr-other.ensures.kinds; parts = c.expr-other.ensures.parts })
    c.in_default.field-0-0 (sym c.constant.ensures ∙ c.in_default.is-0) (sym c.constant-2.ensures ∙ c.in_default.is-1)

pub returns-in_default-2 : goal.returns-in_default-2
returns-in_default-2 t c =
    number_second c.args.t.now c.args.a c.args.b c.expr-one.result.now c.expr-other.result.now
    (record { tree = c.expr-one.ensures.made; kinds = c.expr-one.ensures.kinds; parts = c.expr-one.ensures.parts })
    (record { tree = c.expr-other.ensures.made; kinds = c.expr-other.ensures.kinds; parts = c.expr-other.ensures.parts })
    c.in_default.field-0-1 (sym c.constant.ensures ∙ c.in_default.is-0) (sym c.constant-2.ensures ∙ c.in_default.is-1)

pub returns-then-not-same_head : goal.returns-then-not-same_head
returns-then-not-same_head t c =
    heads_differ c.args.t.now c.args.a c.args.b c.expr-one.result.now c.expr-other.result.now
    (record { tree = c.expr-one.ensures.made; kinds = c.expr-one.ensures.kinds; parts = c.expr-one.ensures.parts })
    (record { tree = c.expr-other.ensures.made; kinds = c.expr-other.ensures.kinds; parts = c.expr-other.ensures.parts })
    (sym c.constant.ensures ∙ c.in-None-None.is-0) (sym c.constant-2.ensures ∙ c.in-None-None.is-1) c.type_of.result c.type_of-2.result c.type_of.ensures c.type_of-2.ensures (sym c.if-not-same_head.ensures)

pub returns-then-parts : goal.returns-then-parts
returns-then-parts t c =
    let m = c.parts.ensures in
    let n = c.parts-2.ensures in
    let h = c.if-parts.true in
    counts_differ c.args.t.now c.args.a c.args.b c.expr-one.result.now c.expr-other.result.now
    (record { tree = c.expr-one.ensures.made; kinds = c.expr-one.ensures.kinds; parts = c.expr-one.ensures.parts })
    (record { tree = c.expr-other.ensures.made; kinds = c.expr-other.ensures.kinds; parts = c.expr-other.ensures.parts })
    (sym c.constant.ensures ∙ c.in-None-None.is-0) (sym c.constant-2.ensures ∙ c.in-None-None.is-1) (λ e. h (m ∙ e ∙ sym n))

pub same-requires : goal.same-requires
same-requires t c =
    let p = part_below (parts_of c.expr-one.result.now) c.args.a.0 c.loop-i.i c.part.result c.expr-one.ensures.below c.part.ensures in
    let q = part_below (parts_of c.expr-other.result.now) c.args.b.0 c.loop-i.i c.part-in-loop-i.result c.expr-other.ensures.below c.part-in-loop-i.ensures in
    (search (rules, p), (omega (arith, p, c.requires.first), omega (arith, q, c.requires.second)))

pub returns-then-not-same : goal.returns-then-not-same
returns-then-not-same t c =
    part_differs c.args.t.now c.args.a c.args.b c.expr-one.result.now c.expr-other.result.now
    (record { tree = c.expr-one.ensures.made; kinds = c.expr-one.ensures.kinds; parts = c.expr-one.ensures.parts })
    (record { tree = c.expr-other.ensures.made; kinds = c.expr-other.ensures.kinds; parts = c.expr-other.ensures.parts })
    (sym c.constant.ensures ∙ c.in-None-None.is-0) (sym c.constant-2.ensures ∙ c.in-None-None.is-1) c.loop-i.i c.part.result c.part-in-loop-i.result c.part.ensures c.part-in-loop-i.ensures c.loop-i.invariant (sym c.if-not-same.ensures)

pub loop-i-preserved : goal.loop-i-preserved
loop-i-preserved t c =
    part_same c.args.t.now c.args.a c.args.b c.expr-one.result.now c.expr-other.result.now
    (record { tree = c.expr-one.ensures.made; kinds = c.expr-one.ensures.kinds; parts = c.expr-one.ensures.parts })
    (record { tree = c.expr-other.ensures.made; kinds = c.expr-other.ensures.kinds; parts = c.expr-other.ensures.parts })
    (sym c.constant.ensures ∙ c.in-None-None.is-0) (sym c.constant-2.ensures ∙ c.in-None-None.is-1) c.loop-i.i c.part.result c.part-in-loop-i.result c.part.ensures c.part-in-loop-i.ensures c.loop-i.invariant (sym c.if-not-same.ensures)

pub returns : goal.returns
returns t c =
    let d = c.parts-i-end.ensures in
    let b = c.loop-i-test.false in
    let long : length (parts_of c.expr-one.result.now) ≤ c.loop-i.i = omega (arith, b, d) in
    all_parts_same c.args.t.now c.args.a c.args.b c.expr-one.result.now c.expr-other.result.now
    (record { tree = c.expr-one.ensures.made; kinds = c.expr-one.ensures.kinds; parts = c.expr-one.ensures.parts })
    (record { tree = c.expr-other.ensures.made; kinds = c.expr-other.ensures.kinds; parts = c.expr-other.ensures.parts })
    (sym c.constant.ensures ∙ c.in-None-None.is-0) (sym c.constant-2.ensures ∙ c.in-None-None.is-1) c.type_of.result c.type_of-2.result c.type_of.ensures c.type_of-2.ensures (sym c.if-not-same_head.ensures)
    (sym c.parts.ensures ∙ c.if-parts.false ∙ c.parts-2.ensures) c.loop-i.i long c.loop-i.invariant
