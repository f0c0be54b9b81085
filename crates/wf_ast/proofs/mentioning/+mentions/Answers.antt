use Rattle.std.proofs.Common.{◌≤◌, length, sym, arith, rules}
use Rattle.wf_ast.specs.TypedInvariant.{parts_of}
use Rattle.wf_ast.proofs.SameLaws.{part_below}
use Rattle.wf_ast.proofs.MentionLaws.{constant_mentions, no_constant, head_seen, part_seen, part_unseen, nothing_seen}
use Rattle.wf_ast.proofs.mentioning.+mentions.Goals as goal

pub returns-then-is_some : goal.returns-then-is_some
returns-then-is_some t c =
    constant_mentions c.args.t.now c.args.e c.expr-expr.result.now
    (record { tree = c.expr-expr.ensures.made; kinds = c.expr-expr.ensures.kinds; parts = c.expr-expr.ensures.parts }) c.args.x c.constant.result c.constant.ensures (sym c.if-is_some.ensures)

pub returns-then-is_named : goal.returns-then-is_named
returns-then-is_named t c =
    head_seen c.args.t.now c.args.e c.expr-expr.result.now
    (record { tree = c.expr-expr.ensures.made; kinds = c.expr-expr.ensures.kinds; parts = c.expr-expr.ensures.parts }) c.args.x
    (no_constant c.args.t.now c.args.e c.constant.result c.constant.ensures (sym c.if-is_some.ensures)) c.type_of.result c.type_of.ensures (sym c.if-is_named.ensures)

pub mentions-requires : goal.mentions-requires
mentions-requires t c =
    let p = part_below (parts_of c.expr-expr.result.now) c.args.e.0 c.loop-i.i c.part.result c.expr-expr.ensures.below c.part.ensures in
    (search (rules, p), omega (arith, p, c.requires))

pub returns-then-mentions : goal.returns-then-mentions
returns-then-mentions t c =
    part_seen c.args.t.now c.args.e c.expr-expr.result.now
    (record { tree = c.expr-expr.ensures.made; kinds = c.expr-expr.ensures.kinds; parts = c.expr-expr.ensures.parts }) c.args.x
    (no_constant c.args.t.now c.args.e c.constant.result c.constant.ensures (sym c.if-is_some.ensures)) c.loop-i.i c.part.result c.part.ensures c.loop-i.invariant (sym c.if-mentions.ensures)

pub loop-i-preserved : goal.loop-i-preserved
loop-i-preserved t c =
    part_unseen c.args.t.now c.args.e c.expr-expr.result.now
    (record { tree = c.expr-expr.ensures.made; kinds = c.expr-expr.ensures.kinds; parts = c.expr-expr.ensures.parts }) c.args.x
    (no_constant c.args.t.now c.args.e c.constant.result c.constant.ensures (sym c.if-is_some.ensures)) c.loop-i.i c.part.result c.part.ensures c.loop-i.invariant (sym c.if-mentions.ensures)

pub returns : goal.returns
returns t c =
    let d = c.parts-i-end.ensures in
    let b = c.loop-i-test.false in
    let long : length (parts_of c.expr-expr.result.now) ≤ c.loop-i.i = omega (arith, b, d) in
    nothing_seen c.args.t.now c.args.e c.expr-expr.result.now
    (record { tree = c.expr-expr.ensures.made; kinds = c.expr-expr.ensures.kinds; parts = c.expr-expr.ensures.parts }) c.args.x
    (no_constant c.args.t.now c.args.e c.constant.result c.constant.ensures (sym c.if-is_some.ensures)) c.type_of.result c.type_of.ensures (sym c.if-is_named.ensures) c.loop-i.i long c.loop-i.invariant
