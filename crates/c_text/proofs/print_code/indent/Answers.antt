use Rattle.std.proofs.Common.{◌≡◌, ◌+◌, ◌-◌, ◌∙◌, ap, arith, subst, sym}
use Rattle.c_text.specs.CLayout.{indented}
use Rattle.c_text.proofs.Indents.{deeper}
use Rattle.c_text.proofs.print_code.indent.Goals as goal

pub loop-left-init : goal.loop-left-init
loop-left-init g c =
    let none : c.args.depth - c.args.depth ≡ 0 = omega arith in
    record {
      within = omega arith;
      ready = c.requires;
      writes = subst (λ n. g.P.Pen.writes c.args.pen.now c.args.pen.now (indented n)) (sym none) (g.met.P.Pen.nothing _ c.requires);
    }

pub loop-left-preserved : goal.loop-left-preserved
loop-left-preserved g c =
    let inv = c.loop-left.invariant in
    let within = inv.within in
    let more = c.loop-left-test.true in
    let done : c.args.depth - (c.loop-left.left - 8) ≡ (c.args.depth - c.loop-left.left) + 8 = omega (arith, within, more) in
    record {
      within = omega (arith, within);
      ready = c.indent_some.ensures.ready;
      writes = subst (λ bytes. g.P.Pen.writes c.args.pen.now c.indent_some.new.pen bytes) (sym (deeper (c.args.depth - c.loop-left.left) 8) ∙ ap indented (sym done)) (g.met.P.Pen.joined _ _ _ _ _ inv.writes c.indent_some.ensures.writes);
    }

pub returns-clause-writes : goal.returns-clause-writes
returns-clause-writes g c =
    let inv = c.loop-left.invariant in
    let within = inv.within in
    let whole : (c.args.depth - c.loop-left.left) + c.loop-left.left ≡ c.args.depth = omega (arith, within) in
    subst (λ bytes. g.P.Pen.writes c.args.pen.now c.indent_some-2.new.pen bytes) (sym (deeper (c.args.depth - c.loop-left.left) c.loop-left.left) ∙ ap indented whole) (g.met.P.Pen.joined _ _ _ _ _ inv.writes c.indent_some-2.ensures.writes)
