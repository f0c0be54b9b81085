use Rattle.std.proofs.Common.{arith, ap, ◌∙◌, sym, ◌++◌, true, false, codes}
use Rattle.c_text.specs.CNodes.{code_of}
use Rattle.c_text.specs.CLayout.{code_text, indented}
use Rattle.pens.proofs.Progress.{shift_on}
use Rattle.c_text.proofs.Lines.{block_text, chained_text, chained_branch, line_end}
use Rattle.c_text.proofs.Trees.{code_of-node}
use Rattle.c_text.proofs.print_code.+print_code.Goals as goal

pub line-returns-in-Block-clause-writes : goal.line-returns-in-Block-clause-writes
line-returns-in-Block-clause-writes g t c =
    let j = g.met.P.Pen.joined in
    let r1 = j _ _ _ _ _ c.braces.ensures.writes c.write.ensures.writes in
    rw (code_of-node _ _ _ _ c.stmt.ensures.tree c.in-Block.is) r1

pub line-returns-in-If-clause-writes : goal.line-returns-in-If-clause-writes
line-returns-in-If-clause-writes g t c = g.met.P.Pen.joined _ _ _ _ _ c.branch_line.ensures.writes c.write-in-If.ensures.writes

pub line-returns-in-While-clause-writes : goal.line-returns-in-While-clause-writes
line-returns-in-While-clause-writes g t c =
    let j = g.met.P.Pen.joined in
    let r1 = j _ _ _ _ _ c.tested_block.ensures.writes c.write-in-While.ensures.writes in
    rw (code_of-node _ _ _ _ c.stmt.ensures.tree c.in-While.is) r1

pub line-returns-in-Switch-clause-writes : goal.line-returns-in-Switch-clause-writes
line-returns-in-Switch-clause-writes g t c =
    let j = g.met.P.Pen.joined in
    let r1 = j _ _ _ _ _ c.tested_block-in-Switch.ensures.writes c.write-in-Switch.ensures.writes in
    rw (code_of-node _ _ _ _ c.stmt.ensures.tree c.in-Switch.is) r1

pub line-returns-in-Assign-clause-writes : goal.line-returns-in-Assign-clause-writes
line-returns-in-Assign-clause-writes g t c =
    let j = g.met.P.Pen.joined in
    rw (code_of-node _ _ _ _ c.stmt.ensures.tree c.in-Assign.is, ← line_end _ (codes ";")) c.assignment.ensures.writes

pub line-returns-in-Call-clause-writes : goal.line-returns-in-Call-clause-writes
line-returns-in-Call-clause-writes g t c =
    let j = g.met.P.Pen.joined in
    rw (code_of-node _ _ _ _ c.stmt.ensures.tree c.in-Call.is, ← line_end _ (codes ";")) c.call_line.ensures.writes

pub line-returns-in-Goto-clause-writes : goal.line-returns-in-Goto-clause-writes
line-returns-in-Goto-clause-writes g t c =
    let j = g.met.P.Pen.joined in
    let r1 = j _ _ _ _ _ c.write-in-Goto.ensures.writes (rw c.name.ensures at c.write-in-Goto-2.ensures.writes) in
    let r2 = j _ _ _ _ _ r1 c.write-in-Goto-3.ensures.writes in
    rw (code_of-node _ _ _ _ c.stmt.ensures.tree c.in-Goto.is, ← line_end _ (codes ";")) r2

pub line-returns-in-Return-clause-writes : goal.line-returns-in-Return-clause-writes
line-returns-in-Return-clause-writes g t c =
    let j = g.met.P.Pen.joined in
    let r1 = j _ _ _ _ _ c.write-in-Return.ensures.writes c.returned.ensures.writes in
    let r2 = j _ _ _ _ _ r1 c.write-in-Return-2.ensures.writes in
    rw (code_of-node _ _ _ _ c.stmt.ensures.tree c.in-Return.is, ← line_end _ (codes ";")) r2

pub line-returns-in-Case-clause-writes : goal.line-returns-in-Case-clause-writes
line-returns-in-Case-clause-writes g t c =
    let j = g.met.P.Pen.joined in
    let r1 = j _ _ _ _ _ c.write-in-Case.ensures.writes c.literal.ensures.writes in
    let r2 = j _ _ _ _ _ r1 c.write-in-Case-2.ensures.writes in
    rw (code_of-node _ _ _ _ c.stmt.ensures.tree c.in-Case.is, ← line_end _ (codes ":")) r2

pub line-returns-in-Label-clause-writes : goal.line-returns-in-Label-clause-writes
line-returns-in-Label-clause-writes g t c =
    let j = g.met.P.Pen.joined in
    let r1 = j _ _ _ _ _ (rw c.name-in-Label.ensures at c.write-in-Label.ensures.writes) c.write-in-Label-2.ensures.writes in
    rw (code_of-node _ _ _ _ c.stmt.ensures.tree c.in-Label.is, ← line_end _ (codes ":")) r1

pub braces-returns-clause-writes : goal.braces-returns-clause-writes
braces-returns-clause-writes g t c =
    let j = g.met.P.Pen.joined in
    let r1 = j _ _ _ _ _ c.write.ensures.writes c.code.ensures.writes in
    let r2 = j _ _ _ _ _ r1 c.indent.ensures.writes in
    let r3 = j _ _ _ _ _ r2 c.write-2.ensures.writes in
    r3

pub tested_block-returns-clause-writes : goal.tested_block-returns-clause-writes
tested_block-returns-clause-writes g t c =
    let j = g.met.P.Pen.joined in
    let r1 = j _ _ _ _ _ c.write.ensures.writes c.expr.ensures.writes in
    let r2 = j _ _ _ _ _ r1 c.write-2.ensures.writes in
    let r3 = j _ _ _ _ _ r2 c.braces.ensures.writes in
    r3

pub branch_arm-returns-in-Block-clause-whole : goal.branch_arm-returns-in-Block-clause-whole
branch_arm-returns-in-Block-clause-whole g t c =
    let j = g.met.P.Pen.joined in
    let behind = j _ _ _ _ _ c.write.ensures.writes c.braces.ensures.writes in
    let all = j _ _ _ _ _ c.tested_block.ensures.writes behind in
    rw (block_text c.args.u.now c.args.s.0 (c.in-Some.test, c.in-Some.body, c.in-Some.otherwise, c.in-Some.other) c.args.depth c.in-Some.ensures c.in-Block.is) all

pub branch_arm-returns-in-If-clause-more : goal.branch_arm-returns-in-If-clause-more
branch_arm-returns-in-If-clause-more g t c =
    let j = g.met.P.Pen.joined in
    let all = j _ _ _ _ _ c.tested_block.ensures.writes c.write-in-If.ensures.writes in
    (c.in-Some.ensures.other, chained_branch c.args.u.now c.args.s.0 (c.in-Some.test, c.in-Some.body, c.in-Some.otherwise, c.in-Some.other) c.in-Some.ensures c.in-If.is, (_, all, chained_text c.args.u.now c.args.s.0 (c.in-Some.test, c.in-Some.body, c.in-Some.otherwise, c.in-Some.other) c.args.depth c.in-Some.ensures c.in-If.is))

pub branch_line-loop-next-preserved : goal.branch_line-loop-next-preserved
branch_line-loop-next-preserved g t c =
    let more = c.in-Some.ensures.more in
    record {
      ready = c.branch_arm.ensures.ready;
      has = omega (arith, more.0, c.loop-next.invariant.has);
      branch = more.1;
      before = omega (arith, more.0, c.loop-next.invariant.before);
      so_far = shift_on g.P.Pen.writes _ _ _ _ _ more.2.0 _ (λ x y a b. g.met.P.Pen.joined _ _ _ x y a b) c.loop-next.invariant.so_far more.2.2 more.2.1;
    }

pub code-loop-at-preserved : goal.code-loop-at-preserved
code-loop-at-preserved g t c =
    let r = g.met.P.Pen.joined _ _ _ _ _ c.indent.ensures.writes c.line-at.ensures.writes in
    record {
      ready = c.line-at.ensures.ready;
      has = omega (arith, c.line-at.ensures.below, c.loop-at.invariant.has);
      before = omega (arith, c.line-at.ensures.below, c.loop-at.invariant.before);
      so_far = shift_on g.P.Pen.writes _ _ _ _ _ _ _ (λ x y a b. g.met.P.Pen.joined _ _ _ x y a b) c.loop-at.invariant.so_far (c.line-at.ensures.rest c.args.depth ∙ ap (λ t. t ++ code_text (code_of c.args.u.now c.line-at.result.0) false c.args.depth) (sym (line_end (indented c.args.depth) (code_text (code_of c.args.u.now c.loop-at.at.0) true c.args.depth)))) r;
    }
