use Rattle.std.proofs.Common.{◌≡◌, ◌<◌, ◌+◌, ◌++◌, ℕ, [], arith, false, ap, sym, ◌∙◌, subst}
use Rattle.c_text.specs.CNodes.{code_of}
use Rattle.c_form_stmts.specs.Lines.{lines_of, left_of, size_of, line_size}
use Rattle.c_form_stmts.proofs.LineLemmas.{popped_has, put_size, listed_more, first_left, all_listed, none_left}
use Rattle.c_form_stmts.proofs.lines.lines.Goals as goal

pub loop-at-init : goal.loop-at-init
loop-at-init c =
    let first = ap (λ ls. lines_of c.args.enters false (code_of c.args.unit.now c.args.body.0) ++ left_of c.args.unit.now c.args.enters ls) c.new-left.ensures.items in
    record {
      so_far = first_left c.args.unit.now c.args.enters c.new-listed.result.items c.put.new.left.items (lines_of c.args.enters false (code_of c.args.unit.now c.args.body.0)) c.new-listed.ensures.items (c.in_ok-put.ensures.lines c.args.enters ∙ first);
      has_left = c.in_ok-put.ensures.has;
      has_listed = rw c.new-listed.ensures.items tt;
    }

pub list-requires-clause-at : goal.list-requires-clause-at
list-requires-clause-at c = (popped_has c.args.unit.now c.loop-at.left.items c.pop.new.self.items c.in-Some.at c.in-Some.ensures.items c.loop-at.invariant.has_left).1

pub list-requires-clause-left : goal.list-requires-clause-left
list-requires-clause-left c = (popped_has c.args.unit.now c.loop-at.left.items c.pop.new.self.items c.in-Some.at c.in-Some.ensures.items c.loop-at.invariant.has_left).0

pub loop-at-smaller : goal.loop-at-smaller
loop-at-smaller c =
    let whole : size_of c.args.unit.now c.loop-at.left.items ≡ size_of c.args.unit.now c.pop.new.self.items + line_size c.args.unit.now c.in-Some.at = put_size c.args.unit.now c.pop.new.self.items c.loop-at.left.items c.in-Some.at c.in-Some.ensures.items in
    let falls : size_of c.args.unit.now c.list.new.left.items < size_of c.args.unit.now c.pop.new.self.items + line_size c.args.unit.now c.in-Some.at = c.in_ok-list.ensures.falls in
    let less : size_of c.args.unit.now c.list.new.left.items < size_of c.args.unit.now c.loop-at.left.items = subst (λ (m : ℕ). size_of c.args.unit.now c.list.new.left.items < m) (sym whole) falls in
    less

pub loop-at-preserved : goal.loop-at-preserved
loop-at-preserved c = record {
  so_far = listed_more c.args.unit.now c.args.enters c.loop-at.left.items c.pop.new.self.items c.list.new.left.items c.loop-at.listed.items c.list.new.listed.items c.in-Some.at (lines_of c.args.enters false (code_of c.args.unit.now c.args.body.0)) c.in-Some.ensures.items c.in_ok-list.ensures.lines c.loop-at.invariant.so_far;
  has_left = c.in_ok-list.ensures.left;
  has_listed = c.in_ok-list.ensures.listed;
}

pub returns-clause-lines : goal.returns-clause-lines
returns-clause-lines c =
    let none : c.loop-at.left.items ≡ [] = none_left c.loop-at.left.items (omega (arith, c.in_default.ensures.cases.0, c.loop-at.left.ok)) in
    all_listed c.args.unit.now c.args.enters c.loop-at.listed.items c.loop-at.left.items (lines_of c.args.enters false (code_of c.args.unit.now c.args.body.0)) none c.loop-at.invariant.so_far

pub returns-clause-has : goal.returns-clause-has
returns-clause-has c = c.loop-at.invariant.has_listed
