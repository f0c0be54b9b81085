use Rattle.std.proofs.Common.{◌+◌, List, map, drop, subst, arith}
use Rattle.c_meaning.specs.UnitForm.{all_distinct}
use Rattle.c_form_stmts.specs.Labels.{Labelled}
use Rattle.c_form_stmts.specs.Lines.{LineTree, line_in}
use Rattle.c_form_stmts.specs.Statements.{label_names}
use Rattle.c_form_stmts.proofs.LabelLemmas.{labels_begin, next_true, next_false, next_line}
use Rattle.c_form_stmts.proofs.LineLemmas.{lines_rest}
use Rattle.c_form_stmts.proofs.labels.labels.Goals as goal

pub loop-i-init : goal.loop-i-init
loop-i-init c = record {
  labelled = labels_begin (map (line_in c.args.unit.now) c.args.lines.now) c.new-table.result c.new-table.ensures;
  within = omega arith;
  has = c.requires;
}

pub returns-then-not-branch : goal.returns-then-not-branch
returns-then-not-branch c = next_false (map (line_in c.args.unit.now) c.args.lines.now) (map (line_in c.args.unit.now) (drop (c.loop-i.i + 1) c.args.lines.now)) c.add_label.new.table c.loop-i.i (all_distinct (label_names (map (line_in c.args.unit.now) c.args.lines.now))) c.in_ok-add_label.field-0 c.if-not-branch.true (c.in_ok-add_label.ensures (map (line_in c.args.unit.now) c.args.lines.now) (map (line_in c.args.unit.now) (drop (c.loop-i.i + 1) c.args.lines.now)) (all_distinct (label_names (map (line_in c.args.unit.now) c.args.lines.now))) (subst (λ (ls : List LineTree). Labelled (map (line_in c.args.unit.now) c.args.lines.now) ls c.loop-i.table c.loop-i.i (all_distinct (label_names (map (line_in c.args.unit.now) c.args.lines.now)))) (next_line c.args.unit.now c.args.lines.now c.loop-i.i _ c.loop-i-test.true) c.loop-i.invariant.labelled))

pub loop-i-preserved : goal.loop-i-preserved
loop-i-preserved c = record {
  labelled = next_true (map (line_in c.args.unit.now) c.args.lines.now) (map (line_in c.args.unit.now) (drop (c.loop-i.i + 1) c.args.lines.now)) c.add_label.new.table c.loop-i.i (all_distinct (label_names (map (line_in c.args.unit.now) c.args.lines.now))) c.in_ok-add_label.field-0 c.if-not-branch.false (c.in_ok-add_label.ensures (map (line_in c.args.unit.now) c.args.lines.now) (map (line_in c.args.unit.now) (drop (c.loop-i.i + 1) c.args.lines.now)) (all_distinct (label_names (map (line_in c.args.unit.now) c.args.lines.now))) (subst (λ (ls : List LineTree). Labelled (map (line_in c.args.unit.now) c.args.lines.now) ls c.loop-i.table c.loop-i.i (all_distinct (label_names (map (line_in c.args.unit.now) c.args.lines.now)))) (next_line c.args.unit.now c.args.lines.now c.loop-i.i _ c.loop-i-test.true) c.loop-i.invariant.labelled));
  within = omega (arith, c.loop-i-test.true);
  has = lines_rest c.args.unit.now c.args.lines.now c.loop-i.i c.loop-i-test.true c.loop-i.invariant.has;
}
