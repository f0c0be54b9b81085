use Rattle.std.proofs.Common.{sym}
use Rattle.c_text.specs.CNodes.{bytes_at}
use Rattle.c_form_stmts.specs.Lines.{line_in}
use Rattle.c_form_stmts.proofs.LabelLemmas.{label_added}
use Rattle.c_form_stmts.proofs.labels.add_label.Goals as goal

pub returns-in-Some : goal.returns-in-Some
returns-in-Some c whole left distinct h = label_added whole (line_in c.args.unit.now c.args.at) left c.args.table.now c.add.new.self c.args.i distinct (bytes_at c.args.unit.now.names c.in-Some.name.0) c.add.result (sym c.in-Some.ensures.is) (rw (← c.name.ensures) c.add.ensures.fresh) (rw (← c.name.ensures) c.add.ensures.added) h
