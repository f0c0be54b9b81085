use Rattle.std.proofs.Common.{ℕ, List, None, sym, ap, ◌∙◌}
use Rattle.std.specs.Prelude.{bytes_eq}
use Rattle.c_text.specs.CTree.{Code}
use Rattle.c_text.specs.CNodes.{expr_of, code_of}
use Rattle.c_meaning.specs.CStep.{by_name}
use Rattle.c_step_text.specs.Layout.{number_here}
use Rattle.c_step_places.specs.Marks.{marked}
use Rattle.c_step_places.specs.Places.{place_in}
use Rattle.c_step_load_stmts.proofs.LabelLemmas.{label_more, no_label, marked_none}
use Rattle.c_step_load_stmts.proofs.labels.add_label.Goals as goal

pub returns-in_ok-add-in-Label : goal.returns-in_ok-add-in-Label
returns-in_ok-add-in-Label c = λ before h.
    let tree = rw c.in-Label.is at c.stmt.ensures.tree in
    label_more c.args.table.now c.add.new.self before c.name.result.now c.args.at.number (place_in c.args.it.now.unit.now c.args.at) c.in_ok-add-in-Label.field-0 (λ q. ap (λ (code : Code). marked (by_name q) c.args.at.number code None) tree ∙ ap (λ (n : List ℕ). number_here (bytes_eq q n) c.args.at.number None) (sym c.name.ensures)) c.in_ok-add-in-Label.ensures.fresh c.in_ok-add-in-Label.ensures.added h

pub returns-in_default : goal.returns-in_default
returns-in_default c = λ before h. no_label c.args.table.now before (place_in c.args.it.now.unit.now c.args.at) (λ q. ap (λ (code : Code). marked (by_name q) c.args.at.number code None) c.stmt.ensures.tree ∙ marked_none c.args.it.now.unit.now.names (expr_of c.args.it.now.unit.now) (code_of c.args.it.now.unit.now) c.stmt.result.now c.in_default.not-Label q c.args.at.number) h
