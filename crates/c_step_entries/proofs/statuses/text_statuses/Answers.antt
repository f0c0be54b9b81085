use Rattle.std.proofs.Common.{◌≡◌, ℕ, List, map, ap, ◌∙◌}
use Rattle.std.specs.Prelude.{vec_items}
use Rattle.wf_text.specs.Surface.{Surface}
use Rattle.c_text.specs.CNodes.{unit_tree}
use Rattle.c_meaning.specs.CCall.{program_of}
use Rattle.c_step_entries.specs.Known.{known_status}
use Rattle.c_step_entries.proofs.StatusLemmas.{told}
use Rattle.c_step_entries.proofs.statuses.text_statuses.Goals as goal

pub returns : goal.returns
returns c =
    let same : map vec_items c.as_slice.result.now ≡ c.args.surface.now.statuses = ap (map vec_items) c.as_slice.ensures.value ∙ ap (λ (s : Surface). s.statuses) c.surface.view_is in
    told (program_of (unit_tree c.args.formed.now)) c.args.surface.now c.in_ok-table.table c.statuses_by.result
    (λ text. c.in_ok-table.ensures text ∙ ap (λ (all : List (List ℕ)). known_status all text) same) (rw (← c.unit.ensures) c.statuses_by.ensures)
