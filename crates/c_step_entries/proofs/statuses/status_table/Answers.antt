use Rattle.std.proofs.Common.{ℕ, if◌then◌else◌, List, map, drop, Some, sym, ap, ◌∙◌, arith}
use Rattle.std.specs.Prelude.{vec_items, bytes_eq}
use Rattle.std.proofs.lemmas.List.{length-map, take_all}
use Rattle.c_text.specs.CNodes.{bytes_at}
use Rattle.c_step_entries.specs.Known.{known_among}
use Rattle.c_step_entries.proofs.StatusLemmas.{text_at, bytes_here, table_more}
use Rattle.c_step_entries.proofs.statuses.status_table.Goals as goal

pub loop-i-preserved : goal.loop-i-preserved
loop-i-preserved c =
    let is = text_at vec_items c.args.statuses.now c.loop-i.i c.index-statuses-i.result c.loop-i-test.true c.index-statuses-i.is in
    let here = bytes_here vec_items c.args.statuses.now c.loop-i.i c.index-statuses-i.result c.loop-i-test.true c.index-statuses-i.is in
    record {
      past = omega arith;
      so_far = table_more (map vec_items c.args.statuses.now) c.loop-i.i c.loop-i.table c.add.new.self c.as_slice.result.now c.in_ok-id.id c.in_ok-add.field-0 c.loop-i.invariant.past
          (is ∙ ap Some (sym c.as_slice.ensures.value)) c.in_ok-add.ensures.fresh c.in_ok-add.ensures.added
          (c.in_ok-id.ensures ∙ (c.number_at.ensures ∙ ap (λ (text : List ℕ). if bytes_eq text (bytes_at (map vec_items c.args.statuses.now) 0) then 0 else c.loop-i.i) (here ∙ sym c.as_slice.ensures.value)))
          c.loop-i.invariant.so_far;
    }

pub returns : goal.returns
returns c = λ text. c.loop-i.invariant.so_far text ∙ ap (λ (xs : List (List ℕ)). known_among (drop 1 xs) (map vec_items c.args.statuses.now) text) (take_all c.loop-i.i (map vec_items c.args.statuses.now) (rw (length-map c.args.statuses.now vec_items) c.loop-i-test.false))
