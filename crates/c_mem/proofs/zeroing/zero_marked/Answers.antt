use Rattle.std.proofs.Common.{◌≡◌, ◌<◌, ◌≤◌, ◌∙◌, arith, ap, true, false, Some, length, slice_index_or}
use Rattle.std.specs.Prelude.{slice_get}
use Rattle.std.proofs.lemmas.List.{get_or_default}
use Rattle.std.proofs.lemmas.Option.{slice_get_within}
use Rattle.c_meaning.specs.CMemory.{Object}
use Rattle.c_mem.proofs.Passing.{starts, ends, passes, zeroes_one}
use Rattle.c_mem.proofs.Stored.{found_is}
use Rattle.c_mem.proofs.zeroing.zero_marked.Goals.{then-marks-at, else-marks-at}
use Rattle.c_mem.proofs.zeroing.zero_marked.Goals as goal

pub loop-at-init : goal.loop-at-init
loop-at-init c = starts c.args.first c.args.objects.now c.args.marks.now c.requires.sizes c.requires.first (slice_get_within c.args.marks.now c.args.first _ c.requires.first)

pub loop-at-preserved : goal.loop-at-preserved
loop-at-preserved c =
    let in_turn : c.loop-at.at ≤ c.loop-at.last = omega arith in
    let within : c.loop-at.at < length c.loop-at.objects = omega (arith, in_turn, c.loop-at.invariant.within) in
    let inside : c.loop-at.at < length c.loop-at.marks = omega (arith, within, c.loop-at.invariant.sizes) in
    elim c.if-marks-at.branch [
      | then-marks-at w ↦
          (let marked : slice_get c.loop-at.marks c.loop-at.at ≡ Some true = found_is c.loop-at.marks c.loop-at.at false inside ∙ ap Some w.if-marks-at.true in
          let x : Object = slice_index_or c.loop-at.objects c.loop-at.at w.index-objects-at.result in
          rw (w.objects-is, w.marks-is, w.last-is, w.zero.ensures, get_or_default c.loop-at.objects c.loop-at.at w.index-objects-at-then-marks-at.result w.index-objects-at.result within)
          (zeroes_one c.args.first c.args.objects.now c.loop-at.at c.loop-at.last c.loop-at.objects c.loop-at.marks w.mark_parts-last.new.marks w.mark_parts-last.result x
          c.loop-at.invariant in_turn marked (found_is c.loop-at.objects c.loop-at.at w.index-objects-at.result within)
          w.mark_parts-last.ensures.least w.mark_parts-last.ensures.below w.mark_parts-last.ensures.size w.mark_parts-last.ensures.marked))
      | else-marks-at w ↦
          (let unmarked : slice_get c.loop-at.marks c.loop-at.at ≡ Some false = found_is c.loop-at.marks c.loop-at.at false inside ∙ ap Some w.if-marks-at.false in
          rw (w.objects-is, w.marks-is, w.last-is) (passes c.args.first c.args.objects.now c.loop-at.at c.loop-at.last c.loop-at.objects c.loop-at.marks c.loop-at.invariant in_turn unmarked))
    ]

pub returns : goal.returns
returns c = ends c.args.first c.args.objects.now c.loop-at.at c.loop-at.last c.loop-at.objects c.loop-at.marks c.loop-at.invariant (omega arith)
