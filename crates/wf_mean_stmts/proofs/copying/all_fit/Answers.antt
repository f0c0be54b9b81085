use Rattle.std.proofs.Common.{◌+◌, ◌<◌, ◌∙◌, sym, ap, ◌&&◌, arith, drop, length}
use Rattle.std.specs.List.{list_all}
use Rattle.wf_meaning.specs.World.{fits_store}
use Rattle.wf_mean_exprs.specs.MachineState.{span_seen, store_seen}
use Rattle.wf_mean_stmts.specs.Copies.{cells_on, elements_on}
use Rattle.wf_mean_stmts.proofs.CopyLemmas.{all_behind, all_step, element_at}
use Rattle.wf_mean_stmts.proofs.copying.all_fit.Goals as goal

pub loop-i-preserved : goal.loop-i-preserved
loop-i-preserved c =
    let nodes = c.args.t.now in
    let span = c.args.span in
    let xs = elements_on nodes c.args.stage.now span in
    let i = c.loop-i.i in
    let test = fits_store (store_seen c.args.store) in
    let below : i < length xs = omega (arith, c.loop-i-test.true, c.loop-i.invariant.end) in
    record {
      end = c.loop-i.invariant.end;
      all = c.loop-i.invariant.all
          ∙ all_step test xs i c.fits_at.result below (λ v e. c.fits_at.ensures v (element_at span.from (span_seen span).count i (cells_on nodes c.args.stage.now span.store) below ∙ e))
          ∙ ap (λ b. b && list_all test (drop (i + 1) xs)) c.if-not-fits_at.false;
    }

pub returns-then-not-fits_at : goal.returns-then-not-fits_at
returns-then-not-fits_at c =
    let nodes = c.args.t.now in
    let span = c.args.span in
    let xs = elements_on nodes c.args.stage.now span in
    let i = c.loop-i.i in
    let test = fits_store (store_seen c.args.store) in
    let below : i < length xs = omega (arith, c.loop-i-test.true, c.loop-i.invariant.end) in
    sym (c.loop-i.invariant.all
    ∙ all_step test xs i c.fits_at.result below (λ v e. c.fits_at.ensures v (element_at span.from (span_seen span).count i (cells_on nodes c.args.stage.now span.store) below ∙ e))
    ∙ ap (λ b. b && list_all test (drop (i + 1) xs)) c.if-not-fits_at.true)

pub returns : goal.returns
returns c =
    let xs = elements_on c.args.t.now c.args.stage.now c.args.span in
    sym (c.loop-i.invariant.all ∙ all_behind (fits_store (store_seen c.args.store)) xs c.loop-i.i (omega (arith, c.loop-i-test.false, c.loop-i.invariant.end)))
