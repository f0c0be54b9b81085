use Rattle.std.proofs.Common.{sym, ◌∙◌}
use Rattle.c_mem.specs.MemoryViews.{memory}
use Rattle.c_mem.proofs.Fitting.{converted_fits, place_fits}
use Rattle.c_step_run.proofs.stores.assign_to.Goals as goal

pub store-requires : goal.store-requires
store-requires c =
    place_fits (memory c.args.mem.now) c.args.p c.in-Some.ty c.in-Some.field-0-1 c.in-Some-cell_for.cell (sym c.cell.ensures ∙ c.in-Some.is)
    (converted_fits c.in-Some.ty c.args.v c.in-Some-cell_for.cell (sym c.cell_for.ensures ∙ c.in-Some-cell_for.is))
