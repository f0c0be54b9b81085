use Rattle.std.proofs.Common.{ap}
use Rattle.wf_meaning.specs.World.{Vars}
use Rattle.wf_mean_stmts.proofs.copying.copy_one.Goals as goal

pub returns-then-fits_store-clause-locals : goal.returns-then-fits_store-clause-locals
returns-then-fits_store-clause-locals c = ap (λ (x : Vars). x.locals) (c.set_cell.ensures.vars c.args.t.now)
