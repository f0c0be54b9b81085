-- The table of the functions of a text, and the greatest number of cells, as they grow.
use Rattle.std.specs.Prelude.{◌≡◌, List}
use Rattle.c_meaning.specs.CTypes.{Function}
use Rattle.c_step_run.specs.Coding.{CodeView}
use Rattle.c_step_cells.specs.declared.chains.Chains.{Chains}
use Rattle.c_step_cells.specs.Chains.{table_of, frame_cells}

pub record AreChains (c : CodeView) (fs : List Function) (it : Chains) : Type 0 where
  pub table : it.table.items ≡ table_of c fs
  pub most : it.most ≡ frame_cells c fs
