-- The table of functions grows, item by item.
use Rattle.std.proofs.Common.{◌≡◌, ℕ, ◌+◌, ◌++◌, ◌∷◌, [], List, max, length, refl}
use Rattle.c_meaning.specs.CTypes.{Function}
use Rattle.c_step_run.specs.Coding.{CodeView}
use Rattle.c_step_cells.specs.declared.chains.Chains.{Chains}
use Rattle.c_step_cells.specs.Chains.{called_cells, from_host}
use Rattle.c_step_cells.specs.Growing.{AreChains}

pub chains_more : (c : CodeView) (fs : List Function) (f : Function) (old new : Chains) (params locals : ℕ) → AreChains c fs old → params ≡ length f.params → locals ≡ length f.locals
    → new.table.items ≡ old.table.items ++ (params + locals + called_cells c old.table.items (length old.table.items)) ∷ []
    → new.most ≡ max (from_host f.linkage (params + locals + called_cells c old.table.items (length old.table.items))) old.most
    → AreChains c (f ∷ fs) new
chains_more c fs f old new params locals h p l put most = record {
  table = rw (put, p, l, h.table) refl;
  most = rw (most, p, l, h.table, h.most) refl;
}
