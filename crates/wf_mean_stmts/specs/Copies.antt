-- Elements of slices, and copies of them, where a body stands.
use Rattle.std.specs.Prelude.{◌≡◌, ⊤, ℕ, suc, Bool, true, false, List, [], ◌∷◌, Option, None, Some, slice_set}
use Rattle.wf_base.specs.BaseOps.{Buffer, elements, put, put_count}
use Rattle.wf_ast.specs.declared.typed_nodes.TypedNodes.{TypedNodes}
use Rattle.wf_ast.specs.Value.{Span, only_if}
use Rattle.wf_meaning.specs.World.{Vars, cells_at, with_cells}
use Rattle.wf_meaning.specs.SourceStep.{change_buffer, copied_to_slice}
use Rattle.wf_mean_exprs.specs.declared.values.SliceSpan.{SliceSpan}
use Rattle.wf_mean_exprs.specs.declared.values.SliceStore.{SliceStore}
use Rattle.wf_mean_exprs.specs.MachineState.{store_seen, span_seen}
use Rattle.wf_mean_stmts.specs.declared.stage.Stage.{Stage}
use Rattle.wf_mean_stmts.specs.Stages.{vars_on}

-- All elements of a store, and those of a slice.
abbrev pub cells_on : TypedNodes → Stage → SliceStore → List ℕ
cells_on nodes stage store = cells_at (vars_on nodes stage).world (store_seen store)

abbrev pub elements_on : TypedNodes → Stage → SliceSpan → List ℕ
elements_on nodes stage s = elements (span_seen s).from (span_seen s).count (cells_on nodes stage s.store)

-- Items are set, one after the other, from a place on.
abbrev pub sets : List ℕ → (at : ℕ) → List ℕ → List ℕ
sets xs at [] = xs
sets xs at (v ∷ vs) = sets (slice_set xs at v) (suc at) vs

-- The variables with these elements in place of those of a slice from its first one on.
abbrev pub with_set : SliceSpan → List ℕ → Vars → Vars
with_set to vs vars = record vars { world = with_cells (store_seen to.store) (λ xs. sets xs to.from vs) vars.world }

-- What a copy to a slice leaves, where the target takes the elements.
abbrev pub copied_if : Bool → (target source : Span) → Vars → Option Vars
copied_if fits target source vars = only_if fits (Some (copied_to_slice target source vars).1)

-- What elements come to that go to a buffer: how many are written, and the variables then; or that one is no byte.
abbrev pub PutsOut : Option ℕ → (bytes : Bool) → List ℕ → (k : ℕ) → Buffer → (old new : Vars) → Type 0
PutsOut (Some n) true xs k buffer old new = (n ≡ put_count xs buffer) × (new ≡ change_buffer k (put xs) old)
PutsOut None false xs k buffer old new = ⊤
PutsOut count bytes xs k buffer old new = ⊥
