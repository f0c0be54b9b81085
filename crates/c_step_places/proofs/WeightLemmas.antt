-- Weights, one after the other.
use Rattle.std.proofs.Common.{◌≡◌, ◌<◌, ℕ, List, length, Some, sym, ◌∙◌}
use Rattle.std.specs.Prelude.{slice_get}
use Rattle.c_text.specs.CNodes.{Nodes, code_of}
use Rattle.c_meaning.specs.CStep.{code_weight}
use Rattle.c_step_places.specs.Weights.{Weighs}

pub weight_is : (nodes : Nodes) (ws : List ℕ) (s w : ℕ) → Weighs nodes ws → s < length ws → slice_get ws s ≡ Some w → w ≡ code_weight (code_of nodes s)
weight_is nodes ws s w h low is = same (sym is ∙ h s low)
  where
    same : {a b : ℕ} → Some a ≡ Some b → a ≡ b
    same e = cc e
