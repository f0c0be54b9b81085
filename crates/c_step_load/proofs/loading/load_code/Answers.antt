use Rattle.std.proofs.Common.{length, sym, ◌∙◌, ap, subst}
use Rattle.std.specs.Prelude.{◌≡◌, ℕ, List, IfOk}
use Rattle.c_text.specs.CNodes.{Nodes, unit_tree}
use Rattle.c_meaning.specs.CCall.{program_of}
use Rattle.c_meaning.specs.UnitForm.{HasUnitForm}
use Rattle.c_step_places.specs.Weights.{WeighsAll}
use Rattle.c_step_program.specs.Programs.{code_of}
use Rattle.c_step_load.proofs.loading.load_code.Goals as goal

pub load_items-requires : goal.load_items-requires
load_items-requires c = record {
  front = c.front.ensures ∙ ap (λ (nodes : Nodes). record { nodes = nodes; count = length nodes.items }) (sym c.unit-unit.ensures);
  numbers = c.numbers.ensures ∙ sym c.unit-unit.ensures;
  weighs = subst (λ (ws : List ℕ). WeighsAll c.unit-unit.result.now ws) (sym c.as_slice.ensures.value) c.in_ok-weights.ensures;
  formed = (c.is_formed.ensures.0, subst (λ (nodes : Nodes). HasUnitForm c.is_formed.ensures.0 (unit_tree nodes)) (c.formed.ensures ∙ sym c.unit-unit.ensures) c.is_formed.ensures.1);
}

pub returns : goal.returns
returns c = subst (λ (nodes : Nodes). IfOk c.load_items.result (λ code. code ≡ code_of (program_of (unit_tree nodes)) (program_of (unit_tree nodes)).functions)) c.unit-unit.ensures c.load_items.ensures
