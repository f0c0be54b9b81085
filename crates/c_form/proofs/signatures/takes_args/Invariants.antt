use Rattle.std.proofs.Common.{◌≡◌, ◌≤◌, map, drop, length}
use Rattle.c_text.specs.CNodes.{param_tree}
use Rattle.c_meaning.specs.UnitForm.{args_params, same_params}
use Rattle.c_form.proofs.signatures.takes_args.Given as goal

abbrev pub invariant-loop-arg : goal.invariant-loop-arg
invariant-loop-arg l = record {
  within : l.at ≤ length l.params;
  so_far : same_params (args_params (drop l.arg-index l.args)) (map (param_tree l.unit.names) (drop l.at l.params)) ≡ same_params (args_params l.args) (map (param_tree l.unit.names) (drop 1 l.params));
}
