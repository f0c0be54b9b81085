use Rattle.std.proofs.Common.{◌≡◌, [], map, drop, ap, sym, ◌∙◌}
use Rattle.c_text.specs.CNodes.{param_tree}
use Rattle.c_meaning.specs.UnitForm.{args_params, same_params}
use Rattle.c_form.proofs.ItemLemmas.{drop_all}
use Rattle.c_form.proofs.SignatureLemmas.{args_end}
use Rattle.c_form.proofs.signatures.takes_args.Goals as goal

pub returns : goal.returns
returns c =
    let none : drop c.loop-arg.arg-index c.args.args.now ≡ [] = drop_all c.args.args.now c.loop-arg.arg-index c.loop-arg-test.false in
    args_end c.args.unit.now c.args.params.now c.loop-arg.at c.loop-arg.invariant.within ∙ (ap (λ as_. same_params (args_params as_) (map (param_tree c.args.unit.now.names) (drop c.loop-arg.at c.args.params.now))) (sym none) ∙ c.loop-arg.invariant.so_far)
