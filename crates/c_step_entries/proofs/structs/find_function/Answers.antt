use Rattle.std.proofs.Common.{◌++◌, ℕ, List, position, codes, bytes_eq, sym, ap, ◌∙◌}
use Rattle.c_text.specs.CNodes.{unit_tree}
use Rattle.c_meaning.specs.CTypes.{functions_of}
use Rattle.c_step_entries.proofs.structs.find_function.Goals as goal

pub returns : goal.returns
returns c =
    let spelt = c.as_slice.ensures.value ∙ c.in_ok-name.ensures in
    c.function_spelt.ensures ∙ (ap (λ (name : List ℕ). position (λ f. bytes_eq f.name name) (functions_of (unit_tree c.args.numbers.now))) spelt ∙ sym (c.requires.numbers (c.args.of.now ++ (codes "__" ++ c.args.name.now))))
